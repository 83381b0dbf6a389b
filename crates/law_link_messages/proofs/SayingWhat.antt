-- What is sent is fit: each message that a machine says, and what rows have it tell.
use Rattle.std.proofs.Common.{Bool, List, None, Option, Some, [], arith, codes, decimal, refl, suc, zero, ℕ, ◌++◌, ◌<◌, ◌^◌, ◌∷◌, ◌≡◌, ◌≤◌}
use Rattle.std.specs.Prelude.{slice_get}
use Rattle.std.specs.List.{AllByRecursion}
use Rattle.line_base.specs.Name.{IsName}
use Rattle.line_base.specs.Text.{IsText}
use Rattle.line_base.specs.declared.states.Severity.{Severity}
use Rattle.line_base.specs.declared.states.Side.{Side}
use Rattle.line_base.specs.declared.states.Side.TheVariants.{Entry, Exit}
use Rattle.line_base.proofs.Printable.{number_is_text, plain_is_text}
use Rattle.board_record.specs.declared.record.Record.{Record}
use Rattle.hermes_horizontal.specs.Canonical.{AreWritableSubs, HasProperSubs, HasShortNumbers, HasWritableSubs, IsProperIf}
use Rattle.hermes_horizontal.specs.Parts.{inner_of, kind_of, name_of, no_info, parts}
use Rattle.hermes_horizontal.specs.Rows.{kind_named}
use Rattle.hermes_horizontal.specs.declared.kind.Kind.{Kind}
use Rattle.hermes_horizontal.specs.declared.kind.Kind.TheVariants as kinds
use Rattle.hermes_horizontal.specs.declared.message.Horizontal.{Horizontal}
use Rattle.hermes_horizontal.specs.declared.message.Horizontal.TheVariants as bodies
use Rattle.hermes_horizontal.specs.declared.message.Ping.TheVariants as pings
use Rattle.law_link_messages.specs.Framed.{HasShortName}
use Rattle.session_core.specs.Breach.{unexpected}
use Rattle.session_core.specs.declared.actions.Tell.{Tell}
use Rattle.session_core.specs.declared.actions.Tell.TheVariants.{AlreadyConnected, Shutdown, Unsettled}
use Rattle.handover_out.specs.declared.act.OutAct.{OutAct}
use Rattle.handover_out.specs.declared.act.OutDeed.{OutDeed}
use Rattle.handover_out.specs.declared.act.OutSend.{OutSend}
use Rattle.handover_out.specs.declared.act.OutSend.TheVariants as out_send
use Rattle.handover_in.specs.declared.act.InAct.{InAct}
use Rattle.handover_in.specs.declared.act.InDeed.{InDeed}
use Rattle.handover_in.specs.declared.act.InSend.{InSend}
use Rattle.handover_in.specs.declared.act.InSend.TheVariants as in_send
use Rattle.forecast_query.specs.Find.{first_match}
use Rattle.forecast_query.specs.Info.{forecast_of, info_of}
use Rattle.node_core.specs.Desk.{Desk}
use Rattle.node_core.specs.Information.{answer_to, board_at, forecasts, info_if}
use Rattle.node_core.specs.Supervising.{with_tells}
use Rattle.node_core.specs.Told.{drives, in_does, in_says, in_sends, in_told, notification, offers, out_does, out_sends, out_told, sends, service_of, tells}
use Rattle.node_core.specs.declared.act.Act.{Act}
use Rattle.node_core.specs.declared.supervising.Watch.{Watch}
use Rattle.node_core.proofs.Telling.{tells_all}
use Rattle.law_link_messages.specs.Fit.{AreFitActs, AreFitRecords, IsFitAct, IsFitDesk, IsFitIf, IsFitRecord, IsTextIf, more_kept, more_said, none_kept, none_said}
use Rattle.law_link_messages.proofs.SayingRows.{IsFitInSend, IsFitOutSend}

-- ---- messages

-- what a message says is fit, at whatever moment
pub record IsFitSaid (what : Horizontal) : Type 0 where
  pub name : IsName (name_of what)
  pub values : AllByRecursion IsProperIf (parts what)
  pub numbers : HasShortNumbers what
  pub named : kind_named (name_of what) ≡ kind_of what
  pub short : HasShortName what
  pub subs : HasWritableSubs (inner_of what)
  pub barcodes : HasProperSubs (inner_of what)

pub sent : (desk : Desk) (side : Side) (what : Horizontal) → IsFitDesk desk → IsFitSaid what → AreFitActs (sends desk side what)
sent desk side what d fit = more_said (record {
  proper = record { stamp = d.moment; name = fit.name; values = fit.values; subs = fit.barcodes };
  writable = record { numbers = fit.numbers; subs = fit.subs; named = fit.named };
  short = fit.short;
}) none_said

pub service_fits : (desk : Desk) → IsFitDesk desk → IsFitSaid (service_of desk)
service_fits desk d = record { name = refl; values = (d.name, (tt, (tt, (plain_is_text (codes "1.5") refl, tt)))); numbers = d.lane; named = refl; short = tt; subs = tt; barcodes = tt }

pub notification_fits : (number : ℕ) (severity : Severity) (text : List ℕ) → number ≤ 999_999_999 → IsText text → IsFitSaid (notification number severity text)
notification_fits number severity text short is = record { name = refl; values = (tt, (tt, (is, tt))); numbers = short; named = refl; short = tt; subs = tt; barcodes = tt }

pub tells_fit : (what : Tell) → IsFitSaid (tells what)
tells_fit AlreadyConnected = record { name = refl; values = (tt, (tt, (plain_is_text (codes "already connected") refl, tt))); numbers = omega arith; named = refl; short = tt; subs = tt; barcodes = tt }
tells_fit Unsettled = record { name = refl; values = (tt, (tt, (plain_is_text (codes "handover unsettled") refl, tt))); numbers = omega arith; named = refl; short = tt; subs = tt; barcodes = tt }
tells_fit Shutdown = record { name = refl; values = (tt, (tt, (plain_is_text (codes "shutdown") refl, tt))); numbers = omega arith; named = refl; short = tt; subs = tt; barcodes = tt }

proper_text : (id : Option (List ℕ)) → IsTextIf id → AllByRecursion IsProperIf (parts (bodies.CheckAlive (Some pings.Answer) id))
proper_text None is = (tt, (tt, tt))
proper_text (Some text) is = (tt, (is, tt))

pub pong_fits : (id : Option (List ℕ)) → IsTextIf id → IsFitSaid (bodies.CheckAlive (Some pings.Answer) id)
pong_fits id is = record { name = refl; values = proper_text id is; numbers = tt; named = refl; short = tt; subs = tt; barcodes = tt }

pub ping_fits : (number : ℕ) → number < 2 ^ 64 → IsFitSaid (bodies.CheckAlive (Some pings.Ask) (Some (decimal number)))
ping_fits number small = record { name = refl; values = (tt, (number_is_text number small, tt)); numbers = tt; named = refl; short = tt; subs = tt; barcodes = tt }

pub available_fits : (board : Record) → IsFitRecord board → IsFitSaid (bodies.BoardAvailable board)
available_fits board fit = record { name = refl; values = fit.values; numbers = tt; named = refl; short = tt; subs = fit.subs; barcodes = fit.barcodes }

-- no circuits are few ones
pub no_subs : AreWritableSubs []
no_subs = record { places = tt; list = record { few = omega arith; small = omega arith } }

pub no_info_fits : IsFitSaid (bodies.SendBoardInfo no_info)
no_info_fits = record { name = refl; values = (tt, (tt, (tt, (tt, (tt, (tt, (tt, (tt, (tt, (tt, (tt, (tt, (tt, (tt, (tt, (tt, tt)))))))))))))))); numbers = tt; named = refl; short = tt; subs = no_subs; barcodes = tt }

pub told_of_fits : (board : Record) → IsFitRecord board → IsFitSaid (bodies.SendBoardInfo (info_of board))
told_of_fits board fit = record { name = refl; values = fit.values; numbers = tt; named = refl; short = tt; subs = fit.subs; barcodes = fit.barcodes }

pub forecast_fits : (board : Record) → IsFitRecord board → IsFitSaid (bodies.BoardForecast (forecast_of board))
forecast_fits board fit =
    let words = fit.values.1.1.1.1 in
    record {
      name = refl;
      values = (tt, (tt, (tt, (tt, (words.0, (words.1.0, (words.1.1.0, (tt, (tt, (tt, (tt, (tt, (tt, (tt, (tt, (tt, tt))))))))))))))));
      numbers = tt;
      named = refl;
      short = tt;
      subs = refl;
      barcodes = tt;
    }

pub question_fits : (barcode : List ℕ) → IsText barcode → IsFitSaid (bodies.QueryBoardInfo (Some barcode) None)
question_fits barcode is = record { name = refl; values = (is, (tt, tt)); numbers = tt; named = refl; short = tt; subs = tt; barcodes = tt }

info_if_fits : (front : Option Record) → IsFitIf front → IsFitSaid (bodies.SendBoardInfo (info_if front))
info_if_fits None fit = no_info_fits
info_if_fits (Some board) fit = told_of_fits board fit

place_fits : (kept : List Record) (place : ℕ) → AreFitRecords kept → IsFitIf (slice_get kept place)
place_fits [] place none_kept = tt
place_fits (board ∷ boards) zero (more_kept one others) = one
place_fits (board ∷ boards) (suc place) (more_kept one others) = place_fits boards place others

at_fits : (kept : List Record) (found : Option ℕ) → AreFitRecords kept → IsFitIf (board_at kept found)
at_fits kept None k = tt
at_fits kept (Some place) k = place_fits kept place k

-- the answer to a question: what is told of a kept board, or of none
pub answer_fits : (kept : List Record) (top bottom : Option (List ℕ)) → AreFitRecords kept → IsFitSaid (bodies.SendBoardInfo (answer_to kept top bottom))
answer_fits kept top bottom k = info_if_fits (board_at kept (first_match kept top bottom)) (at_fits kept (first_match kept top bottom) k)

pub unexpected_is_text : (kind : Kind) → IsText (unexpected kind)
unexpected_is_text kinds.CheckAlive = plain_is_text _ refl
unexpected_is_text kinds.ServiceDescription = plain_is_text _ refl
unexpected_is_text kinds.Notification = plain_is_text _ refl
unexpected_is_text kinds.BoardAvailable = plain_is_text _ refl
unexpected_is_text kinds.RevokeBoardAvailable = plain_is_text _ refl
unexpected_is_text kinds.MachineReady = plain_is_text _ refl
unexpected_is_text kinds.RevokeMachineReady = plain_is_text _ refl
unexpected_is_text kinds.StartTransport = plain_is_text _ refl
unexpected_is_text kinds.StopTransport = plain_is_text _ refl
unexpected_is_text kinds.TransportFinished = plain_is_text _ refl
unexpected_is_text kinds.BoardForecast = plain_is_text _ refl
unexpected_is_text kinds.QueryBoardInfo = plain_is_text _ refl
unexpected_is_text kinds.SendBoardInfo = plain_is_text _ refl
unexpected_is_text kinds.Other = plain_is_text _ refl

-- ---- acts

pub both_said : {a b : List Act} → AreFitActs a → AreFitActs b → AreFitActs (a ++ b)
both_said none_said b = b
both_said (more_said one others) b = more_said one (both_said others b)

first_said : {act : Act} {others : List Act} → AreFitActs (act ∷ others) → IsFitAct act
first_said (more_said one more) = one

others_said : (act : Act) (others : List Act) → AreFitActs (act ∷ others) → AreFitActs others
others_said act others (more_said one more) = more

-- what the supervisor is told is no message of a link
pub with_tells_fit : (desk : Desk) (watch : Watch) {made : List Act}
    → AreFitActs made → AreFitActs (with_tells desk watch made)
with_tells_fit desk watch {made = made} fit =
    tells_all AreFitActs others_said (λ act told others is more. more_said (first_said is) more)
    (λ message told more. more_said tt more) none_said desk watch made fit

out_deed_fits : (deed : Option OutDeed) → AreFitActs (out_does deed)
out_deed_fits None = none_said
out_deed_fits (Some deed) = more_said tt none_said

in_deed_fits : (deed : Option InDeed) → AreFitActs (in_does deed)
in_deed_fits None = none_said
in_deed_fits (Some deed) = more_said tt none_said

drives_fit : (side : Side) (drive : Option Bool) → AreFitActs (drives side drive)
drives_fit side None = none_said
drives_fit side (Some on) = more_said tt none_said

pub front_fits : (kept : List Record) → AreFitRecords kept → IsFitIf (slice_get kept 0)
front_fits [] none_kept = tt
front_fits (board ∷ boards) (more_kept one others) = one

pub forecasts_fit : (desk : Desk) (front : Option Record) → IsFitDesk desk → IsFitIf front → AreFitActs (forecasts desk front)
forecasts_fit desk None d fit = none_said
forecasts_fit desk (Some board) d fit = sent desk Exit (bodies.BoardForecast (forecast_of board)) d (forecast_fits board fit)

offers_fit : (desk : Desk) (front : Option Record) → IsFitDesk desk → IsFitIf front → AreFitActs (offers desk front)
offers_fit desk None d fit = none_said
offers_fit desk (Some board) d fit = sent desk Exit (bodies.BoardAvailable board) d (available_fits board fit)

out_said_fits : (desk : Desk) (kept : List Record) (send : Option OutSend) → IsFitDesk desk → AreFitRecords kept → IsFitOutSend send → AreFitActs (out_sends desk kept send)
out_said_fits desk kept None d k fit = none_said
out_said_fits desk kept (Some out_send.BoardAvailable) d k fit = offers_fit desk (slice_get kept 0) d (front_fits kept k)
out_said_fits desk kept (Some out_send.RevokeBoardAvailable) d k fit = sent desk Exit bodies.RevokeBoardAvailable d (record { name = refl; values = tt; numbers = tt; named = refl; short = tt; subs = tt; barcodes = tt })
out_said_fits desk kept (Some (out_send.Finished state id)) d k fit = sent desk Exit (bodies.TransportFinished state id) d (record { name = refl; values = (tt, (fit, tt)); numbers = tt; named = refl; short = tt; subs = tt; barcodes = tt })

in_said_fits : (desk : Desk) (send : Option InSend) → IsFitDesk desk → IsFitInSend send → AreFitActs (in_sends desk send)
in_said_fits desk None d fit = none_said
in_said_fits desk (Some in_send.MachineReady) d fit = sent desk Entry (in_says in_send.MachineReady) d (record { name = refl; values = (tt, tt); numbers = tt; named = refl; short = tt; subs = tt; barcodes = tt })
in_said_fits desk (Some in_send.RevokeMachineReady) d fit = sent desk Entry (in_says in_send.RevokeMachineReady) d (record { name = refl; values = tt; numbers = tt; named = refl; short = tt; subs = tt; barcodes = tt })
in_said_fits desk (Some (in_send.Start id)) d fit = sent desk Entry (bodies.StartTransport id) d (record { name = refl; values = (fit, tt); numbers = tt; named = refl; short = tt; subs = tt; barcodes = tt })
in_said_fits desk (Some (in_send.Stop state id)) d fit = sent desk Entry (bodies.StopTransport state id) d (record { name = refl; values = (tt, (fit, tt)); numbers = tt; named = refl; short = tt; subs = tt; barcodes = tt })

pub out_told_fits : (desk : Desk) (kept : List Record) (act : OutAct) → IsFitDesk desk → AreFitRecords kept → IsFitOutSend act.send → AreFitActs (out_told desk kept act)
out_told_fits desk kept act d k fit = both_said (out_deed_fits act.deed) (both_said (out_said_fits desk kept act.send d k fit) (drives_fit Exit act.drive))

pub in_told_fits : (desk : Desk) (act : InAct) → IsFitDesk desk → IsFitInSend act.send → AreFitActs (in_told desk act)
in_told_fits desk act d fit = both_said (in_deed_fits act.deed) (both_said (in_said_fits desk act.send d fit) (drives_fit Entry act.drive))
