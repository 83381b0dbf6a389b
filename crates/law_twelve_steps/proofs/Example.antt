-- The state that is written out is announced.
use Rattle.std.proofs.Common.{Some, [], arith, refl, ◌∷◌, ◌<◌, ◌^◌}
use Rattle.line_base.specs.declared.states.Quality.TheVariants as quality
use Rattle.line_base.specs.declared.states.Side.TheVariants.{Entry}
use Rattle.hermes_horizontal.specs.Canonical.{canonical}
use Rattle.hermes_horizontal.specs.declared.message.Horizontal.{Horizontal}
use Rattle.hermes_horizontal.specs.declared.message.Horizontal.TheVariants as bodies
use Rattle.hermes_horizontal.specs.declared.message.Message.{Message}
use Rattle.node_core.specs.declared.act.Act.TheVariants as acts
use Rattle.node_core.specs.Desk.{Desk}
use Rattle.node_core.specs.Node.{desk_of}
use Rattle.line_step.specs.Steps.{moment_of}
use Rattle.law_one_standing.proofs.Carrying.{SaysAlone}
use Rattle.law_one_standing.proofs.RestMore.{machine_is_text}
use Rattle.law_link_messages.specs.Fit.{AreFitActs, IsFit, IsFitDesk, IsFitRecord, more_said}
use Rattle.law_link_messages.proofs.SayingWhat.{IsFitSaid, available_fits, no_subs, sent}
use Rattle.law_twelve_steps.specs.Announced.{AreTextsOf, IsAnnounced, in_flight, more_texts, no_texts}
use Rattle.law_twelve_steps.specs.Example.{announced_line, board_offered, first_board, first_record, machine_above, machine_below, place_told}
use Rattle.law_one_standing.proofs.Mirroring.{moment_fits}
use Rattle.law_twelve_steps.proofs.Texts.{sayable_one}

-- what is said at a moment is fit
pub said_fits : (desk : Desk) (what : Horizontal) → IsFitDesk desk → IsFitSaid what → IsFit (record { stamp = Some desk.moment; body = what })
said_fits desk what d fit = first (sent desk Entry what d fit) where
  first : {message : Message} → AreFitActs (acts.Sends Entry message ∷ []) → IsFit message
  first (more_said one more) = one

above_fits : IsFitDesk (desk_of machine_above (moment_of 6))
above_fits = record { name = machine_is_text 1 (omega arith); lane = omega arith; moment = moment_fits 6 (omega arith) }

below_fits : IsFitDesk (desk_of machine_below (moment_of 5))
below_fits = record { name = machine_is_text 2 (omega arith); lane = omega arith; moment = moment_fits 5 (omega arith) }

small : first_record.id < 2 ^ 128
small = omega arith

record_fits : IsFitRecord first_record
record_fits = record { values = (small, (above_fits.name, (tt, (tt, (tt, (tt, (tt, (tt, (tt, (tt, (tt, (tt, (tt, (tt, (tt, (tt, tt)))))))))))))))); subs = no_subs; barcodes = tt }

pub offer_one : IsFit board_offered
offer_one = said_fits (desk_of machine_above (moment_of 6)) (bodies.BoardAvailable first_record) above_fits (available_fits first_record record_fits)

pub place_one : IsFit place_told
place_one = said_fits (desk_of machine_below (moment_of 5)) (bodies.MachineReady quality.Unknown) below_fits (record { name = refl; values = (tt, tt); numbers = tt; named = refl; short = tt; subs = tt; barcodes = tt })

text_of : SaysAlone → (message : Message) → IsFit message → AreTextsOf (message ∷ []) (canonical message ∷ [])
text_of alone message fit =
    let sayable = sayable_one alone message fit in
    more_texts (record { one = sayable.one; spells = sayable.spells }) no_texts

pub is_announced : SaysAlone → IsAnnounced announced_line 1 first_board
is_announced alone = record {
  stands = refl;
  exit = refl;
  entry = refl;
  outlet = refl;
  offered = refl;
  front = refl;
  intake = refl;
  ready = refl;
  board = record { message = board_offered; board = first_record; says = refl; named = refl; flies = record { texts = text_of alone board_offered offer_one; waits = refl } };
  place = in_flight {message = place_told} refl (record { texts = text_of alone place_told place_one; waits = refl });
  gap = refl;
  exit_read = refl;
  entry_read = refl;
}
