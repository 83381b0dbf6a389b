-- What the events of one side of a machine leave of the half at its other side.
use Rattle.std.proofs.Common.{Bool, List, None, Option, Some, [], ap, append-nil, false, refl, true, ℕ, ◌++◌, ◌∙◌, ◌∷◌, ◌≡◌}
use Rattle.std.specs.Prelude.{is_some, slice_get}
use Rattle.law_one_standing.proofs.Counting.{across}
use Rattle.line_base.specs.declared.states.Role.TheVariants.{Upstream}
use Rattle.line_base.specs.declared.states.Side.{Side}
use Rattle.line_base.specs.declared.states.Side.TheVariants.{Entry, Exit}
use Rattle.line_base.specs.declared.states.Severity.TheVariants as severity
use Rattle.line_base.specs.declared.states.SensorEvent.{SensorEvent}
use Rattle.board_record.specs.declared.record.Record.{Record}
use Rattle.hermes_horizontal.specs.declared.message.Message.{Message}
use Rattle.hermes_horizontal.specs.declared.message.Horizontal.{Horizontal}
use Rattle.hermes_horizontal.specs.Parts.{kind_of}
use Rattle.hermes_vertical.specs.declared.message.VerticalMessage.{VerticalMessage}
use Rattle.smema_bridge.specs.Levels.{BridgeLevels}
use Rattle.session_core.specs.Breach.{unexpected}
use Rattle.session_core.specs.declared.actions.Action.{Action}
use Rattle.session_core.specs.declared.actions.Action.TheVariants.{SendService, Pong, Ping, Tell, Close, Stand, Pass}
use Rattle.session_core.specs.declared.actions.Actions.{Actions}
use Rattle.session_core.specs.End.{SessionEnd, at_rest}
use Rattle.session_core.specs.Input.{Input as Given, opened, second, heard}
use Rattle.session_core.specs.Row.{SessionRow, session_row}
use Rattle.session_core.specs.Table.{IsSessionRow, stands_downstream}
use Rattle.session_core.proofs.Rows.{row_is as session_row_is}
use Rattle.handover_out.specs.declared.act.OutAct.{OutAct}
use Rattle.handover_out.specs.declared.act.OutDeed.{OutDeed}
use Rattle.handover_out.specs.declared.act.OutDeed.TheVariants as out_deed
use Rattle.handover_out.specs.declared.act.OutSend.{OutSend}
use Rattle.handover_out.specs.declared.act.OutSend.TheVariants as out_send
use Rattle.handover_out.specs.declared.input.OutInput.{OutInput}
use Rattle.handover_out.specs.declared.input.OutInput.TheVariants as out_input
use Rattle.handover_out.specs.Row.{OutRow, outlet_row}
use Rattle.handover_out.specs.State.{held, would_open}
use Rattle.handover_in.specs.declared.act.InDeed.{InDeed}
use Rattle.handover_in.specs.declared.act.InSend.{InSend}
use Rattle.handover_in.specs.declared.input.InInput.{InInput}
use Rattle.handover_in.specs.declared.input.InInput.TheVariants as in_input
use Rattle.handover_in.specs.Row.{InRow, intake_row}
use Rattle.node_core.specs.Desk.{Desk}
use Rattle.node_core.specs.declared.act.Act.{Act}
use Rattle.node_core.specs.declared.act.Act.TheVariants as acts
use Rattle.node_core.specs.declared.act.Deed.TheVariants as deeds
use Rattle.node_core.specs.declared.act.Signal.{Signal}
use Rattle.node_core.specs.declared.lane.Body.{Body}
use Rattle.node_core.specs.declared.supervising.Watch.{Watch}
use Rattle.node_core.specs.declared.word.Word.{Word}
use Rattle.node_core.specs.declared.word.Word.TheVariants.{Says, Wrong}
use Rattle.node_core.specs.declared.word.ExitWord.{ExitWord}
use Rattle.node_core.specs.declared.word.ExitWord.TheVariants as exits
use Rattle.node_core.specs.declared.word.EntryWord.{EntryWord}
use Rattle.node_core.specs.declared.word.EntryWord.TheVariants as entries
use Rattle.node_core.specs.Done.{Done, and_then, behind, done, stays}
use Rattle.node_core.specs.Sides.{is_open, session_at, with_session}
use Rattle.node_core.specs.Told.{drives, in_does, in_sends, notification, offers, out_does, out_sends, out_told, sends}
use Rattle.node_core.specs.Halves.{at_intake, at_outlet, behind_opening, ended, half_closed, intake_row_did, opening_board, outlet_row_did, settled}
use Rattle.node_core.specs.Session.{action_did, actions_did, breaches, maybe_did, session_did}
use Rattle.node_core.specs.Hears.{entry_took, entry_word, exit_took, exit_word, intake_took, outlet_took, passed, rowed, taken}
use Rattle.node_core.specs.Connect.{if_open, meets_second, notices, opens}
use Rattle.node_core.specs.Signals.{signalled}
use Rattle.node_core.specs.Supervising.{with_tells}
use Rattle.node_core.specs.Words.{all_heard, word_did}
use Rattle.node_core.specs.Reads.{reads, saw}
use Rattle.node_core.proofs.Keeping.{word_keeps}
use Rattle.node_core.proofs.Signalling.{signals_pass}
use Rattle.node_core.proofs.Telling.{tells_pass}

-- ---- the acts that reach the link and the gap at a side, and what its intake tells of a board that settles

abbrev pub reach : Side → Act → List Act
reach Entry (acts.Sends Entry message) = acts.Sends Entry message ∷ []
reach Exit (acts.Sends Exit message) = acts.Sends Exit message ∷ []
reach Entry (acts.Closes Entry) = acts.Closes Entry ∷ []
reach Exit (acts.Closes Exit) = acts.Closes Exit ∷ []
reach Entry (acts.Notices Entry) = acts.Notices Entry ∷ []
reach Exit (acts.Notices Exit) = acts.Notices Exit ∷ []
reach Entry (acts.Drive Entry on) = acts.Drive Entry on ∷ []
reach Exit (acts.Drive Exit on) = acts.Drive Exit on ∷ []
reach Entry (acts.Deed (deeds.Settles id)) = acts.Deed (deeds.Settles id) ∷ []
reach _ _ = []

abbrev pub reaches : Side → List Act → List Act
reaches side [] = []
reaches side (act ∷ others) = reach side act ++ reaches side others

append_more : {A : Type 0} (a b c : List A) → a ++ (b ++ c) ≡ (a ++ b) ++ c
append_more [] b c = refl
append_more (x ∷ a) b c = ap (λ xs. x ∷ xs) (append_more a b c)

pub reaches_append : (side : Side) (a b : List Act) → reaches side (a ++ b) ≡ reaches side a ++ reaches side b
reaches_append side [] b = refl
reaches_append side (act ∷ a) b = ap (λ xs. reach side act ++ xs) (reaches_append side a b) ∙ append_more (reach side act) (reaches side a) (reaches side b)

-- a bridge's own signals reach neither
signal_silent : (side : Side) (signal : Signal) (on : Bool) → reaches side (acts.Signals signal on ∷ []) ≡ []
signal_silent Entry signal on = refl
signal_silent Exit signal on = refl

pub signals_reach : (side : Side) (made : List Act) (bridge : Option BridgeLevels) (body : Body) → reaches side (made ++ signalled bridge body) ≡ reaches side made
signals_reach side made bridge body =
    signals_pass (λ (told : List Act). reaches side told)
    (λ front signal on. reaches_append side front (acts.Signals signal on ∷ []) ∙ ap (λ (rest : List Act). reaches side front ++ rest) (signal_silent side signal on) ∙ append-nil (reaches side front))
    made bridge body

-- nor does what the supervisor is told
tell_silent : (side : Side) (message : VerticalMessage) → reach side (acts.Tells message) ≡ []
tell_silent Entry message = refl
tell_silent Exit message = refl

pub tells_reach : (side : Side) (desk : Desk) (watch : Watch) (made : List Act)
    → reaches side (with_tells desk watch made) ≡ reaches side made
tells_reach side desk watch made =
    tells_pass (λ (told : List Act). reaches side told)
    (λ act told plain same. ap (λ (rest : List Act). reach side act ++ rest) same)
    (λ message told. ap (λ (first : List Act). first ++ reaches side told) (tell_silent side message))
    desk watch made

pub none_reach : (side : Side) (a b : List Act) → reaches side a ≡ [] → reaches side b ≡ [] → reaches side (a ++ b) ≡ []
none_reach side a b first last = reaches_append side a b ∙ ap (λ xs. xs ++ reaches side b) first ∙ last

-- ---- the half at the other side

-- the first of the kept records
pub record IsFirst (r : Record) (kept : List Record) : Type 0 where
  pub others : List Record
  pub is : kept ≡ r ∷ others

pub record SameUpper (body after : Body) : Type 0 where
  pub outlet : after.outlet ≡ body.outlet
  pub exit : after.exit ≡ body.exit
  pub front : (r : Record) → IsFirst r body.kept → IsFirst r after.kept

pub record SameLower (body after : Body) : Type 0 where
  pub intake : after.intake ≡ body.intake
  pub entry : after.entry ≡ body.entry

-- what an event of this side leaves
abbrev pub SameHalf : Side → Body → Body → Type 0
SameHalf Entry body after = SameUpper body after
SameHalf Exit body after = SameLower body after

pub record Leaves (side : Side) (body : Body) (d : Done) : Type 0 where
  pub half : SameHalf side body d.body
  pub silent : reaches (across side) d.acts ≡ []

pub same_half : (side : Side) (body : Body) → SameHalf side body body
same_half Entry body = record { outlet = refl; exit = refl; front = λ r first. first }
same_half Exit body = record { intake = refl; entry = refl }

pub half_then : (side : Side) (one two three : Body) → SameHalf side one two → SameHalf side two three → SameHalf side one three
half_then Entry one two three a b = record { outlet = b.outlet ∙ a.outlet; exit = b.exit ∙ a.exit; front = λ r first. b.front r (a.front r first) }
half_then Exit one two three a b = record { intake = b.intake ∙ a.intake; entry = b.entry ∙ a.entry }

pub leaves_still : (side : Side) (body : Body) → Leaves side body (stays body)
leaves_still side body = record { half = same_half side body; silent = refl }

pub leaves_told : (side : Side) (body : Body) (told : List Act) → reaches (across side) told ≡ [] → Leaves side body (done body told)
leaves_told side body told silent = record { half = same_half side body; silent = silent }

pub leaves_behind : (side : Side) (body : Body) (told : List Act) (d : Done) → reaches (across side) told ≡ [] → Leaves side body d → Leaves side body (behind told d)
leaves_behind side body told d silent l = record { half = l.half; silent = none_reach (across side) told d.acts silent l.silent }

pub leaves_both : (side : Side) (body : Body) (first : Done) (next : Body → Done) → Leaves side body first → Leaves side first.body (next first.body) → Leaves side body (and_then first next)
leaves_both side body first next a b = record { half = half_then side body first.body (next first.body).body a.half b.half; silent = none_reach (across side) first.acts (next first.body).acts a.silent b.silent }

-- a session of this side changes first
session_half : (side : Side) (s : SessionEnd) (body : Body) → SameHalf side body (with_session side s body)
session_half Entry s body = record { outlet = refl; exit = refl; front = λ r first. first }
session_half Exit s body = record { intake = refl; entry = refl }

pub leaves_session : (side : Side) (s : SessionEnd) (body : Body) (d : Done) → Leaves side (with_session side s body) d → Leaves side body d
leaves_session side s body d l = record { half = half_then side body (with_session side s body) d.body (session_half side s body) l.half; silent = l.silent }

-- ---- the halves

in_silent : (desk : Desk) (deed : Option InDeed) (send : Option InSend) (drive : Option Bool) → reaches Exit (in_does deed ++ (in_sends desk send ++ drives Entry drive)) ≡ []
in_silent desk None None None = refl
in_silent desk None None (Some on) = refl
in_silent desk None (Some send) None = refl
in_silent desk None (Some send) (Some on) = refl
in_silent desk (Some deed) None None = refl
in_silent desk (Some deed) None (Some on) = refl
in_silent desk (Some deed) (Some send) None = refl
in_silent desk (Some deed) (Some send) (Some on) = refl

settled_front : (r : Record) (board : Option Record) (kept : List Record) → IsFirst r kept → IsFirst r (settled board kept)
settled_front r None kept first = first
settled_front r (Some board) kept first = record { others = first.others ++ board ∷ []; is = ap (λ (ks : List Record). ks ++ board ∷ []) first.is }

intake_row_leaves : (desk : Desk) (body : Body) (found : Option InRow) → Leaves Entry body (intake_row_did desk body found)
intake_row_leaves desk body None = leaves_still Entry body
intake_row_leaves desk body (Some row) = record { half = record { outlet = refl; exit = refl; front = λ r first. settled_front r row.act.keep body.kept first }; silent = in_silent desk row.act.deed row.act.send row.act.drive }

pub at_intake_leaves : (desk : Desk) (input : InInput) (body : Body) → Leaves Entry body (at_intake desk input body)
at_intake_leaves desk input body = intake_row_leaves desk body (intake_row body.intake input)

deed_silent : (deed : Option OutDeed) → reaches Entry (out_does deed) ≡ []
deed_silent None = refl
deed_silent (Some (out_deed.Opens id)) = refl
deed_silent (Some (out_deed.Refuses id)) = refl
deed_silent (Some (out_deed.Leaves id)) = refl
deed_silent (Some (out_deed.Returns id)) = refl
deed_silent (Some (out_deed.Loses id)) = refl

offers_silent : (desk : Desk) (front : Option Record) → reaches Entry (offers desk front) ≡ []
offers_silent desk None = refl
offers_silent desk (Some board) = refl

sends_silent : (desk : Desk) (kept : List Record) (send : Option OutSend) → reaches Entry (out_sends desk kept send) ≡ []
sends_silent desk kept None = refl
sends_silent desk kept (Some out_send.BoardAvailable) = offers_silent desk (slice_get kept 0)
sends_silent desk kept (Some out_send.RevokeBoardAvailable) = refl
sends_silent desk kept (Some (out_send.Finished state id)) = refl

drives_silent : (drive : Option Bool) → reaches Entry (drives Exit drive) ≡ []
drives_silent None = refl
drives_silent (Some on) = refl

pub out_silent : (desk : Desk) (kept : List Record) (act : OutAct) → reaches Entry (out_told desk kept act) ≡ []
out_silent desk kept act =
    none_reach Entry (out_does act.deed) (out_sends desk kept act.send ++ drives Exit act.drive) (deed_silent act.deed)
    (none_reach Entry (out_sends desk kept act.send) (drives Exit act.drive) (sends_silent desk kept act.send) (drives_silent act.drive))

outlet_row_leaves : (desk : Desk) (body : Body) (found : Option OutRow) → Leaves Exit body (outlet_row_did desk body found)
outlet_row_leaves desk body None = leaves_still Exit body
outlet_row_leaves desk body (Some row) = record { half = record { intake = refl; entry = refl }; silent = out_silent desk body.kept row.act }

pub at_outlet_leaves : (desk : Desk) (input : OutInput) (body : Body) → Leaves Exit body (at_outlet desk input body)
at_outlet_leaves desk input body = outlet_row_leaves desk body (outlet_row body.outlet input)

half_closed_leaves : (desk : Desk) (side : Side) (body : Body) → Leaves side body (half_closed desk side body)
half_closed_leaves desk Entry body = at_intake_leaves desk in_input.Closed body
half_closed_leaves desk Exit body = at_outlet_leaves desk out_input.Closed body

pub ended_leaves : (desk : Desk) (side : Side) (body : Body) → Leaves side body (ended desk side body)
ended_leaves desk side body = leaves_session side (at_rest (session_at side body).role) body (ended desk side body) (half_closed_leaves desk side (with_session side (at_rest (session_at side body).role) body))

-- ---- acts of a side reach nothing at the other

send_silent : (desk : Desk) (side : Side) (what : Horizontal) → reaches (across side) (sends desk side what) ≡ []
send_silent desk Entry what = refl
send_silent desk Exit what = refl

close_silent : (side : Side) → reaches (across side) (acts.Closes side ∷ []) ≡ []
close_silent Entry = refl
close_silent Exit = refl

notice_silent : (side : Side) → reaches (across side) (acts.Notices side ∷ []) ≡ []
notice_silent Entry = refl
notice_silent Exit = refl

hear_silent : (side : Side) (message : Message) → reaches (across side) (acts.Hears side message ∷ []) ≡ []
hear_silent Entry message = refl
hear_silent Exit message = refl

breach_silent : (desk : Desk) (side : Side) (text : List ℕ) → reaches (across side) (acts.Breaches side text ∷ (sends desk side (notification 1 severity.Fatal text) ++ acts.Closes side ∷ [])) ≡ []
breach_silent desk Entry text = refl
breach_silent desk Exit text = refl

pub breaches_leave : (desk : Desk) (side : Side) (text : List ℕ) (body : Body) → Leaves side body (breaches desk side text body)
breaches_leave desk side text body = leaves_behind side body (acts.Breaches side text ∷ (sends desk side (notification 1 severity.Fatal text) ++ acts.Closes side ∷ [])) (ended desk side body) (breach_silent desk side text) (ended_leaves desk side body)

-- ---- sessions. An exit never stands as an entry does

abbrev pub HasRole : Side → Body → Type 0
HasRole Entry body = Unit {0}
HasRole Exit body = body.exit.session.role ≡ Upstream

-- an exit has no intake to tell that the session stands
abbrev MayDo : Side → Action → Type 0
MayDo Exit Stand = ⊥
MayDo _ _ = Unit {0}

abbrev MayDoIf : Side → Option Action → Type 0
MayDoIf side None = Unit {0}
MayDoIf side (Some action) = MayDo side action

record MayDoAll (side : Side) (actions : Actions) : Type 0 where
  pub first : MayDoIf side actions.first
  pub second : MayDoIf side actions.second
  pub third : MayDoIf side actions.third

action_leaves : (desk : Desk) (side : Side) (action : Action) (body : Body) → MayDo side action → Leaves side body (action_did desk side action body)
action_leaves desk side SendService body may = leaves_told side body _ (send_silent desk side _)
action_leaves desk side (Pong id) body may = leaves_told side body _ (send_silent desk side _)
action_leaves desk side (Ping n) body may = leaves_told side body _ (send_silent desk side _)
action_leaves desk side (Tell what) body may = leaves_told side body _ (send_silent desk side _)
action_leaves desk side Close body may = leaves_behind side body (acts.Closes side ∷ []) (half_closed desk side body) (close_silent side) (half_closed_leaves desk side body)
action_leaves desk Entry Stand body may = at_intake_leaves desk in_input.Stand body
action_leaves desk Exit Stand body may = absurd may
action_leaves desk side (Pass what) body may = leaves_still side body

maybe_leaves : (desk : Desk) (side : Side) (action : Option Action) (body : Body) → MayDoIf side action → Leaves side body (maybe_did desk side action body)
maybe_leaves desk side None body may = leaves_still side body
maybe_leaves desk side (Some action) body may = action_leaves desk side action body may

actions_leave : (desk : Desk) (side : Side) (actions : Actions) (body : Body) → MayDoAll side actions → Leaves side body (actions_did desk side actions body)
actions_leave desk side actions body may =
    let one = maybe_did desk side actions.first body in
    leaves_both side body one (λ (b : Body). and_then (maybe_did desk side actions.second b) (maybe_did desk side actions.third)) (maybe_leaves desk side actions.first body may.first)
    (leaves_both side one.body (maybe_did desk side actions.second one.body) (maybe_did desk side actions.third) (maybe_leaves desk side actions.second one.body may.second) (maybe_leaves desk side actions.third (maybe_did desk side actions.second one.body).body may.third))

exit_may : {s : SessionEnd} {input : Given} {row : SessionRow} → IsSessionRow s input row → s.role ≡ Upstream → MayDoAll Exit row.actions
exit_may stands_downstream role = cc
exit_may _ role = record { first = tt; second = tt; third = tt }

entry_if : (action : Option Action) → MayDoIf Entry action
entry_if None = tt
entry_if (Some action) = tt

row_may : (side : Side) (input : Given) (body : Body) (row : SessionRow) → session_row (session_at side body) input ≡ Some row → HasRole side body → MayDoAll side row.actions
row_may Entry input body row is role = record { first = entry_if row.actions.first; second = entry_if row.actions.second; third = entry_if row.actions.third }
row_may Exit input body row is role = exit_may (session_row_is (session_at Exit body) input row is) role

pub session_leaves : (desk : Desk) (side : Side) (input : Given) (body : Body) (found : Option SessionRow) → session_row (session_at side body) input ≡ found → HasRole side body → Leaves side body (session_did desk side found body)
session_leaves desk side input body None is role = leaves_still side body
session_leaves desk side input body (Some row) is role = leaves_session side row.after body (session_did desk side (Some row) body) (actions_leave desk side row.actions (with_session side row.after body) (row_may side input body row is role))

-- ---- messages

data LeavesAny (side : Side) (body : Body) : Option Done → Type 0 where
  leaves_none : LeavesAny side body None
  leaves_some : {d : Done} → Leaves side body d → LeavesAny side body (Some d)

outlet_took_leaves : (desk : Desk) (body : Body) (found : Option OutRow) → LeavesAny Exit body (outlet_took desk body found)
outlet_took_leaves desk body None = leaves_none
outlet_took_leaves desk body (Some row) = leaves_some (outlet_row_leaves desk body (Some row))

start_took_leaves : (desk : Desk) (body : Body) (kept : List Record) (found : Option OutRow) → LeavesAny Exit body (outlet_took desk (record body { kept = kept }) found)
start_took_leaves desk body kept None = leaves_none
start_took_leaves desk body kept (Some row) = leaves_some (record { half = record { intake = refl; entry = refl }; silent = out_silent desk kept row.act })

exit_leaves : (desk : Desk) (word : ExitWord) (body : Body) → LeavesAny Exit body (exit_took desk word body)
exit_leaves desk exits.Ready body = outlet_took_leaves desk body (outlet_row body.outlet out_input.MachineReady)
exit_leaves desk exits.Unready body = outlet_took_leaves desk body (outlet_row body.outlet out_input.RevokeMachineReady)
exit_leaves desk (exits.Start id) body = start_took_leaves desk body (behind_opening (would_open body.outlet id) body.kept) (outlet_row body.outlet (out_input.Start id (opening_board (would_open body.outlet id) body.kept)))
exit_leaves desk (exits.Stop state id) body = outlet_took_leaves desk body (outlet_row body.outlet (out_input.Stop state id))
exit_leaves desk (exits.Query top bottom) body = leaves_some (leaves_told Exit body _ refl)
exit_leaves desk exits.Nothing body = leaves_some (leaves_still Exit body)

intake_took_leaves : (desk : Desk) (body : Body) (found : Option InRow) → LeavesAny Entry body (intake_took desk body found)
intake_took_leaves desk body None = leaves_none
intake_took_leaves desk body (Some row) = leaves_some (intake_row_leaves desk body (Some row))

entry_leaves : (desk : Desk) (word : EntryWord) (body : Body) → LeavesAny Entry body (entry_took desk word body)
entry_leaves desk (entries.Available board) body = intake_took_leaves desk body (intake_row body.intake (in_input.BoardAvailable board))
entry_leaves desk entries.Revoked body = intake_took_leaves desk body (intake_row body.intake in_input.RevokeBoardAvailable)
entry_leaves desk (entries.Finished state id) body = intake_took_leaves desk body (intake_row body.intake (in_input.Finished state id))
entry_leaves desk entries.Nothing body = leaves_some (leaves_still Entry body)

passed_leaves : (desk : Desk) (side : Side) (message : Message) (body : Body) (found : Option Done) → LeavesAny side body found → Leaves side body (passed desk side message body found)
passed_leaves desk side message body None l = breaches_leave desk side (unexpected (kind_of message.body)) body
passed_leaves desk side message body (Some d) (leaves_some l) = leaves_behind side body (acts.Hears side message ∷ []) d (hear_silent side message) l

taken_by_session : (desk : Desk) (side : Side) (message : Message) (actions : Actions) (body : Body) → MayDoAll side actions → Leaves side body (behind (acts.Hears side message ∷ []) (actions_did desk side actions body))
taken_by_session desk side message actions body may = leaves_behind side body (acts.Hears side message ∷ []) (actions_did desk side actions body) (hear_silent side message) (actions_leave desk side actions body may)

taken_leaves : (desk : Desk) (side : Side) (message : Message) (first : Option Action) (actions : Actions) (body : Body) → MayDoAll side actions → Leaves side body (taken desk side message first actions body)
taken_leaves desk Entry message (Some (Pass what)) actions body may = passed_leaves desk Entry message body (entry_took desk (entry_word what) body) (entry_leaves desk (entry_word what) body)
taken_leaves desk Exit message (Some (Pass what)) actions body may = passed_leaves desk Exit message body (exit_took desk (exit_word what) body) (exit_leaves desk (exit_word what) body)
taken_leaves desk side message None actions body may = taken_by_session desk side message actions body may
taken_leaves desk side message (Some SendService) actions body may = taken_by_session desk side message actions body may
taken_leaves desk side message (Some (Pong _)) actions body may = taken_by_session desk side message actions body may
taken_leaves desk side message (Some (Ping _)) actions body may = taken_by_session desk side message actions body may
taken_leaves desk side message (Some (Tell _)) actions body may = taken_by_session desk side message actions body may
taken_leaves desk side message (Some Close) actions body may = taken_by_session desk side message actions body may
taken_leaves desk side message (Some Stand) actions body may = taken_by_session desk side message actions body may

rowed_leaves : (desk : Desk) (side : Side) (message : Message) (input : Given) (body : Body) (found : Option SessionRow) → session_row (session_at side body) input ≡ found → HasRole side body → Leaves side body (rowed desk side message body found)
rowed_leaves desk side message input body None is role = breaches_leave desk side (unexpected (kind_of message.body)) body
rowed_leaves desk side message input body (Some row) is role = leaves_session side row.after body (rowed desk side message body (Some row)) (taken_leaves desk side message row.actions.first row.actions (with_session side row.after body) (row_may side input body row is role))

word_leaves : (desk : Desk) (side : Side) (word : Word) (body : Body) → HasRole side body → Leaves side body (word_did desk side word body)
word_leaves desk side (Says message) body role = rowed_leaves desk side message (heard message.body (is_some (held body.outlet))) body (session_row (session_at side body) (heard message.body (is_some (held body.outlet)))) refl role
word_leaves desk side (Wrong text) body role = breaches_leave desk side text body

pub if_leaves : (side : Side) (test : Bool) (d : Done) (body : Body) → Leaves side body d → Leaves side body (if_open test d body)
if_leaves side true d body l = l
if_leaves side false d body l = leaves_still side body

word_role : (desk : Desk) (side : Side) (word : Word) (body : Body) → HasRole side body → HasRole side (word_did desk side word body).body
word_role desk Entry word body role = tt
word_role desk Exit word body role = (word_keeps 0 desk Exit word body).parts.exit ∙ role

pub heard_leaves : (desk : Desk) (side : Side) (words : List Word) (body : Body) → HasRole side body → Leaves side body (all_heard desk side words body)
heard_leaves desk side [] body role = leaves_still side body
heard_leaves desk side (word ∷ words) body role =
    let d = word_did desk side word body in
    if_leaves side (is_open side body) (and_then d (all_heard desk side words)) body (leaves_both side body d (all_heard desk side words) (word_leaves desk side word body role) (heard_leaves desk side words d.body (word_role desk side word body role)))

-- ---- sensor events, connections and closes

pub saw_leaves : (desk : Desk) (side : Side) (event : SensorEvent) (body : Body) → Leaves side body (saw desk side event body)
saw_leaves desk Entry event body = at_intake_leaves desk (in_input.Sensed event) body
saw_leaves desk Exit event body = at_outlet_leaves desk (out_input.Sensed event) body

read_silent : (side : Side) (event : SensorEvent) → reaches (across side) (acts.Reads side event ∷ []) ≡ []
read_silent Entry event = refl
read_silent Exit event = refl

pub reads_leave : (desk : Desk) (side : Side) (event : SensorEvent) (body : Body) → Leaves side body (reads desk (record { side = side; event = event }) body)
reads_leave desk side event body = leaves_behind side body (acts.Reads side event ∷ []) (saw desk side event body) (read_silent side event) (saw_leaves desk side event body)

pub opens_leave : (desk : Desk) (side : Side) (body : Body) → HasRole side body → Leaves side body (opens desk side body)
opens_leave desk side body role = session_leaves desk side opened body (session_row (session_at side body) opened) refl role

pub second_leaves : (desk : Desk) (body : Body) → HasRole Exit body → Leaves Exit body (meets_second desk body)
second_leaves desk body role = session_leaves desk Exit second body (session_row (session_at Exit body) second) refl role

pub notices_leave : (desk : Desk) (side : Side) (body : Body) → Leaves side body (notices desk side body)
notices_leave desk side body = if_leaves side (is_open side body) (behind (acts.Notices side ∷ []) (ended desk side body)) body (leaves_behind side body (acts.Notices side ∷ []) (ended desk side body) (notice_silent side) (ended_leaves desk side body))
