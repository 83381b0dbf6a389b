-- What a side tells as it hears messages: at the exit a start is answered at once.
use Rattle.std.proofs.Common.{◌&&◌, ◌≡◌, ◌∙◌, ◌++◌, ℕ, Bool, true, false, List, [], ◌∷◌, Option, Some, None, refl, sym, ap}
use Rattle.std.specs.List.{AllByRecursion}
use Rattle.std.specs.Prelude.{is_some, not}
use Rattle.std.proofs.lemmas.Bool.{false≢true, and_parts}
use Rattle.line_base.specs.declared.states.Role.{Role}
use Rattle.line_base.specs.declared.states.Role.TheVariants.{Upstream}
use Rattle.line_base.specs.declared.states.Side.{Side}
use Rattle.line_base.specs.declared.states.Side.TheVariants.{Entry, Exit}
use Rattle.line_base.specs.declared.states.Quality.{Quality}
use Rattle.line_base.specs.declared.states.Transfer.{Transfer}
use Rattle.line_base.specs.declared.states.Severity.TheVariants.{Fatal}
use Rattle.board_record.specs.declared.record.Record.{Record}
use Rattle.hermes_horizontal.specs.declared.kind.Kind.TheVariants as kinds
use Rattle.hermes_horizontal.specs.declared.message.Message.{Message}
use Rattle.hermes_horizontal.specs.declared.message.Horizontal.{Horizontal}
use Rattle.hermes_horizontal.specs.declared.message.Horizontal.TheVariants as bodies
use Rattle.hermes_horizontal.specs.Parts.{kind_of}
use Rattle.session_core.specs.declared.actions.Action.{Action}
use Rattle.session_core.specs.declared.actions.Action.TheVariants.{SendService, Pong, Ping, Tell, Close, Stand, Pass}
use Rattle.session_core.specs.declared.actions.Actions.{Actions}
use Rattle.session_core.specs.Breach.{unexpected}
use Rattle.session_core.specs.End.{SessionEnd, at_rest, is_standing_state}
use Rattle.session_core.specs.Handling.{handling_of}
use Rattle.session_core.specs.declared.state.SessionState.{SessionState}
use Rattle.session_core.specs.declared.state.SessionState.TheVariants.{NotConnected, Handshake, Standing}
use Rattle.session_core.specs.Input.{heard}
use Rattle.session_core.specs.Row.{SessionRow, actions_at, session_row, taken_row, traffic_row}
use Rattle.session_core.specs.Table.{IsSessionRow, stands_upstream, is_unsettled, stands_downstream, answers, is_answered, is_alive, is_notified, passes_over, passes_ready, passes_unready, passes_start, passes_stop, passes_query, passes_available, passes_revoked, passes_finished, passes_forecast, passes_info}
use Rattle.session_core.proofs.Rows.{row_is as session_row_is, not_left}
use Rattle.handover_out.specs.declared.input.OutInput.TheVariants as out_input
use Rattle.handover_out.specs.declared.act.OutAct.{OutAct}
use Rattle.handover_out.specs.declared.phase.Phase.{Phase}
use Rattle.handover_out.specs.declared.phase.Phase.TheVariants.{Idle, Moving, Stuck, Ended}
use Rattle.handover_out.specs.Row.{OutRow, outlet_row, row_if, start_row}
use Rattle.handover_out.specs.State.{OutState, held, is_id, is_idle_phase, would_open}
use Rattle.handover_out.specs.Table.{IsOutletRow, gets_ready, gets_unready, opens as row_opens, refuses as row_refuses}
use Rattle.handover_out.proofs.Rows.{row_is}
use Rattle.handover_in.specs.declared.input.InInput.TheVariants as in_input
use Rattle.handover_in.specs.Row.{InRow, intake_row}
use Rattle.node_core.specs.Desk.{Desk}
use Rattle.node_core.specs.declared.act.Act.{Act}
use Rattle.node_core.specs.declared.act.Act.TheVariants as acts
use Rattle.node_core.specs.declared.lane.Body.{Body}
use Rattle.node_core.specs.declared.word.Word.{Word}
use Rattle.node_core.specs.declared.word.Word.TheVariants.{Says, Wrong}
use Rattle.node_core.specs.declared.word.EntryWord.{EntryWord}
use Rattle.node_core.specs.declared.word.EntryWord.TheVariants as entries
use Rattle.node_core.specs.Done.{Done, done, stays, behind, and_then}
use Rattle.node_core.specs.Told.{sends, notification, out_told}
use Rattle.node_core.specs.Sides.{is_open, session_at, with_session}
use Rattle.node_core.specs.Halves.{OffersFront, behind_opening, ended, opening_board}
use Rattle.node_core.specs.Session.{action_did, actions_did, breaches, maybe_did, session_did}
use Rattle.node_core.specs.Hears.{entry_took, entry_word, exit_took, exit_word, intake_took, outlet_took, passed, rowed, taken}
use Rattle.node_core.specs.Connect.{if_open}
use Rattle.node_core.specs.Words.{all_heard, word_did}
use Rattle.node_core.proofs.Offers.{Offers, OffersOf, offers_front, offers_none, to_offers}
use Rattle.node_core.proofs.Keeping.{word_keeps}
use Rattle.node_core.proofs.Sound.{word_offers}
use Rattle.law_sentences.specs.Announced.{is_of_places}
use Rattle.law_sentences.proofs.Folds.{offered_from, ready_from}
use Rattle.law_sentences.proofs.Orderly.{AreSilent, Orderly, ends, goes_on, is_opened, is_refused, is_start, plain_orderly, is_broken, is_start_text}
use Rattle.step_rules.proofs.Linked.{Linked, is_ready_within, is_ready_without, pass_linked, word_linked}
use Rattle.law_sentences.proofs.Halves.{AreEnd, RowTells, Tells, at_intake_tells, half_closed_tells, intake_tells, outlet_tells, same_outlet, tells_behind, tells_both, tells_silent, tells_still}

-- ---- sessions

-- a session changes first
pub tells_session : (side : Side) (s : SessionEnd) (body : Body) (d : Done) → Tells (with_session side s body) d → Tells body d
tells_session Entry s body d k = record { orderly = k.orderly; offered = k.offered; ready = k.ready }
tells_session Exit s body d k = record { orderly = k.orderly; offered = k.offered; ready = k.ready }

-- a message that is neither BoardAvailable nor RevokeBoardAvailable
told_silent : (body : Body) (told : List Act) → AreSilent told → Tells body (done body told)
told_silent body told silent = tells_silent body (done body told) (same_outlet body) silent

closes_end : (side : Side) → AreEnd side (acts.Closes side ∷ [])
closes_end Entry = record { plain = refl; offered = λ o. refl; ready = λ r. refl }
closes_end Exit = record { plain = refl; offered = λ o. refl; ready = λ r. refl }

action_tells : (desk : Desk) (side : Side) (action : Action) (body : Body) → Tells body (action_did desk side action body)
action_tells desk Entry SendService body = told_silent body _ (record { plain = refl; offered = λ o. refl; ready = λ r. refl })
action_tells desk Exit SendService body = told_silent body _ (record { plain = refl; offered = λ o. refl; ready = λ r. refl })
action_tells desk Entry (Pong id) body = told_silent body _ (record { plain = refl; offered = λ o. refl; ready = λ r. refl })
action_tells desk Exit (Pong id) body = told_silent body _ (record { plain = refl; offered = λ o. refl; ready = λ r. refl })
action_tells desk Entry (Ping n) body = told_silent body _ (record { plain = refl; offered = λ o. refl; ready = λ r. refl })
action_tells desk Exit (Ping n) body = told_silent body _ (record { plain = refl; offered = λ o. refl; ready = λ r. refl })
action_tells desk Entry (Tell what) body = told_silent body _ (record { plain = refl; offered = λ o. refl; ready = λ r. refl })
action_tells desk Exit (Tell what) body = told_silent body _ (record { plain = refl; offered = λ o. refl; ready = λ r. refl })
action_tells desk side Close body = half_closed_tells desk side body (acts.Closes side ∷ []) (closes_end side)
action_tells desk side Stand body = at_intake_tells desk in_input.Stand body
action_tells desk side (Pass what) body = tells_still body

maybe_tells : (desk : Desk) (side : Side) (action : Option Action) (body : Body) → Tells body (maybe_did desk side action body)
maybe_tells desk side None body = tells_still body
maybe_tells desk side (Some action) body = action_tells desk side action body

pub actions_tell : (desk : Desk) (side : Side) (actions : Actions) (body : Body) → Tells body (actions_did desk side actions body)
actions_tell desk side actions body =
    let one = maybe_did desk side actions.first body in
    tells_both body one (λ (b : Body). and_then (maybe_did desk side actions.second b) (maybe_did desk side actions.third)) (maybe_tells desk side actions.first body)
    (tells_both one.body (maybe_did desk side actions.second one.body) (maybe_did desk side actions.third) (maybe_tells desk side actions.second one.body) (maybe_tells desk side actions.third (maybe_did desk side actions.second one.body).body))

pub session_tells : (desk : Desk) (side : Side) (found : Option SessionRow) (body : Body) → Tells body (session_did desk side found body)
session_tells desk side None body = tells_still body
session_tells desk side (Some row) body = tells_session side row.after body (session_did desk side (Some row) body) (actions_tell desk side row.actions (with_session side row.after body))

-- acts first that say that the connection ends
pub ended_tells : (desk : Desk) (side : Side) (body : Body) (told : List Act) → AreEnd side told → Tells body (behind told (ended desk side body))
ended_tells desk side body told end =
    let s = at_rest (session_at side body).role in
    tells_session side s body (behind told (ended desk side body)) (half_closed_tells desk side (with_session side s body) told end)

-- behind the text of the breach
breach_end : (desk : Desk) (side : Side) (text : List ℕ) → AreEnd side (sends desk side (notification 1 Fatal text) ++ acts.Closes side ∷ [])
breach_end desk Entry text = record { plain = refl; offered = λ o. refl; ready = λ r. refl }
breach_end desk Exit text = record { plain = refl; offered = λ o. refl; ready = λ r. refl }

-- a start that has no row comes only while no place is announced
abbrev pub IsUnannounced : Side → List ℕ → Body → Type 0
IsUnannounced Entry text body = Unit {0}
IsUnannounced Exit text body = is_start_text text ≡ true → body.outlet.ready ≡ false

pub breaches_tell : (desk : Desk) (side : Side) (text : List ℕ) (body : Body) → IsUnannounced side text body → Tells body (breaches desk side text body)
breaches_tell desk Entry text body place =
    let told = sends desk Entry (notification 1 Fatal text) ++ acts.Closes Entry ∷ [] in
    tells_behind body (acts.Breaches Entry text ∷ []) (behind told (ended desk Entry body)) (record { plain = refl; offered = λ o. refl; ready = λ r. refl }) (ended_tells desk Entry body told (breach_end desk Entry text))
breaches_tell desk Exit text body place =
    let told = sends desk Exit (notification 1 Fatal text) ++ acts.Closes Exit ∷ [] in
    let k = ended_tells desk Exit body told (breach_end desk Exit text) in
    record { orderly = is_broken place k.orderly; offered = k.offered; ready = k.ready }

-- ---- a message at the entry

hears_entry : (message : Message) → AreSilent (acts.Hears Entry message ∷ [])
hears_entry message = record { plain = refl; offered = λ o. refl; ready = λ r. refl }

-- a half that has a row tells it
data TellsAny (body : Body) (side : Side) (message : Message) : Option Done → Type 0 where
  tells_none : IsUnannounced side (unexpected (kind_of message.body)) body → TellsAny body side message None
  tells_some : {d : Done} → Tells body (behind (acts.Hears side message ∷ []) d) → TellsAny body side message (Some d)

intake_took_tells : (desk : Desk) (message : Message) (body : Body) (found : Option InRow) → TellsAny body Entry message (intake_took desk body found)
intake_took_tells desk message body None = tells_none tt
intake_took_tells desk message body (Some row) = tells_some (tells_behind body (acts.Hears Entry message ∷ []) _ (hears_entry message) (intake_tells desk body (Some row)))

entry_tells : (desk : Desk) (message : Message) (word : EntryWord) (body : Body) → TellsAny body Entry message (entry_took desk word body)
entry_tells desk message (entries.Available board) body = intake_took_tells desk message body (intake_row body.intake (in_input.BoardAvailable board))
entry_tells desk message entries.Revoked body = intake_took_tells desk message body (intake_row body.intake in_input.RevokeBoardAvailable)
entry_tells desk message (entries.Finished state id) body = intake_took_tells desk message body (intake_row body.intake (in_input.Finished state id))
entry_tells desk message entries.Nothing body = tells_some (tells_behind body (acts.Hears Entry message ∷ []) (stays body) (hears_entry message) (tells_still body))

-- ---- a message at the exit

-- that speaks of no place and asks for no start
hears_exit : (message : Message) → is_of_places message.body ≡ false → is_start message.body ≡ false → AreSilent (acts.Hears Exit message ∷ [])
hears_exit message place start = record { plain = rw start refl; offered = λ o. refl; ready = λ r. rw place refl }

others : (message : Message) (what : Horizontal) → message.body ≡ what → is_of_places what ≡ false → is_start what ≡ false → AreSilent (acts.Hears Exit message ∷ [])
others message what is place start = hears_exit message (rw is place) (rw is start)

-- the breach at another message is no breach at a start
no_start : (message : Message) (what : Horizontal) (body : Body) → message.body ≡ what → is_start_text (unexpected (kind_of what)) ≡ false → IsUnannounced Exit (unexpected (kind_of message.body)) body
no_start message what body is none text = absurd (false≢true (sym (rw is none) ∙ text))

-- what a row tells behind the hearing
row_told : (body : Body) (kept : List Record) (last : Option ℕ) (row : OutRow) (told : List Act) → RowTells body.outlet row told → Tells body (done (record body { outlet = row.after; kept = kept; last_offer = last }) told)
row_told body kept last row told t = record { orderly = plain_orderly body.outlet.offered body.outlet.ready told t.plain; offered = t.offered; ready = t.ready }

ready_row : (desk : Desk) {s : OutState} {row : OutRow} (kept : List Record) (message : Message) (quality : Quality) → message.body ≡ bodies.MachineReady quality → IsOutletRow s out_input.MachineReady row → RowTells s row (acts.Hears Exit message ∷ out_told desk kept row.act)
ready_row desk kept message quality is gets_ready = record { plain = rw is refl; offered = refl; ready = rw is refl }

unready_row : (desk : Desk) {s : OutState} {row : OutRow} (kept : List Record) (message : Message) → message.body ≡ bodies.RevokeMachineReady → IsOutletRow s out_input.RevokeMachineReady row → RowTells s row (acts.Hears Exit message ∷ out_told desk kept row.act)
unready_row desk kept message is gets_unready = record { plain = rw is refl; offered = refl; ready = rw is refl }

ready_took : (desk : Desk) (message : Message) (quality : Quality) (body : Body) (found : Option OutRow) → message.body ≡ bodies.MachineReady quality → outlet_row body.outlet out_input.MachineReady ≡ found → TellsAny body Exit message (outlet_took desk body found)
ready_took desk message quality body None says is = tells_none (no_start message (bodies.MachineReady quality) body says refl)
ready_took desk message quality body (Some row) says is = tells_some (row_told body _ _ row _ (ready_row desk body.kept message quality says (row_is body.outlet out_input.MachineReady row is)))

unready_took : (desk : Desk) (message : Message) (body : Body) (found : Option OutRow) → message.body ≡ bodies.RevokeMachineReady → outlet_row body.outlet out_input.RevokeMachineReady ≡ found → TellsAny body Exit message (outlet_took desk body found)
unready_took desk message body None says is = tells_none (no_start message bodies.RevokeMachineReady body says refl)
unready_took desk message body (Some row) says is = tells_some (row_told body _ _ row _ (unready_row desk body.kept message says (row_is body.outlet out_input.RevokeMachineReady row is)))

stop_took : (desk : Desk) (message : Message) (state : Transfer) (id : ℕ) (body : Body) (found : Option OutRow) → message.body ≡ bodies.StopTransport state id → outlet_row body.outlet (out_input.Stop state id) ≡ found → TellsAny body Exit message (outlet_took desk body found)
stop_took desk message state id body None says is = tells_none (no_start message (bodies.StopTransport state id) body says refl)
stop_took desk message state id body (Some row) says is =
    tells_some (tells_behind body (acts.Hears Exit message ∷ []) _ (others message (bodies.StopTransport state id) says refl refl) (outlet_tells desk body (out_input.Stop state id) (Some row) is tt))

-- A START: where it opens, board and place are announced, and the opening is the very next act; where it is refused, the
-- board is not that one
record StartTells (s : OutState) (row : OutRow) (told : List Act) : Type 0 where
  orderly : Orderly s.offered s.ready told
  offered : row.after.offered ≡ offered_from s.offered told
  ready : row.after.ready ≡ ready_from s.ready told

start_row_tells : (desk : Desk) {s : OutState} {row : OutRow} (opening : Bool) (kept : List Record) (message : Message) (id : ℕ) → message.body ≡ bodies.StartTransport id → Offers s.phase s.offered kept → IsOutletRow s (out_input.Start id (opening_board opening kept)) row
    → StartTells s row (acts.Hears Exit message ∷ out_told desk (behind_opening opening kept) row.act)
start_row_tells desk false kept message id says front (row_refuses apart) = record { orderly = is_refused says apart (goes_on refl ends); offered = refl; ready = refl }
start_row_tells desk true [] message id says front (row_refuses apart) = record { orderly = is_refused says apart (goes_on refl ends); offered = refl; ready = refl }
start_row_tells desk {row = row} true (b ∷ bs) message id says offers_none shape = elim shape [ ]
start_row_tells desk true (b ∷ bs) message id says offers_front (row_opens same) = record { orderly = is_opened (says ∙ ap bodies.StartTransport (sym same)) (goes_on refl ends); offered = refl; ready = refl }

-- a start has a row while a place is announced
row_no : (test : Bool) (after : OutState) (act : OutAct) → row_if test after act ≡ None → test ≡ false
row_no true after act is = cc
row_no false after act is = refl

none_front : (offered : Option ℕ) (id : ℕ) → is_id offered id ≡ true → Offers Idle offered [] → ⊥
none_front None id is front = false≢true is
none_front (Some mine) id is front = elim front [ ]

would_parts : (s : OutState) (id : ℕ) → would_open s id ≡ true → (is_idle_phase s.phase ≡ true) × (is_id s.offered id ≡ true)
would_parts s id is =
    let both = and_parts (is_idle_phase s.phase && s.ready) (is_id s.offered id) is in
    ((and_parts (is_idle_phase s.phase) s.ready both.0).0, both.1)

start_none : (opening : Bool) (phase : Phase) (s : OutState) (id : ℕ) (kept : List Record) → would_open s id ≡ opening → (opening ≡ true → (is_idle_phase phase ≡ true) × (is_id s.offered id ≡ true)) → Offers phase s.offered kept → is_ready_within phase s.ready ≡ false
    → start_row phase s id (opening_board opening kept) ≡ None → s.ready ≡ false
start_none opening (Moving board begun) s id kept opens parts front h is = h
start_none opening (Stuck board linked stopped) s id kept opens parts front h is = h
start_none opening (Ended mine) s id kept opens parts front h is = h
start_none true Idle s id [] opens parts front h is = absurd (none_front s.offered id (parts refl).1 front)
start_none true Idle s id (b ∷ bs) opens parts front h is = absurd (false≢true (sym (row_no (would_open s id) _ _ is) ∙ opens))
start_none false Idle s id kept opens parts front h is = not_left s.ready (ap (λ (b : Bool). s.ready && not b) (sym opens) ∙ row_no (s.ready && not (would_open s id)) _ _ is)

start_took_tells : (desk : Desk) (message : Message) (id : ℕ) (opening : Bool) (body : Body) (found : Option OutRow) → message.body ≡ bodies.StartTransport id → OffersOf body → Linked body → would_open body.outlet id ≡ opening
    → outlet_row body.outlet (out_input.Start id (opening_board opening body.kept)) ≡ found → TellsAny body Exit message (outlet_took desk (record body { kept = behind_opening opening body.kept }) found)
start_took_tells desk message id opening body None says front linked opens is =
    tells_none (λ text. start_none opening body.outlet.phase body.outlet id body.kept opens (λ on. would_parts body.outlet id (opens ∙ on)) front linked.idle is)
start_took_tells desk message id opening body (Some row) says front linked opens is =
    let t = start_row_tells desk opening body.kept message id says front (row_is body.outlet (out_input.Start id (opening_board opening body.kept)) row is) in
    tells_some (record { orderly = t.orderly; offered = t.offered; ready = t.ready })

nothing_took : (message : Message) (what : Horizontal) (body : Body) → message.body ≡ what → is_of_places what ≡ false → is_start what ≡ false → TellsAny body Exit message (Some (stays body))
nothing_took message what body says place start = tells_some (tells_behind body (acts.Hears Exit message ∷ []) (stays body) (others message what says place start) (tells_still body))

exit_tells : (desk : Desk) (message : Message) (what : Horizontal) (body : Body) → message.body ≡ what → OffersOf body → Linked body → TellsAny body Exit message (exit_took desk (exit_word what) body)
exit_tells desk message (bodies.MachineReady quality) body says front linked = ready_took desk message quality body (outlet_row body.outlet out_input.MachineReady) says refl
exit_tells desk message bodies.RevokeMachineReady body says front linked = unready_took desk message body (outlet_row body.outlet out_input.RevokeMachineReady) says refl
exit_tells desk message (bodies.StartTransport id) body says front linked =
    let opening = would_open body.outlet id in
    start_took_tells desk message id opening body (outlet_row body.outlet (out_input.Start id (opening_board opening body.kept))) says front linked refl refl
exit_tells desk message (bodies.StopTransport state id) body says front linked = stop_took desk message state id body (outlet_row body.outlet (out_input.Stop state id)) says refl
exit_tells desk message (bodies.QueryBoardInfo top bottom) body says front linked =
    tells_some (tells_behind body (acts.Hears Exit message ∷ []) _ (others message (bodies.QueryBoardInfo top bottom) says refl refl) (told_silent body _ (record { plain = refl; offered = λ o. refl; ready = λ r. refl })))
exit_tells desk message (bodies.CheckAlive ping id) body says front linked = nothing_took message _ body says refl refl
exit_tells desk message (bodies.ServiceDescription service) body says front linked = nothing_took message _ body says refl refl
exit_tells desk message (bodies.Notification code severity text) body says front linked = nothing_took message _ body says refl refl
exit_tells desk message (bodies.BoardAvailable board) body says front linked = nothing_took message _ body says refl refl
exit_tells desk message bodies.RevokeBoardAvailable body says front linked = nothing_took message _ body says refl refl
exit_tells desk message (bodies.TransportFinished state id) body says front linked = nothing_took message _ body says refl refl
exit_tells desk message (bodies.BoardForecast info) body says front linked = nothing_took message _ body says refl refl
exit_tells desk message (bodies.SendBoardInfo info) body says front linked = nothing_took message _ body says refl refl
exit_tells desk message (bodies.Other name) body says front linked = nothing_took message _ body says refl refl

passed_tells : (desk : Desk) (side : Side) (message : Message) (body : Body) (found : Option Done) → TellsAny body side message found → Tells body (passed desk side message body found)
passed_tells desk side message body None (tells_none place) = breaches_tell desk side (unexpected (kind_of message.body)) body place
passed_tells desk side message body (Some d) (tells_some k) = k

-- ---- the session takes a message

-- a session passes on the message that it hears, and else it hears neither of places nor of a start
abbrev is_passing : Option Action → Bool
is_passing (Some (Pass what)) = true
is_passing _ = false

data Took : Horizontal → Option Action → Type 0 where
  took_on : {what : Horizontal} → Took what (Some (Pass what))
  took_itself : {what : Horizontal} {first : Option Action} → is_passing first ≡ false → is_of_places what ≡ false → is_start what ≡ false → Took what first

row_takes : {s : SessionEnd} {what : Horizontal} {unsettled : Bool} {row : SessionRow} → IsSessionRow s (heard what unsettled) row → Took what row.actions.first
row_takes stands_upstream = took_itself refl refl refl
row_takes is_unsettled = took_itself refl refl refl
row_takes stands_downstream = took_itself refl refl refl
row_takes (answers _) = took_itself refl refl refl
row_takes (is_answered _) = took_itself refl refl refl
row_takes (is_alive _) = took_itself refl refl refl
row_takes (is_notified _) = took_itself refl refl refl
row_takes (passes_over _) = took_itself refl refl refl
row_takes passes_ready = took_on
row_takes passes_unready = took_on
row_takes passes_start = took_on
row_takes passes_stop = took_on
row_takes passes_query = took_on
row_takes passes_available = took_on
row_takes passes_revoked = took_on
row_takes passes_finished = took_on
row_takes passes_forecast = took_on
row_takes passes_info = took_on

taken_on : (what : Horizontal) (first : Option Action) (passed_on : Horizontal) → Took what first → first ≡ Some (Pass passed_on) → what ≡ passed_on
taken_on what first passed_on took_on is = cc
taken_on what first passed_on (took_itself none _ _) is = absurd (false≢true (sym none ∙ ap is_passing is))

taken_itself : (what : Horizontal) (first : Option Action) → Took what first → is_passing first ≡ false → (is_of_places what ≡ false) × (is_start what ≡ false)
taken_itself what first took_on none = absurd (false≢true (sym none))
taken_itself what first (took_itself _ place start) none = (place, start)

heard_itself : (desk : Desk) (side : Side) (message : Message) (first : Option Action) (actions : Actions) (body : Body) → Took message.body first → is_passing first ≡ false → Tells body (behind (acts.Hears side message ∷ []) (actions_did desk side actions body))
heard_itself desk Entry message first actions body took none = tells_behind body (acts.Hears Entry message ∷ []) (actions_did desk Entry actions body) (hears_entry message) (actions_tell desk Entry actions body)
heard_itself desk Exit message first actions body took none =
    let both = taken_itself message.body first took none in
    tells_behind body (acts.Hears Exit message ∷ []) (actions_did desk Exit actions body) (hears_exit message both.0 both.1) (actions_tell desk Exit actions body)

taken_tells : (desk : Desk) (side : Side) (message : Message) (first : Option Action) (actions : Actions) (body : Body) → OffersOf body → ((what : Horizontal) → first ≡ Some (Pass what) → Linked body) → Took message.body first → Tells body (taken desk side message first actions body)
taken_tells desk Entry message (Some (Pass what)) actions body front linked took = passed_tells desk Entry message body (entry_took desk (entry_word what) body) (entry_tells desk message (entry_word what) body)
taken_tells desk Exit message (Some (Pass what)) actions body front linked took = passed_tells desk Exit message body (exit_took desk (exit_word what) body) (exit_tells desk message what body (taken_on message.body (Some (Pass what)) what took refl) front (linked what refl))
taken_tells desk side message None actions body front linked took = heard_itself desk side message None actions body took refl
taken_tells desk side message (Some SendService) actions body front linked took = heard_itself desk side message (Some SendService) actions body took refl
taken_tells desk side message (Some (Pong id)) actions body front linked took = heard_itself desk side message (Some (Pong id)) actions body took refl
taken_tells desk side message (Some (Ping n)) actions body front linked took = heard_itself desk side message (Some (Ping n)) actions body took refl
taken_tells desk side message (Some (Tell what)) actions body front linked took = heard_itself desk side message (Some (Tell what)) actions body took refl
taken_tells desk side message (Some Close) actions body front linked took = heard_itself desk side message (Some Close) actions body took refl
taken_tells desk side message (Some Stand) actions body front linked took = heard_itself desk side message (Some Stand) actions body took refl

front_session : (side : Side) (s : SessionEnd) (body : Body) → OffersOf body → OffersOf (with_session side s body)
front_session Entry s body front = front
front_session Exit s body front = front

-- a start without a row in the session's table
no_start_row : (state : SessionState) (s : SessionEnd) (id : ℕ) (ready : Bool) → s.role ≡ Upstream → traffic_row state s (bodies.StartTransport id) ≡ None → is_ready_without (is_standing_state state) ready ≡ false → ready ≡ false
no_start_row NotConnected s id ready role is stands = stands
no_start_row Handshake s id ready role is stands = stands
no_start_row Standing s id ready role is stands =
    let row : taken_row s (actions_at (handling_of kinds.StartTransport Upstream) (bodies.StartTransport id)) ≡ None = ap (λ (part : Role). taken_row s (actions_at (handling_of kinds.StartTransport part) (bodies.StartTransport id))) (sym role) ∙ is in
    cc

no_session_row : (what : Horizontal) (s : SessionEnd) (unsettled ready : Bool) → s.role ≡ Upstream → session_row s (heard what unsettled) ≡ None → is_ready_without (is_standing_state s.state) ready ≡ false → is_start_text (unexpected (kind_of what)) ≡ true → ready ≡ false
no_session_row (bodies.StartTransport id) s unsettled ready role is stands text = no_start_row s.state s id ready role is stands
no_session_row (bodies.CheckAlive ping given) s unsettled ready role is stands text = absurd (false≢true text)
no_session_row (bodies.ServiceDescription service) s unsettled ready role is stands text = absurd (false≢true text)
no_session_row (bodies.Notification code severity said) s unsettled ready role is stands text = absurd (false≢true text)
no_session_row (bodies.BoardAvailable board) s unsettled ready role is stands text = absurd (false≢true text)
no_session_row bodies.RevokeBoardAvailable s unsettled ready role is stands text = absurd (false≢true text)
no_session_row (bodies.MachineReady quality) s unsettled ready role is stands text = absurd (false≢true text)
no_session_row bodies.RevokeMachineReady s unsettled ready role is stands text = absurd (false≢true text)
no_session_row (bodies.StopTransport state id) s unsettled ready role is stands text = absurd (false≢true text)
no_session_row (bodies.TransportFinished state id) s unsettled ready role is stands text = absurd (false≢true text)
no_session_row (bodies.BoardForecast info) s unsettled ready role is stands text = absurd (false≢true text)
no_session_row (bodies.QueryBoardInfo top bottom) s unsettled ready role is stands text = absurd (false≢true text)
no_session_row (bodies.SendBoardInfo info) s unsettled ready role is stands text = absurd (false≢true text)
no_session_row (bodies.Other name) s unsettled ready role is stands text = absurd (false≢true text)

-- what a side of a body needs as it hears
pub record CanHear (side : Side) (body : Body) : Type 0 where
  pub front : OffersFront body
  pub linked : Linked body
  pub role : body.exit.session.role ≡ Upstream

none_rowed : (side : Side) (message : Message) (unsettled : Bool) (body : Body) → CanHear side body → session_row (session_at side body) (heard message.body unsettled) ≡ None → IsUnannounced side (unexpected (kind_of message.body)) body
none_rowed Entry message unsettled body can is = tt
none_rowed Exit message unsettled body can is = λ text. no_session_row message.body body.exit.session unsettled body.outlet.ready can.role is can.linked.stands text

rowed_tells : (desk : Desk) (side : Side) (message : Message) (unsettled : Bool) (body : Body) (found : Option SessionRow) → CanHear side body → session_row (session_at side body) (heard message.body unsettled) ≡ found → Tells body (rowed desk side message body found)
rowed_tells desk side message unsettled body None can is = breaches_tell desk side (unexpected (kind_of message.body)) body (none_rowed side message unsettled body can is)
rowed_tells desk side message unsettled body (Some row) can is =
    let input = heard message.body unsettled in
    let took : Took message.body row.actions.first = row_takes (session_row_is (session_at side body) input row is) in
    tells_session side row.after body (rowed desk side message body (Some row))
    (taken_tells desk side message row.actions.first row.actions (with_session side row.after body) (front_session side row.after body (to_offers body can.front)) (λ what first. pass_linked side message.body unsettled body row what is first can.linked) took)

-- ---- words

-- a word that is wrong is no start
abbrev pub IsGood : Word → Type 0
IsGood (Says message) = Unit {0}
IsGood (Wrong text) = is_start_text text ≡ false

unless_start : (side : Side) (text : List ℕ) (body : Body) → is_start_text text ≡ false → IsUnannounced side text body
unless_start Entry text body none = tt
unless_start Exit text body none = λ start. absurd (false≢true (sym none ∙ start))

word_tells : (desk : Desk) (side : Side) (word : Word) (body : Body) → IsGood word → CanHear side body → Tells body (word_did desk side word body)
word_tells desk side (Says message) body good can =
    let unsettled = is_some (held body.outlet) in
    rowed_tells desk side message unsettled body (session_row (session_at side body) (heard message.body unsettled)) can refl
word_tells desk side (Wrong text) body good can = breaches_tell desk side text body (unless_start side text body good)

hears_on : (desk : Desk) (side : Side) (word : Word) (body : Body) → CanHear side body → CanHear side (word_did desk side word body).body
hears_on desk side word body can = record { front = word_offers desk side word body can.front; linked = word_linked desk side word body can.linked; role = (word_keeps 0 desk side word body).parts.exit ∙ can.role }

pub if_tells : (test : Bool) (d : Done) (body : Body) → Tells body d → Tells body (if_open test d body)
if_tells true d body k = k
if_tells false d body k = tells_still body

pub heard_tell : (desk : Desk) (side : Side) (words : List Word) (body : Body) → AllByRecursion IsGood words → CanHear side body → Tells body (all_heard desk side words body)
heard_tell desk side [] body good can = tells_still body
heard_tell desk side (word ∷ words) body good can =
    let d = word_did desk side word body in
    if_tells (is_open side body) (and_then d (all_heard desk side words)) body
    (tells_both body d (all_heard desk side words) (word_tells desk side word body good.0 can) (heard_tell desk side words d.body good.1 (hears_on desk side word body can)))
