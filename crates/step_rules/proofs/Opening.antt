-- A side has a connection after a step exactly where its acts say so. One lemma for each definition of a micro event, in
-- the order of the definitions.
use Rattle.std.proofs.Common.{◌≡◌, ◌∙◌, ◌++◌, ℕ, ℤ, Bool, true, false, List, [], ◌∷◌, Option, Some, None, Result, Ok, Err, refl, sym, ap}
use Rattle.std.specs.Prelude.{is_some}
use Rattle.line_base.specs.declared.states.Side.{Side}
use Rattle.line_base.specs.declared.states.Side.TheVariants.{Entry, Exit}
use Rattle.line_base.specs.declared.states.Role.{Role}
use Rattle.line_base.specs.declared.states.Role.TheVariants.{Upstream, Downstream}
use Rattle.line_base.specs.declared.states.Severity.TheVariants.{Fatal}
use Rattle.board_record.specs.declared.sensed.Sensed.{Sensed as Seen}
use Rattle.board_record.specs.Record.{plain_record}
use Rattle.board_record.specs.Maker.{Maker, next_id}
use Rattle.board_record.specs.declared.maker.IdsUsedUp.{IdsUsedUp}
use Rattle.hermes_horizontal.specs.declared.message.Message.{Message}
use Rattle.hermes_horizontal.specs.declared.message.Horizontal.{Horizontal}
use Rattle.hermes_horizontal.specs.Parts.{kind_of}
use Rattle.session_core.specs.declared.state.SessionState.{SessionState}
use Rattle.session_core.specs.declared.state.SessionState.TheVariants.{NotConnected, Handshake, Standing}
use Rattle.session_core.specs.declared.actions.Action.{Action}
use Rattle.session_core.specs.declared.actions.Action.TheVariants.{SendService, Pong, Ping, Tell, Close, Stand, Pass}
use Rattle.session_core.specs.declared.actions.Actions.{Actions}
use Rattle.session_core.specs.Breach.{unexpected}
use Rattle.session_core.specs.End.{SessionEnd, at_rest, in_state, is_connected_state}
use Rattle.session_core.specs.Input.{Input as Given, opened, second, heard, tick, shutdown, closed}
use Rattle.session_core.specs.Row.{SessionRow, session_row, opened_row, opening_actions}
use Rattle.session_core.specs.Table.{IsSessionRow, opens_downstream, opens_upstream, is_unsettled, gives_up_handshake, gives_up_standing, shuts_down as row_shuts_down, is_closed}
use Rattle.session_core.proofs.Rows.{row_is}
use Rattle.handover_out.specs.declared.input.OutInput.TheVariants as out_input
use Rattle.handover_out.specs.Row.{OutRow, outlet_row}
use Rattle.handover_out.specs.State.{held, would_open}
use Rattle.handover_in.specs.declared.input.InInput.TheVariants as in_input
use Rattle.handover_in.specs.Row.{InRow, intake_row}
use Rattle.node_core.specs.Desk.{Desk}
use Rattle.node_core.specs.declared.act.Act.{Act}
use Rattle.node_core.specs.declared.act.Act.TheVariants as acts
use Rattle.node_core.specs.declared.input.Input.{Input}
use Rattle.node_core.specs.declared.input.Input.TheVariants as inputs
use Rattle.node_core.specs.declared.lane.Body.{Body}
use Rattle.node_core.specs.declared.word.Word.{Word}
use Rattle.node_core.specs.declared.word.Word.TheVariants.{Says, Wrong}
use Rattle.node_core.specs.declared.word.ExitWord.{ExitWord}
use Rattle.node_core.specs.declared.word.ExitWord.TheVariants as exits
use Rattle.node_core.specs.declared.word.EntryWord.{EntryWord}
use Rattle.node_core.specs.declared.word.EntryWord.TheVariants as entries
use Rattle.node_core.specs.Done.{Done, done, stays, behind, and_then}
use Rattle.node_core.specs.Told.{sends, notification}
use Rattle.node_core.specs.Sides.{session_at, with_session, is_open}
use Rattle.node_core.specs.Halves.{ended, opening_board, behind_opening}
use Rattle.node_core.specs.Session.{action_did, maybe_did, actions_did, session_did, breaches}
use Rattle.node_core.specs.Hears.{hears, rowed, taken, passed, exit_took, entry_took, outlet_took, intake_took, exit_word, entry_word}
use Rattle.node_core.specs.Words.{word_did, all_heard}
use Rattle.node_core.specs.Connect.{if_open, opens, meets_second, notices, ticks, shuts_down, both_tick, both_shut_down}
use Rattle.node_core.specs.Boards.{is_kept, without, with_instead, with_mark, faults, wills, with_sub, takes_sub}
use Rattle.node_core.specs.Reads.{all_read}
use Rattle.node_core.specs.Announces.{announces}
use Rattle.node_core.specs.Event.{Event, Nothing, Connect, Accepted, Second, Words, Notice, Tick, Shutdown, Fault, Will, Level, Insert, Remove, Replace, Mark, Sub, Forecast, Query, Supervised, Gives, Gets, event_of, event_did, with_new}
use Rattle.node_core.specs.Node.{NodeState, desk_of}
use Rattle.node_core.specs.Step.{Steps, machine_step, plain_step}
use Rattle.node_core.specs.Supervising.{supervises, watch_of}
use Rattle.node_core.specs.Bridge.{sets_level}
use Rattle.node_core.specs.Information.{forecasts_front, asks_for}
use Rattle.step_rules.specs.Opened.{closed_at, open_after, opened_by}
use Rattle.step_rules.proofs.Quiet.{IsQuiet, Leaves, open_append, open_signalled, open_with_tells, leaves_still, leaves_told, half_closed_leaves, at_intake_leaves, outlet_leaves, intake_leaves, all_read_leaves, announces_leave, kept_leaves, if_kept_leaves, faults_leave, wills_leave, levels_leave, forecasts_leave, asks_leave, supervises_leaves}

-- ---- what follows its acts

pub record Follows (at : Side) (body : Body) (d : Done) : Type 0 where
  pub by_acts : is_open at d.body ≡ open_after at (is_open at body) d.acts

pub left : (at : Side) (body : Body) (d : Done) → Leaves at body d → Follows at body d
left at body d k = record { by_acts = k.same ∙ sym (k.quiet (is_open at body)) }

pub follows_still : (at : Side) (body : Body) → Follows at body (stays body)
follows_still at body = record { by_acts = refl }

-- acts that end no connection first
pub follows_behind : (at : Side) (body : Body) (told : List Act) (d : Done) → IsQuiet at told → Follows at body d → Follows at body (behind told d)
follows_behind at body told d quiet k = record { by_acts = k.by_acts ∙ ap (λ (o : Bool). open_after at o d.acts) (sym (quiet (is_open at body))) ∙ sym (open_append at (is_open at body) told d.acts) }

-- one after the other
pub follows_both : (at : Side) (body : Body) (first : Done) (next : Body → Done) → Follows at body first → Follows at first.body (next first.body) → Follows at body (and_then first next)
follows_both at body first next a b = record { by_acts = b.by_acts ∙ ap (λ (o : Bool). open_after at o (next first.body).acts) a.by_acts ∙ sym (open_append at (is_open at body) first.acts (next first.body).acts) }

-- ---- a connection ends

-- the session of a side that has a connection no more, and its half
ended_by : (at : Side) (desk : Desk) (side : Side) (body : Body) → is_open at (ended desk side body).body ≡ closed_at at side (is_open at body)
ended_by Entry desk Entry body = (half_closed_leaves Entry desk Entry (with_session Entry (at_rest (session_at Entry body).role) body)).same
ended_by Entry desk Exit body = (half_closed_leaves Entry desk Exit (with_session Exit (at_rest (session_at Exit body).role) body)).same
ended_by Exit desk Entry body = (half_closed_leaves Exit desk Entry (with_session Entry (at_rest (session_at Entry body).role) body)).same
ended_by Exit desk Exit body = (half_closed_leaves Exit desk Exit (with_session Exit (at_rest (session_at Exit body).role) body)).same

-- acts that say so come first
ended_follows : (at : Side) (desk : Desk) (side : Side) (body : Body) (told : List Act) → ((o : Bool) → open_after at o told ≡ closed_at at side o) → Follows at body (behind told (ended desk side body))
ended_follows at desk side body told says =
    let after = ended desk side body in
    let quiet : open_after at (open_after at (is_open at body) told) after.acts ≡ open_after at (is_open at body) told = (half_closed_leaves at desk side (with_session side (at_rest (session_at side body).role) body)).quiet (open_after at (is_open at body) told) in
    record { by_acts = ended_by at desk side body ∙ sym (says (is_open at body)) ∙ sym quiet ∙ sym (open_append at (is_open at body) told after.acts) }

pub breaches_follow : (at : Side) (desk : Desk) (side : Side) (text : List ℕ) (body : Body) → Follows at body (breaches desk side text body)
breaches_follow at desk side text body = ended_follows at desk side body (acts.Breaches side text ∷ (sends desk side (notification 1 Fatal text) ++ acts.Closes side ∷ [])) (λ o. refl)

notices_follow : (at : Side) (desk : Desk) (side : Side) (test : Bool) (body : Body) → Follows at body (if_open test (behind (acts.Notices side ∷ []) (ended desk side body)) body)
notices_follow at desk side true body = ended_follows at desk side body (acts.Notices side ∷ []) (λ o. refl)
notices_follow at desk side false body = follows_still at body

-- ---- what a session has its machine do

-- a side after what the session of this or of the other one has to be done
abbrev maybe_open : Side → Side → Option Action → Bool → Bool
maybe_open at side None o = o
maybe_open at side (Some Close) o = closed_at at side o
maybe_open at side (Some _) o = o

abbrev actions_open : Side → Side → Actions → Bool → Bool
actions_open at side actions o = maybe_open at side actions.third (maybe_open at side actions.second (maybe_open at side actions.first o))

-- the sessions are as they were, and the acts are those of the actions
record Does (at : Side) (body : Body) (says : Bool → Bool) (d : Done) : Type 0 where
  same : is_open at d.body ≡ is_open at body
  said : (o : Bool) → open_after at o d.acts ≡ says o

does_left : (at : Side) (body : Body) (d : Done) → Leaves at body d → Does at body (λ o. o) d
does_left at body d k = record { same = k.same; said = k.quiet }

does_told : (at : Side) (body : Body) (told : List Act) → IsQuiet at told → Does at body (λ o. o) (done body told)
does_told at body told quiet = record { same = refl; said = quiet }

does_both : (at : Side) (body : Body) (first : Done) (next : Body → Done) (one two : Bool → Bool) → Does at body one first → Does at first.body two (next first.body) → Does at body (λ o. two (one o)) (and_then first next)
does_both at body first next one two a b = record {
  same = b.same ∙ a.same;
  said = λ o. open_append at o first.acts (next first.body).acts ∙ ap (λ (p : Bool). open_after at p (next first.body).acts) (a.said o) ∙ b.said (one o);
}

action_does : (at : Side) (desk : Desk) (side : Side) (action : Action) (body : Body) → Does at body (maybe_open at side (Some action)) (action_did desk side action body)
action_does at desk side SendService body = does_told at body _ (λ o. refl)
action_does at desk side (Pong id) body = does_told at body _ (λ o. refl)
action_does at desk side (Ping n) body = does_told at body _ (λ o. refl)
action_does at desk side (Tell what) body = does_told at body _ (λ o. refl)
action_does at desk side Close body =
    let half = half_closed_leaves at desk side body in
    record { same = half.same; said = λ o. half.quiet (closed_at at side o) }
action_does at desk side Stand body = does_left at body _ (at_intake_leaves at desk in_input.Stand body)
action_does at desk side (Pass what) body = record { same = refl; said = λ o. refl }

maybe_does : (at : Side) (desk : Desk) (side : Side) (action : Option Action) (body : Body) → Does at body (maybe_open at side action) (maybe_did desk side action body)
maybe_does at desk side None body = record { same = refl; said = λ o. refl }
maybe_does at desk side (Some action) body = action_does at desk side action body

actions_do : (at : Side) (desk : Desk) (side : Side) (actions : Actions) (body : Body) → Does at body (actions_open at side actions) (actions_did desk side actions body)
actions_do at desk side actions body =
    let one = maybe_did desk side actions.first body in
    let two = maybe_did desk side actions.second one.body in
    does_both at body one (λ (b : Body). and_then (maybe_did desk side actions.second b) (maybe_did desk side actions.third)) (maybe_open at side actions.first) (λ (o : Bool). maybe_open at side actions.third (maybe_open at side actions.second o)) (maybe_does at desk side actions.first body)
    (does_both at one.body two (maybe_did desk side actions.third) (maybe_open at side actions.second) (maybe_open at side actions.third) (maybe_does at desk side actions.second one.body) (maybe_does at desk side actions.third two.body))

-- ---- the rows of the session table

-- an input that neither makes nor ends the connection of its session by itself
abbrev IsWithin : Given → Type 0
IsWithin opened = ⊥
IsWithin closed = ⊥
IsWithin _ = Unit {0}

row_follows : (side : Side) (s : SessionEnd) (input : Given) (row : SessionRow) → IsSessionRow s input row → IsWithin input → is_connected_state row.after.state ≡ actions_open side side row.actions (is_connected_state s.state)
row_follows Entry _ _ _ opens_downstream within = absurd within
row_follows Entry _ _ _ opens_upstream within = absurd within
row_follows Entry _ _ _ (is_closed _) within = absurd within
row_follows Entry _ _ _ _ within = refl
row_follows Exit _ _ _ opens_downstream within = absurd within
row_follows Exit _ _ _ opens_upstream within = absurd within
row_follows Exit _ _ _ (is_closed _) within = absurd within
row_follows Exit _ _ _ _ within = refl

-- the other side stays
maybe_apart : (action : Option Action) (o : Bool) → (maybe_open Entry Exit action o ≡ o) × (maybe_open Exit Entry action o ≡ o)
maybe_apart None o = (refl, refl)
maybe_apart (Some SendService) o = (refl, refl)
maybe_apart (Some (Pong id)) o = (refl, refl)
maybe_apart (Some (Ping n)) o = (refl, refl)
maybe_apart (Some (Tell what)) o = (refl, refl)
maybe_apart (Some Close) o = (refl, refl)
maybe_apart (Some Stand) o = (refl, refl)
maybe_apart (Some (Pass what)) o = (refl, refl)

entry_apart : (actions : Actions) (o : Bool) → actions_open Entry Exit actions o ≡ o
entry_apart actions o = (maybe_apart actions.third _).0 ∙ (maybe_apart actions.second _).0 ∙ (maybe_apart actions.first o).0

exit_apart : (actions : Actions) (o : Bool) → actions_open Exit Entry actions o ≡ o
exit_apart actions o = (maybe_apart actions.third _).1 ∙ (maybe_apart actions.second _).1 ∙ (maybe_apart actions.first o).1

-- a session's row changes the session first
row_open : (at side : Side) (s : SessionEnd) (input : Given) (body : Body) (row : SessionRow) → session_at side body ≡ s → IsSessionRow s input row → IsWithin input → is_open at (with_session side row.after body) ≡ actions_open at side row.actions (is_open at body)
row_open Entry Entry s input body row is shape within = row_follows Entry s input row shape within ∙ ap (λ (e : SessionEnd). actions_open Entry Entry row.actions (is_connected_state e.state)) (sym is)
row_open Exit Exit s input body row is shape within = row_follows Exit s input row shape within ∙ ap (λ (e : SessionEnd). actions_open Exit Exit row.actions (is_connected_state e.state)) (sym is)
row_open Entry Exit s input body row is shape within = sym (entry_apart row.actions (is_open Entry body))
row_open Exit Entry s input body row is shape within = sym (exit_apart row.actions (is_open Exit body))

-- and has its machine act
acted : (at : Side) (desk : Desk) (side : Side) (input : Given) (body : Body) (row : SessionRow) → session_row (session_at side body) input ≡ Some row → IsWithin input → (front : List Act) → IsQuiet at front
    → Follows at body (behind front (actions_did desk side row.actions (with_session side row.after body)))
acted at desk side input body row is within front quiet =
    let after = actions_did desk side row.actions (with_session side row.after body) in
    let does = actions_do at desk side row.actions (with_session side row.after body) in
    let first : is_open at after.body ≡ actions_open at side row.actions (is_open at body) = does.same ∙ row_open at side (session_at side body) input body row refl (row_is (session_at side body) input row is) within in
    let said : open_after at (open_after at (is_open at body) front) after.acts ≡ actions_open at side row.actions (is_open at body) = does.said (open_after at (is_open at body) front) ∙ ap (λ (o : Bool). actions_open at side row.actions o) (quiet (is_open at body)) in
    record { by_acts = first ∙ sym said ∙ sym (open_append at (is_open at body) front after.acts) }

session_follows : (at : Side) (desk : Desk) (side : Side) (input : Given) (body : Body) (found : Option SessionRow) → session_row (session_at side body) input ≡ found → IsWithin input → Follows at body (session_did desk side found body)
session_follows at desk side input body None is within = follows_still at body
session_follows at desk side input body (Some row) is within = acted at desk side input body row is within [] (λ o. refl)

-- ---- messages

-- a half that has a row leaves the connections as they are
data LeavesAny (at : Side) (body : Body) : Option Done → Type 0 where
  leaves_none : LeavesAny at body None
  leaves_some : {d : Done} → Leaves at body d → LeavesAny at body (Some d)

outlet_took_leaves : (at : Side) (desk : Desk) (body : Body) (found : Option OutRow) → LeavesAny at body (outlet_took desk body found)
outlet_took_leaves at desk body None = leaves_none
outlet_took_leaves at desk body (Some r) = leaves_some (outlet_leaves at desk body (Some r))

start_took_leaves : (at : Side) (desk : Desk) (body : Body) (opening : Bool) (found : Option OutRow) → LeavesAny at body (outlet_took desk (record body { kept = behind_opening opening body.kept }) found)
start_took_leaves at desk body opening None = leaves_none
start_took_leaves Entry desk body opening (Some r) = leaves_some (record { same = refl; quiet = (outlet_leaves Entry desk (record body { kept = behind_opening opening body.kept }) (Some r)).quiet })
start_took_leaves Exit desk body opening (Some r) = leaves_some (record { same = refl; quiet = (outlet_leaves Exit desk (record body { kept = behind_opening opening body.kept }) (Some r)).quiet })

exit_leaves : (at : Side) (desk : Desk) (word : ExitWord) (body : Body) → LeavesAny at body (exit_took desk word body)
exit_leaves at desk exits.Ready body = outlet_took_leaves at desk body (outlet_row body.outlet out_input.MachineReady)
exit_leaves at desk exits.Unready body = outlet_took_leaves at desk body (outlet_row body.outlet out_input.RevokeMachineReady)
exit_leaves at desk (exits.Start id) body = start_took_leaves at desk body (would_open body.outlet id) (outlet_row body.outlet (out_input.Start id (opening_board (would_open body.outlet id) body.kept)))
exit_leaves at desk (exits.Stop state id) body = outlet_took_leaves at desk body (outlet_row body.outlet (out_input.Stop state id))
exit_leaves at desk (exits.Query top bottom) body = leaves_some (leaves_told at body _ (λ o. refl))
exit_leaves at desk exits.Nothing body = leaves_some (leaves_still at body)

intake_took_leaves : (at : Side) (desk : Desk) (body : Body) (found : Option InRow) → LeavesAny at body (intake_took desk body found)
intake_took_leaves at desk body None = leaves_none
intake_took_leaves at desk body (Some r) = leaves_some (intake_leaves at desk body (Some r))

entry_leaves : (at : Side) (desk : Desk) (word : EntryWord) (body : Body) → LeavesAny at body (entry_took desk word body)
entry_leaves at desk (entries.Available board) body = intake_took_leaves at desk body (intake_row body.intake (in_input.BoardAvailable board))
entry_leaves at desk entries.Revoked body = intake_took_leaves at desk body (intake_row body.intake in_input.RevokeBoardAvailable)
entry_leaves at desk (entries.Finished state id) body = intake_took_leaves at desk body (intake_row body.intake (in_input.Finished state id))
entry_leaves at desk entries.Nothing body = leaves_some (leaves_still at body)

-- the session was changed first, and has a connection where it had one
changed_first : (at : Side) (body after : Body) (d : Done) → is_open at after ≡ is_open at body → Follows at after d → Follows at body d
changed_first at body after d same k = record { by_acts = k.by_acts ∙ ap (λ (o : Bool). open_after at o d.acts) same }

passed_follows : (at : Side) (desk : Desk) (side : Side) (message : Message) (body : Body) (found : Option Done) → LeavesAny at body found → Follows at body (passed desk side message body found)
passed_follows at desk side message body None k = breaches_follow at desk side (unexpected (kind_of message.body)) body
passed_follows at desk side message body (Some d) (leaves_some k) = follows_behind at body (acts.Hears side message ∷ []) d (λ o. refl) (left at body d k)

-- a row whose message is passed on leaves the connection as it is
row_passes : (s : SessionEnd) (input : Given) (row : SessionRow) (what : Horizontal) → IsSessionRow s input row → IsWithin input → row.actions.first ≡ Some (Pass what) → is_connected_state row.after.state ≡ is_connected_state s.state
row_passes _ _ _ what opens_downstream within first = absurd within
row_passes _ _ _ what opens_upstream within first = absurd within
row_passes _ _ _ what (is_closed _) within first = absurd within
row_passes _ _ _ what is_unsettled within first = cc
row_passes _ _ _ what (gives_up_handshake _) within first = cc
row_passes _ _ _ what (gives_up_standing _ _) within first = cc
row_passes _ _ _ what (row_shuts_down _) within first = cc
row_passes _ _ _ what _ within first = refl

pass_open : (at side : Side) (s : SessionEnd) (input : Given) (body : Body) (row : SessionRow) (what : Horizontal) → session_at side body ≡ s → IsSessionRow s input row → IsWithin input → row.actions.first ≡ Some (Pass what) → is_open at (with_session side row.after body) ≡ is_open at body
pass_open Entry Entry s input body row what is shape within first = row_passes s input row what shape within first ∙ ap (λ (e : SessionEnd). is_connected_state e.state) (sym is)
pass_open Exit Exit s input body row what is shape within first = row_passes s input row what shape within first ∙ ap (λ (e : SessionEnd). is_connected_state e.state) (sym is)
pass_open Entry Exit s input body row what is shape within first = refl
pass_open Exit Entry s input body row what is shape within first = refl

-- the session took the message
taken_follows : (at : Side) (desk : Desk) (side : Side) (message : Message) (input : Given) (body : Body) (row : SessionRow) (first : Option Action) → session_row (session_at side body) input ≡ Some row → IsWithin input → row.actions.first ≡ first
    → Follows at body (taken desk side message first row.actions (with_session side row.after body))
taken_follows at desk Entry message input body row (Some (Pass what)) is within first =
    let after = with_session Entry row.after body in
    changed_first at body after (passed desk Entry message after (entry_took desk (entry_word what) after)) (pass_open at Entry (session_at Entry body) input body row what refl (row_is (session_at Entry body) input row is) within first)
    (passed_follows at desk Entry message after (entry_took desk (entry_word what) after) (entry_leaves at desk (entry_word what) after))
taken_follows at desk Exit message input body row (Some (Pass what)) is within first =
    let after = with_session Exit row.after body in
    changed_first at body after (passed desk Exit message after (exit_took desk (exit_word what) after)) (pass_open at Exit (session_at Exit body) input body row what refl (row_is (session_at Exit body) input row is) within first)
    (passed_follows at desk Exit message after (exit_took desk (exit_word what) after) (exit_leaves at desk (exit_word what) after))
taken_follows at desk side message input body row None is within first = acted at desk side input body row is within (acts.Hears side message ∷ []) (λ o. refl)
taken_follows at desk side message input body row (Some SendService) is within first = acted at desk side input body row is within (acts.Hears side message ∷ []) (λ o. refl)
taken_follows at desk side message input body row (Some (Pong _)) is within first = acted at desk side input body row is within (acts.Hears side message ∷ []) (λ o. refl)
taken_follows at desk side message input body row (Some (Ping _)) is within first = acted at desk side input body row is within (acts.Hears side message ∷ []) (λ o. refl)
taken_follows at desk side message input body row (Some (Tell _)) is within first = acted at desk side input body row is within (acts.Hears side message ∷ []) (λ o. refl)
taken_follows at desk side message input body row (Some Close) is within first = acted at desk side input body row is within (acts.Hears side message ∷ []) (λ o. refl)
taken_follows at desk side message input body row (Some Stand) is within first = acted at desk side input body row is within (acts.Hears side message ∷ []) (λ o. refl)

rowed_follows : (at : Side) (desk : Desk) (side : Side) (message : Message) (input : Given) (body : Body) (found : Option SessionRow) → session_row (session_at side body) input ≡ found → IsWithin input → Follows at body (rowed desk side message body found)
rowed_follows at desk side message input body None is within = breaches_follow at desk side (unexpected (kind_of message.body)) body
rowed_follows at desk side message input body (Some row) is within = taken_follows at desk side message input body row row.actions.first is within refl

hears_follows : (at : Side) (desk : Desk) (side : Side) (message : Message) (body : Body) → Follows at body (hears desk side message body)
hears_follows at desk side message body = rowed_follows at desk side message (heard message.body (is_some (held body.outlet))) body (session_row (session_at side body) (heard message.body (is_some (held body.outlet)))) refl tt

word_follows : (at : Side) (desk : Desk) (side : Side) (word : Word) (body : Body) → Follows at body (word_did desk side word body)
word_follows at desk side (Says message) body = hears_follows at desk side message body
word_follows at desk side (Wrong text) body = breaches_follow at desk side text body

if_follows : (at : Side) (test : Bool) (d : Done) (body : Body) → Follows at body d → Follows at body (if_open test d body)
if_follows at true d body k = k
if_follows at false d body k = follows_still at body

heard_follows : (at : Side) (desk : Desk) (side : Side) (words : List Word) (body : Body) → Follows at body (all_heard desk side words body)
heard_follows at desk side [] body = follows_still at body
heard_follows at desk side (w ∷ ws) body = if_follows at (is_open side body) (and_then (word_did desk side w body) (all_heard desk side ws)) body
    (follows_both at body (word_did desk side w body) (all_heard desk side ws) (word_follows at desk side w body) (heard_follows at desk side ws (word_did desk side w body).body))

-- ---- the events

-- a side, where a connection of this or of the other one is made
abbrev opened_at : Side → Side → Bool → Bool
opened_at Entry Entry o = true
opened_at Entry Exit o = o
opened_at Exit Entry o = o
opened_at Exit Exit o = true

-- an event that makes a connection
abbrev opened_event : Event → Side → Bool → Bool
opened_event Connect at o = opened_at Entry at o
opened_event Accepted at o = opened_at Exit at o
opened_event _ at o = o

-- what an event does follows its acts, once the connection is made
record Meets (at : Side) (event : Event) (body : Body) (d : Done) : Type 0 where
  by_acts : is_open at d.body ≡ open_after at (opened_event event at (is_open at body)) d.acts

fresh_open : (at side : Side) (s : SessionEnd) (body : Body) → is_connected_state s.state ≡ true → is_open at (with_session side s body) ≡ opened_at side at (is_open at body)
fresh_open Entry Entry s body on = on
fresh_open Entry Exit s body on = refl
fresh_open Exit Entry s body on = refl
fresh_open Exit Exit s body on = on

still_open : (at side : Side) (body : Body) → is_open side body ≡ true → is_open at body ≡ opened_at side at (is_open at body)
still_open Entry Entry body on = on
still_open Entry Exit body on = refl
still_open Exit Entry body on = refl
still_open Exit Exit body on = on

opening_says : (at side : Side) (role : Role) (o : Bool) → actions_open at side (opening_actions role) o ≡ o
opening_says at side Downstream o = refl
opening_says at side Upstream o = refl

record Opens (at side : Side) (body : Body) (d : Done) : Type 0 where
  by_acts : is_open at d.body ≡ open_after at (opened_at side at (is_open at body)) d.acts

open_row_opens : (at : Side) (desk : Desk) (side : Side) (body : Body) (state : SessionState) → (session_at side body).state ≡ state → Opens at side body (session_did desk side (opened_row state (session_at side body)) body)
open_row_opens at desk side body NotConnected is =
    let role = (session_at side body).role in
    let made = in_state (at_rest role) Handshake in
    let after = actions_did desk side (opening_actions role) (with_session side made body) in
    let does = actions_do at desk side (opening_actions role) (with_session side made body) in
    let said : open_after at (opened_at side at (is_open at body)) after.acts ≡ opened_at side at (is_open at body) = does.said (opened_at side at (is_open at body)) ∙ opening_says at side role (opened_at side at (is_open at body)) in
    record { by_acts = does.same ∙ fresh_open at side made body refl ∙ sym said }
open_row_opens at desk side body Handshake is = record { by_acts = still_open at side body (ap is_connected_state is) }
open_row_opens at desk side body Standing is = record { by_acts = still_open at side body (ap is_connected_state is) }

opens_opens : (at : Side) (desk : Desk) (side : Side) (body : Body) → Opens at side body (opens desk side body)
opens_opens at desk side body = open_row_opens at desk side body (session_at side body).state refl

met : (at : Side) (event : Event) (body : Body) (d : Done) → ((o : Bool) → opened_event event at o ≡ o) → Follows at body d → Meets at event body d
met at event body d none k = record { by_acts = k.by_acts ∙ ap (λ (o : Bool). open_after at o d.acts) (sym (none (is_open at body))) }

ticks_follow : (at : Side) (desk : Desk) (side : Side) (body : Body) → Follows at body (ticks desk side body)
ticks_follow at desk side body = session_follows at desk side tick body (session_row (session_at side body) tick) refl tt

shuts_down_follow : (at : Side) (desk : Desk) (side : Side) (body : Body) → Follows at body (shuts_down desk side body)
shuts_down_follow at desk side body = session_follows at desk side shutdown body (session_row (session_at side body) shutdown) refl tt

event_meets : (at : Side) (desk : Desk) (event : Event) (body : Body) → Meets at event body (event_did desk event body)
event_meets at desk Nothing body = met at Nothing body (stays body) (λ o. refl) (follows_still at body)
event_meets at desk Connect body = record { by_acts = (opens_opens at desk Entry body).by_acts }
event_meets at desk Accepted body = record { by_acts = (opens_opens at desk Exit body).by_acts }
event_meets at desk Second body = met at Second body (meets_second desk body) (λ o. refl) (session_follows at desk Exit second body (session_row (session_at Exit body) second) refl tt)
event_meets at desk (Words side words) body = met at (Words side words) body (all_heard desk side words body) (λ o. refl) (heard_follows at desk side words body)
event_meets at desk (Notice side) body = met at (Notice side) body (notices desk side body) (λ o. refl) (notices_follow at desk side (is_open side body) body)
event_meets at desk Tick body = met at Tick body (both_tick desk body) (λ o. refl) (follows_both at body (ticks desk Entry body) (ticks desk Exit) (ticks_follow at desk Entry body) (ticks_follow at desk Exit (ticks desk Entry body).body))
event_meets at desk Shutdown body = met at Shutdown body (both_shut_down desk body) (λ o. refl) (follows_both at body (shuts_down desk Entry body) (shuts_down desk Exit) (shuts_down_follow at desk Entry body) (shuts_down_follow at desk Exit (shuts_down desk Entry body).body))
event_meets at desk (Fault side) body = met at (Fault side) body (faults desk side body) (λ o. refl) (left at body (faults desk side body) (faults_leave at desk side body))
event_meets at desk (Will side on) body = met at (Will side on) body (wills side on body) (λ o. refl) (left at body (wills side on body) (wills_leave at side on body))
event_meets at desk (Level line on) body = met at (Level line on) body (sets_level desk line on body) (λ o. refl) (left at body (sets_level desk line on body) (levels_leave at desk line on body))
event_meets at desk (Insert id barcode) body = met at (Insert id barcode) body _ (λ o. refl) (left at body _ (kept_leaves at body (body.kept ++ plain_record id desk.name barcode ∷ []) (acts.Inserts id ∷ []) (λ o. refl)))
event_meets at desk (Remove id) body = met at (Remove id) body _ (λ o. refl) (left at body _ (if_kept_leaves at (is_kept id body.kept) body (without id body.kept) (acts.Removes id) (λ o. refl)))
event_meets at desk (Replace old new) body = met at (Replace old new) body _ (λ o. refl) (left at body _ (if_kept_leaves at (is_kept old body.kept) body (with_instead old (plain_record new desk.name None) body.kept) (acts.Replaces old new) (λ o. refl)))
event_meets at desk (Mark id quality) body = met at (Mark id quality) body _ (λ o. refl) (left at body _ (if_kept_leaves at (is_kept id body.kept) body (with_mark id quality body.kept) (acts.Marks id quality) (λ o. refl)))
event_meets at desk (Sub id sub) body = met at (Sub id sub) body _ (λ o. refl) (left at body _ (if_kept_leaves at (takes_sub id sub body.kept) body (with_sub id sub body.kept) (acts.Subs id sub.pos) (λ o. refl)))
event_meets at desk (Gives id to) body = met at (Gives id to) body _ (λ o. refl) (left at body _ (if_kept_leaves at (is_kept id body.kept) body (without id body.kept) (acts.Gives id to) (λ o. refl)))
event_meets at desk (Gets board) body = met at (Gets board) body _ (λ o. refl) (left at body _ (kept_leaves at body (body.kept ++ board ∷ []) (acts.Gets board.id ∷ []) (λ o. refl)))
event_meets at desk Forecast body = met at Forecast body (forecasts_front desk body) (λ o. refl) (left at body (forecasts_front desk body) (forecasts_leave at desk body))
event_meets at desk (Query barcode) body = met at (Query barcode) body (asks_for desk barcode body) (λ o. refl) (left at body (asks_for desk barcode body) (asks_leave at desk barcode body))
event_meets at desk (Supervised what) body =
    met at (Supervised what) body (supervises desk what body) (λ o. refl)
    (left at body (supervises desk what body) (supervises_leaves at desk what body))

-- ---- a step

-- what is read before the event and announced behind it ends no connection
plain_step_meets : (at : Side) (desk : Desk) (unread : List Seen) (event : Event) (body : Body)
    → Meets at event body (plain_step desk unread event body)
plain_step_meets at desk unread event body =
    let read = all_read desk unread body in
    let meets = event_did desk event read.body in
    let says = announces desk meets.body in
    let first = all_read_leaves at desk unread body in
    let last = announces_leave at desk meets.body in
    let o = opened_event event at (is_open at body) in
    let one : open_after at o (read.acts ++ (meets.acts ++ says.acts)) ≡ open_after at o (meets.acts ++ says.acts) = open_append at o read.acts (meets.acts ++ says.acts) ∙ ap (λ (p : Bool). open_after at p (meets.acts ++ says.acts)) (first.quiet o) in
    let two : open_after at o (meets.acts ++ says.acts) ≡ open_after at o meets.acts = open_append at o meets.acts says.acts ∙ last.quiet (open_after at o meets.acts) in
    record { by_acts = last.same ∙ (event_meets at desk event read.body).by_acts ∙ ap (λ (p : Bool). open_after at (opened_event event at p) meets.acts) first.same ∙ sym two ∙ sym one }

step_meets : (at : Side) (desk : Desk) (unread : List Seen) (event : Event) (body : Body)
    → Meets at event body (machine_step desk unread event body)
step_meets at desk unread event body =
    let plain = plain_step desk unread event body in
    let o = opened_event event at (is_open at body) in
    record {
      by_acts =
          (plain_step_meets at desk unread event body).by_acts
          ∙ sym (open_with_tells at o desk (watch_of desk body) plain.acts);
    }

-- ---- an input is an event

new_opens : (found : Result ℕ IdsUsedUp) (event : ℕ → Event) (at : Side) (o : Bool) → ((id : ℕ) → opened_event (event id) at o ≡ o) → opened_event (with_new found event) at o ≡ o
new_opens (Ok id) event at o none = none id
new_opens (Err why) event at o none = refl

event_opens : (maker : Maker) (input : Input) (words : List Word) (at : Side) (o : Bool) → opened_event (event_of maker input words) at o ≡ opened_by input at o
event_opens maker inputs.Connect words Entry o = refl
event_opens maker inputs.Connect words Exit o = refl
event_opens maker inputs.Accepted words Entry o = refl
event_opens maker inputs.Accepted words Exit o = refl
event_opens maker (inputs.Insert barcode) words at o = new_opens (next_id maker) (λ (id : ℕ). Insert id barcode) at o (λ id. refl)
event_opens maker (inputs.Replace id) words at o = new_opens (next_id maker) (λ (new : ℕ). Replace id new) at o (λ new. refl)
event_opens maker input words at o = refl

pub steps_open : (s : NodeState) (unread : List Seen) (input : Input) (moment : ℤ) (t : NodeState) (told : List Act) (side : Side) → Steps s unread input moment t told
    → is_open side t.lane.body ≡ open_after side (opened_by input side (is_open side s.lane.body)) told
steps_open s unread input moment t told side steps =
    let event = event_of s.maker input steps.lane.words in
    let did = machine_step (desk_of s moment) unread event s.lane.body in
    let behind_it : List Act → Bool = λ list. open_after side (opened_by input side (is_open side s.lane.body)) list in
    ap (is_open side) steps.lane.body ∙ (step_meets side (desk_of s moment) unread event s.lane.body).by_acts
    ∙ ap (λ (o : Bool). open_after side o did.acts) (event_opens s.maker input steps.lane.words side (is_open side s.lane.body))
    ∙ ap behind_it (sym steps.lane.told)
    ∙ sym (open_signalled side (opened_by input side (is_open side s.lane.body)) steps.made s.bridge t.lane.body)
    ∙ ap behind_it (sym steps.told)
