-- WHAT A MACHINE SAYS AT ITS INPUT, by the micro events: what its sessions have it do, what it
-- hears, and all others.
use Rattle.std.proofs.Common.{Bool, List, None, Option, Some, [], false, refl, subst, sym, true, ℕ, ◌++◌, ◌∙◌, ◌∷◌, ◌≡◌, ◌≢◌}
use Rattle.std.specs.Prelude.{is_some}
use Rattle.line_base.specs.declared.states.Severity.TheVariants.{Fatal}
use Rattle.line_base.specs.declared.states.Side.{Side}
use Rattle.line_base.specs.declared.states.Side.TheVariants.{Entry, Exit}
use Rattle.board_record.specs.declared.record.Record.{Record}
use Rattle.hermes_horizontal.specs.Parts.{kind_of}
use Rattle.hermes_horizontal.specs.declared.message.Horizontal.{Horizontal}
use Rattle.hermes_horizontal.specs.declared.message.Message.{Message}
use Rattle.session_core.specs.Acts.{nothing, one, two}
use Rattle.session_core.specs.Breach.{unexpected}
use Rattle.session_core.specs.End.{SessionEnd, is_connected_state}
use Rattle.session_core.specs.Input.{Input as Given, closed, heard, opened}
use Rattle.session_core.specs.Row.{SessionRow, session_row}
use Rattle.session_core.specs.Table.{
  IsConnected,
  IsSessionRow,
  answers,
  asks,
  gives_up_handshake,
  gives_up_standing,
  in_handshake,
  in_standing,
  is_alive,
  is_answered,
  is_closed,
  is_notified,
  is_unsettled,
  opens_downstream,
  opens_upstream,
  passes_over,
  refuses_second,
  shuts_down as row_shuts_down,
  waits_in_handshake,
  waits_standing,
}
use Rattle.session_core.specs.declared.actions.Action.{Action}
use Rattle.session_core.specs.declared.actions.Action.TheVariants.{
  Close,
  Pass,
  Ping,
  Pong,
  SendService,
  Stand,
  Tell,
}
use Rattle.session_core.specs.declared.actions.Actions.{Actions}
use Rattle.session_core.specs.declared.actions.Tell.{Tell as Said}
use Rattle.session_core.specs.declared.state.SessionState.{SessionState}
use Rattle.session_core.proofs.Rows.{row_is}
use Rattle.handover_out.specs.Row.{OutRow, outlet_row}
use Rattle.handover_out.specs.State.{held, would_open}
use Rattle.handover_out.specs.declared.input.OutInput.TheVariants as out_input
use Rattle.handover_in.specs.Row.{InRow, intake_row}
use Rattle.handover_in.specs.declared.input.InInput.TheVariants as in_input
use Rattle.node_core.specs.Connect.{if_open}
use Rattle.node_core.specs.Desk.{Desk}
use Rattle.node_core.specs.Done.{Done, and_then, behind, done, stays}
use Rattle.node_core.specs.Halves.{behind_opening, ended, opening_board}
use Rattle.node_core.specs.Hears.{entry_took, entry_word, exit_took, exit_word, intake_took, outlet_took, passed, rowed, taken}
use Rattle.node_core.specs.Session.{action_did, actions_did, breaches, closes, maybe_did, session_did}
use Rattle.node_core.specs.Sides.{is_open, session_at, with_session}
use Rattle.node_core.specs.Told.{notification, sends}
use Rattle.node_core.specs.Words.{all_heard, word_did}
use Rattle.node_core.specs.declared.act.Act.TheVariants as acts
use Rattle.node_core.specs.declared.lane.Body.{Body}
use Rattle.node_core.specs.declared.word.EntryWord.{EntryWord}
use Rattle.node_core.specs.declared.word.EntryWord.TheVariants as entries
use Rattle.node_core.specs.declared.word.ExitWord.{ExitWord}
use Rattle.node_core.specs.declared.word.ExitWord.TheVariants as exits
use Rattle.node_core.specs.declared.word.Word.{Word}
use Rattle.node_core.specs.declared.word.Word.TheVariants.{Says as SaysWord, Wrong}
use Rattle.step_rules.specs.Spoken.{IsOffClosed, SaidAt}
use Rattle.step_rules.proofs.Calm.{calm_sends}
use Rattle.step_rules.proofs.Halves.{
  Least,
  Says,
  Speaks,
  apart_off,
  closes_says,
  ended_says,
  gently,
  intake_at_exit,
  intake_open,
  off_open,
  outlet_at_entry,
  outlet_open,
  says_still,
  says_then,
  speaks_behind,
  speaks_then,
  stand_says,
}

-- a text may be said at a side that has a connection
pub said_open : (at side : Side) (o : Bool) (body : Body) → is_open side body ≡ true
    → Least at o body → SaidAt at side o
said_open Entry Entry o body has least = least has
said_open Exit Exit o body has least = least has
said_open Entry Exit o body has least = tt
said_open Exit Entry o body has least = tt

-- ---- a breach, and a close that is found

pub breaches_say : (at side : Side) (desk : Desk) (text : List ℕ) (body : Body)
    → is_open side body ≡ true → Says at body (breaches desk side text body)
breaches_say at side desk text body has o least off =
    ended_says at side o desk body
    (acts.Breaches side text ∷ (sends desk side (notification 1 Fatal text)
    ++ acts.Closes side ∷ [])) (tt, (said_open at side o body has least, (tt, tt))) refl least off

pub notices_say : (at side : Side) (desk : Desk) (test : Bool) (body : Body)
    → Says at body (if_open test (behind (acts.Notices side ∷ []) (ended desk side body)) body)
notices_say at side desk false body o least off = says_still at body o least off
notices_say at side desk true body o least off =
    ended_says at side o desk body (acts.Notices side ∷ []) (tt, tt) refl least off

-- ---- what a session has its machine do, but to close the connection

abbrev Goes : Option Action → Type 0
Goes (Some Close) = ⊥
Goes action = Unit {0}

-- as a text may be said there
abbrev SaysIf : Side → Side → Body → Done → Type 0
SaysIf at side body d =
    (o : Bool) → SaidAt at side o → Least at o body → IsOffClosed at body → Speaks at o d

sends_say : (at side : Side) (desk : Desk) (what : Horizontal) (body : Body)
    → SaysIf at side body (done body (sends desk side what))
sends_say at side desk what body o said least off =
    gently at o body (done body (sends desk side what))
    (calm_sends at side o desk what said) refl least off

action_says : (at side : Side) (desk : Desk) (action : Option Action) (body : Body) → Goes action
    → SaysIf at side body (maybe_did desk side action body)
action_says at side desk None body goes o said least off = says_still at body o least off
action_says at side desk (Some SendService) body goes o said least off =
    sends_say at side desk _ body o said least off
action_says at side desk (Some (Pong id)) body goes o said least off =
    sends_say at side desk _ body o said least off
action_says at side desk (Some (Ping number)) body goes o said least off =
    sends_say at side desk _ body o said least off
action_says at side desk (Some (Tell what)) body goes o said least off =
    sends_say at side desk _ body o said least off
action_says at side desk (Some Stand) body goes o said least off =
    stand_says at desk body o least off
action_says at side desk (Some (Pass what)) body goes o said least off =
    says_still at body o least off
action_says at side desk (Some Close) body goes o said least off = absurd goes

-- ---- the rows of a session: one thing is done, or the connection is closed

data RowSays (row : SessionRow) : Type 0 where
  row_still : is_connected_state row.after.state ≡ true → row.actions ≡ nothing → RowSays row
  row_one : (action : Action) → Goes (Some action) → is_connected_state row.after.state ≡ true
      → row.actions ≡ one action → RowSays row
  row_closes : is_connected_state row.after.state ≡ false → row.actions ≡ one Close → RowSays row
  row_tells : {what : Said} → is_connected_state row.after.state ≡ false
      → row.actions ≡ two (Tell what) Close → RowSays row

-- an input that neither makes nor ends the connection of its session by itself
abbrev pub IsWithin : Given → Type 0
IsWithin opened = ⊥
IsWithin closed = ⊥
IsWithin input = Unit {0}

connected : {state : SessionState} → IsConnected state → is_connected_state state ≡ true
connected in_handshake = refl
connected in_standing = refl

row_says : {s : SessionEnd} {input : Given} {row : SessionRow} → IsSessionRow s input row
    → IsWithin input → RowSays row
row_says opens_downstream within = absurd within
row_says opens_upstream within = absurd within
row_says (is_closed _) within = absurd within
row_says is_unsettled within = row_tells refl refl
row_says (gives_up_handshake _) within = row_closes refl refl
row_says (gives_up_standing _ _) within = row_closes refl refl
row_says (row_shuts_down _) within = row_tells refl refl
row_says (refuses_second on) within = row_one _ tt (connected on) refl
row_says (answers on) within = row_one _ tt (connected on) refl
row_says (is_answered on) within = row_still (connected on) refl
row_says (is_alive on) within = row_still (connected on) refl
row_says (is_notified on) within = row_still (connected on) refl
row_says (passes_over on) within = row_still (connected on) refl
row_says (asks on raised) within = row_one _ tt (connected on) refl
row_says (waits_in_handshake _ _) within = row_still refl refl
row_says (waits_standing _ _) within = row_still refl refl
row_says _ within = row_one _ tt refl refl

-- each is of a session that has a connection
row_connected : {s : SessionEnd} {input : Given} {row : SessionRow} → IsSessionRow s input row
    → IsWithin input → is_connected_state s.state ≡ true
row_connected opens_downstream within = absurd within
row_connected opens_upstream within = absurd within
row_connected (is_closed _) within = absurd within
row_connected (row_shuts_down on) within = connected on
row_connected (refuses_second on) within = connected on
row_connected (answers on) within = connected on
row_connected (is_answered on) within = connected on
row_connected (is_alive on) within = connected on
row_connected (is_notified on) within = connected on
row_connected (passes_over on) within = connected on
row_connected (asks on raised) within = connected on
row_connected _ within = refl

-- ---- the session is changed first

changed_open : (side : Side) (session : SessionEnd) (body : Body)
    → is_open side (with_session side session body) ≡ is_connected_state session.state
changed_open Entry session body = refl
changed_open Exit session body = refl

changed_least : (at side : Side) (o : Bool) (session : SessionEnd) (body : Body)
    → SaidAt at side o → Least at o body → Least at o (with_session side session body)
changed_least Entry Entry o session body said least has = said
changed_least Exit Exit o session body said least has = said
changed_least Entry Exit o session body said least has = least has
changed_least Exit Entry o session body said least has = least has

changed_off : (at side : Side) (session : SessionEnd) (body : Body)
    → is_connected_state session.state ≡ true → IsOffClosed at body
    → IsOffClosed at (with_session side session body)
changed_off Entry Entry session body on off shut =
    off_open (is_connected_state session.state) on shut
changed_off Exit Exit session body on off shut =
    off_open (is_connected_state session.state) on shut
changed_off Entry Exit session body on off shut =
    record { apart = (off shut).apart; unsaid = (off shut).unsaid }
changed_off Exit Entry session body on off shut =
    record { apart = (off shut).apart; unsaid = (off shut).unsaid }

pub one_says : (at side : Side) (desk : Desk) (action : Option Action) (body : Body) → Goes action
    → SaysIf at side body
    (actions_did desk side (record { first = action; second = None; third = None }) body)
one_says at side desk action body goes o said least off =
    speaks_then (maybe_did desk side action body)
    (λ next. and_then (maybe_did desk side None next) (maybe_did desk side None))
    (action_says at side desk action body goes o said least off)
    (says_then at (maybe_did desk side action body).body
    (stays (maybe_did desk side action body).body) (maybe_did desk side None)
    (says_still at (maybe_did desk side action body).body) (λ next. says_still at next))

closing_says : (at side : Side) (o : Bool) (desk : Desk) (body : Body)
    → is_open side body ≡ false → Least at o body → (at ≢ side → IsOffClosed at body)
    → Speaks at o (and_then (closes desk side body) (maybe_did desk side None))
closing_says at side o desk body shut least off =
    speaks_then (closes desk side body) (maybe_did desk side None)
    (closes_says at side o desk body shut least off)
    (says_still at (closes desk side body).body)

close_says : (at side : Side) (o : Bool) (desk : Desk) (body : Body)
    → is_open side body ≡ false → Least at o body → (at ≢ side → IsOffClosed at body)
    → Speaks at o (actions_did desk side (one Close) body)
close_says at side o desk body shut least off =
    speaks_then (closes desk side body)
    (λ next. and_then (maybe_did desk side None next) (maybe_did desk side None))
    (closes_says at side o desk body shut least off)
    (says_then at (closes desk side body).body (stays (closes desk side body).body)
    (maybe_did desk side None)
    (says_still at (closes desk side body).body) (λ next. says_still at next))

tell_says : (at side : Side) (o : Bool) (desk : Desk) (what : Said) (body : Body)
    → is_open side body ≡ false → SaidAt at side o → Least at o body
    → (at ≢ side → IsOffClosed at body)
    → Speaks at o (actions_did desk side (two (Tell what) Close) body)
tell_says at side o desk what body shut said least off =
    speaks_behind (action_did desk side (Tell what) body).acts
    (and_then (closes desk side body) (maybe_did desk side None)) (said, tt)
    (closing_says at side o desk body shut least off)

row_did : (at side : Side) (o : Bool) (desk : Desk) (row : SessionRow) (body : Body)
    → RowSays row → SaidAt at side o → Least at o body → IsOffClosed at body
    → Speaks at o (actions_did desk side row.actions (with_session side row.after body))
row_did at side o desk row body (row_still on is) said least off =
    let after : Body = with_session side row.after body in
    subst (λ (actions : Actions). Speaks at o (actions_did desk side actions after)) (sym is)
    (one_says at side desk None after tt o said (changed_least at side o row.after body said least)
    (changed_off at side row.after body on off))
row_did at side o desk row body (row_one action goes on is) said least off =
    let after : Body = with_session side row.after body in
    subst (λ (actions : Actions). Speaks at o (actions_did desk side actions after)) (sym is)
    (one_says at side desk (Some action) after goes o said
    (changed_least at side o row.after body said least)
    (changed_off at side row.after body on off))
row_did at side o desk row body (row_closes not is) said least off =
    let after : Body = with_session side row.after body in
    subst (λ (actions : Actions). Speaks at o (actions_did desk side actions after)) (sym is)
    (close_says at side o desk after (changed_open side row.after body ∙ not)
    (changed_least at side o row.after body said least) (apart_off at side row.after body off))
row_did at side o desk row body (row_tells {what} not is) said least off =
    let after : Body = with_session side row.after body in
    subst (λ (actions : Actions). Speaks at o (actions_did desk side actions after)) (sym is)
    (tell_says at side o desk what after (changed_open side row.after body ∙ not) said
    (changed_least at side o row.after body said least) (apart_off at side row.after body off))

session_open : (side : Side) (body : Body) (input : Given) (row : SessionRow)
    → session_row (session_at side body) input ≡ Some row → IsWithin input
    → is_open side body ≡ true
session_open side body input row is within =
    row_connected (row_is (session_at side body) input row is) within

pub session_says : (at side : Side) (desk : Desk) (input : Given) (body : Body)
    (found : Option SessionRow) → session_row (session_at side body) input ≡ found
    → IsWithin input → Says at body (session_did desk side found body)
session_says at side desk input body None is within o least off =
    says_still at body o least off
session_says at side desk input body (Some row) is within o least off =
    row_did at side o desk row body (row_says (row_is (session_at side body) input row is) within)
    (said_open at side o body (session_open side body input row is within) least) least off

-- ---- messages, at a side that has a connection

data TookSays (at : Side) (body : Body) : Option Done → Type 0 where
  took_none : TookSays at body None
  took_some : {d : Done} → Says at body d → TookSays at body (Some d)

outlet_took_says : (at : Side) (desk : Desk) (body : Body) (row : Option OutRow)
    → is_open Exit body ≡ true → TookSays at body (outlet_took desk body row)
outlet_took_says at desk body None has = took_none
outlet_took_says Entry desk body (Some row) has = took_some (outlet_at_entry desk body (Some row))
outlet_took_says Exit desk body (Some row) has = took_some (outlet_open desk body (Some row) has)

start_says : (at : Side) (desk : Desk) (body : Body) (kept : List Record) (row : Option OutRow)
    → is_open Exit body ≡ true
    → TookSays at body (outlet_took desk (record body { kept = kept }) row)
start_says at desk body kept None has = took_none
start_says Entry desk body kept (Some row) has =
    took_some (λ o least off. outlet_at_entry desk (record body { kept = kept }) (Some row) o least
    (λ shut. record { apart = (off shut).apart; unsaid = (off shut).unsaid }))
start_says Exit desk body kept (Some row) has =
    took_some (λ o least off. outlet_open desk (record body { kept = kept }) (Some row) has o least
    (λ shut. record { apart = (off shut).apart; unsaid = (off shut).unsaid }))

exit_says : (at : Side) (desk : Desk) (word : ExitWord) (body : Body) → is_open Exit body ≡ true
    → TookSays at body (exit_took desk word body)
exit_says at desk exits.Ready body has =
    outlet_took_says at desk body (outlet_row body.outlet out_input.MachineReady) has
exit_says at desk exits.Unready body has =
    outlet_took_says at desk body (outlet_row body.outlet out_input.RevokeMachineReady) has
exit_says at desk (exits.Start id) body has =
    start_says at desk body (behind_opening (would_open body.outlet id) body.kept)
    (outlet_row body.outlet
    (out_input.Start id (opening_board (would_open body.outlet id) body.kept))) has
exit_says at desk (exits.Stop state id) body has =
    outlet_took_says at desk body (outlet_row body.outlet (out_input.Stop state id)) has
exit_says at desk (exits.Query top bottom) body has =
    took_some (λ o least off.
    sends_say at Exit desk _ body o (said_open at Exit o body has least) least off)
exit_says at desk exits.Nothing body has = took_some (says_still at body)

intake_took_says : (at : Side) (desk : Desk) (body : Body) (row : Option InRow)
    → is_open Entry body ≡ true → TookSays at body (intake_took desk body row)
intake_took_says at desk body None has = took_none
intake_took_says Exit desk body (Some row) has = took_some (intake_at_exit desk body (Some row))
intake_took_says Entry desk body (Some row) has = took_some (intake_open desk body (Some row) has)

entry_says : (at : Side) (desk : Desk) (word : EntryWord) (body : Body)
    → is_open Entry body ≡ true → TookSays at body (entry_took desk word body)
entry_says at desk (entries.Available board) body has =
    intake_took_says at desk body (intake_row body.intake (in_input.BoardAvailable board)) has
entry_says at desk entries.Revoked body has =
    intake_took_says at desk body (intake_row body.intake in_input.RevokeBoardAvailable) has
entry_says at desk (entries.Finished state id) body has =
    intake_took_says at desk body (intake_row body.intake (in_input.Finished state id)) has
entry_says at desk entries.Nothing body has = took_some (says_still at body)

passed_says : (at side : Side) (desk : Desk) (message : Message) (body : Body)
    (found : Option Done) → is_open side body ≡ true → TookSays at body found
    → Says at body (passed desk side message body found)
passed_says at side desk message body None has took o least off =
    breaches_say at side desk (unexpected (kind_of message.body)) body has o least off
passed_says at side desk message body (Some d) has (took_some says) o least off =
    speaks_behind (acts.Hears side message ∷ []) d (tt, tt) (says o least off)

-- a row whose message is passed on has a connection behind it
row_passes : {s : SessionEnd} {input : Given} {row : SessionRow} {what : Horizontal}
    → IsSessionRow s input row → IsWithin input → row.actions.first ≡ Some (Pass what)
    → is_connected_state row.after.state ≡ true
row_passes opens_downstream within first = absurd within
row_passes opens_upstream within first = absurd within
row_passes (is_closed _) within first = absurd within
row_passes is_unsettled within first = cc
row_passes (gives_up_handshake _) within first = cc
row_passes (gives_up_standing _ _) within first = cc
row_passes (row_shuts_down _) within first = cc
row_passes (refuses_second _) within first = cc
row_passes (answers _) within first = cc
row_passes (is_answered _) within first = cc
row_passes (is_alive _) within first = cc
row_passes (is_notified _) within first = cc
row_passes (passes_over _) within first = cc
row_passes (asks _ _) within first = cc
row_passes _ within first = refl

pass_says : (at side : Side) (desk : Desk) (message : Message) (row : SessionRow) (body : Body)
    (took : Body → Option Done) → is_connected_state row.after.state ≡ true
    → is_open side body ≡ true
    → ((after : Body) → is_open side after ≡ true → TookSays at after (took after))
    → Says at body (passed desk side message (with_session side row.after body)
    (took (with_session side row.after body)))
pass_says at side desk message row body took on has says o least off =
    let after : Body = with_session side row.after body in
    let still : is_open side after ≡ true = changed_open side row.after body ∙ on in
    passed_says at side desk message after (took after) still (says after still) o
    (changed_least at side o row.after body (said_open at side o body has least) least)
    (changed_off at side row.after body on off)

heard_row_says : (at side : Side) (desk : Desk) (message : Message) (input : Given) (body : Body)
    (row : SessionRow) → session_row (session_at side body) input ≡ Some row → IsWithin input
    → Says at body (behind (acts.Hears side message ∷ [])
    (actions_did desk side row.actions (with_session side row.after body)))
heard_row_says at side desk message input body row is within o least off =
    speaks_behind (acts.Hears side message ∷ [])
    (actions_did desk side row.actions (with_session side row.after body)) (tt, tt)
    (session_says at side desk input body (Some row) is within o least off)

taken_says : (at side : Side) (desk : Desk) (message : Message) (input : Given) (body : Body)
    (row : SessionRow) (first : Option Action)
    → session_row (session_at side body) input ≡ Some row → IsWithin input
    → row.actions.first ≡ first
    → Says at body (taken desk side message first row.actions (with_session side row.after body))
taken_says at Entry desk message input body row (Some (Pass what)) is within first =
    pass_says at Entry desk message row body (entry_took desk (entry_word what))
    (row_passes (row_is (session_at Entry body) input row is) within first)
    (session_open Entry body input row is within) (λ after has.
    entry_says at desk (entry_word what) after has)
taken_says at Exit desk message input body row (Some (Pass what)) is within first =
    pass_says at Exit desk message row body (exit_took desk (exit_word what))
    (row_passes (row_is (session_at Exit body) input row is) within first)
    (session_open Exit body input row is within) (λ after has.
    exit_says at desk (exit_word what) after has)
taken_says at side desk message input body row None is within first =
    heard_row_says at side desk message input body row is within
taken_says at side desk message input body row (Some SendService) is within first =
    heard_row_says at side desk message input body row is within
taken_says at side desk message input body row (Some (Pong _)) is within first =
    heard_row_says at side desk message input body row is within
taken_says at side desk message input body row (Some (Ping _)) is within first =
    heard_row_says at side desk message input body row is within
taken_says at side desk message input body row (Some (Tell _)) is within first =
    heard_row_says at side desk message input body row is within
taken_says at side desk message input body row (Some Close) is within first =
    heard_row_says at side desk message input body row is within
taken_says at side desk message input body row (Some Stand) is within first =
    heard_row_says at side desk message input body row is within

rowed_says : (at side : Side) (desk : Desk) (message : Message) (input : Given) (body : Body)
    (found : Option SessionRow) → session_row (session_at side body) input ≡ found
    → IsWithin input → is_open side body ≡ true
    → Says at body (rowed desk side message body found)
rowed_says at side desk message input body None is within has =
    breaches_say at side desk (unexpected (kind_of message.body)) body has
rowed_says at side desk message input body (Some row) is within has =
    taken_says at side desk message input body row row.actions.first is within refl

word_says : (at side : Side) (desk : Desk) (word : Word) (body : Body) → is_open side body ≡ true
    → Says at body (word_did desk side word body)
word_says at side desk (SaysWord message) body has =
    rowed_says at side desk message (heard message.body (is_some (held body.outlet))) body
    (session_row (session_at side body) (heard message.body (is_some (held body.outlet)))) refl tt
    has
word_says at side desk (Wrong text) body has = breaches_say at side desk text body has

if_says : (at : Side) (test : Bool) (d : Done) (body : Body) → (test ≡ true → Says at body d)
    → Says at body (if_open test d body)
if_says at true d body says = says refl
if_says at false d body says = says_still at body

pub heard_says : (at side : Side) (desk : Desk) (words : List Word) (body : Body)
    → Says at body (all_heard desk side words body)
heard_says at side desk [] body = says_still at body
heard_says at side desk (word ∷ others) body =
    if_says at (is_open side body)
    (and_then (word_did desk side word body) (all_heard desk side others)) body
    (λ has. says_then at body (word_did desk side word body) (all_heard desk side others)
    (word_says at side desk word body has) (λ next. heard_says at side desk others next))
