-- The neighbour is known to be ready only while no handover is open and the exit's session stands.
-- Each piece of which a step is made keeps that.
use Rattle.std.proofs.Common.{◌≡◌, ◌∙◌, Bool, true, false, List, Some, refl, ap}
use Rattle.std.specs.Prelude.{cond}
use Rattle.line_base.specs.declared.states.Side.{Side}
use Rattle.line_base.specs.declared.states.Side.TheVariants.{Entry, Exit}
use Rattle.board_record.specs.declared.sensed.Sensed.{Sensed as Seen}
use Rattle.hermes_horizontal.specs.declared.message.Horizontal.{Horizontal}
use Rattle.session_core.specs.declared.actions.Action.TheVariants.{Close, Pass, Tell}
use Rattle.session_core.specs.declared.actions.Tell.{Tell as Said}
use Rattle.session_core.specs.Acts.{one, two}
use Rattle.session_core.specs.End.{SessionEnd, is_standing_state}
use Rattle.session_core.specs.Input.{Input as Given, heard}
use Rattle.session_core.specs.Row.{SessionRow, session_row}
use Rattle.session_core.specs.Table.{
  IsSessionRow,
  gives_up_standing,
  is_closed,
  shuts_down,
  stands_downstream,
  stands_upstream,
}
use Rattle.session_core.proofs.Rows.{row_is as session_row_is}
use Rattle.handover_out.specs.declared.input.OutInput.{OutInput}
use Rattle.handover_out.specs.declared.input.OutInput.TheVariants as out_input
use Rattle.handover_out.specs.declared.phase.Phase.{Phase}
use Rattle.handover_out.specs.declared.phase.Phase.TheVariants.{Idle, Moving, Stuck, Ended}
use Rattle.handover_out.specs.Row.{OutRow}
use Rattle.handover_out.specs.State.{OutState}
use Rattle.handover_out.specs.Table.{IsOutletRow, gets_ready}
use Rattle.node_core.specs.declared.lane.Body.{Body}
use Rattle.node_core.specs.declared.word.Word.{Word}
use Rattle.node_core.specs.Desk.{Desk}
use Rattle.node_core.specs.Done.{Done}
use Rattle.node_core.specs.Event.{Event}
use Rattle.node_core.specs.Halves.{half_closed}
use Rattle.node_core.specs.Reads.{all_read}
use Rattle.node_core.specs.Session.{actions_did}
use Rattle.node_core.specs.Sides.{is_standing, session_at, with_session}
use Rattle.node_core.specs.Step.{machine_step}
use Rattle.node_core.specs.Words.{word_did}
use Rattle.step_rules.specs.Causes.{Cause, ToOutlet, out_ready}
use Rattle.step_rules.specs.Made.{
  Made,
  made_act,
  made_both,
  made_breach,
  made_by_hand,
  made_close,
  made_intake,
  made_none,
  made_notice,
  made_outlet,
  made_passed,
  made_row,
  made_start,
  made_will,
  made_word,
  without_connection,
}
use Rattle.step_rules.proofs.Inputs.{IsNoClose, no_close}
use Rattle.step_rules.proofs.Passing.{passes_standing}
use Rattle.step_rules.proofs.Steps.{all_read_made, step_made, word_made}

-- the neighbour is ready though a handover is open
abbrev pub is_ready_within : Phase → Bool → Bool
is_ready_within Idle ready = false
is_ready_within _ ready = ready

-- the neighbour is ready though the session doesn't stand
abbrev pub is_ready_without : Bool → Bool → Bool
is_ready_without standing ready = cond standing false ready

pub record Linked (body : Body) : Type 0 where
  pub idle : is_ready_within body.outlet.phase body.outlet.ready ≡ false
  pub stands : is_ready_without (is_standing Exit body) body.outlet.ready ≡ false

-- a body with the same outlet and the same session
linked_same : (body after : Body) → Linked body → after.outlet ≡ body.outlet
    → after.exit.session ≡ body.exit.session → Linked after
linked_same body after h outlet session = record {
  idle = ap (λ (s : OutState). is_ready_within s.phase s.ready) outlet ∙ h.idle;
  stands =
      ap (λ (s : OutState). is_ready_without (is_standing_state after.exit.session.state) s.ready)
      outlet
      ∙ ap (λ (e : SessionEnd). is_ready_without (is_standing_state e.state) body.outlet.ready)
      session ∙ h.stands;
}

within_none : (phase : Phase) (ready : Bool) → ready ≡ false → is_ready_within phase ready ≡ false
within_none Idle ready none = refl
within_none (Moving board begun) ready none = none
within_none (Stuck board linked stopped) ready none = none
within_none (Ended id) ready none = none

without_none : (standing ready : Bool) → ready ≡ false → is_ready_without standing ready ≡ false
without_none true ready none = refl
without_none false ready none = none

unready_linked : (body : Body) → body.outlet.ready ≡ false → Linked body
unready_linked body none = record {
  idle = within_none body.outlet.phase body.outlet.ready none;
  stands = without_none (is_standing Exit body) body.outlet.ready none;
}

-- ---- the outlet

row_idle : {s : OutState} {input : OutInput} {row : OutRow} → IsOutletRow s input row
    → is_ready_within s.phase s.ready ≡ false
    → is_ready_within row.after.phase row.after.ready ≡ false
row_idle gets_ready h = refl
row_idle _ h = cc

abbrev IsNotReady : OutInput → Type 0
IsNotReady out_input.MachineReady = ⊥
IsNotReady _ = Unit {0}

row_unready : {s : OutState} {input : OutInput} {row : OutRow} → IsOutletRow s input row
    → IsNotReady input → s.ready ≡ false → row.after.ready ≡ false
row_unready gets_ready none h = absurd none
row_unready _ none h = cc

row_stands : {s : OutState} {input : OutInput} {row : OutRow} (standing : Bool)
    → IsOutletRow s input row → IsNotReady input → is_ready_without standing s.ready ≡ false
    → is_ready_without standing row.after.ready ≡ false
row_stands true shape none h = refl
row_stands false shape none h = row_unready shape none h

-- a place is announced only where the session stands
input_stands : {cause : Cause} {body : Body} {input : OutInput} {row : OutRow} {s : OutState}
    → ToOutlet cause body input → IsOutletRow s input row
    → is_ready_without (is_standing Exit body) s.ready ≡ false
    → is_ready_without (is_standing Exit body) row.after.ready ≡ false
input_stands {row = row} (out_ready says on) shape h =
    ap (λ (b : Bool). is_ready_without b row.after.ready) on
input_stands {body = body} _ shape h = row_stands (is_standing Exit body) shape tt h

-- the outlet hears that its connection is closed
exit_closed : (desk : Desk) (phase : Phase) (body : Body) → body.outlet.phase ≡ phase
    → (half_closed desk Exit body).body.outlet.ready ≡ false
exit_closed desk Idle body is = rw is refl
exit_closed desk (Moving board true) body is = rw is refl
exit_closed desk (Moving board false) body is = rw is refl
exit_closed desk (Stuck board linked stopped) body is = rw is refl
exit_closed desk (Ended id) body is = rw is refl

closed_linked : (desk : Desk) (body : Body) → Linked (half_closed desk Exit body).body
closed_linked desk body =
    unready_linked (half_closed desk Exit body).body
    (exit_closed desk body.outlet.phase body refl)

-- ---- sessions

-- a session stands on, or its machine closes the connection
data Lasts (s : SessionEnd) (row : SessionRow) : Type 0 where
  lasts : ((ready : Bool) → is_ready_without (is_standing_state s.state) ready ≡ false
      → is_ready_without (is_standing_state row.after.state) ready ≡ false) → Lasts s row
  closes_first : row.actions ≡ one Close → Lasts s row
  closes_then : {what : Said} → row.actions ≡ two (Tell what) Close → Lasts s row

row_lasts : {s : SessionEnd} {input : Given} {row : SessionRow} → IsSessionRow s input row
    → IsNoClose input → Lasts s row
row_lasts (is_closed _) none = absurd none
row_lasts (gives_up_standing _ _) none = closes_first refl
row_lasts (shuts_down _) none = closes_then refl
row_lasts stands_upstream none = lasts (λ ready h. refl)
row_lasts stands_downstream none = lasts (λ ready h. refl)
row_lasts _ none = lasts (λ ready h. h)

session_stands : (s : SessionEnd) (body : Body)
    → (is_ready_without (is_standing Exit body) body.outlet.ready ≡ false
    → is_ready_without (is_standing_state s.state) body.outlet.ready ≡ false) → Linked body
    → Linked (with_session Exit s body)
session_stands s body goes h = record { idle = h.idle; stands = goes h.stands }

-- the session of the entry is another
entry_linked : (s : SessionEnd) (body : Body) → Linked body → Linked (with_session Entry s body)
entry_linked s body h = linked_same body (with_session Entry s body) h refl refl

-- what follows the session's row
lasting : (desk : Desk) (row : SessionRow) (body : Body)
    → (Linked (with_session Exit row.after body)
    → Linked (actions_did desk Exit row.actions (with_session Exit row.after body)).body)
    → Lasts (session_at Exit body) row → Linked body
    → Linked (actions_did desk Exit row.actions (with_session Exit row.after body)).body
lasting desk row body later (lasts goes) h =
    later (session_stands row.after body (goes body.outlet.ready) h)
lasting desk row body later (closes_first is) h =
    rw is (closed_linked desk (with_session Exit row.after body))
lasting desk row body later (closes_then is) h =
    rw is (closed_linked desk (with_session Exit row.after body))

-- a message is passed on only where the session stands
exit_passes : (row : SessionRow) (body : Body) → is_standing_state row.after.state ≡ true
    → Linked body → Linked (with_session Exit row.after body)
exit_passes row body stands h =
    session_stands row.after body (λ _. ap (λ (b : Bool). is_ready_without b body.outlet.ready)
    stands) h

pub pass_linked : (side : Side) (said : Horizontal) (unsettled : Bool) (body : Body)
    (row : SessionRow) (what : Horizontal)
    → session_row (session_at side body) (heard said unsettled) ≡ Some row
    → row.actions.first ≡ Some (Pass what) → Linked body
    → Linked (with_session side row.after body)
pass_linked Entry said unsettled body row what is first h = entry_linked row.after body h
pass_linked Exit said unsettled body row what is first h =
    exit_passes row body
    (passes_standing (session_row_is (session_at Exit body) (heard said unsettled) row is) first) h

-- ---- the pieces of a step

linked_on : {desk : Desk} {cause : Cause} {body : Body} {d : Done} → Made desk cause body d
    → Linked body → Linked d.body
linked_on made_none h = h
linked_on (made_both one two) h = linked_on two (linked_on one h)
linked_on (made_word is on made) h = linked_on made h
linked_on (made_act tells) h = h
linked_on (made_row {side = Entry} {row = row} {body = body} to shape made) h =
    linked_on made (entry_linked row.after body h)
linked_on {desk = desk} (made_row {side = Exit} {row = row} {body = body} to shape made) h =
    lasting desk row body (linked_on made) (row_lasts shape (no_close to)) h
linked_on (made_passed {side = Entry} {row = row} {body = body} shape first on made) h =
    linked_on made (entry_linked row.after body h)
linked_on (made_passed {side = Exit} {row = row} {body = body} shape first on made) h =
    linked_on made (exit_passes row body on h)
linked_on (made_close talk made) h = linked_on made h
linked_on (made_notice {side = Entry} {body = body} on made) h =
    linked_on made (entry_linked _ body h)
linked_on {desk = desk} (made_notice {side = Exit} {body = body} on made) h =
    closed_linked desk (without_connection Exit body)
linked_on (made_breach {side = Entry} {body = body} made) h =
    linked_on made (entry_linked _ body h)
linked_on {desk = desk} (made_breach {side = Exit} {body = body} made) h =
    closed_linked desk (without_connection Exit body)
linked_on (made_start {body = body} says on shape) h = record {
  idle = row_idle shape h.idle;
  stands = row_stands (is_standing Exit body) shape tt h.stands;
}
linked_on (made_outlet to shape) h =
    record { idle = row_idle shape h.idle; stands = input_stands to shape h.stands }
linked_on (made_intake {body = body} to shape) h = linked_same body _ h refl refl
linked_on (made_by_hand {body = body} hand) h = linked_same body _ h refl refl
linked_on (made_will {side = Entry} {body = body} sets) h = linked_same body _ h refl refl
linked_on (made_will {side = Exit} {body = body} sets) h = linked_same body _ h refl refl

pub word_linked : (desk : Desk) (side : Side) (word : Word) (body : Body) → Linked body
    → Linked (word_did desk side word body).body
word_linked desk side word body h = linked_on (word_made desk side word body) h

pub all_read_linked : (desk : Desk) (unread : List Seen) (body : Body) → Linked body
    → Linked (all_read desk unread body).body
all_read_linked desk unread body h = linked_on (all_read_made desk unread body) h

pub step_linked : (desk : Desk) (unread : List Seen) (event : Event) (body : Body) → Linked body
    → Linked (machine_step desk unread event body).body
step_linked desk unread event body h =
    let step = step_made desk unread event body in
    linked_on step.announced (linked_on step.met (linked_on step.read h))
