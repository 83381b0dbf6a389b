-- A side without a connection whose half has no handover stays so in a step that makes no
-- connection there: each piece of which the step is made leaves it so.
use Rattle.std.proofs.Common.{◌≡◌, ◌∙◌, true, List, refl, sym, ap}
use Rattle.std.specs.Prelude.{◌&&◌, is_some}
use Rattle.std.proofs.lemmas.Bool.{false≢true}
use Rattle.node_core.proofs.HalfRows.{IsNoStart as IsNoBid}
use Rattle.line_base.specs.declared.states.Side.{Side}
use Rattle.line_base.specs.declared.states.Side.TheVariants.{Entry, Exit}
use Rattle.board_record.specs.declared.sensed.Sensed.{Sensed as Seen}
use Rattle.session_core.specs.declared.state.SessionState.{SessionState}
use Rattle.session_core.specs.declared.state.SessionState.TheVariants.{NotConnected}
use Rattle.session_core.specs.End.{SessionEnd, is_standing_state}
use Rattle.session_core.specs.Input.{Input}
use Rattle.handover_out.specs.declared.input.OutInput.{OutInput}
use Rattle.handover_out.specs.declared.phase.Phase.TheVariants as out
use Rattle.handover_out.specs.Row.{OutRow}
use Rattle.handover_out.specs.State.{OutState}
use Rattle.handover_out.specs.Table.{IsOutletRow, opens, refuses}
use Rattle.handover_in.specs.declared.input.InInput.{InInput}
use Rattle.handover_in.specs.declared.input.InInput.TheVariants as in_input
use Rattle.handover_in.specs.declared.phase.Phase.TheVariants as inn
use Rattle.handover_in.specs.Row.{InRow}
use Rattle.handover_in.specs.State.{InState}
use Rattle.handover_in.specs.Table.{IsIntakeRow, starts_transport}
use Rattle.node_core.specs.declared.lane.Body.{Body}
use Rattle.node_core.specs.Announces.{is_intake_free, starts_now}
use Rattle.node_core.specs.Desk.{Desk}
use Rattle.node_core.specs.Done.{Done}
use Rattle.node_core.specs.Event.{Accepted, Connect, Event}
use Rattle.node_core.specs.Sides.{session_at, with_session}
use Rattle.node_core.specs.Step.{machine_step}
use Rattle.step_rules.specs.Causes.{
  Cause,
  Meeting,
  ToIntake,
  ToSession,
  by_accept,
  by_connect,
  in_start,
}
use Rattle.step_rules.specs.Made.{
  Made,
  made_act,
  made_both,
  made_breach,
  made_by_hand,
  made_close,
  made_intake,
  made_none,
  made_notice,
  made_outlet,
  made_passed,
  made_row,
  made_start,
  made_will,
  made_word,
  without_connection,
}
use Rattle.step_rules.proofs.Inputs.{IsNoStart, no_start, none_without}
use Rattle.step_rules.proofs.Inputs as inputs
use Rattle.step_rules.proofs.Steps.{step_made}

-- the half of a side has no handover
abbrev pub IsFree : Side → Body → Type 0
IsFree Entry body = body.intake.phase ≡ inn.Idle
IsFree Exit body = body.outlet.phase ≡ out.Idle

-- a side has no connection, and its half no handover
pub record Rests (at : Side) (body : Body) : Type 0 where
  pub off : (session_at at body).state ≡ NotConnected
  pub free : IsFree at body

-- an event that makes no connection at a side
abbrev pub IsNoOpening : Side → Event → Type 0
IsNoOpening Entry Connect = ⊥
IsNoOpening Exit Accepted = ⊥
IsNoOpening _ _ = Unit {0}

-- ---- the rows of the halves: without a handover, all but a start leave it without one

out_row : {s : OutState} {input : OutInput} {row : OutRow} → IsOutletRow s input row
    → IsNoStart input → s.phase ≡ out.Idle → row.after.phase ≡ out.Idle
out_row (opens _) plain is = absurd plain
out_row (refuses _) plain is = absurd plain
out_row _ plain is = cc

in_row : {s : InState} {input : InInput} {row : InRow} → IsIntakeRow s input row → IsNoBid input
    → s.phase ≡ inn.Idle → row.after.phase ≡ inn.Idle
in_row starts_transport plain is = absurd plain
in_row _ plain is = cc

-- a start is for a session that stands
starts_not : (body : Body) → Rests Entry body → starts_now body ≡ true → ⊥
starts_not body k now =
    absurd
    (false≢true
    (sym (ap (λ (state : SessionState). is_standing_state state && is_intake_free body
    && body.intake.ready && is_some body.intake.offer) k.off) ∙ now))

no_bid : {desk : Desk} {cause : Cause} {body : Body} {input : InInput}
    → ToIntake desk cause body input → Rests Entry body → IsNoBid input
no_bid {body = body} (in_start now) k = absurd (starts_not body k now)
no_bid _ k = tt

-- ---- the sessions

abbrev OpensNot : Side → Cause → Type 0
OpensNot at (Meeting event) = IsNoOpening at event
OpensNot at _ = Unit {0}

none_opens : {cause : Cause} {side : Side} {input : Input} → ToSession cause side input
    → OpensNot side cause → inputs.IsNoOpening input
none_opens by_connect none = absurd none
none_opens by_accept none = absurd none
none_opens _ none = tt

-- the session of a side is at an end
ended : (at side : Side) (body : Body) → Rests at body → Rests at (without_connection side body)
ended Entry Entry body k = record { off = refl; free = k.free }
ended Exit Exit body k = record { off = refl; free = k.free }
ended Entry Exit body k = record { off = k.off; free = k.free }
ended Exit Entry body k = record { off = k.off; free = k.free }

entry_aside : (s : SessionEnd) (body : Body) → Rests Exit body → Rests Exit (with_session Entry s body)
entry_aside s body k = record { off = k.off; free = k.free }

exit_aside : (s : SessionEnd) (body : Body) → Rests Entry body → Rests Entry (with_session Exit s body)
exit_aside s body k = record { off = k.off; free = k.free }

-- ---- the pieces of a step

stills : {desk : Desk} {cause : Cause} {body : Body} {d : Done} (at : Side)
    → Made desk cause body d → OpensNot at cause → Rests at body → Rests at d.body
stills at made_none none k = k
stills at (made_both one two) none k = stills at two none (stills at one none k)
stills at (made_word is on made) none k = stills at made tt k
stills at (made_act tells) none k = k
stills Entry (made_row {side = Entry} to shape made) none k =
    absurd (none_without shape (none_opens to none) k.off)
stills Exit (made_row {side = Exit} to shape made) none k =
    absurd (none_without shape (none_opens to none) k.off)
stills Entry (made_row {side = Exit} {row = row} {body = body} to shape made) none k =
    stills Entry made none (exit_aside row.after body k)
stills Exit (made_row {side = Entry} {row = row} {body = body} to shape made) none k =
    stills Exit made none (entry_aside row.after body k)
stills Entry (made_passed {side = Entry} shape first on made) none k =
    absurd (none_without shape tt k.off)
stills Exit (made_passed {side = Exit} shape first on made) none k =
    absurd (none_without shape tt k.off)
stills Entry (made_passed {side = Exit} {row = row} {body = body} shape first on made) none k =
    stills Entry made none (exit_aside row.after body k)
stills Exit (made_passed {side = Entry} {row = row} {body = body} shape first on made) none k =
    stills Exit made none (entry_aside row.after body k)
stills at (made_close talk made) none k = stills at made none k
stills at (made_notice {side = side} {body = body} on made) none k =
    stills at made none (ended at side body k)
stills at (made_breach {side = side} {body = body} made) none k =
    stills at made none (ended at side body k)
stills Entry (made_start says on shape) none k = record { off = k.off; free = k.free }
stills Exit (made_start says on shape) none k =
    absurd (false≢true (sym (ap is_standing_state k.off) ∙ on))
stills Entry (made_outlet to shape) none k = record { off = k.off; free = k.free }
stills Exit (made_outlet to shape) none k =
    record { off = k.off; free = out_row shape (no_start to) k.free }
stills Entry (made_intake to shape) none k =
    record { off = k.off; free = in_row shape (no_bid to k) k.free }
stills Exit (made_intake to shape) none k = record { off = k.off; free = k.free }
stills Entry (made_by_hand hand) none k = record { off = k.off; free = k.free }
stills Exit (made_by_hand hand) none k = record { off = k.off; free = k.free }
stills Entry (made_will {side = Entry} sets) none k = record { off = k.off; free = k.free }
stills Entry (made_will {side = Exit} sets) none k = record { off = k.off; free = k.free }
stills Exit (made_will {side = Entry} sets) none k = record { off = k.off; free = k.free }
stills Exit (made_will {side = Exit} sets) none k = record { off = k.off; free = k.free }

-- A STEP THAT MAKES NO CONNECTION AT A SIDE AT REST LEAVES IT AT REST
pub step_rests : (at : Side) (desk : Desk) (unread : List Seen) (event : Event) (body : Body)
    → IsNoOpening at event → Rests at body → Rests at (machine_step desk unread event body).body
step_rests at desk unread event body none k =
    let step = step_made desk unread event body in
    stills at step.announced tt (stills at step.met none (stills at step.read tt k))
