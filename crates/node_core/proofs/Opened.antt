-- A side has a connection, or none.
use Rattle.std.proofs.Common.{◌≡◌, ◌∙◌, true, false, Option, Some, None, ℕ, List, refl, sym, ap}
use Rattle.std.specs.Prelude.{◌≢◌}
use Rattle.std.proofs.lemmas.Bool.{false≢true}
use Rattle.line_base.specs.declared.states.Side.{Side}
use Rattle.line_base.specs.declared.states.Side.TheVariants.{Entry, Exit}
use Rattle.line_base.specs.declared.states.Role.{Role}
use Rattle.line_base.specs.declared.states.Role.TheVariants.{Upstream, Downstream}
use Rattle.session_core.specs.declared.state.SessionState.{SessionState}
use Rattle.session_core.specs.declared.state.SessionState.TheVariants.{NotConnected, Handshake, Standing}
use Rattle.session_core.specs.declared.actions.Actions.{Actions}
use Rattle.session_core.specs.End.{SessionEnd, at_rest, is_connected_state}
use Rattle.session_core.specs.Input.{Input, opened, second, tick, shutdown}
use Rattle.session_core.specs.Row.{SessionRow, session_row, row, opened_row, connected_row, second_row}
use Rattle.handover_out.specs.Row.{OutRow, outlet_row}
use Rattle.handover_out.specs.declared.input.OutInput.TheVariants as out_input
use Rattle.handover_in.specs.Row.{InRow, intake_row}
use Rattle.handover_in.specs.declared.input.InInput.TheVariants as in_input
use Rattle.node_core.specs.Desk.{Desk}
use Rattle.node_core.specs.declared.lane.Body.{Body}
use Rattle.node_core.specs.declared.lane.End.{End}
use Rattle.node_core.specs.Halves.{intake_row_did, outlet_row_did, ended}
use Rattle.node_core.specs.Sides.{is_open, session_at, with_session}
use Rattle.node_core.specs.Session.{breaches, session_did, actions_did}

pub not_off : (state : SessionState) → is_connected_state state ≡ true → state ≢ NotConnected
not_off state on = λ off. false≢true (sym (ap is_connected_state off) ∙ on)

pub is_off : (state : SessionState) → is_connected_state state ≡ false → state ≡ NotConnected
is_off NotConnected off = refl
is_off Handshake off = absurd (false≢true (sym off))
is_off Standing off = absurd (false≢true (sym off))

-- where a session has no row

opened_none : (state : SessionState) (s : SessionEnd) → is_connected_state state ≡ true → opened_row state s ≡ None
opened_none NotConnected s on = absurd (false≢true on)
opened_none Handshake s on = refl
opened_none Standing s on = refl

pub opened_has_none : (s : SessionEnd) → is_connected_state s.state ≡ true → session_row s opened ≡ None
opened_has_none s on = opened_none s.state s on

connected_none : (state : SessionState) (after : SessionEnd) (actions : Actions) → is_connected_state state ≡ false → connected_row state after actions ≡ None
connected_none NotConnected after actions off = refl
connected_none Handshake after actions off = absurd (false≢true (sym off))
connected_none Standing after actions off = absurd (false≢true (sym off))

pub tick_has_none : (s : SessionEnd) → is_connected_state s.state ≡ false → session_row s tick ≡ None
tick_has_none s off = connected_none s.state _ _ off

pub shutdown_has_none : (s : SessionEnd) → is_connected_state s.state ≡ false → session_row s shutdown ≡ None
shutdown_has_none s off = connected_none s.state _ _ off

second_none : (role : Role) (s : SessionEnd) → is_connected_state s.state ≡ false → second_row role s ≡ None
second_none Upstream s off = connected_none s.state _ _ off
second_none Downstream s off = refl

pub second_has_none : (s : SessionEnd) → is_connected_state s.state ≡ false → session_row s second ≡ None
second_has_none s off = second_none s.role s off

-- where it has one
pub row_did : (desk : Desk) (side : Side) (input : Input) (body after : Body) (actions : Actions)
    → session_row (session_at side body) input ≡ row (session_at side after) actions
    → after ≡ with_session side (session_at side after) body
    → session_did desk side (session_row (session_at side body) input) body ≡ actions_did desk side actions after
row_did desk side input body after actions is same =
    ap (λ (r : Option SessionRow). session_did desk side r body) is ∙ ap (actions_did desk side actions) (sym same)

-- a half does nothing to the sides

intake_keeps : (desk : Desk) (body : Body) (r : Option InRow) → (intake_row_did desk body r).body.entry ≡ body.entry
intake_keeps desk body None = refl
intake_keeps desk body (Some r) = refl

outlet_keeps : (desk : Desk) (body : Body) (r : Option OutRow) → (outlet_row_did desk body r).body.exit ≡ body.exit
outlet_keeps desk body None = refl
outlet_keeps desk body (Some r) = refl

pub end_closes : (desk : Desk) (side : Side) (body : Body) → is_open side (ended desk side body).body ≡ false
end_closes desk Entry body = ap (λ (e : End). is_connected_state e.session.state) (intake_keeps desk (with_session Entry (at_rest (session_at Entry body).role) body) (intake_row body.intake in_input.Closed))
end_closes desk Exit body = ap (λ (e : End). is_connected_state e.session.state) (outlet_keeps desk (with_session Exit (at_rest (session_at Exit body).role) body) (outlet_row body.outlet out_input.Closed))

-- a breach closes
pub breach_closes : (desk : Desk) (side : Side) (text : List ℕ) (body : Body) → is_open side (breaches desk side text body).body ≡ false
breach_closes desk side text body = end_closes desk side body
