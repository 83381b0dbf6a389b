-- What a message does, by the row of the session.
use Rattle.std.proofs.Common.{◌≡◌, ◌∙◌, ap, sym}
use Rattle.std.specs.Prelude.{is_some, None}
use Rattle.line_base.specs.declared.states.Side.{Side}
use Rattle.hermes_horizontal.specs.declared.message.Message.{Message}
use Rattle.hermes_horizontal.specs.declared.message.Horizontal.{Horizontal}
use Rattle.hermes_horizontal.specs.Parts.{kind_of}
use Rattle.session_core.specs.declared.actions.Actions.{Actions}
use Rattle.session_core.specs.Breach.{unexpected}
use Rattle.session_core.specs.Input.{heard}
use Rattle.session_core.specs.Row.{session_row, row}
use Rattle.handover_out.specs.State.{held}
use Rattle.node_core.specs.Desk.{Desk}
use Rattle.node_core.specs.declared.lane.Body.{Body}
use Rattle.node_core.specs.Sides.{session_at, with_session}
use Rattle.node_core.specs.Session.{breaches}
use Rattle.node_core.specs.Hears.{hears, rowed, taken}

-- the session has a row
pub hears_row : (desk : Desk) (side : Side) (message : Message) (what : Horizontal) (body after : Body) (actions : Actions)
    → what ≡ message.body
    → session_row (session_at side body) (heard what (is_some (held body.outlet))) ≡ row (session_at side after) actions
    → after ≡ with_session side (session_at side after) body
    → hears desk side message body ≡ taken desk side message actions.first actions after
hears_row desk side message what body after actions copy is same =
    ap (λ (b : Horizontal). rowed desk side message body (session_row (session_at side body) (heard b (is_some (held body.outlet))))) (sym copy) ∙ ap (rowed desk side message body) is ∙ ap (taken desk side message actions.first actions) (sym same)

-- it has none
pub hears_none : (desk : Desk) (side : Side) (message : Message) (what : Horizontal) (body : Body)
    → what ≡ message.body
    → session_row (session_at side body) (heard what (is_some (held body.outlet))) ≡ None
    → hears desk side message body ≡ breaches desk side (unexpected (kind_of message.body)) body
hears_none desk side message what body copy is =
    ap (λ (b : Horizontal). rowed desk side message body (session_row (session_at side body) (heard b (is_some (held body.outlet))))) (sym copy) ∙ ap (rowed desk side message body) is
