-- A side that hears of the end of its connection has none then, and the other side is as it was. A machine that is
-- supervised, or no more, leaves both as they were.
use Rattle.std.proofs.Common.{◌≡◌, ◌∙◌, ap, refl, ℤ, Bool, true, false, List, []}
use Rattle.line_base.specs.declared.states.Side.{Side}
use Rattle.line_base.specs.declared.states.Side.TheVariants.{Entry, Exit}
use Rattle.handover_out.specs.Row.{outlet_row}
use Rattle.handover_out.specs.declared.input.OutInput.TheVariants as out_input
use Rattle.handover_in.specs.Row.{intake_row}
use Rattle.handover_in.specs.declared.input.InInput.TheVariants as in_input
use Rattle.node_core.specs.Desk.{Desk}
use Rattle.node_core.specs.declared.act.Act.{Act}
use Rattle.node_core.specs.declared.input.Input.TheVariants as inputs
use Rattle.node_core.specs.declared.lane.Body.{Body}
use Rattle.node_core.specs.Connect.{notices, if_open}
use Rattle.node_core.specs.Halves.{ended}
use Rattle.node_core.specs.Node.{NodeState, desk_of}
use Rattle.node_core.specs.Sides.{is_open}
use Rattle.node_core.specs.Step.{Steps}
use Rattle.node_core.proofs.Opened.{end_closes}
use Rattle.node_core.proofs.Stepping.{announces_open, intake_open, outlet_open}

abbrev pub other : Side → Side
other Entry = Exit
other Exit = Entry

ended_leaves : (desk : Desk) (side : Side) (body : Body) → is_open (other side) (ended desk side body).body ≡ is_open (other side) body
ended_leaves desk Entry body = intake_open desk Exit _ (intake_row body.intake in_input.Closed)
ended_leaves desk Exit body = outlet_open desk Entry _ (outlet_row body.outlet out_input.Closed)

opened_closes : (desk : Desk) (side : Side) (test : Bool) (told : List Act) (body : Body) → is_open side body ≡ test → is_open side (if_open test (record { body = (ended desk side body).body; acts = told }) body).body ≡ false
opened_closes desk side true told body e = end_closes desk side body
opened_closes desk side false told body e = e

opened_leaves : (desk : Desk) (side : Side) (test : Bool) (told : List Act) (body : Body) → is_open (other side) (if_open test (record { body = (ended desk side body).body; acts = told }) body).body ≡ is_open (other side) body
opened_leaves desk side true told body = ended_leaves desk side body
opened_leaves desk side false told body = refl

-- what a step with that input leaves
pub notice_closes : (s t : NodeState) (side : Side) (moment : ℤ) (told : List Act) → Steps s [] (inputs.Notice side) moment t told → is_open side t.lane.body ≡ false
notice_closes s t side moment told steps =
    let desk = desk_of s moment in
    ap (is_open side) steps.lane.body ∙ announces_open desk side (notices desk side s.lane.body).body ∙ opened_closes desk side (is_open side s.lane.body) _ s.lane.body refl

pub notice_leaves : (s t : NodeState) (side : Side) (moment : ℤ) (told : List Act) → Steps s [] (inputs.Notice side) moment t told → is_open (other side) t.lane.body ≡ is_open (other side) s.lane.body
notice_leaves s t side moment told steps =
    let desk = desk_of s moment in
    ap (is_open (other side)) steps.lane.body ∙ announces_open desk (other side) (notices desk side s.lane.body).body ∙ opened_leaves desk side (is_open side s.lane.body) _ s.lane.body

pub supervise_leaves : (s t : NodeState) (on : Bool) (side : Side) (moment : ℤ) (told : List Act) → Steps s [] (inputs.Supervise on) moment t told → is_open side t.lane.body ≡ is_open side s.lane.body
supervise_leaves s t on side moment told steps = ap (is_open side) steps.lane.body ∙ announces_open (desk_of s moment) side s.lane.body
