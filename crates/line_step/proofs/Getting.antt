-- An input that a machine may get: what the machine says of it, and that a board that is taken out,
-- or goes to another lane, lies there.
use Rattle.std.proofs.Common.{◌≡◌, ℕ, Bool, true, false, Option, Some, None, Result, Ok, Err, refl, subst}
use Rattle.std.specs.Prelude.{is_some, not}
use Rattle.line_base.specs.declared.states.Side.{Side}
use Rattle.handover_out.specs.State.{is_id}
use Rattle.node_core.specs.Boards.{is_kept}
use Rattle.node_core.specs.May as own
use Rattle.node_core.specs.Node.{NodeState}
use Rattle.node_core.specs.declared.input.Input.{Input}
use Rattle.node_core.specs.declared.input.Input.TheVariants as inputs
use Rattle.node_core.specs.declared.input.No.{No}
use Rattle.node_core.specs.declared.input.No.TheVariants as nos
use Rattle.node_core.proofs.Lasting.{may_alone}
use Rattle.line_report.specs.declared.happening.Reason.{Reason}
use Rattle.line_report.specs.declared.happening.Reason.TheVariants as reasons
use Rattle.line_step.specs.State.{LineState, machine_in}
use Rattle.line_step.specs.Reasons.{May, behind_own, has_neighbour, if_there, is_here, may_do, may_give, may_take_in, no_if}
use Rattle.line_step.proofs.Answering.{answer_may}
use Rattle.line_step.specs.Requests.{may_get}

pub own_first : (mine : Result (Unit {0}) No) (next : May) → behind_own mine next ≡ may_do → mine ≡ own.may_do
own_first (Ok _) next is = refl
own_first (Err why) next is = cc

own_next : (mine : Result (Unit {0}) No) (next : May) → behind_own mine next ≡ may_do → next ≡ may_do
own_next (Ok _) next is = is
own_next (Err why) next is = cc

pub passed : (test : Bool) (reason : Reason) (next : May) → no_if test reason next ≡ may_do → next ≡ may_do
passed false reason next is = is
passed true reason next is = cc

passed_here : (here : Bool) (reason : Reason) (next : May) → no_if (not here) reason next ≡ may_do → here ≡ true
passed_here true reason next is = refl
passed_here false reason next is = cc

pub there_may : (there : Option NodeState) (node : NodeState) (may : NodeState → May) → there ≡ Some node → if_there there may ≡ may_do → may node ≡ may_do
there_may (Some other) node may is can = (let same : other ≡ node = cc in subst (λ (n : NodeState). may n ≡ may_do) same can)
there_may None node may is can = cc

pub give_may : (machine : ℕ) (input : Input) (s : LineState) (node : NodeState) → machine_in machine s ≡ Some node → may_give machine input s ≡ may_do → own.may_of node input ≡ own.may_do
give_may machine input s node there may = own_first (own.may_of node input) may_do (there_may (machine_in machine s) node (λ n. behind_own (own.may_of n input) may_do) there may)

pub reach_may : (machine : ℕ) (side : Side) (s : LineState) (node : NodeState) (neighbour : Bool) (next : May) → machine_in machine s ≡ Some node
    → if_there (machine_in machine s) (λ n. no_if neighbour reasons.NoNeighbour (behind_own (own.may_reach side n.lane.body) next)) ≡ may_do → own.may_reach side node.lane.body ≡ own.may_do
reach_may machine side s node neighbour next there may =
    own_first (own.may_reach side node.lane.body) next (passed neighbour reasons.NoNeighbour (behind_own (own.may_reach side node.lane.body) next) (there_may (machine_in machine s) node (λ n. no_if neighbour reasons.NoNeighbour (behind_own (own.may_reach side n.lane.body) next)) there may))

replace_may : (machine id : ℕ) (s : LineState) (node : NodeState) → machine_in machine s ≡ Some node → may_get machine (inputs.Replace id) s ≡ may_do
    → behind_own (own.may_of node (inputs.Remove id)) (no_if (not (is_here machine id s.world)) reasons.NotHere (behind_own (own.may_of node (inputs.Replace id)) may_do)) ≡ may_do
replace_may machine id s node there may =
    there_may (machine_in machine s) node (λ n. behind_own (own.may_of n (inputs.Remove id)) (no_if (not (is_here machine id s.world)) reasons.NotHere (behind_own (own.may_of n (inputs.Replace id)) may_do))) there may

remove_may : (machine id : ℕ) (s : LineState) (node : NodeState) → machine_in machine s ≡ Some node → may_get machine (inputs.Remove id) s ≡ may_do
    → behind_own (own.may_of node (inputs.Remove id)) (no_if (not (is_here machine id s.world)) reasons.NotHere may_do) ≡ may_do
remove_may machine id s node there may =
    there_may (machine_in machine s) node (λ n. behind_own (own.may_of n (inputs.Remove id)) (no_if (not (is_here machine id s.world)) reasons.NotHere may_do)) there may

-- what stands of a board that may go to another lane
pub record CanGive (machine id : ℕ) (s : LineState) (node : NodeState) : Type 0 where
  pub bridge : is_some node.bridge ≡ false
  pub kept : is_kept id node.lane.body.kept ≡ true
  pub here : is_here machine id s.world ≡ true
  pub last : is_id node.lane.body.last_offer id ≡ false

can_give : (bridge kept here last : Bool)
    → no_if bridge (reasons.Node nos.Bridge)
    (no_if (not kept) (reasons.Node nos.NotKept)
    (no_if (not here) reasons.NotHere (no_if last (reasons.Node nos.WasOffered) may_do))) ≡ may_do
    → (bridge ≡ false) × ((kept ≡ true) × ((here ≡ true) × (last ≡ false)))
can_give false true true false may = (refl, (refl, (refl, refl)))
can_give true kept here last may = cc
can_give false false here last may = cc
can_give false true false last may = cc
can_give false true true true may = cc

pub gives_can : (machine id to : ℕ) (s : LineState) (node : NodeState)
    → machine_in machine s ≡ Some node → may_get machine (inputs.Gives id to) s ≡ may_do
    → CanGive machine id s node
gives_can machine id to s node there may =
    let all =
    can_give (is_some node.bridge) (is_kept id node.lane.body.kept) (is_here machine id s.world)
    (is_id node.lane.body.last_offer id)
    (there_may (machine_in machine s) node (λ n.
    no_if (is_some n.bridge) (reasons.Node nos.Bridge)
    (no_if (not (is_kept id n.lane.body.kept)) (reasons.Node nos.NotKept)
    (no_if (not (is_here machine id s.world)) reasons.NotHere
    (no_if (is_id n.lane.body.last_offer id) (reasons.Node nos.WasOffered) may_do)))) there may) in
    record { bridge = all.0; kept = all.1.0; here = all.1.1.0; last = all.1.1.1 }

away_may : (machine id : ℕ) (s : LineState) (node : NodeState) → CanGive machine id s node
    → own.may_give id node ≡ own.may_do
away_may machine id s node can = rw (can.bridge, can.kept, can.last) refl

take_in_may : (machine : ℕ) (s : LineState) (node : NodeState)
    → machine_in machine s ≡ Some node → may_take_in machine s ≡ may_do
    → own.may_get node ≡ own.may_do
take_in_may machine s node there may =
    own_first (own.may_get node) may_do
    (there_may (machine_in machine s) node (λ n. behind_own (own.may_get n) may_do) there may)

-- WHAT A MACHINE MAY GET, it says itself
pub get_may : (machine : ℕ) (input : Input) (s : LineState) (node : NodeState) → machine_in machine s ≡ Some node → may_get machine input s ≡ may_do → own.may_on_lane node input ≡ own.may_do
get_may machine (inputs.Remove id) s node there may = own_first _ _ (remove_may machine id s node there may)
get_may machine (inputs.Replace id) s node there may =
    own_first _ may_do (passed (not (is_here machine id s.world)) reasons.NotHere _ (own_next (own.may_of node (inputs.Remove id)) _ (replace_may machine id s node there may)))
get_may machine (inputs.Notice side) s node there may = reach_may machine side s node (not (has_neighbour machine side s)) _ there may
get_may machine inputs.Nothing s node there may = refl
get_may machine (inputs.Answer query order) s node there may = give_may machine (inputs.Answer query order) s node there (answer_may machine query order s may)
get_may machine inputs.Connect s node there may = cc
get_may machine inputs.Accepted s node there may = cc
get_may machine inputs.Second s node there may = cc
get_may machine (inputs.Bytes side piece) s node there may = cc
get_may machine (inputs.Gives id to) s node there may =
    away_may machine id s node (gives_can machine id to s node there may)
get_may machine (inputs.Gets board) s node there may = take_in_may machine s node there may
get_may machine input s node there may = may_alone node input (give_may machine input s node there may)

-- and the board that is taken out, or replaced, lies there
pub removes_here : (machine id : ℕ) (s : LineState) (node : NodeState) → machine_in machine s ≡ Some node → may_get machine (inputs.Remove id) s ≡ may_do → is_here machine id s.world ≡ true
removes_here machine id s node there may = passed_here (is_here machine id s.world) reasons.NotHere may_do (own_next (own.may_of node (inputs.Remove id)) _ (remove_may machine id s node there may))

pub replaces_here : (machine id : ℕ) (s : LineState) (node : NodeState) → machine_in machine s ≡ Some node → may_get machine (inputs.Replace id) s ≡ may_do → is_here machine id s.world ≡ true
replaces_here machine id s node there may = passed_here (is_here machine id s.world) reasons.NotHere _ (own_next (own.may_of node (inputs.Remove id)) _ (replace_may machine id s node there may))
