-- A machine that is there, and what it may be given.
use Rattle.std.proofs.Common.{◌≡◌, ℕ, ◌≤◌, Bool, true, false, length, refl, sym, subst}
use Rattle.std.specs.Prelude.{Option, Some, None, Result, Ok, Err, IsSomeAnd}
use Rattle.line_world.specs.FloorPlan.{FloorPlan, IsMachine}
use Rattle.node_core.specs.declared.input.No.{No}
use Rattle.node_core.specs.May as node
use Rattle.node_core.specs.Node.{NodeState}
use Rattle.line_report.specs.declared.happening.Reason.{Reason}
use Rattle.line_step.specs.Reasons.{May, behind_own, if_there, may_do, no_if}
use Rattle.line_step.specs.State.{LineState, machine_in}
use Rattle.line_step.specs.Together.{IsLineTogether}
use Rattle.line_step.proofs.Numbers.{machine_within}
use Rattle.line_acts.proofs.DoneActs.{machine_stays}

-- a machine that is there has its place on the floor
pub on_floor : (machine : ℕ) (s : LineState) (node : NodeState) → machine_in machine s ≡ Some node → length s.world.floor.machines ≡ length s.machines → IsMachine s.world.floor machine
on_floor machine s node there floor =
    let within = machine_within machine s node there in
    record { counted = within.0; within = subst (λ count. machine ≤ count) (sym floor) within.1 }

pub on_floor_together : (machine : ℕ) (s : LineState) (node : NodeState) → Some node ≡ machine_in machine s → IsLineTogether s → IsMachine s.world.floor machine
on_floor_together machine s node there together = on_floor machine s node (sym there) together.floor

-- a machine's own reasons are none where nothing stands against the line
pub own_none : (own : Result (Unit {0}) No) (rest : May) → behind_own own rest ≡ may_do → own ≡ node.may_do
own_none (Ok _) rest h = refl
own_none (Err why) rest h = absurd (cc)

pub given_behind : (found : Option NodeState) (own : NodeState → Result (Unit {0}) No) (rest : NodeState → May)
    → if_there found (λ node. behind_own (own node) (rest node)) ≡ may_do → IsSomeAnd found (λ n. own n ≡ node.may_do)
given_behind None own rest h = absurd (cc)
given_behind (Some one) own rest h = own_none (own one) (rest one) h

pub given_near : (found : Option NodeState) (far : Bool) (reason : Reason) (own : NodeState → Result (Unit {0}) No) (rest : NodeState → May)
    → if_there found (λ node. no_if far reason (behind_own (own node) (rest node))) ≡ may_do → IsSomeAnd found (λ n. own n ≡ node.may_do)
given_near None far reason own rest h = absurd (cc)
given_near (Some one) true reason own rest h = absurd (cc)
given_near (Some one) false reason own rest h = own_none (own one) (rest one) h

-- a board may be replaced
pub given_replaced : (found : Option NodeState) (first : NodeState → Result (Unit {0}) No) (away : Bool) (reason : Reason) (own : NodeState → Result (Unit {0}) No)
    → if_there found (λ node. behind_own (first node) (no_if away reason (behind_own (own node) may_do))) ≡ may_do → IsSomeAnd found (λ n. own n ≡ node.may_do)
given_replaced None first away reason own h = absurd (cc)
given_replaced (Some one) first away reason own h = replaced_by (first one) away h
  where
    replaced_by : (first : Result (Unit {0}) No) (away : Bool) → behind_own first (no_if away reason (behind_own (own one) may_do)) ≡ may_do → own one ≡ node.may_do
    replaced_by (Err why) away h = absurd (cc)
    replaced_by (Ok _) true h = absurd (cc)
    replaced_by (Ok _) false h = own_none (own one) may_do h

-- nothing but its events is read
pub given_nothing : (found : Option NodeState) (may : NodeState → May) → if_there found may ≡ may_do → IsSomeAnd found (λ n. node.may_do ≡ node.may_do)
given_nothing None may h = absurd (cc)
given_nothing (Some one) may h = refl

-- and so it has where there are as many places as before
pub on_new_floor : (machine : ℕ) (s : LineState) (one : NodeState) (floor : FloorPlan) → machine_in machine s ≡ Some one → length s.world.floor.machines ≡ length s.machines → length floor.machines ≡ length s.world.floor.machines → IsMachine floor machine
on_new_floor machine s one floor there placed same = machine_stays s.world.floor floor machine same (on_floor machine s one there placed)
