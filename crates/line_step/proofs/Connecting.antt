-- Where a machine may connect, the end of its link is free, and the machine above it may meet the connection.
use Rattle.std.proofs.Common.{◌≡◌, ◌≢◌, ◌∙◌, ℕ, ◌-◌, ◌<◌, Bool, true, false, not, List, Option, Some, None, Result, length, refl, sym, ap, arith}
use Rattle.std.specs.Prelude.{is_some, nat_lt}
use Rattle.std.proofs.lemmas.Bool.{ltb-true}
use Rattle.line_base.specs.declared.states.Side.TheVariants.{Entry, Exit}
use Rattle.line_link.specs.Link.{connected_of}
use Rattle.node_core.specs.declared.input.Input.TheVariants as inputs
use Rattle.node_core.specs.declared.input.No.{No}
use Rattle.node_core.specs.declared.input.No.TheVariants as nos
use Rattle.node_core.specs.May as node
use Rattle.node_core.specs.Node.{NodeState}
use Rattle.node_core.specs.Sides.{is_open}
use Rattle.line_step.specs.World.{link_at}
use Rattle.line_step.specs.State.{LineState, machine_in}
use Rattle.line_step.specs.Steps.{MachineSteps}
use Rattle.line_step.specs.Lines.{connecting, met}
use Rattle.line_step.specs.Reasons.{May, behind_own, has_neighbour, if_there, may_connect, may_do, no_if}
use Rattle.line_step.specs.Together.{IsLineTogether}
use Rattle.line_step.proofs.Numbers.{machine_at_number, machine_within}
use Rattle.line_step.proofs.Counting.{step_counts}
use Rattle.line_step.proofs.Joining.{IsLinkOf, step_keeps_other}
use Rattle.line_report.specs.declared.happening.Happening.{Happening}
use Rattle.line_report.specs.declared.happening.Reason.{Reason}
use Rattle.line_report.specs.declared.happening.Reason.TheVariants as reasons

-- a machine that may connect is there and isn't the first, and its entry has no connection
pub record CanConnect (machine : ℕ) (s : LineState) : Type 0 where
  pub node : NodeState
  pub there : machine_in machine s ≡ Some node
  pub behind : 1 < machine
  pub closed : is_open Entry node.lane.body ≡ false

pub neighbour_of : (test : Bool) (reason : Reason) (rest : May) → no_if (not test) reason rest ≡ may_do → (test ≡ true) × (rest ≡ may_do)
neighbour_of true reason rest is = (refl, is)
neighbour_of false reason rest is = absurd (cc)

closed_of : (test : Bool) (why : No) (rest : Result (Unit {0}) No) → behind_own (node.no_if test why rest) may_do ≡ may_do → test ≡ false
closed_of true why rest is = absurd (cc)
closed_of false why rest is = refl

can_by : (machine : ℕ) (s : LineState) (found : Option NodeState) → machine_in machine s ≡ found
    → if_there found (λ (n : NodeState). no_if (not (has_neighbour machine Entry s)) reasons.NoNeighbour (behind_own (node.may_of n inputs.Connect) may_do)) ≡ may_do → CanConnect machine s
can_by machine s None is may = absurd (cc)
can_by machine s (Some n) is may =
    let parts = neighbour_of (nat_lt 1 machine) reasons.NoNeighbour (behind_own (node.may_of n inputs.Connect) may_do) may in
    record { node = n; there = is; behind = ltb-true 1 machine parts.0; closed = closed_of (is_open Entry n.lane.body) nos.Connected _ parts.1 }

pub can_connect : (machine : ℕ) (s : LineState) → may_connect machine s ≡ may_do → CanConnect machine s
can_connect machine s may = can_by machine s (machine_in machine s) refl may

pub link_before : (machine : ℕ) (s : LineState) → IsLineTogether s → CanConnect machine s → IsLinkOf (machine - 1) s
link_before machine s together can =
    let within = machine_within machine s can.node can.there in
    let behind = can.behind in
    let links = together.links in
    (omega arith, omega arith)

-- ---- the free end

pub none_of : (number : Option ℕ) → is_some number ≡ false → number ≡ None
none_of None is = refl
none_of (Some n) is = absurd (cc)

pub free_below : (machine : ℕ) (before : LineState) → IsLineTogether before → may_connect machine before ≡ may_do → (link_at (machine - 1) before.world).downstream ≡ None
free_below machine before together may =
    let can = can_connect machine before may in
    none_of (link_at (machine - 1) before.world).downstream (together.joined machine Entry can.node can.there ∙ can.closed)

-- ---- the machine above

met_may : (upstream : Option ℕ) (above : NodeState) → is_some upstream ≡ is_open Exit above.lane.body → node.may_of above (met (connected_of upstream)) ≡ node.may_do
met_may None above is = ap (λ (o : Bool). node.no_if o nos.Connected node.may_do) (sym is)
met_may (Some number) above is = ap (λ (o : Bool). node.no_if (not o) nos.NotConnected node.may_do) (sym is)

pub above_may : (number machine : ℕ) (before between : LineState) (told : List Happening) → IsLineTogether before → may_connect machine before ≡ may_do
    → MachineSteps number machine inputs.Connect (connecting machine before) between told → (above : NodeState) → machine_in (machine - 1) between ≡ Some above
    → node.may_of above (met (connected_of (link_at (machine - 1) before.world).upstream)) ≡ node.may_do
above_may number machine before between told together may steps above there =
    let can = can_connect machine before may in
    let behind = can.behind in
    let apart : machine - 1 ≢ machine = omega arith in
    let same : machine_in (machine - 1) before ≡ Some above = sym (step_keeps_other number machine inputs.Connect (connecting machine before) between told steps (machine - 1) apart) ∙ there in
    met_may (link_at (machine - 1) before.world).upstream above (together.joined (machine - 1) Exit above same)

pub above_there : (number machine : ℕ) (before between : LineState) (told : List Happening) → IsLineTogether before → may_connect machine before ≡ may_do
    → MachineSteps number machine inputs.Connect (connecting machine before) between told → (above : NodeState) × (machine_in (machine - 1) between ≡ Some above)
above_there number machine before between told together may steps =
    let can = can_connect machine before may in
    let within = machine_within machine before can.node can.there in
    let same : length between.machines ≡ length before.machines = (step_counts number machine inputs.Connect (connecting machine before) between told steps).machines in
    let behind = can.behind in
    machine_at_number (machine - 1) between (omega arith) (omega arith)
