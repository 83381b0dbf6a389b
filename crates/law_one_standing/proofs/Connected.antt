-- A connection is made: a first one or a second one.
use Rattle.std.proofs.Common.{List, None, Option, Some, ap, arith, false, length, not, refl, subst, sym, true, ℕ, ◌&&◌, ◌+◌, ◌-◌, ◌∙◌, ◌≡◌, ◌<◌, ◌≤◌}
use Rattle.std.specs.Prelude.{nat_le, nat_lt}
use Rattle.law_one_standing.proofs.ApartStep.{LayOn}
use Rattle.law_one_standing.proofs.MirroringEnds.{before_one}
use Rattle.line_base.specs.declared.states.Side.TheVariants.{Entry}
use Rattle.line_link.specs.Link.{after_connect, connected_of}
use Rattle.node_core.specs.May as own
use Rattle.node_core.specs.Node.{NodeState}
use Rattle.node_core.specs.declared.input.Input.TheVariants as inputs
use Rattle.line_report.specs.declared.happening.Happening.{Happening}
use Rattle.line_report.specs.declared.happening.Reason.TheVariants as reasons
use Rattle.line_step.specs.Lines.{Connects, connecting, met}
use Rattle.line_step.specs.Reasons.{has_link, has_neighbour, behind_own, may_connect, may_do, no_if}
use Rattle.line_step.specs.State.{LineState, machine_in}
use Rattle.line_step.specs.Steps.{MachineSteps}
use Rattle.line_step.specs.Together.{IsLineTogether}
use Rattle.line_step.specs.World.{link_at}
use Rattle.line_step.proofs.Connecting.{above_may, can_connect, free_below}
use Rattle.line_step.proofs.Counting.{link_same_world, step_counts}
use Rattle.line_step.proofs.FloorLaws as floor
use Rattle.line_step.proofs.Numbers.{machine_within}
use Rattle.law_one_standing.specs.Carried.{Trace}
use Rattle.law_one_standing.proofs.ApartHands.{step_still}
use Rattle.law_one_standing.proofs.FirstJoin.{first_first, first_second}
use Rattle.law_one_standing.proofs.HandSteps.{Bearing}
use Rattle.law_one_standing.proofs.LineForms.{ConnectsBear, Setting}
use Rattle.line_step.proofs.Getting.{own_first, passed, there_may}
use Rattle.law_one_standing.proofs.LineJoins.{joins_bear, still_connecting}
use Rattle.law_one_standing.proofs.MirroringConnects.{MirrorsFirst, MirrorsSecond, connects_first, connects_second}
use Rattle.law_one_standing.proofs.RestLine.{machines_stay, node_there}
use Rattle.law_one_standing.proofs.SecondJoin.{not_joined, second_first, second_second}

-- ---- by the links' numbers

pub less_two : (n : ℕ) → 1 < n → n - 2 + 1 + 1 ≡ n
less_two n behind = omega (arith, behind)

there_by : (link count : ℕ) → 1 ≤ link → link < count → (nat_le 1 link && nat_lt link count) ≡ true
there_by link count counted within = grind (arith, counted, within)

link_there : (j : ℕ) (s : LineState) (node : NodeState) → machine_in (j + 1 + 1) s ≡ Some node → has_link (j + 1) s ≡ true
link_there j s node there = there_by (j + 1) (length s.machines) (omega arith) (omega (arith, (machine_within (j + 1 + 1) s node there).1))

-- the links are as many as before
links_between : (number j : ℕ) (before between : LineState) (told : List Happening) → IsLineTogether before → MachineSteps number (j + 1 + 1) inputs.Connect (connecting (j + 1 + 1) before) between told → length between.world.links ≡ length between.machines - 1
links_between number j before between told together steps =
    let now : LineState = connecting (j + 1 + 1) before in
    let counts = step_counts number (j + 1 + 1) inputs.Connect now between told steps in
    let first = link_same_world (j + 1 + 1 - 1) (after_connect (link_at (j + 1 + 1 - 1) before.world)) before.world in
    counts.world.links ∙ first.links ∙ together.links ∙ ap (λ (n : ℕ). n - 1) (sym counts.machines)

may_first : (number j : ℕ) (before between : LineState) (told : List Happening) → may_connect (j + 1 + 1) before ≡ may_do → (steps : MachineSteps number (j + 1 + 1) inputs.Connect (connecting (j + 1 + 1) before) between told) → own.may_of steps.node inputs.Connect ≡ own.may_do
may_first number j before between told may steps =
    own_first (own.may_of steps.node inputs.Connect) may_do
    (passed (not (has_neighbour (j + 1 + 1) Entry before)) reasons.NoNeighbour _ (there_may (machine_in (j + 1 + 1) before) steps.node (λ n. no_if (not (has_neighbour (j + 1 + 1) Entry before)) reasons.NoNeighbour (behind_own (own.may_of n inputs.Connect) may_do)) steps.there may))

may_second : (number j : ℕ) (before between : LineState) (told : List Happening) → IsLineTogether before → may_connect (j + 1 + 1) before ≡ may_do → MachineSteps number (j + 1 + 1) inputs.Connect (connecting (j + 1 + 1) before) between told
    → (above : NodeState) → machine_in (j + 1) between ≡ Some above → own.may_of above (met (connected_of (link_at (j + 1) before.world).upstream)) ≡ own.may_do
may_second number j before between told together may steps above there =
    subst (λ (k : ℕ). own.may_of above (met (connected_of (link_at k before.world).upstream)) ≡ own.may_do) (before_one (j + 1))
    (above_may number (j + 1 + 1) before between told together may steps above (subst (λ (k : ℕ). machine_in k between ≡ Some above) (sym (before_one (j + 1))) there))

-- one machine has one state
same_node : (machine : ℕ) (s : LineState) (a b : NodeState) → machine_in machine s ≡ Some a → machine_in machine s ≡ Some b → a ≡ b
same_node machine s a b one two = sym (node_there machine s a one) ∙ node_there machine s b two

-- ---- the two kinds

first_bears : (number j : ℕ) (t : Trace) (before after : LineState) (told all : List Happening) → Setting number t before after told all → may_connect (j + 1 + 1) before ≡ may_do → (link_at (j + 1) before.world).upstream ≡ None → Connects number (j + 1 + 1) before after told → Bearing (LayOn before) t after
first_bears number j t before after told all s may none connects =
    let st = s.around.st in
    let m : MirrorsFirst number j t before after = connects_first s.alone t number j before after told may s.few st st.links none connects in
    let there : has_link (j + 1) before ≡ true = link_there j before m.first.node m.first.there in
    let can = may_first number j before m.between m.earlier may m.first in
    let call_same : m.first.node ≡ m.call.node = same_node (j + 1 + 1) before m.first.node m.call.node m.first.there m.call.there in
    let can_call : own.may_of m.call.node inputs.Connect ≡ own.may_do = subst (λ (n : NodeState). own.may_of n inputs.Connect ≡ own.may_do) call_same can in
    let second_may : own.may_of m.second.node inputs.Accepted ≡ own.may_do = subst (λ (o : Option ℕ). own.may_of m.second.node (met (connected_of o)) ≡ own.may_do) none (may_second number j before m.between m.earlier st.together may m.first m.second.node m.second.there) in
    let meet_may : own.may_of m.meet.node inputs.Accepted ≡ own.may_do = subst (λ (n : NodeState). own.may_of n inputs.Accepted ≡ own.may_do) (same_node (j + 1) m.between m.second.node m.meet.node m.second.there m.meet.there) second_may in
    let counted = links_between number j before m.between m.earlier st.together m.first in
    let holds : floor.Holds m.between = (step_still number (j + 1 + 1) inputs.Connect (connecting (j + 1 + 1) before) m.between m.earlier tt (still_connecting (j + 1 + 1 - 1) (after_connect (link_at (j + 1 + 1 - 1) before.world)) before st.ids).holds m.first).holds in
    let many : length m.between.machines ≡ length before.machines = machines_stay number (j + 1 + 1) inputs.Connect (connecting (j + 1 + 1) before) m.between m.earlier m.first in
    joins_bear number j t before m.between after all s.around there counted
    (record { earlier = m.earlier; later = m.later; input = inputs.Accepted; first = m.first; second = m.second; may_first = can; may_second = second_may; handless = tt; no_call = λ no. absurd (cc) })
    (first_first number j t before after st m can_call) (first_second number j t before after st m can_call meet_may counted holds many)

second_bears : (number j other : ℕ) (t : Trace) (before after : LineState) (told all : List Happening) → Setting number t before after told all → may_connect (j + 1 + 1) before ≡ may_do → (link_at (j + 1) before.world).upstream ≡ Some other → Connects number (j + 1 + 1) before after told → Bearing (LayOn before) t after
second_bears number j other t before after told all s may some connects =
    let st = s.around.st in
    let m : MirrorsSecond number j t before after = connects_second s.alone t number j before after told other may s.few st st.links some connects in
    let there : has_link (j + 1) before ≡ true = link_there j before m.first.node m.first.there in
    let can = may_first number j before m.between m.earlier may m.first in
    let call_same : m.first.node ≡ m.call.node = same_node (j + 1 + 1) before m.first.node m.call.node m.first.there m.call.there in
    let can_call : own.may_of m.call.node inputs.Connect ≡ own.may_do = subst (λ (n : NodeState). own.may_of n inputs.Connect ≡ own.may_do) call_same can in
    let second_may : own.may_of m.second.node inputs.Second ≡ own.may_do = subst (λ (o : Option ℕ). own.may_of m.second.node (met (connected_of o)) ≡ own.may_do) some (may_second number j before m.between m.earlier st.together may m.first m.second.node m.second.there) in
    let below : (link_at (j + 1) before.world).downstream ≡ None = subst (λ (k : ℕ). (link_at k before.world).downstream ≡ None) (before_one (j + 1)) (free_below (j + 1 + 1) before st.together may) in
    let off : (link_at (j + 1) before.world).stands ≡ false = not_joined (link_at (j + 1) before.world).stands other (link_at (j + 1) before.world).upstream (link_at (j + 1) before.world).downstream some below (st.links (j + 1)).joined in
    let counted = links_between number j before m.between m.earlier st.together m.first in
    let holds : floor.Holds m.between = (step_still number (j + 1 + 1) inputs.Connect (connecting (j + 1 + 1) before) m.between m.earlier tt (still_connecting (j + 1 + 1 - 1) (after_connect (link_at (j + 1 + 1 - 1) before.world)) before st.ids).holds m.first).holds in
    let many : length m.between.machines ≡ length before.machines = machines_stay number (j + 1 + 1) inputs.Connect (connecting (j + 1 + 1) before) m.between m.earlier m.first in
    joins_bear number j t before m.between after all s.around there counted
    (record { earlier = m.earlier; later = m.later; input = inputs.Second; first = m.first; second = m.second; may_first = can; may_second = second_may; handless = tt; no_call = λ no. absurd (cc) })
    (second_first number j t before after st m can_call off) (second_second number j t before after st m can_call off counted holds many)

kinds_bear : (number j : ℕ) (t : Trace) (before after : LineState) (told all : List Happening) (upstream : Option ℕ) → (link_at (j + 1) before.world).upstream ≡ upstream → Setting number t before after told all → may_connect (j + 1 + 1) before ≡ may_do → Connects number (j + 1 + 1) before after told → Bearing (LayOn before) t after
kinds_bear number j t before after told all None is s may connects = first_bears number j t before after told all s may is connects
kinds_bear number j t before after told all (Some other) is s may connects = second_bears number j other t before after told all s may is connects

-- A CONNECTION KEEPS THE RELATION OF THE LINE
pub connects_bear : ConnectsBear
connects_bear number machine t before after told all s may connects =
    let can = can_connect machine before may in
    let Q : ℕ → Type 0 = λ n. may_connect n before ≡ may_do → Connects number n before after told → Bearing (LayOn before) t after in
    subst Q (less_two machine can.behind) (λ may connects. kinds_bear number (machine - 2) t before after told all (link_at (machine - 2 + 1) before.world).upstream refl s may connects) may connects
