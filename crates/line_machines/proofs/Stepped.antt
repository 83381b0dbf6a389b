-- A machine of the line that made a step, and two that were connected.
use Rattle.std.proofs.Common.{◌≡◌, ◌∙◌, ℕ, zero, suc, ◌-◌, ◌++◌, Bool, true, false, List, [], refl, sym, ap, subst, arith, ℤ}
use Rattle.std.specs.Prelude.{Option, Some, None, IsSomeAnd, nat_lt, slice_index_or, slice_set, if◌then◌else◌}
use Rattle.std.specs.Borrow.{Bor}
use Rattle.std.proofs.lemmas.Option.{get_or_from_slice_get}
use Rattle.board_record.specs.declared.sensed.Sensed.{Sensed}
use Rattle.line_base.specs.declared.states.Side.{Side}
use Rattle.line_link.specs.Link.{LinkParts, after_connect, after_flow, connected_of}
use Rattle.line_link.specs.declared.link.Connected.{Connected}
use Rattle.line_world.specs.FloorPlan.{machine_at, with_unread}
use Rattle.node_core.specs.declared.act.Act.{Act}
use Rattle.node_core.specs.declared.input.Input.{Input}
use Rattle.node_core.specs.declared.input.Input.TheVariants as inputs
use Rattle.node_core.specs.May as node
use Rattle.node_core.specs.Node.{NodeState}
use Rattle.node_core.specs.Step.{Steps}
use Rattle.line_report.specs.declared.happening.Happening.{Happening}
use Rattle.line_step.specs.World.{WorldParts, end_of, link_at, link_of, piece_for, with_floor, with_link}
use Rattle.line_step.specs.Acts.{Effect, acts_did}
use Rattle.line_step.specs.Lines.{Connects, Flows, arrived, connecting, met}
use Rattle.line_step.specs.Reasons.{may_connect, may_do}
use Rattle.line_step.specs.State.{LineState, machine_in, with_machine, with_world}
use Rattle.line_step.specs.Steps.{TellsStep, is_second, moment_of, read_by, unread_by}
use Rattle.line_step.specs.Together.{IsLineTogether}
use Rattle.line_step.proofs.Connecting.{above_may, above_there}
use Rattle.line_step.proofs.Numbers.{floor_stays}
use Rattle.line_machines.specs.Given.{IsGiven}
use Rattle.line_machines.proofs.There.{given_near}

-- ---- the machine of a number

-- a machine that may be given an input
pub record IsGivenTo (machine : ℕ) (input : Input) (s : LineState) (one : NodeState) : Type 0 where
  pub there : machine_in machine s ≡ Some one
  pub may : node.may_of one input ≡ node.may_do

pub place_is : (machine : ℕ) (s : LineState) (found one : NodeState) → machine_in machine s ≡ Some found → one ≡ slice_index_or s.machines (machine - 1) one → found ≡ one
place_is zero s found one there at = absurd (cc)
place_is (suc place) s found one there at =
    let same : suc place - 1 ≡ place = omega arith in
    let at_place : one ≡ slice_index_or s.machines place one = rw same at at in
    sym (at_place ∙ get_or_from_slice_get s.machines place found one there)

given_by : (machine : ℕ) (input : Input) (s : LineState) (one : NodeState) (found : Option NodeState) → machine_in machine s ≡ found → IsSomeAnd found (λ n. node.may_of n input ≡ node.may_do)
    → one ≡ slice_index_or s.machines (machine - 1) one → IsGivenTo machine input s one
given_by machine input s one None is given at = absurd given
given_by machine input s one (Some found) is given at =
    let same : found ≡ one = place_is machine s found one is at in
    record { there = is ∙ ap (λ (n : NodeState). Some n) same; may = subst (λ (n : NodeState). node.may_of n input ≡ node.may_do) same given }

-- what stands in a machine's place is the machine that may be given the input
pub given_at : (machine : ℕ) (input : Input) (s : LineState) (one : NodeState) → IsGiven machine input s → one ≡ slice_index_or s.machines (machine - 1) one → IsGivenTo machine input s one
given_at machine input s one given at = given_by machine input s one (machine_in machine s) refl given at

-- a machine that answers was not spent, and is not
pub unspent : (before after : Bool) → (before ≡ true → false ≡ true) → after ≡ false → after ≡ before
unspent true after never is = let no : false ≡ true = never refl in absurd (cc)
unspent false after never is = is

-- ---- a step

pub tells_step : (number machine : ℕ) (input : Input) (s : LineState) (one next : NodeState) (unread : List Sensed) (read w : WorldParts) (acts : List Act) (told now : List Happening)
    → machine_in machine s ≡ Some one
    → unread ≡ (machine_at s.world.floor machine).unread
    → read ≡ with_floor (with_unread s.world.floor machine []) s.world
    → Steps one unread input (moment_of number) next acts
    → next.spent ≡ one.spent
    → w ≡ (acts_did (is_second input) machine acts read).world
    → now ≡ told ++ (acts_did (is_second input) machine acts read).told
    → TellsStep number machine input s (with_world w (with_machine machine next s)) told now
tells_step number machine input s one next unread read w acts told now there unread_is read_is steps spent w_is now_is =
    let did : WorldParts → List Happening = λ v. (acts_did (is_second input) machine acts v).told in
    record {
      told = did (read_by machine s.world);
      behind = now_is ∙ ap (λ v. told ++ did v) read_is;
      steps = record {
        node = one;
        next = next;
        acts = acts;
        there = there;
        steps = subst (λ u. Steps one u input (moment_of number) next acts) unread_is steps;
        unspent = spent;
        after_is = ap (λ v. with_world v (with_machine machine next s)) (w_is ∙ ap (λ v. (acts_did (is_second input) machine acts v).world) read_is);
        told_is = refl;
      };
    }

-- ---- bytes that arrive

-- whether the bytes arrive before the events are read, or behind
swapped : (test : Bool) (links : List LinkParts) (w : WorldParts) (machine : ℕ)
    → (if test then record (read_by machine w) { links = links } else read_by machine w) ≡ read_by machine (if test then record w { links = links } else w)
swapped true links w machine = refl
swapped false links w machine = refl

pub read_and_arrived : (link : ℕ) (parts : LinkParts) (w : WorldParts) (machine : ℕ) → with_link link parts (read_by machine w) ≡ read_by machine (with_link link parts w)
read_and_arrived link parts w machine = swapped (nat_lt 0 link) (slice_set w.links (link - 1) parts) w machine

pub hears_flow : (number machine : ℕ) (side : Side) (count : Option ℕ) (s : LineState) (one next : NodeState) (piece : Bor (List ℕ)) (unread : List Sensed) (read come w : WorldParts) (acts : List Act) (now : List Happening)
    → machine_in machine s ≡ Some one
    → unread ≡ (machine_at s.world.floor machine).unread
    → read ≡ with_floor (with_unread s.world.floor machine []) s.world
    → piece.now ≡ piece_for machine side count read
    → Steps one unread (inputs.Bytes side piece) (moment_of number) next acts
    → next.spent ≡ one.spent
    → come ≡ with_link (link_of machine side) (after_flow (end_of side) count (link_at (link_of machine side) read)) read
    → w ≡ (acts_did false machine acts come).world
    → now ≡ (acts_did false machine acts come).told
    → Flows number machine side count s (with_world w (with_machine machine next s)) now
hears_flow number machine side count s one next piece unread read come w acts now there unread_is read_is piece_is steps spent come_is w_is now_is =
    let parts : LinkParts = after_flow (end_of side) count (link_at (link_of machine side) s.world) in
    let floor = floor_stays (link_of machine side) parts s.world in
    let come_by : come ≡ read_by machine (arrived machine side count s).world =
    come_is ∙ ap (λ v. with_link (link_of machine side) (after_flow (end_of side) count (link_at (link_of machine side) v)) v) read_is
    ∙ read_and_arrived (link_of machine side) parts s.world machine in
    let unread_by_is : unread ≡ unread_by machine (arrived machine side count s).world = unread_is ∙ ap (λ f. (machine_at f machine).unread) (sym floor) in
    record {
      piece = piece;
      bytes = piece_is ∙ ap (piece_for machine side count) read_is;
      steps = record {
        node = one;
        next = next;
        acts = acts;
        there = there;
        steps = subst (λ u. Steps one u (inputs.Bytes side piece) (moment_of number) next acts) unread_by_is steps;
        unspent = spent;
        after_is = ap (λ v. with_world v (with_machine machine next s)) (w_is ∙ ap (λ v. (acts_did false machine acts v).world) come_by);
        told_is = now_is ∙ ap (λ v. (acts_did false machine acts v).told) come_by;
      };
    }

-- ---- a connection

pub connect_given : (machine : ℕ) (s : LineState) → may_connect machine s ≡ may_do → IsGiven machine inputs.Connect (connecting machine s)
connect_given machine s may = given_near (machine_in machine s) _ _ (λ n. node.may_of n inputs.Connect) (λ _. may_do) may

pub above_given : (number machine : ℕ) (s between : LineState) (told : List Happening) → IsLineTogether s → may_connect machine s ≡ may_do
    → TellsStep number machine inputs.Connect (connecting machine s) between [] told → IsGiven (machine - 1) (met (connected_of (link_at (machine - 1) s.world).upstream)) between
above_given number machine s between told together may step =
    let above = above_there number machine s between step.told together may step.steps in
    let ok = above_may number machine s between step.told together may step.steps above.0 above.1 in
    subst (λ (found : Option NodeState). IsSomeAnd found (λ n. node.may_of n (met (connected_of (link_at (machine - 1) s.world).upstream)) ≡ node.may_do)) (sym above.1) ok

pub both_step : (number machine : ℕ) (s between after : LineState) (first second : List Happening)
    → TellsStep number machine inputs.Connect (connecting machine s) between [] first
    → TellsStep number (machine - 1) (met (connected_of (link_at (machine - 1) s.world).upstream)) between after first second
    → Connects number machine s after second
both_step number machine s between after first second one other = record {
  between = between;
  earlier = one.told;
  later = other.told;
  first = one.steps;
  second = other.steps;
  told_is = other.behind ∙ ap (λ told. told ++ other.told) one.behind;
}

-- the same as the code has it, with what it calls things
pub tells_step_by : (number machine : ℕ) (input : Input) (s : LineState) (one next : NodeState) (second : Bool) (moment : ℤ) (listed unread : List Sensed) (read w : WorldParts) (acts : List Act) (told now : List Happening)
    → machine_in machine s ≡ Some one
    → second ≡ is_second input → moment ≡ moment_of number → listed ≡ unread
    → unread ≡ (machine_at s.world.floor machine).unread
    → read ≡ with_floor (with_unread s.world.floor machine []) s.world
    → Steps one listed input moment next acts
    → (one.spent ≡ true → false ≡ true) → next.spent ≡ false
    → w ≡ (acts_did second machine acts read).world
    → now ≡ told ++ (acts_did second machine acts read).told
    → TellsStep number machine input s (with_world w (with_machine machine next s)) told now
tells_step_by number machine input s one next second moment listed unread read w acts told now there second_is moment_is listed_is unread_is read_is steps never spent w_is now_is =
    let did_as : (acts_did second machine acts read) ≡ (acts_did (is_second input) machine acts read) =
    ap (λ b. acts_did b machine acts read) second_is in
    tells_step number machine input s one next unread read w acts told now there unread_is read_is
    (subst (λ m. Steps one unread input m next acts) moment_is (subst (λ u. Steps one u input moment next acts) listed_is steps))
    (unspent one.spent next.spent never spent)
    (w_is ∙ ap (λ (e : Effect). e.world) did_as)
    (now_is ∙ ap (λ (e : Effect). told ++ e.told) did_as)

pub hears_flow_by : (number machine : ℕ) (side : Side) (count : Option ℕ) (s : LineState) (one next : NodeState) (piece : Bor (List ℕ)) (moment : ℤ) (listed unread : List Sensed) (read come w : WorldParts) (acts : List Act) (old now : List Happening)
    → machine_in machine s ≡ Some one
    → moment ≡ moment_of number → listed ≡ unread
    → unread ≡ (machine_at s.world.floor machine).unread
    → read ≡ with_floor (with_unread s.world.floor machine []) s.world
    → piece.now ≡ piece_for machine side count read
    → Steps one listed (inputs.Bytes side piece) moment next acts
    → (one.spent ≡ true → false ≡ true) → next.spent ≡ false
    → come ≡ with_link (link_of machine side) (after_flow (end_of side) count (link_at (link_of machine side) read)) read
    → w ≡ (acts_did false machine acts come).world
    → old ≡ [] → now ≡ old ++ (acts_did false machine acts come).told
    → Flows number machine side count s (with_world w (with_machine machine next s)) now
hears_flow_by number machine side count s one next piece moment listed unread read come w acts old now there moment_is listed_is unread_is read_is piece_is steps never spent come_is w_is old_is now_is =
    hears_flow number machine side count s one next piece unread read come w acts now there unread_is read_is piece_is
    (subst (λ m. Steps one unread (inputs.Bytes side piece) m next acts) moment_is (subst (λ u. Steps one u (inputs.Bytes side piece) moment next acts) listed_is steps))
    (unspent one.spent next.spent never spent)
    come_is
    w_is
    (now_is ∙ ap (λ o. o ++ (acts_did false machine acts come).told) old_is)

-- the first of the two steps of a connection, as the code has it: the link, its world, what is met, what was told
pub record Meets (number machine : ℕ) (s between : LineState) (link : ℕ) (w : WorldParts) (joined : Connected) (input : Input) (old told : List Happening) : Type 0 where
  pub link_is : link ≡ machine - 1
  pub world_is : w ≡ with_link link (after_connect (link_at link s.world)) s.world
  pub joined_is : joined ≡ connected_of (link_at link s.world).upstream
  pub input_is : input ≡ met joined
  pub old_is : old ≡ []
  pub step : TellsStep number machine inputs.Connect (with_world w s) between old told

met_is : (number machine : ℕ) (s between : LineState) (link : ℕ) (w : WorldParts) (joined : Connected) (input : Input) (old told : List Happening) → Meets number machine s between link w joined input old told
    → input ≡ met (connected_of (link_at (machine - 1) s.world).upstream)
met_is number machine s between link w joined input old told meets = meets.input_is ∙ ap met (meets.joined_is ∙ ap (λ l. connected_of (link_at l s.world).upstream) meets.link_is)

first_step : (number machine : ℕ) (s between : LineState) (link : ℕ) (w : WorldParts) (joined : Connected) (input : Input) (old told : List Happening) → Meets number machine s between link w joined input old told
    → TellsStep number machine inputs.Connect (connecting machine s) between [] told
first_step number machine s between link w joined input old told meets =
    let world = meets.world_is ∙ ap (λ l. with_link l (after_connect (link_at l s.world)) s.world) meets.link_is in
    subst (λ (o : List Happening). TellsStep number machine inputs.Connect (connecting machine s) between o told) meets.old_is
    (subst (λ (v : WorldParts). TellsStep number machine inputs.Connect (with_world v s) between old told) world meets.step)

pub second_given : (number machine : ℕ) (s between : LineState) (link : ℕ) (w : WorldParts) (joined : Connected) (input : Input) (old told : List Happening) → IsLineTogether s → may_connect machine s ≡ may_do
    → Meets number machine s between link w joined input old told → IsGiven link input between
second_given number machine s between link w joined input old told together may meets =
    let given = above_given number machine s between told together may (first_step number machine s between link w joined input old told meets) in
    let of_input : IsGiven (machine - 1) input between = subst (λ (i : Input). IsGiven (machine - 1) i between) (sym (met_is number machine s between link w joined input old told meets)) given in
    subst (λ (l : ℕ). IsGiven l input between) (sym meets.link_is) of_input

pub connects_by : (number machine : ℕ) (s between after : LineState) (link : ℕ) (w : WorldParts) (joined : Connected) (input : Input) (old first second : List Happening)
    → Meets number machine s between link w joined input old first → TellsStep number link input between after first second → Connects number machine s after second
connects_by number machine s between after link w joined input old first second meets other =
    let of_link : TellsStep number (machine - 1) input between after first second = subst (λ (l : ℕ). TellsStep number l input between after first second) meets.link_is other in
    both_step number machine s between after first second (first_step number machine s between link w joined input old first meets)
    (subst (λ (i : Input). TellsStep number (machine - 1) i between after first second) (met_is number machine s between link w joined input old first meets) of_link)
