-- A machine gives a board to another of its lanes, or gets one.
use Rattle.std.proofs.Common.{◌≡◌, ◌∙◌, ◌-◌, ◌++◌, ℕ, ℤ, Bool, true, false, List, [], refl, ap, subst}
use Rattle.std.specs.Prelude.{Option, Some, None, is_some, not, slice_index_or}
use Rattle.board_record.specs.declared.record.Record.{Record}
use Rattle.board_record.specs.declared.sensed.Sensed.{Sensed}
use Rattle.handover_out.specs.State.{is_id}
use Rattle.line_world.specs.FloorPlan.{machine_at, with_unread}
use Rattle.node_core.specs.Boards.{is_kept}
use Rattle.node_core.specs.May as node
use Rattle.node_core.specs.Node.{NodeState}
use Rattle.node_core.specs.Shifts.{board_given}
use Rattle.node_core.specs.Step.{Steps}
use Rattle.node_core.specs.declared.act.Act.{Act}
use Rattle.node_core.specs.declared.input.Input.{Input}
use Rattle.node_core.specs.declared.input.Input.TheVariants as inputs
use Rattle.node_core.specs.declared.input.No.TheVariants as nos
use Rattle.line_report.specs.declared.happening.Reason.TheVariants as reasons
use Rattle.line_report.specs.declared.happening.Happening.{Happening}
use Rattle.line_step.specs.Acts.{Effect, acts_did}
use Rattle.line_step.specs.Reasons.{behind_own, if_there, is_here, may_do, may_give_away, may_take_in, no_if}
use Rattle.line_step.specs.State.{LineState, machine_in, with_machine, with_world}
use Rattle.line_step.specs.Steps.{MachineSteps, is_second, moment_of, read_by, unread_by}
use Rattle.line_step.specs.World.{WorldParts, with_floor}
use Rattle.line_machines.specs.Given.{GivesBoard}
use Rattle.line_machines.proofs.Stepped.{place_is, unspent}
use Rattle.line_machines.proofs.There.{own_none}

-- ---- the machine that may

-- what stands in a machine's place is the machine, and may do this
pub record IsThere (machine : ℕ) (s : LineState) (one : NodeState) (May : NodeState → Type 0) : Type 0 where
  pub there : machine_in machine s ≡ Some one
  pub may : May one

abbrev MayGive : ℕ → NodeState → Type 0
MayGive id one = node.may_give id one ≡ node.may_do

gives_own : (id : ℕ) (one : NodeState) (bridge kept here last : Bool) → is_some one.bridge ≡ bridge → is_kept id one.lane.body.kept ≡ kept → is_id one.lane.body.last_offer id ≡ last
    → no_if bridge (reasons.Node nos.Bridge) (no_if (not kept) (reasons.Node nos.NotKept) (no_if (not here) reasons.NotHere (no_if last (reasons.Node nos.WasOffered) may_do))) ≡ may_do → MayGive id one
gives_own id one true kept here last a b c may = absurd (cc)
gives_own id one false false here last a b c may = absurd (cc)
gives_own id one false true false last a b c may = absurd (cc)
gives_own id one false true true true a b c may = absurd (cc)
gives_own id one false true true false a b c may = rw (a, b, c) refl

pub give_there : (machine id : ℕ) (s : LineState) (one : NodeState) (found : Option NodeState) → machine_in machine s ≡ found → if_there found (λ n. no_if (is_some n.bridge) (reasons.Node nos.Bridge)
    (no_if (not (is_kept id n.lane.body.kept)) (reasons.Node nos.NotKept)
    (no_if (not (is_here machine id s.world)) reasons.NotHere
    (no_if (is_id n.lane.body.last_offer id) (reasons.Node nos.WasOffered) may_do)))) ≡ may_do
    → one ≡ slice_index_or s.machines (machine - 1) one → IsThere machine s one (MayGive id)
give_there machine id s one None is may at = absurd (cc)
give_there machine id s one (Some found) is may at =
    let same : found ≡ one = place_is machine s found one is at in
    record { there = is ∙ ap (λ (n : NodeState). Some n) same; may = subst (λ (n : NodeState). MayGive id n) same (gives_own id found (is_some found.bridge) (is_kept id found.lane.body.kept) (is_here machine id s.world) (is_id found.lane.body.last_offer id) refl refl refl may) }

pub giver_at : (machine id : ℕ) (s : LineState) (one : NodeState) → may_give_away machine id s ≡ may_do → one ≡ slice_index_or s.machines (machine - 1) one → IsThere machine s one (MayGive id)
giver_at machine id s one may at = give_there machine id s one (machine_in machine s) refl may at

abbrev MayGet : NodeState → Type 0
MayGet one = node.may_get one ≡ node.may_do

get_there : (machine : ℕ) (s : LineState) (one : NodeState) (found : Option NodeState) → machine_in machine s ≡ found → if_there found (λ n. behind_own (node.may_get n) may_do) ≡ may_do
    → one ≡ slice_index_or s.machines (machine - 1) one → IsThere machine s one MayGet
get_there machine s one None is may at = absurd (cc)
get_there machine s one (Some found) is may at =
    let same : found ≡ one = place_is machine s found one is at in
    record { there = is ∙ ap (λ (n : NodeState). Some n) same; may = subst (λ (n : NodeState). MayGet n) same (own_none (node.may_get found) may_do may) }

pub taker_at : (machine : ℕ) (s : LineState) (one : NodeState) → may_take_in machine s ≡ may_do → one ≡ slice_index_or s.machines (machine - 1) one → IsThere machine s one MayGet
taker_at machine s one may at = get_there machine s one (machine_in machine s) refl may at

-- ---- its step

pub step_made : (number machine : ℕ) (input : Input) (s : LineState) (one next : NodeState) (second : Bool) (moment : ℤ) (listed unread : List Sensed) (read w : WorldParts) (acts : List Act) (old now : List Happening)
    → machine_in machine s ≡ Some one
    → second ≡ is_second input → moment ≡ moment_of number → listed ≡ unread
    → unread ≡ (machine_at s.world.floor machine).unread
    → read ≡ with_floor (with_unread s.world.floor machine []) s.world
    → Steps one listed input moment next acts
    → (one.spent ≡ true → false ≡ true) → next.spent ≡ false
    → w ≡ (acts_did second machine acts read).world
    → old ≡ [] → now ≡ old ++ (acts_did second machine acts read).told
    → MachineSteps number machine input s (with_world w (with_machine machine next s)) now
step_made number machine input s one next second moment listed unread read w acts old now there second_is moment_is listed_is unread_is read_is steps never spent w_is old_is now_is =
    let did_as : (acts_did second machine acts read) ≡ (acts_did (is_second input) machine acts (read_by machine s.world)) =
    ap (λ (b : Bool). acts_did b machine acts read) second_is ∙ ap (acts_did (is_second input) machine acts) read_is in
    record {
      node = one;
      next = next;
      acts = acts;
      there = there;
      steps = subst (λ (m : ℤ). Steps one (unread_by machine s.world) input m next acts) moment_is (subst (λ (u : List Sensed). Steps one u input moment next acts) (listed_is ∙ unread_is) steps);
      unspent = unspent one.spent next.spent never spent;
      after_is = ap (λ (v : WorldParts). with_world v (with_machine machine next s)) (w_is ∙ ap (λ (e : Effect). e.world) did_as);
      told_is = now_is ∙ ap (λ (o : List Happening). o ++ (acts_did second machine acts read).told) old_is ∙ ap (λ (e : Effect). e.told) did_as;
    }

pub gives_made : (number machine id to : ℕ) (s : LineState) (one next : NodeState) (moment : ℤ) (listed unread : List Sensed) (read w : WorldParts) (acts : List Act) (old now : List Happening) (board : Record)
    → machine_in machine s ≡ Some one
    → moment ≡ moment_of number → listed ≡ unread
    → unread ≡ (machine_at s.world.floor machine).unread
    → read ≡ with_floor (with_unread s.world.floor machine []) s.world
    → Steps one listed (inputs.Gives id to) moment next acts
    → board_given one listed moment id ≡ Some board
    → (one.spent ≡ true → false ≡ true) → next.spent ≡ false
    → w ≡ (acts_did false machine acts read).world
    → old ≡ [] → now ≡ old ++ (acts_did false machine acts read).told
    → GivesBoard number machine id to s (with_world w (with_machine machine next s)) now board
unfolding step_made
gives_made number machine id to s one next moment listed unread read w acts old now board there moment_is listed_is unread_is read_is steps given never spent w_is old_is now_is = record {
  steps = step_made number machine (inputs.Gives id to) s one next false moment listed unread read w acts old now there refl moment_is listed_is unread_is read_is steps never spent w_is old_is now_is;
  is = subst (λ (m : ℤ). board_given one (unread_by machine s.world) m id ≡ Some board) moment_is (subst (λ (u : List Sensed). board_given one u moment id ≡ Some board) (listed_is ∙ unread_is) given);
}
