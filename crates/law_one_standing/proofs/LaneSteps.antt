-- The steps of a machine in the line in which a board goes to another lane of it, or comes from one.
use Rattle.std.proofs.Common.{Bool, List, Some, [], ap, false, inl, inr, not, refl, subst, sym, true, ℕ, ◌++◌, ◌+◌, ◌∙◌, ◌∷◌, ◌≡◌, ◌⊎◌, Result}
use Rattle.board_record.specs.declared.record.Record.{Record}
use Rattle.line_world.specs.FloorPlan.{machine_at}
use Rattle.line_report.specs.declared.happening.Happening.{Happening}
use Rattle.line_report.specs.declared.happening.Happening.TheVariants as happenings
use Rattle.handover_in.specs.declared.phase.Phase.TheVariants as inn
use Rattle.handover_out.specs.State.{is_id}
use Rattle.node_core.specs.Announces.{is_intake_free}
use Rattle.node_core.specs.Boards.{is_kept}
use Rattle.node_core.specs.Event.{Gets, Gives}
use Rattle.node_core.specs.May.{may_do, may_on_lane, no_if}
use Rattle.node_core.specs.Node.{NodeState, desk_of}
use Rattle.node_core.specs.Step.{machine_step}
use Rattle.node_core.specs.declared.act.Act.TheVariants as acts
use Rattle.node_core.specs.declared.input.Input.TheVariants as inputs
use Rattle.node_core.specs.declared.input.No.{No}
use Rattle.law_machine_custody.specs.ByHand.{AreHere, IsNotLast}
use Rattle.law_machine_custody.proofs.Step.{gets_goes, gives_goes}
use Rattle.line_step.specs.Numbered.{node_at}
use Rattle.line_step.specs.State.{LineState}
use Rattle.line_step.specs.Steps.{MachineSteps, moment_of, unread_by}
use Rattle.line_step.proofs.Numbers.{same_or_not}
use Rattle.law_one_standing.specs.Carried.{Trace, between_of, stand_of}
use Rattle.law_one_standing.specs.Mirrors.{Mirrors, scene_at}
use Rattle.law_one_standing.specs.Places.{at_machine, lies_at}
use Rattle.law_one_standing.specs.Stands.{Stands}
use Rattle.law_one_standing.specs.Told.{IsTold, told_first, told_later}
use Rattle.law_one_standing.proofs.ApartHands.{gets_told}
use Rattle.law_one_standing.proofs.ApartStep.{IsNot, apart_stays, come_by, come_in, not_back, not_front}
use Rattle.law_one_standing.proofs.HandSteps.{Around, Bearing, Steady, free_phase, good_node, lies_last, not_touched, passes_first, same_gone}
use Rattle.law_one_standing.proofs.Plain.{step_bears}
use Rattle.law_one_standing.proofs.RestLine.{node_there}

-- ---- a board goes to another lane

passes_third : (one two three : Bool) (why other last : No) (next : Result (Unit {0}) No) → no_if one why (no_if two other (no_if three last next)) ≡ may_do → three ≡ false
passes_third false false false why other last next is = refl
passes_third false false true why other last next is = cc
passes_third false true three why other last next is = cc
passes_third true two three why other last next is = cc

-- one that wasn't offered last
pub give_bears : {Left : ℕ → Type 0} (number j id to : ℕ) (t : Trace) (before after : LineState) (told all : List Happening) → Around t before after all
    → (steps : MachineSteps number (j + 1) (inputs.Gives id to) before after told) → may_on_lane steps.node (inputs.Gives id to) ≡ may_do → Mirrors number j (inputs.Gives id to) t before after → Bearing Left t after
give_bears number j id to t before after told all a steps may m =
    let node : NodeState = m.node in
    let is : node_at before (j + 1) ≡ node = node_there (j + 1) before node m.there in
    let same : node ≡ steps.node = sym is ∙ node_there (j + 1) before steps.node steps.there in
    let may_own : may_on_lane node (inputs.Gives id to) ≡ may_do = ap (λ (n : NodeState). may_on_lane n (inputs.Gives id to)) same ∙ may in
    let other : IsNotLast id node.lane.body = not_touched node.lane.body.last_offer id (passes_third _ (not (is_kept id node.lane.body.kept)) (is_id node.lane.body.last_offer id) _ _ _ _ may_own) in
    let goes : Steady j t before (t.gone (j + 1)) (machine_step (desk_of node (moment_of number)) (unread_by (j + 1) before.world) (Gives id to) node.lane.body) =
    gives_goes (desk_of node (moment_of number)) (unread_by (j + 1) before.world) id to node.lane.body (scene_at t before j) (good_node j t before node a.st is) other in
    step_bears number j (inputs.Gives id to) t before after told a.st steps may a.together a.goes.holds (λ no. cc) (λ no. cc) m goes
    (λ t2 same. apart_stays t t2 before after all a.goes a.news (λ k y. same k y ∙ same_gone j t k y (same_or_not k (j + 1))) (record { apart = a.st.keeps.apart; olds = a.st.olds }))

-- ---- a board comes from another lane

pub not_told : {h : Happening} {told : List Happening} (x : ℕ) → IsTold h told → IsNot x (come_by told) → IsNot x (come_in h)
not_told {h = h} x (told_first {told = told}) apart = not_front x (come_in h) (come_by told) apart
not_told x (told_later {other = other} {told = told} is) apart = not_told x is (not_back x (come_in other) (come_by told) apart)

-- no board that lies there, nor the one that comes, is gone
here_got : (j id : ℕ) (t : Trace) (s : LineState) → Stands t s → (t.gone (j + 1) id ≡ true → ⊥) → AreHere (t.gone (j + 1)) ((machine_at s.world.floor (j + 1)).boards ++ record { id = Some id } ∷ [])
here_got j id t s st here x lies gone = elim (lies_last (machine_at s.world.floor (j + 1)).boards lies) [
  | inl there ↦ st.keeps.apart.nowhere (j + 1) x (at_machine (j + 1)) gone (lies_at there)
  | inr is ↦ here (subst (λ (n : ℕ). t.gone (j + 1) n ≡ true) is gone)
]

pub get_bears : {Left : ℕ → Type 0} (number j : ℕ) (board : Record) (t : Trace) (before after : LineState) (told all : List Happening) → Around t before after all → ((h : Happening) → IsTold h told → IsTold h all)
    → (steps : MachineSteps number (j + 1) (inputs.Gets board) before after told) → may_on_lane steps.node (inputs.Gets board) ≡ may_do → Mirrors number j (inputs.Gets board) t before after → Bearing Left t after
get_bears number j board t before after told all a more steps may m =
    let node : NodeState = m.node in
    let is : node_at before (j + 1) ≡ node = node_there (j + 1) before node m.there in
    let same : node ≡ steps.node = sym is ∙ node_there (j + 1) before steps.node steps.there in
    let may_own : may_on_lane node (inputs.Gets board) ≡ may_do = ap (λ (n : NodeState). may_on_lane n (inputs.Gets board)) same ∙ may in
    let idle : node.lane.body.intake.phase ≡ inn.Idle = free_phase node.lane.body.intake.phase (passes_first (is_intake_free node.lane.body) _ _ may_own) in
    let act : Happening = happenings.Done (j + 1) (acts.Gets board.id) in
    let here : t.gone (j + 1) board.id ≡ true → ⊥ = λ gone. (not_told board.id (more act (gets_told number (j + 1) board before after told steps)) (a.news.gone (j + 1) board.id gone)).0 refl in
    let goes : Steady j t before (t.gone (j + 1)) (machine_step (desk_of node (moment_of number)) (unread_by (j + 1) before.world) (Gets board) node.lane.body) =
    gets_goes (desk_of node (moment_of number)) (unread_by (j + 1) before.world) board node.lane.body (scene_at t before j) (good_node j t before node a.st is) idle (here_got j board.id t before a.st here) in
    step_bears number j (inputs.Gets board) t before after told a.st steps may a.together a.goes.holds (λ no. cc) (λ no. cc) m goes
    (λ t2 same. apart_stays t t2 before after all a.goes a.news (λ k y. same k y ∙ same_gone j t k y (same_or_not k (j + 1))) (record { apart = a.st.keeps.apart; olds = a.st.olds }))
