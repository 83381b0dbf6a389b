-- A question of a machine may be answered where the machine may be given the answer: what differs
-- is the reason that is told.
use Rattle.std.proofs.Common.{◌≡◌, ℕ, List, Option, Some, None, Result, Ok, Err, refl}
use Rattle.node_core.specs.declared.input.Input.{Input}
use Rattle.node_core.specs.declared.input.Input.TheVariants as inputs
use Rattle.node_core.specs.declared.input.No.{No}
use Rattle.node_core.specs.declared.input.No.TheVariants as nos
use Rattle.node_core.specs.May.{may_of}
use Rattle.node_core.specs.Node.{NodeState}
use Rattle.line_step.specs.State.{LineState, machine_in}
use Rattle.line_step.specs.Reasons.{behind_own, if_there, may_answer, may_do, may_give, with_word}

worded : (node : NodeState) (own : Result (Unit {0}) No) → with_word node own ≡ may_do
    → behind_own own may_do ≡ may_do
worded node (Ok _) is = refl
worded node (Err (nos.Answered query)) is = cc
worded node (Err _) is = cc

worded_there : (found : Option NodeState) (input : Input)
    → if_there found (λ node. with_word node (may_of node input)) ≡ may_do
    → if_there found (λ node. behind_own (may_of node input) may_do) ≡ may_do
worded_there None input is = cc
worded_there (Some node) input is = worded node (may_of node input) is

pub answer_may : (machine query : ℕ) (order : List ℕ) (s : LineState)
    → may_answer machine query order s ≡ may_do
    → may_give machine (inputs.Answer query order) s ≡ may_do
answer_may machine query order s is =
    worded_there (machine_in machine s) (inputs.Answer query order) is
