-- A machine may be given the answer to a question where nothing stands against it: only which
-- reason is told differs.
use Rattle.std.proofs.Common.{◌≡◌, ◌∙◌, ℕ, Option, Some, None, Result, Ok, Err, refl, sym}
use Rattle.std.specs.Prelude.{IsSomeAnd}
use Rattle.node_core.specs.declared.input.Input.{Input}
use Rattle.node_core.specs.declared.input.No.{No}
use Rattle.node_core.specs.declared.input.No.TheVariants as nos
use Rattle.node_core.specs.May as own
use Rattle.node_core.specs.Node.{NodeState}
use Rattle.line_step.specs.Reasons.{May, if_there, may_do, with_word}
use Rattle.line_step.specs.State.{LineState, machine_in}
use Rattle.line_machines.specs.Given.{IsGiven}

worded : (node : NodeState) (may : Result (Unit {0}) No) → with_word node may ≡ may_do
    → may ≡ own.may_do
worded node (Ok _) is = refl
worded node (Err (nos.Answered query)) is = cc
worded node (Err _) is = cc

given_there : (found : Option NodeState) (input : Input)
    → if_there found (λ node. with_word node (own.may_of node input)) ≡ may_do
    → IsSomeAnd found (λ node. own.may_of node input ≡ own.may_do)
given_there None input is = cc
given_there (Some node) input is = worded node (own.may_of node input) is

pub answer_given : (machine : ℕ) (input : Input) (s : LineState) (may : May)
    → may ≡ if_there (machine_in machine s) (λ node. with_word node (own.may_of node input))
    → may ≡ may_do → IsGiven machine input s
answer_given machine input s may is none = given_there (machine_in machine s) input (sym is ∙ none)
