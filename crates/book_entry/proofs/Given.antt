-- A step, as that of its entry.
use Rattle.std.proofs.Common.{◌≡◌, ℤ, List, Result, subst}
use Rattle.board_record.specs.declared.sensed.Sensed.{Sensed}
use Rattle.book_entry.specs.declared.entry.OwnInput.{OwnInput}
use Rattle.node_core.specs.May.{may_of, may_do}
use Rattle.node_core.specs.Node.{NodeState}
use Rattle.node_core.specs.declared.act.Act.{Act}
use Rattle.node_core.specs.declared.input.Input.{Input}
use Rattle.node_core.specs.declared.input.Input.TheVariants as inputs
use Rattle.book_entry.specs.Given.{IsOfOneLane}
use Rattle.book_entry.specs.Steps.{StepsOwn}
use Rattle.book_entry.specs.declared.stepping.StepError.{StepError}

pub sensed_at : (s : NodeState) (sensed lent : List Sensed) (input : OwnInput) (moment : ℤ) (t : NodeState) (result : Result (List Act) StepError) → lent ≡ sensed → StepsOwn s lent input moment t result → StepsOwn s sensed input moment t result
sensed_at s sensed lent input moment t result e steps = subst (λ (x : List Sensed). StepsOwn s x input moment t result) e steps

-- what a machine of one lane may be given is of one lane
pub of_one_lane : (s : NodeState) (input : Input) → may_of s input ≡ may_do → IsOfOneLane input
of_one_lane s (inputs.Gives id to) may = cc
of_one_lane s (inputs.Gets board) may = cc
of_one_lane s inputs.Nothing may = tt
of_one_lane s _ may = tt
