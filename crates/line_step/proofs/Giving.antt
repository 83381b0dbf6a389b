-- An input that a machine may get is no connection and no bytes: these come over a link.
use Rattle.std.proofs.Common.{◌≡◌, ℕ}
use Rattle.node_core.specs.declared.input.Input.{Input}
use Rattle.node_core.specs.declared.input.Input.TheVariants as inputs
use Rattle.line_step.specs.State.{LineState}
use Rattle.line_step.specs.Reasons.{may_do}
use Rattle.line_step.specs.Requests.{may_get}

abbrev pub IsGiven : Input → Type 0
IsGiven inputs.Connect = ⊥
IsGiven inputs.Accepted = ⊥
IsGiven inputs.Second = ⊥
IsGiven (inputs.Bytes side piece) = ⊥
IsGiven _ = Unit {0}

pub may_given : (machine : ℕ) (input : Input) (s : LineState) → may_get machine input s ≡ may_do → IsGiven input
may_given machine inputs.Connect s may = cc
may_given machine inputs.Accepted s may = cc
may_given machine inputs.Second s may = cc
may_given machine (inputs.Bytes side piece) s may = cc
may_given machine _ s may = tt
