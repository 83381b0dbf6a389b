-- What a line gives a machine is a plain input.
use Rattle.std.proofs.Common.{◌≡◌, true, refl}
use Rattle.node_core.specs.declared.input.Input.{Input}
use Rattle.node_core.specs.declared.input.Input.TheVariants as inputs
use Rattle.line_step.proofs.Giving.{IsGiven}
use Rattle.law_one_standing.proofs.MirroringPlain.{is_plain_input}

-- an input that a line gives is neither of bytes nor of a connection
pub given_plain : (input : Input) → IsGiven input → is_plain_input input ≡ true
given_plain inputs.Connect given = absurd given
given_plain inputs.Accepted given = absurd given
given_plain inputs.Second given = absurd given
given_plain (inputs.Bytes side piece) given = absurd given
given_plain _ given = refl
