use Rattle.std.proofs.Common.{◌≡◌, take}
use Rattle.line_base.specs.Number.{value_of}
use Rattle.line_base.proofs.number.digits_value.Given as goal

abbrev pub invariant-loop-digit : goal.invariant-loop-digit
invariant-loop-digit l = l.value ≡ value_of (take l.digit-index l.digits)
