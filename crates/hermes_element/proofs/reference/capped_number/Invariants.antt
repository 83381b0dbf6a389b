use Rattle.std.proofs.Common.{◌≡◌, ◌≤◌, drop, min}
use Rattle.hermes_element.specs.Checks.{number_of, digit_of}
use Rattle.hermes_element.proofs.reference.capped_number.Given as goal

abbrev pub invariant-loop-digit : goal.invariant-loop-digit
invariant-loop-digit l = record {
  same : min (number_of l.base digit_of l.number (drop l.digit-index l.digits)) 0x110000 ≡ min (number_of l.base digit_of 0 l.digits) 0x110000;
  low : l.number ≤ 0x110000;
}
