use Rattle.std.proofs.Common.{length, drop, take, ◌-◌, ◌≡◌, ◌≤◌, ◌++◌}
use Rattle.line_base.specs.Number.{front_digits, behind_digits}
use Rattle.line_base.proofs.number.split_digits.Given as goal

abbrev pub invariant-loop-count : goal.invariant-loop-count
invariant-loop-count l = record {
  within : l.count ≤ length l.bytes;
  front : front_digits l.bytes ≡ take l.count l.bytes ++ front_digits (drop l.count l.bytes);
  behind : behind_digits l.bytes ≡ behind_digits (drop l.count l.bytes);
}

abbrev pub decreases-loop-count : goal.decreases-loop-count
decreases-loop-count l = length l.bytes - l.count
