use Rattle.std.proofs.Common.{◌≡◌, true, take}
use Rattle.line_base.specs.Number.{are_digits}
use Rattle.canonical_frames.proofs.digits.count_digits.Given as goal

abbrev pub invariant-loop-i : goal.invariant-loop-i
invariant-loop-i l = are_digits (take l.i l.bytes) ≡ true
