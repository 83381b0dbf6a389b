use Rattle.std.proofs.Common.{length, arith}
use Rattle.std.proofs.lemmas.Bool.{leb-true}
use Rattle.canonical_frames.proofs.digits.is_fraction.Goals as goal

pub returns-then-last-ne48 : goal.returns-then-last-ne48
returns-then-last-ne48 c = λ few.
    let some = c.in-len1-up.len_at_least in
    record { some = omega arith; few = leb-true (length c.args.digits.now) 6 few; ends = c.if-last-ne48.true }
