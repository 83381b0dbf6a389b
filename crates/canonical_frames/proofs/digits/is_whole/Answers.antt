use Rattle.std.proofs.Common.{length, arith}
use Rattle.std.proofs.lemmas.Bool.{leb-true}
use Rattle.canonical_frames.proofs.digits.is_whole.Goals as goal

pub returns-in-len1 : goal.returns-in-len1
returns-in-len1 c = λ few.
    let some = c.in-len1.len_at_least in
    let one = c.in-len1.len_below in
    let within = leb-true 1 c.args.most few in
    record { some = omega arith; few = omega arith; leads = λ zero. omega arith }

pub returns-then-first-ne48 : goal.returns-then-first-ne48
returns-then-first-ne48 c = λ few.
    let some = c.in-len1-up.len_at_least in
    record { some = omega arith; few = leb-true (length c.args.digits.now) c.args.most few; leads = λ zero. absurd (c.if-first-ne48.true zero) }
