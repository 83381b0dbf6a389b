use Rattle.std.proofs.Common.{◌+◌, ◌++◌, length, sym, ◌∙◌, arith}
use Rattle.hermes_stream.proofs.Ends.{IsSearched-passed, IsSearched-more, first_end-closed, first_end-searched}
use Rattle.hermes_stream.proofs.Parts.{long_from_ends_at}
use Rattle.hermes_stream.proofs.scan.find_end.Goals as goal

pub returns-then-ends_at : goal.returns-then-ends_at
returns-then-ends_at c =
    let message = c.args.first.now ++ c.args.second.now in
    let close = c.in-Some.close in
    let passed = c.in-Some.ensures in
    let here = sym c.ends_at.ensures ∙ c.if-ends_at.true in
    sym (first_end-closed message close (omega (arith, passed.within)) (long_from_ends_at message (close + 1) here) (IsSearched-passed message c.loop-close.at close c.loop-close.invariant.1 passed.passed) here)

pub loop-close-preserved : goal.loop-close-preserved
loop-close-preserved c =
    let message = c.args.first.now ++ c.args.second.now in
    let close = c.in-Some.close in
    let passed = c.in-Some.ensures in
    let other = sym c.ends_at.ensures ∙ c.if-ends_at.false in
    (omega (arith, passed.within), IsSearched-more message close (omega (arith, passed.within)) (IsSearched-passed message c.loop-close.at close c.loop-close.invariant.1 passed.passed) other)

pub returns : goal.returns
returns c =
    let message = c.args.first.now ++ c.args.second.now in
    sym (first_end-searched message (IsSearched-passed message c.loop-close.at (length message) c.loop-close.invariant.1 c.in_default.ensures))
