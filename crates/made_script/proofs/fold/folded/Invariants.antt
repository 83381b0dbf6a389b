use Rattle.std.proofs.Common.{◌≡◌, length}
use Rattle.made_script.specs.Fold.{fold_from}
use Rattle.made_script.proofs.fold.folded.Given as goal

abbrev pub invariant-loop-left : goal.invariant-loop-left
invariant-loop-left l = fold_from l.sum l.left ≡ fold_from l.fn.before l.fn.text

abbrev pub decreases-loop-left : goal.decreases-loop-left
decreases-loop-left l = length l.left
