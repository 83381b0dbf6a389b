use Rattle.std.proofs.Common.{◌≡◌, take}
use Rattle.made_script.specs.Fold.{fold_from}
use Rattle.made_script.proofs.fold.fold_each.Given as goal

abbrev pub invariant-loop-byte : goal.invariant-loop-byte
invariant-loop-byte l = l.sum ≡ fold_from l.fn.before (take l.byte-index l.text)
