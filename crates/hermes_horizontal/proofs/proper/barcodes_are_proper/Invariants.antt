use Rattle.std.proofs.Common.{drop}
use Rattle.std.specs.List.{AllByRecursion}
use Rattle.hermes_horizontal.specs.Canonical.{IsProperSub}
use Rattle.hermes_horizontal.proofs.proper.barcodes_are_proper.Given as goal

abbrev pub invariant-loop-sub : goal.invariant-loop-sub
invariant-loop-sub l = AllByRecursion IsProperSub (drop l.sub-index l.subs) → AllByRecursion IsProperSub l.fn.subs
