use Rattle.std.proofs.Common.{◌≡◌, ◌≤◌, ◌+◌, drop, length}
use Rattle.hermes_horizontal.specs.Said.{sbs_among}
use Rattle.hermes_horizontal.proofs.subs.count_sbs.Given as goal

abbrev pub invariant-loop-child : goal.invariant-loop-child
invariant-loop-child l = record {
  told : l.count + length (sbs_among (drop l.child-index l.children)) ≡ length (sbs_among l.fn.children);
  bounded : l.count ≤ l.child-index;
}
