use Rattle.std.proofs.Common.{drop}
use Rattle.hermes_horizontal.specs.Said.{each_said, sbs_among}
use Rattle.hermes_horizontal.proofs.SubsRead.{IsTold}
use Rattle.hermes_horizontal.proofs.subs.each_said.Given as goal

abbrev pub invariant-loop-child : goal.invariant-loop-child
invariant-loop-child l = IsTold l.subs.items (drop l.child-index l.children) (each_said (sbs_among l.fn.children))
