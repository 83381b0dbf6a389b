use Rattle.std.proofs.Common.{drop}
use Rattle.hermes_element.specs.Element.{forest_of}
use Rattle.hermes_element.specs.Canonical.{HaveProperTags}
use Rattle.hermes_element.proofs.proper.+parts_are_proper.Given as goal

abbrev pub decreases-parts_are_proper : goal.decreases-parts_are_proper
decreases-parts_are_proper l = goal.size-parts_are_proper l

abbrev pub invariant-loop-child : goal.invariant-loop-child
invariant-loop-child l = HaveProperTags (forest_of (drop l.child-index l.children)) → HaveProperTags (forest_of l.children)
