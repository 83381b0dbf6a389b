use Rattle.std.proofs.Common.{◌≡◌, ◌++◌, drop}
use Rattle.hermes_element.specs.Element.{forest_of}
use Rattle.hermes_element.specs.Canonical.{canonical_forest}
use Rattle.hermes_element.proofs.write.+append_element.Given as goal

abbrev pub decreases-append_element : goal.decreases-append_element
decreases-append_element l = goal.size-append_element l

abbrev pub invariant-loop-child : goal.invariant-loop-child
invariant-loop-child l = l.to.items ++ canonical_forest (forest_of (drop l.child-index l.children)) ≡ l.initial.to.items ++ canonical_forest (forest_of l.children)
