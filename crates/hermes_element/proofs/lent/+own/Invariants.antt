use Rattle.std.proofs.Common.{◌≡◌, ◌++◌, drop}
use Rattle.hermes_element.specs.Element.{trees_of}
use Rattle.hermes_element.proofs.lent.+own.Given as goal

abbrev pub decreases-LentChildren::own : goal.decreases-LentChildren::own
decreases-LentChildren::own l = goal.size-LentChildren::own l

abbrev pub decreases-LentElement::own : goal.decreases-LentElement::own
decreases-LentElement::own l = goal.size-LentElement::own l

abbrev pub invariant-LentChildren::own-loop-child : goal.invariant-LentChildren::own-loop-child
invariant-LentChildren::own-loop-child l = trees_of l.children ++ drop l.child-index l.child-items ≡ l.child-items
