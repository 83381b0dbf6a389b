use Rattle.std.proofs.Common.{◌≡◌, drop}
use Rattle.hermes_element.specs.Element.{trees_of}
use Rattle.hermes_horizontal.specs.Said.{subs_in}
use Rattle.hermes_horizontal.proofs.subs.subs_in.Given as goal

abbrev pub invariant-loop-child : goal.invariant-loop-child
invariant-loop-child l = subs_in (drop l.child-index l.child-items) ≡ subs_in (trees_of l.fn.children)
