use Rattle.std.proofs.Common.{◌≡◌, drop}
use Rattle.hermes_element.specs.Element.{trees_of}
use Rattle.hermes_horizontal.specs.Spelling.{features_in}
use Rattle.hermes_horizontal.proofs.rows.features_in.Given as goal

abbrev pub invariant-loop-child : goal.invariant-loop-child
invariant-loop-child l = features_in (drop l.child-index l.child-items) ≡ features_in (trees_of l.fn.children)
