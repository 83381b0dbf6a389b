use Rattle.std.proofs.Common.{drop}
use Rattle.std.specs.List.{AllByRecursion}
use Rattle.hermes_element.specs.Canonical.{IsProperAttribute}
use Rattle.hermes_element.proofs.proper.attributes_are_proper.Given as goal

abbrev pub invariant-loop-attribute : goal.invariant-loop-attribute
invariant-loop-attribute l = AllByRecursion IsProperAttribute (drop l.attribute-index l.attributes) → AllByRecursion IsProperAttribute l.attributes
