use Rattle.std.proofs.Common.{◌≡◌, ◌++◌, drop}
use Rattle.std.specs.List.{flat_map}
use Rattle.hermes_element.specs.Canonical.{canonical_attribute}
use Rattle.hermes_element.proofs.write.append_attributes.Given as goal

abbrev pub invariant-loop-attribute : goal.invariant-loop-attribute
invariant-loop-attribute l = l.to.items ++ flat_map canonical_attribute (drop l.attribute-index l.attributes) ≡ l.fn.to.items ++ flat_map canonical_attribute l.attributes
