use Rattle.std.proofs.Common.{◌≡◌, ◌++◌, drop}
use Rattle.hermes_element.proofs.lent.LentAttributes.own.Given as goal

abbrev pub invariant-loop-attribute : goal.invariant-loop-attribute
invariant-loop-attribute l = l.attributes ++ drop l.attribute-index l.attribute-items ≡ l.attribute-items
