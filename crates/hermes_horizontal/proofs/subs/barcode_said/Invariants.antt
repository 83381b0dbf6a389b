use Rattle.std.proofs.Common.{◌≡◌, codes, drop}
use Rattle.hermes_horizontal.specs.Said.{first_named}
use Rattle.hermes_horizontal.proofs.subs.barcode_said.Given as goal

abbrev pub invariant-loop-attribute : goal.invariant-loop-attribute
invariant-loop-attribute l = first_named (codes "Bc") (drop l.attribute-index l.attributes) ≡ first_named (codes "Bc") l.fn.attributes
