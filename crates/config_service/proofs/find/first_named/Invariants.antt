use Rattle.std.proofs.Common.{◌≡◌, drop}
use Rattle.config_service.specs.Names.{attr_text}
use Rattle.config_service.specs.Said.{first_named}
use Rattle.config_service.proofs.find.first_named.Given as goal

abbrev pub invariant-loop-attribute : goal.invariant-loop-attribute
invariant-loop-attribute l = first_named (attr_text l.fn.attr) (drop l.attribute-index l.fn.attributes) ≡ first_named (attr_text l.fn.attr) l.fn.attributes
