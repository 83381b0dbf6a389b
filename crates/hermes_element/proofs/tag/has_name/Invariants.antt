use Rattle.std.proofs.Common.{◌≡◌, drop}
use Rattle.std.specs.List.{list_any}
use Rattle.std.specs.Str.{bytes_eq}
use Rattle.hermes_element.specs.Machine.{names_of}
use Rattle.hermes_element.proofs.tag.has_name.Given as goal

abbrev pub invariant-loop-attribute : goal.invariant-loop-attribute
invariant-loop-attribute l = list_any (bytes_eq l.name) (names_of (drop l.attribute-index l.attributes)) ≡ list_any (bytes_eq l.name) (names_of l.attributes)
