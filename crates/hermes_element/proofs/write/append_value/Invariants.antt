use Rattle.std.proofs.Common.{◌≡◌, ◌++◌, drop}
use Rattle.std.specs.List.{flat_map}
use Rattle.hermes_element.specs.Canonical.{escaped_byte}
use Rattle.hermes_element.specs.Standing.{StillStands}
use Rattle.hermes_element.proofs.write.append_value.Given as goal

-- what stood there still stands, and with the rest of the value it is what is wanted
abbrev pub invariant-loop-byte : goal.invariant-loop-byte
invariant-loop-byte l = StillStands l.fn.to.items l.to.items × (l.to.items ++ flat_map escaped_byte (drop l.byte-index l.value) ≡ l.fn.to.items ++ flat_map escaped_byte l.value)
