-- The bytes of a value, lent or its own.
use Rattle.std.specs.Prelude.{ℕ, List}
use Rattle.hermes_element.specs.declared.lent.ValueBytes.{ValueBytes}
use Rattle.hermes_element.specs.declared.lent.ValueBytes.TheVariants as bytes

abbrev pub bytes_of : ValueBytes → List ℕ
bytes_of (bytes.Lent lent) = lent.now
bytes_of (bytes.Own own) = own.items
