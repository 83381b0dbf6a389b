-- What reading a part of an entry answers: as it should be, unless memory ran out.
use Rattle.std.specs.Prelude.{◌≡◌, Result, Ok, Err}
use Rattle.book_entry.specs.declared.fault.EntryError.{EntryError}
use Rattle.book_entry.specs.declared.fault.EntryError.TheVariants as errors
use Rattle.book_entry.specs.declared.fault.Fail.{Fail}
use Rattle.book_entry.specs.declared.fault.Fail.TheVariants as fails

abbrev pub error_of : Fail → EntryError
error_of fails.Short = errors.Short
error_of fails.Bad = errors.Bad

-- this, unless memory ran out
abbrev pub Reads : {A : Type 0} → Result A Fail → Result A EntryError → Type 0
Reads wanted (Ok value) = wanted ≡ Ok value
Reads wanted (Err errors.Short) = wanted ≡ Err fails.Short
Reads wanted (Err errors.Bad) = wanted ≡ Err fails.Bad
Reads wanted (Err errors.Memory) = Unit {0}
