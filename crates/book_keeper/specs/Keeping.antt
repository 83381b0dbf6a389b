-- What the calls of a book do to its bytes, where they are told.
use Rattle.std.specs.Prelude.{◌≡◌, ◌≤◌, ℕ, List, Option, None, Some, take}
use Rattle.line_outside.specs.Faults.{Rose}
use Rattle.line_outside.specs.Sink.{Grows}
use Rattle.book_keeper.specs.declared.keeper.Kept2.{Kept2}
use Rattle.book_keeper.specs.declared.keeper.Kept2.TheVariants as kept

-- the bytes were cut to their first, so many; what is untold stays untold
abbrev pub IsCut : Option (List ℕ) → Option (List ℕ) → ℕ → Type 0
IsCut None None length = Unit {0}
IsCut (Some old) None length = Unit {0}
IsCut None (Some new) length = ⊥
IsCut (Some old) (Some new) length = new ≡ take length old

abbrev pub Cuts : Option (List ℕ) → Option (List ℕ) → Kept2 → ℕ → Type 0
Cuts old new kept.Done length = IsCut old new length
Cuts old new kept.Failed length = new ≡ old

-- the entry was appended
abbrev pub Keeps : Option (List ℕ) → Option (List ℕ) → Kept2 → List ℕ → Type 0
Keeps old new kept.Done entry = Grows old new entry
Keeps old new kept.Failed entry = new ≡ old

-- a count of faults never falls, and a failure comes only where it rose
abbrev pub HasKeepCause : ℕ → ℕ → Kept2 → Type 0
HasKeepCause before now kept.Done = before ≤ now
HasKeepCause before now kept.Failed = (before ≤ now) × Rose before now
