-- WHOSE A BOOK IS: one process at a time has it, and cuts off only what is torn.
use Rattle.std.specs.Prelude.{◌≡◌, ◌≤◌, ℕ, Bool, true, false, List, Option, None, Some, nat_lt}
use Rattle.book_keeper.specs.Keeping.{IsCut}
use Rattle.book_keeper.specs.declared.keeper.Kept2.{Kept2}
use Rattle.book_keeper.specs.declared.keeper.Kept2.TheVariants as kept
use Rattle.line_outside.specs.Faults.{Rose}
use Rattle.node_commands.specs.declared.taking.Taken.{Taken}
use Rattle.node_commands.specs.declared.taking.Taken.TheVariants as taken

-- whether another process has the book, is as it is told; where it isn't told, either may be
abbrev pub IsHeld : Option Bool → Bool → Type 0
IsHeld None held = Unit {0}
IsHeld (Some told) held = held ≡ told

-- a book is taken only where no other process has it, and is busy only where one has
abbrev pub Takes : Option Bool → Taken → Type 0
Takes busy taken.Done = IsHeld busy false
Takes busy taken.Busy = IsHeld busy true
Takes busy taken.Failed = Unit {0}

-- a count of faults never falls, and a failure comes only where it rose
abbrev pub HasTakenCause : ℕ → ℕ → Taken → Type 0
HasTakenCause before now taken.Done = before ≤ now
HasTakenCause before now taken.Busy = before ≤ now
HasTakenCause before now taken.Failed = (before ≤ now) × Rose before now

-- ---- what is torn

abbrev pub IsMendedIf : Bool → ℕ → Option (List ℕ) → Option (List ℕ) → Type 0
IsMendedIf true whole old new = IsCut old new whole
IsMendedIf false whole old new = new ≡ old

-- A BOOK OF WHICH SO MANY BYTES WERE READ is cut to its whole entries, where they are fewer; else its
-- end isn't torn, and it is as it was, whatever it has
abbrev pub IsMended : ℕ → ℕ → Option (List ℕ) → Option (List ℕ) → Type 0
IsMended count whole old new = IsMendedIf (nat_lt whole count) whole old new

-- or it failed, and is as it was
abbrev pub Mends : ℕ → ℕ → Option (List ℕ) → Option (List ℕ) → Kept2 → Type 0
Mends count whole old new kept.Done = IsMended count whole old new
Mends count whole old new kept.Failed = new ≡ old
