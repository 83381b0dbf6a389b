-- What a book in memory is, and what its calls make of it.
use Rattle.std.specs.Prelude.{◌+◌, ◌-◌, ◌^◌, ◌++◌, ℕ, Bool, true, false, List, Option, None, Some, length, min, take, nat_lt, if◌then◌else◌}
use Rattle.line_outside.specs.Faults.{one_more}
use Rattle.line_outside.specs.Sheet.{fails_next}
use Rattle.book_keeper.specs.declared.keeper.Kept2.{Kept2}
use Rattle.book_keeper.specs.declared.keeper.Kept2.TheVariants as kept

-- its bytes, until an entry was dropped; those that weren't pulled; how many more there is room
-- for; the numbers of the calls of `keep` that fail, how many there were, and how many failed
pub record Shelf : Type 0 where
  pub contents : Option (List ℕ)
  pub left : List ℕ
  pub room : ℕ
  pub failing : List ℕ
  pub calls : ℕ
  pub faults : ℕ

abbrev pub told : Bool → List ℕ → Option (List ℕ)
told false bytes = Some bytes
told true bytes = None

-- an entry that fits is appended; one that doesn't is dropped, and from then on the book isn't told
abbrev pub contents_with : Option (List ℕ) → ℕ → List ℕ → Option (List ℕ)
contents_with None room entry = None
contents_with (Some bytes) room entry =
    if nat_lt room (length entry) then None else Some (bytes ++ entry)

-- what the next call of `keep` answers: a failure exactly where it is listed
abbrev pub keeps_at : Shelf → Kept2
keeps_at shelf = if fails_next shelf.failing shelf.calls then kept.Failed else kept.Done

abbrev pub contents_after : Shelf → List ℕ → Option (List ℕ)
contents_after shelf entry =
    if fails_next shelf.failing shelf.calls then shelf.contents
    else contents_with shelf.contents shelf.room entry

-- one more fault exactly where the call failed
abbrev pub faults_after : ℕ → Kept2 → ℕ
faults_after before kept.Failed = one_more before
faults_after before kept.Done = before

abbrev pub cut_to : Option (List ℕ) → ℕ → Option (List ℕ)
cut_to None length = None
cut_to (Some bytes) length = Some (take length bytes)
