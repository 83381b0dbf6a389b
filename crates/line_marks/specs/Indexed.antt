-- An index from the ids of boards to their marks along a line, and how it follows the line.
use Rattle.std.specs.Prelude.{◌≡◌, ◌++◌, ℕ, true, false, List, [], ◌∷◌, Option, Some, None, nat_eq, nat_lt, if◌then◌else◌}
use Rattle.std.specs.Map.{lookup}
use Rattle.standings.specs.Marks.{Owned, has_id, mark_if, marks_from, marks_of}
use Rattle.standings.specs.declared.mark.Mark.{Mark}
use Rattle.standings.specs.declared.mark.Mark.TheVariants.{Kept, Outlet, Intake}
use Rattle.line_marks.specs.Stepped.{owned_between}

-- what an index has: each id that has a mark, with its marks
abbrev pub Entries : Type 0
Entries = List (ℕ × List Mark)

-- an id that has no mark is not in an index
abbrev pub indexed : List Mark → Option (List Mark)
indexed [] = None
indexed (mark ∷ marks) = Some (mark ∷ marks)

abbrev pub entry_at : Entries → ℕ → Option (List Mark)
entry_at entries id = lookup (nat_eq id) entries

abbrev pub marks_in_entry : Option (List Mark) → List Mark
marks_in_entry None = []
marks_in_entry (Some marks) = marks

-- the marks that an index has of an id
abbrev pub marks_listed : Entries → ℕ → List Mark
marks_listed entries id = marks_in_entry (entry_at entries id)

-- an index is that of a line: it has exactly the ids that have a mark there, with their marks
pub record IsIndexOf (entries : Entries) (line : List Owned) : Type 0 where
  pub at : (id : ℕ) → entry_at entries id ≡ indexed (marks_of line id)

-- ---- some machines have stepped

abbrev pub machine_of : Mark → ℕ
machine_of (Kept machine) = machine
machine_of (Outlet machine) = machine
machine_of (Intake machine) = machine

-- the marks of machines before this one
abbrev pub below : ℕ → List Mark → List Mark
below first [] = []
below first (mark ∷ marks) = mark_if (nat_lt (machine_of mark) first) mark ++ below first marks

-- and of machines behind this one
abbrev pub above : ℕ → List Mark → List Mark
above last [] = []
above last (mark ∷ marks) = mark_if (nat_lt last (machine_of mark)) mark ++ above last marks

-- the marks that an id had, and in their place at the machines from one number to another, where
-- there are some, those that it has there
abbrev pub patched : ℕ → ℕ → List Owned → List Mark → ℕ → List Mark
patched first last line marks id =
    if nat_eq first 0 then marks else below first marks
    ++ (marks_from first (owned_between first last line) id ++ above last marks)

-- ---- the ids that a line of the script named

-- a line of machines became another by steps of some of them: the marks of the ids that are named
-- are those that it had, and what the machines that stepped have now; all other ids have the marks
-- that they had
pub record Follows (first last : ℕ) (ids : List ℕ) (before now : List Owned) : Type 0 where
  pub named : (id : ℕ) → has_id id ids ≡ true
      → marks_of now id ≡ patched first last now (marks_of before id) id
  pub others : (id : ℕ) → has_id id ids ≡ false → marks_of before id ≡ marks_of now id
