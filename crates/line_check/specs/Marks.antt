-- The marks of one id.
use Rattle.std.specs.Prelude.{ℕ, ◌==◌, Bool, true, false, not, List, [], ◌∷◌, ◌++◌, Option, None, Some, filter, is_none, if◌then◌else◌}
use Rattle.standings.specs.declared.mark.Mark.{Mark}
use Rattle.standings.specs.declared.entry.Entry.{Entry}
use Rattle.standings.specs.declared.deed.Deed.{Deed}
use Rattle.standings.specs.Marks.{is_same_mark}
use Rattle.standings.specs.Standing.{standing_of}
use Rattle.standings.specs.Deeds.{added, taken}

-- marks without one of them
abbrev pub without_mark : Mark → List Mark → List Mark
without_mark mark marks = filter (λ (other : Mark). not (is_same_mark other mark)) marks

-- the marks of an id, of which these stood, behind an entry that goes
abbrev pub taken_at : Entry → ℕ → List Mark → List Mark
taken_at entry id marks = if entry.id == id then without_mark entry.mark marks else marks

-- and behind one that comes
abbrev pub added_at : Entry → ℕ → List Mark → List Mark
added_at entry id marks = if entry.id == id then marks ++ entry.mark ∷ [] else marks

-- there is a mark
abbrev pub is_some_mark : List Mark → Bool
is_some_mark [] = false
is_some_mark (mark ∷ marks) = true

-- the same for entries that may be none
abbrev pub taken_by : Option Entry → ℕ → List Mark → List Mark
taken_by None id marks = marks
taken_by (Some entry) id marks = taken_at entry id marks

abbrev pub added_by : Option Entry → ℕ → List Mark → List Mark
added_by None id marks = marks
added_by (Some entry) id marks = added_at entry id marks

-- the marks of an id, of which these stood, behind a deed
abbrev pub changed_by : Deed → ℕ → List Mark → List Mark
changed_by deed id marks = added_by (added deed) id (taken_by (taken deed) id marks)

-- marks that give no standing
abbrev pub lack_standing : List Mark → Bool
lack_standing [] = false
lack_standing (mark ∷ marks) = is_none (standing_of (mark ∷ marks))
