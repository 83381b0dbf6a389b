-- The marks of an id: which machines have its record, and in which of three places.
use Rattle.std.specs.Prelude.{ℕ, ◌+◌, ◌==◌, zero, suc, Bool, true, false, List, [], ◌∷◌, ◌++◌, Option, None, Some}
use Rattle.std.specs.List.{list_any}
use Rattle.standings.specs.declared.mark.Mark.{Mark}
use Rattle.standings.specs.declared.mark.Mark.TheVariants.{Kept, Outlet, Intake}

-- what one machine has: the ids that it keeps, the id that its outlet holds, and the id that its
-- intake holds
pub record Owned : Type 0 where
  pub kept : List ℕ
  pub held : Option ℕ
  pub taking : Option ℕ

-- an id is among some
abbrev pub has_id : ℕ → List ℕ → Bool
has_id id ids = list_any (λ other. other == id) ids

-- an id is this one
abbrev pub is_held : ℕ → Option ℕ → Bool
is_held id None = false
is_held id (Some other) = other == id

abbrev pub mark_if : Bool → Mark → List Mark
mark_if true mark = mark ∷ []
mark_if false mark = []

-- the marks of an id at a machine
abbrev pub marks_at : ℕ → Owned → ℕ → List Mark
marks_at machine owned id =
    mark_if (has_id id owned.kept) (Kept machine)
    ++ (mark_if (is_held id owned.held) (Outlet machine)
    ++ mark_if (is_held id owned.taking) (Intake machine))

-- the marks of an id at machines that are numbered from this number on
abbrev pub marks_from : ℕ → List Owned → ℕ → List Mark
marks_from machine [] id = []
marks_from machine (owned ∷ line) id =
    marks_at machine owned id ++ marks_from (machine + 1) line id

-- the marks of an id along a line: each once, in the order of the machines, and at each machine
-- kept, outlet, intake
abbrev pub marks_of : List Owned → ℕ → List Mark
marks_of line id = marks_from 1 line id

-- two marks are one
abbrev pub is_same_mark : Mark → Mark → Bool
is_same_mark (Kept machine) (Kept other) = machine == other
is_same_mark (Outlet machine) (Outlet other) = machine == other
is_same_mark (Intake machine) (Intake other) = machine == other
is_same_mark (Kept _) (Outlet _) = false
is_same_mark (Kept _) (Intake _) = false
is_same_mark (Outlet _) (Kept _) = false
is_same_mark (Outlet _) (Intake _) = false
is_same_mark (Intake _) (Kept _) = false
is_same_mark (Intake _) (Outlet _) = false

-- a mark is among some
abbrev pub has_mark : Mark → List Mark → Bool
has_mark mark marks = list_any (λ other. is_same_mark other mark) marks

-- the three places in which a machine has ids
pub data Where : Type 0 where
  kept : Where
  outlet : Where
  intake : Where

-- the mark of a place at a machine
abbrev pub mark_at : Where → ℕ → Mark
mark_at kept machine = Kept machine
mark_at outlet machine = Outlet machine
mark_at intake machine = Intake machine

-- a machine has an id in a place
abbrev pub has_at : Where → Owned → ℕ → Bool
has_at kept owned id = has_id id owned.kept
has_at outlet owned id = is_held id owned.held
has_at intake owned id = is_held id owned.taking

-- what the machine behind so many others has: nothing where there is no such machine
abbrev pub owned_at : List Owned → ℕ → Owned
owned_at [] before = record { kept = []; held = None; taking = None }
owned_at (owned ∷ line) zero = owned
owned_at (owned ∷ line) (suc before) = owned_at line before
