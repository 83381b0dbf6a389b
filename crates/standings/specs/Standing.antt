-- The standing of an id, by its marks.
use Rattle.std.specs.Prelude.{◌≡◌, ◌≢◌, ℕ, ◌+◌, ◌-◌, ◌==◌, Bool, true, false, List, [], ◌∷◌, Option, None, Some, if◌then◌else◌}
use Rattle.std.specs.List.{list_all, list_any}
use Rattle.standings.specs.declared.mark.Mark.{Mark}
use Rattle.standings.specs.declared.mark.Mark.TheVariants.{Kept, Outlet, Intake}
use Rattle.standings.specs.declared.standing.Standing.{Standing}
use Rattle.standings.specs.declared.standing.Standing.TheVariants.{With, Between}

-- the type of standings, under a name that no function has
abbrev pub Place : Type 0
Place = Standing

-- a mark is that of this machine which keeps the board
abbrev pub is_kept_by : ℕ → Mark → Bool
is_kept_by machine (Kept other) = other == machine
is_kept_by machine (Outlet _) = false
is_kept_by machine (Intake _) = false

-- a mark is of the handover at gap k: the outlet of machine k holds the board, or the intake of
-- machine k + 1 does
abbrev pub is_handed_at : ℕ → Mark → Bool
is_handed_at gap (Kept _) = false
is_handed_at gap (Outlet machine) = machine == gap
is_handed_at gap (Intake machine) = machine == gap + 1

-- a mark is of that handover, or machine k keeps the board
abbrev pub is_among : ℕ → Mark → Bool
is_among gap (Kept machine) = machine == gap
is_among gap (Outlet machine) = machine == gap
is_among gap (Intake machine) = machine == gap + 1

-- machine m keeps the board, and no other mark stands
pub record IsWith (machine : ℕ) (marks : List Mark) : Type 0 where
  pub some : marks ≢ []
  pub alone : list_all (is_kept_by machine) marks ≡ true

-- the board is in the handover at gap k, and the machine upstream may keep it still: no other mark
-- stands
pub record IsBetween (gap : ℕ) (marks : List Mark) : Type 0 where
  pub handed : list_any (is_handed_at gap) marks ≡ true
  pub among : list_all (is_among gap) marks ≡ true

-- marks give a standing. Other marks, and none, give none
abbrev pub HasStanding : List Mark → Standing → Type 0
HasStanding marks (With machine) = IsWith machine marks
HasStanding marks (Between gap) = IsBetween gap marks

-- how it is found: the gap of the first mark that is in one
abbrev pub gap_named : List Mark → Option ℕ
gap_named [] = None
gap_named (Kept _ ∷ marks) = gap_named marks
gap_named (Outlet machine ∷ _) = Some machine
gap_named (Intake machine ∷ _) = Some (machine - 1)

-- and all others are of that gap
abbrev pub is_all_among : ℕ → List Mark → Bool
is_all_among gap marks = list_all (is_among gap) marks

-- or, where no mark is in a gap, the machine of all
abbrev pub kept_alone : List Mark → Option Standing
kept_alone [] = None
kept_alone (Kept machine ∷ marks) =
    if list_all (is_kept_by machine) marks then Some (With machine) else None
kept_alone (Outlet _ ∷ _) = None
kept_alone (Intake _ ∷ _) = None

abbrev pub standing_by : Option ℕ → List Mark → Option Standing
standing_by None marks = kept_alone marks
standing_by (Some gap) marks = if is_all_among gap marks then Some (Between gap) else None

-- the standing that marks give, or none
abbrev pub standing_of : List Mark → Option Standing
standing_of marks = standing_by (gap_named marks) marks
