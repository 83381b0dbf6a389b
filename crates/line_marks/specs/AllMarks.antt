-- THE MARKS OF A BOARD ON ALL LANES, in one list.
use Rattle.std.specs.Prelude.{◌≡◌, ◌≢◌, ◌==◌, ◌≤◌, ◌<◌, ◌⊎◌, ℕ, List, [], ◌∷◌, drop, length, take, if◌then◌else◌}
use Rattle.std.specs.List.{AllByRecursion}
use Rattle.standings.specs.declared.mark.Mark.{Mark}
use Rattle.line_marks.specs.Indexed.{machine_of}
use Rattle.line_marks.specs.declared.all_marks.LaneMark.{LaneMark}

-- those of one lane
abbrev pub of_lane : ℕ → List LaneMark → List Mark
of_lane lane [] = []
of_lane lane (own ∷ others) =
    if own.lane == lane then own.mark ∷ of_lane lane others else of_lane lane others

-- a mark stands before another: by machine, and at a machine by lane
abbrev pub IsBefore : LaneMark → LaneMark → Type 0
IsBefore one other =
    (machine_of one.mark < machine_of other.mark)
    ⊎ ((machine_of one.mark ≡ machine_of other.mark) × (one.lane ≤ other.lane))

abbrev pub AreBehind : LaneMark → List LaneMark → Type 0
AreBehind one [] = Unit {0}
AreBehind one (other ∷ others) = IsBefore one other × AreBehind one others

abbrev pub AreOrdered : List LaneMark → Type 0
AreOrdered [] = Unit {0}
AreOrdered (own ∷ others) = AreBehind own others × AreOrdered others

-- ---- the marks of one lane more

-- of this machine or of one behind it
abbrev pub AreFrom : ℕ → List Mark → Type 0
AreFrom machine marks = AllByRecursion (λ (mark : Mark). machine ≤ machine_of mark) marks

abbrev pub AreAscending : List Mark → Type 0
AreAscending [] = Unit {0}
AreAscending (mark ∷ marks) = AreFrom (machine_of mark) marks × AreAscending marks

abbrev pub AreOnLanesTo : ℕ → List LaneMark → Type 0
AreOnLanesTo lane all = AllByRecursion (λ (own : LaneMark). own.lane ≤ lane) all

-- a place is behind all marks of a machine and of the machines before it, and before all others
pub record IsPlaceBehind (machine place : ℕ) (all : List LaneMark) : Type 0 where
  pub within : place ≤ length all
  pub before : AllByRecursion (λ (own : LaneMark). machine_of own.mark ≤ machine) (take place all)
  pub behind : AllByRecursion (λ (own : LaneMark). machine < machine_of own.mark) (drop place all)

-- a lane has these marks now, each other one those that it had, and all stand in their order
pub record IsWithMarks (lane : ℕ) (marks : List Mark) (before after : List LaneMark)
    : Type 0 where
  pub own : of_lane lane after ≡ marks
  pub others : (other : ℕ) → other ≢ lane → of_lane other after ≡ of_lane other before
  pub lanes : AreOnLanesTo lane after
  pub ordered : AreOrdered after
