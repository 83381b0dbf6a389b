-- What a report tells of an id's standing after a line.
use Rattle.std.specs.Prelude.{◌==◌, Bool, true, false, List, [], ◌∷◌, Option, None, Some, if◌then◌else◌}
use Rattle.standings.specs.declared.mark.Mark.{Mark}
use Rattle.standings.specs.declared.standing.Standing.{Standing}
use Rattle.standings.specs.declared.standing.Standing.TheVariants as standings
use Rattle.standings.specs.declared.told.Told.{Told}
use Rattle.standings.specs.declared.told.Told.TheVariants.{With, Between, Gone}
use Rattle.standings.specs.Standing.{standing_of}

-- two standings, or none, are one
abbrev pub is_same_standing : Option Standing → Option Standing → Bool
is_same_standing None None = true
is_same_standing None (Some _) = false
is_same_standing (Some _) None = false
is_same_standing (Some (standings.With machine)) (Some (standings.With other)) = machine == other
is_same_standing (Some (standings.With _)) (Some (standings.Between _)) = false
is_same_standing (Some (standings.Between _)) (Some (standings.With _)) = false
is_same_standing (Some (standings.Between gap)) (Some (standings.Between other)) = gap == other

abbrev pub standing_told : Option Standing → Option Told
standing_told None = None
standing_told (Some (standings.With machine)) = Some (With machine)
standing_told (Some (standings.Between gap)) = Some (Between gap)

-- a new standing is told where it is another than before, and an id is told to be gone where its
-- last mark went. An id that has marks and no standing isn't told of
abbrev pub told_of : List Mark → List Mark → Option Told
told_of [] [] = None
told_of (_ ∷ _) [] = Some Gone
told_of before (mark ∷ marks) =
    if is_same_standing (standing_of (mark ∷ marks))
    (standing_of before) then None else standing_told (standing_of (mark ∷ marks))
