-- What a shift tells. A machine gives a board on one lane and gets it on another: of both lanes
-- stands first what came before that, then the shift itself, and then what came behind it, of each
-- lane. That the other lane gets the board isn't told.
use Rattle.std.specs.Prelude.{ℕ, ◌+◌, ◌++◌, Bool, true, false, List, [], ◌∷◌, if◌then◌else◌}
use Rattle.node_core.specs.declared.act.Act.TheVariants as acts
use Rattle.line_report.specs.Lanes.{told_on}
use Rattle.line_report.specs.declared.happening.Happening.{Happening}
use Rattle.line_report.specs.declared.happening.Happening.TheVariants as happenings
use Rattle.line_report.specs.declared.happening.LaneHappening.{LaneHappening}

abbrev pub is_gives : Happening → Bool
is_gives (happenings.Done machine (acts.Gives id to)) = true
is_gives _ = false

abbrev pub is_gets : Happening → Bool
is_gets (happenings.Done machine (acts.Gets id)) = true
is_gets _ = false

-- ---- a list at the first happening of a kind: what stands before that, that and all behind it, and
-- what stands behind it

abbrev pub before_first : (Happening → Bool) → List Happening → List Happening
before_first is [] = []
before_first is (happening ∷ told) =
    if is happening then [] else happening ∷ before_first is told

abbrev pub from_first : (Happening → Bool) → List Happening → List Happening
from_first is [] = []
from_first is (happening ∷ told) = if is happening then happening ∷ told else from_first is told

abbrev pub behind_first : (Happening → Bool) → List Happening → List Happening
behind_first is [] = []
behind_first is (happening ∷ told) = if is happening then told else behind_first is told

-- how many stand before it, where so many stand before the list
abbrev pub first_from : (Happening → Bool) → ℕ → List Happening → ℕ
first_from is before [] = before
first_from is before (happening ∷ told) =
    if is happening then before else first_from is (before + 1) told

-- ---- THE TELLING of a shift from a lane to another, by what the machine told on each

abbrev pub before_gives : List Happening → List Happening
before_gives told = before_first is_gives told

-- the shift itself stands in front
abbrev pub from_gives : List Happening → List Happening
from_gives told = from_first is_gives told

abbrev pub before_gets : List Happening → List Happening
before_gets told = before_first is_gets told

abbrev pub behind_gets : List Happening → List Happening
behind_gets told = behind_first is_gets told

abbrev pub shift_told : ℕ → ℕ → List Happening → List Happening → List LaneHappening
shift_told from to given got =
    told_on from (before_gives given) ++ told_on to (before_gets got)
    ++ told_on from (from_gives given) ++ told_on to (behind_gets got)
