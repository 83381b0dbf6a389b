-- Whether a line of the script told what was not so, or let a board come or go unseen.
use Rattle.std.specs.Prelude.{◌||◌, Bool, true, false, List, [], ◌∷◌}
use Rattle.line_report.specs.declared.happening.Happening.{Happening}
use Rattle.line_report.specs.declared.happening.Happening.TheVariants as happenings
use Rattle.line_step.specs.Runs.{Point}

abbrev pub is_lie : Happening → Bool
is_lie (happenings.Lie machine sensed) = true
is_lie (happenings.Unseen machine side) = true
is_lie _ = false

abbrev pub tells_lie : List Happening → Bool
tells_lie [] = false
tells_lie (happening ∷ told) = is_lie happening || tells_lie told

-- over a run
abbrev pub has_lie : List Point → Bool
has_lie [] = false
has_lie (point ∷ points) = tells_lie point.told || has_lie points
