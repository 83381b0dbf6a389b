-- THE LINES THAT A SCRIPT DOES over several lanes: each line itself, and of a stop its parts, each as
-- it is in view of the state before it.
use Rattle.std.specs.Prelude.{◌++◌, List, [], ◌∷◌, length}
use Rattle.line_script.specs.declared.line.LaneLine.{LaneLine}
use Rattle.law_lanes.specs.Lanes.{Lanes}
use Rattle.law_lanes.specs.Parts.{LanePart, LanePoint, parts_of, state_behind}

abbrev pub lines_played : Lanes → List LanePart → List LanePoint → List LaneLine
lines_played s [] points = []
lines_played s (part ∷ parts) [] = []
lines_played s (part ∷ parts) (point ∷ points) =
    part.line s ∷ lines_played point.after parts points

-- one for each point of the run
abbrev pub lines_done : Lanes → List LaneLine → List (List LanePoint) → List LaneLine
lines_done s [] done = []
lines_done s (line ∷ lines) [] = []
lines_done s (line ∷ lines) (own ∷ others) =
    lines_played s (parts_of (length s.tracks) line) own
    ++ lines_done (state_behind s own) lines others
