-- A LINE OF SEVERAL LANES: each lane along the whole line is a track, a line of its own. What the
-- lanes of a machine share is the same on each of them: the ids that it made, and whether it is
-- supervised. Work orders are asked for on the first lane alone.
use Rattle.std.specs.Prelude.{◌-◌, ◌&&◌, ℕ, zero, suc, Bool, false, List, [], ◌∷◌, Option, get_or, length, map, nat_le, nat_lt}
use Rattle.node_core.specs.Node.{NodeState}
use Rattle.line_step.specs.State.{LineState, no_line}

-- lanes are numbered from 1: a track for each, that of the first one first
pub record Lanes : Type 0 where
  pub spent : Bool
  pub tracks : List LineState

-- without a machine a line has one lane
abbrev pub no_lanes : Lanes
no_lanes = record { spent = false; tracks = no_line ∷ [] }

-- the most lanes of a line
abbrev pub most_lanes : ℕ
most_lanes = 4

abbrev pub has_lane : ℕ → Lanes → Bool
has_lane lane s = nat_lt 0 lane && nat_le lane (length s.tracks)

-- how many lines were done, and the first that told what was not so, or moved a board unseen: it is
-- the same on each track
abbrev pub lines_of : Lanes → ℕ
lines_of s = (get_or s.tracks 0 no_line).lines

abbrev pub unvouched_of : Lanes → Option ℕ
unvouched_of s = (get_or s.tracks 0 no_line).unvouched

-- a lane without a machine
abbrev pub empty_track : Lanes → LineState
empty_track s = record no_line { lines = lines_of s; unvouched = unvouched_of s }

-- THE TRACK of a lane. One that isn't there has no machine
abbrev pub track : ℕ → Lanes → LineState
track lane s = get_or s.tracks (lane - 1) (empty_track s)

-- ---- what a step on one track leaves of the others

abbrev pub beside_nodes : List NodeState → List NodeState → List NodeState
beside_nodes [] others = others
beside_nodes (node ∷ nodes) [] = []
beside_nodes (node ∷ nodes) (other ∷ others) =
    record other { maker = node.maker; supervised = node.supervised } ∷ beside_nodes nodes others

abbrev pub beside : LineState → LineState → LineState
beside now other = record other {
  machines = beside_nodes now.machines other.machines;
  unvouched = now.unvouched;
}

-- the tracks where the one behind so many is this now
abbrev pub tracks_with : ℕ → LineState → List LineState → List LineState
tracks_with before now [] = []
tracks_with zero now (other ∷ others) = now ∷ map (beside now) others
tracks_with (suc before) now (other ∷ others) = beside now other ∷ tracks_with before now others

abbrev pub with_track : ℕ → LineState → Lanes → Lanes
with_track lane now s = record s { tracks = tracks_with (lane - 1) now s.tracks }

-- the line is counted on each track
abbrev pub counted : ℕ → Lanes → Lanes
counted lines s = record s { tracks = map (λ (t : LineState). record t { lines = lines }) s.tracks }
