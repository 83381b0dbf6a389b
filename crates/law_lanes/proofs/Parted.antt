-- In each state of a line of a script, a run of a track has led to each lane.
use Rattle.std.proofs.Common.{◌≡◌, ◌+◌, ◌≤◌, ◌++◌, ℕ, Bool, true, false, List, [], ◌∷◌, length, arith}
use Rattle.line_step.specs.Parts.{count_behind}
use Rattle.law_lanes.specs.Lanes.{Lanes, lines_of}
use Rattle.law_lanes.specs.Parts.{IsLanePlay, IsShort, LanePart, LanePoint, all_points, parts_of}
use Rattle.law_lanes.specs.Reached.{AreReached, EachPartIsReached}
use Rattle.law_lanes.proofs.Along.{EachAlong, parts_fit, play_along, reached_along, reached_on}
use Rattle.law_lanes.proofs.Reached.{parts_end, play_counted}
use Rattle.law_lanes.proofs.Walk.{Along, HonestTrack}

counted_few : (ends : Bool) (lines after : ℕ) → after ≡ count_behind ends lines
    → lines + 1 ≤ 1000000 → after ≤ 1000000
counted_few true lines after is few = omega (arith, is, few)
counted_few false lines after is few = omega (arith, is, few)

each_reached : (lane : ℕ) (past : List LanePoint) (s : Lanes) (parts : List LanePart)
    (points : List LanePoint) → 1 ≤ lane → Along past s → lines_of s ≤ 1000000
    → EachAlong past points → IsShort s points → IsLanePlay s parts points
    → AreReached lane s points
each_reached lane past s parts [] some here few all short play = reached_on lane past s here few some
each_reached lane past s [] (point ∷ points) some here few all short play = absurd play
each_reached lane past s (part ∷ parts) (point ∷ points) some here few all short play = (
  reached_on lane past s here few some,
  each_reached lane (past ++ point ∷ []) point.after parts points some all.0
      (counted_few part.ends (lines_of s) (lines_of point.after) play.0.counted short.0) all.1 short.1
      play.1,
)

pub each_part_reached : HonestTrack → EachPartIsReached
each_part_reached says line s points lane reached fit few play some =
    let past = all_points reached.done in
    let here = reached_along says s reached in
    let counts = play_counted s (parts_of (length s.tracks) line) points
    (parts_end (length s.tracks) line) few play in
    each_reached lane past s (parts_of (length s.tracks) line) points some here reached.few
    (play_along says past s (parts_of (length s.tracks) line) points here
    (parts_fit (length s.tracks) line fit) play counts.short) counts.short play
