-- Why a line of the script does nothing on a line of several lanes: `no lane` comes just behind `no
-- such machine` or `no gap`.
use Rattle.std.specs.Prelude.{◌==◌, ◌&&◌, ℕ, Bool, Ok, Err, is_some, not}
use Rattle.line_world.specs.declared.moves.MoveNo.TheVariants as moves
use Rattle.node_core.specs.declared.input.No.TheVariants as nos
use Rattle.line_report.specs.declared.happening.Reason.TheVariants as reasons
use Rattle.line_step.specs.Reasons.{May, has_link, if_there, may_do, may_give_away, may_take_in, no_if}
use Rattle.line_step.specs.Requests.{Request, connects, cuts, flows, gives, lies, moves_on, spoils, unsees}
use Rattle.line_step.specs.State.{LineState, machine_in}
use Rattle.law_lanes.specs.Lanes.{Lanes, has_lane, track}

-- the machines stand on the first lane as on every other
abbrev pub first_track : Lanes → LineState
first_track s = track 1 s

-- the machine or gap that is named is there
abbrev pub is_named : Request → LineState → May
is_named (gives machine input) s = if_there (machine_in machine s) (λ node. may_do)
is_named (connects machine) s = if_there (machine_in machine s) (λ node. may_do)
is_named (flows machine side count) s = if_there (machine_in machine s) (λ node. may_do)
is_named (spoils machine side) s = if_there (machine_in machine s) (λ node. may_do)
is_named (lies machine sensed) s = if_there (machine_in machine s) (λ node. may_do)
is_named (unsees machine side) s = if_there (machine_in machine s) (λ node. may_do)
is_named (cuts gap) s = no_if (not (has_link gap s)) (reasons.Move moves.NoGap) may_do
is_named (moves_on gap step) s = no_if (not (has_link gap s)) (reasons.Move moves.NoGap) may_do
is_named request s = may_do

-- the first reason of two
abbrev pub and_may : May → May → May
and_may (Ok _) next = next
and_may (Err why) next = Err why

-- a line of one lane: what it names is there, and so is the lane
abbrev pub may_on : ℕ → Request → Lanes → May
may_on lane request s =
    and_may (is_named request (first_track s))
    (no_if (not (has_lane lane s)) (reasons.Node nos.NoLane) may_do)

-- the lanes are set: machines stand
abbrev pub stand_any : Lanes → Bool
stand_any s = is_some (machine_in 1 (first_track s))

abbrev pub may_set : Lanes → May
may_set s = no_if (stand_any s) reasons.MachinesStand may_do

-- a board goes from a lane of a machine to another: no such machine, no lane, bridge, same, not
-- kept, not here, was offered, intake open, full
abbrev pub may_shift : ℕ → ℕ → ℕ → ℕ → Lanes → May
may_shift machine from to id s =
    if_there (machine_in machine (first_track s)) (λ node.
    no_if (not (has_lane from s && has_lane to s)) (reasons.Node nos.NoLane)
    (no_if (is_some node.bridge) (reasons.Node nos.Bridge)
    (no_if (from == to) (reasons.Node nos.Same)
    (and_may (may_give_away machine id (track from s)) (may_take_in machine (track to s))))))
