-- What the definitions compute of a line of two lanes with a machine, where a board lies on the second.
use Rattle.std.proofs.Common.{◌≡◌, ℕ, List, [], ◌∷◌, None, Err, false, refl}
use Rattle.board_record.specs.Record.{plain_record}
use Rattle.board_record.specs.declared.record.Record.{Record}
use Rattle.node_core.specs.Node.{new_node}
use Rattle.node_core.specs.declared.input.No.TheVariants as nos
use Rattle.line_report.specs.Lanes.{told_on}
use Rattle.line_report.specs.declared.happening.Happening.TheVariants as happenings
use Rattle.line_report.specs.declared.happening.Reason.TheVariants as reasons
use Rattle.line_step.specs.State.{LineState, no_line, one_more, profile_of}
use Rattle.law_lanes.specs.Lanes.{Lanes}
use Rattle.law_lanes.specs.Reasons.{may_set, may_shift}
use Rattle.law_lanes.specs.Shown.{shown_on, standings_on}
use Rattle.law_lanes.specs.Steps.{copies, more_on}

board : Record
board = plain_record 7 (77 ∷ 49 ∷ []) None

empty : Lanes
empty = record { spent = false; tracks = more_on 1 false 4 1 (copies 2 no_line) }

-- the machine of a lane, with this board among its records or without
with_boards : ℕ → List Record → LineState
with_boards lane boards =
    let node = new_node (profile_of lane false 1 4 1) in
    record (one_more lane false 4 1 no_line) {
      machines = record node { lane = record node.lane { body = record node.lane.body { kept = boards } } } ∷ [];
    }

first : Lanes
first = record { spent = false; tracks = with_boards 1 (board ∷ []) ∷ with_boards 2 [] ∷ [] }

second : Lanes
second = record { spent = false; tracks = with_boards 1 [] ∷ with_boards 2 (board ∷ []) ∷ [] }

shows : shown_on second ≡ told_on 2 (happenings.Shown 1 7 board.quality ∷ [])
unfolding board empty with_boards first second
shows = refl

moves : standings_on first second ≡ told_on 2 (happenings.With 1 7 ∷ [])
unfolding board empty with_boards first second
moves = refl

comes : standings_on empty first ≡ told_on 1 (happenings.With 1 7 ∷ [])
unfolding board empty with_boards first second
comes = refl

same : may_shift 1 2 2 7 second ≡ Err (reasons.Node nos.Same)
unfolding board empty with_boards first second
same = refl

not_kept : may_shift 1 1 2 7 second ≡ Err (reasons.Node nos.NotKept)
unfolding board empty with_boards first second
not_kept = refl

no_lane : may_shift 1 1 3 7 first ≡ Err (reasons.Node nos.NoLane)
unfolding board empty with_boards first second
no_lane = refl

none_there : may_shift 2 1 3 7 first ≡ Err reasons.NoSuchMachine
unfolding board empty with_boards first second
none_there = refl

not_here : may_shift 1 1 2 7 first ≡ Err reasons.NotHere
unfolding board empty with_boards first second
not_here = refl

stand : may_set first ≡ Err reasons.MachinesStand
unfolding board empty with_boards first second
stand = refl
