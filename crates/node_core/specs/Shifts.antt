-- A BOARD THAT GOES TO ANOTHER LANE of its machine: its record is the first of its id behind the
-- unread events, and comes to the back of that lane as it is.
use Rattle.std.specs.Prelude.{ℕ, ℤ, List, Option}
use Rattle.board_record.specs.declared.record.Record.{Record}
use Rattle.board_record.specs.declared.sensed.Sensed.{Sensed}
use Rattle.node_core.specs.declared.input.Input.{Input}
use Rattle.node_core.specs.declared.input.Input.TheVariants as inputs
use Rattle.node_core.specs.Boards.{first_kept}
use Rattle.node_core.specs.Node.{NodeState, desk_of}
use Rattle.node_core.specs.Reads.{all_read}

-- what an input takes out of the kept records for another lane; all but one leave what there was
abbrev pub given_by : Input → List Record → Option Record → Option Record
given_by (inputs.Gives id to) kept slot = first_kept id kept
given_by _ kept slot = slot

-- the record that a machine gives
abbrev pub board_given : NodeState → List Sensed → ℤ → ℕ → Option Record
board_given s unread moment id =
    first_kept id (all_read (desk_of s moment) unread s.lane.body).body.kept
