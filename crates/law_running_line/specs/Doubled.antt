-- A BOARD'S RECORD IS DOUBLED, written out: what happens where no premise on the reading holds.
--
-- Two machines hand a board over. The board begins, leaves the upstream machine and comes in; the
-- upstream machine's two lines on it are late. Its connection is closed, and it believes that the
-- board never began: the record returns. The downstream machine has read its own sensor; it
-- connects anew, the upstream machine holds nothing and describes itself, and the record settles.
use Rattle.std.specs.Prelude.{ℕ, ℤ, false, pos, true, List, [], ◌∷◌, ◌≡◌, None, Some, codes, nat_eq, if◌then◌else◌}
use Rattle.line_base.specs.declared.states.Role.TheVariants.{Downstream, Upstream}
use Rattle.line_base.specs.declared.states.Seen.TheVariants as seen
use Rattle.board_record.specs.Maker.{made_id}
use Rattle.board_record.specs.Record.{plain_record}
use Rattle.board_record.specs.declared.record.Record.{Record}
use Rattle.session_core.specs.End.{SessionEnd, at_rest}
use Rattle.session_core.specs.declared.state.SessionState.TheVariants.{Standing}
use Rattle.handover_out.specs.State as outlet
use Rattle.handover_out.specs.declared.phase.Phase.TheVariants as out
use Rattle.handover_in.specs.State as intake
use Rattle.handover_in.specs.declared.phase.Phase.TheVariants as inn
use Rattle.line_world.specs.FloorPlan.{empty_machine, free_gap}
use Rattle.line_world.specs.declared.moves.Move.TheVariants.{Begin}
use Rattle.node_core.specs.Node.{NodeState, new_body}
use Rattle.node_core.specs.declared.act.Act.{Act}
use Rattle.law_running_line.specs.Reading.{Behind, Freely}
use Rattle.law_running_line.specs.Running.{Running, node_of}
use Rattle.law_running_line.specs.RunSteps.{Moves, RunsTo}
use Rattle.law_running_line.specs.Wire.{Has, Wire}

-- all happens at this moment
abbrev pub now : ℤ
now = pos 1

-- the board that the upstream machine made, and its record
abbrev pub board : ℕ
board = made_id 1 1

abbrev pub the_record : Record
the_record = plain_record board (codes "loader") None

-- a session whose machines have described themselves
abbrev pub described : SessionEnd → SessionEnd
described end = record end {
  state = Standing;
  peer = record { check_alive = true; forecast = true; query = true; send = true };
}

-- a transport runs, and nothing of the board is read yet
abbrev pub loader : NodeState
loader = record {
  spent = false;
  name = codes "loader";
  number = 1;
  capacity = 4;
  maker = record { machine = 1; used = 1 };
  lane = record {
    body = record new_body {
      outlet = record outlet.at_rest {
        phase = out.Moving the_record false;
        touched = Some board;
      };
      exit = record { session = described (at_rest Upstream); willing = true };
    };
    entry_bytes = [];
    exit_bytes = [];
  };
  bridge = None;
  forecasts = [];
  supervised = false;
  orders = [];
}

abbrev pub printer : NodeState
printer = record {
  spent = false;
  name = codes "printer";
  number = 1;
  capacity = 4;
  maker = record { machine = 2; used = 0 };
  lane = record {
    body = record new_body {
      intake = record intake.at_rest {
        phase = inn.Taking the_record seen.NotStarted false;
      };
      entry = record { session = described (at_rest Downstream); willing = true };
    };
    entry_bytes = [];
    exit_bytes = [];
  };
  bridge = None;
  forecasts = [];
  supervised = false;
  orders = [];
}

-- one connection, on which nothing is on its way
abbrev pub joined : Wire
joined = record { above = Has; below = Has; up = []; down = [] }

-- both drives run, and the board is still in the upstream machine
abbrev pub transporting : Running
transporting = record {
  machines = loader ∷ printer ∷ [];
  floor = record {
    machines =
        record empty_machine { boards = record { id = Some board } ∷ [] } ∷ empty_machine ∷ [];
    gaps = record free_gap { exit_drive = true; entry_drive = true } ∷ [];
  };
  wires = λ (link : ℕ). if nat_eq link 1 then joined ∷ [] else [];
}

-- the records that a machine keeps
pub record KeepsAt (machine : ℕ) (records : List Record) (s : Running) : Type 0 where
  pub node : NodeState
  pub there : node_of machine s ≡ Some node
  pub kept : node.lane.body.kept ≡ records

-- THE LAW: without a premise there is a run behind which both machines keep the record; and where a
-- board is let go behind the reading, its first step is none: no board begins unread
pub record IsDoubled : Type 0 where
  pub told : List Act
  pub after : Running
  pub run : RunsTo Freely transporting told after
  pub above : KeepsAt 1 (the_record ∷ []) after
  pub below : KeepsAt 2 (the_record ∷ []) after
  pub begins_unread : Running
  pub first : Moves Freely 1 Begin transporting begins_unread
  pub not_behind : (t : Running) → Moves Behind 1 Begin transporting t → ⊥

-- and behind the reading the same close leaves the record with the upstream machine, whose outlet
-- holds it: the board has begun
pub record IsHeldBehind : Type 0 where
  pub told : List Act
  pub after : Running
  pub run : RunsTo Behind transporting told after
  pub keeps : KeepsAt 1 [] after
  pub node : NodeState
  pub there : node_of 1 after ≡ Some node
  pub held : node.lane.body.outlet.phase ≡ out.Stuck the_record false false
