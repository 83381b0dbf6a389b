-- A STATE THAT IS ANNOUNCED, written out: the line of two machines behind the first six lines of
-- this script.
--
--     machine 4
--     machine 4
--     connect 2
--     flow 1 out
--     flow 2 in
--     insert 1
--
-- A board was put in at machine 1, which has offered it, and machine 2 has said that it is ready;
-- both messages are on their way. So what is asked of an announced state can be met. With the
-- twelve lines that follow in the worked handover (cases of `line_engine`) the board is handed
-- over.
use Rattle.std.specs.Prelude.{List, None, Some, [], false, pos, true, ℕ, ◌∷◌, ◌≡◌, map}
use Rattle.line_base.specs.declared.states.Quality.TheVariants as quality
use Rattle.line_base.specs.declared.states.Role.TheVariants.{Downstream, Upstream}
use Rattle.line_base.specs.declared.states.Side.TheVariants.{Entry, Exit}
use Rattle.board_record.specs.Maker.{made_id}
use Rattle.board_record.specs.Record.{plain_record}
use Rattle.board_record.specs.declared.record.Record.{Record}
use Rattle.hermes_horizontal.specs.Canonical.{canonical}
use Rattle.hermes_horizontal.specs.declared.message.Horizontal.TheVariants as bodies
use Rattle.hermes_horizontal.specs.declared.message.Message.{Message}
use Rattle.session_core.specs.End.{SessionEnd, at_rest}
use Rattle.session_core.specs.declared.state.SessionState.TheVariants.{Standing}
use Rattle.handover_out.specs.State as outlet
use Rattle.handover_in.specs.State as intake
use Rattle.line_link.specs.Link.{LinkParts}
use Rattle.line_world.specs.FloorPlan.{empty_machine, free_gap}
use Rattle.node_core.specs.Node.{NodeState, new_body}
use Rattle.line_script.specs.declared.line.ScriptLine.{ScriptLine}
use Rattle.line_script.specs.declared.line.ScriptLine.TheVariants as lines
use Rattle.line_step.specs.Lies.{has_lie}
use Rattle.line_step.specs.Requests.{request_of}
use Rattle.line_step.specs.Tracks.{own_line}
use Rattle.line_step.specs.Runs.{IsRun, Point, state_behind}
use Rattle.line_step.specs.State.{LineState, machine_text, no_line}
use Rattle.law_twelve_steps.specs.Announced.{IsAnnounced}

-- the first board that machine 1 made, and its record
abbrev pub first_board : ℕ
first_board = made_id 1 1

abbrev pub first_record : Record
first_record = plain_record first_board (machine_text 1) None

-- what the fifth and the sixth line sent
abbrev pub place_told : Message
place_told = record { stamp = Some (pos 5); body = bodies.MachineReady quality.Unknown }

abbrev pub board_offered : Message
board_offered = record { stamp = Some (pos 6); body = bodies.BoardAvailable first_record }

-- a session whose machines have described themselves
abbrev pub described : SessionEnd → SessionEnd
described end = record end {
  state = Standing;
  peer = record { check_alive = true; forecast = true; query = true; send = true };
}

abbrev pub machine_above : NodeState
machine_above = record {
  spent = false;
  name = machine_text 1;
  number = 1;
  capacity = 4;
  maker = record { machine = 1; used = 1 };
  lane = record {
    body = record new_body {
      kept = first_record ∷ [];
      outlet = record outlet.at_rest { offered = Some first_board; touched = Some first_board };
      exit = record { session = described (at_rest Upstream); willing = true };
      last_offer = Some first_board;
    };
    entry_bytes = [];
    exit_bytes = [];
  };
  bridge = None;
  forecasts = [];
  supervised = false;
  orders = [];
}

abbrev pub machine_below : NodeState
machine_below = record {
  spent = false;
  name = machine_text 2;
  number = 1;
  capacity = 4;
  maker = record { machine = 2; used = 0 };
  lane = record {
    body = record new_body {
      intake = record intake.at_rest { ready = true };
      entry = record { session = described (at_rest Downstream); willing = true };
    };
    entry_bytes = [];
    exit_bytes = [];
  };
  bridge = None;
  forecasts = [];
  supervised = false;
  orders = [];
}

abbrev pub link_between : LinkParts
link_between = record {
  upstream = Some 1;
  downstream = Some 1;
  stands = true;
  flows = record {
    to_upstream = record { texts = canonical place_told ∷ []; arrived = 0 };
    to_downstream = record { texts = canonical board_offered ∷ []; arrived = 0 };
  };
  made = 1;
}

abbrev pub announced_line : LineState
announced_line = record {
  spent = false;
  machines = machine_above ∷ machine_below ∷ [];
  world = record {
    links = link_between ∷ [];
    floor = record {
      machines =
          record empty_machine { boards = record { id = Some first_board } ∷ [] } ∷ empty_machine ∷
          [];
      gaps = free_gap ∷ [];
    };
    opened = 0;
    settled = 0;
  };
  lines = 6;
  unvouched = None;
}

abbrev pub first_lines : List ScriptLine
first_lines =
    lines.Machine 4 0 ∷ lines.Machine 4 0 ∷ lines.Connect 2
    ∷ lines.Flow 1 Exit None ∷ lines.Flow 2 Entry None ∷ lines.Insert 1 None ∷ []

-- THE LAW: a run of these six lines leads to it, none of which told a lie, and it is announced for
-- gap 1 and that board
pub record IsReachedAnnounced : Type 0 where
  pub points : List Point
  pub run : IsRun no_line (map (λ line. own_line (request_of line)) first_lines) points
  pub honest : has_lie points ≡ false
  pub leads : state_behind no_line points ≡ announced_line
  pub announced : IsAnnounced announced_line 1 first_board
