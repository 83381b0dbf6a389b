-- The moves on the floor around a link, and a link with nothing around it.
use Rattle.std.specs.Prelude.{Bool, List, None, Option, [], false}
use Rattle.board_record.specs.Record.{plain_record}
use Rattle.board_record.specs.declared.record.Record.{Record}
use Rattle.board_record.specs.declared.sensed.Sensed.{Sensed}
use Rattle.session_core.specs.declared.state.SessionState.TheVariants.{NotConnected}
use Rattle.line_world.specs.Moves.{Around}
use Rattle.line_world.specs.declared.board.Board.{Board}
use Rattle.line_world.specs.declared.gap.Gap.{Gap}
use Rattle.line_world.specs.declared.gap.Gap.TheVariants as gaps
use Rattle.line_world.specs.declared.moves.Move.{Move}
use Rattle.handover_out.specs.declared.phase.Phase.{Phase as Out}
use Rattle.handover_out.specs.declared.phase.Phase.TheVariants as out
use Rattle.handover_in.specs.declared.phase.Phase.{Phase as In}
use Rattle.handover_in.specs.declared.phase.Phase.TheVariants as inn
use Rattle.law_custody.specs.LookBack.{LetGo}
use Rattle.law_custody.specs.Pair.{Body, Ghost, LinkState, Pair}
use Rattle.law_custody.specs.Place.{MovesPlace, Place}
use Rattle.law_custody.specs.Steps.{intake, outlet}

-- what is around a gap, by its parts: the boards and unread events upstream, what lies in the gap
-- with the drives of exit and entry, the boards and unread events downstream
abbrev pub parts_around : List Board → List Sensed → Gap → Bool → Bool → List Board → List Sensed
    → Around
parts_around ub uu lies xd ed db du =
    record {
      up = record { boards = ub; unread = uu };
      between = record { lies = lies; exit_drive = xd; entry_drive = ed };
      down =
          record { boards = db; unread = du };
    }

-- a link and its two machines after a move: the board is where the move takes it, and all else is
-- as it was but what is around the gap
pub record Lifted (step : Move) (l : LinkState) (g : Ghost) (kept : List Record) (j : In)
    (q : Place) (kept2 : List Record) (o2 : Out) (p2 : Place) (a : Around) : Type 0 where
  pub place : Place
  pub moves : MovesPlace step g.place place
  pub pair : Pair (record { place = place; board = g.board }) (record l { around = a })
  pub body : Body l.outlet.phase place kept j q a.up.boards
  pub below : Body o2 p2 kept2 l.intake.phase place a.down.boards
  pub lets : (last : Option Record) → LetGo g.place l.outlet.phase g.board last
      → LetGo place l.outlet.phase g.board last

-- a new link, between machines that have nothing
abbrev pub nobody : Record
nobody = plain_record 0 [] None

abbrev pub new_link : LinkState
new_link =
    record {
      exit = NotConnected;
      outlet = outlet out.Idle None None false;
      last_offer = None;
      entry = NotConnected;
      intake = intake inn.Idle None false;
      stands = false;
      around =
          record {
            up = record { boards = []; unread = [] };
            between = record { lies = gaps.Free; exit_drive = false; entry_drive = false };
            down =
                record { boards = []; unread = [] };
          };
      up = [];
      down = [];
    }
