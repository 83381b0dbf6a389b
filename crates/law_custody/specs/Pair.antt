-- The relation of a link and that of a machine, over the values that the layers below keep.
use Rattle.std.specs.Prelude.{Bool, List, None, Option, Some, [], false, map, true, ℕ, ◌++◌, ◌∷◌, ◌≡◌}
use Rattle.line_base.specs.declared.states.Side.TheVariants as sides
use Rattle.board_record.specs.declared.record.Record.{Record}
use Rattle.hermes_horizontal.specs.declared.message.Horizontal.{Horizontal}
use Rattle.session_core.specs.declared.state.SessionState.{SessionState}
use Rattle.line_world.specs.Moves.{Around}
use Rattle.line_world.specs.declared.board.Board.{Board}
use Rattle.handover_out.specs.State.{OutState, board_of_phase as held_out}
use Rattle.handover_out.specs.declared.phase.Phase.{Phase as Out}
use Rattle.handover_in.specs.State.{InState, board_of_phase as held_in}
use Rattle.handover_in.specs.declared.phase.Phase.{Phase as In}
use Rattle.law_custody.specs.Floor.{EntryFloor, ExitFloor, GapAt}
use Rattle.law_custody.specs.Place.{Place, is_inside, is_upstream}
use Rattle.law_custody.specs.Talks.{Talks}
use Rattle.law_custody.specs.Words.{down_words, events_at, up_words}

-- where the board of the handover is, and which it is. Nobody keeps it: whoever proves the
-- relation names it
pub record Ghost : Type 0 where
  pub place : Place
  pub board : Record

-- the exit of a machine with the id that it offered last, the entry of the next one, and what is
-- between them: whether the link stands and the exit has a session, the gap with the machines on
-- either side of it, and the messages that are sent and not heard yet
pub record LinkState : Type 0 where
  pub exit : SessionState
  pub outlet : OutState
  pub last_offer : Option ℕ
  pub entry : SessionState
  pub intake : InState
  pub stands : Bool
  pub around : Around
  pub up : List Horizontal
  pub down : List Horizontal

-- the relation of a link: each side's floor, the gap, and how the two ends stand to one another
pub record Pair (g : Ghost) (l : LinkState) : Type 0 where
  pub out : ExitFloor l.outlet.phase
      (events_at sides.Exit l.around.up.unread) l.around.between.exit_drive g.place g.board
  pub «in» : EntryFloor l.intake.phase
      (events_at sides.Entry l.around.down.unread) l.around.between.entry_drive g.place g.board
  pub gap : GapAt l.around.between.lies g.place g.board
  pub talk : Talks l.stands l.exit l.outlet.phase l.outlet.offered l.outlet.ready l.entry
      l.intake.phase l.intake.offer l.intake.ready g.place (up_words l.up) (down_words l.down)

abbrev pub board_of : Record → Board
board_of r = record { id = Some r.id }

-- the board that a half of a handover holds, where it is in the machine's list
abbrev pub part : Option Record → Bool → List Board
part None _ = []
part (Some r) true = board_of r ∷ []
part (Some r) false = []

-- the relation of a machine: its boards are, from the front, the outlet's, those that are kept,
-- the intake's. The outlet and its place are of the link below, the intake and its place of the
-- link above
pub record Body (o : Out) (p : Place) (kept : List Record) (i : In) (q : Place)
    (boards : List Board) : Type 0 where
  pub same : boards ≡ part (held_out o) (is_upstream p)
      ++ (map board_of kept ++ part (held_in i) (is_inside q))

-- the boards of a machine up to the kept ones
abbrev pub listed : Out → Place → List Record → List Board
listed o p ks = part (held_out o) (is_upstream p) ++ map board_of ks

-- and from the kept ones on
abbrev pub listed_last : In → Place → List Record → List Board
listed_last i p ks = map board_of ks ++ part (held_in i) (is_inside p)

-- a record that comes back goes before the kept ones
abbrev pub back_to : Option Record → List Record → List Record
back_to (Some r) ks = r ∷ ks
back_to None ks = ks

-- one that settles goes behind them
abbrev pub keep_at : Option Record → List Record → List Record
keep_at (Some r) ks = ks ++ (r ∷ [])
keep_at None ks = ks
