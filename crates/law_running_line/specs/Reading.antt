-- HOW MUCH OF WHAT ITS SENSORS SAW A MACHINE HAS READ before it takes an input, and behind which
-- reading its control lets a board go: the premise of what holds of running machines, in one place.
use Rattle.std.specs.Prelude.{ℕ, Bool, List, [], ◌≡◌, ◌++◌}
use Rattle.line_base.specs.declared.states.Seen.TheVariants as seen
use Rattle.line_base.specs.declared.states.SensorEvent.TheVariants as events
use Rattle.line_base.specs.declared.states.Side.TheVariants.{Entry, Exit}
use Rattle.board_record.specs.declared.record.Record.{Record}
use Rattle.board_record.specs.declared.sensed.Sensed.{Sensed}
use Rattle.handover_in.specs.declared.phase.Phase.{Phase as In}
use Rattle.handover_in.specs.declared.phase.Phase.TheVariants as inn
use Rattle.line_world.specs.declared.moves.Move.{Move}
use Rattle.line_world.specs.declared.moves.Move.TheVariants as moves
use Rattle.node_core.specs.Node.{NodeState}
use Rattle.node_core.specs.declared.input.Input.{Input}
use Rattle.node_core.specs.declared.input.Input.TheVariants as inputs
use Rattle.law_custody.specs.Facts.{Has}
use Rattle.law_custody.specs.Words.{events_at}

-- a machine reads the events of each of its sides in their order, and may leave the last ones of
-- each for later
pub record ReadsFront (unread read rest : List Sensed) : Type 0 where
  pub exit : events_at Exit unread ≡ events_at Exit read ++ events_at Exit rest
  pub entry : events_at Entry unread ≡ events_at Entry read ++ events_at Entry rest

-- as it comes; all that was seen before any input; or what was seen before a text was said before
-- that text, with each board let go behind the reading
pub data Reading : Type 0 where
  Freely : Reading
  Strictly : Reading
  Behind : Reading

-- an input may be taken, where what it brings was said behind so many events of its side that are
-- unread still, and all that is left unread are these
abbrev pub MayTake : Reading → Input → ℕ → List Sensed → Type 0
MayTake Freely input late rest = Unit {0}
MayTake Strictly inputs.Nothing late rest = Unit {0}
MayTake Strictly input late rest = rest ≡ []
MayTake Behind input late rest = late ≡ 0

-- an entry takes a board across while it transports, behind its own reading that the board has begun
pub data IsUnderWay : In → Type 0 where
  is_under_way : {board : Record} {heard : Bool}
      → IsUnderWay (inn.Taking board seen.Incomplete heard)

pub record TakesAcross (below : NodeState) (unread : List Sensed) : Type 0 where
  pub under_way : IsUnderWay below.lane.body.intake.phase
  pub read : Has events.Begun (events_at Entry unread) → ⊥

-- a board may move at a gap below which this machine has these events unread. Behind the reading
-- none begins but as its exit reads so (`LetsGo` of RunSteps), and none leaves the exit before the
-- entry has read that it begins
abbrev pub MayMove : Reading → Move → NodeState → List Sensed → Type 0
MayMove Behind moves.Begin below unread = ⊥
MayMove Behind moves.Left below unread = TakesAcross below unread
MayMove reading step below unread = Unit {0}
