-- What a line of the script asks for. Forms that give a machine an input ask for one thing, so each
-- of them is a line of the table below.
use Rattle.std.specs.Prelude.{◌+◌, ℕ, Bool, true, false, List, [], ◌∷◌, Option, Err, length}
use Rattle.line_base.specs.declared.states.Side.{Side}
use Rattle.board_record.specs.declared.sensed.Sensed.{Sensed}
use Rattle.line_script.specs.declared.line.ScriptLine.{ScriptLine}
use Rattle.line_script.specs.declared.line.ScriptLine.TheVariants as lines
use Rattle.line_world.specs.declared.moves.Move.{Move}
use Rattle.line_world.specs.declared.moves.Move.TheVariants as moves
use Rattle.node_core.specs.declared.input.Input.{Input}
use Rattle.node_core.specs.declared.input.Input.TheVariants as inputs
use Rattle.line_step.specs.State.{LineState}
use Rattle.line_step.specs.Reasons.{May, may_answer, may_give, may_give_away, may_notice, may_remove, may_replace, may_sense, may_take_in}
use Rattle.line_report.specs.declared.happening.Happening.{Happening}
use Rattle.line_report.specs.declared.happening.Happening.TheVariants as happenings
use Rattle.line_report.specs.declared.happening.Reason.TheVariants as reasons

pub data Request : Type 0 where
  nothing : Request
  shows : Request
  adds : (lane : ℕ) (is_bridge : Bool) (capacity used : ℕ) → Request
  gives : (machine : ℕ) (input : Input) → Request
  connects : (machine : ℕ) → Request
  flows : (machine : ℕ) (side : Side) (count : Option ℕ) → Request
  cuts : (gap : ℕ) → Request
  stops : (machine : ℕ) → Request
  spoils : (machine : ℕ) (side : Side) → Request
  moves_on : (gap : ℕ) (step : Move) → Request
  lies : (machine : ℕ) (sensed : Sensed) → Request
  unsees : (machine : ℕ) (side : Side) → Request

-- THE FORMS: what a line of each form asks for
abbrev pub request_of : ScriptLine → Request
request_of lines.Blank = nothing
request_of lines.Show = shows
request_of (lines.Machine capacity used) = adds 1 false capacity used
request_of (lines.Bridge capacity used) = adds 1 true capacity used
request_of (lines.Insert machine barcode) = gives machine (inputs.Insert barcode)
request_of (lines.Remove machine id) = gives machine (inputs.Remove id)
request_of (lines.Replace machine id) = gives machine (inputs.Replace id)
request_of (lines.Mark machine id quality) = gives machine (inputs.Mark id quality)
request_of (lines.Sub machine id place barcode) = gives machine (inputs.Sub id place barcode)
request_of (lines.Hold machine side) = gives machine (inputs.Will side false)
request_of (lines.Go machine side) = gives machine (inputs.Will side true)
request_of (lines.Signal machine line on) = gives machine (inputs.Level line on)
request_of (lines.Connect machine) = connects machine
request_of (lines.Flow machine side count) = flows machine side count
request_of (lines.Notice machine side) = gives machine (inputs.Notice side)
request_of (lines.Cut gap) = cuts gap
request_of (lines.Spoil machine side) = spoils machine side
request_of (lines.Shutdown machine) = gives machine inputs.Shutdown
request_of (lines.Stop machine) = stops machine
request_of (lines.Tick machine) = gives machine inputs.Tick
request_of (lines.Fault machine side) = gives machine (inputs.Fault side)
request_of (lines.Sense machine) = gives machine inputs.Nothing
request_of (lines.Begin gap) = moves_on gap moves.Begin
request_of (lines.Left gap) = moves_on gap moves.Left
request_of (lines.Enter gap) = moves_on gap moves.Enter
request_of (lines.Back gap) = moves_on gap moves.Back
request_of (lines.HandIn gap) = moves_on gap moves.HandIn
request_of (lines.Take gap) = moves_on gap moves.Take
request_of (lines.Lie machine sensed) = lies machine sensed
request_of (lines.Unseen machine side) = unsees machine side
request_of (lines.Forecast machine) = gives machine inputs.Forecast
request_of (lines.Query machine barcode) = gives machine (inputs.Query barcode)
request_of (lines.Supervise machine) = gives machine (inputs.Supervise true)
request_of (lines.Ask machine question) = gives machine (inputs.Ask question)
request_of (lines.Answer machine query order) = gives machine (inputs.Answer query order)

-- whether a machine may be given an input: what it says itself, and for some inputs what the line
-- says. A connection and bytes come over a link, by requests of their own, so nobody gives them
abbrev pub may_get : ℕ → Input → LineState → May
may_get machine (inputs.Remove id) s = may_remove machine id s
may_get machine (inputs.Replace id) s = may_replace machine id s
may_get machine (inputs.Notice side) s = may_notice machine side s
may_get machine inputs.Nothing s = may_sense machine s
may_get machine (inputs.Answer query order) s = may_answer machine query order s
may_get machine inputs.Connect s = Err reasons.NoNeighbour
may_get machine inputs.Accepted s = Err reasons.NoNeighbour
may_get machine inputs.Second s = Err reasons.NoNeighbour
may_get machine (inputs.Bytes side piece) s = Err reasons.NoNeighbour
may_get machine (inputs.Gives id to) s = may_give_away machine id s
may_get machine (inputs.Gets board) s = may_take_in machine s
may_get machine input s = may_give machine input s

-- what is told of one machine more, be it a bridge or none
abbrev pub added_told : Bool → ℕ → LineState → List Happening
added_told false capacity s = happenings.Machine (length s.machines + 1) capacity ∷ []
added_told true capacity s = happenings.Bridge (length s.machines + 1) capacity ∷ []
