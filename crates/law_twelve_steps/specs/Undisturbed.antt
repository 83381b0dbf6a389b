-- THE LINK STEPS OF A GAP, and stretches of lines that don't disturb its handover.
use Rattle.std.specs.Prelude.{Bool, List, None, Option, [], false, true, ℕ, ◌&&◌, ◌+◌, ◌∷◌, ◌==◌, ◌≡◌, ◌≢◌, ◌||◌, not, IsOk}
use Rattle.line_base.specs.declared.states.SensorEvent.{SensorEvent}
use Rattle.line_base.specs.declared.states.Side.TheVariants.{Entry, Exit}
use Rattle.hermes_vertical.specs.declared.message.Question.{Question}
use Rattle.line_world.specs.FloorPlan.{machine_at}
use Rattle.line_world.specs.Moves.{floor_move}
use Rattle.line_world.specs.declared.moves.Move.TheVariants as moves
use Rattle.law_custody.specs.Words.{events_at}
use Rattle.node_core.specs.declared.input.Input.TheVariants as inputs
use Rattle.line_report.specs.declared.happening.Happening.{Happening}
use Rattle.line_report.specs.declared.happening.Happening.TheVariants as happenings
use Rattle.line_step.specs.Requests.{Request}
use Rattle.line_step.specs.Requests as requests
use Rattle.line_step.specs.Tracks.{TrackLine, asked_on}
use Rattle.line_step.specs.Reasons.{may_do, may_flow, may_sense}
use Rattle.line_step.specs.State.{LineState}

-- ---- link steps

-- some event is there
abbrev pub are_some : List SensorEvent → Bool
are_some [] = false
are_some (_ ∷ _) = true

-- machine m has not read some event of gap k: of the exit above it or of the entry below it
abbrev pub has_unread_of : ℕ → ℕ → LineState → Bool
has_unread_of k m s =
    (m == k && are_some (events_at Exit (machine_at s.world.floor m).unread))
    || (m == k + 1 && are_some (events_at Entry (machine_at s.world.floor m).unread))

-- what a line asks for is a link step of k: the oldest text on link k arrives, a board is moved
-- forth at gap k, or a machine reads what the sensors of gap k saw
abbrev pub is_of_link : ℕ → LineState → Request → Bool
is_of_link k s (requests.flows machine Exit None) = machine == k
is_of_link k s (requests.flows machine Entry None) = machine == k + 1
is_of_link k s (requests.moves_on gap moves.Begin) = gap == k
is_of_link k s (requests.moves_on gap moves.Left) = gap == k
is_of_link k s (requests.moves_on gap moves.Enter) = gap == k
is_of_link k s (requests.gives machine inputs.Nothing) = has_unread_of k machine s
is_of_link k s _ = false

-- a line is answered that it can't be done
abbrev pub is_no : Happening → Bool
is_no (happenings.No reason) = true
is_no _ = false

abbrev pub tells_no : List Happening → Bool
tells_no [] = false
tells_no (happening ∷ told) = is_no happening || tells_no told

-- A LINK STEP of k: a line that asks for one, on this state, that was done
abbrev pub is_link_step : ℕ → LineState → Request → List Happening → Bool
is_link_step k s request told = is_of_link k s request && not (tells_no told)

-- no reason stands against one of these
abbrev pub IsPossible : LineState → Request → Type 0
IsPossible s (requests.flows machine side count) = may_flow machine side s ≡ may_do
IsPossible s (requests.moves_on gap moves.Begin) = IsOk (floor_move gap moves.Begin s.world.floor)
IsPossible s (requests.moves_on gap moves.Left) = IsOk (floor_move gap moves.Left s.world.floor)
IsPossible s (requests.moves_on gap moves.Enter) = IsOk (floor_move gap moves.Enter s.world.floor)
IsPossible s (requests.gives machine inputs.Nothing) = may_sense machine s ≡ may_do
IsPossible s _ = ⊥

-- some link step of k can be done
pub record CanGoOn (k : ℕ) (s : LineState) : Type 0 where
  pub request : Request
  pub is_step : is_of_link k s request ≡ true
  pub possible : IsPossible s request

-- ---- undisturbed stretches

-- a machine is neither of the two at gap k
pub record IsElsewhere (k machine : ℕ) : Type 0 where
  pub not_above : machine ≢ k
  pub not_below : machine ≢ k + 1

-- a line names only machines other than k and k + 1, or a gap other than k. A line that adds a
-- machine or a bridge names none
abbrev pub NamesElsewhere : ℕ → Request → Type 0
NamesElsewhere k (requests.adds lane is_bridge capacity used) = Unit {0}
NamesElsewhere k (requests.gives machine input) = IsElsewhere k machine
NamesElsewhere k (requests.connects machine) = IsElsewhere k machine
NamesElsewhere k (requests.flows machine side count) = IsElsewhere k machine
NamesElsewhere k (requests.cuts gap) = gap ≢ k
NamesElsewhere k (requests.stops machine) = IsElsewhere k machine
NamesElsewhere k (requests.spoils machine side) = IsElsewhere k machine
NamesElsewhere k (requests.moves_on gap step) = gap ≢ k
NamesElsewhere k _ = ⊥

-- A LINE THAT DOESN'T DISTURB the handover at gap k: one that asks for a link step of k, any
-- `sense`, a `show`, a blank line, a line of elsewhere, and a `flow`, `notice` or `spoil` at the
-- entry of k and the exit of k + 1, a connection of k with the machine above it, and what concerns
-- a machine's supervisor alone: a `supervise`, an `ask` and an `answer`. A `lie` is none, nor is an
-- `unseen`
pub data IsUndisturbed (k : ℕ) : Request → Type 0 where
  flows_up : IsUndisturbed k (requests.flows k Exit None)
  flows_down : IsUndisturbed k (requests.flows (k + 1) Entry None)
  begins : IsUndisturbed k (requests.moves_on k moves.Begin)
  leaves : IsUndisturbed k (requests.moves_on k moves.Left)
  enters : IsUndisturbed k (requests.moves_on k moves.Enter)
  senses : {machine : ℕ} → IsUndisturbed k (requests.gives machine inputs.Nothing)
  shows : IsUndisturbed k requests.shows
  blank : IsUndisturbed k requests.nothing
  elsewhere : {request : Request} → NamesElsewhere k request → IsUndisturbed k request
  flows_above : {count : Option ℕ} → IsUndisturbed k (requests.flows k Entry count)
  flows_below : {count : Option ℕ} → IsUndisturbed k (requests.flows (k + 1) Exit count)
  notices_above : IsUndisturbed k (requests.gives k (inputs.Notice Entry))
  notices_below : IsUndisturbed k (requests.gives (k + 1) (inputs.Notice Exit))
  spoils_above : IsUndisturbed k (requests.spoils k Entry)
  spoils_below : IsUndisturbed k (requests.spoils (k + 1) Exit)
  connects_above : IsUndisturbed k (requests.connects k)
  is_supervised : {machine : ℕ} {on : Bool}
      → IsUndisturbed k (requests.gives machine (inputs.Supervise on))
  is_asked : {machine : ℕ} {question : Question}
      → IsUndisturbed k (requests.gives machine (inputs.Ask question))
  is_answered : {machine query : ℕ} {order : List ℕ}
      → IsUndisturbed k (requests.gives machine (inputs.Answer query order))

-- along a stretch; a line of another track disturbs nothing
pub data AreUndisturbed (k : ℕ) : List TrackLine → Type 0 where
  none : AreUndisturbed k []
  more : {line : TrackLine} {others : List TrackLine} → IsUndisturbed k (asked_on line)
      → AreUndisturbed k others → AreUndisturbed k (line ∷ others)
