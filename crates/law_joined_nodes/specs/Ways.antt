-- WHAT A MOVE MAKES OF WHAT GOES OVER THE WAY OF A SIDE: of the text that waits to be sent there, and of
-- the bytes that were found there and aren't heard yet.
use Rattle.std.specs.Prelude.{ℕ, ℤ, false, true, List, [], ◌∷◌, ◌++◌, ◌≡◌, Option, None, Some}
use Rattle.std.specs.Borrow.{Bor}
use Rattle.line_base.specs.declared.states.Side.{Side}
use Rattle.line_base.specs.declared.states.Side.TheVariants.{Entry, Exit}
use Rattle.line_outside.specs.Given.{Closes, Given, Polls, Sends, is_same_way, taken_of}
use Rattle.line_outside.specs.declared.answer.GotBytes.TheVariants as founds
use Rattle.line_outside.specs.declared.ports.Sent.{Sent}
use Rattle.board_record.specs.declared.sensed.Sensed.{Sensed}
use Rattle.node_core.specs.Sides.{is_open}
use Rattle.node_core.specs.declared.act.Act.{Act}
use Rattle.node_core.specs.declared.input.Input.{Input}
use Rattle.node_core.specs.declared.input.Input.TheVariants as inputs
use Rattle.law_node_runs.specs.Connections.{acts_for}
use Rattle.node_run.specs.After.{way_of}
use Rattle.node_run.specs.Held.{Finding}
use Rattle.node_run.specs.Next.{next_of}
use Rattle.node_run.specs.Resetting.{reset_text}
use Rattle.node_run.specs.Runs.{room_bytes}
use Rattle.node_run.specs.State.{RunState, way_at}
use Rattle.node_run.specs.Steps.{messages_for}
use Rattle.node_run.specs.declared.place.Next.TheVariants as nexts
use Rattle.node_run.specs.declared.rules.Rules.{Rules}
use Rattle.law_joined_nodes.specs.Does.{Taken}

-- the text that waits to be sent on the way of a side
abbrev pub waits_at : Side → RunState → List ℕ
waits_at side s = (way_at (way_of side) s).unsent

-- what the machine says on the connection of a side, if it makes a step
abbrev pub texts_in : Side → Option Taken → List ℕ
texts_in side None = []
texts_in side (Some taken) = messages_for side (acts_for taken.input taken.told)

-- what was found on the way of a side and isn't taken yet
abbrev pub found_by : Side → Side → Option (List ℕ) → List ℕ
found_by Entry Entry (Some bytes) = bytes
found_by Exit Exit (Some bytes) = bytes
found_by side at bytes = []

abbrev pub found_for : Side → Option Finding → List ℕ
found_for side None = []
found_for side (Some finding) = found_by side finding.side finding.bytes

-- ---- what waits to be sent

-- a call of another way, or one that neither sends nor closes
abbrev pub IsOther : Side → List Given → Type 0
IsOther side (Sends way piece sent ∷ []) = is_same_way (way_of side) way ≡ false
IsOther side (Closes way ∷ []) = is_same_way (way_of side) way ≡ false
IsOther side given = Unit {0}

-- the machine notices the close of a side, and reads nothing; or it has no connection there
pub data Notices (side : Side) (s : RunState) : Option Taken → Type 0 where
  notices : {told : List Act}
      → Notices side s (Some (record { read = []; input = inputs.Notice side; told = told }))
  notices_none : is_open side s.node.lane.body ≡ false → Notices side s None

-- the ports take a front of it; or the way is closed and it is gone; or what the machine says is put
-- behind it. Where a side is reset, a text that no act sends is put behind it first
pub data Ways (rules : Rules) (moment : ℤ) (side : Side) (s t : RunState)
    (taken : Option Taken) : List Given → Type 0 where
  way_sends : {sent : Sent} → taken ≡ None
      → waits_at side s ≡ taken_of sent (waits_at side s) ++ waits_at side t
      → Ways rules moment side s t taken (Sends (way_of side) (waits_at side s) sent ∷ [])
  way_closes : Notices side s taken → waits_at side t ≡ texts_in side taken
      → Ways rules moment side s t taken (Closes (way_of side) ∷ [])
  way_says : {given : List Given} → IsOther side given
      → waits_at side t ≡ waits_at side s ++ texts_in side taken
      → Ways rules moment side s t taken given
  way_resets : next_of rules s ≡ nexts.Reset side → is_open side s.node.lane.body ≡ true
      → Notices side s taken
      → waits_at side t ≡ (waits_at side s ++ reset_text moment) ++ texts_in side taken
      → Ways rules moment side s t taken []

-- ---- what was found: it waits on, or the side has no connection any more; or it is found now; or it
-- is heard

pub data Stays (side : Side) (s t : RunState) (given : List Given) (taken : Option Taken)
    : Type 0 where
  stays_on : found_for side t.held.finding ≡ found_for side s.held.finding
      → Stays side s t given taken
  stays_shut : is_open side t.node.lane.body ≡ false → Stays side s t given taken
  stays_found : {bytes : List ℕ}
      → given ≡ Polls (way_of side) room_bytes (founds.Bytes bytes) ∷ []
      → Stays side s t given taken
  stays_heard : (some : Taken) {piece : Bor (List ℕ)} → taken ≡ Some some
      → some.input ≡ inputs.Bytes side piece → Stays side s t given taken

-- ---- what is read: nothing, where a second connection is met or a close is noticed

abbrev pub ReadsBy : Input → List Sensed → Type 0
ReadsBy inputs.Second read = read ≡ []
ReadsBy (inputs.Notice side) read = read ≡ []
ReadsBy input read = Unit {0}

abbrev pub ReadsNone : Option Taken → Type 0
ReadsNone None = Unit {0}
ReadsNone (Some taken) = ReadsBy taken.input taken.read
