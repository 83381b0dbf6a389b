-- What was called at ports, and what they answered.
use Rattle.std.specs.Prelude.{◌≡◌, ◌≤◌, ◌++◌, ℕ, Bool, true, false, List, [], ◌∷◌, Option, None, Some, length, take, if◌then◌else◌}
use Rattle.std.specs.List.{flat_map}
use Rattle.line_outside.specs.declared.answer.GotBytes.{GotBytes}
use Rattle.line_outside.specs.declared.answer.GotBytes.TheVariants as founds
use Rattle.line_outside.specs.declared.ports.Got.{Got}
use Rattle.line_outside.specs.declared.ports.Got.TheVariants as gots
use Rattle.line_outside.specs.declared.ports.Opened.{Opened}
use Rattle.line_outside.specs.declared.ports.Sent.{Sent}
use Rattle.line_outside.specs.declared.ports.Sent.TheVariants as sents
use Rattle.line_outside.specs.declared.way.Address.{Address}
use Rattle.line_outside.specs.declared.way.Way.{Way}
use Rattle.line_outside.specs.declared.way.Way.TheVariants as ways

-- one call with its answer: at an address, with a room of so many bytes, or with a piece
pub data Given : Type 0 where
  Listens : Way → Address → Opened → Given
  Connects : Way → Address → Opened → Given
  Polls : Way → ℕ → GotBytes → Given
  Sends : Way → List ℕ → Sent → Given
  Refuses : Way → List ℕ → Sent → Given
  Closes : Way → Given

-- what a poll found, with the bytes that it put at the front of the room
abbrev pub got_bytes : Got → List ℕ → GotBytes
got_bytes gots.Arrived room = founds.Arrived
got_bytes gots.Second room = founds.Second
got_bytes (gots.Bytes n) room = founds.Bytes (take n room)
got_bytes gots.NotYet room = founds.NotYet
got_bytes gots.Closed room = founds.Closed
got_bytes gots.Failed room = founds.Failed

-- the bytes of a piece that were taken
abbrev pub taken_of : Sent → List ℕ → List ℕ
taken_of (sents.Took n) piece = take n piece
taken_of sents.NotYet piece = []
taken_of sents.Closed piece = []
taken_of sents.Failed piece = []

abbrev pub is_same_way : Way → Way → Bool
is_same_way ways.Panel ways.Panel = true
is_same_way ways.Upstream ways.Upstream = true
is_same_way ways.Downstream ways.Downstream = true
is_same_way ways.Supervisory ways.Supervisory = true
is_same_way ways.Configuration ways.Configuration = true
is_same_way _ _ = false

-- the bytes that one call took on a way
abbrev pub took_in : Way → Given → List ℕ
took_in way (Sends other piece sent) = if is_same_way way other then taken_of sent piece else []
took_in way (Refuses other piece sent) = if is_same_way way other then taken_of sent piece else []
took_in way _ = []

-- WHAT A WAY TOOK in some calls, in their order
abbrev pub took_of : Way → List Given → List ℕ
took_of way calls = flat_map (took_in way) calls
