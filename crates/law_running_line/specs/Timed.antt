-- WHAT GOES ON BESIDE THE RELATION where boards are let go behind the reading: what a machine has
-- read of its boards, and that of what is on its way each word comes in time, which may be heard once
-- all that had been seen before it was said is read.
use Rattle.std.specs.Prelude.{ℕ, Bool, true, false, List, [], ◌+◌, ◌++◌, ◌≡◌, ◌≤◌}
use Rattle.std.specs.List.{AllByRecursion}
use Rattle.line_base.specs.declared.states.SensorEvent.TheVariants as events
use Rattle.line_base.specs.declared.states.Side.{Side}
use Rattle.line_base.specs.declared.states.Side.TheVariants.{Entry, Exit}
use Rattle.line_base.specs.declared.states.Transfer.TheVariants as transfer
use Rattle.hermes_horizontal.specs.declared.message.Horizontal.{Horizontal}
use Rattle.hermes_horizontal.specs.declared.message.Horizontal.TheVariants as message
use Rattle.hermes_horizontal.specs.declared.message.Message.{Message}
use Rattle.law_custody.specs.Bytes.{Flows, texts_of}
use Rattle.law_custody.specs.Facts.{Has as HasEvent}
use Rattle.law_custody.specs.Unread.{NotOver}
use Rattle.law_custody.specs.Words.{events_at}
use Rattle.law_link_messages.specs.Fit.{AreFit}
use Rattle.law_one_standing.specs.Carried.{Trace}
use Rattle.law_running_line.specs.Reading.{Behind, Freely, Reading, Strictly}
use Rattle.law_running_line.specs.Running.{Running, count_unread, unread_by}
use Rattle.law_running_line.specs.Stands.{Stands, node_in}
use Rattle.law_running_line.specs.Wire.{Coming, Has, Wire, bytes_of}

-- a message that a side hears only once all that its sensor saw is read: a start, the upstream
-- machine's description, the end of a transfer that isn't complete
abbrev pub awaits_reading : Side → Horizontal → Bool
awaits_reading Entry (message.ServiceDescription service) = true
awaits_reading Entry (message.TransportFinished transfer.NotStarted id) = true
awaits_reading Entry (message.TransportFinished transfer.Incomplete id) = true
awaits_reading Exit (message.StartTransport id) = true
awaits_reading _ _ = false

-- the bytes that come first are messages that wait for no reading, whole with those that wait at the
-- side, or there are none
pub data IsFront (side : Side) (waiting : List ℕ) : List Coming → Type 0 where
  front_none : IsFront side waiting []
  front_said : {early : List Coming} (said : List Message) → AreFit said
      → Flows waiting (bytes_of early) (texts_of said)
      → AllByRecursion (λ (one : Message). awaits_reading side one.body ≡ false) said
      → IsFront side waiting early

-- what comes to a side that has so many events unread: behind what waits for no reading, each byte
-- was said behind all of them
pub record IsTimed (side : Side) (count : ℕ) (waiting : List ℕ) (coming : List Coming)
    : Type 0 where
  pub early : List Coming
  pub late : List Coming
  pub is : coming ≡ early ++ late
  pub behind : AllByRecursion (λ (c : Coming). count ≤ c.behind) late
  pub front : IsFront side waiting early

-- all that comes on the connections of a link is timed
pub record OnTime (s : Running) (link : ℕ) : Type 0 where
  pub up : AllByRecursion
      (λ (wire : Wire). wire.above ≡ Has
      → IsTimed Exit (count_unread link Exit s) (node_in s link).lane.exit_bytes wire.up)
      (s.wires link)
  pub down : AllByRecursion
      (λ (wire : Wire). wire.below ≡ Has
      → IsTimed Entry (count_unread (link + 1) Entry s) (node_in s (link + 1)).lane.entry_bytes
      wire.down)
      (s.wires link)

-- and of one link its board is let go behind the reading, too
pub record Times (t : Trace) (s : Running) (link : ℕ) : Type 0 where
  pub begun : HasEvent events.Begun (events_at Exit (unread_by link s)) → ⊥
  pub over : HasEvent events.Begun (events_at Entry (unread_by (link + 1) s))
      → NotOver (t.ghost link).place
  pub on_time : OnTime s link

-- so it is of each link, where the reading has it
abbrev pub Kept : Reading → Trace → Running → Type 0
Kept Behind t s = (link : ℕ) → Times t s link
Kept Strictly t s = Unit {0}
Kept Freely t s = Unit {0}

-- running machines stand in the relation that goes on under a reading
pub record AreRelated (reading : Reading) (s : Running) : Type 0 where
  pub trace : Trace
  pub stands : Stands trace s
  pub kept : Kept reading trace s
