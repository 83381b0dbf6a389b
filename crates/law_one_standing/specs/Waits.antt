-- What waits at a side with a connection comes to no message.
use Rattle.std.specs.Prelude.{List, true, ℕ, ◌≡◌}
use Rattle.line_base.specs.declared.states.Side.{Side}
use Rattle.line_base.specs.declared.states.Side.TheVariants.{Entry, Exit}
use Rattle.hermes_stream.specs.Frames.{NeedMore, answer_of}
use Rattle.node_core.specs.Sides.{is_open}
use Rattle.node_core.specs.declared.lane.Lane.{Lane}
use Rattle.line_step.specs.Numbered.{node_at}
use Rattle.line_step.specs.State.{LineState}

-- the undelivered bytes of a side
abbrev pub waiting_at : Side → Lane → List ℕ
waiting_at Entry lane = lane.entry_bytes
waiting_at Exit lane = lane.exit_bytes

-- the bytes that wait at an open side may go on to a message
abbrev pub Waits : Lane → Type 0
Waits lane =
    (side : Side) → is_open side lane.body ≡ true → answer_of (waiting_at side lane) ≡ NeedMore

abbrev pub AreWaiting : LineState → Type 0
AreWaiting s = (machine : ℕ) → Waits (node_at s machine).lane
