-- The messages to a side, and which words it hears of them.
use Rattle.std.specs.Prelude.{Bool, List, [], ℕ, ◌∷◌}
use Rattle.line_base.specs.declared.states.Side.{Side}
use Rattle.line_base.specs.declared.states.Side.TheVariants.{Entry, Exit}
use Rattle.hermes_horizontal.specs.declared.message.Horizontal.{Horizontal}
use Rattle.hermes_horizontal.specs.declared.message.Message.{Message}
use Rattle.smema_bridge.specs.declared.line.SegmentLine.{SegmentLine}
use Rattle.node_core.specs.Event.{Event, Fault, Forecast, Level, Nothing, Notice, Query, Shutdown, Supervised, Tick, Will, Words}
use Rattle.node_core.specs.Supervising.{Supervision}
use Rattle.node_core.specs.declared.word.Word.{Word}
use Rattle.node_core.specs.declared.word.Word.TheVariants as words
use Rattle.law_machine_custody.specs.Scene.{Scene}

-- the messages that a side has not heard
abbrev pub unheard : Side → Scene → List Horizontal
unheard Entry c = c.above.down
unheard Exit c = c.below.up

-- the words are the oldest of these messages, in their order, up to one that is wrong
pub data AreOldest : List Word → List Horizontal → Type 0 where
  oldest_none : {messages : List Horizontal} → AreOldest [] messages
  oldest_says : {message : Message} {others : List Word} {messages : List Horizontal}
      → AreOldest others messages
      → AreOldest (words.Says message ∷ others) (message.body ∷ messages)
  oldest_wrong : {text : List ℕ} {others : List Word} {messages : List Horizontal}
      → AreOldest (words.Wrong text ∷ others) messages

-- ---- what befalls a machine, but a change by hand and a new connection

pub data IsPlain : Event → Scene → Type 0 where
  plain_nothing : {c : Scene} → IsPlain Nothing c
  -- the words that are heard are the oldest messages to their side
  plain_words : {side : Side} {words : List Word} {c : Scene} → AreOldest words (unheard side c)
      → IsPlain (Words side words) c
  plain_notice : {side : Side} {c : Scene} → IsPlain (Notice side) c
  plain_tick : {c : Scene} → IsPlain Tick c
  plain_shutdown : {c : Scene} → IsPlain Shutdown c
  plain_fault : {side : Side} {c : Scene} → IsPlain (Fault side) c
  plain_will : {side : Side} {on : Bool} {c : Scene} → IsPlain (Will side on) c
  plain_level : {line : SegmentLine} {on : Bool} {c : Scene} → IsPlain (Level line on) c
  plain_forecast : {c : Scene} → IsPlain Forecast c
  plain_query : {barcode : List ℕ} {c : Scene} → IsPlain (Query barcode) c
  -- it is supervised or not, asks its supervisor, or is answered
  plain_supervised : {what : Supervision} {c : Scene} → IsPlain (Supervised what) c
