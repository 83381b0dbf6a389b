-- The bytes on the links of a line, and the messages that they are.
use Rattle.std.specs.Prelude.{Bool, List, Some, [], false, filter, nat_lt, ℕ, ◌++◌, ◌+◌, ◌≡◌, ◌≤◌}
use Rattle.line_base.specs.Text.{IsText}
use Rattle.hermes_stream.specs.Frames.{frames_of}
use Rattle.hermes_horizontal.specs.declared.message.Horizontal.{Horizontal}
use Rattle.hermes_horizontal.specs.declared.message.Message.{Message}
use Rattle.line_link.specs.Flow.{Stream, coming}
use Rattle.line_world.specs.FloorPlan.{gap_at, machine_at}
use Rattle.law_custody.specs.Bytes.{Flows, Spoiled, texts_of}
use Rattle.law_custody.specs.Pair.{Ghost}
use Rattle.law_link_messages.specs.Fit.{AreFit, IsFitBody, IsFitMaker}
use Rattle.law_link_messages.specs.Heard.{bodies}
use Rattle.line_step.specs.Numbered.{node_at}
use Rattle.line_step.specs.State.{LineState}
use Rattle.line_step.specs.World.{link_at}
use Rattle.law_one_standing.specs.Relation.{Between, Stand}

-- bytes without the NULs among them: what was sent, of a text that was spoiled
abbrev pub without_nuls : List ℕ → List ℕ
without_nuls bytes = filter (λ (byte : ℕ). nat_lt 0 byte) bytes

-- without the NULs that were put in, the bytes are the texts of fit messages, whole, which say this
pub record Hides (bytes : List ℕ) (messages : List Horizontal) : Type 0 where
  pub said : List Message
  pub fit : AreFit said
  pub are : messages ≡ bodies said
  pub frames : frames_of (without_nuls bytes)
      ≡ record { messages = texts_of said; rest = Some [] }

-- what flows in one direction of a link that stands or not, to a side at which these bytes wait:
-- the texts of fit messages, whole; or there is a NUL in the next of them, and without the NULs they
-- are such texts; or nothing will come any more, since the link was cut or the side closed
pub data Carries (stands : Bool) (waiting : List ℕ) (stream : Stream) : List Horizontal
    → Type 0 where
  carries_whole : (said : List Message) → AreFit said
      → Flows waiting (coming stream) (texts_of said) → Carries stands waiting stream (bodies said)
  carries_spoiled : {messages : List Horizontal} → Spoiled waiting (coming stream)
      → Hides (waiting ++ coming stream) messages → Carries stands waiting stream messages
  carries_over : stands ≡ false → coming stream ≡ [] → Carries stands waiting stream []

-- what nobody keeps of a line: of each link the ghost of its handover, the messages that are sent
-- and not heard, and the ids that went from the floor there
pub record Trace : Type 0 where
  pub ghost : ℕ → Ghost
  pub up : ℕ → List Horizontal
  pub down : ℕ → List Horizontal
  pub gone : ℕ → ℕ → Bool

-- a line by numbers
abbrev pub stand_of : LineState → ℕ → Stand
stand_of s machine =
    record { body = (node_at s machine).lane.body; place = machine_at s.world.floor machine }

abbrev pub between_of : Trace → LineState → ℕ → Between
between_of t s link =
    record {
      ghost = t.ghost link;
      stands = (link_at link s.world).stands;
      gap = gap_at s.world.floor link;
      up = t.up link;
      down = t.down link;
      gone = t.gone link;
    }

-- the bytes of a link are its messages, and the records of its machines are fit to be told of
pub record Carried (t : Trace) (s : LineState) (link : ℕ) : Type 0 where
  pub up : Carries (link_at link s.world).stands (node_at s link).lane.exit_bytes
      (link_at link s.world).flows.to_upstream (t.up link)
  pub down : Carries (link_at link s.world).stands (node_at s (link + 1)).lane.entry_bytes
      (link_at link s.world).flows.to_downstream (t.down link)

pub record IsFitMachine (s : LineState) (machine : ℕ) : Type 0 where
  pub body : IsFitBody (node_at s machine).lane.body
  pub maker : IsFitMaker (node_at s machine).maker
  pub name : IsText (node_at s machine).name
  pub lane : (node_at s machine).number ≤ 999_999_999
