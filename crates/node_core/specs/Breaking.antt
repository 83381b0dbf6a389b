-- WRONG BYTES: a word that is a breach, and what it does to the step that hears it.
use Rattle.std.specs.Prelude.{◌≡◌, ℕ, ℤ, Bool, true, false, List, [], ◌∷◌, ◌++◌, Option, Some, None, is_some}
use Rattle.line_base.specs.declared.states.Side.{Side}
use Rattle.line_base.specs.declared.states.Side.TheVariants.{Entry, Exit}
use Rattle.board_record.specs.declared.sensed.Sensed.{Sensed}
use Rattle.hermes_stream.specs.Frames.{frames_of}
use Rattle.hermes_horizontal.specs.Parts.{kind_of}
use Rattle.session_core.specs.declared.actions.Action.{Action}
use Rattle.session_core.specs.declared.actions.Action.TheVariants as action
use Rattle.session_core.specs.Breach.{unexpected}
use Rattle.session_core.specs.Input.{heard}
use Rattle.session_core.specs.Row.{SessionRow, session_row}
use Rattle.handover_out.specs.State.{held}
use Rattle.node_core.specs.declared.act.Act.{Act}
use Rattle.node_core.specs.declared.input.Input.{Input}
use Rattle.node_core.specs.declared.input.Input.TheVariants as inputs
use Rattle.node_core.specs.declared.lane.Body.{Body}
use Rattle.node_core.specs.declared.lane.Lane.{Lane}
use Rattle.node_core.specs.declared.word.Word.{Word}
use Rattle.node_core.specs.declared.word.Word.TheVariants as words
use Rattle.node_core.specs.Desk.{Desk}
use Rattle.node_core.specs.Done.{Done, and_then}
use Rattle.node_core.specs.Sides.{session_at, with_session, is_open}
use Rattle.node_core.specs.Session.{breaches}
use Rattle.node_core.specs.Hears.{side_took}
use Rattle.node_core.specs.Reads.{all_read}
use Rattle.node_core.specs.Announces.{announces}
use Rattle.node_core.specs.Words.{AreFirst, all_heard}
use Rattle.node_core.specs.Signals.{signalled}
use Rattle.node_core.specs.Node.{NodeState, desk_of}
use Rattle.node_core.specs.Supervising.{telling}

-- a message that the session passes on has a row in the table of the half
abbrev pub has_half_row : Desk → Side → Option Action → Body → Bool
has_half_row desk side (Some (action.Pass what)) body = is_some (side_took desk side what body)
has_half_row desk side _ body = true

-- a message has a row in the tables
abbrev pub has_row : Desk → Side → Option SessionRow → Body → Bool
has_row desk side None body = false
has_row desk side (Some row) body =
    has_half_row desk side row.actions.first (with_session side row.after body)

abbrev pub text_unless : Bool → List ℕ → Option (List ℕ)
text_unless true text = None
text_unless false text = Some text

-- the text of the breach that a word is: of a refused frame or too many bytes, or of a message
-- without a row
abbrev pub breach_of : Desk → Side → Word → Body → Option (List ℕ)
breach_of desk side (words.Wrong text) body = Some text
breach_of desk side (words.Says message) body =
    text_unless
    (has_row desk side
    (session_row (session_at side body) (heard message.body (is_some (held body.outlet)))) body)
    (unexpected (kind_of message.body))

-- the unread events, the words before a breach, the breach with its Notification, its close and
-- what follows of it, and the announcements; and behind each act what the supervisor is told of it
abbrev pub broken_step : Desk → List Sensed → Side → List Word → List ℕ → Body → Done
broken_step desk unread side front text body =
    telling desk body
    (and_then (and_then (all_read desk unread body) (all_heard desk side front))
    (λ at. and_then (breaches desk side text at) (announces desk)))

-- the first words of a step
abbrev pub heard_before : Desk → List Sensed → Side → List Word → Body → Body
heard_before desk unread side front body =
    (and_then (all_read desk unread body) (all_heard desk side front)).body

-- the bytes begin with these words: so their first frames mean; and behind all frames the last word
-- may be that too many bytes stand there without an end
abbrev pub BeginWith : List ℕ → List Word → Type 0
BeginWith bytes words = AreFirst (frames_of bytes).messages (frames_of bytes).rest words

-- behind these words of the bytes the side still has its connection, and the next word is a breach
-- with this text
pub record IsBreach (desk : Desk) (unread : List Sensed) (side : Side) (bytes : List ℕ)
    (before : Body) (front : List Word) (word : Word) (text : List ℕ) : Type 0 where
  pub begins : BeginWith bytes (front ++ word ∷ [])
  pub hears : is_open side (heard_before desk unread side front before) ≡ true
  pub breaks : breach_of desk side word (heard_before desk unread side front before) ≡ Some text

-- a step of bytes breaks off at a word that is a breach, and nothing behind it counts. A bridge's
-- own signals follow as in any step
pub record BreaksOff (desk : Desk) (unread : List Sensed) (side : Side) (bytes : List ℕ)
    (before after : Body) (own acts : List Act) : Type 0 where
  pub body : (front : List Word) (word : Word) (text : List ℕ)
      → IsBreach desk unread side bytes before front word text
      → after ≡ (broken_step desk unread side front text before).body
  pub told : (front : List Word) (word : Word) (text : List ℕ)
      → IsBreach desk unread side bytes before front word text
      → acts ≡ (broken_step desk unread side front text before).acts ++ own

-- the bytes of a side that make no message yet
abbrev pub waiting_at : Side → Lane → List ℕ
waiting_at Entry lane = lane.entry_bytes
waiting_at Exit lane = lane.exit_bytes

-- of all words that the undelivered bytes of the side and the piece behind them begin with
abbrev pub IsBrokenOff : NodeState → List Sensed → Input → ℤ → NodeState → List Act → Type 0
IsBrokenOff s unread (inputs.Bytes side piece) moment t acts =
    BreaksOff (desk_of s moment) unread side (waiting_at side s.lane ++ piece.now) s.lane.body
    t.lane.body (signalled s.bridge t.lane.body) acts
IsBrokenOff s unread _ moment t acts = Unit {0}
