-- A STATE THAT IS ANNOUNCED FOR A GAP AND A BOARD: the board is offered at the exit above the gap,
-- the place for it below it is announced, and beside these two announcements nothing is on its
-- way.
use Rattle.std.specs.Prelude.{Bool, List, Some, [], take, true, ℕ, ◌+◌, ◌∷◌, ◌≡◌}
use Rattle.line_base.specs.declared.states.Side.TheVariants.{Entry, Exit}
use Rattle.line_base.specs.declared.states.Quality.{Quality}
use Rattle.board_record.specs.declared.record.Record.{Record}
use Rattle.hermes_horizontal.specs.Spelling.{Spells}
use Rattle.hermes_horizontal.specs.declared.message.Message.{Message}
use Rattle.hermes_horizontal.specs.declared.message.Horizontal.TheVariants as bodies
use Rattle.hermes_stream.specs.Frames.{IsOneFrame}
use Rattle.session_core.specs.declared.state.SessionState.TheVariants.{Standing}
use Rattle.handover_out.specs.declared.phase.Phase.TheVariants as out
use Rattle.handover_in.specs.declared.phase.Phase.TheVariants as inn
use Rattle.line_link.specs.Flow.{Stream}
use Rattle.line_link.specs.Texts.{bytes_of}
use Rattle.line_world.specs.FloorPlan.{free_gap, gap_at, machine_at}
use Rattle.node_core.specs.Halves.{front_id}
use Rattle.law_custody.specs.Words.{events_at}
use Rattle.line_step.specs.Numbered.{node_at}
use Rattle.line_step.specs.State.{LineState}
use Rattle.line_step.specs.World.{link_at}

-- a text is one frame, which spells this message
pub record IsTextOf (message : Message) (text : List ℕ) : Type 0 where
  pub one : IsOneFrame text
  pub spells : Spells text message

pub data AreTextsOf : List Message → List (List ℕ) → Type 0 where
  no_texts : AreTextsOf [] []
  more_texts : {message : Message} {others : List Message} {text : List ℕ} {texts : List (List ℕ)}
      → IsTextOf message text → AreTextsOf others texts
      → AreTextsOf (message ∷ others) (text ∷ texts)

-- these messages are on their way, and nothing else: each text spells its message, so none was
-- spoiled, and at the side to which they flow there waits what has arrived of the oldest text, and
-- nothing where none of it has
pub record AreInFlight (messages : List Message) (waiting : List ℕ)
    (stream : Stream) : Type 0 where
  pub texts : AreTextsOf messages stream.texts
  pub waits : waiting ≡ take stream.arrived (bytes_of stream.texts)

-- the offer of a board is on its way to the intake
pub record IsOfferInFlight (id : ℕ) (waiting : List ℕ) (stream : Stream) : Type 0 where
  pub message : Message
  pub board : Record
  pub says : message.body ≡ bodies.BoardAvailable board
  pub named : board.id ≡ id
  pub flies : AreInFlight (message ∷ []) waiting stream

-- the place is announced: it was heard and stands, or MachineReady is on its way
pub data IsPlaceAnnounced (ready : Bool) (waiting : List ℕ) (stream : Stream) : Type 0 where
  heard : ready ≡ true → AreInFlight [] waiting stream → IsPlaceAnnounced ready waiting stream
  in_flight : {message : Message} {quality : Quality} → message.body ≡ bodies.MachineReady quality
      → AreInFlight (message ∷ []) waiting stream → IsPlaceAnnounced ready waiting stream

-- gap k lies under link k, between the exit of machine k and the entry of machine k + 1
pub record IsAnnounced (s : LineState) (k id : ℕ) : Type 0 where
  pub stands : (link_at k s.world).stands ≡ true
  pub exit : (node_at s k).lane.body.exit.session.state ≡ Standing
  pub entry : (node_at s (k + 1)).lane.body.entry.session.state ≡ Standing
  pub outlet : (node_at s k).lane.body.outlet.phase ≡ out.Idle
  pub offered : (node_at s k).lane.body.outlet.offered ≡ Some id
  pub front : front_id (node_at s k).lane.body.kept ≡ Some id
  pub intake : (node_at s (k + 1)).lane.body.intake.phase ≡ inn.Idle
  pub ready : (node_at s (k + 1)).lane.body.intake.ready ≡ true
  pub board : IsOfferInFlight id (node_at s (k + 1)).lane.entry_bytes
      (link_at k s.world).flows.to_downstream
  pub place : IsPlaceAnnounced (node_at s k).lane.body.outlet.ready (node_at s k).lane.exit_bytes
      (link_at k s.world).flows.to_upstream
  pub gap : gap_at s.world.floor k ≡ free_gap
  pub exit_read : events_at Exit (machine_at s.world.floor k).unread ≡ []
  pub entry_read : events_at Entry (machine_at s.world.floor (k + 1)).unread ≡ []
