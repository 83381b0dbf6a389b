-- WHAT WAITS ON A LINK: the connections that one of its ends has not, and what may have been said
-- on them. It stands beside the relation of the link (`law_custody`), which speaks of the two
-- connections that its ends have.
use Rattle.std.specs.Prelude.{Bool, List, [], false, true, ◌∷◌, ◌≡◌}
use Rattle.std.specs.List.{AllByRecursion, list_any}
use Rattle.line_base.specs.declared.states.Side.TheVariants.{Entry, Exit}
use Rattle.board_record.specs.declared.sensed.Sensed.{Sensed}
use Rattle.hermes_horizontal.specs.declared.message.Horizontal.{Horizontal}
use Rattle.hermes_horizontal.specs.declared.message.Message.{Message}
use Rattle.session_core.specs.declared.state.SessionState.TheVariants.{Handshake}
use Rattle.handover_in.specs.State.{may_connect}
use Rattle.node_core.specs.Sides.{is_open}
use Rattle.node_core.specs.declared.lane.Body.{Body as Machine}
use Rattle.law_custody.specs.Bytes.{Flows, texts_of}
use Rattle.law_custody.specs.Talks.{IsCall}
use Rattle.law_custody.specs.Words.{DownstreamService, down_words, up_words}
use Rattle.law_link_messages.specs.Fit.{AreFit}
use Rattle.law_link_messages.specs.Heard.{bodies}
use Rattle.law_machine_custody.specs.Ahead.{IsFreeRead}
use Rattle.law_running_line.specs.Wire.{Awaits, Coming, Has, Hold, Left, Wire, bytes_of, has}

-- at most one of these passes a test
pub data AtMostOne (test : Wire → Bool) : List Wire → Type 0 where
  none_passes : AtMostOne test []
  passes_not : {wire : Wire} {wires : List Wire} → test wire ≡ false → AtMostOne test wires
      → AtMostOne test (wire ∷ wires)
  passes_alone : {wire : Wire} {wires : List Wire} → list_any test wires ≡ false
      → AtMostOne test (wire ∷ wires)

-- the end below has the connection, or awaits it
abbrev pub is_of_below : Hold → Bool
is_of_below Awaits = true
is_of_below Has = true
is_of_below Left = false

abbrev pub had_above : Wire → Bool
had_above wire = has wire.above

abbrev pub had_below : Wire → Bool
had_below wire = has wire.below

abbrev pub kept_below : Wire → Bool
kept_below wire = is_of_below wire.below

-- what is on its way on a connection of which nothing was given: the texts of these messages, whole
pub record Says (coming : List Coming) (said : List Message) : Type 0 where
  pub fit : AreFit said
  pub flows : Flows [] (bytes_of coming) (texts_of said)

-- what may have been said up on a connection that the exit has not taken, as the entry stands to
-- it: its description, and beside that what no outlet hears, such as a sign of life that is asked
-- for
pub data SaidUp : Hold → List Horizontal → Type 0 where
  not_come : SaidUp Awaits []
  has_come : {said : List Horizontal} → up_words said ≡ DownstreamService ∷ [] → SaidUp Has said
  was_left : {said : List Horizontal} → IsCall (up_words said) → SaidUp Left said

-- a connection that the exit awaits: what the entry said on it, and nothing that the exit did
pub record IsUntaken (wire : Wire) : Type 0 where
  pub said : List Message
  pub says : Says wire.up said
  pub call : SaidUp wire.below (bodies said)
  pub down : wire.down ≡ []

-- one that the entry awaits: what the exit said on it, of which nothing tells of boards, and nothing
-- that the entry did
pub record IsUncome (wire : Wire) : Type 0 where
  pub said : List Message
  pub says : Says wire.down said
  pub quiet : down_words (bodies said) ≡ []
  pub up : wire.up ≡ []

-- the connections of a link, as the machine above and the machine below stand to them, the latter
-- with these events unread
pub record Waits (above below : Machine) (unread : List Sensed) (wires : List Wire) : Type 0 where
  pub one_above : AtMostOne had_above wires
  pub one_below : AtMostOne kept_below wires
  -- an end has one exactly while its session is open
  pub exit_open : list_any had_above wires ≡ is_open Exit above
  pub entry_open : list_any had_below wires ≡ is_open Entry below
  pub untaken : AllByRecursion (λ (wire : Wire). wire.above ≡ Awaits → IsUntaken wire) wires
  pub uncome : AllByRecursion (λ (wire : Wire). wire.below ≡ Awaits → IsUncome wire) wires
  -- one that the entry has and the exit awaits: the entry shakes hands. The other way round so
  -- does the exit
  pub called : AllByRecursion
      (λ (wire : Wire). wire.above ≡ Awaits → wire.below ≡ Has
      → below.entry.session.state ≡ Handshake) wires
  pub taken_first : AllByRecursion
      (λ (wire : Wire). wire.above ≡ Has → wire.below ≡ Awaits
      → above.exit.session.state ≡ Handshake) wires
  -- the machine below can take the one that it awaits
  pub may_come : AllByRecursion
      (λ (wire : Wire). wire.below ≡ Awaits → may_connect below.intake.phase ≡ true) wires
  -- and a free intake has read all
  pub free : IsFreeRead unread below
