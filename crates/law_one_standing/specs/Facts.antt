-- THE CUSTODY FACTS: where a board lies, and which machine's halves hold its record.
use Rattle.std.specs.Prelude.{Bool, List, None, Option, Some, [], length, map, not, take, true, false, ℕ, ◌++◌, ◌+◌, ◌∷◌, ◌||◌, ◌≡◌, ◌≤◌, if◌then◌else◌}
use Rattle.std.specs.List.{AllByRecursion, list_any}
use Rattle.line_base.specs.declared.states.SensorEvent.{SensorEvent}
use Rattle.line_base.specs.declared.states.SensorEvent.TheVariants as event
use Rattle.line_base.specs.declared.states.Side.TheVariants.{Entry, Exit}
use Rattle.line_base.specs.declared.states.Transfer.{Transfer}
use Rattle.board_record.specs.declared.record.Record.{Record}
use Rattle.hermes_horizontal.specs.Spelling.{Spells}
use Rattle.hermes_horizontal.specs.declared.message.Horizontal.{Horizontal}
use Rattle.hermes_horizontal.specs.declared.message.Horizontal.TheVariants as bodies
use Rattle.hermes_horizontal.specs.declared.message.Message.{Message}
use Rattle.hermes_horizontal.specs.declared.message.Service.{Service}
use Rattle.hermes_stream.specs.Frames.{frames_of}
use Rattle.line_link.specs.Flow.{coming}
use Rattle.line_link.specs.Link.{LinkParts}
use Rattle.line_world.specs.FloorPlan.{gap_at, has_id, machine_at}
use Rattle.line_world.specs.declared.board.Board.{Board}
use Rattle.line_world.specs.declared.gap.Gap.TheVariants as gaps
use Rattle.handover_out.specs.State.{board_of_phase as held_out}
use Rattle.handover_in.specs.State.{board_of_phase as held_in}
use Rattle.node_core.specs.Sides.{is_open}
use Rattle.standings.specs.Marks.{Owned, is_held}
use Rattle.law_custody.specs.Facts.{Has}
use Rattle.law_custody.specs.Words.{events_at}
use Rattle.law_machine_custody.specs.Good.{Lies}
use Rattle.line_step.specs.Reasons.{is_empty}
use Rattle.line_step.specs.Homes.{IsHonest}
use Rattle.line_step.specs.Numbered.{node_at}
use Rattle.line_step.specs.Runs.{IsRun, Point, IsShort}
use Rattle.line_step.specs.State.{LineState, no_line, owned_by}
use Rattle.line_step.specs.World.{link_at}
use Rattle.line_step.specs.Tracks.{TrackLine}
use Rattle.law_one_standing.specs.Carried.{without_nuls}
use Rattle.law_one_standing.specs.Standing.{IsFitTrack, is_held_at}

-- what a machine's intake holds
abbrev pub is_taken_at : LineState → ℕ → ℕ → Bool
is_taken_at s machine id = is_held id (owned_by (node_at s machine)).taking

-- a board has an id, and it is held
pub record IsHeldBy (holds : ℕ → Bool) (board : Board) : Type 0 where
  pub id : ℕ
  pub named : board.id ≡ Some id
  pub held : holds id ≡ true

-- the board of an id lies across a gap
abbrev pub LiesLeft : LineState → ℕ → ℕ → Type 0
LiesLeft s gap id = (gap_at s.world.floor gap).lies ≡ gaps.Left (record { id = Some id })

abbrev pub LiesBegun : LineState → ℕ → ℕ → Type 0
LiesBegun s gap id = (gap_at s.world.floor gap).lies ≡ gaps.Begun (record { id = Some id })

-- the board of an id is nowhere on the floor
pub record IsNowhere (s : LineState) (id : ℕ) : Type 0 where
  pub unlisted : (machine : ℕ) → Lies id (machine_at s.world.floor machine).boards → ⊥
  pub unbegun : (gap : ℕ) → LiesBegun s gap id → ⊥
  pub unleft : (gap : ℕ) → LiesLeft s gap id → ⊥

-- what the sensor of a machine's exit saw, and the machine has not read
abbrev pub IsUnread : LineState → ℕ → SensorEvent → Type 0
IsUnread s machine seen = Has seen (events_at Exit (machine_at s.world.floor machine).unread)

-- what a half of a handover holds, where its board is in this list
abbrev pub is_in_list : ℕ → List Board → Bool
is_in_list id boards = list_any (has_id id) boards

abbrev pub held_here : Option ℕ → List Board → List ℕ
held_here None boards = []
held_here (Some id) boards = if is_in_list id boards then id ∷ [] else []

abbrev pub board_with : ℕ → Board
board_with id = record { id = Some id }

-- the boards in a list are, from the front: that of the outlet, if it is in the list, those that
-- are kept, and that of the intake, if it is in the list
abbrev pub AreInOrder : Owned → List Board → Type 0
AreInOrder own boards =
    boards ≡ map board_with (held_here own.held boards
    ++ (own.kept ++ held_here own.taking boards))

-- the bytes that are undelivered at a machine's entry, and those that are on their way to it
abbrev pub to_entry : LineState → ℕ → List ℕ
to_entry s gap =
    (node_at s (gap + 1)).lane.entry_bytes ++ coming (link_at gap s.world).flows.to_downstream

-- one of these texts spells the message
pub data IsSpelledIn (message : Message) : List (List ℕ) → Type 0 where
  spelled_first : {text : List ℕ} {others : List (List ℕ)} → Spells text message
      → IsSpelledIn message (text ∷ others)
  spelled_later : {text : List ℕ} {others : List (List ℕ)} → IsSpelledIn message others
      → IsSpelledIn message (text ∷ others)

-- the link stands, or bytes are on their way to its entry still
abbrev pub comes_still : LinkParts → Bool
comes_still link = link.stands || not (is_empty (coming link.flows.to_downstream))

-- a message is on its way to an entry: a text among the bytes spells it, whatever text before it
-- was spoiled. Or its own text was spoiled, and comes still: without the NULs that were put in, a
-- text among the bytes spells it
pub data IsOnItsWay (s : LineState) (gap : ℕ) (message : Message) : Type 0 where
  way_whole : IsSpelledIn message (frames_of (to_entry s gap)).messages → IsOnItsWay s gap message
  way_spoiled : comes_still (link_at gap s.world) ≡ true
      → IsSpelledIn message (frames_of (without_nuls (to_entry s gap))).messages
      → IsOnItsWay s gap message

-- it tells that the transport of a board has ended upstream, or describes the machine there
pub data LetsGo : Horizontal → Type 0 where
  lets_end : {state : Transfer} {id : ℕ} → LetsGo (bodies.TransportFinished state id)
  lets_description : {service : Service} → LetsGo (bodies.ServiceDescription service)

-- the facts of a state
pub record HasCustodyFacts (s : LineState) : Type 0 where
  -- a board that lies begun in a gap: the outlet there holds its id
  pub begun : (gap : ℕ) (board : Board) → (gap_at s.world.floor gap).lies ≡ gaps.Begun board
      → IsHeldBy (is_held_at s gap) board
  -- one that lies across it: the intake of the next machine holds its id
  pub left : (gap : ℕ) (board : Board) → (gap_at s.world.floor gap).lies ≡ gaps.Left board
      → IsHeldBy (is_taken_at s (gap + 1)) board
  -- an outlet that still holds an id whose board lies across a gap, or in the list of the next
  -- machine, has it unread that the board left; and where its board is nowhere, that it was taken
  pub left_unread : (gap other id : ℕ) → is_held_at s gap id ≡ true → LiesLeft s other id
      → IsUnread s gap event.Left
  pub inside_unread : (gap id : ℕ) → is_held_at s gap id ≡ true
      → Lies id (machine_at s.world.floor (gap + 1)).boards → IsUnread s gap event.Left
  pub taken_unread : (gap id : ℕ) → is_held_at s gap id ≡ true → IsNowhere s id
      → IsUnread s gap event.Taken
  -- while the end of a transport, or the description of the machine upstream, is on its way to an
  -- entry that has its connection still, whole or spoiled, the outlet holds nothing
  pub free : (gap : ℕ) (message : Message)
      → is_open Entry (node_at s (gap + 1)).lane.body ≡ true → IsOnItsWay s gap message
      → LetsGo message.body → held_out (node_at s gap).lane.body.outlet.phase ≡ None
  -- the boards of a list stand in the order of the machine's records
  pub order : (machine : ℕ)
      → AreInOrder (owned_by (node_at s machine)) (machine_at s.world.floor machine).boards
  -- and where both halves of a handover hold a record, they hold one
  pub one_record : (gap : ℕ) (above below : Record)
      → held_out (node_at s gap).lane.body.outlet.phase ≡ Some above
      → held_in (node_at s (gap + 1)).lane.body.intake.phase ≡ Some below → above ≡ below

-- THE LAW: they hold after each line of every script, up to the first one that told what was not
-- so
abbrev pub CustodyFacts : Type 0
CustodyFacts =
    (asked : List TrackLine) (points : List Point) (n : ℕ) → AllByRecursion IsFitTrack asked
    → IsShort no_line points → IsRun no_line asked points → IsHonest asked points n
    → AllByRecursion (λ (point : Point). HasCustodyFacts point.after) (take n points)
