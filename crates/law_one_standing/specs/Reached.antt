-- A LINE THAT A RUN HAS LED TO: what holds of its state, and of what its next line tells.
use Rattle.std.specs.Prelude.{List, None, Some, [], length, true, ℕ, ◌+◌, ◌<◌, ◌≡◌, ◌≢◌, ◌≤◌}
use Rattle.std.specs.List.{AllByRecursion}
use Rattle.board_record.specs.Maker.{made_id}
use Rattle.line_world.specs.Ids.{IdsDiffer}
use Rattle.line_world.specs.declared.board.Board.{Board}
use Rattle.line_report.specs.declared.happening.Happening.{Happening}
use Rattle.node_core.specs.Node.{NodeState}
use Rattle.standings.specs.Ledger.{AreLegal, Ledger, empty_ledger, ledger_after_all}
use Rattle.standings.specs.Marks.{has_id}
use Rattle.standings.specs.declared.deed.Deed.{Deed}
use Rattle.line_step.specs.FloorIds.{boards_of}
use Rattle.line_step.specs.Lines.{LineSteps}
use Rattle.line_step.specs.Requests.{Request}
use Rattle.line_step.specs.Homes.{AreNewcomers, IsNewcomer}
use Rattle.line_step.specs.Runs.{IsRun, IsShort, Point, all_told, state_behind}
use Rattle.line_step.specs.State.{LineState, machine_in, marks_in, no_line}
use Rattle.line_step.specs.Tracks.{ComesFromElsewhere, TrackLine, own_line}
use Rattle.law_one_standing.specs.Facts.{HasCustodyFacts}
use Rattle.law_one_standing.specs.Replay.{IsLedgerOf, IsStandingTold, deeds_of}
use Rattle.law_one_standing.specs.Standing.{HasOneStanding, IsFitRequest, IsFitTrack}

-- the state behind a run of a track: its lines, and a point for each. While no line told what was
-- not so, the barcodes of the lines are texts, and boards came to where they weren't at home
pub record IsReached (s : LineState) : Type 0 where
  pub asked : List TrackLine
  pub points : List Point
  pub fit : s.unvouched ≡ None → AllByRecursion IsFitTrack asked
  pub short : IsShort no_line points
  pub few : s.lines ≤ 1000000
  pub run : IsRun no_line asked points
  pub behind : state_behind no_line points ≡ s
  pub newcomers : s.unvouched ≡ None → AreNewcomers [] asked points

-- ---- UNIQUE IDS, of a state

-- a machine of the line made the id: it bears the machine's number, and a count that is at most
-- what that machine has used
pub record IsMade (s : LineState) (id : ℕ) : Type 0 where
  pub machine : ℕ
  pub node : NodeState
  pub there : machine_in machine s ≡ Some node
  pub count : ℕ
  pub used : count ≤ node.maker.used
  pub small : count < 281474976710656
  pub is : id ≡ made_id machine count

-- the id of a board, if it has one, was made
abbrev pub HasMadeId : LineState → Board → Type 0
HasMadeId s board = (id : ℕ) → board.id ≡ Some id → IsMade s id

-- no two boards on the floor share an id, and each id of a board was made by a machine of the
-- line; and so was each id that has a mark, while no line told what was not so
pub record HasUniqueIds (s : LineState) : Type 0 where
  pub differ : IdsDiffer s.world.floor
  pub boards : AllByRecursion (HasMadeId s) (boards_of s)
  pub marked : s.unvouched ≡ None → (id : ℕ) → marks_in s id ≢ [] → IsMade s id

-- ---- THE LEDGER, of a line

-- a ledger beside a line: deeds have led to it from the empty one, its marks are those of the
-- machines, and each id that it has seen was made by one of them
pub record IsBook (ledger : Ledger) (s : LineState) : Type 0 where
  pub past : List Deed
  pub led : ledger ≡ ledger_after_all empty_ledger past
  pub marks : IsLedgerOf ledger s
  pub seen : (id : ℕ) → has_id id ledger.seen ≡ true → IsMade s id

-- in a ledger beside the line before, the deeds of what is told are legal one after the other, and
-- they lead to one that is beside the line after, and tells each id's standing
pub record Books (before after : LineState) (told : List Happening)
    (ledger : Ledger) : Type 0 where
  pub legal : AreLegal ledger (deeds_of told)
  pub book : IsBook (ledger_after_all ledger (deeds_of told)) after
  pub standings : IsStandingTold (ledger_after_all ledger (deeds_of told)) after

-- there is a ledger beside the line before; and each that is one books what is told
pub record FollowsLine (before after : LineState) (told : List Happening) : Type 0 where
  pub ledger : Ledger
  pub beside : IsBook ledger before
  pub each : (other : Ledger) → IsBook other before → Books before after told other

-- ---- THE LAWS

-- of the states, while no line told what was not so
abbrev pub StandsAlong : Type 0
StandsAlong = (s : LineState) → IsReached s → s.unvouched ≡ None → HasOneStanding s

abbrev pub CustodyAlong : Type 0
CustodyAlong = (s : LineState) → IsReached s → s.unvouched ≡ None → HasCustodyFacts s

-- of all states
abbrev pub IdsAlong : Type 0
IdsAlong = (s : LineState) → IsReached s → HasUniqueIds s

-- of a line and the next one, to which no board comes where it is at home, or lies
abbrev pub LedgerAlong : Type 0
LedgerAlong =
    (request : Request) (before after : LineState) (told : List Happening)
    → (reached : IsReached before) → IsFitRequest request
    → IsNewcomer (all_told reached.points) (own_line request) → ComesFromElsewhere request before
    → before.lines + 1 ≤ 1000000
    → LineSteps (before.lines + 1) request before after told → after.unvouched ≡ None
    → FollowsLine before after told
