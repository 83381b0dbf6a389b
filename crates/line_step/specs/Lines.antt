-- THE LINE STEP: what is done of a request, where no reason stands against it.
use Rattle.std.specs.Prelude.{◌≡◌, ℕ, ◌+◌, ◌-◌, List, [], ◌∷◌, ◌++◌, ◌≤◌, Option, Some, None, Result, Ok, Err, drop}
use Rattle.std.specs.Borrow.{Bor}
use Rattle.board_record.specs.declared.sensed.Sensed.{Sensed}
use Rattle.line_base.specs.declared.states.Side.{Side}
use Rattle.line_base.specs.declared.states.Side.TheVariants.{Entry, Exit}
use Rattle.line_world.specs.FloorPlan.{FloorPlan, machine_at, with_boards, with_unread}
use Rattle.line_world.specs.Moves.{floor_move}
use Rattle.line_world.specs.declared.moves.Move.{Move}
use Rattle.line_world.specs.declared.moves.MoveNo.{MoveNo}
use Rattle.line_link.specs.Link.{after_connect, after_flow, after_spoil, connected_of, cut, spoil_sent}
use Rattle.line_link.specs.declared.link.Connected.{Connected}
use Rattle.line_link.specs.declared.link.Connected.TheVariants as connections
use Rattle.node_core.specs.declared.input.Input.{Input}
use Rattle.node_core.specs.declared.input.Input.TheVariants as inputs
use Rattle.line_step.specs.World.{end_of, link_at, link_of, piece_for, with_floor, with_link}
use Rattle.line_step.specs.State.{LineState, one_more, with_world}
use Rattle.line_step.specs.Acts.{cut_told}
use Rattle.line_step.specs.Steps.{MachineSteps, StepsTwice}
use Rattle.line_step.specs.Reasons.{May, may_add, may_connect, may_cut, may_flow, may_lie, may_spoil, may_stop, may_unseen}
use Rattle.line_step.specs.Requests.{Request, added_told, may_get}
use Rattle.line_step.specs.Requests as requests
use Rattle.line_step.specs.Shown.{shown, standings_told}
use Rattle.line_report.specs.declared.happening.Happening.{Happening}
use Rattle.line_report.specs.declared.happening.Happening.TheVariants as happenings
use Rattle.line_report.specs.declared.happening.Reason.TheVariants as reasons

-- the state after is this one, and this is told
pub record Becomes (next : LineState) (what : List Happening) (after : LineState)
    (told : List Happening) : Type 0 where
  pub after_is : after ≡ next
  pub told_is : told ≡ what

-- nothing changes where a reason stands against the line, and the reason is told
abbrev pub Unless : May → LineState → LineState → List Happening → Type 0 → Type 0
Unless (Err reason) before after told Done = Becomes before (happenings.No reason ∷ []) after told
Unless (Ok _) before after told Done = Done

-- ---- bytes arrive

abbrev pub arrived : ℕ → Side → Option ℕ → LineState → LineState
arrived machine side count s =
    with_world
    (with_link (link_of machine side)
    (after_flow (end_of side) count (link_at (link_of machine side) s.world)) s.world) s

-- a machine hears the bytes that arrive
pub record Flows (number machine : ℕ) (side : Side) (count : Option ℕ) (before after : LineState)
    (told : List Happening) : Type 0 where
  pub piece : Bor (List ℕ)
  pub bytes : piece.now ≡ piece_for machine side count before.world
  pub steps : MachineSteps number machine (inputs.Bytes side piece)
      (arrived machine side count before) after told

-- ---- a connection is made

-- the link before a machine is connected: its numbers and whether it stands are set before the
-- first of the two steps
abbrev pub connecting : ℕ → LineState → LineState
connecting machine s =
    with_world (with_link (machine - 1) (after_connect (link_at (machine - 1) s.world)) s.world) s

-- what the upstream machine meets
abbrev pub met : Connected → Input
met connections.Accepted = inputs.Accepted
met connections.Second = inputs.Second

abbrev pub Connects : ℕ → ℕ → LineState → LineState → List Happening → Type 0
Connects number machine before after told =
    StepsTwice (MachineSteps number machine inputs.Connect)
    (MachineSteps number (machine - 1)
    (met (connected_of (link_at (machine - 1) before.world).upstream)))
    (connecting machine before) after told

-- ---- a link is cut or spoiled

abbrev pub cut_in : ℕ → LineState → LineState
cut_in gap s = with_world (with_link gap (cut (link_at gap s.world)) s.world) s

abbrev pub spoiled : ℕ → Side → LineState → LineState
spoiled machine side s =
    with_world
    (with_link (link_of machine side)
    (after_spoil (end_of side) (link_at (link_of machine side) s.world)) s.world) s

abbrev pub spoil_told : ℕ → Side → LineState → List Happening
spoil_told machine side s =
    happenings.Spoils machine side ∷ cut_told (link_of machine side)
    (spoil_sent (end_of side) (link_at (link_of machine side) s.world))

-- ---- the floor

abbrev pub moved : Result FloorPlan MoveNo → LineState → LineState
moved (Ok floor) s = with_world (with_floor floor s.world) s
moved (Err why) s = s

abbrev pub move_told : ℕ → Move → Result FloorPlan MoveNo → List Happening
move_told gap step (Ok floor) = happenings.Moved gap step ∷ []
move_told gap step (Err why) = happenings.No (reasons.Move why) ∷ []

abbrev pub Moves : ℕ → Move → LineState → LineState → List Happening → Type 0
Moves gap step before after told =
    Becomes (moved (floor_move gap step before.world.floor) before)
    (move_told gap step (floor_move gap step before.world.floor)) after told

-- ---- a sensor event that was not

-- the first such line is told as the one from which on nobody vouches for the standings
abbrev pub unvouched_told : Option ℕ → List Happening
unvouched_told None = happenings.Unvouched ∷ []
unvouched_told (Some line) = []

abbrev pub first_of : ℕ → Option ℕ → Option ℕ
first_of number None = Some number
first_of number (Some line) = Some line

abbrev pub lied : ℕ → ℕ → Sensed → LineState → LineState
lied number machine sensed s = record s {
  world = with_floor (with_unread s.world.floor machine ((machine_at s.world.floor machine).unread
      ++ sensed ∷ [])) s.world;
  unvouched = first_of number s.unvouched;
}

-- ---- a board comes or goes unseen

-- a board that comes out of a bridge's segment lies at the back of its list and has no id that
-- anybody knows; one that goes into it is the front one. No sensor sees either
abbrev pub unseen_on : ℕ → Side → FloorPlan → FloorPlan
unseen_on machine Entry floor =
    with_boards floor machine ((machine_at floor machine).boards ++ record { id = None } ∷ [])
unseen_on machine Exit floor = with_boards floor machine (drop 1 (machine_at floor machine).boards)

abbrev pub unseen : ℕ → ℕ → Side → LineState → LineState
unseen number machine side s = record s {
  world = with_floor (unseen_on machine side s.world.floor) s.world;
  unvouched = first_of number s.unvouched;
}

-- ---- what each request does: of a stop this is what it tells itself, and what it does behind that
-- are requests of their own (specs/Parts)

abbrev pub LineDoes : ℕ → Request → LineState → LineState → List Happening → Type 0
LineDoes number requests.nothing before after told = Becomes before [] after told
LineDoes number requests.shows before after told = Becomes before (shown before) after told
LineDoes number (requests.adds lane is_bridge capacity used) before after told =
    Unless (may_add before) before after told
    (Becomes (one_more lane is_bridge capacity used before) (added_told is_bridge capacity before)
    after told)
LineDoes number (requests.gives machine input) before after told =
    Unless (may_get machine input before) before after told
    (MachineSteps number machine input before after told)
LineDoes number (requests.connects machine) before after told =
    Unless (may_connect machine before) before after told
    (Connects number machine before after told)
LineDoes number (requests.flows machine side count) before after told =
    Unless (may_flow machine side before) before after told
    (Flows number machine side count before after told)
LineDoes number (requests.cuts gap) before after told =
    Unless (may_cut gap before) before after told
    (Becomes (cut_in gap before) (happenings.Cut gap ∷ []) after told)
LineDoes number (requests.stops machine) before after told =
    Unless (may_stop machine before) before after told
    (Becomes before (happenings.Stop machine ∷ []) after told)
LineDoes number (requests.spoils machine side) before after told =
    Unless (may_spoil machine side before) before after told
    (Becomes (spoiled machine side before) (spoil_told machine side before) after told)
LineDoes number (requests.moves_on gap step) before after told = Moves gap step before after told
LineDoes number (requests.lies machine sensed) before after told =
    Unless (may_lie machine sensed.side before) before after told
    (Becomes (lied number machine sensed before)
    (happenings.Lie machine sensed ∷ unvouched_told before.unvouched) after told)
LineDoes number (requests.unsees machine side) before after told =
    Unless (may_unseen machine side before) before after told
    (Becomes (unseen number machine side before)
    (happenings.Unseen machine side ∷ unvouched_told before.unvouched) after told)

-- ---- and the standings that changed

-- the count of lines goes on by this one, or stays where more is done under its number
pub record Counts (old new : ℕ) : Type 0 where
  pub least : old ≤ new
  pub most : new ≤ old + 1

-- what is done of a request: the state after it, counted, and what it did with the standings that
-- it changed
pub record LineSteps (number : ℕ) (request : Request) (before after : LineState)
    (told : List Happening) : Type 0 where
  pub next : LineState
  pub done : List Happening
  pub does : LineDoes number request before next done
  pub lines : ℕ
  pub counts : Counts next.lines lines
  pub after_is : after ≡ record next { lines = lines }
  pub told_is : told ≡ done ++ standings_told before next
