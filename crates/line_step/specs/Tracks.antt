-- THE TRACK: one lane along the whole line, and a line of its own. A line of the script is of this
-- track, or of another one, which leaves this one as it was but for what the lanes of a machine
-- share.
use Rattle.std.specs.Prelude.{◌≡◌, ◌≤◌, ℕ, List, [], ◌∷◌, None, false}
use Rattle.std.specs.List.{AllByRecursion}
use Rattle.line_world.specs.Boards.{boards_on}
use Rattle.line_world.specs.FloorPlan.{has_id}
use Rattle.line_world.specs.declared.board.Board.{Board}
use Rattle.node_core.specs.Node.{NodeState}
use Rattle.node_core.specs.declared.input.Input.TheVariants as inputs
use Rattle.line_report.specs.declared.happening.Happening.{Happening}
use Rattle.line_step.specs.State.{LineState}
use Rattle.step_rules.specs.Makers.{IsOld}
use Rattle.line_step.specs.Requests.{Request, gives, nothing}
use Rattle.line_step.specs.Lines.{Counts, LineSteps}

-- what a line of the script is to a track: a request to it, or a line of another one
pub data TrackLine : Type 0 where
  own_line : Request → TrackLine
  other_line : TrackLine

-- and what it asks of it: a line of another one asks nothing
abbrev pub asked_on : TrackLine → Request
asked_on (own_line request) = request
asked_on other_line = nothing

-- a machine as a step of another of its lanes leaves it: ids may have been used, and it may be
-- supervised or not. Work orders are asked for on the first lane, so they are of its track alone
pub record IsBesideNode (before after : NodeState) : Type 0 where
  pub spent : after.spent ≡ before.spent
  pub name : after.name ≡ before.name
  pub number : after.number ≡ before.number
  pub capacity : after.capacity ≡ before.capacity
  pub machine : after.maker.machine ≡ before.maker.machine
  pub used : before.maker.used ≤ after.maker.used
  pub lane : after.lane ≡ before.lane
  pub bridge : after.bridge ≡ before.bridge
  pub forecasts : after.forecasts ≡ before.forecasts
  pub orders : after.orders ≡ before.orders

abbrev pub AreBesideNodes : List NodeState → List NodeState → Type 0
AreBesideNodes [] [] = Unit {0}
AreBesideNodes [] (_ ∷ _) = ⊥
AreBesideNodes (_ ∷ _) [] = ⊥
AreBesideNodes (before ∷ befores) (after ∷ afters) =
    IsBesideNode before after × AreBesideNodes befores afters

-- a track behind a line of another one: its links and its floor are as they were, the line is
-- counted, and where it told what was not so nobody vouches for this track either
pub record IsBeside (before after : LineState) : Type 0 where
  pub machines : AreBesideNodes before.machines after.machines
  pub world : after.world ≡ before.world
  pub counts : Counts before.lines after.lines
  pub vouched : after.unvouched ≡ None → before.unvouched ≡ None

-- a board that comes from another lane: a machine of the line made its id, and it doesn't lie on
-- this track
pub record IsFromElsewhere (id : ℕ) (s : LineState) : Type 0 where
  pub made : IsOld 1 s.machines id
  pub absent : AllByRecursion (λ (board : Board). has_id id board ≡ false) (boards_on s.world.floor)

abbrev pub ComesFromElsewhere : Request → LineState → Type 0
ComesFromElsewhere (gives machine (inputs.Gets board)) s = IsFromElsewhere board.id s
ComesFromElsewhere request s = Unit {0}

-- THE STEP OF A TRACK
abbrev pub TrackSteps : ℕ → TrackLine → LineState → LineState → List Happening → Type 0
TrackSteps number (own_line request) before after told =
    LineSteps number request before after told × ComesFromElsewhere request before
TrackSteps number other_line before after told = IsBeside before after × (told ≡ [])
