-- WHAT A LINE HOLDS AT MOST, whatever its script has it do: behind what told what was not so, too.
use Rattle.std.specs.Prelude.{◌≡◌, ◌≤◌, ℕ, true, false, List, Some, length}
use Rattle.line_base.specs.declared.states.Side.TheVariants.{Entry, Exit}
use Rattle.hermes_stream.specs.Frames.{most_bytes}
use Rattle.forecast_query.specs.Forecasts.{most_forecasts}
use Rattle.supervisory_core.specs.Orders.{most_open, unanswered}
use Rattle.line_link.specs.Flow.{coming}
use Rattle.line_link.specs.Link.{LinkParts, most_in_flight}
use Rattle.node_core.specs.Node.{NodeState}
use Rattle.node_core.specs.Places.{used}
use Rattle.node_core.specs.Sides.{is_open}
use Rattle.line_step.specs.Tracks.{TrackLine}
use Rattle.line_step.specs.Runs.{IsRun, Point, state_behind}
use Rattle.line_step.specs.State.{LineState, machine_in, no_line}
use Rattle.line_step.specs.World.{link_at}

-- a machine that isn't spent: the records that it keeps and those of its open handovers need no
-- more places than it has; and of forecasts, of questions without an answer and of the undelivered
-- bytes of a side that has a connection there are no more than the most. What waits at a side
-- without one is nobody's, and is gone when the next begins
pub record HoldsWithin (node : NodeState) : Type 0 where
  pub unspent : node.spent ≡ false
  pub places : used node.lane.body ≤ node.capacity
  pub forecasts : length node.forecasts ≤ most_forecasts
  pub questions : unanswered node.orders ≤ most_open
  pub entry : is_open Entry node.lane.body ≡ true → length node.lane.entry_bytes ≤ most_bytes
  pub exit : is_open Exit node.lane.body ≡ true → length node.lane.exit_bytes ≤ most_bytes

-- each machine of a line
abbrev pub StaysWithin : LineState → Type 0
StaysWithin s =
    (machine : ℕ) (node : NodeState) → machine_in machine s ≡ Some node → HoldsWithin node

-- a link: no more than 1,048,576 bytes are on their way to either end
pub record IsLinkWithin (link : LinkParts) : Type 0 where
  pub to_upstream : length (coming link.flows.to_upstream) ≤ most_in_flight
  pub to_downstream : length (coming link.flows.to_downstream) ≤ most_in_flight

-- each link of a line
abbrev pub AreLinksWithin : LineState → Type 0
AreLinksWithin s = (link : ℕ) → IsLinkWithin (link_at link s.world)

-- A LINE WITHIN ITS BOUNDS
pub record IsBounded (s : LineState) : Type 0 where
  pub machines : StaysWithin s
  pub links : AreLinksWithin s

-- THE LAWS: behind every run of a script
abbrev pub EachMachineStaysWithin : Type 0
EachMachineStaysWithin =
    (asked : List TrackLine) (points : List Point) → IsRun no_line asked points
    → StaysWithin (state_behind no_line points)

abbrev pub EachLinkStaysWithin : Type 0
EachLinkStaysWithin =
    (asked : List TrackLine) (points : List Point) → IsRun no_line asked points
    → AreLinksWithin (state_behind no_line points)
