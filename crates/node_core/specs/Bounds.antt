-- What a machine holds at most.
use Rattle.std.specs.Prelude.{◌≤◌, length}
use Rattle.hermes_stream.specs.Frames.{most_bytes}
use Rattle.forecast_query.specs.Forecasts.{most_forecasts}
use Rattle.supervisory_core.specs.Orders.{most_open, unanswered}
use Rattle.node_core.specs.Places.{used}
use Rattle.node_core.specs.Node.{NodeState}

-- the records that it keeps, and those of its open handovers, need no more places than it has; of
-- forecasts, of questions without an answer, and of the undelivered bytes of each side there are
-- no more than the most
pub record IsBounded (s : NodeState) : Type 0 where
  pub places : used s.lane.body ≤ s.capacity
  pub forecasts : length s.forecasts ≤ most_forecasts
  pub questions : unanswered s.orders ≤ most_open
  pub entry : length s.lane.entry_bytes ≤ most_bytes
  pub exit : length s.lane.exit_bytes ≤ most_bytes
