-- The table of the supervisory session at a machine, as a plain program.
use Rattle.std.specs.Prelude.{ℕ, Bool, true, false, List, Option, Some, None}
use Rattle.hermes_horizontal.specs.declared.message.Ping.{Ping}
use Rattle.hermes_horizontal.specs.declared.message.Ping.TheVariants as pings
use Rattle.hermes_vertical.specs.declared.message.Vertical.{Vertical}
use Rattle.hermes_vertical.specs.declared.message.Vertical.TheVariants as bodies
use Rattle.supervisory_core.specs.declared.action.VerticalAction.{VerticalAction}
use Rattle.supervisory_core.specs.declared.action.VerticalAction.TheVariants as acts

-- what a row says: whether the session stands after the message, and what is to be done
pub record SupervisedRow : Type 0 where
  pub after : Bool
  pub action : VerticalAction

abbrev pub row : Bool → VerticalAction → Option SupervisedRow
row after action = Some (record { after = after; action = action })

-- a ping is answered with its Id
abbrev pub alive_action : Option Ping → Option (List ℕ) → VerticalAction
alive_action (Some pings.Ask) id = acts.Pong id
alive_action _ id = acts.Nothing

-- the supervisor describes itself once
abbrev pub described_row : Bool → Option SupervisedRow
described_row false = row true acts.Describe
described_row true = None

-- an answer is taken by a session that stands
abbrev pub order_row : Bool → ℕ → List ℕ → Option SupervisedRow
order_row true query order = row true (acts.Answer query order)
order_row false query order = None

-- what a message does to a session that stands or not, or that there is no row for it
abbrev pub supervised_row : Bool → Vertical → Option SupervisedRow
supervised_row stands (bodies.SupervisoryServiceDescription system) = described_row stands
supervised_row stands (bodies.SendWorkOrderInfo query order batch product) =
    order_row stands query order
supervised_row stands (bodies.CheckAlive ping id) = row stands (alive_action ping id)
supervised_row stands (bodies.Notification code severity text) = row stands acts.Nothing
supervised_row stands (bodies.Other name) = row stands acts.Nothing
supervised_row stands (bodies.BoardArrived passage) = None
supervised_row stands (bodies.BoardDeparted passage) = None
supervised_row stands (bodies.QueryWorkOrderInfo query question) = None
