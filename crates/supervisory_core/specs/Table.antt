-- The table of the supervisory session, row by row. A message that no row names does not stand in
-- the table.
use Rattle.std.specs.Prelude.{ℕ, Bool, true, false, List, Option, Some, None}
use Rattle.line_base.specs.declared.states.Code.{Code}
use Rattle.line_base.specs.declared.states.Severity.{Severity}
use Rattle.hermes_horizontal.specs.declared.message.Ping.TheVariants as pings
use Rattle.hermes_vertical.specs.declared.message.System.{System}
use Rattle.hermes_vertical.specs.declared.message.Vertical.{Vertical}
use Rattle.hermes_vertical.specs.declared.message.Vertical.TheVariants.{SupervisoryServiceDescription, SendWorkOrderInfo, CheckAlive, Notification, Other}
use Rattle.supervisory_core.specs.declared.action.VerticalAction.{VerticalAction}
use Rattle.supervisory_core.specs.declared.action.VerticalAction.TheVariants.{Describe, Pong, Answer, Nothing}
use Rattle.supervisory_core.specs.Row.{SupervisedRow}

abbrev pub to : Bool → VerticalAction → SupervisedRow
to after action = record { after = after; action = action }

pub data IsSupervisedRow : Bool → Vertical → SupervisedRow → Type 0 where
  -- the supervisor describes itself in the handshake, and the session stands
  describes : {system : System}
      → IsSupervisedRow false (SupervisoryServiceDescription system) (to true Describe)
  -- a standing session takes an answer
  takes : {query : ℕ} {order : List ℕ} {batch product : Option (List ℕ)}
      → IsSupervisedRow true (SendWorkOrderInfo query order batch product)
      (to true (Answer query order))
  -- what every connection takes
  pongs : {stands : Bool} {id : Option (List ℕ)}
      → IsSupervisedRow stands (CheckAlive (Some pings.Ask) id) (to stands (Pong id))
  is_answered : {stands : Bool} {id : Option (List ℕ)}
      → IsSupervisedRow stands (CheckAlive (Some pings.Answer) id) (to stands Nothing)
  is_alive : {stands : Bool} {id : Option (List ℕ)}
      → IsSupervisedRow stands (CheckAlive None id) (to stands Nothing)
  is_notified : {stands : Bool} {code : Code} {severity : Severity} {text : List ℕ}
      → IsSupervisedRow stands (Notification code severity text) (to stands Nothing)
  passes_over : {stands : Bool} {name : List ℕ}
      → IsSupervisedRow stands (Other name) (to stands Nothing)
