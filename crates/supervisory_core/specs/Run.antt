-- A supervisory session after any messages.
use Rattle.std.specs.Prelude.{Bool, true, false, List, [], ◌∷◌, Option, Some, None}
use Rattle.hermes_vertical.specs.declared.message.Vertical.{Vertical}
use Rattle.hermes_vertical.specs.declared.message.Vertical.TheVariants as bodies
use Rattle.supervisory_core.specs.Row.{SupervisedRow, supervised_row}

abbrev pub after_row : Bool → Option SupervisedRow → Bool
after_row stands (Some row) = row.after
after_row stands None = stands

-- whether it stands after these messages; one without a row leaves it as it was
abbrev pub stands_after : Bool → List Vertical → Bool
stands_after stands [] = stands
stands_after stands (message ∷ messages) =
    stands_after (after_row stands (supervised_row stands message)) messages

abbrev pub is_description : Vertical → Bool
is_description (bodies.SupervisoryServiceDescription system) = true
is_description (bodies.SendWorkOrderInfo query order batch product) = false
is_description (bodies.CheckAlive ping id) = false
is_description (bodies.Notification code severity text) = false
is_description (bodies.Other name) = false
is_description (bodies.BoardArrived passage) = false
is_description (bodies.BoardDeparted passage) = false
is_description (bodies.QueryWorkOrderInfo query question) = false
