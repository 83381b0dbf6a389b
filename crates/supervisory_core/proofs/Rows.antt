-- The plain program computes exactly the rows of the table, and a session stands once it was described.
use Rattle.std.proofs.Common.{◌≡◌, ◌↔◌, ◌||◌, Bool, true, false, List, [], ◌∷◌, Option, Some, None, IfSome, refl, ap, subst, ◌∙◌}
use Rattle.std.specs.List.{list_any}
use mathlib.Core.Bool.{or_assoc}
use Rattle.hermes_horizontal.specs.declared.message.Ping.TheVariants as pings
use Rattle.hermes_vertical.specs.declared.message.Vertical.{Vertical}
use Rattle.hermes_vertical.specs.declared.message.Vertical.TheVariants as bodies
use Rattle.supervisory_core.specs.Row.{SupervisedRow, supervised_row}
use Rattle.supervisory_core.specs.Table.{IsSupervisedRow, describes, takes, pongs, is_answered, is_alive, is_notified, passes_over}
use Rattle.supervisory_core.specs.Run.{after_row, stands_after, is_description}

-- each row of the program is one of the table

rows : (stands : Bool) (message : Vertical) → IfSome (supervised_row stands message) (IsSupervisedRow stands message)
rows false (bodies.SupervisoryServiceDescription system) = describes
rows true (bodies.SupervisoryServiceDescription system) = tt
rows true (bodies.SendWorkOrderInfo query order batch product) = takes
rows false (bodies.SendWorkOrderInfo query order batch product) = tt
rows stands (bodies.CheckAlive (Some pings.Ask) id) = pongs
rows stands (bodies.CheckAlive (Some pings.Answer) id) = is_answered
rows stands (bodies.CheckAlive None id) = is_alive
rows stands (bodies.Notification code severity text) = is_notified
rows stands (bodies.Other name) = passes_over
rows stands (bodies.BoardArrived passage) = tt
rows stands (bodies.BoardDeparted passage) = tt
rows stands (bodies.QueryWorkOrderInfo query question) = tt

row_is : (stands : Bool) (message : Vertical) (row : SupervisedRow) → supervised_row stands message ≡ Some row → IsSupervisedRow stands message row
row_is stands message row is = let P : Option SupervisedRow → Type 0 = λ r. IfSome r (IsSupervisedRow stands message) in subst P is (rows stands message)

-- and each row of the table is one of the program

is_computed : (stands : Bool) (message : Vertical) (row : SupervisedRow) → IsSupervisedRow stands message row → supervised_row stands message ≡ Some row
is_computed _ _ _ describes = refl
is_computed _ _ _ takes = refl
is_computed _ _ _ pongs = refl
is_computed _ _ _ is_answered = refl
is_computed _ _ _ is_alive = refl
is_computed _ _ _ is_notified = refl
is_computed _ _ _ passes_over = refl

pub rows_exactly : (stands : Bool) (message : Vertical) (row : SupervisedRow) → (supervised_row stands message ≡ Some row) ↔ IsSupervisedRow stands message row
rows_exactly stands message row = (row_is stands message row, is_computed stands message row)

-- ---- a session after any messages

one_step : (stands : Bool) (message : Vertical) → after_row stands (supervised_row stands message) ≡ (stands || is_description message)
one_step false (bodies.SupervisoryServiceDescription system) = refl
one_step true (bodies.SupervisoryServiceDescription system) = refl
one_step true (bodies.SendWorkOrderInfo query order batch product) = refl
one_step false (bodies.SendWorkOrderInfo query order batch product) = refl
one_step true (bodies.CheckAlive ping id) = refl
one_step false (bodies.CheckAlive ping id) = refl
one_step true (bodies.Notification code severity text) = refl
one_step false (bodies.Notification code severity text) = refl
one_step true (bodies.Other name) = refl
one_step false (bodies.Other name) = refl
one_step true (bodies.BoardArrived passage) = refl
one_step false (bodies.BoardArrived passage) = refl
one_step true (bodies.BoardDeparted passage) = refl
one_step false (bodies.BoardDeparted passage) = refl
one_step true (bodies.QueryWorkOrderInfo query question) = refl
one_step false (bodies.QueryWorkOrderInfo query question) = refl

pub or_false : (a : Bool) → a ≡ (a || false)
or_false true = refl
or_false false = refl

stands_by : (stands : Bool) (messages : List Vertical) → stands_after stands messages ≡ (stands || list_any is_description messages)
stands_by stands [] = or_false stands
stands_by stands (message ∷ messages) =
    ap (λ (b : Bool). stands_after b messages) (one_step stands message) ∙ stands_by (stands || is_description message) messages
    ∙ or_assoc stands (is_description message) (list_any is_description messages)

pub stands_exactly : (messages : List Vertical) → stands_after false messages ≡ list_any is_description messages
stands_exactly messages = stands_by false messages
