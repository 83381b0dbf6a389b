-- The values of supervisory messages fit their columns, and no row has a name twice.
use Rattle.std.proofs.Common.{◌≡◌, ◌≤◌, true, length, refl, lit≤}
use Rattle.hermes_horizontal.proofs.Again.{columns_apart}
use Rattle.hermes_horizontal.proofs.Fitting.{AreFit, IsOfKind, short, fit_text, fit_ping, fit_severity}
use Rattle.hermes_vertical.specs.declared.kind.VerticalKind.{VerticalKind}
use Rattle.hermes_vertical.specs.declared.kind.VerticalKind.TheVariants as kinds
use Rattle.hermes_vertical.specs.declared.message.Passing.{Passing}
use Rattle.hermes_vertical.specs.declared.message.Passing.TheVariants as passings
use Rattle.hermes_vertical.specs.declared.message.Question.{Question}
use Rattle.hermes_vertical.specs.declared.message.Question.TheVariants as questions
use Rattle.hermes_vertical.specs.declared.message.Vertical.{Vertical}
use Rattle.hermes_vertical.specs.declared.message.Vertical.TheVariants as bodies
use Rattle.hermes_vertical.specs.Rows.{columns_of, question_columns, passing}
use Rattle.hermes_vertical.specs.Parts.{parts, question_parts, kind_of, of_passing}
use Rattle.hermes_vertical.specs.Canonical.{HasShortNumbers, HasShortSlot, HasLongQuery}

fit_passing : (how : Passing) → IsOfKind passing (of_passing how)
fit_passing passings.Transferred = short 1 3 1 refl refl refl
fit_passing passings.Loaded = short 1 3 2 refl refl refl
fit_passing passings.ByHand = short 1 3 3 refl refl refl

fit_question : (question : Question) → HasShortSlot question → AreFit question_columns (question_parts question)
fit_question (questions.Barcode barcode) slot = (tt, (refl, (refl, (refl, tt))))
fit_question (questions.Order order) slot = (refl, (tt, (refl, (refl, tt))))
fit_question (questions.Place magazine number) slot = (refl, (refl, (tt, (slot, tt))))

pub fit_parts : (body : Vertical) → HasShortNumbers body → HasLongQuery body → AreFit (columns_of (kind_of body)) (parts body)
fit_parts (bodies.SupervisoryServiceDescription system) numbers long = (tt, (tt, tt))
fit_parts (bodies.BoardArrived passage) numbers long = (tt, (numbers, (fit_passing passage.how, (tt, tt))))
fit_parts (bodies.BoardDeparted passage) numbers long = (tt, (numbers, (fit_passing passage.how, (tt, tt))))
fit_parts (bodies.QueryWorkOrderInfo query question) numbers long = (long, fit_question question numbers)
fit_parts (bodies.SendWorkOrderInfo query order batch product) numbers long = (long, (tt, (fit_text batch, (fit_text product, tt))))
fit_parts (bodies.CheckAlive ping id) numbers long = (fit_ping ping, (fit_text id, tt))
fit_parts (bodies.Notification code severity text) numbers long = (numbers, (fit_severity severity, (tt, tt)))
fit_parts (bodies.Other name) numbers long = tt

pub rows_apart : (kind : VerticalKind) → columns_apart (columns_of kind) ≡ true
rows_apart kinds.SupervisoryServiceDescription = refl
rows_apart kinds.BoardArrived = refl
rows_apart kinds.BoardDeparted = refl
rows_apart kinds.QueryWorkOrderInfo = refl
rows_apart kinds.SendWorkOrderInfo = refl
rows_apart kinds.CheckAlive = refl
rows_apart kinds.Notification = refl
rows_apart kinds.Other = refl

pub short_rows : (kind : VerticalKind) → length (columns_of kind) ≤ 64
short_rows kinds.SupervisoryServiceDescription = lit≤ tt
short_rows kinds.BoardArrived = lit≤ tt
short_rows kinds.BoardDeparted = lit≤ tt
short_rows kinds.QueryWorkOrderInfo = lit≤ tt
short_rows kinds.SendWorkOrderInfo = lit≤ tt
short_rows kinds.CheckAlive = lit≤ tt
short_rows kinds.Notification = lit≤ tt
short_rows kinds.Other = lit≤ tt
