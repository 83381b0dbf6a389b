-- An order book after any calls, and the first answer to a question.
use Rattle.std.specs.Prelude.{ℕ, ◌==◌, ◌&&◌, if◌then◌else◌, List, [], ◌∷◌, ◌++◌, Option, Some, None, Result, Ok, Err, is_some}
use Rattle.hermes_vertical.specs.declared.message.Question.{Question}
use Rattle.supervisory_core.specs.declared.order.Order.{Order}
use Rattle.supervisory_core.specs.declared.error.AnswerError.{AnswerError}
use Rattle.supervisory_core.specs.Orders.{answer_of, answered, is_full, open_order, order_numbered}

-- a question, and an answer to the question of a number
pub data Call : Type 0 where
  asks : Question → Call
  answers : ℕ → List ℕ → Call

abbrev pub after_answer : List Order → ℕ → List ℕ → Result (Unit {0}) AnswerError → List Order
after_answer orders query text (Ok _) = answered orders query text
after_answer orders query text (Err _) = orders

-- a book after a call that had its memory
abbrev pub after : List Order → Call → List Order
after orders (asks question) =
    if is_full orders then orders else orders ++ open_order question ∷ []
after orders (answers query text) = after_answer orders query text (answer_of orders query)

abbrev pub after_all : List Order → List Call → List Order
after_all orders [] = orders
after_all orders (call ∷ calls) = after_all (after orders call) calls

-- what a call gives as an answer to the question of this number, if it was asked
abbrev pub given_by : List Order → Call → ℕ → Option (List ℕ)
given_by orders (asks question) query = None
given_by orders (answers number text) query =
    if number == query && is_some (order_numbered orders query) then Some text else None

abbrev pub or_else : Option (List ℕ) → Option (List ℕ) → Option (List ℕ)
or_else None later = later
or_else (Some text) later = Some text

-- the first answer that is given to the question of this number once it was asked
abbrev pub first_answer : List Order → List Call → ℕ → Option (List ℕ)
first_answer orders [] query = None
first_answer orders (call ∷ calls) query =
    or_else (given_by orders call query) (first_answer (after orders call) calls query)
