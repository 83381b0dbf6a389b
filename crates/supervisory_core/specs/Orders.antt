-- The work orders that a machine asked for: the list of the questions, each with its first answer,
-- or none.
use Rattle.std.specs.Prelude.{◌≡◌, ◌≤◌, ℕ, ◌+◌, ◌-◌, ◌==◌, ◌||◌, Bool, if◌then◌else◌, List, [], ◌∷◌, Option, Some, None, Result, Ok, Err, length, option_and_then, slice_get, slice_set}
use Rattle.hermes_vertical.specs.declared.message.Question.{Question}
use Rattle.supervisory_core.specs.declared.order.Order.{Order}
use Rattle.supervisory_core.specs.declared.error.AskError.{AskError}
use Rattle.supervisory_core.specs.declared.error.AskError.TheVariants as ask_errors
use Rattle.supervisory_core.specs.declared.error.AnswerError.{AnswerError}
use Rattle.supervisory_core.specs.declared.error.AnswerError.TheVariants as answer_errors

-- a question as it is asked
abbrev pub open_order : Question → Order
open_order question = record { question = question; answer = None }

-- ---- numbers

-- the question of this number; numbers count from 1
abbrev pub order_numbered : List Order → ℕ → Option Order
order_numbered orders query = if query == 0 then None else slice_get orders (query - 1)

-- the answer that is kept of the question of this number
abbrev pub answer_to : List Order → ℕ → Option (List ℕ)
answer_to orders query = option_and_then (λ order. order.answer) (order_numbered orders query)

-- ---- open questions

abbrev pub open_of : Option (List ℕ) → ℕ
open_of None = 1
open_of (Some text) = 0

-- how many questions have no answer
abbrev pub unanswered : List Order → ℕ
unanswered [] = 0
unanswered (order ∷ orders) = open_of order.answer + unanswered orders

-- so many questions may be open
abbrev pub most_open : ℕ
most_open = 256

-- no further question is taken: 256 are open, or the last number is the largest of 64 bits
abbrev pub is_full : List Order → Bool
is_full orders = unanswered orders == 256 || length orders == 18446744073709551615

-- the number of open questions, of which there are never more than 256
pub record IsCounted (orders : List Order) (count : ℕ) : Type 0 where
  pub counted : count ≡ unanswered orders
  pub bounded : count ≤ 256

-- ---- what is answered to a question

-- its number, or that no question is taken
abbrev pub ask_of : List Order → Result ℕ AskError
ask_of orders = if is_full orders then Err ask_errors.QueriesFull else Ok (length orders + 1)

-- the wanted answer, or want of memory where a question is taken
abbrev pub Asks : Result ℕ AskError → Result ℕ AskError → Type 0
Asks (Ok number) wanted = wanted ≡ Ok number
Asks (Err ask_errors.QueriesFull) wanted = wanted ≡ Err ask_errors.QueriesFull
Asks (Err ask_errors.Memory) wanted = (number : ℕ) × (wanted ≡ Ok number)

-- ---- what is answered to an answer

abbrev pub answer_kept : ℕ → Option (List ℕ) → Result (Unit {0}) AnswerError
answer_kept query None = Ok tt
answer_kept query (Some text) = Err (answer_errors.Answered query)

abbrev pub answer_at : ℕ → Option Order → Result (Unit {0}) AnswerError
answer_at query None = Err (answer_errors.Unknown query)
answer_at query (Some order) = answer_kept query order.answer

-- it is taken where the question of this number is open
abbrev pub answer_of : List Order → ℕ → Result (Unit {0}) AnswerError
answer_of orders query = answer_at query (order_numbered orders query)

abbrev pub answered_at : List Order → ℕ → List ℕ → Option Order → List Order
answered_at orders place text None = orders
answered_at orders place text (Some order) =
    slice_set orders place (record order { answer = Some text })

-- with this answer to the question of this number
abbrev pub answered : List Order → ℕ → List ℕ → List Order
answered orders query text = answered_at orders (query - 1) text (order_numbered orders query)
