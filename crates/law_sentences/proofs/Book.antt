-- What a question more, and an answer more, make of the answers that a book keeps.
use Rattle.std.proofs.Common.{
  ◌≡◌,
  ◌∙◌,
  ℕ,
  ◌-◌,
  ◌==◌,
  ◌++◌,
  zero,
  suc,
  Bool,
  true,
  false,
  cond,
  List,
  [],
  ◌∷◌,
  Option,
  Some,
  None,
  Ok,
  is_some,
  option_and_then,
  slice_get,
  slice_set,
  refl,
  ap,
  arith,
}
use Rattle.hermes_vertical.specs.declared.message.Question.{Question}
use Rattle.supervisory_core.specs.declared.order.Order.{Order}
use Rattle.supervisory_core.specs.Calls.{after, asks}
use Rattle.supervisory_core.specs.Orders.{
  answer_at,
  answer_kept,
  answer_of,
  answer_to,
  answered,
  is_full,
  open_order,
  order_numbered,
}
use Rattle.supervisory_core.proofs.Counting.{no_answer}

abbrev answer_in : Option Order → Option (List ℕ)
answer_in found = option_and_then (λ order. order.answer) found

-- ---- a question more

same_behind : (orders : List Order) (question : Question) (place : ℕ)
    → answer_in (slice_get (orders ++ open_order question ∷ []) place)
    ≡ answer_in (slice_get orders place)
same_behind [] question zero = refl
same_behind [] question (suc place) = refl
same_behind (first ∷ orders) question zero = refl
same_behind (first ∷ orders) question (suc place) = same_behind orders question place

same_numbered : (zeroth : Bool) (orders : List Order) (question : Question) (place : ℕ)
    → answer_in (cond zeroth None (slice_get (orders ++ open_order question ∷ []) place))
    ≡ answer_in (cond zeroth None (slice_get orders place))
same_numbered true orders question place = refl
same_numbered false orders question place = same_behind orders question place

same_asked : (full : Bool) (orders : List Order) (question : Question) (query : ℕ)
    → answer_to (cond full orders (orders ++ open_order question ∷ [])) query
    ≡ answer_to orders query
same_asked true orders question query = refl
same_asked false orders question query = same_numbered (query == 0) orders question (query - 1)

-- leaves all answers
pub asking_keeps : (orders : List Order) (question : Question) (query : ℕ)
    → answer_to (after orders (asks question)) query ≡ answer_to orders query
asking_keeps orders question query = same_asked (is_full orders) orders question query

-- ---- an answer more

-- ---- what is answered was asked, and had no answer

open_at : (query : ℕ) (found : Option Order) → answer_at query found ≡ Ok tt
    → (is_some found ≡ true) × (answer_in found ≡ None)
open_at query None taken = absurd cc
open_at query (Some order) taken = (refl, no_answer query order.answer taken)

pub was_open : (orders : List Order) (query : ℕ) → answer_of orders query ≡ Ok tt
    → (is_some (order_numbered orders query) ≡ true) × (answer_to orders query ≡ None)
was_open orders query taken = open_at query (order_numbered orders query) taken
