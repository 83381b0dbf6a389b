-- A question that waits for its answer, and how a question more and an answer more change the number of those that wait.
use Rattle.std.proofs.Common.{◌≡◌, ℕ, ◌+◌, ◌-◌, ◌==◌, ◌≤◌, get_or, length, zero, suc, Bool, true, false, cond, List, [], ◌∷◌, ◌++◌, Option, Some, None, Ok, slice_get, slice_set, refl, ap, sym, ◌∙◌, arith}
use Rattle.std.proofs.lemmas.Bool.{or_parts}
use Rattle.std.proofs.lemmas.Bool.Decides.{nat_tests}
use Rattle.std.proofs.lemmas.Option.{slice_get_read, slice_get_within}
use Rattle.hermes_vertical.specs.declared.message.Question.{Question}
use Rattle.supervisory_core.specs.declared.order.Order.{Order}
use Rattle.supervisory_core.specs.Orders.{IsCounted, answer_at, answer_kept, answer_of, answered, answered_at, is_full, open_of, open_order, order_numbered, unanswered}

-- ---- an open question

pub record IsOpen (orders : List Order) (query : ℕ) : Type 0 where
  pub order : Order
  pub counted : (query == 0) ≡ false
  pub placed : slice_get orders (query - 1) ≡ Some order
  pub waits : order.answer ≡ None

pub no_answer : (query : ℕ) (answer : Option (List ℕ)) → answer_kept query answer ≡ Ok tt → answer ≡ None
no_answer query None e = refl
no_answer query (Some text) e = absurd cc

open_at : (orders : List Order) (query : ℕ) (found : Option Order) → (query == 0) ≡ false → slice_get orders (query - 1) ≡ found → answer_at query found ≡ Ok tt → IsOpen orders query
open_at orders query None counted at e = absurd cc
open_at orders query (Some order) counted at e = record { order = order; counted = counted; placed = at; waits = no_answer query order.answer e }

open_by : (orders : List Order) (query : ℕ) (b : Bool) → (query == 0) ≡ b → answer_at query (cond b None (slice_get orders (query - 1))) ≡ Ok tt → IsOpen orders query
open_by orders query true is e = absurd cc
open_by orders query false is e = open_at orders query (slice_get orders (query - 1)) is refl e

pub is_open : (orders : List Order) (query : ℕ) → answer_of orders query ≡ Ok tt → IsOpen orders query
is_open orders query e = open_by orders query (query == 0) refl e

pub numbered : (orders : List Order) (query : ℕ) (w : IsOpen orders query) → order_numbered orders query ≡ Some w.order
numbered orders query w = ap (λ (b : Bool). cond b None (slice_get orders (query - 1))) w.counted ∙ w.placed

pub answered_is : (orders : List Order) (query : ℕ) (text : List ℕ) (w : IsOpen orders query) → answered orders query text ≡ slice_set orders (query - 1) (record w.order { answer = Some text })
answered_is orders query text w = ap (answered_at orders (query - 1) text) (numbered orders query w)

-- ---- counts

pub unanswered-append : (orders : List Order) (question : Question) → unanswered (orders ++ open_order question ∷ []) ≡ unanswered orders + 1
unanswered-append [] question = refl
unanswered-append (order ∷ orders) question = let behind = unanswered-append orders question in omega (arith, behind)

unanswered-set : (orders : List Order) (place : ℕ) (order : Order) (text : List ℕ) → slice_get orders place ≡ Some order → order.answer ≡ None
    → unanswered (slice_set orders place (record order { answer = Some text })) + 1 ≡ unanswered orders
unanswered-set [] place order text at waits = absurd cc
unanswered-set (first ∷ orders) zero order text at waits =
    let same : first.answer ≡ None = cc in
    let one : open_of first.answer ≡ 1 = ap open_of same in
    omega (arith, one)
unanswered-set (first ∷ orders) (suc place) order text at waits =
    let behind = unanswered-set orders place order text at waits in omega (arith, behind)

-- ---- the code's own words: the order that was found at the place

same_some : (a b : Order) (found : Option Order) → found ≡ Some a → found ≡ Some b → a ≡ b
same_some a b found e d = cc

found_is : (orders : List Order) (query : ℕ) (found : Order) (w : IsOpen orders query) → slice_get orders (query - 1) ≡ Some found → w.order ≡ found
found_is orders query found w at = same_some w.order found (slice_get orders (query - 1)) w.placed at

found_at : (orders : List Order) (query : ℕ) (found : Order) → answer_of orders query ≡ Ok tt → found ≡ get_or orders (query - 1) found → slice_get orders (query - 1) ≡ Some found
found_at orders query found e at =
    let w = is_open orders query e in
    slice_get_read orders (length orders) (query - 1) found refl (slice_get_within orders (query - 1) w.order w.placed) at

pub kept_as : (orders : List Order) (query : ℕ) (text : List ℕ) (found : Order) → answer_of orders query ≡ Ok tt → found ≡ get_or orders (query - 1) found
    → slice_set orders (query - 1) (record { question = found.question; answer = Some text }) ≡ answered orders query text
kept_as orders query text found e at =
    let w = is_open orders query e in
    sym (answered_is orders query text w ∙ ap (λ (o : Order). slice_set orders (query - 1) (record o { answer = Some text })) (found_is orders query found w (found_at orders query found e at)))

answer_counted : (orders : List Order) (query : ℕ) (text : List ℕ) → answer_of orders query ≡ Ok tt → unanswered (answered orders query text) + 1 ≡ unanswered orders
answer_counted orders query text e =
    let w = is_open orders query e in
    ap (λ (os : List Order). unanswered os + 1) (answered_is orders query text w) ∙ unanswered-set orders (query - 1) w.order text w.placed w.waits

pub some_wait : (orders : List Order) (query count : ℕ) → answer_of orders query ≡ Ok tt → IsCounted orders count → 1 ≤ count
some_wait orders query count e h = let c = answer_counted orders query [] e in let d = h.counted in omega (arith, c, d)

pub fewer_wait : (orders : List Order) (query count : ℕ) (text : List ℕ) (after : List Order) → answer_of orders query ≡ Ok tt → IsCounted orders count → after ≡ answered orders query text → IsCounted after (count - 1)
fewer_wait orders query count text after e h same =
    let c = answer_counted orders query text e in
    let d = h.counted in
    let b = h.bounded in
    let s : unanswered after ≡ unanswered (answered orders query text) = ap unanswered same in
    record { counted = omega (arith, c, d, s); bounded = omega (arith, b) }

room_left : (orders : List Order) (count : ℕ) → is_full orders ≡ false → IsCounted orders count → count + 1 ≤ 256
room_left orders count e h =
    let p = or_parts (unanswered orders == 256) (length orders == 18446744073709551615) e in
    let few : (unanswered orders == 256) ≡ false = p.0 in
    let c = h.counted in
    let b = h.bounded in
    grind (arith, nat_tests)

pub more_wait : (orders : List Order) (question : Question) (count : ℕ) (after : List Order) → is_full orders ≡ false → IsCounted orders count → after ≡ orders ++ open_order question ∷ [] → IsCounted after (count + 1)
more_wait orders question count after room h same =
    let c = unanswered-append orders question in
    let d = h.counted in
    let s : unanswered after ≡ unanswered (orders ++ open_order question ∷ []) = ap unanswered same in
    record { counted = omega (arith, c, d, s); bounded = room_left orders count room h }
