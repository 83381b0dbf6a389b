-- What was answered stays answered, and what is kept of a question is the first answer to it.
use Rattle.std.proofs.Common.{◌≡◌, ℕ, ◌-◌, ◌==◌, ◌&&◌, zero, suc, Bool, true, false, cond, List, [], ◌∷◌, ◌++◌, Option, Some, None, Result, Ok, Err, is_some, option_and_then, slice_get, slice_set, refl, sym, ap, ◌∙◌, arith}
use Rattle.std.proofs.lemmas.Bool.{eqb-true}
use Rattle.std.proofs.lemmas.Bool.Decides.{nat_tests}
use Rattle.hermes_vertical.specs.declared.message.Question.{Question}
use Rattle.supervisory_core.specs.declared.order.Order.{Order}
use Rattle.supervisory_core.specs.declared.error.AnswerError.{AnswerError}
use Rattle.supervisory_core.specs.Orders.{answer_kept, answer_at, answer_of, answer_to, answered, is_full, open_order, order_numbered}
use Rattle.supervisory_core.specs.Calls.{Call, asks, answers, after, after_answer, after_all, first_answer, given_by, or_else}
use Rattle.supervisory_core.proofs.Counting.{is_open, answered_is}

abbrev answer_in : Option Order → Option (List ℕ)
answer_in order = option_and_then (λ o. o.answer) order

or_none : (a : Option (List ℕ)) → a ≡ or_else a None
or_none None = refl
or_none (Some text) = refl

or_grouped : (a b c : Option (List ℕ)) → or_else (or_else a b) c ≡ or_else a (or_else b c)
or_grouped None b c = refl
or_grouped (Some text) b c = refl

kept_by : (now before given : Option (List ℕ)) (text : List ℕ) → now ≡ or_else before given → before ≡ Some text → now ≡ Some text
kept_by now before given text e d = e ∙ ap (λ (o : Option (List ℕ)). or_else o given) d

-- ---- a question more

same_behind : (orders : List Order) (question : Question) (place : ℕ) → answer_in (slice_get (orders ++ open_order question ∷ []) place) ≡ answer_in (slice_get orders place)
same_behind [] question zero = refl
same_behind [] question (suc place) = refl
same_behind (first ∷ orders) question zero = refl
same_behind (first ∷ orders) question (suc place) = same_behind orders question place

asked_by : (orders : List Order) (question : Question) (query : ℕ) (b : Bool)
    → answer_in (cond b None (slice_get (orders ++ open_order question ∷ []) (query - 1))) ≡ answer_in (cond b None (slice_get orders (query - 1)))
asked_by orders question query true = refl
asked_by orders question query false = same_behind orders question (query - 1)

answer_to-asked : (orders : List Order) (question : Question) (query : ℕ) → answer_to (orders ++ open_order question ∷ []) query ≡ answer_to orders query
answer_to-asked orders question query = asked_by orders question query (query == 0)

-- a question more leaves what was answered
pub kept_asking : (orders after_it : List Order) (question : Question) → after_it ≡ orders ++ open_order question ∷ []
    → (query : ℕ) (text : List ℕ) → answer_to orders query ≡ Some text → answer_to after_it query ≡ Some text
kept_asking orders after_it question same query text e = ap (λ (os : List Order). answer_to os query) same ∙ answer_to-asked orders question query ∙ e

-- ---- an answer more

elsewhere : (orders : List Order) (place other : ℕ) (order : Order) → (place == other) ≡ false → slice_get (slice_set orders place order) other ≡ slice_get orders other
elsewhere [] place other order e = refl
elsewhere (first ∷ orders) zero zero order e = absurd cc
elsewhere (first ∷ orders) zero (suc other) order e = refl
elsewhere (first ∷ orders) (suc place) zero order e = refl
elsewhere (first ∷ orders) (suc place) (suc other) order e = elsewhere orders place other order (let h : (place == other) ≡ false = grind (arith, nat_tests) in h)

there : (orders : List Order) (place : ℕ) (old order : Order) → slice_get orders place ≡ Some old → slice_get (slice_set orders place order) place ≡ Some order
there [] place old order e = absurd cc
there (first ∷ orders) zero old order e = refl
there (first ∷ orders) (suc place) old order e = there orders place old order e

pub now_answered : (orders : List Order) (query : ℕ) (text : List ℕ) → answer_of orders query ≡ Ok tt → answer_to (answered orders query text) query ≡ Some text
now_answered orders query text e =
    let w = is_open orders query e in
    ap (λ (os : List Order). answer_to os query) (answered_is orders query text w)
    ∙ ap (λ (b : Bool). answer_in (cond b None (slice_get (slice_set orders (query - 1) (record w.order { answer = Some text })) (query - 1)))) w.counted
    ∙ ap answer_in (there orders (query - 1) w.order (record w.order { answer = Some text }) w.placed)

other_by : (orders : List Order) (number query : ℕ) (order : Order) (b : Bool) → (query == 0) ≡ b → (number == 0) ≡ false → (number == query) ≡ false
    → answer_in (cond b None (slice_get (slice_set orders (number - 1) order) (query - 1))) ≡ answer_in (cond b None (slice_get orders (query - 1)))
other_by orders number query order true is some other = refl
other_by orders number query order false is some other =
    let apart : (number - 1 == query - 1) ≡ false = grind (arith, nat_tests) in
    ap answer_in (elsewhere orders (number - 1) (query - 1) order apart)

pub other_answered : (orders : List Order) (number query : ℕ) (text : List ℕ) → answer_of orders number ≡ Ok tt → (number == query) ≡ false → answer_to (answered orders number text) query ≡ answer_to orders query
other_answered orders number query text e other =
    let w = is_open orders number e in
    ap (λ (os : List Order). answer_to os query) (answered_is orders number text w)
    ∙ other_by orders number query (record w.order { answer = Some text }) (query == 0) refl w.counted other

-- what is answered to an answer, beside what was kept

err_kept : (query : ℕ) (text : List ℕ) (answer : Option (List ℕ)) (error : AnswerError) → answer_kept query answer ≡ Err error → answer ≡ or_else answer (Some text)
err_kept query text None error e = absurd cc
err_kept query text (Some old) error e = refl

err_at : (query : ℕ) (text : List ℕ) (found : Option Order) (error : AnswerError) → answer_at query found ≡ Err error → answer_in found ≡ or_else (answer_in found) (cond (is_some found) (Some text) None)
err_at query text None error e = refl
err_at query text (Some order) error e = err_kept query text order.answer error e

ok_kept : (query : ℕ) (text : List ℕ) (answer : Option (List ℕ)) → answer_kept query answer ≡ Ok tt → Some text ≡ or_else answer (Some text)
ok_kept query text None e = refl
ok_kept query text (Some old) e = absurd cc

ok_at : (query : ℕ) (text : List ℕ) (found : Option Order) → answer_at query found ≡ Ok tt → Some text ≡ or_else (answer_in found) (cond (is_some found) (Some text) None)
ok_at query text None e = absurd cc
ok_at query text (Some order) e = ok_kept query text order.answer e

by_answer : (orders : List Order) (number query : ℕ) (text : List ℕ) (b : Bool) (r : Result (Unit {0}) AnswerError) → (number == query) ≡ b → answer_of orders number ≡ r
    → answer_to (after_answer orders number text r) query ≡ or_else (answer_to orders query) (cond (b && is_some (order_numbered orders query)) (Some text) None)
by_answer orders number query text false (Ok u) is e = other_answered orders number query text e is ∙ or_none (answer_to orders query)
by_answer orders number query text false (Err error) is e = or_none (answer_to orders query)
by_answer orders number query text true (Ok u) is e =
    let same : number ≡ query = eqb-true number query is in
    let here : answer_of orders query ≡ Ok tt = ap (answer_of orders) (sym same) ∙ e in
    ap (λ (n : ℕ). answer_to (answered orders n text) query) same ∙ now_answered orders query text here ∙ ok_at query text (order_numbered orders query) here
by_answer orders number query text true (Err error) is e =
    let same : number ≡ query = eqb-true number query is in
    err_at query text (order_numbered orders query) error (ap (answer_of orders) (sym same) ∙ e)

-- an answer more leaves what was answered
pub kept_answering : (orders after_it : List Order) (number : ℕ) (text : List ℕ) → answer_of orders number ≡ Ok tt → after_it ≡ answered orders number text
    → (query : ℕ) (old : List ℕ) → answer_to orders query ≡ Some old → answer_to after_it query ≡ Some old
kept_answering orders after_it number text e same query old d =
    ap (λ (os : List Order). answer_to os query) same
    ∙ kept_by (answer_to (answered orders number text) query) (answer_to orders query) _ old (by_answer orders number query text (number == query) (Ok tt) refl e) d

-- ---- any calls

by_question : (orders : List Order) (question : Question) (query : ℕ) (b : Bool) → answer_to (cond b orders (orders ++ open_order question ∷ [])) query ≡ or_else (answer_to orders query) None
by_question orders question query true = or_none (answer_to orders query)
by_question orders question query false = answer_to-asked orders question query ∙ or_none (answer_to orders query)

by_call : (orders : List Order) (call : Call) (query : ℕ) → answer_to (after orders call) query ≡ or_else (answer_to orders query) (given_by orders call query)
by_call orders (asks question) query = by_question orders question query (is_full orders)
by_call orders (answers number text) query = by_answer orders number query text (number == query) (answer_of orders number) refl refl

by_all : (orders : List Order) (calls : List Call) (query : ℕ) → answer_to (after_all orders calls) query ≡ or_else (answer_to orders query) (first_answer orders calls query)
by_all orders [] query = or_none (answer_to orders query)
by_all orders (call ∷ calls) query =
    by_all (after orders call) calls query
    ∙ ap (λ (o : Option (List ℕ)). or_else o (first_answer (after orders call) calls query)) (by_call orders call query)
    ∙ or_grouped (answer_to orders query) (given_by orders call query) (first_answer (after orders call) calls query)

none_kept : (query : ℕ) (b : Bool) → answer_in (cond b None (slice_get [] (query - 1))) ≡ None
none_kept query true = refl
none_kept query false = refl

pub keeps_the_first : (calls : List Call) (query : ℕ) → answer_to (after_all [] calls) query ≡ first_answer [] calls query
keeps_the_first calls query = by_all [] calls query ∙ ap (λ (o : Option (List ℕ)). or_else o (first_answer [] calls query)) (none_kept query (query == 0))
