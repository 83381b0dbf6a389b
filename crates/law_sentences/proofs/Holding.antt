-- A machine's step keeps what is beside its records within the limits.
use Rattle.std.proofs.Common.{◌≡◌, ◌∙◌, ◌≤◌, ◌-◌, ◌+◌, ◌++◌, ℕ, zero, suc, Bool, true, false, cond, List, [], ◌∷◌, Option, Some, Ok, Err, Result, length, refl, sym, subst, arith}
use Rattle.std.proofs.lemmas.List.{length-drop}
use Rattle.step_rules.proofs.Once.{closed-stays}
use Rattle.line_base.specs.declared.states.Side.{Side}
use Rattle.line_base.specs.declared.states.Side.TheVariants.{Entry, Exit}
use Rattle.hermes_stream.specs.Frames.{Answer, Frame, NeedMore, TooLong, Frames, most_bytes, answer_of, left_of, joined, frames_within, frames_of}
use Rattle.hermes_stream.proofs.Runs.{wants_more}
use Rattle.hermes_horizontal.specs.declared.message.Info.{Info}
use Rattle.hermes_horizontal.specs.declared.message.Horizontal.{Horizontal}
use Rattle.hermes_horizontal.specs.declared.message.Horizontal.TheVariants as bodies
use Rattle.hermes_vertical.specs.declared.message.Question.{Question}
use Rattle.forecast_query.specs.Forecasts.{last, most_forecasts}
use Rattle.supervisory_core.specs.declared.order.Order.{Order}
use Rattle.supervisory_core.specs.declared.error.AnswerError.{AnswerError}
use Rattle.supervisory_core.specs.Calls.{after_answer}
use Rattle.supervisory_core.specs.Orders.{IsCounted, answered, is_full, most_open, open_order, unanswered}
use Rattle.supervisory_core.specs.Orders.{answer_of as taken_as}
use Rattle.supervisory_core.proofs.Counting.{fewer_wait, more_wait}
use Rattle.node_core.specs.declared.act.Act.{Act}
use Rattle.node_core.specs.declared.act.Act.TheVariants as acts
use Rattle.node_core.specs.declared.input.Input.{Input}
use Rattle.node_core.specs.declared.input.Input.TheVariants as inputs
use Rattle.node_core.specs.declared.lane.Lane.{Lane}
use Rattle.node_core.specs.declared.word.Word.{Word}
use Rattle.node_core.specs.Forecasts.{forecasts_act, forecasts_after, forecasts_heard}
use Rattle.node_core.specs.Sides.{is_open}
use Rattle.node_core.specs.Step.{Brings}
use Rattle.node_core.specs.Supervising.{orders_after}
use Rattle.node_core.specs.Words.{AreAll, AreWords, all_more, all_none}
use Rattle.step_rules.specs.Opened.{open_after, opened_by}

-- ---- forecasts

last_few : (kept : List Info) → length (last most_forecasts kept) ≤ most_forecasts
last_few kept = let dropped = length-drop (length kept - 64) kept in omega (arith, dropped)

heard_few : (kept : List Info) (body : Horizontal) → length kept ≤ most_forecasts → length (forecasts_heard kept body) ≤ most_forecasts
heard_few kept (bodies.BoardForecast info) few = last_few (kept ++ info ∷ [])
heard_few kept _ few = few

act_few : (kept : List Info) (act : Act) → length kept ≤ most_forecasts → length (forecasts_act kept act) ≤ most_forecasts
act_few kept acts.Connects few = omega arith
act_few kept (acts.Hears Entry message) few = heard_few kept message.body few
act_few kept _ few = few

pub forecasts_few : (kept : List Info) (told : List Act) → length kept ≤ most_forecasts → length (forecasts_after kept told) ≤ most_forecasts
forecasts_few kept [] few = few
forecasts_few kept (act ∷ told) few = forecasts_few (forecasts_act kept act) told (act_few kept act few)

-- ---- questions

counted : (orders : List Order) → unanswered orders ≤ 256 → IsCounted orders (unanswered orders)
counted orders few = record { counted = refl; bounded = few }

few_of : (orders : List Order) (count : ℕ) → IsCounted orders count → unanswered orders ≤ most_open
few_of orders count h = let c = h.counted in let b = h.bounded in omega (arith, c, b)

asked_few : (orders : List Order) (question : Question) (full : Bool) → is_full orders ≡ full → unanswered orders ≤ most_open → unanswered (cond full orders (orders ++ open_order question ∷ [])) ≤ most_open
asked_few orders question true is few = few
asked_few orders question false is few =
    few_of (orders ++ open_order question ∷ []) (unanswered orders + 1)
    (more_wait orders question (unanswered orders) (orders ++ open_order question ∷ []) is (counted orders few) refl)

answered_few : (orders : List Order) (query : ℕ) (text : List ℕ) (found : Result (Unit {0}) AnswerError) → taken_as orders query ≡ found → unanswered orders ≤ most_open → unanswered (after_answer orders query text found) ≤ most_open
answered_few orders query text (Ok tt) is few =
    few_of (answered orders query text) (unanswered orders - 1)
    (fewer_wait orders query (unanswered orders) text (answered orders query text) is (counted orders few) refl)
answered_few orders query text (Err why) is few = few

pub orders_few : (input : Input) (orders : List Order) → unanswered orders ≤ most_open → unanswered (orders_after input orders) ≤ most_open
orders_few (inputs.Ask question) orders few = asked_few orders question (is_full orders) refl few
orders_few (inputs.Answer query text) orders few = answered_few orders query text (taken_as orders query) refl few
orders_few _ orders few = few

-- ---- undelivered bytes

rest_short : (answer : Answer) (bytes left : List ℕ) (later : Frames) → answer_of bytes ≡ answer
    → ((rest : List ℕ) → later.rest ≡ Some rest → length rest ≤ most_bytes)
    → (joined answer (left_of bytes) later).rest ≡ Some left → length left ≤ most_bytes
rest_short (Frame message) bytes left later e short is = short left is
rest_short NeedMore bytes left later e short is =
    let same : left_of bytes ≡ left = cc in
    let room = (wants_more bytes e).room in
    subst (λ (l : List ℕ). length l ≤ most_bytes) same (omega (arith, room))
rest_short TooLong bytes left later e short is = cc

within_short : (more : ℕ) (bytes left : List ℕ) → (frames_within more bytes).rest ≡ Some left → length left ≤ most_bytes
unfolding frames_within
within_short zero bytes left is = cc
within_short (suc more) bytes left is =
    rest_short (answer_of bytes) bytes left (frames_within more (left_of bytes)) refl (within_short more (left_of bytes)) is

frames_short : (bytes left : List ℕ) → (frames_of bytes).rest ≡ Some left → length left ≤ most_bytes
unfolding frames_of
frames_short bytes left is = within_short (length bytes + 1) bytes left is

all_rest : {frames : List (List ℕ)} {rest : Option (List ℕ)} {words : List Word} {left : List ℕ} → AreAll frames rest words left → rest ≡ Some left
all_rest all_none = refl
all_rest (all_more means others) = all_rest others

words_short : (old piece new : List ℕ) (still : Bool) (words : List Word) → AreWords old piece new still words → still ≡ true → length new ≤ most_bytes
words_short old piece new still words are is = frames_short (old ++ piece) new (all_rest (are.all is))

-- ---- a side that is open was opened

pub was_open : (side : Side) (opened : Bool) (told : List Act) → open_after side opened told ≡ true → opened ≡ true
was_open side true told is = refl
was_open side false told is = let none = closed-stays side told in cc

abbrev IsShort : List ℕ → Type 0
IsShort bytes = length bytes ≤ most_bytes

pub entry_short : (input : Input) (old new : Lane) (words : List Word) → Brings input old new words
    → (is_open Entry new.body ≡ true → opened_by input Entry (is_open Entry old.body) ≡ true)
    → (is_open Entry old.body ≡ true → length old.entry_bytes ≤ most_bytes)
    → is_open Entry new.body ≡ true → length new.entry_bytes ≤ most_bytes
entry_short (inputs.Bytes Entry piece) old new words brings opened was now = words_short old.entry_bytes piece.now new.entry_bytes (is_open Entry new.body) words brings.0 now
entry_short (inputs.Bytes Exit piece) old new words brings opened was now = subst IsShort (sym brings.1) (was (opened now))
entry_short inputs.Connect old new words brings opened was now = subst IsShort (sym brings.0) (omega arith)
entry_short _ old new words brings opened was now = subst IsShort (sym brings.0) (was (opened now))

pub exit_short : (input : Input) (old new : Lane) (words : List Word) → Brings input old new words
    → (is_open Exit new.body ≡ true → opened_by input Exit (is_open Exit old.body) ≡ true)
    → (is_open Exit old.body ≡ true → length old.exit_bytes ≤ most_bytes)
    → is_open Exit new.body ≡ true → length new.exit_bytes ≤ most_bytes
exit_short (inputs.Bytes Exit piece) old new words brings opened was now = words_short old.exit_bytes piece.now new.exit_bytes (is_open Exit new.body) words brings.0 now
exit_short inputs.Accepted old new words brings opened was now = subst IsShort (sym brings.1) (omega arith)
exit_short _ old new words brings opened was now = subst IsShort (sym brings.1) (was (opened now))
