-- A move on the floor by one around its gap.
use Rattle.std.proofs.Common.{◌≡◌, ◌∙◌, ℕ, ◌+◌, ◌-◌, ◌<◌, ◌≤◌, ◌++◌, List, length, get_or, refl, sym, ap, subst, arith, length-append, length-set}
use Rattle.std.specs.Prelude.{Result, Ok, Err, IsOk, slice_set}
use Rattle.std.proofs.lemmas.List.{get_or_default, get_or_append_left, get_or-append_right, set-append_left, set-append_right}
use Rattle.line_world.specs.declared.gap.AtGap.{AtGap}
use Rattle.line_world.specs.declared.moves.Move.{Move}
use Rattle.line_world.specs.declared.moves.MoveNo.{MoveNo}
use Rattle.line_world.specs.declared.moves.MoveError.{MoveError}
use Rattle.line_world.specs.declared.moves.MoveError.TheVariants as errors
use Rattle.line_world.specs.FloorPlan.{AtMachine, FloorPlan, IsGap, IsWhole, empty_machine, free_gap}
use Rattle.line_world.specs.Moves.{Answers, AnswersAround, AnswersFloor, Around, around_move, around_of, floor_after, floor_move, with_around}
use Rattle.line_world.proofs.Keeping.{around_there, has_gap_of, with_around_same}

floor_move_at : (gap : ℕ) (step : Move) (plan : FloorPlan) → IsGap plan gap → floor_move gap step plan ≡ floor_after plan gap (around_move step (around_of plan gap))
floor_move_at gap step plan is = rw (has_gap_of plan gap is) refl

floor_after_ok : (plan : FloorPlan) (gap : ℕ) (answer : Result Around MoveNo) → IsOk answer → IsOk (floor_after plan gap answer)
floor_after_ok plan gap (Ok around) h = h
floor_after_ok plan gap (Err why) h = h

-- what a call of a move around a gap answers, it answers for the floor
pub answers_floor : (gap : ℕ) (step : Move) (plan : FloorPlan) (after : Around) (result : Result (Unit {0}) MoveError) → IsGap plan gap → Answers (around_move step (around_of plan gap)) (around_of plan gap) after result → AnswersFloor gap step plan (with_around plan gap after) result
answers_floor gap step plan after (Ok _) is h = floor_move_at gap step plan is ∙ ap (floor_after plan gap) h
answers_floor gap step plan after (Err (errors.No why)) is h = (floor_move_at gap step plan is ∙ ap (floor_after plan gap) h.0, ap (with_around plan gap) h.1 ∙ with_around_same plan gap is.counted)
answers_floor gap step plan after (Err errors.Memory) is h = (rw (floor_move_at gap step plan is) (floor_after_ok plan gap _ h.0), ap (with_around plan gap) h.1 ∙ with_around_same plan gap is.counted)

-- the machines on either side, set where the list was split behind the upstream one
split_set : (front back : List AtMachine) (gap : ℕ) (up down : AtMachine) → 1 ≤ gap → length front ≡ gap → slice_set (slice_set (front ++ back) (gap - 1) up) (gap + 1 - 1) down ≡ slice_set front (gap - 1) up ++ slice_set back 0 down
split_set front back gap up down counted h =
    let here : gap - 1 < length front = omega (arith, counted, h) in
    let long : length (slice_set front (gap - 1) up) ≡ gap = simp length-set h in
    let none : gap + 1 - 1 - gap ≡ 0 = omega arith in
    rw (set-append_left front back (gap - 1) up here, set-append_right (slice_set front (gap - 1) up) back gap (gap + 1 - 1) down long (omega arith)) (rw none refl)

-- a move around a gap, where the machines stand in two lists that are parted at the gap
pub joined : (front back : List AtMachine) (gaps : List AtGap) (gap : ℕ) (step : Move) (above : AtMachine) (between : AtGap) (below : AtMachine) (up down : AtMachine) (now : AtGap) (result : Result (Unit {0}) MoveError) → IsGap (record { machines = front ++ back; gaps = gaps }) gap → IsWhole (record { machines = front ++ back; gaps = gaps }) → length front ≡ gap → AnswersAround step (get_or front (gap - 1) above) (get_or gaps (gap - 1) between) (get_or back 0 below) up now down result → AnswersFloor gap step (record { machines = front ++ back; gaps = gaps }) (record { machines = slice_set front (gap - 1) up ++ slice_set back 0 down; gaps = slice_set gaps (gap - 1) now }) result
joined front back gaps gap step above between below up down now result is whole long h =
    let all : length (front ++ back) ≡ length front + length back = length-append front back in
    let in_front : gap - 1 < length front = omega (arith, is.counted, long) in
    let in_back : 0 < length back = omega (arith, is.within, long, all) in
    let in_gaps : gap - 1 < length gaps = omega (arith, is.counted, is.within, whole) in
    let none : gap + 1 - 1 - gap ≡ 0 = omega arith in
    let up_is : get_or front (gap - 1) above ≡ get_or (front ++ back) (gap - 1) empty_machine =
    get_or_default front (gap - 1) above empty_machine in_front ∙ sym (get_or_append_left front back empty_machine (gap - 1) in_front) in
    let between_is : get_or gaps (gap - 1) between ≡ get_or gaps (gap - 1) free_gap = get_or_default gaps (gap - 1) between free_gap in_gaps in
    let down_is : get_or back 0 below ≡ get_or (front ++ back) (gap + 1 - 1) empty_machine =
    get_or_default back 0 below empty_machine in_back ∙ ap (λ i. get_or back i empty_machine) (sym none) ∙ sym (get_or-append_right front back gap (gap + 1 - 1) empty_machine long (omega arith)) in
    let plan : FloorPlan = record { machines = front ++ back; gaps = gaps } in
    let after : Around = record { up = up; between = now; down = down } in
    let around = rw (up_is, between_is, down_is) at h in
    let there = around_there plan gap is.counted in
    rw (← split_set front back gap up down is.counted long) (answers_floor gap step plan after result is (let P : Around → Type 0 = λ (a : Around). Answers (around_move step a) a after result in subst P (sym there) around))
