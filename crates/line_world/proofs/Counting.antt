-- What a change at one machine, or of a move, does to the count of boards.
use Rattle.std.proofs.Common.{◌≡◌, ◌∙◌, ℕ, suc, ◌+◌, ◌<◌, ◌≤◌, List, [], ◌∷◌, ◌++◌, length, get_or, take, drop, refl, sym, ap, arith, append_assoc, length-append, length-set, drop-cons}
use Rattle.std.specs.Prelude.{slice_set, remove}
use Rattle.std.proofs.lemmas.List.{take-append-drop}
use Rattle.line_world.specs.declared.board.Board.{Board}
use Rattle.line_world.specs.declared.gap.AtGap.{AtGap}
use Rattle.line_world.specs.FloorPlan.{AtMachine, empty_machine, free_gap}
use Rattle.line_world.specs.Boards.{LosesBoard, boards_along}
use Rattle.line_world.specs.Counted.{IsCounted}
use Rattle.line_world.proofs.Along.{machine_hole, along_at, along_more, length_along-set, along-set_gap, along-set_machine}

pub length_lost : {old new : List Board} {board : Board} → LosesBoard old new board → length old ≡ length new + 1
length_lost {old} {new} {board} loss =
    rw (loss.before, loss.after) (simp length-append (omega arith))

pub counted_set : (machines : List AtMachine) (gaps : List AtGap) (count i : ℕ) (machine was : AtMachine) (now : ℕ) → IsCounted machines gaps count → i < length machines → was ≡ get_or machines i was → now + length was.boards ≡ count + length machine.boards → IsCounted (slice_set machines i machine) gaps now
counted_set machines gaps count i machine was now counted h is more =
    let there = length_along-set machines gaps i machine was h in
    let same : length was.boards ≡ length (get_or machines i was).boards = ap (λ (m : AtMachine). length m.boards) is in
    record {
      whole = rw length-set counted.whole;
      all = omega (arith, counted.all, there, same, more);
    }

pub counted_set_gap : (machines : List AtMachine) (gaps : List AtGap) (count i : ℕ) (gap was : AtGap) → IsCounted machines gaps count → was ≡ get_or gaps i was → gap.lies ≡ was.lies → IsCounted machines (slice_set gaps i gap) count
counted_set_gap machines gaps count i gap was counted is same =
    let lies : gap.lies ≡ (get_or gaps i was).lies = same ∙ ap (λ (g : AtGap). g.lies) is in
    record {
      whole = rw length-set counted.whole;
      all = rw (along-set_gap machines gaps i gap was lies) counted.all;
    }

-- what leaves a gap's board, or a machine's boards, as they were leaves those of the line
pub along_same_gap : (machines : List AtMachine) (gaps : List AtGap) (i : ℕ) (gap was : AtGap) → was ≡ get_or gaps i was → gap.lies ≡ was.lies → boards_along machines (slice_set gaps i gap) ≡ boards_along machines gaps
along_same_gap machines gaps i gap was is same = along-set_gap machines gaps i gap was (same ∙ ap (λ (g : AtGap). g.lies) is)

pub along_same_machine : (machines : List AtMachine) (gaps : List AtGap) (i : ℕ) (machine was : AtMachine) → was ≡ get_or machines i was → machine.boards ≡ was.boards → boards_along (slice_set machines i machine) gaps ≡ boards_along machines gaps
along_same_machine machines gaps i machine was is same = along-set_machine machines gaps i machine was (same ∙ ap (λ (m : AtMachine). m.boards) is)

pub counted_within : (machines : List AtMachine) (gaps : List AtGap) (count i : ℕ) (was : AtMachine) → IsCounted machines gaps count → i < length machines → was ≡ get_or machines i was → length was.boards ≤ count
counted_within machines gaps count i was counted h is =
    let there = length_along-set machines gaps i was was h in
    let same : length was.boards ≡ length (get_or machines i was).boards = ap (λ (m : AtMachine). length m.boards) is in
    let hole = machine_hole machines gaps i h in
    let all : length (boards_along machines gaps) ≡ length hole.front + (length (get_or machines i was).boards + length hole.back) = rw (along_at machines gaps i was hole) (simp length-append refl) in
    omega (arith, counted.all, same, all)

-- a board that a machine loses is lost along the line, in its place
pub along_loses : (machines : List AtMachine) (gaps : List AtGap) (i : ℕ) (machine was : AtMachine) (board : Board) → i < length machines → was ≡ get_or machines i was → LosesBoard was.boards machine.boards board → LosesBoard (boards_along machines gaps) (boards_along (slice_set machines i machine) gaps) board
along_loses machines gaps i machine was board h is loss =
    let hole = machine_hole machines gaps i h in
    let old : boards_along machines gaps ≡ hole.front ++ (was.boards ++ hole.back) = rw (along_at machines gaps i was hole, ← is) refl in
    record {
      front = hole.front ++ loss.front;
      back = loss.back ++ hole.back;
      before = rw (old, loss.before) (simp append_assoc);
      after = rw (hole.filled machine, loss.after) (simp append_assoc);
    }

-- and one that it gains is gained
pub along_gains : (machines : List AtMachine) (gaps : List AtGap) (i : ℕ) (machine was : AtMachine) (board : Board) → i < length machines → was ≡ get_or machines i was → LosesBoard machine.boards was.boards board → LosesBoard (boards_along (slice_set machines i machine) gaps) (boards_along machines gaps) board
along_gains machines gaps i machine was board h is loss =
    let hole = machine_hole machines gaps i h in
    let old : boards_along machines gaps ≡ hole.front ++ (was.boards ++ hole.back) = rw (along_at machines gaps i was hole, ← is) refl in
    record {
      front = hole.front ++ loss.front;
      back = loss.back ++ hole.back;
      before = rw (hole.filled machine, loss.before) (simp append_assoc);
      after = rw (old, loss.after) (simp append_assoc);
    }

pub remove_loses : (boards : List Board) (i : ℕ) (board : Board) → i < length boards → board ≡ get_or boards i board → LosesBoard boards (remove boards i) board
remove_loses boards i board h is =
    record {
      front = take i boards;
      back = drop (suc i) boards;
      before = sym (take-append-drop i boards) ∙ ap (λ rest. take i boards ++ rest) (drop-cons boards i board h ∙ ap (λ b. b ∷ drop (suc i) boards) (sym is));
      after = refl;
    }

pub counted_more : (machines : List AtMachine) (gaps : List AtGap) (count : ℕ) → IsCounted machines gaps count → 0 < length machines → IsCounted (machines ++ empty_machine ∷ []) (gaps ++ free_gap ∷ []) count
counted_more machines gaps count counted some =
    let more = along_more machines gaps (omega (arith, counted.whole, some)) in
    record {
      whole = simp length-append (omega (arith, counted.whole, some));
      all = rw more counted.all;
    }
