-- The boards along the line, with one machine or one gap and its machines changed.
use Rattle.std.proofs.Common.{◌≡◌, ℕ, zero, suc, ◌+◌, ◌<◌, List, [], ◌∷◌, ◌++◌, length, get_or, refl, ap, arith, append_assoc, append-nil, length-append}
use Rattle.std.specs.Prelude.{slice_set}
use Rattle.std.proofs.lemmas.List.{set-get_or}
use Rattle.line_world.specs.declared.board.Board.{Board}
use Rattle.line_world.specs.declared.gap.AtGap.{AtGap}
use Rattle.line_world.specs.FloorPlan.{AtMachine, empty_machine, free_gap}
use Rattle.line_world.specs.Moves.{Around}
use Rattle.line_world.specs.Boards.{boards_along, boards_in}

-- the boards before and behind those of one machine, whatever it has
pub record MachineHole (machines : List AtMachine) (gaps : List AtGap) (i : ℕ) : Type 0 where
  pub front : List Board
  pub back : List Board
  pub filled : (machine : AtMachine) → boards_along (slice_set machines i machine) gaps ≡ front ++ (machine.boards ++ back)

pub machine_hole : (machines : List AtMachine) (gaps : List AtGap) (i : ℕ) → i < length machines → MachineHole machines gaps i
machine_hole [] gaps i h = absurd (omega arith)
machine_hole (x ∷ xs) [] zero h = record { front = boards_along xs []; back = []; filled = λ m. rw append-nil refl }
machine_hole (x ∷ xs) (g ∷ gs) zero h = record { front = boards_along xs gs ++ boards_in g.lies; back = []; filled = λ m. rw append-nil (simp append_assoc) }
machine_hole (x ∷ xs) [] (suc i) h =
    let rest = machine_hole xs [] i (omega arith) in
    record { front = rest.front; back = rest.back ++ x.boards; filled = λ m. rw (rest.filled m) (simp append_assoc) }
machine_hole (x ∷ xs) (g ∷ gs) (suc i) h =
    let rest = machine_hole xs gs i (omega arith) in
    record { front = rest.front; back = rest.back ++ (boards_in g.lies ++ x.boards); filled = λ m. rw (rest.filled m) (simp append_assoc) }

pub along_at : (machines : List AtMachine) (gaps : List AtGap) (i : ℕ) (d : AtMachine) (hole : MachineHole machines gaps i) → boards_along machines gaps ≡ hole.front ++ ((get_or machines i d).boards ++ hole.back)
along_at machines gaps i d hole = rw set-get_or at (hole.filled (get_or machines i d))

-- the boards of a gap and its machines, in the order in which they come out
abbrev pub boards_around : Around → List Board
boards_around around = around.down.boards ++ (boards_in around.between.lies ++ around.up.boards)

pub record AroundHole (machines : List AtMachine) (gaps : List AtGap) (i : ℕ) : Type 0 where
  pub front : List Board
  pub back : List Board
  pub filled : (around : Around) → boards_along (slice_set (slice_set machines i around.up) (suc i) around.down) (slice_set gaps i around.between) ≡ front ++ (boards_around around ++ back)

pub around_hole : (machines : List AtMachine) (gaps : List AtGap) (i : ℕ) → suc i < length machines → i < length gaps → AroundHole machines gaps i
around_hole [] gaps i h k = absurd (omega arith)
around_hole (x ∷ []) gaps i h k = absurd (omega arith)
around_hole (x ∷ y ∷ ys) [] i h k = absurd (omega arith)
around_hole (x ∷ y ∷ ys) (g ∷ []) zero h k = record { front = boards_along ys []; back = []; filled = λ a. rw append-nil (simp append_assoc) }
around_hole (x ∷ y ∷ ys) (g ∷ g' ∷ gs) zero h k = record { front = boards_along ys gs ++ boards_in g'.lies; back = []; filled = λ a. rw append-nil (simp append_assoc) }
around_hole (x ∷ y ∷ ys) (g ∷ gs) (suc i) h k =
    let rest = around_hole (y ∷ ys) gs i (omega arith) (omega arith) in
    record { front = rest.front; back = rest.back ++ (boards_in g.lies ++ x.boards); filled = λ a. rw (rest.filled a) (simp append_assoc) }

-- the number of boards with one machine changed
pub length_along-set : (machines : List AtMachine) (gaps : List AtGap) (i : ℕ) (machine d : AtMachine) → i < length machines → length (boards_along (slice_set machines i machine) gaps) + length (get_or machines i d).boards ≡ length (boards_along machines gaps) + length machine.boards
length_along-set machines gaps i machine d h =
    let hole = machine_hole machines gaps i h in
    rw (hole.filled machine, along_at machines gaps i d hole) (simp length-append (omega arith))

-- what lies in the gaps is all that counts of them
pub along-set_gap : (machines : List AtMachine) (gaps : List AtGap) (i : ℕ) (gap d : AtGap) → gap.lies ≡ (get_or gaps i d).lies → boards_along machines (slice_set gaps i gap) ≡ boards_along machines gaps
along-set_gap [] gaps i gap d h = refl
along-set_gap (x ∷ xs) [] i gap d h = refl
along-set_gap (x ∷ xs) (g ∷ gs) zero gap d h = rw h refl
along-set_gap (x ∷ xs) (g ∷ gs) (suc i) gap d h = rw (along-set_gap xs gs i gap d h) refl

-- and the boards all that counts of a machine
pub along-set_machine : (machines : List AtMachine) (gaps : List AtGap) (i : ℕ) (machine d : AtMachine) → machine.boards ≡ (get_or machines i d).boards → boards_along (slice_set machines i machine) gaps ≡ boards_along machines gaps
along-set_machine [] gaps i machine d h = refl
along-set_machine (x ∷ xs) [] zero machine d h = rw h refl
along-set_machine (x ∷ xs) (g ∷ gs) zero machine d h = rw h refl
along-set_machine (x ∷ xs) [] (suc i) machine d h = rw (along-set_machine xs [] i machine d h) refl
along-set_machine (x ∷ xs) (g ∷ gs) (suc i) machine d h = rw (along-set_machine xs gs i machine d h) refl

-- one machine more, with its gap, changes nothing
pub along_more : (machines : List AtMachine) (gaps : List AtGap) → length gaps + 1 ≡ length machines → boards_along (machines ++ empty_machine ∷ []) (gaps ++ free_gap ∷ []) ≡ boards_along machines gaps
along_more [] gaps h = absurd (omega (arith, h))
along_more (x ∷ []) [] h = refl
along_more (x ∷ []) (g ∷ gs) h = absurd (omega (arith, h))
along_more (x ∷ y ∷ ys) [] h = absurd (omega (arith, h))
along_more (x ∷ y ∷ ys) (g ∷ gs) h = ap (λ rest. rest ++ (boards_in g.lies ++ x.boards)) (along_more (y ∷ ys) gs (omega (arith, h)))
