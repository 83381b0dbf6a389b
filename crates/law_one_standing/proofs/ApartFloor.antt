-- From the list of all boards to places by number: where no id is twice on the floor, none lies in two places.
use Rattle.std.proofs.Common.{Bool, List, Option, None, Some, [], ap, arith, eq-eqb, eqb-true, false, filter, length, length-append, refl, subst, suc, sym, true, zero, ℕ, ◌+◌, ◌++◌, ◌-◌, ◌∙◌, ◌∷◌, ◌≡◌, ◌≢◌, ◌≤◌, ◌⊎◌, inl, inr}
use Rattle.std.specs.Prelude.{cond, nat_lt, slice_index_or}
use Rattle.std.proofs.lemmas.List.Elements.{filter-append}
use Rattle.line_world.proofs.Keeping.{counted_test}
use Rattle.line_world.specs.declared.board.Board.{Board}
use Rattle.line_world.specs.declared.gap.Gap.{Gap}
use Rattle.line_world.specs.declared.gap.Gap.TheVariants as gaps
use Rattle.line_world.specs.declared.gap.AtGap.{AtGap}
use Rattle.line_world.specs.FloorPlan.{AtMachine, FloorPlan, IsWhole, empty_machine, free_gap, gap_at, has_id, machine_at}
use Rattle.line_world.specs.Boards.{boards_along, boards_in, boards_on}
use Rattle.line_world.specs.Ids.{IdsDiffer}
use Rattle.law_machine_custody.specs.Good.{Lies, lies_first, lies_later}
use Rattle.line_step.specs.State.{LineState}
use Rattle.line_step.proofs.Numbers.{none_or_one, same_or_not}
use Rattle.law_one_standing.specs.Standing.{AreOnce, once_more, once_none}
use Rattle.law_one_standing.specs.Places.{LiesAt, LiesIn, Spot, at_machine, in_gap, lies_at, lies_begun, lies_in, lies_left}
use Rattle.law_one_standing.specs.Carried.{Trace, between_of, stand_of}

-- ---- boards with an id, counted

abbrev pub counted : ℕ → List Board → ℕ
counted x boards = length (filter (has_id x) boards)

later_by : (has : Bool) (x : ℕ) (board : Board) (boards : List Board) → has_id x board ≡ has → 1 ≤ counted x boards → 1 ≤ counted x (board ∷ boards)
later_by true x board boards is some = rw is (omega arith)
later_by false x board boards is some = rw is some

pub lies_counted : {x : ℕ} {boards : List Board} → Lies x boards → 1 ≤ counted x boards
lies_counted (lies_first {x} {bs}) = rw (eq-eqb x x refl) (omega arith)
lies_counted (lies_later {x} {b} {bs} later) = later_by (has_id x b) x b bs refl (lies_counted later)

first_by : (own : Option ℕ) (x : ℕ) (boards : List Board) → has_id x (record { id = own }) ≡ true → Lies x (record { id = own } ∷ boards)
first_by None x boards is = cc
first_by (Some own) x boards is =
    let P : ℕ → Type 0 = λ id. Lies x (record { id = Some id } ∷ boards) in
    subst P (sym (eqb-true own x is)) lies_first

counted_by : (has : Bool) (x : ℕ) (board : Board) (boards : List Board) → has_id x board ≡ has → (1 ≤ counted x boards → Lies x boards) → 1 ≤ counted x (board ∷ boards) → Lies x (board ∷ boards)
counted_by true x board boards is rest some = first_by board.id x boards is
counted_by false x board boards is rest some = lies_later (rest (rw is at some))

pub counted_lies : (x : ℕ) (boards : List Board) → 1 ≤ counted x boards → Lies x boards
counted_lies x [] some = absurd (omega (arith, some))
counted_lies x (board ∷ boards) some = counted_by (has_id x board) x board boards refl (counted_lies x boards) some

pub own_counted : (x : ℕ) (board : Board) (boards : List Board) → board.id ≡ Some x → counted x (board ∷ boards) ≡ 1 + counted x boards
own_counted x board boards is =
    let P : Option ℕ → Type 0 = λ own. counted x (record { id = own } ∷ boards) ≡ 1 + counted x boards in
    let own : counted x (record { id = Some x } ∷ boards) ≡ 1 + counted x boards = rw (eq-eqb x x refl) (omega arith) in
    subst P (sym is) own

more_counted_by : (has : Bool) (x : ℕ) (board : Board) (boards : List Board) → has_id x board ≡ has → counted x boards ≤ counted x (board ∷ boards)
more_counted_by true x board boards is = rw is (omega arith)
more_counted_by false x board boards is = rw is (omega arith)

-- where no id is counted twice none lies twice
pub once_of : (boards : List Board) → ((x : ℕ) → counted x boards ≤ 1) → AreOnce boards
once_of [] most = once_none
once_of (board ∷ boards) most =
    once_more (λ x is lies. omega (arith, most x, own_counted x board boards is, lies_counted lies))
    (once_of boards (λ x. omega (arith, most x, more_counted_by (has_id x board) x board boards refl)))

-- ---- along the floor

pub both_counted : (x : ℕ) (front back : List Board) → counted x (front ++ back) ≡ counted x front + counted x back
both_counted x front back = simp (filter-append, length-append) (omega arith)

abbrev machine_boards : List AtMachine → ℕ → List Board
machine_boards machines i = (slice_index_or machines i empty_machine).boards

abbrev gap_boards : List AtGap → ℕ → List Board
gap_boards gs i = boards_in (slice_index_or gs i free_gap).lies

-- of a machine and a gap before those of the rest
along_counted : (x : ℕ) (rest lies : List Board) (boards : List Board) → counted x (rest ++ (lies ++ boards)) ≡ counted x rest + (counted x lies + counted x boards)
along_counted x rest lies boards = both_counted x rest (lies ++ boards) ∙ ap (λ n. counted x rest + n) (both_counted x lies boards)

machine_within : (x : ℕ) (machines : List AtMachine) (gs : List AtGap) (i : ℕ) → counted x (machine_boards machines i) ≤ counted x (boards_along machines gs)
machine_within x [] gs i = omega arith
machine_within x (m ∷ ms) [] zero = omega (arith, both_counted x (boards_along ms []) m.boards)
machine_within x (m ∷ ms) [] (suc i) = omega (arith, both_counted x (boards_along ms []) m.boards, machine_within x ms [] i)
machine_within x (m ∷ ms) (g ∷ gs) zero = omega (arith, along_counted x (boards_along ms gs) (boards_in g.lies) m.boards)
machine_within x (m ∷ ms) (g ∷ gs) (suc i) = omega (arith, along_counted x (boards_along ms gs) (boards_in g.lies) m.boards, machine_within x ms gs i)

gap_within : (x : ℕ) (machines : List AtMachine) (gs : List AtGap) (i : ℕ) → length gs ≤ length machines → counted x (gap_boards gs i) ≤ counted x (boards_along machines gs)
gap_within x [] [] i few = omega arith
gap_within x [] (g ∷ gs) i few = absurd (omega (arith, few))
gap_within x (m ∷ ms) [] i few = omega arith
gap_within x (m ∷ ms) (g ∷ gs) zero few = omega (arith, along_counted x (boards_along ms gs) (boards_in g.lies) m.boards)
gap_within x (m ∷ ms) (g ∷ gs) (suc i) few = omega (arith, along_counted x (boards_along ms gs) (boards_in g.lies) m.boards, gap_within x ms gs i (omega (arith, few)))

two_machines : (x : ℕ) (machines : List AtMachine) (gs : List AtGap) (i j : ℕ) → i ≢ j → counted x (machine_boards machines i) + counted x (machine_boards machines j) ≤ counted x (boards_along machines gs)
two_machines x [] gs i j apart = omega arith
two_machines x (m ∷ ms) gs zero zero apart = absurd (apart refl)
two_machines x (m ∷ ms) [] zero (suc j) apart = omega (arith, both_counted x (boards_along ms []) m.boards, machine_within x ms [] j)
two_machines x (m ∷ ms) [] (suc i) zero apart = omega (arith, both_counted x (boards_along ms []) m.boards, machine_within x ms [] i)
two_machines x (m ∷ ms) [] (suc i) (suc j) apart = omega (arith, both_counted x (boards_along ms []) m.boards, two_machines x ms [] i j (λ is. apart (ap suc is)))
two_machines x (m ∷ ms) (g ∷ gs) zero (suc j) apart = omega (arith, along_counted x (boards_along ms gs) (boards_in g.lies) m.boards, machine_within x ms gs j)
two_machines x (m ∷ ms) (g ∷ gs) (suc i) zero apart = omega (arith, along_counted x (boards_along ms gs) (boards_in g.lies) m.boards, machine_within x ms gs i)
two_machines x (m ∷ ms) (g ∷ gs) (suc i) (suc j) apart = omega (arith, along_counted x (boards_along ms gs) (boards_in g.lies) m.boards, two_machines x ms gs i j (λ is. apart (ap suc is)))

two_gaps : (x : ℕ) (machines : List AtMachine) (gs : List AtGap) (i j : ℕ) → length gs ≤ length machines → i ≢ j → counted x (gap_boards gs i) + counted x (gap_boards gs j) ≤ counted x (boards_along machines gs)
two_gaps x [] [] i j few apart = omega arith
two_gaps x [] (g ∷ gs) i j few apart = absurd (omega (arith, few))
two_gaps x (m ∷ ms) [] i j few apart = omega arith
two_gaps x (m ∷ ms) (g ∷ gs) zero zero few apart = absurd (apart refl)
two_gaps x (m ∷ ms) (g ∷ gs) zero (suc j) few apart = omega (arith, along_counted x (boards_along ms gs) (boards_in g.lies) m.boards, gap_within x ms gs j (omega (arith, few)))
two_gaps x (m ∷ ms) (g ∷ gs) (suc i) zero few apart = omega (arith, along_counted x (boards_along ms gs) (boards_in g.lies) m.boards, gap_within x ms gs i (omega (arith, few)))
two_gaps x (m ∷ ms) (g ∷ gs) (suc i) (suc j) few apart = omega (arith, along_counted x (boards_along ms gs) (boards_in g.lies) m.boards, two_gaps x ms gs i j (omega (arith, few)) (λ is. apart (ap suc is)))

machine_and_gap : (x : ℕ) (machines : List AtMachine) (gs : List AtGap) (i j : ℕ) → length gs ≤ length machines → counted x (machine_boards machines i) + counted x (gap_boards gs j) ≤ counted x (boards_along machines gs)
machine_and_gap x [] [] i j few = omega arith
machine_and_gap x [] (g ∷ gs) i j few = absurd (omega (arith, few))
machine_and_gap x (m ∷ ms) [] i j few = omega (arith, machine_within x (m ∷ ms) [] i)
machine_and_gap x (m ∷ ms) (g ∷ gs) zero zero few = omega (arith, along_counted x (boards_along ms gs) (boards_in g.lies) m.boards)
machine_and_gap x (m ∷ ms) (g ∷ gs) zero (suc j) few = omega (arith, along_counted x (boards_along ms gs) (boards_in g.lies) m.boards, gap_within x ms gs j (omega (arith, few)))
machine_and_gap x (m ∷ ms) (g ∷ gs) (suc i) zero few = omega (arith, along_counted x (boards_along ms gs) (boards_in g.lies) m.boards, machine_within x ms gs i)
machine_and_gap x (m ∷ ms) (g ∷ gs) (suc i) (suc j) few = omega (arith, along_counted x (boards_along ms gs) (boards_in g.lies) m.boards, machine_and_gap x ms gs i j (omega (arith, few)))

-- ---- by number

abbrev pub boards_at : FloorPlan → Spot → List Board
boards_at plan (at_machine m) = (machine_at plan m).boards
boards_at plan (in_gap k) = boards_in (gap_at plan k).lies

few_gaps : (plan : FloorPlan) → IsWhole plan → length plan.gaps ≤ length plan.machines
few_gaps plan whole = omega (arith, whole)

at_there : {X : Type 0} (xs : List X) (n : ℕ) (none : X) → 1 ≤ n → cond (nat_lt 0 n) (slice_index_or xs (n - 1) none) none ≡ slice_index_or xs (n - 1) none
at_there xs n none some = rw (counted_test n some) refl

machine_list : (plan : FloorPlan) (m : ℕ) → 1 ≤ m → (machine_at plan m).boards ≡ machine_boards plan.machines (m - 1)
machine_list plan m some = ap (λ (a : AtMachine). a.boards) (at_there plan.machines m empty_machine some)

gap_list : (plan : FloorPlan) (k : ℕ) → 1 ≤ k → boards_in (gap_at plan k).lies ≡ gap_boards plan.gaps (k - 1)
gap_list plan k some = ap (λ (a : AtGap). boards_in a.lies) (at_there plan.gaps k free_gap some)

-- what has no number has no boards
no_machine : (plan : FloorPlan) (x m : ℕ) → m ≡ 0 → counted x (machine_at plan m).boards ≡ 0
no_machine plan x m none = rw none refl

no_gap : (plan : FloorPlan) (x k : ℕ) → k ≡ 0 → counted x (boards_in (gap_at plan k).lies) ≡ 0
no_gap plan x k none = rw none refl

pub spot_within : (plan : FloorPlan) (x : ℕ) (p : Spot) → IsWhole plan → counted x (boards_at plan p) ≤ counted x (boards_on plan)
spot_within plan x (at_machine m) whole = elim (none_or_one m) [
  | inl none ↦ omega (arith, no_machine plan x m none)
  | inr some ↦ rw (machine_list plan m some) (machine_within x plan.machines plan.gaps (m - 1))
]
spot_within plan x (in_gap k) whole = elim (none_or_one k) [
  | inl none ↦ omega (arith, no_gap plan x k none)
  | inr some ↦ rw (gap_list plan k some) (gap_within x plan.machines plan.gaps (k - 1) (few_gaps plan whole))
]

mixed_within : (plan : FloorPlan) (x m k : ℕ) → IsWhole plan → counted x (machine_at plan m).boards + counted x (boards_in (gap_at plan k).lies) ≤ counted x (boards_on plan)
mixed_within plan x m k whole = elim (none_or_one m) [
  | inl none ↦ omega (arith, no_machine plan x m none, spot_within plan x (in_gap k) whole)
  | inr some ↦ elim (none_or_one k) [
    | inl none ↦ omega (arith, no_gap plan x k none, spot_within plan x (at_machine m) whole)
    | inr other ↦ rw (machine_list plan m some, gap_list plan k other) (machine_and_gap x plan.machines plan.gaps (m - 1) (k - 1) (few_gaps plan whole))
  ]
]

-- two places have no more of it than the floor
pub spots_within : (plan : FloorPlan) (x : ℕ) (p q : Spot) → IsWhole plan → p ≢ q → counted x (boards_at plan p) + counted x (boards_at plan q) ≤ counted x (boards_on plan)
spots_within plan x (at_machine m) (at_machine n) whole apart = elim (none_or_one m) [
  | inl none ↦ omega (arith, no_machine plan x m none, spot_within plan x (at_machine n) whole)
  | inr some ↦ elim (none_or_one n) [
    | inl none ↦ omega (arith, no_machine plan x n none, spot_within plan x (at_machine m) whole)
    | inr other ↦
        rw (machine_list plan m some, machine_list plan n other)
        (two_machines x plan.machines plan.gaps (m - 1) (n - 1) (λ is. (let same : m ≡ n = omega (arith, is) in apart (ap at_machine same))))
  ]
]
spots_within plan x (in_gap k) (in_gap l) whole apart = elim (none_or_one k) [
  | inl none ↦ omega (arith, no_gap plan x k none, spot_within plan x (in_gap l) whole)
  | inr some ↦ elim (none_or_one l) [
    | inl none ↦ omega (arith, no_gap plan x l none, spot_within plan x (in_gap k) whole)
    | inr other ↦
        rw (gap_list plan k some, gap_list plan l other)
        (two_gaps x plan.machines plan.gaps (k - 1) (l - 1) (few_gaps plan whole) (λ is. (let same : k ≡ l = omega (arith, is) in apart (ap in_gap same))))
  ]
]
spots_within plan x (at_machine m) (in_gap k) whole apart = mixed_within plan x m k whole
spots_within plan x (in_gap k) (at_machine m) whole apart = omega (arith, mixed_within plan x m k whole)

numbers_by : {m n : ℕ} (make : ℕ → Spot) → ((a b : ℕ) → make a ≡ make b → a ≡ b) → (m ≡ n) ⊎ (m ≢ n) → (make m ≡ make n) ⊎ (make m ≢ make n)
numbers_by make inner (inl same) = inl (ap make same)
numbers_by {m} {n} make inner (inr apart) = inr (λ is. apart (inner m n is))

pub same_spot_or_not : (p q : Spot) → (p ≡ q) ⊎ (p ≢ q)
same_spot_or_not (at_machine m) (at_machine n) = numbers_by at_machine (λ a b is. cc) (same_or_not m n)
same_spot_or_not (in_gap k) (in_gap l) = numbers_by in_gap (λ a b is. cc) (same_or_not k l)
same_spot_or_not (at_machine m) (in_gap k) = inr (λ is. cc)
same_spot_or_not (in_gap k) (at_machine m) = inr (λ is. cc)

-- ---- where a board lies

pub lies_in_gap : {x : ℕ} {lies : Gap} → LiesIn x lies → Lies x (boards_in lies)
lies_in_gap lies_begun = lies_first
lies_in_gap lies_left = lies_first

pub no_later : {x : ℕ} → Lies x [] → ⊥
no_later lies = elim lies [ ]

begun_lies : {x : ℕ} {board : Board} → Lies x (board ∷ []) → LiesIn x (gaps.Begun board)
begun_lies lies_first = lies_begun
begun_lies (lies_later later) = absurd (no_later later)

left_lies : {x : ℕ} {board : Board} → Lies x (board ∷ []) → LiesIn x (gaps.Left board)
left_lies lies_first = lies_left
left_lies (lies_later later) = absurd (no_later later)

pub gap_lies_in : (x : ℕ) (lies : Gap) → Lies x (boards_in lies) → LiesIn x lies
gap_lies_in x gaps.Free lies = absurd (no_later lies)
gap_lies_in x (gaps.Begun board) lies = begun_lies lies
gap_lies_in x (gaps.Left board) lies = left_lies lies

pub lies_there : (t : Trace) (s : LineState) (x : ℕ) (p : Spot) → LiesAt (stand_of s) (between_of t s) x p → 1 ≤ counted x (boards_at s.world.floor p)
lies_there t s x (at_machine m) (lies_at lies) = lies_counted lies
lies_there t s x (in_gap k) (lies_in lies) = lies_counted (lies_in_gap lies)

pub there_lies : (t : Trace) (s : LineState) (x : ℕ) (p : Spot) → 1 ≤ counted x (boards_at s.world.floor p) → LiesAt (stand_of s) (between_of t s) x p
there_lies t s x (at_machine m) some = lies_at (counted_lies x (machine_at s.world.floor m).boards some)
there_lies t s x (in_gap k) some = lies_in (gap_lies_in x (gap_at s.world.floor k).lies (counted_lies x (boards_in (gap_at s.world.floor k).lies) some))

-- what lies somewhere is on the floor
pub lies_on_floor : (t : Trace) (s : LineState) (x : ℕ) (p : Spot) → IsWhole s.world.floor → LiesAt (stand_of s) (between_of t s) x p → 1 ≤ counted x (boards_on s.world.floor)
lies_on_floor t s x p whole lies = omega (arith, lies_there t s x p lies, spot_within s.world.floor x p whole)

pub list_once : (plan : FloorPlan) (m : ℕ) → IdsDiffer plan → IsWhole plan → AreOnce (machine_at plan m).boards
list_once plan m differ whole = once_of (machine_at plan m).boards (λ x. omega (arith, spot_within plan x (at_machine m) whole, differ.once x))

one_place_by : (t : Trace) (s : LineState) (x : ℕ) (p q : Spot) → (p ≡ q) ⊎ (p ≢ q) → IdsDiffer s.world.floor → IsWhole s.world.floor → LiesAt (stand_of s) (between_of t s) x p → LiesAt (stand_of s) (between_of t s) x q → p ≡ q
one_place_by t s x p q (inl same) differ whole one two = same
one_place_by t s x p q (inr apart) differ whole one two = absurd (omega (arith, spots_within s.world.floor x p q whole apart, lies_there t s x p one, lies_there t s x q two, differ.once x))

pub one_place_of : (t : Trace) (s : LineState) (x : ℕ) (p q : Spot) → IdsDiffer s.world.floor → IsWhole s.world.floor → LiesAt (stand_of s) (between_of t s) x p → LiesAt (stand_of s) (between_of t s) x q → p ≡ q
one_place_of t s x p q differ whole one two = one_place_by t s x p q (same_spot_or_not p q) differ whole one two

-- ---- and back: what is on the floor lies somewhere

front_or_back : (x : ℕ) (front back : List Board) → 1 ≤ counted x (front ++ back) → (1 ≤ counted x front) ⊎ (1 ≤ counted x back)
front_or_back x front back some = elim (none_or_one (counted x front)) [
  | inl none ↦ inr (omega (arith, some, none, both_counted x front back))
  | inr one ↦ inl one
]

-- at the place of a machine, or of a gap
data Found (x : ℕ) (machines : List AtMachine) (gs : List AtGap) : Type 0 where
  found_machine : (i : ℕ) → 1 ≤ counted x (machine_boards machines i) → Found x machines gs
  found_gap : (i : ℕ) → 1 ≤ counted x (gap_boards gs i) → Found x machines gs

found_later : {x : ℕ} {machines : List AtMachine} {gs : List AtGap} (m : AtMachine) (g : AtGap) → Found x machines gs → Found x (m ∷ machines) (g ∷ gs)
found_later m g (found_machine i some) = found_machine (suc i) some
found_later m g (found_gap i some) = found_gap (suc i) some

found_beyond : {x : ℕ} {machines : List AtMachine} (m : AtMachine) → Found x machines [] → Found x (m ∷ machines) []
found_beyond m (found_machine i some) = found_machine (suc i) some
found_beyond m (found_gap i some) = found_gap i some

found_along : (x : ℕ) (machines : List AtMachine) (gs : List AtGap) → 1 ≤ counted x (boards_along machines gs) → Found x machines gs
found_along x [] gs some = absurd (omega (arith, some))
found_along x (m ∷ ms) [] some = elim (front_or_back x (boards_along ms []) m.boards some) [
  | inl later ↦ found_beyond m (found_along x ms [] later)
  | inr here ↦ found_machine zero here
]
found_along x (m ∷ ms) (g ∷ gs) some = elim (front_or_back x (boards_along ms gs) (boards_in g.lies ++ m.boards) some) [
  | inl later ↦ found_later m g (found_along x ms gs later)
  | inr near ↦ elim (front_or_back x (boards_in g.lies) m.boards near) [ inl between ↦ found_gap zero between | inr here ↦ found_machine zero here ]
]

before : (i : ℕ) → suc i - 1 ≡ i
before i = omega arith

found_spot : (t : Trace) (s : LineState) (x : ℕ) → Found x s.world.floor.machines s.world.floor.gaps → (p : Spot) × LiesAt (stand_of s) (between_of t s) x p
found_spot t s x (found_machine i some) = (at_machine (suc i), there_lies t s x (at_machine (suc i)) (rw (machine_list s.world.floor (suc i) (omega arith), before i) some))
found_spot t s x (found_gap i some) = (in_gap (suc i), there_lies t s x (in_gap (suc i)) (rw (gap_list s.world.floor (suc i) (omega arith), before i) some))

pub floor_lies : (t : Trace) (s : LineState) (x : ℕ) → 1 ≤ counted x (boards_on s.world.floor) → (p : Spot) × LiesAt (stand_of s) (between_of t s) x p
floor_lies t s x some = found_spot t s x (found_along x s.world.floor.machines s.world.floor.gaps some)
