-- The marks of a board on all lanes, put together lane by lane.
use Rattle.std.proofs.Common.{◌≡◌, ◌∙◌, ◌+◌, ◌-◌, ◌<◌, ◌≤◌, ◌==◌, ◌++◌, ◌⊎◌, ℕ, Bool, true, false, zero, suc, List, [], ◌∷◌, inl, inr, ap, append-nil, arith, drop, eq-eqb, get_or, length, ne_eqb, refl, subst, sym, take}
use Rattle.std.proofs.lemmas.Bool.{cases_order}
use Rattle.std.proofs.lemmas.List.{get_or_default, take-append-drop, take_more}
use Rattle.std.specs.List.{AllByRecursion}
use Rattle.std.specs.Prelude.{insert, if◌then◌else◌}
use Rattle.standings.specs.Marks.{Owned, has_id, is_held, mark_if, marks_at, marks_from}
use Rattle.standings.specs.declared.mark.Mark.{Mark}
use Rattle.standings.specs.declared.mark.Mark.TheVariants.{Kept, Outlet, Intake}
use Rattle.line_step.proofs.Ascending.{choose_false, choose_true}
use Rattle.line_marks.specs.AllMarks.{AreAscending, AreBehind, AreFrom, AreOnLanesTo, AreOrdered, IsBefore, IsPlaceBehind, IsWithMarks, of_lane}
use Rattle.line_marks.specs.Indexed.{machine_of}
use Rattle.line_marks.specs.declared.all_marks.LaneMark.{LaneMark}

all_behind : {A : Type 0} (P : A → Type 0) (xs ys : List A) → AllByRecursion P (xs ++ ys) → AllByRecursion P ys
all_behind P [] ys all = all
all_behind P (x ∷ xs) ys all = all_behind P xs ys all.1

all_before : {A : Type 0} (P : A → Type 0) (xs ys : List A) → AllByRecursion P (xs ++ ys) → AllByRecursion P xs
all_before P [] ys all = tt
all_before P (x ∷ xs) ys all = (all.0, all_before P xs ys all.1)

all_both : {A : Type 0} (P : A → Type 0) (xs ys : List A) → AllByRecursion P xs → AllByRecursion P ys → AllByRecursion P (xs ++ ys)
all_both P [] ys front rest = rest
all_both P (x ∷ xs) ys front rest = (front.0, all_both P xs ys front.1 rest)

-- ---- the marks of one lane among all

of_append_by : (test : Bool) (mark : Mark) (front whole rest : List Mark) → whole ≡ front ++ rest → (if test then mark ∷ whole else whole) ≡ (if test then mark ∷ front else front) ++ rest
of_append_by true mark front whole rest is = ap (λ (ms : List Mark). mark ∷ ms) is
of_append_by false mark front whole rest is = is

of_append : (lane : ℕ) (xs ys : List LaneMark) → of_lane lane (xs ++ ys) ≡ of_lane lane xs ++ of_lane lane ys
of_append lane [] ys = refl
of_append lane (own ∷ xs) ys = of_append_by (own.lane == lane) own.mark (of_lane lane xs) (of_lane lane (xs ++ ys)) (of_lane lane ys) (of_append lane xs ys)

none_by : (test : Bool) (mark : Mark) (rest : List Mark) (machine : ℕ) → machine < machine_of mark → (AllByRecursion (λ (m : Mark). machine_of m ≤ machine) rest → rest ≡ [])
    → AllByRecursion (λ (m : Mark). machine_of m ≤ machine) (if test then mark ∷ rest else rest) → (if test then mark ∷ rest else rest) ≡ []
none_by true mark rest machine h later most = absurd (omega (arith, h, most.0))
none_by false mark rest machine h later most = later most

none_above : (lane machine : ℕ) (all : List LaneMark) → AllByRecursion (λ (own : LaneMark). machine < machine_of own.mark) all → AllByRecursion (λ (m : Mark). machine_of m ≤ machine) (of_lane lane all) → of_lane lane all ≡ []
none_above lane machine [] above most = refl
none_above lane machine (own ∷ all) above most = none_by (own.lane == lane) own.mark (of_lane lane all) machine above.0 (λ m. none_above lane machine all above.1 m) most

pub none_beyond : (lane other : ℕ) (all : List LaneMark) → AreOnLanesTo lane all → lane < other → of_lane other all ≡ []
none_beyond lane other [] lanes past = refl
none_beyond lane other (own ∷ all) lanes past =
    choose_false (own.lane == other) (own.mark ∷ of_lane other all) (of_lane other all) (ne_eqb own.lane other (λ e. omega (arith, e, past, lanes.0)))
    ∙ none_beyond lane other all lanes.1 past

pub lanes_more : (lane more : ℕ) (all : List LaneMark) → lane ≤ more → AreOnLanesTo lane all → AreOnLanesTo more all
lanes_more lane more [] h lanes = tt
lanes_more lane more (own ∷ all) h lanes = (omega (arith, h, lanes.0), lanes_more lane more all h lanes.1)

-- ---- their order

behind_put : (own : LaneMark) (front rest : List LaneMark) (one : LaneMark) → AreBehind own (front ++ rest) → IsBefore own one → AreBehind own (front ++ one ∷ rest)
behind_put own [] rest one all h = (h, all)
behind_put own (other ∷ front) rest one all h = (all.0, behind_put own front rest one all.1 h)

ordered_put : (front rest : List LaneMark) (one : LaneMark) → AreOrdered (front ++ rest) → AllByRecursion (λ (own : LaneMark). IsBefore own one) front → AreBehind one rest → AreOrdered (front ++ one ∷ rest)
ordered_put [] rest one ordered before behind = (behind, ordered)
ordered_put (own ∷ front) rest one ordered before behind = (behind_put own front rest one ordered.0 before.0, ordered_put front rest one ordered.1 before.1 behind)

before_by : (own one : LaneMark) → (machine_of own.mark ≡ machine_of one.mark) ⊎ ((machine_of own.mark < machine_of one.mark) ⊎ (machine_of one.mark < machine_of own.mark)) → machine_of own.mark ≤ machine_of one.mark → own.lane ≤ one.lane → IsBefore own one
before_by own one (inl same) most lane = inr (same, lane)
before_by own one (inr (inl h)) most lane = inl h
before_by own one (inr (inr h)) most lane = absurd (omega (arith, h, most))

front_before : (front : List LaneMark) (one : LaneMark) → AllByRecursion (λ (own : LaneMark). machine_of own.mark ≤ machine_of one.mark) front → AreOnLanesTo one.lane front → AllByRecursion (λ (own : LaneMark). IsBefore own one) front
front_before [] one most lanes = tt
front_before (own ∷ front) one most lanes = (before_by own one (cases_order (machine_of own.mark) (machine_of one.mark)) most.0 lanes.0, front_before front one most.1 lanes.1)

rest_behind : (one : LaneMark) (rest : List LaneMark) → AllByRecursion (λ (own : LaneMark). machine_of one.mark < machine_of own.mark) rest → AreBehind one rest
rest_behind one [] above = tt
rest_behind one (own ∷ rest) above = (inl above.0, rest_behind one rest above.1)

-- ---- one mark more

pub put_none : (lane : ℕ) (start : List LaneMark) → of_lane lane start ≡ [] → AreOnLanesTo lane start → AreOrdered start → IsWithMarks lane [] start start
put_none lane start none lanes ordered = record { own = none; others = λ other differ. refl; lanes = lanes; ordered = ordered }

pub put_more : (lane place : ℕ) (mark : Mark) (done : List Mark) (start all : List LaneMark) → IsWithMarks lane done start all → IsPlaceBehind (machine_of mark) place all → AllByRecursion (λ (m : Mark). machine_of m ≤ machine_of mark) done
    → IsWithMarks lane (done ++ mark ∷ []) start (take place all ++ record { lane = lane; mark = mark } ∷ drop place all)
put_more lane place mark done start all added behind most =
    let one : LaneMark = record { lane = lane; mark = mark } in
    let front : List LaneMark = take place all in
    let rest : List LaneMark = drop place all in
    let apart : front ++ rest ≡ all = take-append-drop place all in
    let split : of_lane lane front ++ of_lane lane rest ≡ done = sym (of_append lane front rest) ∙ ap (of_lane lane) apart ∙ added.own in
    let least : AllByRecursion (λ (m : Mark). machine_of m ≤ machine_of mark) (of_lane lane rest) =
    all_behind (λ (m : Mark). machine_of m ≤ machine_of mark) (of_lane lane front) (of_lane lane rest) (subst (λ (ms : List Mark). AllByRecursion (λ (m : Mark). machine_of m ≤ machine_of mark) ms) (sym split) most) in
    let none : of_lane lane rest ≡ [] = none_above lane (machine_of mark) rest behind.behind least in
    let lanes : AreOnLanesTo lane (front ++ rest) = subst (AreOnLanesTo lane) (sym apart) added.lanes in
    record {
      own =
          of_append lane front (one ∷ rest)
          ∙ ap (λ (ms : List Mark). of_lane lane front ++ ms) (choose_true (lane == lane) (mark ∷ of_lane lane rest) (of_lane lane rest) (eq-eqb lane lane refl) ∙ ap (λ (ms : List Mark). mark ∷ ms) none)
          ∙ ap (λ (ms : List Mark). ms ++ mark ∷ []) (sym (append-nil (of_lane lane front)) ∙ ap (λ (ms : List Mark). of_lane lane front ++ ms) (sym none) ∙ split);
      others = λ other differ.
          of_append other front (one ∷ rest)
          ∙ ap (λ (ms : List Mark). of_lane other front ++ ms) (choose_false (lane == other) (mark ∷ of_lane other rest) (of_lane other rest) (ne_eqb lane other (λ e. differ (sym e))))
          ∙ sym (of_append other front rest) ∙ ap (of_lane other) apart ∙ added.others other differ;
      lanes = all_both (λ (own : LaneMark). own.lane ≤ lane) front (one ∷ rest) (all_before (λ (own : LaneMark). own.lane ≤ lane) front rest lanes) (omega arith, all_behind (λ (own : LaneMark). own.lane ≤ lane) front rest lanes);
      ordered = ordered_put front rest one (subst AreOrdered (sym apart) added.ordered) (front_before front one behind.before (all_before (λ (own : LaneMark). own.lane ≤ lane) front rest lanes)) (rest_behind one rest behind.behind);
    }

-- ---- ascending marks

from_at : (machine place : ℕ) (marks : List Mark) (mark : Mark) → place < length marks → mark ≡ get_or marks place mark → AreFrom machine marks → machine ≤ machine_of mark
from_at machine place [] mark within at all = absurd (omega (arith, within))
from_at machine zero (first ∷ marks) mark within at all = subst (λ (m : Mark). machine ≤ machine_of m) (sym at) all.0
from_at machine (suc place) (first ∷ marks) mark within at all = from_at machine place marks mark (omega (arith, within)) at all.1

pub ascending_to : (place : ℕ) (marks : List Mark) (mark : Mark) → place < length marks → mark ≡ get_or marks place mark → AreAscending marks → AllByRecursion (λ (m : Mark). machine_of m ≤ machine_of mark) (take place marks)
ascending_to place [] mark within at ascending = absurd (omega (arith, within))
ascending_to zero (first ∷ marks) mark within at ascending = tt
ascending_to (suc place) (first ∷ marks) mark within at ascending = (from_at (machine_of first) place marks mark (omega (arith, within)) at ascending.0, ascending_to place marks mark (omega (arith, within)) at ascending.1)

from_more : (machine : ℕ) (marks : List Mark) → AreFrom (machine + 1) marks → AreFrom machine marks
from_more machine [] all = tt
from_more machine (mark ∷ marks) all = (omega (arith, all.0), from_more machine marks all.1)

put_at : (machine : ℕ) (front rest : List Mark) → AllByRecursion (λ (m : Mark). machine_of m ≡ machine) front → AreAscending rest → AreFrom machine rest → AreAscending (front ++ rest) × AreFrom machine (front ++ rest)
put_at machine [] rest all ascending from = (ascending, from)
put_at machine (mark ∷ front) rest all ascending from =
    let h = put_at machine front rest all.1 ascending from in
    ((subst (λ (m : ℕ). AreFrom m (front ++ rest)) (sym all.0) h.1, h.0), (omega (arith, all.0), h.1))

if_at : (test : Bool) (machine : ℕ) (mark : Mark) → machine_of mark ≡ machine → AllByRecursion (λ (m : Mark). machine_of m ≡ machine) (mark_if test mark)
if_at true machine mark is = (is, tt)
if_at false machine mark is = tt

at_machine : (machine : ℕ) (own : Owned) (id : ℕ) → AllByRecursion (λ (m : Mark). machine_of m ≡ machine) (marks_at machine own id)
at_machine machine own id =
    let outlet : List Mark = mark_if (is_held id own.held) (Outlet machine) in
    let intake : List Mark = mark_if (is_held id own.taking) (Intake machine) in
    all_both (λ (m : Mark). machine_of m ≡ machine) (mark_if (has_id id own.kept) (Kept machine)) (outlet ++ intake) (if_at (has_id id own.kept) machine (Kept machine) refl)
    (all_both (λ (m : Mark). machine_of m ≡ machine) outlet intake (if_at (is_held id own.held) machine (Outlet machine) refl) (if_at (is_held id own.taking) machine (Intake machine) refl))

ascend_from : (machine : ℕ) (line : List Owned) (id : ℕ) → AreAscending (marks_from machine line id) × AreFrom machine (marks_from machine line id)
ascend_from machine [] id = (tt, tt)
ascend_from machine (own ∷ line) id =
    let h = ascend_from (machine + 1) line id in
    put_at machine (marks_at machine own id) (marks_from (machine + 1) line id) (at_machine machine own id) h.0 (from_more machine (marks_from (machine + 1) line id) h.1)

-- the marks of an id along a line ascend
pub marks_ascend : (line : List Owned) (id : ℕ) → AreAscending (marks_from 1 line id)
marks_ascend line id = (ascend_from 1 line id).0

-- ---- the place of a mark

above_by : (machine : ℕ) (own : LaneMark) (all : List LaneMark) → machine < machine_of own.mark → AreBehind own all → AllByRecursion (λ (other : LaneMark). machine < machine_of other.mark) all
above_by machine own [] h behind = tt
above_by machine own (other ∷ all) h behind = (later (behind.0), above_by machine own all h behind.1)
  where
    later : IsBefore own other → machine < machine_of other.mark
    later (inl more) = omega (arith, h, more)
    later (inr same) = omega (arith, h, same.0)

above_at : (machine place : ℕ) (all : List LaneMark) (own : LaneMark) → place < length all → own ≡ get_or all place own → machine < machine_of own.mark → AreOrdered all → AllByRecursion (λ (other : LaneMark). machine < machine_of other.mark) (drop place all)
above_at machine place [] own within at h ordered = absurd (omega (arith, within))
above_at machine zero (first ∷ all) own within at h ordered =
    let more : machine < machine_of first.mark = subst (λ (o : LaneMark). machine < machine_of o.mark) at h in
    (more, above_by machine first all more ordered.0)
above_at machine (suc place) (first ∷ all) own within at h ordered = above_at machine place all own (omega (arith, within)) at h ordered.1

pub found_behind : (machine place : ℕ) (all : List LaneMark) (none : LaneMark) → place < length all → machine < machine_of (get_or all place none).mark → AreOrdered all
    → AllByRecursion (λ (other : LaneMark). machine_of other.mark ≤ machine) (take place all) → IsPlaceBehind machine place all
found_behind machine place all none within h ordered before =
    let own : LaneMark = get_or all place none in
    record { within = omega (arith, within); before = before; behind = above_at machine place all own within (get_or_default all place none own within) h ordered }

-- ---- mark after mark

pub put_next : (lane place index machine : ℕ) (marks : List Mark) (start all slice new : List LaneMark) → index < length marks → IsWithMarks lane (take index marks) start all → AreAscending marks
    → machine ≡ machine_of (get_or marks index (Kept 0)) → slice ≡ all → IsPlaceBehind machine place slice → new ≡ insert all place (record { lane = lane; mark = get_or marks index (Kept 0) })
    → IsWithMarks lane (take (index + 1) marks) start new
put_next lane place index machine marks start all slice new within added ascending machine_is slice_is behind new_is =
    let mark : Mark = get_or marks index (Kept 0) in
    let here : IsPlaceBehind (machine_of mark) place all = subst (λ (xs : List LaneMark). IsPlaceBehind (machine_of mark) place xs) slice_is (subst (λ (m : ℕ). IsPlaceBehind m place slice) machine_is behind) in
    subst (λ (ms : List Mark). IsWithMarks lane ms start new) (sym (take_more marks index (Kept 0) within))
    (subst (λ (xs : List LaneMark). IsWithMarks lane (take index marks ++ mark ∷ []) start xs) (sym new_is)
    (put_more lane place mark (take index marks) start all added here (ascending_to index marks mark within (get_or_default marks index (Kept 0) mark within) ascending)))
