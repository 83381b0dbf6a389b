-- What was told of a board stays right, whatever becomes of it.
use Rattle.std.proofs.Common.{◌≡◌, ◌≢◌, ◌≤◌, ◌⊎◌, ◌∙◌, ◌+◌, ℕ, Bool, true, false, inl, inr, refl, subst, sym, ap, arith, eq-eqb, ne_eqb}
use Rattle.std.proofs.lemmas.Bool.{cases_Bool, false_from_ne_true}
use Rattle.law_one_standing.proofs.RestLine.{same_place}
use Rattle.hermes_vertical.specs.declared.message.Passing.TheVariants.{ByHand, Transferred}
use Rattle.line_step.proofs.Numbers.{same_or_not}
use Rattle.law_supervisor_replay.specs.Replay.{At, Nowhere, Told, Way, Whereabouts, departs, nothing_told, on_its_way, taken_from}
use Rattle.law_supervisor_replay.proofs.Views.{Fares, HasAsBefore, HasNone, Holds, IsApart, IsFrom, IsMoved, IsPlaced, IsSame, IsSole, IsStarted, Same, SetAt, TakesAsBefore, View, fares_leaves, fares_lost, fares_missing, fares_new, fares_removed, fares_settles, fares_so, fares_upstream, has_none, kept_or_held}

-- ---- the same, of machines that have the board, in their list or at their outlet

abbrev Has : View → ℕ → Type 0
Has v i = (v.kept i ≡ true) ⊎ (v.held i ≡ true)

record Right (v : View) (told : Told) (left : ℕ → Bool) : Type 0 where
  has_at : (i : ℕ) → Has v i → told.place ≡ At i
  at_has : (i : ℕ) → told.place ≡ At i → Has v i
  way_left : (i : ℕ) → told.place ≡ Way i → left i ≡ true
  way_taken : (i : ℕ) → told.place ≡ Way i → v.taken (i + 1) ≡ true
  on_way : (i : ℕ) → left i ≡ true → v.taken (i + 1) ≡ true → ((k : ℕ) → Has v k → ⊥)
      → told.place ≡ Way i
  off : told.lost ≡ true → v.off ≡ true
  lost : (i : ℕ) → told.lost ≡ true → Has v i → v.taken (i + 1) ≡ true → ⊥
  leaves : (i : ℕ) → v.held i ≡ true → v.leaving i ≡ true → told.lost ≡ false
      → v.taken (i + 1) ≡ true
  on_floor : (i : ℕ) → told.place ≡ Way i → v.off ≡ true → v.missing (i + 1) ≡ true
  over : (i : ℕ) → left i ≡ true → v.taken (i + 1) ≡ true → Has v i → ⊥

not_both : {b : Bool} → b ≡ true → b ≡ false → ⊥
not_both is not = cc

has_not : (v : View) (i : ℕ) → v.kept i ≡ false → v.held i ≡ false → Has v i → ⊥
has_not v i kept held (inl is) = not_both is kept
has_not v i kept held (inr is) = not_both is held

right_of : (v : View) (told : Told) (left : ℕ → Bool) → Holds v told left → Right v told left
right_of v told left h = record {
  has_at = λ i has. elim has [ inl is ↦ h.kept_at i is | inr is ↦ h.held_at i is ];
  at_has = λ i place. elim (cases_Bool (v.kept i)) [
    | inl is ↦ inl is
    | inr not ↦ inr (h.at i place not)
  ];
  way_left = λ i place. (h.way i place).0;
  way_taken = λ i place. (h.way i place).1;
  on_way = λ i left taken none. h.on_way i left taken
      (λ k. false_from_ne_true (v.kept k) (λ is. none k (inl is)))
      (λ k. false_from_ne_true (v.held k) (λ is. none k (inr is)));
  off = h.off;
  lost = λ i lost has taken. not_both taken (h.lost i lost has);
  leaves = h.leaves;
  on_floor = h.on_floor;
  over = λ i left taken. has_not v i (h.over i left taken).0 (h.over i left taken).1;
}

-- what has left is at no machine above, nor taken there but where it is off the floor
record HasPassed (v : View) (left : ℕ → Bool) : Type 0 where
  has : (k i : ℕ) → left k ≡ true → i ≤ k → Has v i → ⊥
  takes : (k i : ℕ) → left k ≡ true → i ≤ k → v.taken i ≡ true → v.off ≡ true

passed_of : (v : View) (told : Told) (left : ℕ → Bool) → Holds v told left → HasPassed v left
passed_of v told left h = record {
  has = λ k i gone above.
      has_not v i (h.behind k gone i above).0 (h.behind k gone i above).1.0;
  takes = λ k i gone above. (h.behind k gone i above).1.1;
}

holds_of : (v : View) (told : Told) (left : ℕ → Bool) → Right v told left → HasPassed v left
    → Holds v told left
holds_of v told left r passed = record {
  kept_at = λ i is. r.has_at i (inl is);
  held_at = λ i is. r.has_at i (inr is);
  at = λ i place not. elim (r.at_has i place) [ inl is ↦ absurd (not_both is not) | inr is ↦ is ];
  way = λ i place. (r.way_left i place, r.way_taken i place);
  on_way = λ i left taken kept held. r.on_way i left taken (λ k. has_not v k (kept k) (held k));
  off = r.off;
  lost = λ i lost has. false_from_ne_true (v.taken (i + 1)) (r.lost i lost has);
  leaves = r.leaves;
  on_floor = r.on_floor;
  over = λ i left taken. (
    false_from_ne_true (v.kept i) (λ is. r.over i left taken (inl is)),
    false_from_ne_true (v.held i) (λ is. r.over i left taken (inr is)),
  );
  behind = λ k gone i above. (
    false_from_ne_true (v.kept i) (λ is. passed.has k i gone above (inl is)),
    (false_from_ne_true (v.held i) (λ is. passed.has k i gone above (inr is)), passed.takes k i gone above),
  );
}

-- what a machine has is taken by the one below it, if at all
below : {v : View} → IsSole v → (i k : ℕ) → Has v i → v.taken k ≡ true → k ≡ i + 1
below sole i k (inl is) taken = sole.kept_above i k is taken
below sole i k (inr is) taken = sole.held_above i k is taken

-- ---- where the board is told to be behind the step: where it was, nowhere, on its way, or here

-- what has the board has it still, and no machine has it that hadn't
record Stays (v w : View) : Type 0 where
  was : (i : ℕ) → Has w i → Has v i
  now : (i : ℕ) → Has v i → Has w i

place_same : {v w : View} {told told2 : Told} {left left2 : ℕ → Bool} → Right v told left
    → Stays v w → told2.place ≡ told.place → Same left left2
    → ((i : ℕ) → w.taken i ≡ true → v.taken i ≡ true)
    → ((i : ℕ) → told.place ≡ Way i → w.taken (i + 1) ≡ true)
    → (told2.lost ≡ true → w.off ≡ true)
    → ((i : ℕ) → told2.lost ≡ true → Has w i → w.taken (i + 1) ≡ true → ⊥)
    → ((i : ℕ) → w.held i ≡ true → w.leaving i ≡ true → told2.lost ≡ false
    → w.taken (i + 1) ≡ true)
    → ((i : ℕ) → told.place ≡ Way i → w.off ≡ true → w.missing (i + 1) ≡ true)
    → Right w told2 left2
place_same r stays place same took way off lost leaves on_floor = record {
  has_at = λ i has. place ∙ r.has_at i (stays.was i has);
  at_has = λ i is. stays.now i (r.at_has i (sym place ∙ is));
  way_left = λ i is. same i ∙ r.way_left i (sym place ∙ is);
  way_taken = λ i is. way i (sym place ∙ is);
  on_way = λ i gone taken none. place
      ∙ r.on_way i (sym (same i) ∙ gone) (took (i + 1) taken) (λ k has. none k (stays.now k has));
  off = off;
  lost = lost;
  leaves = leaves;
  on_floor = λ i is. on_floor i (sym place ∙ is);
  over = λ i gone taken has. r.over i (sym (same i) ∙ gone) (took (i + 1) taken) (stays.was i has);
}

place_nowhere : {w : View} {told2 : Told} {left2 : ℕ → Bool} → told2.place ≡ Nowhere
    → ((i : ℕ) → Has w i → ⊥) → (told2.lost ≡ true → w.off ≡ true)
    → ((i : ℕ) → left2 i ≡ true → w.taken (i + 1) ≡ true → ⊥) → Right w told2 left2
place_nowhere place none off gone = record {
  has_at = λ i has. absurd (none i has);
  at_has = λ i is. cc;
  way_left = λ i is. cc;
  way_taken = λ i is. cc;
  on_way = λ i left taken _. absurd (gone i left taken);
  off = off;
  lost = λ i _ has _. none i has;
  leaves = λ i held _ _. absurd (none i (inr held));
  on_floor = λ i is _. cc;
  over = λ i _ _ has. none i has;
}

way_is : {i k : ℕ} → Way i ≡ Way k → i ≡ k
way_is same = cc

at_is : {i k : ℕ} → At i ≡ At k → i ≡ k
at_is same = cc

place_way : (m : ℕ) {w : View} {told2 : Told} {left2 : ℕ → Bool} → told2.place ≡ Way m
    → ((i : ℕ) → Has w i → ⊥) → told2.lost ≡ false → left2 m ≡ true → w.taken (m + 1) ≡ true
    → (w.off ≡ true → w.missing (m + 1) ≡ true)
    → ((i : ℕ) → left2 i ≡ true → w.taken (i + 1) ≡ true → i ≡ m) → Right w told2 left2
place_way m {w = w} {left2 = left2} place none lost left taken missing gone = record {
  has_at = λ i has. absurd (none i has);
  at_has = λ i is. cc;
  way_left = λ i is. ap left2 (way_is (sym is ∙ place)) ∙ left;
  way_taken = λ i is. ap (λ k. w.taken (k + 1)) (way_is (sym is ∙ place)) ∙ taken;
  on_way = λ i gap above _. place ∙ ap Way (sym (gone i gap above));
  off = λ is. absurd (not_both is lost);
  lost = λ i _ has _. none i has;
  leaves = λ i held _ _. absurd (none i (inr held));
  on_floor = λ i is off. ap (λ k. w.missing (k + 1)) (way_is (sym is ∙ place)) ∙ missing off;
  over = λ i _ _ has. none i has;
}

place_here : (m : ℕ) {w : View} {told2 : Told} {left2 : ℕ → Bool} → told2.place ≡ At m → Has w m
    → ((i : ℕ) → Has w i → i ≡ m) → (told2.lost ≡ true → w.off ≡ true) → w.leaving m ≡ false
    → (told2.lost ≡ true → w.taken (m + 1) ≡ true → ⊥)
    → (left2 m ≡ true → w.taken (m + 1) ≡ true → ⊥) → Right w told2 left2
place_here m {w = w} {left2 = left2} place here only off read lost gone = record {
  has_at = λ i has. place ∙ ap At (sym (only i has));
  at_has = λ i is. subst (λ k. Has w k) (at_is (sym place ∙ is)) here;
  way_left = λ i is. cc;
  way_taken = λ i is. cc;
  on_way = λ i _ _ none. absurd (none m here);
  off = off;
  lost = λ i is has taken. lost is (sym (ap (λ k. w.taken (k + 1)) (only i has)) ∙ taken);
  leaves = λ i held leaving _.
      absurd (not_both (sym (ap w.leaving (only i (inr held))) ∙ leaving) read);
  on_floor = λ i is _. cc;
  over = λ i left taken has. gone (sym (ap left2 (only i has)) ∙ left)
      (sym (ap (λ k. w.taken (k + 1)) (only i has)) ∙ taken);
}

-- ---- what is told

place_of : {a b : Told} → a ≡ b → a.place ≡ b.place
place_of same = ap (λ (told : Told). told.place) same

lost_of : {a b : Told} → a ≡ b → a.lost ≡ b.lost
lost_of same = ap (λ (told : Told). told.lost) same

-- as it departs by a hand

by_hand : (m : ℕ) (told : Told) (place : Whereabouts) → told.place ≡ place
    → departs m ByHand told ≡ taken_from m place told
by_hand m told place is = ap (λ p. taken_from m p told) is

from_here : (m : ℕ) (told : Told) → taken_from m (At m) told ≡ record told { place = Nowhere }
from_here m told = rw (eq-eqb m m refl)

from_above : (j : ℕ) (told : Told) → taken_from (j + 1) (At j) told ≡ record told { lost = true }
from_above j told = rw (ne_eqb j (j + 1) (λ is. omega (arith, is)), eq-eqb (j + 1) (j + 1) refl)

from_way : (j : ℕ) (told : Told)
    → taken_from (j + 1) (Way j) told ≡ record told { place = Nowhere }
from_way j told = rw (eq-eqb (j + 1) (j + 1) refl)

-- ---- what the other machines have

at_machine : {P : ℕ → Type 0} (m : ℕ) → P m → ((i : ℕ) → i ≢ m → P i) → (i : ℕ) → P i
at_machine {P = P} m here there i =
    elim (same_or_not i m) [ inl is ↦ subst P (sym is) here | inr other ↦ there i other ]

was_there : {j : ℕ} {v w : View} → IsApart j v w → (i : ℕ) → i ≢ j + 1 → Has w i → Has v i
was_there apart i other (inl is) = inl (sym (apart.kept i other) ∙ is)
was_there apart i other (inr is) = inr (sym (apart.held i other) ∙ is)

is_there : {j : ℕ} {v w : View} → IsApart j v w → (i : ℕ) → i ≢ j + 1 → Has v i → Has w i
is_there apart i other (inl is) = inl (apart.kept i other ∙ is)
is_there apart i other (inr is) = inr (apart.held i other ∙ is)

stays_of : {j : ℕ} {v w : View} → IsApart j v w → HasAsBefore j v w → Stays v w
stays_of {j} {v} {w} apart has = record {
  was = at_machine {P = λ i. Has w i → Has v i} (j + 1) (was_here has) (was_there apart);
  now = at_machine {P = λ i. Has v i → Has w i} (j + 1) (is_here has) (is_there apart);
}
  where
    was_here : HasAsBefore j v w → Has w (j + 1) → Has v (j + 1)
    was_here (has_none _ _ kept held) it = absurd (has_not w (j + 1) kept held it)
    was_here (kept_or_held before behind) it = before

    is_here : HasAsBefore j v w → Has v (j + 1) → Has w (j + 1)
    is_here (has_none kept held _ _) it = absurd (has_not v (j + 1) kept held it)
    is_here (kept_or_held before behind) it = behind

taken_same : {j : ℕ} {v w : View} → IsApart j v w → TakesAsBefore j v w → (i : ℕ)
    → w.taken i ≡ v.taken i
taken_same {j} {v} {w} apart takes =
    at_machine {P = λ i. w.taken i ≡ v.taken i} (j + 1) takes.taken apart.taken

missing_same : {j : ℕ} {v w : View} → IsApart j v w → TakesAsBefore j v w
    → (i : ℕ) → v.taken i ≡ true → w.missing i ≡ v.missing i
missing_same {j} {v} {w} apart takes =
    at_machine {P = λ i. v.taken i ≡ true → w.missing i ≡ v.missing i} (j + 1)
    takes.missing (λ i other _. apart.missing i other)

-- it drops what its intake held
taken_before : {j : ℕ} {v w : View} → IsApart j v w → w.taken (j + 1) ≡ false → (i : ℕ)
    → w.taken i ≡ true → v.taken i ≡ true
taken_before {j} {v} {w} apart none =
    at_machine {P = λ i. w.taken i ≡ true → v.taken i ≡ true} (j + 1)
    (λ is. absurd (not_both is none)) (λ i other is. sym (apart.taken i other) ∙ is)

-- the machine that steps has read all events, so a board that will leave is another's
leaving_there : {j : ℕ} {v w : View} → IsApart j v w → (i : ℕ) → w.held i ≡ true
    → w.leaving i ≡ true → (v.held i ≡ true) × (v.leaving i ≡ true)
leaving_there {j = j} {w = w} apart i held leaving =
    let other : i ≢ j + 1 = λ is. not_both (sym (ap w.leaving is) ∙ leaving) apart.read in
    (sym (apart.held i other) ∙ held, sym (apart.leaving i other) ∙ leaving)

-- where the machine had the board and has it no more, none has
none_behind : {j : ℕ} {v w : View} {told : Told} {left : ℕ → Bool} → Right v told left
    → IsApart j v w → Has v (j + 1) → HasNone j w → (i : ℕ) → Has w i → ⊥
none_behind {j = j} {w = w} {told = told} r apart had none =
    at_machine {P = λ i. Has w i → ⊥} (j + 1) (has_not w (j + 1) none.kept none.held)
    (λ i other has.
    let at : told.place ≡ At i = r.has_at i (was_there apart i other has) in
    other (at_is (sym at ∙ r.has_at (j + 1) had)))

-- ---- it fares so

right_so : {j : ℕ} {v w : View} {told told2 : Told} {left left2 : ℕ → Bool} → Right v told left
    → IsApart j v w → HasAsBefore j v w → TakesAsBefore j v w → w.off ≡ v.off → told2 ≡ told
    → Same left left2 → Right w told2 left2
right_so {v = v} {w = w} r apart has takes off is same =
    let stays : Stays v w = stays_of apart has in
    let taken : (i : ℕ) → w.taken i ≡ v.taken i = taken_same apart takes in
    place_same r stays (place_of is) same
    (λ i on. sym (taken i) ∙ on)
    (λ i place. taken (i + 1) ∙ r.way_taken i place)
    (λ gone. off ∙ r.off (sym (lost_of is) ∙ gone))
    (λ i gone it on.
    r.lost i (sym (lost_of is) ∙ gone) (stays.was i it) (sym (taken (i + 1)) ∙ on))
    (λ i held leaving there.
    let both = leaving_there apart i held leaving in
    taken (i + 1) ∙ r.leaves i both.0 both.1 (sym (lost_of is) ∙ there))
    (λ i place gone.
    let missing : v.missing (i + 1) ≡ true = r.on_floor i place (sym off ∙ gone) in
    missing_same apart takes (i + 1) (r.way_taken i place) ∙ missing)

-- ---- it leaves

right_left : {j : ℕ} {v w : View} {told told2 : Told} {left left2 : ℕ → Bool} → Right v told left
    → IsSole v → IsPlaced v → IsApart j v w → v.held (j + 1) ≡ true → v.leaving (j + 1) ≡ true
    → HasNone j w → TakesAsBefore j v w → w.off ≡ v.off
    → told2 ≡ departs (j + 1) Transferred told → SetAt (j + 1) true left left2
    → Right w told2 left2
right_left {j} {v} {w} {told} {told2} {left} {left2}
    r sole placed apart held leaving none takes off is set =
    elim (cases_Bool told.lost) [ inl gone ↦ nowhere gone | inr there ↦ on there ]
  where
    taken : (i : ℕ) → w.taken i ≡ v.taken i
    taken = taken_same apart takes

    has : (i : ℕ) → Has w i → ⊥
    has = none_behind r apart (inr held) none

    gap_is : (i : ℕ) → w.taken (i + 1) ≡ true → i ≡ j + 1
    gap_is i on =
        same_place i (j + 1) (sole.held_above (j + 1) (i + 1) held (sym (taken (i + 1)) ∙ on))

    below_it : (i : ℕ) → w.taken (i + 1) ≡ true → v.taken (j + 1 + 1) ≡ true
    below_it i on =
        sym (taken (j + 1 + 1)) ∙ (sym (ap (λ k. w.taken (k + 1)) (gap_is i on)) ∙ on)

    nowhere : told.lost ≡ true → Right w told2 left2
    nowhere gone =
        place_nowhere (place_of is ∙ ap (λ lost. on_its_way lost (j + 1)) gone) has
        (λ _. off ∙ r.off gone)
        (λ i _ on. r.lost (j + 1) gone (inr held) (below_it i on))

    on : told.lost ≡ false → Right w told2 left2
    on there =
        let before : v.taken (j + 1 + 1) ≡ true = r.leaves (j + 1) held leaving there in
        place_way (j + 1) (place_of is ∙ ap (λ lost. on_its_way lost (j + 1)) there) has
        (lost_of is ∙ there) set.here (taken (j + 1 + 1) ∙ before)
        (λ gone. missing_same apart takes (j + 1 + 1) before
        ∙ placed.will_see (j + 1) held leaving before (sym off ∙ gone))
        (λ i _ is_on. gap_is i is_on)

-- ---- it goes by hand, or is gone

right_gone : {j : ℕ} {v w : View} {told told2 : Told} {left left2 : ℕ → Bool} → Right v told left
    → IsSole v → IsApart j v w → Has v (j + 1) → HasNone j w → TakesAsBefore j v w
    → (told.lost ≡ true → w.off ≡ true) → told2 ≡ departs (j + 1) ByHand told
    → Same left left2 → Right w told2 left2
right_gone {j} {v} {w} {told} {told2} r sole apart had none takes off is same =
    let at : departs (j + 1) ByHand told ≡ taken_from (j + 1) (At (j + 1)) told =
    by_hand (j + 1) told (At (j + 1)) (r.has_at (j + 1) had) in
    let told_is : told2 ≡ record told { place = Nowhere } = is ∙ (at ∙ from_here (j + 1) told) in
    place_nowhere (place_of told_is) (none_behind r apart had none)
    (λ gone. off (sym (lost_of told_is) ∙ gone))
    (λ i gone on.
    let taken : v.taken (i + 1) ≡ true = sym (taken_same apart takes (i + 1)) ∙ on in
    let here : i ≡ j + 1 = same_place i (j + 1) (below sole (j + 1) (i + 1) had taken) in
    r.over i (sym (same i) ∙ gone) taken (subst (λ k. Has v k) (sym here) had))

-- ---- it settles, or comes by hand

one_more : {k : ℕ} → k ≡ k + 1 → ⊥
one_more is = omega (arith, is)

right_settled : {j : ℕ} {v w : View} {told told2 : Told} {left left2 : ℕ → Bool}
    → Right v told left → IsSole v → IsApart j v w → v.taken (j + 1) ≡ true → v.kept j ≡ false
    → v.held j ≡ false → Has w (j + 1) → w.off ≡ v.off
    → told2 ≡ record told { place = At (j + 1) } → Right w told2 left2
right_settled {j} {v} {w} r sole apart taken kept held has off is =
    place_here (j + 1) (place_of is) has
    (at_machine {P = λ i. Has w i → i ≡ j + 1} (j + 1) (λ _. refl) (λ i other it.
    absurd (none i (was_there apart i other it))))
    (λ gone. off ∙ r.off (sym (lost_of is) ∙ gone)) apart.read (λ _. free) (λ _. free)
  where
    free : w.taken (j + 1 + 1) ≡ true → ⊥
    free on =
        let before : v.taken (j + 1 + 1) ≡ true =
        sym (apart.taken (j + 1 + 1) (λ same. one_more (sym same))) ∙ on in
        one_more (sole.one_taken (j + 1) (j + 1 + 1) taken before)

    none : (i : ℕ) → Has v i → ⊥
    none i had =
        let above : j ≡ i = same_place j i (below sole i (j + 1) had taken) in
        has_not v j kept held (subst (λ k. Has v k) (sym above) had)

right_new : {j : ℕ} {v w : View} {told told2 : Told} {left left2 : ℕ → Bool} → IsApart j v w
    → told ≡ nothing_told → ((i : ℕ) → left i ≡ false) → ((i : ℕ) → v.kept i ≡ false)
    → ((i : ℕ) → v.held i ≡ false) → w.kept (j + 1) ≡ true
    → told2 ≡ record told { place = At (j + 1) } → Same left left2 → Right w told2 left2
right_new {j} {v} {w} {told} {told2} apart nothing none kept held has is same =
    let lost : told2.lost ≡ false = lost_of is ∙ lost_of nothing in
    place_here (j + 1) (place_of is) (inl has)
    (at_machine {P = λ i. Has w i → i ≡ j + 1} (j + 1) (λ _. refl) (λ i other it.
    absurd (has_not v i (kept i) (held i) (was_there apart i other it))))
    (λ gone. absurd (not_both gone lost)) apart.read (λ gone _. not_both gone lost)
    (λ gone _. not_both (sym (same (j + 1)) ∙ gone) (none (j + 1)))

-- ---- it is dropped, since it was taken out

-- from the machine above: it is lost
missing_above : {j : ℕ} {v w : View} {told told2 : Told} {left left2 : ℕ → Bool}
    → Right v told left → IsSole v → IsApart j v w → v.taken (j + 1) ≡ true
    → HasAsBefore j v w → w.taken (j + 1) ≡ false → w.off ≡ true
    → told2 ≡ record told { lost = true } → Same left left2
    → (i : ℕ) → told.place ≡ At i → Right w told2 left2
missing_above {j} {v} {w} r sole apart taken has free gone is same at place =
    let stays : Stays v w = stays_of apart has in
    place_same r stays (place_of is) same (taken_before apart free)
    (λ i way. cc) (λ _. gone)
    (λ i _ it on.
    let here : j + 1 ≡ i + 1 = below sole i (j + 1) (stays.was i it) taken in
    not_both on (sym (ap w.taken here) ∙ free))
    (λ i _ _ there. absurd (not_both (lost_of is) there))
    (λ i way _. cc)

-- on its way, or with nothing known of it
missing_nowhere : {j : ℕ} {v w : View} {told2 : Told} {left2 : ℕ → Bool}
    → IsSole v → IsApart j v w → v.taken (j + 1) ≡ true → HasAsBefore j v w
    → w.taken (j + 1) ≡ false → w.off ≡ true → told2.place ≡ Nowhere
    → ((i : ℕ) → Has v i → ⊥) → Right w told2 left2
missing_nowhere {j} {v} {w} sole apart taken has free gone place none =
    let stays : Stays v w = stays_of apart has in
    place_nowhere place (λ i it. none i (stays.was i it)) (λ _. gone)
    (λ i _ on.
    let here : j + 1 ≡ i + 1 =
    sole.one_taken (j + 1) (i + 1) taken (taken_before apart free (i + 1) on) in
    not_both on (sym (ap w.taken here) ∙ free))

missing_at : {j : ℕ} {v w : View} {told told2 : Told} {left left2 : ℕ → Bool}
    → Right v told left → IsSole v → IsApart j v w → v.taken (j + 1) ≡ true
    → HasAsBefore j v w → w.taken (j + 1) ≡ false → w.off ≡ true
    → told2 ≡ departs (j + 1) ByHand told → Same left left2
    → (place : Whereabouts) → told.place ≡ place → Right w told2 left2
missing_at {j} {told = told} r sole apart taken has free gone is same (At i) place =
    let gap : i ≡ j = sym (same_place j i (below sole i (j + 1) (r.at_has i place) taken)) in
    missing_above r sole apart taken has free gone
    (is ∙ (by_hand (j + 1) told (At j) (place ∙ ap At gap) ∙ from_above j told)) same i place
missing_at {j} {told = told} r sole apart taken has free gone is same (Way i) place =
    let gap : i ≡ j =
    same_place i j (sole.one_taken (i + 1) (j + 1) (r.way_taken i place) taken) in
    missing_nowhere sole apart taken has free gone
    (place_of (is ∙ (by_hand (j + 1) told (Way j) (place ∙ ap Way gap) ∙ from_way j told)))
    (λ k it. let at : told.place ≡ At k = r.has_at k it in cc)
missing_at {j} {told = told} r sole apart taken has free gone is same Nowhere place =
    missing_nowhere sole apart taken has free gone
    (place_of (is ∙ by_hand (j + 1) told Nowhere place) ∙ place)
    (λ k it. let at : told.place ≡ At k = r.has_at k it in cc)

right_missing : {j : ℕ} {v w : View} {told told2 : Told} {left left2 : ℕ → Bool}
    → Right v told left → IsSole v → IsPlaced v → IsApart j v w → v.taken (j + 1) ≡ true
    → v.missing (j + 1) ≡ true → HasAsBefore j v w → w.taken (j + 1) ≡ false → w.off ≡ v.off
    → told2 ≡ departs (j + 1) ByHand told → Same left left2 → Right w told2 left2
right_missing {j} {told = told} r sole placed apart taken missing has free off is same =
    missing_at r sole apart taken has free (off ∙ placed.nowhere j taken missing) is same
    told.place refl

-- ---- it is dropped, since it is upstream: it is not on its way then

no_way : {j : ℕ} {v : View} {told : Told} {left : ℕ → Bool} → Right v told left
    → v.missing (j + 1) ≡ false → (v.held j ≡ false → v.off ≡ false → v.kept j ≡ true)
    → told.place ≡ Way j → ⊥
no_way {j} {v} r missing there place =
    let none : Has v j → ⊥ = r.over j (r.way_left j place) (r.way_taken j place) in
    let on : v.off ≡ false = false_from_ne_true v.off (λ gone. not_both (r.on_floor j place gone) missing) in
    none (inl (there (false_from_ne_true (v.held j) (λ is. none (inr is))) on))

-- what will leave is not above it
leaving_else : {j : ℕ} {v w : View} → IsApart j v w → (v.held j ≡ true → v.leaving j ≡ false)
    → (i : ℕ) → v.held i ≡ true → v.leaving i ≡ true → v.taken (i + 1) ≡ true
    → w.taken (i + 1) ≡ true
leaving_else {j} {v} apart stays_above i held leaving taken =
    let other : i ≢ j = λ above. not_both (sym (ap v.leaving above) ∙ leaving)
    (stays_above (sym (ap v.held above) ∙ held)) in
    apart.taken (i + 1) (λ gap. other (same_place i j gap)) ∙ taken

right_upstream : {j : ℕ} {v w : View} {told told2 : Told} {left left2 : ℕ → Bool}
    → Right v told left → IsSole v → IsApart j v w → v.taken (j + 1) ≡ true
    → v.missing (j + 1) ≡ false → (v.held j ≡ true → v.leaving j ≡ false)
    → (v.held j ≡ false → v.off ≡ false → v.kept j ≡ true) → HasAsBefore j v w
    → w.taken (j + 1) ≡ false → w.off ≡ v.off → told2 ≡ told → Same left left2
    → Right w told2 left2
right_upstream {j} {v} {w} {told}
    r sole apart taken missing stays_above there has free off is same =
    place_same r stays (place_of is) same took
    (λ i place. absurd (never i place))
    (λ gone. off ∙ r.off (sym (lost_of is) ∙ gone))
    (λ i gone it on. r.lost i (sym (lost_of is) ∙ gone) (stays.was i it) (took (i + 1) on))
    (λ i held leaving here.
    let both = leaving_there apart i held leaving in
    leaving_else apart stays_above i both.0 both.1
    (r.leaves i both.0 both.1 (sym (lost_of is) ∙ here)))
    (λ i place _. absurd (never i place))
  where
    stays : Stays v w
    stays = stays_of apart has

    took : (i : ℕ) → w.taken i ≡ true → v.taken i ≡ true
    took = taken_before apart free

    never : (i : ℕ) → told.place ≡ Way i → ⊥
    never i place =
        let gap : i ≡ j =
        same_place i j (sole.one_taken (i + 1) (j + 1) (r.way_taken i place) taken) in
        no_way r missing there (place ∙ ap Way gap)

-- ---- WHATEVER BECOMES OF IT

right_behind : {j : ℕ} {v w : View} {told told2 : Told} {left left2 : ℕ → Bool} → Right v told left
    → IsSole v → IsPlaced v → IsApart j v w → Fares j v w told told2 left left2
    → Right w told2 left2
right_behind r sole placed apart (fares_so has takes off is same) =
    right_so r apart has takes off is same
right_behind r sole placed apart (fares_leaves held leaving none takes off is set) =
    right_left r sole placed apart held leaving none takes off is set
right_behind r sole placed apart (fares_lost held none takes off is same) =
    right_gone r sole apart (inr held) none takes (λ gone. off ∙ r.off gone) is same
right_behind r sole placed apart (fares_settles taken kept held on free has off is same) =
    right_settled r sole apart taken kept held has off is
right_behind r sole placed apart (fares_missing taken missing has free off is same) =
    right_missing r sole placed apart taken missing has free off is same
right_behind r sole placed apart (fares_upstream taken missing stays there has free off is same) =
    right_upstream r sole apart taken missing stays there has free off is same
right_behind r sole placed apart (fares_new nothing none kept held taken has free is same) =
    right_new apart nothing none kept held has is same
right_behind r sole placed apart (fares_removed kept none takes off is same) =
    right_gone r sole apart (inl kept) none takes (λ _. off) is same

-- ---- what has left stays below

-- the machines have no more than before, and the board doesn't come back to the floor
passed_less : {v w : View} {left left2 : ℕ → Bool} → HasPassed v left
    → ((i : ℕ) → Has w i → Has v i) → ((i : ℕ) → w.taken i ≡ true → v.taken i ≡ true)
    → (v.off ≡ true → w.off ≡ true) → Same left left2 → HasPassed w left2
passed_less passed has takes off same = record {
  has = λ k i gone above it. passed.has k i (sym (same k) ∙ gone) above (has i it);
  takes = λ k i gone above it. off (passed.takes k i (sym (same k) ∙ gone) above (takes i it));
}

-- its machine has it no more
was_before : {j : ℕ} {v w : View} → IsApart j v w → HasNone j w → (i : ℕ) → Has w i → Has v i
was_before {j} {v} {w} apart none =
    at_machine {P = λ i. Has w i → Has v i} (j + 1)
    (λ it. absurd (has_not w (j + 1) none.kept none.held it)) (was_there apart)

passed_so : {j : ℕ} {v w : View} {left left2 : ℕ → Bool} → HasPassed v left → IsApart j v w
    → HasAsBefore j v w → ((i : ℕ) → w.taken i ≡ true → v.taken i ≡ true) → w.off ≡ v.off
    → Same left left2 → HasPassed w left2
passed_so {v = v} {w = w} passed apart has takes off same =
    let stays : Stays v w = stays_of apart has in
    passed_less passed stays.was takes (λ is. off ∙ is) same

passed_gone : {j : ℕ} {v w : View} {left left2 : ℕ → Bool} → HasPassed v left → IsApart j v w
    → HasNone j w → TakesAsBefore j v w → (v.off ≡ true → w.off ≡ true) → Same left left2
    → HasPassed w left2
passed_gone passed apart none takes off same =
    passed_less passed (was_before apart none)
    (λ i is. sym (taken_same apart takes i) ∙ is) off same

-- it leaves: no machine has it, and only the intake below takes it
passed_left : {j : ℕ} {v w : View} {told : Told} {left left2 : ℕ → Bool} → Right v told left
    → HasPassed v left → IsSole v → IsApart j v w → v.held (j + 1) ≡ true → HasNone j w
    → TakesAsBefore j v w → w.off ≡ v.off → SetAt (j + 1) true left left2 → HasPassed w left2
passed_left {j} {v} {w} {left = left} {left2 = left2} r passed sole apart held none takes off set =
    record {
      has = λ k i gone above it. none_behind r apart (inr held) none i it;
      takes = λ k i gone above is. elim (same_or_not k (j + 1)) [
        | inl here ↦ absurd (let at : i ≡ j + 1 + 1 = sole.held_above (j + 1) i held (before i is)
            in omega (arith, at, here, above))
        | inr other ↦
            off ∙ passed.takes k i (sym (set.there k other) ∙ gone) above (before i is)
      ];
    }
  where
    before : (i : ℕ) → w.taken i ≡ true → v.taken i ≡ true
    before i is = sym (taken_same apart takes i) ∙ is

-- it settles: it is on the floor, so it has not left below
passed_settled : {j : ℕ} {v w : View} {left left2 : ℕ → Bool} → HasPassed v left → IsApart j v w
    → v.taken (j + 1) ≡ true → v.off ≡ false → w.taken (j + 1) ≡ false → w.off ≡ v.off
    → Same left left2 → HasPassed w left2
passed_settled {j} {v} {w} {left} {left2} passed apart taken on free off same = record {
  has = λ k i gone above it. elim (same_or_not i (j + 1)) [
    | inl here ↦ not_both (passed.takes k i (was k gone) above (ap v.taken here ∙ taken)) on
    | inr other ↦ passed.has k i (was k gone) above (was_there apart i other it)
  ];
  takes = λ k i gone above is.
      off ∙ passed.takes k i (was k gone) above (taken_before apart free i is);
}
  where
    was : (k : ℕ) → left2 k ≡ true → left k ≡ true
    was k gone = sym (same k) ∙ gone

passed_behind : {j : ℕ} {v w : View} {told told2 : Told} {left left2 : ℕ → Bool}
    → Right v told left → HasPassed v left → IsSole v → IsApart j v w → Fares j v w told told2 left left2
    → HasPassed w left2
passed_behind r passed sole apart (fares_so has takes off is same) =
    passed_so passed apart has (λ i on. sym (taken_same apart takes i) ∙ on) off same
passed_behind r passed sole apart (fares_leaves held leaving none takes off is set) =
    passed_left r passed sole apart held none takes off set
passed_behind r passed sole apart (fares_lost held none takes off is same) =
    passed_gone passed apart none takes (λ gone. off ∙ gone) same
passed_behind r passed sole apart (fares_settles taken kept held on free has off is same) =
    passed_settled passed apart taken on free off same
passed_behind r passed sole apart (fares_missing taken missing has free off is same) =
    passed_so passed apart has (taken_before apart free) off same
passed_behind r passed sole apart (fares_upstream taken missing stays there has free off is same) =
    passed_so passed apart has (taken_before apart free) off same
passed_behind r passed sole apart (fares_new nothing none kept held taken has free is same) =
    record {
      has = λ k i gone above it. not_both (sym (same k) ∙ gone) (none k);
      takes = λ k i gone above it. absurd (not_both (sym (same k) ∙ gone) (none k));
    }
passed_behind r passed sole apart (fares_removed kept none takes off is same) =
    passed_gone passed apart none takes (λ gone. off) same

pub faring : (j : ℕ) (v w : View) (told told2 : Told) (left left2 : ℕ → Bool) → Holds v told left
    → IsSole v → IsPlaced v → IsApart j v w → Fares j v w told told2 left left2
    → Holds w told2 left2
faring j v w told told2 left left2 h sole placed apart fares =
    let r : Right v told left = right_of v told left h in
    holds_of w told2 left2 (right_behind r sole placed apart fares)
    (passed_behind r (passed_of v told left h) sole apart fares)

-- ---- a start at its end

has_same : {v w : View} → ((i : ℕ) → w.kept i ≡ v.kept i) → ((i : ℕ) → w.held i ≡ v.held i)
    → Stays v w
has_same kept held = record {
  was = λ i it. elim it [ inl is ↦ inl (sym (kept i) ∙ is) | inr is ↦ inr (sym (held i) ∙ is) ];
  now = λ i it. elim it [ inl is ↦ inl (kept i ∙ is) | inr is ↦ inr (held i ∙ is) ];
}

-- where the machine above has the board, that is on the floor
none_lost : {j : ℕ} {v w : View} {told : Told} {left left2 : ℕ → Bool} → Right v told left
    → IsStarted j v w left left2 → (w.kept j ≡ true → w.off ≡ false) → told.lost ≡ true
    → Has w j → ⊥
none_lost r started on lost (inl kept) = not_both (started.off ∙ r.off lost) (on kept)
none_lost {j = j} r started on lost (inr held) =
    not_both (r.off lost) (started.there (sym (started.held j) ∙ held))

right_started : {j : ℕ} {v w : View} {told : Told} {left left2 : ℕ → Bool} → Right v told left
    → IsStarted j v w left left2 → (w.kept j ≡ true → w.off ≡ false) → Right w told left2
right_started {j} {v} {w} {told} {left} {left2} r started on = record {
  has_at = λ i it. r.has_at i (stays.was i it);
  at_has = λ i place. stays.now i (r.at_has i place);
  way_left = λ i place. started.cleared.there i (other_way i place) ∙ r.way_left i place;
  way_taken = λ i place. taken i (other_way i place) ∙ r.way_taken i place;
  on_way = λ i gone is none. r.on_way i (was_left i gone)
      (sym (taken i (other_left i gone)) ∙ is) (λ k it. none k (stays.now k it));
  off = λ lost. started.off ∙ r.off lost;
  lost = λ i lost it is. elim (same_or_not i j) [
    | inl here ↦ none_lost r started on lost (subst (λ k. Has w k) here it)
    | inr other ↦ r.lost i lost (stays.was i it) (sym (taken i other) ∙ is)
  ];
  leaves = λ i held leaving there. elim (same_or_not i j) [
    | inl here ↦ ap (λ k. w.taken (k + 1)) here ∙ started.taken
    | inr other ↦ taken i other
        ∙ r.leaves i (sym (started.held i) ∙ held) (sym (started.leaving i) ∙ leaving) there
  ];
  on_floor = λ i place gone.
      started.missing (i + 1) (λ gap. other_way i place (same_place i j gap))
      ∙ r.on_floor i place (sym started.off ∙ gone);
  over = λ i gone is it. r.over i (was_left i gone)
      (sym (taken i (other_left i gone)) ∙ is) (stays.was i it);
}
  where
    stays : Stays v w
    stays = has_same started.kept started.held

    other_way : (i : ℕ) → told.place ≡ Way i → i ≢ j
    other_way i place here =
        not_both (sym (ap (λ k. v.taken (k + 1)) here) ∙ r.way_taken i place) started.none

    other_left : (i : ℕ) → left2 i ≡ true → i ≢ j
    other_left i gone here = not_both (sym (ap left2 here) ∙ gone) started.cleared.here

    was_left : (i : ℕ) → left2 i ≡ true → left i ≡ true
    was_left i gone = sym (started.cleared.there i (other_left i gone)) ∙ gone

    taken : (i : ℕ) → i ≢ j → w.taken (i + 1) ≡ v.taken (i + 1)
    taken i other = started.others (i + 1) (λ gap. other (same_place i j gap))

-- what has left below is started but where it is off the floor
passed_started : {j : ℕ} {v w : View} {left left2 : ℕ → Bool} → HasPassed v left
    → IsStarted j v w left left2 → HasPassed w left2
passed_started {j} {v} {w} {left} {left2} passed started = record {
  has = λ k i gone above it. passed.has k i (was k gone) above (stays.was i it);
  takes = λ k i gone above is. started.off ∙ elim (same_or_not i (j + 1)) [
    | inl here ↦ off_by k (was k gone) (omega (arith, above, here)) started.from
    | inr other ↦ passed.takes k i (was k gone) above (sym (started.others i other) ∙ is)
  ];
}
  where
    stays : Stays v w
    stays = has_same started.kept started.held

    was : (k : ℕ) → left2 k ≡ true → left k ≡ true
    was k gone =
        let other : k ≢ j = λ here. not_both (sym (ap left2 here) ∙ gone) started.cleared.here in
        sym (started.cleared.there k other) ∙ gone

    off_by : (k : ℕ) → left k ≡ true → j ≤ k → IsFrom j v v.off → v.off ≡ true
    off_by k gone above (inl kept) = absurd (passed.has k j gone above (inl kept))
    off_by k gone above (inr (inl held)) = absurd (passed.has k j gone above (inr held))
    off_by k gone above (inr (inr off)) = off

pub starting : (j : ℕ) (v w : View) (told : Told) (left left2 : ℕ → Bool) → Holds v told left
    → IsStarted j v w left left2 → (w.kept j ≡ true → w.off ≡ false) → Holds w told left2
starting j v w told left left2 h started on =
    holds_of w told left2 (right_started (right_of v told left h) started on)
    (passed_started (passed_of v told left h) started)

-- ---- a move on the floor

-- of a board that is taken out on its way the entry below sees it
sees_it : {v w : View} {told : Told} {left : ℕ → Bool} → Right v told left → IsSole v → IsMoved v w
    → (i : ℕ) → told.place ≡ Way i → w.off ≡ true → w.missing (i + 1) ≡ true
sees_it {v = v} {w = w} {told = told} r sole moved i place gone = elim (cases_Bool v.off) [
  | inl before ↦ moved.missing (i + 1) (r.on_floor i place before)
  | inr there ↦ out_of (moved.taken_out there gone)
]
  where
    out_of : (k : ℕ)
        × ((v.held k ≡ true) ⊎ ((v.taken (k + 1) ≡ true) × (w.missing (k + 1) ≡ true)))
        → w.missing (i + 1) ≡ true
    out_of (k, inl held) = let at : told.place ≡ At k = r.has_at k (inr held) in cc
    out_of (k, inr both) =
        ap w.missing (sole.one_taken (i + 1) (k + 1) (r.way_taken i place) both.0) ∙ both.1

pub moving : (v w : View) (told : Told) (left : ℕ → Bool) → Holds v told left → IsSole v
    → IsPlaced w → IsMoved v w → Holds w told left
moving v w told left h sole placed moved =
    holds_of w told left (place_same r stays refl (λ _. refl)
    (λ i is. sym (moved.taken i) ∙ is)
    (λ i place. moved.taken (i + 1) ∙ r.way_taken i place)
    (λ lost. moved.off (r.off lost))
    (λ i lost it is. r.lost i lost (stays.was i it) (sym (moved.taken (i + 1)) ∙ is))
    (λ i held leaving there. elim (moved.leaving i held leaving) [
      | inl before ↦ moved.taken (i + 1) ∙ r.leaves i (sym (moved.held i) ∙ held) before there
      | inr on ↦ placed.beyond i held leaving on
    ])
    (sees_it r sole moved))
    (passed_less (passed_of v told left h) stays.was (λ i is. sym (moved.taken i) ∙ is) moved.off
    (λ _. refl))
  where
    r : Right v told left
    r = right_of v told left h

    stays : Stays v w
    stays = has_same moved.kept moved.held

-- ---- and of functions that are the same

pub holds_as : (v w : View) (told : Told) (left left2 : ℕ → Bool) → IsSame v w
    → ((i : ℕ) → left2 i ≡ left i) → Holds v told left → Holds w told left2
holds_as v w told left left2 same lefts h =
    holds_of w told left2 (place_same r stays refl lefts
    (λ i is. sym (same.taken i) ∙ is)
    (λ i place. same.taken (i + 1) ∙ r.way_taken i place)
    (λ lost. same.off ∙ r.off lost)
    (λ i lost it is. r.lost i lost (stays.was i it) (sym (same.taken (i + 1)) ∙ is))
    (λ i held leaving there. same.taken (i + 1)
    ∙ r.leaves i (sym (same.held i) ∙ held) (sym (same.leaving i) ∙ leaving) there)
    (λ i place gone. same.missing (i + 1) ∙ r.on_floor i place (sym same.off ∙ gone)))
    (passed_less (passed_of v told left h) stays.was (λ i is. sym (same.taken i) ∙ is)
    (λ is. same.off ∙ is) lefts)
  where
    r : Right v told left
    r = right_of v told left h

    stays : Stays v w
    stays = has_same same.kept same.held

-- ---- after a first step in which the machine's intake holds what it held

-- the marks have one standing still, where the machine has not the board twice
had_before : {j : ℕ} {v w : View} {told told2 : Told} {left left2 : ℕ → Bool} → IsApart j v w
    → w.taken (j + 1) ≡ v.taken (j + 1) → Fares j v w told told2 left left2
    → (k : ℕ) → v.taken k ≡ true → Has w (j + 1) → Has v (j + 1)
had_before {j} apart same (fares_so has _ _ _ _) k taken it = (stays_of apart has).was (j + 1) it
had_before {j} {w = w} apart same (fares_leaves _ _ none _ _ _ _) k taken it =
    absurd (has_not w (j + 1) none.kept none.held it)
had_before {j} {w = w} apart same (fares_lost _ none _ _ _ _) k taken it =
    absurd (has_not w (j + 1) none.kept none.held it)
had_before apart same (fares_settles before _ _ _ free _ _ _ _) k taken it =
    absurd (not_both (same ∙ before) free)
had_before apart same (fares_missing before _ _ free _ _ _) k taken it =
    absurd (not_both (same ∙ before) free)
had_before apart same (fares_upstream before _ _ _ _ free _ _ _) k taken it =
    absurd (not_both (same ∙ before) free)
had_before apart same (fares_new _ _ _ _ none _ _ _ _) k taken it =
    absurd (not_both taken (none k))
had_before {j} {w = w} apart same (fares_removed _ none _ _ _ _) k taken it =
    absurd (has_not w (j + 1) none.kept none.held it)

pub sole_behind : (j : ℕ) (v w : View) (told told2 : Told) (left left2 : ℕ → Bool) → IsSole v
    → IsApart j v w → w.taken (j + 1) ≡ v.taken (j + 1) → Fares j v w told told2 left left2
    → (w.kept (j + 1) ≡ true → w.held (j + 1) ≡ false) → IsSole w
sole_behind j v w told told2 left left2 sole apart same fares own = record {
  one_taken = λ i k one other. sole.one_taken i k (sym (taken i) ∙ one) (sym (taken k) ∙ other);
  kept_above = λ i k kept on. above i k (inl kept) (sym (taken k) ∙ on);
  held_above = λ i k held on. above i k (inr held) (sym (taken k) ∙ on);
  apart = at_machine {P = λ i. w.kept i ≡ true → w.held i ≡ false} (j + 1) own
      (λ i other kept. apart.held i other ∙ sole.apart i (sym (apart.kept i other) ∙ kept));
}
  where
    taken : (i : ℕ) → w.taken i ≡ v.taken i
    taken = at_machine {P = λ i. w.taken i ≡ v.taken i} (j + 1) same apart.taken

    above : (i k : ℕ) → Has w i → v.taken k ≡ true → k ≡ i + 1
    above i k it on =
        let was : (n : ℕ) → Has w n → Has v n = at_machine {P = λ n. Has w n → Has v n} (j + 1)
        (had_before apart same fares k on) (was_there apart) in
        below sole i k (was i it) on

-- and the board is where it was: on the floor or off it, as before
record IsThere (j : ℕ) (v w : View) : Type 0 where
  missing : (i : ℕ) → v.taken i ≡ true → w.missing i ≡ v.missing i
  gone : (i : ℕ) → v.taken i ≡ true → v.off ≡ true → w.off ≡ true
  on : (i : ℕ) → v.held i ≡ true → w.off ≡ false → v.off ≡ false
  out : (i : ℕ) → i ≢ j + 1 → v.held i ≡ true → v.taken (i + 1) ≡ true → w.off ≡ true
      → v.off ≡ true

there_so : {j : ℕ} {v w : View} → IsApart j v w → TakesAsBefore j v w → w.off ≡ v.off
    → IsThere j v w
there_so apart takes off = record {
  missing = missing_same apart takes;
  gone = λ i _ is. off ∙ is;
  on = λ i _ is. sym off ∙ is;
  out = λ i _ _ _ is. sym off ∙ is;
}

there_removed : {j : ℕ} {v w : View} → IsSole v → IsApart j v w → v.kept (j + 1) ≡ true
    → TakesAsBefore j v w → w.off ≡ true → IsThere j v w
there_removed {j = j} sole apart kept takes off = record {
  missing = missing_same apart takes;
  gone = λ i _ _. off;
  on = λ i _ is. absurd (not_both off is);
  out = λ i other _ taken _.
      absurd (other (same_place i (j + 1) (sole.kept_above (j + 1) (i + 1) kept taken)));
}

there_new : {j : ℕ} {v w : View} → ((i : ℕ) → v.held i ≡ false) → ((i : ℕ) → v.taken i ≡ false)
    → IsThere j v w
there_new held none = record {
  missing = λ i taken. absurd (not_both taken (none i));
  gone = λ i taken _. absurd (not_both taken (none i));
  on = λ i is _. absurd (not_both is (held i));
  out = λ i _ is _ _. absurd (not_both is (held i));
}

is_where : {j : ℕ} {v w : View} {told told2 : Told} {left left2 : ℕ → Bool} → IsSole v
    → IsApart j v w → w.taken (j + 1) ≡ v.taken (j + 1) → Fares j v w told told2 left left2
    → IsThere j v w
is_where sole apart same (fares_so _ takes off _ _) = there_so apart takes off
is_where sole apart same (fares_leaves _ _ _ takes off _ _) = there_so apart takes off
is_where sole apart same (fares_lost _ _ takes off _ _) = there_so apart takes off
is_where sole apart same (fares_settles before _ _ _ free _ _ _ _) =
    absurd (not_both (same ∙ before) free)
is_where sole apart same (fares_missing before _ _ free _ _ _) =
    absurd (not_both (same ∙ before) free)
is_where sole apart same (fares_upstream before _ _ _ _ free _ _ _) =
    absurd (not_both (same ∙ before) free)
is_where sole apart same (fares_new _ _ _ held none _ _ _ _) = there_new held none
is_where sole apart same (fares_removed kept _ takes off _ _) =
    there_removed sole apart kept takes off

placed_there : {j : ℕ} {v w : View} → IsPlaced v → IsApart j v w
    → w.taken (j + 1) ≡ v.taken (j + 1) → IsThere j v w → IsPlaced w
placed_there {j} {v} {w} placed apart same there = record {
  beyond = λ i held leaving on.
      let both = leaving_there apart i held leaving in
      taken (i + 1) ∙ placed.beyond i both.0 both.1 (there.on i both.0 on);
  nowhere = λ i is missing.
      let before : v.taken (i + 1) ≡ true = sym (taken (i + 1)) ∙ is in
      let known : v.missing (i + 1) ≡ true = sym (there.missing (i + 1) before) ∙ missing in
      there.gone (i + 1) before (placed.nowhere i before known);
  will_see = λ i held leaving is out.
      let both = leaving_there apart i held leaving in
      let before : v.taken (i + 1) ≡ true = sym (taken (i + 1)) ∙ is in
      let gone : v.off ≡ true = there.out i (other i leaving) both.0 before out in
      there.missing (i + 1) before ∙ placed.will_see i both.0 both.1 before gone;
}
  where
    taken : (i : ℕ) → w.taken i ≡ v.taken i
    taken = at_machine {P = λ i. w.taken i ≡ v.taken i} (j + 1) same apart.taken

    other : (i : ℕ) → w.leaving i ≡ true → i ≢ j + 1
    other i leaving is = not_both (sym (ap w.leaving is) ∙ leaving) apart.read

pub placed_behind : (j : ℕ) (v w : View) (told told2 : Told) (left left2 : ℕ → Bool) → IsSole v
    → IsPlaced v → IsApart j v w → w.taken (j + 1) ≡ v.taken (j + 1)
    → Fares j v w told told2 left left2 → IsPlaced w
placed_behind j v w told told2 left left2 sole placed apart same fares =
    placed_there placed apart same (is_where sole apart same fares)
