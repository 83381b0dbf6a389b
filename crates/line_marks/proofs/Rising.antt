-- Ids in ascending order: each once, and all of those that were put into it.
use Rattle.std.proofs.Common.{◌≡◌, ◌∙◌, ◌==◌, ◌<◌, ◌||◌, ◌⊎◌, ℕ, Bool, true, false, List, [], ◌∷◌, inl, inr, refl, sym, ap, subst, arith, ne_eqb}
use Rattle.std.specs.List.{AllByRecursion}
use Rattle.std.proofs.lemmas.Bool.{cases_order}
use Rattle.standings.specs.Marks.{has_id}
use Rattle.line_step.specs.Shown.{ascending, with_id}
use Rattle.line_step.proofs.Ascending.{with_above, with_below, with_same}

abbrev AreAbove : ℕ → List ℕ → Type 0
AreAbove least ids = AllByRecursion (λ (id : ℕ). least < id) ids

abbrev pub IsRising : List ℕ → Type 0
IsRising [] = Unit {0}
IsRising (first ∷ ids) = AreAbove first ids × IsRising ids

above_more : (least first : ℕ) (ids : List ℕ) → least < first → AreAbove first ids → AreAbove least ids
above_more least first [] h all = tt
above_more least first (id ∷ ids) h all = (omega (arith, h, all.0), above_more least first ids h all.1)

above_with_by : (least id c : ℕ) (s : List ℕ) → least < id → AreAbove least (c ∷ s) → AreAbove least (with_id id s) → (id ≡ c) ⊎ ((id < c) ⊎ (c < id)) → AreAbove least (with_id id (c ∷ s))
above_with_by least id c s h all later (inl k) = subst (λ (n : ℕ). AreAbove least (with_id n (c ∷ s))) (sym k) (subst (AreAbove least) (sym (with_same c s)) all)
above_with_by least id c s h all later (inr (inl k)) = subst (AreAbove least) (sym (with_below id c s k)) (h, all)
above_with_by least id c s h all later (inr (inr k)) = subst (AreAbove least) (sym (with_above id c s k)) (all.0, later)

above_with : (least id : ℕ) (s : List ℕ) → least < id → AreAbove least s → AreAbove least (with_id id s)
above_with least id [] h all = (h, tt)
above_with least id (c ∷ s) h all = above_with_by least id c s h all (above_with least id s h all.1) (cases_order id c)

rising_with_by : (id c : ℕ) (s : List ℕ) → IsRising (c ∷ s) → IsRising (with_id id s) → (id ≡ c) ⊎ ((id < c) ⊎ (c < id)) → IsRising (with_id id (c ∷ s))
rising_with_by id c s rising later (inl k) = subst (λ (n : ℕ). IsRising (with_id n (c ∷ s))) (sym k) (subst IsRising (sym (with_same c s)) rising)
rising_with_by id c s rising later (inr (inl k)) = subst IsRising (sym (with_below id c s k)) ((k, above_more id c s k rising.0), rising)
rising_with_by id c s rising later (inr (inr k)) = subst IsRising (sym (with_above id c s k)) (above_with c id s k rising.0, later)

rising_with : (id : ℕ) (s : List ℕ) → IsRising s → IsRising (with_id id s)
rising_with id [] rising = (tt, tt)
rising_with id (c ∷ s) rising = rising_with_by id c s rising (rising_with id s rising.1) (cases_order id c)

pub ascending_rises : (ids : List ℕ) → IsRising (ascending ids)
ascending_rises [] = tt
ascending_rises (id ∷ ids) = rising_with id (ascending ids) (ascending_rises ids)

not_above : (id : ℕ) (ids : List ℕ) → AreAbove id ids → has_id id ids ≡ false
not_above id [] all = refl
not_above id (other ∷ ids) all = ap (λ (test : Bool). test || has_id id ids) (ne_eqb other id (λ e. omega (arith, e, all.0))) ∙ not_above id ids all.1

-- the first of them does not come again
pub not_again : (id : ℕ) (ids : List ℕ) → IsRising (id ∷ ids) → has_id id ids ≡ false
not_again id ids rising = not_above id ids rising.0

-- ---- those that were put into it

or_same : (a b : Bool) → (a || b) ≡ (a || (a || b))
or_same true b = refl
or_same false b = refl

or_swap : (a b c : Bool) → (a || (b || c)) ≡ (b || (a || c))
or_swap true true c = refl
or_swap true false c = refl
or_swap false true c = refl
or_swap false false c = refl

has_with_by : (id new c : ℕ) (s : List ℕ) → has_id id (with_id new s) ≡ ((new == id) || has_id id s) → (new ≡ c) ⊎ ((new < c) ⊎ (c < new)) → has_id id (with_id new (c ∷ s)) ≡ ((new == id) || has_id id (c ∷ s))
has_with_by id new c s later (inl k) = subst (λ (n : ℕ). has_id id (with_id n (c ∷ s)) ≡ ((n == id) || has_id id (c ∷ s))) (sym k) (ap (has_id id) (with_same c s) ∙ or_same (c == id) (has_id id s))
has_with_by id new c s later (inr (inl k)) = ap (has_id id) (with_below new c s k)
has_with_by id new c s later (inr (inr k)) = ap (has_id id) (with_above new c s k) ∙ ap (λ (test : Bool). (c == id) || test) later ∙ or_swap (c == id) (new == id) (has_id id s)

has_with : (id new : ℕ) (s : List ℕ) → has_id id (with_id new s) ≡ ((new == id) || has_id id s)
has_with id new [] = refl
has_with id new (c ∷ s) = has_with_by id new c s (has_with id new s) (cases_order new c)

pub has_ascending : (id : ℕ) (ids : List ℕ) → has_id id (ascending ids) ≡ has_id id ids
has_ascending id [] = refl
has_ascending id (other ∷ ids) = has_with id other (ascending ids) ∙ ap (λ (test : Bool). (other == id) || test) (has_ascending id ids)
