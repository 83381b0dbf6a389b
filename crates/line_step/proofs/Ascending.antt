-- Ids put into their places: in any order, and again, it is the same list.
use Rattle.std.proofs.Common.{◌≡◌, ◌∙◌, ◌++◌, ◌==◌, ◌<◌, ◌||◌, ◌⊎◌, ℕ, Bool, true, false, List, [], ◌∷◌, inl, inr, refl, sym, ap, subst, arith, eqb-true, eq-eqb, lt-ltb, ne_eqb}
use Rattle.std.specs.Prelude.{nat_lt, if◌then◌else◌}
use Rattle.std.specs.List.{flat_map}
use Rattle.std.proofs.lemmas.Bool.{cases_order, false≢true}
use Rattle.std.proofs.lemmas.Bool.Decides.{nat_tests}
use Rattle.standings.specs.Marks.{has_id}
use Rattle.line_step.specs.Shown.{ascending, with_id}

-- ---- one id

pub choose_true : {A : Type 0} (test : Bool) (a b : A) → test ≡ true → (if test then a else b) ≡ a
choose_true true a b is = refl
choose_true false a b is = absurd (false≢true is)

pub choose_false : {A : Type 0} (test : Bool) (a b : A) → test ≡ false → (if test then a else b) ≡ b
choose_false true a b is = absurd (false≢true (sym is))
choose_false false a b is = refl

not_below : (a b : ℕ) → b < a → nat_lt a b ≡ false
not_below a b h = grind (arith, nat_tests)

pub not_itself : (a : ℕ) → nat_lt a a ≡ false
not_itself a = grind (arith, nat_tests)

pub with_below : (a c : ℕ) (s : List ℕ) → a < c → with_id a (c ∷ s) ≡ a ∷ c ∷ s
with_below a c s h = choose_true (nat_lt a c) (a ∷ c ∷ s) (if a == c then c ∷ s else c ∷ with_id a s) (lt-ltb a c h)

pub with_same : (a : ℕ) (s : List ℕ) → with_id a (a ∷ s) ≡ a ∷ s
with_same a s =
    choose_false (nat_lt a a) (a ∷ a ∷ s) (if a == a then a ∷ s else a ∷ with_id a s) (not_itself a)
    ∙ choose_true (a == a) (a ∷ s) (a ∷ with_id a s) (eq-eqb a a refl)

pub with_above : (a c : ℕ) (s : List ℕ) → c < a → with_id a (c ∷ s) ≡ c ∷ with_id a s
with_above a c s h =
    choose_false (nat_lt a c) (a ∷ c ∷ s) (if a == c then c ∷ s else c ∷ with_id a s) (not_below a c h)
    ∙ choose_false (a == c) (c ∷ s) (c ∷ with_id a s) (ne_eqb a c (λ e. omega (arith, e)))

-- ---- two ids

below_both : (a b c : ℕ) (s : List ℕ) → a < b → b < c → with_id a (with_id b (c ∷ s)) ≡ with_id b (with_id a (c ∷ s))
below_both a b c s h k =
    ap (with_id a) (with_below b c s k) ∙ with_below a b (c ∷ s) h
    ∙ sym (ap (with_id b) (with_below a c s (omega arith)) ∙ with_above b a (c ∷ s) h ∙ ap (λ (t : List ℕ). a ∷ t) (with_below b c s k))

at_upper : (a b : ℕ) (s : List ℕ) → a < b → with_id a (with_id b (b ∷ s)) ≡ with_id b (with_id a (b ∷ s))
at_upper a b s h =
    ap (with_id a) (with_same b s) ∙ with_below a b s h
    ∙ sym (ap (with_id b) (with_below a b s h) ∙ with_above b a (b ∷ s) h ∙ ap (λ (t : List ℕ). a ∷ t) (with_same b s))

in_between : (a b c : ℕ) (s : List ℕ) → a < c → c < b → with_id a (with_id b (c ∷ s)) ≡ with_id b (with_id a (c ∷ s))
in_between a b c s h k =
    ap (with_id a) (with_above b c s k) ∙ with_below a c (with_id b s) h
    ∙ sym (ap (with_id b) (with_below a c s h) ∙ with_above b a (c ∷ s) (omega arith) ∙ ap (λ (t : List ℕ). a ∷ t) (with_above b c s k))

at_lower : (a b : ℕ) (s : List ℕ) → a < b → with_id a (with_id b (a ∷ s)) ≡ with_id b (with_id a (a ∷ s))
at_lower a b s h =
    ap (with_id a) (with_above b a s h) ∙ with_same a (with_id b s)
    ∙ sym (ap (with_id b) (with_same a s) ∙ with_above b a s h)

above_both : (a b c : ℕ) (s : List ℕ) → c < a → c < b → with_id a (with_id b s) ≡ with_id b (with_id a s) → with_id a (with_id b (c ∷ s)) ≡ with_id b (with_id a (c ∷ s))
above_both a b c s h k same =
    ap (with_id a) (with_above b c s k) ∙ with_above a c (with_id b s) h ∙ ap (λ (t : List ℕ). c ∷ t) same
    ∙ sym (ap (with_id b) (with_above a c s h) ∙ with_above b c (with_id a s) k)

ordered : (a b c : ℕ) (s : List ℕ) → a < b → with_id a (with_id b s) ≡ with_id b (with_id a s) → (b ≡ c) ⊎ ((b < c) ⊎ (c < b)) → (a ≡ c) ⊎ ((a < c) ⊎ (c < a)) → with_id a (with_id b (c ∷ s)) ≡ with_id b (with_id a (c ∷ s))
ordered a b c s h same (inr (inl k)) other = below_both a b c s h k
ordered a b c s h same (inl k) other = subst (λ (n : ℕ). with_id a (with_id b (n ∷ s)) ≡ with_id b (with_id a (n ∷ s))) k (at_upper a b s h)
ordered a b c s h same (inr (inr k)) (inl l) = subst (λ (n : ℕ). with_id a (with_id b (n ∷ s)) ≡ with_id b (with_id a (n ∷ s))) l (at_lower a b s h)
ordered a b c s h same (inr (inr k)) (inr (inl l)) = in_between a b c s l k
ordered a b c s h same (inr (inr k)) (inr (inr l)) = above_both a b c s l k same

commute_below : (a b : ℕ) (s : List ℕ) → a < b → with_id a (with_id b s) ≡ with_id b (with_id a s)
commute_below a b [] h = with_below a b [] h ∙ sym (with_above b a [] h)
commute_below a b (c ∷ s) h = ordered a b c s h (commute_below a b s h) (cases_order b c) (cases_order a c)

commute_by : (a b : ℕ) (s : List ℕ) → (a ≡ b) ⊎ ((a < b) ⊎ (b < a)) → with_id a (with_id b s) ≡ with_id b (with_id a s)
commute_by a b s (inl same) = subst (λ (n : ℕ). with_id a (with_id n s) ≡ with_id n (with_id a s)) same refl
commute_by a b s (inr (inl h)) = commute_below a b s h
commute_by a b s (inr (inr h)) = sym (commute_below b a s h)

pub with_id-with_id : (a b : ℕ) (s : List ℕ) → with_id a (with_id b s) ≡ with_id b (with_id a s)
with_id-with_id a b s = commute_by a b s (cases_order a b)

again_by : (a c : ℕ) (s : List ℕ) → with_id a (with_id a s) ≡ with_id a s → (a ≡ c) ⊎ ((a < c) ⊎ (c < a)) → with_id a (with_id a (c ∷ s)) ≡ with_id a (c ∷ s)
again_by a c s same (inl k) = subst (λ (n : ℕ). with_id a (with_id a (n ∷ s)) ≡ with_id a (n ∷ s)) k (ap (with_id a) (with_same a s))
again_by a c s same (inr (inl h)) = ap (with_id a) (with_below a c s h) ∙ with_same a (c ∷ s) ∙ sym (with_below a c s h)
again_by a c s same (inr (inr h)) = ap (with_id a) (with_above a c s h) ∙ with_above a c (with_id a s) h ∙ ap (λ (t : List ℕ). c ∷ t) same ∙ sym (with_above a c s h)

again : (a : ℕ) (s : List ℕ) → with_id a (with_id a s) ≡ with_id a s
again a [] = with_same a []
again a (c ∷ s) = again_by a c s (again a s) (cases_order a c)

-- ---- many ids

-- the last one first
unfoldable pub with_all : List ℕ → List ℕ → List ℕ
with_all [] s = s
with_all (id ∷ ids) s = with_id id (with_all ids s)

pub all_is_ascending : (ids : List ℕ) → with_all ids [] ≡ ascending ids
unfolding with_all
all_is_ascending [] = refl
all_is_ascending (id ∷ ids) = ap (with_id id) (all_is_ascending ids)

pub all-with_id : (ids : List ℕ) (id : ℕ) (s : List ℕ) → with_all ids (with_id id s) ≡ with_id id (with_all ids s)
unfolding with_all
all-with_id [] id s = refl
all-with_id (other ∷ ids) id s = ap (with_id other) (all-with_id ids id s) ∙ with_id-with_id other id (with_all ids s)

all-all : (ids others : List ℕ) (s : List ℕ) → with_all ids (with_all others s) ≡ with_all others (with_all ids s)
unfolding with_all
all-all ids [] s = refl
all-all ids (other ∷ others) s = all-with_id ids other (with_all others s) ∙ ap (with_id other) (all-all ids others s)

-- an id that is there
there_by : (test : Bool) (id other : ℕ) (ids : List ℕ) → (other == id) ≡ test → (test || has_id id ids) ≡ true → (has_id id ids ≡ true → with_id id (ascending ids) ≡ ascending ids) → with_id id (with_id other (ascending ids)) ≡ with_id other (ascending ids)
there_by true id other ids test has there = let same : other ≡ id = eqb-true other id test in subst (λ (n : ℕ). with_id id (with_id n (ascending ids)) ≡ with_id n (ascending ids)) (sym same) (again id (ascending ids))
there_by false id other ids test has there = with_id-with_id id other (ascending ids) ∙ ap (with_id other) (there has)

pub with_id_there : (id : ℕ) (ids : List ℕ) → has_id id ids ≡ true → with_id id (ascending ids) ≡ ascending ids
with_id_there id [] has = absurd (false≢true has)
with_id_there id (other ∷ ids) has = there_by (other == id) id other ids refl has (with_id_there id ids)

all_there : (id : ℕ) (ids others : List ℕ) → has_id id others ≡ true → with_id id (with_all ids (ascending others)) ≡ with_all ids (ascending others)
all_there id ids others has = sym (all-with_id ids id (ascending others)) ∙ ap (with_all ids) (with_id_there id others has)

-- ---- what is made of each of them

skip_by : {A : Type 0} (f : ℕ → List A) (id c : ℕ) (s : List ℕ) → f id ≡ [] → flat_map f (with_id id s) ≡ flat_map f s → (id ≡ c) ⊎ ((id < c) ⊎ (c < id)) → flat_map f (with_id id (c ∷ s)) ≡ flat_map f (c ∷ s)
skip_by f id c s none same (inl k) = subst (λ (n : ℕ). flat_map f (with_id id (n ∷ s)) ≡ flat_map f (n ∷ s)) k (ap (flat_map f) (with_same id s))
skip_by f id c s none same (inr (inl h)) = ap (flat_map f) (with_below id c s h) ∙ ap (λ xs. xs ++ (f c ++ flat_map f s)) none
skip_by f id c s none same (inr (inr h)) = ap (flat_map f) (with_above id c s h) ∙ ap (λ xs. f c ++ xs) same

-- an id of which nothing is made
skip : {A : Type 0} (f : ℕ → List A) (id : ℕ) (s : List ℕ) → f id ≡ [] → flat_map f (with_id id s) ≡ flat_map f s
skip f id [] none = ap (λ xs. xs ++ []) none
skip f id (c ∷ s) none = skip_by f id c s none (skip f id s none) (cases_order id c)

more_by : {A : Type 0} (test : Bool) (f : ℕ → List A) (id : ℕ) (ids others : List ℕ) → has_id id others ≡ test → (has_id id others ≡ false → f id ≡ [])
    → flat_map f (with_all ids (ascending others)) ≡ flat_map f (ascending others) → flat_map f (with_id id (with_all ids (ascending others))) ≡ flat_map f (ascending others)
more_by true f id ids others has none same = ap (flat_map f) (all_there id ids others has) ∙ same
more_by false f id ids others has none same = skip f id (with_all ids (ascending others)) (none has) ∙ same

more : {A : Type 0} (f : ℕ → List A) (ids others : List ℕ) → ((id : ℕ) → has_id id others ≡ false → f id ≡ []) → flat_map f (with_all ids (ascending others)) ≡ flat_map f (ascending others)
unfolding with_all
more f [] others none = refl
more f (id ∷ ids) others none = more_by (has_id id others) f id ids others refl (none id) (more f ids others none)

-- where nothing is made of an id that isn't among these, nor of one that isn't among those, the same is made of both
pub ascending_same : {A : Type 0} (f : ℕ → List A) (ids others : List ℕ) → ((id : ℕ) → has_id id ids ≡ false → f id ≡ []) → ((id : ℕ) → has_id id others ≡ false → f id ≡ []) → flat_map f (ascending ids) ≡ flat_map f (ascending others)
ascending_same f ids others none nothing =
    sym (more f others ids none)
    ∙ ap (λ s. flat_map f (with_all others s)) (sym (all_is_ascending ids))
    ∙ ap (flat_map f) (all-all others ids [])
    ∙ ap (λ s. flat_map f (with_all ids s)) (all_is_ascending others)
    ∙ more f ids others nothing
