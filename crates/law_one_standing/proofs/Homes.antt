-- Which boards are at home on a track, over what it tells.
use Rattle.std.proofs.Common.{Bool, List, [], ap, eq-eqb, eqb-true, false, not, refl, subst, sym, true, ℕ, ◌&&◌, ◌++◌, ◌==◌, ◌||◌, ◌∙◌, ◌∷◌, ◌≡◌, ◌≢◌}
use Rattle.std.proofs.lemmas.Bool.{false≢true}
use Rattle.std.specs.List.{AllByRecursion}
use Rattle.node_core.specs.declared.act.Act.TheVariants as acts
use Rattle.line_report.specs.declared.happening.Happening.{Happening}
use Rattle.line_report.specs.declared.happening.Happening.TheVariants as happenings
use Rattle.line_step.specs.Homes.{home_after, home_by}
use Rattle.law_one_standing.specs.Told.{IsTold, told_first, told_later}
use Rattle.law_one_standing.proofs.ApartStep.{IsNot, come_by, come_in}

pub home_append : (id : ℕ) (a b : List Happening) (home : Bool) → home_after id (a ++ b) home ≡ home_after id b (home_after id a home)
home_append id [] b home = refl
home_append id (h ∷ a) b home = home_append id a b (home_by id h home)

-- ---- a board that goes to another lane

pub data GivesAway (id : ℕ) : Happening → Type 0 where
  gives_away : {machine to : ℕ} → GivesAway id (happenings.Done machine (acts.Gives id to))

or_true : (b : Bool) → (b || true) ≡ true
or_true true = refl
or_true false = refl

given_if : (same : Bool) (id old machine to : ℕ) → (old == id) ≡ same → (not same && true) ≡ false → GivesAway id (happenings.Done machine (acts.Gives old to))
given_if true id old machine to is lost = subst (λ (n : ℕ). GivesAway id (happenings.Done machine (acts.Gives n to))) (sym (eqb-true old id is)) gives_away
given_if false id old machine to is lost = absurd (false≢true (sym lost))

given_by : (id : ℕ) (h : Happening) → home_by id h true ≡ false → GivesAway id h
given_by id (happenings.Done machine (acts.Inserts new)) lost = absurd (false≢true (sym lost ∙ or_true (new == id)))
given_by id (happenings.Done machine (acts.Replaces old new)) lost = absurd (false≢true (sym lost ∙ or_true (new == id)))
given_by id (happenings.Done machine (acts.Gets new)) lost = absurd (false≢true (sym lost ∙ or_true (new == id)))
given_by id (happenings.Done machine (acts.Gives old to)) lost = given_if (old == id) id old machine to refl lost
given_by id _ lost = absurd (false≢true (sym lost))

-- what was at home and isn't any more went to another lane
pub record WentAway (id : ℕ) (told : List Happening) : Type 0 where
  pub what : Happening
  pub told_is : IsTold what told
  pub gives : GivesAway id what

went_later : {id : ℕ} {told : List Happening} (h : Happening) → WentAway id told → WentAway id (h ∷ told)
went_later h went = record { what = went.what; told_is = told_later went.told_is; gives = went.gives }

pub home_lost : (id : ℕ) (told : List Happening) → home_after id told true ≡ false → WentAway id told
home_lost id [] lost = absurd (false≢true (sym lost))
home_lost id (h ∷ told) lost = by (home_by id h true) refl (λ left. home_lost id told left) where
  by : (home : Bool) → home_by id h true ≡ home → (home_after id told true ≡ false → WentAway id told) → WentAway id (h ∷ told)
  by false is later = record { what = h; told_is = told_first; gives = given_by id h is }
  by true is later = went_later h (later (sym (ap (home_after id told) is) ∙ lost))

-- ---- a board that doesn't come

or_false : (b : Bool) → (b || false) ≡ false → b ≡ false
or_false true is = is
or_false false is = refl

differs : (id new : ℕ) → ((new == id) || false) ≡ false → id ≢ new
differs id new far is = false≢true (sym (or_false (new == id) far) ∙ ap (λ (n : ℕ). n == id) (sym is) ∙ same id)
  where
    same : (n : ℕ) → (n == n) ≡ true
    same n = eq-eqb n n refl

not_come : (id : ℕ) (h : Happening) → home_by id h false ≡ false → IsNot id (come_in h)
not_come id (happenings.Done machine (acts.Inserts new)) far = (differs id new far, tt)
not_come id (happenings.Done machine (acts.Replaces old new)) far = (differs id new far, tt)
not_come id (happenings.Done machine (acts.Gets new)) far = (differs id new far, tt)
not_come id _ far = tt

pub not_join : (x : ℕ) (a b : List ℕ) → IsNot x a → IsNot x b → IsNot x (a ++ b)
not_join x [] b one two = two
not_join x (id ∷ a) b one two = (one.0, not_join x a b one.1 two)

and_false : (b : Bool) → (b && false) ≡ true → false ≡ true
and_false true is = is
and_false false is = is

-- whatever makes it at home
comes_home : (id : ℕ) (h : Happening) → home_by id h false ≡ true → home_by id h true ≡ true
comes_home id (happenings.Done machine (acts.Inserts new)) comes = or_true (new == id)
comes_home id (happenings.Done machine (acts.Replaces old new)) comes = or_true (new == id)
comes_home id (happenings.Done machine (acts.Gets new)) comes = or_true (new == id)
comes_home id (happenings.Done machine (acts.Gives old to)) comes = absurd (false≢true (and_false (not (old == id)) comes))
comes_home id _ comes = absurd (false≢true comes)

-- a board that isn't at home behind what is told, and would be had it been so before, didn't come
pub home_far : (id : ℕ) (told : List Happening) → home_after id told false ≡ false → home_after id told true ≡ true → IsNot id (come_by told)
home_far id [] far kept = tt
home_far id (h ∷ told) far kept = by (home_by id h false) (home_by id h true) refl refl (λ out is. home_far id told out is) where
  by : (first second : Bool) → home_by id h false ≡ first → home_by id h true ≡ second → (home_after id told false ≡ false → home_after id told true ≡ true → IsNot id (come_by told)) → IsNot id (come_in h ++ come_by told)
  by true second comes is later =
      let one : home_after id told true ≡ false = sym (ap (home_after id told) comes) ∙ far in
      let two : home_after id told true ≡ true = sym (ap (home_after id told) (comes_home id h comes)) ∙ kept in
      absurd (false≢true (sym one ∙ two))
  by false true out is later =
      not_join id (come_in h) (come_by told) (not_come id h out)
      (later (sym (ap (home_after id told) out) ∙ far) (sym (ap (home_after id told) is) ∙ kept))
  by false false out is later =
      let one : home_after id told false ≡ false = sym (ap (home_after id told) out) ∙ far in
      let two : home_after id told false ≡ true = sym (ap (home_after id told) is) ∙ kept in
      absurd (false≢true (sym one ∙ two))

-- so it wasn't at home before
pub home_before : (id : ℕ) (told : List Happening) (home : Bool) → home_after id told true ≡ true → home_after id told home ≡ false → home ≡ false
home_before id told true kept far = absurd (false≢true (sym far ∙ kept))
home_before id told false kept far = refl
