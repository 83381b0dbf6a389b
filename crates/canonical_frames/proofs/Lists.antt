-- The front of a list up to a place.
use Rattle.std.proofs.Common.{◌≡◌, ℕ, ◌+◌, ◌<◌, Bool, true, ◌&&◌, List, [], ◌∷◌, ◌++◌, length, take, drop, get_or, Option, Some, None, IfSome, MatchOption, inl, inr, ◌-◌, ◌≤◌, refl, sym, ap, ◌∙◌, arith}
use Rattle.std.specs.List.{list_all}
use Rattle.std.proofs.lemmas.Bool.{and_from, cases_eq}
use Rattle.std.proofs.lemmas.List.{take_more, drop_more, take-append-drop, take_all, length-take, length-drop}
use Rattle.std.proofs.lemmas.List.Folds.{list_all-append}

pub all_more : (p : ℕ → Bool) (xs : List ℕ) (i : ℕ) → i < length xs → list_all p (take i xs) ≡ true → p (get_or xs i 0) ≡ true → list_all p (take (i + 1) xs) ≡ true
all_more p xs i within before here =
    ap (list_all p) (take_more xs i 0 within) ∙ list_all-append p (take i xs) (get_or xs i 0 ∷ []) ∙ and_from (list_all p (take i xs)) (p (get_or xs i 0) && true) before (and_from (p (get_or xs i 0)) true here refl)

pub parted : (xs : List ℕ) (i b : ℕ) → i < length xs → get_or xs i 0 ≡ b → xs ≡ take i xs ++ (b ∷ drop (i + 1) xs)
parted xs i b within is =
    sym (take-append-drop i xs) ∙ ap (λ (t : List ℕ). take i xs ++ t) (drop_more xs i 0 within ∙ ap (λ (c : ℕ). c ∷ drop (i + 1) xs) is)

pub more : {A : Type 0} (o : Option A) (P Q : A → Type 0) → ((x : A) → P x → Q x) → IfSome o P → IfSome o Q
more None P Q weaker h = tt
more (Some x) P Q weaker h = weaker x h

pub some_of_match : {A : Type 0} (o : Option A) (N : Type 0) (P : A → Type 0) → MatchOption o N P → IfSome o P
some_of_match None N P m = tt
some_of_match (Some x) N P m = m

-- a test that holds below a place and at it
pub one_more_place : (p : ℕ → Bool) (place : ℕ) → ((k : ℕ) → k < place → p k ≡ true) → p place ≡ true → (k : ℕ) → k < place + 1 → p k ≡ true
one_more_place p place below here k within = elim (cases_eq k place) [
  | inl same ↦ ap p same ∙ here
  | inr other ↦ below k (omega arith)
]

pub front_short : (xs : List ℕ) (i most : ℕ) → i ≤ most → length (take i xs) ≤ most
front_short xs i most few = let is = length-take i xs in omega arith

-- the rest behind a byte, as a slice of it is written
pub text_parted : (xs : List ℕ) (i b : ℕ) → i < length xs → get_or xs i 0 ≡ b → xs ≡ take i xs ++ (b ∷ take (length xs - (i + 1)) (drop (i + 1) xs))
text_parted xs i b within is =
    parted xs i b within is
    ∙ ap (λ (t : List ℕ). take i xs ++ (b ∷ t)) (sym (take_all (length xs - (i + 1)) (drop (i + 1) xs) (let rest = length-drop (i + 1) xs in omega arith)))
