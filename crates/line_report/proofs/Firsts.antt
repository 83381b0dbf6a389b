-- Where a list of happenings is cut at the first of a kind.
use Rattle.std.proofs.Common.{◌≡◌, ◌+◌, ℕ, suc, Bool, true, false, List, [], ◌∷◌, take, drop, refl, ap, ◌∙◌, arith, if◌then◌else◌}
use Rattle.line_report.specs.Shifts.{before_first, behind_first, first_from, from_first}
use Rattle.line_report.specs.declared.happening.Happening.{Happening}

one_more : (n : ℕ) → n + 1 ≡ suc n
one_more n = omega arith

one_further : (is : Happening → Bool) (before : ℕ) (told : List Happening) → first_from is (before + 1) told ≡ suc (first_from is before told)
one_further is before [] = one_more before
one_further is before (h ∷ told) = by (is h) (one_further is (before + 1) told) where
  by : (here : Bool) → first_from is (before + 1 + 1) told ≡ suc (first_from is (before + 1) told) → (if here then before + 1 else first_from is (before + 1 + 1) told) ≡ suc (if here then before else first_from is (before + 1) told)
  by true more = one_more before
  by false more = more

pub taken_first : (is : Happening → Bool) (told : List Happening) → take (first_from is 0 told) told ≡ before_first is told
taken_first is [] = refl
taken_first is (h ∷ told) = by (is h) (taken_first is told) where
  by : (here : Bool) → take (first_from is 0 told) told ≡ before_first is told → take (if here then 0 else first_from is (0 + 1) told) (h ∷ told) ≡ (if here then [] else h ∷ before_first is told)
  by true rest = refl
  by false rest = ap (λ (n : ℕ). take n (h ∷ told)) (one_further is 0 told) ∙ ap (λ (l : List Happening). h ∷ l) rest

pub dropped_first : (is : Happening → Bool) (told : List Happening) → drop (first_from is 0 told) told ≡ from_first is told
dropped_first is [] = refl
dropped_first is (h ∷ told) = by (is h) (dropped_first is told) where
  by : (here : Bool) → drop (first_from is 0 told) told ≡ from_first is told → drop (if here then 0 else first_from is (0 + 1) told) (h ∷ told) ≡ (if here then h ∷ told else from_first is told)
  by true rest = refl
  by false rest = ap (λ (n : ℕ). drop n (h ∷ told)) (one_further is 0 told) ∙ rest

pub dropped_behind : (is : Happening → Bool) (told : List Happening) → drop 1 (drop (first_from is 0 told) told) ≡ behind_first is told
dropped_behind is [] = refl
dropped_behind is (h ∷ told) = by (is h) (dropped_behind is told) where
  by : (here : Bool) → drop 1 (drop (first_from is 0 told) told) ≡ behind_first is told → drop 1 (drop (if here then 0 else first_from is (0 + 1) told) (h ∷ told)) ≡ (if here then told else behind_first is told)
  by true rest = refl
  by false rest = ap (λ (n : ℕ). drop 1 (drop n (h ∷ told))) (one_further is 0 told) ∙ rest
