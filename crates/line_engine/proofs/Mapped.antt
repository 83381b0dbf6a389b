-- A loop that changes each track of a list, in its order.
use Rattle.std.proofs.Common.{◌≡◌, ◌∙◌, ◌+◌, ◌<◌, ◌≤◌, ℕ, zero, suc, List, [], ◌∷◌, ap, arith, length, map, refl}
use Rattle.std.specs.Prelude.{slice_index_or, slice_set}
use Rattle.line_engine.specs.declared.track.Track.{Track}

-- so many of them are changed
abbrev pub mapped : (Track → Track) → ℕ → List Track → List Track
mapped f zero ts = ts
mapped f (suc n) [] = []
mapped f (suc n) (t ∷ ts) = f t ∷ mapped f n ts

mapped_next : (f : Track → Track) (n : ℕ) (ts : List Track) (none : Track) → n < length ts → slice_set (mapped f n ts) n (f (slice_index_or (mapped f n ts) n none)) ≡ mapped f (suc n) ts
mapped_next f zero [] none within = absurd (omega (arith, within))
mapped_next f zero (own ∷ ts) none within = refl
mapped_next f (suc n) [] none within = absurd (omega (arith, within))
mapped_next f (suc n) (own ∷ ts) none within = ap (λ (xs : List Track). f own ∷ xs) (mapped_next f n ts none (omega (arith, within)))

one_more : (n : ℕ) → suc n ≡ n + 1
one_more n = omega arith

pub loop_next : (f : Track → Track) (n : ℕ) (ts now : List Track) (none new : Track) → n < length ts → now ≡ mapped f n ts → new ≡ f (slice_index_or now n none) → slice_set now n new ≡ mapped f (n + 1) ts
loop_next f n ts now none new within is new_is =
    ap (slice_set now n) new_is ∙ ap (λ (xs : List Track). slice_set xs n (f (slice_index_or xs n none))) is ∙ mapped_next f n ts none within
    ∙ ap (λ (k : ℕ). mapped f k ts) (one_more n)

pub mapped_wide : (f : Track → Track) (n : ℕ) (ts : List Track) → length (mapped f n ts) ≡ length ts
mapped_wide f zero ts = refl
mapped_wide f (suc n) [] = refl
mapped_wide f (suc n) (t ∷ ts) = ap (λ (k : ℕ). suc k) (mapped_wide f n ts)

pub mapped_end : (f : Track → Track) (n : ℕ) (ts : List Track) → length ts ≤ n → mapped f n ts ≡ map f ts
mapped_end f zero [] past = refl
mapped_end f zero (t ∷ ts) past = absurd (omega (arith, past))
mapped_end f (suc n) [] past = refl
mapped_end f (suc n) (t ∷ ts) past = ap (λ (xs : List Track). f t ∷ xs) (mapped_end f n ts (omega (arith, past)))
