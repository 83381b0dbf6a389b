-- The tracks of a line by their places, from 0 on.
use Rattle.std.proofs.Common.{◌≡◌, ◌≢◌, ◌+◌, ◌<◌, ◌≤◌, ◌∙◌, ℕ, zero, suc, Bool, List, [], ◌∷◌, length, get_or, map, refl, sym, ap, arith}
use Rattle.line_step.specs.State.{LineState}
use Rattle.law_lanes.specs.Lanes.{beside, tracks_with}
use Rattle.law_lanes.specs.Steps.{copies, more_on}
use Rattle.line_step.specs.State.{one_more}

pub at_map : {X Y : Type 0} (f : X → Y) (xs : List X) (place : ℕ) (none : X) (other : Y)
    → place < length xs → get_or (map f xs) place other ≡ f (get_or xs place none)
at_map f [] place none other within = absurd (let never : ⊥ = omega (arith, within) in never)
at_map f (x ∷ xs) zero none other within = refl
at_map f (x ∷ xs) (suc place) none other within =
    at_map f xs place none other (omega (arith, within))

pub map_many : {X Y : Type 0} (f : X → Y) (xs : List X) → length (map f xs) ≡ length xs
map_many f [] = refl
map_many f (x ∷ xs) = ap suc (map_many f xs)

-- what stands there doesn't hang on what would stand elsewhere
pub at_any : {X : Type 0} (xs : List X) (place : ℕ) (none other : X) → place < length xs
    → get_or xs place none ≡ get_or xs place other
at_any [] place none other within = absurd (let never : ⊥ = omega (arith, within) in never)
at_any (x ∷ xs) zero none other within = refl
at_any (x ∷ xs) (suc place) none other within = at_any xs place none other (omega (arith, within))

pub at_past : {X : Type 0} (xs : List X) (place : ℕ) (none : X) → length xs ≤ place
    → get_or xs place none ≡ none
at_past [] place none past = refl
at_past (x ∷ xs) zero none past = absurd (let never : ⊥ = omega (arith, past) in never)
at_past (x ∷ xs) (suc place) none past = at_past xs place none (omega (arith, past))

-- ---- a track that is put back

pub with_own : (place : ℕ) (now none : LineState) (ts : List LineState) → place < length ts
    → get_or (tracks_with place now ts) place none ≡ now
with_own place now none [] within = absurd (let never : ⊥ = omega (arith, within) in never)
with_own zero now none (t ∷ ts) within = refl
with_own (suc place) now none (t ∷ ts) within = with_own place now none ts (omega (arith, within))

pub with_other : (place other : ℕ) (now none : LineState) (ts : List LineState) → other ≢ place
    → other < length ts
    → get_or (tracks_with place now ts) other none ≡ beside now (get_or ts other none)
with_other place other now none [] apart within = absurd (let never : ⊥ = omega (arith, within) in never)
with_other zero zero now none (t ∷ ts) apart within = absurd (apart refl)
with_other zero (suc other) now none (t ∷ ts) apart within =
    at_map (beside now) ts other none none (omega (arith, within))
with_other (suc place) zero now none (t ∷ ts) apart within = refl
with_other (suc place) (suc other) now none (t ∷ ts) apart within =
    with_other place other now none ts (λ (same : other ≡ place). apart (ap suc same))
    (omega (arith, within))

pub with_many : (place : ℕ) (now : LineState) (ts : List LineState)
    → length (tracks_with place now ts) ≡ length ts
with_many place now [] = refl
with_many zero now (t ∷ ts) = ap suc (map_many (beside now) ts)
with_many (suc place) now (t ∷ ts) = ap suc (with_many place now ts)

-- ---- a machine more on each track

pub more_many : (lane : ℕ) (is_bridge : Bool) (capacity used : ℕ) (ts : List LineState)
    → length (more_on lane is_bridge capacity used ts) ≡ length ts
more_many lane is_bridge capacity used [] = refl
more_many lane is_bridge capacity used (t ∷ ts) =
    ap suc (more_many (lane + 1) is_bridge capacity used ts)

pub more_at : (lane : ℕ) (is_bridge : Bool) (capacity used : ℕ) (ts : List LineState) (place : ℕ)
    (none : LineState) → place < length ts
    → get_or (more_on lane is_bridge capacity used ts) place none
    ≡ one_more (lane + place) is_bridge capacity used (get_or ts place none)
more_at lane is_bridge capacity used [] place none within =
    absurd (let never : ⊥ = omega (arith, within) in never)
more_at lane is_bridge capacity used (t ∷ ts) zero none within =
    let here : lane + 0 ≡ lane = omega arith in
    ap (λ (own : ℕ). one_more own is_bridge capacity used t) (sym here)
more_at lane is_bridge capacity used (t ∷ ts) (suc place) none within =
    let here : lane + suc place ≡ lane + 1 + place = omega arith in
    more_at (lane + 1) is_bridge capacity used ts place none (omega (arith, within))
    ∙ ap (λ (own : ℕ). one_more own is_bridge capacity used (get_or ts place none)) (sym here)

-- ---- lanes that are set

pub copies_many : (count : ℕ) (t : LineState) → length (copies count t) ≡ count
copies_many zero t = refl
copies_many (suc count) t = ap suc (copies_many count t)

pub copies_at : (count : ℕ) (t none : LineState) (place : ℕ) → place < count
    → get_or (copies count t) place none ≡ t
copies_at zero t none place within = absurd (let never : ⊥ = omega (arith, within) in never)
copies_at (suc count) t none zero within = refl
copies_at (suc count) t none (suc place) within =
    copies_at count t none place (omega (arith, within))
