-- What is kept is the last of all that was told.
use Rattle.std.proofs.Common.{◌≡◌, sym, ap, ◌∙◌, arith, ℕ, ◌+◌, ◌-◌, ◌<◌, ◌≤◌, List, [], ◌∷◌, ◌++◌, length, drop}
use Rattle.std.proofs.lemmas.List.{drop-append-le, drop-drop, length-drop, length-append}
use Rattle.forecast_query.specs.Forecasts.{last, most_forecasts}

-- one more behind a list
last-append : {X : Type 0} (count : ℕ) (list : List X) (x : X) → 0 < count → last count (list ++ x ∷ []) ≡ drop (length list + 1 - count) list ++ x ∷ []
last-append count list x some =
    let longer : length (list ++ x ∷ []) ≡ length list + 1 = length-append list (x ∷ []) in
    let within : length list + 1 - count ≤ length list = omega arith in
    ap (λ (n : ℕ). drop (n - count) (list ++ x ∷ [])) longer ∙ drop-append-le (length list + 1 - count) list (x ∷ []) within

-- the last of the last and one more are the last of all and that one
pub last-last : {X : Type 0} (count : ℕ) (list : List X) (x : X) → 0 < count → last count (last count list ++ x ∷ []) ≡ last count (list ++ x ∷ [])
last-last count list x some =
    let kept = drop (length list - count) list in
    let so_many : length kept ≡ length list - (length list - count) = length-drop (length list - count) list in
    let sum : length list - count + (length kept + 1 - count) ≡ length list + 1 - count = omega arith in
    last-append count kept x some
    ∙ ap (λ (l : List _). l ++ x ∷ []) (drop-drop (length kept + 1 - count) (length list - count) list ∙ ap (λ (n : ℕ). drop n list) sum)
    ∙ sym (last-append count list x some)

-- fewer than are kept, and one more
pub last_fewer : {X : Type 0} (list : List X) (x : X) → length list < most_forecasts → list ++ x ∷ [] ≡ last most_forecasts (list ++ x ∷ [])
last_fewer list x fewer =
    let none : length list + 1 - most_forecasts ≡ 0 = omega arith in
    sym (last-append most_forecasts list x (omega arith) ∙ ap (λ (n : ℕ). drop n list ++ x ∷ []) none)

-- as many as are kept, and one more
pub last_full : {X : Type 0} (list : List X) (x : X) → length list ≡ most_forecasts → drop 1 list ++ x ∷ [] ≡ last most_forecasts (list ++ x ∷ [])
last_full list x full =
    let one : length list + 1 - most_forecasts ≡ 1 = omega arith in
    sym (last-append most_forecasts list x (omega arith) ∙ ap (λ (n : ℕ). drop n list ++ x ∷ []) one)
