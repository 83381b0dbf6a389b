-- Which forecasts are kept.
use Rattle.std.specs.Prelude.{ℕ, ◌-◌, List, drop, length}

-- so many forecasts are kept
abbrev pub most_forecasts : ℕ
most_forecasts = 64

-- the last so many of a list, or all where there are fewer
abbrev pub last : {X : Type 0} → ℕ → List X → List X
last count list = drop (length list - count) list
