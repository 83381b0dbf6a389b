use Rattle.std.specs.Prelude.{◌≡◌, ◌==◌, ◌<◌, ◌++◌, ◌∷◌, ℕ, false, List, length, slice_index, take}
use Rattle.std.specs.List.{All}

-- no line ends within these bytes
pub record HasNoEnd (bytes : List ℕ) : Type 0 where
  pub none : All (λ b. (b == 10) ≡ false) bytes

-- the first line end stands at this place
pub record IsFirstEnd (bytes : List ℕ) (place : ℕ) : Type 0 where
  pub within : place < length bytes
  pub stands : slice_index bytes place ≡ 10
  pub before : HasNoEnd (take place bytes)

-- a line without its end, and what follows the end
pub record CutsLine (bytes line others : List ℕ) : Type 0 where
  pub parts : bytes ≡ line ++ 10 ∷ others
  pub none : HasNoEnd line
