-- A text that is appended to.
use Rattle.std.specs.Prelude.{◌≡◌, ℕ, List, ◌++◌}

-- what stood there still stands: the text is what it was and some rest
pub record StillStands (before now : List ℕ) : Type 0 where
  pub rest : List ℕ
  pub is : now ≡ before ++ rest
