use Rattle.std.specs.Prelude.{ℕ, ℤ, Bool, List, Option}
use Rattle.smema_bridge.specs.Levels.{BridgeLevels}

-- what a machine knows of itself in a step: its id text, the number of its lane, its capacity, the
-- moment, and before the step, of a bridge, the levels, whether it is supervised, and how many
-- questions it has asked its supervisor
pub record Desk : Type 0 where
  pub name : List ℕ
  pub lane : ℕ
  pub capacity : ℕ
  pub moment : ℤ
  pub bridge : Option BridgeLevels
  pub supervised : Bool
  pub asked : ℕ
