-- What a machine knows of its own boards: the front one lies there once, and none lies elsewhere.
use Rattle.std.specs.Prelude.{List, Some, true, ℕ, ◌∷◌, ◌≡◌}
use Rattle.line_world.specs.declared.board.Board.{Board}
use Rattle.law_machine_custody.specs.Scene.{Scene}
use Rattle.law_machine_custody.specs.Good.{Afar, Lies}

-- no board behind the front one has its id
abbrev pub IsFrontOnce : List Board → Type 0
IsFrontOnce boards =
    (x : ℕ) (others : List Board) → boards ≡ record { id = Some x } ∷ others → Lies x others → ⊥

pub record IsApart (afar : Afar) (c : Scene) : Type 0 where
  pub distinct : IsFrontOnce c.boards
  pub apart : (x : ℕ) → afar.elsewhere x ≡ true → Lies x c.boards → ⊥
