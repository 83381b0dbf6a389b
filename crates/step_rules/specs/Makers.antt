-- Which ids the machines of a line have made.
use Rattle.std.specs.Prelude.{◌≡◌, ◌+◌, ◌<◌, ◌≤◌, ◌⊎◌, ℕ, List, [], ◌∷◌}
use Rattle.board_record.specs.Maker.{made_id}
use Rattle.node_core.specs.Node.{NodeState}

-- a machine with this number made the id, at a count that it has used
pub record IsMadeBy (machine used id : ℕ) : Type 0 where
  pub count : ℕ
  pub counted : count ≤ used
  pub small : count < 281474976710656
  pub is : id ≡ made_id machine count

-- some machine made the id, of those from this number on
abbrev pub IsOld : ℕ → List NodeState → ℕ → Type 0
IsOld number [] id = ⊥
IsOld number (node ∷ nodes) id = IsMadeBy number node.maker.used id ⊎ IsOld (number + 1) nodes id
