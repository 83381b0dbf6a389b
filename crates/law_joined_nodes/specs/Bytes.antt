-- THE BYTES OF ONE CONNECTION between two nodes: why what a poll finds is a front of what was
-- said to its machine and not heard.
use Rattle.std.specs.Prelude.{ℕ, List, ◌++◌, ◌≡◌}
use Rattle.law_node_runs.specs.Connections.{Connection, IsFront, IsInOrder}

-- as the connection stands to the two ends: of the far one, what was said and what its ports took
-- of that; of the near one, what its ports gave and what its machine heard of that
pub record AreJoined (far near : Connection) (found coming : List ℕ) : Type 0 where
  -- the ports of the far node took a front of what it said
  pub order : IsInOrder far
  -- TCP: what the near node's ports gave, and what they find now, is a front of what those took
  pub given : IsFront (near.given ++ found) far.taken
  -- nothing that they gave waits
  pub heard : near.given ≡ near.heard
  -- what was said is what was heard, and what comes still
  pub said : far.said ≡ near.heard ++ coming

abbrev pub FoundWasSaid : Type 0
FoundWasSaid =
    (far near : Connection) (found coming : List ℕ) → AreJoined far near found coming
    → IsFront found coming
