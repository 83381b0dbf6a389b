-- WHAT THE LANES of a machine share: its id maker, and whether it is supervised.
use Rattle.std.specs.Prelude.{Bool}
use Rattle.board_record.specs.Maker.{Maker}
use Rattle.node_core.specs.Node.{NodeState}

pub record SharedParts : Type 0 where
  pub maker : Maker
  pub supervised : Bool

abbrev pub shared_of : NodeState → SharedParts
shared_of node = record { maker = node.maker; supervised = node.supervised }

-- another lane of the machine, which follows
abbrev pub with_shared : SharedParts → NodeState → NodeState
with_shared shared node = record node { maker = shared.maker; supervised = shared.supervised }
