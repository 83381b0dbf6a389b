use Rattle.std.specs.Prelude.{Bool}
use Rattle.hermes_horizontal.specs.declared.message.Horizontal.{Horizontal}

-- what comes to an end of a session: a connection, a second one, a message beside whether the
-- outlet holds a board, a tick, a shutdown, and the end of the connection
pub data Input : Type 0 where
  opened : Input
  second : Input
  heard : Horizontal → Bool → Input
  tick : Input
  shutdown : Input
  closed : Input
