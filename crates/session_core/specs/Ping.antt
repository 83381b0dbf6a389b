-- The Id of a ping.
use Rattle.std.specs.Prelude.{ℕ, List, Option, None}
use Rattle.hermes_horizontal.specs.declared.message.Horizontal.{Horizontal}
use Rattle.hermes_horizontal.specs.declared.message.Horizontal.TheVariants as messages

-- the Id that a CheckAlive has; another message has none
abbrev pub ping_id : Horizontal → Option (List ℕ)
ping_id (messages.CheckAlive ping id) = id
ping_id _ = None
