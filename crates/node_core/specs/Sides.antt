-- The two sides of a body.
use Rattle.std.specs.Prelude.{Bool}
use Rattle.line_base.specs.declared.states.Side.{Side}
use Rattle.line_base.specs.declared.states.Side.TheVariants.{Entry, Exit}
use Rattle.session_core.specs.End.{SessionEnd, is_connected_state, is_standing_state}
use Rattle.node_core.specs.declared.lane.Body.{Body}
use Rattle.node_core.specs.declared.lane.End.{End}

abbrev pub end_at : Side → Body → End
end_at Entry body = body.entry
end_at Exit body = body.exit

abbrev pub session_at : Side → Body → SessionEnd
session_at side body = (end_at side body).session

-- the body with this session on a side
abbrev pub with_session : Side → SessionEnd → Body → Body
with_session Entry session body = record body { entry = record body.entry { session = session } }
with_session Exit session body = record body { exit = record body.exit { session = session } }

-- the body that is willing, or not, to hand boards over at a side
abbrev pub with_will : Side → Bool → Body → Body
with_will Entry on body = record body { entry = record body.entry { willing = on } }
with_will Exit on body = record body { exit = record body.exit { willing = on } }

-- a side has a connection
abbrev pub is_open : Side → Body → Bool
is_open side body = is_connected_state (session_at side body).state

-- a side's session stands
abbrev pub is_standing : Side → Body → Bool
is_standing side body = is_standing_state (session_at side body).state
