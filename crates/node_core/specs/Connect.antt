-- Connections are made and end, the clock ticks, the machine shuts down.
use Rattle.std.specs.Prelude.{Bool, true, false, [], ◌∷◌}
use Rattle.line_base.specs.declared.states.Side.{Side}
use Rattle.line_base.specs.declared.states.Side.TheVariants.{Entry, Exit}
use Rattle.session_core.specs.Input.{opened, second, tick, shutdown}
use Rattle.session_core.specs.Row.{session_row}
use Rattle.node_core.specs.declared.act.Act.TheVariants as acts
use Rattle.node_core.specs.Desk.{Desk}
use Rattle.node_core.specs.declared.lane.Body.{Body}
use Rattle.node_core.specs.Done.{Done, stays, behind, and_then}
use Rattle.node_core.specs.Sides.{session_at, is_open}
use Rattle.node_core.specs.Halves.{ended}
use Rattle.node_core.specs.Session.{session_did}

-- only on a side that has a connection
abbrev pub if_open : Bool → Done → Body → Done
if_open true did body = did
if_open false did body = stays body

-- THE MICRO EVENT: a connection of a side is made
abbrev pub opens : Desk → Side → Body → Done
opens desk side body = session_did desk side (session_row (session_at side body) opened) body

-- THE MICRO EVENT: the downstream neighbour connects a second time. What is sent is for the second
-- connection, which is then closed; the first goes on
abbrev pub meets_second : Desk → Body → Done
meets_second desk body = session_did desk Exit (session_row (session_at Exit body) second) body

-- THE MICRO EVENT: the connection of a side is found closed
abbrev pub notices : Desk → Side → Body → Done
notices desk side body =
    if_open (is_open side body) (behind (acts.Notices side ∷ []) (ended desk side body)) body

-- THE MICRO EVENT: a tick of the clock on a side
abbrev pub ticks : Desk → Side → Body → Done
ticks desk side body = session_did desk side (session_row (session_at side body) tick) body

-- THE MICRO EVENT: a side shuts down
abbrev pub shuts_down : Desk → Side → Body → Done
shuts_down desk side body =
    session_did desk side (session_row (session_at side body) shutdown) body

-- the entry first, then the exit
abbrev pub both_tick : Desk → Body → Done
both_tick desk body = and_then (ticks desk Entry body) (ticks desk Exit)

abbrev pub both_shut_down : Desk → Body → Done
both_shut_down desk body = and_then (shuts_down desk Entry body) (shuts_down desk Exit)
