-- A side reads a sensor event.
use Rattle.std.specs.Prelude.{List, [], ◌∷◌}
use Rattle.line_base.specs.declared.states.Side.{Side}
use Rattle.line_base.specs.declared.states.Side.TheVariants.{Entry, Exit}
use Rattle.line_base.specs.declared.states.SensorEvent.{SensorEvent}
use Rattle.board_record.specs.declared.sensed.Sensed.{Sensed}
use Rattle.handover_out.specs.declared.input.OutInput.TheVariants as out_input
use Rattle.handover_in.specs.declared.input.InInput.TheVariants as in_input
use Rattle.node_core.specs.declared.act.Act.TheVariants as acts
use Rattle.node_core.specs.Desk.{Desk}
use Rattle.node_core.specs.declared.lane.Body.{Body}
use Rattle.node_core.specs.Done.{Done, stays, behind, and_then}
use Rattle.node_core.specs.Halves.{at_outlet, at_intake}

abbrev pub saw : Desk → Side → SensorEvent → Body → Done
saw desk Entry event body = at_intake desk (in_input.Sensed event) body
saw desk Exit event body = at_outlet desk (out_input.Sensed event) body

-- THE MICRO EVENT: a side reads one sensor event
abbrev pub reads : Desk → Sensed → Body → Done
reads desk sensed body =
    behind (acts.Reads sensed.side sensed.event ∷ []) (saw desk sensed.side sensed.event body)

-- the events in order
abbrev pub all_read : Desk → List Sensed → Body → Done
all_read desk [] body = stays body
all_read desk (sensed ∷ others) body = and_then (reads desk sensed body) (all_read desk others)
