-- THE RESET OF A SIDE whose setting changed: where it has a connection, the neighbour is told so,
-- the way is to end, and the machine makes the step with Notice.
use Rattle.std.specs.Prelude.{◌++◌, ℤ, Bool, false, List, ℕ, Some, codes}
use Rattle.line_base.specs.declared.states.Severity.TheVariants as severity
use Rattle.line_base.specs.declared.states.Side.{Side}
use Rattle.line_base.specs.declared.states.Side.TheVariants.{Entry, Exit}
use Rattle.hermes_horizontal.specs.Canonical.{canonical}
use Rattle.hermes_horizontal.specs.declared.message.Horizontal.TheVariants as bodies
use Rattle.node_core.specs.May.{may_of}
use Rattle.node_core.specs.declared.input.Input.TheVariants as inputs
use Rattle.node_run.specs.After.{way_of}
use Rattle.node_run.specs.State.{RunState, way_at, with_way}
use Rattle.node_run.specs.Steps.{Takes}
use Rattle.node_run.specs.declared.rules.Rules.{Rules}
use Rattle.node_run.specs.declared.way_state.Wire.TheVariants as wires

-- this text is no act of the machine, so no line of the log tells it
abbrev pub reset_text : ℤ → List ℕ
reset_text moment =
    canonical (record {
      stamp = Some moment;
      body = bodies.Notification (record { number = 3 }) severity.Info
          (codes "configuration changed");
    })

abbrev pub leaving : ℤ → Side → RunState → RunState
leaving moment side s =
    with_way (way_of side) (record {
      wire = wires.Ends;
      unsent = (way_at (way_of side) s).unsent
          ++ reset_text moment;
    }) s

-- that side is to be reset no more
abbrev pub reset_begun : Side → RunState → RunState
reset_begun Entry s = record s { resets = record s.resets { upstream = false } }
reset_begun Exit s = record s { resets = record s.resets { downstream = false } }

abbrev pub ResetsSide : Rules → ℤ → Side → RunState → RunState → List ℕ → Type 0
ResetsSide rules moment side s t log =
    Takes (may_of s.node (inputs.Notice side)) rules moment (inputs.Notice side)
    (leaving moment side (reset_begun side s)) (reset_begun side s) t log
