-- What the sensors saw of the held board, over lists of events and of inputs.
use Rattle.std.specs.Prelude.{List, [], ◌∷◌, Option, Some, None, option_map}
use Rattle.line_base.specs.declared.states.Seen.{Seen}
use Rattle.line_base.specs.declared.states.Seen.TheVariants.{NotStarted}
use Rattle.line_base.specs.declared.states.SensorEvent.{SensorEvent}
use Rattle.handover_in.specs.declared.act.InDeed.{InDeed}
use Rattle.handover_in.specs.declared.act.InDeed.TheVariants.{Starts, Settles, Drops}
use Rattle.handover_in.specs.declared.input.InInput.{InInput}
use Rattle.handover_in.specs.declared.input.InInput.TheVariants.{Sensed}
use Rattle.handover_in.specs.Own.{own_after}
use Rattle.handover_in.specs.State.{InState}
use Rattle.handover_in.specs.Row.{InRow, intake_row}
use Rattle.handover_in.specs.Run.{step}

-- what they have seen of a board after a list of events
abbrev pub own_after_all : Seen → List SensorEvent → Seen
own_after_all own [] = own
own_after_all own (event ∷ events) = own_after_all (own_after own event) events

-- sensor events as what an intake meets
abbrev pub all_sensed : List SensorEvent → List InInput
all_sensed [] = []
all_sensed (event ∷ events) = Sensed event ∷ all_sensed events

-- what they saw of the board that is held after an input that has a row, and its deed: at its
-- start nothing, and then what each event adds
abbrev pub own_by : Option Seen → InInput → Option InDeed → Option Seen
own_by _ _ (Some (Starts _)) = Some NotStarted
own_by _ _ (Some (Settles _)) = None
own_by _ _ (Some (Drops _)) = None
own_by own (Sensed event) None = option_map (λ seen. own_after seen event) own
own_by own _ None = own

-- an input without a row changes nothing
abbrev pub own_at : Option Seen → InInput → Option InRow → Option Seen
own_at own input (Some row) = own_by own input row.act.deed
own_at own _ None = own

abbrev pub own_by_all : Option Seen → InState → List InInput → Option Seen
own_by_all own s [] = own
own_by_all own s (input ∷ inputs) =
    own_by_all (own_at own input (intake_row s input)) (step s input).after inputs
