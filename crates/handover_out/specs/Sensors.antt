use Rattle.std.specs.Prelude.{◌≡◌, ℕ, Bool, true, false, Option, Some, None, List, [], ◌∷◌, unwrap_or}
use Rattle.line_base.specs.declared.states.SensorEvent.TheVariants.{Begun, Left, Back, Taken}
use Rattle.line_base.specs.declared.states.Transfer.{Transfer}
use Rattle.line_base.specs.declared.states.Transfer.TheVariants.{NotStarted, Incomplete}
use Rattle.transfer_state.specs.declared.outlet.OutEnd.{OutEnd}
use Rattle.transfer_state.specs.declared.outlet.OutEnd.TheVariants.{Return}
use Rattle.handover_out.specs.declared.act.OutDeed.{OutDeed}
use Rattle.handover_out.specs.declared.act.OutDeed.TheVariants.{Opens, Leaves, Returns, Loses}
use Rattle.handover_out.specs.declared.input.OutInput.{OutInput}
use Rattle.handover_out.specs.declared.input.OutInput.TheVariants.{Sensed}
use Rattle.handover_out.specs.declared.phase.Phase.{Phase}
use Rattle.handover_out.specs.declared.phase.Phase.TheVariants.{Moving}
use Rattle.handover_out.specs.State.{OutState}
use Rattle.handover_out.specs.Run.{step}

-- whether the board of the handover lies between the machines, by the events since it opened
abbrev pub between_after : Bool → OutInput → Option OutDeed → Bool
between_after _ _ (Some (Opens _)) = false
between_after _ (Sensed Begun) _ = true
between_after _ (Sensed Back) _ = false
between_after between _ _ = between

abbrev pub between_after_all : Bool → OutState → List OutInput → Bool
between_after_all between s [] = between
between_after_all between s (input ∷ inputs) =
    between_after_all (between_after between input (step s input).act.deed)
    (step s input).after inputs

-- a deed is as the sensors have it: a board that leaves was seen to leave, one that is lost was
-- taken out from between the machines, and one that is given back lies between them no more
abbrev pub IsSensed : Bool → OutInput → Option OutDeed → Type 0
IsSensed _ input (Some (Leaves _)) = input ≡ Sensed Left
IsSensed between input (Some (Loses _)) = (input ≡ Sensed Taken) × (between ≡ true)
IsSensed between input (Some (Returns id)) =
    between_after between input (Some (Returns id)) ≡ false
IsSensed _ _ _ = Unit {0}

-- how far the transfer got by the outlet's own sensors
abbrev pub own_of : Bool → Transfer
own_of false = NotStarted
own_of true = Incomplete

-- the deed of a handover that ends before its board has left
abbrev pub deed_of_end : OutEnd → ℕ → Option OutDeed
deed_of_end Return id = Some (Returns id)
deed_of_end _ _ = None

abbrev pub is_moving : Phase → Bool
is_moving (Moving _ _) = true
is_moving _ = false

-- whether the drive is on after a list of inputs, as it was last switched
abbrev pub drive_after_all : Bool → OutState → List OutInput → Bool
drive_after_all drive s [] = drive
drive_after_all drive s (input ∷ inputs) =
    drive_after_all (unwrap_or (step s input).act.drive drive) (step s input).after inputs
