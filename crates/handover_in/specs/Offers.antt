use Rattle.std.specs.Prelude.{Bool, true, false, List, [], ◌∷◌, Option, Some, None, ◌&&◌, is_some, if◌then◌else◌}
use Rattle.board_record.specs.declared.record.Record.{Record}
use Rattle.handover_in.specs.declared.act.InDeed.{InDeed}
use Rattle.handover_in.specs.declared.act.InDeed.TheVariants.{Starts}
use Rattle.handover_in.specs.declared.input.InInput.{InInput}
use Rattle.handover_in.specs.declared.input.InInput.TheVariants.{Ready, Unready, Start, BoardAvailable, RevokeBoardAvailable, Closed}
use Rattle.handover_in.specs.declared.phase.Phase.{Phase}
use Rattle.handover_in.specs.declared.phase.Phase.TheVariants.{Idle}
use Rattle.handover_in.specs.State.{InState, takes_offers}
use Rattle.handover_in.specs.Row.{InRow, intake_row}
use Rattle.handover_in.specs.Run.{step}

abbrev pub is_start : Option InDeed → Bool
is_start (Some (Starts _)) = true
is_start _ = false

abbrev pub is_idle_phase : Phase → Bool
is_idle_phase Idle = true
is_idle_phase _ = false

-- a transport starts: the machine says so, is ready, and a board is offered
abbrev pub starts_at : InState → InInput → Bool
starts_at s Start = is_idle_phase s.phase && is_some s.offer && s.ready
starts_at _ _ = false

-- the record that is offered after an input that has a row: as BoardAvailable brought it, until
-- it is revoked, its transport starts, or the connection is closed. Offers of a time before the
-- neighbour let the board of the open handover go are passed over
abbrev pub offer_after : InState → InInput → Option Record
offer_after s (BoardAvailable board) = if takes_offers s.phase then Some board else s.offer
offer_after s RevokeBoardAvailable = if takes_offers s.phase then None else s.offer
offer_after _ Start = None
offer_after _ Closed = None
offer_after s _ = s.offer

-- and whether the machine has said that it is ready
abbrev pub ready_after : Bool → InInput → Bool
ready_after _ Ready = true
ready_after _ Unready = false
ready_after _ Start = false
ready_after _ Closed = false
ready_after ready _ = ready

-- both over a list of inputs: an input without a row changes neither
abbrev pub offer_by : Option Record → InState → InInput → Option InRow → Option Record
offer_by offer s input (Some _) = offer_after (record s { offer = offer }) input
offer_by offer _ _ None = offer

abbrev pub offer_after_all : Option Record → InState → List InInput → Option Record
offer_after_all offer s [] = offer
offer_after_all offer s (input ∷ inputs) =
    offer_after_all (offer_by offer s input (intake_row s input)) (step s input).after inputs

abbrev pub ready_by : Bool → InInput → Option InRow → Bool
ready_by ready input (Some _) = ready_after ready input
ready_by ready _ None = ready

abbrev pub ready_after_all : Bool → InState → List InInput → Bool
ready_after_all ready s [] = ready
ready_after_all ready s (input ∷ inputs) =
    ready_after_all (ready_by ready input (intake_row s input)) (step s input).after inputs
