use Rattle.std.specs.Prelude.{ℕ, Bool, true, false, List, [], ◌∷◌, Option, Some, None, is_some, not, ◌&&◌, if◌then◌else◌}
use Rattle.handover_out.specs.declared.act.OutDeed.{OutDeed}
use Rattle.handover_out.specs.declared.act.OutDeed.TheVariants.{Opens, Refuses}
use Rattle.handover_out.specs.declared.input.OutInput.{OutInput}
use Rattle.handover_out.specs.declared.input.OutInput.TheVariants.{Offer, Revoke, MachineReady, RevokeMachineReady, Start, Closed}
use Rattle.handover_out.specs.State.{OutState, is_idle_phase, would_open}
use Rattle.handover_out.specs.Row.{outlet_row}
use Rattle.handover_out.specs.Run.{step}

-- a deed opens a handover
abbrev pub is_opening : Option OutDeed → Bool
is_opening (Some (Opens _)) = true
is_opening _ = false

-- an input opens a handover: a start that brings a board, for the id that is offered, while the
-- downstream machine is ready and no handover is under way
abbrev pub opens_at : OutState → OutInput → Bool
opens_at s (Start id (Some _)) = would_open s id
opens_at _ _ = false

-- a deed refuses a start
abbrev pub is_refusing : Option OutDeed → Bool
is_refusing (Some (Refuses _)) = true
is_refusing _ = false

-- a start is opened or refused: no handover is under way, and the downstream machine is ready
abbrev pub takes_start : OutState → Bool
takes_start s = is_idle_phase s.phase && s.ready

-- an input is refused: such a start that brings no board, for an id that isn't offered
abbrev pub refuses_at : OutState → OutInput → Bool
refuses_at s (Start id None) = takes_start s && not (would_open s id)
refuses_at _ _ = false

-- what is offered after an input that has a row: a start, opened or refused, and a close clear it
abbrev pub offered_after : Option ℕ → OutInput → Option ℕ
offered_after _ (Offer id) = Some id
offered_after _ Revoke = None
offered_after _ (Start _ _) = None
offered_after _ Closed = None
offered_after offered _ = offered

-- and whether the downstream machine is ready
abbrev pub ready_after : Bool → OutInput → Bool
ready_after _ MachineReady = true
ready_after _ RevokeMachineReady = false
ready_after _ (Start _ _) = false
ready_after _ Closed = false
ready_after ready _ = ready

-- the board last offered: a close clears it, and an outlet that becomes idle
abbrev pub touched_after : OutState → OutInput → OutState → Option ℕ
touched_after _ (Offer id) _ = Some id
touched_after _ Closed _ = None
touched_after old _ new =
    if not (is_idle_phase old.phase) && is_idle_phase new.phase then None else old.touched

-- the same where there is a row, and where there is none
abbrev pub offered_at : Bool → Option ℕ → OutInput → Option ℕ
offered_at true offered input = offered_after offered input
offered_at false offered _ = offered

abbrev pub ready_at : Bool → Bool → OutInput → Bool
ready_at true ready input = ready_after ready input
ready_at false ready _ = ready

-- what is offered after a list of inputs, and whether the downstream machine is ready
abbrev pub offered_after_all : Option ℕ → OutState → List OutInput → Option ℕ
offered_after_all offered s [] = offered
offered_after_all offered s (input ∷ inputs) =
    offered_after_all (offered_at (is_some (outlet_row s input)) offered input)
    (step s input).after inputs

abbrev pub ready_after_all : Bool → OutState → List OutInput → Bool
ready_after_all ready s [] = ready
ready_after_all ready s (input ∷ inputs) =
    ready_after_all (ready_at (is_some (outlet_row s input)) ready input)
    (step s input).after inputs
