use Rattle.std.specs.Prelude.{◌≡◌, ◌↔◌, Option, Some, None, IsTrue, IsSome, IfSome}
use Rattle.handover_out.specs.declared.breach.OutBreach.{OutBreach}
use Rattle.handover_out.specs.declared.breach.OutBreach.TheVariants as breach
use Rattle.handover_out.specs.declared.input.OutInput.{OutInput}
use Rattle.handover_out.specs.declared.input.OutInput.TheVariants.{Offer, Revoke, MachineReady, RevokeMachineReady, Start, Stop}
use Rattle.handover_out.specs.declared.phase.OutPhase.TheVariants as names
use Rattle.handover_out.specs.State.{OutState, name_of_phase, would_open}

-- what an outlet's machine sees to: it offers and revokes only where the table has a row for it,
-- and at a start it gives the board of that id exactly where the start opens
abbrev pub IsGiven : OutState → OutInput → Type 0
IsGiven s (Offer _) = (name_of_phase s.phase ≡ names.Idle) × (s.offered ≡ None)
IsGiven s Revoke = (name_of_phase s.phase ≡ names.Idle) × IsSome s.offered
IsGiven s (Start id board) =
    (IsSome board ↔ IsTrue (would_open s id)) × IfSome board (λ board. board.id ≡ id)
IsGiven _ _ = Unit {0}

-- the breach that is named after a message
abbrev pub breach_of : OutInput → Option OutBreach
breach_of MachineReady = Some breach.MachineReady
breach_of RevokeMachineReady = Some breach.RevokeMachineReady
breach_of (Start _ _) = Some breach.StartTransport
breach_of (Stop _ _) = Some breach.StopTransport
breach_of _ = None
