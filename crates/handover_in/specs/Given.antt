use Rattle.std.specs.Prelude.{◌≡◌, true, false, Option, Some, None, IsSome}
use Rattle.handover_in.specs.declared.breach.InBreach.{InBreach}
use Rattle.handover_in.specs.declared.breach.InBreach.TheVariants as breach
use Rattle.handover_in.specs.declared.input.InInput.{InInput}
use Rattle.handover_in.specs.declared.input.InInput.TheVariants.{Ready, Unready, Start, BoardAvailable, RevokeBoardAvailable, Finished}
use Rattle.handover_in.specs.declared.phase.InPhase.TheVariants as names
use Rattle.handover_in.specs.State.{InState, name_of_phase}

-- what an intake's machine sees to: it says that it is ready or not, and starts, only where the
-- table has a row for it
abbrev pub IsGiven : InState → InInput → Type 0
IsGiven s Ready = (name_of_phase s.phase ≡ names.Idle) × (s.ready ≡ false)
IsGiven s Unready = (name_of_phase s.phase ≡ names.Idle) × (s.ready ≡ true)
IsGiven s Start = (name_of_phase s.phase ≡ names.Idle) × (s.ready ≡ true) × IsSome s.offer
IsGiven _ _ = Unit {0}

-- the breach that is named after a message
abbrev pub breach_of : InInput → Option InBreach
breach_of (BoardAvailable _) = Some breach.BoardAvailable
breach_of RevokeBoardAvailable = Some breach.RevokeBoardAvailable
breach_of (Finished _ _) = Some breach.TransportFinished
breach_of _ = None
