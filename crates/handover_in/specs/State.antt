use Rattle.std.specs.Prelude.{ℕ, Bool, true, false, Option, Some, None, is_some, is_none, not, ◌&&◌, ◌==◌}
use Rattle.line_base.specs.declared.states.Seen.{Seen}
use Rattle.line_base.specs.declared.states.Seen.TheVariants.{Complete}
use Rattle.board_record.specs.declared.record.Record.{Record}
use Rattle.handover_in.specs.declared.phase.InPhase.{InPhase}
use Rattle.handover_in.specs.declared.phase.InPhase.TheVariants as names
use Rattle.handover_in.specs.declared.phase.Phase.{Phase}
use Rattle.handover_in.specs.declared.phase.Phase.TheVariants.{Idle, Taking, Stopped, Waiting}

-- how an intake stands: its phase, and beside it the record of the board that is offered and
-- whether the machine has said that it is ready
pub record InState : Type 0 where
  pub phase : Phase
  pub offer : Option Record
  pub ready : Bool

-- no handover, no offer, and not ready
abbrev pub at_rest : InState
at_rest = record { phase = Idle; offer = None; ready = false }

abbrev pub name_of_phase : Phase → InPhase
name_of_phase Idle = names.Idle
name_of_phase (Taking _ _ _) = names.Taking
name_of_phase (Stopped _ _ _) = names.Stopped
name_of_phase (Waiting _ _ _) = names.Waiting

abbrev pub board_of_phase : Phase → Option Record
board_of_phase Idle = None
board_of_phase (Taking board _ _) = Some board
board_of_phase (Stopped board _ _) = Some board
board_of_phase (Waiting board _ _) = Some board

-- the record that an intake holds
abbrev pub held : InState → Option Record
held s = board_of_phase s.phase

-- what the sensors saw of the board
abbrev pub own_of_phase : Phase → Option Seen
own_of_phase Idle = None
own_of_phase (Taking _ own _) = Some own
own_of_phase (Stopped _ own _) = Some own
own_of_phase (Waiting _ own _) = Some own

-- the neighbour said how the handover ended
abbrev pub has_heard : Phase → Bool
has_heard Idle = false
has_heard (Taking _ _ heard) = heard
has_heard (Stopped _ _ heard) = is_some heard
has_heard (Waiting _ _ heard) = heard

-- a new connection may be opened: the machine has no board between itself and its neighbour
abbrev pub may_connect : Phase → Bool
may_connect Idle = true
may_connect (Waiting _ Complete _) = true
may_connect _ = false

-- an offer may be of a time before the open handover
abbrev pub passes_offers_over : Phase → Bool
passes_offers_over (Taking _ _ heard) = not heard
passes_offers_over (Stopped _ _ heard) = is_none heard
passes_offers_over _ = false

-- an offer is of the next handover
abbrev pub takes_offers : Phase → Bool
takes_offers Idle = true
takes_offers (Taking _ _ heard) = heard
takes_offers (Stopped _ _ heard) = is_some heard
takes_offers (Waiting _ _ _) = false

-- the end of this board's handover is still to be heard
abbrev pub awaits_finish : Phase → ℕ → Bool
awaits_finish (Taking board _ heard) id = not heard && (board.id == id)
awaits_finish (Stopped board _ heard) id = is_none heard && (board.id == id)
awaits_finish _ _ = false
