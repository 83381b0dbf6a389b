use Rattle.std.specs.Prelude.{ℕ, Bool, true, false, Option, Some, None, ◌&&◌, ◌==◌, not}
use Rattle.board_record.specs.declared.record.Record.{Record}
use Rattle.handover_out.specs.declared.phase.OutPhase.{OutPhase}
use Rattle.handover_out.specs.declared.phase.OutPhase.TheVariants as names
use Rattle.handover_out.specs.declared.phase.Phase.{Phase}
use Rattle.handover_out.specs.declared.phase.Phase.TheVariants.{Idle, Moving, Stuck, Ended}

-- how an outlet stands: its phase, and beside it the board that is offered, the board last
-- offered, and whether the downstream machine is ready
pub record OutState : Type 0 where
  pub phase : Phase
  pub offered : Option ℕ
  pub touched : Option ℕ
  pub ready : Bool

-- no handover, nothing offered, and no neighbour that is ready
abbrev pub at_rest : OutState
at_rest = record { phase = Idle; offered = None; touched = None; ready = false }

abbrev pub name_of_phase : Phase → OutPhase
name_of_phase Idle = names.Idle
name_of_phase (Moving _ _) = names.Moving
name_of_phase (Stuck _ _ _) = names.Stuck
name_of_phase (Ended _) = names.Ended

abbrev pub board_of_phase : Phase → Option Record
board_of_phase Idle = None
board_of_phase (Moving board _) = Some board
board_of_phase (Stuck board _ _) = Some board
board_of_phase (Ended _) = None

-- the record that an outlet holds
abbrev pub held : OutState → Option Record
held s = board_of_phase s.phase

abbrev pub is_idle_phase : Phase → Bool
is_idle_phase Idle = true
is_idle_phase _ = false

abbrev pub is_stopped_phase : Phase → Bool
is_stopped_phase (Stuck _ _ stopped) = stopped
is_stopped_phase _ = false

abbrev pub is_id : Option ℕ → ℕ → Bool
is_id (Some mine) id = mine == id
is_id None _ = false

-- a start for this id opens the outlet
abbrev pub would_open : OutState → ℕ → Bool
would_open s id = is_idle_phase s.phase && s.ready && is_id s.offered id

-- the stop of this board's transport is still to come
abbrev pub awaits_stop : Phase → ℕ → Bool
awaits_stop (Moving board _) id = board.id == id
awaits_stop (Stuck board linked stopped) id = linked && not stopped && (board.id == id)
awaits_stop (Ended mine) id = mine == id
awaits_stop Idle _ = false
