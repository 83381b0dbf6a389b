use Rattle.std.specs.Prelude.{ℕ, Bool, true, false, Option, Some, None}
use Rattle.line_base.specs.declared.states.Transfer.{Transfer}
use Rattle.board_record.specs.declared.record.Record.{Record}
use Rattle.handover_out.specs.declared.act.OutAct.{OutAct}
use Rattle.handover_out.specs.declared.act.OutDeed.TheVariants.{Leaves, Returns, Loses}
use Rattle.handover_out.specs.declared.act.OutSend.{OutSend}
use Rattle.handover_out.specs.declared.act.OutSend.TheVariants.{Finished}

-- nothing is done
abbrev pub nothing : OutAct
nothing = record { deed = None; send = None; drive = None; back = None }

-- only this is sent
abbrev pub sends : OutSend → OutAct
sends what = record nothing { send = Some what }

-- only the drive is switched off
abbrev pub drive_off : OutAct
drive_off = record nothing { drive = Some false }

-- TransportFinished with this state, where the connection still stands
abbrev pub finished : Bool → Transfer → ℕ → Option OutSend
finished true state id = Some (Finished state id)
finished false _ _ = None

-- a handover is over: what became of the board, whether the neighbour is told how it ended, and
-- what becomes of the drive
abbrev pub leaves : Record → Option OutSend → Option Bool → OutAct
leaves board send drive =
    record { deed = Some (Leaves board.id); send = send; drive = drive; back = None }

abbrev pub returns : Record → Option OutSend → Option Bool → OutAct
returns board send drive =
    record { deed = Some (Returns board.id); send = send; drive = drive; back = Some board }

abbrev pub loses : Record → Option OutSend → Option Bool → OutAct
loses board send drive =
    record { deed = Some (Loses board.id); send = send; drive = drive; back = None }
