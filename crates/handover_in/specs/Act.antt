use Rattle.std.specs.Prelude.{ℕ, Bool, true, false, Option, Some, None}
use Rattle.line_base.specs.declared.states.Seen.{Seen}
use Rattle.board_record.specs.declared.record.Record.{Record}
use Rattle.handover_in.specs.declared.act.InAct.{InAct}
use Rattle.handover_in.specs.declared.act.InDeed.TheVariants.{Starts, Settles, Drops}
use Rattle.handover_in.specs.declared.act.InSend.{InSend}
use Rattle.handover_in.specs.declared.act.InSend.TheVariants.{Start, Stop}
use Rattle.handover_in.specs.Own.{said_of, is_taken}

-- nothing is done
abbrev pub nothing : InAct
nothing = record { deed = None; send = None; drive = None; keep = None; taken = false }

-- only this is sent
abbrev pub sends : InSend → InAct
sends what = record nothing { send = Some what }

-- only the drive is switched off
abbrev pub drive_off : InAct
drive_off = record nothing { drive = Some false }

-- the transport starts
abbrev pub starts : ℕ → InAct
starts id = record nothing { deed = Some (Starts id); send = Some (Start id); drive = Some true }

-- StopTransport with what the sensors saw
abbrev pub stop : Record → Seen → Option InSend
stop board own = Some (Stop (said_of own) board.id)

-- the transport stops, and it isn't known yet what becomes of the board
abbrev pub stops : Record → Seen → InAct
stops board own = record nothing { send = stop board own; drive = Some false }

-- the board is the machine's: whether its stop is said now, and what becomes of the drive
abbrev pub settles : Record → Option InSend → Option Bool → InAct
settles board send drive =
    record {
      deed = Some (Settles board.id);
      send = send;
      drive = drive;
      keep = Some board;
      taken = false;
    }

-- the board didn't come, and this is what the sensors saw of it
abbrev pub drops : Record → Seen → Option InSend → Option Bool → InAct
drops board own send drive =
    record {
      deed = Some (Drops board.id);
      send = send;
      drive = drive;
      keep = None;
      taken = is_taken own;
    }
