-- What can stand together in an intake.
use Rattle.std.specs.Prelude.{◌≡◌, Bool, true, false, Option, Some, None}
use Rattle.line_base.specs.declared.states.Seen.{Seen}
use Rattle.line_base.specs.declared.states.Seen.TheVariants.{NotStarted, Incomplete, Complete}
use Rattle.line_base.specs.declared.states.Transfer.{Transfer}
use Rattle.board_record.specs.declared.record.Record.{Record}
use Rattle.transfer_state.specs.declared.intake.InEnd.TheVariants.{Wait}
use Rattle.transfer_state.specs.Intake.{in_ends}
use Rattle.handover_in.specs.declared.phase.Phase.TheVariants.{Idle, Taking, Stopped, Waiting}
use Rattle.handover_in.specs.State.{InState}
use Rattle.handover_in.specs.Table.{state_of}

-- the board has not begun to come, or lies between the machines
pub data IsUnderWay : Seen → Type 0 where
  not_begun : IsUnderWay NotStarted
  has_begun : IsUnderWay Incomplete

-- an intake is ready only while no handover is open, and has an offer only where it takes offers.
-- Its phase is one that comes up: a transport runs only while its board is under way; once the end
-- was heard of a transport that has stopped, the two ends don't settle it; and beyond a close a
-- board is waited for that lies between the machines, or is inside and nobody said that it has
-- left
pub data IsIntakeTogether : InState → Type 0 where
  together_idle : {o : Option Record} {r : Bool} → IsIntakeTogether (state_of Idle o r)
  together_taking : {board : Record} {own : Seen} → IsUnderWay own
      → IsIntakeTogether (state_of (Taking board own false) None false)
  together_heard : {o : Option Record} {board : Record} {own : Seen} → IsUnderWay own
      → IsIntakeTogether (state_of (Taking board own true) o false)
  together_stopped : {board : Record} {own : Seen}
      → IsIntakeTogether (state_of (Stopped board own None) None false)
  together_ended : {o : Option Record} {board : Record} {own : Seen} {n : Transfer}
      → in_ends own n ≡ Wait → IsIntakeTogether (state_of (Stopped board own (Some n)) o false)
  together_between : {board : Record} {heard : Bool}
      → IsIntakeTogether (state_of (Waiting board Incomplete heard) None false)
  together_inside : {board : Record}
      → IsIntakeTogether (state_of (Waiting board Complete false) None false)
