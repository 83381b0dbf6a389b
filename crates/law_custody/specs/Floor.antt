-- The floor around a gap, seen from each side: the phase, the unread events of that side's sensor,
-- its drive, and the place of the board. A machine reads all its events at the head of each of its
-- steps, and phases change only in steps, so the unread events of a side are those that one phase
-- and one setting of that side's drive allow.
use Rattle.std.specs.Prelude.{Bool, List, Option, Some, [], false, true, ℕ, ◌∷◌}
use Rattle.line_base.specs.declared.states.Seen.{Seen}
use Rattle.line_base.specs.declared.states.Seen.TheVariants as seen
use Rattle.line_base.specs.declared.states.SensorEvent.{SensorEvent}
use Rattle.line_base.specs.declared.states.SensorEvent.TheVariants as event
use Rattle.line_base.specs.declared.states.Transfer.{Transfer}
use Rattle.board_record.specs.declared.record.Record.{Record}
use Rattle.line_world.specs.declared.gap.Gap.{Gap}
use Rattle.line_world.specs.declared.gap.Gap.TheVariants as gaps
use Rattle.handover_out.specs.declared.phase.Phase.{Phase as Out}
use Rattle.handover_out.specs.declared.phase.Phase.TheVariants as out
use Rattle.handover_in.specs.declared.phase.Phase.{Phase as In}
use Rattle.handover_in.specs.declared.phase.Phase.TheVariants as inn
use Rattle.law_custody.specs.Place.{Across, Beyond, Fresh, Home, InGap, Inside, Lost, NotAcross, NotBegun, Place, Stolen}

pub data AllTaken : List SensorEvent → Type 0 where
  none_taken : AllTaken []
  more_taken : {es : List SensorEvent} → AllTaken es → AllTaken (event.Taken ∷ es)

pub data NoFull : List SensorEvent → Type 0 where
  no_full_none : NoFull []
  no_full_begun : {es : List SensorEvent} → NoFull es → NoFull (event.Begun ∷ es)
  no_full_back : {es : List SensorEvent} → NoFull es → NoFull (event.Back ∷ es)
  no_full_taken : {es : List SensorEvent} → NoFull es → NoFull (event.Taken ∷ es)

-- the outlet's phase, the unread events of the exit, the exit's drive, the place and the board
pub data ExitFloor : Out → List SensorEvent → Bool → Place → Record → Type 0 where
  -- no board is held: the drive is off, nothing lies begun, and all that may be unread is that a
  -- board which had left was taken out
  out_idle : {es : List SensorEvent} {p : Place} {r : Record} → AllTaken es → NotBegun p
      → ExitFloor out.Idle es false p r
  out_ended : {x : ℕ} {es : List SensorEvent} {p : Place} {r : Record} → AllTaken es → NotBegun p
      → ExitFloor (out.Ended x) es false p r
  -- the drive moves a board out: it has not begun, it has begun, or it has left and the drive
  -- stopped. Then the board may be inside already, or taken out behind the exit's back
  at_start : {r : Record} → ExitFloor (out.Moving r false) [] true Fresh r
  begun_unread : {r : Record} → ExitFloor (out.Moving r false) (event.Begun ∷ []) true InGap r
  begun_read : {r : Record} → ExitFloor (out.Moving r true) [] true InGap r
  both_unread : {r : Record} {p : Place} → Beyond p
      → ExitFloor (out.Moving r false) (event.Begun ∷ event.Left ∷ []) false p r
  left_unread : {r : Record} {p : Place} → Beyond p
      → ExitFloor (out.Moving r true) (event.Left ∷ []) false p r
  both_gone : {r : Record}
      → ExitFloor (out.Moving r false) (event.Begun ∷ event.Left ∷ event.Taken ∷ []) false Stolen r
  left_gone : {r : Record}
      → ExitFloor (out.Moving r true) (event.Left ∷ event.Taken ∷ []) false Stolen r
  -- a board lies in the gap with the drive off, or it was pushed back or taken out and that is
  -- unread
  stuck_begun : {r : Record} {l s : Bool} → ExitFloor (out.Stuck r l s) [] false InGap r
  stuck_back : {r : Record} {l s : Bool}
      → ExitFloor (out.Stuck r l s) (event.Back ∷ []) false Home r
  stuck_gone : {r : Record} {l s : Bool}
      → ExitFloor (out.Stuck r l s) (event.Taken ∷ []) false Lost r
  -- or it has left, and that was unread as the connection was closed, the drive failed or a stop was
  -- heard. Then it may have come inside, or have been taken out
  stuck_left : {r : Record} {l s : Bool} {p : Place} → Beyond p
      → ExitFloor (out.Stuck r l s) (event.Left ∷ []) false p r
  stuck_left_gone : {r : Record} {l s : Bool}
      → ExitFloor (out.Stuck r l s) (event.Left ∷ event.Taken ∷ []) false Stolen r

-- whether an entry drive that was on for the handover still runs: it does; the board that came in
-- stopped it; or it can't run, since the board was seen inside, was taken out, or was stolen while
-- the drive was off
pub data Run : Type 0 where
  Runs : Run
  Ran : Run
  Never : Run

-- what the entry's sensor has seen of the board, the events that it has still to tell, the place,
-- and the drive
pub data Sees : Seen → List SensorEvent → Place → Run → Type 0 where
  -- nothing is read yet
  sees_fresh : Sees seen.NotStarted [] Fresh Runs
  sees_home : Sees seen.NotStarted [] Home Runs
  sees_begun : Sees seen.NotStarted (event.Begun ∷ []) InGap Runs
  sees_across : Sees seen.NotStarted (event.Begun ∷ []) Across Runs
  sees_back : Sees seen.NotStarted (event.Begun ∷ event.Back ∷ []) Home Runs
  sees_full : Sees seen.NotStarted (event.Begun ∷ event.Full ∷ []) Inside Ran
  sees_gone : Sees seen.NotStarted (event.Begun ∷ event.Taken ∷ []) Lost Runs
  sees_stolen : Sees seen.NotStarted (event.Begun ∷ event.Taken ∷ []) Stolen Never
  -- it was read that the board begins
  on_begun : Sees seen.Incomplete [] InGap Runs
  on_across : Sees seen.Incomplete [] Across Runs
  on_back : Sees seen.Incomplete (event.Back ∷ []) Home Runs
  on_full : Sees seen.Incomplete (event.Full ∷ []) Inside Ran
  on_gone : Sees seen.Incomplete (event.Taken ∷ []) Lost Runs
  on_stolen : Sees seen.Incomplete (event.Taken ∷ []) Stolen Never
  -- all is read
  is_in : Sees seen.Complete [] Inside Never
  is_gone : Sees seen.Taken [] Lost Never
  is_stolen : Sees seen.Taken [] Stolen Never

-- the intake's phase, the unread events of the entry, the entry's drive, the place and the board
pub data EntryFloor : In → List SensorEvent → Bool → Place → Record → Type 0 where
  -- no board is held: the drive is off, so none comes in, and what is unread is of no handover of
  -- this intake
  in_free : {es : List SensorEvent} {p : Place} {r : Record} → NoFull es → NotAcross p
      → EntryFloor inn.Idle es false p r
  -- the transport runs, and the board that comes in stops the drive
  in_taking : {r : Record} {own : Seen} {h : Bool} {es : List SensorEvent} {p : Place}
      → Sees own es p Runs → EntryFloor (inn.Taking r own h) es true p r
  in_taken_in : {r : Record} {own : Seen} {h : Bool} {es : List SensorEvent} {p : Place}
      → Sees own es p Ran → EntryFloor (inn.Taking r own h) es false p r
  -- it was stopped, or its connection was closed
  in_stopped : {r : Record} {own : Seen} {h : Option Transfer} {es : List SensorEvent} {p : Place}
      {n : Run} → Sees own es p n → EntryFloor (inn.Stopped r own h) es false p r
  in_waiting : {r : Record} {own : Seen} {h : Bool} {es : List SensorEvent} {p : Place} {n : Run}
      → Sees own es p n → EntryFloor (inn.Waiting r own h) es false p r
  -- the drive runs on after a close for a board that is across
  in_waiting_on : {r : Record} → EntryFloor (inn.Waiting r seen.Incomplete true) [] true Across r

-- what lies in the gap
pub data GapAt : Gap → Place → Record → Type 0 where
  gap_fresh : {r : Record} → GapAt gaps.Free Fresh r
  gap_home : {r : Record} → GapAt gaps.Free Home r
  gap_begun : {r : Record} → GapAt (gaps.Begun (record { id = Some r.id })) InGap r
  gap_left : {r : Record} → GapAt (gaps.Left (record { id = Some r.id })) Across r
  gap_inside : {r : Record} → GapAt gaps.Free Inside r
  gap_lost : {r : Record} → GapAt gaps.Free Lost r
  gap_stolen : {r : Record} → GapAt gaps.Free Stolen r
