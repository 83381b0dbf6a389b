-- What a done move does to the floor: the laws of the move table over the whole line.
use Rattle.std.proofs.Common.{◌≡◌, ◌≢◌, ◌∙◌, ℕ, suc, ◌+◌, ◌-◌, ◌<◌, ◌≤◌, ◌++◌, ◌&&◌, List, Bool, true, false, length, refl, sym, ap, arith, append_assoc, length-set}
use Rattle.std.specs.Prelude.{Result, Ok, Err, cond, slice_index_or, slice_set, nat_lt}
use Rattle.std.proofs.lemmas.List.{set-get_or, get_or-set_same, get_or-set_other, get_or_past}
use Rattle.line_base.specs.declared.states.Side.{Side}
use Rattle.line_base.specs.declared.states.Side.TheVariants as sides
use Rattle.board_record.specs.declared.sensed.Sensed.{Sensed}
use Rattle.line_world.specs.declared.board.Board.{Board}
use Rattle.line_world.specs.declared.gap.AtGap.{AtGap}
use Rattle.line_world.specs.declared.gap.Gap.{Gap}
use Rattle.line_world.specs.declared.moves.Move.{Move}
use Rattle.line_world.specs.declared.moves.Move.TheVariants as moves
use Rattle.line_world.specs.declared.moves.MoveNo.{MoveNo}
use Rattle.line_world.specs.declared.moves.MoveNo.TheVariants as nos
use Rattle.line_world.specs.FloorPlan.{AtMachine, FloorPlan, IsGap, IsWhole, empty_machine, free_gap, gap_at, machine_at, with_drive, with_gap, with_machine, with_unread}
use Rattle.line_world.specs.Moves.{Around, around_move, around_of, floor_after, floor_move, has_gap, with_around}
use Rattle.line_world.specs.Boards.{KeepsBoards, boards_on}
use Rattle.line_world.specs.Counted.{IsCounted}
use Rattle.line_world.specs.Events.{ReachesBothSides}
use Rattle.line_world.proofs.Along.{AroundHole, along-set_gap, along-set_machine, around_hole, boards_around}
use Rattle.line_world.proofs.Counting.{length_lost}
use Rattle.line_world.proofs.Moving.{moved}

-- a done move: its gap is there, and around it the table's row was done
pub record Done (gap : ℕ) (step : Move) (old new : FloorPlan) : Type 0 where
  pub there : has_gap old gap ≡ true
  pub around : Around
  pub row : around_move step (around_of old gap) ≡ Ok around
  pub after : new ≡ with_around old gap around

done_by : (gap : ℕ) (step : Move) (old new : FloorPlan) (there : Bool) (answer : Result Around MoveNo) → has_gap old gap ≡ there → around_move step (around_of old gap) ≡ answer → cond there (floor_after old gap answer) (Err nos.NoGap) ≡ Ok new → Done gap step old new
done_by gap step old new true (Ok around) is row h = record { there = is; around = around; row = row; after = cc }
done_by gap step old new true (Err why) is row h = absurd (cc)
done_by gap step old new false answer is row h = absurd (cc)

pub done_of : (gap : ℕ) (step : Move) (old new : FloorPlan) → floor_move gap step old ≡ Ok new → Done gap step old new
done_of gap step old new h = done_by gap step old new (has_gap old gap) (around_move step (around_of old gap)) refl refl h

is_gap_by : (plan : FloorPlan) (gap : ℕ) (a b : Bool) → nat_lt 0 gap ≡ a → nat_lt gap (length plan.machines) ≡ b → (a && b) ≡ true → IsGap plan gap
is_gap_by plan gap true true p q h = record { counted = grind (arith, p); within = grind (arith, q) }
is_gap_by plan gap true false p q h = absurd (cc)
is_gap_by plan gap false b p q h = absurd (cc)

pub is_gap_of : (plan : FloorPlan) (gap : ℕ) → has_gap plan gap ≡ true → IsGap plan gap
is_gap_of plan gap h = is_gap_by plan gap _ _ refl refl h

pub has_gap_of : (plan : FloorPlan) (gap : ℕ) → IsGap plan gap → has_gap plan gap ≡ true
has_gap_of plan gap is = grind (arith, is.counted, is.within)

-- what is at a machine or a gap that has a number
pub counted_test : (n : ℕ) → 1 ≤ n → nat_lt 0 n ≡ true
counted_test n counted = grind (arith, counted)

pub next_test : (n : ℕ) → nat_lt 0 (n + 1) ≡ true
next_test n = grind (arith)

pub machine_there : (plan : FloorPlan) (machine : ℕ) → 1 ≤ machine → machine_at plan machine ≡ slice_index_or plan.machines (machine - 1) empty_machine
machine_there plan machine counted = rw (counted_test machine counted) refl

pub gap_there : (plan : FloorPlan) (gap : ℕ) → 1 ≤ gap → gap_at plan gap ≡ slice_index_or plan.gaps (gap - 1) free_gap
gap_there plan gap counted = rw (counted_test gap counted) refl

pub none_behind : (plan : FloorPlan) (machine : ℕ) → length plan.machines < machine → machine_at plan machine ≡ empty_machine
none_behind plan machine behind = machine_there plan machine (omega arith) ∙ get_or_past plan.machines (machine - 1) empty_machine (omega arith)

pub no_gap_behind : (plan : FloorPlan) (gap : ℕ) → length plan.gaps < gap → gap_at plan gap ≡ free_gap
no_gap_behind plan gap behind = gap_there plan gap (omega arith) ∙ get_or_past plan.gaps (gap - 1) free_gap (omega arith)

pub around_there : (plan : FloorPlan) (gap : ℕ) → 1 ≤ gap
    → around_of plan gap ≡ record { up = slice_index_or plan.machines (gap - 1) empty_machine; between = slice_index_or plan.gaps (gap - 1) free_gap; down = slice_index_or plan.machines (gap + 1 - 1) empty_machine }
around_there plan gap counted = rw (counted_test gap counted, next_test gap) refl

-- a floor with what is there already is the same floor
pub with_around_same : (plan : FloorPlan) (gap : ℕ) → 1 ≤ gap → with_around plan gap (around_of plan gap) ≡ plan
with_around_same plan gap counted = rw (counted_test gap counted, next_test gap) (simp set-get_or)

-- the boards of the floor, those around one gap in their middle
pub record Middle (plan : FloorPlan) (gap : ℕ) : Type 0 where
  pub front : List Board
  pub back : List Board
  pub filled : (around : Around) → boards_on (with_around plan gap around) ≡ front ++ (boards_around around ++ back)

middle_by : (plan : FloorPlan) (gap i : ℕ) → AroundHole plan.machines plan.gaps i → gap - 1 ≡ i → gap + 1 - 1 ≡ suc i → Middle plan gap
middle_by plan gap i hole p q = record { front = hole.front; back = hole.back; filled = λ a. rw (p, q) (hole.filled a) }

pub middle_of : (plan : FloorPlan) (gap : ℕ) → IsWhole plan → IsGap plan gap → Middle plan gap
middle_of plan gap whole is =
    let hole = around_hole plan.machines plan.gaps (gap - 1) (omega (arith, is.within, is.counted)) (omega (arith, is.within, is.counted, whole)) in
    middle_by plan gap (gap - 1) hole refl (omega (arith, is.counted))

pub middle_now : (plan : FloorPlan) (gap : ℕ) (m : Middle plan gap) → 1 ≤ gap → boards_on plan ≡ m.front ++ (boards_around (around_of plan gap) ++ m.back)
middle_now plan gap m counted = ap boards_on (sym (with_around_same plan gap counted)) ∙ m.filled (around_of plan gap)

keeps_inside : (step : Move) (lies : Gap) (front back old new : List Board) → KeepsBoards step lies old new → KeepsBoards step lies (front ++ (old ++ back)) (front ++ (new ++ back))
keeps_inside moves.Begin lies front back old new h = rw h refl
keeps_inside moves.Left lies front back old new h = rw h refl
keeps_inside moves.Enter lies front back old new h = rw h refl
keeps_inside moves.Back lies front back old new h = rw h refl
keeps_inside moves.HandIn lies front back old new h = rw h refl
keeps_inside moves.Take lies front back old new h =
    let loss = h.2 in (
      h.0,
      h.1,
      record {
        front = front ++ loss.front;
        back = loss.back ++ back;
        before = rw loss.before (simp append_assoc);
        after = rw loss.after (simp append_assoc);
      },
    )

-- no move makes or loses a board, but `take` takes the one in the gap
pub keeps_boards : (gap : ℕ) (step : Move) (old new : FloorPlan) → IsWhole old → floor_move gap step old ≡ Ok new → KeepsBoards step (gap_at old gap).lies (boards_on old) (boards_on new)
keeps_boards gap step old new whole h =
    let done = done_of gap step old new h in
    let is = is_gap_of old gap done.there in
    let m = middle_of old gap whole is in
    let inside = keeps_inside step (gap_at old gap).lies m.front m.back _ _ (moved step (around_of old gap) done.around done.row).boards in
    rw (done.after, m.filled done.around, middle_now old gap m is.counted) inside

-- what is at the gap and at each machine after a move there
pub up_after : (plan : FloorPlan) (gap : ℕ) (around : Around) → IsGap plan gap → machine_at (with_around plan gap around) gap ≡ around.up
up_after plan gap around is =
    let apart : gap - 1 ≢ gap + 1 - 1 = omega (arith, is.counted) in
    let within : gap - 1 < length plan.machines = omega (arith, is.within) in
    machine_there (with_around plan gap around) gap is.counted ∙ rw (get_or-set_other, get_or-set_same) refl

pub down_after : (plan : FloorPlan) (gap : ℕ) (around : Around) → IsGap plan gap → machine_at (with_around plan gap around) (gap + 1) ≡ around.down
down_after plan gap around is =
    let within : gap + 1 - 1 < length (slice_set plan.machines (gap - 1) around.up) = simp length-set (omega (arith, is.within)) in
    machine_there (with_around plan gap around) (gap + 1) (omega arith) ∙ rw get_or-set_same refl

pub between_after : (plan : FloorPlan) (gap : ℕ) (around : Around) → IsWhole plan → IsGap plan gap → gap_at (with_around plan gap around) gap ≡ around.between
between_after plan gap around whole is =
    let within : gap - 1 < length plan.gaps = omega (arith, is.within, is.counted, whole) in
    gap_there (with_around plan gap around) gap is.counted ∙ rw get_or-set_same refl

other_machine_by : (plan : FloorPlan) (gap machine : ℕ) (around : Around) (there : Bool) → nat_lt 0 machine ≡ there → 1 ≤ gap → machine ≢ gap → machine ≢ gap + 1 → machine_at (with_around plan gap around) machine ≡ machine_at plan machine
other_machine_by plan gap machine around false test counted up down = rw test refl
other_machine_by plan gap machine around true test counted up down =
    let counted' : 1 ≤ machine = grind (arith, test) in
    let apart_down : machine - 1 ≢ gap + 1 - 1 = omega (arith, counted', down) in
    let apart_up : machine - 1 ≢ gap - 1 = omega (arith, counted, counted', up) in
    rw test (rw (get_or-set_other, get_or-set_other) refl)

pub other_machine_after : (plan : FloorPlan) (gap machine : ℕ) (around : Around) → 1 ≤ gap → machine ≢ gap → machine ≢ gap + 1 → machine_at (with_around plan gap around) machine ≡ machine_at plan machine
other_machine_after plan gap machine around = other_machine_by plan gap machine around (nat_lt 0 machine) refl

other_gap_by : (plan : FloorPlan) (gap other : ℕ) (around : Around) (there : Bool) → nat_lt 0 other ≡ there → 1 ≤ gap → other ≢ gap → gap_at (with_around plan gap around) other ≡ gap_at plan other
other_gap_by plan gap other around false test counted ne = rw test refl
other_gap_by plan gap other around true test counted ne =
    let counted' : 1 ≤ other = grind (arith, test) in
    let apart : other - 1 ≢ gap - 1 = omega (arith, counted, counted', ne) in
    rw test (rw get_or-set_other refl)

pub other_gap_after : (plan : FloorPlan) (gap other : ℕ) (around : Around) → 1 ≤ gap → other ≢ gap → gap_at (with_around plan gap around) other ≡ gap_at plan other
other_gap_after plan gap other around = other_gap_by plan gap other around (nat_lt 0 other) refl

-- a move's event reaches both sides of its gap, and no other machine
pub reaches_both_sides : (gap : ℕ) (step : Move) (old new : FloorPlan) → floor_move gap step old ≡ Ok new → ReachesBothSides gap step old new
reaches_both_sides gap step old new h =
    let done = done_of gap step old new h in
    let is = is_gap_of old gap done.there in
    let row = moved step (around_of old gap) done.around done.row in
    let unread = λ (m : AtMachine). m.unread in
    record {
      exit = rw done.after (ap unread (up_after old gap done.around is) ∙ row.exit);
      entry = rw done.after (ap unread (down_after old gap done.around is) ∙ row.entry);
      others = λ machine up down. rw done.after (ap unread (other_machine_after old gap machine done.around is.counted up down));
    }

-- the number of boards is the same after a move, or one less after a `take`
pub length_kept : (step : Move) (lies : Gap) (old new : List Board) → (step ≡ moves.Take → ⊥) → KeepsBoards step lies old new → length new ≡ length old
length_kept moves.Begin lies old new not h = ap length h
length_kept moves.Left lies old new not h = ap length h
length_kept moves.Enter lies old new not h = ap length h
length_kept moves.Back lies old new not h = ap length h
length_kept moves.HandIn lies old new not h = ap length h
length_kept moves.Take lies old new not h = absurd (not refl)

pub length_taken : (step : Move) (lies : Gap) (old new : List Board) → step ≡ moves.Take → KeepsBoards step lies old new → length old ≡ length new + 1
length_taken moves.Begin lies old new is h = absurd (cc)
length_taken moves.Left lies old new is h = absurd (cc)
length_taken moves.Enter lies old new is h = absurd (cc)
length_taken moves.Back lies old new is h = absurd (cc)
length_taken moves.HandIn lies old new is h = absurd (cc)
length_taken moves.Take lies old new is h = length_lost h.2

pub whole_after : (gap : ℕ) (step : Move) (old new : FloorPlan) → IsWhole old → floor_move gap step old ≡ Ok new → IsWhole new
whole_after gap step old new whole h =
    let done = done_of gap step old new h in
    rw done.after (simp length-set whole)

pub counted_moved : (gap : ℕ) (step : Move) (old new : FloorPlan) (count : ℕ) → IsCounted old.machines old.gaps count → (step ≡ moves.Take → ⊥) → floor_move gap step old ≡ Ok new → IsCounted new.machines new.gaps count
counted_moved gap step old new count counted not h =
    let boards = keeps_boards gap step old new counted.whole h in
    record {
      whole = whole_after gap step old new counted.whole h;
      all = counted.all ∙ sym (length_kept step (gap_at old gap).lies _ _ not boards);
    }

pub counted_taken : (gap : ℕ) (step : Move) (old new : FloorPlan) (count : ℕ) → IsCounted old.machines old.gaps count → step ≡ moves.Take → floor_move gap step old ≡ Ok new → (1 ≤ count) × IsCounted new.machines new.gaps (count - 1)
counted_taken gap step old new count counted is h =
    let boards = keeps_boards gap step old new counted.whole h in
    let lost : length (boards_on old) ≡ length (boards_on new) + 1 = length_taken step (gap_at old gap).lies _ _ is boards in (
      omega (arith, counted.all, lost),
      record {
        whole = whole_after gap step old new counted.whole h;
        all = omega (arith, counted.all, lost);
      },
    )

-- no move changes how many machines and gaps there are
pub machines_kept : (gap : ℕ) (step : Move) (old new : FloorPlan) → floor_move gap step old ≡ Ok new → length new.machines ≡ length old.machines
machines_kept gap step old new h =
    let done = done_of gap step old new h in
    rw done.after (simp length-set)

-- drives, readings and lies change no board of the line

pub drive_lies : (gap : AtGap) (side : Side) (on : Bool) → (with_drive gap side on).lies ≡ gap.lies
drive_lies gap sides.Exit on = refl
drive_lies gap sides.Entry on = refl

driven_by : (plan : FloorPlan) (gap : ℕ) (side : Side) (on there : Bool) → nat_lt 0 gap ≡ there → boards_on (with_gap plan gap (with_drive (gap_at plan gap) side on)) ≡ boards_on plan
driven_by plan gap side on false test = rw test refl
driven_by plan gap side on true test =
    rw test (along-set_gap plan.machines plan.gaps (gap - 1) (with_drive (slice_index_or plan.gaps (gap - 1) free_gap) side on) free_gap (drive_lies (slice_index_or plan.gaps (gap - 1) free_gap) side on))

pub boards_driven : (plan : FloorPlan) (gap : ℕ) (side : Side) (on : Bool) → boards_on (with_gap plan gap (with_drive (gap_at plan gap) side on)) ≡ boards_on plan
boards_driven plan gap side on = driven_by plan gap side on (nat_lt 0 gap) refl

unread_by : (plan : FloorPlan) (machine : ℕ) (unread : List Sensed) (there : Bool) → nat_lt 0 machine ≡ there → boards_on (with_unread plan machine unread) ≡ boards_on plan
unread_by plan machine unread false test = rw test refl
unread_by plan machine unread true test =
    rw test (along-set_machine plan.machines plan.gaps (machine - 1) (record (slice_index_or plan.machines (machine - 1) empty_machine) { unread = unread }) empty_machine refl)

pub boards_unread : (plan : FloorPlan) (machine : ℕ) (unread : List Sensed) → boards_on (with_unread plan machine unread) ≡ boards_on plan
boards_unread plan machine unread = unread_by plan machine unread (nat_lt 0 machine) refl

-- and none of the calls that change a machine or a gap changes how many machines there are

as_many_by : (plan : FloorPlan) (machine : ℕ) (now : AtMachine) (there : Bool) → nat_lt 0 machine ≡ there → length (with_machine plan machine now).machines ≡ length plan.machines
as_many_by plan machine now false test = rw test refl
as_many_by plan machine now true test = rw test (simp length-set)

pub as_many_machines : (plan : FloorPlan) (machine : ℕ) (now : AtMachine) → length (with_machine plan machine now).machines ≡ length plan.machines
as_many_machines plan machine now = as_many_by plan machine now (nat_lt 0 machine) refl

as_many_gap_by : (plan : FloorPlan) (gap : ℕ) (now : AtGap) (there : Bool) → nat_lt 0 gap ≡ there → length (with_gap plan gap now).machines ≡ length plan.machines
as_many_gap_by plan gap now false test = rw test refl
as_many_gap_by plan gap now true test = rw test refl

pub as_many_at_gap : (plan : FloorPlan) (gap : ℕ) (now : AtGap) → length (with_gap plan gap now).machines ≡ length plan.machines
as_many_at_gap plan gap now = as_many_gap_by plan gap now (nat_lt 0 gap) refl
