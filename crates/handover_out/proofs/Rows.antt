-- The plain program computes exactly the rows of the table.
use Rattle.std.proofs.Common.{◌≡◌, ◌≢◌, ◌↔◌, ◌==◌, ℕ, Bool, true, false, Option, Some, None, IfSome, unwrap_or, is_some, not, refl, ap, subst, eqb-true, eq-eqb, ne_eqb}
use Rattle.line_base.specs.declared.states.SensorEvent.TheVariants.{Begun, Left, Full, Back, Taken}
use Rattle.handover_out.specs.declared.act.OutAct.{OutAct}
use Rattle.handover_out.specs.declared.input.OutInput.{OutInput}
use Rattle.handover_out.specs.declared.input.OutInput.TheVariants.{Offer, Revoke, MachineReady, RevokeMachineReady, Start, Stop, Sensed, Fault, Closed}
use Rattle.handover_out.specs.declared.phase.Phase.{Phase}
use Rattle.handover_out.specs.declared.phase.Phase.TheVariants.{Idle, Moving, Stuck, Ended}
use Rattle.handover_out.specs.State.{OutState, is_id}
use Rattle.handover_out.specs.Row.{OutRow, outlet_row, row_if}
use Rattle.handover_out.specs.Run.{stay, step}
use Rattle.handover_out.specs.Table.{state_of, to, IsOutletRow, offers, revokes, gets_ready, gets_unready, opens, refuses, stop_home, stop_between, stop_stuck, stop_ended, begun_moving, begun_again, begun_stuck, begun_idle, begun_ended, left_moving, left_stuck, left_stopped, left_unlinked, left_idle, left_ended, full_moving, full_stuck, full_idle, full_ended, back_moving, back_again, back_stuck, back_stopped, back_unlinked, back_idle, back_ended, taken_moving, taken_home, taken_stuck, taken_stopped, taken_unlinked, taken_idle, taken_ended, fault_home, fault_between, fault_stuck, fault_idle, fault_ended, closed_home, closed_between, closed_stuck, closed_idle, closed_ended}

-- the id of a start is that of the board that is offered, or isn't

is_other : (o : Option ℕ) (id : ℕ) → not (is_id o id) ≡ true → o ≢ Some id
is_other None id _ same = cc
is_other (Some mine) id test same =
    let is : mine ≡ id = cc in
    let never : false ≡ true = rw (eq-eqb mine id is) at test in cc

pub test_other : (o : Option ℕ) (id : ℕ) → o ≢ Some id → not (is_id o id) ≡ true
test_other None id _ = refl
test_other (Some mine) id other = rw (ne_eqb mine id (λ same. other (ap Some same))) refl

if_row : {s : OutState} {input : OutInput} (test : Bool) (after : OutState) (act : OutAct)
    → (test ≡ true → IsOutletRow s input (to after act)) → IfSome (row_if test after act) (IsOutletRow s input)
if_row true _ _ met = met refl
if_row false _ _ _ = tt

-- each row of the program is one of the table
rows : (phase : Phase) (o t : Option ℕ) (r : Bool) (input : OutInput) → IfSome (outlet_row (state_of phase o t r) input) (IsOutletRow (state_of phase o t r) input)
rows Idle None t r (Offer id) = offers
rows Idle (Some id) t r Revoke = revokes
rows Idle o t false MachineReady = gets_ready
rows Idle o t true RevokeMachineReady = gets_unready
rows Idle (Some mine) t true (Start id (Some board)) = if_row (mine == id) _ _ (λ test. opens (eqb-true mine id test))
rows Idle None t true (Start id (Some board)) = tt
rows Idle o t false (Start id (Some board)) = tt
rows Idle o t false (Start id None) = tt
rows Idle o t true (Start id None) = if_row (not (is_id o id)) _ _ (λ test. refuses (is_other o id test))
rows (Moving board false) o t r (Stop said id) = if_row (board.id == id) _ _ (λ test. stop_home (eqb-true board.id id test))
rows (Moving board true) o t r (Stop said id) = if_row (board.id == id) _ _ (λ test. stop_between (eqb-true board.id id test))
rows (Stuck board true false) o t r (Stop said id) = if_row (board.id == id) _ _ (λ test. stop_stuck (eqb-true board.id id test))
rows (Ended mine) o t r (Stop said id) = if_row (mine == id) _ _ (λ test. stop_ended (eqb-true mine id test))
rows (Moving board false) o t r (Sensed Begun) = begun_moving
rows (Moving board true) o t r (Sensed Begun) = begun_again
rows (Stuck board l p) o t r (Sensed Begun) = begun_stuck
rows Idle o t r (Sensed Begun) = begun_idle
rows (Ended mine) o t r (Sensed Begun) = begun_ended
rows (Moving board _) o t r (Sensed Left) = left_moving
rows (Stuck board true false) o t r (Sensed Left) = left_stuck
rows (Stuck board true true) o t r (Sensed Left) = left_stopped
rows (Stuck board false p) o t r (Sensed Left) = left_unlinked
rows Idle o t r (Sensed Left) = left_idle
rows (Ended mine) o t r (Sensed Left) = left_ended
rows (Moving board _) o t r (Sensed Full) = full_moving
rows (Stuck board l p) o t r (Sensed Full) = full_stuck
rows Idle o t r (Sensed Full) = full_idle
rows (Ended mine) o t r (Sensed Full) = full_ended
rows (Moving board true) o t r (Sensed Back) = back_moving
rows (Moving board false) o t r (Sensed Back) = back_again
rows (Stuck board true false) o t r (Sensed Back) = back_stuck
rows (Stuck board true true) o t r (Sensed Back) = back_stopped
rows (Stuck board false p) o t r (Sensed Back) = back_unlinked
rows Idle o t r (Sensed Back) = back_idle
rows (Ended mine) o t r (Sensed Back) = back_ended
rows (Moving board true) o t r (Sensed Taken) = taken_moving
rows (Moving board false) o t r (Sensed Taken) = taken_home
rows (Stuck board true false) o t r (Sensed Taken) = taken_stuck
rows (Stuck board true true) o t r (Sensed Taken) = taken_stopped
rows (Stuck board false p) o t r (Sensed Taken) = taken_unlinked
rows Idle o t r (Sensed Taken) = taken_idle
rows (Ended mine) o t r (Sensed Taken) = taken_ended
rows (Moving board false) o t r Fault = fault_home
rows (Moving board true) o t r Fault = fault_between
rows (Stuck board l p) o t r Fault = fault_stuck
rows Idle o t r Fault = fault_idle
rows (Ended mine) o t r Fault = fault_ended
rows (Moving board false) o t r Closed = closed_home
rows (Moving board true) o t r Closed = closed_between
rows (Stuck board l p) o t r Closed = closed_stuck
rows Idle o t r Closed = closed_idle
rows (Ended mine) o t r Closed = closed_ended
rows _ _ _ _ _ = tt

pub rows_of : (s : OutState) (input : OutInput) → IfSome (outlet_row s input) (IsOutletRow s input)
rows_of s input = rows s.phase s.offered s.touched s.ready input

found : (P : OutRow → Type 0) (option : Option OutRow) (row : OutRow) → IfSome option P → option ≡ Some row → P row
found P (Some it) row shape same = let is : it ≡ row = cc in subst P is shape
found P None row _ same = absurd (let never : ⊥ = cc in never)

pub row_is : (s : OutState) (input : OutInput) (row : OutRow) → outlet_row s input ≡ Some row → IsOutletRow s input row
row_is s input row same = found (IsOutletRow s input) (outlet_row s input) row (rows_of s input) same

-- and each row of the table is computed

pub is_computed : (s : OutState) (input : OutInput) (row : OutRow) → IsOutletRow s input row → outlet_row s input ≡ Some row
is_computed _ _ _ (opens {mine = mine} {id = id} same) = rw (eq-eqb mine id same) refl
is_computed _ _ _ (refuses {o = o} {id = id} other) = rw (test_other o id other) refl
is_computed _ _ _ (stop_home {board = board} {id = id} same) = rw (eq-eqb board.id id same) refl
is_computed _ _ _ (stop_between {board = board} {id = id} same) = rw (eq-eqb board.id id same) refl
is_computed _ _ _ (stop_stuck {board = board} {id = id} same) = rw (eq-eqb board.id id same) refl
is_computed _ _ _ (stop_ended {mine = mine} {id = id} same) = rw (eq-eqb mine id same) refl
is_computed _ _ _ _ = refl

pub rows_exactly : (s : OutState) (input : OutInput) (row : OutRow) → (outlet_row s input ≡ Some row) ↔ IsOutletRow s input row
rows_exactly s input row = (row_is s input row, is_computed s input row)

-- what holds of each row, and of a breach, holds of each step

pub by_row : (P : OutState → OutInput → OutRow → Type 0) (s : OutState) (input : OutInput) (row : Option OutRow)
    → ((row : OutRow) → IsOutletRow s input row → P s input row) → P s input (stay s)
    → IfSome row (IsOutletRow s input) → P s input (unwrap_or row (stay s))
by_row P s input None _ stays _ = stays
by_row P s input (Some row) meets _ shape = meets row shape

-- the same where there is a row
pub met_row : (P : OutState → OutInput → OutRow → Type 0) (s : OutState) (input : OutInput) (row : Option OutRow)
    → ((row : OutRow) → IsOutletRow s input row → P s input row) → is_some row ≡ true
    → IfSome row (IsOutletRow s input) → P s input (unwrap_or row (stay s))
met_row P s input None _ found _ = cc
met_row P s input (Some row) meets _ shape = meets row shape

pub each_step : (P : OutState → OutInput → OutRow → Type 0)
    → ((s : OutState) (input : OutInput) (row : OutRow) → IsOutletRow s input row → P s input row)
    → ((s : OutState) (input : OutInput) → P s input (stay s))
    → (s : OutState) (input : OutInput) → P s input (step s input)
each_step P meets stays s input = by_row P s input (outlet_row s input) (meets s input) (stays s input) (rows_of s input)
