-- The floor by numbers: a change of a machine or a gap changes no other one.
use Rattle.std.proofs.Common.{◌≡◌, ◌≢◌, ◌∙◌, ℕ, ◌-◌, ◌<◌, ◌≤◌, Bool, true, false, List, length, refl, sym, ap, arith}
use Rattle.std.specs.Prelude.{cond, nat_lt, slice_set}
use Rattle.line_world.specs.FloorPlan.{AtMachine, FloorPlan, empty_machine, free_gap, gap_at, machine_at, with_gap, with_machine}
use Rattle.line_world.specs.declared.gap.AtGap.{AtGap}
use Rattle.line_step.proofs.Numbers.{at_number, with_number, number_other, number_own, number_past, numbers_stay}

machines_by : (test : Bool) (plan : FloorPlan) (place : ℕ) (now : AtMachine) → (cond test (record plan { machines = slice_set plan.machines place now }) plan).machines ≡ cond test (slice_set plan.machines place now) plan.machines
machines_by true plan place now = refl
machines_by false plan place now = refl

gaps_by : (test : Bool) (plan : FloorPlan) (machines : List AtMachine) → (cond test (record plan { machines = machines }) plan).gaps ≡ plan.gaps
gaps_by true plan machines = refl
gaps_by false plan machines = refl

set_gaps_by : (test : Bool) (plan : FloorPlan) (place : ℕ) (now : AtGap) → (cond test (record plan { gaps = slice_set plan.gaps place now }) plan).gaps ≡ cond test (slice_set plan.gaps place now) plan.gaps
set_gaps_by true plan place now = refl
set_gaps_by false plan place now = refl

set_machines_by : (test : Bool) (plan : FloorPlan) (gaps : List AtGap) → (cond test (record plan { gaps = gaps }) plan).machines ≡ plan.machines
set_machines_by true plan gaps = refl
set_machines_by false plan gaps = refl

-- ---- a machine changes

machines_with : (plan : FloorPlan) (machine : ℕ) (now : AtMachine) → (with_machine plan machine now).machines ≡ with_number plan.machines machine now
machines_with plan machine now = machines_by (nat_lt 0 machine) plan (machine - 1) now

pub place_other : (plan : FloorPlan) (machine other : ℕ) (now : AtMachine) → other ≢ machine → machine_at (with_machine plan machine now) other ≡ machine_at plan other
place_other plan machine other now apart = ap (λ (ms : List AtMachine). at_number ms other empty_machine) (machines_with plan machine now) ∙ number_other plan.machines machine other now empty_machine apart

pub place_own : (plan : FloorPlan) (machine : ℕ) (now : AtMachine) → 1 ≤ machine → machine ≤ length plan.machines → machine_at (with_machine plan machine now) machine ≡ now
place_own plan machine now counted within = ap (λ (ms : List AtMachine). at_number ms machine empty_machine) (machines_with plan machine now) ∙ number_own plan.machines machine now empty_machine counted within

pub gaps_stay : (plan : FloorPlan) (machine gap : ℕ) (now : AtMachine) → gap_at (with_machine plan machine now) gap ≡ gap_at plan gap
gaps_stay plan machine gap now = ap (λ (gs : List AtGap). at_number gs gap free_gap) (gaps_by (nat_lt 0 machine) plan (slice_set plan.machines (machine - 1) now))

-- ---- a gap changes

gaps_with : (plan : FloorPlan) (gap : ℕ) (now : AtGap) → (with_gap plan gap now).gaps ≡ with_number plan.gaps gap now
gaps_with plan gap now = set_gaps_by (nat_lt 0 gap) plan (gap - 1) now

pub gap_other : (plan : FloorPlan) (gap other : ℕ) (now : AtGap) → other ≢ gap → gap_at (with_gap plan gap now) other ≡ gap_at plan other
gap_other plan gap other now apart = ap (λ (gs : List AtGap). at_number gs other free_gap) (gaps_with plan gap now) ∙ number_other plan.gaps gap other now free_gap apart

pub gap_own : (plan : FloorPlan) (gap : ℕ) (now : AtGap) → 1 ≤ gap → gap ≤ length plan.gaps → gap_at (with_gap plan gap now) gap ≡ now
gap_own plan gap now counted within = ap (λ (gs : List AtGap). at_number gs gap free_gap) (gaps_with plan gap now) ∙ number_own plan.gaps gap now free_gap counted within

-- a change of a gap that isn't there changes nothing
pub gap_past : (plan : FloorPlan) (gap : ℕ) (now : AtGap) → length plan.gaps < gap → gap_at (with_gap plan gap now) gap ≡ gap_at plan gap
gap_past plan gap now behind =
    ap (λ (gs : List AtGap). at_number gs gap free_gap) (gaps_with plan gap now) ∙ number_past (with_number plan.gaps gap now) gap free_gap (omega (arith, numbers_stay plan.gaps gap now)) ∙ sym (number_past plan.gaps gap free_gap behind)

-- there are as many gaps as before
pub gaps_counted : (plan : FloorPlan) (gap : ℕ) (now : AtGap) → length (with_gap plan gap now).gaps ≡ length plan.gaps
gaps_counted plan gap now = ap (λ (gs : List AtGap). length gs) (gaps_with plan gap now) ∙ numbers_stay plan.gaps gap now

pub gaps_counted_beside : (plan : FloorPlan) (machine : ℕ) (now : AtMachine) → length (with_machine plan machine now).gaps ≡ length plan.gaps
gaps_counted_beside plan machine now = ap (λ (gs : List AtGap). length gs) (gaps_by (nat_lt 0 machine) plan (slice_set plan.machines (machine - 1) now))

pub places_stay : (plan : FloorPlan) (gap machine : ℕ) (now : AtGap) → machine_at (with_gap plan gap now) machine ≡ machine_at plan machine
places_stay plan gap machine now = ap (λ (ms : List AtMachine). at_number ms machine empty_machine) (set_machines_by (nat_lt 0 gap) plan (slice_set plan.gaps (gap - 1) now))
