-- Laws on an outlet without a connection, and on the boards that deeds name.
use Rattle.std.proofs.Common.{◌≡◌, ◌++◌, ◌∷◌, [], Bool, true, false, List, Option, None, option_to_list, ℕ, refl}
use Rattle.std.specs.List.{list_all}
use Rattle.std.proofs.lemmas.Bool.{and_parts}
use Rattle.handover_out.specs.declared.act.OutSend.{OutSend}
use Rattle.handover_out.specs.declared.input.OutInput.{OutInput}
use Rattle.handover_out.specs.declared.input.OutInput.TheVariants.{Closed}
use Rattle.handover_out.specs.declared.phase.Phase.{Phase}
use Rattle.handover_out.specs.declared.phase.Phase.TheVariants.{Idle, Moving, Stuck, Ended}
use Rattle.handover_out.specs.State.{OutState}
use Rattle.handover_out.specs.Row.{OutRow}
use Rattle.handover_out.specs.Run.{step, after_all}
use Rattle.handover_out.specs.Links.{is_unlinked_phase, is_own, all_sent}
use Rattle.handover_out.specs.Deeds.{NamesRecord}
use Rattle.handover_out.specs.Table.{state_of, IsOutletRow, opens, refuses, stop_home, begun_stuck, begun_idle, left_moving, left_stuck, left_stopped, left_unlinked, left_idle, full_stuck, full_idle, back_stuck, back_stopped, back_unlinked, back_idle, taken_moving, taken_stuck, taken_stopped, taken_unlinked, taken_idle, fault_home, fault_stuck, fault_idle, closed_home, closed_stuck, closed_idle}
use Rattle.handover_out.proofs.Rows.{each_step}

-- without a connection nothing is sent

abbrev Silent : OutState → OutInput → OutRow → Type 0
Silent s input row = is_unlinked_phase s.phase ≡ true → is_own input ≡ true → (row.act.send ≡ None) × (is_unlinked_phase row.after.phase ≡ true)

row_silent : (s : OutState) (input : OutInput) (row : OutRow) → IsOutletRow s input row → Silent s input row
row_silent _ _ _ begun_stuck apart _ = (refl, apart)
row_silent _ _ _ full_stuck apart _ = (refl, apart)
row_silent _ _ _ fault_stuck apart _ = (refl, apart)
row_silent _ _ _ begun_idle _ _ = (refl, refl)
row_silent _ _ _ left_idle _ _ = (refl, refl)
row_silent _ _ _ full_idle _ _ = (refl, refl)
row_silent _ _ _ back_idle _ _ = (refl, refl)
row_silent _ _ _ taken_idle _ _ = (refl, refl)
row_silent _ _ _ fault_idle _ _ = (refl, refl)
row_silent _ _ _ left_unlinked _ _ = (refl, refl)
row_silent _ _ _ back_unlinked _ _ = (refl, refl)
row_silent _ _ _ taken_unlinked _ _ = (refl, refl)
row_silent _ _ _ closed_stuck _ _ = (refl, refl)
row_silent _ _ _ closed_idle _ _ = (refl, refl)
row_silent _ _ _ _ apart own = cc

pub unlinked_silent : (s : OutState) (input : OutInput) → is_unlinked_phase s.phase ≡ true → is_own input ≡ true
    → ((step s input).act.send ≡ None) × (is_unlinked_phase (step s input).after.phase ≡ true)
unlinked_silent = each_step Silent row_silent (λ s input apart own. (refl, apart))

none_before : (send : Option OutSend) (sent : List OutSend) → send ≡ None → sent ≡ [] → option_to_list send ++ sent ≡ []
none_before send sent none nothing = rw (none, nothing) refl

pub all_silent : (s : OutState) (inputs : List OutInput) → is_unlinked_phase s.phase ≡ true → list_all is_own inputs ≡ true
    → (all_sent s inputs ≡ []) × (is_unlinked_phase (after_all s inputs).phase ≡ true)
all_silent s [] apart _ = (refl, apart)
all_silent s (input ∷ inputs) apart own =
    let first = unlinked_silent s input apart (and_parts (is_own input) (list_all is_own inputs) own).0 in
    let others = all_silent (step s input).after inputs first.1 (and_parts (is_own input) (list_all is_own inputs) own).1 in
    (none_before (step s input).act.send (all_sent (step s input).after inputs) first.0 others.0, others.1)

closed_at : (phase : Phase) (o t : Option ℕ) (r : Bool)
    → ((step (state_of phase o t r) Closed).act.send ≡ None) × (is_unlinked_phase (step (state_of phase o t r) Closed).after.phase ≡ true)
closed_at (Moving board false) o t r = (refl, refl)
closed_at (Moving board true) o t r = (refl, refl)
closed_at (Stuck _ _ _) o t r = (refl, refl)
closed_at Idle o t r = (refl, refl)
closed_at (Ended _) o t r = (refl, refl)

pub close_silent : (s : OutState) → ((step s Closed).act.send ≡ None) × (is_unlinked_phase (step s Closed).after.phase ≡ true)
close_silent s = closed_at s.phase s.offered s.touched s.ready

-- a deed names its board

abbrev Names : OutState → OutInput → OutRow → Type 0
Names s input row = NamesRecord s input row row.act.deed

row_names : (s : OutState) (input : OutInput) (row : OutRow) → IsOutletRow s input row → Names s input row
row_names _ _ _ (opens _) = (refl, refl, refl)
row_names _ _ _ (refuses _) = (refl, refl, refl)
row_names _ _ _ (stop_home _) = (refl, refl, refl)
row_names _ _ _ left_moving = (refl, refl, refl)
row_names _ _ _ left_stuck = (refl, refl, refl)
row_names _ _ _ left_stopped = (refl, refl, refl)
row_names _ _ _ left_unlinked = (refl, refl, refl)
row_names _ _ _ back_stuck = (refl, refl, refl)
row_names _ _ _ back_stopped = (refl, refl, refl)
row_names _ _ _ back_unlinked = (refl, refl, refl)
row_names _ _ _ taken_moving = (refl, refl, refl)
row_names _ _ _ taken_stuck = (refl, refl, refl)
row_names _ _ _ taken_stopped = (refl, refl, refl)
row_names _ _ _ taken_unlinked = (refl, refl, refl)
row_names _ _ _ fault_home = (refl, refl, refl)
row_names _ _ _ closed_home = (refl, refl, refl)
row_names _ _ _ _ = (refl, refl)

pub deeds_name : (s : OutState) (input : OutInput) → NamesRecord s input (step s input) (step s input).act.deed
deeds_name = each_step Names row_names (λ s input. (refl, refl))
