-- What can stand together is kept by every row.
use Rattle.std.proofs.Common.{◌≡◌, ◌∙◌, sym, ap, ℕ, Bool, true, false, List, [], ◌∷◌, Option, Some, None, IsSome, Result, Ok, Err, IfOk, OnErr, refl}
use Rattle.board_record.specs.declared.record.Record.{Record}
use Rattle.handover_out.specs.declared.act.OutAct.{OutAct}
use Rattle.handover_out.specs.declared.breach.OutBreach.{OutBreach}
use Rattle.handover_out.specs.declared.input.OutInput.{OutInput}
use Rattle.handover_out.specs.declared.input.OutInput.TheVariants.{Revoke}
use Rattle.handover_out.specs.declared.phase.Phase.TheVariants.{Idle}
use Rattle.handover_out.specs.State.{OutState, at_rest, held}
use Rattle.handover_out.specs.Row.{OutRow, outlet_row, row}
use Rattle.handover_out.specs.Given.{IsGiven}
use Rattle.handover_out.specs.Run.{stay, step, after_all}
use Rattle.handover_out.specs.Links.{is_unlinked_phase}
use Rattle.handover_out.specs.Offers.{takes_start}
use Rattle.handover_out.specs.Together.{IsOutletTogether, together_free, together_offered, together_moving, together_stuck, together_unlinked, together_ended, AreGiven}
use Rattle.handover_out.specs.Table.{to, IsOutletRow, offers, revokes, gets_ready, gets_unready, opens, refuses, stop_home, stop_between, stop_stuck, stop_ended, begun_moving, left_moving, left_stuck, left_stopped, left_unlinked, back_moving, back_stuck, back_stopped, back_unlinked, taken_moving, taken_stuck, taken_stopped, taken_unlinked, fault_home, fault_between, closed_home, closed_between, closed_stuck, closed_idle, closed_ended}
use Rattle.handover_out.proofs.Rows.{row_is, rows_of, by_row}

pub together_rest : IsOutletTogether at_rest
together_rest = together_free

row_kept : (s : OutState) (input : OutInput) (row : OutRow) → IsOutletRow s input row → IsGiven s input → IsOutletTogether s → IsOutletTogether row.after
row_kept _ _ _ offers _ _ = together_offered refl
row_kept _ _ _ revokes _ _ = together_free
row_kept _ _ _ gets_ready _ together_free = together_free
row_kept _ _ _ gets_ready _ (together_offered same) = together_offered same
row_kept _ _ _ gets_unready _ together_free = together_free
row_kept _ _ _ gets_unready _ (together_offered same) = together_offered same
row_kept _ _ _ (opens same) given (together_offered last) = together_moving (last ∙ ap Some (same ∙ sym given.1))
row_kept _ _ _ (refuses _) _ _ = together_ended
row_kept _ _ _ (stop_home _) _ (together_moving _) = together_free
row_kept _ _ _ (stop_between _) _ (together_moving same) = together_stuck same
row_kept _ _ _ (stop_stuck _) _ (together_stuck same) = together_stuck same
row_kept _ _ _ (stop_ended _) _ together_ended = together_free
row_kept _ _ _ begun_moving _ (together_moving same) = together_moving same
row_kept _ _ _ left_moving _ (together_moving _) = together_ended
row_kept _ _ _ left_stuck _ (together_stuck _) = together_ended
row_kept _ _ _ left_stopped _ (together_stuck _) = together_free
row_kept _ _ _ left_unlinked _ together_unlinked = together_free
row_kept _ _ _ back_moving _ (together_moving same) = together_moving same
row_kept _ _ _ back_stuck _ (together_stuck _) = together_ended
row_kept _ _ _ back_stopped _ (together_stuck _) = together_free
row_kept _ _ _ back_unlinked _ together_unlinked = together_free
row_kept _ _ _ taken_moving _ (together_moving _) = together_ended
row_kept _ _ _ taken_stuck _ (together_stuck _) = together_ended
row_kept _ _ _ taken_stopped _ (together_stuck _) = together_free
row_kept _ _ _ taken_unlinked _ together_unlinked = together_free
row_kept _ _ _ fault_home _ (together_moving _) = together_ended
row_kept _ _ _ fault_between _ (together_moving same) = together_stuck same
row_kept _ _ _ closed_home _ _ = together_free
row_kept _ _ _ closed_between _ _ = together_unlinked
row_kept _ _ _ closed_stuck _ _ = together_unlinked
row_kept _ _ _ closed_idle _ _ = together_free
row_kept _ _ _ closed_ended _ _ = together_free
row_kept _ _ _ _ _ together = together

pub kept : (s : OutState) (input : OutInput) (row : OutRow) → IsGiven s input → outlet_row s input ≡ Some row → IsOutletTogether s → IsOutletTogether row.after
kept s input row given same = row_kept s input row (row_is s input row same) given

abbrev Keeps : OutState → OutInput → OutRow → Type 0
Keeps s input row = IsGiven s input → IsOutletTogether s → IsOutletTogether row.after

pub step_kept : (s : OutState) (input : OutInput) → IsGiven s input → IsOutletTogether s → IsOutletTogether (step s input).after
step_kept s input = by_row Keeps s input (outlet_row s input) (row_kept s input) (λ given together. together) (rows_of s input)

pub run_kept : (s : OutState) (inputs : List OutInput) → AreGiven s inputs → IsOutletTogether s → IsOutletTogether (after_all s inputs)
run_kept s [] _ together = together
run_kept s (input ∷ inputs) given together = run_kept (step s input).after inputs given.1 (step_kept s input given.0 together)

pub stands_together : (inputs : List OutInput) → AreGiven at_rest inputs → IsOutletTogether (after_all at_rest inputs)
stands_together inputs given = run_kept at_rest inputs given together_rest

-- a new outlet, and an answer of `apply`

pub new_together : (s : OutState) → s ≡ at_rest → IsOutletTogether s
new_together s same = rw same together_rest

pub answer_together : (s after : OutState) (input : OutInput) (result : Result OutAct OutBreach) → IsGiven s input → IsOutletTogether s
    → IfOk result (λ act. outlet_row s input ≡ row after act) → OnErr result (after ≡ s) → IsOutletTogether after
answer_together s after input (Ok act) given together same _ = kept s input (to after act) given same together
answer_together s after input (Err breach) _ together _ same = rw same together

-- what follows from it

pub offered_idle : (s : OutState) → IsOutletTogether s → IsSome s.offered → s.phase ≡ Idle
offered_idle _ together_free _ = refl
offered_idle _ (together_offered _) _ = refl
offered_idle _ (together_moving _) none = cc
offered_idle _ (together_stuck _) none = cc
offered_idle _ together_unlinked none = cc
offered_idle _ together_ended none = cc

pub ready_idle : (s : OutState) → IsOutletTogether s → s.ready ≡ true → s.phase ≡ Idle
ready_idle _ together_free _ = refl
ready_idle _ (together_offered _) _ = refl
ready_idle _ (together_moving _) none = cc
ready_idle _ (together_stuck _) none = cc
ready_idle _ together_unlinked none = cc
ready_idle _ together_ended none = cc

pub revoke_given : (s : OutState) → IsOutletTogether s → IsSome s.offered → IsGiven s Revoke
revoke_given _ together_free found = cc
revoke_given _ (together_offered _) found = (refl, found)
revoke_given _ (together_moving _) none = cc
revoke_given _ (together_stuck _) none = cc
revoke_given _ together_unlinked none = cc
revoke_given _ together_ended none = cc

pub offered_touched : (s : OutState) (id : ℕ) → IsOutletTogether s → s.offered ≡ Some id → s.touched ≡ Some id
offered_touched _ id together_free none = cc
offered_touched _ id (together_offered same) is = same ∙ is
offered_touched _ id (together_moving _) none = cc
offered_touched _ id (together_stuck _) none = cc
offered_touched _ id together_unlinked none = cc
offered_touched _ id together_ended none = cc

pub held_touched : (s : OutState) (board : Record) → IsOutletTogether s → held s ≡ Some board → is_unlinked_phase s.phase ≡ false → s.touched ≡ Some board.id
held_touched _ board together_free none _ = cc
held_touched _ board (together_offered _) none _ = cc
held_touched _ board (together_moving {board = mine} same) is _ = let it : mine ≡ board = cc in same ∙ ap (λ (board : Record). Some board.id) it
held_touched _ board (together_stuck {board = mine} same) is _ = let it : mine ≡ board = cc in same ∙ ap (λ (board : Record). Some board.id) it
held_touched _ board together_unlinked _ linked = cc
held_touched _ board together_ended none _ = cc

pub ready_takes : (s : OutState) → IsOutletTogether s → takes_start s ≡ s.ready
ready_takes _ together_free = refl
ready_takes _ (together_offered _) = refl
ready_takes _ (together_moving _) = refl
ready_takes _ (together_stuck _) = refl
ready_takes _ together_unlinked = refl
ready_takes _ together_ended = refl
