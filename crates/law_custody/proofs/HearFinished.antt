-- The entry hears TransportFinished, however the link stands. Where its own sensors saw less than the end says, it waits.
use Rattle.std.proofs.Common.{Bool, List, Option, refl, ℕ, ◌∷◌}
use Rattle.line_base.specs.declared.states.SensorEvent.{SensorEvent}
use Rattle.line_base.specs.declared.states.Transfer.{Transfer}
use Rattle.board_record.specs.declared.record.Record.{Record}
use Rattle.session_core.specs.declared.state.SessionState.{SessionState}
use Rattle.handover_out.specs.declared.phase.Phase.{Phase as Out}
use Rattle.handover_in.specs.declared.input.InInput.TheVariants as in_input
use Rattle.handover_in.specs.declared.phase.Phase.{Phase as In}
use Rattle.law_custody.specs.Apart.{entry_finish_heard, entry_finish_sent, entry_idle, entry_inside_awaited, entry_stopped, entry_stopped_finish_sent, entry_transporting}
use Rattle.law_custody.specs.Facts.{has_first}
use Rattle.law_custody.specs.Flight.{finishes_now, fits_across, fits_fresh, fits_home, fits_inside, fits_lost, fits_stolen, offers_none, readies_none}
use Rattle.law_custody.specs.Floor.{EntryFloor, in_free, in_stopped, in_taken_in, in_taking, is_gone, is_in, is_stolen, no_full_none, on_across, on_back, on_full, on_gone, on_stolen, sees_across, sees_back, sees_fresh, sees_full, sees_gone, sees_home, sees_stolen}
use Rattle.law_custody.specs.LookBack.{by_end}
use Rattle.law_custody.specs.Place.{Place, not_across_fresh, not_across_home, not_across_inside, not_across_lost, not_across_stolen}
use Rattle.law_custody.specs.Shape.{finish_and_stop_sent, finish_heard, finish_sent, inside_awaited, inside_awaited_stop_sent, intake_done, no_handover, start_and_stop_sent, start_sent, stop_heard, stop_sent, stuck_stop_heard, stuck_stop_sent, stuck_transporting, transporting}
use Rattle.law_custody.specs.Steps.{EntryDid, intake}
use Rattle.law_custody.specs.Talks.{Talks, apart, live}
use Rattle.law_custody.specs.Unread.{IsEndRead}
use Rattle.law_custody.specs.Words.{DownWord, TransportFinished, UpWord}
use Rattle.law_custody.proofs.Asked.{exit_starts}
use Rattle.law_custody.proofs.Behind.{exit_free}
use Rattle.law_custody.proofs.Facts.{no_board}
use Rattle.law_custody.proofs.Open.{open_ended}
use Rattle.law_custody.proofs.Passed.{is_dropped, is_settled}
use Rattle.law_custody.proofs.Recalls.{ended_now, said_now}
use Rattle.law_custody.proofs.Rows.{in_same}
use Rattle.law_custody.proofs.Unread.{ReadFirst}

pub hear_finished : {Q : Record → Type 0} {b : Bool} {x y : SessionState} {o : Out} {of : Option ℕ} {rd : Bool} {i : In} {f : Option Record} {ri : Bool} {p : Place} {r : Record} {up : List UpWord} {down : List DownWord} {un : List SensorEvent} {ed : Bool} {z : ℕ} {e : Transfer}
    → Talks b x o of rd y i f ri p up (TransportFinished e z ∷ down) → ReadFirst un p → IsEndRead e un → EntryFloor i un ed p r
    → EntryDid Q (in_input.Finished e z) (intake i f ri) un ed b x o of rd y p r up (TransportFinished e z ∷ down) down
hear_finished (live (finish_sent (finishes_now fits_fresh))) n w (in_taking sees_fresh) = is_dropped (in_same _ _) refl refl (in_free no_full_none not_across_fresh) refl (live (intake_done readies_none)) (λ k. open_ended k)
hear_finished (live (finish_sent (finishes_now fits_home))) n w (in_taking sees_home) = is_dropped (in_same _ _) refl refl (in_free no_full_none not_across_home) refl (live (intake_done readies_none)) (λ k. open_ended k)
hear_finished (live (finish_sent (finishes_now fits_across))) n w (in_taking on_across) =
    record { row = _; is = in_same _ _; «in» = in_taking on_across; talk = live (finish_heard fits_across); body = λ ks. refl; opened = λ k j. (open_ended k, j); holds = λ q e. e; quiet = refl; settles = λ q e. absurd (no_board e); recalls = λ s k. ended_now s k.1 k.2; asked = λ l d a. a }
hear_finished (live (finish_and_stop_sent (finishes_now fits_fresh))) n w (in_stopped sees_fresh) = is_dropped (in_same _ _) refl refl (in_free no_full_none not_across_fresh) refl (live (intake_done readies_none)) (λ k. open_ended k)
hear_finished (live (finish_and_stop_sent (finishes_now fits_home))) n w (in_stopped sees_home) = is_dropped (in_same _ _) refl refl (in_free no_full_none not_across_home) refl (live (intake_done readies_none)) (λ k. open_ended k)
hear_finished (live (finish_and_stop_sent (finishes_now fits_lost))) n w (in_stopped is_gone) = is_dropped (in_same _ _) refl refl (in_free no_full_none not_across_lost) refl (live (intake_done readies_none)) (λ k. open_ended k)
hear_finished (live (finish_and_stop_sent (finishes_now fits_inside))) n w (in_stopped is_in) = is_settled (in_same _ _) refl refl (in_free no_full_none not_across_inside) (live (intake_done readies_none)) (λ k. open_ended k) refl refl (λ s k. by_end (said_now s k.1))
hear_finished (live (finish_and_stop_sent (finishes_now fits_stolen))) n w (in_stopped is_stolen) = is_dropped (in_same _ _) refl refl (in_free no_full_none not_across_stolen) refl (live (intake_done readies_none)) (λ k. open_ended k)
hear_finished (live (finish_and_stop_sent (finishes_now fits_across))) n w (in_stopped on_across) =
    record { row = _; is = in_same _ _; «in» = in_stopped on_across; talk = live (inside_awaited_stop_sent fits_across); body = λ ks. refl; opened = λ k j. (open_ended k, j); holds = λ q e. e; quiet = refl; settles = λ q e. absurd (no_board e); recalls = λ s k. ended_now s k.1 k.2; asked = λ l d a. a }
hear_finished (live (stop_heard (finishes_now fits_fresh) d)) n w (in_stopped sees_fresh) = is_dropped (in_same _ _) refl refl (in_free no_full_none not_across_fresh) refl (live (no_handover readies_none d)) (λ k. open_ended k)
hear_finished (live (stop_heard (finishes_now fits_home) d)) n w (in_stopped sees_home) = is_dropped (in_same _ _) refl refl (in_free no_full_none not_across_home) refl (live (no_handover readies_none d)) (λ k. open_ended k)
hear_finished (live (stop_heard (finishes_now fits_lost) d)) n w (in_stopped is_gone) = is_dropped (in_same _ _) refl refl (in_free no_full_none not_across_lost) refl (live (no_handover readies_none d)) (λ k. open_ended k)
hear_finished (live (stop_heard (finishes_now fits_inside) d)) n w (in_stopped is_in) = is_settled (in_same _ _) refl refl (in_free no_full_none not_across_inside) (live (no_handover readies_none d)) (λ k. open_ended k) refl refl (λ s k. by_end (said_now s k.1))
hear_finished (live (stop_heard (finishes_now fits_stolen) d)) n w (in_stopped is_stolen) = is_dropped (in_same _ _) refl refl (in_free no_full_none not_across_stolen) refl (live (no_handover readies_none d)) (λ k. open_ended k)
hear_finished (live (stop_heard (finishes_now fits_across) d)) n w (in_stopped on_across) =
    record { row = _; is = in_same _ _; «in» = in_stopped on_across; talk = live (inside_awaited fits_across d); body = λ ks. refl; opened = λ k j. (open_ended k, j); holds = λ q e. e; quiet = refl; settles = λ q e. absurd (no_board e); recalls = λ s k. ended_now s k.1 k.2; asked = λ l d a. a }
hear_finished (apart a (entry_finish_sent (finishes_now fits_fresh))) n w (in_taking sees_fresh) = is_dropped (in_same _ _) refl refl (in_free no_full_none not_across_fresh) refl (apart a (entry_idle offers_none)) (λ k. open_ended k)
hear_finished (apart a (entry_finish_sent (finishes_now fits_home))) n w (in_taking sees_home) = is_dropped (in_same _ _) refl refl (in_free no_full_none not_across_home) refl (apart a (entry_idle offers_none)) (λ k. open_ended k)
hear_finished (apart a (entry_finish_sent (finishes_now fits_across))) n w (in_taking on_across) =
    record { row = _; is = in_same _ _; «in» = in_taking on_across; talk = apart a (entry_finish_heard fits_across); body = λ ks. refl; opened = λ k j. (open_ended k, j); holds = λ q e. e; quiet = refl; settles = λ q e. absurd (no_board e); recalls = λ s k. ended_now s k.1 k.2; asked = λ l d a. a }
hear_finished (apart a (entry_stopped_finish_sent (finishes_now fits_fresh) d)) n w (in_stopped sees_fresh) = is_dropped (in_same _ _) refl refl (in_free no_full_none not_across_fresh) refl (apart a (entry_idle d)) (λ k. open_ended k)
hear_finished (apart a (entry_stopped_finish_sent (finishes_now fits_home) d)) n w (in_stopped sees_home) = is_dropped (in_same _ _) refl refl (in_free no_full_none not_across_home) refl (apart a (entry_idle d)) (λ k. open_ended k)
hear_finished (apart a (entry_stopped_finish_sent (finishes_now fits_lost) d)) n w (in_stopped is_gone) = is_dropped (in_same _ _) refl refl (in_free no_full_none not_across_lost) refl (apart a (entry_idle d)) (λ k. open_ended k)
hear_finished (apart a (entry_stopped_finish_sent (finishes_now fits_inside) d)) n w (in_stopped is_in) = is_settled (in_same _ _) refl refl (in_free no_full_none not_across_inside) (apart a (entry_idle d)) (λ k. open_ended k) (exit_free a) (exit_starts a) (λ s k. by_end (said_now s k.1))
hear_finished (apart a (entry_stopped_finish_sent (finishes_now fits_stolen) d)) n w (in_stopped is_stolen) = is_dropped (in_same _ _) refl refl (in_free no_full_none not_across_stolen) refl (apart a (entry_idle d)) (λ k. open_ended k)
hear_finished (apart a (entry_stopped_finish_sent (finishes_now fits_across) d)) n w (in_stopped on_across) =
    record { row = _; is = in_same _ _; «in» = in_stopped on_across; talk = apart a (entry_inside_awaited fits_across d); body = λ ks. refl; opened = λ k j. (open_ended k, j); holds = λ q e. e; quiet = refl; settles = λ q e. absurd (no_board e); recalls = λ s k. ended_now s k.1 k.2; asked = λ l d a. a }
hear_finished (live (no_handover _ a)) n w _ = elim a [ ]
hear_finished (live (inside_awaited _ a)) n w _ = elim a [ ]
hear_finished (live (start_sent _ a)) n w _ = elim a [ ]
hear_finished (live (start_and_stop_sent _ a)) n w _ = elim a [ ]
hear_finished (live (transporting a)) n w _ = elim a [ ]
hear_finished (live (stop_sent a)) n w _ = elim a [ ]
hear_finished (live (stuck_transporting a)) n w _ = elim a [ ]
hear_finished (live (stuck_stop_sent a)) n w _ = elim a [ ]
hear_finished (live (stuck_stop_heard a)) n w _ = elim a [ ]
hear_finished (apart _ (entry_idle a)) n w _ = elim a [ ]
hear_finished (apart _ (entry_transporting a)) n w _ = elim a [ ]
hear_finished (apart _ (entry_stopped a)) n w _ = elim a [ ]
hear_finished (apart _ (entry_inside_awaited _ a)) n w _ = elim a [ ]
hear_finished (live (finish_sent (finishes_now fits_home))) n w (in_taking sees_back) = elim w [ ]
hear_finished (live (finish_sent (finishes_now fits_home))) n w (in_taking on_back) = elim w [ ]
hear_finished (live (finish_sent (finishes_now fits_lost))) n w (in_taking sees_gone) = elim w [ ]
hear_finished (live (finish_sent (finishes_now fits_lost))) n w (in_taking on_gone) = elim w [ ]
hear_finished (live (finish_sent (finishes_now fits_across))) n w (in_taking sees_across) = elim (n has_first) [ ]
hear_finished (live (finish_sent (finishes_now fits_inside))) n w (in_taking s) = elim s [ ]
hear_finished (live (finish_sent (finishes_now fits_fresh))) n w (in_taken_in s) = elim s [ ]
hear_finished (live (finish_sent (finishes_now fits_home))) n w (in_taken_in s) = elim s [ ]
hear_finished (live (finish_sent (finishes_now fits_lost))) n w (in_taken_in s) = elim s [ ]
hear_finished (live (finish_sent (finishes_now fits_across))) n w (in_taken_in s) = elim s [ ]
hear_finished (live (finish_sent (finishes_now fits_inside))) n w (in_taken_in sees_full) = elim (n has_first) [ ]
hear_finished (live (finish_sent (finishes_now fits_inside))) n w (in_taken_in on_full) =
    record { row = _; is = in_same _ _; «in» = in_taken_in on_full; talk = live (finish_heard fits_inside); body = λ ks. refl; opened = λ k j. (open_ended k, j); holds = λ q e. e; quiet = refl; settles = λ q e. absurd (no_board e); recalls = λ s k. ended_now s k.1 k.2; asked = λ l d a. a }
hear_finished (apart a (entry_finish_sent (finishes_now fits_home))) n w (in_taking sees_back) = elim w [ ]
hear_finished (apart a (entry_finish_sent (finishes_now fits_home))) n w (in_taking on_back) = elim w [ ]
hear_finished (apart a (entry_finish_sent (finishes_now fits_lost))) n w (in_taking sees_gone) = elim w [ ]
hear_finished (apart a (entry_finish_sent (finishes_now fits_lost))) n w (in_taking on_gone) = elim w [ ]
hear_finished (apart a (entry_finish_sent (finishes_now fits_across))) n w (in_taking sees_across) = elim (n has_first) [ ]
hear_finished (apart a (entry_finish_sent (finishes_now fits_inside))) n w (in_taking s) = elim s [ ]
hear_finished (apart a (entry_finish_sent (finishes_now fits_fresh))) n w (in_taken_in s) = elim s [ ]
hear_finished (apart a (entry_finish_sent (finishes_now fits_home))) n w (in_taken_in s) = elim s [ ]
hear_finished (apart a (entry_finish_sent (finishes_now fits_lost))) n w (in_taken_in s) = elim s [ ]
hear_finished (apart a (entry_finish_sent (finishes_now fits_across))) n w (in_taken_in s) = elim s [ ]
hear_finished (apart a (entry_finish_sent (finishes_now fits_inside))) n w (in_taken_in sees_full) = elim (n has_first) [ ]
hear_finished (apart a (entry_finish_sent (finishes_now fits_inside))) n w (in_taken_in on_full) =
    record { row = _; is = in_same _ _; «in» = in_taken_in on_full; talk = apart a (entry_finish_heard fits_inside); body = λ ks. refl; opened = λ k j. (open_ended k, j); holds = λ q e. e; quiet = refl; settles = λ q e. absurd (no_board e); recalls = λ s k. ended_now s k.1 k.2; asked = λ l d a. a }
hear_finished (live (finish_and_stop_sent (finishes_now fits_home))) n w (in_stopped sees_back) = elim w [ ]
hear_finished (live (finish_and_stop_sent (finishes_now fits_home))) n w (in_stopped on_back) = elim w [ ]
hear_finished (live (finish_and_stop_sent (finishes_now fits_lost))) n w (in_stopped sees_gone) = elim w [ ]
hear_finished (live (finish_and_stop_sent (finishes_now fits_lost))) n w (in_stopped on_gone) = elim w [ ]
hear_finished (live (finish_and_stop_sent (finishes_now fits_across))) n w (in_stopped sees_across) = elim (n has_first) [ ]
hear_finished (live (finish_and_stop_sent (finishes_now fits_inside))) n w (in_stopped sees_full) = elim (n has_first) [ ]
hear_finished (live (finish_and_stop_sent (finishes_now fits_stolen))) n w (in_stopped sees_stolen) = elim (n has_first) [ ]
hear_finished (live (finish_and_stop_sent (finishes_now fits_inside))) n w (in_stopped on_full) =
    record { row = _; is = in_same _ _; «in» = in_stopped on_full; talk = live (inside_awaited_stop_sent fits_inside); body = λ ks. refl; opened = λ k j. (open_ended k, j); holds = λ q e. e; quiet = refl; settles = λ q e. absurd (no_board e); recalls = λ s k. ended_now s k.1 k.2; asked = λ l d a. a }
hear_finished (live (finish_and_stop_sent (finishes_now fits_stolen))) n w (in_stopped on_stolen) =
    record { row = _; is = in_same _ _; «in» = in_stopped on_stolen; talk = live (inside_awaited_stop_sent fits_stolen); body = λ ks. refl; opened = λ k j. (open_ended k, j); holds = λ q e. e; quiet = refl; settles = λ q e. absurd (no_board e); recalls = λ s k. ended_now s k.1 k.2; asked = λ l d a. a }
hear_finished (live (stop_heard (finishes_now fits_home) d)) n w (in_stopped sees_back) = elim w [ ]
hear_finished (live (stop_heard (finishes_now fits_home) d)) n w (in_stopped on_back) = elim w [ ]
hear_finished (live (stop_heard (finishes_now fits_lost) d)) n w (in_stopped sees_gone) = elim w [ ]
hear_finished (live (stop_heard (finishes_now fits_lost) d)) n w (in_stopped on_gone) = elim w [ ]
hear_finished (live (stop_heard (finishes_now fits_across) d)) n w (in_stopped sees_across) = elim (n has_first) [ ]
hear_finished (live (stop_heard (finishes_now fits_inside) d)) n w (in_stopped sees_full) = elim (n has_first) [ ]
hear_finished (live (stop_heard (finishes_now fits_stolen) d)) n w (in_stopped sees_stolen) = elim (n has_first) [ ]
hear_finished (live (stop_heard (finishes_now fits_inside) d)) n w (in_stopped on_full) =
    record { row = _; is = in_same _ _; «in» = in_stopped on_full; talk = live (inside_awaited fits_inside d); body = λ ks. refl; opened = λ k j. (open_ended k, j); holds = λ q e. e; quiet = refl; settles = λ q e. absurd (no_board e); recalls = λ s k. ended_now s k.1 k.2; asked = λ l d a. a }
hear_finished (live (stop_heard (finishes_now fits_stolen) d)) n w (in_stopped on_stolen) =
    record { row = _; is = in_same _ _; «in» = in_stopped on_stolen; talk = live (inside_awaited fits_stolen d); body = λ ks. refl; opened = λ k j. (open_ended k, j); holds = λ q e. e; quiet = refl; settles = λ q e. absurd (no_board e); recalls = λ s k. ended_now s k.1 k.2; asked = λ l d a. a }
hear_finished (apart a (entry_stopped_finish_sent (finishes_now fits_home) d)) n w (in_stopped sees_back) = elim w [ ]
hear_finished (apart a (entry_stopped_finish_sent (finishes_now fits_home) d)) n w (in_stopped on_back) = elim w [ ]
hear_finished (apart a (entry_stopped_finish_sent (finishes_now fits_lost) d)) n w (in_stopped sees_gone) = elim w [ ]
hear_finished (apart a (entry_stopped_finish_sent (finishes_now fits_lost) d)) n w (in_stopped on_gone) = elim w [ ]
hear_finished (apart a (entry_stopped_finish_sent (finishes_now fits_across) d)) n w (in_stopped sees_across) = elim (n has_first) [ ]
hear_finished (apart a (entry_stopped_finish_sent (finishes_now fits_inside) d)) n w (in_stopped sees_full) = elim (n has_first) [ ]
hear_finished (apart a (entry_stopped_finish_sent (finishes_now fits_stolen) d)) n w (in_stopped sees_stolen) = elim (n has_first) [ ]
hear_finished (apart a (entry_stopped_finish_sent (finishes_now fits_inside) d)) n w (in_stopped on_full) =
    record { row = _; is = in_same _ _; «in» = in_stopped on_full; talk = apart a (entry_inside_awaited fits_inside d); body = λ ks. refl; opened = λ k j. (open_ended k, j); holds = λ q e. e; quiet = refl; settles = λ q e. absurd (no_board e); recalls = λ s k. ended_now s k.1 k.2; asked = λ l d a. a }
hear_finished (apart a (entry_stopped_finish_sent (finishes_now fits_stolen) d)) n w (in_stopped on_stolen) =
    record { row = _; is = in_same _ _; «in» = in_stopped on_stolen; talk = apart a (entry_inside_awaited fits_stolen d); body = λ ks. refl; opened = λ k j. (open_ended k, j); holds = λ q e. e; quiet = refl; settles = λ q e. absurd (no_board e); recalls = λ s k. ended_now s k.1 k.2; asked = λ l d a. a }
