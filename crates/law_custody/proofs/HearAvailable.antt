-- The entry hears BoardAvailable and RevokeBoardAvailable, however the link stands: it takes them, or passes them over.
use Rattle.std.proofs.Common.{Bool, List, Option, refl, ℕ, ◌∷◌}
use Rattle.line_base.specs.declared.states.SensorEvent.{SensorEvent}
use Rattle.board_record.specs.declared.record.Record.{Record}
use Rattle.session_core.specs.declared.state.SessionState.{SessionState}
use Rattle.handover_out.specs.declared.phase.Phase.{Phase as Out}
use Rattle.handover_in.specs.declared.input.InInput.TheVariants as in_input
use Rattle.handover_in.specs.declared.phase.Phase.{Phase as In}
use Rattle.law_custody.specs.Apart.{entry_finish_sent, entry_idle, entry_inside_awaited, entry_stopped, entry_stopped_finish_sent, entry_transporting}
use Rattle.law_custody.specs.Contents.{no_offer}
use Rattle.law_custody.specs.Flight.{finishes_offer, finishes_revoke, offers_back, offers_new, stale_offer, stale_revoke}
use Rattle.law_custody.specs.Floor.{EntryFloor}
use Rattle.law_custody.specs.Place.{Place}
use Rattle.law_custody.specs.Shape.{finish_and_stop_sent, finish_sent, inside_awaited, no_handover, start_and_stop_sent, start_sent, stop_heard, stop_sent, stuck_stop_heard, stuck_stop_sent, stuck_transporting, transporting}
use Rattle.law_custody.specs.Steps.{EntryDid, intake}
use Rattle.law_custody.specs.Talks.{Talks, apart, live}
use Rattle.law_custody.specs.Words.{BoardAvailable, DownWord, RevokeBoardAvailable, UpWord}
use Rattle.law_custody.proofs.Open.{open_first, open_rest, open_tail}
use Rattle.law_custody.proofs.Passed.{passed}

pub hear_available : {Q : Record → Type 0} {b : Bool} {x y : SessionState} {o : Out} {of : Option ℕ} {rd : Bool} {i : In} {f : Option Record} {ri : Bool} {p : Place} {r : Record} {up : List UpWord} {down : List DownWord} {un : List SensorEvent} {ed : Bool} (q : Record)
    → Talks b x o of rd y i f ri p up (BoardAvailable q ∷ down) → EntryFloor i un ed p r
    → EntryDid Q (in_input.BoardAvailable q) (intake i f ri) un ed b x o of rd y p r up (BoardAvailable q ∷ down) down
hear_available q (live (no_handover a (offers_new c))) h = passed (λ s. refl) refl h (live (no_handover a c)) (λ k j. (open_tail k, open_first k))
hear_available q (live (start_sent a (stale_offer c))) h = passed (λ s. refl) refl h (live (start_sent a c)) (λ k j. (open_tail k, j))
hear_available q (live (start_and_stop_sent a (stale_offer c))) h = passed (λ s. refl) refl h (live (start_and_stop_sent a c)) (λ k j. (open_tail k, j))
hear_available q (live (transporting (stale_offer c))) h = passed (λ s. refl) refl h (live (transporting c)) (λ k j. (open_tail k, j))
hear_available q (live (stop_sent (stale_offer c))) h = passed (λ s. refl) refl h (live (stop_sent c)) (λ k j. (open_tail k, j))
hear_available q (live (stuck_transporting (stale_offer c))) h = passed (λ s. refl) refl h (live (stuck_transporting c)) (λ k j. (open_tail k, j))
hear_available q (live (stuck_stop_sent (stale_offer c))) h = passed (λ s. refl) refl h (live (stuck_stop_sent c)) (λ k j. (open_tail k, j))
hear_available q (live (stuck_stop_heard (stale_offer c))) h = passed (λ s. refl) refl h (live (stuck_stop_heard c)) (λ k j. (open_tail k, j))
hear_available q (live (finish_sent (finishes_offer c))) h = passed (λ s. refl) refl h (live (finish_sent c)) (λ k j. (open_tail k, j))
hear_available q (live (finish_and_stop_sent (finishes_offer c))) h = passed (λ s. refl) refl h (live (finish_and_stop_sent c)) (λ k j. (open_tail k, j))
hear_available q (live (stop_heard (finishes_offer c) d)) h = passed (λ s. refl) refl h (live (stop_heard c d)) (λ k j. (open_tail k, j))
hear_available q (live (inside_awaited a (offers_new c))) h = passed (λ s. refl) refl h (live (inside_awaited a c)) (λ k j. (open_tail k, open_first k))
hear_available q (apart a (entry_idle (offers_new c))) h = passed (λ s. refl) refl h (apart a (entry_idle c)) (λ k j. (open_tail k, open_first k))
hear_available q (apart a (entry_transporting (stale_offer c))) h = passed (λ s. refl) refl h (apart a (entry_transporting c)) (λ k j. (open_tail k, j))
hear_available q (apart a (entry_stopped (stale_offer c))) h = passed (λ s. refl) refl h (apart a (entry_stopped c)) (λ k j. (open_tail k, j))
hear_available q (apart a (entry_finish_sent (finishes_offer c))) h = passed (λ s. refl) refl h (apart a (entry_finish_sent c)) (λ k j. (open_tail k, j))
hear_available q (apart a (entry_stopped_finish_sent (finishes_offer c) d)) h = passed (λ s. refl) refl h (apart a (entry_stopped_finish_sent c d)) (λ k j. (open_tail k, j))
hear_available q (apart a (entry_inside_awaited d (offers_new c))) h = passed (λ s. refl) refl h (apart a (entry_inside_awaited d c)) (λ k j. (open_tail k, open_first k))

pub hear_revoke_available : {Q : Record → Type 0} {b : Bool} {x y : SessionState} {o : Out} {of : Option ℕ} {rd : Bool} {i : In} {f : Option Record} {ri : Bool} {p : Place} {r : Record} {up : List UpWord} {down : List DownWord} {un : List SensorEvent} {ed : Bool}
    → Talks b x o of rd y i f ri p up (RevokeBoardAvailable ∷ down) → EntryFloor i un ed p r
    → EntryDid Q in_input.RevokeBoardAvailable (intake i f ri) un ed b x o of rd y p r up (RevokeBoardAvailable ∷ down) down
hear_revoke_available (live (no_handover a (offers_back c))) h = passed (λ s. refl) refl h (live (no_handover a c)) (λ k j. (open_rest k, no_offer))
hear_revoke_available (live (start_sent a (stale_revoke c))) h = passed (λ s. refl) refl h (live (start_sent a c)) (λ k j. (open_rest k, j))
hear_revoke_available (live (start_and_stop_sent a (stale_revoke c))) h = passed (λ s. refl) refl h (live (start_and_stop_sent a c)) (λ k j. (open_rest k, j))
hear_revoke_available (live (transporting (stale_revoke c))) h = passed (λ s. refl) refl h (live (transporting c)) (λ k j. (open_rest k, j))
hear_revoke_available (live (stop_sent (stale_revoke c))) h = passed (λ s. refl) refl h (live (stop_sent c)) (λ k j. (open_rest k, j))
hear_revoke_available (live (stuck_transporting (stale_revoke c))) h = passed (λ s. refl) refl h (live (stuck_transporting c)) (λ k j. (open_rest k, j))
hear_revoke_available (live (stuck_stop_sent (stale_revoke c))) h = passed (λ s. refl) refl h (live (stuck_stop_sent c)) (λ k j. (open_rest k, j))
hear_revoke_available (live (stuck_stop_heard (stale_revoke c))) h = passed (λ s. refl) refl h (live (stuck_stop_heard c)) (λ k j. (open_rest k, j))
hear_revoke_available (live (finish_sent (finishes_revoke c))) h = passed (λ s. refl) refl h (live (finish_sent c)) (λ k j. (open_rest k, j))
hear_revoke_available (live (finish_and_stop_sent (finishes_revoke c))) h = passed (λ s. refl) refl h (live (finish_and_stop_sent c)) (λ k j. (open_rest k, j))
hear_revoke_available (live (stop_heard (finishes_revoke c) d)) h = passed (λ s. refl) refl h (live (stop_heard c d)) (λ k j. (open_rest k, j))
hear_revoke_available (live (inside_awaited a (offers_back c))) h = passed (λ s. refl) refl h (live (inside_awaited a c)) (λ k j. (open_rest k, no_offer))
hear_revoke_available (apart a (entry_idle (offers_back c))) h = passed (λ s. refl) refl h (apart a (entry_idle c)) (λ k j. (open_rest k, no_offer))
hear_revoke_available (apart a (entry_transporting (stale_revoke c))) h = passed (λ s. refl) refl h (apart a (entry_transporting c)) (λ k j. (open_rest k, j))
hear_revoke_available (apart a (entry_stopped (stale_revoke c))) h = passed (λ s. refl) refl h (apart a (entry_stopped c)) (λ k j. (open_rest k, j))
hear_revoke_available (apart a (entry_finish_sent (finishes_revoke c))) h = passed (λ s. refl) refl h (apart a (entry_finish_sent c)) (λ k j. (open_rest k, j))
hear_revoke_available (apart a (entry_stopped_finish_sent (finishes_revoke c) d)) h = passed (λ s. refl) refl h (apart a (entry_stopped_finish_sent c d)) (λ k j. (open_rest k, j))
hear_revoke_available (apart a (entry_inside_awaited d (offers_back c))) h = passed (λ s. refl) refl h (apart a (entry_inside_awaited d c)) (λ k j. (open_rest k, no_offer))
