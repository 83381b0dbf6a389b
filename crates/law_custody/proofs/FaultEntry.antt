-- The entry's drive fails, however the link stands.
use Rattle.std.proofs.Common.{Bool, List, Option, false, refl, true, ℕ}
use Rattle.line_base.specs.declared.states.SensorEvent.{SensorEvent}
use Rattle.board_record.specs.declared.record.Record.{Record}
use Rattle.session_core.specs.declared.state.SessionState.{SessionState}
use Rattle.handover_out.specs.declared.phase.Phase.{Phase as Out}
use Rattle.handover_in.specs.declared.input.InInput.TheVariants as in_input
use Rattle.handover_in.specs.declared.phase.Phase.{Phase as In}
use Rattle.law_custody.specs.Facts.{has_first}
use Rattle.law_custody.specs.Floor.{EntryFloor, in_free, in_stopped, in_taken_in, in_taking, in_waiting, in_waiting_on, on_across, on_back, on_begun, on_full, on_gone, sees_across, sees_back, sees_begun, sees_fresh, sees_full, sees_gone, sees_home}
use Rattle.law_custody.specs.Place.{Place}
use Rattle.law_custody.specs.Steps.{EntryDid, intake}
use Rattle.law_custody.specs.Talks.{Talks}
use Rattle.law_custody.specs.Words.{DownWord, UpWord}
use Rattle.law_custody.proofs.Facts.{no_board}
use Rattle.law_custody.proofs.Passed.{passed}
use Rattle.law_custody.proofs.TurnsEntry.{at_place, past_across, past_gap, past_home, past_inside, past_lost, starts_stopped, stops_taking, taking_heard, waits_taking}
use Rattle.law_custody.proofs.Unread.{ReadFirst}

pub fault_entry : {Q : Record → Type 0} {b : Bool} {x y : SessionState} {o : Out} {of : Option ℕ} {rd : Bool} {i : In} {f : Option Record} {ri : Bool} {p : Place} {r : Record} {up : List UpWord} {down : List DownWord} {un : List SensorEvent} {ed : Bool}
    → ReadFirst un p → EntryFloor i un ed p r → Talks b x o of rd y i f ri p up down
    → EntryDid Q in_input.Fault (intake i f ri) un ed b x o of rd y p r up down down
fault_entry n (in_free a m) k = passed (λ s. refl) refl (in_free a m) k (λ k j. (k, j))
fault_entry n (in_stopped s) k = passed (λ s. refl) refl (in_stopped s) k (λ k j. (k, j))
fault_entry n (in_waiting s) k = passed (λ s. refl) refl (in_waiting s) k (λ k j. (k, j))
fault_entry n in_waiting_on k = passed (λ s. refl) refl in_waiting_on k (λ k j. (k, j))
fault_entry n (in_taking {h = false} sees_fresh) k =
    record { row = _; is = refl; «in» = in_stopped sees_fresh; talk = starts_stopped k; body = λ ks. refl; opened = λ k j. (k, j); holds = λ q e. e; quiet = refl; settles = λ q e. absurd (no_board e); recalls = λ s k. k; asked = λ l d a. a }
fault_entry n (in_taking {h = false} sees_home) k =
    record { row = _; is = refl; «in» = in_stopped sees_home; talk = stops_taking past_home k; body = λ ks. refl; opened = λ k j. (k, j); holds = λ q e. e; quiet = refl; settles = λ q e. absurd (no_board e); recalls = λ s k. k; asked = λ l d a. a }
fault_entry n (in_taking {h = false} on_begun) k =
    record { row = _; is = refl; «in» = in_stopped on_begun; talk = stops_taking past_gap k; body = λ ks. refl; opened = λ k j. (k, j); holds = λ q e. e; quiet = refl; settles = λ q e. absurd (no_board e); recalls = λ s k. k; asked = λ l d a. a }
fault_entry n (in_taking {h = false} on_across) k =
    record { row = _; is = refl; «in» = in_stopped on_across; talk = stops_taking past_across k; body = λ ks. refl; opened = λ k j. (k, j); holds = λ q e. e; quiet = refl; settles = λ q e. absurd (no_board e); recalls = λ s k. k; asked = λ l d a. a }
fault_entry n (in_taking {h = true} on_across) k =
    record { row = _; is = refl; «in» = in_stopped on_across; talk = waits_taking k; body = λ ks. refl; opened = λ k j. (k, j); holds = λ q e. e; quiet = refl; settles = λ q e. absurd (no_board e); recalls = λ s k. k; asked = λ l d a. a }
fault_entry n (in_taking {h = true} sees_fresh) k = elim (taking_heard k) [ at_place s ↦ elim s [ ] ]
fault_entry n (in_taking {h = true} sees_home) k = elim (taking_heard k) [ at_place s ↦ elim s [ ] ]
fault_entry n (in_taking {h = true} on_begun) k = elim (taking_heard k) [ at_place s ↦ elim s [ ] ]
fault_entry n (in_taking {h = false} sees_begun) k =
    record { row = _; is = refl; «in» = in_stopped sees_begun; talk = stops_taking past_gap k; body = λ ks. refl; opened = λ k j. (k, j); holds = λ q e. e; quiet = refl; settles = λ q e. absurd (no_board e); recalls = λ s k. k; asked = λ l d a. a }
fault_entry n (in_taking {h = false} sees_back) k =
    record { row = _; is = refl; «in» = in_stopped sees_back; talk = stops_taking past_home k; body = λ ks. refl; opened = λ k j. (k, j); holds = λ q e. e; quiet = refl; settles = λ q e. absurd (no_board e); recalls = λ s k. k; asked = λ l d a. a }
fault_entry n (in_taking {h = false} sees_gone) k =
    record { row = _; is = refl; «in» = in_stopped sees_gone; talk = stops_taking past_lost k; body = λ ks. refl; opened = λ k j. (k, j); holds = λ q e. e; quiet = refl; settles = λ q e. absurd (no_board e); recalls = λ s k. k; asked = λ l d a. a }
fault_entry n (in_taking {h = false} on_back) k =
    record { row = _; is = refl; «in» = in_stopped on_back; talk = stops_taking past_home k; body = λ ks. refl; opened = λ k j. (k, j); holds = λ q e. e; quiet = refl; settles = λ q e. absurd (no_board e); recalls = λ s k. k; asked = λ l d a. a }
fault_entry n (in_taking {h = false} on_gone) k =
    record { row = _; is = refl; «in» = in_stopped on_gone; talk = stops_taking past_lost k; body = λ ks. refl; opened = λ k j. (k, j); holds = λ q e. e; quiet = refl; settles = λ q e. absurd (no_board e); recalls = λ s k. k; asked = λ l d a. a }
fault_entry n (in_taken_in {h = false} on_full) k =
    record { row = _; is = refl; «in» = in_stopped on_full; talk = stops_taking past_inside k; body = λ ks. refl; opened = λ k j. (k, j); holds = λ q e. e; quiet = refl; settles = λ q e. absurd (no_board e); recalls = λ s k. k; asked = λ l d a. a }
fault_entry n (in_taken_in {h = true} on_full) k =
    record { row = _; is = refl; «in» = in_stopped on_full; talk = waits_taking k; body = λ ks. refl; opened = λ k j. (k, j); holds = λ q e. e; quiet = refl; settles = λ q e. absurd (no_board e); recalls = λ s k. k; asked = λ l d a. a }
fault_entry n (in_taking sees_across) k = elim (n has_first) [ ]
fault_entry n (in_taken_in sees_full) k = elim (n has_first) [ ]
fault_entry n (in_taking {h = true} sees_begun) k = elim (taking_heard k) [ at_place s ↦ elim s [ ] ]
fault_entry n (in_taking {h = true} sees_back) k = elim (taking_heard k) [ at_place s ↦ elim s [ ] ]
fault_entry n (in_taking {h = true} sees_gone) k = elim (taking_heard k) [ at_place s ↦ elim s [ ] ]
fault_entry n (in_taking {h = true} on_back) k = elim (taking_heard k) [ at_place s ↦ elim s [ ] ]
fault_entry n (in_taking {h = true} on_gone) k = elim (taking_heard k) [ at_place s ↦ elim s [ ] ]
