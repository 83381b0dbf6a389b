-- The entry reads a sensor event, however the link stands.
use Rattle.std.proofs.Common.{Bool, List, None, Option, Some, [], false, refl, true, ℕ, ◌∷◌, ◌≡◌}
use Rattle.line_base.specs.declared.states.Seen.TheVariants as seen
use Rattle.line_base.specs.declared.states.SensorEvent.{SensorEvent}
use Rattle.line_base.specs.declared.states.SensorEvent.TheVariants as event
use Rattle.line_base.specs.declared.states.Transfer.{Transfer}
use Rattle.board_record.specs.declared.record.Record.{Record}
use Rattle.session_core.specs.declared.state.SessionState.{SessionState}
use Rattle.handover_out.specs.declared.phase.Phase.{Phase as Out}
use Rattle.handover_in.specs.Act.{nothing as in_nothing}
use Rattle.handover_in.specs.Row.{intake_row}
use Rattle.handover_in.specs.declared.input.InInput.TheVariants as in_input
use Rattle.handover_in.specs.declared.phase.Phase.{Phase as In}
use Rattle.handover_in.specs.declared.phase.Phase.TheVariants as inn
use Rattle.law_custody.specs.Apart.{entry_none, entry_waits, entry_waits_heard, entry_waits_in}
use Rattle.law_custody.specs.Floor.{EntryFloor, in_free, in_stopped, in_taken_in, in_taking, in_waiting, is_gone, is_in, is_stolen, no_full_back, no_full_begun, no_full_none, no_full_taken, on_across, on_back, on_begun, on_full, on_gone, on_stolen, sees_across, sees_back, sees_begun, sees_full, sees_gone, sees_home, sees_stolen}
use Rattle.law_custody.specs.LookBack.{by_end}
use Rattle.law_custody.specs.Place.{Inside, Place, Stolen, not_across_home, not_across_inside, not_across_lost, not_across_stolen}
use Rattle.law_custody.specs.Steps.{EntryDid, intake}
use Rattle.law_custody.specs.Talks.{Talks, apart, live}
use Rattle.law_custody.specs.Words.{DownWord, UpWord}
use Rattle.law_custody.proofs.Asked.{exit_starts, stopped_starts, taking_starts}
use Rattle.law_custody.proofs.Behind.{exit_free}
use Rattle.law_custody.proofs.Facts.{no_board}
use Rattle.law_custody.proofs.Passed.{is_dropped, is_settled, passed}
use Rattle.law_custody.proofs.Recalls.{free_stopped, free_taking}
use Rattle.law_custody.proofs.TurnsEntry.{Left, at_place, ends_late, has_left, left_late, never_begun, not_home, not_lost, own_stopped, own_taking, past_across, past_gap, past_home, past_inside, past_lost, past_stolen, settles_taking, stops_taking, taking_heard, waits_begun}

pub begun_taking_is : (h : Bool) (q : Record) (f : Option Record) (ri : Bool)
    → intake_row (intake (inn.Taking q seen.NotStarted h) f ri) (in_input.Sensed event.Begun) ≡ Some (record { after = intake (inn.Taking q seen.Incomplete h) f ri; act = in_nothing })
begun_taking_is true q f ri = refl
begun_taking_is false q f ri = refl

pub back_taking_is : (h : Bool) (q : Record) (f : Option Record) (ri : Bool)
    → intake_row (intake (inn.Taking q seen.Incomplete h) f ri) (in_input.Sensed event.Back) ≡ Some (record { after = intake (inn.Taking q seen.NotStarted h) f ri; act = in_nothing })
back_taking_is true q f ri = refl
back_taking_is false q f ri = refl

-- the board of a stopped transport comes inside, or is taken out
pub inside_late : {Q : Record → Type 0} {b : Bool} {x y : SessionState} {o : Out} {of : Option ℕ} {rd : Bool} {f : Option Record} {ri : Bool} {up : List UpWord} {down : List DownWord} {q : Record} {e : Transfer}
    → Left e Inside → Talks b x o of rd y (inn.Stopped q seen.Incomplete (Some e)) f ri Inside up down
    → EntryDid Q (in_input.Sensed event.Full) (intake (inn.Stopped q seen.Incomplete (Some e)) f ri) [] false b x o of rd y Inside q up down down
inside_late (has_left _) k = is_settled refl refl refl (in_free no_full_none not_across_inside) (ends_late k) (λ k. k) (free_stopped k) (stopped_starts k) (λ s k. by_end (k.0 refl))

pub stolen_late : {Q : Record → Type 0} {b : Bool} {x y : SessionState} {o : Out} {of : Option ℕ} {rd : Bool} {f : Option Record} {ri : Bool} {r : Record} {up : List UpWord} {down : List DownWord} {q : Record} {e : Transfer}
    → Left e Stolen → Talks b x o of rd y (inn.Stopped q seen.Incomplete (Some e)) f ri Stolen up down
    → EntryDid Q (in_input.Sensed event.Taken) (intake (inn.Stopped q seen.Incomplete (Some e)) f ri) [] false b x o of rd y Stolen r up down down
stolen_late (has_left _) k = is_dropped refl refl refl (in_free no_full_none not_across_stolen) refl (ends_late k) (λ k. k)

pub read_entry : {Q : Record → Type 0} {b : Bool} {x y : SessionState} {o : Out} {of : Option ℕ} {rd : Bool} {i : In} {f : Option Record} {ri : Bool} {p : Place} {r : Record} {up : List UpWord} {down : List DownWord} {ed : Bool} {e : SensorEvent} {un : List SensorEvent}
    → EntryFloor i (e ∷ un) ed p r → Talks b x o of rd y i f ri p up down
    → EntryDid Q (in_input.Sensed e) (intake i f ri) un ed b x o of rd y p r up down down
read_entry (in_free (no_full_begun a) n) k = passed (λ s. refl) refl (in_free a n) k (λ k j. (k, j))
read_entry (in_free (no_full_back a) n) k = passed (λ s. refl) refl (in_free a n) k (λ k j. (k, j))
read_entry (in_free (no_full_taken a) n) k = passed (λ s. refl) refl (in_free a n) k (λ k j. (k, j))
read_entry (in_taking {h = h} sees_begun) k =
    record { row = _; is = begun_taking_is h _ _ _; «in» = in_taking on_begun; talk = own_taking past_gap k; body = λ ks. refl; opened = λ k j. (k, j); holds = λ q e. e; quiet = refl; settles = λ q e. absurd (no_board e); recalls = λ s k. k; asked = λ l d a. a }
read_entry (in_taking {h = h} sees_across) k =
    record { row = _; is = begun_taking_is h _ _ _; «in» = in_taking on_across; talk = own_taking past_across k; body = λ ks. refl; opened = λ k j. (k, j); holds = λ q e. e; quiet = refl; settles = λ q e. absurd (no_board e); recalls = λ s k. k; asked = λ l d a. a }
read_entry (in_taking {h = h} sees_back) k =
    record { row = _; is = begun_taking_is h _ _ _; «in» = in_taking on_back; talk = own_taking past_home k; body = λ ks. refl; opened = λ k j. (k, j); holds = λ q e. e; quiet = refl; settles = λ q e. absurd (no_board e); recalls = λ s k. k; asked = λ l d a. a }
read_entry (in_taking {h = h} sees_gone) k =
    record { row = _; is = begun_taking_is h _ _ _; «in» = in_taking on_gone; talk = own_taking past_lost k; body = λ ks. refl; opened = λ k j. (k, j); holds = λ q e. e; quiet = refl; settles = λ q e. absurd (no_board e); recalls = λ s k. k; asked = λ l d a. a }
read_entry (in_taken_in {h = h} sees_full) k =
    record { row = _; is = begun_taking_is h _ _ _; «in» = in_taken_in on_full; talk = own_taking past_inside k; body = λ ks. refl; opened = λ k j. (k, j); holds = λ q e. e; quiet = refl; settles = λ q e. absurd (no_board e); recalls = λ s k. k; asked = λ l d a. a }
read_entry (in_taking {h = h} on_back) k =
    record { row = _; is = back_taking_is h _ _ _; «in» = in_taking sees_home; talk = own_taking past_home k; body = λ ks. refl; opened = λ k j. (k, j); holds = λ q e. e; quiet = refl; settles = λ q e. absurd (no_board e); recalls = λ s k. k; asked = λ l d a. a }
read_entry (in_taken_in {h = false} on_full) k =
    record { row = _; is = refl; «in» = in_stopped is_in; talk = stops_taking past_inside k; body = λ ks. refl; opened = λ k j. (k, j); holds = λ q e. e; quiet = refl; settles = λ q e. absurd (no_board e); recalls = λ s k. k; asked = λ l d a. a }
read_entry (in_taken_in {h = true} on_full) k = is_settled refl refl refl (in_free no_full_none not_across_inside) (settles_taking k) (λ k. k) (free_taking k) (taking_starts k) (λ s k. by_end (k.0 refl))
read_entry (in_taking {h = false} on_gone) k =
    record { row = _; is = refl; «in» = in_stopped is_gone; talk = stops_taking past_lost k; body = λ ks. refl; opened = λ k j. (k, j); holds = λ q e. e; quiet = refl; settles = λ q e. absurd (no_board e); recalls = λ s k. k; asked = λ l d a. a }
read_entry (in_taking {h = true} on_gone) k = elim (taking_heard k) [ at_place s ↦ elim s [ ] ]
read_entry (in_stopped {h = None} sees_begun) k =
    record { row = _; is = refl; «in» = in_stopped on_begun; talk = own_stopped past_gap k; body = λ ks. refl; opened = λ k j. (k, j); holds = λ q e. e; quiet = refl; settles = λ q e. absurd (no_board e); recalls = λ s k. k; asked = λ l d a. a }
read_entry (in_stopped {h = Some _} sees_begun) k = absurd (never_begun k)
read_entry (in_stopped {h = None} sees_across) k =
    record { row = _; is = refl; «in» = in_stopped on_across; talk = own_stopped past_across k; body = λ ks. refl; opened = λ k j. (k, j); holds = λ q e. e; quiet = refl; settles = λ q e. absurd (no_board e); recalls = λ s k. k; asked = λ l d a. a }
read_entry (in_stopped {h = Some _} sees_across) k = absurd (never_begun k)
read_entry (in_stopped {h = None} sees_back) k =
    record { row = _; is = refl; «in» = in_stopped on_back; talk = own_stopped past_home k; body = λ ks. refl; opened = λ k j. (k, j); holds = λ q e. e; quiet = refl; settles = λ q e. absurd (no_board e); recalls = λ s k. k; asked = λ l d a. a }
read_entry (in_stopped {h = Some _} sees_back) k = absurd (never_begun k)
read_entry (in_stopped {h = None} sees_gone) k =
    record { row = _; is = refl; «in» = in_stopped on_gone; talk = own_stopped past_lost k; body = λ ks. refl; opened = λ k j. (k, j); holds = λ q e. e; quiet = refl; settles = λ q e. absurd (no_board e); recalls = λ s k. k; asked = λ l d a. a }
read_entry (in_stopped {h = Some _} sees_gone) k = absurd (never_begun k)
read_entry (in_stopped {h = None} sees_stolen) k =
    record { row = _; is = refl; «in» = in_stopped on_stolen; talk = own_stopped past_stolen k; body = λ ks. refl; opened = λ k j. (k, j); holds = λ q e. e; quiet = refl; settles = λ q e. absurd (no_board e); recalls = λ s k. k; asked = λ l d a. a }
read_entry (in_stopped {h = Some _} sees_stolen) k = absurd (never_begun k)
read_entry (in_stopped {h = None} sees_full) k =
    record { row = _; is = refl; «in» = in_stopped on_full; talk = own_stopped past_inside k; body = λ ks. refl; opened = λ k j. (k, j); holds = λ q e. e; quiet = refl; settles = λ q e. absurd (no_board e); recalls = λ s k. k; asked = λ l d a. a }
read_entry (in_stopped {h = Some _} sees_full) k = absurd (never_begun k)
read_entry (in_stopped {h = None} on_back) k =
    record { row = _; is = refl; «in» = in_stopped sees_home; talk = own_stopped past_home k; body = λ ks. refl; opened = λ k j. (k, j); holds = λ q e. e; quiet = refl; settles = λ q e. absurd (no_board e); recalls = λ s k. k; asked = λ l d a. a }
read_entry (in_stopped {h = None} on_full) k =
    record { row = _; is = refl; «in» = in_stopped is_in; talk = own_stopped past_inside k; body = λ ks. refl; opened = λ k j. (k, j); holds = λ q e. e; quiet = refl; settles = λ q e. absurd (no_board e); recalls = λ s k. k; asked = λ l d a. a }
read_entry (in_stopped {h = None} on_gone) k =
    record { row = _; is = refl; «in» = in_stopped is_gone; talk = own_stopped past_lost k; body = λ ks. refl; opened = λ k j. (k, j); holds = λ q e. e; quiet = refl; settles = λ q e. absurd (no_board e); recalls = λ s k. k; asked = λ l d a. a }
read_entry (in_stopped {h = None} on_stolen) k =
    record { row = _; is = refl; «in» = in_stopped is_stolen; talk = own_stopped past_stolen k; body = λ ks. refl; opened = λ k j. (k, j); holds = λ q e. e; quiet = refl; settles = λ q e. absurd (no_board e); recalls = λ s k. k; asked = λ l d a. a }
read_entry (in_stopped {h = Some e} on_full) k = inside_late (left_late k) k
read_entry (in_stopped {h = Some e} on_stolen) k = stolen_late (left_late k) k
read_entry (in_stopped {h = Some e} on_back) k = absurd (not_home (left_late k))
read_entry (in_stopped {h = Some e} on_gone) k = absurd (not_lost (left_late k))
read_entry (in_waiting sees_begun) k = absurd (waits_begun k)
read_entry (in_waiting sees_across) k = absurd (waits_begun k)
read_entry (in_waiting sees_back) k = absurd (waits_begun k)
read_entry (in_waiting sees_gone) k = absurd (waits_begun k)
read_entry (in_waiting sees_stolen) k = absurd (waits_begun k)
read_entry (in_waiting sees_full) k = absurd (waits_begun k)
read_entry (in_waiting on_full) (apart a entry_waits) =
    record { row = _; is = refl; «in» = in_waiting is_in; talk = apart a entry_waits_in; body = λ ks. refl; opened = λ k j. (k, j); holds = λ q e. e; quiet = refl; settles = λ q e. absurd (no_board e); recalls = λ s k. k; asked = λ l d a. a }
read_entry (in_waiting on_full) (apart a (entry_waits_heard _)) = is_settled refl refl refl (in_free no_full_none not_across_inside) (apart a entry_none) (λ k. k) (exit_free a) (exit_starts a) (λ s k. by_end (k.0 refl))
read_entry (in_waiting on_back) (apart a entry_waits) = is_dropped refl refl refl (in_free no_full_none not_across_home) refl (apart a entry_none) (λ k. k)
read_entry (in_waiting on_back) (apart a (entry_waits_heard s)) = elim s [ ]
read_entry (in_waiting on_gone) (apart a entry_waits) = is_dropped refl refl refl (in_free no_full_none not_across_lost) refl (apart a entry_none) (λ k. k)
read_entry (in_waiting on_gone) (apart a (entry_waits_heard s)) = elim s [ ]
read_entry (in_waiting on_stolen) (apart a entry_waits) = is_dropped refl refl refl (in_free no_full_none not_across_stolen) refl (apart a entry_none) (λ k. k)
read_entry (in_waiting on_stolen) (apart a (entry_waits_heard _)) = is_dropped refl refl refl (in_free no_full_none not_across_stolen) refl (apart a entry_none) (λ k. k)
read_entry (in_waiting on_back) (live s) = elim s [ ]
read_entry (in_waiting on_full) (live s) = elim s [ ]
read_entry (in_waiting on_gone) (live s) = elim s [ ]
read_entry (in_waiting on_stolen) (live s) = elim s [ ]
