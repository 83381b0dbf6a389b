-- The exit hears StartTransport.
use Rattle.std.proofs.Common.{Bool, List, Option, Some, [], false, inl, inr, refl, subst, sym, true, ℕ, ◌∷◌, ◌≡◌}
use Rattle.std.proofs.lemmas.Bool.{eqb-true}
use Rattle.line_base.specs.declared.states.Seen.{Seen}
use Rattle.line_base.specs.declared.states.SensorEvent.{SensorEvent}
use Rattle.line_base.specs.declared.states.Transfer.{Transfer}
use Rattle.board_record.specs.declared.record.Record.{Record}
use Rattle.session_core.specs.declared.state.SessionState.{SessionState}
use Rattle.session_core.specs.declared.state.SessionState.TheVariants.{Standing}
use Rattle.line_world.specs.declared.gap.Gap.{Gap}
use Rattle.handover_out.specs.State.{is_id, would_open}
use Rattle.handover_out.specs.declared.input.OutInput.TheVariants as out_input
use Rattle.handover_out.specs.declared.phase.Phase.{Phase as Out}
use Rattle.handover_in.specs.State.{board_of_phase as held_in}
use Rattle.handover_in.specs.declared.phase.Phase.{Phase as In}
use Rattle.handover_in.specs.declared.phase.Phase.TheVariants as inn
use Rattle.law_custody.specs.Apart.{exit_finished, exit_finished_stop_sent, exit_idle, exit_stop_sent, exit_transporting}
use Rattle.law_custody.specs.Contents.{Contents, Kept, Looks, Named, OffersFront, front_if, kept_first, looks_front, looks_past, named_front, named_gone, offers_front, offers_nothing}
use Rattle.law_custody.specs.Flight.{fits_fresh, readies_none, starts_now}
use Rattle.law_custody.specs.Floor.{EntryFloor, ExitFloor, GapAt, at_start, in_free, in_stopped, in_taken_in, in_taking, out_ended, out_idle}
use Rattle.law_custody.specs.LookBack.{is_not_beyond, not_beyond_fresh}
use Rattle.law_custody.specs.Place.{Fresh, Place, not_across_fresh}
use Rattle.law_custody.specs.Shape.{Shape, finish_and_stop_sent, finish_sent, no_handover, start_and_stop_sent, start_sent, stop_sent, transporting}
use Rattle.law_custody.specs.Steps.{Brings, BringsOf, ExitBegan, brings_none, brings_none_stopped, brings_nothing, brings_own, brings_stopped, brings_taking, outlet}
use Rattle.law_custody.specs.Talks.{Talks, apart, apart_start, apart_start_stop, live}
use Rattle.law_custody.specs.Words.{DownWord, StartTransport, UpWord}
use Rattle.law_custody.proofs.Contents.{contents_free}
use Rattle.law_custody.proofs.Flight.{stale_end}
use Rattle.law_custody.proofs.Lets.{lets_idle}
use Rattle.law_custody.proofs.Open.{nothing_at_all, nothing_open_after, nothing_stopped, nothing_taken}
use Rattle.law_custody.proofs.Rows.{out_refused, out_same}
use Rattle.law_custody.proofs.Sides.{away, free_gap}

-- a start on a standing link opens the outlet with the record that the intake took, or is refused
hear_live_start : {Gone : ℕ → Type 0} {o : Out} {of : Option ℕ} {rd : Bool} {i : In} {f : Option Record} {ri : Bool} {p : Place} {r : Record} {up : List UpWord} {down : List DownWord} {xd : Bool} {un : List SensorEvent} {ed : Bool} {g : Gap} {z : ℕ} {brought : Option Record}
    → Shape o of rd i f ri p (StartTransport z ∷ up) down → BringsOf of i brought → ExitFloor o [] xd p r → EntryFloor i un ed p r → GapAt g p r → (t : Option ℕ)
    → ExitBegan Gone (out_input.Start z brought) (outlet o of t rd) brought xd true Standing Standing i f ri un ed g p r up down
hear_live_start (start_sent {r = q} starts_now c) brings_taking (out_idle _ _) (in_taking s) g t =
    record { row = _; is = out_same _ _ _; place = Fresh; fresh = inr refl; board = q; out = at_start; talk = live (transporting c); «in» = in_taking s; gap = g; body = λ ks. refl; below = λ ks. refl; contents = λ ks t last. contents_free (nothing_taken c) refl; lets = λ l _. is_not_beyond not_beyond_fresh; only = refl }
hear_live_start (start_sent starts_now c) brings_taking (out_idle _ _) (in_taken_in s) g t = elim s [ ]
hear_live_start (start_and_stop_sent {r = q} starts_now c) brings_stopped (out_idle _ _) (in_stopped s) g t =
    record { row = _; is = out_same _ _ _; place = Fresh; fresh = inr refl; board = q; out = at_start; talk = live (stop_sent c); «in» = in_stopped s; gap = g; body = λ ks. refl; below = λ ks. refl; contents = λ ks t last. contents_free (nothing_stopped c) refl; lets = λ l _. is_not_beyond not_beyond_fresh; only = refl }
hear_live_start {r = r} (start_sent starts_now c) (brings_none e) (out_idle a k) n g t =
    record { row = _; is = out_refused _ _ e; place = Fresh; fresh = inr refl; board = r; out = out_ended a k; talk = live (finish_sent (stale_end _ c fits_fresh)); «in» = n; gap = g; body = λ ks. refl; below = λ ks. refl; contents = λ ks t last. contents_free (nothing_open_after true _ _ (nothing_taken c)) refl; lets = λ l _. is_not_beyond not_beyond_fresh; only = refl }
hear_live_start {r = r} (start_and_stop_sent starts_now c) (brings_none_stopped e) (out_idle a k) n g t =
    record { row = _; is = out_refused _ _ e; place = Fresh; fresh = inr refl; board = r; out = out_ended a k; talk = live (finish_and_stop_sent (stale_end _ c fits_fresh)); «in» = n; gap = g; body = λ ks. refl; below = λ ks. refl; contents = λ ks t last. contents_free (nothing_open_after true _ _ (nothing_stopped c)) refl; lets = λ l _. is_not_beyond not_beyond_fresh; only = refl }
hear_live_start (no_handover a _) _ _ _ _ t = elim a [ ]

-- a start whose intake has gone still opens, and a handover of its own begins
hear_late_start : {Gone : ℕ → Type 0} {y : SessionState} {o : Out} {of : Option ℕ} {rd : Bool} {i : In} {f : Option Record} {ri : Bool} {p : Place} {r : Record} {up : List UpWord} {down : List DownWord} {xd : Bool} {un : List SensorEvent} {ed : Bool} {g : Gap} {z : ℕ} {brought : Option Record}
    → Talks false Standing o of rd y i f ri p (StartTransport z ∷ up) down → Brings of z brought → ExitFloor o [] xd p r → EntryFloor i un ed p r → GapAt g p r → (t : Option ℕ)
    → ExitBegan Gone (out_input.Start z brought) (outlet o of t rd) brought xd false Standing y i f ri un ed g p r up down
hear_late_start (apart_start starts_now c) (brings_own {r = q}) (out_idle _ n) (in_free e m) g t =
    record { row = _; is = out_same _ _ _; place = Fresh; fresh = inr refl; board = q; out = at_start; «in» = in_free e not_across_fresh; gap = free_gap q n m g; talk = apart exit_transporting (away c); body = λ ks. refl; below = λ ks. refl; contents = λ ks t last. contents_free nothing_at_all refl; lets = λ l _. is_not_beyond not_beyond_fresh; only = refl }
hear_late_start (apart_start_stop starts_now c) (brings_own {r = q}) (out_idle _ n) (in_free e m) g t =
    record { row = _; is = out_same _ _ _; place = Fresh; fresh = inr refl; board = q; out = at_start; «in» = in_free e not_across_fresh; gap = free_gap q n m g; talk = apart exit_stop_sent (away c); body = λ ks. refl; below = λ ks. refl; contents = λ ks t last. contents_free nothing_at_all refl; lets = λ l _. is_not_beyond not_beyond_fresh; only = refl }
hear_late_start {p = p} {r = r} (apart_start starts_now c) (brings_nothing e) (out_idle a n) m g t =
    record { row = _; is = out_refused _ _ e; place = p; fresh = inl refl; board = r; out = out_ended a n; «in» = m; gap = g; talk = apart exit_finished (away c); body = λ ks. refl; below = λ ks. refl; contents = λ ks t last. contents_free nothing_at_all refl; lets = λ l n. lets_idle n; only = refl }
hear_late_start {p = p} {r = r} (apart_start_stop starts_now c) (brings_nothing e) (out_idle a n) m g t =
    record { row = _; is = out_refused _ _ e; place = p; fresh = inl refl; board = r; out = out_ended a n; «in» = m; gap = g; talk = apart (exit_finished_stop_sent readies_none) (away c); body = λ ks. refl; below = λ ks. refl; contents = λ ks t last. contents_free nothing_at_all refl; lets = λ l n. lets_idle n; only = refl }
hear_late_start (apart (exit_idle a) _) _ _ _ _ t = elim a [ ]

-- what the machine finds for a start: the record that the intake took, where that board is still offered
front_is_started : {Gone : ℕ → Type 0} {q : Record} {ks : List Record} {t last : Option ℕ} {r : Record} → (Gone q.id → ⊥) → Named Gone true (q ∷ ks) t last r → q.id ≡ r.id → q ≡ r
front_is_started on_floor named_front e = refl
front_is_started {Gone = Gone} on_floor (named_gone g) e = absurd (on_floor (subst Gone (sym e) g))

brings_own_taking : {Gone : ℕ → Type 0} {of t last : Option ℕ} {kept : List Record} {r : Record} {own : Seen} {h : Bool} {brought : Option Record}
    → Looks of kept r.id brought → OffersFront of kept → ((x : ℕ) → Kept x kept → Gone x → ⊥) → Named Gone true kept t last r → BringsOf of (inn.Taking r own h) brought
brings_own_taking (looks_past e) _ _ _ = brings_none e
brings_own_taking {r = r} {own = own} {h = h} (looks_front {q = q} e) offers_front floor n = subst (λ q. BringsOf (Some q.id) (inn.Taking r own h) (Some q)) (sym (front_is_started (floor q.id kept_first) n (eqb-true q.id r.id e))) brings_taking
brings_own_taking (looks_front e) offers_nothing _ _ = cc

brings_own_stopped : {Gone : ℕ → Type 0} {of t last : Option ℕ} {kept : List Record} {r : Record} {own : Seen} {h : Option Transfer} {brought : Option Record}
    → Looks of kept r.id brought → OffersFront of kept → ((x : ℕ) → Kept x kept → Gone x → ⊥) → Named Gone true kept t last r → BringsOf of (inn.Stopped r own h) brought
brings_own_stopped (looks_past e) _ _ _ = brings_none_stopped e
brings_own_stopped {r = r} {own = own} {h = h} (looks_front {q = q} e) offers_front floor n = subst (λ q. BringsOf (Some q.id) (inn.Stopped r own h) (Some q)) (sym (front_is_started (floor q.id kept_first) n (eqb-true q.id r.id e))) brings_stopped
brings_own_stopped (looks_front e) offers_nothing _ _ = cc

brings_late : {of : Option ℕ} {kept : List Record} {z : ℕ} {brought : Option Record} → Looks of kept z brought → OffersFront of kept → Brings of z brought
brings_late (looks_past e) _ = brings_nothing e
brings_late {z = z} (looks_front {q = q} e) offers_front = subst (λ z. Brings (Some q.id) z (Some q)) (eqb-true q.id z e) brings_own
brings_late (looks_front e) offers_nothing = cc

brings_live : {Gone : ℕ → Type 0} {o : Out} {of : Option ℕ} {rd : Bool} {i : In} {f : Option Record} {ri : Bool} {p : Place} {up : List UpWord} {down : List DownWord} {z : ℕ} {brought : Option Record} {kept : List Record} {t last : Option ℕ}
    → Shape o of rd i f ri p (StartTransport z ∷ up) down → Looks of kept z brought → OffersFront of kept → ((x : ℕ) → Kept x kept → Gone x → ⊥)
    → ((r : Record) → held_in i ≡ Some r → Named Gone true kept t last r) → BringsOf of i brought
brings_live (start_sent {r = r} starts_now c) looks front floor named = brings_own_taking looks front floor (named r refl)
brings_live (start_and_stop_sent {r = r} starts_now c) looks front floor named = brings_own_stopped looks front floor (named r refl)
brings_live (no_handover a _) _ _ _ _ = elim a [ ]

some_start : {z : ℕ} {ids : List ℕ} → z ∷ ids ≡ [] → ⊥
some_start e = cc

-- a start is heard, however the link stands: the machine looks up the front of its kept boards
pub hear_start : {Gone : ℕ → Type 0} {b : Bool} {x y : SessionState} {o : Out} {of : Option ℕ} {rd : Bool} {i : In} {f : Option Record} {ri : Bool} {p : Place} {r : Record} {up : List UpWord} {down : List DownWord} {xd : Bool} {un : List SensorEvent} {ed : Bool} {g : Gap} {z : ℕ} {brought : Option Record} {kept : List Record} {t last : Option ℕ}
    → Talks b x o of rd y i f ri p (StartTransport z ∷ up) down → Looks of kept z brought → OffersFront of kept → ((x : ℕ) → Kept x kept → Gone x → ⊥)
    → Contents Gone b kept t last i f (StartTransport z ∷ up) down
    → ExitFloor o [] xd p r → EntryFloor i un ed p r → GapAt g p r
    → ExitBegan Gone (out_input.Start z brought) (outlet o of t rd) brought xd b x y i f ri un ed g p r up down
hear_start {t = t} (live s) looks front floor c h n g = hear_live_start s (brings_live s looks front floor (λ r e. c.start r refl e some_start)) h n g t
hear_start {t = t} (apart_start a w) looks front floor c h n g = hear_late_start (apart_start a w) (brings_late looks front) h n g t
hear_start {t = t} (apart_start_stop a w) looks front floor c h n g = hear_late_start (apart_start_stop a w) (brings_late looks front) h n g t
hear_start (apart (exit_idle a) _) _ _ _ _ _ _ _ = elim a [ ]

finds_front : {kept : List Record} (of : Option ℕ) (z : ℕ) (test : Bool) → is_id of z ≡ test → OffersFront of kept → Looks of kept z (front_if test kept)
finds_front of z true e offers_front = looks_front e
finds_front of z true e offers_nothing = cc
finds_front of z false e _ = looks_past e

-- what a machine looks up for a start is what it finds for one that would open its outlet
pub start_finds : {b : Bool} {x y : SessionState} {o : Out} {of : Option ℕ} {rd : Bool} {i : In} {f : Option Record} {ri : Bool} {p : Place} {up : List UpWord} {down : List DownWord} {z : ℕ} {kept : List Record} (t : Option ℕ)
    → Talks b x o of rd y i f ri p (StartTransport z ∷ up) down → OffersFront of kept → Looks of kept z (front_if (would_open (outlet o of t rd) z) kept)
start_finds {of = of} {z = z} t (live (start_sent starts_now _)) front = finds_front of z (is_id of z) refl front
start_finds {of = of} {z = z} t (live (start_and_stop_sent starts_now _)) front = finds_front of z (is_id of z) refl front
start_finds {of = of} {z = z} t (apart_start starts_now _) front = finds_front of z (is_id of z) refl front
start_finds {of = of} {z = z} t (apart_start_stop starts_now _) front = finds_front of z (is_id of z) refl front
start_finds t (live (no_handover a _)) _ = elim a [ ]
start_finds t (apart (exit_idle a) _) _ = elim a [ ]
