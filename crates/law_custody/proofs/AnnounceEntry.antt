-- The entry says that it is ready, that it is not, and that a transport starts.
use Rattle.std.proofs.Common.{Bool, List, None, Option, Some, [], ap, false, refl, subst, true, ℕ, ◌++◌, ◌∙◌, ◌∷◌, ◌≡◌}
use Rattle.line_base.specs.declared.states.Seen.TheVariants as seen
use Rattle.line_base.specs.declared.states.SensorEvent.{SensorEvent}
use Rattle.board_record.specs.declared.record.Record.{Record}
use Rattle.session_core.specs.declared.state.SessionState.{SessionState}
use Rattle.session_core.specs.declared.state.SessionState.TheVariants.{Standing}
use Rattle.line_world.specs.declared.gap.Gap.{Gap}
use Rattle.handover_out.specs.declared.phase.Phase.{Phase as Out}
use Rattle.handover_in.specs.declared.input.InInput.TheVariants as in_input
use Rattle.handover_in.specs.declared.phase.Phase.TheVariants as inn
use Rattle.law_custody.specs.Apart.{entry_idle, entry_transporting}
use Rattle.law_custody.specs.Contents.{Contents, Named, OfferIs, no_offer, offer_is}
use Rattle.law_custody.specs.Flight.{Stale}
use Rattle.law_custody.specs.Floor.{EntryFloor, ExitFloor, GapAt, in_free, in_taking, out_idle, sees_fresh}
use Rattle.law_custody.specs.LookBack.{asked_held, asks_nothing, is_not_beyond, not_beyond_fresh}
use Rattle.law_custody.specs.Place.{Fresh, Place, not_begun_fresh}
use Rattle.law_custody.specs.Shape.{intake_done, no_handover, start_sent}
use Rattle.law_custody.specs.Steps.{EntryBegan, EntryDid, intake}
use Rattle.law_custody.specs.Talks.{Talks, apart, apart_start, apart_start_stop, live}
use Rattle.law_custody.specs.Words.{DownWord, StartTransport, UpWord, sent}
use Rattle.law_custody.proofs.Asked.{exit_starts}
use Rattle.law_custody.proofs.Facts.{no_board}
use Rattle.law_custody.proofs.Flight.{offers_stale, readies_ready, readies_start, readies_unready}
use Rattle.law_custody.proofs.Open.{stale_open}
use Rattle.law_custody.proofs.Recalls.{starts_recalled}
use Rattle.law_custody.proofs.Sides.{aimed, free_gap}
use Rattle.law_custody.proofs.Starts.{readies_start_nothing, starts-append}

-- it says that it is ready, or not
pub announce_ready : {Q : Record → Type 0} {b : Bool} {x : SessionState} {o : Out} {of : Option ℕ} {rd : Bool} {f : Option Record} {p : Place} {r : Record} {up : List UpWord} {down : List DownWord} {ed : Bool}
    → Talks b x o of rd Standing inn.Idle f false p up down → EntryFloor inn.Idle [] ed p r
    → EntryDid Q in_input.Ready (intake inn.Idle f false) [] ed b x o of rd Standing p r up down down
announce_ready (live (no_handover a c)) h =
    record { row = _; is = refl; «in» = h; talk = live (no_handover (readies_ready a) c); body = λ ks. refl; opened = λ k j. (k, j); holds = λ q e. e; quiet = refl; settles = λ q e. absurd (no_board e); recalls = λ s k. k; asked = λ l d a. a }
announce_ready (live (intake_done a)) h =
    record { row = _; is = refl; «in» = h; talk = live (intake_done (readies_ready a)); body = λ ks. refl; opened = λ k j. (k, j); holds = λ q e. e; quiet = refl; settles = λ q e. absurd (no_board e); recalls = λ s k. k; asked = λ l d a. a }
announce_ready (apart_start _ a) h = elim a [ ]
announce_ready (apart_start_stop _ a) h = elim a [ ]
announce_ready (apart a (entry_idle c)) h =
    record { row = _; is = refl; «in» = h; talk = apart a (entry_idle c); body = λ ks. refl; opened = λ k j. (k, j); holds = λ q e. e; quiet = refl; settles = λ q e. absurd (no_board e); recalls = λ s k. k; asked = λ l d a. a }

pub announce_unready : {Q : Record → Type 0} {b : Bool} {x : SessionState} {o : Out} {of : Option ℕ} {rd : Bool} {f : Option Record} {p : Place} {r : Record} {up : List UpWord} {down : List DownWord} {ed : Bool}
    → Talks b x o of rd Standing inn.Idle f true p up down → EntryFloor inn.Idle [] ed p r
    → EntryDid Q in_input.Unready (intake inn.Idle f true) [] ed b x o of rd Standing p r up down down
announce_unready (live (no_handover a c)) h =
    record { row = _; is = refl; «in» = h; talk = live (no_handover (readies_unready a) c); body = λ ks. refl; opened = λ k j. (k, j); holds = λ q e. e; quiet = refl; settles = λ q e. absurd (no_board e); recalls = λ s k. k; asked = λ l d a. a }
announce_unready (live (intake_done a)) h =
    record { row = _; is = refl; «in» = h; talk = live (intake_done (readies_unready a)); body = λ ks. refl; opened = λ k j. (k, j); holds = λ q e. e; quiet = refl; settles = λ q e. absurd (no_board e); recalls = λ s k. k; asked = λ l d a. a }
announce_unready (apart a (entry_idle c)) h =
    record { row = _; is = refl; «in» = h; talk = apart a (entry_idle c); body = λ ks. refl; opened = λ k j. (k, j); holds = λ q e. e; quiet = refl; settles = λ q e. absurd (no_board e); recalls = λ s k. k; asked = λ l d a. a }

pub same_board : {q r : Record} → ◌≡◌ {A = Option Record} (Some q) (Some r) → q ≡ r
same_board e = cc

pub offered : {Q : Record → Type 0} {q : Record} → OfferIs Q (Some q) → Q q
offered (offer_is n) = n

-- the record that a start names is the one that was offered
starts_taken : {Gone : ℕ → Type 0} {b : Bool} {ks : List Record} {t last : Option ℕ} {q : Record} {up : List UpWord} {down : List DownWord} (ws : List UpWord)
    → Stale down → Contents Gone b ks t last inn.Idle (Some q) up down → Contents Gone b ks t last (inn.Taking q seen.NotStarted false) None (sent ws b up) down
starts_taken {Gone = Gone} {b = b} {ks = ks} {t = t} {last = last} ws s h =
    record { offers = stale_open s; offer = no_offer; start = λ r stands held _. subst (λ n. Named Gone n ks t last r) stands (subst (Named Gone b ks t last) (same_board held) (offered h.offer)) }

-- a start says StartTransport for the offered board, and its handover begins: the ghost is aimed at it
pub announce_start : {Gone : ℕ → Type 0} {b : Bool} {x : SessionState} {o : Out} {of : Option ℕ} {rd : Bool} {q : Record} {p : Place} {r : Record} {up : List UpWord} {down : List DownWord} {ed : Bool} {ue : List SensorEvent} {xd : Bool} {g : Gap}
    → Talks b x o of rd Standing inn.Idle (Some q) true p up down → EntryFloor inn.Idle [] ed p r → ExitFloor o ue xd p r → GapAt g p r
    → EntryBegan Gone in_input.Start (intake inn.Idle (Some q) true) ed b x o of rd Standing ue xd g p up down
announce_start {q = q} {up = up} (live (no_handover a c)) (in_free _ m) (out_idle e n) g =
    record { row = _; is = refl; place = Fresh; board = q; out = out_idle e not_begun_fresh; «in» = in_taking sees_fresh; gap = free_gap q n m g; talk = live (start_sent (readies_start _ a) (offers_stale c)); above = λ ks. refl; body = λ ks. refl; contents = λ ks t last h. starts_taken (StartTransport q.id ∷ []) (offers_stale c) h; lets = λ l. is_not_beyond not_beyond_fresh; recalls = starts_recalled q; asked = λ l d. asked_held (starts-append up _ ∙ ap (λ ids. ids ++ (q.id ∷ [])) (readies_start_nothing a)) }
announce_start {q = q} (apart a (entry_idle c)) (in_free _ m) h g = let k = aimed q a h in record { row = _; is = refl; place = Fresh; board = q; out = k.out; «in» = in_taking sees_fresh; gap = free_gap q k.before m g; talk = apart a (entry_transporting (offers_stale c)); above = k.above; body = λ ks. refl; contents = λ ks t last h. starts_taken (StartTransport q.id ∷ []) (offers_stale c) h; lets = λ l. is_not_beyond not_beyond_fresh; recalls = starts_recalled q; asked = λ l d. asks_nothing (exit_starts a) }
