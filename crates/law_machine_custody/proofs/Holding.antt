-- What the halves of a handover hold, by the place of its board: it goes on by each row of theirs, and by hand.
use Rattle.std.proofs.Common.{Bool, List, None, Option, Some, [], ap, false, inl, inr, map, refl, subst, sym, true, unwrap_or, ℕ, ◌++◌, ◌∙◌, ◌∷◌, ◌≡◌, ◌⊎◌}
use Rattle.law_custody.proofs.AnnounceEntry.{offered as is_offered}
use Rattle.line_base.specs.declared.states.Seen.TheVariants as seen
use Rattle.board_record.specs.declared.record.Record.{Record}
use Rattle.session_core.specs.declared.state.SessionState.{SessionState}
use Rattle.line_world.specs.declared.board.Board.{Board}
use Rattle.handover_out.specs.Row.{OutRow, last_after, outlet_row}
use Rattle.handover_out.specs.State.{OutState, board_of_phase as held_out}
use Rattle.handover_out.specs.Table.{IsOutletRow, offers, opens, refuses}
use Rattle.handover_out.specs.declared.input.OutInput.{OutInput}
use Rattle.handover_out.specs.declared.input.OutInput.TheVariants as out_input
use Rattle.handover_out.specs.declared.phase.Phase.{Phase as Out}
use Rattle.handover_out.specs.declared.phase.Phase.TheVariants as out
use Rattle.handover_out.proofs.Rows.{row_is}
use Rattle.handover_in.specs.Row.{InRow, intake_row}
use Rattle.handover_in.specs.State.{InState, board_of_phase as held_in}
use Rattle.handover_in.specs.Table.{IsIntakeRow, starts_transport}
use Rattle.handover_in.specs.declared.input.InInput.{InInput}
use Rattle.handover_in.specs.declared.input.InInput.TheVariants as in_input
use Rattle.handover_in.specs.declared.phase.Phase.{Phase as In}
use Rattle.handover_in.specs.declared.phase.Phase.TheVariants as inn
use Rattle.handover_in.proofs.Rows.{row_is as in_row_is}
use Rattle.law_custody.specs.Apart.{exit_idle}
use Rattle.law_custody.specs.Contents.{Foremost, IsRecent, Kept, Looks, Named, OfferIs, OffersFront, foremost, looks_front, looks_past, named_front, named_gone, named_kept, offers_front, offers_nothing}
use Rattle.law_custody.specs.Events.{gone_by}
use Rattle.law_custody.specs.Floor.{EntryFloor, ExitFloor, at_start, in_free, in_stopped, in_taken_in, in_taking, in_waiting, in_waiting_on, on_across, on_begun, sees_fresh, sees_home}
use Rattle.law_custody.specs.Hands.{PutFor, TakenOut, out_here, out_later, put_here, put_later}
use Rattle.law_custody.specs.Pair.{Body, Ghost, LinkState, Pair, back_to, board_of, keep_at, part}
use Rattle.law_custody.specs.Place.{Fresh, Home, Inside, Place, is_away, is_inside, is_upstream}
use Rattle.law_custody.specs.Shape.{no_handover, start_and_stop_sent, start_sent}
use Rattle.law_custody.specs.Talks.{Talks, apart, apart_start, apart_start_stop, live}
use Rattle.law_custody.specs.Words.{DownWord, StartTransport, UpWord}
use Rattle.law_custody.proofs.Contents.{foremost_kept, foremost_more, offered_front}
use Rattle.law_custody.proofs.HandsContents.{foremost_marked as marked_front}
use Rattle.law_custody.proofs.Promised.{one_record}
use Rattle.law_machine_custody.specs.ByHand.{Grows}
use Rattle.law_machine_custody.specs.Good.{Holds}

-- ---- a row that is no start leaves the board that is held, or none

abbrev pub IsNoStart : OutInput → Type 0
IsNoStart (out_input.Start id brought) = ⊥
IsNoStart _ = Unit {0}

holds_less : (s : OutState) (w : OutInput) (row : OutRow) (r : Record) → IsOutletRow s w row → IsNoStart w → held_out row.after.phase ≡ Some r → held_out s.phase ≡ Some r
holds_less _ _ _ r (opens _) plain e = absurd plain
holds_less _ _ _ r (refuses _) plain e = absurd plain
holds_less _ _ _ r _ plain e = cc

pub row_holds_less : (s : OutState) (w : OutInput) (row : OutRow) (r : Record) → outlet_row s w ≡ Some row → IsNoStart w → held_out row.after.phase ≡ Some r → held_out s.phase ≡ Some r
row_holds_less s w row r is plain e = holds_less s w row r (row_is s w row is) plain e

abbrev pub StartsNot : InInput → Type 0
StartsNot in_input.Start = ⊥
StartsNot _ = Unit {0}

takes_less : (s : InState) (w : InInput) (row : InRow) (r : Record) → IsIntakeRow s w row → StartsNot w → held_in row.after.phase ≡ Some r → held_in s.phase ≡ Some r
takes_less _ _ _ r starts_transport plain e = absurd plain
takes_less _ _ _ r _ plain e = cc

row_takes_less : (s : InState) (w : InInput) (row : InRow) (r : Record) → intake_row s w ≡ Some row → StartsNot w → held_in row.after.phase ≡ Some r → held_in s.phase ≡ Some r
row_takes_less s w row r is plain e = takes_less s w row r (in_row_is s w row is) plain e

-- ---- more is kept, or what is kept no more is gone

or_gone : {A B C : Type 0} → A ⊎ B → (A → C ⊎ B) → C ⊎ B
or_gone (inl a) next = next a
or_gone (inr b) next = inr b

pub holds_more : {gone gone2 : ℕ → Bool} {kept kept2 : List Record} {last : Option ℕ} {p : Place} {o : Out} {i : In} → Grows gone gone2
    → ((x : ℕ) → Foremost x last kept → Foremost x last kept2 ⊎ (gone2 x ≡ true))
    → Holds gone kept last p o i → Holds gone2 kept2 last p o i
holds_more {gone = gone} {gone2 = gone2} {kept = kept} {kept2 = kept2} {last = last} grows keeps h = record {
  inside = h.inside;
  away_out = λ q held away. grows q.id (h.away_out q held away);
  away_in = λ q held away. grows q.id (h.away_in q held away);
  upstream = λ q held none up. by q.id (h.upstream q held none up);
} where
  by : (x : ℕ) → Foremost x last kept ⊎ (gone x ≡ true) → Foremost x last kept2 ⊎ (gone2 x ≡ true)
  by x (inl k) = keeps x k
  by x (inr e) = inr (grows x e)

front_still : {x : ℕ} {last : Option ℕ} {kept : List Record} (keep : Option Record) → Foremost x last kept → Foremost x last (keep_at keep kept)
front_still None k = k
front_still (Some r) k = foremost_more r k

-- what settles is kept too
pub holds_settled : {gone : ℕ → Bool} {kept : List Record} {last : Option ℕ} {p : Place} {o : Out} {i : In} (keep : Option Record) → Holds gone kept last p o i → Holds gone (keep_at keep kept) last p o i
holds_settled keep h = holds_more (λ x is. is) (λ x k. inl (front_still keep k)) h

pub front_inserted : (gone : ℕ → Bool) {last : Option ℕ} {kept : List Record} (n : Record) (x : ℕ) → Foremost x last kept → Foremost x last (kept ++ n ∷ []) ⊎ (gone x ≡ true)
front_inserted gone n x k = inl (foremost_more n k)

pub front_taken : (gone : ℕ → Bool) {last : Option ℕ} {q : Record} {ks js : List Record} → gone q.id ≡ true → TakenOut q ks js → (x : ℕ) → Foremost x last ks → Foremost x last js ⊎ (gone x ≡ true)
front_taken gone is out_here x foremost = inr is
front_taken gone is (out_later _ t) x foremost = inl foremost

pub front_given : (gone : ℕ → Bool) {last : Option ℕ} {q : Record} {ks js : List Record} → (last ≡ Some q.id → ⊥) → TakenOut q ks js → (x : ℕ) → Foremost x last ks → Foremost x last js ⊎ (gone x ≡ true)
front_given gone other out_here x foremost = absurd (other refl)
front_given gone other (out_later _ t) x foremost = inl foremost

pub front_replaced : (gone : ℕ → Bool) {last : Option ℕ} {q n : Record} {ks js : List Record} → gone q.id ≡ true → PutFor q n ks js → (x : ℕ) → Foremost x last ks → Foremost x last js ⊎ (gone x ≡ true)
front_replaced gone is put_here x foremost = inr is
front_replaced gone is (put_later _ t) x foremost = inl foremost

pub front_marked : (gone : ℕ → Bool) {last : Option ℕ} {q n : Record} {ks js : List Record} → n.id ≡ q.id → PutFor q n ks js → (x : ℕ) → Foremost x last ks → Foremost x last js ⊎ (gone x ≡ true)
front_marked gone is t x k = inl (marked_front is t k)

-- an offer is the last one
pub holds_offered : {gone : ℕ → Bool} {q : Record} {ks : List Record} {last : Option ℕ} {p : Place} {o : Out} {i : In} → Holds gone (q ∷ ks) last p o i → Holds gone (q ∷ ks) (Some q.id) p o i
holds_offered {gone = gone} {q = q} {ks = ks} {last = last} h = record {
  inside = h.inside;
  away_out = h.away_out;
  away_in = h.away_in;
  upstream = λ r held none up. or_gone (h.upstream r held none up) (λ k. inl (offered_front k));
}

-- ---- what was offered last, by a row of the outlet

-- only an offer sends one
abbrev pub IsNotOffer : OutInput → Type 0
IsNotOffer (out_input.Offer id) = ⊥
IsNotOffer _ = Unit {0}

same_last : (s : OutState) (w : OutInput) (row : OutRow) → IsOutletRow s w row → IsNotOffer w → (last : Option ℕ) → last_after row last ≡ last
same_last _ _ _ offers plain last = absurd plain
same_last _ _ _ _ plain last = refl

offers_less : (s : OutState) (w : OutInput) (row : OutRow) (id : ℕ) → IsOutletRow s w row → IsNotOffer w → row.after.offered ≡ Some id → s.offered ≡ Some id
offers_less _ _ _ id offers plain e = absurd plain
offers_less _ _ _ id _ plain e = cc

pub row_recent : (s : OutState) (w : OutInput) (row : OutRow) {last : Option ℕ} → outlet_row s w ≡ Some row → IsNotOffer w → IsNoStart w → IsRecent last s → IsRecent (last_after row last) row.after
row_recent s w row {last = last} is plain begun r =
    let shape = row_is s w row is in
    let same = same_last s w row shape plain last in
    record {
      offered = λ id e. same ∙ r.offered id (offers_less s w row id shape plain e);
      held = λ q e. same ∙ r.held q (holds_less s w row q shape begun e);
    }

-- a start takes the front that is offered, or none
abbrev id_of : Option Record → Option ℕ
id_of None = None
id_of (Some r) = Some r.id

pub brought_offered : {of : Option ℕ} {kept : List Record} {z : ℕ} {brought : Option Record} → Looks of kept z brought → OffersFront of kept → (q : Record) → brought ≡ Some q → of ≡ Some q.id
brought_offered (looks_front e) offers_front q is = ap id_of is
brought_offered (looks_front e) offers_nothing q is = cc
brought_offered (looks_past e) _ q is = cc

held_brought : (s : OutState) (id : ℕ) (brought : Option Record) (row : OutRow) (q : Record) → IsOutletRow s (out_input.Start id brought) row → held_out row.after.phase ≡ Some q → brought ≡ Some q
held_brought _ id _ _ q (opens _) e = e
held_brought _ id _ _ q (refuses _) e = cc

offers_none : (s : OutState) (id x : ℕ) (brought : Option Record) (row : OutRow) → IsOutletRow s (out_input.Start id brought) row → row.after.offered ≡ Some x → ⊥
offers_none _ id x _ _ (opens _) e = cc
offers_none _ id x _ _ (refuses _) e = cc

pub recent_started : (s : OutState) (id : ℕ) (brought : Option Record) (row : OutRow) {last : Option ℕ} → IsOutletRow s (out_input.Start id brought) row → ((q : Record) → brought ≡ Some q → s.offered ≡ Some q.id)
    → IsRecent last s → IsRecent (last_after row last) row.after
recent_started s id brought row {last = last} shape front r = record {
  offered = λ x e. absurd (offers_none s id x brought row shape e);
  held = λ q e. same_last s (out_input.Start id brought) row shape tt last ∙ r.offered q.id (front q (held_brought s id brought row q shape e));
}

-- ---- a row of the outlet

-- a board that is held upstream stands alone in the list of a machine that keeps nothing
alone : {o : Out} {p : Place} (r : Record) → held_out o ≡ Some r → is_upstream p ≡ true → Body o p [] inn.Idle Fresh (board_of r ∷ [])
alone r held up = record { same = rw (held, up) refl }

-- so it comes back, where the outlet holds nothing then
abbrev first_id : List Board → ℕ
first_id [] = 0
first_id (b ∷ bs) = unwrap_or b.id 0

offered_last : {q : Record} {x : ℕ} {last : Option ℕ} (kept : List Record) → q.id ≡ x → last ≡ Some x → Foremost x last (q ∷ kept)
offered_last {q = q} {x = x} kept id recent = subst (λ (y : Option ℕ). Foremost x y (q ∷ kept)) (sym recent) (subst (λ (y : ℕ). Foremost y (Some y) (q ∷ kept)) id foremost)

is_back : (back : Option Record) {o : Out} {p : Place} {last : Option ℕ} (r : Record) (kept : List Record) → Body o p (back_to back []) inn.Idle Fresh (board_of r ∷ []) → held_out o ≡ None → last ≡ Some r.id
    → Foremost r.id last (back_to back kept)
is_back None {p = p} r kept b none recent =
    let no_way : board_of r ∷ [] ≡ [] = subst (λ (h : Option Record). board_of r ∷ [] ≡ part h (is_upstream p) ++ []) none b.same in cc
is_back (Some q) {p = p} r kept b none recent =
    let one : board_of r ∷ [] ≡ board_of q ∷ [] = subst (λ (h : Option Record). board_of r ∷ [] ≡ part h (is_upstream p) ++ board_of q ∷ []) none b.same in
    offered_last kept (ap first_id (sym one)) recent

-- an outlet that holds none gives none back
back_not : (s : OutState) (w : OutInput) (row : OutRow) → IsOutletRow s w row → IsNoStart w → held_out s.phase ≡ None → row.act.back ≡ None
back_not _ _ _ (opens _) plain e = absurd plain
back_not _ _ _ (refuses _) plain e = absurd plain
back_not _ _ _ _ plain e = cc

-- what a row of the outlet does to the list of its machine
abbrev pub BodyByExit : Place → Out → OutRow → Type 0
BodyByExit p o row = (kept : List Record) (i : In) (q : Place) (boards : List Board) → Body o p kept i q boards → Body row.after.phase p (back_to row.act.back kept) i q boards

comes_back : {gone : ℕ → Bool} {kept : List Record} {last : Option ℕ} {g : Ghost} {l : LinkState} (row : OutRow) (held : Option Record) (q : Record) → held_out l.outlet.phase ≡ held → (held ≡ None → row.act.back ≡ None)
    → IsRecent last l.outlet → Pair g l → BodyByExit g.place l.outlet.phase row
    → held_in l.intake.phase ≡ Some q → held_out row.after.phase ≡ None → is_upstream g.place ≡ true → Holds gone kept last g.place l.outlet.phase l.intake.phase
    → Foremost q.id last (back_to row.act.back kept) ⊎ (gone q.id ≡ true)
comes_back {gone = gone} {kept = kept} {last = last} row None q was back recent pair lists taken none up h =
    subst (λ (b : Option Record). Foremost q.id last (back_to b kept) ⊎ (gone q.id ≡ true)) (sym (back refl)) (h.upstream q taken was up)
comes_back {kept = kept} {last = last} {g = g} {l = l} row (Some r) q was back recent pair lists taken none up h =
    inl (subst (λ (x : Record). Foremost x.id last (back_to row.act.back kept)) (one_record g l r q pair was taken)
    (is_back row.act.back r kept (lists [] inn.Idle Fresh (board_of r ∷ []) (alone r was up)) none (recent.held r was)))

pub holds_at_exit : {gone : ℕ → Bool} {kept : List Record} {last : Option ℕ} {g : Ghost} {l : LinkState} (w : OutInput) (row : OutRow) → Pair g l → IsNotOffer w → IsNoStart w → IsRecent last l.outlet
    → outlet_row l.outlet w ≡ Some row
    → BodyByExit g.place l.outlet.phase row → Holds gone kept last g.place l.outlet.phase l.intake.phase
    → Holds gone (back_to row.act.back kept) (last_after row last) g.place row.after.phase l.intake.phase
holds_at_exit {gone = gone} {kept = kept} {last = last} {g = g} {l = l} w row pair plain begun recent is lists h =
    let shape = row_is l.outlet w row is in
    subst (λ (x : Option ℕ). Holds gone (back_to row.act.back kept) x g.place row.after.phase l.intake.phase) (sym (same_last l.outlet w row shape plain last)) (record {
      inside = λ q held within. h.inside q (row_holds_less l.outlet w row q is begun held) within;
      away_out = λ q held away. h.away_out q (row_holds_less l.outlet w row q is begun held) away;
      away_in = h.away_in;
      upstream = λ q taken none up. comes_back row (held_out l.outlet.phase) q refl (back_not l.outlet w row shape begun) recent pair lists taken none up h;
    })

-- so it is kept there, or gone
pub kept_upstream : {gone : ℕ → Bool} {kept : List Record} {last : Option ℕ} {p : Place} {o : Out} {i : In} → Holds gone kept last p o i
    → (q : Record) → held_in i ≡ Some q → held_out o ≡ None → is_upstream p ≡ true → Kept q.id kept ⊎ (gone q.id ≡ true)
kept_upstream h q taken none up = or_gone (h.upstream q taken none up) (λ k. inl (foremost_kept k))

-- ---- a row of the intake

alone_inside : {i : In} {p : Place} (r : Record) → held_in i ≡ Some r → is_inside p ≡ true → Body out.Idle Fresh [] i p (board_of r ∷ [])
alone_inside r held within = record { same = rw (held, within) refl }

-- what a row of the intake does to the list of its machine
abbrev pub BodyByEntry : Place → In → InRow → Type 0
BodyByEntry p i row = (o : Out) (q : Place) (kept : List Record) (boards : List Board) → Body o q kept i p boards → Body o q (keep_at row.act.keep kept) row.after.phase p boards

stays_inside : {p : Place} {i : In} (o : Out) (row : InRow) (keep held : Option Record) (q : Record) → row.act.keep ≡ keep → held_in row.after.phase ≡ held
    → ((r : Record) → held_in row.after.phase ≡ Some r → held_in i ≡ Some r) → ((r : Record) → row.act.keep ≡ Some r → held_out o ≡ None) → BodyByEntry p i row
    → held_out o ≡ Some q → held_in i ≡ Some q → is_inside p ≡ true → held_in row.after.phase ≡ Some q
stays_inside o row (Some k) held q keeps is less free lists out_held was within = let no_way : Some q ≡ None = sym out_held ∙ free k keeps in cc
stays_inside o row None (Some r) q keeps is less free lists out_held was within = is ∙ (sym (less r is) ∙ was)
stays_inside {p = p} o row None None q keeps is less free lists out_held was within =
    let b : Body out.Idle Fresh (keep_at row.act.keep []) row.after.phase p (board_of q ∷ []) = lists out.Idle Fresh [] (board_of q ∷ []) (alone_inside q was within) in
    let same = subst (λ (k : Option Record). board_of q ∷ [] ≡ map board_of (keep_at k []) ++ part (held_in row.after.phase) (is_inside p)) keeps b.same in
    let no_way : board_of q ∷ [] ≡ [] = subst (λ (h : Option Record). board_of q ∷ [] ≡ part h (is_inside p)) is same in cc

pub holds_at_entry : {gone : ℕ → Bool} {above : List Record} {last : Option ℕ} {p : Place} {o : Out} (s : InState) (w : InInput) (row : InRow) → StartsNot w → intake_row s w ≡ Some row
    → ((r : Record) → row.act.keep ≡ Some r → held_out o ≡ None) → BodyByEntry p s.phase row → Holds gone above last p o s.phase → Holds gone above last p o row.after.phase
holds_at_entry {o = o} s w row plain is free lists h =
    let less : (r : Record) → held_in row.after.phase ≡ Some r → held_in s.phase ≡ Some r = λ r held. row_takes_less s w row r is plain held in
    record {
      inside = λ q held within. stays_inside o row row.act.keep (held_in row.after.phase) q refl refl less free lists held (h.inside q held within) within;
      away_out = h.away_out;
      away_in = λ q held away. h.away_in q (less q held) away;
      upstream = λ q held none up. h.upstream q (less q held) none up;
    }

-- ---- a start

inside_not : (p : Place) → is_upstream p ≡ true → is_inside p ≡ true → ⊥
inside_not Inside up within = cc
inside_not _ up within = cc

away_not : (p : Place) → is_upstream p ≡ true → is_away p ≡ true → ⊥
away_not Fresh up away = cc
away_not Home up away = cc
away_not _ up away = cc

-- where the place is upstream, no more is to say than what the intake alone holds
holds_upstream : {gone : ℕ → Bool} {kept : List Record} {last : Option ℕ} {p : Place} {o : Out} {i : In} → is_upstream p ≡ true
    → ((q : Record) → held_in i ≡ Some q → held_out o ≡ None → Foremost q.id last kept ⊎ (gone q.id ≡ true)) → Holds gone kept last p o i
holds_upstream {p = p} up taken = record {
  inside = λ q held within. absurd (inside_not p up within);
  away_out = λ q held away. absurd (away_not p up away);
  away_in = λ q held away. absurd (away_not p up away);
  upstream = λ q held none is. taken q held none;
}

-- nothing is known of the board of a transport that starts, and it is upstream
abbrev IsFresh : In → Type 0
IsFresh (inn.Taking r seen.NotStarted h) = Unit {0}
IsFresh _ = ⊥

starts_taking : (s : InState) (row : InRow) → IsIntakeRow s in_input.Start row → IsFresh row.after.phase
starts_taking _ _ starts_transport = tt

says_upstream : {i : In} {drive : Bool} {p : Place} {q : Record} → EntryFloor i [] drive p q → IsFresh i → is_upstream p ≡ true
says_upstream (in_taking sees_fresh) fresh = refl
says_upstream (in_taking sees_home) fresh = refl
says_upstream (in_taking on_begun) fresh = absurd fresh
says_upstream (in_taking on_across) fresh = absurd fresh
says_upstream (in_free _ _) fresh = absurd fresh
says_upstream (in_taken_in seen_so) fresh = elim seen_so [ ]
says_upstream (in_stopped _) fresh = absurd fresh
says_upstream (in_waiting _) fresh = absurd fresh
says_upstream in_waiting_on fresh = absurd fresh

takes_offered : (s : InState) (row : InRow) (q : Record) → IsIntakeRow s in_input.Start row → held_in row.after.phase ≡ Some q → s.offer ≡ Some q
takes_offered _ _ q starts_transport e = e

front_or_gone : {gone : ℕ → Bool} {b : Bool} {kept : List Record} {t last : Option ℕ} {r : Record} → Named (gone_by gone) b kept t last r → Foremost r.id last kept ⊎ (gone r.id ≡ true)
front_or_gone named_front = inl foremost
front_or_gone (named_gone is) = inr is
front_or_gone (named_kept k) = inl k

-- the record that an intake takes was offered: it is the front above, or gone
pub holds_said : {gone : ℕ → Bool} {b : Bool} {above : List Record} {t last : Option ℕ} {p : Place} {board : Record} {drive : Bool} {o : Out} (s : InState) (row : InRow) → intake_row s in_input.Start ≡ Some row
    → EntryFloor row.after.phase [] drive p board → OfferIs (Named (gone_by gone) b above t last) s.offer → Holds gone above last p o row.after.phase
holds_said {gone = gone} {b = b} {above = above} {t = t} {last = last} s row is floor offer =
    let shape = in_row_is s in_input.Start row is in
    holds_upstream (says_upstream floor (starts_taking s row shape))
    (λ q held none. front_or_gone (is_offered (subst (λ (f : Option Record). OfferIs (Named (gone_by gone) b above t last) f) (takes_offered s row q shape held) offer)))

-- a start is on its way only from a board that has not begun, where the intake holds one
start_fresh : {b : Bool} {x y : SessionState} {o : Out} {of : Option ℕ} {rd : Bool} {i : In} {f : Option Record} {ri : Bool} {p : Place} {up : List UpWord} {down : List DownWord} {z : ℕ} (q : Record)
    → Talks b x o of rd y i f ri p (StartTransport z ∷ up) down → held_in i ≡ Some q → p ≡ Fresh
start_fresh q (live (start_sent _ _)) e = refl
start_fresh q (live (start_and_stop_sent _ _)) e = refl
start_fresh q (live (no_handover a _)) e = elim a [ ]
start_fresh q (apart_start _ _) e = cc
start_fresh q (apart_start_stop _ _) e = cc
start_fresh q (apart (exit_idle a) _) e = elim a [ ]

aimed_fresh : {p p2 : Place} → p ≡ Fresh → (p2 ≡ p) ⊎ (p2 ≡ Fresh) → p2 ≡ Fresh
aimed_fresh is (inl e) = e ∙ is
aimed_fresh is (inr e) = e

holds_opened : {gone : ℕ → Bool} {kept : List Record} {last : Option ℕ} {p : Place} {board : Record} {drive : Bool} {i : In} (r : Record) → ExitFloor (out.Moving r false) [] drive p board → Holds gone kept last p (out.Moving r false) i
holds_opened r at_start = holds_upstream refl (λ q taken none. cc)

holds_refused : {gone : ℕ → Bool} {kept before : List Record} {last : Option ℕ} {p p2 : Place} {o o2 : Out} {i : In} → kept ≡ before → ((q : Record) → held_in i ≡ Some q → p ≡ Fresh) → (p2 ≡ p) ⊎ (p2 ≡ Fresh)
    → held_out o ≡ None → held_out o2 ≡ None → Holds gone before last p o i → Holds gone kept last p2 o2 i
holds_refused {gone = gone} {last = last} {p2 = p2} same fresh aimed none none2 h = record {
  inside = λ q held within. let no_way : Some q ≡ None = sym held ∙ none2 in cc;
  away_out = λ q held away. let no_way : Some q ≡ None = sym held ∙ none2 in cc;
  away_in = λ q taken away. absurd (away_not p2 (ap is_upstream (aimed_fresh (fresh q taken) aimed)) away);
  upstream = λ q taken free up. subst (λ (ks : List Record). Foremost q.id last ks ⊎ (gone q.id ≡ true)) (sym same) (h.upstream q taken none (ap is_upstream (fresh q taken)));
}

started_by : {gone : ℕ → Bool} {kept before : List Record} {last : Option ℕ} {p p2 : Place} {board : Record} {drive : Bool} {i : In} (s : OutState) (id : ℕ) (brought : Option Record) (row : OutRow)
    → IsOutletRow s (out_input.Start id brought) row → back_to brought kept ≡ before → ExitFloor row.after.phase [] drive p2 board
    → ((q : Record) → held_in i ≡ Some q → p ≡ Fresh) → (p2 ≡ p) ⊎ (p2 ≡ Fresh) → Holds gone before last p s.phase i → Holds gone kept (last_after row last) p2 row.after.phase i
started_by _ _ _ _ (opens {board = r} _) same floor fresh aimed h = holds_opened r floor
started_by _ _ _ _ (refuses _) same floor fresh aimed h = holds_refused same fresh aimed refl refl h

-- the outlet hears a start: it opens with what was brought, or refuses
pub holds_started : {gone : ℕ → Bool} {kept before : List Record} {last : Option ℕ} {b : Bool} {x y : SessionState} {of : Option ℕ} {rd : Bool} {i : In} {f : Option Record} {ri : Bool} {p p2 : Place} {up : List UpWord} {down : List DownWord}
    {z : ℕ} {board : Record} {drive : Bool} (s : OutState) (id : ℕ) (brought : Option Record) (row : OutRow)
    → outlet_row s (out_input.Start id brought) ≡ Some row → back_to brought kept ≡ before → Talks b x s.phase of rd y i f ri p (StartTransport z ∷ up) down
    → ExitFloor row.after.phase [] drive p2 board → (p2 ≡ p) ⊎ (p2 ≡ Fresh) → Holds gone before last p s.phase i → Holds gone kept (last_after row last) p2 row.after.phase i
holds_started s id brought row is same talk floor aimed h =
    started_by s id brought row (row_is s (out_input.Start id brought) row is) same floor (λ q taken. start_fresh q talk taken) aimed h
