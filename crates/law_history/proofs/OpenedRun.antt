-- WHAT OPENS WAS STARTED LAST: what flows up on a link carries at most one start, which is the last that was told and is not
-- answered yet; and its board is held below, unless it was dropped since.
use Rattle.std.proofs.Common.{Bool, List, None, Option, Some, [], ap, append-nil, arith, eq-eqb, false, inl, inr, length, refl, suc, subst, sym, take, true, zero, ℕ, ◌++◌, ◌+◌, ◌∙◌, ◌∷◌, ◌≡◌, ◌≤◌, ◌⊎◌}
use Rattle.std.specs.Prelude.{drop}
use Rattle.std.specs.List.{AllByRecursion, list_any}
use Rattle.std.proofs.lemmas.Bool.{false≢true, or_parts, or_from}
use Rattle.node_core.proofs.Opened.{is_off}
use Rattle.law_history.proofs.Said.{some_id}
use Rattle.line_base.specs.declared.states.Seen.TheVariants as seen
use Rattle.line_base.specs.declared.states.Side.TheVariants.{Exit}
use Rattle.board_record.specs.declared.record.Record.{Record}
use Rattle.hermes_stream.specs.Frames.{frames_of}
use Rattle.hermes_stream.proofs.Streams.{frames_of-need_more}
use Rattle.hermes_horizontal.specs.declared.message.Horizontal.{Horizontal}
use Rattle.hermes_horizontal.specs.declared.message.Message.{Message}
use Rattle.session_core.specs.declared.state.SessionState.{SessionState}
use Rattle.session_core.specs.declared.state.SessionState.TheVariants.{NotConnected}
use Rattle.line_link.specs.Flow.{coming}
use Rattle.line_report.specs.declared.happening.Happening.{Happening}
use Rattle.handover_out.specs.declared.phase.Phase.{Phase as Out}
use Rattle.handover_in.specs.State.{InState, board_of_phase as held_in}
use Rattle.handover_in.specs.declared.phase.Phase.{Phase as In}
use Rattle.handover_in.specs.declared.phase.Phase.TheVariants as inn
use Rattle.node_core.specs.Done.{Done}
use Rattle.node_core.specs.Own.{id_of}
use Rattle.node_core.specs.Sides.{is_open}
use Rattle.node_core.specs.Step.{plain_step}
use Rattle.node_core.specs.declared.act.Act.{Act}
use Rattle.node_core.specs.declared.act.Act.TheVariants as acts
use Rattle.node_core.specs.declared.act.Deed.{Deed}
use Rattle.node_core.specs.declared.act.Deed.TheVariants as deeds
use Rattle.node_core.specs.declared.lane.Body.{Body}
use Rattle.node_core.specs.declared.word.Word.{Word}
use Rattle.law_custody.specs.Bytes.{Flows as FlowsAs, texts_of}
use Rattle.law_custody.specs.Flight.{Stale}
use Rattle.law_custody.specs.LookBack.{just_started}
use Rattle.law_custody.specs.Place.{Place}
use Rattle.law_custody.specs.Shape.{intake_done, no_handover, start_and_stop_sent, start_sent}
use Rattle.law_custody.specs.Talks.{Talks, apart, apart_start, apart_start_stop, described, described_waiting, live, shaking_idle, shaking_stuck, shaking_stuck_waiting, shaking_waiting}
use Rattle.law_custody.specs.Words.{DownWord, UpWord, down_words, starts_in, up_words}
use Rattle.law_custody.proofs.Asked.{exit_starts}
use Rattle.law_custody.proofs.Starts.{one_start, readies_start_nothing}
use Rattle.law_machine_custody.specs.Flight.{oldest_none}
use Rattle.law_link_messages.specs.Fit.{AreFit}
use Rattle.law_link_messages.specs.Heard.{bodies}
use Rattle.line_step.specs.Numbered.{node_at}
use Rattle.line_step.specs.Tracks.{TrackLine}
use Rattle.line_step.specs.Runs.{IsRun, Point, IsShort}
use Rattle.line_step.specs.State.{LineState, no_line}
use Rattle.line_step.specs.Steps.{unread_by}
use Rattle.line_step.specs.World.{link_at}
use Rattle.law_one_standing.specs.Carried.{Trace}
use Rattle.law_one_standing.specs.Mirrors.{scene_at}
use Rattle.law_one_standing.specs.Standing.{IsFitTrack}
use Rattle.law_one_standing.specs.Stands.{Stands}
use Rattle.law_one_standing.specs.Waits.{AreWaiting}
use Rattle.law_one_standing.proofs.Carrying.{SaysAlone}
use Rattle.law_one_standing.proofs.LedgerWalk.{step_did}
use Rattle.law_one_standing.proofs.LineForms.{ConnectsBear}
use Rattle.law_one_standing.proofs.LineRun.{AreStood, Stood, none_stood, run_stood}
use Rattle.law_history.specs.LetGo.{taken_below}
use Rattle.law_history.specs.Opened.{IsHeldBelow, IsStartedFor, OpensWhatStarted, WhatOpensStarted, gap_deeds, opens_at}
use Rattle.law_history.specs.Settled.{is_start}
use Rattle.law_history.proofs.Folds.{Hearing, none_heard}
use Rattle.law_history.proofs.Gaps.{Found, Gap, OpensIn, Owned, Pending, Split, Starts, Stays, above_deeds, answers, below_deeds, ends_started, found_open, gap_append, gaps_after, gaps_append, is_settle, none_above, none_dropped, none_yet, one_dropped, only_above, only_below, opens_in, owned_did, owned_end, owned_undriven, pend_none, pend_one, split_of, stays_all, stays_dropped, stays_held}
use Rattle.law_history.proofs.Halves.{IsRecalled, Knows}
use Rattle.law_history.proofs.LinkFlow.{flow_over, flow_spoiled, flow_whole}
use Rattle.law_history.proofs.LinkUp.{Up, UpOn, none_said_spoiled, same_said, starts_of}
use Rattle.law_history.proofs.SettledRun.{entry_is, stepped_does}
use Rattle.law_history.proofs.Orders.{Orders, exit_words, orders_end, step_orders}
use Rattle.law_history.proofs.Started.{any_new, entry_open, open_all, taking_at, turn_open, none_some}
use Rattle.law_history.proofs.Stills.{step_still, still_event, unnamed_settles, unsaid_settles}
use Rattle.law_history.proofs.UpForms.{Base, Starting, UpNext, Ups, base, track_next, offers_all, orders_undriven, ups_none, ups_whole}
use Rattle.law_history.proofs.View.{Stepped, Turn, done_append, done_by, has_stepped, is_still, track_turn, told_of_act, undriven}

-- ---- what is on its way, by the relation of the link

-- the intake, the words up, the words down: no start is on its way; or one of the board that the intake holds, since which it
-- has heard and seen nothing; or one, and the intake holds nothing
data Flying (i : In) (up : List UpWord) (down : List DownWord) : Type 0 where
  flies_none : starts_in up ≡ [] → Flying i up down
  flies_held : (r : Record) → starts_in up ≡ r.id ∷ [] → (i ≡ inn.Taking r seen.NotStarted false) ⊎ (i ≡ inn.Stopped r seen.NotStarted None) → Stale down → Flying i up down
  flies_alone : (x : ℕ) → starts_in up ≡ x ∷ [] → i ≡ inn.Idle → Flying i up down

flight : {b : Bool} {x y : SessionState} {o : Out} {of : Option ℕ} {rd : Bool} {i : In} {f : Option Record} {ri : Bool} {p : Place} {up : List UpWord} {down : List DownWord} → Talks b x o of rd y i f ri p up down → Flying i up down
flight (live (no_handover readies offers)) = flies_none (readies_start_nothing readies)
flight (live (start_sent {r = r} starts stale)) = flies_held r (one_start starts) (inl refl) stale
flight (live (start_and_stop_sent {r = r} starts stale)) = flies_held r (one_start starts) (inr refl) stale
flight (live (intake_done readies)) = flies_none (readies_start_nothing readies)
flight (live _) = flies_none refl
flight shaking_idle = flies_none refl
flight shaking_waiting = flies_none refl
flight shaking_stuck = flies_none refl
flight shaking_stuck_waiting = flies_none refl
flight (described offers) = flies_none refl
flight (described_waiting offers) = flies_none refl
flight (apart_start {x = x} starts away) = flies_alone x (one_start starts) refl
flight (apart_start_stop {x = x} starts away) = flies_alone x (one_start starts) refl
flight (apart exit entry) = flies_none (exit_starts exit)

flies_at : (t : Trace) (s : LineState) (k : ℕ) → Stands t s → Flying (node_at s (k + 1)).lane.body.intake.phase (up_words (t.up k)) (down_words (t.down k))
flies_at t s k st = flight (st.keeps.neighbours.at k).pair.talk

-- an exit without a connection has nothing to hear
unlinked : {b : Bool} {x y : SessionState} {o : Out} {of : Option ℕ} {rd : Bool} {i : In} {f : Option Record} {ri : Bool} {p : Place} {up : List UpWord} {down : List DownWord} → Talks b x o of rd y i f ri p up down → x ≡ NotConnected → starts_in up ≡ []
unlinked (apart exit entry) is = exit_starts exit
unlinked _ is = absurd (cc)

-- ---- the invariant

-- the starts on their way, what was told of the gap, and the board that the intake holds
data Waits (ids : List ℕ) (g : Gap) (taking : Option ℕ) : Type 0 where
  waits_none : ids ≡ [] → Waits ids g taking
  waits_one : (z : ℕ) → ids ≡ z ∷ [] → Stays z taking g → Waits ids g taking

-- where what flows to the exit is whole
abbrev Asks : ℕ → LineState → Gap → Type 0
Asks k s g = (said : List Message) → AreFit said → FlowsAs (node_at s k).lane.exit_bytes (coming (link_at k s.world).flows.to_upstream) (texts_of said) → is_open Exit (node_at s k).lane.body ≡ true → Waits (starts_of (bodies said)) g (taking_at s (k + 1))

waits_as : {ids ids2 : List ℕ} {g : Gap} {taking : Option ℕ} → ids2 ≡ ids → Waits ids g taking → Waits ids2 g taking
waits_as same (waits_none is) = waits_none (same ∙ is)
waits_as same (waits_one z is stays) = waits_one z (same ∙ is) stays

-- of the messages of the trace
waits_ups : (k : ℕ) (t : Trace) (s : LineState) (g : Gap) (ups : List Horizontal) → Stands t s → Asks k s g → Ups (t.up k) (node_at s k).lane.exit_bytes (coming (link_at k s.world).flows.to_upstream) ups → Waits (starts_of ups) g (taking_at s (k + 1))
waits_ups k t s g _ st asks ups_none = waits_none refl
waits_ups k t s g _ st asks (ups_whole said fit are flows) = by (is_open Exit (node_at s k).lane.body) refl
  where
    by : (test : Bool) → is_open Exit (node_at s k).lane.body ≡ test → Waits (starts_of (t.up k)) g (taking_at s (k + 1))
    by true on = waits_as (ap starts_of (sym are)) (asks said fit flows on)
    by false off = waits_none (unlinked (st.keeps.neighbours.at k).pair.talk (is_off (node_at s k).lane.body.exit.session.state off))

last_in : (z : ℕ) (taking : Option ℕ) (g : Gap) → Stays z taking g → g.last ≡ Some z
last_in z taking g (stays_held is gap) = ap (λ (x : Gap). x.last) gap
last_in z taking g (stays_dropped is gap) = ap (λ (x : Gap). x.last) gap

pending : {ids : List ℕ} {g : Gap} {taking : Option ℕ} → Waits ids g taking → Pending ids g.last
pending (waits_none is) = pend_none is
pending {g = g} {taking = taking} (waits_one z is stays) = pend_one z is (last_in z taking g stays)

-- ---- an opening

held_by : (s : LineState) (k id : ℕ) (found : Option Record) → taken_below s k ≡ found → taking_at s (k + 1) ≡ Some id → IsHeldBelow s k id
held_by s k id None is taking = let no_way : ◌≡◌ {A = Option ℕ} None (Some id) = sym (ap id_of is) ∙ taking in cc
held_by s k id (Some board) is taking = record { board = board; taken = is; named = some_id board.id id (sym (ap id_of is) ∙ taking) }

-- what was told of the gap before, read off
started_for : (s : LineState) (k id : ℕ) (told : List Deed) (ids : List ℕ) → Waits ids (gaps_after none_yet told) (taking_at s (k + 1)) → (ids ≡ [] → ⊥) → (gaps_after none_yet told).last ≡ Some id → IsStartedFor s k id told
started_for s k id told ids (waits_none is) some last = absurd (some is)
started_for s k id told ids (waits_one z is (stays_held taking gap)) some last =
    let sp : Split id (gaps_after none_yet told).dropped told = split_of told id last in
    let same : z ≡ id = some_id z id (sym (ap (λ (x : Gap). x.last) gap) ∙ last) in
    record { before = sp.before; since = sp.since; told_is = sp.told_is; last = sp.last; held = inl (held_by s k id (taken_below s k) refl (taking ∙ ap (λ (x : ℕ). Some x) same)) }
started_for s k id told ids (waits_one z is (stays_dropped taking gap)) some last =
    let sp : Split id (gaps_after none_yet told).dropped told = split_of told id last in
    record { before = sp.before; since = sp.since; told_is = sp.told_is; last = sp.last; held = inr (sp.drops ∙ ap (λ (x : Gap). x.dropped) gap) }

empty_first : (a b : List Act) → a ++ b ≡ [] → a ≡ []
empty_first [] b is = refl
empty_first (x ∷ a) b is = absurd (cc)

own_opening : (k id : ℕ) (later : List Happening) → done_by k (opens_at k id ∷ later) ≡ acts.Deed (deeds.Opens id) ∷ done_by k later
own_opening k id later = rw (eq-eqb k k refl) refl

-- what was told before, and the line up to the opening
opened_line : (k : ℕ) (t : Trace) (past : List Happening) (s after : LineState) (told : List Happening) → (n : UpNext k t s after told) → Waits (starts_of n.ups) (gaps_after none_yet (gap_deeds k past)) (taking_at s (k + 1))
    → (earlier later : List Happening) (id : ℕ) → told ≡ earlier ++ opens_at k id ∷ later → IsStartedFor s k id (gap_deeds k (past ++ earlier))
opened_line k t past s after told n w earlier later id is = by n.who
  where
    acts_are : done_by k told ≡ done_by k earlier ++ acts.Deed (deeds.Opens id) ∷ done_by k later
    acts_are = ap (done_by k) is ∙ done_append k earlier (opens_at k id ∷ later) ∙ ap (λ (l : List Act). done_by k earlier ++ l) (own_opening k id later)

    at : OpensIn id (done_by k earlier) (done_by k told)
    at = subst (λ (l : List Act). OpensIn id (done_by k earlier) l) (sym acts_are) (opens_in id (done_by k earlier) (done_by k later))

    by : (done_by (k + 1) told ≡ []) ⊎ (n.heard ≡ []) → IsStartedFor s k id (gap_deeds k (past ++ earlier))
    by (inl none) =
        let f : Found id (gaps_after none_yet (gap_deeds k past)).last n.ups (done_by k earlier) = found_open n.orders at n.oldest (pending w) in
        let below : done_by (k + 1) earlier ≡ [] =
        empty_first (done_by (k + 1) earlier) (done_by (k + 1) (opens_at k id ∷ later)) (sym (done_append (k + 1) earlier (opens_at k id ∷ later)) ∙ ap (done_by (k + 1)) (sym is) ∙ none) in
        let quiet : gap_deeds k earlier ≡ [] = only_above k earlier (ap below_deeds below) ∙ f.quiet in
        let same : gap_deeds k (past ++ earlier) ≡ gap_deeds k past = gap_append k past earlier ∙ ap (λ (l : List Deed). gap_deeds k past ++ l) quiet ∙ append-nil (gap_deeds k past) in
        subst (λ (l : List Deed). IsStartedFor s k id l) (sym same) (started_for s k id (gap_deeds k past) (starts_of n.ups) w f.some f.last_is)
    by (inr none) =
        let silent : Orders true [] (done_by k told) = subst (λ (ws : List Word). Orders true ws (done_by k told)) none n.orders in
        let f : Found id None [] (done_by k earlier) = found_open silent at oldest_none (pend_none refl) in
        absurd (f.some refl)

-- ---- what flows up behind the line

none_texts : (said : List Message) → texts_of said ≡ [] → starts_of (bodies said) ≡ []
none_texts [] is = refl
none_texts (m ∷ said) is = absurd (cc)

-- nothing comes any more
over_said : (after : LineState) (k : ℕ) (said : List Message) → AreWaiting after → is_open Exit (node_at after k).lane.body ≡ true → coming (link_at k after.world).flows.to_upstream ≡ []
    → FlowsAs (node_at after k).lane.exit_bytes (coming (link_at k after.world).flows.to_upstream) (texts_of said) → starts_of (bodies said) ≡ []
over_said after k said waits on none flows =
    let w : List ℕ = (node_at after k).lane.exit_bytes in
    let all : w ++ coming (link_at k after.world).flows.to_upstream ≡ w = ap (λ (b : List ℕ). w ++ b) none ∙ append-nil w in
    none_texts said (ap (λ f. f.messages) (sym flows.frames) ∙ ap (λ f. f.messages) (ap frames_of all ∙ frames_of-need_more w (waits k Exit on)))

-- by the relation behind the line
flying_said : SaysAlone → (t : Trace) (after : LineState) (k : ℕ) (said : List Message) → Stands t after → AreWaiting after → AreFit said → FlowsAs (node_at after k).lane.exit_bytes (coming (link_at k after.world).flows.to_upstream) (texts_of said)
    → is_open Exit (node_at after k).lane.body ≡ true → Flying (node_at after (k + 1)).lane.body.intake.phase (up_words (bodies said)) (down_words (t.down k))
flying_said alone t after k said st waits fit flows on = by b.ups b.is b.up
  where
    w : List ℕ
    w = (node_at after k).lane.exit_bytes

    c : List ℕ
    c = coming (link_at k after.world).flows.to_upstream

    F : List Horizontal → Type 0
    F ups = Flying (node_at after (k + 1)).lane.body.intake.phase (up_words ups) (down_words (t.down k))

    b : Base k t after
    b = base k t after st

    none : Up ⊥ [] (link_at k after.world).stands w c → F (bodies said)
    none (flow_whole other good (inl no_way) more) = absurd no_way
    none (flow_whole other good (inr is) more) = flies_none (ap starts_of (same_said alone w c said other fit good flows more) ∙ is)
    none (flow_spoiled spoiled) = flies_none (ap starts_of (none_said_spoiled alone w c said fit flows spoiled))
    none (flow_over off nothing) = flies_none (over_said after k said waits on nothing flows)

    by : (ups : List Horizontal) → Ups (t.up k) w c ups → Up ⊥ (starts_of ups) (link_at k after.world).stands w c → F (bodies said)
    by _ ups_none up = none up
    by _ (ups_whole other good are more) up = subst F (sym (same_said alone w c said other fit good flows more ∙ are)) (flies_at t after k st)

-- what machine k + 1 tells, as it sees the line
taking_done : (t : Trace) (k : ℕ) (s after : LineState) (told : List Happening) → Turn k t s after told → open_all (taking_at s (k + 1)) (done_by (k + 1) told) ≡ taking_at after (k + 1)
taking_done t k s after told turn =
    sym (entry_open (taking_at s (k + 1)) (done_by (k + 1) told)) ∙ ap (λ (l : List Act). open_all (taking_at s (k + 1)) l) (sym (entry_is (k + 1) told)) ∙ turn_open t k s after told turn

-- ---- a start was told in the line

record Ordered (told : List Act) : Type 0 where
  words : List Word
  orders : Orders true words told

turn_orders : (t : Trace) (k : ℕ) (s after : LineState) (told : List Happening) → Stands t s → Turn k t s after told → Ordered (done_by (k + 1) told)
turn_orders t k s after told st (is_still same none) = record { words = []; orders = subst (λ (l : List Act). Orders true [] l) (sym none) orders_end }
turn_orders t k s after told st (has_stepped d) = record {
  words = exit_words d.event;
  orders = subst (λ (l : List Act). Orders true (exit_words d.event) l) (sym d.acts) (orders_undriven (step_orders d.desk (unread_by (k + 1) s.world) d.event (node_at s (k + 1)).lane.body (offers_all t s st (k + 1))));
}

taking_held : (after : LineState) (k : ℕ) (r : Record) → ((node_at after (k + 1)).lane.body.intake.phase ≡ inn.Taking r seen.NotStarted false) ⊎ ((node_at after (k + 1)).lane.body.intake.phase ≡ inn.Stopped r seen.NotStarted None) → taking_at after (k + 1) ≡ Some r.id
taking_held after k r (inl is) = ap (λ (i : In). id_of (held_in i)) is
taking_held after k r (inr is) = ap (λ (i : In). id_of (held_in i)) is

quiet_gap : (k : ℕ) (t : Trace) (s after : LineState) (told : List Happening) → UpNext k t s after told → list_any is_start (done_by (k + 1) told) ≡ true → gap_deeds k told ≡ below_deeds (done_by (k + 1) told)
quiet_gap k t s after told n any = by n.who
  where
    by : (done_by (k + 1) told ≡ []) ⊎ (n.heard ≡ []) → gap_deeds k told ≡ below_deeds (done_by (k + 1) told)
    by (inl none) = absurd (false≢true (sym (ap (λ (l : List Act). list_any is_start l) none) ∙ any))
    by (inr none) = only_below k told (none_above (subst (λ (ws : List Word). Orders true ws (done_by k told)) none n.orders))

started_line : (k : ℕ) (t2 : Trace) (s after : LineState) (told : List Happening) (g : Gap) (ids : List ℕ) (up : List UpWord) (down : List DownWord) → starts_in up ≡ ids → gap_deeds k told ≡ below_deeds (done_by (k + 1) told) → Starts (taking_at s (k + 1)) g (done_by (k + 1) told)
    → open_all (taking_at s (k + 1)) (done_by (k + 1) told) ≡ taking_at after (k + 1) → Flying (node_at after (k + 1)).lane.body.intake.phase up down → Waits ids (gaps_after g (gap_deeds k told)) (taking_at after (k + 1))
started_line k t2 s after told g ids up down same gap st taking (flies_none none) = waits_none (sym same ∙ none)
started_line k t2 s after told g ids up down same gap st taking (flies_held r one phase stale) =
    let holds : taking_at after (k + 1) ≡ Some r.id = taking_held after k r phase in
    let id_is : st.id ≡ r.id = some_id st.id r.id (sym st.open_is ∙ taking ∙ holds) in
    waits_one r.id (sym same ∙ one) (stays_held holds (ap (λ (l : List Deed). gaps_after g l) gap ∙ st.gap_is ∙ ap (λ (x : ℕ). record { last = Some x; dropped = false }) id_is))
started_line k t2 s after told g ids up down same gap st taking (flies_alone x one idle) =
    none_some st.id (sym (ap (λ (i : In). id_of (held_in i)) idle) ∙ sym taking ∙ st.open_is)

-- ---- none was: the start that is on its way still is the last one

settle_told : (act : Act) (rest : List Act) → is_settle act ≡ false → list_any is_settle rest ≡ false → list_any is_settle (told_of_act act ++ rest) ≡ false
settle_told (acts.Drive side on) rest one more = more
settle_told act rest one more = or_from (is_settle act) (list_any is_settle rest) one more

settle_undriven : (told : List Act) → list_any is_settle told ≡ false → list_any is_settle (undriven told) ≡ false
settle_undriven [] none = refl
settle_undriven (act ∷ told) none = settle_told act (undriven told) (or_parts (is_settle act) (list_any is_settle told) none).0 (settle_undriven told (or_parts (is_settle act) (list_any is_settle told) none).1)

start_told : (act : Act) (rest : List Act) → list_any is_start (told_of_act act ++ rest) ≡ false → (is_start act ≡ false) × (list_any is_start rest ≡ false)
start_told (acts.Drive side on) rest none = (refl, none)
start_told act rest none = ((or_parts (is_start act) (list_any is_start rest) none).0, (or_parts (is_start act) (list_any is_start rest) none).1)

start_undriven : (told : List Act) → list_any is_start (undriven told) ≡ false → list_any is_start told ≡ false
start_undriven [] none = refl
start_undriven (act ∷ told) none = let both = start_told act (undriven told) none in or_from (is_start act) (list_any is_start told) both.0 (start_undriven told both.1)

fresh_knows : (i : In) (state : InState) (r : Record) → state.phase ≡ i → (i ≡ inn.Taking r seen.NotStarted false) ⊎ (i ≡ inn.Stopped r seen.NotStarted None) → Knows (record { named = Some r.id; since = just_started }) state
fresh_knows i state r is (inl phase) =
    let all : state.phase ≡ inn.Taking r seen.NotStarted false = is ∙ phase in
    record { named = λ q held. sym (ap (λ (p : In). id_of (held_in p)) all) ∙ ap id_of held; recalled = subst (λ (p : In). IsRecalled p just_started) (sym all) (record { ended = refl; linked = refl; waiting = refl }) }
fresh_knows i state r is (inr phase) =
    let all : state.phase ≡ inn.Stopped r seen.NotStarted None = is ∙ phase in
    record { named = λ q held. sym (ap (λ (p : In). id_of (held_in p)) all) ∙ ap id_of held; recalled = subst (λ (p : In). IsRecalled p just_started) (sym all) (record { ended = refl; linked = refl; waiting = refl }) }

idle_knows : (state : InState) → state.phase ≡ inn.Idle → Knows none_heard state
idle_knows state is = record {
  named = λ q held. (let no_way : ◌≡◌ {A = Option Record} None (Some q) = sym (ap held_in is) ∙ held in cc);
  recalled = subst (λ (p : In). IsRecalled p none_heard.since) (sym is) (record { ended = refl; linked = refl; waiting = refl });
}

stepped_settles : (t : Trace) (k : ℕ) (s after : LineState) (told : List Happening) → Stands t s → (d : Stepped k t s after told) → list_any is_start (done_by (k + 1) told) ≡ false
    → Flying (node_at s (k + 1)).lane.body.intake.phase (up_words (t.up k)) (down_words (t.down k)) → (starts_of (t.up k) ≡ [] → ⊥) → list_any is_settle (done_by (k + 1) told) ≡ false
stepped_settles t k s after told st d start (flies_none none) some = absurd (some none)
stepped_settles t k s after told st d start (flies_held r one phase stale) some =
    let body : Body = (node_at s (k + 1)).lane.body in
    let h : Hearing = record { named = Some r.id; since = just_started } in
    let knows : Knows h body.intake = fresh_knows body.intake.phase body.intake r refl phase in
    let did : Done = plain_step d.desk (unread_by (k + 1) s.world) d.event body in
    let quiet : list_any is_settle did.acts ≡ false =
    unsaid_settles (stepped_does t k h s after told st knows d).does.orderly (step_still d.desk (unread_by (k + 1) s.world) d.event body (still_event d.event (scene_at t s k) d.known stale)) (refl, refl) in
    ap (λ (l : List Act). list_any is_settle l) d.acts ∙ settle_undriven did.acts quiet
stepped_settles t k s after told st d start (flies_alone x one idle) some =
    let body : Body = (node_at s (k + 1)).lane.body in
    let knows : Knows none_heard body.intake = idle_knows body.intake idle in
    let did : Done = plain_step d.desk (unread_by (k + 1) s.world) d.event body in
    let none : list_any is_start did.acts ≡ false = start_undriven did.acts (sym (ap (λ (l : List Act). list_any is_start l) d.acts) ∙ start) in
    ap (λ (l : List Act). list_any is_settle l) d.acts ∙ settle_undriven did.acts (unnamed_settles (stepped_does t k none_heard s after told st knows d).does.orderly none refl)

turn_settles : (t : Trace) (k : ℕ) (s after : LineState) (told : List Happening) → Stands t s → Turn k t s after told → list_any is_start (done_by (k + 1) told) ≡ false → (starts_of (t.up k) ≡ [] → ⊥) → list_any is_settle (done_by (k + 1) told) ≡ false
turn_settles t k s after told st (is_still same none) start some = ap (λ (l : List Act). list_any is_settle l) none
turn_settles t k s after told st (has_stepped d) start some = stepped_settles t k s after told st d start (flies_at t s k st) some

some_ups : (k : ℕ) (t : Trace) (s : LineState) (ups : List Horizontal) (z : ℕ) → Ups (t.up k) (node_at s k).lane.exit_bytes (coming (link_at k s.world).flows.to_upstream) ups → starts_of ups ≡ z ∷ [] → starts_of (t.up k) ≡ [] → ⊥
some_ups k t s _ z ups_none one none = let no_way : ◌≡◌ {A = List ℕ} [] (z ∷ []) = one in cc
some_ups k t s _ z (ups_whole said fit are flows) one none = let no_way : ◌≡◌ {A = List ℕ} [] (z ∷ []) = sym none ∙ one in cc

turn_owned : (t : Trace) (k : ℕ) (s after : LineState) (told : List Happening) → Turn k t s after told → Owned (taking_at s (k + 1)) (done_by (k + 1) told)
turn_owned t k s after told (is_still same none) = subst (λ (l : List Act). Owned (taking_at s (k + 1)) l) (sym none) owned_end
turn_owned t k s after told (has_stepped d) =
    let body : Body = (node_at s (k + 1)).lane.body in
    subst (λ (l : List Act). Owned (taking_at s (k + 1)) l) (sym d.acts) (owned_undriven (owned_did (step_did d.desk (unread_by (k + 1) s.world) d.event body (any_new d.event))))

unstarted_line : (k : ℕ) (t : Trace) (s after : LineState) (told : List Happening) (g : Gap) (ids : List ℕ) → Stands t s → (n : UpNext k t s after told) → Turn k t s after told → list_any is_start (done_by (k + 1) told) ≡ false → ids ≡ starts_of (drop (length n.heard) n.ups)
    → Waits (starts_of n.ups) g (taking_at s (k + 1)) → (above_deeds (done_by k told) ≡ []) ⊎ (starts_of (drop (length n.heard) n.ups) ≡ []) → Waits ids (gaps_after g (gap_deeds k told)) (taking_at after (k + 1))
unstarted_line k t s after told g ids st n turn start is w (inr none) = waits_none (is ∙ none)
unstarted_line k t s after told g ids st n turn start is (waits_none e) (inl quiet) = waits_none (is ∙ none_dropped (length n.heard) n.ups e)
unstarted_line k t s after told g ids st n turn start is (waits_one z e stays) (inl quiet) = by (one_dropped (length n.heard) n.ups z e)
  where
    settle : list_any is_settle (done_by (k + 1) told) ≡ false
    settle = turn_settles t k s after told st turn start (some_ups k t s n.ups z n.is e)

    now : Stays z (open_all (taking_at s (k + 1)) (done_by (k + 1) told)) (gaps_after g (below_deeds (done_by (k + 1) told)))
    now = stays_all z (done_by (k + 1) told) (taking_at s (k + 1)) g (turn_owned t k s after told turn) start settle stays

    gap : gap_deeds k told ≡ below_deeds (done_by (k + 1) told)
    gap = only_below k told quiet

    by : (starts_of (drop (length n.heard) n.ups) ≡ []) ⊎ (starts_of (drop (length n.heard) n.ups) ≡ z ∷ []) → Waits ids (gaps_after g (gap_deeds k told)) (taking_at after (k + 1))
    by (inl none) = waits_none (is ∙ none)
    by (inr one) = waits_one z (is ∙ one) (subst (λ (l : List Deed). Stays z (taking_at after (k + 1)) (gaps_after g l)) (sym gap) (subst (λ (o : Option ℕ). Stays z o (gaps_after g (below_deeds (done_by (k + 1) told)))) (taking_done t k s after told turn) now))

-- ---- so the invariant goes on

after_line : SaysAlone → (k : ℕ) (t t2 : Trace) (s after : LineState) (told : List Happening) (g : Gap) → Stands t s → Stands t2 after → AreWaiting after → (n : UpNext k t s after told) → Turn k t s after told → Waits (starts_of n.ups) g (taking_at s (k + 1))
    → Asks k after (gaps_after g (gap_deeds k told))
after_line alone k t t2 s after told g st st2 waits n turn w said fit flows on = by (n.up on)
  where
    wait : List ℕ
    wait = (node_at after k).lane.exit_bytes

    c : List ℕ
    c = coming (link_at k after.world).flows.to_upstream

    W : Type 0
    W = Waits (starts_of (bodies said)) (gaps_after g (gap_deeds k told)) (taking_at after (k + 1))

    started : list_any is_start (done_by (k + 1) told) ≡ true → W
    started any =
        let o : Ordered (done_by (k + 1) told) = turn_orders t k s after told st turn in
        started_line k t2 s after told g (starts_of (bodies said)) (up_words (bodies said)) (down_words (t2.down k)) refl (quiet_gap k t s after told n any) (ends_started o.orders any (taking_at s (k + 1)) g)
        (taking_done t k s after told turn) (flying_said alone t2 after k said st2 waits fit flows on)

    unstarted : list_any is_start (done_by (k + 1) told) ≡ false → starts_of (bodies said) ≡ n.ids → W
    unstarted start is = left n.left
      where
        left : (n.ids ≡ []) ⊎ (n.ids ≡ starts_of (drop (length n.heard) n.ups)) → W
        left (inl none) = waits_none (is ∙ none)
        left (inr same) = unstarted_line k t s after told g (starts_of (bodies said)) st n turn start (is ∙ same) w (answers n.orders n.oldest (pending w))

    whole : (test : Bool) → list_any is_start (done_by (k + 1) told) ≡ test → (other : List Message) → bodies said ≡ bodies other → Starting k told ⊎ (starts_of (bodies other) ≡ n.ids) → W
    whole true any other same starts = started any
    whole false start other same (inl any) = absurd (false≢true (sym start ∙ any))
    whole false start other same (inr is) = unstarted start (ap starts_of same ∙ is)

    by : UpOn (Starting k told) n.ids wait (link_at k after.world) → W
    by (flow_whole other good starts more) = whole (list_any is_start (done_by (k + 1) told)) refl other (same_said alone wait c said other fit good flows more) starts
    by (flow_spoiled spoiled) = waits_none (ap starts_of (none_said_spoiled alone wait c said fit flows spoiled))
    by (flow_over off none) = waits_none (over_said after k said waits on none flows)

-- ---- along a run

run_opened : SaysAlone → (k : ℕ) (past : List Happening) (s : LineState) (asked : List TrackLine) (points : List Point) (n : ℕ) → AllByRecursion IsFitTrack asked → IsShort s points → Stood s → IsRun s asked points → AreStood (take n points)
    → Asks k s (gaps_after none_yet (gap_deeds k past)) → OpensWhatStarted k past s (take n points)
run_opened alone k past s asked points zero fit few was run all asks = tt
run_opened alone k past s [] [] (suc n) fit few was run all asks = tt
run_opened alone k past s [] (point ∷ points) (suc n) fit few was run all asks = absurd run
run_opened alone k past s (line ∷ asked) [] (suc n) fit few was run all asks = absurd run
run_opened alone k past s (line ∷ asked) (point ∷ points) (suc n) fit few was run all asks =
    let g : Gap = gaps_after none_yet (gap_deeds k past) in
    let here : s.lines + 1 ≤ 1000000 = few.0 in
    let left : IsShort point.after points = few.1 in
    let next : UpNext k was.trace s point.after point.told = track_next alone k (s.lines + 1) line was.trace s point.after point.told here fit.0 was.stands was.waits run.0 in
    let turn : Turn k was.trace s point.after point.told = track_turn alone was.trace (s.lines + 1) line s point.after point.told was.stands run.0 k in
    let w : Waits (starts_of next.ups) g (taking_at s (k + 1)) = waits_ups k was.trace s g next.ups was.stands asks next.is in
    let now : Stood point.after = all.0 in
    let then : Asks k point.after (gaps_after g (gap_deeds k point.told)) = after_line alone k was.trace now.trace s point.after point.told g was.stands now.stands now.waits next turn w in
    let same : gaps_after none_yet (gap_deeds k (past ++ point.told)) ≡ gaps_after g (gap_deeds k point.told) = ap (λ (l : List Deed). gaps_after none_yet l) (gap_append k past point.told) ∙ gaps_append none_yet (gap_deeds k past) (gap_deeds k point.told) in (
      opened_line k was.trace past s point.after point.told next w,
      run_opened alone k (past ++ point.told) point.after asked points n fit.1 left all.0 run.1 all.1 (subst (λ (x : Gap). Asks k point.after x) (sym same) then),
    )

none_asks : (k : ℕ) → Asks k no_line none_yet
none_asks zero said fit flows on = absurd (false≢true on)
none_asks (suc place) said fit flows on = absurd (false≢true on)

-- THE LAW
pub what_opens_started : SaysAlone → ConnectsBear → WhatOpensStarted
what_opens_started alone connects asked points n gap fit few run honest =
    run_opened alone gap [] no_line asked points n fit few none_stood.stood run (run_stood alone connects no_line asked points n fit few none_stood run honest) (none_asks gap)
