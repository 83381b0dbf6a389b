-- THE MACHINE BELOW the gap, at its entry: how far it is in an undisturbed handover, and what its steps do to that.
use Rattle.std.proofs.Common.{Bool, List, None, Option, Some, [], ap, append-nil, arith, false, refl, subst, sym, true, ℕ, ℤ, ◌++◌, ◌+◌, ◌<◌, ◌∙◌, ◌∷◌, ◌≡◌, ◌≤◌}
use Rattle.std.proofs.lemmas.Bool.{lt-ltb, ltb-true}
use Rattle.std.specs.Prelude.{is_some, not, slice_get, ◌&&◌, ◌||◌}
use Rattle.law_custody.proofs.Rows.{same as own_id}
use Rattle.line_base.specs.declared.states.Quality.TheVariants as quality
use Rattle.line_base.specs.declared.states.Role.TheVariants.{Downstream}
use Rattle.line_base.specs.declared.states.Seen.{Seen}
use Rattle.line_base.specs.declared.states.Seen.TheVariants as seen
use Rattle.line_base.specs.declared.states.SensorEvent.{SensorEvent}
use Rattle.line_base.specs.declared.states.SensorEvent.TheVariants as sensor
use Rattle.line_base.specs.declared.states.Side.{Side}
use Rattle.line_base.specs.declared.states.Side.TheVariants.{Entry, Exit}
use Rattle.line_base.specs.declared.states.Transfer.TheVariants as transfer
use Rattle.board_record.specs.declared.record.Record.{Record}
use Rattle.board_record.specs.declared.sensed.Sensed.{Sensed}
use Rattle.hermes_horizontal.specs.declared.message.Horizontal.{Horizontal}
use Rattle.hermes_horizontal.specs.declared.message.Horizontal.TheVariants as message
use Rattle.hermes_horizontal.specs.declared.message.Message.{Message}
use Rattle.session_core.specs.End.{is_connected_state}
use Rattle.session_core.specs.declared.state.SessionState.{SessionState}
use Rattle.session_core.specs.declared.state.SessionState.TheVariants.{Standing}
use Rattle.handover_out.specs.declared.input.OutInput.TheVariants as out_input
use Rattle.handover_out.specs.Row.{OutRow, outlet_row}
use Rattle.handover_out.proofs.Rows.{row_is}
use Rattle.handover_in.specs.State.{InState, held as in_held, name_of_phase}
use Rattle.handover_in.specs.declared.phase.Phase.{Phase}
use Rattle.handover_in.specs.declared.phase.Phase.TheVariants.{Idle, Stopped, Taking}
use Rattle.law_custody.specs.Words.{events_at}
use Rattle.node_core.specs.Announces.{announces, is_free, is_intake_free, offer, offer_by, offers_now, readies_now, ready, ready_by, revoke, revoke_by, revokes_now, start, start_by, starts_now, unready, unready_by, unreadies_now}
use Rattle.node_core.specs.Connect.{if_open}
use Rattle.node_core.specs.Desk.{Desk}
use Rattle.node_core.specs.Done.{Done, and_then, stays}
use Rattle.node_core.specs.Event.{Event, Words, event_did}
use Rattle.node_core.specs.Halves.{at_outlet, outlet_row_did}
use Rattle.node_core.specs.Hears.{hears}
use Rattle.node_core.specs.Places.{has_place, place_for, used}
use Rattle.node_core.specs.Reads.{all_read, reads}
use Rattle.node_core.specs.Sides.{is_standing}
use Rattle.node_core.specs.Step.{machine_step, plain_step}
use Rattle.node_core.specs.Supervising.{telling, watch_of}
use Rattle.node_core.specs.Words.{all_heard}
use Rattle.node_core.specs.declared.act.Act.{Act}
use Rattle.node_core.specs.declared.act.Act.TheVariants as acts
use Rattle.node_core.specs.declared.act.Deed.TheVariants as deeds
use Rattle.node_core.specs.declared.lane.Body.{Body}
use Rattle.node_core.specs.declared.lane.End.{End}
use Rattle.node_core.specs.declared.word.Word.TheVariants.{Says}
use Rattle.node_core.proofs.HalfRows.{offer_places}
use Rattle.node_core.proofs.Keeping.{Keeps, at_outlet_keeps, keeps_behind}
use Rattle.law_twelve_steps.proofs.Beside.{Leaves, SameLower, at_outlet_leaves, leaves_still, reaches, reaches_append, reads_leave, tells_reach}

-- it has said that it is ready; it has heard the offer (in the midst of a step alone); it takes the board, and has read that it
-- begins or not, and has heard that it left or not; it has read that the board is inside before it heard that it left; and the
-- board has settled, and it has said again that it is ready or not
pub data Lower : Type 0 where
  readies : Lower
  asked : Lower
  takes : Bool → Bool → Lower
  stopped : Lower
  settled : Bool → Lower

abbrev pub seen_of : Bool → Seen
seen_of true = seen.Incomplete
seen_of false = seen.NotStarted

abbrev pub phase_of : Record → Lower → Phase
phase_of r (takes begun heard) = Taking r (seen_of begun) heard
phase_of r stopped = Stopped r seen.Complete None
phase_of r _ = Idle

abbrev pub offer_of : Record → Lower → Option Record
offer_of r asked = Some r
offer_of r _ = None

abbrev pub ready_of : Lower → Bool
ready_of readies = true
ready_of asked = true
ready_of (settled again) = again
ready_of _ = false

-- while it has said that it is ready it is willing, and has a place
pub record HasRoom (capacity : ℕ) (body : Body) : Type 0 where
  pub willing : body.entry.willing ≡ true
  pub place : used body + 1 ≤ capacity

abbrev pub RoomIf : Bool → ℕ → Body → Type 0
RoomIf true capacity body = HasRoom capacity body
RoomIf false capacity body = Unit {0}

pub record IsLower (capacity : ℕ) (r : Record) (l : Lower) (body : Body) : Type 0 where
  pub stands : body.entry.session.state ≡ Standing
  pub role : body.entry.session.role ≡ Downstream
  pub phase : body.intake.phase ≡ phase_of r l
  pub offer : body.intake.offer ≡ offer_of r l
  pub ready : body.intake.ready ≡ ready_of l
  pub room : RoomIf (ready_of l) capacity body

-- an event leaves the machine so, and these acts reach its entry
pub record Turns (capacity : ℕ) (r : Record) (l : Lower) (said : List Act) (d : Done) : Type 0 where
  pub lower : IsLower capacity r l d.body
  pub reached : reaches Entry d.acts ≡ said

pub turns_both : {capacity : ℕ} {r : Record} {one two : Lower} {a b : List Act} (first : Done) (next : Body → Done) → Turns capacity r one a first → Turns capacity r two b (next first.body) → Turns capacity r two (a ++ b) (and_then first next)
turns_both {a = a} first next x y = record { lower = y.lower; reached = reaches_append Entry first.acts (next first.body).acts ∙ ap (λ (xs : List Act). xs ++ reaches Entry (next first.body).acts) x.reached ∙ ap (λ (ys : List Act). a ++ ys) y.reached }

-- what the exit does leaves it as it is, and uses no place more
pub record Aside (body : Body) (d : Done) : Type 0 where
  pub leaves : Leaves Exit body d
  pub fewer : used d.body ≤ used body

room_same : (test : Bool) (capacity : ℕ) {body after : Body} → SameLower body after → used after ≤ used body → RoomIf test capacity body → RoomIf test capacity after
room_same true capacity {body = body} s fewer room =
    let place = room.place in
    record { willing = ap (λ (e : End). e.willing) s.entry ∙ room.willing; place = omega (arith, fewer, place) }
room_same false capacity s fewer room = tt

pub lower_same : {capacity : ℕ} {r : Record} (l : Lower) {body after : Body} → SameLower body after → used after ≤ used body → IsLower capacity r l body → IsLower capacity r l after
lower_same {capacity = capacity} l s fewer is = record {
  stands = ap (λ (e : End). e.session.state) s.entry ∙ is.stands;
  role = ap (λ (e : End). e.session.role) s.entry ∙ is.role;
  phase = ap (λ (x : InState). x.phase) s.intake ∙ is.phase;
  offer = ap (λ (x : InState). x.offer) s.intake ∙ is.offer;
  ready = ap (λ (x : InState). x.ready) s.intake ∙ is.ready;
  room = room_same (ready_of l) capacity s fewer is.room;
}

pub turns_aside : {capacity : ℕ} {r : Record} {l : Lower} {body : Body} {d : Done} → IsLower capacity r l body → Aside body d → Turns capacity r l [] d
turns_aside {l = l} is a = record { lower = lower_same l a.leaves.half a.fewer is; reached = a.leaves.silent }

same_count : (n : ℕ) → n ≤ n
same_count n = omega arith

pub aside_still : (body : Body) → Aside body (stays body)
aside_still body = record { leaves = leaves_still Exit body; fewer = same_count (used body) }

pub aside_by : {body : Body} {d : Done} → Leaves Exit body d → Keeps (used body) body d → Aside body d
aside_by {body = body} leaves keeps = record { leaves = leaves; fewer = keeps.places (same_count (used body)) }

-- ---- a body with these parts

abbrev with_in : Phase → Option Record → Bool → Body → Body
with_in phase offer ready body = record body {
  intake = record { phase = phase; offer = offer; ready = ready };
  entry = record body.entry { session = record body.entry.session { state = Standing; role = Downstream } };
}

in_is : (phase : Phase) (offer : Option Record) (ready : Bool) (body : Body) → body.entry.session.state ≡ Standing → body.entry.session.role ≡ Downstream → body.intake.phase ≡ phase → body.intake.offer ≡ offer → body.intake.ready ≡ ready
    → body ≡ with_in phase offer ready body
in_is phase offer ready body s r p o d = λ i. record body {
  intake = record { phase = p i; offer = o i; ready = d i };
  entry = record body.entry { session = record body.entry.session { state = s i; role = r i } };
}

-- ---- sensor events

abbrev pub stop_said : Desk → Record → Act
stop_said desk r = acts.Sends Entry (record { stamp = Some desk.moment; body = message.StopTransport transfer.Complete r.id })

pub data Reads (desk : Desk) (r : Record) : Lower → List SensorEvent → Lower → List Act → Type 0 where
  reads_none : {l : Lower} → Reads desk r l [] l []
  reads_begun : {heard : Bool} {l : Lower} {events : List SensorEvent} {said : List Act} → Reads desk r (takes true heard) events l said → Reads desk r (takes false heard) (sensor.Begun ∷ events) l said
  reads_full : {l : Lower} {events : List SensorEvent} {said : List Act} → Reads desk r stopped events l said
      → Reads desk r (takes true false) (sensor.Full ∷ events) l (stop_said desk r ∷ acts.Drive Entry false ∷ said)
  reads_full_heard : {l : Lower} {events : List SensorEvent} {said : List Act} → Reads desk r (settled false) events l said
      → Reads desk r (takes true true) (sensor.Full ∷ events) l (acts.Deed (deeds.Settles r.id) ∷ stop_said desk r ∷ acts.Drive Entry false ∷ said)

begun_turns : {capacity : ℕ} (desk : Desk) (r : Record) (heard : Bool) (body : Body) → IsLower capacity r (takes false heard) body → Turns capacity r (takes true heard) [] (reads desk (record { side = Entry; event = sensor.Begun }) body)
begun_turns {capacity = capacity} desk r true body is =
    subst (λ (b : Body). Turns capacity r (takes true true) [] (reads desk (record { side = Entry; event = sensor.Begun }) b)) (sym (in_is (Taking r seen.NotStarted true) None false body is.stands is.role is.phase is.offer is.ready))
    (record { lower = record { stands = refl; role = refl; phase = refl; offer = refl; ready = refl; room = tt }; reached = refl })
begun_turns {capacity = capacity} desk r false body is =
    subst (λ (b : Body). Turns capacity r (takes true false) [] (reads desk (record { side = Entry; event = sensor.Begun }) b)) (sym (in_is (Taking r seen.NotStarted false) None false body is.stands is.role is.phase is.offer is.ready))
    (record { lower = record { stands = refl; role = refl; phase = refl; offer = refl; ready = refl; room = tt }; reached = refl })

full_turns : {capacity : ℕ} (desk : Desk) (r : Record) (body : Body) → IsLower capacity r (takes true false) body → Turns capacity r stopped (stop_said desk r ∷ acts.Drive Entry false ∷ []) (reads desk (record { side = Entry; event = sensor.Full }) body)
full_turns {capacity = capacity} desk r body is =
    subst (λ (b : Body). Turns capacity r stopped (stop_said desk r ∷ acts.Drive Entry false ∷ []) (reads desk (record { side = Entry; event = sensor.Full }) b)) (sym (in_is (Taking r seen.Incomplete false) None false body is.stands is.role is.phase is.offer is.ready))
    (record { lower = record { stands = refl; role = refl; phase = refl; offer = refl; ready = refl; room = tt }; reached = refl })

settles_turns : {capacity : ℕ} (desk : Desk) (r : Record) (body : Body) → IsLower capacity r (takes true true) body
    → Turns capacity r (settled false) (acts.Deed (deeds.Settles r.id) ∷ stop_said desk r ∷ acts.Drive Entry false ∷ []) (reads desk (record { side = Entry; event = sensor.Full }) body)
settles_turns {capacity = capacity} desk r body is =
    subst (λ (b : Body). Turns capacity r (settled false) (acts.Deed (deeds.Settles r.id) ∷ stop_said desk r ∷ acts.Drive Entry false ∷ []) (reads desk (record { side = Entry; event = sensor.Full }) b)) (sym (in_is (Taking r seen.Incomplete true) None false body is.stands is.role is.phase is.offer is.ready))
    (record { lower = record { stands = refl; role = refl; phase = refl; offer = refl; ready = refl; room = tt }; reached = refl })

reads_aside : (desk : Desk) (event : SensorEvent) (body : Body) → Aside body (reads desk (record { side = Exit; event = event }) body)
reads_aside desk event body = aside_by (reads_leave desk Exit event body) (keeps_behind (used body) body (acts.Reads Exit event ∷ []) (at_outlet desk (out_input.Sensed event) body) (λ own. refl) (at_outlet_keeps (used body) desk (out_input.Sensed event) body tt))

one_turns : {capacity : ℕ} {r : Record} {l m : Lower} {said : List Act} (desk : Desk) (side : Side) (event : SensorEvent) (unread : List Sensed) (body : Body)
    → ((w : Lower) (more : List Act) (b : Body) → IsLower capacity r w b → Reads desk r w (events_at Entry unread) m more → Turns capacity r m more (all_read desk unread b))
    → IsLower capacity r l body → Reads desk r l (events_at Entry (record { side = side; event = event } ∷ unread)) m said → Turns capacity r m said (all_read desk (record { side = side; event = event } ∷ unread) body)
one_turns desk Exit event unread body others is rs =
    let one = reads desk (record { side = Exit; event = event }) body in
    let first = turns_aside is (reads_aside desk event body) in
    turns_both one (all_read desk unread) first (others _ _ one.body first.lower rs)
one_turns {r = r} desk Entry _ unread body others is (reads_begun {heard = heard} rs) =
    let one = reads desk (record { side = Entry; event = sensor.Begun }) body in
    let first = begun_turns desk r heard body is in
    turns_both one (all_read desk unread) first (others _ _ one.body first.lower rs)
one_turns {r = r} desk Entry _ unread body others is (reads_full rs) =
    let one = reads desk (record { side = Entry; event = sensor.Full }) body in
    let first = full_turns desk r body is in
    turns_both one (all_read desk unread) first (others _ _ one.body first.lower rs)
one_turns {r = r} desk Entry _ unread body others is (reads_full_heard rs) =
    let one = reads desk (record { side = Entry; event = sensor.Full }) body in
    let first = settles_turns desk r body is in
    turns_both one (all_read desk unread) first (others _ _ one.body first.lower rs)

pub all_turn : {capacity : ℕ} {r : Record} {l m : Lower} {said : List Act} (desk : Desk) (unread : List Sensed) (body : Body) → IsLower capacity r l body → Reads desk r l (events_at Entry unread) m said → Turns capacity r m said (all_read desk unread body)
all_turn desk [] body is reads_none = record { lower = is; reached = refl }
all_turn desk (one ∷ unread) body is rs = one_turns desk one.side one.event unread body (λ w more b i more_rs. all_turn desk unread b i more_rs) is rs

-- ---- messages

pub data Hears (r : Record) : Lower → Horizontal → Lower → List Act → Type 0 where
  hears_offer : Hears r readies (message.BoardAvailable r) asked []
  hears_end : Hears r (takes true false) (message.TransportFinished transfer.Complete r.id) (takes true true) []
  hears_end_inside : Hears r stopped (message.TransportFinished transfer.Complete r.id) (settled false) (acts.Deed (deeds.Settles r.id) ∷ [])

pub hears_turns : {capacity : ℕ} {r : Record} {l m : Lower} {what : Horizontal} {said : List Act} (desk : Desk) (stamp : Option ℤ) (body : Body) → Hears r l what m said → IsLower capacity r l body → Turns capacity r m said (hears desk Entry (record { stamp = stamp; body = what }) body)
hears_turns {capacity = capacity} {r = r} desk stamp body hears_offer is =
    let room = is.room in
    subst (λ (b : Body). b.entry.willing ≡ true → used b + 1 ≤ capacity → Turns capacity r asked [] (hears desk Entry (record { stamp = stamp; body = message.BoardAvailable r }) b)) (sym (in_is Idle None true body is.stands is.role is.phase is.offer is.ready))
    (λ willing place. record { lower = record { stands = refl; role = refl; phase = refl; offer = refl; ready = refl; room = record { willing = willing; place = place } }; reached = refl }) room.willing room.place
hears_turns {capacity = capacity} {r = r} desk stamp body hears_end is =
    let e = own_id r.id in
    subst (λ (b : Body). Turns capacity r (takes true true) [] (hears desk Entry (record { stamp = stamp; body = message.TransportFinished transfer.Complete r.id }) b)) (sym (in_is (Taking r seen.Incomplete false) None false body is.stands is.role is.phase is.offer is.ready))
    (rw e (record { lower = record { stands = refl; role = refl; phase = refl; offer = refl; ready = refl; room = tt }; reached = refl }))
hears_turns {capacity = capacity} {r = r} desk stamp body hears_end_inside is =
    let e = own_id r.id in
    subst (λ (b : Body). Turns capacity r (settled false) (acts.Deed (deeds.Settles r.id) ∷ []) (hears desk Entry (record { stamp = stamp; body = message.TransportFinished transfer.Complete r.id }) b)) (sym (in_is (Stopped r seen.Complete None) None false body is.stands is.role is.phase is.offer is.ready))
    (rw e (record { lower = record { stands = refl; role = refl; phase = refl; offer = refl; ready = refl; room = tt }; reached = refl }))

-- ---- announcements

pub data Follows (desk : Desk) (r : Record) : Lower → Lower → List Act → Type 0 where
  follows_none : {l : Lower} → Follows desk r l l []
  follows_start : Follows desk r asked (takes false false) (acts.Sends Entry (record { stamp = Some desk.moment; body = message.StartTransport r.id }) ∷ acts.Drive Entry true ∷ [])
  follows_ready : Follows desk r (settled false) (settled true) (acts.Sends Entry (record { stamp = Some desk.moment; body = message.MachineReady quality.Unknown }) ∷ [])

pub record Announced (desk : Desk) (r : Record) (l : Lower) (d : Done) : Type 0 where
  pub next : Lower
  pub told : List Act
  pub follows : Follows desk r l next told
  pub turns : Turns desk.capacity r next told d

announced_none : {desk : Desk} {r : Record} {l : Lower} {d : Done} → Turns desk.capacity r l [] d → Announced desk r l d
announced_none {l = l} t = record { next = l; told = []; follows = follows_none; turns = t }

stays_turns : {capacity : ℕ} {r : Record} {l : Lower} {body : Body} {d : Done} → IsLower capacity r l body → d ≡ stays body → Turns capacity r l [] d
stays_turns {capacity = capacity} {r = r} {l = l} {body = body} is same = subst (λ (x : Done). Turns capacity r l [] x) (sym same) (record { lower = is; reached = refl })

pub revoke_aside : (desk : Desk) (test : Bool) (body : Body) → Aside body (revoke_by desk test body)
revoke_aside desk true body = aside_by (at_outlet_leaves desk out_input.Revoke body) (at_outlet_keeps (used body) desk out_input.Revoke body tt)
revoke_aside desk false body = aside_still body

fewer_used : (kept others a b more : ℕ) → kept + a ≤ others + b → kept + a + more ≤ others + b + more
fewer_used kept others a b more fewer = omega (arith, fewer)

offer_fewer : (desk : Desk) (id : ℕ) (body : Body) (found : Option OutRow) → outlet_row body.outlet (out_input.Offer id) ≡ found → used (outlet_row_did desk body found).body ≤ used body
offer_fewer desk id body None is = same_count (used body)
offer_fewer desk id body (Some row) is = fewer_used _ _ _ _ (place_for (in_held body.intake)) (offer_places body.kept (row_is body.outlet (out_input.Offer id) row is))

pub offer_aside : (desk : Desk) (test : Bool) (front : Option Record) (body : Body) → Aside body (offer_by desk test front body)
offer_aside desk true (Some front) body = record { leaves = at_outlet_leaves desk (out_input.Offer front.id) body; fewer = offer_fewer desk front.id body (outlet_row body.outlet (out_input.Offer front.id)) refl }
offer_aside desk true None body = aside_still body
offer_aside desk false front body = aside_still body

-- Unready is announced by no machine that is not ready, or has room
no_unready : (free ready willing place : Bool) → ready ≡ false → (free && ready && (not willing || not place)) ≡ false
no_unready true false willing place none = refl
no_unready false false willing place none = refl
no_unready free true willing place none = absurd (cc)

pub room_unready : (free ready willing place : Bool) → willing ≡ true → place ≡ true → (free && ready && (not willing || not place)) ≡ false
room_unready true true true true on there = refl
room_unready true false true true on there = refl
room_unready false ready true true on there = refl
room_unready free ready true false on there = absurd (cc)
room_unready free ready false place on there = absurd (cc)

there_is_place : (desk : Desk) (body : Body) → used body + 1 ≤ desk.capacity → has_place desk body ≡ true
there_is_place desk body room = lt-ltb (used body) desk.capacity (omega (arith, room))

unready_not : (desk : Desk) (test : Bool) (body : Body) → body.intake.ready ≡ test → RoomIf test desk.capacity body → unreadies_now desk body ≡ false
unready_not desk true body is room = room_unready (is_intake_free body) body.intake.ready body.entry.willing (has_place desk body) room.willing (there_is_place desk body room.place)
unready_not desk false body is room = no_unready (is_intake_free body) body.intake.ready body.entry.willing (has_place desk body) is

unready_is : (desk : Desk) (body : Body) → unreadies_now desk body ≡ false → unready desk body ≡ stays body
unready_is desk body none = ap (λ (test : Bool). unready_by desk test body) none

ready_is : (desk : Desk) (body : Body) → readies_now desk body ≡ false → ready desk body ≡ stays body
ready_is desk body none = ap (λ (test : Bool). ready_by desk test body) none

start_is : (desk : Desk) (body : Body) → starts_now body ≡ false → start desk body ≡ stays body
start_is desk body none = ap (λ (test : Bool). start_by desk test body) none

abbrev not_idle : Lower → Record → Bool
not_idle (takes begun heard) r = true
not_idle stopped r = true
not_idle _ r = false

busy : {capacity : ℕ} {r : Record} (l : Lower) (body : Body) → IsLower capacity r l body → not_idle l r ≡ true → is_intake_free body ≡ false
busy {r = r} (takes begun heard) body is b = ap (λ (p : Phase). is_free (name_of_phase p)) is.phase
busy {r = r} stopped body is b = ap (λ (p : Phase). is_free (name_of_phase p)) is.phase
busy readies body is b = absurd (cc)
busy asked body is b = absurd (cc)
busy (settled again) body is b = absurd (cc)

no_ready : (stands free ready willing place : Bool) → ready ≡ true → (stands && free && not ready && willing && place) ≡ false
no_ready true true true willing place is = refl
no_ready true false true willing place is = refl
no_ready false true true willing place is = refl
no_ready false false true willing place is = refl
no_ready stands free false willing place is = absurd (cc)

busy_ready : (stands free ready willing place : Bool) → free ≡ false → (stands && free && not ready && willing && place) ≡ false
busy_ready true false ready willing place is = refl
busy_ready false false ready willing place is = refl
busy_ready stands true ready willing place is = absurd (cc)

no_start : (stands free ready offer : Bool) → offer ≡ false → (stands && free && ready && offer) ≡ false
no_start true true true false is = refl
no_start true true false false is = refl
no_start true false ready false is = refl
no_start false free ready false is = refl
no_start stands free ready true is = absurd (cc)

pub ready_tests : (stands free ready willing place : Bool) → (stands && free && not ready && willing && place) ≡ true → (willing ≡ true) × (place ≡ true)
ready_tests stands free ready true true is = (refl, refl)
ready_tests true true true false place is = absurd (cc)
ready_tests true true false false place is = absurd (cc)
ready_tests true false ready false place is = absurd (cc)
ready_tests false free ready false place is = absurd (cc)
ready_tests true true true true false is = absurd (cc)
ready_tests true true false true false is = absurd (cc)
ready_tests true false ready true false is = absurd (cc)
ready_tests false free ready true false is = absurd (cc)

again_ready : {capacity : ℕ} {r : Record} (desk : Desk) (body : Body) → IsLower capacity r (settled false) body → body.entry.willing ≡ true → used body + 1 ≤ capacity
    → Turns capacity r (settled true) (acts.Sends Entry (record { stamp = Some desk.moment; body = message.MachineReady quality.Unknown }) ∷ []) (ready_by desk true body)
again_ready {capacity = capacity} {r = r} desk body is willing place =
    subst (λ (b : Body). b.entry.willing ≡ true → used b + 1 ≤ capacity → Turns capacity r (settled true) (acts.Sends Entry (record { stamp = Some desk.moment; body = message.MachineReady quality.Unknown }) ∷ []) (ready_by desk true b)) (sym (in_is Idle None false body is.stands is.role is.phase is.offer is.ready))
    (λ on there. record { lower = record { stands = refl; role = refl; phase = refl; offer = refl; ready = refl; room = record { willing = on; place = there } }; reached = refl }) willing place

by_ready : {r : Record} (desk : Desk) (body : Body) (test : Bool) → IsLower desk.capacity r (settled false) body → readies_now desk body ≡ test → Announced desk r (settled false) (ready_by desk test body)
by_ready desk body true is now =
    let both = ready_tests (is_standing Entry body) (is_intake_free body) body.intake.ready body.entry.willing (has_place desk body) now in
    let less : used body < desk.capacity = ltb-true (used body) desk.capacity both.1 in
    record { next = settled true; told = acts.Sends Entry (record { stamp = Some desk.moment; body = message.MachineReady quality.Unknown }) ∷ []; follows = follows_ready; turns = again_ready desk body is both.0 (omega (arith, less)) }
by_ready desk body false is now = announced_none (record { lower = is; reached = refl })

ready_not : (desk : Desk) (body : Body) → body.intake.ready ≡ true → readies_now desk body ≡ false
ready_not desk body is = no_ready (is_standing Entry body) (is_intake_free body) body.intake.ready body.entry.willing (has_place desk body) is

busy_not : (desk : Desk) (body : Body) → is_intake_free body ≡ false → readies_now desk body ≡ false
busy_not desk body is = busy_ready (is_standing Entry body) (is_intake_free body) body.intake.ready body.entry.willing (has_place desk body) is

ready_turns : {r : Record} (l : Lower) (desk : Desk) (body : Body) → IsLower desk.capacity r l body → Announced desk r l (ready desk body)
ready_turns readies desk body is = announced_none (stays_turns is (ready_is desk body (ready_not desk body is.ready)))
ready_turns asked desk body is = announced_none (stays_turns is (ready_is desk body (ready_not desk body is.ready)))
ready_turns (settled true) desk body is = announced_none (stays_turns is (ready_is desk body (ready_not desk body is.ready)))
ready_turns (takes begun heard) desk body is = announced_none (stays_turns is (ready_is desk body (busy_not desk body (busy (takes begun heard) body is refl))))
ready_turns stopped desk body is = announced_none (stays_turns is (ready_is desk body (busy_not desk body (busy stopped body is refl))))
ready_turns (settled false) desk body is = by_ready desk body (readies_now desk body) is refl

start_not : (body : Body) → body.intake.offer ≡ None → starts_now body ≡ false
start_not body is = no_start (is_standing Entry body) (is_intake_free body) body.intake.ready (is_some body.intake.offer) (ap (λ (o : Option Record). is_some o) is)

starts_turns : {capacity : ℕ} {r : Record} (desk : Desk) (body : Body) → IsLower capacity r asked body
    → Turns capacity r (takes false false) (acts.Sends Entry (record { stamp = Some desk.moment; body = message.StartTransport r.id }) ∷ acts.Drive Entry true ∷ []) (start desk body)
starts_turns {capacity = capacity} {r = r} desk body is =
    subst (λ (b : Body). Turns capacity r (takes false false) (acts.Sends Entry (record { stamp = Some desk.moment; body = message.StartTransport r.id }) ∷ acts.Drive Entry true ∷ []) (start desk b)) (sym (in_is Idle (Some r) true body is.stands is.role is.phase is.offer is.ready))
    (record { lower = record { stands = refl; role = refl; phase = refl; offer = refl; ready = refl; room = tt }; reached = refl })

-- a machine that was asked for a start has started behind its announcements
abbrev pub IsRest : Lower → Type 0
IsRest asked = ⊥
IsRest _ = Unit {0}

pub record Rested (desk : Desk) (r : Record) (l : Lower) (d : Done) : Type 0 where
  pub announced : Announced desk r l d
  pub rests : IsRest announced.next

start_turns : {r : Record} (l : Lower) (desk : Desk) (body : Body) → IsLower desk.capacity r l body → Rested desk r l (start desk body)
start_turns readies desk body is = record { announced = record { next = readies; told = []; follows = follows_none; turns = stays_turns is (start_is desk body (start_not body is.offer)) }; rests = tt }
start_turns (settled again) desk body is = record { announced = record { next = settled again; told = []; follows = follows_none; turns = stays_turns is (start_is desk body (start_not body is.offer)) }; rests = tt }
start_turns (takes begun heard) desk body is = record { announced = record { next = takes begun heard; told = []; follows = follows_none; turns = stays_turns is (start_is desk body (start_not body is.offer)) }; rests = tt }
start_turns stopped desk body is = record { announced = record { next = stopped; told = []; follows = follows_none; turns = stays_turns is (start_is desk body (start_not body is.offer)) }; rests = tt }
start_turns {r = r} asked desk body is =
    record { announced = record { next = takes false false; told = acts.Sends Entry (record { stamp = Some desk.moment; body = message.StartTransport r.id }) ∷ acts.Drive Entry true ∷ []; follows = follows_start; turns = starts_turns desk body is }; rests = tt }

follows_both : {desk : Desk} {r : Record} {l m n : Lower} {a b : List Act} → Follows desk r l m a → Follows desk r m n b → Follows desk r l n (a ++ b)
follows_both follows_none last = last
follows_both follows_start follows_none = follows_start
follows_both follows_ready follows_none = follows_ready

pub announces_turn : {r : Record} (l : Lower) (desk : Desk) (body : Body) → IsLower desk.capacity r l body → Rested desk r l (announces desk body)
announces_turn {r = r} l desk body is =
    let one = revoke desk body in
    let first : Turns desk.capacity r l [] one = turns_aside is (revoke_aside desk (revokes_now body) body) in
    let two = unready desk one.body in
    let second : Turns desk.capacity r l [] two = stays_turns first.lower (unready_is desk one.body (unready_not desk (ready_of l) one.body first.lower.ready first.lower.room)) in
    let three = offer desk two.body in
    let third : Turns desk.capacity r l [] three = turns_aside second.lower (offer_aside desk (offers_now two.body) (slice_get two.body.kept 0) two.body) in
    let four = ready desk three.body in
    let fourth : Announced desk r l four = ready_turns l desk three.body third.lower in
    let last : Rested desk r fourth.next (start desk four.body) = start_turns fourth.next desk four.body fourth.turns.lower in
    let fifth = last.announced in
    record {
      rests = last.rests;
      announced = record {
        next = fifth.next;
        told = fourth.told ++ fifth.told;
        follows = follows_both fourth.follows fifth.follows;
        turns = turns_both one (λ (b : Body). and_then (unready desk b) (λ c. and_then (offer desk c) (λ d. and_then (ready desk d) (start desk)))) first
            (turns_both two (λ (b : Body). and_then (offer desk b) (λ c. and_then (ready desk c) (start desk))) second
            (turns_both three (λ (b : Body). and_then (ready desk b) (start desk)) third (turns_both four (start desk) fourth.turns fifth.turns)));
      };
    }

-- ---- a step of the machine

-- what the supervisor is told of it reaches no link
turns_telling : {capacity : ℕ} {r : Record} {l : Lower} {said : List Act} (desk : Desk) (body : Body)
    (did : Done) → Turns capacity r l said did → Turns capacity r l said (telling desk body did)
turns_telling desk body did t =
    record { lower = t.lower; reached = tells_reach Entry desk (watch_of desk body) did.acts ∙ t.reached }

-- whatever befalls its exit
pub step_aside : {r : Record} {l m : Lower} {said : List Act} (desk : Desk) (unread : List Sensed) (event : Event) (body : Body) → IsLower desk.capacity r l body → Reads desk r l (events_at Entry unread) m said
    → Aside (all_read desk unread body).body (event_did desk event (all_read desk unread body).body) → (next : Lower) × (told : List Act) × IsRest next × Follows desk r m next told × Turns desk.capacity r next (said ++ told) (machine_step desk unread event body)
step_aside {r = r} {m = m} {said = said} desk unread event body is rs aside =
    let read = all_read desk unread body in
    let first = all_turn desk unread body is rs in
    let did = event_did desk event read.body in
    let second : Turns desk.capacity r m [] did = turns_aside first.lower aside in
    let third = announces_turn m desk did.body second.lower in (
      third.announced.next,
      third.announced.told,
      third.rests,
      third.announced.follows,
      turns_telling desk body (plain_step desk unread event body)
          (turns_both read (λ (b : Body). and_then (event_did desk event b) (announces desk)) first
          (turns_both did (announces desk) second third.announced.turns)),
    )

last_turns : {capacity : ℕ} {r : Record} {l : Lower} (desk : Desk) (body : Body) → IsLower capacity r l body → Turns capacity r l [] (all_heard desk Entry [] body)
last_turns desk body is = record { lower = is; reached = refl }

pub open_if : (state : SessionState) → state ≡ Standing → is_connected_state state ≡ true
open_if state is = ap (λ (s : SessionState). is_connected_state s) is

-- and where it hears one message at its entry
pub step_hears : {r : Record} {l m n : Lower} {said heard : List Act} (desk : Desk) (unread : List Sensed) (one : Message) (body : Body) → IsLower desk.capacity r l body → Reads desk r l (events_at Entry unread) m said → Hears r m one.body n heard
    → (next : Lower) × (told : List Act) × IsRest next × Follows desk r n next told × Turns desk.capacity r next (said ++ (heard ++ told)) (machine_step desk unread (Words Entry (Says one ∷ [])) body)
step_hears {r = r} {m = m} {n = n} {said = said} {heard = heard} desk unread one body is rs hs =
    let read = all_read desk unread body in
    let first = all_turn desk unread body is rs in
    let word : Turns desk.capacity r n heard (hears desk Entry one read.body) = hears_turns desk one.stamp read.body hs first.lower in
    let heard_one : Turns desk.capacity r n (heard ++ []) (and_then (hears desk Entry one read.body) (all_heard desk Entry [])) = turns_both (hears desk Entry one read.body) (all_heard desk Entry []) word (last_turns desk (hears desk Entry one read.body).body word.lower) in
    let second : Turns desk.capacity r n heard (all_heard desk Entry (Says one ∷ []) read.body) =
    subst (λ (test : Bool). Turns desk.capacity r n heard (if_open test (and_then (hears desk Entry one read.body) (all_heard desk Entry [])) read.body)) (sym (open_if read.body.entry.session.state first.lower.stands))
    (subst (λ (told : List Act). Turns desk.capacity r n told (and_then (hears desk Entry one read.body) (all_heard desk Entry []))) (append-nil heard) heard_one) in
    let event : Event = Words Entry (Says one ∷ []) in
    let did = all_heard desk Entry (Says one ∷ []) read.body in
    let third = announces_turn n desk did.body second.lower in (
      third.announced.next,
      third.announced.told,
      third.rests,
      third.announced.follows,
      turns_telling desk body (plain_step desk unread event body)
          (turns_both read (λ (b : Body). and_then (event_did desk event b) (announces desk)) first
          (turns_both did (announces desk) second third.announced.turns)),
    )
