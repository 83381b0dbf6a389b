-- THE MACHINE ABOVE the gap, at its exit: how far it is in an undisturbed handover, and what its steps do to that.
use Rattle.std.proofs.Common.{Bool, List, None, Option, Some, [], ap, false, refl, sym, true, ℕ, ℤ, ◌++◌, ◌∙◌, ◌∷◌, ◌≡◌, subst, append-nil}
use Rattle.std.specs.Prelude.{is_none, is_some, not, slice_get, ◌&&◌, ◌||◌}
use Rattle.law_twelve_steps.proofs.Lower.{open_if, room_unready}
use Rattle.law_custody.proofs.Rows.{same as own_id}
use Rattle.line_base.specs.declared.states.Quality.{Quality}
use Rattle.line_base.specs.declared.states.Role.TheVariants.{Upstream}
use Rattle.line_base.specs.declared.states.SensorEvent.{SensorEvent}
use Rattle.line_base.specs.declared.states.SensorEvent.TheVariants as sensor
use Rattle.line_base.specs.declared.states.Side.{Side}
use Rattle.line_base.specs.declared.states.Side.TheVariants.{Entry, Exit}
use Rattle.line_base.specs.declared.states.Transfer.{Transfer}
use Rattle.line_base.specs.declared.states.Transfer.TheVariants as transfer
use Rattle.board_record.specs.declared.record.Record.{Record}
use Rattle.board_record.specs.declared.sensed.Sensed.{Sensed as Seen}
use Rattle.hermes_horizontal.specs.declared.message.Horizontal.{Horizontal}
use Rattle.hermes_horizontal.specs.declared.message.Horizontal.TheVariants as message
use Rattle.hermes_horizontal.specs.declared.message.Message.{Message}
use Rattle.session_core.specs.End.{taken}
use Rattle.session_core.specs.declared.state.SessionState.TheVariants.{Standing}
use Rattle.handover_out.specs.Act.{nothing}
use Rattle.handover_out.specs.Row.{OutRow, outlet_row, row_if, started}
use Rattle.handover_out.specs.State.{OutState, is_idle_phase, would_open}
use Rattle.handover_out.specs.declared.act.OutDeed.TheVariants.{Opens}
use Rattle.handover_out.specs.declared.input.OutInput.TheVariants as out_input
use Rattle.handover_out.specs.declared.phase.Phase.{Phase}
use Rattle.handover_out.specs.declared.phase.Phase.TheVariants.{Ended, Idle, Moving}
use Rattle.law_custody.specs.Words.{events_at}
use Rattle.node_core.specs.Announces.{announces, is_front, offer, offer_by, offers_now, readies_now, ready, ready_by, revoke, revoke_by, revokes_now, start, start_by, starts_now, unready, unready_by, unreadies_now}
use Rattle.node_core.specs.Desk.{Desk}
use Rattle.node_core.specs.Done.{Done, and_then, stays}
use Rattle.node_core.specs.Event.{Event, Words, event_did}
use Rattle.node_core.specs.Halves.{behind_opening, opening_board, outlet_did}
use Rattle.node_core.specs.Hears.{hears, outlet_took, passed, start_took}
use Rattle.node_core.specs.Reads.{all_read, reads}
use Rattle.node_core.specs.Sides.{is_standing}
use Rattle.node_core.specs.Step.{machine_step, plain_step}
use Rattle.node_core.specs.Supervising.{telling, watch_of}
use Rattle.node_core.specs.Words.{all_heard}
use Rattle.node_core.specs.Connect.{if_open}
use Rattle.node_core.specs.declared.act.Act.{Act}
use Rattle.node_core.specs.declared.act.Act.TheVariants as acts
use Rattle.node_core.specs.declared.lane.Body.{Body}
use Rattle.node_core.specs.declared.lane.End.{End}
use Rattle.node_core.specs.declared.word.Word.TheVariants.{Says}
use Rattle.handover_in.specs.declared.input.InInput.TheVariants as in_input
use Rattle.law_twelve_steps.proofs.Beside.{IsFirst, Leaves, SameUpper, at_intake_leaves, leaves_still, reaches, reaches_append, reads_leave, tells_reach}

-- it offers the board, and has heard of the place or not; it moves the board out, and has read that it begins or not; it has read
-- that the board left; and it has heard the stop, and offers the next board or not
pub data Upper : Type 0 where
  offers : Bool → Upper
  moves : Bool → Upper
  ended : Upper
  over : Option Record → Upper

abbrev pub phase_of : Record → Upper → Phase
phase_of r (offers ready) = Idle
phase_of r (moves begun) = Moving r begun
phase_of r ended = Ended r.id
phase_of r (over more) = Idle

abbrev pub ready_of : Upper → Bool
ready_of (offers ready) = ready
ready_of _ = false

-- the front record is offered, and the machine is willing
pub record Offers (r : Record) (body : Body) : Type 0 where
  pub offered : body.outlet.offered ≡ Some r.id
  pub front : IsFirst r body.kept
  pub willing : body.exit.willing ≡ true

abbrev pub Announces : Record → Upper → Body → Type 0
Announces r (offers ready) body = Offers r body
Announces r (over (Some next)) body = Offers next body
Announces r _ body = body.outlet.offered ≡ None

pub record IsUpper (r : Record) (u : Upper) (body : Body) : Type 0 where
  pub stands : body.exit.session.state ≡ Standing
  pub role : body.exit.session.role ≡ Upstream
  pub phase : body.outlet.phase ≡ phase_of r u
  pub ready : body.outlet.ready ≡ ready_of u
  pub offer : Announces r u body

-- an event leaves the machine so, and these acts reach its exit
pub record Turns (r : Record) (u : Upper) (said : List Act) (d : Done) : Type 0 where
  pub upper : IsUpper r u d.body
  pub reached : reaches Exit d.acts ≡ said

pub turns_both : {r : Record} {one two : Upper} {a b : List Act} (first : Done) (next : Body → Done) → Turns r one a first → Turns r two b (next first.body) → Turns r two (a ++ b) (and_then first next)
turns_both {a = a} first next x y = record { upper = y.upper; reached = reaches_append Exit first.acts (next first.body).acts ∙ ap (λ (xs : List Act). xs ++ reaches Exit (next first.body).acts) x.reached ∙ ap (λ (ys : List Act). a ++ ys) y.reached }

offers_same : {r : Record} {body after : Body} → SameUpper body after → Offers r body → Offers r after
offers_same {r = r} {body = body} s o = record { offered = ap (λ (x : OutState). x.offered) s.outlet ∙ o.offered; front = s.front r o.front; willing = ap (λ (e : End). e.willing) s.exit ∙ o.willing }

announces_same : (r : Record) (u : Upper) {body after : Body} → SameUpper body after → Announces r u body → Announces r u after
announces_same r (offers heard) s o = offers_same s o
announces_same r (moves begun) s o = ap (λ (x : OutState). x.offered) s.outlet ∙ o
announces_same r ended s o = ap (λ (x : OutState). x.offered) s.outlet ∙ o
announces_same r (over (Some next)) s o = offers_same s o
announces_same r (over None) s o = ap (λ (x : OutState). x.offered) s.outlet ∙ o

pub upper_same : {r : Record} (u : Upper) {body after : Body} → SameUpper body after → IsUpper r u body → IsUpper r u after
upper_same {r = r} u s is = record {
  stands = ap (λ (e : End). e.session.state) s.exit ∙ is.stands;
  role = ap (λ (e : End). e.session.role) s.exit ∙ is.role;
  phase = ap (λ (x : OutState). x.phase) s.outlet ∙ is.phase;
  ready = ap (λ (x : OutState). x.ready) s.outlet ∙ is.ready;
  offer = announces_same r u s is.offer;
}

-- what the other side does leaves it as it is
pub turns_beside : {r : Record} {u : Upper} {body : Body} {d : Done} → IsUpper r u body → Leaves Entry body d → Turns r u [] d
turns_beside {u = u} is l = record { upper = upper_same u l.half is; reached = l.silent }

-- ---- a body with these parts

abbrev with_out : Phase → Option ℕ → Bool → Body → Body
with_out phase offered ready body = record body {
  outlet = record body.outlet { phase = phase; offered = offered; ready = ready };
  exit = record body.exit { session = record body.exit.session { state = Standing; role = Upstream } };
}

out_is : (phase : Phase) (offered : Option ℕ) (ready : Bool) (body : Body) → body.exit.session.state ≡ Standing → body.exit.session.role ≡ Upstream → body.outlet.phase ≡ phase → body.outlet.offered ≡ offered → body.outlet.ready ≡ ready
    → body ≡ with_out phase offered ready body
out_is phase offered ready body s r p o d = λ i. record body {
  outlet = record body.outlet { phase = p i; offered = o i; ready = d i };
  exit = record body.exit { session = record body.exit.session { state = s i; role = r i } };
}

-- ---- sensor events

pub data Reads (desk : Desk) (r : Record) : Upper → List SensorEvent → Upper → List Act → Type 0 where
  reads_none : {u : Upper} → Reads desk r u [] u []
  reads_begun : {u : Upper} {events : List SensorEvent} {said : List Act} → Reads desk r (moves true) events u said → Reads desk r (moves false) (sensor.Begun ∷ events) u said
  reads_left : {u : Upper} {events : List SensorEvent} {said : List Act} → Reads desk r ended events u said
      → Reads desk r (moves true) (sensor.Left ∷ events) u (acts.Sends Exit (record { stamp = Some desk.moment; body = message.TransportFinished transfer.Complete r.id }) ∷ acts.Drive Exit false ∷ said)

begun_turns : (desk : Desk) (r : Record) (body : Body) → IsUpper r (moves false) body → Turns r (moves true) [] (reads desk (record { side = Exit; event = sensor.Begun }) body)
begun_turns desk r body is =
    let same = out_is (Moving r false) None false body is.stands is.role is.phase is.offer is.ready in
    subst (λ (b : Body). Turns r (moves true) [] (reads desk (record { side = Exit; event = sensor.Begun }) b)) (sym same)
    (record { upper = record { stands = refl; role = refl; phase = refl; ready = refl; offer = refl }; reached = refl })

left_turns : (desk : Desk) (r : Record) (body : Body) → IsUpper r (moves true) body
    → Turns r ended (acts.Sends Exit (record { stamp = Some desk.moment; body = message.TransportFinished transfer.Complete r.id }) ∷ acts.Drive Exit false ∷ []) (reads desk (record { side = Exit; event = sensor.Left }) body)
left_turns desk r body is =
    let same = out_is (Moving r true) None false body is.stands is.role is.phase is.offer is.ready in
    subst (λ (b : Body). Turns r ended (acts.Sends Exit (record { stamp = Some desk.moment; body = message.TransportFinished transfer.Complete r.id }) ∷ acts.Drive Exit false ∷ []) (reads desk (record { side = Exit; event = sensor.Left }) b)) (sym same)
    (record { upper = record { stands = refl; role = refl; phase = refl; ready = refl; offer = refl }; reached = refl })

one_turns : {r : Record} {u v : Upper} {said : List Act} (desk : Desk) (side : Side) (event : SensorEvent) (unread : List Seen) (body : Body)
    → ((w : Upper) (more : List Act) (b : Body) → IsUpper r w b → Reads desk r w (events_at Exit unread) v more → Turns r v more (all_read desk unread b))
    → IsUpper r u body → Reads desk r u (events_at Exit (record { side = side; event = event } ∷ unread)) v said → Turns r v said (all_read desk (record { side = side; event = event } ∷ unread) body)
one_turns desk Entry event unread body others is rs =
    let one = reads desk (record { side = Entry; event = event }) body in
    let first = turns_beside is (reads_leave desk Entry event body) in
    turns_both one (all_read desk unread) first (others _ _ one.body first.upper rs)
one_turns {r = r} desk Exit _ unread body others is (reads_begun rs) =
    let one = reads desk (record { side = Exit; event = sensor.Begun }) body in
    let first = begun_turns desk r body is in
    turns_both one (all_read desk unread) first (others _ _ one.body first.upper rs)
one_turns {r = r} desk Exit _ unread body others is (reads_left rs) =
    let one = reads desk (record { side = Exit; event = sensor.Left }) body in
    let first = left_turns desk r body is in
    turns_both one (all_read desk unread) first (others _ _ one.body first.upper rs)

pub all_turn : {r : Record} {u v : Upper} {said : List Act} (desk : Desk) (unread : List Seen) (body : Body) → IsUpper r u body → Reads desk r u (events_at Exit unread) v said → Turns r v said (all_read desk unread body)
all_turn desk [] body is reads_none = record { upper = is; reached = refl }
all_turn desk (seen ∷ unread) body is rs = one_turns desk seen.side seen.event unread body (λ w more b i more_rs. all_turn desk unread b i more_rs) is rs

-- ---- messages

pub data Hears (r : Record) : Upper → Horizontal → Upper → List Act → Type 0 where
  hears_ready : {quality : Quality} → Hears r (offers false) (message.MachineReady quality) (offers true) []
  hears_start : Hears r (offers true) (message.StartTransport r.id) (moves false) (acts.Drive Exit true ∷ [])
  hears_stop : {said : Transfer} → Hears r ended (message.StopTransport said r.id) (over None) []

start_turns : (desk : Desk) (stamp : Option ℤ) (r : Record) (others : List Record) (body : Body) → body.kept ≡ r ∷ others → body.exit.session.state ≡ Standing → body.exit.session.role ≡ Upstream
    → body.outlet ≡ record { phase = Idle; offered = Some r.id; touched = body.outlet.touched; ready = true }
    → Turns r (moves false) (acts.Drive Exit true ∷ []) (passed desk Exit (record { stamp = stamp; body = message.StartTransport r.id }) body (start_took desk r.id (would_open body.outlet r.id) body))
start_turns desk stamp r others body kept stands role outlet =
    let s : OutState = record { phase = Idle; offered = Some r.id; touched = body.outlet.touched; ready = true } in
    let e = own_id r.id in
    let opened : would_open body.outlet r.id ≡ true = ap (λ (o : OutState). would_open o r.id) outlet ∙ e in
    let after : Body = record body { kept = others } in
    let found : outlet_row body.outlet (out_input.Start r.id (opening_board true body.kept)) ≡ Some (record { after = started s (Moving r false); act = record nothing { deed = Some (Opens r.id); drive = Some true } }) =
    ap (λ (ks : List Record). outlet_row body.outlet (out_input.Start r.id (opening_board true ks))) kept ∙ (ap (λ (o : OutState). outlet_row o (out_input.Start r.id (Some r))) outlet ∙ ap (λ (test : Bool). row_if test (started s (Moving r false)) (record nothing { deed = Some (Opens r.id); drive = Some true })) e) in
    let took : start_took desk r.id (would_open body.outlet r.id) body ≡ Some (outlet_did desk after (record { after = started s (Moving r false); act = record nothing { deed = Some (Opens r.id); drive = Some true } })) =
    ap (λ (test : Bool). start_took desk r.id test body) opened ∙ (ap (λ (ks : List Record). outlet_took desk (record body { kept = behind_opening true ks }) (outlet_row body.outlet (out_input.Start r.id (opening_board true body.kept)))) kept ∙ ap (λ (x : Option OutRow). outlet_took desk after x) found) in
    subst (λ (x : Option Done). Turns r (moves false) (acts.Drive Exit true ∷ []) (passed desk Exit (record { stamp = stamp; body = message.StartTransport r.id }) body x)) (sym took)
    (record { upper = record { stands = stands; role = role; phase = refl; ready = refl; offer = refl }; reached = refl })

pub hears_turns : {r : Record} {u v : Upper} {what : Horizontal} {said : List Act} (desk : Desk) (stamp : Option ℤ) (body : Body) → Hears r u what v said → IsUpper r u body → Turns r v said (hears desk Exit (record { stamp = stamp; body = what }) body)
hears_turns {r = r} desk stamp body (hears_ready {quality = q}) is =
    let same = out_is Idle (Some r.id) false body is.stands is.role is.phase is.offer.offered is.ready in
    let o = is.offer in
    subst (λ (b : Body). IsFirst r b.kept → b.exit.willing ≡ true → Turns r (offers true) [] (hears desk Exit (record { stamp = stamp; body = message.MachineReady q }) b)) (sym same)
    (λ front willing. record { upper = record { stands = refl; role = refl; phase = refl; ready = refl; offer = record { offered = refl; front = front; willing = willing } }; reached = refl }) o.front o.willing
hears_turns {r = r} desk stamp body hears_start is =
    let o = is.offer in
    let same = out_is Idle (Some r.id) true body is.stands is.role is.phase o.offered is.ready in
    let full : body ≡ record (with_out Idle (Some r.id) true body) { kept = r ∷ o.front.others } = same ∙ ap (λ (ks : List Record). record (with_out Idle (Some r.id) true body) { kept = ks }) o.front.is in
    subst (λ (b : Body). Turns r (moves false) (acts.Drive Exit true ∷ []) (hears desk Exit (record { stamp = stamp; body = message.StartTransport r.id }) b)) (sym full)
    (start_turns desk stamp r o.front.others (record (with_out Idle (Some r.id) true body) { kept = r ∷ o.front.others; exit = record (with_out Idle (Some r.id) true body).exit { session = taken (with_out Idle (Some r.id) true body).exit.session } }) refl refl refl refl)
hears_turns {r = r} desk stamp body (hears_stop {said = said}) is =
    let same = out_is (Ended r.id) None false body is.stands is.role is.phase is.offer is.ready in
    let e = own_id r.id in
    subst (λ (b : Body). Turns r (over None) [] (hears desk Exit (record { stamp = stamp; body = message.StopTransport said r.id }) b)) (sym same)
    (rw e (record { upper = record { stands = refl; role = refl; phase = refl; ready = refl; offer = refl }; reached = refl }))

-- ---- announcements

-- what the exit announces behind a handover: the next board, or nothing
pub data Follows (desk : Desk) : Upper → Upper → List Act → Type 0 where
  follows_none : {u : Upper} → Follows desk u u []
  follows_offer : {next : Record} → Follows desk (over None) (over (Some next)) (acts.Sends Exit (record { stamp = Some desk.moment; body = message.BoardAvailable next }) ∷ [])

-- it goes on so
pub record Announced (desk : Desk) (r : Record) (u : Upper) (d : Done) : Type 0 where
  pub next : Upper
  pub told : List Act
  pub follows : Follows desk u next told
  pub turns : Turns r next told d

front_test : (r : Record) (kept : List Record) → IsFirst r kept → is_front (Some r.id) (slice_get kept 0) ≡ true
front_test r kept first = ap (λ (ks : List Record). is_front (Some r.id) (slice_get ks 0)) first.is ∙ own_id r.id

by_none : (idle offered test : Bool) → offered ≡ false → (idle && offered && test) ≡ false
by_none true false test none = refl
by_none false offered test none = refl
by_none true true test none = absurd (cc)

revoke_none : (offered : Option ℕ) (willing : Bool) (kept : List Record) (phase : Phase) → willing ≡ true → is_front offered (slice_get kept 0) ≡ true → (is_idle_phase phase && is_some offered && (not willing || not (is_front offered (slice_get kept 0)))) ≡ false
revoke_none offered willing kept phase on front = room_unready (is_idle_phase phase) (is_some offered) willing (is_front offered (slice_get kept 0)) on front

revoke_nothing : (offered : Option ℕ) (test idle : Bool) → offered ≡ None → (idle && is_some offered && test) ≡ false
revoke_nothing offered test idle none = by_none idle (is_some offered) test (ap (λ (o : Option ℕ). is_some o) none)

by_offer : (r : Record) (body : Body) → Offers r body → revokes_now body ≡ false
by_offer r body o = revoke_none body.outlet.offered body.exit.willing body.kept body.outlet.phase o.willing (ap (λ (x : Option ℕ). is_front x (slice_get body.kept 0)) o.offered ∙ front_test r body.kept o.front)

revokes_not : {r : Record} (u : Upper) (body : Body) → IsUpper r u body → revokes_now body ≡ false
revokes_not {r = r} (offers heard) body is = by_offer r body is.offer
revokes_not (over (Some next)) body is = by_offer next body is.offer
revokes_not (over None) body is = revoke_nothing body.outlet.offered _ (is_idle_phase body.outlet.phase) is.offer
revokes_not (moves begun) body is = revoke_nothing body.outlet.offered _ (is_idle_phase body.outlet.phase) is.offer
revokes_not ended body is = revoke_nothing body.outlet.offered _ (is_idle_phase body.outlet.phase) is.offer

-- ---- each announcement in turn

revoke_is : (desk : Desk) (body : Body) → revokes_now body ≡ false → revoke desk body ≡ stays body
revoke_is desk body none = ap (λ (test : Bool). revoke_by desk test body) none

stays_turns : {r : Record} {u : Upper} {body : Body} {d : Done} → IsUpper r u body → d ≡ stays body → Turns r u [] d
stays_turns {r = r} {u = u} {body = body} is same = subst (λ (x : Done). Turns r u [] x) (sym same) (record { upper = is; reached = refl })

pub unready_beside : (desk : Desk) (test : Bool) (body : Body) → Leaves Entry body (unready_by desk test body)
unready_beside desk true body = at_intake_leaves desk in_input.Unready body
unready_beside desk false body = leaves_still Entry body

pub ready_beside : (desk : Desk) (test : Bool) (body : Body) → Leaves Entry body (ready_by desk test body)
ready_beside desk true body = at_intake_leaves desk in_input.Ready body
ready_beside desk false body = leaves_still Entry body

pub start_beside : (desk : Desk) (test : Bool) (body : Body) → Leaves Entry body (start_by desk test body)
start_beside desk true body = at_intake_leaves desk in_input.Start body
start_beside desk false body = leaves_still Entry body

no_offer : (stands idle offered willing : Bool) → offered ≡ false → (stands && idle && offered && willing) ≡ false
no_offer true true false willing none = refl
no_offer true false false willing none = refl
no_offer false true false willing none = refl
no_offer false false false willing none = refl
no_offer stands idle true willing none = absurd (cc)

no_phase : (stands idle offered willing : Bool) → idle ≡ false → (stands && idle && offered && willing) ≡ false
no_phase true false offered willing none = refl
no_phase false false offered willing none = refl
no_phase stands true offered willing none = absurd (cc)

offer_is : (desk : Desk) (body : Body) → offers_now body ≡ false → offer desk body ≡ stays body
offer_is desk body none = ap (λ (test : Bool). offer_by desk test (slice_get body.kept 0) body) none

offered_not : (r : Record) (body : Body) → Offers r body → offers_now body ≡ false
offered_not r body o = no_offer (is_standing Exit body) (is_idle_phase body.outlet.phase) (is_none body.outlet.offered) body.exit.willing (ap (λ (x : Option ℕ). is_none x) o.offered)

busy_not : (phase : Phase) (body : Body) → body.outlet.phase ≡ phase → is_idle_phase phase ≡ false → offers_now body ≡ false
busy_not phase body is none = no_phase (is_standing Exit body) (is_idle_phase body.outlet.phase) (is_none body.outlet.offered) body.exit.willing (ap (λ (p : Phase). is_idle_phase p) is ∙ none)

announced_none : {desk : Desk} {r : Record} {u : Upper} {d : Done} → Turns r u [] d → Announced desk r u d
announced_none {u = u} t = record { next = u; told = []; follows = follows_none; turns = t }

pub last_willing : (stands idle offered willing : Bool) → (stands && idle && offered && willing) ≡ true → willing ≡ true
last_willing stands idle offered true on = refl
last_willing true true true false on = on
last_willing true true false false on = on
last_willing true false offered false on = on
last_willing false idle offered false on = on

next_offers : {r : Record} (desk : Desk) (body : Body) (next : Record) (others : List Record) → IsUpper r (over None) body → body.kept ≡ next ∷ others → body.exit.willing ≡ true
    → Turns r (over (Some next)) (acts.Sends Exit (record { stamp = Some desk.moment; body = message.BoardAvailable next }) ∷ []) (offer_by desk true (Some next) body)
next_offers {r = r} desk body next others is kept on =
    let same = out_is Idle None false body is.stands is.role is.phase is.offer is.ready in
    let full : body ≡ record (with_out Idle None false body) { kept = next ∷ others; exit = record (with_out Idle None false body).exit { willing = true } } =
    same ∙ λ i. record (with_out Idle None false body) { kept = kept i; exit = record (with_out Idle None false body).exit { willing = on i } } in
    subst (λ (b : Body). Turns r (over (Some next)) (acts.Sends Exit (record { stamp = Some desk.moment; body = message.BoardAvailable next }) ∷ []) (offer_by desk true (Some next) b)) (sym full)
    (record { upper = record { stands = refl; role = refl; phase = refl; ready = refl; offer = record { offered = refl; front = record { others = others; is = refl }; willing = refl } }; reached = refl })

over_offers : {r : Record} (desk : Desk) (body : Body) (test : Bool) (kept : List Record) → IsUpper r (over None) body → offers_now body ≡ test → body.kept ≡ kept → Announced desk r (over None) (offer_by desk test (slice_get kept 0) body)
over_offers desk body true (next ∷ others) is now same = record {
  next = over (Some next);
  told = acts.Sends Exit (record { stamp = Some desk.moment; body = message.BoardAvailable next }) ∷ [];
  follows = follows_offer;
  turns = next_offers desk body next others is same (last_willing (is_standing Exit body) (is_idle_phase body.outlet.phase) (is_none body.outlet.offered) body.exit.willing now);
}
over_offers desk body true [] is now same = announced_none (record { upper = is; reached = refl })
over_offers desk body false (next ∷ others) is now same = announced_none (record { upper = is; reached = refl })
over_offers desk body false [] is now same = announced_none (record { upper = is; reached = refl })

offer_turns : {r : Record} (u : Upper) (desk : Desk) (body : Body) → IsUpper r u body → Announced desk r u (offer desk body)
offer_turns {r = r} (offers heard) desk body is = announced_none (stays_turns is (offer_is desk body (offered_not r body is.offer)))
offer_turns (over (Some next)) desk body is = announced_none (stays_turns is (offer_is desk body (offered_not next body is.offer)))
offer_turns (moves begun) desk body is = announced_none (stays_turns is (offer_is desk body (busy_not _ body is.phase refl)))
offer_turns ended desk body is = announced_none (stays_turns is (offer_is desk body (busy_not _ body is.phase refl)))
offer_turns (over None) desk body is = over_offers desk body (offers_now body) body.kept is refl refl

pub announces_turn : {r : Record} (u : Upper) (desk : Desk) (body : Body) → IsUpper r u body → Announced desk r u (announces desk body)
announces_turn {r = r} u desk body is =
    let one = revoke desk body in
    let first : Turns r u [] one = stays_turns is (revoke_is desk body (revokes_not u body is)) in
    let two = unready desk one.body in
    let second : Turns r u [] two = turns_beside first.upper (unready_beside desk (unreadies_now desk one.body) one.body) in
    let three = offer desk two.body in
    let third : Announced desk r u three = offer_turns u desk two.body second.upper in
    let four = ready desk three.body in
    let fourth : Turns r third.next [] four = turns_beside third.turns.upper (ready_beside desk (readies_now desk three.body) three.body) in
    let fifth : Turns r third.next [] (start desk four.body) = turns_beside fourth.upper (start_beside desk (starts_now four.body) four.body) in
    let all = turns_both one (λ (b : Body). and_then (unready desk b) (λ c. and_then (offer desk c) (λ d. and_then (ready desk d) (start desk)))) first
    (turns_both two (λ (b : Body). and_then (offer desk b) (λ c. and_then (ready desk c) (start desk))) second
    (turns_both three (λ (b : Body). and_then (ready desk b) (start desk)) third.turns (turns_both four (start desk) fourth fifth))) in
    record { next = third.next; told = third.told; follows = third.follows; turns = subst (λ (told : List Act). Turns r third.next told (announces desk body)) (append-nil third.told) all }

-- ---- a step of the machine

-- what the supervisor is told of it reaches no link
turns_telling : {r : Record} {u : Upper} {said : List Act} (desk : Desk) (body : Body) (did : Done)
    → Turns r u said did → Turns r u said (telling desk body did)
turns_telling desk body did t =
    record { upper = t.upper; reached = tells_reach Exit desk (watch_of desk body) did.acts ∙ t.reached }

-- whatever befalls its entry
pub step_beside : {r : Record} {u v : Upper} {said : List Act} (desk : Desk) (unread : List Seen) (event : Event) (body : Body) → IsUpper r u body → Reads desk r u (events_at Exit unread) v said
    → Leaves Entry (all_read desk unread body).body (event_did desk event (all_read desk unread body).body) → (next : Upper) × (told : List Act) × Follows desk v next told × Turns r next (said ++ told) (machine_step desk unread event body)
step_beside {r = r} {v = v} {said = said} desk unread event body is rs leaves =
    let read = all_read desk unread body in
    let first = all_turn desk unread body is rs in
    let did = event_did desk event read.body in
    let second : Turns r v [] did = turns_beside first.upper leaves in
    let third = announces_turn v desk did.body second.upper in (
      third.next,
      third.told,
      third.follows,
      turns_telling desk body (plain_step desk unread event body)
          (turns_both read (λ (b : Body). and_then (event_did desk event b) (announces desk)) first
          (turns_both did (announces desk) second third.turns)),
    )

last_turns : {r : Record} {u : Upper} (desk : Desk) (body : Body) → IsUpper r u body → Turns r u [] (all_heard desk Exit [] body)
last_turns desk body is = record { upper = is; reached = refl }

-- and where it hears one message at its exit
pub step_hears : {r : Record} {u v w : Upper} {said heard : List Act} (desk : Desk) (unread : List Seen) (one : Message) (body : Body) → IsUpper r u body → Reads desk r u (events_at Exit unread) v said → Hears r v one.body w heard
    → (next : Upper) × (told : List Act) × Follows desk w next told × Turns r next (said ++ (heard ++ told)) (machine_step desk unread (Words Exit (Says one ∷ [])) body)
step_hears {r = r} {v = v} {w = w} {said = said} {heard = heard} desk unread one body is rs hs =
    let read = all_read desk unread body in
    let first = all_turn desk unread body is rs in
    let word : Turns r w heard (hears desk Exit one read.body) = hears_turns desk one.stamp read.body hs first.upper in
    let heard_one : Turns r w (heard ++ []) (and_then (hears desk Exit one read.body) (all_heard desk Exit [])) = turns_both (hears desk Exit one read.body) (all_heard desk Exit []) word (last_turns desk (hears desk Exit one read.body).body word.upper) in
    let second : Turns r w heard (all_heard desk Exit (Says one ∷ []) read.body) =
    subst (λ (test : Bool). Turns r w heard (if_open test (and_then (hears desk Exit one read.body) (all_heard desk Exit [])) read.body)) (sym (open_if read.body.exit.session.state first.upper.stands))
    (subst (λ (told : List Act). Turns r w told (and_then (hears desk Exit one read.body) (all_heard desk Exit []))) (append-nil heard) heard_one) in
    let event : Event = Words Exit (Says one ∷ []) in
    let did = all_heard desk Exit (Says one ∷ []) read.body in
    let third = announces_turn w desk did.body second.upper in (
      third.next,
      third.told,
      third.follows,
      turns_telling desk body (plain_step desk unread event body)
          (turns_both read (λ (b : Body). and_then (event_did desk event b) (announces desk)) first
          (turns_both did (announces desk) second third.turns)),
    )
