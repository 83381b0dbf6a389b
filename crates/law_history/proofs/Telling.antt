-- A step of a machine that stands in the relation of its links: what settles in it was said, and is what the intake held
-- before the step.
use Rattle.std.proofs.Common.{Bool, List, None, Option, Some, [], ap, false, refl, subst, sym, true, ℕ, ◌++◌, ◌∙◌, ◌∷◌, ◌≡◌}
use Rattle.std.specs.Prelude.{is_some, map}
use Rattle.std.proofs.lemmas.Bool.{and_parts}
use Rattle.law_machine_custody.proofs.Reading.{read_at}
use Rattle.line_base.specs.declared.states.Role.TheVariants.{Downstream, Upstream}
use Rattle.line_base.specs.declared.states.SensorEvent.{SensorEvent}
use Rattle.line_base.specs.declared.states.Side.{Side}
use Rattle.line_base.specs.declared.states.Side.TheVariants.{Entry, Exit}
use Rattle.line_base.specs.declared.states.Transfer.{Transfer}
use Rattle.board_record.specs.declared.record.Record.{Record}
use Rattle.board_record.specs.declared.sensed.Sensed.{Sensed}
use Rattle.hermes_horizontal.specs.declared.message.Horizontal.{Horizontal}
use Rattle.hermes_horizontal.specs.declared.message.Horizontal.TheVariants as bodies
use Rattle.hermes_horizontal.specs.declared.message.Message.{Message}
use Rattle.hermes_horizontal.specs.Parts.{kind_of}
use Rattle.session_core.specs.Breach.{unexpected}
use Rattle.session_core.specs.declared.state.SessionState.TheVariants.{Standing}
use Rattle.session_core.specs.End.{SessionEnd}
use Rattle.session_core.specs.Input.{heard}
use Rattle.session_core.specs.Row.{SessionRow, session_row}
use Rattle.session_core.specs.Table.{IsSessionRow, passes_available, passes_finished, passes_forecast, passes_info, passes_query, passes_ready, passes_revoked, passes_start, passes_stop, passes_unready, stands_downstream}
use Rattle.session_core.proofs.Rows.{row_is as session_row_is}
use Rattle.line_world.specs.declared.board.Board.{Board}
use Rattle.line_world.specs.Moves.{entry_sees}
use Rattle.handover_out.specs.declared.input.OutInput.TheVariants as out_input
use Rattle.handover_out.specs.declared.phase.Phase.{Phase as Out}
use Rattle.handover_out.specs.Row.{OutRow, outlet_row}
use Rattle.handover_out.specs.State.{OutState, board_of_phase as held_out, held}
use Rattle.handover_in.specs.declared.input.InInput.{InInput}
use Rattle.handover_in.specs.declared.input.InInput.TheVariants as in_input
use Rattle.handover_in.specs.declared.phase.Phase.{Phase as In}
use Rattle.handover_in.specs.Row.{InRow, intake_row}
use Rattle.handover_in.specs.State.{InState, board_of_phase as held_in}
use Rattle.node_core.specs.Connect.{if_open}
use Rattle.node_core.specs.Desk.{Desk}
use Rattle.node_core.specs.Done.{Done, and_then}
use Rattle.node_core.specs.Halves.{outlet_row_did}
use Rattle.node_core.specs.Hears.{hears, rowed}
use Rattle.node_core.specs.Reads.{all_read, reads, saw}
use Rattle.node_core.specs.Session.{breaches}
use Rattle.node_core.specs.Sides.{is_open, with_session}
use Rattle.node_core.specs.Words.{all_heard}
use Rattle.node_core.specs.declared.act.Act.{Act}
use Rattle.node_core.specs.declared.act.Act.TheVariants as acts
use Rattle.node_core.specs.declared.lane.Body.{Body as Machine}
use Rattle.node_core.specs.declared.word.Word.{Word}
use Rattle.node_core.specs.declared.word.Word.TheVariants.{Says, Wrong}
use Rattle.node_core.proofs.Keeping.{hears_keeps}
use Rattle.node_core.proofs.Offers.{OffersOf}
use Rattle.law_custody.specs.Events.{EntryStep, gone_by}
use Rattle.law_custody.specs.LookBack.{Settles, Since, since_after}
use Rattle.law_custody.specs.Pair.{Body, Ghost, LinkState, Pair, board_of, part}
use Rattle.law_custody.specs.Place.{Inside, Place, is_inside, is_upstream}
use Rattle.law_custody.proofs.EntryEvents.{hears_finished, hears_upstream, reads_entry}
use Rattle.law_machine_custody.specs.Flight.{AreOldest, oldest_says, oldest_wrong, unheard}
use Rattle.law_machine_custody.specs.Good.{Afar, Good, Lies, lies_first}
use Rattle.law_machine_custody.specs.Scene.{Scene, all_met, link_above, met}
use Rattle.law_machine_custody.proofs.BehindReading.{saw_lists}
use Rattle.law_machine_custody.proofs.Far.{all_outlet}
use Rattle.law_machine_custody.proofs.HearingAll.{deaf, hears_one, one_then}
use Rattle.law_machine_custody.proofs.Keeping.{lies_behind}
use Rattle.law_machine_custody.proofs.Listening.{Then, breach_shuts, closed, still}
use Rattle.law_history.proofs.Folds.{Hearing, are_inner, ends, goes_on, heard_act, is_inner, since_message}
use Rattle.law_history.proofs.Halves.{Knows, Sure, Tells, Works, intake_tells, keeps_held, out_aside, recalls, tells_aside, tells_behind, tells_both, tells_still, works_both, works_still}
use Rattle.law_history.proofs.Hearing.{breaches_work, finished_since, described_taken, entry_taken, exit_taken, works_session}

-- ---- what a board that settles is

-- the intake held its record, the outlet above holds none, and the board lies at the machine
pub record IsIn (o : Out) (i : In) (boards : List Board) (id : ℕ) : Type 0 where
  pub board : Record
  pub named : board.id ≡ id
  pub taken : held_in i ≡ Some board
  pub free : held_out o ≡ None
  pub inside : Lies id boards

-- a board that the machine's intake holds now, and that is inside, is so
abbrev pub Makes : (ℕ → Type 0) → Machine → Scene → Type 0
Makes P body c = (q : Record) → held_in body.intake.phase ≡ Some q → held_out c.above.outlet.phase ≡ None → Lies q.id c.boards → P q.id

inside_lies : {o : Out} {p g : Place} {kept : List Record} {i : In} {boards : List Board} (q : Record) → Body o p kept i g boards → held_in i ≡ Some q → g ≡ Inside → Lies q.id boards
inside_lies {o = o} {p = p} {g = g} {kept = kept} {i = i} q b taken inside =
    let last : part (held_in i) (is_inside g) ≡ board_of q ∷ [] = rw (taken, inside) refl in
    subst (λ (bs : List Board). Lies q.id bs) (sym b.same)
    (lies_behind q.id (part (held_out o) (is_upstream p)) (map board_of kept ++ part (held_in i) (is_inside g))
    (lies_behind q.id (map board_of kept) (part (held_in i) (is_inside g)) (subst (λ (bs : List Board). Lies q.id bs) (sym last) lies_first)))

sure_of : (P : ℕ → Type 0) {afar : Afar} {above : List Record} {us : List Sensed} {ga gb : Ghost} (h : Hearing) (body : Machine) (c : Scene) (w : InInput) (row : InRow) → Good afar above us ga gb body c → Knows h body.intake → Makes P body c
    → ((q : Record) → row.act.keep ≡ Some q → Settles c.above.outlet.phase ga.place ga.board q w body.intake.phase) → intake_row body.intake w ≡ Some row → Sure P (record h { since = since_after w h.since }) row
sure_of P h body c w row g k makes settles is q keep =
    let held = keeps_held body.intake w row q is keep in
    let so = settles q keep in
    (k.named q held, (so.said h.since (recalls body.intake.phase h.since k.recalled), makes q held so.free (inside_lies q g.boards held so.inside)))

same_row : (a b : InRow) → ◌≡◌ {A = Option InRow} (Some a) (Some b) → a ≡ b
same_row a b is = cc

-- of the row of an event
sure_step : (P : ℕ → Type 0) {Gone : ℕ → Type 0} {afar : Afar} {above aboves : List Record} {us ws : List Sensed} {rest : List Horizontal} {ga gb : Ghost} (h : Hearing) (body : Machine) (c : Scene) (w : InInput) (l : LinkState) (row : InRow) → Good afar above us ga gb body c → Knows h body.intake
    → Makes P body c → EntryStep Gone aboves ga l w ws rest → l.intake ≡ body.intake → l.outlet ≡ c.above.outlet → intake_row body.intake w ≡ Some row → Sure P (record h { since = since_after w h.since }) row
sure_step P {ga = ga} h body c w l row g k makes step intake outlet is =
    let found : step.row ≡ row = same_row step.row row (sym step.is ∙ ap (λ (i : InState). intake_row i w) intake ∙ is) in
    sure_of P h body c w row g k makes (λ q keep.
    subst (λ (o : OutState). Settles o.phase ga.place ga.board q w body.intake.phase) outlet
    (subst (λ (i : InState). Settles l.outlet.phase ga.place ga.board q w i.phase) intake (step.settles q (ap (λ (r : InRow). r.act.keep) found ∙ keep)))) is

pub makes_then : {P : ℕ → Type 0} {h : Hearing} (body : Machine) (c : Scene) (d : Done) → Makes P body c → Tells P h body d → (all_met d.acts c).boards ≡ c.boards → Makes P d.body (all_met d.acts c)
makes_then body c d makes t same q held free lies =
    makes q (t.less q held) (ap (λ (o : OutState). held_out o.phase) (sym (all_outlet d.acts c)) ∙ free) (subst (λ (bs : List Board). Lies q.id bs) same lies)

-- ---- the sensor events

outlet_tells : {P : ℕ → Type 0} {h : Hearing} (desk : Desk) (body : Machine) (found : Option OutRow) → Knows h body.intake → Tells P h body (outlet_row_did desk body found)
outlet_tells desk body None k = tells_still body k
outlet_tells desk body (Some row) k = tells_aside body (outlet_row_did desk body (Some row)) k refl (out_aside desk body.kept row)

saw_tells : {P : ℕ → Type 0} {h : Hearing} {afar : Afar} {above : List Record} {rest : List Sensed} {ga gb : Ghost} {body : Machine} {c : Scene} (desk : Desk) (side : Side) (event : SensorEvent)
    → Good afar above (record { side = side; event = event } ∷ rest) ga gb body c → Knows h body.intake → Makes P body c → Tells P h body (saw desk side event body)
saw_tells {P = P} {h = h} {afar = afar} {above = above} {rest = rest} {ga = ga} {body = body} {c = c} desk Entry event g k makes =
    let step : EntryStep (gone_by afar.gone_above) above ga (link_above (entry_sees event ∷ rest) body c) (in_input.Sensed event) rest c.above.down = reads_entry ga (link_above rest body c) event rest g.above_pair in
    (intake_tells desk body (in_input.Sensed event) h.since (intake_row body.intake (in_input.Sensed event)) refl tt (λ row is. refl) k
    (λ row is. sure_step P h body c (in_input.Sensed event) (link_above (entry_sees event ∷ rest) body c) row g k makes step refl refl is) (λ none. k)).tells
saw_tells {body = body} desk Exit event g k makes = outlet_tells desk body (outlet_row body.outlet (out_input.Sensed event)) k

-- all events in order
pub all_read_tell : {P : ℕ → Type 0} {afar : Afar} {above : List Record} {ga gb : Ghost} (desk : Desk) (unread : List Sensed) {h : Hearing} (body : Machine) (c : Scene) → Good afar above unread ga gb body c → Knows h body.intake → Makes P body c
    → Tells P h body (all_read desk unread body)
all_read_tell desk [] body c g k makes = tells_still body k
all_read_tell {P = P} desk (sensed ∷ others) {h = h} body c g k makes =
    let first : Done = saw desk sensed.side sensed.event body in
    let one : Tells P h body first = saw_tells desk sensed.side sensed.event g k makes in
    let behind_reading : Tells P h body (reads desk sensed body) = tells_behind body (acts.Reads sensed.side sensed.event ∷ []) first (goes_on refl ends) one in
    tells_both body (reads desk sensed body) (all_read desk others) behind_reading
    (λ k2. all_read_tell desk others first.body (all_met first.acts c) (read_at desk sensed.side sensed.event g) k2 (makes_then body c first makes one (saw_lists desk sensed.side sensed.event body c)))

-- ---- the messages

finished_sure : (P : ℕ → Type 0) (h : Hearing) (message : Message) (state : Transfer) (id : ℕ) → message.body ≡ bodies.TransportFinished state id → (body : Machine) (row : InRow) → intake_row body.intake (in_input.Finished state id) ≡ Some row → Knows h body.intake
    → Sure P (record h { since = since_after (in_input.Finished state id) h.since }) row → Sure P (heard_act h (acts.Hears Entry message)) row
finished_sure P h message state id says body row is k sure =
    let same : since_after (in_input.Finished state id) h.since ≡ since_message h.named message.body h.since =
    sym (ap (λ (what : Horizontal). since_message h.named what h.since) says ∙ finished_since h body state id row is k) in
    subst (λ (s : Since). Sure P (record h { since = s }) row) same sure

down_is : {ga : Ghost} (body : Machine) (c : Scene) (what : Horizontal) (rest : List Horizontal) → unheard Entry c ≡ what ∷ rest → Pair ga (link_above [] body c) → Pair ga (record (link_above [] body c) { down = what ∷ rest })
down_is {ga = ga} body c what rest is pair = subst (λ (ms : List Horizontal). Pair ga (record (link_above [] body c) { down = ms })) is pair

entry_row_works : {P : ℕ → Type 0} {h : Hearing} {afar : Afar} {above : List Record} {ga gb : Ghost} (desk : Desk) (message : Message) (what : Horizontal) (unsettled : Bool) (rest : List Horizontal) (s : SessionEnd) (row : SessionRow) (body : Machine) (c : Scene) → IsSessionRow s (heard what unsettled) row
    → message.body ≡ what → unheard Entry c ≡ what ∷ rest → Good afar above [] ga gb body c → Knows h body.intake → Makes P body c → Works P h body (rowed desk Entry message body (Some row))
entry_row_works {P = P} {h = h} {afar = afar} {above = above} {ga = ga} desk message what unsettled rest s row body c (stands_downstream {service = service}) says is g k makes =
    let step = (hears_upstream {Gone = gone_by afar.gone_above} {above = above} ga (link_above [] body c) service rest (down_is body c what rest is g.above_pair)).1 in
    works_session Entry row.after body (rowed desk Entry message body (Some row))
    (described_taken desk message service (with_session Entry row.after body) says k
    (λ found at. sure_step P h body c in_input.Stand (record (link_above [] body c) { down = what ∷ rest; entry = Standing }) found g k makes step refl refl at))
entry_row_works {P = P} {h = h} {afar = afar} {above = above} {ga = ga} desk message what unsettled rest s row body c (passes_finished {said = state} {id = id}) says is g k makes =
    let step = (hears_finished {Gone = gone_by afar.gone_above} {above = above} ga (link_above [] body c) state id rest (down_is body c what rest is g.above_pair)).1 in
    works_session Entry row.after body (rowed desk Entry message body (Some row))
    (entry_taken desk message row.actions.first row.actions (with_session Entry row.after body) refl k
    (says, λ found at. finished_sure P h message state id says body found at k (sure_step P h body c (in_input.Finished state id) (record (link_above [] body c) { down = what ∷ rest }) found g k makes step refl refl at)))
entry_row_works desk message what unsettled rest s row body c passes_available says is g k makes = works_session Entry row.after body (rowed desk Entry message body (Some row)) (entry_taken desk message row.actions.first row.actions (with_session Entry row.after body) refl k (tt, tt))
entry_row_works desk message what unsettled rest s row body c passes_revoked says is g k makes = works_session Entry row.after body (rowed desk Entry message body (Some row)) (entry_taken desk message row.actions.first row.actions (with_session Entry row.after body) refl k (tt, tt))
entry_row_works desk message what unsettled rest s row body c passes_forecast says is g k makes = works_session Entry row.after body (rowed desk Entry message body (Some row)) (entry_taken desk message row.actions.first row.actions (with_session Entry row.after body) refl k (tt, tt))
entry_row_works desk message what unsettled rest s row body c passes_info says is g k makes = works_session Entry row.after body (rowed desk Entry message body (Some row)) (entry_taken desk message row.actions.first row.actions (with_session Entry row.after body) refl k (tt, tt))
entry_row_works desk message what unsettled rest s row body c passes_ready says is g k makes = works_session Entry row.after body (rowed desk Entry message body (Some row)) (entry_taken desk message row.actions.first row.actions (with_session Entry row.after body) refl k (tt, tt))
entry_row_works desk message what unsettled rest s row body c passes_unready says is g k makes = works_session Entry row.after body (rowed desk Entry message body (Some row)) (entry_taken desk message row.actions.first row.actions (with_session Entry row.after body) refl k (tt, tt))
entry_row_works desk message what unsettled rest s row body c passes_start says is g k makes = works_session Entry row.after body (rowed desk Entry message body (Some row)) (entry_taken desk message row.actions.first row.actions (with_session Entry row.after body) refl k (tt, tt))
entry_row_works desk message what unsettled rest s row body c passes_stop says is g k makes = works_session Entry row.after body (rowed desk Entry message body (Some row)) (entry_taken desk message row.actions.first row.actions (with_session Entry row.after body) refl k (tt, tt))
entry_row_works desk message what unsettled rest s row body c passes_query says is g k makes = works_session Entry row.after body (rowed desk Entry message body (Some row)) (entry_taken desk message row.actions.first row.actions (with_session Entry row.after body) refl k (tt, tt))
entry_row_works desk message what unsettled rest s row body c _ says is g k makes = works_session Entry row.after body (rowed desk Entry message body (Some row)) (entry_taken desk message row.actions.first row.actions (with_session Entry row.after body) refl k tt)

entry_found_works : {P : ℕ → Type 0} {h : Hearing} {afar : Afar} {above : List Record} {ga gb : Ghost} (desk : Desk) (message : Message) (rest : List Horizontal) (found : Option SessionRow) (body : Machine) (c : Scene)
    → session_row body.entry.session (heard message.body (is_some (held body.outlet))) ≡ found → unheard Entry c ≡ message.body ∷ rest → Good afar above [] ga gb body c → Knows h body.intake → Makes P body c → Works P h body (rowed desk Entry message body found)
entry_found_works desk message rest None body c found is g k makes = breaches_work desk Entry (unexpected (kind_of message.body)) body k
entry_found_works desk message rest (Some row) body c found is g k makes =
    entry_row_works desk message message.body (is_some (held body.outlet)) rest body.entry.session row body c (session_row_is body.entry.session (heard message.body (is_some (held body.outlet))) row found) refl is g k makes

exit_row_works : {P : ℕ → Type 0} {h : Hearing} (desk : Desk) (message : Message) (what : Horizontal) (unsettled : Bool) (s : SessionEnd) (row : SessionRow) (body : Machine) → IsSessionRow s (heard what unsettled) row → s.role ≡ Upstream → Knows h body.intake
    → Works P h body (rowed desk Exit message body (Some row))
exit_row_works desk message what unsettled s row body stands_downstream role k = absurd (let no_way : Downstream ≡ Upstream = role in cc)
exit_row_works desk message what unsettled s row body _ role k = works_session Exit row.after body (rowed desk Exit message body (Some row)) (exit_taken desk message row.actions.first row.actions (with_session Exit row.after body) refl k)

exit_found_works : {P : ℕ → Type 0} {h : Hearing} (desk : Desk) (message : Message) (found : Option SessionRow) (body : Machine) → session_row body.exit.session (heard message.body (is_some (held body.outlet))) ≡ found → body.exit.session.role ≡ Upstream → Knows h body.intake
    → Works P h body (rowed desk Exit message body found)
exit_found_works desk message None body found role k = breaches_work desk Exit (unexpected (kind_of message.body)) body k
exit_found_works desk message (Some row) body found role k =
    exit_row_works desk message message.body (is_some (held body.outlet)) body.exit.session row body (session_row_is body.exit.session (heard message.body (is_some (held body.outlet))) row found) role k

hears_works : {P : ℕ → Type 0} {h : Hearing} {afar : Afar} {above : List Record} {ga gb : Ghost} (desk : Desk) (side : Side) (message : Message) (rest : List Horizontal) (body : Machine) (c : Scene) → unheard side c ≡ message.body ∷ rest → Good afar above [] ga gb body c
    → Knows h body.intake → Makes P body c → Works P h body (hears desk side message body)
hears_works desk Entry message rest body c is g k makes = entry_found_works desk message rest (session_row body.entry.session (heard message.body (is_some (held body.outlet)))) body c refl is g k makes
hears_works desk Exit message rest body c is g k makes = exit_found_works desk message (session_row body.exit.session (heard message.body (is_some (held body.outlet)))) body refl g.exit_role k

-- acts that leave the list
met_list : (act : Act) (c : Scene) → is_inner act ≡ true → (met act c).boards ≡ c.boards
met_list (acts.Inserts id) c is = absurd (let no_way : false ≡ true = is in cc)
met_list (acts.Removes id) c is = absurd (let no_way : false ≡ true = is in cc)
met_list (acts.Replaces old new) c is = absurd (let no_way : false ≡ true = is in cc)
met_list (acts.Gives id to) c is = absurd (let no_way : false ≡ true = is in cc)
met_list (acts.Gets id) c is = absurd (let no_way : false ≡ true = is in cc)
met_list (acts.Hears Entry message) c is = refl
met_list (acts.Sends Entry message) c is = refl
met_list (acts.Closes Entry) c is = refl
met_list (acts.Notices Entry) c is = refl
met_list (acts.Drive Entry on) c is = refl
met_list _ c is = refl

met_lists : (told : List Act) (c : Scene) → are_inner told ≡ true → (all_met told c).boards ≡ c.boards
met_lists [] c is = refl
met_lists (act ∷ told) c is = met_lists told (met act c) (and_parts (is_inner act) (are_inner told) is).1 ∙ met_list act c (and_parts (is_inner act) (are_inner told) is).0

-- nobody hears the others
deaf_works : {P : ℕ → Type 0} {h : Hearing} (desk : Desk) (side : Side) (words : List Word) (body : Machine) → is_open side body ≡ false → Knows h body.intake → Works P h body (all_heard desk side words body)
deaf_works {P = P} {h = h} desk side words body off k = subst (λ (d : Done). Works P h body d) (sym (deaf desk side words body off)) (works_still body k)

if_works : {P : ℕ → Type 0} {h : Hearing} (test : Bool) (d : Done) (body : Machine) → Knows h body.intake → Works P h body d → Works P h body (if_open test d body)
if_works true d body k w = w
if_works false d body k w = works_still body k

behind_one : {P : ℕ → Type 0} {h : Hearing} (desk : Desk) (side : Side) (words : List Word) (rest : List Horizontal) (d : Done) (c : Scene) → Then side rest d c → Knows h d.body.intake
    → (unheard side (all_met d.acts c) ≡ rest → Works P h d.body (all_heard desk side words d.body)) → Works P h d.body (all_heard desk side words d.body)
behind_one desk side words rest d c (still is) k go_on = go_on is
behind_one desk side words rest d c (closed off) k go_on = deaf_works desk side words d.body off k

pub words_work : {P : ℕ → Type 0} {afar : Afar} {above : List Record} (desk : Desk) (side : Side) (words : List Word) (messages : List Horizontal) {h : Hearing} {ga gb : Ghost} (body : Machine) (c : Scene) → AreOldest words messages
    → unheard side c ≡ messages → OffersOf body → Good afar above [] ga gb body c → Knows h body.intake → Makes P body c → Works P h body (all_heard desk side words body)
words_work desk side [] messages body c oldest is offers g k makes = works_still body k
words_work {P = P} desk side (Says message ∷ others) _ {h = h} body c (oldest_says {messages = rest} oldest) is offers g k makes =
    let d : Done = hears desk side message body in
    let one : Works P h body d = hears_works desk side message rest body c is g k makes in
    if_works (is_open side body) (and_then d (all_heard desk side others)) body k
    (works_both body d (all_heard desk side others) one (λ k2. behind_one desk side others rest d c (one_then desk side message rest body c is g) k2
    (λ still_is. words_work desk side others rest d.body (all_met d.acts c) oldest still_is ((hears_keeps 0 desk side message body).offers offers) (hears_one desk side message rest body c offers is g).good k2
    (makes_then body c d makes one.tells (met_lists d.acts c one.inner)))))
words_work desk side (Wrong text ∷ others) messages body c oldest_wrong is offers g k makes =
    let d : Done = breaches desk side text body in
    if_works (is_open side body) (and_then d (all_heard desk side others)) body k
    (works_both body d (all_heard desk side others) (breaches_work desk side text body k) (λ k2. deaf_works desk side others d.body (breach_shuts desk side text body) k2))
