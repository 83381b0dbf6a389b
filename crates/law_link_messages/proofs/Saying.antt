-- A machine whose records are fit says what is fit in each step, and its records stay so.
use Rattle.std.proofs.Common.{Bool, List, None, Option, Some, [], arith, false, length, length-append, nat_le, nat_lt, not, refl, sym, true, if◌then◌else◌, ℕ, ◌++◌, ◌==◌, ◌||◌, ◌∷◌, ◌≡◌, ◌≤◌}
use Rattle.std.specs.List.{AllByRecursion}
use Rattle.std.proofs.lemmas.Bool.{leb-false, ltb-false}
use Rattle.std.specs.Prelude.{slice_get}
use Rattle.line_base.specs.Text.{IsText}
use Rattle.line_base.specs.declared.states.Quality.{Quality}
use Rattle.line_base.specs.declared.states.Quality.TheVariants as qualities
use Rattle.line_base.specs.declared.states.SensorEvent.{SensorEvent}
use Rattle.line_base.specs.declared.states.Side.{Side}
use Rattle.line_base.specs.declared.states.Side.TheVariants.{Entry, Exit}
use Rattle.board_record.specs.Record.{plain_record}
use Rattle.board_record.specs.SubBoards.{AreSubBoards, is_full, size_of}
use Rattle.board_record.specs.declared.record.Record.{Record}
use Rattle.board_record.specs.declared.sensed.Sensed.{Sensed}
use Rattle.board_record.specs.declared.sub_board.SubBoard.{SubBoard}
use Rattle.hermes_horizontal.specs.Canonical.{IsProperSub}
use Rattle.hermes_horizontal.specs.declared.message.Horizontal.TheVariants as bodies
use Rattle.smema_bridge.specs.Levels.{BridgeLevels}
use Rattle.smema_bridge.specs.Signals.{bridge_edges, signals_of}
use Rattle.smema_bridge.specs.declared.edges.BridgeEdges.{BridgeEdges}
use Rattle.smema_bridge.specs.declared.line.SegmentLine.{SegmentLine}
use Rattle.smema_bridge.specs.declared.line.SegmentLine.TheVariants.{Available, Failed, Ready}
use Rattle.session_core.specs.Input.{opened, second, shutdown, tick}
use Rattle.session_core.specs.Row.{session_row}
use Rattle.handover_out.specs.declared.input.OutInput.TheVariants as out_input
use Rattle.handover_in.specs.declared.input.InInput.TheVariants as in_input
use Rattle.node_core.specs.Announces.{announces, offer, offer_by, offers_now, readies_now, ready, ready_by, revoke, revoke_by, revokes_now, start, start_by, starts_now, unreadies_now, unready, unready_by}
use Rattle.node_core.specs.Boards.{faults, gets, gives, if_kept, inserts, is_kept, marks, removes, replaces, wills, with_instead, with_kept, without, takes_sub, adds_sub, first_passes, with_changed}
use Rattle.node_core.specs.Bridge.{failed_front, fails, sets_level, tells_level}
use Rattle.node_core.specs.Connect.{both_shut_down, both_tick, meets_second, notices, opens, shuts_down, ticks}
use Rattle.node_core.specs.Desk.{Desk}
use Rattle.node_core.specs.Done.{and_then, behind, done}
use Rattle.node_core.specs.Event.{Accepted, Connect, Event, Fault, Forecast, Gets, Gives, Insert, Level, Mark, Sub, Nothing, Notice, Query, Remove, Replace, Second, Shutdown, Supervised, Tick, Will, Words, event_did}
use Rattle.node_core.specs.Halves.{ended}
use Rattle.node_core.specs.Reads.{all_read, reads, saw}
use Rattle.node_core.specs.Sides.{is_open, session_at}
use Rattle.node_core.specs.Signals.{moves_out, quality_taken, signal_told, signalled}
use Rattle.node_core.specs.Step.{machine_step, plain_step}
use Rattle.node_core.specs.Supervising.{Answer, Ask, Supervise, Supervision, supervises, watch_of}
use Rattle.node_core.specs.declared.act.Act.{Act}
use Rattle.node_core.specs.declared.act.Act.TheVariants as acts
use Rattle.node_core.specs.declared.act.Signal.{Signal}
use Rattle.node_core.specs.declared.act.Signal.TheVariants as signals
use Rattle.node_core.specs.declared.lane.Body.{Body}
use Rattle.law_link_messages.specs.Fit.{AreFitActs, AreFitRecords, Fits, IsFitAct, IsFitBody, IsFitDesk, IsFitEvent, IsFitId, IsFitRecord, IsFitSub, IsTextIf, more_kept, more_said, none_kept, none_said}
use Rattle.law_link_messages.proofs.SayingHalves.{at_intake_fits, at_outlet_fits, behind_fits, ended_fits, fits_behind, fits_both, fits_still, fits_told}
use Rattle.law_link_messages.proofs.SayingSessions.{session_fits}
use Rattle.law_link_messages.proofs.SayingWhat.{both_said, forecasts_fit, front_fits, no_subs, question_fits, sent, with_tells_fit}
use Rattle.law_link_messages.proofs.SayingWords.{if_fits, words_fit}

-- ---- sensor events

saw_fits : (desk : Desk) (side : Side) (event : SensorEvent) (body : Body) → IsFitDesk desk → IsFitBody body → Fits (saw desk side event body)
saw_fits desk Entry event body d b = at_intake_fits desk (in_input.Sensed event) body tt d b
saw_fits desk Exit event body d b = at_outlet_fits desk (out_input.Sensed event) body tt d b

read_fits : (desk : Desk) (sensed : Sensed) (body : Body) → IsFitDesk desk → IsFitBody body → Fits (reads desk sensed body)
read_fits desk sensed body d b = fits_behind (acts.Reads sensed.side sensed.event ∷ []) (saw desk sensed.side sensed.event body) (more_said tt none_said) (saw_fits desk sensed.side sensed.event body d b)

pub all_read_fit : (desk : Desk) (unread : List Sensed) (body : Body) → IsFitDesk desk → IsFitBody body → Fits (all_read desk unread body)
all_read_fit desk [] body d b = fits_still body b
all_read_fit desk (s ∷ ss) body d b =
    let one : Fits (reads desk s body) = read_fits desk s body d b in
    fits_both (reads desk s body) (all_read desk ss) one (all_read_fit desk ss (reads desk s body).body d one.body)

-- ---- connections

opens_fit : (desk : Desk) (side : Side) (body : Body) → IsFitDesk desk → IsFitBody body → Fits (opens desk side body)
opens_fit desk side body d b = session_fits desk side opened body (session_row (session_at side body) opened) refl tt d b

second_fits : (desk : Desk) (body : Body) → IsFitDesk desk → IsFitBody body → Fits (meets_second desk body)
second_fits desk body d b = session_fits desk Exit second body (session_row (session_at Exit body) second) refl tt d b

ticks_fit : (desk : Desk) (side : Side) (body : Body) → IsFitDesk desk → IsFitBody body → Fits (ticks desk side body)
ticks_fit desk side body d b = session_fits desk side tick body (session_row (session_at side body) tick) refl tt d b

shuts_fit : (desk : Desk) (side : Side) (body : Body) → IsFitDesk desk → IsFitBody body → Fits (shuts_down desk side body)
shuts_fit desk side body d b = session_fits desk side shutdown body (session_row (session_at side body) shutdown) refl tt d b

notices_fit : (desk : Desk) (side : Side) (body : Body) → IsFitDesk desk → IsFitBody body → Fits (notices desk side body)
notices_fit desk side body d b = if_fits (is_open side body) (behind (acts.Notices side ∷ []) (ended desk side body)) body b
    (fits_behind (acts.Notices side ∷ []) (ended desk side body) (more_said tt none_said) (ended_fits desk side body d b))

both_tick_fits : (desk : Desk) (body : Body) → IsFitDesk desk → IsFitBody body → Fits (both_tick desk body)
both_tick_fits desk body d b =
    let one : Fits (ticks desk Entry body) = ticks_fit desk Entry body d b in
    fits_both (ticks desk Entry body) (ticks desk Exit) one (ticks_fit desk Exit (ticks desk Entry body).body d one.body)

both_shut_fits : (desk : Desk) (body : Body) → IsFitDesk desk → IsFitBody body → Fits (both_shut_down desk body)
both_shut_fits desk body d b =
    let one : Fits (shuts_down desk Entry body) = shuts_fit desk Entry body d b in
    fits_both (shuts_down desk Entry body) (shuts_down desk Exit) one (shuts_fit desk Exit (shuts_down desk Entry body).body d one.body)

-- ---- by hand

plain_fits : (id : ℕ) (name : List ℕ) (barcode : Option (List ℕ)) → IsFitId id → IsText name → IsTextIf barcode → IsFitRecord (plain_record id name barcode)
plain_fits id name None small is top = record { values = (small, (is, (tt, (tt, (tt, (tt, (tt, (tt, (tt, (tt, (tt, (tt, (tt, (tt, (tt, (tt, tt)))))))))))))))); subs = no_subs; barcodes = tt }
plain_fits id name (Some barcode) small is top = record { values = (small, (is, (tt, (tt, (tt, (top, (tt, (tt, (tt, (tt, (tt, (tt, (tt, (tt, (tt, (tt, tt)))))))))))))))); subs = no_subs; barcodes = tt }

without_at : (test : Bool) (id : ℕ) (board : Record) (boards : List Record) → board.id == id ≡ test → IsFitRecord board → AreFitRecords boards → AreFitRecords (without id boards) → AreFitRecords (without id (board ∷ boards))
without_at true id board boards is one others same = rw is others
without_at false id board boards is one others same = rw is (more_kept one same)

without_fits : (id : ℕ) (kept : List Record) → AreFitRecords kept → AreFitRecords (without id kept)
without_fits id [] k = none_kept
without_fits id (board ∷ boards) (more_kept one others) = without_at (board.id == id) id board boards refl one others (without_fits id boards others)

instead_at : (test : Bool) (id : ℕ) (other board : Record) (boards : List Record) → board.id == id ≡ test → IsFitRecord other → IsFitRecord board → AreFitRecords boards → AreFitRecords (with_instead id other boards) → AreFitRecords (with_instead id other (board ∷ boards))
instead_at true id other board boards is new one others same = rw is (more_kept new others)
instead_at false id other board boards is new one others same = rw is (more_kept one same)

instead_fits : (id : ℕ) (other : Record) (kept : List Record) → IsFitRecord other → AreFitRecords kept → AreFitRecords (with_instead id other kept)
instead_fits id other [] new k = none_kept
instead_fits id other (board ∷ boards) new (more_kept one others) = instead_at (board.id == id) id other board boards refl new one others (instead_fits id other boards new others)

-- its values are as they were, but for the quality
marked : (quality : Quality) (board : Record) → IsFitRecord board → IsFitRecord (record board { quality = quality })
marked quality board one = record { values = one.values; subs = one.subs; barcodes = one.barcodes }

-- a record that passes the test is changed, and stays fit
changed_fits : (id : ℕ) (test : Record → Bool) (change : Record → Record) (kept : List Record) → ((board : Record) → test board ≡ true → IsFitRecord board → IsFitRecord (change board)) → AreFitRecords kept → first_passes id test kept ≡ true → AreFitRecords (with_changed id change kept)
changed_fits id test change [] each k passes = none_kept
changed_fits id test change (board ∷ boards) each (more_kept one others) passes = by (board.id == id) (changed_fits id test change boards each others) passes where
  by : (same : Bool) → (first_passes id test boards ≡ true → AreFitRecords (with_changed id change boards)) → (if same then test board else first_passes id test boards) ≡ true → AreFitRecords (if same then change board ∷ boards else board ∷ with_changed id change boards)
  by true later passes = more_kept (each board passes one) others
  by false later passes = more_kept one (later passes)

-- a circuit more, where there is room for it
all_behind : (P : SubBoard → Type 0) (subs : List SubBoard) (sub : SubBoard) → AllByRecursion P subs → P sub → AllByRecursion P (subs ++ sub ∷ [])
all_behind P [] sub all one = (one, tt)
all_behind P (s ∷ subs) sub all one = (all.0, all_behind P subs sub all.1 one)

room_left : (subs : List SubBoard) (sub : SubBoard) (many large : Bool) → many ≡ nat_le 256 (length subs) → large ≡ nat_lt 24576 (size_of (subs ++ sub ∷ [])) → not (many || large) ≡ true → AreSubBoards (subs ++ sub ∷ [])
room_left subs sub true large is also room = cc
room_left subs sub false true is also room = cc
room_left subs sub false false is also room = record {
  few = omega (arith, length-append subs (sub ∷ []), leb-false 256 (length subs) (sym is));
  small = ltb-false 24576 (size_of (subs ++ sub ∷ [])) (sym also);
}

subbed : (board : Record) (sub : SubBoard) → IsFitRecord board → IsFitSub sub → not (is_full board.subs sub) ≡ true → IsFitRecord (record board { subs = board.subs ++ sub ∷ [] })
subbed board sub one fit room = record {
  values = one.values;
  subs = record {
    places = all_behind (λ (s : SubBoard). s.pos ≤ 999_999_999) board.subs sub one.subs.places fit.place;
    list = room_left board.subs sub (nat_le 256 (length board.subs)) (nat_lt 24576 (size_of (board.subs ++ sub ∷ []))) refl refl room;
  };
  barcodes = all_behind IsProperSub board.subs sub one.barcodes fit.barcode;
}

by_hand : (body : Body) (kept : List Record) (act : Act) → IsFitAct act → IsFitBody body → AreFitRecords kept → Fits (done (with_kept kept body) (act ∷ []))
by_hand body kept act silent b k = fits_told (with_kept kept body) (act ∷ []) (record { kept = k; outlet = b.outlet; intake = b.intake; offer = b.offer }) (more_said silent none_said)

where_kept : (test : Bool) (after body : Body) (act : Act) → IsFitBody body → Fits (done after (act ∷ [])) → Fits (if_kept test after act body)
where_kept true after body act b f = f
where_kept false after body act b f = fits_still body b

inserts_fit : (desk : Desk) (id : ℕ) (barcode : Option (List ℕ)) (body : Body) → IsFitId id → IsTextIf barcode → IsFitDesk desk → IsFitBody body → Fits (inserts desk id barcode body)
inserts_fit desk id barcode body small top d b = by_hand body (body.kept ++ plain_record id desk.name barcode ∷ []) (acts.Inserts id) tt b (behind_fits b.kept (plain_fits id desk.name barcode small d.name top))

removes_fit : (id : ℕ) (body : Body) → IsFitBody body → Fits (removes id body)
removes_fit id body b = where_kept (is_kept id body.kept) (with_kept (without id body.kept) body) body (acts.Removes id) b (by_hand body (without id body.kept) (acts.Removes id) tt b (without_fits id body.kept b.kept))

-- a board goes to another lane of the machine, or comes from one
gives_fit : (id to : ℕ) (body : Body) → IsFitBody body → Fits (gives id to body)
gives_fit id to body b = where_kept (is_kept id body.kept) (with_kept (without id body.kept) body) body (acts.Gives id to) b (by_hand body (without id body.kept) (acts.Gives id to) tt b (without_fits id body.kept b.kept))

gets_fit : (board : Record) (body : Body) → IsFitRecord board → IsFitBody body → Fits (gets board body)
gets_fit board body one b = by_hand body (body.kept ++ board ∷ []) (acts.Gets board.id) tt b (behind_fits b.kept one)

replaces_fit : (desk : Desk) (old new : ℕ) (body : Body) → IsFitId new → IsFitDesk desk → IsFitBody body → Fits (replaces desk old new body)
replaces_fit desk old new body small d b =
    let other : Record = plain_record new desk.name None in
    where_kept (is_kept old body.kept) (with_kept (with_instead old other body.kept) body) body (acts.Replaces old new) b
    (by_hand body (with_instead old other body.kept) (acts.Replaces old new) tt b (instead_fits old other body.kept (plain_fits new desk.name None small d.name tt) b.kept))

changes_fit : (id : ℕ) (test : Record → Bool) (change : Record → Record) (act : Act) (body : Body) (passes : Bool) → first_passes id test body.kept ≡ passes → IsFitAct act → ((board : Record) → test board ≡ true → IsFitRecord board → IsFitRecord (change board)) → IsFitBody body
    → Fits (if_kept passes (with_kept (with_changed id change body.kept) body) act body)
changes_fit id test change act body true is silent each b = by_hand body (with_changed id change body.kept) act silent b (changed_fits id test change body.kept each b.kept is)
changes_fit id test change act body false is silent each b = fits_still body b

marks_fit : (id : ℕ) (quality : Quality) (body : Body) → IsFitBody body → Fits (marks id quality body)
marks_fit id quality body b = changes_fit id (λ _. true) (λ r. record r { quality = quality }) (acts.Marks id quality) body (is_kept id body.kept) refl tt (λ board _ one. marked quality board one) b

subs_fit : (id : ℕ) (sub : SubBoard) (body : Body) → IsFitSub sub → IsFitBody body → Fits (adds_sub id sub body)
subs_fit id sub body fit b = changes_fit id (λ r. not (is_full r.subs sub)) (λ r. record r { subs = r.subs ++ sub ∷ [] }) (acts.Subs id sub.pos) body (takes_sub id sub body.kept) refl tt (λ board room one. subbed board sub one fit room) b

faults_fit : (desk : Desk) (side : Side) (body : Body) → IsFitDesk desk → IsFitBody body → Fits (faults desk side body)
faults_fit desk Entry body d b = at_intake_fits desk in_input.Fault body tt d b
faults_fit desk Exit body d b = at_outlet_fits desk out_input.Fault body tt d b

wills_fit : (side : Side) (on : Bool) (body : Body) → IsFitBody body → Fits (wills side on body)
wills_fit Entry on body b = record { body = record { kept = b.kept; outlet = b.outlet; intake = b.intake; offer = b.offer }; acts = more_said tt none_said }
wills_fit Exit on body b = record { body = record { kept = b.kept; outlet = b.outlet; intake = b.intake; offer = b.offer }; acts = more_said tt none_said }

levels_fit : (line : SegmentLine) (on : Bool) (body : Body) → IsFitBody body → Fits (tells_level line on body)
levels_fit Ready on body b = record { body = record { kept = b.kept; outlet = b.outlet; intake = b.intake; offer = b.offer }; acts = more_said tt none_said }
levels_fit Available on body b = record { body = record { kept = b.kept; outlet = b.outlet; intake = b.intake; offer = b.offer }; acts = more_said tt none_said }
levels_fit Failed on body b = record { body = b; acts = more_said tt none_said }

fails_fit : (found : Option ℕ) (body : Body) → IsFitBody body → Fits (fails found body)
fails_fit None body b = fits_still body b
fails_fit (Some id) body b = marks_fit id qualities.Failed body b

sets_level_fits : (desk : Desk) (line : SegmentLine) (on : Bool) (body : Body) → IsFitBody body → Fits (sets_level desk line on body)
sets_level_fits desk line on body b =
    let one : Body = (tells_level line on body).body in
    let told : Fits (tells_level line on body) = levels_fit line on body b in
    fits_both (tells_level line on body) (λ (x : Body). fails (failed_front desk.bridge line on x) x) told
    (fails_fit (failed_front desk.bridge line on one) one told.body)

-- nothing that is said to a supervisor, or that it says, is a message of a link
supervises_fit : (desk : Desk) (what : Supervision) (body : Body) → IsFitBody body
    → Fits (supervises desk what body)
supervises_fit desk (Supervise on) body b = record { body = b; acts = more_said tt none_said }
supervises_fit desk (Ask question) body b = record { body = b; acts = more_said tt none_said }
supervises_fit desk (Answer query order) body b = record { body = b; acts = more_said tt none_said }

-- ---- an event

pub event_fits : (desk : Desk) (event : Event) (body : Body) → IsFitEvent event → IsFitDesk desk → IsFitBody body → Fits (event_did desk event body)
event_fits desk Nothing body given d b = fits_still body b
event_fits desk Connect body given d b = fits_behind (acts.Connects ∷ []) (opens desk Entry body) (more_said tt none_said) (opens_fit desk Entry body d b)
event_fits desk Accepted body given d b = opens_fit desk Exit body d b
event_fits desk Second body given d b = second_fits desk body d b
event_fits desk (Words side words) body given d b = words_fit desk side words body given d b
event_fits desk (Notice side) body given d b = notices_fit desk side body d b
event_fits desk Tick body given d b = both_tick_fits desk body d b
event_fits desk Shutdown body given d b = both_shut_fits desk body d b
event_fits desk (Fault side) body given d b = faults_fit desk side body d b
event_fits desk (Will side on) body given d b = wills_fit side on body b
event_fits desk (Insert id barcode) body given d b = inserts_fit desk id barcode body given.0 given.1 d b
event_fits desk (Remove id) body given d b = removes_fit id body b
event_fits desk (Replace old new) body given d b = replaces_fit desk old new body given d b
event_fits desk (Mark id quality) body given d b = marks_fit id quality body b
event_fits desk (Sub id sub) body given d b = subs_fit id sub body given b
event_fits desk (Level line on) body given d b = sets_level_fits desk line on body b
event_fits desk Forecast body given d b = fits_told body _ b (forecasts_fit desk (slice_get body.kept 0) d (front_fits body.kept b.kept))
event_fits desk (Query barcode) body given d b = fits_told body _ b (sent desk Entry (bodies.QueryBoardInfo (Some barcode) None) d (question_fits barcode given))
event_fits desk (Supervised what) body given d b = supervises_fit desk what body b
event_fits desk (Gives id to) body given d b = gives_fit id to body b
event_fits desk (Gets board) body given d b = gets_fit board body given b

-- ---- announcements

revoke_fits : (desk : Desk) (test : Bool) (body : Body) → IsFitDesk desk → IsFitBody body → Fits (revoke_by desk test body)
revoke_fits desk true body d b = at_outlet_fits desk out_input.Revoke body tt d b
revoke_fits desk false body d b = fits_still body b

unready_fits : (desk : Desk) (test : Bool) (body : Body) → IsFitDesk desk → IsFitBody body → Fits (unready_by desk test body)
unready_fits desk true body d b = at_intake_fits desk in_input.Unready body tt d b
unready_fits desk false body d b = fits_still body b

offer_fits : (desk : Desk) (test : Bool) (front : Option Record) (body : Body) → IsFitDesk desk → IsFitBody body → Fits (offer_by desk test front body)
offer_fits desk true (Some front) body d b = at_outlet_fits desk (out_input.Offer front.id) body tt d b
offer_fits desk true None body d b = fits_still body b
offer_fits desk false front body d b = fits_still body b

ready_fits : (desk : Desk) (test : Bool) (body : Body) → IsFitDesk desk → IsFitBody body → Fits (ready_by desk test body)
ready_fits desk true body d b = at_intake_fits desk in_input.Ready body tt d b
ready_fits desk false body d b = fits_still body b

start_fits : (desk : Desk) (test : Bool) (body : Body) → IsFitDesk desk → IsFitBody body → Fits (start_by desk test body)
start_fits desk true body d b = at_intake_fits desk in_input.Start body tt d b
start_fits desk false body d b = fits_still body b

pub announces_fit : (desk : Desk) (body : Body) → IsFitDesk desk → IsFitBody body → Fits (announces desk body)
announces_fit desk body d b =
    let one : Fits (revoke desk body) = revoke_fits desk (revokes_now body) body d b in
    let at_one : Body = (revoke desk body).body in
    let two : Fits (unready desk at_one) = unready_fits desk (unreadies_now desk at_one) at_one d one.body in
    let at_two : Body = (unready desk at_one).body in
    let three : Fits (offer desk at_two) = offer_fits desk (offers_now at_two) (slice_get at_two.kept 0) at_two d two.body in
    let at_three : Body = (offer desk at_two).body in
    let four : Fits (ready desk at_three) = ready_fits desk (readies_now desk at_three) at_three d three.body in
    let at_four : Body = (ready desk at_three).body in
    let five : Fits (start desk at_four) = start_fits desk (starts_now at_four) at_four d four.body in
    fits_both (revoke desk body) (λ (x : Body). and_then (unready desk x) (λ (y : Body). and_then (offer desk y) (λ (z : Body). and_then (ready desk z) (start desk)))) one
    (fits_both (unready desk at_one) (λ (y : Body). and_then (offer desk y) (λ (z : Body). and_then (ready desk z) (start desk))) two
    (fits_both (offer desk at_two) (λ (z : Body). and_then (ready desk z) (start desk)) three
    (fits_both (ready desk at_three) (start desk) four five)))

-- ---- THE STEP

-- what the supervisor is told aside
plain_step_fits : (desk : Desk) (unread : List Sensed) (event : Event) (body : Body)
    → IsFitDesk desk → IsFitEvent event → IsFitBody body → Fits (plain_step desk unread event body)
plain_step_fits desk unread event body d given b =
    let one : Fits (all_read desk unread body) = all_read_fit desk unread body d b in
    let at_one : Body = (all_read desk unread body).body in
    let two : Fits (event_did desk event at_one) = event_fits desk event at_one given d one.body in
    let three : Fits (announces desk (event_did desk event at_one).body) = announces_fit desk (event_did desk event at_one).body d two.body in
    fits_both (all_read desk unread body) (λ (x : Body). and_then (event_did desk event x) (announces desk)) one
    (fits_both (event_did desk event at_one) (announces desk) two three)

pub step_fits : (desk : Desk) (unread : List Sensed) (event : Event) (body : Body)
    → IsFitDesk desk → IsFitEvent event → IsFitBody body → Fits (machine_step desk unread event body)
step_fits desk unread event body d given b =
    let did : Fits (plain_step desk unread event body) =
    plain_step_fits desk unread event body d given b in
    record { body = did.body; acts = with_tells_fit desk (watch_of desk body) did.acts }

-- a bridge's own signals are no messages
told_fits : (signal : Signal) (edge : Option Bool) → AreFitActs (signal_told signal edge)
told_fits signal None = none_said
told_fits signal (Some on) = more_said tt none_said

pub signals_fit : (bridge : Option BridgeLevels) (body : Body) → AreFitActs (signalled bridge body)
signals_fit None body = none_said
signals_fit (Some before) body =
    let edges : BridgeEdges = bridge_edges before.own (signals_of (quality_taken body.intake.phase) (moves_out body)) in
    both_said (told_fits signals.EntryAvailable edges.available)
    (both_said (told_fits signals.EntryFailed edges.failed) (told_fits signals.ExitReady edges.ready))
