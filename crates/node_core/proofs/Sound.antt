-- A machine is sound after each step, and what it owns follows from its acts.
use Rattle.std.proofs.Common.{◌≡◌, ◌∙◌, ◌+◌, ◌≤◌, ◌<◌, ◌++◌, ◌==◌, ◌&&◌, ◌||◌, ℕ, Bool, true, false, List, [], ◌∷◌, Option, Some, None, length, refl, sym, ap, subst, arith, not, eqb-true, length-append}
use Rattle.std.specs.Prelude.{IfSome, is_some, nat_lt, slice_get}
use Rattle.std.proofs.lemmas.Bool.{false≢true, and_parts, not-false}
use Rattle.std.proofs.lemmas.Bool.Decides.{nat_tests}
use Rattle.line_base.specs.declared.states.Side.{Side}
use Rattle.line_base.specs.declared.states.Side.TheVariants.{Entry, Exit}
use Rattle.line_base.specs.declared.states.SensorEvent.{SensorEvent}
use Rattle.line_base.specs.declared.states.Quality.{Quality}
use Rattle.line_base.specs.declared.states.Quality.TheVariants as qualities
use Rattle.smema_bridge.specs.declared.line.SegmentLine.{SegmentLine}
use Rattle.smema_bridge.specs.declared.line.SegmentLine.TheVariants.{Ready, Available, Failed}
use Rattle.board_record.specs.declared.record.Record.{Record}
use Rattle.board_record.specs.Record.{plain_record}
use Rattle.board_record.specs.declared.sensed.Sensed.{Sensed as Seen}
use Rattle.board_record.specs.declared.sub_board.SubBoard.{SubBoard}
use Rattle.session_core.specs.Input.{opened, second, tick, shutdown}
use Rattle.session_core.specs.Row.{session_row}
use Rattle.handover_out.specs.declared.input.OutInput.TheVariants as out_input
use Rattle.handover_out.specs.declared.phase.Phase.{Phase}
use Rattle.handover_out.specs.declared.phase.Phase.TheVariants.{Idle, Moving, Stuck, Ended}
use Rattle.handover_out.specs.State.{OutState, is_idle_phase, held}
use Rattle.handover_out.specs.Row.{OutRow, outlet_row, revoke_row}
use Rattle.handover_out.specs.Table.{IsOutletRow, revokes}
use Rattle.handover_out.proofs.Rows.{row_is}
use Rattle.handover_in.specs.declared.input.InInput.TheVariants as in_input
use Rattle.handover_in.specs.declared.phase.Phase.{Phase as InPhase}
use Rattle.handover_in.specs.declared.phase.Phase.TheVariants as in_phase
use Rattle.handover_in.specs.State.{InState, held as in_held, name_of_phase}
use Rattle.handover_in.specs.Row.{InRow, intake_row, unready_row}
use Rattle.handover_in.specs.Table.{IsIntakeRow, gets_unready, starts_transport}
use Rattle.handover_in.proofs.Rows.{row_is as in_row_is}
use Rattle.node_core.specs.Desk.{Desk}
use Rattle.node_core.specs.declared.act.Act.{Act}
use Rattle.node_core.specs.declared.act.Act.TheVariants as acts
use Rattle.node_core.specs.declared.act.Setting.TheVariants as settings
use Rattle.node_core.specs.declared.lane.Body.{Body}
use Rattle.node_core.specs.declared.word.Word.{Word}
use Rattle.node_core.specs.Done.{Done, done, stays, behind, and_then}
use Rattle.node_core.specs.Sides.{session_at, is_open, is_standing}
use Rattle.node_core.specs.Halves.{OffersFront, settled, outlet_row_did, intake_row_did, ended}
use Rattle.node_core.specs.Reads.{saw, reads, all_read}
use Rattle.node_core.specs.Connect.{opens, notices, ticks, shuts_down}
use Rattle.node_core.specs.Boards.{without, with_changed, with_instead, with_mark, with_sub, is_kept, takes_sub, if_kept, removes, replaces, marks, adds_sub, gets, gives, inserts, faults, wills}
use Rattle.node_core.specs.Bridge.{with_level_will, failed_front, fails, sets_level}
use Rattle.node_core.specs.Information.{forecasts, asks_for}
use Rattle.node_core.specs.Places.{used, place_for, has_place}
use Rattle.node_core.specs.Announces.{is_free, is_intake_free, is_front, revokes_now, revoke_by, revoke, unreadies_now, unready_by, unready, offers_now, offer_by, offer, readies_now, ready_by, ready, starts_now, start_by, start, announces}
use Rattle.node_core.specs.Words.{word_did}
use Rattle.node_core.specs.Event.{Event, Nothing, Connect, Accepted, Second, Words, Notice, Tick, Shutdown, Fault, Will, Level, Insert, Remove, Replace, Mark, Sub, Forecast, Query, Supervised, Gives, Gets, event_did}
use Rattle.node_core.specs.Supervising.{Supervision, Supervise, Ask, Answer, supervises, watch_of, with_tells}
use Rattle.node_core.specs.declared.supervising.Watch.{Watch}
use Rattle.node_core.specs.Step.{machine_step, plain_step}
use Rattle.node_core.specs.Own.{Own, own_act, own_after, own_of, ids_of, without_id, with_id_instead}
use Rattle.node_core.specs.Sound.{IsSound}
use Rattle.node_core.proofs.Offers.{Offers, offers_none, offers_front, OffersOf, to_offers, from_offers, front_offers, settled_offers, nothing_offered}
use Rattle.node_core.proofs.HalfRows.{offer_offers, offer_places, offer_owns, in_places, in_row_places, in_row_owns}
use Rattle.node_core.proofs.KeptIds.{LeavesId, ids_behind, ids_changed, ids_instead, ids_without}
use Rattle.node_core.proofs.Telling.{beside}
use Rattle.node_core.proofs.Keeping.{Keeps, SameParts, SameWills, keeps_still, keeps_told, keeps_behind, keeps_both, own_append, at_outlet_keeps, at_intake_keeps, ended_keeps, session_keeps, heard_keeps, word_keeps, if_keeps, fewer_out}

-- ---- what the loop over a piece needs

pub word_offers : (desk : Desk) (side : Side) (word : Word) (body : Body) → OffersFront body → OffersFront (word_did desk side word body).body
word_offers desk side word body h = from_offers (word_did desk side word body).body ((word_keeps 0 desk side word body).offers (to_offers body h))

-- ---- sensor events

saw_keeps : (most : ℕ) (desk : Desk) (side : Side) (event : SensorEvent) (body : Body) → Keeps most body (saw desk side event body)
saw_keeps most desk Entry event body = at_intake_keeps most desk (in_input.Sensed event) body tt
saw_keeps most desk Exit event body = at_outlet_keeps most desk (out_input.Sensed event) body tt

read_keeps : (most : ℕ) (desk : Desk) (sensed : Seen) (body : Body) → Keeps most body (reads desk sensed body)
read_keeps most desk sensed body = keeps_behind most body (acts.Reads sensed.side sensed.event ∷ []) (saw desk sensed.side sensed.event body) (λ own. refl) (saw_keeps most desk sensed.side sensed.event body)

pub all_read_keeps : (most : ℕ) (desk : Desk) (unread : List Seen) (body : Body) → Keeps most body (all_read desk unread body)
all_read_keeps most desk [] body = keeps_still most body
all_read_keeps most desk (s ∷ ss) body = keeps_both most body (reads desk s body) (all_read desk ss) (read_keeps most desk s body) (all_read_keeps most desk ss (reads desk s body).body)

pub read_offers : (desk : Desk) (unread : List Seen) (body : Body) → OffersFront body → OffersFront (all_read desk unread body).body
read_offers desk unread body h = from_offers (all_read desk unread body).body ((all_read_keeps 0 desk unread body).offers (to_offers body h))

-- ---- connections

opens_keeps : (most : ℕ) (desk : Desk) (side : Side) (body : Body) → Keeps most body (opens desk side body)
opens_keeps most desk side body = session_keeps most desk side opened body (session_row (session_at side body) opened) refl

ticks_keeps : (most : ℕ) (desk : Desk) (side : Side) (body : Body) → Keeps most body (ticks desk side body)
ticks_keeps most desk side body = session_keeps most desk side tick body (session_row (session_at side body) tick) refl

shuts_down_keeps : (most : ℕ) (desk : Desk) (side : Side) (body : Body) → Keeps most body (shuts_down desk side body)
shuts_down_keeps most desk side body = session_keeps most desk side shutdown body (session_row (session_at side body) shutdown) refl

notices_keeps : (most : ℕ) (desk : Desk) (side : Side) (body : Body) → Keeps most body (notices desk side body)
notices_keeps most desk side body = if_keeps most (is_open side body) (behind (acts.Notices side ∷ []) (ended desk side body)) body
    (keeps_behind most body (acts.Notices side ∷ []) (ended desk side body) (λ own. refl) (ended_keeps most desk side body))

faults_keeps : (most : ℕ) (desk : Desk) (side : Side) (body : Body) → Keeps most body (faults desk side body)
faults_keeps most desk Entry body = at_intake_keeps most desk in_input.Fault body tt
faults_keeps most desk Exit body = at_outlet_keeps most desk out_input.Fault body tt

-- ---- by hand: the offer may be no longer that of the front record, until it is revoked

-- a board is offered only while no handover is open
abbrev pub IsOfferIdle : Body → Type 0
IsOfferIdle body = IfSome body.outlet.offered (λ id. is_idle_phase body.outlet.phase ≡ true)

pub record KeepsLoosely (most : ℕ) (body : Body) (d : Done) : Type 0 where
  pub offers : OffersOf body → IsOfferIdle d.body
  pub parts : SameParts body d.body
  pub places : used body ≤ most → used d.body ≤ most
  pub owns : own_after (own_of body) d.acts ≡ own_of d.body

idle_from : (phase : Phase) (offered : Option ℕ) (kept : List Record) → Offers phase offered kept → IfSome offered (λ id. is_idle_phase phase ≡ true)
idle_from phase offered kept offers_none = tt
idle_from phase offered kept offers_front = refl

offer_idle : (body : Body) → OffersOf body → IsOfferIdle body
offer_idle body h = idle_from body.outlet.phase body.outlet.offered body.kept h

loosely : (most : ℕ) (body : Body) (d : Done) → Keeps most body d → KeepsLoosely most body d
loosely most body d k = record { offers = λ h. offer_idle d.body (k.offers h); parts = k.parts; places = k.places; owns = k.owns }

-- kept records that are changed by hand
fits_by_hand : (kept others : List Record) (a b most : ℕ) → length others ≤ length kept → length kept + a + b ≤ most → length others + a + b ≤ most
fits_by_hand kept others a b most fewer fits = omega (arith, fewer, fits)

by_hand : (most : ℕ) (body : Body) (kept : List Record) (act : Act) → length kept ≤ length body.kept → own_act (own_of body) act ≡ own_of (record body { kept = kept }) → KeepsLoosely most body (done (record body { kept = kept }) (act ∷ []))
by_hand most body kept act fewer owns = record {
  offers = λ h. offer_idle body h;
  parts = record { entry = refl; exit = refl };
  places = λ fits. fits_by_hand body.kept kept (place_for (held body.outlet)) (place_for (in_held body.intake)) most fewer fits;
  owns = owns;
}

where_kept : (most : ℕ) (test : Bool) (body after : Body) (act : Act) → KeepsLoosely most body (done after (act ∷ [])) → KeepsLoosely most body (if_kept test after act body)
where_kept most true body after act k = k
where_kept most false body after act k = loosely most body (stays body) (keeps_still most body)

-- as many ids as records
length_ids : (kept : List Record) → length (ids_of kept) ≡ length kept
length_ids [] = refl
length_ids (board ∷ boards) = omega (arith, length_ids boards)

fewer_without : (test : Bool) (id mine : ℕ) (ids : List ℕ) → mine == id ≡ test → length (without_id id ids) ≤ length ids → length (without_id id (mine ∷ ids)) ≤ length (mine ∷ ids)
fewer_without true id mine ids is fewer = rw is (let h : length ids ≤ length (mine ∷ ids) = omega arith in h)
fewer_without false id mine ids is fewer = rw is (let h : length (mine ∷ without_id id ids) ≤ length (mine ∷ ids) = omega (arith, fewer) in h)

length_without : (id : ℕ) (ids : List ℕ) → length (without_id id ids) ≤ length ids
length_without id [] = omega arith
length_without id (mine ∷ ids) = fewer_without (mine == id) id mine ids refl (length_without id ids)

same_instead : (test : Bool) (id new mine : ℕ) (ids : List ℕ) → mine == id ≡ test → length (with_id_instead id new ids) ≡ length ids → length (with_id_instead id new (mine ∷ ids)) ≡ length (mine ∷ ids)
same_instead true id new mine ids is same = rw is (let h : length (new ∷ ids) ≡ length (mine ∷ ids) = omega arith in h)
same_instead false id new mine ids is same = rw is (let h : length (mine ∷ with_id_instead id new ids) ≡ length (mine ∷ ids) = omega (arith, same) in h)

length_instead : (id new : ℕ) (ids : List ℕ) → length (with_id_instead id new ids) ≡ length ids
length_instead id new [] = refl
length_instead id new (mine ∷ ids) = same_instead (mine == id) id new mine ids refl (length_instead id new ids)

removes_keeps : (most id : ℕ) (body : Body) → KeepsLoosely most body (removes id body)
removes_keeps most id body =
    let fewer : length (without id body.kept) ≤ length body.kept = omega (arith, sym (length_ids (without id body.kept)) ∙ ap length (sym (ids_without id body.kept)), length_without id (ids_of body.kept), length_ids body.kept) in
    where_kept most (is_kept id body.kept) body _ (acts.Removes id) (by_hand most body (without id body.kept) (acts.Removes id) fewer (ap (λ (ids : List ℕ). record (own_of body) { kept = ids }) (ids_without id body.kept)))

replaces_keeps : (most : ℕ) (desk : Desk) (old new : ℕ) (body : Body) → KeepsLoosely most body (replaces desk old new body)
replaces_keeps most desk old new body =
    let other = plain_record new desk.name None in
    let fewer : length (with_instead old other body.kept) ≤ length body.kept = omega (arith, sym (length_ids (with_instead old other body.kept)) ∙ ap length (sym (ids_instead old other body.kept)), length_instead old new (ids_of body.kept), length_ids body.kept) in
    where_kept most (is_kept old body.kept) body _ (acts.Replaces old new) (by_hand most body (with_instead old other body.kept) (acts.Replaces old new) fewer (ap (λ (ids : List ℕ). record (own_of body) { kept = ids }) (ids_instead old other body.kept)))

-- a record is changed, and neither its id nor what the machine owns
changes_keeps : (most id : ℕ) (change : Record → Record) (test : Bool) (act : Act) (body : Body) → LeavesId change → own_act (own_of body) act ≡ own_of body
    → KeepsLoosely most body (if_kept test (record body { kept = with_changed id change body.kept }) act body)
changes_keeps most id change test act body leaves quiet =
    let same : ids_of body.kept ≡ ids_of (with_changed id change body.kept) = ids_changed id change body.kept leaves in
    let fewer : length (with_changed id change body.kept) ≤ length body.kept = omega (arith, sym (length_ids (with_changed id change body.kept)) ∙ ap length (sym same), length_ids body.kept) in
    where_kept most test body _ act (by_hand most body (with_changed id change body.kept) act fewer (quiet ∙ ap (λ (ids : List ℕ). record (own_of body) { kept = ids }) same))

marks_keeps : (most id : ℕ) (quality : Quality) (body : Body) → KeepsLoosely most body (marks id quality body)
marks_keeps most id quality body = changes_keeps most id (λ board. record board { quality = quality }) (is_kept id body.kept) (acts.Marks id quality) body (λ _. refl) refl

subs_keeps : (most id : ℕ) (sub : SubBoard) (body : Body) → KeepsLoosely most body (adds_sub id sub body)
subs_keeps most id sub body = changes_keeps most id (λ board. record board { subs = board.subs ++ sub ∷ [] }) (takes_sub id sub body.kept) (acts.Subs id sub.pos) body (λ _. refl) refl

one_more : (kept : List Record) (board : Record) (a b most : ℕ) → length kept + a + b < most → length (kept ++ board ∷ []) + a + b ≤ most
one_more kept board a b most fits = omega (arith, fits, length-append kept (board ∷ []))

inserts_keeps : (most : ℕ) (desk : Desk) (id : ℕ) (barcode : Option (List ℕ)) (body : Body) → used body < most → KeepsLoosely most body (inserts desk id barcode body)
inserts_keeps most desk id barcode body fits = record {
  offers = λ h. offer_idle body h;
  parts = record { entry = refl; exit = refl };
  places = λ _. one_more body.kept (plain_record id desk.name barcode) (place_for (held body.outlet)) (place_for (in_held body.intake)) most fits;
  owns = ap (λ (ids : List ℕ). record (own_of body) { kept = ids }) (ids_behind body.kept (plain_record id desk.name barcode));
}

gives_keeps : (most id to : ℕ) (body : Body) → KeepsLoosely most body (gives id to body)
gives_keeps most id to body =
    let fewer : length (without id body.kept) ≤ length body.kept = omega (arith, sym (length_ids (without id body.kept)) ∙ ap length (sym (ids_without id body.kept)), length_without id (ids_of body.kept), length_ids body.kept) in
    where_kept most (is_kept id body.kept) body _ (acts.Gives id to) (by_hand most body (without id body.kept) (acts.Gives id to) fewer (ap (λ (ids : List ℕ). record (own_of body) { kept = ids }) (ids_without id body.kept)))

gets_keeps : (most : ℕ) (board : Record) (body : Body) → used body < most → KeepsLoosely most body (gets board body)
gets_keeps most board body fits = record {
  offers = λ h. offer_idle body h;
  parts = record { entry = refl; exit = refl };
  places = λ _. one_more body.kept board (place_for (held body.outlet)) (place_for (in_held body.intake)) most fits;
  owns = ap (λ (ids : List ℕ). record (own_of body) { kept = ids }) (ids_behind body.kept board);
}

wills_keeps : (most : ℕ) (side : Side) (on : Bool) (body : Body) → KeepsLoosely most body (wills side on body)
wills_keeps most Entry on body = record { offers = λ h. offer_idle body h; parts = record { entry = refl; exit = refl }; places = λ h. h; owns = refl }
wills_keeps most Exit on body = record { offers = λ h. offer_idle body h; parts = record { entry = refl; exit = refl }; places = λ h. h; owns = refl }

-- a level of a bridge's segment changes its will at most, and then the front board may be marked

level_then : (most : ℕ) (line : SegmentLine) (on : Bool) (body : Body) (d : Done) → KeepsLoosely most (with_level_will line on body) d → KeepsLoosely most body (behind (acts.Sets (settings.Level line on) ∷ []) d)
level_then most Ready on body d k = record { offers = k.offers; parts = record { entry = k.parts.entry; exit = k.parts.exit }; places = k.places; owns = k.owns }
level_then most Available on body d k = record { offers = k.offers; parts = record { entry = k.parts.entry; exit = k.parts.exit }; places = k.places; owns = k.owns }
level_then most Failed on body d k = record { offers = k.offers; parts = record { entry = k.parts.entry; exit = k.parts.exit }; places = k.places; owns = k.owns }

fails_keeps : (most : ℕ) (board : Option ℕ) (body : Body) → KeepsLoosely most body (fails board body)
fails_keeps most None body = loosely most body (stays body) (keeps_still most body)
fails_keeps most (Some id) body = marks_keeps most id qualities.Failed body

sets_level_keeps : (most : ℕ) (desk : Desk) (line : SegmentLine) (on : Bool) (body : Body) → KeepsLoosely most body (sets_level desk line on body)
sets_level_keeps most desk line on body =
    let one = with_level_will line on body in
    level_then most line on body (fails (failed_front desk.bridge line on one) one) (fails_keeps most (failed_front desk.bridge line on one) one)

-- what is told of boards beside their handovers

forecasts_keep : (most : ℕ) (desk : Desk) (front : Option Record) (body : Body) → Keeps most body (done body (forecasts desk front))
forecasts_keep most desk None body = keeps_still most body
forecasts_keep most desk (Some board) body = keeps_told most body _ (λ own. refl)

asks_keeps : (most : ℕ) (desk : Desk) (barcode : List ℕ) (body : Body) → Keeps most body (asks_for desk barcode body)
asks_keeps most desk barcode body = keeps_told most body _ (λ own. refl)

supervises_keeps : (most : ℕ) (desk : Desk) (what : Supervision) (body : Body) → Keeps most body (supervises desk what body)
supervises_keeps most desk (Supervise on) body = keeps_told most body _ (λ own. refl)
supervises_keeps most desk (Ask question) body = keeps_told most body _ (λ own. refl)
supervises_keeps most desk (Answer query order) body = keeps_told most body _ (λ own. refl)

-- a board is put in only where there is a place
abbrev pub HasPlaceFor : ℕ → Event → Body → Type 0
HasPlaceFor most (Insert id barcode) body = used body < most
HasPlaceFor most (Gets board) body = used body < most
HasPlaceFor most _ body = Unit {0}

event_keeps : (most : ℕ) (desk : Desk) (event : Event) (body : Body) → HasPlaceFor most event body → KeepsLoosely most body (event_did desk event body)
event_keeps most desk Nothing body fits = loosely most body _ (keeps_still most body)
event_keeps most desk Connect body fits = loosely most body _ (keeps_behind most body (acts.Connects ∷ []) (opens desk Entry body) (λ own. refl) (opens_keeps most desk Entry body))
event_keeps most desk Accepted body fits = loosely most body _ (opens_keeps most desk Exit body)
event_keeps most desk Second body fits = loosely most body _ (session_keeps most desk Exit second body (session_row (session_at Exit body) second) refl)
event_keeps most desk (Words side words) body fits = loosely most body _ (heard_keeps most desk side words body)
event_keeps most desk (Notice side) body fits = loosely most body _ (notices_keeps most desk side body)
event_keeps most desk Tick body fits = loosely most body _ (keeps_both most body (ticks desk Entry body) (ticks desk Exit) (ticks_keeps most desk Entry body) (ticks_keeps most desk Exit (ticks desk Entry body).body))
event_keeps most desk Shutdown body fits = loosely most body _ (keeps_both most body (shuts_down desk Entry body) (shuts_down desk Exit) (shuts_down_keeps most desk Entry body) (shuts_down_keeps most desk Exit (shuts_down desk Entry body).body))
event_keeps most desk (Fault side) body fits = loosely most body _ (faults_keeps most desk side body)
event_keeps most desk (Will side on) body fits = wills_keeps most side on body
event_keeps most desk (Level line on) body fits = sets_level_keeps most desk line on body
event_keeps most desk (Insert id barcode) body fits = inserts_keeps most desk id barcode body fits
event_keeps most desk (Remove id) body fits = removes_keeps most id body
event_keeps most desk (Replace old new) body fits = replaces_keeps most desk old new body
event_keeps most desk (Mark id quality) body fits = marks_keeps most id quality body
event_keeps most desk (Sub id sub) body fits = subs_keeps most id sub body
event_keeps most desk Forecast body fits = loosely most body _ (forecasts_keep most desk (slice_get body.kept 0) body)
event_keeps most desk (Query barcode) body fits = loosely most body _ (asks_keeps most desk barcode body)
event_keeps most desk (Supervised what) body fits = loosely most body _ (supervises_keeps most desk what body)
event_keeps most desk (Gives id to) body fits = gives_keeps most id to body
event_keeps most desk (Gets board) body fits = gets_keeps most board body fits

-- ---- the will

kept_wills : (test : Bool) (kept : List Record) (act : Act) (body : Body) → SameWills body (if_kept test (record body { kept = kept }) act body).body
kept_wills true kept act body = record { entry = refl; exit = refl }
kept_wills false kept act body = record { entry = refl; exit = refl }

pub fails_wills : (board : Option ℕ) (body : Body) → SameWills body (fails board body).body
fails_wills None body = record { entry = refl; exit = refl }
fails_wills (Some id) body = kept_wills (is_kept id body.kept) (with_mark id qualities.Failed body.kept) (acts.Marks id qualities.Failed) body

-- an event that is none of the will
abbrev pub IsWilless : Event → Type 0
IsWilless (Will side on) = ⊥
IsWilless (Level line on) = ⊥
IsWilless _ = Unit {0}

pub event_wills : (desk : Desk) (event : Event) (body : Body) → IsWilless event → SameWills body (event_did desk event body).body
event_wills desk Connect body no_will = (keeps_behind 0 body (acts.Connects ∷ []) (opens desk Entry body) (λ own. refl) (opens_keeps 0 desk Entry body)).wills
event_wills desk Accepted body no_will = (opens_keeps 0 desk Exit body).wills
event_wills desk Second body no_will = (session_keeps 0 desk Exit second body (session_row (session_at Exit body) second) refl).wills
event_wills desk (Words side words) body no_will = (heard_keeps 0 desk side words body).wills
event_wills desk (Notice side) body no_will = (notices_keeps 0 desk side body).wills
event_wills desk Tick body no_will = (keeps_both 0 body (ticks desk Entry body) (ticks desk Exit) (ticks_keeps 0 desk Entry body) (ticks_keeps 0 desk Exit (ticks desk Entry body).body)).wills
event_wills desk Shutdown body no_will = (keeps_both 0 body (shuts_down desk Entry body) (shuts_down desk Exit) (shuts_down_keeps 0 desk Entry body) (shuts_down_keeps 0 desk Exit (shuts_down desk Entry body).body)).wills
event_wills desk (Fault side) body no_will = (faults_keeps 0 desk side body).wills
event_wills desk (Will side on) body no_will = absurd no_will
event_wills desk (Level line on) body no_will = absurd no_will
event_wills desk (Remove id) body no_will = kept_wills (is_kept id body.kept) (without id body.kept) (acts.Removes id) body
event_wills desk (Replace old new) body no_will = kept_wills (is_kept old body.kept) (with_instead old (plain_record new desk.name None) body.kept) (acts.Replaces old new) body
event_wills desk (Mark id quality) body no_will = kept_wills (is_kept id body.kept) (with_mark id quality body.kept) (acts.Marks id quality) body
event_wills desk (Sub id sub) body no_will = kept_wills (takes_sub id sub body.kept) (with_sub id sub body.kept) (acts.Subs id sub.pos) body
event_wills desk (Gives id to) body no_will = kept_wills (is_kept id body.kept) (without id body.kept) (acts.Gives id to) body
event_wills desk _ body no_will = record { entry = refl; exit = refl }

-- ---- the announcements

-- what is offered after a revocation is the front record

revoked_none : {s : OutState} {r : OutRow} → IsOutletRow s out_input.Revoke r → r.after.offered ≡ None
revoked_none revokes = refl

has_revoke_row : (phase : Phase) (s : OutState) → is_idle_phase phase ≡ true → is_some s.offered ≡ true → revoke_row phase s ≡ None → ⊥
has_revoke_row Idle s idle some none = let h = rw some at none in cc
has_revoke_row (Moving _ _) s idle some none = false≢true idle
has_revoke_row (Stuck _ _ _) s idle some none = false≢true idle
has_revoke_row (Ended _) s idle some none = false≢true idle

revoked_did : (desk : Desk) (body : Body) (found : Option OutRow) → is_idle_phase body.outlet.phase ≡ true → is_some body.outlet.offered ≡ true → outlet_row body.outlet out_input.Revoke ≡ found → OffersOf (outlet_row_did desk body found).body
revoked_did desk body None idle some is = absurd (has_revoke_row body.outlet.phase body.outlet idle some is)
revoked_did desk body (Some r) idle some is = nothing_offered _ _ _ (revoked_none (row_is body.outlet out_input.Revoke r is))

unrevoked : (phase : Phase) (offered : Option ℕ) (kept : List Record) (willing : Bool) → IfSome offered (λ id. is_idle_phase phase ≡ true)
    → (is_idle_phase phase && is_some offered && (not willing || not (is_front offered (slice_get kept 0)))) ≡ false → Offers phase offered kept
unrevoked phase None kept willing idle test = offers_none
unrevoked (Moving _ _) (Some id) kept willing idle test = absurd (false≢true idle)
unrevoked (Stuck _ _ _) (Some id) kept willing idle test = absurd (false≢true idle)
unrevoked (Ended _) (Some id) kept willing idle test = absurd (false≢true idle)
unrevoked Idle (Some id) kept false idle test = absurd (false≢true (sym test))
unrevoked Idle (Some id) [] true idle test = absurd (false≢true (sym test))
unrevoked Idle (Some id) (b ∷ bs) true idle test = let same : id ≡ b.id = eqb-true id b.id (not-false (id == b.id) test) in subst (λ (i : ℕ). Offers Idle (Some i) (b ∷ bs)) (sym same) offers_front

revoke_offers : (desk : Desk) (test : Bool) (body : Body) → IsOfferIdle body → revokes_now body ≡ test → OffersOf (revoke_by desk test body).body
revoke_offers desk true body idle is =
    let all = and_parts (is_idle_phase body.outlet.phase && is_some body.outlet.offered) (not body.exit.willing || not (is_front body.outlet.offered (slice_get body.kept 0))) is in
    let two = and_parts (is_idle_phase body.outlet.phase) (is_some body.outlet.offered) all.0 in
    revoked_did desk body (outlet_row body.outlet out_input.Revoke) two.0 two.1 refl
revoke_offers desk false body idle is = unrevoked body.outlet.phase body.outlet.offered body.kept body.exit.willing idle is

-- the others
revoke_keeps : (most : ℕ) (desk : Desk) (test : Bool) (body : Body) → Keeps most body (revoke_by desk test body)
revoke_keeps most desk true body = at_outlet_keeps most desk out_input.Revoke body tt
revoke_keeps most desk false body = keeps_still most body

unready_keeps : (most : ℕ) (desk : Desk) (test : Bool) (body : Body) → Keeps most body (unready_by desk test body)
unready_keeps most desk true body = at_intake_keeps most desk in_input.Unready body tt
unready_keeps most desk false body = keeps_still most body

ready_keeps : (most : ℕ) (desk : Desk) (test : Bool) (body : Body) → Keeps most body (ready_by desk test body)
ready_keeps most desk true body = at_intake_keeps most desk in_input.Ready body tt
ready_keeps most desk false body = keeps_still most body

offer_did_keeps : (most : ℕ) (desk : Desk) (body : Body) (front : Record) (found : Option OutRow) → slice_get body.kept 0 ≡ Some front → outlet_row body.outlet (out_input.Offer front.id) ≡ found → Keeps most body (outlet_row_did desk body found)
offer_did_keeps most desk body front None first is = keeps_still most body
offer_did_keeps most desk body front (Some r) first is =
    let shape : IsOutletRow body.outlet (out_input.Offer front.id) r = row_is body.outlet (out_input.Offer front.id) r is in
    record {
      offers = λ h. offer_offers body.kept shape (front_offers body.kept front first);
      parts = record { entry = refl; exit = refl };
      wills = record { entry = refl; exit = refl };
      places = λ fits. fewer_out _ _ _ _ (place_for (in_held body.intake)) most (offer_places body.kept shape) fits;
      owns = offer_owns desk body.intake body.kept shape;
    }

offer_keeps : (most : ℕ) (desk : Desk) (test : Bool) (front : Option Record) (body : Body) → slice_get body.kept 0 ≡ front → Keeps most body (offer_by desk test front body)
offer_keeps most desk true (Some front) body is = offer_did_keeps most desk body front (outlet_row body.outlet (out_input.Offer front.id)) is refl
offer_keeps most desk true None body is = keeps_still most body
offer_keeps most desk false front body is = keeps_still most body

-- a start needs a place: where the intake is free and ready there is one
abbrev HasRoom : ℕ → Body → Type 0
HasRoom most body = is_intake_free body ≡ true → body.intake.ready ≡ true → used body < most

unready_after : {s : InState} {r : InRow} → IsIntakeRow s in_input.Unready r → r.after.ready ≡ false
unready_after gets_unready = refl

-- an intake that isn't ready needs none
pub below_from : (n most : ℕ) → nat_lt n most ≡ true → n < most
below_from n most is = grind (arith, nat_tests)

pub room_by_test : (free ready willing place : Bool) → (free && ready && (not willing || not place)) ≡ false → free ≡ true → ready ≡ true → place ≡ true
room_by_test true true true true test _ _ = refl
room_by_test true true true false test _ _ = absurd (false≢true (sym test))
room_by_test true true false place test _ _ = absurd (false≢true (sym test))
room_by_test false ready willing place test is _ = absurd (false≢true is)
room_by_test true false willing place test _ is = absurd (false≢true is)

row_by_free : (phase : InPhase) (s : InState) → is_free (name_of_phase phase) ≡ true → s.ready ≡ true → unready_row phase s ≡ None → ⊥
row_by_free in_phase.Idle s free said none = let h = rw said at none in cc
row_by_free (in_phase.Taking _ _ _) s free said none = false≢true free
row_by_free (in_phase.Stopped _ _ _) s free said none = false≢true free
row_by_free (in_phase.Waiting _ _ _) s free said none = false≢true free

unready_did : (desk : Desk) (body : Body) (found : Option InRow) → is_intake_free body ≡ true → body.intake.ready ≡ true → intake_row body.intake in_input.Unready ≡ found → (intake_row_did desk body found).body.intake.ready ≡ false
unready_did desk body None free ready is = absurd (row_by_free body.intake.phase body.intake free ready is)
unready_did desk body (Some r) free ready is = unready_after (in_row_is body.intake in_input.Unready r is)

unready_room : (desk : Desk) (test : Bool) (body : Body) → unreadies_now desk body ≡ test → HasRoom desk.capacity (unready_by desk test body).body
unready_room desk true body is = λ free ready.
    let all = and_parts (is_intake_free body && body.intake.ready) (not body.entry.willing || not (has_place desk body)) is in
    let two = and_parts (is_intake_free body) body.intake.ready all.0 in
    absurd (false≢true (sym (unready_did desk body (intake_row body.intake in_input.Unready) two.0 two.1 refl) ∙ ready))
unready_room desk false body is = λ free ready. below_from (used body) desk.capacity (room_by_test (is_intake_free body) body.intake.ready body.entry.willing (has_place desk body) is free ready)

room_stays : (kept others a b more most : ℕ) → kept + a ≤ others + b → others + b + more < most → kept + a + more < most
room_stays kept others a b more most fewer fits = omega (arith, fewer, fits)

in_room_stays : (kept others out a b most : ℕ) → kept + a ≤ others + b → others + out + b < most → kept + out + a < most
in_room_stays kept others out a b most fewer fits = omega (arith, fewer, fits)

start_fits : (kept others out a b most : ℕ) → kept + a ≤ others + b + 1 → others + out + b < most → kept + out + a ≤ most
start_fits kept others out a b most fewer fits = omega (arith, fewer, fits)

-- an offer leaves the room
offer_room_did : (most : ℕ) (desk : Desk) (body : Body) (id : ℕ) (found : Option OutRow) → outlet_row body.outlet (out_input.Offer id) ≡ found → HasRoom most body → HasRoom most (outlet_row_did desk body found).body
offer_room_did most desk body id None is room = room
offer_room_did most desk body id (Some r) is room = λ free ready.
    let shape : IsOutletRow body.outlet (out_input.Offer id) r = row_is body.outlet (out_input.Offer id) r is in
    room_stays _ _ _ _ (place_for (in_held body.intake)) most (offer_places body.kept shape) (room free ready)

offer_room : (most : ℕ) (desk : Desk) (test : Bool) (front : Option Record) (body : Body) → HasRoom most body → HasRoom most (offer_by desk test front body).body
offer_room most desk true (Some front) body room = offer_room_did most desk body front.id (outlet_row body.outlet (out_input.Offer front.id)) refl room
offer_room most desk true None body room = room
offer_room most desk false front body room = room

-- it is said that the machine is ready only where there is room
ready_room_did : (most : ℕ) (desk : Desk) (body : Body) (found : Option InRow) → intake_row body.intake in_input.Ready ≡ found → used body < most → used (intake_row_did desk body found).body < most
ready_room_did most desk body None is room = room
ready_room_did most desk body (Some r) is room =
    let shape : IsIntakeRow body.intake in_input.Ready r = in_row_is body.intake in_input.Ready r is in
    in_room_stays _ _ (place_for (held body.outlet)) _ _ most (in_row_places body.kept shape tt) room

ready_room : (desk : Desk) (test : Bool) (body : Body) → readies_now desk body ≡ test → HasRoom desk.capacity body → HasRoom desk.capacity (ready_by desk test body).body
ready_room desk true body is room = λ free ready.
    let all = and_parts (is_standing Entry body && is_intake_free body && not body.intake.ready && body.entry.willing) (has_place desk body) is in
    ready_room_did desk.capacity desk body (intake_row body.intake in_input.Ready) refl (below_from (used body) desk.capacity all.1)
ready_room desk false body is room = room

start_row_places : {s : InState} {r : InRow} (kept : List Record) → IsIntakeRow s in_input.Start r → in_places (settled r.act.keep kept) r.after ≤ in_places kept s + 1
start_row_places kept starts_transport = omega arith

start_did_keeps : (most : ℕ) (desk : Desk) (body : Body) (found : Option InRow) → intake_row body.intake in_input.Start ≡ found → used body < most → Keeps most body (intake_row_did desk body found)
start_did_keeps most desk body None is room = keeps_still most body
start_did_keeps most desk body (Some r) is room =
    let shape : IsIntakeRow body.intake in_input.Start r = in_row_is body.intake in_input.Start r is in
    record {
      offers = λ h. settled_offers body.outlet.phase body.outlet.offered body.kept r.act.keep h;
      parts = record { entry = refl; exit = refl };
      wills = record { entry = refl; exit = refl };
      places = λ _. start_fits _ _ (place_for (held body.outlet)) _ _ most (start_row_places body.kept shape) room;
      owns = in_row_owns desk body.outlet body.kept shape;
    }

start_keeps : (most : ℕ) (desk : Desk) (test : Bool) (body : Body) → starts_now body ≡ test → HasRoom most body → Keeps most body (start_by desk test body)
start_keeps most desk true body is room =
    let all = and_parts (is_standing Entry body && is_intake_free body && body.intake.ready) (is_some body.intake.offer) is in
    let three = and_parts (is_standing Entry body && is_intake_free body) body.intake.ready all.0 in
    let two = and_parts (is_standing Entry body) (is_intake_free body) three.0 in
    start_did_keeps most desk body (intake_row body.intake in_input.Start) refl (room two.1 three.1)
start_keeps most desk false body is room = keeps_still most body

-- ---- all announcements

pub record Announced (desk : Desk) (body : Body) (d : Done) : Type 0 where
  pub offers : IsOfferIdle body → OffersOf d.body
  pub parts : SameParts body d.body
  pub wills : SameWills body d.body
  pub places : used body ≤ desk.capacity → used d.body ≤ desk.capacity
  pub owns : own_after (own_of body) d.acts ≡ own_of d.body

pub announces_keeps : (desk : Desk) (body : Body) → Announced desk body (announces desk body)
announces_keeps desk body =
    let most = desk.capacity in
    let one = (revoke desk body).body in
    let two = (unready desk one).body in
    let three = (offer desk two).body in
    let four = (ready desk three).body in
    let room_two : HasRoom most two = unready_room desk (unreadies_now desk one) one refl in
    let room_three : HasRoom most three = offer_room most desk (offers_now two) (slice_get two.kept 0) two room_two in
    let room_four : HasRoom most four = ready_room desk (readies_now desk three) three refl room_three in
    let last = keeps_both most three (ready desk three) (start desk) (ready_keeps most desk (readies_now desk three) three) (start_keeps most desk (starts_now four) four refl room_four) in
    let third = keeps_both most two (offer desk two) (λ (b : Body). and_then (ready desk b) (start desk)) (offer_keeps most desk (offers_now two) (slice_get two.kept 0) two refl) last in
    let second = keeps_both most one (unready desk one) (λ (b : Body). and_then (offer desk b) (λ (c : Body). and_then (ready desk c) (start desk))) (unready_keeps most desk (unreadies_now desk one) one) third in
    let all = keeps_both most body (revoke desk body) (λ (b : Body). and_then (unready desk b) (λ (c : Body). and_then (offer desk c) (λ (e : Body). and_then (ready desk e) (start desk)))) (revoke_keeps most desk (revokes_now body) body) second in
    record {
      offers = λ idle. second.offers (revoke_offers desk (revokes_now body) body idle refl);
      parts = all.parts;
      wills = all.wills;
      places = all.places;
      owns = all.owns;
    }

-- ---- THE STEP

same_fits : (n : ℕ) → n ≤ n
same_fits n = omega arith

below : (a b most : ℕ) → a ≤ b → b < most → a < most
below a b most less fits = omega (arith, less, fits)

-- reading takes no place
read_fits : (most : ℕ) (desk : Desk) (unread : List Seen) (event : Event) (body : Body) → HasPlaceFor most event body → HasPlaceFor most event (all_read desk unread body).body
read_fits most desk unread (Insert id barcode) body fits = below _ (used body) most ((all_read_keeps (used body) desk unread body).places (same_fits (used body))) fits
read_fits most desk unread (Gets board) body fits = below _ (used body) most ((all_read_keeps (used body) desk unread body).places (same_fits (used body))) fits
read_fits most desk unread Nothing body fits = tt
read_fits most desk unread _ body fits = tt

pub step_sound : (desk : Desk) (unread : List Seen) (event : Event) (body : Body) → HasPlaceFor desk.capacity event body → IsSound desk.capacity body → IsSound desk.capacity (machine_step desk unread event body).body
step_sound desk unread event body fits sound =
    let read = all_read_keeps desk.capacity desk unread body in
    let one = (all_read desk unread body).body in
    let met = event_keeps desk.capacity desk event one (read_fits desk.capacity desk unread event body fits) in
    let two = (event_did desk event one).body in
    let told = announces_keeps desk two in
    record {
      offers = from_offers (machine_step desk unread event body).body (told.offers (met.offers (read.offers (to_offers body sound.offers))));
      entry = told.parts.entry ∙ met.parts.entry ∙ read.parts.entry ∙ sound.entry;
      exit = told.parts.exit ∙ met.parts.exit ∙ read.parts.exit ∙ sound.exit;
      places = told.places (met.places (read.places sound.places));
    }

-- of the acts without what the supervisor is told
plain_owns : (desk : Desk) (unread : List Seen) (event : Event) (body : Body) → HasPlaceFor desk.capacity event body → own_after (own_of body) (plain_step desk unread event body).acts ≡ own_of (plain_step desk unread event body).body
plain_owns desk unread event body fits =
    let read = all_read desk unread body in
    let met = event_did desk event read.body in
    let told = announces desk met.body in
    own_append (own_of body) read.acts (met.acts ++ told.acts)
    ∙ ap (λ (own : Own). own_after own (met.acts ++ told.acts)) (all_read_keeps desk.capacity desk unread body).owns
    ∙ own_append (own_of read.body) met.acts told.acts
    ∙ ap (λ (own : Own). own_after own told.acts) (event_keeps desk.capacity desk event read.body (read_fits desk.capacity desk unread event body fits)).owns
    ∙ (announces_keeps desk met.body).owns

-- which doesn't change what is owned
tells_owns : (desk : Desk) (watch : Watch) (own : Own) (made : List Act) → own_after own (with_tells desk watch made) ≡ own_after own made
tells_owns desk watch own made =
    beside (λ told plain. (mine : Own) → own_after mine told ≡ own_after mine plain) (λ mine. refl)
    (λ act told plain h mine. h (own_act mine act)) (λ message told plain h mine. h mine) desk watch made own

pub step_owns : (desk : Desk) (unread : List Seen) (event : Event) (body : Body) → HasPlaceFor desk.capacity event body → own_after (own_of body) (machine_step desk unread event body).acts ≡ own_of (machine_step desk unread event body).body
step_owns desk unread event body fits =
    tells_owns desk (watch_of desk body) (own_of body) (plain_step desk unread event body).acts
    ∙ plain_owns desk unread event body fits

-- reading leaves the parts as they are
pub read_exit : (desk : Desk) (unread : List Seen) (body : Body) → (all_read desk unread body).body.exit.session.role ≡ body.exit.session.role
read_exit desk unread body = (all_read_keeps 0 desk unread body).parts.exit
