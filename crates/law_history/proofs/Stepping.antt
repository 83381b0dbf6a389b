-- A whole step of a machine: what befalls it, its announcements, and what of it the report tells of its entry.
use Rattle.std.proofs.Common.{Bool, List, None, Option, Some, [], ap, false, inl, inr, refl, subst, sym, true, ℕ, ◌++◌, ◌||◌, ◌∙◌, ◌∷◌, ◌≡◌, ◌⊎◌}
use Rattle.std.specs.Prelude.{slice_get}
use Rattle.std.specs.List.{list_any}
use Rattle.std.proofs.lemmas.List.Folds.{list_any-append}
use Rattle.std.proofs.lemmas.Bool.{or_from, and_parts}
use Rattle.line_base.specs.declared.states.Quality.TheVariants as qualities
use Rattle.line_base.specs.declared.states.Seen.TheVariants as seen
use Rattle.line_base.specs.declared.states.Side.TheVariants.{Entry, Exit}
use Rattle.board_record.specs.declared.record.Record.{Record}
use Rattle.board_record.specs.declared.sensed.Sensed.{Sensed}
use Rattle.smema_bridge.specs.declared.line.SegmentLine.{SegmentLine}
use Rattle.smema_bridge.specs.declared.line.SegmentLine.TheVariants as segment
use Rattle.session_core.specs.Input.{opened, second, shutdown, tick}
use Rattle.session_core.specs.Row.{session_row}
use Rattle.handover_out.specs.declared.input.OutInput.TheVariants as out_input
use Rattle.handover_out.specs.Row.{outlet_row}
use Rattle.handover_in.specs.declared.input.InInput.TheVariants as in_input
use Rattle.handover_in.specs.declared.phase.Phase.{Phase as In}
use Rattle.handover_in.specs.declared.phase.Phase.TheVariants as inn
use Rattle.handover_in.specs.Row.{InRow, intake_row}
use Rattle.handover_in.specs.State.{InState, board_of_phase as held_in}
use Rattle.handover_in.specs.Table.{IsIntakeRow, starts_transport}
use Rattle.handover_in.proofs.Rows.{row_is as in_row_is}
use Rattle.node_core.specs.Announces.{announces, offer, offer_by, offers_now, readies_now, ready, ready_by, revoke, revoke_by, revokes_now, start, start_by, starts_now, unreadies_now, unready, unready_by}
use Rattle.node_core.specs.Boards.{if_kept, is_kept, wills, with_kept, takes_sub}
use Rattle.node_core.specs.Bridge.{failed_front, fails, sets_level, tells_level}
use Rattle.node_core.specs.Connect.{opens, shuts_down, ticks}
use Rattle.node_core.specs.Desk.{Desk}
use Rattle.node_core.specs.Done.{Done, and_then, done}
use Rattle.node_core.specs.Supervising.{Supervision, Supervise, Ask, Answer, supervises}
use Rattle.node_core.specs.Event.{Accepted, Connect, Event, Fault, Forecast, Gets, Gives, Insert, Level, Mark, Sub, Nothing, Notice, Query, Remove, Replace, Second, Shutdown, Supervised, Tick, Will, Words, event_did}
use Rattle.node_core.specs.Halves.{OffersFront, intake_row_did}
use Rattle.node_core.specs.Information.{asks_for, forecasts}
use Rattle.node_core.specs.Reads.{all_read}
use Rattle.node_core.specs.Sides.{is_open, session_at}
use Rattle.node_core.specs.Step.{plain_step}
use Rattle.node_core.specs.Told.{in_told}
use Rattle.node_core.specs.declared.act.Act.{Act}
use Rattle.node_core.specs.declared.act.Act.TheVariants as acts
use Rattle.node_core.specs.declared.act.Deed.TheVariants as deeds
use Rattle.node_core.specs.declared.lane.Body.{Body}
use Rattle.node_core.proofs.Offers.{OffersOf, to_offers}
use Rattle.node_core.proofs.Sound.{all_read_keeps}
use Rattle.law_custody.specs.Pair.{Ghost}
use Rattle.law_machine_custody.specs.Flight.{AreOldest, unheard}
use Rattle.law_machine_custody.specs.Good.{Afar, Good}
use Rattle.law_machine_custody.specs.Scene.{Scene, all_met}
use Rattle.law_machine_custody.proofs.BehindReading.{read_leaves, read_lists}
use Rattle.law_machine_custody.proofs.Reading.{all_read_good}
use Rattle.law_history.proofs.Folds.{Hearing, Orderly, are_inner, ends, goes_on, heard_all, heard_append, is_inner, orderly_both}
use Rattle.law_history.proofs.Halves.{Knows, Tells, Works, outlet_works, silent_works, tells_aside, works_aside, works_behind, works_both, works_still}
use Rattle.law_history.proofs.Hearing.{notices_work, session_works}
use Rattle.law_history.proofs.Telling.{Makes, all_read_tell, makes_then, words_work}

-- ---- no board is said to have left

abbrev pub is_leaving : Act → Bool
is_leaving (acts.Deed (deeds.Leaves id)) = true
is_leaving _ = false

abbrev pub tells_leaving : List Act → Bool
tells_leaving told = list_any is_leaving told

one_inner : (act : Act) → is_inner act ≡ true → is_leaving act ≡ false
one_inner (acts.Deed (deeds.Leaves id)) is = sym is
one_inner _ is = refl

pub inner_stays : (told : List Act) → are_inner told ≡ true → tells_leaving told ≡ false
inner_stays [] is = refl
inner_stays (act ∷ told) is = or_from (is_leaving act) (tells_leaving told) (one_inner act (and_parts (is_inner act) (are_inner told) is).0) (inner_stays told (and_parts (is_inner act) (are_inner told) is).1)

pub leaving_append : (a b : List Act) → tells_leaving (a ++ b) ≡ (tells_leaving a || tells_leaving b)
leaving_append a b = list_any-append is_leaving a b

-- ---- what befalls the machine

pub record Meets (P : ℕ → Type 0) (h : Hearing) (body : Body) (d : Done) : Type 0 where
  pub tells : Tells P h body d
  pub stays : tells_leaving d.acts ≡ false

met_work : {P : ℕ → Type 0} {h : Hearing} {body : Body} {d : Done} → Works P h body d → Meets P h body d
met_work {d = d} w = record { tells = w.tells; stays = inner_stays d.acts w.inner }

hand_meets : {P : ℕ → Type 0} {h : Hearing} (test : Bool) (body : Body) (kept : List Record) (act : Act) → Tells P h body (done (with_kept kept body) (act ∷ [])) → is_leaving act ≡ false → Knows h body.intake → Meets P h body (if_kept test (with_kept kept body) act body)
hand_meets true body kept act t not k = record { tells = t; stays = or_from (is_leaving act) false not refl }
hand_meets false body kept act t not k = met_work (works_still body k)

-- a level of a bridge's segment is set, and the front board may be marked
level_works : {P : ℕ → Type 0} {h : Hearing} (line : SegmentLine) (on : Bool) (body : Body) → Knows h body.intake → Works P h body (tells_level line on body)
level_works segment.Ready on body k = works_aside body (tells_level segment.Ready on body) k refl refl refl
level_works segment.Available on body k = works_aside body (tells_level segment.Available on body) k refl refl refl
level_works segment.Failed on body k = works_aside body (tells_level segment.Failed on body) k refl refl refl

mark_works : {P : ℕ → Type 0} {h : Hearing} (test : Bool) (id : ℕ) (kept : List Record) (body : Body) → Knows h body.intake → Works P h body (if_kept test (with_kept kept body) (acts.Marks id qualities.Failed) body)
mark_works true id kept body k = works_aside body (if_kept true (with_kept kept body) (acts.Marks id qualities.Failed) body) k refl refl refl
mark_works false id kept body k = works_still body k

fails_works : {P : ℕ → Type 0} {h : Hearing} (front : Option ℕ) (body : Body) → Knows h body.intake → Works P h body (fails front body)
fails_works None body k = works_still body k
fails_works (Some id) body k = mark_works (is_kept id body.kept) id _ body k

sets_work : {P : ℕ → Type 0} {h : Hearing} (desk : Desk) (line : SegmentLine) (on : Bool) (body : Body) → Knows h body.intake → Works P h body (sets_level desk line on body)
sets_work desk line on body k =
    let one : Body = (tells_level line on body).body in
    works_both body (tells_level line on body) (λ (b : Body). fails (failed_front desk.bridge line on b) b) (level_works line on body k) (λ k1. fails_works (failed_front desk.bridge line on one) one k1)

-- the front board is told of ahead
forecasts_work : {P : ℕ → Type 0} {h : Hearing} (desk : Desk) (front : Option Record) (body : Body) → Knows h body.intake → Works P h body (done body (forecasts desk front))
forecasts_work desk None body k = works_still body k
forecasts_work desk (Some board) body k = works_aside body (done body (forecasts desk (Some board))) k refl refl refl

-- the words that are heard are the oldest on their way
abbrev pub AreTheirs : Event → Scene → Type 0
AreTheirs (Words side words) c = AreOldest words (unheard side c)
AreTheirs _ c = Unit {0}

-- what the supervisor asks and says
supervised_work : {P : ℕ → Type 0} {h : Hearing} (desk : Desk) (what : Supervision) (body : Body) → Knows h body.intake → Works P h body (supervises desk what body)
supervised_work desk (Supervise on) body k = works_aside body (supervises desk (Supervise on) body) k refl refl refl
supervised_work desk (Ask question) body k = works_aside body (supervises desk (Ask question) body) k refl refl refl
supervised_work desk (Answer query order) body k = works_aside body (supervises desk (Answer query order) body) k refl refl refl

event_meets : {P : ℕ → Type 0} {h : Hearing} {afar : Afar} {above : List Record} {ga gb : Ghost} (desk : Desk) (event : Event) (body : Body) (c : Scene) → AreTheirs event c → OffersOf body → Good afar above [] ga gb body c → Knows h body.intake → Makes P body c
    → Meets P h body (event_did desk event body)
event_meets desk Nothing body c theirs offers g k makes = met_work (works_still body k)
event_meets desk Connect body c theirs offers g k makes =
    met_work (works_behind body (acts.Connects ∷ []) (opens desk Entry body) (goes_on refl ends) refl (session_works desk Entry opened (session_row (session_at Entry body) opened) body refl refl k))
event_meets desk Accepted body c theirs offers g k makes = met_work (session_works desk Exit opened (session_row (session_at Exit body) opened) body refl refl k)
event_meets desk Second body c theirs offers g k makes = met_work (session_works desk Exit second (session_row (session_at Exit body) second) body refl refl k)
event_meets desk (Words side words) body c theirs offers g k makes = met_work (words_work desk side words (unheard side c) body c theirs refl offers g k makes)
event_meets desk (Notice side) body c theirs offers g k makes = met_work (notices_work desk side (is_open side body) body k)
event_meets desk Tick body c theirs offers g k makes =
    met_work (works_both body (ticks desk Entry body) (ticks desk Exit) (session_works desk Entry tick (session_row (session_at Entry body) tick) body refl refl k)
    (λ k2. session_works desk Exit tick (session_row (session_at Exit (ticks desk Entry body).body) tick) (ticks desk Entry body).body refl refl k2))
event_meets desk Shutdown body c theirs offers g k makes =
    met_work (works_both body (shuts_down desk Entry body) (shuts_down desk Exit) (session_works desk Entry shutdown (session_row (session_at Entry body) shutdown) body refl refl k)
    (λ k2. session_works desk Exit shutdown (session_row (session_at Exit (shuts_down desk Entry body).body) shutdown) (shuts_down desk Entry body).body refl refl k2))
event_meets desk (Fault Entry) body c theirs offers g k makes = met_work (silent_works desk body in_input.Fault (intake_row body.intake in_input.Fault) refl tt k)
event_meets desk (Fault Exit) body c theirs offers g k makes = met_work (outlet_works desk body out_input.Fault (outlet_row body.outlet out_input.Fault) refl tt k)
event_meets desk (Will Entry on) body c theirs offers g k makes = met_work (works_aside body (wills Entry on body) k refl refl refl)
event_meets desk (Will Exit on) body c theirs offers g k makes = met_work (works_aside body (wills Exit on body) k refl refl refl)
event_meets desk (Level line on) body c theirs offers g k makes = met_work (sets_work desk line on body k)
event_meets desk (Insert id barcode) body c theirs offers g k makes = record { tells = tells_aside body (event_did desk (Insert id barcode) body) k refl refl; stays = refl }
event_meets desk (Remove id) body c theirs offers g k makes = hand_meets (is_kept id body.kept) body _ (acts.Removes id) (tells_aside body _ k refl refl) refl k
event_meets desk (Replace old new) body c theirs offers g k makes = hand_meets (is_kept old body.kept) body _ (acts.Replaces old new) (tells_aside body _ k refl refl) refl k
event_meets desk (Mark id quality) body c theirs offers g k makes = hand_meets (is_kept id body.kept) body _ (acts.Marks id quality) (tells_aside body _ k refl refl) refl k
event_meets desk (Sub id sub) body c theirs offers g k makes = hand_meets (takes_sub id sub body.kept) body _ (acts.Subs id sub.pos) (tells_aside body _ k refl refl) refl k
event_meets desk (Gives id to) body c theirs offers g k makes = hand_meets (is_kept id body.kept) body _ (acts.Gives id to) (tells_aside body _ k refl refl) refl k
event_meets desk (Gets board) body c theirs offers g k makes = record { tells = tells_aside body (event_did desk (Gets board) body) k refl refl; stays = refl }
event_meets desk Forecast body c theirs offers g k makes = met_work (forecasts_work desk (slice_get body.kept 0) body k)
event_meets desk (Query barcode) body c theirs offers g k makes = met_work (works_aside body (asks_for desk barcode body) k refl refl refl)
event_meets desk (Supervised what) body c theirs offers g k makes = met_work (supervised_work desk what body k)

-- ---- the announcements: the last one may be a start

-- a transport starts, of which nothing was seen or heard
abbrev pub IsJustStarted : In → Type 0
IsJustStarted (inn.Taking r seen.NotStarted heard) = Unit {0}
IsJustStarted _ = ⊥

pub record Does (P : ℕ → Type 0) (h : Hearing) (body : Body) (d : Done) : Type 0 where
  pub orderly : Orderly P h d.acts
  pub knows : Knows (heard_all h d.acts) d.body.intake
  pub comes : (r : Record) → held_in d.body.intake.phase ≡ Some r → (held_in body.intake.phase ≡ Some r) ⊎ IsJustStarted d.body.intake.phase

-- nor do they say that a board has left
record Announced (P : ℕ → Type 0) (h : Hearing) (body : Body) (d : Done) : Type 0 where
  does : Does P h body d
  stays : tells_leaving d.acts ≡ false

does_tell : {P : ℕ → Type 0} {h : Hearing} {body : Body} {d : Done} → Tells P h body d → Does P h body d
does_tell t = record { orderly = t.orderly; knows = t.knows; comes = λ r is. inl (t.less r is) }

or_started : {A B C : Type 0} → A ⊎ C → (A → B) → B ⊎ C
or_started (inl a) next = inl (next a)
or_started (inr c) next = inr c

does_both : {P : ℕ → Type 0} {h : Hearing} (body : Body) (first : Done) (next : Body → Done) → Tells P h body first → (Knows (heard_all h first.acts) first.body.intake → Does P (heard_all h first.acts) first.body (next first.body)) → Does P h body (and_then first next)
does_both {h = h} body first next a later =
    let b = later a.knows in record {
      orderly = orderly_both (next first.body).acts a.orderly b.orderly;
      knows = subst (λ (x : Hearing). Knows x (next first.body).body.intake) (sym (heard_append h first.acts (next first.body).acts)) b.knows;
      comes = λ r is. or_started (b.comes r is) (λ was. a.less r was);
    }

start_does : {P : ℕ → Type 0} {s : InState} {row : InRow} (desk : Desk) (h : Hearing) → IsIntakeRow s in_input.Start row → Orderly P h (in_told desk row.act) × ((Knows (heard_all h (in_told desk row.act)) row.after × IsJustStarted row.after.phase) × (tells_leaving (in_told desk row.act) ≡ false))
start_does desk h starts_transport = (goes_on refl (goes_on refl (goes_on refl ends)), ((record { named = λ r is. ap (λ (x : Option Record). id_in x) is; recalled = record { ended = refl; linked = refl; waiting = refl } }, tt), refl)) where
  id_in : Option Record → Option ℕ
  id_in None = None
  id_in (Some r) = Some r.id

start_row_does : {P : ℕ → Type 0} {h : Hearing} (desk : Desk) (body : Body) (found : Option InRow) → intake_row body.intake in_input.Start ≡ found → Knows h body.intake → Announced P h body (intake_row_did desk body found)
start_row_does desk body None is k = record { does = does_tell (works_still body k).tells; stays = refl }
start_row_does {h = h} desk body (Some row) is k =
    let all = start_does desk h (in_row_is body.intake in_input.Start row is) in
    record { does = record { orderly = all.0; knows = all.1.0.0; comes = λ r held. inr all.1.0.1 }; stays = all.1.1 }

start_announced : {P : ℕ → Type 0} {h : Hearing} (desk : Desk) (test : Bool) (body : Body) → Knows h body.intake → Announced P h body (start_by desk test body)
start_announced desk true body k = start_row_does desk body (intake_row body.intake in_input.Start) refl k
start_announced desk false body k = record { does = does_tell (works_still body k).tells; stays = refl }

revoke_works : {P : ℕ → Type 0} {h : Hearing} (desk : Desk) (test : Bool) (body : Body) → Knows h body.intake → Works P h body (revoke_by desk test body)
revoke_works desk true body k = outlet_works desk body out_input.Revoke (outlet_row body.outlet out_input.Revoke) refl tt k
revoke_works desk false body k = works_still body k

unready_works : {P : ℕ → Type 0} {h : Hearing} (desk : Desk) (test : Bool) (body : Body) → Knows h body.intake → Works P h body (unready_by desk test body)
unready_works desk true body k = silent_works desk body in_input.Unready (intake_row body.intake in_input.Unready) refl tt k
unready_works desk false body k = works_still body k

offer_works : {P : ℕ → Type 0} {h : Hearing} (desk : Desk) (test : Bool) (front : Option Record) (body : Body) → Knows h body.intake → Works P h body (offer_by desk test front body)
offer_works desk true (Some front) body k = outlet_works desk body (out_input.Offer front.id) (outlet_row body.outlet (out_input.Offer front.id)) refl tt k
offer_works desk true None body k = works_still body k
offer_works desk false front body k = works_still body k

ready_works : {P : ℕ → Type 0} {h : Hearing} (desk : Desk) (test : Bool) (body : Body) → Knows h body.intake → Works P h body (ready_by desk test body)
ready_works desk true body k = silent_works desk body in_input.Ready (intake_row body.intake in_input.Ready) refl tt k
ready_works desk false body k = works_still body k

announced_both : {P : ℕ → Type 0} {h : Hearing} (body : Body) (first : Done) (next : Body → Done) → Works P h body first → (Knows (heard_all h first.acts) first.body.intake → Announced P (heard_all h first.acts) first.body (next first.body)) → Announced P h body (and_then first next)
announced_both body first next a later =
    let b = later a.tells.knows in
    record { does = does_both body first next a.tells (λ k. (later k).does); stays = leaving_append first.acts (next first.body).acts ∙ or_from (tells_leaving first.acts) (tells_leaving (next first.body).acts) (inner_stays first.acts a.inner) b.stays }

announces_does : {P : ℕ → Type 0} {h : Hearing} (desk : Desk) (body : Body) → Knows h body.intake → Announced P h body (announces desk body)
announces_does desk body k =
    let one = (revoke desk body).body in
    let two = (unready desk one).body in
    let three = (offer desk two).body in
    let four = (ready desk three).body in
    announced_both body (revoke desk body) (λ (b : Body). and_then (unready desk b) (λ c. and_then (offer desk c) (λ d. and_then (ready desk d) (start desk)))) (revoke_works desk (revokes_now body) body k)
    (λ k1. announced_both one (unready desk one) (λ (c : Body). and_then (offer desk c) (λ d. and_then (ready desk d) (start desk))) (unready_works desk (unreadies_now desk one) one k1)
    (λ k2. announced_both two (offer desk two) (λ (d : Body). and_then (ready desk d) (start desk)) (offer_works desk (offers_now two) (slice_get two.kept 0) two k2)
    (λ k3. announced_both three (ready desk three) (start desk) (ready_works desk (readies_now desk three) three k3) (λ k4. start_announced desk (starts_now four) four k4))))

-- ---- THE STEP

heard_still : (desk : Desk) (unread : List Sensed) (event : Event) (body : Body) (c : Scene) → AreTheirs event c → AreTheirs event (all_met (all_read desk unread body).acts c)
heard_still desk unread (Words side words) body c theirs = subst (λ ms. AreOldest words ms) (sym (read_leaves side desk unread body c)) theirs
heard_still desk unread _ body c theirs = tt

-- what the whole step does, and that a board is said to have left in it where the machine reads its events
pub record StepDoes (P : ℕ → Type 0) (h : Hearing) (desk : Desk) (unread : List Sensed) (event : Event) (body : Body) : Type 0 where
  pub does : Does P h body (plain_step desk unread event body)
  pub leaves : tells_leaving (plain_step desk unread event body).acts ≡ tells_leaving (all_read desk unread body).acts

or_neither : (a b c : Bool) → b ≡ false → c ≡ false → (a || (b || c)) ≡ a
or_neither true b c one two = refl
or_neither false b c one two = or_from b c one two

pub step_does : {P : ℕ → Type 0} {h : Hearing} {afar : Afar} {above : List Record} {ga gb : Ghost} (desk : Desk) (unread : List Sensed) (event : Event) (body : Body) (c : Scene) → AreTheirs event c → OffersFront body → Good afar above unread ga gb body c → Knows h body.intake → Makes P body c
    → StepDoes P h desk unread event body
step_does {P = P} {h = h} desk unread event body c theirs offers g k makes =
    let read : Done = all_read desk unread body in
    let now : Scene = all_met read.acts c in
    let one : Tells P h body read = all_read_tell desk unread body c g k makes in
    let met : Done = event_did desk event read.body in
    let two : Meets P (heard_all h read.acts) read.body met =
    event_meets desk event read.body now (heard_still desk unread event body c theirs) ((all_read_keeps 0 desk unread body).offers (to_offers body offers)) (all_read_good desk unread body c g) one.knows (makes_then body c read makes one (read_lists desk unread body c)) in
    let three : Announced P (heard_all (heard_all h read.acts) met.acts) met.body (announces desk met.body) = announces_does desk met.body two.tells.knows in
    record {
      does = does_both body read (λ (b : Body). and_then (event_did desk event b) (announces desk)) one
          (λ k1. does_both read.body met (announces desk) two.tells (λ k2. three.does));
      leaves = leaving_append read.acts (met.acts ++ (announces desk met.body).acts)
          ∙ ap (λ (b : Bool). tells_leaving read.acts || b) (leaving_append met.acts (announces desk met.body).acts)
          ∙ or_neither (tells_leaving read.acts) (tells_leaving met.acts) (tells_leaving (announces desk met.body).acts) two.stays three.stays;
    }
