-- What is done by hand, the announcements, and the whole step.
use Rattle.std.proofs.Common.{Bool, List, None, Option, Some, [], ap, eqb-true, false, inl, inr, refl, subst, sym, true, ℕ, ◌++◌, ◌==◌, ◌∙◌, ◌∷◌, ◌≡◌, ◌⊎◌}
use Rattle.std.specs.Prelude.{if◌then◌else◌, is_some, slice_get}
use Rattle.std.proofs.lemmas.Bool.{false≢true, or_parts}
use Rattle.node_core.proofs.Sound.{room_by_test}
use Rattle.line_base.specs.declared.states.Side.{Side}
use Rattle.line_base.specs.declared.states.Side.TheVariants.{Entry, Exit}
use Rattle.line_base.specs.declared.states.SensorEvent.{SensorEvent}
use Rattle.line_base.specs.declared.states.Quality.TheVariants as qualities
use Rattle.board_record.specs.declared.record.Record.{Record}
use Rattle.board_record.specs.declared.sensed.Sensed.{Sensed as Seen}
use Rattle.board_record.specs.Record.{plain_record}
use Rattle.handover_out.specs.declared.input.OutInput.TheVariants as out_input
use Rattle.handover_out.specs.declared.phase.Phase.{Phase as Out}
use Rattle.handover_out.specs.declared.phase.Phase.TheVariants as out
use Rattle.handover_out.specs.State.{OutState, is_idle_phase}
use Rattle.handover_out.specs.Row.{OutRow, outlet_row}
use Rattle.handover_out.specs.Table.{IsOutletRow, begun_moving, offers as offers_row, revokes}
use Rattle.handover_out.proofs.Rows.{row_is}
use Rattle.handover_in.specs.declared.input.InInput.{InInput}
use Rattle.handover_in.specs.declared.input.InInput.TheVariants as in_input
use Rattle.handover_in.specs.Row.{InRow, intake_row}
use Rattle.handover_in.specs.State.{InState, board_of_phase as held_in}
use Rattle.handover_in.specs.Table.{IsIntakeRow, gets_ready, gets_unready, starts_transport}
use Rattle.handover_in.proofs.Rows.{row_is as in_row_is}
use Rattle.smema_bridge.specs.declared.line.SegmentLine.{SegmentLine}
use Rattle.node_core.specs.Announces.{announces, is_front, offer, offer_by, offers_now, ready, ready_by, readies_now, revoke, revoke_by, revokes_now, start, start_by, starts_now, unready, unready_by, unreadies_now}
use Rattle.node_core.specs.Boards.{if_kept, is_kept, with_instead, with_kept, with_mark, without, with_sub, takes_sub, with_changed}
use Rattle.node_core.specs.Bridge.{failed_front, fails, sets_level, tells_level}
use Rattle.node_core.specs.Desk.{Desk}
use Rattle.node_core.specs.Done.{Done, and_then, stays}
use Rattle.node_core.specs.Event.{Event, Level, Insert, Remove, Replace, Mark, Sub, Gives, Gets, event_did}
use Rattle.node_core.specs.Halves.{given_back, intake_row_did, outlet_row_did}
use Rattle.node_core.specs.Reads.{all_read, reads, saw}
use Rattle.node_core.specs.Step.{plain_step}
use Rattle.node_core.specs.Told.{out_told}
use Rattle.node_core.specs.declared.act.Act.{Act}
use Rattle.node_core.specs.declared.act.Act.TheVariants as acts
use Rattle.node_core.specs.declared.lane.Body.{Body}
use Rattle.law_custody.specs.Contents.{Kept, kept_first}
use Rattle.law_machine_custody.specs.Scene.{Scene}
use Rattle.law_machine_custody.proofs.BehindReading.{read_untouched}
use Rattle.law_machine_custody.proofs.Beside.{marked_untouched}
use Rattle.law_history.specs.Offered.{IsLast, Offering, is_hand}
use Rattle.law_history.proofs.Offering.{AsOffered, Behind, Holds, Settling, Walks, are_hand, behind_all, behind_front, hand_append, is_settled, no_hands, not_yet, offers_acts, offers_append, says_ended, says_idle, says_moving, says_offered, says_stuck, settled_offers, settles_acts, settles_append, walks_both, walks_still}
use Rattle.law_history.proofs.OfferingStep.{IsNoHand, all_read_walks, event_walks, level_walks}

abbrev pub IsAsOf : Body → Offering → Type 0
IsAsOf body o = AsOffered body.outlet.phase body.outlet.offered body.outlet.touched body.kept o

-- ---- the announcements: they leave the kept records as they are

record Announced (body : Body) (d : Done) : Type 0 where
  offers : (o : Offering) → IsAsOf body o → IsAsOf d.body (offers_acts d.acts o)
  kept : d.body.kept ≡ body.kept
  settles : (ids : List ℕ) → settles_acts d.acts ids ≡ ids
  hands : are_hand d.acts ≡ false

announced_none : (body : Body) → Announced body (stays body)
announced_none body = record { offers = λ o h. h; kept = refl; settles = λ ids. refl; hands = refl }

announced_both : (body : Body) (first : Done) (next : Body → Done) → Announced body first → Announced first.body (next first.body) → Announced body (and_then first next)
announced_both body first next a b = record {
  offers = λ o h. subst (λ (x : Offering). IsAsOf (next first.body).body x) (sym (offers_append first.acts (next first.body).acts o)) (b.offers (offers_acts first.acts o) (a.offers o h));
  kept = b.kept ∙ a.kept;
  settles = λ ids. settles_append first.acts (next first.body).acts ids ∙ (b.settles (settles_acts first.acts ids) ∙ a.settles ids);
  hands = no_hands first.acts (next first.body).acts a.hands b.hands;
}

revoke_row : (desk : Desk) (body : Body) (row : OutRow) {s : OutState} → IsOutletRow s out_input.Revoke row → body.outlet ≡ s → Announced body (outlet_row_did desk body (Some row))
revoke_row desk body row revokes same = record { offers = λ o h. says_idle; kept = refl; settles = λ ids. refl; hands = refl }

revoke_found : (desk : Desk) (body : Body) (found : Option OutRow) → outlet_row body.outlet out_input.Revoke ≡ found → Announced body (outlet_row_did desk body found)
revoke_found desk body None is = announced_none body
revoke_found desk body (Some row) is = revoke_row desk body row (row_is body.outlet out_input.Revoke row is) refl

revoke_announced : (desk : Desk) (test : Bool) (body : Body) → Announced body (revoke_by desk test body)
revoke_announced desk true body = revoke_found desk body (outlet_row body.outlet out_input.Revoke) refl
revoke_announced desk false body = announced_none body

offer_row : (desk : Desk) (front : Record) (kept : List Record) {s : OutState} {row : OutRow} (o : Offering) → IsOutletRow s (out_input.Offer front.id) row → slice_get kept 0 ≡ Some front
    → AsOffered row.after.phase row.after.offered row.after.touched kept (offers_acts (out_told desk kept row.act) o)
offer_row desk front [] o offers_row is = absurd (let no : ◌≡◌ {A = Option Record} None (Some front) = is in cc)
offer_row desk front (b ∷ bs) o offers_row is = (let same : b ≡ front = cc in subst (λ (f : Record). AsOffered out.Idle (Some f.id) (Some f.id) (b ∷ bs) (record o { said = Some b })) same (says_offered refl))

offer_plain : (desk : Desk) (kept : List Record) (id : ℕ) {s : OutState} {row : OutRow} → IsOutletRow s (out_input.Offer id) row → ((ids : List ℕ) → settles_acts (out_told desk kept row.act) ids ≡ ids) × (are_hand (out_told desk kept row.act) ≡ false)
offer_plain desk [] id offers_row = (λ ids. refl, refl)
offer_plain desk (b ∷ bs) id offers_row = (λ ids. refl, refl)

pub offer_back : {id : ℕ} {s : OutState} {row : OutRow} → IsOutletRow s (out_input.Offer id) row → row.act.back ≡ None
offer_back offers_row = refl

offer_found : (desk : Desk) (body : Body) (front : Record) (found : Option OutRow) → slice_get body.kept 0 ≡ Some front → outlet_row body.outlet (out_input.Offer front.id) ≡ found → Announced body (outlet_row_did desk body found)
offer_found desk body front None first is = announced_none body
offer_found desk body front (Some row) first is =
    let shape = row_is body.outlet (out_input.Offer front.id) row is in
    let back : row.act.back ≡ None = offer_back shape in
    let same : (outlet_row_did desk body (Some row)).body.kept ≡ body.kept = ap (λ (b : Option Record). given_back b body.kept) back in
    let plain = offer_plain desk body.kept front.id shape in
    record {
      offers = λ o h. subst (λ (ks : List Record). AsOffered row.after.phase row.after.offered row.after.touched ks (offers_acts (out_told desk body.kept row.act) o)) (sym same) (offer_row desk front body.kept o shape first);
      kept = same;
      settles = plain.0;
      hands = plain.1;
    }

offer_announced : (desk : Desk) (test : Bool) (front : Option Record) (body : Body) → slice_get body.kept 0 ≡ front → Announced body (offer_by desk test front body)
offer_announced desk true (Some front) body is = offer_found desk body front (outlet_row body.outlet (out_input.Offer front.id)) is refl
offer_announced desk true None body is = announced_none body
offer_announced desk false front body is = announced_none body

-- at the intake
abbrev IsOwn : InInput → Type 0
IsOwn in_input.Ready = Unit {0}
IsOwn in_input.Unready = Unit {0}
IsOwn in_input.Start = Unit {0}
IsOwn _ = ⊥

in_row_announced : (desk : Desk) (body : Body) (row : InRow) (s : InState) (input : InInput) → IsIntakeRow s input row → IsOwn input → Announced body (intake_row_did desk body (Some row))
in_row_announced desk body row s input gets_ready own = record { offers = λ o h. h; kept = refl; settles = λ ids. refl; hands = refl }
in_row_announced desk body row s input gets_unready own = record { offers = λ o h. h; kept = refl; settles = λ ids. refl; hands = refl }
in_row_announced desk body row s input starts_transport own = record { offers = λ o h. h; kept = refl; settles = λ ids. refl; hands = refl }
in_row_announced desk body row s input _ own = absurd own

in_announced : (desk : Desk) (body : Body) (input : InInput) (found : Option InRow) → intake_row body.intake input ≡ found → IsOwn input → Announced body (intake_row_did desk body found)
in_announced desk body input None is own = announced_none body
in_announced desk body input (Some row) is own = in_row_announced desk body row body.intake input (in_row_is body.intake input row is) own

unready_announced : (desk : Desk) (test : Bool) (body : Body) → Announced body (unready_by desk test body)
unready_announced desk true body = in_announced desk body in_input.Unready (intake_row body.intake in_input.Unready) refl tt
unready_announced desk false body = announced_none body

ready_announced : (desk : Desk) (test : Bool) (body : Body) → Announced body (ready_by desk test body)
ready_announced desk true body = in_announced desk body in_input.Ready (intake_row body.intake in_input.Ready) refl tt
ready_announced desk false body = announced_none body

start_announced : (desk : Desk) (test : Bool) (body : Body) → Announced body (start_by desk test body)
start_announced desk true body = in_announced desk body in_input.Start (intake_row body.intake in_input.Start) refl tt
start_announced desk false body = announced_none body

-- all of them behind the first
abbrev behind_revoke : Desk → Body → Done
behind_revoke desk one = and_then (unready desk one) (λ two. and_then (offer desk two) (λ three. and_then (ready desk three) (start desk)))

later_announced : (desk : Desk) (one : Body) → Announced one (behind_revoke desk one)
later_announced desk one =
    let two = (unready desk one).body in
    let three = (offer desk two).body in
    let four = (ready desk three).body in
    announced_both one (unready desk one) (λ (b : Body). and_then (offer desk b) (λ c. and_then (ready desk c) (start desk))) (unready_announced desk (unreadies_now desk one) one)
    (announced_both two (offer desk two) (λ (b : Body). and_then (ready desk b) (start desk)) (offer_announced desk (offers_now two) (slice_get two.kept 0) two refl)
    (announced_both three (ready desk three) (start desk) (ready_announced desk (readies_now desk three) three) (start_announced desk (starts_now four) four)))

all_announced : (desk : Desk) (body : Body) → Announced body (announces desk body)
all_announced desk body = announced_both body (revoke desk body) (behind_revoke desk) (revoke_announced desk (revokes_now body) body) (later_announced desk (revoke desk body).body)

-- ---- where the board that is offered has been taken out by hand: the offer is revoked, unless another of its id is in front

front_kept : (x : ℕ) (kept : List Record) → is_front (Some x) (slice_get kept 0) ≡ true → Kept x kept
front_kept x [] is = absurd (false≢true is)
front_kept x (b ∷ bs) is = let same : b.id ≡ x = sym (eqb-true x b.id is) in subst (λ (n : ℕ). Kept n (b ∷ bs)) same kept_first

revoked_by : (desk : Desk) (body : Body) (x : ℕ) (o : Offering) → body.outlet.phase ≡ out.Idle → body.outlet.offered ≡ Some x → IsAsOf (outlet_row_did desk body (outlet_row body.outlet out_input.Revoke)).body o
revoked_by desk body x o phase offered = rw (phase, offered) says_idle

lost_by : (desk : Desk) (body : Body) (x : ℕ) (o : Offering) (test : Bool) → revokes_now body ≡ test → body.outlet.phase ≡ out.Idle → body.outlet.offered ≡ Some x → IsAsOf (revoke_by desk test body).body (offers_acts (revoke_by desk test body).acts o) ⊎ Kept x body.kept
lost_by desk body x o true is phase offered = inl (revoked_by desk body x _ phase offered)
lost_by desk body x o false is phase offered =
    inr (front_kept x body.kept (ap (λ (f : Option ℕ). is_front f (slice_get body.kept 0)) (sym offered)
    ∙ room_by_test (is_idle_phase body.outlet.phase) (is_some body.outlet.offered) body.exit.willing (is_front body.outlet.offered (slice_get body.kept 0)) is (ap (λ (p : Out). is_idle_phase p) phase) (ap (λ (f : Option ℕ). is_some f) offered)))

lost_announces : (desk : Desk) (body : Body) (x : ℕ) (o : Offering) → body.outlet.phase ≡ out.Idle → body.outlet.offered ≡ Some x → IsAsOf (announces desk body).body (offers_acts (announces desk body).acts o) ⊎ Kept x (announces desk body).body.kept
lost_announces desk body x o phase offered =
    let first = revoke desk body in
    let later = later_announced desk first.body in
    elim (lost_by desk body x o (revokes_now body) refl phase offered) [
      | inl so ↦ inl (subst (λ (y : Offering). IsAsOf (announces desk body).body y) (sym (offers_append first.acts (behind_revoke desk first.body).acts o)) (later.offers (offers_acts first.acts o) so))
      | inr kept ↦ inr (subst (λ (ks : List Record). Kept x ks) (sym (all_announced desk body).kept) kept)
    ]

-- ---- by hand

-- a board is taken out of the list, or another comes into its place
pub data TakesOut (x : ℕ) : Act → Type 0 where
  takes_out : TakesOut x (acts.Removes x)
  takes_instead : {now : ℕ} → TakesOut x (acts.Replaces x now)

pub data HasAct (P : Act → Type 0) : List Act → Type 0 where
  told_first : {act : Act} {others : List Act} → P act → HasAct P (act ∷ others)
  told_later : {act : Act} {others : List Act} → HasAct P others → HasAct P (act ∷ others)

pub told_before : {P : Act → Type 0} {a : List Act} (b : List Act) → HasAct P a → HasAct P (a ++ b)
told_before b (told_first p) = told_first p
told_before b (told_later later) = told_later (told_before b later)

pub told_behind : {P : Act → Type 0} (a : List Act) {b : List Act} → HasAct P b → HasAct P (a ++ b)
told_behind [] is = is
told_behind (act ∷ a) is = told_later (told_behind a is)

data ByHand (o : Offering) (body : Body) (d : Done) : Type 0 where
  stays_so : IsAsOf d.body (offers_acts d.acts o) → ByHand o body d
  is_lost : (x : ℕ) → d.body.outlet.phase ≡ out.Idle → d.body.outlet.offered ≡ Some x → body.outlet.offered ≡ Some x → HasAct (TakesOut x) d.acts → ByHand o body d

abbrev Lost : Out → Option ℕ → ℕ → Type 0
Lost phase offered id = (phase ≡ out.Idle) × (offered ≡ Some id)

without_offers : {phase : Out} {offered touched : Option ℕ} {kept : List Record} {o : Offering} (id : ℕ) → AsOffered phase offered touched kept o → AsOffered phase offered touched (without id kept) o ⊎ Lost phase offered id
without_offers id says_idle = inl says_idle
without_offers id (says_moving is) = inl (says_moving is)
without_offers id (says_stuck is) = inl (says_stuck is)
without_offers id says_ended = inl says_ended
without_offers {o = o} id (says_offered {board = board} {boards = boards} is) = by (board.id == id) refl where
  by : (test : Bool) → (board.id == id) ≡ test → AsOffered out.Idle (Some board.id) (Some board.id) (if test then boards else board ∷ without id boards) o ⊎ Lost out.Idle (Some board.id) id
  by true same = inr (refl, ap (λ (n : ℕ). Some n) (eqb-true board.id id same))
  by false other = inl (says_offered is)

instead_offers : {phase : Out} {offered touched : Option ℕ} {kept : List Record} {o : Offering} (id : ℕ) (new : Record) → AsOffered phase offered touched kept o → AsOffered phase offered touched (with_instead id new kept) o ⊎ Lost phase offered id
instead_offers id new says_idle = inl says_idle
instead_offers id new (says_moving is) = inl (says_moving is)
instead_offers id new (says_stuck is) = inl (says_stuck is)
instead_offers id new says_ended = inl says_ended
instead_offers {o = o} id new (says_offered {board = board} {boards = boards} is) = by (board.id == id) refl where
  by : (test : Bool) → (board.id == id) ≡ test → AsOffered out.Idle (Some board.id) (Some board.id) (if test then new ∷ boards else board ∷ with_instead id new boards) o ⊎ Lost out.Idle (Some board.id) id
  by true same = inr (refl, ap (λ (n : ℕ). Some n) (eqb-true board.id id same))
  by false other = inl (says_offered is)

-- a record that isn't offered is changed
changed_offers : {phase : Out} {offered touched : Option ℕ} {kept : List Record} {o : Offering} (id : ℕ) (change : Record → Record) → (touched ≡ Some id → ⊥) → AsOffered phase offered touched kept o → AsOffered phase offered touched (with_changed id change kept) o
changed_offers id change plain says_idle = says_idle
changed_offers id change plain (says_moving is) = says_moving is
changed_offers id change plain (says_stuck is) = says_stuck is
changed_offers id change plain says_ended = says_ended
changed_offers {o = o} id change plain (says_offered {board = board} {boards = boards} is) = by (board.id == id) refl where
  by : (test : Bool) → (board.id == id) ≡ test → AsOffered out.Idle (Some board.id) (Some board.id) (if test then change board ∷ boards else board ∷ with_changed id change boards) o
  by true same = absurd (plain (ap (λ (n : ℕ). Some n) (eqb-true board.id id same)))
  by false other = says_offered is

removes_hand : (body : Body) (id : ℕ) (o : Offering) (test : Bool) → IsAsOf body o → ByHand o body (if_kept test (with_kept (without id body.kept) body) (acts.Removes id) body)
removes_hand body id o false h = stays_so h
removes_hand body id o true h = elim (without_offers id h) [ inl so ↦ stays_so so | inr lost ↦ is_lost id lost.0 lost.1 lost.1 (told_first takes_out) ]

-- a board goes to another lane, which isn't offered
gives_hand : (body : Body) (id to : ℕ) (o : Offering) (test : Bool) → (body.outlet.offered ≡ Some id → ⊥) → IsAsOf body o → ByHand o body (if_kept test (with_kept (without id body.kept) body) (acts.Gives id to) body)
gives_hand body id to o false plain h = stays_so h
gives_hand body id to o true plain h = elim (without_offers id h) [ inl so ↦ stays_so so | inr lost ↦ absurd (plain lost.1) ]

replaces_hand : (body : Body) (old new : ℕ) (with : Record) (o : Offering) (test : Bool) → IsAsOf body o → ByHand o body (if_kept test (with_kept (with_instead old with body.kept) body) (acts.Replaces old new) body)
replaces_hand body old new with o false h = stays_so h
replaces_hand body old new with o true h = elim (instead_offers old with h) [ inl so ↦ stays_so so | inr lost ↦ is_lost old lost.0 lost.1 lost.1 (told_first takes_instead) ]

changes_hand : (body : Body) (id : ℕ) (change : Record → Record) (act : Act) (o : Offering) (test : Bool) → offers_acts (act ∷ []) o ≡ o → (body.outlet.touched ≡ Some id → ⊥) → IsAsOf body o → ByHand o body (if_kept test (with_kept (with_changed id change body.kept) body) act body)
changes_hand body id change act o false silent plain h = stays_so h
changes_hand body id change act o true silent plain h = stays_so (subst (λ (now : Offering). AsOffered body.outlet.phase body.outlet.offered body.outlet.touched (with_changed id change body.kept) now) (sym silent) (changed_offers id change plain h))

-- a board that is offered isn't marked, gets no circuit, and goes to no other lane
abbrev pub IsMarkable : Event → OutState → Type 0
IsMarkable (Mark id quality) s = s.touched ≡ Some id → ⊥
IsMarkable (Sub id sub) s = s.touched ≡ Some id → ⊥
IsMarkable (Gives id to) s = s.offered ≡ Some id → ⊥
IsMarkable _ s = Unit {0}

by_walk : (body : Body) (o : Offering) (d : Done) → Walks body d → IsAsOf body o → ByHand o body d
by_walk body o d w h = stays_so (w.each (held_in body.intake.phase) [] o (record { offers = h; settles = not_yet (λ r is. is) })).offers

-- a level of a bridge's segment may mark the front board, unless that is offered
marked_so : (body : Body) (id : ℕ) (o : Offering) (test : Bool) → (body.outlet.touched ≡ Some id → ⊥) → IsAsOf body o
    → IsAsOf (if_kept test (with_kept (with_mark id qualities.Failed body.kept) body) (acts.Marks id qualities.Failed) body).body (offers_acts (if_kept test (with_kept (with_mark id qualities.Failed body.kept) body) (acts.Marks id qualities.Failed) body).acts o)
marked_so body id o false plain h = h
marked_so body id o true plain h = changed_offers id (λ r. record r { quality = qualities.Failed }) plain h

fails_so : (front : Option ℕ) (body : Body) (o : Offering) → ((id : ℕ) → front ≡ Some id → body.outlet.touched ≡ Some id → ⊥) → IsAsOf body o → IsAsOf (fails front body).body (offers_acts (fails front body).acts o)
fails_so None body o free h = h
fails_so (Some id) body o free h = marked_so body id o (is_kept id body.kept) (free id refl) h

level_so : (line : SegmentLine) (on : Bool) (body : Body) (o : Offering) → IsAsOf body o → IsAsOf (tells_level line on body).body o
level_so line on body o h = ((level_walks line on body).each (held_in body.intake.phase) [] o (record { offers = h; settles = not_yet (λ r is. is) })).offers

sets_hand : (desk : Desk) (line : SegmentLine) (on : Bool) (body : Body) (o : Offering) → IsAsOf body o → ByHand o body (sets_level desk line on body)
sets_hand desk line on body o h =
    let one : Body = (tells_level line on body).body in
    stays_so (fails_so (failed_front desk.bridge line on one) one o (marked_untouched desk.bridge line on one) (level_so line on body o h))

event_hand : (desk : Desk) (event : Event) (body : Body) (o : Offering) → IsMarkable event body.outlet → IsAsOf body o → ByHand o body (event_did desk event body)
event_hand desk (Insert id barcode) body o plain h = stays_so (settled_offers (Some (plain_record id desk.name barcode)) h)
event_hand desk (Remove id) body o plain h = removes_hand body id o (is_kept id body.kept) h
event_hand desk (Replace old new) body o plain h = replaces_hand body old new (plain_record new desk.name None) o (is_kept old body.kept) h
event_hand desk (Mark id quality) body o plain h = changes_hand body id (λ r. record r { quality = quality }) (acts.Marks id quality) o (is_kept id body.kept) refl plain h
event_hand desk (Sub id sub) body o plain h = changes_hand body id (λ r. record r { subs = r.subs ++ sub ∷ [] }) (acts.Subs id sub.pos) o (takes_sub id sub body.kept) refl plain h
event_hand desk (Gives id to) body o plain h = gives_hand body id to o (is_kept id body.kept) plain h
event_hand desk (Gets board) body o plain h = stays_so (settled_offers (Some board) h)
event_hand desk (Level line on) body o plain h = sets_hand desk line on body o h
event_hand desk event body o plain h = by_walk body o _ (event_walks desk event body tt) h

-- ---- reading leaves what is offered

sensed_offered : {s : OutState} {event : SensorEvent} {row : OutRow} → IsOutletRow s (out_input.Sensed event) row → row.after.offered ≡ s.offered
sensed_offered begun_moving = refl
sensed_offered _ = refl

saw_row_offered : (desk : Desk) (event : SensorEvent) (body : Body) (found : Option OutRow) → outlet_row body.outlet (out_input.Sensed event) ≡ found → (outlet_row_did desk body found).body.outlet.offered ≡ body.outlet.offered
saw_row_offered desk event body None is = refl
saw_row_offered desk event body (Some row) is = sensed_offered (row_is body.outlet (out_input.Sensed event) row is)

in_row_aside : (desk : Desk) (body : Body) (found : Option InRow) → (intake_row_did desk body found).body.outlet ≡ body.outlet
in_row_aside desk body None = refl
in_row_aside desk body (Some row) = refl

saw_offered : (desk : Desk) (side : Side) (event : SensorEvent) (body : Body) → (saw desk side event body).body.outlet.offered ≡ body.outlet.offered
saw_offered desk Entry event body = ap (λ (s : OutState). s.offered) (in_row_aside desk body (intake_row body.intake (in_input.Sensed event)))
saw_offered desk Exit event body = saw_row_offered desk event body (outlet_row body.outlet (out_input.Sensed event)) refl

read_offered : (desk : Desk) (unread : List Seen) (body : Body) → (all_read desk unread body).body.outlet.offered ≡ body.outlet.offered
read_offered desk [] body = refl
read_offered desk (s ∷ ss) body = read_offered desk ss (reads desk s body).body ∙ saw_offered desk s.side s.event body

markable_read : (desk : Desk) (unread : List Seen) (event : Event) (body : Body) (c : Scene) → IsMarkable event body.outlet → IsMarkable event (all_read desk unread body).body.outlet
markable_read desk unread (Mark id quality) body c plain = read_untouched desk unread body c id plain
markable_read desk unread (Sub id sub) body c plain = read_untouched desk unread body c id plain
markable_read desk unread (Gives id to) body c plain = λ is. plain (sym (read_offered desk unread body) ∙ is)
markable_read desk unread _ body c plain = tt

-- ---- THE STEP: what is offered

-- it stays so; or the board that was offered was taken out by hand, and the machine keeps one of its id still
pub data StepOffers (o : Offering) (body : Body) (d : Done) : Type 0 where
  offers_so : AsOffered d.body.outlet.phase d.body.outlet.offered d.body.outlet.touched d.body.kept (offers_acts d.acts o) → StepOffers o body d
  offers_lost : (x : ℕ) → body.outlet.offered ≡ Some x → HasAct (TakesOut x) d.acts → Kept x d.body.kept → StepOffers o body d

pub step_offers : (desk : Desk) (unread : List Seen) (event : Event) (body : Body) (c : Scene) (o : Offering) → IsMarkable event body.outlet → AsOffered body.outlet.phase body.outlet.offered body.outlet.touched body.kept o → StepOffers o body (plain_step desk unread event body)
step_offers desk unread event body c o plain h =
    let read : Done = all_read desk unread body in
    let met : Done = event_did desk event read.body in
    let last : Done = announces desk met.body in
    let one : IsAsOf read.body (offers_acts read.acts o) = ((all_read_walks desk unread body).each (held_in body.intake.phase) [] o (record { offers = h; settles = not_yet (λ r is. is) })).offers in
    let joined : offers_acts (read.acts ++ (met.acts ++ last.acts)) o ≡ offers_acts last.acts (offers_acts met.acts (offers_acts read.acts o)) =
    offers_append read.acts (met.acts ++ last.acts) o ∙ offers_append met.acts last.acts (offers_acts read.acts o) in
    elim (event_hand desk event read.body (offers_acts read.acts o) (markable_read desk unread event body c plain) one) [
      | stays_so two ↦ offers_so (subst (λ (x : Offering). IsAsOf last.body x) (sym joined) ((all_announced desk met.body).offers (offers_acts met.acts (offers_acts read.acts o)) two))
      | is_lost x phase offered before told ↦
          elim (lost_announces desk met.body x (offers_acts met.acts (offers_acts read.acts o)) phase offered) [
            | inl so ↦ offers_so (subst (λ (y : Offering). IsAsOf last.body y) (sym joined) so)
            | inr kept ↦ offers_lost x (sym (read_offered desk unread body) ∙ before) (told_behind read.acts (told_before last.acts told)) kept
          ]
    ]

-- ---- THE STEP: what settles

-- a number is one of these
pub data IsAmong (id : ℕ) : List ℕ → Type 0 where
  among_first : {others : List ℕ} → IsAmong id (id ∷ others)
  among_later : {other : ℕ} {others : List ℕ} → IsAmong id others → IsAmong id (other ∷ others)

hand_rests : (test : Bool) (after body : Body) (act : Act) → is_hand act ≡ true → are_hand (if_kept test after act body).acts ≡ false → Walks body (if_kept test after act body)
hand_rests false after body act is none = walks_still body
hand_rests true after body act is none = absurd (let no : true ≡ false = sym (rw is refl) ∙ none in cc)

fails_rest : (front : Option ℕ) (body : Body) → are_hand (fails front body).acts ≡ false → Walks body (fails front body)
fails_rest None body none = walks_still body
fails_rest (Some id) body none = hand_rests (is_kept id body.kept) (with_kept (with_mark id qualities.Failed body.kept) body) body (acts.Marks id qualities.Failed) refl none

sets_rest : (desk : Desk) (line : SegmentLine) (on : Bool) (body : Body) → are_hand (sets_level desk line on body).acts ≡ false → Walks body (sets_level desk line on body)
sets_rest desk line on body none =
    let one : Body = (tells_level line on body).body in
    walks_both body (tells_level line on body) (λ (b : Body). fails (failed_front desk.bridge line on b) b) (level_walks line on body) (fails_rest (failed_front desk.bridge line on one) one none)

quiet_event : (desk : Desk) (event : Event) (body : Body) → are_hand (event_did desk event body).acts ≡ false → Walks body (event_did desk event body)
quiet_event desk (Insert id barcode) body none = absurd (let no : true ≡ false = none in cc)
quiet_event desk (Remove id) body none = hand_rests (is_kept id body.kept) (with_kept (without id body.kept) body) body (acts.Removes id) refl none
quiet_event desk (Replace old new) body none = hand_rests (is_kept old body.kept) (with_kept (with_instead old (plain_record new desk.name None) body.kept) body) body (acts.Replaces old new) refl none
quiet_event desk (Mark id quality) body none = hand_rests (is_kept id body.kept) (with_kept (with_mark id quality body.kept) body) body (acts.Marks id quality) refl none
quiet_event desk (Sub id sub) body none = hand_rests (takes_sub id sub body.kept) (with_kept (with_sub id sub body.kept) body) body (acts.Subs id sub.pos) refl none
quiet_event desk (Gives id to) body none = hand_rests (is_kept id body.kept) (with_kept (without id body.kept) body) body (acts.Gives id to) refl none
quiet_event desk (Gets board) body none = absurd (let no : true ≡ false = none in cc)
quiet_event desk (Level line on) body none = sets_rest desk line on body none
quiet_event desk event body none = event_walks desk event body tt

pub record StepSettles (id : ℕ) (body : Body) (d : Done) : Type 0 where
  pub board : Record
  pub named : board.id ≡ id
  pub held : held_in body.intake.phase ≡ Some board
  pub kept : IsLast board d.body.kept

behind_last : {r : Record} {offered : Option ℕ} {kept : List Record} → Behind r offered kept → IsLast r kept
behind_last (behind_all others is) = record { others = others; is = is }
behind_last (behind_front front others is) = record { others = front ∷ others; is = is }

settled_is : {first holds : Option Record} {offered : Option ℕ} {kept : List Record} {ids : List ℕ} (id : ℕ) → Settling first ids holds offered kept → IsAmong id ids → (r : Record) × (r.id ≡ id) × (first ≡ Some r) × IsLast r kept
settled_is id (not_yet less) is = elim is [ ]
settled_is _ (is_settled {r = r} was none h) among_first = (r, refl, was, behind_last h)
settled_is id (is_settled {r = r} was none h) (among_later more) = elim more [ ]

pub step_settles : (desk : Desk) (unread : List Seen) (event : Event) (body : Body) (o : Offering) (id : ℕ) → AsOffered body.outlet.phase body.outlet.offered body.outlet.touched body.kept o → are_hand (plain_step desk unread event body).acts ≡ false
    → IsAmong id (settles_acts (plain_step desk unread event body).acts []) → StepSettles id body (plain_step desk unread event body)
step_settles desk unread event body o id h none among =
    let read : Done = all_read desk unread body in
    let met : Done = event_did desk event read.body in
    let last : Done = announces desk met.body in
    let later : are_hand (met.acts ++ last.acts) ≡ false = (or_parts (are_hand read.acts) (are_hand (met.acts ++ last.acts)) (sym (hand_append read.acts (met.acts ++ last.acts)) ∙ none)).1 in
    let by_event : are_hand met.acts ≡ false = (or_parts (are_hand met.acts) (are_hand last.acts) (sym (hand_append met.acts last.acts) ∙ later)).0 in
    let first : Option Record = held_in body.intake.phase in
    let start : Holds first [] o body = record { offers = h; settles = not_yet (λ r is. is) } in
    let both = (walks_both body read (event_did desk event) (all_read_walks desk unread body) (quiet_event desk event read.body by_event)).each first [] o start in
    let rest = all_announced desk met.body in
    let ids : settles_acts (read.acts ++ (met.acts ++ last.acts)) [] ≡ settles_acts (read.acts ++ met.acts) [] =
    settles_append read.acts (met.acts ++ last.acts) [] ∙ (settles_append met.acts last.acts (settles_acts read.acts []) ∙ (rest.settles (settles_acts met.acts (settles_acts read.acts [])) ∙ sym (settles_append read.acts met.acts []))) in
    let found = settled_is id both.settles (subst (λ (xs : List ℕ). IsAmong id xs) ids among) in
    record { board = found.0; named = found.1; held = found.2; kept = subst (λ (ks : List Record). IsLast found.0 ks) (sym rest.kept) found.3 }

pub step_hands : (desk : Desk) (unread : List Seen) (event : Event) (body : Body) → IsNoHand event → are_hand (plain_step desk unread event body).acts ≡ false
step_hands desk unread event body plain =
    let read : Done = all_read desk unread body in
    let met : Done = event_did desk event read.body in
    let last : Done = announces desk met.body in
    no_hands read.acts (met.acts ++ last.acts) (all_read_walks desk unread body).hands (no_hands met.acts last.acts (event_walks desk event read.body plain).hands (all_announced desk met.body).hands)
