-- Which records a machine has behind a step, and where they come from: they are those that it had before, as they are, but one
-- that was put in or replaced, and one that was marked, which is the one before but for its quality.
use Rattle.std.proofs.Common.{inl, inr, ◌⊎◌, if◌then◌else◌, subst, ◌≡◌, ◌++◌, ◌==◌, ℕ, Bool, true, false, List, [], ◌∷◌, Option, Some, None, refl, sym, ap, eqb-true, eq-eqb, ◌∙◌, ◌&&◌, not}
use Rattle.std.specs.Prelude.{slice_get}
use Rattle.std.proofs.lemmas.Bool.{false≢true}
use Rattle.line_base.specs.declared.states.SensorEvent.{SensorEvent}
use Rattle.line_base.specs.declared.states.SensorEvent.TheVariants as sensors
use Rattle.line_base.specs.declared.states.Side.{Side}
use Rattle.line_base.specs.declared.states.Side.TheVariants.{Entry, Exit}
use Rattle.board_record.specs.declared.record.Record.{Record}
use Rattle.board_record.specs.declared.sensed.Sensed.{Sensed as Seen}
use Rattle.board_record.specs.Record.{plain_record}
use Rattle.session_core.specs.End.{SessionEnd, at_rest}
use Rattle.handover_out.specs.declared.input.OutInput.{OutInput}
use Rattle.handover_out.specs.declared.input.OutInput.TheVariants as out_input
use Rattle.handover_out.specs.State.{OutState, held, would_open}
use Rattle.handover_out.specs.Row.{OutRow, back_row as back_of, begun_row, left_row, taken_row}
use Rattle.handover_out.specs.declared.phase.Phase.{Phase}
use Rattle.handover_out.specs.declared.phase.Phase.TheVariants as phases
use Rattle.handover_out.specs.Table.{
  IsOutletRow,
  offers,
  revokes,
  opens as out_opens,
  refuses,
  stop_home,
  left_moving,
  left_stuck,
  left_stopped,
  left_unlinked,
  back_stuck,
  back_stopped,
  back_unlinked,
  taken_moving,
  taken_stuck,
  taken_stopped,
  taken_unlinked,
  fault_home,
  closed_home,
}
use Rattle.handover_in.specs.declared.input.InInput.{InInput}
use Rattle.handover_in.specs.declared.input.InInput.TheVariants as in_input
use Rattle.handover_in.specs.State.{InState, held as in_held}
use Rattle.handover_in.specs.Row.{InRow, intake_row}
use Rattle.handover_in.specs.Table.{
  IsIntakeRow,
  gets_ready,
  gets_unready,
  starts_transport,
  running_drop,
  hears_keep,
  hears_drop,
  full_heard,
  taken_heard,
  stopped_keep,
  stopped_drop,
  waiting_settles,
  waiting_home,
  waiting_taken,
  closed_home as in_closed_home,
  closed_stopped_home,
  closed_stopped_gone,
  stands_settles,
}
use Rattle.handover_in.proofs.Rows.{row_is as in_row_is}
use Rattle.node_core.specs.Desk.{Desk}
use Rattle.node_core.specs.declared.act.Act.{Act}
use Rattle.node_core.specs.declared.act.Act.TheVariants as acts
use Rattle.node_core.specs.declared.act.Setting.TheVariants as settings
use Rattle.node_core.specs.declared.lane.Body.{Body}
use Rattle.node_core.specs.Done.{Done, done}
use Rattle.node_core.specs.Sides.{session_at, with_session}
use Rattle.node_core.specs.Halves.{
  front_id,
  given_back,
  settled,
  intake_row_did,
  outlet_row_did,
  opening_board,
  behind_opening,
}
use Rattle.node_core.specs.Reads.{all_read, saw}
use Rattle.node_core.specs.Boards.{without, with_kept, with_mark, is_kept, if_kept, takes_sub, with_changed}
use Rattle.node_core.specs.Announces.{
  is_front,
  revokes_now,
  revoke,
  unreadies_now,
  unready,
  offers_now,
  offer,
  readies_now,
  ready,
  starts_now,
  start_by,
  announces,
}
use Rattle.node_core.specs.Event.{Event, Insert, Replace, Mark, Sub, Gets, event_did, Level}
use Rattle.node_core.specs.Step.{machine_step}
use Rattle.node_core.proofs.HalfRows.{IsNoStart}
use Rattle.law_sentences.specs.Records.{In, in_first, in_later}
use Rattle.node_core.specs.Bridge.{failed_front, fails, sets_level, tells_level}
use Rattle.smema_bridge.specs.Levels.{BridgeLevels}
use Rattle.smema_bridge.specs.declared.line.SegmentLine.{SegmentLine}
use Rattle.smema_bridge.specs.declared.line.SegmentLine.TheVariants.{Available, Failed, Ready}
use Rattle.line_base.specs.declared.states.Quality.TheVariants as qualities
use Rattle.smema_bridge.specs.Segment.{becomes_available}
use Rattle.step_rules.specs.Causes.{
  Announcing,
  ByHand,
  Cause,
  Hearing,
  Meeting,
  Reading,
  ToIntake,
  ToOutlet,
  hand_gets,
  hand_gives,
  hand_inserts,
  hand_removes,
  hand_replaces,
  in_closed,
  in_ready,
  in_stand,
  in_start,
  in_unready,
  out_closed,
  out_offer,
  out_revoke,
  hand_changes,
  changes_quality,
  changes_circuits,
  changes_front,
}
use Rattle.step_rules.specs.Made.{
  Made,
  made_act,
  made_both,
  made_breach,
  made_by_hand,
  made_close,
  made_intake,
  made_none,
  made_notice,
  made_outlet,
  made_passed,
  made_row,
  made_start,
  made_will,
  made_word,
}
use Rattle.step_rules.proofs.Inputs.{IsNoStart as IsNoOutStart, no_start}
use Rattle.step_rules.proofs.Steps.{
  all_read_made,
  announces_made,
  event_made,
  offer_made,
  ready_made,
  revoke_made,
  unready_made,
}

-- ---- a record in the three places of a machine

pub data Has (q : Record) : List Record → Option Record → Option Record → Type 0 where
  has_kept : {kept : List Record} {mine taking : Option Record} → In q kept → Has q kept mine taking
  has_held : {kept : List Record} {taking : Option Record} → Has q kept (Some q) taking
  has_taking : {kept : List Record} {mine : Option Record} → Has q kept mine (Some q)

abbrev pub HasIn : Record → Body → Type 0
HasIn q body = Has q body.kept (held body.outlet) (in_held body.intake)

-- a micro event after which a machine has no record that it did not have before
record Brings (body : Body) (d : Done) : Type 0 where
  each : (q : Record) → HasIn q d.body → HasIn q body

brings_session : (side : Side) (s : SessionEnd) (body : Body) (d : Done) → Brings (with_session side s body) d → Brings body d
brings_session Entry s body d k = record { each = k.each }
brings_session Exit s body d k = record { each = k.each }

-- ---- the halves

returned : {b : Record} {kept : List Record} {taking : Option Record} (q : Record) → Has q (b ∷ kept) None taking → Has q kept (Some b) taking
returned {b = b} {kept = kept} {taking = taking} q (has_kept (in_first is)) = subst (λ (x : Record). Has x kept (Some b) taking) (sym is) has_held
returned q (has_kept (in_later i)) = has_kept i
returned q has_taking = has_taking

let_go : {b : Record} {kept : List Record} {taking : Option Record} (q : Record) → Has q kept None taking → Has q kept (Some b) taking
let_go q (has_kept i) = has_kept i
let_go q has_taking = has_taking

opened_by : {b : Record} {kept : List Record} {taking : Option Record} (q : Record) → Has q kept (Some b) taking → Has q (b ∷ kept) None taking
opened_by q (has_kept i) = has_kept (in_later i)
opened_by q has_held = has_kept (in_first refl)
opened_by q has_taking = has_taking

in_back : (q b : Record) (kept : List Record) {mine : Option Record} → In q (kept ++ b ∷ []) → Has q kept mine (Some b)
in_back q b [] {mine = mine} (in_first is) = subst (λ (x : Record). Has x [] mine (Some b)) (sym is) has_taking
in_back q b [] (in_later i) = elim i [ ]
in_back q b (k ∷ kept) (in_first is) = has_kept (in_first is)
in_back q b (k ∷ kept) (in_later i) = later (in_back q b kept i) where
  later : {q k b : Record} {kept : List Record} {mine : Option Record} → Has q kept mine (Some b) → Has q (k ∷ kept) mine (Some b)
  later (has_kept i) = has_kept (in_later i)
  later has_held = has_held
  later has_taking = has_taking

settled_by : (b : Record) (kept : List Record) {mine : Option Record} (q : Record) → Has q (kept ++ b ∷ []) mine None → Has q kept mine (Some b)
settled_by b kept q (has_kept i) = in_back q b kept i
settled_by b kept q has_held = has_held

dropped_by : {b : Record} {kept : List Record} {mine : Option Record} (q : Record) → Has q kept mine None → Has q kept mine (Some b)
dropped_by q (has_kept i) = has_kept i
dropped_by q has_held = has_held

row_brings : (intake : InState) {s : OutState} {input : OutInput} {r : OutRow} (kept : List Record) → IsOutletRow s input r → IsNoOutStart input → (q : Record) → Has q (given_back r.act.back kept) (held r.after) (in_held intake) → Has q kept (held s) (in_held intake)
row_brings intake kept (out_opens _) plain q h = absurd plain
row_brings intake kept (refuses _) plain q h = absurd plain
row_brings intake kept (stop_home _) plain q h = returned q h
row_brings intake kept back_stuck plain q h = returned q h
row_brings intake kept back_stopped plain q h = returned q h
row_brings intake kept back_unlinked plain q h = returned q h
row_brings intake kept fault_home plain q h = returned q h
row_brings intake kept closed_home plain q h = returned q h
row_brings intake kept left_moving plain q h = let_go q h
row_brings intake kept left_stuck plain q h = let_go q h
row_brings intake kept left_stopped plain q h = let_go q h
row_brings intake kept left_unlinked plain q h = let_go q h
row_brings intake kept taken_moving plain q h = let_go q h
row_brings intake kept taken_stuck plain q h = let_go q h
row_brings intake kept taken_stopped plain q h = let_go q h
row_brings intake kept taken_unlinked plain q h = let_go q h
row_brings intake kept _ plain q h = h

start_brings : (intake : InState) {s : OutState} {named : ℕ} {r : OutRow} (opening : Bool) (kept : List Record) → IsOutletRow s (out_input.Start named (opening_board opening kept)) r
    → (q : Record) → Has q (given_back r.act.back (behind_opening opening kept)) (held r.after) (in_held intake) → Has q kept (held s) (in_held intake)
start_brings intake false kept (refuses _) q h = h
start_brings intake true [] (refuses _) q h = h
start_brings intake true (b ∷ bs) (out_opens _) q h = opened_by q h

in_row_brings : (outlet : OutState) {s : InState} {input : InInput} {r : InRow} (kept : List Record) → IsIntakeRow s input r → IsNoStart input → (q : Record) → Has q (settled r.act.keep kept) (held outlet) (in_held r.after) → Has q kept (held outlet) (in_held s)
in_row_brings outlet kept starts_transport plain q h = absurd plain
in_row_brings outlet kept (hears_keep {board = b} _ _) plain q h = settled_by b kept q h
in_row_brings outlet kept (full_heard {board = b}) plain q h = settled_by b kept q h
in_row_brings outlet kept (stopped_keep {board = b} _ _) plain q h = settled_by b kept q h
in_row_brings outlet kept (waiting_settles {board = b} _ _) plain q h = settled_by b kept q h
in_row_brings outlet kept (stands_settles {board = b}) plain q h = settled_by b kept q h
in_row_brings outlet kept (running_drop _ _ _) plain q h = dropped_by q h
in_row_brings outlet kept (hears_drop _ _) plain q h = dropped_by q h
in_row_brings outlet kept taken_heard plain q h = dropped_by q h
in_row_brings outlet kept (stopped_drop _ _) plain q h = dropped_by q h
in_row_brings outlet kept (waiting_home _ _) plain q h = dropped_by q h
in_row_brings outlet kept (waiting_taken _ _) plain q h = dropped_by q h
in_row_brings outlet kept in_closed_home plain q h = dropped_by q h
in_row_brings outlet kept closed_stopped_home plain q h = dropped_by q h
in_row_brings outlet kept closed_stopped_gone plain q h = dropped_by q h
in_row_brings outlet kept _ plain q h = h

-- ---- by hand

-- a record that was among these, changed so
pub record IsChangedIn (id : ℕ) (change : Record → Record) (kept : List Record) (q : Record) : Type 0 where
  pub was : Record
  pub there : In was kept
  pub named : was.id ≡ id
  pub is : q ≡ change was

-- a record that a machine keeps now and did not have before is that of a board that was put in, replaced another or came from
-- another lane, or one that was kept and is marked or has a circuit more
abbrev pub IsByHand : Option BridgeLevels → Body → Event → Record → Type 0
IsByHand bridge body (Insert id barcode) q = q.id ≡ id
IsByHand bridge body (Replace old new) q = q.id ≡ new
IsByHand bridge body (Gets board) q = q.id ≡ board.id
IsByHand bridge body (Mark id quality) q = (is_kept id body.kept ≡ true) × IsChangedIn id (λ r. record r { quality = quality }) body.kept q
IsByHand bridge body (Sub id sub) q = (takes_sub id sub body.kept ≡ true) × IsChangedIn id (λ r. record r { subs = r.subs ++ sub ∷ [] }) body.kept q
IsByHand bridge body (Level line on) q =
    (id : ℕ) × (failed_front bridge line on (tells_level line on body).body ≡ Some id) × (is_kept id (tells_level line on body).body.kept ≡ true)
    × IsChangedIn id (λ r. record r { quality = qualities.Failed }) (tells_level line on body).body.kept q
IsByHand bridge body _ q = ⊥

record Meets (bridge : Option BridgeLevels) (event : Event) (body : Body) (d : Done) : Type 0 where
  each : (q : Record) → HasIn q d.body → HasIn q body ⊎ IsByHand bridge body event q
  out : (q : Record) → held d.body.outlet ≡ Some q → HasIn q body

held_has : (q : Record) (body : Body) → held body.outlet ≡ Some q → HasIn q body
held_has q body is = subst (λ (mine : Option Record). Has q body.kept mine (in_held body.intake)) (sym is) has_held

met : {bridge : Option BridgeLevels} (event : Event) {body : Body} {d : Done} → Brings body d → Meets bridge event body d
met event {body = body} {d = d} b = record { each = λ q h. inl (b.each q h); out = λ q is. b.each q (held_has q d.body is) }

in_last : (q b : Record) (kept : List Record) → In q (kept ++ b ∷ []) → In q kept ⊎ (q ≡ b)
in_last q b [] (in_first is) = inr is
in_last q b [] (in_later i) = elim i [ ]
in_last q b (k ∷ kept) (in_first is) = inl (in_first is)
in_last q b (k ∷ kept) (in_later i) = elim (in_last q b kept i) [ inl before ↦ inl (in_later before) | inr is ↦ inr is ]

in_without : (q : Record) (id : ℕ) (kept : List Record) → In q (without id kept) → In q kept
in_without q id [] i = elim i [ ]
in_without q id (k ∷ kept) i = without_by (k.id == id) i (λ j. in_without q id kept j) where
  without_by : (test : Bool) → In q (if test then kept else k ∷ without id kept) → (In q (without id kept) → In q kept) → In q (k ∷ kept)
  without_by true i later = in_later i
  without_by false (in_first is) later = in_first is
  without_by false (in_later i) later = in_later (later i)

-- a record among them is as it was, or the one that is changed
in_changed : (q : Record) (id : ℕ) (change : Record → Record) (kept : List Record) → In q (with_changed id change kept) → In q kept ⊎ IsChangedIn id change kept q
in_changed q id change [] i = elim i [ ]
in_changed q id change (k ∷ kept) i = by (k.id == id) refl i (λ j. in_changed q id change kept j) where
  by : (test : Bool) → (k.id == id) ≡ test → In q (if test then change k ∷ kept else k ∷ with_changed id change kept) → (In q (with_changed id change kept) → In q kept ⊎ IsChangedIn id change kept q) → In q (k ∷ kept) ⊎ IsChangedIn id change (k ∷ kept) q
  by true is (in_first same) later = inr (record { was = k; there = in_first refl; named = eqb-true k.id id is; is = same })
  by true is (in_later i) later = inl (in_later i)
  by false is (in_first same) later = inl (in_first same)
  by false is (in_later i) later = elim (later i) [ inl before ↦ inl (in_later before) | inr m ↦ inr (record { was = m.was; there = in_later m.there; named = m.named; is = m.is }) ]

kept_by_hand : {P : Type 0} {q : Record} {kept now : List Record} {mine taking : Option Record} → (In q now → In q kept ⊎ P) → Has q now mine taking → Has q kept mine taking ⊎ P
kept_by_hand each (has_kept i) = elim (each i) [ inl before ↦ inl (has_kept before) | inr is ↦ inr is ]
kept_by_hand each has_held = inl has_held
kept_by_hand each has_taking = inl has_taking

-- the first record of an id is changed, where the test passes
changed : {bridge : Option BridgeLevels} (event : Event) (id : ℕ) (change : Record → Record) (act : Act) (body : Body) (test : Bool) → ((q : Record) → test ≡ true → IsChangedIn id change body.kept q → IsByHand bridge body event q)
    → Meets bridge event body (if_kept test (record body { kept = with_changed id change body.kept }) act body)
changed event id change act body true hand = record {
  each = λ q h. kept_by_hand (λ i. elim (in_changed q id change body.kept i) [ inl before ↦ inl before | inr m ↦ inr (hand q refl m) ]) h;
  out = λ q is. held_has q body is;
}
changed event id change act body false hand = met event (record { each = λ q h. h })

none_or : {A : Type 0} → A ⊎ ⊥ → A
none_or (inl a) = a
none_or (inr none) = absurd none

-- a level of the segment may mark the front board
pub level_has : (line : SegmentLine) (on : Bool) (body : Body) (q : Record) → HasIn q (tells_level line on body).body → HasIn q body
level_has Ready on body q h = h
level_has Available on body q h = h
level_has Failed on body q h = h

fails_bring : (bridge : Option BridgeLevels) (line : SegmentLine) (on : Bool) (body : Body) (found : Option ℕ) → failed_front bridge line on (tells_level line on body).body ≡ found
    → Meets bridge (Level line on) body (done (fails found (tells_level line on body).body).body (acts.Sets (settings.Level line on) ∷ (fails found (tells_level line on body).body).acts))
fails_bring bridge line on body None is = record {
  each = λ q h. inl (level_has line on body q h);
  out = λ q held_is. level_has line on body q (held_has q (tells_level line on body).body held_is);
}
fails_bring bridge line on body (Some id) is =
    let one : Body = (tells_level line on body).body in
    let k = changed {bridge = bridge} (Mark id qualities.Failed) id (λ r. record r { quality = qualities.Failed }) (acts.Marks id qualities.Failed) one (is_kept id one.kept) (λ q kept m. (kept, m)) in
    record {
      each = λ q h. elim (k.each q h) [
        | inl before ↦ inl (level_has line on body q before)
        | inr hand ↦ inr (id, is, hand.0, hand.1)
      ];
      out = λ q held_is. level_has line on body q (k.out q held_is);
    }

levels_bring : (desk : Desk) (line : SegmentLine) (on : Bool) (body : Body) → Meets desk.bridge (Level line on) body (sets_level desk line on body)
levels_bring desk line on body = fails_bring desk.bridge line on body (failed_front desk.bridge line on (tells_level line on body).body) refl

-- ---- the pieces of a step that bring no record: not those by hand, and no start

abbrev BringsNone : Cause → Type 0
BringsNone Reading = Unit {0}
BringsNone (Hearing side word) = Unit {0}
BringsNone (Announcing starting) = starting ≡ false
BringsNone (Meeting (Insert id barcode)) = ⊥
BringsNone (Meeting (Replace old new)) = ⊥
BringsNone (Meeting (Gets board)) = ⊥
BringsNone (Meeting (Mark id quality)) = ⊥
BringsNone (Meeting (Sub id sub)) = ⊥
BringsNone (Meeting (Level line on)) = ⊥
BringsNone (Meeting event) = Unit {0}

plain_in : {desk : Desk} {cause : Cause} {body : Body} {input : InInput}
    → ToIntake desk cause body input → BringsNone cause → IsNoStart input
plain_in (in_start now) none = absurd (false≢true (sym none))
plain_in _ none = tt

by_hand : {desk : Desk} {event : Event} {body : Body} {kept : List Record} {act : Act}
    → ByHand desk event body kept act → BringsNone (Meeting event)
    → Brings body (done (with_kept kept body) (act ∷ []))
by_hand hand_inserts none = absurd none
by_hand (hand_removes {id = id} {body = body} is) none =
    record { each = λ q h. none_or (kept_by_hand (λ i. inl (in_without q id body.kept i)) h) }
by_hand (hand_gives {id = id} {body = body} is) none =
    record { each = λ q h. none_or (kept_by_hand (λ i. inl (in_without q id body.kept i)) h) }
by_hand hand_gets none = absurd none
by_hand (hand_replaces is) none = absurd none
by_hand (hand_changes (changes_quality is)) none = absurd none
by_hand (hand_changes (changes_circuits is)) none = absurd none
by_hand (hand_changes (changes_front front is)) none = absurd none

brings : {desk : Desk} {cause : Cause} {body : Body} {d : Done} → Made desk cause body d
    → BringsNone cause → Brings body d
brings made_none none = record { each = λ q h. h }
brings (made_both one two) none =
    record { each = λ q h. (brings one none).each q ((brings two none).each q h) }
brings (made_word is on made) none = brings made tt
brings (made_act tells) none = record { each = λ q h. h }
brings (made_row {side = side} {row = row} {body = body} to shape made) none =
    brings_session side row.after body _ (brings made none)
brings (made_passed {side = side} {row = row} {body = body} shape first on made) none =
    brings_session side row.after body _ (brings made none)
brings (made_close talk made) none = record { each = (brings made none).each }
brings (made_notice {side = side} {body = body} on made) none =
    let k = brings_session side (at_rest (session_at side body).role) body _ (brings made none) in
    record { each = k.each }
brings (made_breach {side = side} {body = body} made) none =
    let k = brings_session side (at_rest (session_at side body).role) body _ (brings made none) in
    record { each = k.each }
brings (made_start {id = id} {body = body} says on shape) none =
    record { each = start_brings body.intake (would_open body.outlet id) body.kept shape }
brings (made_outlet {body = body} to shape) none =
    record { each = row_brings body.intake body.kept shape (no_start to) }
brings (made_intake {body = body} to shape) none =
    record { each = in_row_brings body.outlet body.kept shape (plain_in to none) }
brings (made_by_hand hand) none = by_hand hand none
brings (made_will {side = Entry} sets) none = record { each = λ q h. h }
brings (made_will {side = Exit} sets) none = record { each = λ q h. h }

-- a record comes to the back
comes_behind : {bridge : Option BridgeLevels} (event : Event) (board : Record) (act : Act) (body : Body) → ((q : Record) → q ≡ board → IsByHand bridge body event q)
    → Meets bridge event body (done (with_kept (body.kept ++ board ∷ []) body) (act ∷ []))
comes_behind event board act body hand = record {
  each = λ q h.
      kept_by_hand (λ i. elim (in_last q board body.kept i) [
        | inl before ↦ inl before
        | inr is ↦ inr (hand q is)
      ]) h;
  out = λ q is. held_has q body is;
}

event_brings : (desk : Desk) (event : Event) (body : Body)
    → Meets desk.bridge event body (event_did desk event body)
event_brings desk (Insert id barcode) body = comes_behind (Insert id barcode) (plain_record id desk.name barcode) (acts.Inserts id) body (λ q is. ap (λ (r : Record). r.id) is)
event_brings desk (Gets board) body = comes_behind (Gets board) board (acts.Gets board.id) body (λ q is. ap (λ (r : Record). r.id) is)
event_brings desk (Replace old new) body =
    changed (Replace old new) old (λ _. plain_record new desk.name None) (acts.Replaces old new) body (is_kept old body.kept)
    (λ q kept m. ap (λ (r : Record). r.id) m.is)
event_brings desk (Mark id quality) body = changed (Mark id quality) id (λ r. record r { quality = quality }) (acts.Marks id quality) body (is_kept id body.kept) (λ q kept m. (kept, m))
event_brings desk (Sub id sub) body = changed (Sub id sub) id (λ r. record r { subs = r.subs ++ sub ∷ [] }) (acts.Subs id sub.pos) body (takes_sub id sub body.kept) (λ q takes m. (takes, m))
event_brings desk (Level line on) body = levels_bring desk line on body
event_brings desk event body = met event (brings (event_made desk event body) tt)

-- ---- the announcements

-- a start leaves the kept records
start_row_keeps : (desk : Desk) (body : Body) (found : Option InRow) → intake_row body.intake in_input.Start ≡ found → (q : Record) → In q (intake_row_did desk body found).body.kept → In q body.kept
start_row_keeps desk body None is q i = i
start_row_keeps desk body (Some r) is q i = started body.kept (in_row_is body.intake in_input.Start r is) i where
  started : {s : InState} {r : InRow} (kept : List Record) → IsIntakeRow s in_input.Start r → In q (settled r.act.keep kept) → In q kept
  started kept starts_transport i = i

start_keeps : (desk : Desk) (test : Bool) (body : Body) (q : Record) → In q (start_by desk test body).body.kept → In q body.kept
start_keeps desk true body q i = start_row_keeps desk body (intake_row body.intake in_input.Start) refl q i
start_keeps desk false body q i = i

announces_keep : (desk : Desk) (body : Body) (q : Record) → In q (announces desk body).body.kept
    → HasIn q body
announces_keep desk body q i =
    let one = (revoke desk body).body in
    let two = (unready desk one).body in
    let three = (offer desk two).body in
    let four = (ready desk three).body in
    (brings (revoke_made {starting = false} desk (revokes_now body) body refl) refl).each q
    ((brings (unready_made {starting = false} desk (unreadies_now desk one) one refl) refl).each q
    ((brings
    (offer_made {starting = false} desk (offers_now two) (slice_get two.kept 0) two refl refl)
    refl).each q
    ((brings (ready_made {starting = false} desk (readies_now desk three) three refl) refl).each q
    (has_kept (start_keeps desk (starts_now four) four q i)))))

-- an announcement opens nothing
abbrev IsAnnounced : OutInput → Type 0
IsAnnounced out_input.Revoke = Unit {0}
IsAnnounced (out_input.Offer id) = Unit {0}
IsAnnounced _ = ⊥

announced_row : {s : OutState} {input : OutInput} {r : OutRow} {q : Record} → IsOutletRow s input r → IsAnnounced input → held r.after ≡ Some q → held s ≡ Some q
announced_row offers plain is = is
announced_row revokes plain is = is
announced_row _ plain is = absurd plain

announced_input : {starting : Bool} {body : Body} {input : OutInput} → ToOutlet (Announcing starting) body input → IsAnnounced input
announced_input (out_closed talk) = absurd talk
announced_input (out_revoke now) = tt
announced_input (out_offer now front) = tt

announced_out : {desk : Desk} {starting : Bool} {body : Body} {d : Done} {q : Record} → Made desk (Announcing starting) body d → held d.body.outlet ≡ Some q → held body.outlet ≡ Some q
announced_out made_none is = is
announced_out (made_both one two) is = announced_out one (announced_out two is)
announced_out (made_act tells) is = is
announced_out (made_row to shape made) is = elim to [ ]
announced_out (made_close talk made) is = absurd talk
announced_out (made_outlet to shape) is = announced_row shape (announced_input to) is
announced_out (made_intake to shape) is = is

-- and it leaves the kept records as they are
abbrev IsSaid : InInput → Type 0
IsSaid in_input.Ready = Unit {0}
IsSaid in_input.Unready = Unit {0}
IsSaid in_input.Start = Unit {0}
IsSaid _ = ⊥

said_row : {s : InState} {input : InInput} {r : InRow} (kept : List Record) → IsIntakeRow s input r → IsSaid input → settled r.act.keep kept ≡ kept
said_row kept gets_ready plain = refl
said_row kept gets_unready plain = refl
said_row kept starts_transport plain = refl
said_row kept _ plain = absurd plain

said_input : {desk : Desk} {starting : Bool} {body : Body} {input : InInput} → ToIntake desk (Announcing starting) body input → IsSaid input
said_input (in_closed talk) = absurd talk
said_input (in_stand talk) = absurd talk
said_input (in_unready now) = tt
said_input (in_ready now) = tt
said_input (in_start now) = tt

back_row : {s : OutState} {input : OutInput} {r : OutRow} (kept : List Record) → IsOutletRow s input r → IsAnnounced input → given_back r.act.back kept ≡ kept
back_row kept offers plain = refl
back_row kept revokes plain = refl
back_row kept _ plain = absurd plain

announced_kept : {desk : Desk} {starting : Bool} {body : Body} {d : Done} → Made desk (Announcing starting) body d → d.body.kept ≡ body.kept
announced_kept made_none = refl
announced_kept (made_both one two) = announced_kept two ∙ announced_kept one
announced_kept (made_act tells) = refl
announced_kept (made_row to shape made) = elim to [ ]
announced_kept (made_close talk made) = absurd talk
announced_kept (made_outlet {body = body} to shape) = back_row body.kept shape (announced_input to)
announced_kept (made_intake {body = body} to shape) = said_row body.kept shape (said_input to)

-- ---- a level that marks

-- the front record, of this id
record IsFrontOf (id : ℕ) (kept : List Record) : Type 0 where
  front : Record
  others : List Record
  is : kept ≡ front ∷ others
  named : front.id ≡ id

front_by : (id : ℕ) (kept : List Record) → front_id kept ≡ Some id → IsFrontOf id kept
front_by id [] is = absurd (let h : ◌≡◌ {A = Option ℕ} None (Some id) = is in cc)
front_by id (board ∷ boards) is = record { front = board; others = boards; is = refl; named = cc }

found_by : (test : Bool) (front : Option ℕ) (id : ℕ) → (if test then front else None) ≡ Some id → front ≡ Some id
found_by true front id is = is
found_by false front id is = absurd (let h : ◌≡◌ {A = Option ℕ} None (Some id) = is in cc)

failed_is_front : (bridge : Option BridgeLevels) (line : SegmentLine) (on : Bool) (body : Body) (id : ℕ) → failed_front bridge line on body ≡ Some id → front_id body.kept ≡ Some id
failed_is_front None line on body id is = absurd (let h : ◌≡◌ {A = Option ℕ} None (Some id) = is in cc)
failed_is_front (Some levels) line on body id is =
    found_by (becomes_available line on levels.segment && levels.segment.failed && not (is_front body.outlet.touched (slice_get body.kept 0))) (front_id body.kept) id is

front_marked : (id : ℕ) (kept : List Record) → (f : IsFrontOf id kept) → slice_get (with_mark id qualities.Failed kept) 0 ≡ Some (record f.front { quality = qualities.Failed })
front_marked id kept f = ap (λ (rs : List Record). slice_get (with_mark id qualities.Failed rs) 0) f.is ∙ first (f.front.id == id) (eq-eqb f.front.id id f.named) where
  first : (test : Bool) → test ≡ true → slice_get (if test then record f.front { quality = qualities.Failed } ∷ f.others else f.front ∷ with_mark id qualities.Failed f.others) 0 ≡ Some (record f.front { quality = qualities.Failed })
  first true is = refl
  first false is = absurd (false≢true is)

kept_level : (line : SegmentLine) (on : Bool) (body : Body) → (tells_level line on body).body.kept ≡ body.kept
kept_level Ready on body = refl
kept_level Available on body = refl
kept_level Failed on body = refl

-- what a level marks was the front record, and is it behind the level
pub record MarksFront (body : Body) (id : ℕ) (now : List Record) : Type 0 where
  pub front : Record
  pub there : In front body.kept
  pub named : front.id ≡ id
  pub first : slice_get now 0 ≡ Some (record front { quality = qualities.Failed })

level_marks : (desk : Desk) (line : SegmentLine) (on : Bool) (body : Body) (id : ℕ) → failed_front desk.bridge line on (tells_level line on body).body ≡ Some id → is_kept id (tells_level line on body).body.kept ≡ true → MarksFront body id (sets_level desk line on body).body.kept
level_marks desk line on body id is kept =
    let one : Body = (tells_level line on body).body in
    let f : IsFrontOf id one.kept = front_by id one.kept (failed_is_front desk.bridge line on one id is) in
    let here : body.kept ≡ f.front ∷ f.others = sym (kept_level line on body) ∙ f.is in
    let g : Option ℕ → List Record = λ found. (fails found one).body.kept in
    let h : Bool → List Record = λ test. (if_kept test (with_kept (with_mark id qualities.Failed one.kept) one) (acts.Marks id qualities.Failed) one).body.kept in
    record {
      front = f.front;
      there = subst (λ (rs : List Record). In f.front rs) (sym here) (in_first refl);
      named = f.named;
      first = ap (λ (rs : List Record). slice_get rs 0) (ap g is ∙ ap h kept) ∙ front_marked id one.kept f;
    }

-- ---- what a level marks isn't known downstream

none_by : (one two known : Bool) (front : Option ℕ) (id : ℕ) → known ≡ true → (if one && two && not known then front else None) ≡ Some id → ⊥
none_by one two false front id e is = false≢true e
none_by true true true front id e is = let h : ◌≡◌ {A = Option ℕ} None (Some id) = is in cc
none_by true false true front id e is = let h : ◌≡◌ {A = Option ℕ} None (Some id) = is in cc
none_by false true true front id e is = let h : ◌≡◌ {A = Option ℕ} None (Some id) = is in cc
none_by false false true front id e is = let h : ◌≡◌ {A = Option ℕ} None (Some id) = is in cc

pub level_untouched : (bridge : Option BridgeLevels) (line : SegmentLine) (on : Bool) (body : Body) (id : ℕ) → failed_front bridge line on body ≡ Some id → body.outlet.touched ≡ Some id → ⊥
level_untouched None line on body id is touched = let h : ◌≡◌ {A = Option ℕ} None (Some id) = is in cc
level_untouched (Some levels) line on body id is touched =
    let f : IsFrontOf id body.kept = front_by id body.kept (failed_is_front (Some levels) line on body id is) in
    let known : is_front body.outlet.touched (slice_get body.kept 0) ≡ true =
    ap (λ (t : Option ℕ). is_front t (slice_get body.kept 0)) touched ∙ ap (λ (rs : List Record). is_front (Some id) (slice_get rs 0)) f.is ∙ eq-eqb id f.front.id (sym f.named) in
    none_by (becomes_available line on levels.segment) levels.segment.failed (is_front body.outlet.touched (slice_get body.kept 0)) (front_id body.kept) id known is

pub level_outlet : (line : SegmentLine) (on : Bool) (body : Body) → (tells_level line on body).body.outlet ≡ body.outlet
level_outlet Ready on body = refl
level_outlet Available on body = refl
level_outlet Failed on body = refl

-- an outlet at rest stays as it is, whatever is read
saw_rest : (desk : Desk) (side : Side) (event : SensorEvent) (body : Body) → body.outlet.phase ≡ phases.Idle → (saw desk side event body).body.outlet ≡ body.outlet
saw_rest desk Entry event body is = by (intake_row body.intake (in_input.Sensed event)) where
  by : (row : Option InRow) → (intake_row_did desk body row).body.outlet ≡ body.outlet
  by None = refl
  by (Some row) = refl
saw_rest desk Exit sensors.Begun body is = ap (λ (p : Phase). (outlet_row_did desk body (begun_row p body.outlet)).body.outlet) is
saw_rest desk Exit sensors.Left body is = ap (λ (p : Phase). (outlet_row_did desk body (left_row p body.outlet)).body.outlet) is
saw_rest desk Exit sensors.Full body is = refl
saw_rest desk Exit sensors.Back body is = ap (λ (p : Phase). (outlet_row_did desk body (back_of p body.outlet)).body.outlet) is
saw_rest desk Exit sensors.Taken body is = ap (λ (p : Phase). (outlet_row_did desk body (taken_row p body.outlet)).body.outlet) is

pub reads_rest : (desk : Desk) (unread : List Seen) (body : Body) → body.outlet.phase ≡ phases.Idle → (all_read desk unread body).body.outlet ≡ body.outlet
reads_rest desk [] body is = refl
reads_rest desk (seen ∷ others) body is =
    let one = saw_rest desk seen.side seen.event body is in
    reads_rest desk others (saw desk seen.side seen.event body).body (ap (λ (o : OutState). o.phase) one ∙ is) ∙ one

-- ---- the step

pub read_has : (desk : Desk) (unread : List Seen) (body : Body) (q : Record) → HasIn q (all_read desk unread body).body → HasIn q body
read_has desk unread body q h = (brings (all_read_made desk unread body) tt).each q h

-- what is kept behind a step
pub step_kept : (desk : Desk) (unread : List Seen) (event : Event) (body : Body) (q : Record) → In q (machine_step desk unread event body).body.kept → HasIn q body ⊎ IsByHand desk.bridge (all_read desk unread body).body event q
step_kept desk unread event body q i =
    let one = (all_read desk unread body).body in
    let two = (event_did desk event one).body in
    elim ((event_brings desk event one).each q (announces_keep desk two q i)) [ inl before ↦ inl (read_has desk unread body q before) | inr hand ↦ inr hand ]

-- and what is held behind it
pub step_held : (desk : Desk) (unread : List Seen) (event : Event) (body : Body) (q : Record) → held (machine_step desk unread event body).body.outlet ≡ Some q → HasIn q body
step_held desk unread event body q is =
    let one = (all_read desk unread body).body in
    let two = (event_did desk event one).body in
    read_has desk unread body q ((event_brings desk event one).out q (announced_out (announces_made desk two) is))

-- where a level marks, the front record behind the step is the marked one
pub step_front : (desk : Desk) (unread : List Seen) (line : SegmentLine) (on : Bool) (body : Body) (id : ℕ) → failed_front desk.bridge line on (tells_level line on (all_read desk unread body).body).body ≡ Some id
    → is_kept id (tells_level line on (all_read desk unread body).body).body.kept ≡ true → MarksFront (all_read desk unread body).body id (machine_step desk unread (Level line on) body).body.kept
step_front desk unread line on body id is kept =
    let one = (all_read desk unread body).body in
    let two = (event_did desk (Level line on) one).body in
    let m : MarksFront one id two.kept = level_marks desk line on one id is kept in
    record { front = m.front; there = m.there; named = m.named; first = ap (λ (rs : List Record). slice_get rs 0) (announced_kept (announces_made desk two)) ∙ m.first }
