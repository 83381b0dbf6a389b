-- A machine that has nothing of any board, and is given none by hand: as it reads its events and
-- meets one, it tells nothing and has nothing.
use Rattle.std.proofs.Common.{
  ap,
  eq-eqb,
  false,
  inl,
  inr,
  is_some,
  refl,
  sym,
  true,
  Bool,
  List,
  None,
  Option,
  Some,
  [],
  ℕ,
  ◌&&◌,
  ◌++◌,
  ◌==◌,
  ◌||◌,
  ◌∙◌,
  ◌∷◌,
  ◌≡◌,
  ◌⊎◌,
}
use Rattle.std.proofs.lemmas.Bool.{false≢true, and_from}
use Rattle.line_base.specs.declared.states.Seen.{Seen}
use Rattle.line_base.specs.declared.states.SensorEvent.{SensorEvent}
use Rattle.line_base.specs.declared.states.Side.{Side}
use Rattle.line_base.specs.declared.states.Side.TheVariants.{Entry, Exit}
use Rattle.board_record.specs.declared.record.Record.{Record}
use Rattle.board_record.specs.declared.sensed.Sensed.{Sensed}
use Rattle.handover_out.specs.declared.act.OutAct.{OutAct}
use Rattle.handover_out.specs.declared.input.OutInput.TheVariants as out_input
use Rattle.handover_out.specs.Act.{nothing as out_nothing}
use Rattle.handover_out.specs.Row.{OutRow, last_by, outlet_row}
use Rattle.handover_out.specs.State.{OutState, held}
use Rattle.handover_out.specs.Table.{
  IsOutletRow,
  back_ended,
  back_idle,
  begun_ended,
  begun_idle,
  full_ended,
  full_idle,
  left_ended,
  left_idle,
  taken_ended,
  taken_idle,
}
use Rattle.handover_out.proofs.Rows.{row_is}
use Rattle.handover_in.specs.declared.act.InAct.{InAct}
use Rattle.handover_in.specs.declared.input.InInput.TheVariants as in_input
use Rattle.handover_in.specs.Act.{nothing as in_nothing}
use Rattle.handover_in.specs.Row.{InRow, intake_row}
use Rattle.handover_in.specs.State.{InState, held as in_held}
use Rattle.handover_in.specs.Table.{IsIntakeRow, sensed_idle}
use Rattle.handover_in.proofs.Rows.{row_is as in_row_is}
use Rattle.node_core.specs.Desk.{Desk}
use Rattle.node_core.specs.Done.{Done, and_then, behind, done, stays}
use Rattle.node_core.specs.Event.{Event, event_did}
use Rattle.node_core.specs.Halves.{given_back, intake_row_did, outlet_row_did, settled}
use Rattle.node_core.specs.Own.{Own, id_of, own_of}
use Rattle.node_core.specs.Reads.{all_read, saw}
use Rattle.node_core.specs.Supervising.{
  Answer,
  Ask,
  Supervise,
  Supervision,
  supervision_act,
  watch_after,
  with_tells,
}
use Rattle.node_core.specs.Told.{in_told, out_told}
use Rattle.node_core.specs.declared.act.Act.{Act}
use Rattle.node_core.specs.declared.act.Act.TheVariants as acts
use Rattle.node_core.specs.declared.lane.Body.{Body}
use Rattle.node_core.specs.declared.supervising.Watch.{Watch}
use Rattle.standings.specs.Marks.{has_id, is_held}
use Rattle.law_history.proofs.OfferingStep.{IsNoHand}
use Rattle.law_supervisor_replay.specs.Replay.{Told}
use Rattle.law_supervisor_replay.proofs.Bodies.{left_acts, told_acts}
use Rattle.law_supervisor_replay.proofs.Course.{
  Calm,
  Course,
  Hands,
  are_aside,
  aside_quiet,
  calm_asks,
  calm_goes,
  course_drops,
  course_end,
  course_on,
  course_opens,
  course_returns,
  course_settles,
  event_calm,
  event_meets,
  hands_calm,
  hands_get,
  hands_give,
  hands_insert,
  hands_remove,
  hands_replace,
  is_aside,
}
use Rattle.law_supervisor_replay.proofs.Meeting.{last_is}
use Rattle.law_supervisor_replay.proofs.Starting.{none_said}
use Rattle.law_supervisor_replay.proofs.Tells.{quiet_left, quiet_tells, quiet_told}

-- ---- nothing is had

abbrev pub HasNothing : Own → Type 0
HasNothing own =
    (x : ℕ) → (has_id x own.kept ≡ false)
    × ((is_held x own.held ≡ false) × (is_held x own.taking ≡ false))

is_itself : (id : ℕ) (rest : Bool) → ((id == id) || rest) ≡ true
is_itself id rest = ap (λ (b : Bool). b || rest) (eq-eqb id id refl)

no_first : {X : Type 0} (id : ℕ) (ids : List ℕ) → has_id id (id ∷ ids) ≡ false → X
no_first id ids none = absurd (false≢true (sym none ∙ is_itself id (has_id id ids)))

no_one : {X : Type 0} (id : ℕ) → is_held id (Some id) ≡ false → X
no_one id none = absurd (false≢true (sym none ∙ eq-eqb id id refl))

-- no record is held
none_held : (one : Option Record) → ((x : ℕ) → is_held x (id_of one) ≡ false) → is_some one ≡ false
none_held None none = refl
none_held (Some board) none = no_one board.id (none board.id)

-- ---- READING: there is no handover that an event could concern

idle_out : {s : OutState} {e : SensorEvent} {r : OutRow} → IsOutletRow s (out_input.Sensed e) r
    → is_some (held s) ≡ false → (r.act ≡ out_nothing) × (r.after ≡ s)
idle_out begun_idle none = (refl, refl)
idle_out begun_ended none = (refl, refl)
idle_out left_idle none = (refl, refl)
idle_out left_ended none = (refl, refl)
idle_out full_idle none = (refl, refl)
idle_out full_ended none = (refl, refl)
idle_out back_idle none = (refl, refl)
idle_out back_ended none = (refl, refl)
idle_out taken_idle none = (refl, refl)
idle_out taken_ended none = (refl, refl)
idle_out _ none = absurd (false≢true (sym none))

idle_in : {s : InState} {e : SensorEvent} {r : InRow} → IsIntakeRow s (in_input.Sensed e) r
    → is_some (in_held s) ≡ false → (r.act ≡ in_nothing) × (r.after ≡ s)
idle_in sensed_idle none = (refl, refl)
idle_in _ none = absurd (false≢true (sym none))

out_stays : (desk : Desk) (body : Body) (e : SensorEvent) (found : Option OutRow)
    → outlet_row body.outlet (out_input.Sensed e) ≡ found → is_some (held body.outlet) ≡ false
    → outlet_row_did desk body found ≡ stays body
out_stays desk body e None is none = refl
out_stays desk body e (Some r) is none =
    let idle = idle_out (row_is body.outlet (out_input.Sensed e) r is) none in
    ap (λ (act : OutAct). done
    (record body {
      outlet = r.after;
      kept = given_back act.back body.kept;
      last_offer = last_by act.send r.after.offered body.last_offer;
    })
    (out_told desk body.kept act)) idle.0
    ∙ ap (λ (s : OutState). done (record body { outlet = s }) []) idle.1

in_stays : (desk : Desk) (body : Body) (e : SensorEvent) (found : Option InRow)
    → intake_row body.intake (in_input.Sensed e) ≡ found → is_some (in_held body.intake) ≡ false
    → intake_row_did desk body found ≡ stays body
in_stays desk body e None is none = refl
in_stays desk body e (Some r) is none =
    let idle = idle_in (in_row_is body.intake (in_input.Sensed e) r is) none in
    ap (λ (act : InAct). done (record body { intake = r.after; kept = settled act.keep body.kept })
    (in_told desk act)) idle.0
    ∙ ap (λ (s : InState). done (record body { intake = s }) []) idle.1

saw_stays : (desk : Desk) (side : Side) (e : SensorEvent) (body : Body)
    → is_some (held body.outlet) ≡ false → is_some (in_held body.intake) ≡ false
    → saw desk side e body ≡ stays body
saw_stays desk Entry e body no_out no_in =
    in_stays desk body e (intake_row body.intake (in_input.Sensed e)) refl no_in
saw_stays desk Exit e body no_out no_in =
    out_stays desk body e (outlet_row body.outlet (out_input.Sensed e)) refl no_out

abbrev pub reading : List Sensed → List Act
reading [] = []
reading (sensed ∷ others) = acts.Reads sensed.side sensed.event ∷ reading others

pub read_nothing : (desk : Desk) (unread : List Sensed) (body : Body) → HasNothing (own_of body)
    → all_read desk unread body ≡ done body (reading unread)
read_nothing desk [] body none = refl
read_nothing desk (sensed ∷ others) body none =
    let no_out : is_some (held body.outlet) ≡ false =
    none_held (held body.outlet) (λ x. (none x).1.0) in
    let no_in : is_some (in_held body.intake) ≡ false =
    none_held (in_held body.intake) (λ x. (none x).1.1) in
    let act : Act = acts.Reads sensed.side sensed.event in
    ap (λ (d : Done). and_then (behind (act ∷ []) d) (all_read desk others))
    (saw_stays desk sensed.side sensed.event body no_out no_in)
    ∙ ap (λ (d : Done). behind (act ∷ []) d) (read_nothing desk others body none)

-- of which nothing is told
pub reading_tells : (desk : Desk) (watch : Watch) (unread : List Sensed)
    → with_tells desk watch (reading unread) ≡ reading unread
reading_tells desk watch [] = refl
reading_tells desk watch (sensed ∷ others) =
    let act : Act = acts.Reads sensed.side sensed.event in
    let next : Watch = watch_after watch act in
    ap (λ (xs : List Act). act ∷ (xs ++ with_tells desk next (reading others)))
    (none_said watch.supervised)
    ∙ ap (λ (xs : List Act). act ∷ xs) (reading_tells desk next others)

pub reading_told : (id machine : ℕ) (unread : List Sensed) (told : Told)
    → told_acts id machine (reading unread) told ≡ told
reading_told id machine [] told = refl
reading_told id machine (sensed ∷ others) told = reading_told id machine others told

pub reading_left : (gap id machine : ℕ) (unread : List Sensed) (left : Bool)
    → left_acts gap id machine (reading unread) left ≡ left
reading_left gap id machine [] left = refl
reading_left gap id machine (sensed ∷ others) left = reading_left gap id machine others left

-- ---- MEETING AN EVENT

-- acts of which nothing is told whatever the watch, and which say nothing
pub record Silent (made : List Act) : Type 0 where
  pub tells : (desk : Desk) (watch : Watch) → with_tells desk watch made ≡ made
  pub told : (id machine : ℕ) (told : Told) → told_acts id machine made told ≡ told
  pub left : (gap id machine : ℕ) (left : Bool) → left_acts gap id machine made left ≡ left

aside_silent : (made : List Act) → are_aside made ≡ true → Silent made
aside_silent made aside = record {
  tells = λ desk watch. quiet_tells desk watch made (aside_quiet made aside);
  told = λ id machine told. quiet_told id machine made told (aside_quiet made aside);
  left = λ gap id machine left. quiet_left gap id machine made left (aside_quiet made aside);
}

asks_silent : (asked : Desk) (what : Supervision) → Silent (supervision_act asked what ∷ [])
asks_silent asked (Supervise on) = record {
  tells = λ desk watch.
      ap (λ (xs : List Act). supervision_act asked (Supervise on) ∷ (xs ++ []))
      (none_said watch.supervised);
  told = λ id machine told. refl;
  left = λ gap id machine left. refl;
}
asks_silent asked (Ask question) = record {
  tells = λ desk watch.
      ap (λ (xs : List Act). supervision_act asked (Ask question) ∷ (xs ++ []))
      (none_said watch.supervised);
  told = λ id machine told. refl;
  left = λ gap id machine left. refl;
}
asks_silent asked (Answer query order) = record {
  tells = λ desk watch.
      ap (λ (xs : List Act). supervision_act asked (Answer query order) ∷ (xs ++ []))
      (none_said watch.supervised);
  told = λ id machine told. refl;
  left = λ gap id machine left. refl;
}

-- a course of acts from nothing moves nothing
course_nothing : {seen : Option Seen} {own end : Own} {made : List Act} → Course seen own made end
    → HasNothing own → (are_aside made ≡ true) × (end ≡ own)
course_nothing course_end none = (refl, refl)
course_nothing (course_on {act = act} {others = others} aside more) none =
    let rest = course_nothing more none in
    (and_from (is_aside act) (are_aside others) aside rest.0, rest.1)
course_nothing (course_opens {id = id} {ids = ids} more) none = no_first id ids (none id).0
course_nothing (course_returns {id = id} more) none = no_one id (none id).1.0
course_nothing (course_settles {id = id} more) none = no_one id (none id).1.1
course_nothing (course_drops {id = id} over more) none = no_one id (none id).1.1

calm_nothing : {seen : Option Seen} {own end : Own} {made : List Act} → Calm seen own made end
    → HasNothing own → Silent made × (end ≡ own)
calm_nothing {made = made} (calm_goes course) none =
    let both = course_nothing course none in (aside_silent made both.0, both.1)
calm_nothing (calm_asks desk what) none = (asks_silent desk what, refl)

-- nothing is kept behind it: so nothing came by hand
hands_nothing : {seen : Option Seen} {own end : Own} {made : List Act} → Hands seen own made end
    → HasNothing own → ((x : ℕ) → has_id x end.kept ≡ false) → Silent made × (end ≡ own)
hands_nothing (hands_calm calm) none unkept = calm_nothing calm none
hands_nothing (hands_insert {id = id} {ids = ids}) none unkept =
    absurd (false≢true (sym (unkept id) ∙ last_is id id ids (eq-eqb id id refl)))
hands_nothing (hands_remove {id = id} found) none unkept =
    absurd (false≢true (sym (none id).0 ∙ found))
hands_nothing (hands_give {id = id} found) none unkept =
    absurd (false≢true (sym (none id).0 ∙ found))
hands_nothing (hands_get {id = id} {ids = ids}) none unkept =
    absurd (false≢true (sym (unkept id) ∙ last_is id id ids (eq-eqb id id refl)))
hands_nothing (hands_replace {old = old} found) none unkept =
    absurd (false≢true (sym (none old).0 ∙ found))

pub met_nothing : (desk : Desk) (event : Event) (body : Body) → HasNothing (own_of body)
    → ((x : ℕ) → has_id x (own_of (event_did desk event body).body).kept ≡ false) ⊎ IsNoHand event
    → Silent (event_did desk event body).acts
    × (own_of (event_did desk event body).body ≡ own_of body)
met_nothing desk event body none (inl unkept) =
    hands_nothing (event_meets desk event body).hands none unkept
met_nothing desk event body none (inr plain) =
    calm_nothing (event_calm desk event body plain).calm none
