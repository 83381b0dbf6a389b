-- What a machine owns goes from place to place as the acts of an event say, of which none is of a
-- sensor: so nothing leaves the exit and nothing is lost there, nothing starts, and a board that
-- is dropped was dropped as its sensor had seen it before. So it is of each piece of
-- which the event is made.
use Rattle.std.proofs.Common.{
  ◌&&◌,
  subst,
  ◌≡◌,
  ◌∙◌,
  ◌++◌,
  ℕ,
  Bool,
  true,
  false,
  List,
  [],
  ◌∷◌,
  Option,
  Some,
  None,
  refl,
  sym,
  ap,
  append_assoc,
}
use Rattle.std.specs.Prelude.{slice_get}
use Rattle.std.specs.List.{list_all, list_any}
use Rattle.std.proofs.lemmas.Bool.{and_parts, or_from}
use Rattle.std.proofs.lemmas.List.Folds.{list_any-append}
use Rattle.line_base.specs.declared.states.Seen.{Seen}
use Rattle.line_base.specs.declared.states.Seen.TheVariants as sees
use Rattle.line_base.specs.declared.states.Side.{Side}
use Rattle.line_base.specs.declared.states.Side.TheVariants.{Entry, Exit}
use Rattle.line_base.specs.declared.states.Severity.TheVariants.{Fatal}
use Rattle.line_base.specs.declared.states.Transfer.{Transfer}
use Rattle.line_base.specs.declared.states.Transfer.TheVariants as said
use Rattle.board_record.specs.declared.record.Record.{Record}
use Rattle.board_record.specs.Record.{plain_record}
use Rattle.session_core.specs.End.{SessionEnd, at_rest}
use Rattle.session_core.specs.Input.{heard}
use Rattle.transfer_state.specs.declared.intake.InEnd.TheVariants.{Keep, Drop, Wait}
use Rattle.transfer_state.specs.Intake.{in_ends}
use Rattle.handover_out.specs.declared.input.OutInput.{OutInput}
use Rattle.handover_out.specs.declared.input.OutInput.TheVariants as out_input
use Rattle.handover_out.specs.State.{OutState, held, would_open}
use Rattle.handover_out.specs.Row.{OutRow}
use Rattle.handover_out.specs.Table.{
  IsOutletRow,
  opens as out_opens,
  refuses,
  stop_home,
  left_moving,
  left_stuck,
  left_stopped,
  left_unlinked,
  back_stuck,
  back_stopped,
  back_unlinked,
  taken_moving,
  taken_stuck,
  taken_stopped,
  taken_unlinked,
  fault_home,
  closed_home,
  offers,
  revokes,
}
use Rattle.handover_in.specs.declared.input.InInput.{InInput}
use Rattle.handover_in.specs.declared.input.InInput.TheVariants as in_input
use Rattle.handover_in.specs.declared.phase.Phase.{Phase as InPhase}
use Rattle.handover_in.specs.State.{InState, held as in_held, own_of_phase}
use Rattle.handover_in.specs.Row.{InRow, intake_row}
use Rattle.handover_in.specs.Table.{
  IsIntakeRow,
  starts_transport,
  running_drop,
  hears_keep,
  hears_drop,
  taking_begun,
  taking_back,
  full_heard,
  full_unheard,
  taken_heard,
  taken_unheard,
  stopped_event,
  stopped_keep,
  stopped_drop,
  stopped_wait,
  waiting_settles,
  waiting_inside,
  waiting_between,
  waiting_home,
  waiting_taken,
  closed_home as in_closed_home,
  closed_stopped_home,
  closed_stopped_gone,
  stands_settles,
  closed_between,
  closed_inside,
  closed_gone,
  gets_ready,
  gets_unready,
}
use Rattle.handover_in.proofs.Rows.{row_is as in_row_is}
use Rattle.node_core.specs.Desk.{Desk}
use Rattle.node_core.specs.declared.act.Act.{Act}
use Rattle.node_core.specs.declared.act.Act.TheVariants as acts
use Rattle.node_core.specs.declared.act.Setting.{Setting}
use Rattle.node_core.specs.declared.act.Deed.TheVariants as deeds
use Rattle.node_core.specs.declared.lane.Body.{Body}
use Rattle.node_core.specs.Done.{Done, done, stays, behind, and_then}
use Rattle.node_core.specs.Told.{out_told, in_told, sends, notification}
use Rattle.node_core.specs.Sides.{session_at, with_session}
use Rattle.node_core.specs.Halves.{
  given_back,
  settled,
  intake_row_did,
  opening_board,
  behind_opening,
}
use Rattle.node_core.specs.Boards.{without, with_instead, is_kept, if_kept, with_kept, with_changed}
use Rattle.node_core.specs.Announces.{
  revokes_now,
  revoke,
  unreadies_now,
  unready,
  offers_now,
  offer,
  readies_now,
  ready,
  starts_now,
  start_by,
  start,
  announces,
}
use Rattle.node_core.specs.Event.{Event, Gets, Gives, Insert, Remove, Replace, event_did, Supervised}
use Rattle.node_core.specs.Supervising.{Supervision, supervision_act}
use Rattle.node_core.specs.Own.{with_id_instead, without_id, Own, own_by, own_of, ids_of, id_of}
use Rattle.node_core.proofs.KeptIds.{ids_behind, ids_changed, ids_instead, ids_without}
use Rattle.smema_bridge.specs.declared.line.SegmentLine.TheVariants.{Ready}
use Rattle.standings.specs.Marks.{has_id}
use Rattle.law_one_standing.proofs.LedgerWalk.{
  is_silent,
  kept_ids,
  own_parts,
  silent_by,
}
use Rattle.law_history.proofs.OfferingStep.{IsNoHand}
use Rattle.law_history.proofs.Stepping.{IsJustStarted}
use Rattle.law_supervisor_replay.proofs.Tells.{PassesNoQuiet, is_quiet, none_quiet}
use Rattle.step_rules.specs.Causes.{
  Announcing,
  ByHand,
  Cause,
  Hearing,
  Meeting,
  Reading,
  SetsWill,
  Tells as TellsAct,
  ToIntake,
  ToOutlet,
  hand_gets,
  hand_gives,
  hand_inserts,
  hand_removes,
  hand_replaces,
  in_closed,
  in_ready,
  in_sensed,
  in_stand,
  in_start,
  in_unready,
  out_closed,
  out_offer,
  out_revoke,
  out_sensed,
  tells_alive,
  tells_answer,
  tells_notice,
  tells_question,
  tells_reading,
  tells_service,
  tells_supervise,
  will_available,
  will_itself,
  will_ready,
  Changes,
  changes_quality,
  hand_changes,
}
use Rattle.step_rules.specs.Made.{
  Made,
  made_act,
  made_both,
  made_breach,
  made_by_hand,
  made_close,
  made_intake,
  made_none,
  made_notice,
  made_outlet,
  made_passed,
  made_row,
  made_start,
  made_will,
  made_word,
}
use Rattle.step_rules.proofs.Steps.{event_made, offer_made, ready_made, revoke_made, unready_made}
use Rattle.step_rules.proofs.Changing.{changes_leave}

-- ---- acts that move no record, and of which nothing is told

abbrev pub is_aside : Act → Bool
is_aside act = is_silent act && is_quiet act

abbrev pub are_aside : List Act → Bool
are_aside [] = true
are_aside (act ∷ others) = is_aside act && are_aside others

pub both_aside : (first rest : List Act) → are_aside first ≡ true → are_aside rest ≡ true
    → are_aside (first ++ rest) ≡ true
both_aside [] rest one other = other
both_aside (act ∷ first) rest one other =
    silent_by (is_aside act) (are_aside first) (are_aside (first ++ rest)) one (λ is.
    both_aside first rest is other)

pub aside_quiet : (told : List Act) → are_aside told ≡ true → list_all is_quiet told ≡ true
aside_quiet [] is = refl
aside_quiet (act ∷ others) is =
    let one : (is_silent act && is_quiet act) ≡ true =
    (and_parts (is_aside act) (are_aside others) is).0 in
    both_true (is_quiet act) (list_all is_quiet others)
    (and_parts (is_silent act) (is_quiet act) one).1
    (aside_quiet others (and_parts (is_aside act) (are_aside others) is).1) where
      both_true : (a b : Bool) → a ≡ true → b ≡ true → (a && b) ≡ true
      both_true true b one two = two
      both_true false b one two = one

-- ---- the deeds of an event, where the sensor of the entry has seen this of the board

-- a board that is dropped then is upstream or was taken out
abbrev pub IsOver : Option Seen → Type 0
IsOver (Some sees.NotStarted) = Unit {0}
IsOver (Some sees.Taken) = Unit {0}
IsOver _ = ⊥

pub data Course (seen : Option Seen) : Own → List Act → Own → Type 0 where
  course_end : {own : Own} → Course seen own [] own
  course_on : {own end : Own} {act : Act} {others : List Act} → is_aside act ≡ true
      → Course seen own others end → Course seen own (act ∷ others) end
  course_opens : {id : ℕ} {ids : List ℕ} {taking : Option ℕ} {others : List Act} {end : Own}
      → Course seen (own_parts ids (Some id) taking) others end
      → Course seen (own_parts (id ∷ ids) None taking) (acts.Deed (deeds.Opens id) ∷ others) end
  course_returns : {id : ℕ} {ids : List ℕ} {taking : Option ℕ} {others : List Act} {end : Own}
      → Course seen (own_parts (id ∷ ids) None taking) others end
      → Course seen (own_parts ids (Some id) taking) (acts.Deed (deeds.Returns id) ∷ others) end
  course_settles : {id : ℕ} {ids : List ℕ} {held : Option ℕ} {others : List Act} {end : Own}
      → Course seen (own_parts (ids ++ id ∷ []) held None) others end
      → Course seen (own_parts ids held (Some id)) (acts.Deed (deeds.Settles id) ∷ others) end
  course_drops : {id : ℕ} {ids : List ℕ} {held : Option ℕ} {others : List Act} {end : Own}
      → IsOver seen → Course seen (own_parts ids held None) others end
      → Course seen (own_parts ids held (Some id)) (acts.Deed (deeds.Drops id) ∷ others) end

-- or the supervisor says or is asked something
pub data Calm (seen : Option Seen) : Own → List Act → Own → Type 0 where
  calm_goes : {own end : Own} {told : List Act} → Course seen own told end → Calm seen own told end
  calm_asks : {own : Own} (desk : Desk) (what : Supervision)
      → Calm seen own (supervision_act desk what ∷ []) own

-- by hand a board is put in, taken out or replaced, goes to another lane or comes from one; anything else is calm
pub data Hands (seen : Option Seen) : Own → List Act → Own → Type 0 where
  hands_calm : {own end : Own} {told : List Act} → Calm seen own told end → Hands seen own told end
  hands_insert : {id : ℕ} {ids : List ℕ} {held taking : Option ℕ}
      → Hands seen (own_parts ids held taking) (acts.Inserts id ∷ [])
      (own_parts (ids ++ id ∷ []) held taking)
  hands_remove : {id : ℕ} {ids : List ℕ} {held taking : Option ℕ} → has_id id ids ≡ true
      → Hands seen (own_parts ids held taking) (acts.Removes id ∷ [])
      (own_parts (without_id id ids) held taking)
  hands_give : {id to : ℕ} {ids : List ℕ} {held taking : Option ℕ} → has_id id ids ≡ true
      → Hands seen (own_parts ids held taking) (acts.Gives id to ∷ [])
      (own_parts (without_id id ids) held taking)
  hands_get : {id : ℕ} {ids : List ℕ} {held taking : Option ℕ}
      → Hands seen (own_parts ids held taking) (acts.Gets id ∷ [])
      (own_parts (ids ++ id ∷ []) held taking)
  hands_replace : {old new : ℕ} {ids : List ℕ} {held taking : Option ℕ} → has_id old ids ≡ true
      → Hands seen (own_parts ids held taking) (acts.Replaces old new ∷ [])
      (own_parts (with_id_instead old new ids) held taking)

pub course_quiet : (seen : Option Seen) (own : Own) (told : List Act) → are_aside told ≡ true
    → Course seen own told own
course_quiet seen own [] quiet = course_end
course_quiet seen own (act ∷ others) quiet =
    course_on (and_parts (is_aside act) (are_aside others) quiet).0
    (course_quiet seen own others (and_parts (is_aside act) (are_aside others) quiet).1)

pub course_none : {p : Act → Bool} {seen : Option Seen} {own end : Own} {made : List Act}
    → PassesNoQuiet p → Course seen own made end → list_any p made ≡ false
course_none none course_end = refl
course_none {p} none (course_on {act = act} {others = others} aside more) =
    or_from (p act) (list_any p others)
    (none.quiet act (and_parts (is_silent act) (is_quiet act) aside).1) (course_none none more)
course_none {p} none (course_opens {id = id} more) =
    or_from (p (acts.Deed (deeds.Opens id))) _ (none.quiet _ refl) (course_none none more)
course_none {p} none (course_returns {id = id} more) =
    or_from (p (acts.Deed (deeds.Returns id))) _ (none.quiet _ refl) (course_none none more)
course_none {p} none (course_settles {id = id} more) =
    or_from (p (acts.Deed (deeds.Settles id))) _ (none.settles id) (course_none none more)
course_none {p} none (course_drops {id = id} over more) =
    or_from (p (acts.Deed (deeds.Drops id))) _ (none.drops id) (course_none none more)

course_append : {seen : Option Seen} {own one end : Own} {told others : List Act}
    → Course seen own told one → Course seen one others end → Course seen own (told ++ others) end
course_append course_end next = next
course_append (course_on quiet more) next = course_on quiet (course_append more next)
course_append (course_opens more) next = course_opens (course_append more next)
course_append (course_returns more) next = course_returns (course_append more next)
course_append (course_settles more) next = course_settles (course_append more next)
course_append (course_drops over more) next = course_drops over (course_append more next)

-- ---- what the sensor saw stays, or there is no board any more of which it was seen

pub data IsSeen (a : Option Seen) : Option Seen → Type 0 where
  seen_same : IsSeen a a
  seen_none : IsSeen a None

seen_both : {a b c : Option Seen} → IsSeen a b → IsSeen b c → IsSeen a c
seen_both seen_same next = next
seen_both seen_none seen_same = seen_none
seen_both seen_none seen_none = seen_none

-- nothing is dropped of which nothing was seen
course_any : {a : Option Seen} {own end : Own} {told : List Act} → Course None own told end
    → Course a own told end
course_any course_end = course_end
course_any (course_on quiet more) = course_on quiet (course_any more)
course_any (course_opens more) = course_opens (course_any more)
course_any (course_returns more) = course_returns (course_any more)
course_any (course_settles more) = course_settles (course_any more)
course_any (course_drops over more) = absurd over

course_before : {a b : Option Seen} {own end : Own} {told : List Act} → IsSeen a b
    → Course b own told end → Course a own told end
course_before seen_same course = course
course_before seen_none course = course_any course

pub record Turn (a b : Option Seen) (own : Own) (told : List Act) (end : Own) : Type 0 where
  pub course : Course a own told end
  pub keeps : IsSeen a b

turn_quiet : (a : Option Seen) (own : Own) (told : List Act) → are_aside told ≡ true
    → Turn a a own told own
turn_quiet a own told quiet = record { course = course_quiet a own told quiet; keeps = seen_same }

turn_both : {a b c : Option Seen} {own one end : Own} {told others : List Act}
    → Turn a b own told one → Turn b c one others end → Turn a c own (told ++ others) end
turn_both first next =
    record {
      course = course_append first.course (course_before first.keeps next.course);
      keeps = seen_both first.keeps next.keeps;
    }

-- ---- a micro event, and what is composed of them

abbrev pub seen_of : Body → Option Seen
seen_of body = own_of_phase body.intake.phase

record Goes (body : Body) (d : Done) : Type 0 where
  turn : Turn (seen_of body) (seen_of d.body) (own_of body) d.acts (own_of d.body)

goes_told : (body : Body) (told : List Act) → are_aside told ≡ true → Goes body (done body told)
goes_told body told quiet = record { turn = turn_quiet (seen_of body) (own_of body) told quiet }

goes_still : (body : Body) → Goes body (stays body)
goes_still body = goes_told body [] refl

goes_behind : (body : Body) (told : List Act) → are_aside told ≡ true → (d : Done) → Goes body d
    → Goes body (behind told d)
goes_behind body told quiet d k =
    record { turn = turn_both (turn_quiet (seen_of body) (own_of body) told quiet) k.turn }

-- a session changes first
goes_session : (side : Side) (s : SessionEnd) (body : Body) (d : Done)
    → Goes (with_session side s body) d → Goes body d
goes_session Entry s body d k = record { turn = k.turn }
goes_session Exit s body d k = record { turn = k.turn }

-- ---- the halves: a row that moves a record does so from where it is

-- inputs of an event: neither an offer nor a start, nor what a sensor tells
abbrev pub IsMetOut : OutInput → Type 0
IsMetOut (out_input.Offer _) = ⊥
IsMetOut (out_input.Start _ _) = ⊥
IsMetOut (out_input.Sensed _) = ⊥
IsMetOut _ = Unit {0}

abbrev pub IsMetIn : InInput → Type 0
IsMetIn in_input.Start = ⊥
IsMetIn (in_input.Sensed _) = ⊥
IsMetIn _ = Unit {0}

row_goes : {a : Option Seen} (desk : Desk)
    (intake : InState) {s : OutState} {input : OutInput} {r : OutRow} (kept : List Record)
    → IsOutletRow s input r → IsMetOut input
    → Course a (own_by kept s intake) (out_told desk kept r.act)
    (own_by (given_back r.act.back kept) r.after intake)
row_goes desk intake kept offers plain = absurd plain
row_goes desk intake kept (out_opens _) plain = absurd plain
row_goes desk intake kept (refuses _) plain = absurd plain
row_goes desk intake kept (stop_home _) plain = course_returns (course_quiet _ _ _ refl)
row_goes desk intake kept left_moving plain = absurd plain
row_goes desk intake kept left_stuck plain = absurd plain
row_goes desk intake kept left_stopped plain = absurd plain
row_goes desk intake kept left_unlinked plain = absurd plain
row_goes desk intake kept back_stuck plain = absurd plain
row_goes desk intake kept back_stopped plain = absurd plain
row_goes desk intake kept back_unlinked plain = absurd plain
row_goes desk intake kept taken_moving plain = absurd plain
row_goes desk intake kept taken_stuck plain = absurd plain
row_goes desk intake kept taken_stopped plain = absurd plain
row_goes desk intake kept taken_unlinked plain = absurd plain
row_goes desk intake kept fault_home plain = course_returns (course_quiet _ _ _ refl)
row_goes desk intake kept closed_home plain = course_returns (course_quiet _ _ _ refl)
row_goes desk intake kept _ plain = course_quiet _ _ _ refl

start_goes : {a : Option Seen} (desk : Desk)
    (intake : InState) {s : OutState} {named : ℕ} {r : OutRow} (opening : Bool)
    (kept : List Record) → IsOutletRow s (out_input.Start named (opening_board opening kept)) r
    → Course a (own_by kept s intake) (out_told desk (behind_opening opening kept) r.act)
    (own_by (given_back r.act.back (behind_opening opening kept)) r.after intake)
start_goes desk intake false kept (refuses _) = course_quiet _ _ _ refl
start_goes desk intake true [] (refuses _) = course_quiet _ _ _ refl
start_goes desk intake true (b ∷ bs) (out_opens _) = course_opens (course_quiet _ _ _ refl)

-- of a board that is settled
settled_turn : {a : Option Seen} {told : List Act} (kept : List Record) (board : Record)
    (held : Option ℕ) → are_aside told ≡ true
    → Turn a None (own_parts (ids_of kept) held (Some board.id))
    (acts.Deed (deeds.Settles board.id) ∷ told)
    (own_parts (ids_of (kept ++ board ∷ [])) held None)
settled_turn {a = a} {told = told} kept board held quiet = record {
  course = course_settles
      (subst (λ (ids : List ℕ). Course a (own_parts (ids_of kept ++ board.id ∷ []) held None) told
      (own_parts ids held None)) (ids_behind kept board) (course_quiet a _ told quiet));
  keeps = seen_none;
}

-- of one that is dropped
dropped_turn : {a : Option Seen} {told : List Act} {id : ℕ} {ids : List ℕ} {held : Option ℕ}
    → IsOver a → are_aside told ≡ true
    → Turn a None (own_parts ids held (Some id)) (acts.Deed (deeds.Drops id) ∷ told)
    (own_parts ids held None)
dropped_turn {a = a} {told = told} over quiet =
    record { course = course_drops over (course_quiet a _ told quiet); keeps = seen_none }

drop_over : (own : Seen) (n : Transfer) → in_ends own n ≡ Drop → IsOver (Some own)
drop_over sees.NotStarted n is = tt
drop_over sees.Taken n is = tt
drop_over sees.Incomplete n is = absurd (let h : Wait ≡ Drop = is in cc)
drop_over sees.Complete said.NotStarted is = absurd (let h : Wait ≡ Drop = is in cc)
drop_over sees.Complete said.Incomplete is = absurd (let h : Keep ≡ Drop = is in cc)
drop_over sees.Complete said.Complete is = absurd (let h : Keep ≡ Drop = is in cc)

in_row_goes : (desk : Desk) (outlet : OutState) {s : InState} {input : InInput} {r : InRow}
    (kept : List Record) → IsIntakeRow s input r → IsMetIn input
    → Turn (own_of_phase s.phase) (own_of_phase r.after.phase) (own_by kept outlet s)
    (in_told desk r.act) (own_by (settled r.act.keep kept) outlet r.after)
in_row_goes desk outlet kept starts_transport plain = absurd plain
in_row_goes desk outlet kept (running_drop {own = own} {n = n} _ _ drop) plain =
    dropped_turn (drop_over own n drop) refl
in_row_goes desk outlet kept (hears_keep {board = b} _ _) plain =
    settled_turn kept b (id_of (held outlet)) refl
in_row_goes desk outlet kept (hears_drop {own = own} {n = n} _ drop) plain =
    dropped_turn (drop_over own n drop) refl
in_row_goes desk outlet kept taking_begun plain = absurd plain
in_row_goes desk outlet kept taking_back plain = absurd plain
in_row_goes desk outlet kept full_heard plain = absurd plain
in_row_goes desk outlet kept full_unheard plain = absurd plain
in_row_goes desk outlet kept taken_heard plain = absurd plain
in_row_goes desk outlet kept taken_unheard plain = absurd plain
in_row_goes desk outlet kept stopped_event plain = absurd plain
in_row_goes desk outlet kept (stopped_keep _ _) plain = absurd plain
in_row_goes desk outlet kept (stopped_drop _ _) plain = absurd plain
in_row_goes desk outlet kept (stopped_wait _ _) plain = absurd plain
in_row_goes desk outlet kept (waiting_settles _ _) plain = absurd plain
in_row_goes desk outlet kept (waiting_inside _ _) plain = absurd plain
in_row_goes desk outlet kept (waiting_between _ _) plain = absurd plain
in_row_goes desk outlet kept (waiting_home _ _) plain = absurd plain
in_row_goes desk outlet kept (waiting_taken _ _) plain = absurd plain
in_row_goes desk outlet kept in_closed_home plain = dropped_turn tt refl
in_row_goes desk outlet kept closed_stopped_home plain = dropped_turn tt refl
in_row_goes desk outlet kept closed_stopped_gone plain = dropped_turn tt refl
in_row_goes desk outlet kept (stands_settles {board = b}) plain =
    settled_turn kept b (id_of (held outlet)) refl
in_row_goes desk outlet kept (closed_between {heard = true}) plain = turn_quiet _ _ _ refl
in_row_goes desk outlet kept (closed_between {heard = false}) plain = turn_quiet _ _ _ refl
in_row_goes desk outlet kept (closed_inside {heard = true}) plain = turn_quiet _ _ _ refl
in_row_goes desk outlet kept (closed_inside {heard = false}) plain = turn_quiet _ _ _ refl
in_row_goes desk outlet kept (closed_gone {heard = true}) plain = turn_quiet _ _ _ refl
in_row_goes desk outlet kept (closed_gone {heard = false}) plain = turn_quiet _ _ _ refl
in_row_goes desk outlet kept _ plain = turn_quiet _ _ _ refl

-- ---- by hand

-- what becomes of a machine as it meets an event
pub record Meets (body : Body) (d : Done) : Type 0 where
  pub hands : Hands (seen_of body) (own_of body) d.acts (own_of d.body)
  pub keeps : IsSeen (seen_of body) (seen_of d.body)

pub record Calms (body : Body) (d : Done) : Type 0 where
  pub calm : Calm (seen_of body) (own_of body) d.acts (own_of d.body)
  pub keeps : IsSeen (seen_of body) (seen_of d.body)

calm_course : {body : Body} {d : Done} → Goes body d → Calms body d
calm_course g = record { calm = calm_goes g.turn.course; keeps = g.turn.keeps }

meets_calm : {body : Body} {d : Done} → Calms body d → Meets body d
meets_calm c = record { hands = hands_calm c.calm; keeps = c.keeps }

hands_kept : {a : Option Seen} {own : Own} {told : List Act} {ids : List ℕ} (kept : List Record)
    (mine taking : Option ℕ) → ids ≡ ids_of kept → Hands a own told (own_parts ids mine taking)
    → Hands a own told (own_parts (ids_of kept) mine taking)
hands_kept {a = a} {own = own} {told = told} kept mine taking same h =
    subst (λ (ids : List ℕ). Hands a own told (own_parts ids mine taking)) same h

inserts_meets : (id : ℕ) (desk : Desk) (barcode : Option (List ℕ)) (body : Body)
    → Meets body (done (record body { kept = body.kept ++ plain_record id desk.name barcode ∷ [] })
    (acts.Inserts id ∷ []))
inserts_meets id desk barcode body =
    let board : Record = plain_record id desk.name barcode in record {
      hands = hands_kept (body.kept ++ board ∷ []) (id_of (held body.outlet))
          (id_of (in_held body.intake)) (ids_behind body.kept board) hands_insert;
      keeps = seen_same;
    }

removes_by : (id : ℕ) (body : Body) (test : Bool) → is_kept id body.kept ≡ test
    → Meets body (if_kept test (record body { kept = without id body.kept })
    (acts.Removes id) body)
removes_by id body true is = record {
  hands = hands_kept (without id body.kept) (id_of (held body.outlet))
      (id_of (in_held body.intake)) (ids_without id body.kept)
      (hands_remove (sym (kept_ids id body.kept) ∙ is));
  keeps = seen_same;
}
removes_by id body false is = meets_calm (calm_course (goes_still body))

gives_by : (id to : ℕ) (body : Body) (test : Bool) → is_kept id body.kept ≡ test
    → Meets body (if_kept test (record body { kept = without id body.kept })
    (acts.Gives id to) body)
gives_by id to body true is = record {
  hands = hands_kept (without id body.kept) (id_of (held body.outlet))
      (id_of (in_held body.intake)) (ids_without id body.kept)
      (hands_give (sym (kept_ids id body.kept) ∙ is));
  keeps = seen_same;
}
gives_by id to body false is = meets_calm (calm_course (goes_still body))

gets_meets : (board : Record) (body : Body)
    → Meets body (done (record body { kept = body.kept ++ board ∷ [] }) (acts.Gets board.id ∷ []))
gets_meets board body = record {
  hands = hands_kept (body.kept ++ board ∷ []) (id_of (held body.outlet))
      (id_of (in_held body.intake)) (ids_behind body.kept board) hands_get;
  keeps = seen_same;
}

replaces_by : (desk : Desk) (old new : ℕ) (body : Body) (test : Bool)
    → is_kept old body.kept ≡ test
    → Meets body
    (if_kept test
    (record body { kept = with_instead old (plain_record new desk.name None) body.kept })
    (acts.Replaces old new) body)
replaces_by desk old new body true is =
    let board : Record = plain_record new desk.name None in record {
      hands = hands_kept (with_instead old board body.kept) (id_of (held body.outlet))
          (id_of (in_held body.intake)) (ids_instead old board body.kept)
          (hands_replace (sym (kept_ids old body.kept) ∙ is));
      keeps = seen_same;
    }
replaces_by desk old new body false is = meets_calm (calm_course (goes_still body))

-- ---- the pieces of an event, but by hand

abbrev IsMet : Cause → Type 0
IsMet Reading = ⊥
IsMet (Hearing side word) = Unit {0}
IsMet (Announcing starting) = ⊥
IsMet (Meeting (Insert id barcode)) = ⊥
IsMet (Meeting (Remove id)) = ⊥
IsMet (Meeting (Replace old new)) = ⊥
IsMet (Meeting (Gives id to)) = ⊥
IsMet (Meeting (Gets board)) = ⊥
IsMet (Meeting (Supervised what)) = ⊥
IsMet (Meeting event) = Unit {0}

met_out : {cause : Cause} {body : Body} {input : OutInput} → ToOutlet cause body input
    → IsMet cause → IsMetOut input
met_out out_sensed met = absurd met
met_out (out_offer now is) met = absurd met
met_out _ met = tt

met_in : {desk : Desk} {cause : Cause} {body : Body} {input : InInput}
    → ToIntake desk cause body input → IsMet cause → IsMetIn input
met_in in_sensed met = absurd met
met_in (in_start now) met = absurd met
met_in _ met = tt

act_aside : {desk : Desk} {cause : Cause} {body : Body} {act : Act}
    → TellsAct desk cause body act → IsMet cause → are_aside (act ∷ []) ≡ true
act_aside tells_reading met = absurd met
act_aside tells_supervise met = absurd met
act_aside tells_question met = absurd met
act_aside tells_answer met = absurd met
act_aside _ met = refl

set_aside : {event : Event} {side : Side} {on : Bool} {setting : Setting}
    → SetsWill event side on setting → are_aside (acts.Sets setting ∷ []) ≡ true
set_aside will_itself = refl
set_aside will_ready = refl
set_aside will_available = refl

changes_aside : {desk : Desk} {event : Event} {body : Body} {id : ℕ}
    {change : Record → Record} {act : Act} → Changes desk event body id change act
    → is_aside act ≡ true
changes_aside (changes_quality is) = refl
changes_aside _ = refl

changes_goes : {desk : Desk} {event : Event} {id : ℕ} {change : Record → Record} {act : Act}
    (body : Body) → Changes desk event body id change act
    → Goes body (done (with_kept (with_changed id change body.kept) body) (act ∷ []))
changes_goes {id = id} {change = change} {act = act} body deed = record {
  turn = record {
    course = subst
        (λ (ids : List ℕ). Course (seen_of body) (own_of body) (act ∷ [])
        (own_parts ids (id_of (held body.outlet)) (id_of (in_held body.intake))))
        (ids_changed id change body.kept (changes_leave deed))
        (course_on (changes_aside deed) course_end);
    keeps = seen_same;
  };
}

hand_goes : {desk : Desk} {event : Event} {body : Body} {kept : List Record} {act : Act}
    → ByHand desk event body kept act → IsMet (Meeting event)
    → Goes body (done (with_kept kept body) (act ∷ []))
hand_goes hand_inserts met = absurd met
hand_goes (hand_removes is) met = absurd met
hand_goes (hand_replaces is) met = absurd met
hand_goes (hand_gives is) met = absurd met
hand_goes hand_gets met = absurd met
hand_goes (hand_changes {body = body} deed) met = changes_goes body deed

goes : {desk : Desk} {cause : Cause} {body : Body} {d : Done} → Made desk cause body d
    → IsMet cause → Goes body d
goes {body = body} made_none met = goes_still body
goes (made_both one two) met = record { turn = turn_both (goes one met).turn (goes two met).turn }
goes (made_word is on made) met = goes made tt
goes {body = body} (made_act {act = act} tells) met =
    goes_told body (act ∷ []) (act_aside tells met)
goes (made_row {side = side} {row = row} {body = body} to shape made) met =
    goes_session side row.after body _ (goes made met)
goes (made_passed {side = side} {row = row} {body = body} shape first on made) met =
    goes_session side row.after body _ (goes made met)
goes {body = body} (made_close {side = side} talk made) met =
    goes_behind body (acts.Closes side ∷ []) refl _ (goes made met)
goes (made_notice {side = side} {body = body} on made) met =
    goes_behind body (acts.Notices side ∷ []) refl _
    (goes_session side (at_rest (session_at side body).role) body _ (goes made met))
goes {desk = desk} (made_breach {side = side} {text = text} {body = body} made) met =
    goes_behind body (acts.Breaches side text ∷ (sends desk side (notification 1 Fatal text)
    ++ acts.Closes side ∷ [])) refl _
    (goes_session side (at_rest (session_at side body).role) body _ (goes made met))
goes {desk = desk} (made_start {id = id} {body = body} says on shape) met = record {
  turn = record {
    course = start_goes desk body.intake (would_open body.outlet id) body.kept shape;
    keeps = seen_same;
  };
}
goes {desk = desk} (made_outlet {body = body} to shape) met = record {
  turn = record {
    course = row_goes desk body.intake body.kept shape (met_out to met);
    keeps = seen_same;
  };
}
goes {desk = desk} (made_intake {body = body} to shape) met =
    record { turn = in_row_goes desk body.outlet body.kept shape (met_in to met) }
goes (made_by_hand hand) met = hand_goes hand met
goes (made_will {side = Entry} {setting = setting} {body = body} sets) met =
    record {
      turn = turn_quiet (seen_of body) (own_of body) (acts.Sets setting ∷ []) (set_aside sets);
    }
goes (made_will {side = Exit} {setting = setting} {body = body} sets) met =
    record {
      turn = turn_quiet (seen_of body) (own_of body) (acts.Sets setting ∷ []) (set_aside sets);
    }

-- ---- THE EVENT

-- that is no change by hand
pub event_calm : (desk : Desk) (event : Event) (body : Body) → IsNoHand event
    → Calms body (event_did desk event body)
event_calm desk (Supervised what) body plain =
    record { calm = calm_asks desk what; keeps = seen_same }
event_calm desk (Insert id barcode) body plain = absurd plain
event_calm desk (Remove id) body plain = absurd plain
event_calm desk (Replace old new) body plain = absurd plain
event_calm desk (Gives id to) body plain = absurd plain
event_calm desk (Gets board) body plain = absurd plain
event_calm desk event body plain = calm_course (goes (event_made desk event body) tt)

pub event_meets : (desk : Desk) (event : Event) (body : Body)
    → Meets body (event_did desk event body)
event_meets desk (Insert id barcode) body = inserts_meets id desk barcode body
event_meets desk (Remove id) body = removes_by id body (is_kept id body.kept) refl
event_meets desk (Gives id to) body = gives_by id to body (is_kept id body.kept) refl
event_meets desk (Gets board) body = gets_meets board body
event_meets desk (Replace old new) body =
    replaces_by desk old new body (is_kept old body.kept) refl
event_meets desk (Supervised what) body = meets_calm (event_calm desk (Supervised what) body tt)
event_meets desk event body = meets_calm (calm_course (goes (event_made desk event body) tt))

-- ---- the announcements: the last one may be a start

record Quiet (body : Body) (d : Done) : Type 0 where
  quiet : are_aside d.acts ≡ true
  same : own_of d.body ≡ own_of body
  seen : seen_of d.body ≡ seen_of body

quiet_still : (body : Body) → Quiet body (stays body)
quiet_still body = record { quiet = refl; same = refl; seen = refl }

revoke_quiet_row : (desk : Desk) (intake : InState) {s : OutState} {r : OutRow}
    (kept : List Record) → IsOutletRow s out_input.Revoke r
    → (are_aside (out_told desk kept r.act) ≡ true)
    × (own_by (given_back r.act.back kept) r.after intake ≡ own_by kept s intake)
revoke_quiet_row desk intake kept revokes = (refl, refl)

offer_quiet_row : (desk : Desk) (intake : InState) {s : OutState} {id : ℕ} {r : OutRow}
    (kept : List Record) → IsOutletRow s (out_input.Offer id) r
    → (are_aside (out_told desk kept r.act) ≡ true)
    × (own_by (given_back r.act.back kept) r.after intake ≡ own_by kept s intake)
offer_quiet_row desk intake [] offers = (refl, refl)
offer_quiet_row desk intake (b ∷ bs) offers = (refl, refl)

ready_quiet_row : (desk : Desk) (outlet : OutState) {s : InState} {r : InRow} (kept : List Record)
    → IsIntakeRow s in_input.Ready r → (are_aside (in_told desk r.act) ≡ true)
    × ((own_by (settled r.act.keep kept) outlet r.after ≡ own_by kept outlet s)
    × (own_of_phase r.after.phase ≡ own_of_phase s.phase))
ready_quiet_row desk outlet kept gets_ready = (refl, (refl, refl))

unready_quiet_row : (desk : Desk) (outlet : OutState) {s : InState} {r : InRow}
    (kept : List Record) → IsIntakeRow s in_input.Unready r
    → (are_aside (in_told desk r.act) ≡ true)
    × ((own_by (settled r.act.keep kept) outlet r.after ≡ own_by kept outlet s)
    × (own_of_phase r.after.phase ≡ own_of_phase s.phase))
unready_quiet_row desk outlet kept gets_unready = (refl, (refl, refl))

-- all but a start
quiet_by : {desk : Desk} {body : Body} {d : Done} → Made desk (Announcing false) body d
    → Quiet body d
quiet_by {body = body} made_none = quiet_still body
quiet_by (made_both {one = one} {two = two} first next) =
    let a = quiet_by first in
    let b = quiet_by next in record {
      quiet = both_aside one.acts two.acts a.quiet b.quiet;
      same = b.same ∙ a.same;
      seen = b.seen ∙ a.seen;
    }
quiet_by (made_act (tells_service talk)) = absurd talk
quiet_by (made_act (tells_alive talk)) = absurd talk
quiet_by (made_act (tells_notice talk)) = absurd talk
quiet_by (made_row to shape made) = elim to [ ]
quiet_by (made_close talk made) = absurd talk
quiet_by (made_outlet (out_closed talk) shape) = absurd talk
quiet_by {desk = desk} (made_outlet {body = body} (out_revoke now) shape) =
    let two = revoke_quiet_row desk body.intake body.kept shape in
    record { quiet = two.0; same = two.1; seen = refl }
quiet_by {desk = desk} (made_outlet {body = body} (out_offer now is) shape) =
    let two = offer_quiet_row desk body.intake body.kept shape in
    record { quiet = two.0; same = two.1; seen = refl }
quiet_by (made_intake (in_closed talk) shape) = absurd talk
quiet_by (made_intake (in_stand talk) shape) = absurd talk
quiet_by {desk = desk} (made_intake {body = body} (in_unready now) shape) =
    let three = unready_quiet_row desk body.outlet body.kept shape in
    record { quiet = three.0; same = three.1.0; seen = three.1.1 }
quiet_by {desk = desk} (made_intake {body = body} (in_ready now) shape) =
    let three = ready_quiet_row desk body.outlet body.kept shape in
    record { quiet = three.0; same = three.1.0; seen = three.1.1 }

-- a transport starts, of which nothing was seen before
pub record Started (own end : Own) (was : Option Seen) (i : InPhase)
    (made : List Act) : Type 0 where
  pub id : ℕ
  pub kept : end.kept ≡ own.kept
  pub held : end.held ≡ own.held
  pub free : own.taking ≡ None
  pub takes : end.taking ≡ Some id
  pub none : was ≡ None
  pub just : IsJustStarted i
  pub before : List Act
  pub after : List Act
  pub quiet : are_aside before ≡ true
  pub silent : are_aside after ≡ true
  pub made_is : made ≡ before ++ acts.Deed (deeds.Starts id) ∷ after

pub data Announced (own end : Own) (was now : Option Seen) (i : InPhase)
    (made : List Act) : Type 0 where
  starts_none : are_aside made ≡ true → end ≡ own → now ≡ was → Announced own end was now i made
  starts_one : Started own end was i made → Announced own end was now i made

pub said_none : {p : Act → Bool} {own end : Own} {was now : Option Seen} {i : InPhase}
    {made : List Act} → PassesNoQuiet p → Announced own end was now i made
    → list_any p made ≡ false
said_none {made = made} none (starts_none aside same seen) =
    none_quiet none made (aside_quiet made aside)
said_none {p} none (starts_one s) =
    let start : List Act = acts.Deed (deeds.Starts s.id) ∷ s.after in
    ap (list_any p) s.made_is
    ∙ list_any-append p s.before start
    ∙ or_from (list_any p s.before) (list_any p start)
    (none_quiet none s.before (aside_quiet s.before s.quiet))
    (or_from (p (acts.Deed (deeds.Starts s.id))) (list_any p s.after) (none.starts s.id)
    (none_quiet none s.after (aside_quiet s.after s.silent)))

record Tells (body : Body) (d : Done) : Type 0 where
  says : Announced (own_of body) (own_of d.body) (seen_of body)
      (seen_of d.body) d.body.intake.phase d.acts

start_says : (desk : Desk) (outlet : OutState) {s : InState} {r : InRow} (kept : List Record)
    → IsIntakeRow s in_input.Start r
    → Announced (own_by kept outlet s) (own_by (settled r.act.keep kept) outlet r.after)
    (own_of_phase s.phase) (own_of_phase r.after.phase) r.after.phase (in_told desk r.act)
start_says desk outlet kept (starts_transport {board = board}) = starts_one (record {
  id = board.id;
  kept = refl;
  held = refl;
  free = refl;
  takes = refl;
  none = refl;
  just = tt;
  before = [];
  after = _;
  quiet = refl;
  silent = refl;
  made_is = refl;
})

start_row_tells : (desk : Desk) (body : Body) (found : Option InRow)
    → intake_row body.intake in_input.Start ≡ found → Tells body (intake_row_did desk body found)
start_row_tells desk body None is = record { says = starts_none refl refl refl }
start_row_tells desk body (Some r) is =
    record {
      says = start_says desk body.outlet body.kept
          (in_row_is body.intake in_input.Start r is);
    }

start_tells : (desk : Desk) (test : Bool) (body : Body) → Tells body (start_by desk test body)
start_tells desk true body = start_row_tells desk body (intake_row body.intake in_input.Start) refl
start_tells desk false body = record { says = starts_none refl refl refl }

tells_more : {own end : Own} {was now : Option Seen} {i : InPhase} {made : List Act}
    (told : List Act) → are_aside told ≡ true → Announced own end was now i made
    → Announced own end was now i (told ++ made)
tells_more {made = made} told quiet (starts_none silent same seen) =
    starts_none (both_aside told made quiet silent) same seen
tells_more told quiet (starts_one s) = starts_one (record {
  id = s.id;
  kept = s.kept;
  held = s.held;
  free = s.free;
  takes = s.takes;
  none = s.none;
  just = s.just;
  before = told ++ s.before;
  after = s.after;
  quiet = both_aside told s.before quiet s.quiet;
  silent = s.silent;
  made_is =
      ap (λ (l : List Act). told ++ l) s.made_is ∙ sym
      (append_assoc told s.before (acts.Deed (deeds.Starts s.id) ∷ s.after));
})

tells_both : (body : Body) (first : Done) (next : Body → Done) → Quiet body first
    → Tells first.body (next first.body) → Tells body (and_then first next)
tells_both body first next a b =
    let last = next first.body in record {
      says = tells_more first.acts a.quiet
          (subst (λ (own : Own). Announced own (own_of last.body) (seen_of body)
          (seen_of last.body) last.body.intake.phase last.acts) a.same
          (subst (λ (was : Option Seen). Announced (own_of first.body) (own_of last.body) was
          (seen_of last.body) last.body.intake.phase last.acts) a.seen b.says));
    }

announces_tells : (desk : Desk) (body : Body) → Tells body (announces desk body)
announces_tells desk body =
    let one = (revoke desk body).body in
    let two = (unready desk one).body in
    let three = (offer desk two).body in
    let four = (ready desk three).body in
    tells_both body (revoke desk body) (λ (b : Body). and_then (unready desk b) (λ c.
    and_then (offer desk c) (λ d. and_then (ready desk d) (start desk))))
    (quiet_by (revoke_made desk (revokes_now body) body refl))
    (tells_both one (unready desk one) (λ (c : Body). and_then (offer desk c) (λ d.
    and_then (ready desk d) (start desk))) (quiet_by (unready_made desk (unreadies_now desk one) one refl))
    (tells_both two (offer desk two) (λ (d : Body). and_then (ready desk d) (start desk))
    (quiet_by (offer_made desk (offers_now two) (slice_get two.kept 0) two refl refl))
    (tells_both three (ready desk three) (start desk)
    (quiet_by (ready_made desk (readies_now desk three) three refl))
    (start_tells desk (starts_now four) four))))

pub announced : (desk : Desk) (body : Body)
    → Announced (own_of body) (own_of (announces desk body).body) (seen_of body)
    (seen_of (announces desk body).body) (announces desk body).body.intake.phase
    (announces desk body).acts
announced desk body = (announces_tells desk body).says
