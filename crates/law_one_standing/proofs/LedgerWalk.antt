-- What a machine owns goes from place to place as the acts of its step say: each deed finds its id where it takes it from.
-- So it is of each piece of which a step is made.
use Rattle.std.proofs.Common.{
  if◌then◌else◌,
  ◌&&◌,
  subst,
  ◌≡◌,
  ◌∙◌,
  ◌++◌,
  ◌==◌,
  ◌||◌,
  ℕ,
  Bool,
  true,
  false,
  List,
  [],
  ◌∷◌,
  Option,
  Some,
  None,
  refl,
  sym,
}
use Rattle.std.specs.Prelude.{slice_get}
use Rattle.std.proofs.lemmas.Bool.{and_parts}
use Rattle.line_base.specs.declared.states.Side.{Side}
use Rattle.line_base.specs.declared.states.Side.TheVariants.{Entry, Exit}
use Rattle.board_record.specs.declared.record.Record.{Record}
use Rattle.board_record.specs.declared.sensed.Sensed.{Sensed as Seen}
use Rattle.board_record.specs.Record.{plain_record}
use Rattle.session_core.specs.End.{SessionEnd, at_rest}
use Rattle.session_core.specs.Input.{heard}
use Rattle.handover_out.specs.declared.input.OutInput.{OutInput}
use Rattle.handover_out.specs.declared.input.OutInput.TheVariants as out_input
use Rattle.handover_out.specs.State.{OutState, held, would_open}
use Rattle.handover_out.specs.Row.{OutRow}
use Rattle.handover_out.specs.Table.{
  IsOutletRow,
  opens as out_opens,
  refuses,
  stop_home,
  left_moving,
  left_stuck,
  left_stopped,
  left_unlinked,
  back_stuck,
  back_stopped,
  back_unlinked,
  taken_moving,
  taken_stuck,
  taken_stopped,
  taken_unlinked,
  fault_home,
  closed_home,
  offers,
  revokes,
}
use Rattle.handover_in.specs.declared.input.InInput.{InInput}
use Rattle.handover_in.specs.declared.input.InInput.TheVariants as in_input
use Rattle.handover_in.specs.State.{InState, held as in_held}
use Rattle.handover_in.specs.Row.{InRow, intake_row}
use Rattle.handover_in.specs.Table.{
  IsIntakeRow,
  starts_transport,
  running_drop,
  hears_keep,
  hears_drop,
  full_heard,
  taken_heard,
  stopped_keep,
  stopped_drop,
  waiting_settles,
  waiting_home,
  waiting_taken,
  closed_home as in_closed_home,
  closed_stopped_home,
  closed_stopped_gone,
  stands_settles,
  closed_between,
  closed_inside,
  closed_gone,
  gets_ready,
  gets_unready,
}
use Rattle.handover_in.proofs.Rows.{row_is as in_row_is}
use Rattle.node_core.specs.Desk.{Desk}
use Rattle.node_core.specs.declared.act.Act.{Act}
use Rattle.node_core.specs.declared.act.Act.TheVariants as acts
use Rattle.node_core.specs.declared.act.Deed.{Deed}
use Rattle.node_core.specs.declared.lane.Body.{Body}
use Rattle.node_core.specs.Done.{Done, done, and_then}
use Rattle.node_core.specs.Told.{out_told, in_told}
use Rattle.node_core.specs.Sides.{session_at, with_session}
use Rattle.node_core.specs.Halves.{
  given_back,
  settled,
  intake_row_did,
  opening_board,
  behind_opening,
}
use Rattle.node_core.specs.Reads.{all_read}
use Rattle.node_core.specs.Boards.{without, with_instead, with_kept, is_kept, if_kept, with_changed}
use Rattle.node_core.specs.Announces.{
  revokes_now,
  revoke,
  unreadies_now,
  unready,
  offers_now,
  offer,
  readies_now,
  ready,
  starts_now,
  start_by,
  start,
  announces,
}
use Rattle.node_core.specs.Event.{Event, Gets, Gives, Insert, Remove, Replace, event_did}
use Rattle.node_core.specs.Step.{plain_step}
use Rattle.node_core.specs.Own.{with_id_instead, without_id, Own, own_by, own_of, ids_of, id_of}
use Rattle.node_core.specs.declared.act.Deed.TheVariants as deeds
use Rattle.node_core.proofs.HalfRows.{IsNoStart, IsPlain}
use Rattle.node_core.proofs.KeptIds.{ids_behind, ids_changed, ids_instead, ids_without}
use Rattle.standings.specs.Marks.{has_id}
use Rattle.smema_bridge.specs.declared.line.SegmentLine.TheVariants.{Ready}
use Rattle.line_base.specs.declared.states.Quality.TheVariants as qualities
use Rattle.step_rules.specs.Causes.{
  Announcing,
  ByHand,
  Cause,
  Hearing,
  Meeting,
  Reading,
  Tells as TellsAct,
  ToIntake,
  ToOutlet,
  hand_gets as by_get,
  hand_gives as by_give,
  hand_inserts as by_insert,
  hand_removes as by_remove,
  hand_replaces as by_replace,
  in_closed,
  in_ready,
  in_stand,
  in_start,
  in_unready,
  out_closed,
  out_offer,
  out_revoke,
  tells_alive,
  tells_notice,
  tells_reading,
  tells_service,
  Changes,
  changes_quality,
  hand_changes,
}
use Rattle.step_rules.specs.Made.{
  Made,
  made_act,
  made_both,
  made_breach,
  made_by_hand,
  made_close,
  made_intake,
  made_none,
  made_notice,
  made_outlet,
  made_passed,
  made_row,
  made_start,
  made_will,
  made_word,
}
use Rattle.step_rules.proofs.Steps.{
  all_read_made,
  event_made,
  offer_made,
  ready_made,
  revoke_made,
  unready_made,
}
use Rattle.step_rules.proofs.Changing.{changes_leave}

-- ---- acts that move no record

abbrev pub is_refusal : Deed → Bool
is_refusal (deeds.Refuses id) = true
is_refusal _ = false

abbrev pub is_silent : Act → Bool
is_silent (acts.Deed deed) = is_refusal deed
is_silent (acts.Inserts id) = false
is_silent (acts.Removes id) = false
is_silent (acts.Replaces old new) = false
is_silent (acts.Gives id to) = false
is_silent (acts.Gets id) = false
is_silent _ = true

abbrev pub are_silent : List Act → Bool
are_silent [] = true
are_silent (act ∷ others) = is_silent act && are_silent others

abbrev pub own_parts : List ℕ → Option ℕ → Option ℕ → Own
own_parts kept held taking = record { kept = kept; held = held; taking = taking }

-- ---- the deeds of what is read and heard, one after another

pub data Walk : Own → List Act → Own → Type 0 where
  walk_end : {own : Own} → Walk own [] own
  walk_on : {own end : Own} {act : Act} {others : List Act} → is_silent act ≡ true → Walk own others end → Walk own (act ∷ others) end
  walk_opens : {id : ℕ} {ids : List ℕ} {taking : Option ℕ} {others : List Act} {end : Own} → Walk (own_parts ids (Some id) taking) others end → Walk (own_parts (id ∷ ids) None taking) (acts.Deed (deeds.Opens id) ∷ others) end
  walk_returns : {id : ℕ} {ids : List ℕ} {taking : Option ℕ} {others : List Act} {end : Own} → Walk (own_parts (id ∷ ids) None taking) others end → Walk (own_parts ids (Some id) taking) (acts.Deed (deeds.Returns id) ∷ others) end
  walk_leaves : {id : ℕ} {ids : List ℕ} {taking : Option ℕ} {others : List Act} {end : Own} → Walk (own_parts ids None taking) others end → Walk (own_parts ids (Some id) taking) (acts.Deed (deeds.Leaves id) ∷ others) end
  walk_loses : {id : ℕ} {ids : List ℕ} {taking : Option ℕ} {others : List Act} {end : Own} → Walk (own_parts ids None taking) others end → Walk (own_parts ids (Some id) taking) (acts.Deed (deeds.Loses id) ∷ others) end
  walk_settles : {id : ℕ} {ids : List ℕ} {held : Option ℕ} {others : List Act} {end : Own} → Walk (own_parts (ids ++ id ∷ []) held None) others end → Walk (own_parts ids held (Some id)) (acts.Deed (deeds.Settles id) ∷ others) end
  walk_drops : {id : ℕ} {ids : List ℕ} {held : Option ℕ} {others : List Act} {end : Own} → Walk (own_parts ids held None) others end → Walk (own_parts ids held (Some id)) (acts.Deed (deeds.Drops id) ∷ others) end

-- by hand a board is put in, taken out or replaced, goes to another lane or comes from one; anything else is such a walk.
-- `New` holds of the ids that are made
pub data Hand (New : ℕ → Type 0) : Own → List Act → Own → Type 0 where
  hand_walks : {own end : Own} {told : List Act} → Walk own told end → Hand New own told end
  hand_inserts : {id : ℕ} {ids : List ℕ} {held taking : Option ℕ} → New id → Hand New (own_parts ids held taking) (acts.Inserts id ∷ []) (own_parts (ids ++ id ∷ []) held taking)
  hand_removes : {id : ℕ} {ids : List ℕ} {held taking : Option ℕ} → has_id id ids ≡ true → Hand New (own_parts ids held taking) (acts.Removes id ∷ []) (own_parts (without_id id ids) held taking)
  hand_gives : {id to : ℕ} {ids : List ℕ} {held taking : Option ℕ} → has_id id ids ≡ true → Hand New (own_parts ids held taking) (acts.Gives id to ∷ []) (own_parts (without_id id ids) held taking)
  hand_gets : {id : ℕ} {ids : List ℕ} {held taking : Option ℕ} → Hand New (own_parts ids held taking) (acts.Gets id ∷ []) (own_parts (ids ++ id ∷ []) held taking)
  hand_replaces : {old new : ℕ} {ids : List ℕ} {held taking : Option ℕ} → has_id old ids ≡ true → New new → Hand New (own_parts ids held taking) (acts.Replaces old new ∷ []) (own_parts (with_id_instead old new ids) held taking)

-- the announcements move no record, but that a transport may start at their end
pub data Announces : Own → List Act → Own → Type 0 where
  says_more : {own end : Own} (told others : List Act) → are_silent told ≡ true → Announces own others end → Announces own (told ++ others) end
  says_last : {own : Own} {told : List Act} → are_silent told ≡ true → Announces own told own
  says_start : {id : ℕ} {ids : List ℕ} {held : Option ℕ} {others : List Act} → are_silent others ≡ true → Announces (own_parts ids held None) (acts.Deed (deeds.Starts id) ∷ others) (own_parts ids held (Some id))

-- a step: what is read, what the event does, what is announced
pub data Did (New : ℕ → Type 0) : Own → List Act → Own → Type 0 where
  did : {own one two end : Own} (read met told : List Act) → Walk own read one → Hand New one met two → Announces two told end → Did New own (read ++ (met ++ told)) end

pub walk_quiet : (own : Own) (told : List Act) → are_silent told ≡ true → Walk own told own
walk_quiet own [] silent = walk_end
walk_quiet own (act ∷ others) silent = walk_on (and_parts (is_silent act) (are_silent others) silent).0 (walk_quiet own others (and_parts (is_silent act) (are_silent others) silent).1)

walk_append : {own one end : Own} {told others : List Act} → Walk own told one → Walk one others end → Walk own (told ++ others) end
walk_append walk_end next = next
walk_append (walk_on silent more) next = walk_on silent (walk_append more next)
walk_append (walk_opens more) next = walk_opens (walk_append more next)
walk_append (walk_returns more) next = walk_returns (walk_append more next)
walk_append (walk_leaves more) next = walk_leaves (walk_append more next)
walk_append (walk_loses more) next = walk_loses (walk_append more next)
walk_append (walk_settles more) next = walk_settles (walk_append more next)
walk_append (walk_drops more) next = walk_drops (walk_append more next)

pub silent_by : (one front both : Bool) → (one && front) ≡ true → (front ≡ true → both ≡ true) → (one && both) ≡ true
silent_by true front both is next = next is
silent_by false front both is next = cc

pub both_silent : (first rest : List Act) → are_silent first ≡ true → are_silent rest ≡ true → are_silent (first ++ rest) ≡ true
both_silent [] rest one other = other
both_silent (act ∷ first) rest one other = silent_by (is_silent act) (are_silent first) (are_silent (first ++ rest)) one (λ is. both_silent first rest is other)

-- ---- a micro event

record Walks (body : Body) (d : Done) : Type 0 where
  walk : Walk (own_of body) d.acts (own_of d.body)

-- a session changes first
walks_session : (side : Side) (s : SessionEnd) (body : Body) (d : Done)
    → Walks (with_session side s body) d → Walks body d
walks_session Entry s body d k = record { walk = k.walk }
walks_session Exit s body d k = record { walk = k.walk }

-- ---- the halves: a row that moves a record does so from where it is

row_walk : (desk : Desk) (intake : InState) {s : OutState} {input : OutInput} {r : OutRow} (kept : List Record) → IsOutletRow s input r → IsPlain input
    → Walk (own_by kept s intake) (out_told desk kept r.act) (own_by (given_back r.act.back kept) r.after intake)
row_walk desk intake kept offers plain = absurd plain
row_walk desk intake kept (out_opens _) plain = absurd plain
row_walk desk intake kept (refuses _) plain = absurd plain
row_walk desk intake kept (stop_home _) plain = walk_returns (walk_quiet _ _ refl)
row_walk desk intake kept left_moving plain = walk_leaves (walk_quiet _ _ refl)
row_walk desk intake kept left_stuck plain = walk_leaves (walk_quiet _ _ refl)
row_walk desk intake kept left_stopped plain = walk_leaves (walk_quiet _ _ refl)
row_walk desk intake kept left_unlinked plain = walk_leaves (walk_quiet _ _ refl)
row_walk desk intake kept back_stuck plain = walk_returns (walk_quiet _ _ refl)
row_walk desk intake kept back_stopped plain = walk_returns (walk_quiet _ _ refl)
row_walk desk intake kept back_unlinked plain = walk_returns (walk_quiet _ _ refl)
row_walk desk intake kept taken_moving plain = walk_loses (walk_quiet _ _ refl)
row_walk desk intake kept taken_stuck plain = walk_loses (walk_quiet _ _ refl)
row_walk desk intake kept taken_stopped plain = walk_loses (walk_quiet _ _ refl)
row_walk desk intake kept taken_unlinked plain = walk_loses (walk_quiet _ _ refl)
row_walk desk intake kept fault_home plain = walk_returns (walk_quiet _ _ refl)
row_walk desk intake kept closed_home plain = walk_returns (walk_quiet _ _ refl)
row_walk desk intake kept _ plain = walk_quiet _ _ refl

start_walk : (desk : Desk) (intake : InState) {s : OutState} {named : ℕ} {r : OutRow} (opening : Bool) (kept : List Record) → IsOutletRow s (out_input.Start named (opening_board opening kept)) r
    → Walk (own_by kept s intake) (out_told desk (behind_opening opening kept) r.act) (own_by (given_back r.act.back (behind_opening opening kept)) r.after intake)
start_walk desk intake false kept (refuses _) = walk_quiet _ _ refl
start_walk desk intake true [] (refuses _) = walk_quiet _ _ refl
start_walk desk intake true (b ∷ bs) (out_opens _) = walk_opens (walk_quiet _ _ refl)

settled_walk : {own : Own} {told : List Act} (kept : List Record) (board : Record) (held : Option ℕ) → Walk own told (own_parts (ids_of kept ++ board.id ∷ []) held None) → Walk own told (own_parts (ids_of (kept ++ board ∷ [])) held None)
settled_walk {own = own} {told = told} kept board held w = subst (λ (ids : List ℕ). Walk own told (own_parts ids held None)) (ids_behind kept board) w

in_row_walk : (desk : Desk) (outlet : OutState) {s : InState} {input : InInput} {r : InRow} (kept : List Record) → IsIntakeRow s input r → IsNoStart input
    → Walk (own_by kept outlet s) (in_told desk r.act) (own_by (settled r.act.keep kept) outlet r.after)
in_row_walk desk outlet kept starts_transport plain = absurd plain
in_row_walk desk outlet kept (running_drop _ _ _) plain = walk_drops (walk_quiet _ _ refl)
in_row_walk desk outlet kept (hears_keep {board = b} _ _) plain = settled_walk kept b (id_of (held outlet)) (walk_settles (walk_quiet _ _ refl))
in_row_walk desk outlet kept (hears_drop _ _) plain = walk_drops (walk_quiet _ _ refl)
in_row_walk desk outlet kept (full_heard {board = b}) plain = settled_walk kept b (id_of (held outlet)) (walk_settles (walk_quiet _ _ refl))
in_row_walk desk outlet kept taken_heard plain = walk_drops (walk_quiet _ _ refl)
in_row_walk desk outlet kept (stopped_keep {board = b} _ _) plain = settled_walk kept b (id_of (held outlet)) (walk_settles (walk_quiet _ _ refl))
in_row_walk desk outlet kept (stopped_drop _ _) plain = walk_drops (walk_quiet _ _ refl)
in_row_walk desk outlet kept (waiting_settles {board = b} _ _) plain = settled_walk kept b (id_of (held outlet)) (walk_settles (walk_quiet _ _ refl))
in_row_walk desk outlet kept (waiting_home _ _) plain = walk_drops (walk_quiet _ _ refl)
in_row_walk desk outlet kept (waiting_taken _ _) plain = walk_drops (walk_quiet _ _ refl)
in_row_walk desk outlet kept in_closed_home plain = walk_drops (walk_quiet _ _ refl)
in_row_walk desk outlet kept closed_stopped_home plain = walk_drops (walk_quiet _ _ refl)
in_row_walk desk outlet kept closed_stopped_gone plain = walk_drops (walk_quiet _ _ refl)
in_row_walk desk outlet kept (stands_settles {board = b}) plain = settled_walk kept b (id_of (held outlet)) (walk_settles (walk_quiet _ _ refl))
in_row_walk desk outlet kept (closed_between {heard = true}) plain = walk_quiet _ _ refl
in_row_walk desk outlet kept (closed_between {heard = false}) plain = walk_quiet _ _ refl
in_row_walk desk outlet kept (closed_inside {heard = true}) plain = walk_quiet _ _ refl
in_row_walk desk outlet kept (closed_inside {heard = false}) plain = walk_quiet _ _ refl
in_row_walk desk outlet kept (closed_gone {heard = true}) plain = walk_quiet _ _ refl
in_row_walk desk outlet kept (closed_gone {heard = false}) plain = walk_quiet _ _ refl
in_row_walk desk outlet kept _ plain = walk_quiet _ _ refl

-- ---- by hand

pub kept_ids : (id : ℕ) (kept : List Record) → is_kept id kept ≡ has_id id (ids_of kept)
kept_ids id [] = refl
kept_ids id (board ∷ boards) = kept_by (board.id == id) (kept_ids id boards) where
  kept_by : (test : Bool) {a b : Bool} → a ≡ b → (if test then true else a) ≡ (test || b)
  kept_by true same = refl
  kept_by false same = same

hand_kept : {New : ℕ → Type 0} {own : Own} {told : List Act} {ids : List ℕ} (kept : List Record) (mine taking : Option ℕ) → ids ≡ ids_of kept → Hand New own told (own_parts ids mine taking) → Hand New own told (own_parts (ids_of kept) mine taking)
hand_kept {New = New} {own = own} {told = told} kept mine taking same h = subst (λ (ids : List ℕ). Hand New own told (own_parts ids mine taking)) same h

record Meets (New : ℕ → Type 0) (body : Body) (d : Done) : Type 0 where
  hand : Hand New (own_of body) d.acts (own_of d.body)

meets_walk : {New : ℕ → Type 0} {body : Body} {d : Done} → Walks body d → Meets New body d
meets_walk w = record { hand = hand_walks w.walk }

removes_by : {New : ℕ → Type 0} (id : ℕ) (body : Body) (test : Bool) → is_kept id body.kept ≡ test → Meets New body (if_kept test (record body { kept = without id body.kept }) (acts.Removes id) body)
removes_by id body true is = record { hand = hand_kept (without id body.kept) (id_of (held body.outlet)) (id_of (in_held body.intake)) (ids_without id body.kept) (hand_removes (sym (kept_ids id body.kept) ∙ is)) }
removes_by id body false is = meets_walk (record { walk = walk_end })

gives_by : {New : ℕ → Type 0} (id to : ℕ) (body : Body) (test : Bool) → is_kept id body.kept ≡ test → Meets New body (if_kept test (record body { kept = without id body.kept }) (acts.Gives id to) body)
gives_by id to body true is = record { hand = hand_kept (without id body.kept) (id_of (held body.outlet)) (id_of (in_held body.intake)) (ids_without id body.kept) (hand_gives (sym (kept_ids id body.kept) ∙ is)) }
gives_by id to body false is = meets_walk (record { walk = walk_end })

replaces_by : {New : ℕ → Type 0} (desk : Desk) (old new : ℕ) (body : Body) (test : Bool) → New new → is_kept old body.kept ≡ test
    → Meets New body (if_kept test (record body { kept = with_instead old (plain_record new desk.name None) body.kept }) (acts.Replaces old new) body)
replaces_by desk old new body true fresh is = record { hand = hand_kept (with_instead old (plain_record new desk.name None) body.kept) (id_of (held body.outlet)) (id_of (in_held body.intake)) (ids_instead old (plain_record new desk.name None) body.kept) (hand_replaces (sym (kept_ids old body.kept) ∙ is) fresh) }
replaces_by desk old new body false fresh is = meets_walk (record { walk = walk_end })

-- the ids that an event makes
abbrev pub IsNewFor : (ℕ → Type 0) → Event → Type 0
IsNewFor New (Insert id barcode) = New id
IsNewFor New (Replace old new) = New new
IsNewFor New _ = Unit {0}

-- ---- the pieces of a step, but by hand and as it announces

abbrev Moves : Cause → Type 0
Moves Reading = Unit {0}
Moves (Hearing side word) = Unit {0}
Moves (Announcing starting) = ⊥
Moves (Meeting (Insert id barcode)) = ⊥
Moves (Meeting (Remove id)) = ⊥
Moves (Meeting (Replace old new)) = ⊥
Moves (Meeting (Gives id to)) = ⊥
Moves (Meeting (Gets board)) = ⊥
Moves (Meeting event) = Unit {0}

plain_out : {cause : Cause} {body : Body} {input : OutInput} → ToOutlet cause body input
    → Moves cause → IsPlain input
plain_out (out_offer now is) moves = absurd moves
plain_out _ moves = tt

plain_in : {desk : Desk} {cause : Cause} {body : Body} {input : InInput}
    → ToIntake desk cause body input → Moves cause → IsNoStart input
plain_in (in_start now) moves = absurd moves
plain_in _ moves = tt

act_silent : {desk : Desk} {cause : Cause} {body : Body} {act : Act} → TellsAct desk cause body act
    → is_silent act ≡ true
act_silent tells_reading = refl
act_silent _ = refl

changes_silent : {desk : Desk} {event : Event} {body : Body} {id : ℕ}
    {change : Record → Record} {act : Act} → Changes desk event body id change act
    → is_silent act ≡ true
changes_silent (changes_quality is) = refl
changes_silent _ = refl

changes_walk : {desk : Desk} {event : Event} {id : ℕ} {change : Record → Record} {act : Act}
    (body : Body) → Changes desk event body id change act
    → Walks body (done (with_kept (with_changed id change body.kept) body) (act ∷ []))
changes_walk {id = id} {change = change} {act = act} body deed = record {
  walk =
      subst (λ (ids : List ℕ). Walk (own_of body) (act ∷ [])
      (own_parts ids (id_of (held body.outlet)) (id_of (in_held body.intake))))
      (ids_changed id change body.kept (changes_leave deed))
      (walk_on (changes_silent deed) walk_end);
}

hand_walk : {desk : Desk} {event : Event} {body : Body} {kept : List Record} {act : Act}
    → ByHand desk event body kept act → Moves (Meeting event)
    → Walks body (done (with_kept kept body) (act ∷ []))
hand_walk by_insert moves = absurd moves
hand_walk (by_remove is) moves = absurd moves
hand_walk (by_replace is) moves = absurd moves
hand_walk (by_give is) moves = absurd moves
hand_walk by_get moves = absurd moves
hand_walk (hand_changes {body = body} deed) moves = changes_walk body deed

walks : {desk : Desk} {cause : Cause} {body : Body} {d : Done} → Made desk cause body d
    → Moves cause → Walks body d
walks made_none moves = record { walk = walk_end }
walks (made_both one two) moves =
    record { walk = walk_append (walks one moves).walk (walks two moves).walk }
walks (made_word is on made) moves = walks made tt
walks (made_act tells) moves = record { walk = walk_on (act_silent tells) walk_end }
walks (made_row {side = side} {row = row} {body = body} to shape made) moves =
    walks_session side row.after body _ (walks made moves)
walks (made_passed {side = side} {row = row} {body = body} shape first on made) moves =
    walks_session side row.after body _ (walks made moves)
walks (made_close talk made) moves = record { walk = walk_on refl (walks made moves).walk }
walks (made_notice {side = side} {body = body} on made) moves =
    let k = walks_session side (at_rest (session_at side body).role) body _ (walks made moves) in
    record { walk = walk_on refl k.walk }
walks (made_breach {side = side} {body = body} made) moves =
    let k = walks_session side (at_rest (session_at side body).role) body _ (walks made moves) in
    record { walk = walk_on refl (walk_on refl (walk_on refl k.walk)) }
walks {desk = desk} (made_start {id = id} {body = body} says on shape) moves =
    record { walk = start_walk desk body.intake (would_open body.outlet id) body.kept shape }
walks {desk = desk} (made_outlet {body = body} to shape) moves =
    record { walk = row_walk desk body.intake body.kept shape (plain_out to moves) }
walks {desk = desk} (made_intake {body = body} to shape) moves =
    record { walk = in_row_walk desk body.outlet body.kept shape (plain_in to moves) }
walks (made_by_hand hand) moves = hand_walk hand moves
walks (made_will {side = Entry} sets) moves = record { walk = walk_on refl walk_end }
walks (made_will {side = Exit} sets) moves = record { walk = walk_on refl walk_end }

event_meets : {New : ℕ → Type 0} (desk : Desk) (event : Event) (body : Body) → IsNewFor New event
    → Meets New body (event_did desk event body)
event_meets desk (Insert id barcode) body new = record {
  hand =
      hand_kept (body.kept ++ plain_record id desk.name barcode ∷ []) (id_of (held body.outlet))
      (id_of (in_held body.intake)) (ids_behind body.kept (plain_record id desk.name barcode))
      (hand_inserts new);
}
event_meets desk (Remove id) body new = removes_by id body (is_kept id body.kept) refl
event_meets desk (Replace old new) body fresh =
    replaces_by desk old new body (is_kept old body.kept) fresh refl
event_meets desk (Gives id to) body new = gives_by id to body (is_kept id body.kept) refl
event_meets desk (Gets board) body new = record {
  hand =
      hand_kept (body.kept ++ board ∷ []) (id_of (held body.outlet)) (id_of (in_held body.intake))
      (ids_behind body.kept board) hand_gets;
}
event_meets desk event body new = meets_walk (walks (event_made desk event body) tt)

-- ---- the announcements

record Quiet (body : Body) (d : Done) : Type 0 where
  silent : are_silent d.acts ≡ true
  same : own_of d.body ≡ own_of body

revoke_silent : (desk : Desk) (intake : InState) {s : OutState} {r : OutRow} (kept : List Record) → IsOutletRow s out_input.Revoke r → (are_silent (out_told desk kept r.act) ≡ true) × (own_by (given_back r.act.back kept) r.after intake ≡ own_by kept s intake)
revoke_silent desk intake kept revokes = (refl, refl)

offer_silent : (desk : Desk) (intake : InState) {s : OutState} {id : ℕ} {r : OutRow} (kept : List Record) → IsOutletRow s (out_input.Offer id) r → (are_silent (out_told desk kept r.act) ≡ true) × (own_by (given_back r.act.back kept) r.after intake ≡ own_by kept s intake)
offer_silent desk intake [] offers = (refl, refl)
offer_silent desk intake (b ∷ bs) offers = (refl, refl)

ready_silent : (desk : Desk) (outlet : OutState) {s : InState} {r : InRow} (kept : List Record) → IsIntakeRow s in_input.Ready r → (are_silent (in_told desk r.act) ≡ true) × (own_by (settled r.act.keep kept) outlet r.after ≡ own_by kept outlet s)
ready_silent desk outlet kept gets_ready = (refl, refl)

unready_silent : (desk : Desk) (outlet : OutState) {s : InState} {r : InRow} (kept : List Record) → IsIntakeRow s in_input.Unready r → (are_silent (in_told desk r.act) ≡ true) × (own_by (settled r.act.keep kept) outlet r.after ≡ own_by kept outlet s)
unready_silent desk outlet kept gets_unready = (refl, refl)

-- all but a start
quiet : {desk : Desk} {body : Body} {d : Done} → Made desk (Announcing false) body d → Quiet body d
quiet made_none = record { silent = refl; same = refl }
quiet (made_both {one = one} {two = two} first next) =
    let a = quiet first in
    let b = quiet next in
    record { silent = both_silent one.acts two.acts a.silent b.silent; same = b.same ∙ a.same }
quiet (made_act (tells_service talk)) = absurd talk
quiet (made_act (tells_alive talk)) = absurd talk
quiet (made_act (tells_notice talk)) = absurd talk
quiet (made_row to shape made) = elim to [ ]
quiet (made_close talk made) = absurd talk
quiet (made_outlet (out_closed talk) shape) = absurd talk
quiet {desk = desk} (made_outlet {body = body} (out_revoke now) shape) =
    let two = revoke_silent desk body.intake body.kept shape in
    record { silent = two.0; same = two.1 }
quiet {desk = desk} (made_outlet {body = body} (out_offer now is) shape) =
    let two = offer_silent desk body.intake body.kept shape in
    record { silent = two.0; same = two.1 }
quiet (made_intake (in_closed talk) shape) = absurd talk
quiet (made_intake (in_stand talk) shape) = absurd talk
quiet {desk = desk} (made_intake {body = body} (in_unready now) shape) =
    let two = unready_silent desk body.outlet body.kept shape in
    record { silent = two.0; same = two.1 }
quiet {desk = desk} (made_intake {body = body} (in_ready now) shape) =
    let two = ready_silent desk body.outlet body.kept shape in
    record { silent = two.0; same = two.1 }

record Tells (body : Body) (d : Done) : Type 0 where
  says : Announces (own_of body) d.acts (own_of d.body)

start_says : (desk : Desk) (outlet : OutState) {s : InState} {r : InRow} (kept : List Record) → IsIntakeRow s in_input.Start r → Announces (own_by kept outlet s) (in_told desk r.act) (own_by (settled r.act.keep kept) outlet r.after)
start_says desk outlet kept starts_transport = says_start refl

start_row_tells : (desk : Desk) (body : Body) (found : Option InRow)
    → intake_row body.intake in_input.Start ≡ found → Tells body (intake_row_did desk body found)
start_row_tells desk body None is = record { says = says_last refl }
start_row_tells desk body (Some r) is =
    record { says = start_says desk body.outlet body.kept (in_row_is body.intake in_input.Start r is) }

start_tells : (desk : Desk) (test : Bool) (body : Body) → Tells body (start_by desk test body)
start_tells desk true body = start_row_tells desk body (intake_row body.intake in_input.Start) refl
start_tells desk false body = record { says = says_last refl }

tells_both : (body : Body) (first : Done) (next : Body → Done) → Quiet body first
    → Tells first.body (next first.body) → Tells body (and_then first next)
tells_both body first next a b = record {
  says =
      says_more first.acts (next first.body).acts a.silent
      (subst (λ (own : Own). Announces own (next first.body).acts (own_of (next first.body).body))
      a.same b.says);
}

announces_tells : (desk : Desk) (body : Body) → Tells body (announces desk body)
announces_tells desk body =
    let one = (revoke desk body).body in
    let two = (unready desk one).body in
    let three = (offer desk two).body in
    let four = (ready desk three).body in
    tells_both body (revoke desk body) (λ (b : Body). and_then (unready desk b) (λ c.
    and_then (offer desk c) (λ d. and_then (ready desk d) (start desk))))
    (quiet (revoke_made desk (revokes_now body) body refl))
    (tells_both one (unready desk one) (λ (c : Body). and_then (offer desk c) (λ d.
    and_then (ready desk d) (start desk)))
    (quiet (unready_made desk (unreadies_now desk one) one refl))
    (tells_both two (offer desk two) (λ (d : Body). and_then (ready desk d) (start desk))
    (quiet (offer_made desk (offers_now two) (slice_get two.kept 0) two refl refl))
    (tells_both three (ready desk three) (start desk)
    (quiet (ready_made desk (readies_now desk three) three refl))
    (start_tells desk (starts_now four) four))))

-- ---- the step, but for what the supervisor is told

pub step_did : {New : ℕ → Type 0} (desk : Desk) (unread : List Seen) (event : Event) (body : Body)
    → IsNewFor New event
    → Did New (own_of body) (plain_step desk unread event body).acts
    (own_of (plain_step desk unread event body).body)
step_did desk unread event body new =
    let one = (all_read desk unread body).body in
    let two = (event_did desk event one).body in
    did (all_read desk unread body).acts (event_did desk event one).acts (announces desk two).acts (walks (all_read_made desk unread body) tt).walk (event_meets desk event one new).hand (announces_tells desk two).says
