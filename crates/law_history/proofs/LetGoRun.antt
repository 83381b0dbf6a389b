-- Along a run: what the intake of a gap holds alone was let go there last, is kept above still, or is gone; and so what settles
-- was let go last.
use Rattle.std.proofs.Common.{Bool, List, None, Option, Some, [], ap, arith, eq-eqb, false, inl, inr, refl, suc, subst, sym, take, true, zero, ℕ, ◌++◌, ◌+◌, ◌==◌, ◌||◌, ◌∙◌, ◌∷◌, ◌≡◌, ◌≤◌, ◌⊎◌}
use Rattle.std.specs.Prelude.{cond}
use Rattle.std.specs.List.{list_any}
use mathlib.Core.Bool.{and-false}
use Rattle.line_base.specs.declared.states.Side.TheVariants.{Exit}
use Rattle.board_record.specs.declared.sensed.Sensed.{Sensed}
use Rattle.board_record.specs.declared.record.Record.{Record}
use Rattle.line_world.specs.FloorPlan.{machine_at}
use Rattle.handover_out.specs.State.{board_of_phase as held_out}
use Rattle.handover_in.specs.declared.phase.Phase.{Phase as In}
use Rattle.handover_in.specs.declared.phase.Phase.TheVariants as inn
use Rattle.handover_in.specs.State.{InState, board_of_phase as held_in}
use Rattle.node_core.specs.Reads.{all_read}
use Rattle.node_core.specs.Step.{plain_step}
use Rattle.node_core.specs.declared.act.Act.{Act}
use Rattle.node_core.specs.declared.act.Act.TheVariants as acts
use Rattle.node_core.specs.declared.act.Deed.TheVariants as deeds
use Rattle.node_core.specs.declared.lane.Body.{Body}
use Rattle.line_report.specs.declared.happening.Happening.{Happening}
use Rattle.line_report.specs.declared.happening.Happening.TheVariants as happenings
use Rattle.node_core.specs.Own.{id_of}
use Rattle.law_custody.specs.Contents.{Kept}
use Rattle.law_custody.specs.LookBack.{has_heard_left}
use Rattle.law_custody.specs.Words.{events_at}
use Rattle.law_custody.proofs.Promised.{one_record}
use Rattle.law_machine_custody.specs.Good.{Lies}
use Rattle.line_step.specs.FloorIds.{boards_of}
use Rattle.line_step.specs.Tracks.{TrackLine, TrackSteps}
use Rattle.line_step.specs.Numbered.{node_at}
use Rattle.line_step.specs.Runs.{IsRun, Point}
use Rattle.line_step.specs.State.{LineState, no_line}
use Rattle.line_step.specs.Steps.{unread_by}
use Rattle.line_step.proofs.FloorLaws.{Goes, track-goes}
use Rattle.law_one_standing.specs.Carried.{Trace, between_of, stand_of}
use Rattle.law_one_standing.specs.Places.{at_machine, lies_at}
use Rattle.law_one_standing.specs.Relation.{Neighbours}
use Rattle.law_one_standing.specs.Stands.{Stands}
use Rattle.law_one_standing.proofs.ApartFloor.{counted, lies_on_floor}
use Rattle.law_one_standing.proofs.ApartStep.{AreNews, IsNot, come_by, old_count}
use Rattle.law_one_standing.proofs.Carrying.{SaysAlone}
use Rattle.law_one_standing.proofs.LineForms.{ConnectsBear}
use Rattle.law_one_standing.proofs.LineRun.{AreStoodBy, Stood, StoodBy, none_stood, run_by}
use Rattle.law_one_standing.proofs.MarksOf.{has_intake}
use Rattle.law_one_standing.proofs.Comings.{mark_stays, track_news}
use Rattle.line_step.specs.Homes.{AreNewcomers}
use Rattle.law_history.specs.LetGo.{IsWhatLeft, KeepsWhatLeft, WhatSettlesLeft, held_above, is_leaving, let_go, settles_at, taken_below}
use Rattle.law_history.specs.Settled.{entry_acts, settles}
use Rattle.law_history.proofs.Folds.{Hearing, heard_all, none_heard}
use Rattle.law_history.proofs.Halves.{Knows}
use Rattle.law_history.proofs.Leaving.{leaves_told, none_leave}
use Rattle.law_history.proofs.Said.{said_then}
use Rattle.law_history.proofs.SettledRun.{IsInAt, Told, acts_append, line_told, none_knows, stepped_does}
use Rattle.law_history.proofs.Stepping.{IsJustStarted, StepDoes, is_leaving as leaves_now, leaving_append, tells_leaving}
use Rattle.law_history.proofs.View.{Kind, Stays, Stepped, Turn, done_act, done_by, has_stepped, is_still, track_kind, track_turn, told_of_act, undriven, unwilled}
use Rattle.law_history.proofs.Where.{IsBeyond, WhereAlone, alone_beyond, alone_gone, alone_kept, is_across, is_inside_there, kept_above, not_above, unread_leaves, where_alone, where_started}

-- ---- what is told of leaving

leaving_one : (gap machine : ℕ) (act : Act) (same : Bool) → (machine == gap) ≡ same → is_leaving gap (happenings.Done machine act) ≡ tells_leaving (cond same (told_of_act act) [])
leaving_one gap machine (acts.Deed (deeds.Leaves id)) true is = is
leaving_one gap machine (acts.Deed (deeds.Leaves id)) false is = is
leaving_one gap machine (acts.Deed (deeds.Opens id)) true is = refl
leaving_one gap machine (acts.Deed (deeds.Refuses id)) true is = refl
leaving_one gap machine (acts.Deed (deeds.Returns id)) true is = refl
leaving_one gap machine (acts.Deed (deeds.Loses id)) true is = refl
leaving_one gap machine (acts.Deed (deeds.Starts id)) true is = refl
leaving_one gap machine (acts.Deed (deeds.Settles id)) true is = refl
leaving_one gap machine (acts.Deed (deeds.Drops id)) true is = refl
leaving_one gap machine _ true is = refl
leaving_one gap machine _ false is = refl

leaving_happening : (gap : ℕ) (happening : Happening) → is_leaving gap happening ≡ tells_leaving (done_act gap happening)
leaving_happening gap (happenings.Done machine act) = leaving_one gap machine act (machine == gap) refl
leaving_happening gap _ = refl

leaving_is : (gap : ℕ) (told : List Happening) → list_any (is_leaving gap) told ≡ tells_leaving (done_by gap told)
leaving_is gap [] = refl
leaving_is gap (happening ∷ told) =
    ap (λ (b : Bool). b || list_any (is_leaving gap) told) (leaving_happening gap happening) ∙ ap (λ (b : Bool). tells_leaving (done_act gap happening) || b) (leaving_is gap told)
    ∙ sym (leaving_append (done_act gap happening) (done_by gap told))

or_false : (a b : Bool) → ((a || false) || b) ≡ (a || b)
or_false true b = refl
or_false false b = refl

undriven_one : (act : Act) (b : Bool) → (tells_leaving (told_of_act act) || b) ≡ (leaves_now act || b)
undriven_one (acts.Drive side on) b = refl
undriven_one (acts.Signals signal on) b = refl
undriven_one (acts.Tells message) b = refl
undriven_one act b = or_false (leaves_now act) b

undriven_leaving : (told : List Act) → tells_leaving (undriven told) ≡ tells_leaving told
undriven_leaving [] = refl
undriven_leaving (act ∷ told) = leaving_append (told_of_act act) (undriven told) ∙ ap (λ (b : Bool). tells_leaving (told_of_act act) || b) (undriven_leaving told) ∙ undriven_one act (tells_leaving told)

-- ---- what the intake holds alone

-- it was let go last, is kept above, or is gone from the floor; or the outlet holds a record still
pub data Follows (s : LineState) (gap : ℕ) (last : Option Record) (r : Record) : Type 0 where
  is_held_still : (q : Record) → held_above s gap ≡ Some q → Follows s gap last r
  was_let_go : last ≡ Some r → Follows s gap last r
  is_kept_above : Kept r.id (node_at s gap).lane.body.kept → Follows s gap last r
  is_off : counted r.id (boards_of s) ≡ 0 → Follows s gap last r

abbrev pub AllFollow : LineState → ℕ → Option Record → Type 0
AllFollow s gap last = (r : Record) → taken_below s gap ≡ Some r → Follows s gap last r

held_or_none : (held : Option Record) → ((q : Record) × (held ≡ Some q)) ⊎ (held ≡ None)
held_or_none None = inr refl
held_or_none (Some q) = inl (q, refl)

-- where the outlet holds none, as long as the board isn't beyond
follows_where : (t : Trace) (s : LineState) (gap : ℕ) (last : Option Record) (r : Record) → Stands t s → taken_below s gap ≡ Some r → (IsBeyond s gap r.id → Follows s gap last r) → Follows s gap last r
follows_where t s gap last r st taken beyond = by (held_or_none (held_above s gap)) where
  where_by : WhereAlone s gap r → Follows s gap last r
  where_by (alone_kept kept) = is_kept_above kept
  where_by (alone_gone off) = is_off off
  where_by (alone_beyond far) = beyond far

  by : ((q : Record) × (held_above s gap ≡ Some q)) ⊎ (held_above s gap ≡ None) → Follows s gap last r
  by (inl held) = is_held_still held.0 held.1
  by (inr none) = where_by (where_alone t s gap r st taken none)

follows_started : (t : Trace) (s : LineState) (gap : ℕ) (last : Option Record) (r : Record) → Stands t s → taken_below s gap ≡ Some r → IsJustStarted (node_at s (gap + 1)).lane.body.intake.phase → (machine_at s.world.floor (gap + 1)).unread ≡ [] → Follows s gap last r
follows_started t s gap last r st taken started unread = by (held_or_none (held_above s gap)) where
  where_by : Kept r.id (node_at s gap).lane.body.kept ⊎ (counted r.id (boards_of s) ≡ 0) → Follows s gap last r
  where_by (inl kept) = is_kept_above kept
  where_by (inr off) = is_off off

  by : ((q : Record) × (held_above s gap ≡ Some q)) ⊎ (held_above s gap ≡ None) → Follows s gap last r
  by (inl held) = is_held_still held.0 held.1
  by (inr none) = where_by (where_started t s gap r st taken none started unread)

-- ---- what a line has of it

pub record Line (gap : ℕ) (last : Option Record) (t t2 : Trace) (before after : LineState) (told : List Happening) (r : Record) : Type 0 where
  pub st : Stands t before
  pub st2 : Stands t2 after
  pub goes : Goes before after told
  pub taken : taken_below before gap ≡ Some r
  pub taken2 : taken_below after gap ≡ Some r
  pub stays : IsNot r.id (come_by told)
  pub was : Follows before gap last r

let_go_is : (gap : ℕ) (last : Option Record) (before : LineState) (told : List Happening) (b : Bool) → list_any (is_leaving gap) told ≡ b → let_go gap last before told ≡ cond b (held_above before gap) last
let_go_is gap last before told b is = rw is refl

same_record : (s : LineState) (gap : ℕ) (t : Trace) (q r : Record) → Stands t s → held_above s gap ≡ Some q → taken_below s gap ≡ Some r → q ≡ r
same_record s gap t q r st held taken =
    let n : Neighbours (stand_of s gap) (between_of t s gap) (stand_of s (gap + 1)) = st.keeps.neighbours.at gap in
    one_record _ _ q r n.pair held taken

-- beyond it was before the line
was_beyond : (gap x : ℕ) (before after : LineState) (told : List Happening) → Stays before after told → IsNot x (come_by told) → IsBeyond after gap x → IsBeyond before gap x
was_beyond gap x before after told s new (is_across left) = is_across (sym (s.lies gap) ∙ left)
was_beyond gap x before after told s new (is_inside_there lies) = is_inside_there (s.lists x (gap + 1) new lies)

off_still : (before after : LineState) (told : List Happening) (x : ℕ) → Goes before after told → IsNot x (come_by told) → counted x (boards_of before) ≡ 0 → counted x (boards_of after) ≡ 0
off_still before after told x goes new off = (let less = old_count before after told x goes new in omega (arith, less, off))

-- ---- the machine above is as it was

still_follows : (j : ℕ) (last : Option Record) (t t2 : Trace) (before after : LineState) (told : List Happening) (r : Record) → Line (j + 1) last t t2 before after told r → unwilled (node_at after (j + 1)).lane.body ≡ unwilled (node_at before (j + 1)).lane.body → done_by (j + 1) told ≡ []
    → Follows after (j + 1) (let_go (j + 1) last before told) r
still_follows j last t t2 before after told r l same none = by l.was where
  stays : let_go (j + 1) last before told ≡ last
  stays = let_go_is (j + 1) last before told false (leaving_is (j + 1) told ∙ ap tells_leaving none)

  by : Follows before (j + 1) last r → Follows after (j + 1) (let_go (j + 1) last before told) r
  by (is_held_still q held) = is_held_still q (ap (λ (b : Body). held_out b.outlet.phase) same ∙ held)
  by (was_let_go is) = was_let_go (stays ∙ is)
  by (is_kept_above kept) = is_kept_above (subst (λ (b : Body). Kept r.id b.kept) (sym same) kept)
  by (is_off off) = is_off (off_still before after told r.id l.goes l.stays off)

-- ---- it makes a step

-- something that the intake of a machine knows
knowing : (i : InState) (phase : In) → i.phase ≡ phase → (h : Hearing) × Knows h i
knowing i inn.Idle is = (none_heard, record { named = λ r held. absurd (let no_way : ◌≡◌ {A = Option Record} None (Some r) = sym (ap held_in is) ∙ held in cc); recalled = rw is (record { ended = refl; linked = refl; waiting = refl }) })
knowing i (inn.Taking q own heard) is = (
  record { named = Some q.id; since = record { ended = true; closed = false; described = false } },
  record { named = λ r held. ap id_of (sym (ap held_in is) ∙ held); recalled = rw is (record { ended = and-false heard; linked = refl; waiting = refl }) },
)
knowing i (inn.Stopped q own heard) is = (
  record { named = Some q.id; since = record { ended = true; closed = false; described = false } },
  record { named = λ r held. ap id_of (sym (ap held_in is) ∙ held); recalled = rw is (record { ended = and-false (has_heard_left (inn.Stopped q own heard)); linked = refl; waiting = refl }) },
)
knowing i (inn.Waiting q own heard) is = (
  record { named = Some q.id; since = record { ended = true; closed = true; described = false } },
  record { named = λ r held. ap id_of (sym (ap held_in is) ∙ held); recalled = rw is (record { ended = and-false heard; linked = refl; waiting = refl }) },
)

step_leaving : (t : Trace) (j : ℕ) (before after : LineState) (told : List Happening) → Stands t before → (s : Stepped j t before after told) → list_any (is_leaving (j + 1)) told ≡ tells_leaving (all_read s.desk (unread_by (j + 1) before.world) (node_at before (j + 1)).lane.body).acts
step_leaving t j before after told st s =
    let i : InState = (node_at before (j + 1)).lane.body.intake in
    let know = knowing i i.phase refl in
    let does : StepDoes (IsInAt j before) know.0 s.desk (unread_by (j + 1) before.world) s.event (node_at before (j + 1)).lane.body = stepped_does t j know.0 before after told st know.1 s in
    leaving_is (j + 1) told ∙ ap tells_leaving s.acts ∙ undriven_leaving (plain_step s.desk (unread_by (j + 1) before.world) s.event (node_at before (j + 1)).lane.body).acts ∙ does.leaves

no_way : {X : Type 0} → false ≡ true → X
no_way is = cc

-- the outlet held a record
held_follows : (j : ℕ) (last : Option Record) (t t2 : Trace) (before after : LineState) (told : List Happening) (r q : Record) → Line (j + 1) last t t2 before after told r → Stays before after told → (s : Stepped j t before after told) → held_above before (j + 1) ≡ Some q
    → (b : Bool) → list_any (is_leaving (j + 1)) told ≡ b → Follows after (j + 1) (let_go (j + 1) last before told) r
held_follows j last t t2 before after told r q l stays s held true leaves =
    was_let_go (let_go_is (j + 1) last before told true leaves ∙ held ∙ ap (λ (x : Record). Some x) (same_record before (j + 1) t q r l.st held l.taken))
held_follows j last t t2 before after told r q l stays s held false leaves =
    let same : q ≡ r = same_record before (j + 1) t q r l.st held l.taken in
    follows_where t2 after (j + 1) (let_go (j + 1) last before told) r l.st2 l.taken2 (λ far.
    (let was : IsBeyond before (j + 1) q.id = subst (λ (x : Record). IsBeyond before (j + 1) x.id) (sym same) (was_beyond (j + 1) r.id before after told stays l.stays far) in
    let unread : List Sensed = unread_by (j + 1) before.world in
    let body : Body = (node_at before (j + 1)).lane.body in
    let left : tells_leaving (all_read s.desk unread body).acts ≡ true = leaves_told s.desk unread body body.outlet.phase (events_at Exit unread) refl refl (unread_leaves t before j q l.st held was) in
    no_way (sym leaves ∙ step_leaving t j before after told l.st s ∙ left)))

-- it held none
none_follows : (j : ℕ) (last : Option Record) (t t2 : Trace) (before after : LineState) (told : List Happening) (r : Record) → Line (j + 1) last t t2 before after told r → Stays before after told → (s : Stepped j t before after told) → held_above before (j + 1) ≡ None
    → (b : Bool) → list_any (is_leaving (j + 1)) told ≡ b → Follows after (j + 1) (let_go (j + 1) last before told) r
none_follows j last t t2 before after told r l stays s none true leaves =
    no_way (sym (none_leave s.desk (unread_by (j + 1) before.world) (node_at before (j + 1)).lane.body none) ∙ sym (step_leaving t j before after told l.st s) ∙ leaves)
none_follows j last t t2 before after told r l stays s none false leaves = by l.was where
  by : Follows before (j + 1) last r → Follows after (j + 1) (let_go (j + 1) last before told) r
  by (is_held_still q held) = absurd (let no : ◌≡◌ {A = Option Record} None (Some q) = sym none ∙ held in cc)
  by (was_let_go is) = was_let_go (let_go_is (j + 1) last before told false leaves ∙ is)
  by (is_kept_above kept) =
      follows_where t2 after (j + 1) (let_go (j + 1) last before told) r l.st2 l.taken2 (λ far.
      not_above t before (j + 1) r.id l.st (was_beyond (j + 1) r.id before after told stays l.stays far) (kept_above t before j r.id l.st kept))
  by (is_off off) = is_off (off_still before after told r.id l.goes l.stays off)

turn_follows : (j : ℕ) (last : Option Record) (t t2 : Trace) (before after : LineState) (told : List Happening) (r : Record) → Line (j + 1) last t t2 before after told r → Stays before after told → Turn j t before after told → Follows after (j + 1) (let_go (j + 1) last before told) r
turn_follows j last t t2 before after told r l stays (is_still same none) = still_follows j last t t2 before after told r l same none
turn_follows j last t t2 before after told r l stays (has_stepped s) = by (held_or_none (held_above before (j + 1))) where
  by : ((q : Record) × (held_above before (j + 1) ≡ Some q)) ⊎ (held_above before (j + 1) ≡ None) → Follows after (j + 1) (let_go (j + 1) last before told) r
  by (inl held) = held_follows j last t t2 before after told r held.0 l stays s held.1 (list_any (is_leaving (j + 1)) told) refl
  by (inr none) = none_follows j last t t2 before after told r l stays s none (list_any (is_leaving (j + 1)) told) refl

-- ---- the machine below

-- what its intake holds it held before, or its transport has just started
below_took : (j : ℕ) (t : Trace) (before after : LineState) (told : List Happening) (r : Record) → Stands t before → Turn (j + 1) t before after told → taken_below after (j + 1) ≡ Some r
    → (taken_below before (j + 1) ≡ Some r) ⊎ (IsJustStarted (node_at after (j + 1 + 1)).lane.body.intake.phase × ((machine_at after.world.floor (j + 1 + 1)).unread ≡ []))
below_took j t before after told r st (is_still same none) taken = inl (ap (λ (b : Body). held_in b.intake.phase) (sym same) ∙ taken)
below_took j t before after told r st (has_stepped s) taken =
    let i : InState = (node_at before (j + 1 + 1)).lane.body.intake in
    let know = knowing i i.phase refl in
    let does = (stepped_does t (j + 1) know.0 before after told st know.1 s).does in
    let now : held_in (plain_step s.desk (unread_by (j + 1 + 1) before.world) s.event (node_at before (j + 1 + 1)).lane.body).body.intake.phase ≡ Some r = ap (λ (b : Body). held_in b.intake.phase) (sym s.body) ∙ taken in
    elim (does.comes r now) [ inl was ↦ inl was | inr started ↦ inr (subst (λ (b : Body). IsJustStarted b.intake.phase) (sym s.body) started, s.unread) ]

line_follows_by : (j : ℕ) (last : Option Record) (t t2 : Trace) (before after : LineState) (told : List Happening) (r : Record) → Stands t before → Stands t2 after → Goes before after told → AllFollow before (j + 1) last → ((q : Record) → taken_below before (j + 1) ≡ Some q → IsNot q.id (come_by told)) → ((m : ℕ) → Turn m t before after told) → Kind before after told
    → taken_below after (j + 1) ≡ Some r → Follows after (j + 1) (let_go (j + 1) last before told) r
line_follows_by j last t t2 before after told r st st2 goes all news turns (inl stills) taken =
    let was : taken_below before (j + 1) ≡ Some r = ap (λ (b : Body). held_in b.intake.phase) (sym (stills (j + 1)).0) ∙ taken in
    still_follows j last t t2 before after told r (record { st = st; st2 = st2; goes = goes; taken = was; taken2 = taken; stays = news r was; was = all r was }) (stills j).0 (stills j).1
line_follows_by j last t t2 before after told r st st2 goes all news turns (inr stays) taken =
    elim (below_took j t before after told r st (turns (j + 1)) taken) [
      | inl was ↦ turn_follows j last t t2 before after told r (record { st = st; st2 = st2; goes = goes; taken = was; taken2 = taken; stays = news r was; was = all r was }) stays (turns j)
      | inr started ↦ follows_started t2 after (j + 1) (let_go (j + 1) last before told) r st2 taken started.0 started.1
    ]

-- at gap 0 there is no intake that holds anything
none_taken : {X : Type 0} (t : Trace) (s : LineState) (r : Record) → Stands t s → taken_below s 0 ≡ Some r → X
none_taken t s r st taken = absurd (let no : ◌≡◌ {A = Option Record} None (Some r) = sym (ap held_in (st.rest 0 refl).intake) ∙ taken in cc)

line_follows : SaysAlone → (gap : ℕ) (last : Option Record) (number : ℕ) (line : TrackLine) (before after : LineState) (told : List Happening) → (was : Stood before) → Stood after → AreNews was.trace before told → TrackSteps number line before after told → AllFollow before gap last → AllFollow after gap (let_go gap last before told)
line_follows alone zero last number line before after told was now news steps all r taken = none_taken now.trace after r now.stands taken
line_follows alone (suc j) last number line before after told was now news steps all r taken =
    let gap : j + 1 ≡ suc j = omega arith in
    let goes : Goes before after told = track-goes number line before after told was.stands.ids steps in
    subst (λ (g : ℕ). AllFollow before g last → taken_below after g ≡ Some r → Follows after g (let_go g last before told) r) gap
    (λ follows takes. line_follows_by j last was.trace now.trace before after told r was.stands now.stands goes follows (λ q held. mark_stays was.stands news (has_intake {m = j + 1 + 1} held refl)) (track_turn alone was.trace number line before after told was.stands steps) (track_kind number line before after told steps) takes) all taken

-- ---- what settles

settled_at : (machine id : ℕ) (earlier later : List Happening) → entry_acts machine (earlier ++ happenings.Done machine (acts.Deed (deeds.Settles id)) ∷ later) ≡ entry_acts machine earlier ++ settles id ∷ entry_acts machine later
settled_at machine id earlier later = acts_append machine earlier (happenings.Done machine (acts.Deed (deeds.Settles id)) ∷ later) ∙ ap (λ (x : List Act). entry_acts machine earlier ++ x) (rw (eq-eqb machine machine refl) refl)

lies_counted_on : (t : Trace) (s : LineState) (machine x : ℕ) → Stands t s → Lies x (machine_at s.world.floor machine).boards → 1 ≤ counted x (boards_of s)
lies_counted_on t s machine x st lies = lies_on_floor t s x (at_machine machine) st.ids.whole (lies_at lies)

left_by : (t : Trace) (j id : ℕ) (last : Option Record) (s : LineState) → Stands t s → AllFollow s (j + 1) last → IsInAt (j + 1) s id → IsWhatLeft (j + 1) id last s
left_by t j id last s st all is = by (all is.board is.taken) where
  inside : Lies is.board.id (machine_at s.world.floor (j + 1 + 1)).boards
  inside = subst (λ (x : ℕ). Lies x (machine_at s.world.floor (j + 1 + 1)).boards) (sym is.named) is.inside

  by : Follows s (j + 1) last is.board → IsWhatLeft (j + 1) id last s
  by (is_held_still q held) = absurd (let no : ◌≡◌ {A = Option Record} None (Some q) = sym is.free ∙ held in cc)
  by (was_let_go left) = record { board = is.board; named = is.named; taken = is.taken; left = left }
  by (is_kept_above kept) = not_above t s (j + 1) is.board.id st (is_inside_there inside) (kept_above t s j is.board.id st kept)
  by (is_off off) = absurd (let some = lies_counted_on t s (j + 1 + 1) is.board.id st inside in omega (arith, some, off))

what_left : (t : Trace) (gap id : ℕ) (last : Option Record) (s : LineState) → Stands t s → AllFollow s gap last → IsInAt gap s id → IsWhatLeft gap id last s
what_left t zero id last s st all is = none_taken t s is.board st is.taken
what_left t (suc j) id last s st all is =
    let gap : j + 1 ≡ suc j = omega arith in
    subst (λ (g : ℕ). AllFollow s g last → IsInAt g s id → IsWhatLeft g id last s) gap (λ follows so. left_by t j id last s st follows so) all is

line_settles : SaysAlone → (gap : ℕ) (h : Hearing) (last : Option Record) (number : ℕ) (line : TrackLine) (before after : LineState) (told : List Happening) → Stood before → TrackSteps number line before after told → Told gap h before after told → AllFollow before gap last
    → (earlier later : List Happening) (id : ℕ) → told ≡ earlier ++ settles_at gap id ∷ later → IsWhatLeft gap id last before
line_settles alone gap h last number line before after told was steps t all earlier later id is =
    let so : entry_acts (gap + 1) told ≡ entry_acts (gap + 1) earlier ++ settles id ∷ entry_acts (gap + 1) later = ap (entry_acts (gap + 1)) is ∙ settled_at (gap + 1) id earlier later in
    what_left was.trace gap id last before was.stands all (said_then t.orderly (entry_acts (gap + 1) earlier) (entry_acts (gap + 1) later) id so).1

-- ---- along a run

run_keeps : SaysAlone → (gap : ℕ) (h : Hearing) (last : Option Record) (past : List Happening) (s : LineState) (asked : List TrackLine) (points : List Point) (n : ℕ) → StoodBy past s → IsRun s asked points → AreStoodBy past (take n points) → AreNewcomers past (take n asked) (take n points) → Knows h (node_at s (gap + 1)).lane.body.intake → AllFollow s gap last
    → KeepsWhatLeft gap last s (take n points)
run_keeps alone gap h last past s asked points zero was run all new k follows = tt
run_keeps alone gap h last past s [] [] (suc n) was run all new k follows = tt
run_keeps alone gap h last past s [] (point ∷ points) (suc n) was run all new k follows = absurd run
run_keeps alone gap h last past s (line ∷ asked) [] (suc n) was run all new k follows = absurd run
run_keeps alone gap h last past s (line ∷ asked) (point ∷ points) (suc n) was run all new k follows =
    let t : Told gap h s point.after point.told = line_told alone (s.lines + 1) gap h line s point.after point.told was.stood run.0 k in (
      line_settles alone gap h last (s.lines + 1) line s point.after point.told was.stood run.0 t follows,
      run_keeps alone gap (heard_all h (entry_acts (gap + 1) point.told)) (let_go gap last s point.told) (past ++ point.told) point.after asked points n all.0 run.1 all.1 new.1 t.knows (line_follows alone gap last (s.lines + 1) line s point.after point.told was.stood all.0.stood (track_news (s.lines + 1) past line s point.after point.told was new.0 run.0) run.0 follows),
    )

none_in : (machine : ℕ) → held_in (node_at no_line machine).lane.body.intake.phase ≡ None
none_in zero = refl
none_in (suc place) = refl

none_follow : (gap : ℕ) (last : Option Record) → AllFollow no_line gap last
none_follow gap last r taken = absurd (let no : ◌≡◌ {A = Option Record} None (Some r) = sym (none_in (gap + 1)) ∙ taken in cc)

-- THE LAW
pub what_settles_left : SaysAlone → ConnectsBear → WhatSettlesLeft
what_settles_left alone connects asked points n gap fit few run honest =
    run_keeps alone gap none_heard None [] no_line asked points n none_stood run (run_by alone connects [] no_line asked points n fit few none_stood run honest.told honest.newcomers) honest.newcomers (none_knows none_heard (gap + 1)) (none_follow gap None)
