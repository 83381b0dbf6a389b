-- A line of machines as the view of an id, and where the board of the id is then.
use Rattle.std.proofs.Common.{
  ◌≡◌,
  ◌+◌,
  ◌-◌,
  ◌==◌,
  ◌⊎◌,
  ◌∙◌,
  ◌||◌,
  ℕ,
  zero,
  suc,
  Bool,
  true,
  false,
  List,
  [],
  Option,
  Some,
  None,
  ap,
  arith,
  eq-eqb,
  inl,
  inr,
  is_some,
  ne_eqb,
  refl,
  subst,
  sym,
}
use Rattle.std.specs.List.{list_any}
use Rattle.std.proofs.lemmas.Bool.{false_from_ne_true}
use Rattle.law_history.proofs.Where.{none_some, starts_upstream, left_there, begun_is}
use Rattle.line_base.specs.declared.states.SensorEvent.{SensorEvent}
use Rattle.board_record.specs.declared.record.Record.{Record}
use Rattle.line_world.specs.FloorPlan.{machine_at}
use Rattle.line_world.specs.declared.gap.Gap.{Gap}
use Rattle.line_world.specs.declared.gap.Gap.TheVariants as gaps
use Rattle.handover_out.specs.declared.phase.Phase.{Phase as Out}
use Rattle.handover_out.specs.State.{board_of_phase as held_out}
use Rattle.handover_in.specs.State.{board_of_phase as held_in}
use Rattle.node_core.specs.Own.{own_of}
use Rattle.law_custody.specs.Contents.{Kept}
use Rattle.law_custody.specs.Floor.{
  ExitFloor,
  at_start,
  begun_read,
  begun_unread,
  both_gone,
  both_unread,
  left_gone,
  left_unread,
  out_ended,
  out_idle,
  stuck_back,
  stuck_begun,
  stuck_gone,
  stuck_left,
  stuck_left_gone,
}
use Rattle.law_custody.specs.Place.{
  Across,
  Beyond,
  Fresh,
  Home,
  InGap,
  Inside,
  Lost,
  Place,
  Stolen,
  beyond_across,
  beyond_inside,
  is_away,
  is_upstream,
}
use Rattle.law_custody.proofs.Facts.{in_holds, out_holds}
use Rattle.law_custody.proofs.Promised.{board_across}
use Rattle.law_machine_custody.specs.Good.{Lies}
use Rattle.law_machine_custody.proofs.Holding.{kept_upstream}
use Rattle.standings.specs.Ledger.{are_different}
use Rattle.standings.specs.declared.mark.Mark.{Mark}
use Rattle.standings.specs.declared.mark.Mark.TheVariants as marks
use Rattle.line_step.specs.FloorIds.{boards_of}
use Rattle.line_step.specs.Numbered.{node_at}
use Rattle.line_step.specs.State.{LineState}
use Rattle.law_one_standing.specs.Carried.{Trace, between_of, stand_of}
use Rattle.law_one_standing.specs.Facts.{HasCustodyFacts, LiesLeft}
use Rattle.law_one_standing.specs.Places.{
  LiesAt,
  LiesIn,
  Spot,
  at_machine,
  in_gap,
  lies_at,
  lies_begun,
  lies_in,
  lies_left,
}
use Rattle.law_one_standing.specs.Relation.{Neighbours, link_between}
use Rattle.law_one_standing.specs.Stands.{Stands}
use Rattle.law_one_standing.specs.Standing.{HasOneStanding}
use Rattle.law_one_standing.proofs.ApartFloor.{counted, lies_on_floor}
use Rattle.law_one_standing.proofs.ApartStep.{gone_count}
use Rattle.law_one_standing.proofs.Elsewhere.{inside_lies}
use Rattle.law_one_standing.proofs.LedgerMarks.{differ_of}
use Rattle.law_one_standing.proofs.LedgerSteps.{all_of}
use Rattle.law_one_standing.proofs.MarksOf.{
  HasMark,
  has_intake,
  has_kept,
  has_outlet,
  held_id,
  id_held,
  id_kept,
  kept_id,
}
use Rattle.law_one_standing.proofs.MarksPlace.{in_front, in_middle, part_lies_at}
use Rattle.law_one_standing.proofs.OneStand.{has_end, link_of, same_link, by_numbers}
use Rattle.law_history.specs.LetGo.{held_above, taken_below}
use Rattle.law_history.proofs.Stepping.{IsJustStarted}
use Rattle.law_supervisor_replay.proofs.Bodies.{
  holds_it,
  is_leaving_event,
  keeps_it,
  misses_it,
  takes_it,
  will_leave,
}
use Rattle.law_supervisor_replay.proofs.Meeting.{floor_sees}
use Rattle.law_supervisor_replay.proofs.Views.{IsFrom, IsPlaced, IsSole, View}

abbrev pub view_of : ℕ → LineState → View
view_of id s = record {
  kept = λ i. keeps_it id (node_at s i).lane.body;
  held = λ i. holds_it id (node_at s i).lane.body;
  taken = λ i. takes_it id (node_at s i).lane.body;
  leaving = λ i. will_leave (machine_at s.world.floor i).unread;
  missing = λ i. misses_it (node_at s i).lane.body (machine_at s.world.floor i).unread;
  off = counted id (boards_of s) == 0;
}

-- the ids that a machine has differ
pub different_of : (t : Trace) (s : LineState) (machine : ℕ) → Stands t s
    → are_different (all_of (own_of (node_at s machine).lane.body)) ≡ true
different_of t s machine st = differ_of machine st

-- ---- two neighbours, and the marks of an id

near : (t : Trace) (s : LineState) (j : ℕ) → Stands t s
    → Neighbours (stand_of s j) (between_of t s j) (stand_of s (j + 1))
near t s j st = st.keeps.neighbours.at j

pub true_false : {X : Type 0} {b : Bool} → b ≡ true → b ≡ false → X
true_false one two = cc

kept_mark : (s : LineState) (id machine : ℕ) → keeps_it id (node_at s machine).lane.body ≡ true
    → HasMark (stand_of s) id (marks.Kept machine)
kept_mark s id machine is = has_kept (id_kept id (node_at s machine).lane.body.kept is)

holding : (s : LineState) (id machine : ℕ) → holds_it id (node_at s machine).lane.body ≡ true
    → (q : Record) × (held_above s machine ≡ Some q) × (q.id ≡ id)
holding s id machine is = id_held id (held_above s machine) is

held_mark : (s : LineState) (id machine : ℕ) → holds_it id (node_at s machine).lane.body ≡ true
    → HasMark (stand_of s) id (marks.Outlet machine)
held_mark s id machine is = let own = holding s id machine is in has_outlet own.1 own.2

taken_mark : (s : LineState) (id machine : ℕ) → takes_it id (node_at s machine).lane.body ≡ true
    → HasMark (stand_of s) id (marks.Intake machine)
taken_mark s id machine is =
    let own = id_held id (held_in (node_at s machine).lane.body.intake.phase) is in
    has_intake own.1 own.2

-- machine 0 takes nothing
taken_counted : (s : LineState) (id machine : ℕ)
    → takes_it id (node_at s machine).lane.body ≡ true → machine - 1 + 1 ≡ machine
taken_counted s id zero is = absurd (let never : false ≡ true = is in cc)
taken_counted s id (suc before) is = omega arith

-- the intake's link is that above its machine
below_of : {t : Trace} {s : LineState} {id : ℕ} {mark : Mark} (j : ℕ) → Stands t s
    → HasMark (stand_of s) id mark → takes_it id (node_at s j).lane.body ≡ true
    → j ≡ link_of mark + 1
below_of {s = s} {id = id} j st has taken =
    sym (taken_counted s id j taken)
    ∙ ap (λ (n : ℕ). n + 1) (same_link (by_numbers st) (taken_mark s id j taken) has)

-- the marks of an id have one standing
pub sole_of : (t : Trace) (s : LineState) (id : ℕ) → Stands t s → HasOneStanding s
    → IsSole (view_of id s)
sole_of t s id st one = record {
  one_taken = λ i j here there. sym (below_of j st (taken_mark s id i here) there
      ∙ taken_counted s id i here);
  kept_above = λ i j kept taken. below_of j st (kept_mark s id i kept) taken;
  held_above = λ i j held taken. below_of j st (held_mark s id i held) taken;
  apart = λ j kept. false_from_ne_true (holds_it id (node_at s j).lane.body) (one.kept_alone j id kept);
}

next_apart : (j : ℕ) → j ≡ j + 1 → ⊥
next_apart j is = omega (arith, is)

-- one mark at machine j + 1, none above it but in their handover
none_above : {t : Trace} {s : LineState} {id : ℕ} {mark : Mark} (j : ℕ) → Stands t s
    → HasMark (stand_of s) id mark → link_of mark ≡ j + 1
    → (keeps_it id (node_at s j).lane.body ≡ false) × (holds_it id (node_at s j).lane.body ≡ false)
none_above {s = s} {id = id} j st has at = (
  false_from_ne_true (keeps_it id (node_at s j).lane.body)
      (λ is. next_apart j (same_link (by_numbers st) (kept_mark s id j is) has ∙ at)),
  false_from_ne_true (holds_it id (node_at s j).lane.body)
      (λ is. next_apart j (same_link (by_numbers st) (held_mark s id j is) has ∙ at)),
)

-- a machine above and one below have not both the board, but in their handover
pub alone_of : (t : Trace) (s : LineState) (id j : ℕ) → Stands t s → HasOneStanding s
    → (keeps_it id (node_at s (j + 1)).lane.body ≡ true)
    ⊎ (holds_it id (node_at s (j + 1)).lane.body ≡ true)
    → (keeps_it id (node_at s j).lane.body ≡ false) × (holds_it id (node_at s j).lane.body ≡ false)
alone_of t s id j st one has = elim has [
  | inl kept ↦ none_above j st (kept_mark s id (j + 1) kept) refl
  | inr held ↦ none_above j st (held_mark s id (j + 1) held) refl
]

-- ---- on the floor, or off it

off_gone : (t : Trace) (s : LineState) (k id : ℕ) → Stands t s → t.gone k id ≡ true
    → (counted id (boards_of s) == 0) ≡ true
off_gone t s k id st gone =
    eq-eqb (counted id (boards_of s)) 0
    (gone_count t s k id (record { apart = st.keeps.apart; olds = st.olds }) gone)

pub on_floor : (t : Trace) (s : LineState) (id : ℕ) (p : Spot) → Stands t s
    → LiesAt (stand_of s) (between_of t s) id p → (counted id (boards_of s) == 0) ≡ false
on_floor t s id p st lies =
    ne_eqb (counted id (boards_of s)) 0
    (λ none. omega (arith, none, lies_on_floor t s id p st.ids.whole lies))

-- ---- what a half will read, by the place of its board

-- an outlet that will read that its board has left: it is beyond the gap, or was taken out there
left_or_stolen : {o : Out} {es : List SensorEvent} {drive : Bool} {p : Place} {b : Record}
    (q : Record) → ExitFloor o es drive p b → held_out o ≡ Some q
    → list_any is_leaving_event es ≡ true → Beyond p ⊎ (p ≡ Stolen)
left_or_stolen q (out_idle taken apart) held leaving = none_some q held
left_or_stolen q (out_ended taken apart) held leaving = none_some q held
left_or_stolen q at_start held leaving = absurd (let never : false ≡ true = leaving in cc)
left_or_stolen q begun_unread held leaving = absurd (let never : false ≡ true = leaving in cc)
left_or_stolen q begun_read held leaving = absurd (let never : false ≡ true = leaving in cc)
left_or_stolen q (both_unread far) held leaving = inl far
left_or_stolen q (left_unread far) held leaving = inl far
left_or_stolen q both_gone held leaving = inr refl
left_or_stolen q left_gone held leaving = inr refl
left_or_stolen q stuck_begun held leaving = absurd (let never : false ≡ true = leaving in cc)
left_or_stolen q stuck_back held leaving = absurd (let never : false ≡ true = leaving in cc)
left_or_stolen q stuck_gone held leaving = absurd (let never : false ≡ true = leaving in cc)
left_or_stolen q (stuck_left far) held leaving = inl far
left_or_stolen q stuck_left_gone held leaving = inr refl

no_leaving : {X : Type 0} {p : Place} → Beyond p ⊎ (p ≡ Stolen) → is_upstream p ≡ true → X
no_leaving (inl beyond_across) up = absurd (let never : false ≡ true = up in cc)
no_leaving (inl beyond_inside) up = absurd (let never : false ≡ true = up in cc)
no_leaving (inr is) up = absurd (let never : false ≡ true = sym (ap is_upstream is) ∙ up in cc)

missing_at : (t : Trace) (s : LineState) (id j : ℕ) → Stands t s
    → (view_of id s).taken (j + 1) ≡ true
    → (view_of id s).missing (j + 1) ≡ is_away (t.ghost j).place
missing_at t s id j st taken =
    let n = near t s j st in
    let own = id_held id (taken_below s j) taken in
    floor_sees n.pair.in (ap is_some own.1)

upstream_here : (p : Place) → is_upstream p ≡ true → is_away p ≡ false
upstream_here Fresh up = refl
upstream_here Home up = refl
upstream_here InGap up = refl
upstream_here Across up = refl
upstream_here Inside up = refl
upstream_here Lost up = absurd (let never : false ≡ true = up in cc)
upstream_here Stolen up = absurd (let never : false ≡ true = up in cc)

-- ---- a board beyond the gap

-- the board of an outlet, where the ghost is across
across_at : (t : Trace) (s : LineState) (j : ℕ) → Stands t s → (t.ghost j).place ≡ Across
    → LiesLeft s j (t.ghost j).board.id
across_at t s j st at =
    let n = near t s j st in
    left_there (rw at at n.pair.gap)

ghost_named : (t : Trace) (s : LineState) (id j : ℕ) (q : Record) → Stands t s
    → held_above s j ≡ Some q → q.id ≡ id → (t.ghost j).board.id ≡ id
ghost_named t s id j q st held same =
    let n = near t s j st in
    ap (λ (r : Record). r.id) (out_holds n.pair.out held) ∙ same

-- the intake below holds it
taken_beyond : (t : Trace) (s : LineState) (id j : ℕ) (q : Record) (p : Place) → Stands t s
    → (t.ghost j).place ≡ p → Beyond p → held_above s j ≡ Some q → q.id ≡ id
    → (view_of id s).taken (j + 1) ≡ true
taken_beyond t s id j q _ st at beyond_across held same =
    let n = near t s j st in
    let found = board_across (t.ghost j)
    (link_between (stand_of s j) (between_of t s j) (stand_of s (j + 1)))
    (record { id = Some (t.ghost j).board.id }) n.pair (across_at t s j st at) in
    held_id id (taken_below s j) (t.ghost j).board found.0 (ghost_named t s id j q st held same)
taken_beyond t s id j q _ st at beyond_inside held same =
    let n = near t s j st in
    held_id id (taken_below s j) q (n.holds.inside q held (rw at refl)) same

-- and it lies on the floor
lies_beyond : (t : Trace) (s : LineState) (id j : ℕ) (q : Record) (p : Place) → Stands t s
    → (t.ghost j).place ≡ p → Beyond p → held_above s j ≡ Some q → q.id ≡ id
    → (view_of id s).off ≡ false
lies_beyond t s id j q _ st at beyond_across held same =
    let left : LiesLeft s j id =
    subst (λ (x : ℕ). LiesLeft s j x) (ghost_named t s id j q st held same)
    (across_at t s j st at) in
    on_floor t s id (in_gap j) st (lies_in (subst (λ (l : Gap). LiesIn id l) (sym left) lies_left))
lies_beyond t s id j q _ st at beyond_inside held same =
    let n = near t s j st in
    let lies : Lies q.id (machine_at s.world.floor (j + 1)).boards =
    inside_lies (st.keeps.machines.at j).boards q (n.holds.inside q held (rw at refl))
    (rw at refl) in
    on_floor t s id (at_machine (j + 1)) st
    (lies_at (subst (λ (x : ℕ). Lies x (machine_at s.world.floor (j + 1)).boards) same lies))

-- ---- where the board is

-- of one whose outlet will read that it has left
gone_beyond : (t : Trace) (s : LineState) (id j : ℕ) → Stands t s → (view_of id s).held j ≡ true
    → (view_of id s).leaving j ≡ true → Beyond (t.ghost j).place ⊎ ((t.ghost j).place ≡ Stolen)
gone_beyond t s id j st held leaving =
    let n = near t s j st in
    let own = holding s id j held in
    left_or_stolen own.0 n.pair.out own.1 leaving

off_stolen : (t : Trace) (s : LineState) (id j : ℕ) → Stands t s → (view_of id s).held j ≡ true
    → (t.ghost j).place ≡ Stolen → (view_of id s).off ≡ true
off_stolen t s id j st held at =
    let n = near t s j st in
    let own = holding s id j held in
    off_gone t s j id st
    (subst (λ (x : ℕ). t.gone j x ≡ true) own.2 (n.holds.away_out own.0 own.1 (rw at refl)))

beyond_of : (t : Trace) (s : LineState) (id j : ℕ) → Stands t s → (view_of id s).held j ≡ true
    → (view_of id s).leaving j ≡ true → (view_of id s).off ≡ false
    → (view_of id s).taken (j + 1) ≡ true
beyond_of t s id j st held leaving on =
    let own = holding s id j held in
    elim (gone_beyond t s id j st held leaving) [
      | inl far ↦ taken_beyond t s id j own.0 (t.ghost j).place st refl far own.1 own.2
      | inr stolen ↦ true_false (off_stolen t s id j st held stolen) on
    ]

nowhere_of : (t : Trace) (s : LineState) (id j : ℕ) → Stands t s
    → (view_of id s).taken (j + 1) ≡ true → (view_of id s).missing (j + 1) ≡ true
    → (view_of id s).off ≡ true
nowhere_of t s id j st taken missing =
    let n = near t s j st in
    let own = id_held id (taken_below s j) taken in
    let gone : t.gone j own.0.id ≡ true =
    n.holds.away_in own.0 own.1 (sym (missing_at t s id j st taken) ∙ missing) in
    off_gone t s j id st (subst (λ (x : ℕ). t.gone j x ≡ true) own.2 gone)

will_see_of : (t : Trace) (s : LineState) (id j : ℕ) → Stands t s → (view_of id s).held j ≡ true
    → (view_of id s).leaving j ≡ true → (view_of id s).taken (j + 1) ≡ true
    → (view_of id s).off ≡ true → (view_of id s).missing (j + 1) ≡ true
will_see_of t s id j st held leaving taken off =
    let own = holding s id j held in
    elim (gone_beyond t s id j st held leaving) [
      | inl far ↦
          true_false off (lies_beyond t s id j own.0 (t.ghost j).place st refl far own.1 own.2)
      | inr stolen ↦ missing_at t s id j st taken ∙ ap is_away stolen
    ]

pub placed_of : (t : Trace) (s : LineState) (id : ℕ) → Stands t s → HasOneStanding s
    → HasCustodyFacts s → IsPlaced (view_of id s)
placed_of t s id st one facts = record {
  beyond = λ j held leaving on. beyond_of t s id j st held leaving on;
  nowhere = λ j taken missing. nowhere_of t s id j st taken missing;
  will_see = λ j held leaving taken off. will_see_of t s id j st held leaving taken off;
}

-- ---- upstream, and away

-- the outlet holds it, or nothing
held_or_none : (t : Trace) (s : LineState) (id j : ℕ) → Stands t s
    → (view_of id s).taken (j + 1) ≡ true → (view_of id s).held j ≡ false
    → (h : Option Record) → held_above s j ≡ h → held_above s j ≡ None
held_or_none t s id j st taken none None is = is
held_or_none t s id j st taken none (Some q) is =
    let n = near t s j st in
    let own = id_held id (taken_below s j) taken in
    let same : q ≡ own.0 = sym (out_holds n.pair.out is) ∙ in_holds n.pair.in own.1 in
    true_false (held_id id (held_above s j) q is (ap (λ (r : Record). r.id) same ∙ own.2)) none

kept_or_off : (t : Trace) (s : LineState) (id j : ℕ) (r : Record) → Stands t s → r.id ≡ id
    → (view_of id s).off ≡ false → Kept r.id (node_at s j).lane.body.kept ⊎ (t.gone j r.id ≡ true)
    → (view_of id s).kept j ≡ true
kept_or_off t s id j r st same on (inl kept) =
    kept_id (subst (λ (x : ℕ). Kept x (node_at s j).lane.body.kept) same kept)
kept_or_off t s id j r st same on (inr gone) =
    true_false (off_gone t s j id st (subst (λ (x : ℕ). t.gone j x ≡ true) same gone)) on

-- where the board of the handover above machine j + 1 is upstream, it was not taken out and has not
-- left, and it is kept or held above, or nowhere
pub upstream_of : (t : Trace) (s : LineState) (id j : ℕ) → Stands t s
    → is_upstream (t.ghost j).place ≡ true → (view_of id s).taken (j + 1) ≡ true
    → ((view_of id s).missing (j + 1) ≡ false)
    × (((view_of id s).held j ≡ true → (view_of id s).leaving j ≡ false)
    × ((view_of id s).held j ≡ false → (view_of id s).off ≡ false → (view_of id s).kept j ≡ true))
upstream_of t s id j st place taken =
    let n = near t s j st in
    let own = id_held id (taken_below s j) taken in (
      missing_at t s id j st taken ∙ upstream_here (t.ghost j).place place,
      (
        (λ held. false_from_ne_true ((view_of id s).leaving j)
            (λ leaving. no_leaving (gone_beyond t s id j st held leaving) place)),
        (λ none on. kept_or_off t s id j own.0 st own.2 on
            (kept_upstream n.holds own.0 own.1
            (held_or_none t s id j st taken none (held_above s j) refl) place)),
      ),
    )

pub away_of : (t : Trace) (s : LineState) (id j : ℕ) → Stands t s → is_away (t.ghost j).place ≡ true
    → (view_of id s).taken (j + 1) ≡ true → (view_of id s).missing (j + 1) ≡ true
away_of t s id j st place taken = missing_at t s id j st taken ∙ place

-- ---- kept, or just started

-- a board that is kept is on the floor
pub kept_on : (t : Trace) (s : LineState) (id j : ℕ) → Stands t s → (view_of id s).kept j ≡ true
    → (view_of id s).off ≡ false
kept_on t s id j st kept =
    on_floor t s id (at_machine j) st
    (lies_at (part_lies_at (has_end t s st) st.keeps
    (in_middle (id_kept id (node_at s j).lane.body.kept kept))))

-- a board that was just started, by a machine that has read all events, is on the floor where the
-- outlet above holds it
pub started_there : (t : Trace) (s : LineState) (id j : ℕ) → Stands t s
    → (machine_at s.world.floor (j + 1)).unread ≡ []
    → takes_it id (node_at s (j + 1)).lane.body ≡ true
    → IsJustStarted (node_at s (j + 1)).lane.body.intake.phase
    → holds_it id (node_at s j).lane.body ≡ true → (counted id (boards_of s) == 0) ≡ false
started_there t s id j st unread takes started holds =
    let n = near t s j st in
    let up : is_upstream (t.ghost j).place ≡ true =
    starts_upstream (rw unread at n.pair.in) started in
    let own = holding s id j holds in
    on_floor t s id (at_machine j) st
    (lies_at (part_lies_at (has_end t s st) st.keeps (in_front own.1 own.2 up)))

-- it is of a board that the machine above keeps or holds, or that is off the floor
from_by : (kept held off : Bool) → (held ≡ false → off ≡ false → kept ≡ true)
    → (kept ≡ true) ⊎ ((held ≡ true) ⊎ (off ≡ true))
from_by kept true off next = inr (inl refl)
from_by kept false true next = inr (inr refl)
from_by kept false false next = inl (next refl refl)

pub started_from : (t : Trace) (s : LineState) (id j : ℕ) → Stands t s
    → (machine_at s.world.floor (j + 1)).unread ≡ []
    → takes_it id (node_at s (j + 1)).lane.body ≡ true
    → IsJustStarted (node_at s (j + 1)).lane.body.intake.phase
    → IsFrom j (view_of id s) (view_of id s).off
started_from t s id j st unread takes started =
    let n = near t s j st in
    let up : is_upstream (t.ghost j).place ≡ true =
    starts_upstream (rw unread at n.pair.in) started in
    from_by ((view_of id s).kept j) ((view_of id s).held j) (view_of id s).off
    (upstream_of t s id j st up takes).1.1

-- ---- what a machine has that has read all events

-- the board of its outlet is in its list still, or lies begun
held_where : {o : Out} {drive : Bool} {p : Place} {b : Record} (q : Record)
    → ExitFloor o [] drive p b → held_out o ≡ Some q → (is_upstream p ≡ true) ⊎ (p ≡ InGap)
held_where q (out_idle taken apart) held = none_some q held
held_where q (out_ended taken apart) held = none_some q held
held_where q at_start held = inl refl
held_where q begun_read held = inr refl
held_where q stuck_begun held = inr refl

lies_begun_at : (t : Trace) (s : LineState) (id j : ℕ) (q : Record) → Stands t s
    → (t.ghost j).place ≡ InGap → held_above s j ≡ Some q → q.id ≡ id
    → LiesIn id (between_of t s j).gap.lies
lies_begun_at t s id j q st at held same =
    let n = near t s j st in
    let begun : (between_of t s j).gap.lies
    ≡ gaps.Begun (record { id = Some (t.ghost j).board.id }) =
    begun_is (rw at at n.pair.gap) in
    subst (λ (x : ℕ). LiesIn x (between_of t s j).gap.lies) (ghost_named t s id j q st held same)
    (subst (λ (l : Gap). LiesIn (t.ghost j).board.id l) (sym begun) lies_begun)

held_on : (t : Trace) (s : LineState) (id j : ℕ) → Stands t s
    → (machine_at s.world.floor j).unread ≡ [] → (view_of id s).held j ≡ true
    → (view_of id s).off ≡ false
held_on t s id j st unread held =
    let n = near t s j st in
    let own = holding s id j held in
    elim (held_where own.0 (rw unread at n.pair.out) own.1) [
      | inl up ↦ on_floor t s id (at_machine j) st
          (lies_at (part_lies_at (has_end t s st) st.keeps (in_front own.1 own.2 up)))
      | inr at ↦ on_floor t s id (in_gap j) st
          (lies_in (lies_begun_at t s id j own.0 st at own.1 own.2))
    ]

-- what it keeps or holds is on the floor
pub has_on : (t : Trace) (s : LineState) (id j : ℕ) → Stands t s
    → (machine_at s.world.floor j).unread ≡ []
    → ((view_of id s).kept j ≡ true) ⊎ ((view_of id s).held j ≡ true)
    → (view_of id s).off ≡ false
has_on t s id j st unread (inl kept) = kept_on t s id j st kept
has_on t s id j st unread (inr held) = held_on t s id j st unread held
