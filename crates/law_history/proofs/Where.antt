-- Where the board of a handover is, by what the halves hold: read off the relation of the line.
use Rattle.std.proofs.Common.{Bool, List, None, Option, Some, [], ap, inl, inr, refl, subst, sym, true, ℕ, ◌+◌, ◌∙◌, ◌≡◌, ◌⊎◌, arith}
use Rattle.line_base.specs.declared.states.SensorEvent.{SensorEvent}
use Rattle.line_base.specs.declared.states.Side.TheVariants.{Exit}
use Rattle.board_record.specs.declared.record.Record.{Record}
use Rattle.line_world.specs.FloorPlan.{gap_at, machine_at}
use Rattle.line_world.specs.declared.board.Board.{Board}
use Rattle.line_world.specs.declared.gap.Gap.{Gap}
use Rattle.line_world.specs.declared.gap.Gap.TheVariants as gaps
use Rattle.handover_out.specs.declared.phase.Phase.{Phase as Out}
use Rattle.handover_out.specs.State.{board_of_phase as held_out}
use Rattle.handover_in.specs.declared.phase.Phase.{Phase as In}
use Rattle.handover_in.specs.State.{board_of_phase as held_in}
use Rattle.law_custody.specs.Contents.{Kept}
use Rattle.law_custody.specs.Floor.{EntryFloor, ExitFloor, GapAt, at_start, begun_read, begun_unread, both_gone, both_unread, gap_begun, gap_left, in_free, in_stopped, in_taken_in, in_taking, in_waiting, in_waiting_on, left_gone, left_unread, on_across, on_begun, out_ended, out_idle, sees_fresh, sees_home, stuck_back, stuck_begun, stuck_gone, stuck_left, stuck_left_gone}
use Rattle.law_custody.specs.Pair.{Body}
use Rattle.law_custody.specs.Place.{Across, Fresh, Home, InGap, Inside, Lost, Place, Stolen, beyond_across, beyond_inside, is_upstream}
use Rattle.law_custody.specs.Words.{events_at}
use Rattle.law_machine_custody.specs.Good.{Lies, lies_first}
use Rattle.law_machine_custody.proofs.Holding.{kept_upstream}
use Rattle.law_machine_custody.proofs.Keeping.{kept_lies}
use Rattle.line_step.specs.FloorIds.{boards_of}
use Rattle.line_step.specs.Numbered.{node_at}
use Rattle.line_step.specs.State.{LineState}
use Rattle.law_one_standing.specs.Carried.{Trace, between_of, stand_of}
use Rattle.law_one_standing.specs.Facts.{LiesLeft}
use Rattle.law_one_standing.specs.Places.{LiesAt, LiesIn, at_machine, in_gap, lies_at, lies_begun, lies_in, lies_left}
use Rattle.law_one_standing.specs.Relation.{Neighbours}
use Rattle.law_one_standing.specs.Stands.{Stands}
use Rattle.law_one_standing.proofs.ApartFloor.{counted}
use Rattle.law_one_standing.proofs.ApartStep.{gone_count}
use Rattle.law_one_standing.proofs.Elsewhere.{inside_lies}
use Rattle.law_history.specs.LetGo.{held_above, taken_below}
use Rattle.law_history.proofs.Leaving.{LeavesBy, leaves_by}
use Rattle.law_history.proofs.Stepping.{IsJustStarted}

-- the board of an id lies across the gap, or in the list of the machine below it
pub data IsBeyond (s : LineState) (gap id : ℕ) : Type 0 where
  is_across : LiesLeft s gap id → IsBeyond s gap id
  is_inside_there : Lies id (machine_at s.world.floor (gap + 1)).boards → IsBeyond s gap id

-- a board that the intake alone holds is kept above, gone from the floor, or beyond the gap
pub data WhereAlone (s : LineState) (gap : ℕ) (r : Record) : Type 0 where
  alone_kept : Kept r.id (node_at s gap).lane.body.kept → WhereAlone s gap r
  alone_gone : counted r.id (boards_of s) ≡ 0 → WhereAlone s gap r
  alone_beyond : IsBeyond s gap r.id → WhereAlone s gap r

-- ---- the board of a half is that of the handover

pub none_some : {X : Type 0} (r : Record) → ◌≡◌ {A = Option Record} None (Some r) → X
none_some r is = cc

entry_board : {i : In} {es : List SensorEvent} {drive : Bool} {p : Place} {b : Record} (r : Record) → EntryFloor i es drive p b → held_in i ≡ Some r → b ≡ r
entry_board r (in_free full across) held = none_some r held
entry_board r (in_taking sees) held = cc
entry_board r (in_taken_in sees) held = cc
entry_board r (in_stopped sees) held = cc
entry_board r (in_waiting sees) held = cc
entry_board r in_waiting_on held = cc

exit_board : {o : Out} {es : List SensorEvent} {drive : Bool} {p : Place} {b : Record} (q : Record) → ExitFloor o es drive p b → held_out o ≡ Some q → b ≡ q
exit_board q (out_idle taken apart) held = none_some q held
exit_board q (out_ended taken apart) held = none_some q held
exit_board q at_start held = cc
exit_board q begun_unread held = cc
exit_board q begun_read held = cc
exit_board q (both_unread far) held = cc
exit_board q (left_unread far) held = cc
exit_board q both_gone held = cc
exit_board q left_gone held = cc
exit_board q stuck_begun held = cc
exit_board q stuck_back held = cc
exit_board q stuck_gone held = cc
exit_board q (stuck_left far) held = cc
exit_board q stuck_left_gone held = cc

-- a board that lies begun is the outlet's
exit_in_gap : {o : Out} {es : List SensorEvent} {drive : Bool} {b : Record} {X : Type 0} → ExitFloor o es drive InGap b → held_out o ≡ None → X
exit_in_gap (out_idle taken apart) none = elim apart [ ]
exit_in_gap (out_ended taken apart) none = elim apart [ ]
exit_in_gap begun_unread none = cc
exit_in_gap begun_read none = cc
exit_in_gap (both_unread far) none = elim far [ ]
exit_in_gap (left_unread far) none = elim far [ ]
exit_in_gap stuck_begun none = cc
exit_in_gap (stuck_left far) none = elim far [ ]

-- a transport that has just started, and whose machine has read all events, is of a board upstream
pub starts_upstream : {i : In} {drive : Bool} {p : Place} {b : Record} → EntryFloor i [] drive p b → IsJustStarted i → is_upstream p ≡ true
starts_upstream (in_free full across) started = absurd started
starts_upstream (in_taking sees_fresh) started = refl
starts_upstream (in_taking sees_home) started = refl
starts_upstream (in_taking on_begun) started = absurd started
starts_upstream (in_taking on_across) started = absurd started
starts_upstream (in_taken_in so) started = elim so [ ]
starts_upstream (in_stopped sees) started = absurd started
starts_upstream (in_waiting sees) started = absurd started
starts_upstream in_waiting_on started = absurd started

-- ---- where it is

pub left_there : {lies : Gap} {b : Record} → GapAt lies Across b → lies ≡ gaps.Left (record { id = Some b.id })
left_there gap_left = refl

or_kept : {s : LineState} {gap : ℕ} {r : Record} {gone : ℕ → Bool} → ((x : ℕ) → gone x ≡ true → counted x (boards_of s) ≡ 0) → Kept r.id (node_at s gap).lane.body.kept ⊎ (gone r.id ≡ true) → WhereAlone s gap r
or_kept none (inl kept) = alone_kept kept
or_kept {r = r} none (inr is) = alone_gone (none r.id is)

alone_by : (t : Trace) (s : LineState) (gap : ℕ) (r : Record) (p : Place) → Stands t s → (t.ghost gap).place ≡ p → taken_below s gap ≡ Some r → held_above s gap ≡ None → WhereAlone s gap r
alone_by t s gap r Fresh st at taken none =
    let n : Neighbours (stand_of s gap) (between_of t s gap) (stand_of s (gap + 1)) = st.keeps.neighbours.at gap in
    or_kept (λ x is. gone_count t s gap x (record { apart = st.keeps.apart; olds = st.olds }) is) (kept_upstream n.holds r taken none (rw at refl))
alone_by t s gap r Home st at taken none =
    let n : Neighbours (stand_of s gap) (between_of t s gap) (stand_of s (gap + 1)) = st.keeps.neighbours.at gap in
    or_kept (λ x is. gone_count t s gap x (record { apart = st.keeps.apart; olds = st.olds }) is) (kept_upstream n.holds r taken none (rw at refl))
alone_by t s gap r InGap st at taken none =
    let n : Neighbours (stand_of s gap) (between_of t s gap) (stand_of s (gap + 1)) = st.keeps.neighbours.at gap in
    exit_in_gap (rw at at n.pair.out) none
alone_by t s gap r Across st at taken none =
    let n : Neighbours (stand_of s gap) (between_of t s gap) (stand_of s (gap + 1)) = st.keeps.neighbours.at gap in
    alone_beyond (is_across (left_there (rw at at n.pair.gap) ∙ ap (λ (b : Record). gaps.Left (record { id = Some b.id })) (entry_board r n.pair.in taken)))
alone_by t s gap r Inside st at taken none = alone_beyond (is_inside_there (inside_lies (st.keeps.machines.at gap).boards r taken (rw at refl)))
alone_by t s gap r Lost st at taken none =
    let n : Neighbours (stand_of s gap) (between_of t s gap) (stand_of s (gap + 1)) = st.keeps.neighbours.at gap in
    alone_gone (gone_count t s gap r.id (record { apart = st.keeps.apart; olds = st.olds }) (n.holds.away_in r taken (rw at refl)))
alone_by t s gap r Stolen st at taken none =
    let n : Neighbours (stand_of s gap) (between_of t s gap) (stand_of s (gap + 1)) = st.keeps.neighbours.at gap in
    alone_gone (gone_count t s gap r.id (record { apart = st.keeps.apart; olds = st.olds }) (n.holds.away_in r taken (rw at refl)))

pub where_alone : (t : Trace) (s : LineState) (gap : ℕ) (r : Record) → Stands t s → taken_below s gap ≡ Some r → held_above s gap ≡ None → WhereAlone s gap r
where_alone t s gap r st taken none = alone_by t s gap r (t.ghost gap).place st refl taken none

-- where a transport has just started it isn't beyond
pub where_started : (t : Trace) (s : LineState) (gap : ℕ) (r : Record) → Stands t s → taken_below s gap ≡ Some r → held_above s gap ≡ None → IsJustStarted (node_at s (gap + 1)).lane.body.intake.phase → (machine_at s.world.floor (gap + 1)).unread ≡ []
    → Kept r.id (node_at s gap).lane.body.kept ⊎ (counted r.id (boards_of s) ≡ 0)
where_started t s gap r st taken none started unread =
    let n : Neighbours (stand_of s gap) (between_of t s gap) (stand_of s (gap + 1)) = st.keeps.neighbours.at gap in
    let up : is_upstream (t.ghost gap).place ≡ true = starts_upstream (rw unread at n.pair.in) started in
    elim (kept_upstream n.holds r taken none up) [ inl kept ↦ inl kept | inr gone ↦ inr (gone_count t s gap r.id (record { apart = st.keeps.apart; olds = st.olds }) gone) ]

-- ---- a board that the outlet holds, and that lies beyond, has left by what is unread

begun_not_left : {X : Type 0} {a b : Board} → gaps.Begun a ≡ gaps.Left b → X
begun_not_left is = cc

-- it lies there and nowhere else
pub beyond_at : (t : Trace) (s : LineState) (gap x : ℕ) → IsBeyond s gap x → LiesAt (stand_of s) (between_of t s) x (in_gap gap) ⊎ LiesAt (stand_of s) (between_of t s) x (at_machine (gap + 1))
beyond_at t s gap x (is_across left) = inl (lies_in (subst (λ (l : Gap). LiesIn x l) (sym left) lies_left))
beyond_at t s gap x (is_inside_there lies) = inr (lies_at lies)

-- a list further above is another place
list_apart : {X : Type 0} (gap : ℕ) → at_machine gap ≡ at_machine (gap + 1) → X
list_apart gap is = absurd (let same : gap ≡ gap + 1 = cc in omega (arith, same))

gap_list_apart : {X : Type 0} {a b : ℕ} → in_gap a ≡ at_machine b → X
gap_list_apart is = cc

pub not_above : (t : Trace) (s : LineState) (gap x : ℕ) {X : Type 0} → Stands t s → IsBeyond s gap x → Lies x (machine_at s.world.floor gap).boards → X
not_above t s gap x st beyond lies = elim (beyond_at t s gap x beyond) [
  | inl left ↦ gap_list_apart (st.keeps.apart.one_place x (in_gap gap) (at_machine gap) left (lies_at lies))
  | inr inside ↦ list_apart gap (st.keeps.apart.one_place x (at_machine gap) (at_machine (gap + 1)) (lies_at lies) inside)
]

-- it isn't gone
not_gone : (t : Trace) (s : LineState) (gap x : ℕ) {X : Type 0} → Stands t s → IsBeyond s gap x → t.gone gap x ≡ true → X
not_gone t s gap x st beyond gone = elim (beyond_at t s gap x beyond) [
  | inl left ↦ absurd (st.keeps.apart.nowhere gap x (in_gap gap) gone left)
  | inr inside ↦ absurd (st.keeps.apart.nowhere gap x (at_machine (gap + 1)) gone inside)
]

front_lies : {o : Out} {p g : Place} {kept : List Record} {i : In} {boards : List Board} (q : Record) → Body o p kept i g boards → held_out o ≡ Some q → is_upstream p ≡ true → Lies q.id boards
front_lies q b held up = subst (λ (bs : List Board). Lies q.id bs) (sym b.same) (rw (held, up) lies_first)

begun_at : {lies : Gap} {b : Record} → GapAt lies InGap b → LiesIn b.id lies
begun_at gap_begun = lies_begun

not_begun : (t : Trace) (s : LineState) (gap x : ℕ) {X : Type 0} (b : Board) → Stands t s → IsBeyond s gap x → (gap_at s.world.floor gap).lies ≡ gaps.Begun b → LiesIn x (gap_at s.world.floor gap).lies → X
not_begun t s gap x b st (is_across left) begun lies = begun_not_left (sym begun ∙ left)
not_begun t s gap x b st (is_inside_there inside) begun lies = gap_list_apart (st.keeps.apart.one_place x (in_gap gap) (at_machine (gap + 1)) (lies_in lies) (lies_at inside))

pub begun_is : {lies : Gap} {b : Record} → GapAt lies InGap b → lies ≡ gaps.Begun (record { id = Some b.id })
begun_is gap_begun = refl

unread_by_place : (t : Trace) (s : LineState) (j : ℕ) (q : Record) (p : Place) → Stands t s → (t.ghost (j + 1)).place ≡ p → held_above s (j + 1) ≡ Some q → IsBeyond s (j + 1) q.id → LeavesBy (node_at s (j + 1)).lane.body.outlet.phase (events_at Exit (machine_at s.world.floor (j + 1)).unread)
unread_by_place t s j q Fresh st at held beyond = not_above t s (j + 1) q.id st beyond (front_lies q (st.keeps.machines.at j).boards held (rw at refl))
unread_by_place t s j q Home st at held beyond = not_above t s (j + 1) q.id st beyond (front_lies q (st.keeps.machines.at j).boards held (rw at refl))
unread_by_place t s j q InGap st at held beyond =
    let n : Neighbours (stand_of s (j + 1)) (between_of t s (j + 1)) (stand_of s (j + 1 + 1)) = st.keeps.neighbours.at (j + 1) in
    let same : (t.ghost (j + 1)).board ≡ q = exit_board q n.pair.out held in
    let there : GapAt (gap_at s.world.floor (j + 1)).lies InGap (t.ghost (j + 1)).board = rw at at n.pair.gap in
    not_begun t s (j + 1) q.id (record { id = Some (t.ghost (j + 1)).board.id }) st beyond (begun_is there) (subst (λ (b : Record). LiesIn b.id (gap_at s.world.floor (j + 1)).lies) same (begun_at there))
unread_by_place t s j q Across st at held beyond =
    let n : Neighbours (stand_of s (j + 1)) (between_of t s (j + 1)) (stand_of s (j + 1 + 1)) = st.keeps.neighbours.at (j + 1) in
    leaves_by q n.pair.out (rw at beyond_across) held
unread_by_place t s j q Inside st at held beyond =
    let n : Neighbours (stand_of s (j + 1)) (between_of t s (j + 1)) (stand_of s (j + 1 + 1)) = st.keeps.neighbours.at (j + 1) in
    leaves_by q n.pair.out (rw at beyond_inside) held
unread_by_place t s j q Lost st at held beyond =
    let n : Neighbours (stand_of s (j + 1)) (between_of t s (j + 1)) (stand_of s (j + 1 + 1)) = st.keeps.neighbours.at (j + 1) in
    not_gone t s (j + 1) q.id st beyond (n.holds.away_out q held (rw at refl))
unread_by_place t s j q Stolen st at held beyond =
    let n : Neighbours (stand_of s (j + 1)) (between_of t s (j + 1)) (stand_of s (j + 1 + 1)) = st.keeps.neighbours.at (j + 1) in
    not_gone t s (j + 1) q.id st beyond (n.holds.away_out q held (rw at refl))

pub unread_leaves : (t : Trace) (s : LineState) (j : ℕ) (q : Record) → Stands t s → held_above s (j + 1) ≡ Some q → IsBeyond s (j + 1) q.id → LeavesBy (node_at s (j + 1)).lane.body.outlet.phase (events_at Exit (machine_at s.world.floor (j + 1)).unread)
unread_leaves t s j q st held beyond = unread_by_place t s j q (t.ghost (j + 1)).place st refl held beyond

-- what a machine keeps lies in its list
pub kept_above : (t : Trace) (s : LineState) (j x : ℕ) → Stands t s → Kept x (node_at s (j + 1)).lane.body.kept → Lies x (machine_at s.world.floor (j + 1)).boards
kept_above t s j x st kept = kept_lies kept (st.keeps.machines.at j).boards
