-- What a move on the floor does to the view of an id.
use Rattle.std.proofs.Common.{
  ◌≡◌,
  ◌≢◌,
  ◌+◌,
  ◌++◌,
  ◌∷◌,
  ◌==◌,
  ◌⊎◌,
  ◌∙◌,
  ◌||◌,
  ◌≤◌,
  ℕ,
  zero,
  suc,
  Bool,
  true,
  false,
  List,
  [],
  Option,
  Some,
  None,
  Result,
  Ok,
  Err,
  ap,
  arith,
  eq-eqb,
  eqb-true,
  inl,
  inr,
  refl,
  subst,
  sym,
}
use Rattle.std.specs.List.{list_any}
use Rattle.std.proofs.lemmas.List.Folds.{list_any-append}
use Rattle.std.proofs.lemmas.Bool.{or_left, or_right, or_cases}
use Rattle.line_base.specs.declared.states.Side.TheVariants.{Entry, Exit}
use Rattle.board_record.specs.declared.record.Record.{Record}
use Rattle.board_record.specs.declared.sensed.Sensed.{Sensed}
use Rattle.line_world.specs.Boards.{KeepsBoards, boards_in, boards_on}
use Rattle.line_world.specs.Events.{ReachesBothSides, event_of, seen_at}
use Rattle.line_world.specs.FloorPlan.{FloorPlan, gap_at, has_id, machine_at}
use Rattle.line_world.specs.Moved.{IsFloorMove, IsMove, leaves}
use Rattle.line_world.specs.Moves.{Around, floor_move}
use Rattle.line_world.specs.declared.board.Board.{Board}
use Rattle.line_world.specs.declared.gap.Gap.{Gap}
use Rattle.line_world.specs.declared.gap.Gap.TheVariants as gaps
use Rattle.line_world.specs.declared.moves.Move.{Move}
use Rattle.line_world.specs.declared.moves.Move.TheVariants as moves
use Rattle.line_world.specs.declared.moves.MoveNo.{MoveNo}
use Rattle.line_world.proofs.Inverting.{floor_move_is}
use Rattle.line_world.proofs.Keeping.{keeps_boards, reaches_both_sides}
use Rattle.line_world.proofs.Placing.{lost_with}
use Rattle.handover_in.specs.State.{own_of_phase}
use Rattle.node_core.specs.Node.{NodeState}
use Rattle.law_custody.specs.Words.{events_at}
use Rattle.law_custody.proofs.Lists.{entry-append, exit-append}
use Rattle.line_report.specs.declared.happening.Happening.{Happening}
use Rattle.line_step.specs.FloorIds.{boards_of}
use Rattle.line_step.specs.Lines.{Moves, moved}
use Rattle.line_step.specs.Numbered.{node_at}
use Rattle.line_step.specs.State.{LineState}
use Rattle.line_step.proofs.Numbers.{none_or_one, same_or_not}
use Rattle.law_one_standing.specs.Carried.{Trace}
use Rattle.law_one_standing.specs.Facts.{HasCustodyFacts, IsHeldBy, is_taken_at}
use Rattle.law_one_standing.specs.Standing.{is_held_at}
use Rattle.law_one_standing.specs.Places.{LiesIn, in_gap, lies_begun, lies_in}
use Rattle.law_one_standing.specs.Stands.{Stands}
use Rattle.law_one_standing.proofs.ApartFloor.{counted}
use Rattle.law_one_standing.proofs.LineMoves.{with_plan}
use Rattle.law_one_standing.proofs.MarksOf.{id_held}
use Rattle.law_history.specs.LetGo.{held_above}
use Rattle.law_supervisor_replay.proofs.Bodies.{
  holds_it,
  is_gone_own,
  is_leaving_event,
  is_taking_out,
  keeps_it,
  misses_it,
  takes_it,
  will_leave,
}
use Rattle.law_supervisor_replay.proofs.Sights.{on_floor, view_of, true_false}
use Rattle.law_supervisor_replay.proofs.Views.{IsMoved, View}

-- ---- boards, counted

some_on : (n : ℕ) → (n == 0) ≡ false → 1 ≤ n
some_on n on = elim (none_or_one n) [ inl none ↦ true_false (eq-eqb n 0 none) on | inr some ↦ some ]

-- no move brings a board with the id
boards_fewer : (step : Move) (lies : Gap) (id : ℕ) (old new : List Board)
    → KeepsBoards step lies old new → counted id new ≤ counted id old
boards_fewer moves.Begin lies id old new same = rw same (omega arith)
boards_fewer moves.Left lies id old new same = rw same (omega arith)
boards_fewer moves.Enter lies id old new same = rw same (omega arith)
boards_fewer moves.Back lies id old new same = rw same (omega arith)
boards_fewer moves.HandIn lies id old new same = rw same (omega arith)
boards_fewer moves.Take lies id old new loss =
    let less = lost_with id loss.2.front loss.2.back loss.0 (has_id id loss.0) refl in
    rw (loss.2.before, loss.2.after) (omega (arith, less))

-- a move that takes the board out is a take, of the board in the gap
record IsTakenOut (id : ℕ) (step : Move) (lies : Gap) : Type 0 where
  take : step ≡ moves.Take
  board : Board
  there : boards_in lies ≡ board ∷ []
  own : has_id id board ≡ true

as_many : {X : Type 0} (id : ℕ) (old new : List Board) → new ≡ old → 1 ≤ counted id old
    → counted id new ≡ 0 → X
as_many id old new same some none =
    absurd (omega (arith, some, none, ap (λ (l : List Board). counted id l) same))

taken_by : (id : ℕ) (lies : Gap) (old new : List Board) (loss : KeepsBoards moves.Take lies old new)
    (has : Bool) → has_id id loss.0 ≡ has → 1 ≤ counted id old → counted id new ≡ 0
    → IsTakenOut id moves.Take lies
taken_by id lies old new loss true is some none =
    record { take = refl; board = loss.0; there = loss.1; own = is }
taken_by id lies old new loss false is some none =
    let less = lost_with id loss.2.front loss.2.back loss.0 false is in
    let before : counted id old ≡ counted id (loss.2.front ++ loss.0 ∷ loss.2.back) =
    ap (λ (l : List Board). counted id l) loss.2.before in
    let after : counted id new ≡ counted id (loss.2.front ++ loss.2.back) =
    ap (λ (l : List Board). counted id l) loss.2.after in
    absurd (omega (arith, some, none, less, before, after))

taken_out : (step : Move) (lies : Gap) (id : ℕ) (old new : List Board)
    → KeepsBoards step lies old new → 1 ≤ counted id old → counted id new ≡ 0
    → IsTakenOut id step lies
taken_out moves.Begin lies id old new same some none = as_many id old new same some none
taken_out moves.Left lies id old new same some none = as_many id old new same some none
taken_out moves.Enter lies id old new same some none = as_many id old new same some none
taken_out moves.Back lies id old new same some none = as_many id old new same some none
taken_out moves.HandIn lies id old new same some none = as_many id old new same some none
taken_out moves.Take lies id old new loss some none =
    taken_by id lies old new loss (has_id id loss.0) refl some none

-- ---- events, read or unread

leave_more : (old more : List Sensed)
    → will_leave (old ++ more) ≡ (will_leave old || will_leave more)
leave_more old more =
    ap (list_any is_leaving_event) (exit-append old more)
    ∙ list_any-append is_leaving_event (events_at Exit old) (events_at Exit more)

abbrev will_miss : List Sensed → Bool
will_miss unread = list_any is_taking_out (events_at Entry unread)

miss_more : (old more : List Sensed)
    → will_miss (old ++ more) ≡ (will_miss old || will_miss more)
miss_more old more =
    ap (list_any is_taking_out) (entry-append old more)
    ∙ list_any-append is_taking_out (events_at Entry old) (events_at Entry more)

still_misses : (a b c : Bool) → (b ≡ true → c ≡ true) → (a || b) ≡ true → (a || c) ≡ true
still_misses true b c more is = refl
still_misses false b c more is = more is

-- only a board that leaves is seen so, and at the exit
left_seen : (step : Move) → will_leave (seen_at Exit (event_of step)) ≡ true → step ≡ moves.Left
left_seen moves.Begin is = absurd (let never : false ≡ true = is in cc)
left_seen moves.Left is = refl
left_seen moves.Enter is = absurd (let never : false ≡ true = is in cc)
left_seen moves.Back is = absurd (let never : false ≡ true = is in cc)
left_seen moves.HandIn is = absurd (let never : false ≡ true = is in cc)
left_seen moves.Take is = absurd (let never : false ≡ true = is in cc)

entry_unleft : (step : Move) → will_leave (seen_at Entry (event_of step)) ≡ false
entry_unleft moves.Begin = refl
entry_unleft moves.Left = refl
entry_unleft moves.Enter = refl
entry_unleft moves.Back = refl
entry_unleft moves.HandIn = refl
entry_unleft moves.Take = refl

abbrev unread_of : FloorPlan → ℕ → List Sensed
unread_of plan machine = (machine_at plan machine).unread

-- what a machine has unread behind the move, by where it is
leave_at : (gap i : ℕ) (step : Move) (old new : FloorPlan) → ReachesBothSides gap step old new
    → (i ≡ gap) ⊎ (i ≢ gap) → (i ≡ gap + 1) ⊎ (i ≢ gap + 1)
    → will_leave (unread_of new i) ≡ true
    → (will_leave (unread_of old i) ≡ true) ⊎ ((i ≡ gap) × (step ≡ moves.Left))
leave_at gap i step old new r (inl here) below is =
    let at : will_leave (unread_of new gap) ≡ true = rw here at is in
    let more = sym (leave_more (unread_of old gap) (seen_at Exit (event_of step)))
    ∙ ap will_leave (sym r.exit) ∙ at in
    elim (or_cases (will_leave (unread_of old gap)) (will_leave (seen_at Exit (event_of step)))
    more) [
      | inl was ↦ inl (rw here was)
      | inr now ↦ inr (here, left_seen step now)
    ]
leave_at gap i step old new r (inr apart) (inl below) is =
    let at : will_leave (unread_of new (gap + 1)) ≡ true = rw below at is in
    let more = sym (leave_more (unread_of old (gap + 1)) (seen_at Entry (event_of step)))
    ∙ ap will_leave (sym r.entry) ∙ at in
    elim (or_cases (will_leave (unread_of old (gap + 1)))
    (will_leave (seen_at Entry (event_of step))) more) [
      | inl was ↦ inl (rw below was)
      | inr now ↦ true_false now (entry_unleft step)
    ]
leave_at gap i step old new r (inr apart) (inr other) is =
    inl (ap will_leave (sym (r.others i apart other)) ∙ is)

miss_by : (old new more : List Sensed) → new ≡ old ++ more → will_miss old ≡ true
    → will_miss new ≡ true
miss_by old new more same is =
    ap will_miss same ∙ miss_more old more ∙ or_left (will_miss old) (will_miss more) is

miss_at : (gap i : ℕ) (step : Move) (old new : FloorPlan) → ReachesBothSides gap step old new
    → (i ≡ gap) ⊎ (i ≢ gap) → (i ≡ gap + 1) ⊎ (i ≢ gap + 1)
    → will_miss (unread_of old i) ≡ true → will_miss (unread_of new i) ≡ true
miss_at gap i step old new r (inl here) below is =
    rw here
    (miss_by (unread_of old gap) (unread_of new gap) (seen_at Exit (event_of step)) r.exit
    (rw here at is))
miss_at gap i step old new r (inr apart) (inl below) is =
    rw below
    (miss_by (unread_of old (gap + 1)) (unread_of new (gap + 1)) (seen_at Entry (event_of step))
    r.entry (rw below at is))
miss_at gap i step old new r (inr apart) (inr other) is = ap will_miss (r.others i apart other) ∙ is

-- the entry sees what is taken out
miss_take : (gap : ℕ) (step : Move) (old new : FloorPlan) → ReachesBothSides gap step old new
    → step ≡ moves.Take → will_miss (unread_of new (gap + 1)) ≡ true
miss_take gap step old new r take =
    ap will_miss r.entry ∙ miss_more (unread_of old (gap + 1)) (seen_at Entry (event_of step))
    ∙ or_right (will_miss (unread_of old (gap + 1))) (will_miss (seen_at Entry (event_of step)))
    (ap (λ (m : Move). will_miss (seen_at Entry (event_of m))) take)

-- ---- the board in the gap

some_is : {a b : ℕ} → ◌≡◌ {A = Option ℕ} (Some a) (Some b) → a ≡ b
some_is is = cc

one_held : (s : LineState) (gap a b : ℕ) → holds_it a (node_at s gap).lane.body ≡ true
    → holds_it b (node_at s gap).lane.body ≡ true → a ≡ b
one_held s gap a b one two =
    let first = id_held a (held_above s gap) one in
    let other = id_held b (held_above s gap) two in
    let same : first.0 ≡ other.0 = (let is = sym first.1 ∙ other.1 in cc) in
    sym first.2 ∙ ap (λ (r : Record). r.id) same ∙ other.2

named_by : (id : ℕ) (own : Option ℕ) → has_id id (record { id = own }) ≡ true → own ≡ Some id
named_by id None has = absurd (let never : false ≡ true = has in cc)
named_by id (Some own) has = ap (λ (x : ℕ). Some x) (eqb-true own id has)

begun_own : (id : ℕ) (own : Option ℕ) → own ≡ Some id
    → LiesIn id (gaps.Begun (record { id = own }))
begun_own id own is =
    subst (λ (o : Option ℕ). LiesIn id (gaps.Begun (record { id = o }))) (sym is) lies_begun

begun_lies : (id : ℕ) (lies : Gap) (board : Board) → lies ≡ gaps.Begun board
    → board.id ≡ Some id → LiesIn id lies
begun_lies id lies board is named =
    subst (λ (l : Gap). LiesIn id l) (sym is) (begun_own id board.id named)

left_begun : {old new : Around} → IsMove moves.Left old new
    → (board : Board) × (old.between.lies ≡ gaps.Begun board)
left_begun (leaves {board = board}) = (board, refl)

-- a board that leaves is that of the outlet
leaves_on : (t : Trace) (s : LineState) (id gap : ℕ) (plan : FloorPlan) → Stands t s
    → HasCustodyFacts s → floor_move gap moves.Left s.world.floor ≡ Ok plan
    → holds_it id (node_at s gap).lane.body ≡ true → (counted id (boards_of s) == 0) ≡ false
leaves_on t s id gap plan st facts done held =
    let move : IsFloorMove gap moves.Left s.world.floor plan =
    floor_move_is gap moves.Left s.world.floor plan done in
    let begun : (board : Board) × ((gap_at s.world.floor gap).lies ≡ gaps.Begun board) =
    left_begun move.done in
    let own : IsHeldBy (is_held_at s gap) begun.0 = facts.begun gap begun.0 begun.1 in
    let named : begun.0.id ≡ Some id =
    own.named ∙ ap (λ (x : ℕ). Some x) (one_held s gap own.id id own.held held) in
    on_floor t s id (in_gap gap) st
    (lies_in (begun_lies id (gap_at s.world.floor gap).lies begun.0 begun.1 named))

same_board : {a b : Board} → ◌≡◌ {A = List Board} (a ∷ []) (b ∷ []) → a ≡ b
same_board is = cc

no_board : {X : Type 0} {b : Board} → ◌≡◌ {A = List Board} [] (b ∷ []) → X
no_board is = cc

-- what is taken out is that of the outlet, or of the intake below
taken_of : (s : LineState) (id gap : ℕ) (lies : Gap) (board : Board) → HasCustodyFacts s
    → (gap_at s.world.floor gap).lies ≡ lies → boards_in lies ≡ board ∷ [] → board.id ≡ Some id
    → (holds_it id (node_at s gap).lane.body ≡ true)
    ⊎ (takes_it id (node_at s (gap + 1)).lane.body ≡ true)
taken_of s id gap gaps.Free board facts at is named = no_board is
taken_of s id gap (gaps.Begun other) board facts at is named =
    let own : IsHeldBy (is_held_at s gap) other = facts.begun gap other at in
    let same : own.id ≡ id =
    some_is (sym own.named ∙ ap (λ (b : Board). b.id) (same_board is) ∙ named) in
    inl (subst (λ (x : ℕ). is_held_at s gap x ≡ true) same own.held)
taken_of s id gap (gaps.Left other) board facts at is named =
    let own : IsHeldBy (is_taken_at s (gap + 1)) other = facts.left gap other at in
    let same : own.id ≡ id =
    some_is (sym own.named ∙ ap (λ (b : Board). b.id) (same_board is) ∙ named) in
    inr (subst (λ (x : ℕ). is_taken_at s (gap + 1) x ≡ true) same own.held)

-- ---- the view behind a move

same_node : (plan : FloorPlan) (s : LineState) (i : ℕ) → node_at (with_plan plan s) i ≡ node_at s i
same_node plan s zero = refl
same_node plan s (suc before) = refl

-- a move that is done
record IsDone (t : Trace) (gap : ℕ) (step : Move) (s : LineState) (plan : FloorPlan) : Type 0 where
  st : Stands t s
  facts : HasCustodyFacts s
  done : floor_move gap step s.world.floor ≡ Ok plan

boards_of_move : {t : Trace} {gap : ℕ} {step : Move} {s : LineState} {plan : FloorPlan}
    → IsDone t gap step s plan
    → KeepsBoards step (gap_at s.world.floor gap).lies (boards_on s.world.floor) (boards_on plan)
boards_of_move {gap = gap} {step = step} {s = s} {plan = plan} d =
    keeps_boards gap step s.world.floor plan d.st.ids.whole d.done

off_then : (id : ℕ) {t : Trace} {gap : ℕ} {step : Move} {s : LineState} {plan : FloorPlan}
    → IsDone t gap step s plan → (view_of id s).off ≡ true
    → (view_of id (with_plan plan s)).off ≡ true
off_then id {gap = gap} {step = step} {s = s} {plan = plan} d off =
    let none : counted id (boards_on s.world.floor) ≡ 0 =
    eqb-true (counted id (boards_on s.world.floor)) 0 off in
    let fewer : counted id (boards_on plan) ≤ counted id (boards_on s.world.floor) =
    boards_fewer step (gap_at s.world.floor gap).lies id (boards_on s.world.floor)
    (boards_on plan) (boards_of_move d) in
    eq-eqb (counted id (boards_on plan)) 0 (omega (arith, none, fewer))

left_on : (id : ℕ) (t : Trace) (gap : ℕ) (s : LineState) (plan : FloorPlan)
    → IsDone t gap moves.Left s plan → holds_it id (node_at s gap).lane.body ≡ true
    → (view_of id (with_plan plan s)).off ≡ false
left_on id t gap s plan d held =
    let same : boards_on plan ≡ boards_on s.world.floor = boards_of_move d in
    ap (λ (l : List Board). counted id l == 0) same
    ∙ leaves_on t s id gap plan d.st d.facts d.done held

leaving_then : (id i : ℕ) (t : Trace) (gap : ℕ) (step : Move) (s : LineState) (plan : FloorPlan)
    → IsDone t gap step s plan → (view_of id s).held i ≡ true
    → (view_of id (with_plan plan s)).leaving i ≡ true
    → ((view_of id s).leaving i ≡ true) ⊎ ((view_of id (with_plan plan s)).off ≡ false)
leaving_then id i t gap step s plan d held leaving =
    elim (leave_at gap i step s.world.floor plan
    (reaches_both_sides gap step s.world.floor plan d.done)
    (same_or_not i gap) (same_or_not i (gap + 1)) leaving) [
      | inl was ↦ inl was
      | inr now ↦
          inr (left_on id t gap s plan
          (subst (λ (m : Move). IsDone t gap m s plan) now.1 d)
          (subst (λ (n : ℕ). (view_of id s).held n ≡ true) now.0 held))
    ]

missing_then : (id i : ℕ) (t : Trace) (gap : ℕ) (step : Move) (s : LineState) (plan : FloorPlan)
    → IsDone t gap step s plan → (view_of id s).missing i ≡ true
    → (view_of id (with_plan plan s)).missing i ≡ true
missing_then id i t gap step s plan d missing =
    ap (λ (n : NodeState). misses_it n.lane.body (unread_of plan i)) (same_node plan s i)
    ∙ still_misses (is_gone_own (own_of_phase (node_at s i).lane.body.intake.phase))
    (will_miss (unread_of s.world.floor i)) (will_miss (unread_of plan i))
    (miss_at gap i step s.world.floor plan
    (reaches_both_sides gap step s.world.floor plan d.done)
    (same_or_not i gap) (same_or_not i (gap + 1)))
    missing

taken_then : (id : ℕ) (t : Trace) (gap : ℕ) (step : Move) (s : LineState) (plan : FloorPlan)
    → IsDone t gap step s plan → step ≡ moves.Take
    → (view_of id (with_plan plan s)).missing (gap + 1) ≡ true
taken_then id t gap step s plan d take =
    let body = (node_at (with_plan plan s) (gap + 1)).lane.body in
    or_right (is_gone_own (own_of_phase body.intake.phase)) (will_miss (unread_of plan (gap + 1)))
    (miss_take gap step s.world.floor plan
    (reaches_both_sides gap step s.world.floor plan d.done) take)

out_then : (id : ℕ) (t : Trace) (gap : ℕ) (step : Move) (s : LineState) (plan : FloorPlan)
    → IsDone t gap step s plan → (view_of id s).off ≡ false
    → (view_of id (with_plan plan s)).off ≡ true
    → (i : ℕ) × (((view_of id s).held i ≡ true) ⊎ (((view_of id s).taken (i + 1) ≡ true)
    × ((view_of id (with_plan plan s)).missing (i + 1) ≡ true)))
out_then id t gap step s plan d on off =
    let none : counted id (boards_on plan) ≡ 0 = eqb-true (counted id (boards_on plan)) 0 off in
    let some : 1 ≤ counted id (boards_on s.world.floor) =
    some_on (counted id (boards_on s.world.floor)) on in
    let out : IsTakenOut id step (gap_at s.world.floor gap).lies =
    taken_out step (gap_at s.world.floor gap).lies id (boards_on s.world.floor)
    (boards_on plan) (boards_of_move d) some none in
    elim (taken_of s id gap (gap_at s.world.floor gap).lies out.board d.facts refl out.there
    (named_by id out.board.id out.own)) [
      | inl held ↦ (gap, inl held)
      | inr taken ↦ (gap, inr (taken, taken_then id t gap step s plan d out.take))
    ]

moved_by : (id : ℕ) (t : Trace) (gap : ℕ) (step : Move) (s : LineState) (plan : FloorPlan)
    → IsDone t gap step s plan → IsMoved (view_of id s) (view_of id (with_plan plan s))
moved_by id t gap step s plan d = record {
  kept = λ i. ap (λ (n : NodeState). keeps_it id n.lane.body) (same_node plan s i);
  held = λ i. ap (λ (n : NodeState). holds_it id n.lane.body) (same_node plan s i);
  taken = λ i. ap (λ (n : NodeState). takes_it id n.lane.body) (same_node plan s i);
  off = λ off. off_then id d off;
  leaving = λ i held leaving. leaving_then id i t gap step s plan d
      (sym (ap (λ (n : NodeState). holds_it id n.lane.body) (same_node plan s i)) ∙ held) leaving;
  missing = λ i missing. missing_then id i t gap step s plan d missing;
  taken_out = λ on off. out_then id t gap step s plan d on off;
}

-- a move that is not
none_moved : (v : View) → IsMoved v v
none_moved v = record {
  kept = λ i. refl;
  held = λ i. refl;
  taken = λ i. refl;
  off = λ off. off;
  leaving = λ i held leaving. inl leaving;
  missing = λ i missing. missing;
  taken_out = λ on off. true_false off on;
}

pub moves_move : (t : Trace) (id gap : ℕ) (step : Move) (before after : LineState)
    (told : List Happening) → Stands t before → HasCustodyFacts before
    → Moves gap step before after told → IsMoved (view_of id before) (view_of id after)
moves_move t id gap step before after told st facts is =
    by (floor_move gap step before.world.floor) refl where
      by : (answer : Result FloorPlan MoveNo) → floor_move gap step before.world.floor ≡ answer
          → IsMoved (view_of id before) (view_of id after)
      by (Ok plan) found =
          let same : after ≡ with_plan plan before =
          is.after_is ∙ ap (λ (answer : Result FloorPlan MoveNo). moved answer before) found in
          subst (λ (l : LineState). IsMoved (view_of id before) (view_of id l)) (sym same)
          (moved_by id t gap step before plan (record { st = st; facts = facts; done = found }))
      by (Err why) found =
          let same : after ≡ before =
          is.after_is ∙ ap (λ (answer : Result FloorPlan MoveNo). moved answer before) found in
          subst (λ (l : LineState). IsMoved (view_of id before) (view_of id l)) (sym same)
          (none_moved (view_of id before))
