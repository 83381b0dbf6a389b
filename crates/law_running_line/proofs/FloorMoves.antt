-- A board moves at a gap: the relation of running machines goes on.
use Rattle.std.proofs.Common.{Bool, List, None, Ok, Option, ap, arith, eqb-true, false, inl, inr, refl, subst, sym, true, ℕ, ◌+◌, ◌-◌, ◌∙◌, ◌∷◌, ◌≡◌, ◌≢◌, ◌≤◌, ◌||◌, ◌⊎◌}
use Rattle.std.specs.Prelude.{nat_eq}
use Rattle.std.proofs.lemmas.Bool.{or_cases, or_left, or_right, eq-eqb}
use Rattle.line_base.specs.declared.states.SensorEvent.{SensorEvent}
use Rattle.line_base.specs.declared.states.Side.TheVariants.{Entry}
use Rattle.board_record.specs.declared.record.Record.{Record}
use Rattle.session_core.specs.declared.state.SessionState.{SessionState}
use Rattle.session_core.specs.declared.state.SessionState.TheVariants.{Standing}
use Rattle.handover_out.specs.State.{board_of_phase as held_out}
use Rattle.handover_out.specs.declared.phase.Phase.{Phase as Out}
use Rattle.handover_in.specs.declared.phase.Phase.{Phase as In}
use Rattle.handover_in.specs.declared.phase.Phase.TheVariants as inn
use Rattle.line_world.specs.Boards.{KeepsBoards, boards_in, boards_on}
use Rattle.line_world.specs.FloorPlan.{AtMachine, FloorPlan, IsGap, IsWhole, gap_at, has_id, machine_at}
use Rattle.line_world.specs.Ids.{IdsDiffer}
use Rattle.line_world.specs.Moved.{IsMove, begins, begun_is_taken, enters, goes_back, is_handed_in, leaves, left_is_taken}
use Rattle.line_world.specs.Moves as world
use Rattle.line_world.specs.Moves.{around_of, floor_move}
use Rattle.line_world.specs.declared.board.Board.{Board}
use Rattle.line_world.specs.declared.gap.Gap.{Gap}
use Rattle.line_world.specs.declared.gap.Gap.TheVariants as gaps
use Rattle.line_world.specs.declared.moves.Move.{Move}
use Rattle.line_world.specs.declared.moves.Move.TheVariants as moves
use Rattle.line_world.proofs.Differing.{moves_differ}
use Rattle.line_world.proofs.Inverting.{move_is}
use Rattle.line_world.proofs.Keeping.{Done, between_after, done_of, down_after, is_gap_of, keeps_boards, machines_kept, other_gap_after, other_machine_after, up_after, whole_after}
use Rattle.line_world.proofs.Placing.{lost_with}
use Rattle.node_core.specs.declared.lane.Body.{Body as Machine}
use Rattle.law_custody.specs.Apart as ends
use Rattle.law_custody.specs.Floor.{EntryFloor, ExitFloor, GapAt, gap_begun, gap_fresh, gap_home, gap_inside, gap_left, gap_lost, gap_stolen, in_free, out_ended, out_idle}
use Rattle.law_custody.specs.Pair.{Ghost, LinkState, Pair}
use Rattle.law_custody.specs.Place.{MovesPlace, NotAcross, NotBegun, Place}
use Rattle.law_custody.specs.Shape.{Shape, intake_done, no_handover}
use Rattle.law_custody.specs.Talks as talks
use Rattle.law_custody.specs.Words.{DownWord, UpWord, events_at}
use Rattle.law_custody.proofs.Lists.{entry_other}
use Rattle.law_machine_custody.specs.Ahead.{IsFreeRead}
use Rattle.law_machine_custody.specs.ByHand.{Grows}
use Rattle.line_step.proofs.Numbers.{none_or_one, same_or_not}
use Rattle.law_one_standing.specs.Carried.{Trace, between_of as line_between, stand_of}
use Rattle.law_one_standing.specs.Places.{AreApart, LiesAt, LiesIn, Spot, lies_at, lies_in}
use Rattle.law_one_standing.specs.Relation.{Stand, link_between}
use Rattle.law_one_standing.proofs.ApartFloor.{counted, floor_lies, lies_counted, lies_in_gap, lies_on_floor, list_once, one_place_of}
use Rattle.law_one_standing.proofs.LineMoves.{less_one, moved_trace, same_gone, taken_board, one_board}
use Rattle.law_one_standing.proofs.Moving.{AreTaken, IsMoved, LiftedAt, lifted_at, move_keeps}
use Rattle.law_one_standing.proofs.Traces.{put, put_other, put_same}
use Rattle.law_one_standing.proofs.ApartStep.{same_count, taken_count}
use Rattle.law_running_line.specs.RunSteps.{Moves}
use Rattle.law_running_line.specs.Reading.{Reading}
use Rattle.law_running_line.specs.Running.{Running, unread_by, with_floor}
use Rattle.law_running_line.specs.Stands.{AreInRelation, Stands, between_of, line_of, node_in}
use Rattle.law_running_line.proofs.Relation.{fit_aside, made_aside}

-- ---- no board moves above an intake that is free in a session that stands

entry_alone : {b : Bool} {y : SessionState} {i : In} {f : Option Record} {ri : Bool} {p : Place} {down : List DownWord} → ends.Entry b y i f ri p down → y ≡ Standing → i ≡ inn.Idle → b ≡ true
entry_alone (ends.entry_idle offers) stands idle = refl
entry_alone _ stands idle = cc

exit_alone : {b : Bool} {x : SessionState} {o : Out} {of : Option ℕ} {rd : Bool} {up : List UpWord} → ends.Exit b x o of rd up → b ≡ true → held_out o ≡ None
exit_alone ends.exit_none alone = refl
exit_alone ends.exit_called alone = refl
exit_alone ends.exit_shaking alone = refl
exit_alone ends.exit_described alone = refl
exit_alone (ends.exit_idle readies) alone = refl
exit_alone ends.exit_finished alone = refl
exit_alone (ends.exit_finished_stop_sent readies) alone = refl
exit_alone _ alone = cc

shape_alone : {o : Out} {of : Option ℕ} {rd : Bool} {i : In} {f : Option Record} {ri : Bool} {p : Place} {up : List UpWord} {down : List DownWord} → Shape o of rd i f ri p up down → i ≡ inn.Idle → held_out o ≡ None
shape_alone (no_handover readies offers) idle = refl
shape_alone (intake_done readies) idle = refl
shape_alone _ idle = cc

talk_alone : {link : Bool} {x : SessionState} {o : Out} {of : Option ℕ} {rd : Bool} {y : SessionState} {i : In} {f : Option Record} {ri : Bool} {p : Place} {up : List UpWord} {down : List DownWord} → talks.Talks link x o of rd y i f ri p up down → y ≡ Standing → i ≡ inn.Idle → held_out o ≡ None
talk_alone (talks.live shape) stands idle = shape_alone shape idle
talk_alone (talks.apart_start starts away) stands idle = refl
talk_alone (talks.apart_start_stop starts away) stands idle = refl
talk_alone (talks.apart exit entry) stands idle = exit_alone exit (entry_alone entry stands idle)
talk_alone _ stands idle = cc

exit_off : {o : Out} {es : List SensorEvent} {drive : Bool} {p : Place} {r : Record} → ExitFloor o es drive p r → held_out o ≡ None → (drive ≡ false) × NotBegun p
exit_off (out_idle taken not) none = (refl, not)
exit_off (out_ended taken not) none = (refl, not)
exit_off _ none = cc

entry_not : {i : In} {es : List SensorEvent} {drive : Bool} {p : Place} {r : Record} → EntryFloor i es drive p r → i ≡ inn.Idle → NotAcross p
entry_not (in_free full not) idle = not
entry_not _ idle = cc

gap_is_free : {lies : Gap} {p : Place} {r : Record} → GapAt lies p r → NotBegun p → NotAcross p → lies ≡ gaps.Free
gap_is_free gap_begun not other = elim not [ ]
gap_is_free gap_left not other = elim other [ ]
gap_is_free gap_fresh not other = refl
gap_is_free gap_home not other = refl
gap_is_free gap_inside not other = refl
gap_is_free gap_lost not other = refl
gap_is_free gap_stolen not other = refl

no_move : {step : Move} {old new : world.Around} → IsMove step old new → old.between.lies ≡ gaps.Free → old.between.exit_drive ≡ false → ⊥
no_move begins free off = cc
no_move leaves free off = cc
no_move enters free off = cc
no_move goes_back free off = cc
no_move is_handed_in free off = cc
no_move begun_is_taken free off = cc
no_move left_is_taken free off = cc

pub none_moves : (g : Ghost) (l : LinkState) (step : Move) (new : world.Around) → Pair g l → l.entry ≡ Standing → l.intake.phase ≡ inn.Idle → IsMove step l.around new → ⊥
none_moves g l step new pair stands idle move =
    let off = exit_off pair.out (talk_alone pair.talk stands idle) in
    no_move move (gap_is_free pair.gap off.1 (entry_not pair.in idle)) off.0

-- and the machine above sees nothing at its entry
pub entry_stays : {step : Move} {old new : world.Around} → IsMove step old new → events_at Entry new.up.unread ≡ events_at Entry old.up.unread
entry_stays (begins {seen = seen}) = entry_other seen _
entry_stays (leaves {seen = seen}) = entry_other seen _
entry_stays enters = refl
entry_stays (goes_back {seen = seen}) = entry_other seen _
entry_stays is_handed_in = refl
entry_stays (begun_is_taken {seen = seen}) = entry_other seen _
entry_stays (left_is_taken {seen = seen}) = entry_other seen _

-- ---- where boards lie, and what is gone

pub to_line : (t : Trace) (s : Running) {x : ℕ} {p : Spot} → LiesAt (stand_of (line_of s)) (between_of t s) x p → LiesAt (stand_of (line_of s)) (line_between t (line_of s)) x p
to_line t s (lies_at lies) = lies_at lies
to_line t s (lies_in lies) = lies_in lies

from_line : (t : Trace) (s : Running) {x : ℕ} {p : Spot} → LiesAt (stand_of (line_of s)) (line_between t (line_of s)) x p → LiesAt (stand_of (line_of s)) (between_of t s) x p
from_line t s (lies_at lies) = lies_at lies
from_line t s (lies_in lies) = lies_in lies

-- what is gone is not on the floor
pub gone_nowhere : (t : Trace) (s : Running) (k x : ℕ) → Stands t s → t.gone k x ≡ true → counted x (boards_on s.floor) ≡ 0
gone_nowhere t s k x st gone = elim (none_or_one (counted x (boards_on s.floor))) [
  | inl none ↦ none
  | inr some ↦ (let there = floor_lies t (line_of s) x some in absurd (st.keeps.apart.nowhere k x there.0 gone (from_line t s there.1)))
]

-- a move makes no board
kept_count : (step : Move) (lies : Gap) (x : ℕ) (old new : List Board) → KeepsBoards step lies old new → counted x new ≤ counted x old
kept_count moves.Begin lies x old new kept = same_count x old new kept
kept_count moves.Left lies x old new kept = same_count x old new kept
kept_count moves.Enter lies x old new kept = same_count x old new kept
kept_count moves.Back lies x old new kept = same_count x old new kept
kept_count moves.HandIn lies x old new kept = same_count x old new kept
kept_count moves.Take lies x old new loss =
    let less = lost_with x loss.2.front loss.2.back loss.0 (has_id x loss.0) refl in
    rw (loss.2.before, loss.2.after) (omega (arith, less))

-- what is gone behind a move was gone before, or lay on the floor once and lies nowhere
record WentNow (s : Running) (plan : FloorPlan) (x : ℕ) : Type 0 where
  was : 1 ≤ counted x (boards_on s.floor)
  is_not : counted x (boards_on plan) ≡ 0

moved_apart : (t t2 : Trace) (s : Running) (plan : FloorPlan) (gap : ℕ) (step : Move) → Stands t s → floor_move gap step s.floor ≡ Ok plan → ((k x : ℕ) → t2.gone k x ≡ true → (t.gone k x ≡ true) ⊎ ((k ≡ gap) × WentNow s plan x))
    → AreApart (stand_of (line_of (with_floor plan s))) (between_of t2 (with_floor plan s))
moved_apart t t2 s plan gap step st done each =
    let now : Running = with_floor plan s in
    let whole : IsWhole plan = whole_after gap step s.floor plan st.whole done in
    let differ : IdsDiffer plan = moves_differ gap step s.floor plan st.whole done st.differ in
    record {
      once = λ m. list_once plan m differ whole;
      one_place = λ x p q one two. one_place_of t2 (line_of now) x p q differ whole (to_line t2 now one) (to_line t2 now two);
      nowhere = λ k x p gone lies. omega (arith, none k x gone, lies_on_floor t2 (line_of now) x p whole (to_line t2 now lies));
      gone_once = λ j k x one two. elim (each j x one) [
        | inl was ↦ elim (each k x two) [ inl also ↦ st.keeps.apart.gone_once j k x was also | inr own ↦ absurd (not_both j x was own.1) ]
        | inr own ↦ elim (each k x two) [ inl was ↦ absurd (not_both k x was own.1) | inr also ↦ own.0 ∙ sym also.0 ]
      ];
    }
  where
    none : (k x : ℕ) → t2.gone k x ≡ true → counted x (boards_on plan) ≡ 0
    none k x gone = elim (each k x gone) [
      | inl was ↦ omega (arith, gone_nowhere t s k x st was, kept_count step (gap_at s.floor gap).lies x (boards_on s.floor) (boards_on plan) (keeps_boards gap step s.floor plan st.whole done))
      | inr own ↦ own.1.is_not
    ]

    not_both : (k x : ℕ) → t.gone k x ≡ true → WentNow s plan x → ⊥
    not_both k x was now = omega (arith, gone_nowhere t s k x st was, now.was)

-- ---- by numbers

abbrev with_place : Machine → AtMachine → Stand
with_place body place = record { body = body; place = place }

is_moved : (i : ℕ) (step : Move) (t : Trace) (s : Running) (plan : FloorPlan) (spot : Place) (gone : ℕ → Bool) → Stands t s → (done : Done (i + 1) step s.floor plan)
    → IsMoved i (stand_of (line_of s)) (between_of t s) (stand_of (line_of (with_floor plan s))) (between_of (moved_trace t (i + 1) spot gone) (with_floor plan s)) done.around spot gone
is_moved i step t s plan spot gone st done =
    let there : IsGap s.floor (i + 1) = is_gap_of s.floor (i + 1) done.there in
    let up : machine_at plan (i + 1) ≡ done.around.up = ap (λ (f : FloorPlan). machine_at f (i + 1)) done.after ∙ up_after s.floor (i + 1) done.around there in
    let down : machine_at plan (i + 1 + 1) ≡ done.around.down = ap (λ (f : FloorPlan). machine_at f (i + 1 + 1)) done.after ∙ down_after s.floor (i + 1) done.around there in
    let between : gap_at plan (i + 1) ≡ done.around.between = ap (λ (f : FloorPlan). gap_at f (i + 1)) done.after ∙ between_after s.floor (i + 1) done.around st.whole there in
    let ghost : Ghost = record { place = spot; board = (t.ghost (i + 1)).board } in
    record {
      changes = record {
        machines = λ k apart other. (let same : machine_at plan k ≡ machine_at s.floor k = ap (λ (f : FloorPlan). machine_at f k) done.after ∙ other_machine_after s.floor (i + 1) k done.around there.counted apart other in
            ap (with_place (node_in s k).lane.body) same);
        links = λ k apart. (let same : gap_at plan k ≡ gap_at s.floor k = ap (λ (f : FloorPlan). gap_at f k) done.after ∙ other_gap_after s.floor (i + 1) k done.around there.counted apart in
            rw (same, put_other (i + 1) k ghost t.ghost apart, put_other (i + 1) k gone t.gone apart) refl);
      };
      up = ap (with_place (node_in s (i + 1)).lane.body) up;
      between = rw (between, put_same (i + 1) ghost t.ghost, put_same (i + 1) gone t.gone) refl;
      down = ap (with_place (node_in s (i + 1 + 1)).lane.body) down;
    }

-- ---- what waits

-- a machine whose intake is free in a session that stands has nothing unread there
still_read : (i : ℕ) (step : Move) (t : Trace) (s : Running) (plan : FloorPlan) (k : ℕ) → Stands t s → (done : Done (i + 1) step s.floor plan) → (k ≡ i + 1) ⊎ (k ≢ i + 1) → (k + 1 ≡ i + 1) ⊎ (k + 1 ≢ i + 1)
    → IsFreeRead (unread_by (k + 1) (with_floor plan s)) (node_in s (k + 1)).lane.body
still_read i step t s plan k st done (inl is) next = record {
  read = λ stands idle.
      absurd (none_moves (t.ghost (i + 1)) (link_between (stand_of (line_of s) (i + 1)) (between_of t s (i + 1)) (stand_of (line_of s) (i + 1 + 1))) step done.around (st.keeps.neighbours.at (i + 1)).pair
      (subst (λ (n : ℕ). (node_in s (n + 1)).lane.body.entry.session.state ≡ Standing) is stands) (subst (λ (n : ℕ). (node_in s (n + 1)).lane.body.intake.phase ≡ inn.Idle) is idle)
      (move_is step (around_of s.floor (i + 1)) done.around done.row));
}
still_read i step t s plan k st done (inr apart) (inl is) = record {
  read = λ stands idle. (
      let there : IsGap s.floor (i + 1) = is_gap_of s.floor (i + 1) done.there in
      let up : machine_at plan (i + 1) ≡ done.around.up = ap (λ (f : FloorPlan). machine_at f (i + 1)) done.after ∙ up_after s.floor (i + 1) done.around there in
      let same : events_at Entry (machine_at plan (i + 1)).unread ≡ events_at Entry (machine_at s.floor (i + 1)).unread = ap (λ (m : AtMachine). events_at Entry m.unread) up ∙ entry_stays (move_is step (around_of s.floor (i + 1)) done.around done.row) in
      subst (λ (n : ℕ). events_at Entry (machine_at plan n).unread ≡ events_at Entry (machine_at s.floor n).unread) (sym is) same ∙ (st.waits k).free.read stands idle);
}
still_read i step t s plan k st done (inr apart) (inr other) = record {
  read = λ stands idle. (
      let there : IsGap s.floor (i + 1) = is_gap_of s.floor (i + 1) done.there in
      let last : k + 1 ≢ i + 1 + 1 = omega (arith, apart) in
      let same : machine_at plan (k + 1) ≡ machine_at s.floor (k + 1) = ap (λ (f : FloorPlan). machine_at f (k + 1)) done.after ∙ other_machine_after s.floor (i + 1) (k + 1) done.around there.counted other last in
      ap (λ (m : AtMachine). events_at Entry m.unread) same ∙ (st.waits k).free.read stands idle);
}

-- ---- A MOVE THAT IS DONE

-- what it leaves: the board of the gap's handover is where the move brings it
pub record MovedTo (gap : ℕ) (step : Move) (t : Trace) (s : Running) (plan : FloorPlan) : Type 0 where
  pub trace : Trace
  pub stands : Stands trace (with_floor plan s)
  pub moved : MovesPlace step (t.ghost gap).place (trace.ghost gap).place
  pub others : (k : ℕ) → k ≢ gap → trace.ghost k ≡ t.ghost k

move_stands : (i : ℕ) (step : Move) (t : Trace) (s : Running) (plan : FloorPlan) (gone : ℕ → Bool) → Stands t s → floor_move (i + 1) step s.floor ≡ Ok plan → Grows (t.gone (i + 1)) gone → AreTaken gone step (gap_at s.floor (i + 1)).lies
    → ((k x : ℕ) → put (i + 1) gone t.gone k x ≡ true → (t.gone k x ≡ true) ⊎ ((k ≡ i + 1) × WentNow s plan x)) → MovedTo (i + 1) step t s plan
move_stands i step t s plan gone st is_done grow taken each =
    let done : Done (i + 1) step s.floor plan = done_of (i + 1) step s.floor plan is_done in
    let lifted : LiftedAt step i (stand_of (line_of s)) (between_of t s) done.around = lifted_at step i (stand_of (line_of s)) (between_of t s) done.around st.keeps done.row in
    let t2 : Trace = moved_trace t (i + 1) lifted.place gone in
    let now : Running = with_floor plan s in
    let ghost : Ghost = record { place = lifted.place; board = (t.ghost (i + 1)).board } in
    record {
      trace = t2;
      moved = subst (λ (g : Ghost). MovesPlace step (t.ghost (i + 1)).place g.place) (sym (put_same (i + 1) ghost t.ghost)) lifted.moves;
      others = λ k apart. put_other (i + 1) k ghost t.ghost apart;
      stands = record {
        keeps = move_keeps step i (stand_of (line_of s)) (between_of t s) (stand_of (line_of now)) (between_of t2 now) done.around gone st.keeps done.row grow taken
            (moved_apart t t2 s plan (i + 1) step st is_done each) lifted (is_moved i step t s plan lifted.place gone st done);
        waits = λ k. (let w = st.waits k in record {
          one_above = w.one_above;
          one_below = w.one_below;
          exit_open = w.exit_open;
          entry_open = w.entry_open;
          untaken = w.untaken;
          uncome = w.uncome;
          called = w.called;
          taken_first = w.taken_first;
          may_come = w.may_come;
          free = still_read i step t s plan k st done (same_or_not k (i + 1)) (same_or_not (k + 1) (i + 1));
        });
        carried = λ k. record { up = (st.carried k).up; down = (st.carried k).down; quiet = (st.carried k).quiet; called = (st.carried k).called; none_up = (st.carried k).none_up; none_down = (st.carried k).none_down };
        rest = λ k none. record { outlet = (st.rest k none).outlet; intake = (st.rest k none).intake; exit = (st.rest k none).exit; entry = (st.rest k none).entry; wires = (st.rest k none).wires };
        fit = λ k. fit_aside s now k refl (st.fit k);
        sound = st.sound;
        many = machines_kept (i + 1) step s.floor plan is_done ∙ st.many;
        whole = whole_after (i + 1) step s.floor plan st.whole is_done;
        differ = moves_differ (i + 1) step s.floor plan st.whole is_done st.differ;
        numbers = record { apart = st.numbers.apart };
        made = λ x some. made_aside s now x refl (st.made x (omega (arith, some, kept_count step (gap_at s.floor (i + 1)).lies x (boards_on s.floor) (boards_on plan) (keeps_boards (i + 1) step s.floor plan st.whole is_done))));
        olds = λ k x is. made_aside s now x refl (elim (each k x is) [ inl was ↦ st.olds k x was | inr own ↦ st.made x own.1.was ]);
      };
    }

-- ---- all but a hand leave what is gone

other_stands : (i : ℕ) (step : Move) (t : Trace) (s : Running) (plan : FloorPlan) → Stands t s → AreTaken (t.gone (i + 1)) step (gap_at s.floor (i + 1)).lies → floor_move (i + 1) step s.floor ≡ Ok plan → MovedTo (i + 1) step t s plan
other_stands i step t s plan st none is_done = move_stands i step t s plan (t.gone (i + 1)) st is_done (λ x is. is) none (λ k x gone. inl (sym (same_gone (i + 1) t k x (same_or_not k (i + 1))) ∙ gone))

-- ---- a hand takes a board from the gap

-- what is gone then
abbrev pub with_gone : (ℕ → Bool) → ℕ → ℕ → Bool
with_gone gone x y = gone y || nat_eq y x

pub taken_gone : (gap x : ℕ) (t : Trace) (k y : ℕ) → (k ≡ gap) ⊎ (k ≢ gap) → put gap (with_gone (t.gone gap) x) t.gone k y ≡ true → (t.gone k y ≡ true) ⊎ ((k ≡ gap) × (y ≡ x))
taken_gone gap x t k y (inl is) gone =
    let here : put gap (with_gone (t.gone gap) x) t.gone gap y ≡ true = subst (λ (n : ℕ). put gap (with_gone (t.gone gap) x) t.gone n y ≡ true) is gone in
    let own : with_gone (t.gone gap) x y ≡ true = sym (ap (λ (f : ℕ → Bool). f y) (put_same gap (with_gone (t.gone gap) x) t.gone)) ∙ here in
    elim (or_cases (t.gone gap y) (nat_eq y x) own) [ inl was ↦ inl (subst (λ (n : ℕ). t.gone n y ≡ true) (sym is) was) | inr same ↦ inr (is, eqb-true y x same) ]
taken_gone gap x t k y (inr apart) gone = inl (sym (ap (λ (f : ℕ → Bool). f y) (put_other gap k (with_gone (t.gone gap) x) t.gone apart)) ∙ gone)

take_stands : (i : ℕ) (t : Trace) (s : Running) (plan : FloorPlan) → Stands t s → floor_move (i + 1) moves.Take s.floor ≡ Ok plan → MovedTo (i + 1) moves.Take t s plan
take_stands i t s plan st is_done =
    let done : Done (i + 1) moves.Take s.floor plan = done_of (i + 1) moves.Take s.floor plan is_done in
    let x : ℕ = (t.ghost (i + 1)).board.id in
    let gone : ℕ → Bool = with_gone (t.gone (i + 1)) x in
    let lies : LiesIn x (gap_at s.floor (i + 1)).lies = taken_board (move_is moves.Take (around_of s.floor (i + 1)) done.around done.row) (st.keeps.neighbours.at (i + 1)).pair.gap in
    let loss = keeps_boards (i + 1) moves.Take s.floor plan st.whole is_done in
    let fewer : counted x (boards_on plan) + 1 ≤ counted x (boards_on s.floor) = taken_count x (boards_in (gap_at s.floor (i + 1)).lies) (boards_on s.floor) (boards_on plan) loss.0 loss.1 (lies_counted (lies_in_gap lies)) loss.2 in
    let went : WentNow s plan x = record { was = omega (arith, fewer); is_not = omega (arith, fewer, st.differ.once x) } in
    move_stands i moves.Take t s plan gone st is_done (λ y is. or_left (t.gone (i + 1) y) (nat_eq y x) is)
    (λ y there. subst (λ (n : ℕ). gone n ≡ true) (sym (one_board lies there)) (or_right (t.gone (i + 1) x) (nat_eq x x) (eq-eqb x x refl)))
    (λ k y is. elim (taken_gone (i + 1) x t k y (same_or_not k (i + 1)) is) [ inl was ↦ inl was | inr own ↦ inr (own.0, subst (λ (n : ℕ). WentNow s plan n) (sym own.1) went) ])

-- ---- THE MOVES

each_stands : (i : ℕ) (step : Move) (t : Trace) (s : Running) (plan : FloorPlan) → Stands t s → floor_move (i + 1) step s.floor ≡ Ok plan → MovedTo (i + 1) step t s plan
each_stands i moves.Take t s plan st is_done = take_stands i t s plan st is_done
each_stands i moves.Begin t s plan st is_done = other_stands i moves.Begin t s plan st tt is_done
each_stands i moves.Left t s plan st is_done = other_stands i moves.Left t s plan st tt is_done
each_stands i moves.Enter t s plan st is_done = other_stands i moves.Enter t s plan st tt is_done
each_stands i moves.Back t s plan st is_done = other_stands i moves.Back t s plan st tt is_done
each_stands i moves.HandIn t s plan st is_done = other_stands i moves.HandIn t s plan st tt is_done

pub moved_to : (gap : ℕ) (step : Move) (t : Trace) (s : Running) (plan : FloorPlan) → Stands t s → floor_move gap step s.floor ≡ Ok plan → MovedTo gap step t s plan
moved_to gap step t s plan st moved =
    let done : Done gap step s.floor plan = done_of gap step s.floor plan moved in
    let same : gap - 1 + 1 ≡ gap = less_one gap (is_gap_of s.floor gap done.there).counted in
    subst (λ (n : ℕ). MovedTo n step t s plan) same (each_stands (gap - 1) step t s plan st (subst (λ (n : ℕ). floor_move n step s.floor ≡ Ok plan) (sym same) moved))

pub moved_stand : (gap : ℕ) (step : Move) (t : Trace) (s : Running) (plan : FloorPlan) → Stands t s → floor_move gap step s.floor ≡ Ok plan → AreInRelation (with_floor plan s)
moved_stand gap step t s plan st moved = let m = moved_to gap step t s plan st moved in record { trace = m.trace; stands = m.stands }

pub moves_stand : {reading : Reading} {gap : ℕ} {step : Move} {before after : Running} (t : Trace) → Stands t before → Moves reading gap step before after → AreInRelation after
moves_stand {gap = gap} {step = step} {before = before} t st m = subst AreInRelation (sym m.after_is) (moved_stand gap step t before m.floor st m.moved)
