-- A move on the floor, in the line.
use Rattle.std.proofs.Common.{Bool, Err, List, Ok, Result, ap, arith, inl, inr, nat_eq, ne_eqb, refl, subst, sym, true, ℕ, ◌&&◌, ◌+◌, ◌-◌, ◌||◌, ◌∙◌, ◌≡◌, ◌≢◌, ◌≤◌, ◌⊎◌}
use Rattle.board_record.specs.declared.record.Record.{Record}
use Rattle.line_world.specs.FloorPlan.{FloorPlan, IsGap, gap_at, machine_at}
use Rattle.line_world.specs.Moved.{IsMove, begun_is_taken, left_is_taken}
use Rattle.line_world.specs.Moves as world
use Rattle.line_world.specs.Moves.{around_of, floor_move}
use Rattle.line_world.specs.declared.gap.Gap.{Gap}
use Rattle.line_world.specs.declared.moves.Move.{Move}
use Rattle.line_world.specs.declared.moves.Move.TheVariants as moves
use Rattle.line_world.specs.declared.moves.MoveNo.{MoveNo}
use Rattle.line_world.proofs.Inverting.{move_is}
use Rattle.line_world.proofs.Keeping.{Done, between_after, done_of, down_after, is_gap_of, up_after}
use Rattle.law_custody.specs.Floor.{GapAt, gap_begun, gap_left}
use Rattle.law_custody.specs.Place.{Place}
use Rattle.law_machine_custody.specs.ByHand.{Grows}
use Rattle.line_report.specs.declared.happening.Happening.{Happening}
use Rattle.line_step.specs.Lines.{Moves, moved}
use Rattle.line_step.specs.Numbered.{ChangesGap}
use Rattle.line_step.specs.State.{LineState, with_world}
use Rattle.line_step.specs.World.{with_floor}
use Rattle.line_step.proofs.Changing.{moved_changes}
use Rattle.line_step.proofs.Numbers.{same_or_not}
use Rattle.law_one_standing.specs.Carried.{Trace, between_of, stand_of}
use Rattle.law_one_standing.specs.Places.{LiesIn, lies_begun, lies_left}
use Rattle.law_one_standing.specs.Stands.{Stands}
use Rattle.law_one_standing.proofs.ApartStep.{LayOn, PartedThen, apart_stays, apart_taken, grown}
use Rattle.law_one_standing.proofs.Behind.{Bears}
use Rattle.law_one_standing.proofs.HandSteps.{Around, Bearing, grows, own_gone, no_more}
use Rattle.law_one_standing.proofs.Moving.{AreTaken, IsMoved, LiftedAt, lifted_at, move_keeps}
use Rattle.law_one_standing.proofs.Traces.{SameTrace, gap_changes_of, put, put_other, put_same}

-- the line with another floor
abbrev pub with_plan : FloorPlan → LineState → LineState
with_plan plan s = with_world (with_floor plan s.world) s

-- the trace behind a move at a gap
abbrev pub moved_trace : Trace → ℕ → Place → (ℕ → Bool) → Trace
moved_trace t gap spot gone = record t { ghost = put gap (record { place = spot; board = (t.ghost gap).board }) t.ghost; gone = put gap gone t.gone }

moved_same : (t : Trace) (gap k : ℕ) (spot : Place) (gone : ℕ → Bool) → k ≢ gap → SameTrace t (moved_trace t gap spot gone) k
moved_same t gap k spot gone apart = record { ghost = put_other gap k _ t.ghost apart; up = refl; down = refl; gone = put_other gap k gone t.gone apart }

-- what a move makes of the line, by numbers
is_moved : (i : ℕ) (step : Move) (t : Trace) (s : LineState) (plan : FloorPlan) (spot : Place) (gone : ℕ → Bool) → Stands t s → (done : Done (i + 1) step s.world.floor plan) → floor_move (i + 1) step s.world.floor ≡ Ok plan
    → IsMoved i (stand_of s) (between_of t s) (stand_of (with_plan plan s)) (between_of (moved_trace t (i + 1) spot gone) (with_plan plan s)) done.around spot gone
is_moved i step t s plan spot gone st done moves =
    let now : LineState = with_plan plan s in
    let there : IsGap s.world.floor (i + 1) = is_gap_of s.world.floor (i + 1) done.there in
    let up : machine_at plan (i + 1) ≡ done.around.up = ap (λ (f : FloorPlan). machine_at f (i + 1)) done.after ∙ up_after s.world.floor (i + 1) done.around there in
    let down : machine_at plan (i + 1 + 1) ≡ done.around.down = ap (λ (f : FloorPlan). machine_at f (i + 1 + 1)) done.after ∙ down_after s.world.floor (i + 1) done.around there in
    let between : gap_at plan (i + 1) ≡ done.around.between = ap (λ (f : FloorPlan). gap_at f (i + 1)) done.after ∙ between_after s.world.floor (i + 1) done.around st.ids.whole there in
    record {
      changes = gap_changes_of (i + 1) t (moved_trace t (i + 1) spot gone) s now
          (subst (λ (answer : Result FloorPlan MoveNo). ChangesGap (i + 1) s (moved answer s)) moves (moved_changes (i + 1) step s))
          (λ k apart. moved_same t (i + 1) k spot gone apart);
      up = rw up refl;
      between = rw (between, put_same (i + 1) (record { place = spot; board = (t.ghost (i + 1)).board }) t.ghost, put_same (i + 1) gone t.gone) refl;
      down = rw down refl;
    }

-- a move that is done keeps the relation of the line
move_by : (i : ℕ) (step : Move) (t : Trace) (s : LineState) (plan : FloorPlan) (gone : ℕ → Bool) → Stands t s → floor_move (i + 1) step s.world.floor ≡ Ok plan → Grows (t.gone (i + 1)) gone → AreTaken gone step (gap_at s.world.floor (i + 1)).lies
    → ((t2 : Trace) → ((k y : ℕ) → t2.gone k y ≡ put (i + 1) gone t.gone k y) → PartedThen (LayOn s) t t2 (with_plan plan s)) → Bearing (LayOn s) t (with_plan plan s)
move_by i step t s plan gone st moves grow taken parts =
    let done : Done (i + 1) step s.world.floor plan = done_of (i + 1) step s.world.floor plan moves in
    let lifted : LiftedAt step i (stand_of s) (between_of t s) done.around = lifted_at step i (stand_of s) (between_of t s) done.around st.keeps done.row in
    let t2 : Trace = moved_trace t (i + 1) lifted.place gone in
    let now : LineState = with_plan plan s in
    let parted : PartedThen (LayOn s) t t2 now = parts t2 (λ k y. refl) in (
      t2,
      record {
        keeps = move_keeps step i (stand_of s) (between_of t s) (stand_of now) (between_of t2 now) done.around gone st.keeps done.row grow taken parted.apart lifted (is_moved i step t s plan lifted.place gone st done moves);
        carried = λ link has. record { up = (st.carried link has).up; down = (st.carried link has).down };
        rest = λ link none. record { outlet = (st.rest link none).outlet; intake = (st.rest link none).intake; exit = (st.rest link none).exit; entry = (st.rest link none).entry; up = (st.rest link none).up; down = (st.rest link none).down };
        fit = λ machine. record { body = (st.fit machine).body; maker = (st.fit machine).maker; name = (st.fit machine).name; lane = (st.fit machine).lane };
        sound = st.sound;
        olds = parted.olds;
        was = parted.was;
      },
    )

-- ---- what is gone

pub same_gone : (gap : ℕ) (t : Trace) (k y : ℕ) → (k ≡ gap) ⊎ (k ≢ gap) → put gap (t.gone gap) t.gone k y ≡ t.gone k y
same_gone gap t k y (inl is) = rw is (ap (λ (f : ℕ → Bool). f y) (put_same gap (t.gone gap) t.gone))
same_gone gap t k y (inr apart) = ap (λ (f : ℕ → Bool). f y) (put_other gap k (t.gone gap) t.gone apart)

more_gone : (gap id : ℕ) (t : Trace) (k y : ℕ) → (k ≡ gap) ⊎ (k ≢ gap) → put gap (grown gap id t.gone gap) t.gone k y ≡ grown gap id t.gone k y
more_gone gap id t k y (inl is) = rw is (ap (λ (f : ℕ → Bool). f y) (put_same gap (grown gap id t.gone gap) t.gone))
more_gone gap id t k y (inr apart) =
    ap (λ (f : ℕ → Bool). f y) (put_other gap k (grown gap id t.gone gap) t.gone apart) ∙ sym (ap (λ (b : Bool). t.gone k y || (b && nat_eq y id)) (ne_eqb k gap apart) ∙ no_more (t.gone k y) (nat_eq y id))

-- ---- a hand takes a board

pub taken_board : {old new : world.Around} {p : Place} {r : Record} → IsMove moves.Take old new → GapAt old.between.lies p r → LiesIn r.id old.between.lies
taken_board begun_is_taken gap_begun = lies_begun
taken_board left_is_taken gap_left = lies_left

pub one_board : {x y : ℕ} {lies : Gap} → LiesIn x lies → LiesIn y lies → y ≡ x
one_board lies_begun lies_begun = refl
one_board lies_left lies_left = refl

take_bears : (i : ℕ) (t : Trace) (s : LineState) (plan : FloorPlan) (all : List Happening) → Around t s (with_plan plan s) all → floor_move (i + 1) moves.Take s.world.floor ≡ Ok plan → Bearing (LayOn s) t (with_plan plan s)
take_bears i t s plan all a is_done =
    let st = a.st in
    let done : Done (i + 1) moves.Take s.world.floor plan = done_of (i + 1) moves.Take s.world.floor plan is_done in
    let x : ℕ = (t.ghost (i + 1)).board.id in
    let lies : LiesIn x (gap_at s.world.floor (i + 1)).lies = taken_board (move_is moves.Take (around_of s.world.floor (i + 1)) done.around done.row) (st.keeps.neighbours.at (i + 1)).pair.gap in
    move_by i moves.Take t s plan (grown (i + 1) x t.gone (i + 1)) st is_done (grows (i + 1) x t.gone (i + 1))
    (λ y there. subst (λ (n : ℕ). grown (i + 1) x t.gone (i + 1) n ≡ true) (sym (one_board lies there)) (own_gone (i + 1) x t.gone))
    (λ t2 same. apart_taken t t2 s (with_plan plan s) all (i + 1) x st.ids a.goes a.news is_done lies (λ k y. same k y ∙ more_gone (i + 1) x t k y (same_or_not k (i + 1))) (record { apart = st.keeps.apart; olds = st.olds }))

-- ---- the other moves

other_bears : (i : ℕ) (step : Move) (t : Trace) (s : LineState) (plan : FloorPlan) (all : List Happening) → Around t s (with_plan plan s) all → AreTaken (t.gone (i + 1)) step (gap_at s.world.floor (i + 1)).lies → floor_move (i + 1) step s.world.floor ≡ Ok plan → Bearing (LayOn s) t (with_plan plan s)
other_bears i step t s plan all a none is_done =
    move_by i step t s plan (t.gone (i + 1)) a.st is_done (λ x is. is) none
    (λ t2 same. apart_stays t t2 s (with_plan plan s) all a.goes a.news (λ k y. same k y ∙ same_gone (i + 1) t k y (same_or_not k (i + 1))) (record { apart = a.st.keeps.apart; olds = a.st.olds }))

each_move : (i : ℕ) (step : Move) (t : Trace) (s : LineState) (plan : FloorPlan) (all : List Happening) → Around t s (with_plan plan s) all → floor_move (i + 1) step s.world.floor ≡ Ok plan → Bearing (LayOn s) t (with_plan plan s)
each_move i moves.Take t s plan all a is_done = take_bears i t s plan all a is_done
each_move i moves.Begin t s plan all a is_done = other_bears i moves.Begin t s plan all a tt is_done
each_move i moves.Left t s plan all a is_done = other_bears i moves.Left t s plan all a tt is_done
each_move i moves.Enter t s plan all a is_done = other_bears i moves.Enter t s plan all a tt is_done
each_move i moves.Back t s plan all a is_done = other_bears i moves.Back t s plan all a tt is_done
each_move i moves.HandIn t s plan all a is_done = other_bears i moves.HandIn t s plan all a tt is_done

pub less_one : (n : ℕ) → 1 ≤ n → n - 1 + 1 ≡ n
less_one n counted = omega (arith, counted)

pub move_bears : (gap : ℕ) (step : Move) (t : Trace) (s : LineState) (plan : FloorPlan) (all : List Happening) → Around t s (with_plan plan s) all → floor_move gap step s.world.floor ≡ Ok plan → Bearing (LayOn s) t (with_plan plan s)
move_bears gap step t s plan all a is_done =
    let done : Done gap step s.world.floor plan = done_of gap step s.world.floor plan is_done in
    let same : gap - 1 + 1 ≡ gap = less_one gap (is_gap_of s.world.floor gap done.there).counted in
    each_move (gap - 1) step t s plan all a (subst (λ (n : ℕ). floor_move n step s.world.floor ≡ Ok plan) (sym same) is_done)

-- THE MOVES
pub moves_bear : (gap : ℕ) (step : Move) (t : Trace) (s after : LineState) (told all : List Happening) → Around t s after all → (Stands t s → Bears (LayOn s) t t s) → Moves gap step s after told → Bearing (LayOn s) t after
moves_bear gap step t s after told all a still is = by (floor_move gap step s.world.floor) refl
  where
    by : (answer : Result FloorPlan MoveNo) → floor_move gap step s.world.floor ≡ answer → Bearing (LayOn s) t after
    by (Ok plan) found =
        let same : after ≡ with_plan plan s = is.after_is ∙ ap (λ (answer : Result FloorPlan MoveNo). moved answer s) found in
        subst (λ (l : LineState). Bearing (LayOn s) t l) (sym same) (move_bears gap step t s plan all (subst (λ (l : LineState). Around t s l all) same a) found)
    by (Err why) found =
        let same : after ≡ s = is.after_is ∙ ap (λ (answer : Result FloorPlan MoveNo). moved answer s) found in
        subst (λ (l : LineState). Bearing (LayOn s) t l) (sym same) (t, still a.st)
