-- How often an id lies on the floor of a track.
use Rattle.std.proofs.Common.{◌≡◌, ◌≢◌, ◌+◌, ◌≤◌, ◌==◌, ◌++◌, ℕ, Bool, true, false, List, [], ◌∷◌, Some, None, length, filter, refl, sym, ap, subst, arith, eqb-true}
use Rattle.std.specs.List.{AllByRecursion}
use Rattle.line_world.specs.declared.board.Board.{Board}
use Rattle.line_world.specs.declared.moves.Move.TheVariants as moves
use Rattle.line_world.specs.FloorPlan.{has_id}
use Rattle.line_world.specs.Boards.{ChangesId, LosesBoard}
use Rattle.line_world.specs.Ids.{IdsDiffer}
use Rattle.line_base.specs.declared.states.Side.TheVariants.{Entry, Exit}
use Rattle.node_core.specs.declared.act.Act.TheVariants as acts
use Rattle.line_report.specs.declared.happening.Happening.{Happening}
use Rattle.line_report.specs.declared.happening.Happening.TheVariants as happenings
use Rattle.line_step.specs.FloorIds.{AllChange, ChangesBoards, boards_of, made_by, made_in}
use Rattle.line_step.specs.State.{LineState}
use Rattle.law_lanes.proofs.Telling.{AreUnmoved, IsUnmoved, came, came_in, gave, gave_in, one_if}

abbrev pub count : ℕ → List Board → ℕ
count id [] = 0
count id (board ∷ boards) = one_if (has_id id board) + count id boards

pub count_join : (id : ℕ) (front back : List Board)
    → count id (front ++ back) ≡ count id front + count id back
count_join id [] back = omega arith
count_join id (board ∷ front) back =
    let more = count_join id front back in
    omega (arith, more)

count_lost : (id : ℕ) (old new : List Board) (board : Board) → LosesBoard old new board
    → count id old ≡ one_if (has_id id board) + count id new
count_lost id old new board lost =
    let before = ap (λ (bs : List Board). count id bs) lost.before in
    let after = ap (λ (bs : List Board). count id bs) lost.after in
    let one = count_join id lost.front (board ∷ lost.back) in
    let two = count_join id lost.front lost.back in
    omega (arith, before, after, one, two)

own_by : (same : Bool) (was id : ℕ) (board : Board) → (was == id) ≡ same → has_id was board ≡ true
    → one_if same ≤ one_if (has_id id board)
own_by false was id board is has = omega arith
own_by true was id board is has =
    let there : has_id id board ≡ true =
    subst (λ (n : ℕ). has_id n board ≡ true) (eqb-true was id is) has in
    rw there (omega arith)

own_board : (was id : ℕ) (board : Board) → has_id was board ≡ true
    → one_if (was == id) ≤ one_if (has_id id board)
own_board was id board has = own_by (was == id) was id board refl has

count_same : (id : ℕ) (old new : List Board) → new ≡ old → count id new + 0 ≤ count id old + 0
count_same id old new same =
    let is = ap (λ (bs : List Board). count id bs) same in
    omega (arith, is)

changed : (was now id : ℕ) (old new : List Board) → ChangesId was now old new
    → count id new + 0 ≤ count id old + one_if (now == id)
changed was now id old new change =
    let stand : Board = record { id = Some now } in
    let before = ap (λ (bs : List Board). count id bs) change.2.before in
    let after = ap (λ (bs : List Board). count id bs) change.2.after in
    let one = count_join id change.2.front (change.0 ∷ change.2.back) in
    let two = count_join id change.2.front (stand ∷ change.2.back) in
    omega (arith, before, after, one, two)

-- what one happening does to it
change_count : (id : ℕ) (h : Happening) (old new : List Board) → ChangesBoards h old new
    → count id new + gave_in id h ≤ count id old + came_in id h
change_count id (happenings.Done machine (acts.Inserts own)) old new change =
    let is = count_lost id new old (record { id = Some own }) change in
    omega (arith, is)
change_count id (happenings.Done machine (acts.Removes own)) old new change =
    let is = count_lost id old new change.0 change.2 in
    omega (arith, is)
change_count id (happenings.Done machine (acts.Replaces was now)) old new change =
    changed was now id old new change
change_count id (happenings.Done machine (acts.Gives own to)) old new change =
    let is = count_lost id old new change.0 change.2 in
    let least = own_board own id change.0 change.1 in
    omega (arith, is, least)
change_count id (happenings.Done machine (acts.Gets own)) old new change =
    let is = count_lost id new old (record { id = Some own }) change in
    omega (arith, is)
change_count id (happenings.Moved gap moves.Take) old new change =
    let is = count_lost id old new change.0 change.1 in
    omega (arith, is)
change_count id (happenings.Unseen machine Entry) old new change =
    let is = count_lost id new old (record { id = None }) change in
    omega (arith, is)
change_count id (happenings.Unseen machine Exit) old new change =
    let is = count_lost id old new change.0 change.1 in
    omega (arith, is)
change_count id h old new change = count_same id old new change

pub all_count : (id : ℕ) (told : List Happening) (old new : List Board) → AllChange told old new
    → count id new + gave id told ≤ count id old + came id told
all_count id [] old new change = count_same id old new change
all_count id (h ∷ told) old new change =
    let one = change_count id h old change.0 change.1 in
    let more = all_count id told change.0 new change.2 in
    omega (arith, one, more)

-- ---- no id lies twice on a floor

filter_by : (has : Bool) (id : ℕ) (board : Board) (boards : List Board) → has_id id board ≡ has
    → count id boards ≡ length (filter (has_id id) boards)
    → count id (board ∷ boards) ≡ length (filter (has_id id) (board ∷ boards))
filter_by true id board boards is same = rw is (omega (arith, same))
filter_by false id board boards is same = rw is (omega (arith, same))

count_filter : (id : ℕ) (boards : List Board) → count id boards ≡ length (filter (has_id id) boards)
count_filter id [] = refl
count_filter id (board ∷ boards) =
    filter_by (has_id id board) id board boards refl (count_filter id boards)

pub once_there : (id : ℕ) (s : LineState) → IdsDiffer s.world.floor → count id (boards_of s) ≤ 1
once_there id s differ =
    let once = differ.once id in
    let same = count_filter id (boards_of s) in
    omega (arith, once, same)

-- ---- an id that lies there

-- what holds of each board holds of one that has the id
pub record Found (P : Board → Type 0) (id : ℕ) : Type 0 where
  pub board : Board
  pub holds : P board
  pub has : has_id id board ≡ true

found_by : (P : Board → Type 0) (id : ℕ) (board : Board) (boards : List Board) (has : Bool)
    → has_id id board ≡ has → P board → (1 ≤ count id boards → Found P id)
    → 1 ≤ one_if has + count id boards → Found P id
found_by P id board boards true is here later some = record { board = board; holds = here; has = is }
found_by P id board boards false is here later some = later (omega (arith, some))

pub found_there : (P : Board → Type 0) (id : ℕ) (boards : List Board) → AllByRecursion P boards
    → 1 ≤ count id boards → Found P id
found_there P id [] all some = absurd (let never : ⊥ = omega (arith, some) in never)
found_there P id (board ∷ boards) all some =
    found_by P id board boards (has_id id board) refl all.0
    (λ (more : 1 ≤ count id boards). found_there P id boards all.1 more) some

pub absent_of : (id : ℕ) (boards : List Board) → count id boards ≡ 0
    → AllByRecursion (λ (board : Board). has_id id board ≡ false) boards
absent_of id [] none = tt
absent_of id (board ∷ boards) none =
    (absent_by (has_id id board) refl, absent_of id boards (omega (arith, none))) where
      absent_by : (has : Bool) → has_id id board ≡ has → has ≡ false
      absent_by false is = refl
      absent_by true is =
          absurd (let never : ⊥ = omega (arith, none, ap one_if is) in never)

-- ---- new ids alone come where no board is moved between lanes

apart_one : (new id : ℕ) → id ≢ new → one_if (new == id) ≡ 0
apart_one new id apart = by (new == id) refl where
  by : (same : Bool) → (new == id) ≡ same → one_if same ≡ 0
  by false is = refl
  by true is = absurd (apart (sym (eqb-true new id is)))

comes_in : (id : ℕ) (h : Happening) → IsUnmoved h
    → AllByRecursion (λ (new : ℕ). id ≢ new) (made_in h) → came_in id h ≡ 0
comes_in id (happenings.Done machine (acts.Inserts new)) still apart = apart_one new id apart.0
comes_in id (happenings.Done machine (acts.Replaces old new)) still apart =
    apart_one new id apart.0
comes_in id (happenings.Done machine (acts.Gets new)) still apart = absurd still
comes_in id h still apart = refl

pub front_all : {A : Type 0} (P : A → Type 0) (front back : List A) → AllByRecursion P (front ++ back)
    → AllByRecursion P front × AllByRecursion P back
front_all P [] back all = (tt, all)
front_all P (x ∷ xs) back all =
    let rest = front_all P xs back all.1 in
    ((all.0, rest.0), rest.1)

pub comes_new : (id : ℕ) (told : List Happening) → AreUnmoved told
    → AllByRecursion (λ (new : ℕ). id ≢ new) (made_by told) → came id told ≡ 0
comes_new id [] still apart = refl
comes_new id (h ∷ told) still apart =
    let parts = front_all (λ (new : ℕ). id ≢ new) (made_in h) (made_by told) apart in
    let one = comes_in id h still.0 parts.0 in
    let more = comes_new id told still.1 parts.1 in
    omega (arith, one, more)
