-- A board in exactly one place stays in exactly one.
use Rattle.std.proofs.Common.{◌≡◌, ◌∙◌, ℕ, suc, ◌+◌, ◌++◌, ◌∷◌, [], List, Bool, true, false, length, refl, sym, ap, arith, append_assoc, length-append}
use Rattle.std.specs.Prelude.{◌≢◌, ◌<◌, Option, Some, None, cond, filter, slice_set}
use Rattle.std.proofs.Common.{drop, drop-cons, get_or, take, eqb-true, eq-eqb, ne_eqb}
use Rattle.std.proofs.lemmas.List.{length-map, nil_from_length, set_split, take-append-drop}
use Rattle.std.specs.Bool.{OnTrue}
use Rattle.std.proofs.lemmas.List.Quantifiers.{position-Some}
use Rattle.line_world.proofs.Along.{along_at, machine_hole}
use Rattle.std.proofs.lemmas.List.Elements.{filter-append}
use Rattle.line_world.specs.declared.board.Board.{Board}
use Rattle.line_world.specs.declared.gap.Gap.{Gap}
use Rattle.line_world.specs.declared.gap.AtGap.{AtGap}
use Rattle.line_world.specs.declared.moves.Move.{Move}
use Rattle.line_world.specs.declared.moves.Move.TheVariants as moves
use Rattle.line_world.specs.FloorPlan.{AtMachine, FloorPlan, has_id, place_of}
use Rattle.line_world.specs.Boards.{ChangesId, ChangesPlace, GainsPlace, IsInOnePlace, IsNowhere, LosesPlace, KeepsBoards, KeepsPlaces, LosesBoard, Place, StaysUnlessTaken, boards_along, boards_in, boards_on, places_along, places_of}

length_places : (id number : ℕ) (machines : List AtMachine) (gaps : List AtGap) → length (places_along id number machines gaps) ≡ length (filter (has_id id) (boards_along machines gaps))
length_places id number [] gaps = refl
length_places id number (machine ∷ machines) [] =
    let rest = length_places id (number + 1) machines [] in
    simp (length-append, length-map, filter-append) (omega (arith, rest))
length_places id number (machine ∷ machines) (gap ∷ gaps) =
    let rest = length_places id (number + 1) machines gaps in
    simp (length-append, length-map, filter-append) (omega (arith, rest))

one_place : (id : ℕ) (plan : FloorPlan) (places : List Place) → places_of id plan ≡ places → length places ≡ 1 → IsInOnePlace id plan
one_place id plan [] is h = absurd (cc)
one_place id plan (place ∷ []) is h = (place, is)
one_place id plan (place ∷ other ∷ more) is h = absurd (omega (arith, h))

-- it is in one place exactly where one board has that id
pub one_place_of : (id : ℕ) (plan : FloorPlan) → length (filter (has_id id) (boards_on plan)) ≡ 1 → IsInOnePlace id plan
one_place_of id plan h = one_place id plan (places_of id plan) refl (length_places id 1 plan.machines plan.gaps ∙ h)

pub boards_of_one_place : (id : ℕ) (plan : FloorPlan) → IsInOnePlace id plan → length (filter (has_id id) (boards_on plan)) ≡ 1
boards_of_one_place id plan h = sym (length_places id 1 plan.machines plan.gaps) ∙ ap length h.1

pub nowhere_of : (id : ℕ) (plan : FloorPlan) → length (filter (has_id id) (boards_on plan)) ≡ 0 → IsNowhere id plan
nowhere_of id plan h = nil_from_length (places_of id plan) (length_places id 1 plan.machines plan.gaps ∙ h)

pub same_places : (id : ℕ) (old new : FloorPlan) → boards_on new ≡ boards_on old → IsInOnePlace id old → IsInOnePlace id new
same_places id old new same h = one_place_of id new (ap (λ boards. length (filter (has_id id) boards)) same ∙ boards_of_one_place id old h)

-- the boards with an id, before and after one board is lost
pub lost_with : (id : ℕ) (front back : List Board) (board : Board) (has : Bool) → has_id id board ≡ has → length (filter (has_id id) (front ++ board ∷ back)) ≡ length (filter (has_id id) (front ++ back)) + cond has 1 0
lost_with id front back board true h = simp (filter-append, length-append) (rw h (omega arith))
lost_with id front back board false h = simp (filter-append, length-append) (rw h (omega arith))

-- the laws of the calls that take out a board or put one in, and of the moves
loses_by : (id : ℕ) (old new : FloorPlan) (board : Board) (has : Bool) → LosesBoard (boards_on old) (boards_on new) board → has_id id board ≡ has → IsInOnePlace id old → StaysUnlessTaken id (filter (has_id id) (board ∷ [])) new
loses_by id old new board true loss h one =
    let before = boards_of_one_place id old one in
    let lost = lost_with id loss.front loss.back board true h in
    let none : length (filter (has_id id) (boards_on new)) ≡ 0 = rw loss.after (omega (arith, lost, rw loss.before at before)) in
    rw h (nowhere_of id new none)
loses_by id old new board false loss h one =
    let before = boards_of_one_place id old one in
    let lost = lost_with id loss.front loss.back board false h in
    let as_many : length (filter (has_id id) (boards_on new)) ≡ 1 = rw loss.after (omega (arith, lost, rw loss.before at before)) in
    rw h (one_place_of id new as_many)

pub loses_place : (old new : FloorPlan) (board : Board) → LosesBoard (boards_on old) (boards_on new) board → LosesPlace old new board
loses_place old new board loss = λ id one. loses_by id old new board (has_id id board) loss refl one

pub boards_of_nowhere : (id : ℕ) (plan : FloorPlan) → IsNowhere id plan → length (filter (has_id id) (boards_on plan)) ≡ 0
boards_of_nowhere id plan h = sym (length_places id 1 plan.machines plan.gaps) ∙ ap length h

pub gains_place : (old new : FloorPlan) (board : Board) → LosesBoard (boards_on new) (boards_on old) board → GainsPlace old new board
gains_place old new board gain = record {
  own = λ id h none.
      let before = boards_of_nowhere id old none in
      let more = lost_with id gain.front gain.back board true h in
      one_place_of id new (rw gain.before (omega (arith, more, rw gain.after at before)));
  others = λ id h one.
      let before = boards_of_one_place id old one in
      let more = lost_with id gain.front gain.back board false h in
      one_place_of id new (rw gain.before (omega (arith, more, rw gain.after at before)));
}

taken_places : (id : ℕ) (lies : Gap) (old new : FloorPlan) (board : Board) → boards_in lies ≡ board ∷ [] → LosesBoard (boards_on old) (boards_on new) board → IsInOnePlace id old → StaysUnlessTaken id (filter (has_id id) (boards_in lies)) new
taken_places id lies old new board is loss one = rw is (loses_place old new board loss id one)

pub keeps_places : (step : Move) (lies : Gap) (old new : FloorPlan) → KeepsBoards step lies (boards_on old) (boards_on new) → KeepsPlaces step lies old new
keeps_places moves.Begin lies old new h = λ id one. same_places id old new h one
keeps_places moves.Left lies old new h = λ id one. same_places id old new h one
keeps_places moves.Enter lies old new h = λ id one. same_places id old new h one
keeps_places moves.Back lies old new h = λ id one. same_places id old new h one
keeps_places moves.HandIn lies old new h = λ id one. same_places id old new h one
keeps_places moves.Take lies old new h = λ id one. taken_places id lies old new h.0 h.1 h.2 one

pub on_true_then : {P Q : Type 0} (b : Bool) → OnTrue b P → (P → Q) → OnTrue b Q
on_true_then true p f = f p
on_true_then false p f = tt

-- the first board with an id, which gets another one
pub changes_id : (was now : ℕ) (boards : List Board) (i : ℕ) → place_of was boards ≡ Some i → ChangesId was now boards (slice_set boards i (record { id = Some now }))
changes_id was now boards i h =
    let none : Board = record { id = None } in
    let found = position-Some (has_id was) boards i none h in (
      get_or boards i none,
      found.1,
      record {
        front = take i boards;
        back = drop (suc i) boards;
        before = sym (take-append-drop i boards) ∙ ap (λ rest. take i boards ++ rest) (drop-cons boards i none found.0);
        after = set_split boards i (record { id = Some now }) found.0;
      },
    )

-- a change at one machine is one along the line
pub along_changes : (machines : List AtMachine) (gaps : List AtGap) (i : ℕ) (machine here : AtMachine) (was now : ℕ) → i < length machines → here ≡ get_or machines i here → ChangesId was now here.boards machine.boards → ChangesId was now (boards_along machines gaps) (boards_along (slice_set machines i machine) gaps)
along_changes machines gaps i machine here was now h is change =
    let hole = machine_hole machines gaps i h in
    let old : boards_along machines gaps ≡ hole.front ++ (here.boards ++ hole.back) = rw (along_at machines gaps i here hole, ← is) refl in
    let there = change.2 in (
      change.0,
      change.1,
      record {
        front = hole.front ++ there.front;
        back = there.back ++ hole.back;
        before = rw (old, there.before) (simp append_assoc);
        after = rw (hole.filled machine, there.after) (simp append_assoc);
      },
    )

has_one_id : (was id : ℕ) (own : Option ℕ) → has_id was (record { id = own }) ≡ true → id ≢ was → has_id id (record { id = own }) ≡ false
has_one_id was id None h apart = absurd (cc)
has_one_id was id (Some own) h apart = ne_eqb own id (λ e. apart (sym e ∙ eqb-true own was h))

pub changed_with : (id : ℕ) (front back : List Board) (was now : Board) (had has : Bool) → has_id id was ≡ had → has_id id now ≡ has → length (filter (has_id id) (front ++ now ∷ back)) + cond had 1 0 ≡ length (filter (has_id id) (front ++ was ∷ back)) + cond has 1 0
changed_with id front back was now had has h k = omega (arith, lost_with id front back was had h, lost_with id front back now has k)

pub changes_place : (was now : ℕ) (old new : FloorPlan) → ChangesId was now (boards_on old) (boards_on new) → ChangesPlace was now old new
changes_place was now old new change =
    let board = change.0 in
    let has = change.1 in
    let there = change.2 in
    let renamed : Board = record { id = Some now } in
    record {
      before = λ apart one.
          let before = rw there.before at (boards_of_one_place was old one) in
          let same = changed_with was there.front there.back board renamed true false has (ne_eqb now was (λ e. apart (sym e))) in
          nowhere_of was new (rw there.after (omega (arith, before, same)));
      after = λ apart none.
          let before = rw there.before at (boards_of_nowhere now old none) in
          let same = changed_with now there.front there.back board renamed (has_id now board) true refl (eq-eqb now now refl) in
          let lost = lost_with now there.front there.back board (has_id now board) refl in
          one_place_of now new (rw there.after (omega (arith, before, same, lost)));
      others = λ id apart other one.
          let before = rw there.before at (boards_of_one_place id old one) in
          let same = changed_with id there.front there.back board renamed false false (has_one_id was id board.id has apart) (ne_eqb now id (λ e. other (sym e))) in
          one_place_of id new (rw there.after (omega (arith, before, same)));
    }
