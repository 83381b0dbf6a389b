-- Whether a board of an id is on the floor, behind a line: it comes by its insertion and goes by its removal alone.
use Rattle.std.proofs.Common.{◌≡◌, ◌≤◌, ◌==◌, ℕ, Bool, true, false, List, [], ◌∷◌, Option, Some, None, refl, sym, subst, arith, eqb-true}
use Rattle.std.specs.List.{list_any}
use Rattle.std.proofs.lemmas.Bool.{or_parts}
use Rattle.law_one_standing.proofs.ApartStep.{same_count as same_less, bare_count}
use Rattle.line_base.specs.declared.states.Side.TheVariants.{Entry, Exit}
use Rattle.line_world.specs.Boards.{ChangesId, LosesBoard}
use Rattle.line_world.specs.FloorPlan.{has_id}
use Rattle.line_world.specs.declared.board.Board.{Board}
use Rattle.line_world.specs.declared.moves.Move.TheVariants as moves
use Rattle.line_world.proofs.Placing.{changed_with, lost_with}
use Rattle.node_core.specs.declared.act.Act.TheVariants as acts
use Rattle.line_report.specs.declared.happening.Happening.{Happening}
use Rattle.line_report.specs.declared.happening.Happening.TheVariants as happenings
use Rattle.line_step.specs.FloorIds.{AllChange, ChangesBoards, boards_of}
use Rattle.line_step.specs.State.{LineState}
use Rattle.line_step.proofs.FloorLaws.{Goes}
use Rattle.law_one_standing.proofs.ApartFloor.{counted}

-- a happening takes a board with this id from the floor, or may
abbrev pub may_lose : ℕ → Happening → Bool
may_lose id (happenings.Done machine (acts.Removes other)) = other == id
may_lose id (happenings.Done machine (acts.Replaces old new)) = old == id
may_lose id (happenings.Done machine (acts.Gives other to)) = other == id
may_lose id (happenings.Moved gap moves.Take) = true
may_lose id (happenings.Unseen machine side) = true
may_lose id _ = false

abbrev pub may_lose_any : ℕ → List Happening → Bool
may_lose_any id told = list_any (may_lose id) told

-- and one brings it there
abbrev pub may_bring : ℕ → Happening → Bool
may_bring id (happenings.Done machine (acts.Inserts other)) = other == id
may_bring id (happenings.Done machine (acts.Replaces old new)) = new == id
may_bring id (happenings.Done machine (acts.Gets other)) = other == id
may_bring id _ = false

abbrev pub may_bring_any : ℕ → List Happening → Bool
may_bring_any id told = list_any (may_bring id) told

gained : (x : ℕ) (board : Board) (old new : List Board) → LosesBoard new old board
    → counted x old ≤ counted x new
gained x board old new gain =
    let more = lost_with x gain.front gain.back board (has_id x board) refl in
    rw (gain.before, gain.after) (omega (arith, more))

apart_id : (x other mine : ℕ) → (other == x) ≡ false → (mine == other) ≡ true → (mine == x) ≡ false
apart_id x other mine apart own =
    subst (λ (n : ℕ). (n == x) ≡ false) (sym (eqb-true mine other own)) apart

apart_by : (x other : ℕ) (id : Option ℕ) → (other == x) ≡ false → has_id other (record { id = id }) ≡ true
    → has_id x (record { id = id }) ≡ false
apart_by x other None apart own = refl
apart_by x other (Some mine) apart own = apart_id x other mine apart own

apart_board : (x other : ℕ) (board : Board) → (other == x) ≡ false → has_id other board ≡ true
    → has_id x board ≡ false
apart_board x other board apart own = apart_by x other board.id apart own

lost_other : (x other : ℕ) (board : Board) (old new : List Board) → (other == x) ≡ false
    → has_id other board ≡ true → LosesBoard old new board → counted x old ≤ counted x new
lost_other x other board old new apart own loss =
    let not : has_id x board ≡ false =
    apart_board x other board apart own in
    let less = lost_with x loss.front loss.back board false not in
    rw (loss.before, loss.after) (omega (arith, less))

changed_other : (x was now : ℕ) (old new : List Board) → (was == x) ≡ false
    → ChangesId was now old new → counted x old ≤ counted x new
changed_other x was now old new apart change =
    let there = change.2 in
    let not : has_id x change.0 ≡ false =
    apart_board x was change.0 apart change.1 in
    let same =
    changed_with x there.front there.back change.0 (record { id = Some now }) false
    (has_id x (record { id = Some now })) not refl in
    rw (there.before, there.after) (omega (arith, same))

same_count : (x : ℕ) (old new : List Board) → new ≡ old → counted x old ≤ counted x new
same_count x old new same = rw same (omega arith)

stays_by : (x : ℕ) (happening : Happening) (old new : List Board)
    → may_lose x happening ≡ false → ChangesBoards happening old new
    → counted x old ≤ counted x new
stays_by x (happenings.Done machine (acts.Inserts id)) old new not gain =
    gained x (record { id = Some id }) old new gain
stays_by x (happenings.Done machine (acts.Removes id)) old new not loss =
    lost_other x id loss.0 old new not loss.1 loss.2
stays_by x (happenings.Done machine (acts.Gives id to)) old new not loss =
    lost_other x id loss.0 old new not loss.1 loss.2
stays_by x (happenings.Done machine (acts.Gets id)) old new not gain =
    gained x (record { id = Some id }) old new gain
stays_by x (happenings.Done machine (acts.Replaces was now)) old new not change =
    changed_other x was now old new not change
stays_by x (happenings.Moved gap moves.Take) old new not loss =
    absurd (let no : true ≡ false = not in cc)
stays_by x (happenings.Unseen machine Entry) old new not gain =
    absurd (let no : true ≡ false = not in cc)
stays_by x (happenings.Unseen machine Exit) old new not loss =
    absurd (let no : true ≡ false = not in cc)
stays_by x _ old new not same = same_count x old new same

all_stay : (x : ℕ) (told : List Happening) (old new : List Board)
    → may_lose_any x told ≡ false → AllChange told old new → counted x old ≤ counted x new
all_stay x [] old new not same = same_count x old new same
all_stay x (happening ∷ told) old new not change =
    let one =
    stays_by x happening old change.0 (or_parts (may_lose x happening) (may_lose_any x told) not).0
    change.1 in
    let rest =
    all_stay x told change.0 new (or_parts (may_lose x happening) (may_lose_any x told) not).1
    change.2 in
    omega (arith, one, rest)

-- a board that nothing takes from the floor is there still
pub stays_there : (id : ℕ) (before after : LineState) (told : List Happening)
    → Goes before after told → may_lose_any id told ≡ false
    → counted id (boards_of before) ≤ counted id (boards_of after)
stays_there id before after told goes not =
    all_stay id told (boards_of before) (boards_of after) not goes.change

-- ---- what doesn't come

new_board : (x id : ℕ) → (id == x) ≡ false → has_id x (record { id = Some id }) ≡ false
new_board x id apart = apart

gained_other : (x id : ℕ) (old new : List Board) → (id == x) ≡ false
    → LosesBoard new old (record { id = Some id }) → counted x new ≤ counted x old
gained_other x id old new apart gain =
    let more = lost_with x gain.front gain.back (record { id = Some id }) false (new_board x id apart) in
    rw (gain.before, gain.after) (omega (arith, more))

lost : (x : ℕ) (board : Board) (old new : List Board) → LosesBoard old new board
    → counted x new ≤ counted x old
lost x board old new loss =
    let less = lost_with x loss.front loss.back board (has_id x board) refl in
    rw (loss.before, loss.after) (omega (arith, less))

changed : (x was now : ℕ) (old new : List Board) → (now == x) ≡ false → ChangesId was now old new
    → counted x new ≤ counted x old
changed x was now old new apart change =
    let there = change.2 in
    let same =
    changed_with x there.front there.back change.0 (record { id = Some now }) (has_id x change.0) false refl
    (new_board x now apart) in
    rw (there.before, there.after) (omega (arith, same))

comes_by : (x : ℕ) (happening : Happening) (old new : List Board) → may_bring x happening ≡ false
    → ChangesBoards happening old new → counted x new ≤ counted x old
comes_by x (happenings.Done machine (acts.Inserts id)) old new not gain = gained_other x id old new not gain
comes_by x (happenings.Done machine (acts.Removes id)) old new not loss = lost x loss.0 old new loss.2
comes_by x (happenings.Done machine (acts.Gives id to)) old new not loss = lost x loss.0 old new loss.2
comes_by x (happenings.Done machine (acts.Gets id)) old new not gain = gained_other x id old new not gain
comes_by x (happenings.Done machine (acts.Replaces was now)) old new not change =
    changed x was now old new not change
comes_by x (happenings.Moved gap moves.Take) old new not loss = lost x loss.0 old new loss.1
comes_by x (happenings.Unseen machine Entry) old new not gain = bare_count x old new gain
comes_by x (happenings.Unseen machine Exit) old new not loss = lost x loss.0 old new loss.1
comes_by x _ old new not same = same_less x old new same

all_come : (x : ℕ) (told : List Happening) (old new : List Board)
    → may_bring_any x told ≡ false → AllChange told old new → counted x new ≤ counted x old
all_come x [] old new not same = same_less x old new same
all_come x (happening ∷ told) old new not change =
    let one =
    comes_by x happening old change.0 (or_parts (may_bring x happening) (may_bring_any x told) not).0
    change.1 in
    let rest =
    all_come x told change.0 new (or_parts (may_bring x happening) (may_bring_any x told) not).1
    change.2 in
    omega (arith, one, rest)

pub comes_not : (id : ℕ) (before after : LineState) (told : List Happening)
    → Goes before after told → may_bring_any id told ≡ false
    → counted id (boards_of after) ≤ counted id (boards_of before)
comes_not id before after told goes not =
    all_come id told (boards_of before) (boards_of after) not goes.change
