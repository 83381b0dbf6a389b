-- What the acts of a step do to the boards on the floor.
use Rattle.std.proofs.Common.{◌≡◌, ◌-◌, ◌<◌, ◌≤◌, ◌++◌, ℕ, Bool, true, false, List, [], ◌∷◌, Option, Some, None, get_or, length, refl, sym, ap, subst, ◌∙◌, append_assoc, append-nil, arith}
use Rattle.std.specs.Prelude.{is_some, nat_lt, slice_index_or, slice_set, if◌then◌else◌, drop, slice_get}
use Rattle.std.proofs.lemmas.List.{get_or_default, get_or-set_same, length-set}
use Rattle.std.proofs.lemmas.List.Quantifiers.{position-Some}
use Rattle.line_step.proofs.Numbers.{floor_stays}
use Rattle.line_base.specs.declared.states.Side.{Side}
use Rattle.board_record.specs.declared.sensed.Sensed.{Sensed}
use Rattle.hermes_horizontal.specs.declared.message.Message.{Message}
use Rattle.hermes_horizontal.specs.Canonical.{canonical}
use Rattle.line_link.specs.Link.{answer_sent, sent_of}
use Rattle.line_link.specs.declared.link.Sent.{Sent}
use Rattle.line_link.specs.declared.link.Sent.TheVariants as sent
use Rattle.line_world.specs.declared.board.Board.{Board}
use Rattle.line_world.specs.declared.gap.AtGap.{AtGap}
use Rattle.line_world.specs.FloorPlan.{AtMachine, FloorPlan, empty_machine, gap_at, has_id, machine_at, place_of, with_boards, with_drive, with_machine, with_new_id, with_unread, without_board}
use Rattle.line_world.specs.Boards.{ChangesId, LosesBoard, boards_on}
use Rattle.line_world.proofs.Counting.{along_gains, along_loses, remove_loses}
use Rattle.line_world.proofs.Keeping.{boards_driven, counted_test}
use Rattle.line_world.proofs.Placing.{along_changes, changes_id}
use Rattle.node_core.specs.declared.act.Act.{Act}
use Rattle.node_core.specs.declared.act.Act.TheVariants as acts
use Rattle.node_core.specs.declared.act.Deed.{Deed}
use Rattle.node_core.specs.declared.act.Deed.TheVariants as deeds
use Rattle.line_report.specs.declared.happening.Happening.{Happening}
use Rattle.line_report.specs.declared.happening.Happening.TheVariants as happenings
use Rattle.line_step.specs.World.{WorldParts, end_of, link_at, link_of}
use Rattle.line_step.specs.Acts.{act_did, acts_did, answers, changes, counted as after_deed, cut_told, drives_on, lays, sent_by, takes_off}
use Rattle.line_step.specs.FloorIds.{AllChange, ChangesBoards, handled_by, handled_in, made_by, made_in}
use Rattle.step_rules.proofs.Hands.{AreQuiet, IsQuiet}

-- ---- floors with the same boards

-- the same machines, with as many gaps and the same boards in them
pub record SameBoards (old new : FloorPlan) : Type 0 where
  pub machines : new.machines ≡ old.machines
  pub gaps : length new.gaps ≡ length old.gaps
  pub boards : boards_on new ≡ boards_on old

pub same-still : (old new : FloorPlan) → new ≡ old → SameBoards old new
same-still old new is =
    let P : FloorPlan → Type 0 = λ plan. SameBoards old plan in
    subst P (sym is) (record { machines = refl; gaps = refl; boards = refl })

pub same-both : (a b c : FloorPlan) → SameBoards a b → SameBoards b c → SameBoards a c
same-both a b c one two = record { machines = two.machines ∙ one.machines; gaps = two.gaps ∙ one.gaps; boards = two.boards ∙ one.boards }

pub sent-floor : (answers : Bool) (machine : ℕ) (side : Side) (message : Message) (world : WorldParts) → (sent_by answers machine side message world).world.floor ≡ world.floor
sent-floor true machine side message world = floor_stays machine _ world
sent-floor false machine side message world = floor_stays (link_of machine side) _ world

counted-floor : (deed : Deed) (world : WorldParts) → (after_deed deed world).floor ≡ world.floor
counted-floor (deeds.Opens id) world = refl
counted-floor _ world = refl

gap-machines_by : (there : Bool) (gaps : List AtGap) (plan : FloorPlan) → (if there then record plan { gaps = gaps } else plan).machines ≡ plan.machines
gap-machines_by true gaps plan = refl
gap-machines_by false gaps plan = refl

gap-gaps_by : (there : Bool) (gaps : List AtGap) (plan : FloorPlan) → length gaps ≡ length plan.gaps → length (if there then record plan { gaps = gaps } else plan).gaps ≡ length plan.gaps
gap-gaps_by true gaps plan same = same
gap-gaps_by false gaps plan same = refl

drives-same : (machine : ℕ) (side : Side) (on : Bool) (plan : FloorPlan) → SameBoards plan (drives_on machine side on plan)
drives-same machine side on plan =
    let gap = link_of machine side in
    let now = with_drive (gap_at plan gap) side on in
    record {
      machines = gap-machines_by (nat_lt 0 gap) (slice_set plan.gaps (gap - 1) now) plan;
      gaps = gap-gaps_by (nat_lt 0 gap) (slice_set plan.gaps (gap - 1) now) plan (length-set plan.gaps (gap - 1) now);
      boards = boards_driven plan gap side on;
    }

-- a quiet act changes no board
quiet-act : (second : Bool) (machine : ℕ) (act : Act) (world : WorldParts) → IsQuiet act → SameBoards world.floor (act_did second machine act world).world.floor
quiet-act second machine (acts.Sends side message) world quiet = same-still world.floor _ (sent-floor (answers second side message) machine side message world)
quiet-act second machine (acts.Closes side) world quiet = same-still world.floor _ (floor_stays (link_of machine side) _ world)
quiet-act second machine (acts.Notices side) world quiet = same-still world.floor _ (floor_stays (link_of machine side) _ world)
quiet-act second machine (acts.Deed deed) world quiet = same-still world.floor _ (counted-floor deed world)
quiet-act second machine (acts.Drive side on) world quiet = drives-same machine side on world.floor
quiet-act second machine (acts.Inserts id) world quiet = absurd quiet
quiet-act second machine (acts.Removes id) world quiet = absurd quiet
quiet-act second machine (acts.Replaces was now) world quiet = absurd quiet
quiet-act second machine (acts.Gives id to) world quiet = absurd quiet
quiet-act second machine (acts.Gets id) world quiet = absurd quiet
quiet-act second machine (acts.Answered query order) world quiet =
    same-still world.floor world.floor refl
quiet-act second machine _ world quiet = same-still world.floor world.floor refl

pub quiet-acts : (second : Bool) (machine : ℕ) (told : List Act) (world : WorldParts) → AreQuiet told → SameBoards world.floor (acts_did second machine told world).world.floor
quiet-acts second machine [] world quiet = same-still world.floor world.floor refl
quiet-acts second machine (act ∷ others) world quiet =
    let next = (act_did second machine act world).world in
    same-both world.floor next.floor (acts_did second machine others next).world.floor (quiet-act second machine act world quiet.0) (quiet-acts second machine others next quiet.1)

-- ---- happenings that change no board

pub record IsStill (told : List Happening) : Type 0 where
  pub change : (boards : List Board) → AllChange told boards boards
  pub made : made_by told ≡ []
  pub handled : handled_by told ≡ []

pub still-none : IsStill []
still-none = record { change = λ boards. refl; made = refl; handled = refl }

pub all-join : (a b : List Happening) (old between new : List Board) → AllChange a old between → AllChange b between new → AllChange (a ++ b) old new
all-join [] b old between new one two =
    let P : List Board → Type 0 = λ boards. AllChange b boards new in
    subst P one two
all-join (x ∷ xs) b old between new one two = (one.0, one.1, all-join xs b one.0 between new one.2 two)

pub made-join : (a b : List Happening) → made_by (a ++ b) ≡ made_by a ++ made_by b
made-join [] b = refl
made-join (x ∷ xs) b = ap (λ ids. made_in x ++ ids) (made-join xs b) ∙ sym (append_assoc (made_in x) (made_by xs) (made_by b))

pub handled-join : (a b : List Happening) → handled_by (a ++ b) ≡ handled_by a ++ handled_by b
handled-join [] b = refl
handled-join (x ∷ xs) b = ap (λ ids. handled_in x ++ ids) (handled-join xs b) ∙ sym (append_assoc (handled_in x) (handled_by xs) (handled_by b))

pub still-join : (a b : List Happening) → IsStill a → IsStill b → IsStill (a ++ b)
still-join a b one two = record {
  change = λ boards. all-join a b boards boards boards (one.change boards) (two.change boards);
  made = made-join a b ∙ ap (λ ids. ids ++ made_by b) one.made ∙ two.made;
  handled = handled-join a b ∙ ap (λ ids. ids ++ handled_by b) one.handled ∙ two.handled;
}

pub cut-still : (link : ℕ) (on : Sent) → IsStill (cut_told link on)
cut-still link sent.Cuts = record { change = λ boards. (boards, refl, refl); made = refl; handled = refl }
cut-still link sent.Flows = still-none
cut-still link sent.Vanishes = still-none

-- what is told of a quiet act
act-still : (machine : ℕ) (act : Act) → IsQuiet act → IsStill (happenings.Done machine act ∷ [])
act-still machine (acts.Inserts id) quiet = absurd quiet
act-still machine (acts.Removes id) quiet = absurd quiet
act-still machine (acts.Replaces was now) quiet = absurd quiet
act-still machine (acts.Gives id to) quiet = absurd quiet
act-still machine (acts.Gets id) quiet = absurd quiet
act-still machine (acts.Tells message) quiet =
    record { change = λ boards. (boards, refl, refl); made = refl; handled = refl }
act-still machine (acts.Answered query order) quiet =
    record { change = λ boards. (boards, refl, refl); made = refl; handled = refl }
act-still machine _ quiet = record { change = λ boards. (boards, refl, refl); made = refl; handled = refl }

sent-still : (answers : Bool) (machine : ℕ) (side : Side) (message : Message) (world : WorldParts) → IsStill (sent_by answers machine side message world).told
sent-still true machine side message world =
    still-join (happenings.Done machine (acts.Sends side message) ∷ []) (cut_told machine (answer_sent (canonical message) (link_at machine world))) (act-still machine (acts.Sends side message) tt) (cut-still machine (answer_sent (canonical message) (link_at machine world)))
sent-still false machine side message world =
    let link = link_of machine side in
    let on = sent_of (end_of side) (canonical message) (link_at link world) in
    still-join (happenings.Done machine (acts.Sends side message) ∷ []) (cut_told link on) (act-still machine (acts.Sends side message) tt) (cut-still link on)

told-still : (second : Bool) (machine : ℕ) (act : Act) (world : WorldParts) → IsQuiet act → IsStill (act_did second machine act world).told
told-still second machine (acts.Sends side message) world quiet = sent-still (answers second side message) machine side message world
told-still second machine (acts.Drive side on) world quiet = still-none
told-still second machine (acts.Inserts id) world quiet = absurd quiet
told-still second machine (acts.Removes id) world quiet = absurd quiet
told-still second machine (acts.Replaces was now) world quiet = absurd quiet
told-still second machine (acts.Gives id to) world quiet = absurd quiet
told-still second machine (acts.Gets id) world quiet = absurd quiet
told-still second machine (acts.Tells message) world quiet =
    act-still machine (acts.Tells message) tt
told-still second machine (acts.Answered query order) world quiet =
    act-still machine (acts.Answered query order) tt
told-still second machine act world quiet = act-still machine act tt

pub acts-still : (second : Bool) (machine : ℕ) (told : List Act) (world : WorldParts) → AreQuiet told → IsStill (acts_did second machine told world).told
acts-still second machine [] world quiet = still-none
acts-still second machine (act ∷ others) world quiet =
    let next = act_did second machine act world in
    still-join next.told (acts_did second machine others next.world).told (told-still second machine act world quiet.0) (acts-still second machine others next.world quiet.1)

-- ---- one act that is not quiet among others that are

pub record Handles (second : Bool) (machine : ℕ) (act : Act) (told : List Act) (world : WorldParts) : Type 0 where
  pub before : WorldParts
  pub reaches : SameBoards world.floor before.floor
  pub goes_on : SameBoards (act_did second machine act before).world.floor (acts_did second machine told world).world.floor
  pub change : ChangesBoards (happenings.Done machine act) (boards_on before.floor) (boards_on (act_did second machine act before).world.floor) → AllChange (acts_did second machine told world).told (boards_on world.floor) (boards_on (acts_did second machine told world).world.floor)
  pub made : made_by (acts_did second machine told world).told ≡ made_in (happenings.Done machine act)
  pub handled : handled_by (acts_did second machine told world).told ≡ handled_in (happenings.Done machine act)

-- what an act that is told alone is told of
abbrev pub IsPlain : Bool → ℕ → Act → Type 0
IsPlain second machine act = (world : WorldParts) → (act_did second machine act world).told ≡ happenings.Done machine act ∷ []

change-first : (boards other new : List Board) (told : List Happening) → other ≡ boards → AllChange told boards new → AllChange told other new
change-first boards other new told same change =
    let P : List Board → Type 0 = λ b. AllChange told b new in
    subst P (sym same) change

change-last : (boards new other : List Board) (told : List Happening) → other ≡ new → AllChange told boards new → AllChange told boards other
change-last boards new other told same change =
    let P : List Board → Type 0 = λ b. AllChange told boards b in
    subst P (sym same) change

-- the act comes first
handles-now : (second : Bool) (machine : ℕ) (act : Act) (back : List Act) (world : WorldParts) → IsPlain second machine act → AreQuiet back → Handles second machine act (act ∷ back) world
handles-now second machine act back world plain quiet =
    let next = act_did second machine act world in
    let still = acts-still second machine back next.world quiet in
    let same = quiet-acts second machine back next.world quiet in
    let later = (acts_did second machine back next.world).told in
    record {
      before = world;
      reaches = same-still world.floor world.floor refl;
      goes_on = same;
      change = λ changes.
          rw (plain world) (boards_on next.world.floor, changes, change-last (boards_on next.world.floor) (boards_on next.world.floor) (boards_on (acts_did second machine back next.world).world.floor) later same.boards (still.change (boards_on next.world.floor)));
      made = rw (plain world) (ap (λ ids. made_in (happenings.Done machine act) ++ ids) still.made ∙ append-nil (made_in (happenings.Done machine act)));
      handled = rw (plain world) (ap (λ ids. handled_in (happenings.Done machine act) ++ ids) still.handled ∙ append-nil (handled_in (happenings.Done machine act)));
    }

pub handles : (second : Bool) (machine : ℕ) (act : Act) (front back : List Act) (world : WorldParts) → IsPlain second machine act → AreQuiet front → AreQuiet back → Handles second machine act (front ++ act ∷ back) world
handles second machine act [] back world plain first quiet = handles-now second machine act back world plain quiet
handles second machine act (x ∷ xs) back world plain first quiet =
    let next = act_did second machine x world in
    let inner = handles second machine act xs back next.world plain first.1 quiet in
    let same = quiet-act second machine x world first.0 in
    let still = told-still second machine x world first.0 in
    let later = (acts_did second machine (xs ++ act ∷ back) next.world).told in
    let end = boards_on (acts_did second machine (xs ++ act ∷ back) next.world).world.floor in
    record {
      before = inner.before;
      reaches = same-both world.floor next.world.floor inner.before.floor same inner.reaches;
      goes_on = inner.goes_on;
      change = λ changes. all-join next.told later (boards_on world.floor) (boards_on world.floor) end (still.change (boards_on world.floor)) (change-first (boards_on next.world.floor) (boards_on world.floor) end later (sym same.boards) (inner.change changes));
      made = made-join next.told later ∙ ap (λ ids. ids ++ made_by later) still.made ∙ inner.made;
      handled = handled-join next.told later ∙ ap (λ ids. ids ++ handled_by later) still.handled ∙ inner.handled;
    }

-- ---- what is done by hand

-- a machine that is there
pub at-there : (plan : FloorPlan) (machine : ℕ) → 1 ≤ machine → machine_at plan machine ≡ get_or plan.machines (machine - 1) empty_machine
at-there plan machine counted = rw (counted_test machine counted) refl

here-is : (machines : List AtMachine) (place : ℕ) → place < length machines → get_or machines place empty_machine ≡ get_or machines place (get_or machines place empty_machine)
here-is machines place within = get_or_default machines place empty_machine (get_or machines place empty_machine) within

with-there : (plan : FloorPlan) (machine : ℕ) (boards : List Board) → 1 ≤ machine → with_boards plan machine boards ≡ record plan { machines = slice_set plan.machines (machine - 1) (record (get_or plan.machines (machine - 1) empty_machine) { boards = boards }) }
with-there plan machine boards counted = rw (counted_test machine counted) refl

-- a board comes to lie at the back of a list
pub board-gains : (plan : FloorPlan) (machine : ℕ) (board : Board) → 1 ≤ machine → machine ≤ length plan.machines
    → LosesBoard (boards_on (with_boards plan machine ((machine_at plan machine).boards ++ board ∷ []))) (boards_on plan) board
board-gains plan machine board counted within =
    let place = machine - 1 in
    let here = get_or plan.machines place empty_machine in
    let boards = (machine_at plan machine).boards ++ board ∷ [] in
    let listed : boards ≡ here.boards ++ board ∷ [] = ap (λ (m : AtMachine). m.boards ++ board ∷ []) (at-there plan machine counted) in
    let gain : LosesBoard boards here.boards board = rw listed (record { front = here.boards; back = []; before = refl; after = sym (append-nil here.boards) }) in
    let there : place < length plan.machines = omega arith in
    rw (with-there plan machine boards counted) (along_gains plan.machines plan.gaps place (record here { boards = boards }) here board there (here-is plan.machines place there) gain)

pub lays-gains : (plan : FloorPlan) (machine id : ℕ) → 1 ≤ machine → machine ≤ length plan.machines → LosesBoard (boards_on (lays machine id plan)) (boards_on plan) (record { id = Some id })
lays-gains plan machine id counted within = board-gains plan machine (record { id = Some id }) counted within

-- the front board of a list goes
front-lost : (boards : List Board) (board : Board) → slice_get boards 0 ≡ Some board → LosesBoard boards (drop 1 boards) board
front-lost [] board found = cc
front-lost (first ∷ boards) board found =
    let same : first ≡ board = cc in
    record { front = []; back = boards; before = ap (λ (b : Board). b ∷ boards) same; after = refl }

pub front-loses : (plan : FloorPlan) (machine : ℕ) (board : Board) → 1 ≤ machine → machine ≤ length plan.machines → slice_get (machine_at plan machine).boards 0 ≡ Some board
    → LosesBoard (boards_on plan) (boards_on (with_boards plan machine (drop 1 (machine_at plan machine).boards))) board
front-loses plan machine board counted within found =
    let place = machine - 1 in
    let here = get_or plan.machines place empty_machine in
    let listed = ap (λ (m : AtMachine). m.boards) (at-there plan machine counted) in
    let boards = drop 1 (machine_at plan machine).boards in
    let gone : boards ≡ drop 1 here.boards = ap (drop 1) listed in
    let front : slice_get here.boards 0 ≡ Some board = ap (λ (bs : List Board). slice_get bs 0) (sym listed) ∙ found in
    let lost : LosesBoard here.boards boards board = rw gone (front-lost here.boards board front) in
    let there : place < length plan.machines = omega arith in
    rw (with-there plan machine boards counted) (along_loses plan.machines plan.gaps place (record here { boards = boards }) here board there (here-is plan.machines place there) lost)

-- the board that lies in a machine's list
pub record LiesThere (id : ℕ) (boards : List Board) : Type 0 where
  pub place : ℕ
  pub found : place_of id boards ≡ Some place

pub lies-there_by : (found : Option ℕ) (id : ℕ) (boards : List Board) → place_of id boards ≡ found → is_some found ≡ true → LiesThere id boards
lies-there_by (Some place) id boards is test = record { place = place; found = is }
lies-there_by None id boards is test = cc

abbrev none_board : Board
none_board = record { id = None }

pub takes_off-loses : (plan : FloorPlan) (machine id : ℕ) → 1 ≤ machine → machine ≤ length plan.machines → LiesThere id (machine_at plan machine).boards → (board : Board) × (has_id id board ≡ true) × LosesBoard (boards_on plan) (boards_on (takes_off machine id plan)) board
takes_off-loses plan machine id counted within lies =
    let place = machine - 1 in
    let here = get_or plan.machines place empty_machine in
    let listed = ap (λ (m : AtMachine). m.boards) (at-there plan machine counted) in
    let found : place_of id here.boards ≡ Some lies.place = rw listed at lies.found in
    let which = position-Some (has_id id) here.boards lies.place none_board found in
    let board = get_or here.boards lies.place none_board in
    let boards = without_board id (machine_at plan machine).boards in
    let removed : boards ≡ without_board id here.boards = ap (without_board id) listed in
    let lost : LosesBoard here.boards boards board = rw (removed, without_board, found) (remove_loses here.boards lies.place board which.0 (get_or_default here.boards lies.place none_board board which.0)) in
    let there : place < length plan.machines = omega arith in
    (board, which.1, rw (with-there plan machine boards counted) (along_loses plan.machines plan.gaps place (record here { boards = boards }) here board there (here-is plan.machines place there) lost))

pub changes-changes : (plan : FloorPlan) (machine was now : ℕ) → 1 ≤ machine → machine ≤ length plan.machines → LiesThere was (machine_at plan machine).boards → ChangesId was now (boards_on plan) (boards_on (changes machine was now plan))
changes-changes plan machine was now counted within lies =
    let place = machine - 1 in
    let here = get_or plan.machines place empty_machine in
    let listed = ap (λ (m : AtMachine). m.boards) (at-there plan machine counted) in
    let found : place_of was here.boards ≡ Some lies.place = rw listed at lies.found in
    let boards = with_new_id was now (machine_at plan machine).boards in
    let renamed : boards ≡ with_new_id was now here.boards = ap (with_new_id was now) listed in
    let change : ChangesId was now here.boards boards = rw (renamed, with_new_id, found) (changes_id was now here.boards lies.place found) in
    let there : place < length plan.machines = omega arith in
    rw (with-there plan machine boards counted) (along_changes plan.machines plan.gaps place (record here { boards = boards }) here was now there (here-is plan.machines place there) change)

-- a machine's list is the same on floors with the same machines, and when its events are read
pub same-list : (old new : FloorPlan) (machine : ℕ) → new.machines ≡ old.machines → machine_at new machine ≡ machine_at old machine
same-list old new machine same =
    let listed : List AtMachine → AtMachine = λ machines. if nat_lt 0 machine then slice_index_or machines (machine - 1) empty_machine else empty_machine in
    ap listed same

pub read-list : (plan : FloorPlan) (machine : ℕ) (unread : List Sensed) → 1 ≤ machine → machine ≤ length plan.machines → (machine_at (with_unread plan machine unread) machine).boards ≡ (machine_at plan machine).boards
read-list plan machine unread counted within =
    let place = machine - 1 in
    let there : place < length plan.machines = omega arith in
    let now : AtMachine = record (get_or plan.machines place empty_machine) { unread = unread } in
    rw (counted_test machine counted) (ap (λ (m : AtMachine). m.boards) (get_or-set_same plan.machines place now empty_machine there))

machine-gaps_by : (there : Bool) (machines : List AtMachine) (plan : FloorPlan) → (if there then record plan { machines = machines } else plan).gaps ≡ plan.gaps
machine-gaps_by true machines plan = refl
machine-gaps_by false machines plan = refl

pub as_many_gaps : (plan : FloorPlan) (machine : ℕ) (now : AtMachine) → (with_machine plan machine now).gaps ≡ plan.gaps
as_many_gaps plan machine now = machine-gaps_by (nat_lt 0 machine) (slice_set plan.machines (machine - 1) now) plan
