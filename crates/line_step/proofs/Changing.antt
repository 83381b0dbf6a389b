-- What a step, a link event and a move change of a line, by numbers, and what relations of neighbours ask then.
use Rattle.std.proofs.Common.{◌≡◌, ◌≢◌, ◌⊎◌, ◌∙◌, inl, inr, ℕ, zero, suc, ◌+◌, ◌-◌, ◌≤◌, ◌&&◌, ◌++◌, Bool, true, false, List, [], ◌∷◌, Result, Ok, Err, length, refl, sym, ap, subst, arith, None}
use Rattle.std.specs.Prelude.{cond, nat_lt, slice_index_or, slice_set, drop}
use Rattle.std.proofs.lemmas.List.{get_or-set_other}
use Rattle.std.proofs.lemmas.Bool.{ltb-true}
use Rattle.line_base.specs.declared.states.Side.{Side}
use Rattle.line_base.specs.declared.states.Side.TheVariants.{Entry, Exit}
use Rattle.board_record.specs.declared.sensed.Sensed.{Sensed}
use Rattle.hermes_horizontal.specs.Canonical.{canonical}
use Rattle.hermes_horizontal.specs.declared.message.Message.{Message}
use Rattle.line_link.specs.Link.{LinkParts, after_answer, after_close, after_send}
use Rattle.line_world.specs.FloorPlan.{AtMachine, FloorPlan, empty_machine, free_gap, gap_at, gaps_before, machine_at, with_drive, with_gap, with_machine as floor_machine}
use Rattle.line_world.specs.Moves.{Around, around_move, around_of, floor_after, floor_move, has_gap, with_around}
use Rattle.line_world.specs.declared.gap.AtGap.{AtGap}
use Rattle.line_world.specs.declared.moves.Move.{Move}
use Rattle.line_world.specs.declared.moves.MoveNo.{MoveNo}
use Rattle.line_world.specs.declared.moves.MoveNo.TheVariants as nos
use Rattle.node_core.specs.declared.act.Act.{Act}
use Rattle.node_core.specs.declared.act.Act.TheVariants as acts
use Rattle.node_core.specs.declared.act.Deed.{Deed}
use Rattle.node_core.specs.declared.act.Deed.TheVariants as deeds
use Rattle.node_core.specs.declared.input.Input.{Input}
use Rattle.node_core.specs.Node.{NodeState, new_node}
use Rattle.line_report.specs.declared.happening.Happening.{Happening}
use Rattle.line_step.specs.World.{WorldParts, end_of, link_at, link_of, with_floor, with_link}
use Rattle.line_step.specs.State.{LineState, one_more, profile_of, with_machine, with_world}
use Rattle.line_step.specs.Acts.{act_did, acts_did, answers, changes, counted, sent_by}
use Rattle.line_step.specs.Steps.{MachineSteps, is_second, read_by}
use Rattle.line_step.specs.Lines.{lied, moved, unseen}
use Rattle.line_step.specs.Numbered.{Changes, ChangesAround, ChangesBetween, ChangesGap, ChangesLink, ChangesMachine, Each, EachBody, between_at, no_node, node_at, stand_at}
use Rattle.line_step.proofs.Numbers.{at_number, floor_stays, link_set_other, machine_within, none_or_one, number_at, number_more, same_or_not}
use Rattle.line_step.proofs.Floors.{gap_other, gaps_stay, place_other, places_stay}
use Rattle.line_step.proofs.Keeps.{more_at}

-- ---- relations of neighbours

-- a relation of three things, each of which is as it was
three : {A B C : Type 0} (P : A → B → C → Type 0) {a a2 : A} {b b2 : B} {c c2 : C} → a2 ≡ a → b2 ≡ b → c2 ≡ c → P a b c → P a2 b2 c2
three P {a} {a2} {b} {b2} {c} {c2} x y z p = subst (λ r. P a2 b2 r) (sym z) (subst (λ q. P a2 q c) (sym y) (subst (λ o. P o b c) (sym x) p))

-- a step of machine m: the relation is asked of it and its neighbours, with what is between them
pub each_step : {M B : Type 0} (P : M → B → M → Type 0) (m : ℕ) (ms : ℕ → M) (bs : ℕ → B) (ms2 : ℕ → M) (bs2 : ℕ → B) → Changes m ms bs ms2 bs2 → Each P ms bs
    → P (ms2 m) (bs2 m) (ms (m + 1)) → ((j : ℕ) → j + 1 ≡ m → P (ms j) (bs2 j) (ms2 m)) → Each P ms2 bs2
each_step {M} {B} P m ms bs ms2 bs2 changes each below above = record { at = λ k. by k (same_or_not k m) (same_or_not (k + 1) m) }
  where
    by_own : (k : ℕ) → k ≡ m → P (ms2 k) (bs2 k) (ms2 (k + 1))
    by_own k is =
        let next : m + 1 ≢ m = omega arith in
        let Q : ℕ → Type 0 = λ n. P (ms2 n) (bs2 n) (ms2 (n + 1)) in
        subst Q (sym is) (subst (λ x. P (ms2 m) (bs2 m) x) (sym (changes.machines (m + 1) next)) below)

    by_above : (k : ℕ) → k + 1 ≡ m → P (ms2 k) (bs2 k) (ms2 (k + 1))
    by_above k is =
        let apart : k ≢ m = omega arith in
        subst (λ n. P (ms2 k) (bs2 k) (ms2 n)) (sym is) (subst (λ x. P x (bs2 k) (ms2 m)) (sym (changes.machines k apart)) (above k is))

    by : (k : ℕ) → (k ≡ m) ⊎ (k ≢ m) → (k + 1 ≡ m) ⊎ (k + 1 ≢ m) → P (ms2 k) (bs2 k) (ms2 (k + 1))
    by k (inl is) next = by_own k is
    by k (inr apart) (inl is) = by_above k is
    by k (inr apart) (inr other) = three P (changes.machines k apart) (changes.links k apart other) (changes.machines (k + 1) other) (each.at k)

-- what is between two machines changes alone
pub each_between : {M B : Type 0} (P : M → B → M → Type 0) (link : ℕ) (ms : ℕ → M) (bs : ℕ → B) (ms2 : ℕ → M) (bs2 : ℕ → B) → ChangesBetween link ms bs ms2 bs2 → Each P ms bs
    → P (ms link) (bs2 link) (ms (link + 1)) → Each P ms2 bs2
each_between {M} {B} P link ms bs ms2 bs2 changes each here = record { at = λ k. by k (same_or_not k link) }
  where
    by : (k : ℕ) → (k ≡ link) ⊎ (k ≢ link) → P (ms2 k) (bs2 k) (ms2 (k + 1))
    by k (inl is) =
        let Q : ℕ → Type 0 = λ n. P (ms2 n) (bs2 n) (ms2 (n + 1)) in
        subst Q (sym is) (three P (changes.machines link) refl (changes.machines (link + 1)) here)
    by k (inr apart) = three P (changes.machines k) (changes.links k apart) (changes.machines (k + 1)) (each.at k)

-- two machines change, and what is between them
pub each_around : {M B : Type 0} (P : M → B → M → Type 0) (link : ℕ) (ms : ℕ → M) (bs : ℕ → B) (ms2 : ℕ → M) (bs2 : ℕ → B) → ChangesAround link ms bs ms2 bs2 → Each P ms bs
    → P (ms2 link) (bs2 link) (ms2 (link + 1)) → ((j : ℕ) → j + 1 ≡ link → P (ms j) (bs j) (ms2 link)) → P (ms2 (link + 1)) (bs (link + 1)) (ms (link + 2)) → Each P ms2 bs2
each_around {M} {B} P link ms bs ms2 bs2 changes each here above below = record { at = λ k. by k (same_or_not k link) (same_or_not (k + 1) link) (same_or_not k (link + 1)) }
  where
    by_above : (k : ℕ) → k ≢ link → k + 1 ≡ link → P (ms2 k) (bs2 k) (ms2 (k + 1))
    by_above k apart is =
        let two : k ≢ link + 1 = omega arith in
        subst (λ n. P (ms2 k) (bs2 k) (ms2 n)) (sym is) (three P (changes.machines k apart two) (changes.links k apart) refl (above k is))

    by_below : (k : ℕ) → k ≡ link + 1 → P (ms2 k) (bs2 k) (ms2 (k + 1))
    by_below k is =
        let Q : ℕ → Type 0 = λ n. P (ms2 n) (bs2 n) (ms2 (n + 1)) in
        let same : link + 1 + 1 ≡ link + 2 = omega arith in
        let next : link + 1 ≢ link = omega arith in
        let one : link + 2 ≢ link = omega arith in
        let two : link + 2 ≢ link + 1 = omega arith in
        subst Q (sym is) (subst (λ n. P (ms2 (link + 1)) (bs2 (link + 1)) (ms2 n)) (sym same) (three P refl (changes.links (link + 1) next) (changes.machines (link + 2) one two) below))

    by : (k : ℕ) → (k ≡ link) ⊎ (k ≢ link) → (k + 1 ≡ link) ⊎ (k + 1 ≢ link) → (k ≡ link + 1) ⊎ (k ≢ link + 1) → P (ms2 k) (bs2 k) (ms2 (k + 1))
    by k (inl is) next last =
        let Q : ℕ → Type 0 = λ n. P (ms2 n) (bs2 n) (ms2 (n + 1)) in
        subst Q (sym is) here
    by k (inr apart) (inl is) last = by_above k apart is
    by k (inr apart) (inr other) (inl is) = by_below k is
    by k (inr apart) (inr other) (inr last) =
        let next : k + 1 ≢ link + 1 = omega arith in
        three P (changes.machines k apart last) (changes.links k apart) (changes.machines (k + 1) other next) (each.at k)

-- ---- relations of a machine with what is above and below it

pub body_step : {M B : Type 0} (Q : B → M → B → Type 0) (m : ℕ) (ms : ℕ → M) (bs : ℕ → B) (ms2 : ℕ → M) (bs2 : ℕ → B) → Changes m ms bs ms2 bs2 → EachBody Q ms bs
    → ((j : ℕ) → j + 1 ≡ m → Q (bs2 j) (ms2 m) (bs2 m)) → Q (bs2 m) (ms (m + 1)) (bs (m + 1)) → ((j : ℕ) → j + 2 ≡ m → Q (bs j) (ms (j + 1)) (bs2 (j + 1))) → EachBody Q ms2 bs2
body_step {M} {B} Q m ms bs ms2 bs2 changes each own below above = record { at = λ k. by k (same_or_not k m) (same_or_not (k + 1) m) (same_or_not (k + 2) m) }
  where
    two_more : (k : ℕ) → k + 1 + 1 ≡ k + 2
    two_more k = omega arith

    by_below : (k : ℕ) → k ≡ m → Q (bs2 k) (ms2 (k + 1)) (bs2 (k + 1))
    by_below k is =
        let R : ℕ → Type 0 = λ n. Q (bs2 n) (ms2 (n + 1)) (bs2 (n + 1)) in
        let one : m + 1 ≢ m = omega arith in
        let two : m + 1 + 1 ≢ m = omega arith in
        subst R (sym is) (three Q refl (changes.machines (m + 1) one) (changes.links (m + 1) one two) below)

    by_own : (k : ℕ) → k + 1 ≡ m → Q (bs2 k) (ms2 (k + 1)) (bs2 (k + 1))
    by_own k is = subst (λ n. Q (bs2 k) (ms2 n) (bs2 n)) (sym is) (own k is)

    by_above : (k : ℕ) → k ≢ m → k + 1 ≢ m → k + 2 ≡ m → Q (bs2 k) (ms2 (k + 1)) (bs2 (k + 1))
    by_above k apart other is = three Q (changes.links k apart other) (changes.machines (k + 1) other) refl (above k is)

    by : (k : ℕ) → (k ≡ m) ⊎ (k ≢ m) → (k + 1 ≡ m) ⊎ (k + 1 ≢ m) → (k + 2 ≡ m) ⊎ (k + 2 ≢ m) → Q (bs2 k) (ms2 (k + 1)) (bs2 (k + 1))
    by k (inl is) next last = by_below k is
    by k (inr apart) (inl is) last = by_own k is
    by k (inr apart) (inr other) (inl is) = by_above k apart other is
    by k (inr apart) (inr other) (inr last) =
        let more : k + 1 + 1 ≢ m = omega (arith, two_more k) in
        three Q (changes.links k apart other) (changes.machines (k + 1) other) (changes.links (k + 1) other more) (each.at k)

-- ---- what acts change

-- two worlds are the same but at a machine, and at the links and gaps on both its sides
pub record SameBut (machine : ℕ) (old new : WorldParts) : Type 0 where
  pub links : (k : ℕ) → k ≢ machine → k + 1 ≢ machine → link_at k new ≡ link_at k old
  pub gaps : (k : ℕ) → k ≢ machine → k + 1 ≢ machine → gap_at new.floor k ≡ gap_at old.floor k
  pub places : (k : ℕ) → k ≢ machine → machine_at new.floor k ≡ machine_at old.floor k

pub but_nothing : (machine : ℕ) (world : WorldParts) → SameBut machine world world
but_nothing machine world = record { links = λ k a b. refl; gaps = λ k a b. refl; places = λ k a. refl }

pub but_then : (machine : ℕ) (one two three : WorldParts) → SameBut machine one two → SameBut machine two three → SameBut machine one three
but_then machine one two three a b = record {
  links = λ k here above. b.links k here above ∙ a.links k here above;
  gaps = λ k here above. b.gaps k here above ∙ a.gaps k here above;
  places = λ k here. b.places k here ∙ a.places k here;
}

-- the links and gaps of a machine's sides are those before and behind it
apart_of : (machine : ℕ) (side : Side) (k : ℕ) → k ≢ machine → k + 1 ≢ machine → k ≢ link_of machine side
apart_of machine Exit k here above = here
apart_of machine Entry k here above = omega arith

but_link : (machine : ℕ) (side : Side) (parts : LinkParts) (world : WorldParts) → SameBut machine world (with_link (link_of machine side) parts world)
but_link machine side parts world =
    let link = link_of machine side in
    let floor = floor_stays link parts world in
    record {
      links = λ k here above. link_set_other link k parts world (apart_of machine side k here above);
      gaps = λ k here above. ap (λ (f : FloorPlan). gap_at f k) floor;
      places = λ k here. ap (λ (f : FloorPlan). machine_at f k) floor;
    }

but_place : (machine : ℕ) (now : AtMachine) (world : WorldParts) → SameBut machine world (with_floor (floor_machine world.floor machine now) world)
but_place machine now world = record { links = λ k here above. refl; gaps = λ k here above. gaps_stay world.floor machine k now; places = λ k here. place_other world.floor machine k now here }

but_gap : (machine : ℕ) (side : Side) (now : AtGap) (world : WorldParts) → SameBut machine world (with_floor (with_gap world.floor (link_of machine side) now) world)
but_gap machine side now world = record {
  links = λ k here above. refl;
  gaps = λ k here above. gap_other world.floor (link_of machine side) k now (apart_of machine side k here above);
  places = λ k here. places_stay world.floor (link_of machine side) k now;
}

but_counted : (machine : ℕ) (deed : Deed) (world : WorldParts) → SameBut machine world (counted deed world)
but_counted machine (deeds.Opens id) world = record { links = λ k a b. refl; gaps = λ k a b. refl; places = λ k a. refl }
but_counted machine (deeds.Settles id) world = record { links = λ k a b. refl; gaps = λ k a b. refl; places = λ k a. refl }
but_counted machine _ world = but_nothing machine world

but_sent : (second : Bool) (machine : ℕ) (side : Side) (message : Message) (world : WorldParts) → SameBut machine world (sent_by second machine side message world).world
but_sent true machine side message world = but_link machine Exit (after_answer (canonical message) (link_at machine world)) world
but_sent false machine side message world = but_link machine side (after_send (end_of side) (canonical message) (link_at (link_of machine side) world)) world

act_same_but : (second : Bool) (machine : ℕ) (act : Act) (world : WorldParts) → SameBut machine world (act_did second machine act world).world
act_same_but second machine (acts.Sends side message) world = but_sent (answers second side message) machine side message world
act_same_but second machine (acts.Closes side) world = but_link machine side (after_close (end_of side) (link_at (link_of machine side) world)) world
act_same_but second machine (acts.Notices side) world = but_link machine side (after_close (end_of side) (link_at (link_of machine side) world)) world
act_same_but second machine (acts.Drive side on) world = but_gap machine side (with_drive (gap_at world.floor (link_of machine side)) side on) world
act_same_but second machine (acts.Deed deed) world = but_counted machine deed world
act_same_but second machine (acts.Inserts id) world = but_place machine _ world
act_same_but second machine (acts.Removes id) world = but_place machine _ world
act_same_but second machine (acts.Replaces old new) world = but_place machine _ world
act_same_but second machine (acts.Gives id to) world = but_place machine _ world
act_same_but second machine (acts.Gets id) world = but_place machine _ world
act_same_but second machine act world = but_nothing machine world

pub acts_same_but : (second : Bool) (machine : ℕ) (told : List Act) (world : WorldParts) → SameBut machine world (acts_did second machine told world).world
acts_same_but second machine [] world = but_nothing machine world
acts_same_but second machine (act ∷ others) world =
    let one = (act_did second machine act world).world in
    but_then machine world one (acts_did second machine others one).world (act_same_but second machine act world) (acts_same_but second machine others one)

-- ---- what a line changes

stand_same : (s t : LineState) (k : ℕ) → node_at t k ≡ node_at s k → machine_at t.world.floor k ≡ machine_at s.world.floor k → stand_at t k ≡ stand_at s k
stand_same s t k x y = cc

between_same : (s t : LineState) (k : ℕ) → link_at k t.world ≡ link_at k s.world → gap_at t.world.floor k ≡ gap_at s.world.floor k → between_at t k ≡ between_at s k
between_same s t k x y = cc

pub node_other : (machine : ℕ) (next : NodeState) (s : LineState) (k : ℕ) → 1 ≤ machine → k ≢ machine → node_at (with_machine machine next s) k ≡ node_at s k
node_other machine next s zero counted apart = refl
node_other machine next s (suc place) counted apart =
    let places : place ≢ machine - 1 = omega arith in
    get_or-set_other s.machines (machine - 1) place next no_node places

-- a step of a machine changes that machine, what is at it, and the links and gaps on both its sides
pub step_changes : (number machine : ℕ) (input : Input) (before after : LineState) (told : List Happening) → MachineSteps number machine input before after told → ChangesMachine machine before after
step_changes number machine input before after told steps =
    let read = read_by machine before.world in
    let world = (acts_did (is_second input) machine steps.acts read).world in
    let now = with_world world (with_machine machine steps.next before) in
    let counted = (machine_within machine before steps.node steps.there).0 in
    let same = but_then machine before.world read world (but_place machine _ before.world) (acts_same_but (is_second input) machine steps.acts read) in
    record {
      machines = λ k apart. ap (λ (s : LineState). stand_at s k) steps.after_is ∙ stand_same before now k (node_other machine steps.next before k counted apart) (same.places k apart);
      links = λ k here above. ap (λ (s : LineState). between_at s k) steps.after_is ∙ between_same before now k (same.links k here above) (same.gaps k here above);
    }

-- ---- a link event, a move on the floor, a sensor event that was not, one machine more

-- a link event changes that link
pub link_changes : (link : ℕ) (parts : LinkParts) (s : LineState) → ChangesLink link s (with_world (with_link link parts s.world) s)
link_changes link parts s =
    let now = with_world (with_link link parts s.world) s in
    let floor = floor_stays link parts s.world in
    record {
      machines = λ k. stand_same s now k refl (ap (λ (f : FloorPlan). machine_at f k) floor);
      links = λ k apart. between_same s now k (link_set_other link k parts s.world apart) (ap (λ (f : FloorPlan). gap_at f k) floor);
    }

-- a move changes what is around its gap
around_place_there : (plan : FloorPlan) (gap : ℕ) (around : Around) (k : ℕ) → 1 ≤ gap → 1 ≤ k → k ≢ gap → k ≢ gap + 1 → machine_at (with_around plan gap around) k ≡ machine_at plan k
around_place_there plan gap around k counted here up down =
    let above : k - 1 ≢ gap - 1 = omega arith in
    let below : k - 1 ≢ gap + 1 - 1 = omega arith in
    number_at (with_around plan gap around).machines plan.machines k empty_machine here
    (get_or-set_other (slice_set plan.machines (gap - 1) around.up) (gap + 1 - 1) (k - 1) around.down empty_machine below ∙ get_or-set_other plan.machines (gap - 1) (k - 1) around.up empty_machine above)

around_gap_there : (plan : FloorPlan) (gap : ℕ) (around : Around) (k : ℕ) → 1 ≤ gap → 1 ≤ k → k ≢ gap → gap_at (with_around plan gap around) k ≡ gap_at plan k
around_gap_there plan gap around k counted here apart =
    let places : k - 1 ≢ gap - 1 = omega arith in
    number_at (with_around plan gap around).gaps plan.gaps k free_gap here (get_or-set_other plan.gaps (gap - 1) (k - 1) around.between free_gap places)

around_place : (plan : FloorPlan) (gap : ℕ) (around : Around) (k : ℕ) → 1 ≤ gap → k ≢ gap → k ≢ gap + 1 → machine_at (with_around plan gap around) k ≡ machine_at plan k
around_place plan gap around k counted up down = elim (none_or_one k) [ inl zeroth ↦ rw zeroth refl | inr here ↦ around_place_there plan gap around k counted here up down ]

around_gap : (plan : FloorPlan) (gap : ℕ) (around : Around) (k : ℕ) → 1 ≤ gap → k ≢ gap → gap_at (with_around plan gap around) k ≡ gap_at plan k
around_gap plan gap around k counted apart = elim (none_or_one k) [ inl zeroth ↦ rw zeroth refl | inr here ↦ around_gap_there plan gap around k counted here apart ]

changed_nothing : (gap : ℕ) (s : LineState) → ChangesGap gap s s
changed_nothing gap s = record { machines = λ k a b. refl; links = λ k a. refl }

counted_gap : (gap count : ℕ) (one two : Bool) → nat_lt 0 gap ≡ one → (one && two) ≡ true → 1 ≤ gap
counted_gap gap count true two is there = ltb-true 0 gap is
counted_gap gap count false two is there = absurd (cc)

move_changes : (s : LineState) (gap : ℕ) (test : Bool) (answer : Result Around MoveNo) → (test ≡ true → 1 ≤ gap) → ChangesGap gap s (moved (cond test (floor_after s.world.floor gap answer) (Err nos.NoGap)) s)
move_changes s gap true (Ok around) counted =
    let now = with_world (with_floor (with_around s.world.floor gap around) s.world) s in
    record {
      machines = λ k up down. stand_same s now k refl (around_place s.world.floor gap around k (counted refl) up down);
      links = λ k apart. between_same s now k refl (around_gap s.world.floor gap around k (counted refl) apart);
    }
move_changes s gap true (Err why) counted = changed_nothing gap s
move_changes s gap false answer counted = changed_nothing gap s

pub moved_changes : (gap : ℕ) (step : Move) (s : LineState) → ChangesGap gap s (moved (floor_move gap step s.world.floor) s)
moved_changes gap step s =
    move_changes s gap (has_gap s.world.floor gap) (around_move step (around_of s.world.floor gap)) (λ there. counted_gap gap (length s.world.floor.machines) (nat_lt 0 gap) (nat_lt gap (length s.world.floor.machines)) refl there)

-- a sensor event that was not changes what its machine has unread
pub lied_changes : (number machine : ℕ) (sensed : Sensed) (s : LineState) → ChangesMachine machine s (lied number machine sensed s)
lied_changes number machine sensed s =
    let now = lied number machine sensed s in
    let same = but_place machine (record (machine_at s.world.floor machine) { unread = (machine_at s.world.floor machine).unread ++ sensed ∷ [] }) s.world in
    record { machines = λ k apart. stand_same s now k refl (same.places k apart); links = λ k here above. between_same s now k refl (same.gaps k here above) }

-- a board that comes or goes unseen changes what lies in its machine's list
pub unseen_changes : (number machine : ℕ) (side : Side) (s : LineState) → ChangesMachine machine s (unseen number machine side s)
unseen_changes number machine Entry s =
    let now = unseen number machine Entry s in
    let boards = (machine_at s.world.floor machine).boards ++ record { id = None } ∷ [] in
    let same = but_place machine (record (machine_at s.world.floor machine) { boards = boards }) s.world in
    record { machines = λ k apart. stand_same s now k refl (same.places k apart); links = λ k here above. between_same s now k refl (same.gaps k here above) }
unseen_changes number machine Exit s =
    let now = unseen number machine Exit s in
    let boards = drop 1 (machine_at s.world.floor machine).boards in
    let same = but_place machine (record (machine_at s.world.floor machine) { boards = boards }) s.world in
    record { machines = λ k apart. stand_same s now k refl (same.places k apart); links = λ k here above. between_same s now k refl (same.gaps k here above) }

-- one machine more is all that changes
more_node : (nodes : List NodeState) (new : NodeState) (place : ℕ) → place ≢ length nodes → slice_index_or (nodes ++ new ∷ []) place no_node ≡ slice_index_or nodes place no_node
more_node [] new zero apart = absurd (apart refl)
more_node [] new (suc place) apart = refl
more_node (n ∷ nodes) new zero apart = refl
more_node (n ∷ nodes) new (suc place) apart =
    let fewer : place ≢ length nodes = omega arith in
    more_node nodes new place fewer

more_node_at : (lane : ℕ) (is_bridge : Bool) (capacity used : ℕ) (s : LineState) (k : ℕ) → k ≢ length s.machines + 1 → node_at (one_more lane is_bridge capacity used s) k ≡ node_at s k
more_node_at lane is_bridge capacity used s zero apart = refl
more_node_at lane is_bridge capacity used s (suc place) apart =
    let places : place ≢ length s.machines = omega arith in
    more_node s.machines (new_node (profile_of lane is_bridge (length s.machines + 1) capacity used)) place places

pub more_gaps : (machines : List AtMachine) (gaps : List AtGap) (gap : ℕ) → at_number (gaps_before machines gaps) gap free_gap ≡ at_number gaps gap free_gap
more_gaps [] gaps gap = refl
more_gaps (m ∷ machines) gaps gap = number_more gaps gap free_gap

pub more_changes : (lane : ℕ) (is_bridge : Bool) (capacity used : ℕ) (s : LineState) → ChangesMachine (length s.machines + 1) s (one_more lane is_bridge capacity used s)
more_changes lane is_bridge capacity used s =
    let now = one_more lane is_bridge capacity used s in
    record {
      machines = λ k apart. stand_same s now k (more_node_at lane is_bridge capacity used s k apart) (number_more s.world.floor.machines k empty_machine);
      links = λ k here above. between_same s now k (more_at lane is_bridge capacity used s k) (more_gaps s.world.floor.machines s.world.floor.gaps k);
    }
