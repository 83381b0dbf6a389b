-- How many machines, links and places on the floor there are, and how many lines were done: what stays as it is.
use Rattle.std.proofs.Common.{◌≡◌, ◌∙◌, ℕ, ◌-◌, Bool, true, false, List, [], ◌∷◌, Result, Ok, Err, length, refl, ap, length-set}
use Rattle.std.specs.Prelude.{cond, nat_lt, slice_set}
use Rattle.line_world.proofs.Keeping.{as_many_at_gap}
use Rattle.line_base.specs.declared.states.Side.{Side}
use Rattle.hermes_horizontal.specs.Canonical.{canonical}
use Rattle.hermes_horizontal.specs.declared.message.Message.{Message}
use Rattle.line_link.specs.Link.{LinkParts, after_answer, after_close, after_send}
use Rattle.line_world.specs.declared.gap.AtGap.{AtGap}
use Rattle.line_world.specs.declared.moves.Move.{Move}
use Rattle.line_world.specs.declared.moves.MoveNo.{MoveNo}
use Rattle.line_world.specs.declared.moves.MoveNo.TheVariants as nos
use Rattle.line_world.specs.FloorPlan.{AtMachine, FloorPlan, with_gap, with_machine as floor_machine}
use Rattle.line_world.specs.Moves.{Around, around_move, around_of, floor_after, floor_move, has_gap, with_around}
use Rattle.node_core.specs.declared.act.Act.{Act}
use Rattle.node_core.specs.declared.act.Act.TheVariants as acts
use Rattle.node_core.specs.declared.act.Deed.{Deed}
use Rattle.node_core.specs.declared.act.Deed.TheVariants as deeds
use Rattle.node_core.specs.declared.input.Input.{Input}
use Rattle.line_step.specs.World.{WorldParts, end_of, link_at, link_of, with_floor, with_link}
use Rattle.line_step.specs.State.{LineState, with_world}
use Rattle.line_step.specs.Acts.{act_did, acts_did, answers, counted, sent_by}
use Rattle.line_step.specs.Steps.{MachineSteps, is_second, read_by}
use Rattle.line_step.specs.Lines.{moved}
use Rattle.line_step.proofs.Numbers.{floor_stays, links_stay}
use Rattle.line_step.proofs.Floors.{gaps_counted, gaps_counted_beside}
use Rattle.line_report.specs.declared.happening.Happening.{Happening}

-- ---- the world

pub record SameWorld (old new : WorldParts) : Type 0 where
  pub links : length new.links ≡ length old.links
  pub floor : length new.floor.machines ≡ length old.floor.machines
  pub gaps : length new.floor.gaps ≡ length old.floor.gaps

pub same_world : (world : WorldParts) → SameWorld world world
same_world world = record { links = refl; floor = refl; gaps = refl }

pub world_then : (one two three : WorldParts) → SameWorld one two → SameWorld two three → SameWorld one three
world_then one two three a b = record { links = b.links ∙ a.links; floor = b.floor ∙ a.floor; gaps = b.gaps ∙ a.gaps }

pub link_same_world : (link : ℕ) (parts : LinkParts) (world : WorldParts) → SameWorld world (with_link link parts world)
link_same_world link parts world = record { links = links_stay link parts world; floor = ap (λ (f : FloorPlan). length f.machines) (floor_stays link parts world); gaps = ap (λ (f : FloorPlan). length f.gaps) (floor_stays link parts world) }

-- ---- the floor

pub machine_places : (test : Bool) (plan : FloorPlan) (place : ℕ) (now : AtMachine) → length (cond test (record plan { machines = slice_set plan.machines place now }) plan).machines ≡ length plan.machines
machine_places true plan place now = simp length-set
machine_places false plan place now = refl

pub machine_keeps_places : (plan : FloorPlan) (machine : ℕ) (now : AtMachine) → length (floor_machine plan machine now).machines ≡ length plan.machines
machine_keeps_places plan machine now = machine_places (nat_lt 0 machine) plan (machine - 1) now

pub place_same_world : (machine : ℕ) (now : AtMachine) (world : WorldParts) → SameWorld world (with_floor (floor_machine world.floor machine now) world)
place_same_world machine now world = record { links = refl; floor = machine_keeps_places world.floor machine now; gaps = gaps_counted_beside world.floor machine now }

gap_same_world : (gap : ℕ) (now : AtGap) (world : WorldParts) → SameWorld world (with_floor (with_gap world.floor gap now) world)
gap_same_world gap now world = record { links = refl; floor = as_many_at_gap world.floor gap now; gaps = gaps_counted world.floor gap now }

-- ---- acts

counted_same : (deed : Deed) (world : WorldParts) → SameWorld world (counted deed world)
counted_same (deeds.Opens id) world = record { links = refl; floor = refl; gaps = refl }
counted_same (deeds.Settles id) world = record { links = refl; floor = refl; gaps = refl }
counted_same _ world = same_world world

sent_same : (second : Bool) (machine : ℕ) (side : Side) (message : Message) (world : WorldParts) → SameWorld world (sent_by second machine side message world).world
sent_same true machine side message world = link_same_world machine (after_answer (canonical message) (link_at machine world)) world
sent_same false machine side message world = link_same_world (link_of machine side) (after_send (end_of side) (canonical message) (link_at (link_of machine side) world)) world

pub act_same_world : (second : Bool) (machine : ℕ) (act : Act) (world : WorldParts) → SameWorld world (act_did second machine act world).world
act_same_world second machine (acts.Sends side message) world = sent_same (answers second side message) machine side message world
act_same_world second machine (acts.Closes side) world = link_same_world (link_of machine side) (after_close (end_of side) (link_at (link_of machine side) world)) world
act_same_world second machine (acts.Notices side) world = link_same_world (link_of machine side) (after_close (end_of side) (link_at (link_of machine side) world)) world
act_same_world second machine (acts.Drive side on) world = gap_same_world (link_of machine side) _ world
act_same_world second machine (acts.Deed deed) world = counted_same deed world
act_same_world second machine (acts.Inserts id) world = place_same_world machine _ world
act_same_world second machine (acts.Removes id) world = place_same_world machine _ world
act_same_world second machine (acts.Replaces old new) world = place_same_world machine _ world
act_same_world second machine (acts.Gives id to) world = place_same_world machine _ world
act_same_world second machine (acts.Gets id) world = place_same_world machine _ world
act_same_world second machine act world = same_world world

pub acts_same_world : (second : Bool) (machine : ℕ) (told : List Act) (world : WorldParts) → SameWorld world (acts_did second machine told world).world
acts_same_world second machine [] world = same_world world
acts_same_world second machine (act ∷ others) world =
    let one = (act_did second machine act world).world in
    world_then world one (acts_did second machine others one).world (act_same_world second machine act world) (acts_same_world second machine others one)

-- ---- the line

pub record SameCounts (old new : LineState) : Type 0 where
  pub machines : length new.machines ≡ length old.machines
  pub world : SameWorld old.world new.world
  pub lines : new.lines ≡ old.lines

pub same_counts : (s : LineState) → SameCounts s s
same_counts s = record { machines = refl; world = same_world s.world; lines = refl }

pub counts_then : (one two three : LineState) → SameCounts one two → SameCounts two three → SameCounts one three
counts_then one two three a b = record { machines = b.machines ∙ a.machines; world = world_then one.world two.world three.world a.world b.world; lines = b.lines ∙ a.lines }

pub world_counts : (world : WorldParts) (s : LineState) → SameWorld s.world world → SameCounts s (with_world world s)
world_counts world s same = record { machines = refl; world = same; lines = refl }

-- a step of a machine
pub step_counts : (number machine : ℕ) (input : Input) (before after : LineState) (told : List Happening) → MachineSteps number machine input before after told → SameCounts before after
step_counts number machine input before after told steps =
    let read = read_by machine before.world in
    let world = (acts_did (is_second input) machine steps.acts read).world in
    let reads : SameWorld before.world read = place_same_world machine _ before.world in
    let same : SameWorld before.world world = world_then before.world read world reads (acts_same_world (is_second input) machine steps.acts read) in
    record {
      machines = ap (λ (s : LineState). length s.machines) steps.after_is ∙ length-set before.machines (machine - 1) steps.next;
      world = record { links = ap (λ (s : LineState). length s.world.links) steps.after_is ∙ same.links; floor = ap (λ (s : LineState). length s.world.floor.machines) steps.after_is ∙ same.floor; gaps = ap (λ (s : LineState). length s.world.floor.gaps) steps.after_is ∙ same.gaps };
      lines = ap (λ (s : LineState). s.lines) steps.after_is;
    }

-- a move on the floor
around_same : (s : LineState) (gap : ℕ) (around : Around) → SameWorld s.world (with_floor (with_around s.world.floor gap around) s.world)
around_same s gap around = record { links = refl; floor = simp length-set; gaps = simp length-set }

move_counts : (s : LineState) (gap : ℕ) (test : Bool) (answer : Result Around MoveNo) → SameCounts s (moved (cond test (floor_after s.world.floor gap answer) (Err nos.NoGap)) s)
move_counts s gap true (Ok around) = world_counts (with_floor (with_around s.world.floor gap around) s.world) s (around_same s gap around)
move_counts s gap true (Err why) = same_counts s
move_counts s gap false answer = same_counts s

pub moved_counts : (gap : ℕ) (step : Move) (s : LineState) → SameCounts s (moved (floor_move gap step s.world.floor) s)
moved_counts gap step s = move_counts s gap (has_gap s.world.floor gap) (around_move step (around_of s.world.floor gap))
