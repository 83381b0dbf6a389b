-- What stands together in a line still does after a line of the script.
use Rattle.std.proofs.Common.{◌≡◌, ◌≢◌, ◌⊎◌, ◌∙◌, inl, inr, ℕ, zero, suc, ◌+◌, ◌-◌, ◌<◌, ◌≤◌, ◌++◌, Bool, true, false, List, ◌∷◌, Option, Some, Result, Ok, Err, length, refl, sym, ap, subst, arith, length-append, []}
use Rattle.std.specs.Prelude.{cond, is_some, nat_le, slice_get}
use Rattle.board_record.specs.declared.sensed.Sensed.{Sensed}
use Rattle.line_base.specs.declared.states.Side.{Side}
use Rattle.line_base.specs.declared.states.Side.TheVariants.{Entry, Exit}
use Rattle.line_base.specs.declared.states.Role.{Role}
use Rattle.line_base.specs.declared.states.Role.TheVariants.{Upstream, Downstream}
use Rattle.line_link.specs.Link.{LinkParts, after_connect, after_flow, after_spoil, connected_of, cut, no_link, number_of}
use Rattle.line_world.specs.FloorPlan.{AtMachine, FloorPlan, IsWhole, empty_machine, free_gap, gaps_before, one_machine_more}
use Rattle.line_world.specs.declared.gap.AtGap.{AtGap}
use Rattle.line_world.specs.Moves.{Around, around_move, around_of, floor_after, floor_move, has_gap}
use Rattle.line_world.specs.declared.moves.Move.{Move}
use Rattle.line_world.specs.declared.moves.MoveNo.{MoveNo}
use Rattle.line_world.specs.declared.moves.MoveNo.TheVariants as nos
use Rattle.node_core.specs.declared.input.Input.{Input}
use Rattle.node_core.specs.declared.input.Input.TheVariants as inputs
use Rattle.node_core.specs.Node.{NodeState, new_node}
use Rattle.node_core.specs.declared.profile.NodeProfile.{NodeProfile}
use Rattle.node_core.specs.Sides.{is_open}
use Rattle.line_step.specs.World.{WorldParts, end_of, link_at, link_of, links_more, with_link}
use Rattle.line_step.specs.State.{LineState, machine_in, most_machines, no_line, one_more, profile_of, with_world}
use Rattle.line_step.specs.Steps.{MachineSteps}
use Rattle.line_step.specs.Lines.{Connects, Flows, LineDoes, LineSteps, arrived, connecting, lied, met, moved, unseen}
use Rattle.line_step.specs.Reasons.{may_add, may_connect, may_do, no_if}
use Rattle.step_rules.specs.Opened.{opened_by}
use Rattle.line_step.specs.Together.{IsLineTogether, is_linked}
use Rattle.line_step.proofs.Numbers.{at_number, link_beyond, none_or_one, number_more, same_or_not}
use Rattle.line_step.proofs.Ends.{SameNumbers, no_number, same_cut_off, same_ends, same_flow, same_spoil}
use Rattle.line_step.proofs.Counting.{SameCounts, SameWorld, counts_then, link_same_world, moved_counts, place_same_world, same_counts, step_counts, world_counts}
use Rattle.line_step.proofs.Joining.{IsJoined, as_open, connecting_above, connecting_below, connecting_other, step_joins_other, step_joins_own}
use Rattle.line_step.proofs.Connecting.{can_connect, link_before}
use Rattle.line_report.specs.declared.happening.Happening.{Happening}
use Rattle.line_report.specs.declared.happening.Reason.{Reason}
use Rattle.line_report.specs.declared.happening.Reason.TheVariants as reasons
use Rattle.line_step.specs.Requests.{Request}
use Rattle.line_step.proofs.Giving.{IsGiven}
use Rattle.line_step.proofs.Effects.{Effect, becomes_by, line_effect}
use Rattle.line_step.proofs.Effects as effects

-- a line without a machine
nobody : (machine : ℕ) (node : NodeState) → machine_in machine no_line ≡ Some node → ⊥
nobody zero node is = cc
nobody (suc place) node is = cc

pub none_together : IsLineTogether no_line
none_together = record { few = omega arith; short = omega arith; floor = refl; links = omega arith; joined = λ machine side node is. absurd (nobody machine node is) }

-- ---- what is kept

-- what a line of the script keeps, where what it does adds no machine
record Keeps (before after : LineState) : Type 0 where
  counts : SameCounts before after
  joined : IsLineTogether before → (machine : ℕ) → IsJoined after machine as_open

joined_of : (s : LineState) (machine : ℕ) → IsLineTogether s → IsJoined s machine as_open
joined_of s machine together = record { sides = together.joined machine }

kept : (before after : LineState) → Keeps before after → IsLineTogether before → IsLineTogether after
kept before after keeps together =
    let counts = keeps.counts in
    let machines = counts.machines in
    let few = together.few in
    let short = together.short in
    let lines = counts.lines in
    record {
      few = omega arith;
      short = omega arith;
      floor = counts.world.floor ∙ together.floor ∙ sym machines;
      links = counts.world.links ∙ together.links ∙ ap (λ n. n - 1) (sym machines);
      joined = λ machine side node is. (keeps.joined together machine).sides side node is;
    }

keeps_still : (s : LineState) → Keeps s s
keeps_still s = record { counts = same_counts s; joined = λ together machine. joined_of s machine together }

-- the links' ends keep their numbers
keeps_world : (s : LineState) (world : WorldParts) → SameWorld s.world world → ((machine : ℕ) (side : Side) → is_linked machine side world ≡ is_linked machine side s.world) → Keeps s (with_world world s)
keeps_world s world same ends = record { counts = world_counts world s same; joined = λ together machine. record { sides = λ side node is. ends machine side ∙ together.joined machine side node is } }

keeps_link : (s : LineState) (link : ℕ) (parts : LinkParts) → SameNumbers (link_at link s.world) parts → Keeps s (with_world (with_link link parts s.world) s)
keeps_link s link parts same = keeps_world s (with_link link parts s.world) (link_same_world link parts s.world) (same_ends link parts s.world same)

-- ---- a machine makes a step

-- an input that makes no connection
abbrev MakesNone : Input → Type 0
MakesNone input = (side : Side) (opened : Bool) → opened_by input side opened ≡ opened

step_joined : (number machine : ℕ) (input : Input) (before after : LineState) (told : List Happening) → MakesNone input → MachineSteps number machine input before after told → IsLineTogether before → (other : ℕ) → IsJoined after other as_open
step_joined number machine input before after told none steps together other =
    elim (same_or_not other machine) [
      | inl is ↦
          (let own : IsJoined before machine (opened_by input) = record { sides = λ side node there. together.joined machine side node there ∙ sym (none side (is_open side node.lane.body)) } in
          let P : ℕ → Type 0 = λ n. IsJoined after n as_open in
          subst P (sym is) (step_joins_own number machine input before after told steps own))
      | inr apart ↦ step_joins_other number machine input before after told steps other apart as_open (joined_of before other together)
    ]

keeps_step : (number machine : ℕ) (input : Input) (before after : LineState) (told : List Happening) → MakesNone input → MachineSteps number machine input before after told → Keeps before after
keeps_step number machine input before after told none steps = record { counts = step_counts number machine input before after told steps; joined = λ together other. step_joined number machine input before after told none steps together other }

keeps_then : (one two three : LineState) → Keeps one two → Keeps two three → Keeps one three
keeps_then one two three a b = record { counts = counts_then one two three a.counts b.counts; joined = λ together machine. b.joined (kept one two a together) machine }

-- bytes arrive first
flows_keep : (number machine : ℕ) (side : Side) (count : Option ℕ) (before after : LineState) (told : List Happening) → Flows number machine side count before after told → Keeps before after
flows_keep number machine side count before after told flows =
    let link = link_at (link_of machine side) before.world in
    let now = arrived machine side count before in
    keeps_then before now after (keeps_link before (link_of machine side) (after_flow (end_of side) count link) (same_flow (end_of side) count link))
    (keeps_step number machine (inputs.Bytes side flows.piece) now after told (λ at opened. refl) flows.steps)

-- ---- a connection

connect_joined : (number machine : ℕ) (before after : LineState) (told : List Happening) → may_connect machine before ≡ may_do → Connects number machine before after told → IsLineTogether before → (other : ℕ) → IsJoined after other as_open
connect_joined number machine before after told may twice together other =
    let input = met (connected_of (link_at (machine - 1) before.world).upstream) in
    let made = connecting machine before in
    let can = can_connect machine before may in
    let behind = can.behind in
    let there = link_before machine before together can in
    let down : machine - 1 ≢ machine = omega arith in
    let up : machine ≢ machine - 1 = omega arith in
    let P : ℕ → Type 0 = λ n. IsJoined after n as_open in
    elim (same_or_not other machine) [
      | inl is ↦ subst P (sym is) (step_joins_other number (machine - 1) input twice.between after twice.later twice.second machine up as_open
          (step_joins_own number machine inputs.Connect made twice.between twice.earlier twice.first (connecting_below machine before there (joined_of before machine together))))
      | inr below ↦ elim (same_or_not other (machine - 1)) [
        | inl is ↦ subst P (sym is) (step_joins_own number (machine - 1) input twice.between after twice.later twice.second
            (step_joins_other number machine inputs.Connect made twice.between twice.earlier twice.first (machine - 1) down (opened_by input) (connecting_above machine before there (joined_of before (machine - 1) together))))
        | inr above ↦ step_joins_other number (machine - 1) input twice.between after twice.later twice.second other above as_open
            (step_joins_other number machine inputs.Connect made twice.between twice.earlier twice.first other below as_open (connecting_other machine before there other below above (joined_of before other together)))
      ]
    ]

connects_keep : (number machine : ℕ) (before after : LineState) (told : List Happening) → may_connect machine before ≡ may_do → Connects number machine before after told → Keeps before after
connects_keep number machine before after told may twice =
    let input = met (connected_of (link_at (machine - 1) before.world).upstream) in
    let made = connecting machine before in
    let parts = after_connect (link_at (machine - 1) before.world) in
    record {
      counts = counts_then before made after (world_counts (with_link (machine - 1) parts before.world) before (link_same_world (machine - 1) parts before.world))
          (counts_then made twice.between after (step_counts number machine inputs.Connect made twice.between twice.earlier twice.first) (step_counts number (machine - 1) input twice.between after twice.later twice.second));
      joined = λ together other. connect_joined number machine before after told may twice together other;
    }

-- ---- the floor

moves_keep : (s : LineState) (gap : ℕ) (test : Bool) (answer : Result Around MoveNo) → SameCounts s (moved (cond test (floor_after s.world.floor gap answer) (Err nos.NoGap)) s) → Keeps s (moved (cond test (floor_after s.world.floor gap answer) (Err nos.NoGap)) s)
moves_keep s gap true (Ok around) counts = record { counts = counts; joined = λ together machine. record { sides = λ side node is. together.joined machine side node is } }
moves_keep s gap true (Err why) counts = keeps_still s
moves_keep s gap false answer counts = keeps_still s

moved_keeps : (gap : ℕ) (step : Move) (s : LineState) → Keeps s (moved (floor_move gap step s.world.floor) s)
moved_keeps gap step s = moves_keep s gap (has_gap s.world.floor gap) (around_move step (around_of s.world.floor gap)) (moved_counts gap step s)

lied_keeps : (number machine : ℕ) (sensed : Sensed) (s : LineState) → Keeps s (lied number machine sensed s)
lied_keeps number machine sensed s = record {
  counts = record { machines = refl; world = place_same_world machine _ s.world; lines = refl };
  joined = λ together machine. record { sides = λ side node is. together.joined machine side node is };
}

unseen_keeps : (number machine : ℕ) (side : Side) (s : LineState) → Keeps s (unseen number machine side s)
unseen_keeps number machine Entry s = record {
  counts = record { machines = refl; world = place_same_world machine _ s.world; lines = refl };
  joined = λ together machine. record { sides = λ side node is. together.joined machine side node is };
}
unseen_keeps number machine Exit s = record {
  counts = record { machines = refl; world = place_same_world machine _ s.world; lines = refl };
  joined = λ together machine. record { sides = λ side node is. together.joined machine side node is };
}

-- ---- one machine more

get_more : (nodes : List NodeState) (new node : NodeState) (place : ℕ) → slice_get (nodes ++ new ∷ []) place ≡ Some node → (slice_get nodes place ≡ Some node) ⊎ ((place ≡ length nodes) × (new ≡ node))
get_more [] new node zero is = inr (refl, (cc))
get_more [] new node (suc place) is = absurd (cc)
get_more (n ∷ nodes) new node zero is = inl is
get_more (n ∷ nodes) new node (suc place) is = elim (get_more nodes new node place is) [ inl was ↦ inl was | inr last ↦ inr ((omega (arith, last.0)), last.1) ]

links_counted : (count : ℕ) (links : List LinkParts) → length links ≡ count - 1 → length (links_more count links) ≡ count + 1 - 1
links_counted zero links is = omega (arith, is)
links_counted (suc k) links is = omega (arith, is, length-append links (no_link ∷ []))

-- no link changes
more_links : (count : ℕ) (links : List LinkParts) (link : ℕ) → at_number (links_more count links) link no_link ≡ at_number links link no_link
more_links zero links link = refl
more_links (suc k) links link = number_more links link no_link

pub more_at : (lane : ℕ) (is_bridge : Bool) (capacity used : ℕ) (s : LineState) (link : ℕ) → link_at link (one_more lane is_bridge capacity used s).world ≡ link_at link s.world
more_at lane is_bridge capacity used s link = more_links (length s.machines) s.world.links link

more_ends : (lane : ℕ) (is_bridge : Bool) (capacity used : ℕ) (s : LineState) (machine : ℕ) (side : Side) → is_linked machine side (one_more lane is_bridge capacity used s).world ≡ is_linked machine side s.world
more_ends lane is_bridge capacity used s machine side = ap (λ (l : LinkParts). is_some (number_of (end_of side) l)) (more_at lane is_bridge capacity used s (link_of machine side))

-- the new machine has no connections, and its links have none
new_closed : (profile : NodeProfile) (side : Side) → is_open side (new_node profile).lane.body ≡ false
new_closed profile Entry = refl
new_closed profile Exit = refl

none_at : (link : ℕ) (world : WorldParts) → (link ≡ 0) ⊎ (length world.links < link) → (role : Role) → is_some (number_of role (link_at link world)) ≡ false
none_at link world (inl none) role = rw none (no_number role)
none_at link world (inr behind) role = ap (λ (l : LinkParts). is_some (number_of role l)) (link_beyond link world behind) ∙ no_number role

entry_behind : (count links : ℕ) → links ≡ count - 1 → (count ≡ 0) ⊎ (links < count)
entry_behind count links is = elim (none_or_one count) [ inl none ↦ inl none | inr more ↦ inr (omega arith) ]

last_ends : (s : LineState) → IsLineTogether s → (machine : ℕ) → machine ≡ length s.machines + 1 → (side : Side) → is_linked machine side s.world ≡ false
last_ends s together machine is Entry =
    let same : machine - 1 ≡ length s.machines = omega arith in
    rw same (none_at (length s.machines) s.world (entry_behind (length s.machines) (length s.world.links) together.links) Downstream)
last_ends s together machine is Exit =
    let links = together.links in
    none_at machine s.world (inr (omega arith)) Upstream

more_joined : (lane : ℕ) (is_bridge : Bool) (capacity used : ℕ) (s : LineState) → IsLineTogether s → (machine : ℕ) (side : Side) (node : NodeState) → machine_in machine (one_more lane is_bridge capacity used s) ≡ Some node → is_linked machine side (one_more lane is_bridge capacity used s).world ≡ is_open side node.lane.body
more_joined lane is_bridge capacity used s together zero side node is = absurd (cc)
more_joined lane is_bridge capacity used s together (suc place) side node is =
    let new = new_node (profile_of lane is_bridge (length s.machines + 1) capacity used) in
    more_ends lane is_bridge capacity used s (suc place) side ∙
    elim (get_more s.machines new node place is) [
      | inl was ↦ together.joined (suc place) side node was
      | inr last ↦ last_ends s together (suc place) (omega (arith, last.0)) side ∙ sym (new_closed (profile_of lane is_bridge (length s.machines + 1) capacity used) side) ∙ ap (λ (n : NodeState). is_open side n.lane.body) last.1
    ]

-- each machine but the first comes with a gap before it
pub more_gaps : (machines : List AtMachine) (gaps : List AtGap) → length gaps ≡ length machines - 1 → length (gaps_before machines gaps) ≡ length (machines ++ empty_machine ∷ []) - 1
more_gaps [] gaps whole = whole
more_gaps (m ∷ machines) gaps whole = omega (arith, whole, length-append gaps (free_gap ∷ []), length-append (m ∷ machines) (empty_machine ∷ []))

more_whole : (floor : FloorPlan) → IsWhole floor → IsWhole (one_machine_more floor)
more_whole floor whole = more_gaps floor.machines floor.gaps whole

pub not_full : (test : Bool) (reason : Reason) → no_if test reason may_do ≡ may_do → test ≡ false
not_full true reason is = absurd (cc)
not_full false reason is = refl

pub more_together : (lane : ℕ) (is_bridge : Bool) (capacity used : ℕ) (s : LineState) → may_add s ≡ may_do → IsLineTogether s → IsLineTogether (one_more lane is_bridge capacity used s)
more_together lane is_bridge capacity used s may together =
    let room = not_full (nat_le most_machines (length s.machines)) reasons.LineFull may in
    let machines = length-append s.machines (new_node (profile_of lane is_bridge (length s.machines + 1) capacity used) ∷ []) in
    let places = length-append s.world.floor.machines (empty_machine ∷ []) in
    let floor = together.floor in
    let short = together.short in
    record {
      few = grind (arith, room, machines);
      short = short;
      floor = omega (arith, machines, places);
      links = links_counted (length s.machines) s.world.links together.links ∙ ap (λ n. n - 1) (sym machines);
      joined = more_joined lane is_bridge capacity used s together;
    }

-- ---- a line of the script

record Does (before after : LineState) : Type 0 where
  lines : after.lines ≡ before.lines
  whole : IsWhole before.world.floor → IsWhole after.world.floor
  together : IsLineTogether before → IsLineTogether after

does : (before after : LineState) → Keeps before after → Does before after
does before after keeps =
    let world = keeps.counts.world in
    record { lines = keeps.counts.lines; whole = λ whole. world.gaps ∙ whole ∙ ap (λ n. n - 1) (sym world.floor); together = kept before after keeps }

steps_do : (number machine : ℕ) (input : Input) (before after : LineState) (told : List Happening) → MakesNone input → MachineSteps number machine input before after told → Does before after
steps_do number machine input before after told none did = does before after (keeps_step number machine input before after told none did)

-- no input that a line gives makes a connection
given_none : (input : Input) → IsGiven input → MakesNone input
given_none inputs.Connect given = absurd given
given_none inputs.Accepted given = absurd given
given_none _ given = λ side opened. refl

effect_does : (number : ℕ) (request : Request) (before after : LineState) (told : List Happening) → Effect number before after told request → Does before after
effect_does number request before after told (effects.rests _ what remarks b) = becomes_by (λ s ts. Does before s) b (does before before (keeps_still before))
effect_does number request before after told (effects.adds lane is_bridge capacity used may b) =
    becomes_by (λ s ts. Does before s) b (record { lines = refl; whole = more_whole before.world.floor; together = more_together lane is_bridge capacity used before may })
effect_does number request before after told (effects.steps machine input given may did) = steps_do number machine input before after told (given_none input given) did
effect_does number request before after told (effects.connects machine may did) = does before after (connects_keep number machine before after told may did)
effect_does number request before after told (effects.flows machine side count may did) = does before after (flows_keep number machine side count before after told did)
effect_does number request before after told (effects.cuts gap may b) =
    becomes_by (λ s ts. Does before s) b (does before _ (keeps_link before gap (cut (link_at gap before.world)) (same_cut_off (link_at gap before.world))))
effect_does number request before after told (effects.spoils machine side may b) =
    let link = link_at (link_of machine side) before.world in
    becomes_by (λ s ts. Does before s) b (does before _ (keeps_link before (link_of machine side) (after_spoil (end_of side) link) (same_spoil (end_of side) link)))
effect_does number request before after told (effects.moves gap step floor is b) =
    becomes_by (λ s ts. Does before s) b (does before (moved (Ok floor) before) (subst (λ (answer : Result FloorPlan MoveNo). Keeps before (moved answer before)) is (moved_keeps gap step before)))
effect_does number request before after told (effects.lies machine sensed may b) = becomes_by (λ s ts. Does before s) b (does before _ (lied_keeps number machine sensed before))
effect_does number request before after told (effects.unsees machine side may b) = becomes_by (λ s ts. Does before s) b (does before _ (unseen_keeps number machine side before))

line_does : (number : ℕ) (request : Request) (before next : LineState) (told : List Happening) → LineDoes number request before next told → Does before next
line_does number request before next told is = effect_does number request before next told (line_effect number request before next told is)

pub lines_stay : (number : ℕ) (request : Request) (before next : LineState) (told : List Happening) → LineDoes number request before next told → next.lines ≡ before.lines
lines_stay number request before next told is = (line_does number request before next told is).lines

-- between each two machines there goes on to be a gap
pub whole_stays : (number : ℕ) (request : Request) (before next : LineState) (told : List Happening) → IsWhole before.world.floor → LineDoes number request before next told → IsWhole next.world.floor
whole_stays number request before next told whole is = (line_does number request before next told is).whole whole

pub does_together : (number : ℕ) (request : Request) (before next : LineState) (told : List Happening) → IsLineTogether before → LineDoes number request before next told → IsLineTogether next
does_together number request before next told together is = (line_does number request before next told is).together together

-- and is counted
counted_line : (lines : ℕ) (s : LineState) → lines ≤ 1000000 → IsLineTogether s → IsLineTogether (record s { lines = lines })
counted_line lines s few together = record { few = together.few; short = few; floor = together.floor; links = together.links; joined = together.joined }

pub keeps_together : (number : ℕ) (request : Request) (before after : LineState) (told : List Happening)
    → number ≡ before.lines + 1 → number ≤ 1000000 → IsLineTogether before → LineSteps number request before after told → IsLineTogether after
keeps_together number request before after told is few together did =
    let next = did.next in
    let same = lines_stay number request before next did.done did.does in
    let P : LineState → Type 0 = λ (s : LineState). IsLineTogether s in
    subst P (sym did.after_is) (counted_line did.lines next (omega (arith, is, few, same, did.counts.most)) (does_together number request before next did.done together did.does))
