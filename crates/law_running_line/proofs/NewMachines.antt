-- New machines stand in the relation of running machines, with a trace of nothing.
use Rattle.std.proofs.Common.{Bool, List, [], ap, arith, false, length, length-append, refl, subst, suc, sym, zero, ℕ, ◌++◌, ◌+◌, ◌-◌, ◌∙◌, ◌∷◌, ◌≡◌, ◌≤◌}
use Rattle.std.specs.Prelude.{filter, nat_lt, slice_index_or}
use Rattle.std.specs.List.{AllByRecursion, list_any}
use Rattle.std.proofs.lemmas.Bool.{false≢true}
use Rattle.line_step.proofs.Keeps.{more_gaps as more_whole}
use Rattle.line_base.specs.declared.states.Side.TheVariants.{Entry, Exit}
use Rattle.line_link.specs.Link.{LinkParts, no_link}
use Rattle.line_world.specs.Boards.{boards_along, boards_on}
use Rattle.line_world.specs.FloorPlan.{AtMachine, IsWhole, empty_machine, free_gap, gap_at, gaps_before, has_id, machine_at, no_floor}
use Rattle.line_world.specs.Ids.{IdsDiffer}
use Rattle.line_world.specs.declared.gap.AtGap.{AtGap}
use Rattle.line_world.proofs.Along.{along_more}
use Rattle.node_core.specs.Node.{NodeState}
use Rattle.node_core.specs.Sides.{is_open}
use Rattle.node_core.specs.Sound.{IsSound}
use Rattle.node_core.specs.declared.lane.Lane.{Lane}
use Rattle.law_custody.specs.Words.{events_at}
use Rattle.law_link_messages.proofs.Eventing.{first_body_fits}
use Rattle.line_step.specs.Numbered.{no_node, node_at}
use Rattle.line_step.specs.State.{no_line}
use Rattle.line_step.specs.World.{link_at, no_world}
use Rattle.line_step.proofs.Changing.{more_gaps}
use Rattle.line_step.proofs.Numbers.{number_more}
use Rattle.law_one_standing.specs.Carried.{IsFitMachine, between_of as line_between, stand_of}
use Rattle.law_one_standing.specs.Relation.{Between, Stand}
use Rattle.law_one_standing.specs.Kept.{Keeps}
use Rattle.law_one_standing.proofs.RestMore.{lane_aside, same_keeps, stand_aside, IsFitNode, keeps_aside, keeps_seen, as_node, as_machine}
use Rattle.law_one_standing.proofs.RestNone.{no_trace, node_none, none_stands, either_way}
use Rattle.law_running_line.specs.New.{IsNew, IsNewNode, NumbersDiffer, new_floor}
use Rattle.law_running_line.specs.Running.{Running, unread_by}
use Rattle.law_running_line.specs.Stands.{AreInRelation, Carried, IsAtRest, between_of, is_joined, line_of, node_in}
use Rattle.law_running_line.specs.Waits.{Waits, none_passes}
use Rattle.law_running_line.specs.Wire.{Wire}

-- ---- what a machine is willing to do doesn't count

-- ---- the floor

pub floor_machine : (count machine : ℕ) → machine_at (new_floor count) machine ≡ empty_machine
floor_machine zero machine = either_way (nat_lt 0 machine) empty_machine
floor_machine (suc count) machine = number_more (new_floor count).machines machine empty_machine ∙ floor_machine count machine

pub floor_gap : (count gap : ℕ) → gap_at (new_floor count) gap ≡ free_gap
floor_gap zero gap = either_way (nat_lt 0 gap) free_gap
floor_gap (suc count) gap = more_gaps (new_floor count).machines (new_floor count).gaps gap ∙ floor_gap count gap

floor_whole : (count : ℕ) → IsWhole (new_floor count)
floor_whole zero = refl
floor_whole (suc count) = more_whole (new_floor count).machines (new_floor count).gaps (floor_whole count)

floor_counted : (count : ℕ) → length (new_floor count).machines ≡ count
floor_counted zero = refl
floor_counted (suc count) = omega (arith, length-append (new_floor count).machines (empty_machine ∷ []), floor_counted count)

more_free : (machines : List AtMachine) (gaps : List AtGap) → length gaps ≡ length machines - 1 → boards_along machines gaps ≡ [] → boards_along (machines ++ empty_machine ∷ []) (gaps_before machines gaps) ≡ []
more_free [] [] h none = refl
more_free [] (gap ∷ gaps) h none = absurd (omega (arith, h))
more_free (m ∷ machines) gaps h none = along_more (m ∷ machines) gaps (omega (arith, h)) ∙ none

floor_free : (count : ℕ) → boards_on (new_floor count) ≡ []
floor_free zero = refl
floor_free (suc count) = more_free (new_floor count).machines (new_floor count).gaps (floor_whole count) (floor_free count)

floor_differ : (count : ℕ) → IdsDiffer (new_floor count)
floor_differ count = record { once = λ id. rw (floor_free count) (omega arith) }

none_counted : (count id : ℕ) → length (filter (has_id id) (boards_on (new_floor count))) ≡ 0
none_counted count id = rw (floor_free count) refl

-- ---- the machines, but for what they are willing to do

nodes_new : (nodes : List NodeState) (place : ℕ) → AllByRecursion IsNewNode nodes → lane_aside (slice_index_or nodes place no_node).lane ≡ lane_aside no_node.lane
nodes_new [] place all = refl
nodes_new (node ∷ nodes) zero all = ap (λ (n : NodeState). lane_aside n.lane) all.0.is
nodes_new (node ∷ nodes) (suc place) all = nodes_new nodes place all.1

lane_new : (s : Running) → IsNew s → (machine : ℕ) → lane_aside (node_in s machine).lane ≡ lane_aside no_node.lane
lane_new s new zero = refl
lane_new s new (suc place) = nodes_new s.machines place new.nodes

pub machine_new : (s : Running) → IsNew s → (machine : ℕ) → machine_at s.floor machine ≡ empty_machine
machine_new s new machine = ap (λ f. machine_at f machine) new.floor ∙ floor_machine (length s.machines) machine

gap_new : (s : Running) → IsNew s → (gap : ℕ) → gap_at s.floor gap ≡ free_gap
gap_new s new gap = ap (λ f. gap_at f gap) new.floor ∙ floor_gap (length s.machines) gap

abbrev stand_by : Lane → AtMachine → Stand
stand_by lane place = record { body = lane.body; place = place }

stand_parts : (lane : Lane) (place : AtMachine) → lane_aside lane ≡ lane_aside no_node.lane → place ≡ empty_machine → stand_aside (stand_by lane place) ≡ stand_aside (stand_by no_node.lane empty_machine)
stand_parts lane place x y = λ i. stand_by (x i) (y i)

stand_none : (machine : ℕ) → stand_aside (stand_of no_line machine) ≡ stand_aside (stand_by no_node.lane empty_machine)
stand_none machine = stand_parts (node_at no_line machine).lane (machine_at no_floor machine) (ap (λ (n : NodeState). lane_aside n.lane) (node_none machine)) (floor_machine zero machine)

stand_new : (s : Running) → IsNew s → (machine : ℕ) → stand_aside (stand_of (line_of s) machine) ≡ stand_aside (stand_of no_line machine)
stand_new s new machine = stand_parts (node_in s machine).lane (machine_at s.floor machine) (lane_new s new machine) (machine_new s new machine) ∙ sym (stand_none machine)

-- ---- and what is between them

abbrev between_by : (k : ℕ) → Bool → AtGap → Between
between_by k stands gap = record { ghost = no_trace.ghost k; stands = stands; gap = gap; up = []; down = []; gone = no_trace.gone k }

between_new : (s : Running) → IsNew s → (k : ℕ) → between_of no_trace s k ≡ line_between no_trace no_line k
between_new s new k =
    let off : (link_at k no_world).stands ≡ false = ap (λ (l : LinkParts). l.stands) (either_way (nat_lt 0 k) no_link) in
    let joined : list_any is_joined (s.wires k) ≡ (link_at k no_world).stands = ap (list_any is_joined) (new.wires k) ∙ sym off in
    let gaps : gap_at s.floor k ≡ gap_at no_floor k = gap_new s new k ∙ sym (floor_gap zero k) in
    λ i. between_by k (joined i) (gaps i)

keeps_new : (s : Running) → IsNew s → Keeps (stand_of (line_of s)) (between_of no_trace s)
keeps_new s new =
    keeps_seen (stand_of (line_of s)) (between_of no_trace s)
    (same_keeps (λ (k : ℕ). stand_aside (stand_of no_line k)) (λ (k : ℕ). stand_aside (stand_of (line_of s) k)) (line_between no_trace no_line) (between_of no_trace s) (stand_new s new) (between_new s new)
    (keeps_aside (stand_of no_line) (line_between no_trace no_line) none_stands.keeps))

waits_new : (s : Running) → IsNew s → (link : ℕ) → Waits (node_in s link).lane.body (node_in s (link + 1)).lane.body (unread_by (link + 1) s) (s.wires link)
waits_new s new link = subst (λ (wires : List Wire). Waits (node_in s link).lane.body (node_in s (link + 1)).lane.body (unread_by (link + 1) s) wires) (sym (new.wires link))
    (record {
      one_above = none_passes;
      one_below = none_passes;
      exit_open = sym (ap (λ (lane : Lane). is_open Exit lane.body) (lane_new s new link));
      entry_open = sym (ap (λ (lane : Lane). is_open Entry lane.body) (lane_new s new (link + 1)));
      untaken = tt;
      uncome = tt;
      called = tt;
      taken_first = tt;
      may_come = tt;
      free = record { read = λ stands idle. ap (λ (m : AtMachine). events_at Entry m.unread) (machine_new s new (link + 1)) };
    })

carried_new : (s : Running) → IsNew s → (link : ℕ) → Carried (node_in s link) (node_in s (link + 1)) [] [] (s.wires link)
carried_new s new link = subst (λ (wires : List Wire). Carried (node_in s link) (node_in s (link + 1)) [] [] wires) (sym (new.wires link)) (record { up = tt; down = tt; quiet = tt; called = tt; none_up = λ none. refl; none_down = λ none. refl })

rest_new : (s : Running) → IsNew s → (link : ℕ) → IsAtRest s link
rest_new s new link = record {
  outlet = ap (λ (lane : Lane). lane.body.outlet.phase) (lane_new s new link);
  intake = ap (λ (lane : Lane). lane.body.intake.phase) (lane_new s new (link + 1));
  exit = ap (λ (lane : Lane). lane.body.exit.session.state) (lane_new s new link);
  entry = ap (λ (lane : Lane). lane.body.entry.session.state) (lane_new s new (link + 1));
  wires = new.wires link;
}

-- ---- each machine by itself

any_new : (P : NodeState → Type 0) → ((node : NodeState) → IsNewNode node → P node) → P no_node → (nodes : List NodeState) (place : ℕ) → AllByRecursion IsNewNode nodes → P (slice_index_or nodes place no_node)
any_new P new none [] place all = none
any_new P new none (node ∷ nodes) zero all = new node all.0
any_new P new none (node ∷ nodes) (suc place) all = any_new P new none nodes place all.1

each_new : (P : NodeState → Type 0) → ((node : NodeState) → IsNewNode node → P node) → P no_node → (s : Running) → IsNew s → (machine : ℕ) → P (node_in s machine)
each_new P new none s is zero = none
each_new P new none s is (suc place) = any_new P new none s.machines place is.nodes

node_fits : (node : NodeState) → IsNewNode node → IsFitNode node
node_fits node new = subst (λ (n : NodeState). IsFitNode n) (sym new.is) (record { body = first_body_fits new.profile.bridge; maker = record { small = new.number }; name = new.name; lane = new.lane })

none_fits : IsFitNode no_node
none_fits = as_node no_line 0 (none_stands.fit 0)

fit_new : (s : Running) → IsNew s → (machine : ℕ) → IsFitMachine (line_of s) machine
fit_new s new machine = as_machine (line_of s) machine (each_new IsFitNode node_fits none_fits s new machine)

node_is_sound : (node : NodeState) → IsNewNode node → IsSound node.capacity node.lane.body
node_is_sound node new = subst (λ (n : NodeState). IsSound n.capacity n.lane.body) (sym new.is) (record { offers = tt; entry = refl; exit = refl; places = omega arith })

sound_new : (s : Running) → IsNew s → (machine : ℕ) → IsSound (node_in s machine).capacity (node_in s machine).lane.body
sound_new s new machine = each_new (λ (n : NodeState). IsSound n.capacity n.lane.body) node_is_sound (none_stands.sound 0) s new machine

-- NEW MACHINES
pub new_stand : (s : Running) → IsNew s → NumbersDiffer s → AreInRelation s
new_stand s new differ = record {
  trace = no_trace;
  stands = record {
    keeps = keeps_new s new;
    waits = waits_new s new;
    carried = carried_new s new;
    rest = λ link none. rest_new s new link;
    fit = fit_new s new;
    sound = sound_new s new;
    many = ap (λ f. length f.machines) new.floor ∙ floor_counted (length s.machines);
    whole = subst (λ f. IsWhole f) (sym new.floor) (floor_whole (length s.machines));
    differ = subst (λ f. IdsDiffer f) (sym new.floor) (floor_differ (length s.machines));
    numbers = differ;
    made = λ id some. absurd (omega (arith, some, ap (λ f. length (filter (has_id id) (boards_on f))) new.floor, none_counted (length s.machines) id));
    olds = λ link id gone. absurd (false≢true gone);
  };
}
