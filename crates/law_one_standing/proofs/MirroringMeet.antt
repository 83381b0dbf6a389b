-- THE SECOND STEP OF A CONNECTION: the machine above meets it, as a step in its scene.
use Rattle.std.proofs.Common.{Bool, List, Some, [], ap, arith, length, refl, subst, sym, true, ℕ, ◌+◌, ◌-◌, ◌∙◌, ◌≡◌, ◌≢◌, ◌≤◌}
use Rattle.law_one_standing.proofs.RestLine.{node_there}
use Rattle.law_one_standing.proofs.Behind.{fit_machine, same_has}
use Rattle.line_base.specs.declared.states.Side.TheVariants.{Entry, Exit}
use Rattle.hermes_horizontal.specs.declared.message.Horizontal.{Horizontal}
use Rattle.line_link.specs.Link.{AreBegun, LinkParts, after_connect}
use Rattle.line_report.specs.declared.happening.Happening.{Happening}
use Rattle.line_world.specs.FloorPlan.{gap_at}
use Rattle.node_core.specs.Done.{Done}
use Rattle.node_core.specs.Event.{Accepted, Event}
use Rattle.node_core.specs.Node.{NodeState, desk_of}
use Rattle.node_core.specs.Step.{machine_step}
use Rattle.node_core.specs.declared.act.Act.{Act}
use Rattle.node_core.specs.declared.input.Input.TheVariants as inputs
use Rattle.law_machine_custody.specs.Joined.{with_link}
use Rattle.law_machine_custody.specs.Scene.{Scene, all_met}
use Rattle.line_step.specs.Lines.{connecting}
use Rattle.line_step.specs.Numbered.{node_at}
use Rattle.line_step.specs.Reasons.{has_link}
use Rattle.line_step.specs.State.{LineState, machine_in}
use Rattle.line_step.specs.Steps.{MachineSteps, moment_of, unread_by}
use Rattle.line_step.specs.World.{link_at}
use Rattle.line_step.proofs.Changing.{step_changes}
use Rattle.line_step.proofs.Counting.{SameCounts, link_same_world, step_counts}
use Rattle.line_step.proofs.Numbers.{link_set_other, machine_within}
use Rattle.law_one_standing.specs.Carried.{Carried, Carries, IsFitMachine, Trace}
use Rattle.law_one_standing.specs.Links.{AreWholeLinks}
use Rattle.law_one_standing.specs.Mirrors.{IsReached, cut_above, cut_below, scene_at}
use Rattle.law_one_standing.specs.Stands.{Stands}
use Rattle.law_one_standing.proofs.Carrying.{SaysAlone}
use Rattle.law_one_standing.proofs.CarryingSides.{Joint}
use Rattle.law_one_standing.proofs.Mirroring.{along_plain, beside, mirrored, next_there, reached_of}
use Rattle.law_one_standing.proofs.MirroringCall.{MirrorsCall, call_did, call_scene}
use Rattle.law_one_standing.proofs.MirroringFlow.{link_there}
use Rattle.law_one_standing.proofs.MirroringPlain.{above_quiet, below_quiet, quiet_side}
use Rattle.law_one_standing.proofs.Signalled.{signals_passed}

-- ---- what is there behind it

abbrev pub meet_did : ℕ → ℕ → LineState → Event → NodeState → Done
meet_did number j between event node = machine_step (desk_of node (moment_of number)) (unread_by (j + 1) between.world) event node.lane.body

-- the scene of the machine above, with its link as the first step left it
abbrev pub meet_scene : Bool → List Horizontal → List Horizontal → Trace → LineState → ℕ → Scene
meet_scene on up down t between j = with_link Exit on up down (scene_at t between j)

pub record MirrorsMeet (number j : ℕ) (t : Trace) (between after : LineState) (event : Event) (all : List Act → Scene → Scene) (on : Bool) (up down : List Horizontal) : Type 0 where
  pub node : NodeState
  pub there : machine_in (j + 1) between ≡ Some node
  pub cuts_above : Bool
  pub cuts_below : Bool
  pub body : (node_at after (j + 1)).lane.body ≡ (meet_did number j between event node).body
  pub reached : IsReached j between after (cut_below cuts_below (cut_above cuts_above (all (meet_did number j between event node).acts (meet_scene on up down t between j))))
  pub fit : IsFitMachine after (j + 1)

-- the link between the two behind the first step
abbrev pub called_scene : {number j : ℕ} {t : Trace} {before between : LineState} {on : Bool} {up : List Horizontal} {far : List ℕ} → MirrorsCall number j t before between on up far → Scene
called_scene {number = number} {j = j} {t = t} {before = before} {on = on} {up = up} m = cut_below m.cuts_below (cut_above m.cuts_above (all_met (call_did number j before m.node).acts (call_scene on up t before j)))

-- ---- what the first step leaves as it was

pub carried_by : (t : Trace) (s u : LineState) (link : ℕ) → link_at link u.world ≡ link_at link s.world → node_at u link ≡ node_at s link → node_at u (link + 1) ≡ node_at s (link + 1) → Carried t s link → Carried t u link
carried_by t s u link l m n k = record {
  up = subst (λ (x : LinkParts). Carries x.stands (node_at u link).lane.exit_bytes x.flows.to_upstream (t.up link)) (sym l) (subst (λ (x : NodeState). Carries (link_at link s.world).stands x.lane.exit_bytes (link_at link s.world).flows.to_upstream (t.up link)) (sym m) k.up);
  down = subst (λ (x : LinkParts). Carries x.stands (node_at u (link + 1)).lane.entry_bytes x.flows.to_downstream (t.down link)) (sym l) (subst (λ (x : NodeState). Carries (link_at link s.world).stands x.lane.entry_bytes (link_at link s.world).flows.to_downstream (t.down link)) (sym n) k.down);
}

-- what lies above the machine above, and that machine, are as they were
pub record Leaves (j : ℕ) (t : Trace) (before between : LineState) : Type 0 where
  pub many : length between.world.floor.machines ≡ length between.machines
  pub gaps : length between.world.floor.gaps ≡ length between.world.floor.machines - 1
  pub count : length between.machines ≡ length before.machines
  pub link : link_at j between.world ≡ link_at j before.world
  pub above : node_at between j ≡ node_at before j
  pub own : node_at between (j + 1) ≡ node_at before (j + 1)

pub call_leaves : (t : Trace) (number j : ℕ) (before between : LineState) (told : List Happening) → Stands t before → MachineSteps number (j + 1 + 1) inputs.Connect (connecting (j + 1 + 1) before) between told → Leaves j t before between
call_leaves t number j before between told holds steps =
    let start : LineState = connecting (j + 1 + 1) before in
    let parts : LinkParts = after_connect (link_at (j + 1 + 1 - 1) before.world) in
    let counts : SameCounts start between = step_counts number (j + 1 + 1) inputs.Connect start between told steps in
    let linked = link_same_world (j + 1 + 1 - 1) parts before.world in
    let together = holds.together in
    let world = counts.world in
    let one : j ≢ j + 1 + 1 = omega arith in
    let two : j + 1 ≢ j + 1 + 1 = omega arith in
    let apart : j ≢ j + 1 + 1 - 1 = omega arith in
    let changes = step_changes number (j + 1 + 1) inputs.Connect start between told steps in
    record {
      many = world.floor ∙ linked.floor ∙ together.floor ∙ sym counts.machines;
      gaps = world.gaps ∙ linked.gaps ∙ holds.ids.whole ∙ ap (λ (n : ℕ). n - 1) (sym (world.floor ∙ linked.floor));
      count = counts.machines;
      link = ap (λ b. b.link) (changes.links j one two) ∙ link_set_other (j + 1 + 1 - 1) j parts before.world apart;
      above = beside number (j + 1) inputs.Connect start between told steps j one;
      own = beside number (j + 1) inputs.Connect start between told steps (j + 1) two;
    }

-- ---- THE STEP where the exit above takes the connection

pub accepts : (alone : SaysAlone) (t : Trace) (number j : ℕ) (before between after : LineState) (earlier told : List Happening) → number ≤ 1000000 → Stands t before → AreWholeLinks before
    → MachineSteps number (j + 1 + 1) inputs.Connect (connecting (j + 1 + 1) before) between earlier → (call : MirrorsCall number j t before between true [] [])
    → MachineSteps number (j + 1) inputs.Accepted between after told → MirrorsMeet number j t between after Accepted (λ acts scene. all_met acts scene) (called_scene call).above.stands (called_scene call).above.up (called_scene call).above.down
accepts alone t number j before between after earlier told few holds links first call steps =
    let node : NodeState = steps.node in
    let next : NodeState = steps.next in
    let lane = steps.steps.lane in
    let leaves : Leaves j t before between = call_leaves t number j before between earlier holds first in
    let d : Scene = called_scene call in
    let L : LinkParts = link_at (j + 1) between.world in
    let counted : 1 ≤ j + 1 = omega arith in
    let there : has_link (j + 1) before ≡ true = link_there (j + 1) (length before.machines) counted (machine_within (j + 1 + 1) before first.node first.there).1 in
    let apart : j ≢ j + 1 = omega arith in
    let behind : j + 1 + 1 ≢ j + 1 = omega arith in
    let node_is : node_at between (j + 1) ≡ node = node_there (j + 1) between node steps.there in
    let next_is : node_at after (j + 1) ≡ next = next_there number j inputs.Accepted between after told steps in
    let entry : next.lane.entry_bytes ≡ (node_at between (j + 1)).lane.entry_bytes = lane.brings.0 ∙ sym (ap (λ (m : NodeState). m.lane.entry_bytes) node_is) in
    let carried : has_link j between ≡ true → Carried t between j = λ is. carried_by t before between j leaves.link leaves.above leaves.own (holds.carried j (sym (same_has j before between leaves.count) ∙ is)) in
    let begun : AreBegun (link_at j between.world).flows = subst (λ (l : LinkParts). AreBegun l.flows) (sym leaves.link) (links j).begun in
    let above = above_quiet (has_link j between) steps.acts (link_at j between.world) (gap_at between.world.floor j) refl (λ is. (carried is).up) (λ is. (carried is).down) begun (quiet_side number j inputs.Accepted between after told Entry refl steps) entry in
    let below : Joint Exit (has_link (j + 1) between) steps.acts next.lane.exit_bytes (node_at between (j + 1 + 1)).lane.entry_bytes L (gap_at between.world.floor (j + 1)) d.above.stands (gap_at between.world.floor (j + 1)) d.above.up d.above.down =
    below_quiet (has_link (j + 1) between) steps.acts L (gap_at between.world.floor (j + 1)) (call.around.stands_above there) (λ is. call.around.up_above there) (λ is. call.around.down_above there) (call.around.begun_above there)
    (quiet_side number j inputs.Accepted between after told Exit refl steps) lane.brings.1 in
    let good : IsFitMachine between (j + 1) = fit_machine before between (j + 1) leaves.own (holds.fit (j + 1)) in
    let m = mirrored number j inputs.Accepted between between.world after told (λ acts scene. all_met acts scene) (meet_scene d.above.stands d.above.up d.above.down t between j) (signals_passed (meet_scene d.above.stands d.above.up d.above.down t between j)) refl leaves.many leaves.gaps few good steps tt refl (along_plain alone inputs.Accepted steps.acts refl) above below in
    let now = m.reached in
    record {
      node = node;
      there = steps.there;
      cuts_above = now.a;
      cuts_below = now.b;
      body = m.body;
      reached = reached_of j between after (cut_below now.b (cut_above now.a (all_met (meet_did number j between Accepted node).acts (meet_scene d.above.stands d.above.up d.above.down t between j)))) (sym (ap (λ (n : NodeState). n.lane.entry_bytes) next_is)) (sym (ap (λ (n : NodeState). n.lane.exit_bytes) next_is))
          (sym (ap (λ (n : NodeState). n.lane.exit_bytes) (beside number j inputs.Accepted between after told steps j apart))) (sym (ap (λ (n : NodeState). n.lane.entry_bytes) (beside number j inputs.Accepted between after told steps (j + 1 + 1) behind))) now.around;
      fit = m.fit;
    }
