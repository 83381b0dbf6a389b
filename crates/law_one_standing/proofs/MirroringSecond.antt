-- THE SECOND STEP OF A SECOND CONNECTION: the exit above has a connection already, and answers.
use Rattle.std.proofs.Common.{Bool, List, [], ap, arith, false, length, refl, subst, sym, true, ℕ, ◌+◌, ◌∙◌, ◌∷◌, ◌≡◌, ◌≢◌, ◌≤◌, ◌++◌}
use Rattle.law_one_standing.proofs.RestLine.{node_there}
use Rattle.law_one_standing.proofs.Behind.{same_has, fit_machine}
use Rattle.line_base.specs.declared.states.Side.TheVariants.{Entry, Exit}
use Rattle.board_record.specs.declared.sensed.Sensed.{Sensed}
use Rattle.line_link.specs.Link.{AreBegun, LinkParts}
use Rattle.line_report.specs.declared.happening.Happening.{Happening}
use Rattle.line_world.specs.FloorPlan.{AtMachine, gap_at, machine_at}
use Rattle.node_core.specs.Desk.{Desk}
use Rattle.node_core.specs.Event.{Second}
use Rattle.node_core.specs.Node.{NodeState, desk_of}
use Rattle.node_core.specs.declared.act.Act.{Act}
use Rattle.node_core.specs.declared.act.Act.TheVariants as acts
use Rattle.node_core.specs.declared.input.Input.TheVariants as inputs
use Rattle.law_link_messages.specs.Fit.{AreFitActs}
use Rattle.law_machine_custody.specs.Joined.{all_met_second}
use Rattle.law_machine_custody.specs.Scene.{Scene, all_met, met}
use Rattle.line_step.specs.Lines.{connecting}
use Rattle.line_step.specs.Near.{Near, near_at, nears_did}
use Rattle.line_step.specs.Numbered.{node_at}
use Rattle.line_step.specs.Reasons.{has_link}
use Rattle.line_step.specs.State.{LineState}
use Rattle.line_step.specs.Steps.{MachineSteps, moment_of, read_by, unread_by}
use Rattle.line_step.specs.World.{link_at}
use Rattle.line_step.proofs.Floors.{gaps_stay}
use Rattle.line_step.proofs.Numbers.{machine_within}
use Rattle.law_one_standing.specs.Carried.{Carried, Carries, IsFitMachine, Trace}
use Rattle.law_one_standing.specs.Links.{AreWholeLinks}
use Rattle.law_one_standing.specs.Mirrors.{cut_above, cut_below}
use Rattle.law_one_standing.specs.Stands.{Stands}
use Rattle.law_one_standing.proofs.Carrying.{SaysAlone}
use Rattle.law_one_standing.proofs.CarryingActs.{IsLike}
use Rattle.law_one_standing.proofs.CarryingAnswer.{IsLikeOff, second_like, second_acts, second_acts_are}
use Rattle.law_one_standing.proofs.CarryingSides.{IsSide, Joint, joint_as}
use Rattle.law_one_standing.proofs.Mirroring.{GoAlong, beside, links_of, mirrored, next_there, reached_of}
use Rattle.law_one_standing.proofs.MirroringCall.{MirrorsCall, call_did, call_scene}
use Rattle.law_one_standing.proofs.MirroringFlow.{link_there}
use Rattle.law_one_standing.proofs.MirroringMeet.{Leaves, MirrorsMeet, call_leaves, called_scene, carried_by, meet_did, meet_scene}
use Rattle.law_one_standing.proofs.MirroringPlain.{above_quiet, home_quiet, quiet_side}
use Rattle.law_one_standing.proofs.Signalled.{signals_passed_second, signals_no_answer}
use Rattle.node_core.specs.Signals.{signalled}

-- ---- a link that doesn't stand stands no more behind any acts

met_off : (act : Act) (c : Scene) → c.above.stands ≡ false → (met act c).above.stands ≡ false
met_off (acts.Hears Entry message) c off = off
met_off (acts.Sends Entry message) c off = off
met_off (acts.Closes Entry) c off = refl
met_off (acts.Notices Entry) c off = refl
met_off (acts.Drive Entry on) c off = off
met_off _ c off = off

all_off : (told : List Act) (c : Scene) → c.above.stands ≡ false → (all_met told c).above.stands ≡ false
all_off [] c off = off
all_off (act ∷ others) c off = all_off others (met act c) (met_off act c off)

cut_off : (a b : Bool) (c : Scene) → c.above.stands ≡ false → (cut_below b (cut_above a c)).above.stands ≡ false
cut_off true true c off = refl
cut_off true false c off = refl
cut_off false true c off = off
cut_off false false c off = off

-- THE STEP
pub answers : (alone : SaysAlone) (t : Trace) (number j : ℕ) (before between after : LineState) (earlier told : List Happening) → number ≤ 1000000 → Stands t before → AreWholeLinks before
    → MachineSteps number (j + 1 + 1) inputs.Connect (connecting (j + 1 + 1) before) between earlier → (call : MirrorsCall number j t before between false (t.up (j + 1)) (node_at before (j + 1)).lane.exit_bytes)
    → MachineSteps number (j + 1) inputs.Second between after told → MirrorsMeet number j t between after Second (λ acts scene. all_met_second acts scene) (called_scene call).above.stands (called_scene call).above.up (called_scene call).above.down
answers alone t number j before between after earlier told few holds links first call steps =
    let node : NodeState = steps.node in
    let next : NodeState = steps.next in
    let lane = steps.steps.lane in
    let leaves : Leaves j t before between = call_leaves t number j before between earlier holds first in
    let d : Scene = called_scene call in
    let L : LinkParts = link_at (j + 1) between.world in
    let counted : 1 ≤ j + 1 = omega arith in
    let there : has_link (j + 1) before ≡ true = link_there (j + 1) (length before.machines) counted (machine_within (j + 1 + 1) before first.node first.there).1 in
    let now_there : has_link (j + 1) between ≡ true = same_has (j + 1) before between leaves.count ∙ there in
    let apart : j ≢ j + 1 = omega arith in
    let behind : j + 1 + 1 ≢ j + 1 = omega arith in
    let node_is : node_at between (j + 1) ≡ node = node_there (j + 1) between node steps.there in
    let next_is : node_at after (j + 1) ≡ next = next_there number j inputs.Second between after told steps in
    let down_is : node_at after (j + 1 + 1) ≡ node_at between (j + 1 + 1) = beside number j inputs.Second between after told steps (j + 1 + 1) behind in
    let entry : next.lane.entry_bytes ≡ (node_at between (j + 1)).lane.entry_bytes = lane.brings.0 ∙ sym (ap (λ (m : NodeState). m.lane.entry_bytes) node_is) in
    let exit : next.lane.exit_bytes ≡ (node_at before (j + 1)).lane.exit_bytes = lane.brings.1 ∙ sym (ap (λ (m : NodeState). m.lane.exit_bytes) node_is) ∙ ap (λ (m : NodeState). m.lane.exit_bytes) leaves.own in
    let carried : has_link j between ≡ true → Carried t between j = λ is. carried_by t before between j leaves.link leaves.above leaves.own (holds.carried j (sym (same_has j before between leaves.count) ∙ is)) in
    let begun : AreBegun (link_at j between.world).flows = subst (λ (l : LinkParts). AreBegun l.flows) (sym leaves.link) (links j).begun in
    let above = above_quiet (has_link j between) steps.acts (link_at j between.world) (gap_at between.world.floor j) refl (λ is. (carried is).up) (λ is. (carried is).down) begun (quiet_side number j inputs.Second between after told Entry refl steps) entry in
    let goes : Carries d.above.stands [] L.flows.to_downstream d.above.down = subst (λ (bytes : List ℕ). Carries d.above.stands bytes L.flows.to_downstream d.above.down) call.empty (call.around.down_above there) in
    let side : IsSide Exit steps.acts next.lane.exit_bytes [] L (gap_at between.world.floor (j + 1)) d.above.stands (gap_at between.world.floor (j + 1)) d.above.up d.above.down = record {
      is_on = call.around.stands_above there;
      same = refl;
      comes = home_quiet Exit steps.acts (quiet_side number j inputs.Second between after told Exit refl steps) exit (call.around.up_above there);
      goes = goes;
      begun = (call.around.begun_above there).downstream;
      begun_home = (call.around.begun_above there).upstream;
    } in
    let below : Joint Exit (has_link (j + 1) between) steps.acts next.lane.exit_bytes [] L (gap_at between.world.floor (j + 1)) d.above.stands (gap_at between.world.floor (j + 1)) d.above.up d.above.down = joint_as now_there side in
    let good : IsFitMachine between (j + 1) = fit_machine before between (j + 1) leaves.own (holds.fit (j + 1)) in
    let c : Scene = meet_scene d.above.stands d.above.up d.above.down t between j in
    let near : Near = near_at (j + 1) (read_by (j + 1) between.world) in
    let off : d.above.stands ≡ false = cut_off call.cuts_above call.cuts_below (all_met (call_did number j before call.node).acts (call_scene false (t.up (j + 1)) t before j)) (all_off (call_did number j before call.node).acts (call_scene false (t.up (j + 1)) t before j) refl) in
    let desk : Desk = desk_of node (moment_of number) in
    let unread : List Sensed = unread_by (j + 1) between.world in
    let now : AtMachine = record (machine_at between.world.floor (j + 1)) { unread = [] } in
    let gap : near.below.gap ≡ gap_at between.world.floor (j + 1) = gaps_stay between.world.floor (j + 1) (j + 1) now in
    let P : List Act → Type 0 = λ (told : List Act). AreFitActs told → IsLikeOff (links_of j between) told next.lane.entry_bytes next.lane.exit_bytes (node_at between j).lane.exit_bytes near c
    → IsLike (links_of j between) [] next.lane.entry_bytes next.lane.exit_bytes (node_at between j).lane.exit_bytes [] (nears_did (links_of j between) true told near) (all_met_second told c) in
    let own : List Act = signalled node.bridge next.lane.body in
    let acts_are : steps.acts ≡ second_acts desk unread node.lane.body own =
    steps.steps.told ∙ ap (λ (acts : List Act). acts ++ own) lane.told ∙ second_acts_are desk unread node.lane.body own in
    let all : P steps.acts = subst P (sym acts_are) (λ fit k. second_like alone desk unread node.lane.body own (signals_no_answer node.bridge next.lane.body) fit k) in
    let along : GoAlong (links_of j between) true steps.acts next.lane.entry_bytes next.lane.exit_bytes (node_at between j).lane.exit_bytes [] (λ acts scene. all_met_second acts scene) near c =
    λ fit k. all fit (record { place = k.place; above = k.above; there = now_there; off = off; below = record { is_on = side.is_on; same = gap; comes = side.comes; goes = side.goes; begun = side.begun; begun_home = side.begun_home }; linked = call.linked }) in
    let m = mirrored number j inputs.Second between between.world after told (λ acts scene. all_met_second acts scene) c (signals_passed_second c) refl leaves.many leaves.gaps few good steps tt refl along above below in
    let last = m.reached in
    record {
      node = node;
      there = steps.there;
      cuts_above = last.a;
      cuts_below = last.b;
      body = m.body;
      reached = reached_of j between after (cut_below last.b (cut_above last.a (all_met_second (meet_did number j between Second node).acts c))) (sym (ap (λ (n : NodeState). n.lane.entry_bytes) next_is)) (sym (ap (λ (n : NodeState). n.lane.exit_bytes) next_is))
          (sym (ap (λ (n : NodeState). n.lane.exit_bytes) (beside number j inputs.Second between after told steps j apart))) (sym call.empty ∙ sym (ap (λ (n : NodeState). n.lane.entry_bytes) down_is)) last.around;
      fit = m.fit;
    }
