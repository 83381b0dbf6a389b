-- A step of a machine in the line, from what it keeps of both its links.
use Rattle.std.proofs.Common.{Bool, List, Option, [], ap, arith, false, inl, inr, length, refl, subst, sym, true, ℕ, ◌+◌, ◌∙◌, ◌≡◌, ◌≢◌, ◌⊎◌}
use Rattle.line_base.specs.declared.states.Side.{Side}
use Rattle.line_base.specs.declared.states.Side.TheVariants.{Entry, Exit}
use Rattle.line_link.specs.Link.{LinkParts, after_flow}
use Rattle.line_world.specs.declared.gap.AtGap.{AtGap}
use Rattle.node_core.specs.Done.{Done}
use Rattle.node_core.specs.Event.{event_of}
use Rattle.node_core.specs.May.{may_do, may_on_lane}
use Rattle.node_core.specs.Node.{NodeState, desk_of}
use Rattle.node_core.specs.Sound.{IsSound}
use Rattle.node_core.specs.Step.{machine_step}
use Rattle.node_core.specs.declared.act.Act.{Act}
use Rattle.node_core.specs.declared.input.Input.{Input}
use Rattle.node_core.specs.declared.input.Input.TheVariants as inputs
use Rattle.node_core.specs.declared.lane.Body.{Body as Machine}
use Rattle.node_core.specs.declared.word.Word.{Word}
use Rattle.node_core.proofs.Lasting.{sound_after}
use Rattle.law_custody.specs.Pair.{Ghost, Pair}
use Rattle.law_machine_custody.specs.Good.{GoesBy}
use Rattle.law_machine_custody.specs.Scene.{Scene, link_above, link_below}
use Rattle.line_step.specs.Numbered.{ChangesMachine, node_at}
use Rattle.line_step.specs.Reasons.{has_link}
use Rattle.line_step.specs.State.{LineState, machine_in}
use Rattle.line_step.specs.Steps.{MachineSteps, moment_of, unread_by}
use Rattle.line_step.specs.Lines.{Flows, arrived}
use Rattle.line_step.specs.World.{end_of, link_at, link_of}
use Rattle.line_step.specs.Together.{IsLineTogether}
use Rattle.line_step.proofs.Changing.{link_changes, step_changes}
use Rattle.line_step.proofs.FloorLaws as floor
use Rattle.line_step.proofs.Numbers.{machine_set_own, same_or_not}
use Rattle.line_report.specs.declared.happening.Happening.{Happening}
use Rattle.law_one_standing.specs.Carried.{Trace, between_of, stand_of}
use Rattle.law_one_standing.specs.Mirrors.{IsReached, Mirrors, scene_at}
use Rattle.law_one_standing.specs.Stands.{IsAtRest, Stands}
use Rattle.law_one_standing.proofs.ApartStep.{PartedThen}
use Rattle.law_one_standing.proofs.Behind.{AreReal, Bears, behind_step, cut_both, put_first, put_neither, put_second, same_has, stepped}
use Rattle.law_one_standing.proofs.Ends.{no_gap_at, no_link_at, still_at_above, still_at_below}
use Rattle.law_one_standing.proofs.RestLine.{machines_stay, node_there, stays_at_rest}
use Rattle.law_one_standing.proofs.RestScene.{gap_above_rests, gap_below_rests, scene_behind, still_above, still_below}
use Rattle.law_one_standing.proofs.Steps.{afar_of}
use Rattle.law_one_standing.proofs.Traces.{put}

-- a machine is sound behind a step that it may make
pub sound_step : (number machine : ℕ) (input : Input) (before after : LineState) (told : List Happening) → (steps : MachineSteps number machine input before after told) → may_on_lane steps.node input ≡ may_do
    → IsSound steps.node.capacity steps.node.lane.body → IsSound steps.next.capacity steps.next.lane.body
sound_step number machine input before after told steps may sound =
    sound_after steps.node steps.next (unread_by machine before.world) input (moment_of number) steps.acts may steps.steps sound

-- by the machine's number
pub node_next : (number machine : ℕ) (input : Input) (before after : LineState) (told : List Happening) → (steps : MachineSteps number machine input before after told) → node_at after machine ≡ steps.next
node_next number machine input before after told steps = node_there machine after steps.next (ap (λ (s : LineState). machine_in machine s) steps.after_is ∙ machine_set_own machine before steps.node steps.next steps.there)

pub sound_at : (number j : ℕ) (input : Input) (before after : LineState) (told : List Happening) → (steps : MachineSteps number (j + 1) input before after told) → may_on_lane steps.node input ≡ may_do
    → IsSound (node_at before (j + 1)).capacity (node_at before (j + 1)).lane.body → IsSound (node_at after (j + 1)).capacity (node_at after (j + 1)).lane.body
sound_at number j input before after told steps may sound =
    let was : node_at before (j + 1) ≡ steps.node = node_there (j + 1) before steps.node steps.there in
    let now : node_at after (j + 1) ≡ steps.next = node_next number (j + 1) input before after told steps in
    subst (λ (n : NodeState). IsSound n.capacity n.lane.body) (sym now) (sound_step number (j + 1) input before after told steps may (subst (λ (n : NodeState). IsSound n.capacity n.lane.body) was sound))

-- ---- the line is as the scene has it behind the step

pub either : {A : Type 0} (has : Bool) → (has ≡ true → A) → (has ≡ false → A) → A
either true here there = here refl
either false here there = there refl

-- the links and gaps on both sides, where there is one and where there is none
pub real_behind : (j : ℕ) (t t2 : Trace) (before after : LineState) (ca cb : Bool) (told : List Act) (body : Machine) (a b : Ghost) → Stands t before → IsLineTogether after → floor.Holds after → length after.machines ≡ length before.machines
    → (node_at after (j + 1)).lane.body ≡ body → IsReached j before after (scene_behind ca cb told (scene_at t before j))
    → Pair a (link_above [] body (scene_behind ca cb told (scene_at t before j))) → Pair b (link_below [] body (scene_behind ca cb told (scene_at t before j)))
    → ((link : ℕ) → has_link link before ≡ false → IsAtRest t2 after link) → AreReal j after (scene_behind ca cb told (scene_at t before j))
real_behind j t t2 before after ca cb told body a b st together holds many is reached above below rest =
    let c : Scene = scene_at t before j in
    let d : Scene = scene_behind ca cb told c in
    record {
      stands_above = either (has_link j before) reached.stands_above (λ none. ap (λ (l : LinkParts). l.stands) (no_link_at after j together.links (same_has j before after many ∙ none)) ∙ sym (still_above ca cb told c (still_at_above t before j st none)).stands);
      gap_above = either (has_link j before) reached.gap_above (λ none.
          no_gap_at after j holds (same_has j before after many ∙ none)
          ∙ sym (gap_above_rests ca cb told a [] body c above (sym (ap (λ (b : Machine). b.intake.phase) is) ∙ (rest j none).intake) (ap (λ (g : AtGap). g.entry_drive) (no_gap_at before j st.ids none)) ∙ no_gap_at before j st.ids none));
      stands_below = either (has_link (j + 1) before) reached.stands_below (λ none. ap (λ (l : LinkParts). l.stands) (no_link_at after (j + 1) together.links (same_has (j + 1) before after many ∙ none)) ∙ sym (still_below ca cb told c (still_at_below t before j st none)).stands);
      gap_below = either (has_link (j + 1) before) reached.gap_below (λ none.
          no_gap_at after (j + 1) holds (same_has (j + 1) before after many ∙ none)
          ∙ sym (gap_below_rests ca cb told b [] body c below (sym (ap (λ (b : Machine). b.outlet.phase) is) ∙ (rest (j + 1) none).outlet) (ap (λ (g : AtGap). g.exit_drive) (no_gap_at before (j + 1) st.ids none)) ∙ no_gap_at before (j + 1) st.ids none));
    }

-- where there is no link, nothing is on its way behind the step
silent_up : (j : ℕ) (t : Trace) (before : LineState) (a b : Ghost) (gone : ℕ → Bool) (ca cb : Bool) (told : List Act) → Stands t before → (link : ℕ) → has_link link before ≡ false → (link ≡ j) ⊎ (link ≢ j) → (link ≡ j + 1) ⊎ (link ≢ j + 1)
    → t.up link ≡ [] → (stepped t j a b gone (scene_behind ca cb told (scene_at t before j))).up link ≡ []
silent_up j t before a b gone ca cb told st link none (inl is) next was =
    let d : Scene = scene_behind ca cb told (scene_at t before j) in
    rw is (put_first j d.above.up d.below.up t.up ∙ (still_above ca cb told (scene_at t before j) (still_at_above t before j st (ap (λ (n : ℕ). has_link n before) (sym is) ∙ none))).up)
silent_up j t before a b gone ca cb told st link none (inr apart) (inl is) was =
    let d : Scene = scene_behind ca cb told (scene_at t before j) in
    rw is (put_second j d.above.up d.below.up t.up ∙ (still_below ca cb told (scene_at t before j) (still_at_below t before j st (ap (λ (n : ℕ). has_link n before) (sym is) ∙ none))).up)
silent_up j t before a b gone ca cb told st link none (inr apart) (inr other) was =
    let d : Scene = scene_behind ca cb told (scene_at t before j) in
    put_neither j link d.above.up d.below.up t.up apart other ∙ was

silent_down : (j : ℕ) (t : Trace) (before : LineState) (a b : Ghost) (gone : ℕ → Bool) (ca cb : Bool) (told : List Act) → Stands t before → (link : ℕ) → has_link link before ≡ false → (link ≡ j) ⊎ (link ≢ j) → (link ≡ j + 1) ⊎ (link ≢ j + 1)
    → t.down link ≡ [] → (stepped t j a b gone (scene_behind ca cb told (scene_at t before j))).down link ≡ []
silent_down j t before a b gone ca cb told st link none (inl is) next was =
    let d : Scene = scene_behind ca cb told (scene_at t before j) in
    rw is (put_first j d.above.down d.below.down t.down ∙ (still_above ca cb told (scene_at t before j) (still_at_above t before j st (ap (λ (n : ℕ). has_link n before) (sym is) ∙ none))).down)
silent_down j t before a b gone ca cb told st link none (inr apart) (inl is) was =
    let d : Scene = scene_behind ca cb told (scene_at t before j) in
    rw is (put_second j d.above.down d.below.down t.down ∙ (still_below ca cb told (scene_at t before j) (still_at_below t before j st (ap (λ (n : ℕ). has_link n before) (sym is) ∙ none))).down)
silent_down j t before a b gone ca cb told st link none (inr apart) (inr other) was =
    let d : Scene = scene_behind ca cb told (scene_at t before j) in
    put_neither j link d.above.down d.below.down t.down apart other ∙ was

-- ---- A STEP KEEPS THE RELATION

-- the acts of the step, and the machine behind it
abbrev pub done_at : ℕ → ℕ → Input → Trace → LineState → NodeState → List Word → Done
done_at number j input t before node words = machine_step (desk_of node (moment_of number)) (unread_by (j + 1) before.world) (event_of node.maker input words) node.lane.body

-- what a step of machine j + 1 leaves of the rest of the line
pub record Leaves (j : ℕ) (t : Trace) (before after : LineState) : Type 0 where
  pub many : length after.machines ≡ length before.machines
  pub changes : ChangesMachine (j + 1) before after
  pub rest : (t2 : Trace) (link : ℕ) → has_link link before ≡ false → (t.up link ≡ [] → t2.up link ≡ []) → (t.down link ≡ [] → t2.down link ≡ []) → IsAtRest t before link → IsAtRest t2 after link
  pub sound : IsSound (node_at after (j + 1)).capacity (node_at after (j + 1)).lane.body

-- a step that keeps the relation of both links keeps that of the line. `gone` are the ids that are gone at the machine's exit then
pub leaves_bear : {Left : ℕ → Type 0} {gone elsewhere : ℕ → Bool} (number j : ℕ) (input : Input) (t : Trace) (before after : LineState) → Stands t before → Leaves j t before after
    → IsLineTogether after → floor.Holds after
    → (m : Mirrors number j input t before after)
    → GoesBy (afar_of elsewhere (between_of t before j) gone) (stand_of before j).body.kept [] (t.ghost j) (t.ghost (j + 1)) (scene_at t before j) (done_at number j input t before m.node m.words)
    → ((t2 : Trace) → ((k y : ℕ) → t2.gone k y ≡ put (j + 1) gone t.gone k y) → PartedThen Left t t2 after)
    → (t2 : Trace) × Bears Left t t2 after
leaves_bear {Left = Left} {gone = gone} number j input t before after st l together holds m goes parts =
    let done : Done = done_at number j input t before m.node m.words in
    let d : Scene = scene_behind m.cuts_above m.cuts_below done.acts (scene_at t before j) in
    let g = cut_both m.cuts_above m.cuts_below goes in
    let t2 : Trace = stepped t j g.a g.b gone d in
    let rest : (link : ℕ) → has_link link before ≡ false → IsAtRest t2 after link = λ link none.
    l.rest t2 link none
    (silent_up j t before g.a g.b gone m.cuts_above m.cuts_below done.acts st link none (same_or_not link j) (same_or_not link (j + 1)))
    (silent_down j t before g.a g.b gone m.cuts_above m.cuts_below done.acts st link none (same_or_not link j) (same_or_not link (j + 1)))
    (st.rest link none) in
    let parted : PartedThen Left t t2 after = parts t2 (λ k y. refl) in (
      t2,
      behind_step j t before after m.cuts_above m.cuts_below done.body done.acts st l.changes l.many m.body m.reached m.fit
          (real_behind j t t2 before after m.cuts_above m.cuts_below done.acts done.body g.a g.b st together holds l.many m.body m.reached g.good.above_pair g.good.below_pair rest)
          l.sound g t2 refl parted (λ link none. rest link (sym (same_has link before after l.many) ∙ none)),
    )

pub step_leaves : (number j : ℕ) (input : Input) (t : Trace) (before after : LineState) (told : List Happening) → Stands t before → (steps : MachineSteps number (j + 1) input before after told) → may_on_lane steps.node input ≡ may_do
    → (input ≡ inputs.Connect → has_link j before ≡ true) → (input ≡ inputs.Accepted → has_link (j + 1) before ≡ true) → Leaves j t before after
step_leaves number j input t before after told st steps may connects accepts = record {
  many = machines_stay number (j + 1) input before after told steps;
  changes = step_changes number (j + 1) input before after told steps;
  rest = λ t2 link none up down rest. stays_at_rest number j input t t2 before after told steps connects accepts link none up down rest;
  sound = sound_at number j input before after told steps may (st.sound (j + 1));
}

pub step_bears : {Left : ℕ → Type 0} {gone elsewhere : ℕ → Bool} (number j : ℕ) (input : Input) (t : Trace) (before after : LineState) (told : List Happening) → Stands t before → (steps : MachineSteps number (j + 1) input before after told) → may_on_lane steps.node input ≡ may_do
    → IsLineTogether after → floor.Holds after → (input ≡ inputs.Connect → has_link j before ≡ true) → (input ≡ inputs.Accepted → has_link (j + 1) before ≡ true)
    → (m : Mirrors number j input t before after)
    → GoesBy (afar_of elsewhere (between_of t before j) gone) (stand_of before j).body.kept [] (t.ghost j) (t.ghost (j + 1)) (scene_at t before j) (done_at number j input t before m.node m.words)
    → ((t2 : Trace) → ((k y : ℕ) → t2.gone k y ≡ put (j + 1) gone t.gone k y) → PartedThen Left t t2 after)
    → (t2 : Trace) × Bears Left t t2 after
step_bears number j input t before after told st steps may together holds connects accepts m goes parts =
    leaves_bear number j input t before after st (step_leaves number j input t before after told st steps may connects accepts) together holds m goes parts

-- ---- bytes arrive first

near_link : (j : ℕ) (side : Side) (k : ℕ) → k ≢ j + 1 → k + 1 ≢ j + 1 → k ≢ link_of (j + 1) side
near_link j Exit k here above is = here is
near_link j Entry k here above is = above (omega (arith, is))

pub changes_then : (machine : ℕ) (one two three : LineState) → ChangesMachine machine one two → ChangesMachine machine two three → ChangesMachine machine one three
changes_then machine one two three a b = record { machines = λ k apart. b.machines k apart ∙ a.machines k apart; links = λ k here above. b.links k here above ∙ a.links k here above }

arrived_changes : (j : ℕ) (side : Side) (count : Option ℕ) (s : LineState) → ChangesMachine (j + 1) s (arrived (j + 1) side count s)
arrived_changes j side count s =
    let c = link_changes (link_of (j + 1) side) (after_flow (end_of side) count (link_at (link_of (j + 1) side) s.world)) s in
    record { machines = λ k apart. c.machines k; links = λ k here above. c.links k (near_link j side k here above) }

same_rest : (t : Trace) (j : ℕ) (side : Side) (count : Option ℕ) (s : LineState) (link : ℕ) → IsAtRest t s link → IsAtRest t (arrived (j + 1) side count s) link
same_rest t j side count s link r = record { outlet = r.outlet; intake = r.intake; exit = r.exit; entry = r.entry; up = r.up; down = r.down }

pub flow_leaves : (number j : ℕ) (side : Side) (count : Option ℕ) (t : Trace) (before after : LineState) (told : List Happening) → Stands t before → (flows : Flows number (j + 1) side count before after told)
    → may_on_lane flows.steps.node (inputs.Bytes side flows.piece) ≡ may_do → Leaves j t before after
flow_leaves number j side count t before after told st flows may =
    let now : LineState = arrived (j + 1) side count before in
    let steps = flows.steps in
    record {
      many = machines_stay number (j + 1) (inputs.Bytes side flows.piece) now after told steps;
      changes = changes_then (j + 1) before now after (arrived_changes j side count before) (step_changes number (j + 1) (inputs.Bytes side flows.piece) now after told steps);
      rest = λ t2 link none up down rest. stays_at_rest number j (inputs.Bytes side flows.piece) t t2 now after told steps (λ no. absurd (cc)) (λ no. absurd (cc)) link none up down (same_rest t j side count before link rest);
      sound = sound_at number j (inputs.Bytes side flows.piece) now after told steps may (st.sound (j + 1));
    }
