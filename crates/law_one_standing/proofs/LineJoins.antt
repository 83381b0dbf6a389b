-- A connection is made in the line: what both its steps leave of the relation.
use Rattle.std.proofs.Common.{Bool, List, [], ap, arith, false, inl, inr, length, refl, subst, sym, true, ℕ, ◌+◌, ◌-◌, ◌∙◌, ◌≡◌, ◌≢◌, ◌⊎◌}
use Rattle.std.proofs.lemmas.Bool.{false≢true}
use Rattle.std.specs.List.{AllByRecursion}
use Rattle.line_step.proofs.FloorLaws.{IsHandless}
use Rattle.hermes_horizontal.specs.declared.message.Horizontal.{Horizontal}
use Rattle.line_link.specs.Link.{LinkParts, after_connect}
use Rattle.line_world.specs.Boards.{boards_on}
use Rattle.line_world.specs.FloorPlan.{FloorPlan, IsWhole, free_gap, has_id}
use Rattle.line_world.specs.Ids.{IdsDiffer}
use Rattle.line_world.specs.declared.board.Board.{Board}
use Rattle.handover_out.specs.declared.phase.Phase.TheVariants as out
use Rattle.handover_in.specs.declared.phase.Phase.TheVariants as inn
use Rattle.node_core.specs.Halves.{OffersFront}
use Rattle.node_core.specs.May.{may_do, may_on_lane}
use Rattle.node_core.specs.Node.{NodeState}
use Rattle.node_core.specs.Sound.{IsSound}
use Rattle.node_core.specs.declared.input.Input.{Input}
use Rattle.node_core.specs.declared.input.Input.TheVariants as inputs
use Rattle.node_core.specs.declared.lane.Body.{Body as Machine}
use Rattle.law_custody.specs.Pair.{Ghost, Pair}
use Rattle.law_machine_custody.specs.Good.{Goes}
use Rattle.law_machine_custody.specs.Scene.{Below, Scene, link_above}
use Rattle.line_report.specs.declared.happening.Happening.{Happening}
use Rattle.line_step.specs.Lines.{connecting}
use Rattle.line_step.specs.Numbered.{ChangesMachine, node_at}
use Rattle.line_step.specs.Reasons.{has_link}
use Rattle.line_step.specs.State.{LineState, with_world}
use Rattle.line_step.specs.Steps.{MachineSteps}
use Rattle.line_step.specs.Together.{IsLineTogether}
use Rattle.line_step.specs.World.{link_at, with_link}
use Rattle.line_step.proofs.Changing.{link_changes, step_changes}
use Rattle.line_step.proofs.FloorLaws as floor
use Rattle.step_rules.specs.Makers.{IsOld}
use Rattle.line_step.proofs.Numbers.{floor_stays, same_or_not}
use Rattle.law_one_standing.specs.Carried.{Carried, Carries, IsFitMachine, Trace, between_of, stand_of}
use Rattle.law_one_standing.specs.Kept.{Keeps}
use Rattle.law_one_standing.specs.Mirrors.{IsReached}
use Rattle.law_one_standing.specs.Relation.{scene_between}
use Rattle.law_one_standing.specs.Stands.{IsAtRest, Stands}
use Rattle.law_one_standing.proofs.ApartHands.{IsStill, apart_still, step_still}
use Rattle.law_one_standing.proofs.ApartStep.{LayOn, Parted, PartedThen, apart_stays}
use Rattle.law_one_standing.proofs.Behind.{AreReal, carried_behind, carried_same, carries_as, each_fit, each_machine, put_first, put_neither, put_second, same_has, stepped, stepped_same}
use Rattle.law_one_standing.proofs.Ends.{no_gap_at, no_link_at}
use Rattle.law_one_standing.proofs.HandSteps.{Around, Bearing}
use Rattle.law_one_standing.proofs.Joints.{IsCalled, between_on, call_keeps, meet_keeps}
use Rattle.law_one_standing.proofs.MirroringCall.{MirrorsCall, call_did}
use Rattle.law_one_standing.proofs.MirroringMeet.{called_scene}
use Rattle.law_one_standing.proofs.Plain.{changes_then, either, sound_at}
use Rattle.law_one_standing.proofs.RestLine.{machines_stay, stays_at_rest}
use Rattle.law_one_standing.proofs.RestScene.{IsStillAbove, IsStillBelow}
use Rattle.law_one_standing.proofs.Steps.{SameAbove, SameBelow, afar_of}
use Rattle.law_one_standing.proofs.Traces.{put, put_other, put_same}

-- ---- a line whose link is connected has the floor and the machines that it had

pub still_connecting : (link : ℕ) (parts : LinkParts) (s : LineState) → floor.Holds s → IsStill s (with_world (with_link link parts s.world) s)
still_connecting link parts s h =
    let same : (with_link link parts s.world).floor ≡ s.world.floor = floor_stays link parts s.world in
    record {
      holds = record {
        own = h.own;
        many = ap (λ (f : FloorPlan). length f.machines) same ∙ h.many;
        whole = subst (λ (f : FloorPlan). IsWhole f) (sym same) h.whole;
        old = subst (λ (f : FloorPlan). AllByRecursion (λ (board : Board). (id : ℕ) → has_id id board ≡ true → IsOld 1 s.machines id) (boards_on f)) (sym same) h.old;
        differ = subst (λ (f : FloorPlan). IdsDiffer f) (sym same) h.differ;
      };
      boards = ap boards_on same;
      olds = λ id old. old;
    }

near_link : (j k : ℕ) → k ≢ j + 1 + 1 → k + 1 ≢ j + 1 + 1 → k ≢ j + 1 + 1 - 1
near_link j k here above is = above (omega (arith, is))

connecting_changes : (j : ℕ) (s : LineState) → ChangesMachine (j + 1 + 1) s (connecting (j + 1 + 1) s)
connecting_changes j s =
    let c = link_changes (j + 1 + 1 - 1) (after_connect (link_at (j + 1 + 1 - 1) s.world)) s in
    record { machines = λ k apart. c.machines k; links = λ k here above. c.links k (near_link j k here above) }

-- ---- what both steps are

pub record BothSteps (number j : ℕ) (t : Trace) (before between after : LineState) : Type 0 where
  pub earlier : List Happening
  pub later : List Happening
  pub input : Input
  pub first : MachineSteps number (j + 1 + 1) inputs.Connect (connecting (j + 1 + 1) before) between earlier
  pub second : MachineSteps number (j + 1) input between after later
  pub may_first : may_on_lane first.node inputs.Connect ≡ may_do
  pub may_second : may_on_lane second.node input ≡ may_do
  pub handless : IsHandless input
  pub no_call : input ≡ inputs.Connect → has_link j between ≡ true

-- the first step in the relation: a scene behind it that differs from the real one in what lies above alone
pub record FirstStep (number j : ℕ) (t : Trace) (before between : LineState) : Type 0 where
  pub on : Bool
  pub up : List Horizontal
  pub far : List ℕ
  pub call : MirrorsCall number j t before between on up far
  pub scene : Scene
  pub boards : (called_scene call).boards ≡ scene.boards
  pub gap : (called_scene call).above.gap ≡ scene.above.gap
  pub below : (called_scene call).below ≡ scene.below
  pub elsewhere : ℕ → Bool
  pub start : Scene
  pub outlet : start.above.outlet ≡ (stand_of before (j + 1)).body.outlet
  pub intake : start.below.intake ≡ (stand_of before (j + 1 + 1 + 1)).body.intake
  pub same_above : SameAbove (stand_of before (j + 1)) scene
  pub same_below : SameBelow (stand_of before (j + 1 + 1 + 1)) scene
  pub goes : Goes (afar_of elsewhere (between_of t before (j + 1)) (t.gone (j + 1 + 1))) (stand_of before (j + 1)).body.kept [] (t.ghost (j + 1)) (t.ghost (j + 1 + 1)) start (call_did number j before call.node).body scene
  pub still : has_link (j + 1 + 1) before ≡ false → IsStillBelow scene
  pub free : has_link (j + 1 + 1) before ≡ false → (call_did number j before call.node).body.outlet.phase ≡ out.Idle → scene.below.gap ≡ free_gap

abbrev pub trace_between : {number j : ℕ} {t : Trace} {before between : LineState} → FirstStep number j t before between → Trace
trace_between {j = j} {t = t} f = stepped t (j + 1) f.goes.a f.goes.b (t.gone (j + 1 + 1)) f.scene

-- ---- behind the first step

pub has_many : (number j : ℕ) (t : Trace) (before between after : LineState) → BothSteps number j t before between after → length between.machines ≡ length before.machines
has_many number j t before between after b = machines_stay number (j + 1 + 1) inputs.Connect (connecting (j + 1 + 1) before) between b.earlier b.first

-- nothing is at rest less than before
rest_between : (number j : ℕ) (t : Trace) (before between after : LineState) → Stands t before → has_link (j + 1) before ≡ true → BothSteps number j t before between after → (link : ℕ) → has_link link before ≡ false → IsAtRest t between link
rest_between number j t before between after st there b link none =
    let r = st.rest link none in
    stays_at_rest number (j + 1) inputs.Connect t t (connecting (j + 1 + 1) before) between b.earlier b.first (λ is. there) (λ no. absurd (cc)) link none (λ is. is) (λ is. is)
    (record { outlet = r.outlet; intake = r.intake; exit = r.exit; entry = r.entry; up = r.up; down = r.down })

called_of : (number j : ℕ) (t : Trace) (before between after : LineState) → Stands t before → has_link (j + 1) before ≡ true → (b : BothSteps number j t before between after) → (f : FirstStep number j t before between) → floor.Holds between → length between.world.links ≡ length between.machines - 1 → IsCalled j between (call_did number j before f.call.node).body f.scene
called_of number j t before between after st there b f holds together =
    let around = f.call.around in
    let many : length between.machines ≡ length before.machines = has_many number j t before between after b in
    record {
      body = f.call.body;
      place = around.place ∙ ap (λ (bs : List Board). record { boards = bs; unread = [] }) f.boards;
      gap_above = around.gap_above there ∙ f.gap;
      stands_below = either (has_link (j + 1 + 1) before) (λ has. around.stands_below has ∙ ap (λ (b : Below). b.stands) f.below)
          (λ none. ap (λ (l : LinkParts). l.stands) (no_link_at between (j + 1 + 1) together (same_has (j + 1 + 1) before between many ∙ none)) ∙ sym (f.still none).stands);
      gap_below = either (has_link (j + 1 + 1) before) (λ has. around.gap_below has ∙ ap (λ (b : Below). b.gap) f.below)
          (λ none. no_gap_at between (j + 1 + 1) holds (same_has (j + 1 + 1) before between many ∙ none)
          ∙ sym (f.free none (ap (λ (b : Machine). b.outlet.phase) (sym f.call.body) ∙ (rest_between number j t before between after st there b (j + 1 + 1) none).outlet)));
    }

-- the second step: machine j + 1 meets the connection
pub record SecondStep (number j : ℕ) (t : Trace) (before between after : LineState) (f : FirstStep number j t before between) : Type 0 where
  pub body : Machine
  pub is : (node_at after (j + 1)).lane.body ≡ body
  pub scene : Scene
  pub reached : IsReached j between after scene
  pub fit : IsFitMachine after (j + 1)
  pub same_above : SameAbove (stand_of between j) scene
  pub same_below : SameBelow (stand_of between (j + 1 + 1)) scene
  pub elsewhere : ℕ → Bool
  pub goes : Keeps (stand_of between) (between_on (j + 1) f.scene.above.stands (trace_between f) between)
      → Goes (afar_of elsewhere (between_on (j + 1) f.scene.above.stands (trace_between f) between j) ((trace_between f).gone (j + 1))) (stand_of between j).body.kept [] ((trace_between f).ghost j) ((trace_between f).ghost (j + 1))
      (scene_between (stand_of between j) (between_on (j + 1) f.scene.above.stands (trace_between f) between j) (stand_of between (j + 1)) (between_on (j + 1) f.scene.above.stands (trace_between f) between (j + 1)) (stand_of between (j + 1 + 1))) body scene
  pub still : has_link j before ≡ false → IsStillAbove scene
  pub free : (a : Ghost) → has_link j before ≡ false → Pair a (link_above [] body scene) → body.intake.phase ≡ inn.Idle → scene.above.gap ≡ free_gap

-- ---- behind both

gone_twice : (j : ℕ) (t : Trace) (k y : ℕ) → (k ≡ j + 1) ⊎ (k ≢ j + 1) → (k ≡ j + 1 + 1) ⊎ (k ≢ j + 1 + 1) → put (j + 1) (put (j + 1 + 1) (t.gone (j + 1 + 1)) t.gone (j + 1)) (put (j + 1 + 1) (t.gone (j + 1 + 1)) t.gone) k y ≡ t.gone k y
gone_twice j t k y (inl is) next =
    rw is (ap (λ (f : ℕ → Bool). f y) (put_same (j + 1) (put (j + 1 + 1) (t.gone (j + 1 + 1)) t.gone (j + 1)) (put (j + 1 + 1) (t.gone (j + 1 + 1)) t.gone) ∙ put_other (j + 1 + 1) (j + 1) (t.gone (j + 1 + 1)) t.gone (omega arith)))
gone_twice j t k y (inr other) (inl is) =
    rw is (ap (λ (f : ℕ → Bool). f y) (put_other (j + 1) (j + 1 + 1) (put (j + 1 + 1) (t.gone (j + 1 + 1)) t.gone (j + 1)) (put (j + 1 + 1) (t.gone (j + 1 + 1)) t.gone) (omega arith) ∙ put_same (j + 1 + 1) (t.gone (j + 1 + 1)) t.gone))
gone_twice j t k y (inr other) (inr apart) =
    ap (λ (f : ℕ → Bool). f y) (put_other (j + 1) k (put (j + 1 + 1) (t.gone (j + 1 + 1)) t.gone (j + 1)) (put (j + 1 + 1) (t.gone (j + 1 + 1)) t.gone) other ∙ put_other (j + 1 + 1) k (t.gone (j + 1 + 1)) t.gone apart)

gone_once : (j : ℕ) (t : Trace) (k y : ℕ) → (k ≡ j + 1 + 1) ⊎ (k ≢ j + 1 + 1) → put (j + 1 + 1) (t.gone (j + 1 + 1)) t.gone k y ≡ t.gone k y
gone_once j t k y (inl is) = rw is (ap (λ (f : ℕ → Bool). f y) (put_same (j + 1 + 1) (t.gone (j + 1 + 1)) t.gone))
gone_once j t k y (inr apart) = ap (λ (f : ℕ → Bool). f y) (put_other (j + 1 + 1) k (t.gone (j + 1 + 1)) t.gone apart)

-- the link below both, as the first step left it
carried_below : (number j : ℕ) (t : Trace) (before between : LineState) → has_link (j + 1 + 1) before ≡ true → (f : FirstStep number j t before between) → IsCalled j between (call_did number j before f.call.node).body f.scene → Carried (trace_between f) between (j + 1 + 1)
carried_below number j t before between has f called =
    let around = f.call.around in
    let d : Scene = f.scene in
    record {
      up = carries_as called.stands_below (put_second (j + 1) d.above.up d.below.up t.up) (subst (λ (b : Below). Carries b.stands (node_at between (j + 1 + 1)).lane.exit_bytes (link_at (j + 1 + 1) between.world).flows.to_upstream b.up) f.below (around.up_below has));
      down = carries_as called.stands_below (put_second (j + 1) d.above.down d.below.down t.down) (subst (λ (b : Below). Carries b.stands (node_at between (j + 1 + 1 + 1)).lane.entry_bytes (link_at (j + 1 + 1) between.world).flows.to_downstream b.down) f.below (around.down_below has));
    }

-- every other link but the one that is connected carries what it did
carried_between : (number j : ℕ) (t : Trace) (before between : LineState) → Stands t before → ChangesMachine (j + 1 + 1) before between → (f : FirstStep number j t before between) → IsCalled j between (call_did number j before f.call.node).body f.scene
    → (link : ℕ) → link ≢ j + 1 → has_link link before ≡ true → (link ≡ j + 1 + 1) ⊎ (link ≢ j + 1 + 1) → Carried (trace_between f) between link
carried_between number j t before between st changes f called link apart has (inl is) =
    subst (λ (n : ℕ). Carried (trace_between f) between n) (sym is) (carried_below number j t before between (subst (λ (n : ℕ). has_link n before ≡ true) is has) f called)
carried_between number j t before between st changes f called link apart has (inr other) =
    let below : link + 1 ≢ j + 1 + 1 = λ is. apart (omega (arith, is)) in
    carried_same t (trace_between f) before between link (changes.machines link other) (changes.machines (link + 1) below) (changes.links link other below) (stepped_same t (j + 1) link f.goes.a f.goes.b (t.gone (j + 1 + 1)) f.scene apart other) (st.carried link has)

-- what is sound behind a step
sound_between : (number j : ℕ) (t : Trace) (before between after : LineState) → Stands t before → BothSteps number j t before between after → ChangesMachine (j + 1 + 1) before between → (k : ℕ) → IsSound (node_at between k).capacity (node_at between k).lane.body
sound_between number j t before between after st b changes =
    let now : LineState = connecting (j + 1 + 1) before in
    let own : IsSound (node_at between (j + 1 + 1)).capacity (node_at between (j + 1 + 1)).lane.body = sound_at number (j + 1) inputs.Connect now between b.earlier b.first b.may_first (st.sound (j + 1 + 1)) in
    each_machine (λ (n : NodeState). IsSound n.capacity n.lane.body) (j + 1 + 1) before between changes st.sound own

link_real : (number j : ℕ) (t : Trace) (before between after : LineState) (a : Ghost) (f : FirstStep number j t before between) (s : SecondStep number j t before between after f) → has_link (j + 1) between ≡ true → length between.machines ≡ length before.machines → length after.machines ≡ length between.machines
    → floor.Holds after → IsLineTogether after → Pair a (link_above [] s.body s.scene) → (has_link j before ≡ false → IsAtRest t after j) → AreReal j after s.scene
link_real number j t before between after a f s there many later holds together pair rest =
    let was : has_link j between ≡ has_link j before = same_has j before between many in
    let now : has_link j after ≡ has_link j before = same_has j between after later ∙ was in
    record {
      stands_above = either (has_link j before) (λ has. s.reached.stands_above (was ∙ has)) (λ none. ap (λ (l : LinkParts). l.stands) (no_link_at after j together.links (now ∙ none)) ∙ sym (s.still none).stands);
      gap_above = either (has_link j before) (λ has. s.reached.gap_above (was ∙ has)) (λ none. no_gap_at after j holds (now ∙ none) ∙ sym (s.free a none pair (ap (λ (b : Machine). b.intake.phase) (sym s.is) ∙ (rest none).intake)));
      stands_below = s.reached.stands_below there;
      gap_below = s.reached.gap_below there;
    }

-- nothing is on its way where there is no link
silent : (t2 t1 t : Trace) (j link : ℕ) (d1 d2 : Scene) (before : LineState) → (pick : Trace → ℕ → List Horizontal) → has_link link before ≡ false → link ≢ j + 1
    → (link ≡ j → pick t2 link ≡ []) → (link ≢ j → pick t2 link ≡ pick t1 link) → (link ≡ j + 1 + 1 → pick t1 link ≡ []) → (link ≢ j + 1 + 1 → pick t1 link ≡ pick t link) → pick t link ≡ [] → pick t2 link ≡ []
silent t2 t1 t j link d1 d2 before pick none apart at_j other_j at_k other_k was = elim (same_or_not link j) [
  | inl is ↦ at_j is
  | inr other ↦ elim (same_or_not link (j + 1 + 1)) [ inl is ↦ other_j other ∙ at_k is | inr more ↦ other_j other ∙ other_k more ∙ was ]
]

-- A CONNECTION KEEPS THE RELATION
pub joins_bear : (number j : ℕ) (t : Trace) (before between after : LineState) (all : List Happening) → Around t before after all → has_link (j + 1) before ≡ true → length between.world.links ≡ length between.machines - 1
    → (b : BothSteps number j t before between after) → (f : FirstStep number j t before between) → (s : SecondStep number j t before between after f) → Bearing (LayOn before) t after
joins_bear number j t before between after all a there together b f s =
    let st = a.st in
    let now : LineState = connecting (j + 1 + 1) before in
    let t1 : Trace = trace_between f in
    let many : length between.machines ≡ length before.machines = has_many number j t before between after b in
    let later : length after.machines ≡ length between.machines = machines_stay number (j + 1) b.input between after b.later b.second in
    let changes : ChangesMachine (j + 1 + 1) before between = changes_then (j + 1 + 1) before now between (connecting_changes j before) (step_changes number (j + 1 + 1) inputs.Connect now between b.earlier b.first) in
    let changes2 : ChangesMachine (j + 1) between after = step_changes number (j + 1) b.input between after b.later b.second in
    let still : IsStill before now = still_connecting (j + 1 + 1 - 1) (after_connect (link_at (j + 1 + 1 - 1) before.world)) before st.ids in
    let still2 : IsStill now between = step_still number (j + 1 + 1) inputs.Connect now between b.earlier tt still.holds b.first in
    let parted : Parted t before = record { apart = st.keeps.apart; olds = st.olds } in
    let parted1 : Parted t1 between = apart_still t t1 now between still2 (λ k y. gone_once j t k y (same_or_not k (j + 1 + 1))) (apart_still t t before now still (λ k y. refl) parted) in
    let called : IsCalled j between (call_did number j before f.call.node).body f.scene = called_of number j t before between after st there b f still2.holds together in
    let sound1 = sound_between number j t before between after st b changes in
    let offers1 : OffersFront (call_did number j before f.call.node).body = subst (λ (m : Machine). OffersFront m) f.call.body (sound1 (j + 1 + 1)).offers in
    let k1 : Keeps (stand_of between) (between_on (j + 1) f.scene.above.stands t1 between) = call_keeps j t before between f.start f.scene (call_did number j before f.call.node).body st.keeps f.outlet f.intake f.same_above f.same_below f.goes offers1 changes called parted1.apart in
    let g = s.goes k1 in
    let t2 : Trace = stepped t1 j g.a g.b (t1.gone (j + 1)) s.scene in
    let rest1 = rest_between number j t before between after st there b in
    let rest_any : (t3 : Trace) (link : ℕ) → has_link link before ≡ false → (t.up link ≡ [] → t3.up link ≡ []) → (t.down link ≡ [] → t3.down link ≡ []) → IsAtRest t3 after link = λ t3 link none up down.
    stays_at_rest number j b.input t t3 between after b.later b.second b.no_call (λ is. same_has (j + 1) before between many ∙ there) link (same_has link before between many ∙ none) up down (rest1 link none) in
    let real : AreReal j after s.scene = link_real number j t before between after g.a f s (same_has (j + 1) before between many ∙ there) many later a.goes.holds a.together g.good.above_pair (λ none. rest_any t j none (λ is. is) (λ is. is)) in
    let sound2 = each_machine (λ (n : NodeState). IsSound n.capacity n.lane.body) (j + 1) between after changes2 sound1 (sound_at number j b.input between after b.later b.second b.may_second (sound1 (j + 1))) in
    let offers2 : OffersFront s.body = subst (λ (m : Machine). OffersFront m) s.is (sound2 (j + 1)).offers in
    let parted2 : PartedThen (LayOn before) t t2 after = apart_stays t t2 before after all a.goes a.news (λ k y. gone_twice j t k y (same_or_not k (j + 1)) (same_or_not k (j + 1 + 1))) parted in
    let apart_of : (link : ℕ) → has_link link before ≡ false → link ≢ j + 1 = λ link none is. false≢true (sym none ∙ ap (λ (n : ℕ). has_link n before) is ∙ there) in
    let d1 : Scene = f.scene in
    let d2 : Scene = s.scene in (
      t2,
      record {
        keeps = meet_keeps j f.scene.above.stands t1 between after (scene_between (stand_of between j) (between_on (j + 1) f.scene.above.stands t1 between j) (stand_of between (j + 1)) (between_on (j + 1) f.scene.above.stands t1 between (j + 1)) (stand_of between (j + 1 + 1))) s.scene s.body
            k1 refl refl s.same_above s.same_below g offers2 changes2 s.is s.reached.place real parted2.apart;
        carried = λ link has.
            (let had : has_link link between ≡ true = sym (same_has link between after later) ∙ has in
            let had_first : has_link link before ≡ true = sym (same_has link before between many) ∙ had in
            elim (same_or_not link (j + 1)) [
              | inl is ↦ subst (λ (n : ℕ). Carried t2 after n) (sym is) (record {
                up = carries_as real.stands_below (put_second j d2.above.up d2.below.up t1.up) (s.reached.up_below (same_has (j + 1) before between many ∙ there));
                down = carries_as real.stands_below (put_second j d2.above.down d2.below.down t1.down) (s.reached.down_below (same_has (j + 1) before between many ∙ there));
              })
              | inr other ↦ carried_behind j link t1 between after g.a g.b (t1.gone (j + 1)) s.scene changes2 had s.reached real (λ _. carried_between number j t before between st changes f called link other had_first (same_or_not link (j + 1 + 1))) (same_or_not link j) (same_or_not link (j + 1))
            ]);
        rest = λ link none.
            (let none_first : has_link link before ≡ false = sym (same_has link before between many) ∙ sym (same_has link between after later) ∙ none in
            rest_any t2 link none_first
            (silent t2 t1 t j link d1 d2 before (λ x. x.up) none_first (apart_of link none_first)
            (λ is. rw is (put_first j d2.above.up d2.below.up t1.up ∙ (s.still (ap (λ (n : ℕ). has_link n before) (sym is) ∙ none_first)).up)) (λ other. put_neither j link d2.above.up d2.below.up t1.up other (apart_of link none_first))
            (λ is. rw is (put_second (j + 1) d1.above.up d1.below.up t.up ∙ (f.still (ap (λ (n : ℕ). has_link n before) (sym is) ∙ none_first)).up)) (λ other. put_neither (j + 1) link d1.above.up d1.below.up t.up (apart_of link none_first) other))
            (silent t2 t1 t j link d1 d2 before (λ x. x.down) none_first (apart_of link none_first)
            (λ is. rw is (put_first j d2.above.down d2.below.down t1.down ∙ (s.still (ap (λ (n : ℕ). has_link n before) (sym is) ∙ none_first)).down)) (λ other. put_neither j link d2.above.down d2.below.down t1.down other (apart_of link none_first))
            (λ is. rw is (put_second (j + 1) d1.above.down d1.below.down t.down ∙ (f.still (ap (λ (n : ℕ). has_link n before) (sym is) ∙ none_first)).down)) (λ other. put_neither (j + 1) link d1.above.down d1.below.down t.down (apart_of link none_first) other)));
        fit = each_fit (j + 1) between after changes2 (each_fit (j + 1 + 1) before between changes st.fit f.call.fit) s.fit;
        sound = sound2;
        olds = parted2.olds;
        was = parted2.was;
      },
    )
