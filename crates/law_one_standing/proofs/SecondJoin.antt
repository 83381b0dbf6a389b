-- A second connection: the machine above has one already, and answers the new one.
use Rattle.std.proofs.Common.{Bool, List, None, Option, Some, [], ap, arith, false, length, refl, subst, sym, true, ℕ, ◌+◌, ◌-◌, ◌∙◌, ◌∷◌, ◌≡◌}
use Rattle.std.proofs.lemmas.Bool.{false≢true}
use Rattle.line_base.specs.declared.states.Side.{Side}
use Rattle.line_base.specs.declared.states.Side.TheVariants.{Entry, Exit}
use Rattle.board_record.specs.declared.sensed.Sensed.{Sensed}
use Rattle.hermes_horizontal.specs.declared.message.Horizontal.{Horizontal}
use Rattle.line_world.specs.FloorPlan.{free_gap, gap_at}
use Rattle.line_world.specs.declared.gap.AtGap.{AtGap}
use Rattle.node_core.specs.Desk.{Desk}
use Rattle.node_core.specs.Event.{Second}
use Rattle.node_core.specs.May.{may_do, may_of}
use Rattle.node_core.specs.Node.{NodeState, desk_of}
use Rattle.node_core.specs.declared.act.Act.{Act}
use Rattle.node_core.specs.declared.act.Act.TheVariants as acts
use Rattle.node_core.specs.declared.input.Input.TheVariants as inputs
use Rattle.law_custody.specs.Pair.{Pair}
use Rattle.law_machine_custody.specs.Good.{Afar, Goes, Good}
use Rattle.law_machine_custody.specs.Joined.{all_met_second, answered, is_answer, met_second, with_link}
use Rattle.law_machine_custody.specs.Scene.{Above, Scene, all_met, link_above}
use Rattle.law_machine_custody.proofs.Answering.{seconds_go}
use Rattle.law_machine_custody.proofs.Connecting.{connects_go}
use Rattle.line_step.specs.Numbered.{node_at}
use Rattle.line_step.specs.State.{LineState}
use Rattle.line_step.specs.Steps.{moment_of, unread_by}
use Rattle.line_step.specs.World.{link_at}
use Rattle.line_link.specs.Link.{are_joined}
use Rattle.line_step.proofs.FloorLaws as floor
use Rattle.law_one_standing.specs.Carried.{Trace, between_of, stand_of}
use Rattle.law_one_standing.specs.Mirrors.{cut_above, cut_below, scene_at}
use Rattle.law_one_standing.specs.Stands.{Stands}
use Rattle.law_one_standing.proofs.Behind.{cut_both, put_first, put_neither, same_cut_below, same_has}
use Rattle.law_one_standing.proofs.Elsewhere.{afar_at, elsewhere_of, good_at}
use Rattle.law_one_standing.proofs.Ends.{no_gap_at, still_at_below}
use Rattle.law_one_standing.proofs.FirstJoin.{MetIn, entry_closed, intake_may, met_in, met_still, scene_same_above, scene_same_below}
use Rattle.law_one_standing.proofs.HandSteps.{good_node}
use Rattle.law_one_standing.proofs.Joints.{between_on}
use Rattle.law_one_standing.proofs.LineJoins.{FirstStep, SecondStep, trace_between}
use Rattle.law_one_standing.proofs.MirroringCall.{call_did, call_scene}
use Rattle.law_one_standing.proofs.MirroringConnects.{MirrorsSecond, forget_down}
use Rattle.law_one_standing.proofs.MirroringMeet.{called_scene, meet_did, meet_scene}
use Rattle.law_one_standing.proofs.RestLine.{node_there}
use Rattle.law_one_standing.proofs.RestScene.{second_above, gap_above_rests, gap_below_rests, scene_behind, still_above, still_below}
use Rattle.law_one_standing.proofs.Steps.{SameAbove}
use Rattle.law_one_standing.proofs.Traces.{put_same}

-- ---- the first step

-- where one end alone has a connection the link doesn't stand
pub not_joined : (stands : Bool) (above : ℕ) (upstream downstream : Option ℕ) → upstream ≡ Some above → downstream ≡ None → are_joined stands upstream downstream ≡ true → stands ≡ false
not_joined false above upstream downstream up down joined = refl
not_joined true above upstream downstream up down joined = absurd (false≢true (sym (ap (λ (o : Option ℕ). are_joined true o downstream) up ∙ ap (λ (o : Option ℕ). are_joined true (Some above) o) down) ∙ joined))

-- the relation in the scene in which the machine below calls
good_calling : (j other : ℕ) (t : Trace) (before : LineState) (node : NodeState) → Stands t before → node_at before (j + 1 + 1) ≡ node → may_of node inputs.Connect ≡ may_do → (link_at (j + 1) before.world).stands ≡ false
    → Good (afar_at (stand_of before) (between_of t before) (j + 1)) (stand_of before (j + 1)).body.kept (unread_by (j + 1 + 1) before.world) (t.ghost (j + 1)) (t.ghost (j + 1 + 1)) node.lane.body (call_scene false (t.up (j + 1)) t before j)
good_calling j other t before node st is may off =
    let g = forget_down node.lane.body (scene_at t before (j + 1)) (good_node (j + 1) t before node st is) (entry_closed node may) in
    subst (λ (on : Bool). Good (afar_at (stand_of before) (between_of t before) (j + 1)) (stand_of before (j + 1)).body.kept (unread_by (j + 1 + 1) before.world) (t.ghost (j + 1)) (t.ghost (j + 1 + 1)) node.lane.body (call_scene on (t.up (j + 1)) t before j)) off g

pub second_first : (number j : ℕ) (t : Trace) (before after : LineState) → Stands t before → (m : MirrorsSecond number j t before after) → may_of m.call.node inputs.Connect ≡ may_do → (link_at (j + 1) before.world).stands ≡ false → FirstStep number j t before m.between
second_first number j t before after st m may off =
    let call = m.call in
    let node : NodeState = call.node in
    let ca : Bool = call.cuts_above in
    let cb : Bool = call.cuts_below in
    let told : List Act = (call_did number j before node).acts in
    let c : Scene = call_scene false (t.up (j + 1)) t before j in
    let good = good_calling j 0 t before node st (node_there (j + 1 + 1) before node call.there) may off in
    let goes = cut_both ca cb (connects_go (desk_of node (moment_of number)) (unread_by (j + 1 + 1) before.world) node.lane.body c good (entry_closed node may) (intake_may node may) refl) in
    record {
      on = false;
      up = t.up (j + 1);
      far = (node_at before (j + 1)).lane.exit_bytes;
      call = call;
      scene = scene_behind ca cb told c;
      boards = refl;
      gap = refl;
      below = refl;
      elsewhere = elsewhere_of (stand_of before (j + 1 + 1)).place.boards;
      start = c;
      outlet = refl;
      intake = refl;
      same_above = scene_same_above ca cb told c (stand_of before (j + 1)) refl refl refl refl;
      same_below = scene_same_below ca cb told c (stand_of before (j + 1 + 1 + 1)) refl refl refl;
      goes = goes;
      still = λ none. (let s = still_at_below t before (j + 1) st none in still_below ca cb told c (record { stands = s.stands; up = s.up; down = s.down }));
      free = λ none idle. gap_below_rests ca cb told goes.b [] (call_did number j before node).body c goes.good.below_pair idle (ap (λ (g : AtGap). g.exit_drive) (no_gap_at before (j + 1 + 1) st.ids none)) ∙ no_gap_at before (j + 1 + 1) st.ids none;
    }

-- ---- the second step

-- what the acts of the answering machine leave of the machine below
record SameThere (c d : Scene) : Type 0 where
  entry : d.below.entry ≡ c.below.entry
  intake : d.below.intake ≡ c.below.intake
  far : d.below.far ≡ c.below.far

there_then : (c d e : Scene) → SameThere c d → SameThere d e → SameThere c e
there_then c d e a b = record { entry = b.entry ∙ a.entry; intake = b.intake ∙ a.intake; far = b.far ∙ a.far }

said_there : (side : Side) (what : Horizontal) (answers : Bool) (c : Scene) → SameThere c (answered answers what c)
said_there side what true c = record { entry = refl; intake = refl; far = refl }
said_there side what false c = record { entry = refl; intake = refl; far = refl }

second_there : (act : Act) (c : Scene) → SameThere c (met_second act c)
second_there (acts.Sends Exit message) c = said_there Exit message.body (is_answer message.body) c
second_there (acts.Hears Entry message) c = record { entry = refl; intake = refl; far = refl }
second_there (acts.Closes Entry) c = record { entry = refl; intake = refl; far = refl }
second_there (acts.Notices Entry) c = record { entry = refl; intake = refl; far = refl }
second_there (acts.Drive Entry on) c = record { entry = refl; intake = refl; far = refl }
second_there _ c = record { entry = refl; intake = refl; far = refl }

all_there : (told : List Act) (c : Scene) → SameThere c (all_met_second told c)
all_there [] c = record { entry = refl; intake = refl; far = refl }
all_there (act ∷ told) c = there_then c (met_second act c) (all_met_second told (met_second act c)) (second_there act c) (all_there told (met_second act c))

cut_aboves : (ca cb : Bool) (d e : Scene) → d.above ≡ e.above → (cut_below cb (cut_above ca d)).above ≡ (cut_below cb (cut_above ca e)).above
cut_aboves true true d e is = ap (λ (a : Above). record a { stands = false; up = []; down = [] }) is
cut_aboves true false d e is = ap (λ (a : Above). record a { stands = false; up = []; down = [] }) is
cut_aboves false true d e is = is
cut_aboves false false d e is = is

-- what is on the link that was called is what the trace has there
met_is : (j : ℕ) (on : Bool) (t1 : Trace) (between : LineState) (up down : List Horizontal) → t1.up (j + 1) ≡ up → t1.down (j + 1) ≡ down → with_link Exit on up down (MetIn j on t1 between) ≡ MetIn j on t1 between
met_is j on t1 between up down ups downs = rw (ups, downs, put_same (j + 1) on (λ (n : ℕ). (link_at n between.world).stands)) refl

pub second_second : (number j : ℕ) (t : Trace) (before after : LineState) → (st : Stands t before) → (m : MirrorsSecond number j t before after) → (may : may_of m.call.node inputs.Connect ≡ may_do) → (off : (link_at (j + 1) before.world).stands ≡ false)
    → length m.between.world.links ≡ length m.between.machines - 1 → floor.Holds m.between → length m.between.machines ≡ length before.machines → SecondStep number j t before m.between after (second_first number j t before after st m may off)
unfolding second_first
second_second number j t before after st m may off together holds many =
    let f = second_first number j t before after st m may off in
    let between : LineState = m.between in
    let t1 : Trace = trace_between f in
    let call = m.call in
    let meet = m.meet in
    let desk : Desk = desk_of meet.node (moment_of number) in
    let unread : List Sensed = unread_by (j + 1) between.world in
    let done = meet_did number j between Second meet.node in
    let called : Scene = called_scene call in
    let e : Scene = meet_scene called.above.stands called.above.up called.above.down t between j in
    let on : Bool = f.scene.above.stands in
    let ca : Bool = meet.cuts_above in
    let cb : Bool = meet.cuts_below in
    let d : Scene = cut_below cb (cut_above ca (all_met_second done.acts e)) in
    let plain : Scene = scene_behind ca cb done.acts e in
    let aboves : d.above ≡ plain.above = cut_aboves ca cb (all_met_second done.acts e) (all_met done.acts e) (second_above done.acts e) in
    let there = all_there done.acts e in
    let ups : t1.up j ≡ t.up j = put_neither (j + 1) j f.scene.above.up f.scene.below.up t.up (omega arith) (omega arith) in
    let downs : t1.down j ≡ t.down j = put_neither (j + 1) j f.scene.above.down f.scene.below.down t.down (omega arith) (omega arith) in
    let up : t1.up (j + 1) ≡ f.scene.above.up = put_first (j + 1) f.scene.above.up f.scene.below.up t.up in
    let down : t1.down (j + 1) ≡ f.scene.above.down = put_first (j + 1) f.scene.above.down f.scene.below.down t.down in
    let is : node_at between (j + 1) ≡ meet.node = node_there (j + 1) between meet.node meet.there in
    let same : e ≡ MetIn j on t1 between = met_in j on t t1 between called.above.stands called.above.up called.above.down ups downs ∙ met_is j on t1 between f.scene.above.up f.scene.above.down up down in
    let plain_above : SameAbove (stand_of between j) plain = scene_same_above ca cb done.acts e (stand_of between j) refl refl refl refl in
    record {
      body = done.body;
      is = meet.body;
      scene = d;
      reached = meet.reached;
      fit = meet.fit;
      same_above = record { exit = ap (λ (a : Above). a.exit) aboves ∙ plain_above.exit; outlet = ap (λ (a : Above). a.outlet) aboves ∙ plain_above.outlet; last = ap (λ (a : Above). a.last_offer) aboves ∙ plain_above.last; far = ap (λ (a : Above). a.far) aboves ∙ plain_above.far };
      same_below = same_cut_below ca cb (record { entry = there.entry; intake = there.intake; far = there.far });
      elsewhere = elsewhere_of (stand_of between (j + 1)).place.boards;
      goes = λ k.
          (let afar : Afar = afar_at (stand_of between) (between_on (j + 1) on t1 between) j in
          let good : Good afar (stand_of between j).body.kept unread (t1.ghost j) (t1.ghost (j + 1)) meet.node.lane.body (MetIn j on t1 between) =
          subst (λ (n : NodeState). Good afar (stand_of between j).body.kept unread (t1.ghost j) (t1.ghost (j + 1)) n.lane.body (MetIn j on t1 between)) is (good_at (stand_of between) (between_on (j + 1) on t1 between) j k) in
          cut_both ca cb (subst (λ (x : Scene). Goes afar (stand_of between j).body.kept [] (t1.ghost j) (t1.ghost (j + 1)) (MetIn j on t1 between) done.body (all_met_second done.acts x)) (sym same) (seconds_go desk unread meet.node.lane.body (MetIn j on t1 between) good)));
      still = λ none.
          (let s = still_above ca cb done.acts e (met_still j t before between called.above.stands called.above.up called.above.down st together none (same_has j before between many ∙ none)) in
          record { stands = ap (λ (a : Above). a.stands) aboves ∙ s.stands; up = ap (λ (a : Above). a.up) aboves ∙ s.up; down = ap (λ (a : Above). a.down) aboves ∙ s.down });
      free = λ a none pair idle.
          (let gap : gap_at between.world.floor j ≡ free_gap = no_gap_at between j holds (same_has j before between many ∙ none) in
          let moved : Pair a (link_above [] done.body (record d { above = plain.above })) = subst (λ (x : Above). Pair a (link_above [] done.body (record d { above = x }))) aboves pair in
          let pair2 : Pair a (link_above [] done.body plain) = record { out = moved.out; «in» = moved.in; gap = moved.gap; talk = moved.talk } in
          ap (λ (x : Above). x.gap) aboves ∙ gap_above_rests ca cb done.acts a [] done.body e pair2 idle (ap (λ (g : AtGap). g.entry_drive) gap) ∙ gap);
    }
