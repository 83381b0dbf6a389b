-- A first connection: the link below has none above yet.
use Rattle.std.proofs.Common.{Bool, List, [], ap, arith, false, length, not, Result, refl, subst, sym, true, ℕ, ◌+◌, ◌-◌, ◌∙◌, ◌∷◌, ◌≡◌}
use Rattle.node_core.proofs.Opened.{is_off}
use Rattle.line_base.specs.declared.states.Side.TheVariants.{Entry, Exit}
use Rattle.board_record.specs.declared.record.Record.{Record}
use Rattle.board_record.specs.declared.sensed.Sensed.{Sensed}
use Rattle.hermes_horizontal.specs.declared.message.Horizontal.{Horizontal}
use Rattle.hermes_horizontal.specs.declared.message.Horizontal.TheVariants as message
use Rattle.session_core.specs.declared.state.SessionState.TheVariants.{Handshake, NotConnected}
use Rattle.line_world.specs.FloorPlan.{free_gap, gap_at}
use Rattle.line_world.specs.declared.gap.AtGap.{AtGap}
use Rattle.handover_in.specs.State as in_state
use Rattle.node_core.specs.Desk.{Desk}
use Rattle.node_core.specs.Event.{Accepted}
use Rattle.node_core.specs.May.{may_do, may_of, no_if}
use Rattle.node_core.specs.declared.input.No.{No}
use Rattle.node_core.specs.Node.{NodeState, desk_of}
use Rattle.node_core.specs.Sides.{is_open}
use Rattle.node_core.specs.declared.act.Act.{Act}
use Rattle.node_core.specs.declared.input.Input.TheVariants as inputs
use Rattle.node_core.specs.declared.lane.Body.{Body as Machine}
use Rattle.law_custody.specs.Pair.{Ghost}
use Rattle.law_machine_custody.specs.Good.{Afar, Goes, Good}
use Rattle.law_machine_custody.specs.Joined.{described_by, with_link}
use Rattle.law_machine_custody.specs.Scene.{Scene, all_met}
use Rattle.law_machine_custody.proofs.Cutting.{all_met_cut, cut_at, cut_goes}
use Rattle.law_machine_custody.proofs.Far.{all_entry_below, all_exit_above, all_far_above, all_far_below, all_intake, all_last, all_outlet}
use Rattle.law_machine_custody.proofs.Joining.{Calls, first_accepts, first_calls}
use Rattle.line_step.specs.Numbered.{node_at}
use Rattle.line_step.specs.Reasons.{has_link}
use Rattle.line_step.specs.State.{LineState}
use Rattle.line_step.specs.Steps.{moment_of, unread_by}
use Rattle.line_step.specs.World.{link_at}
use Rattle.line_link.specs.Link.{LinkParts}
use Rattle.line_step.proofs.FloorLaws as floor
use Rattle.law_one_standing.specs.Carried.{Trace, between_of, stand_of}
use Rattle.law_one_standing.specs.Mirrors.{cut_above, cut_below, scene_at}
use Rattle.law_one_standing.specs.Relation.{Stand, scene_between}
use Rattle.law_one_standing.specs.Stands.{Stands}
use Rattle.law_one_standing.proofs.Behind.{cut_both, put_neither, same_cut, same_cut_below, same_has}
use Rattle.law_one_standing.proofs.Elsewhere.{afar_at, elsewhere_of, good_at}
use Rattle.law_one_standing.proofs.Ends.{no_gap_at, no_link_at, still_at_below}
use Rattle.law_one_standing.proofs.HandSteps.{good_node}
use Rattle.law_one_standing.proofs.Joints.{between_on}
use Rattle.law_one_standing.proofs.LineJoins.{FirstStep, SecondStep, trace_between}
use Rattle.law_one_standing.proofs.MirroringCall.{call_did}
use Rattle.law_one_standing.proofs.MirroringConnects.{MirrorsFirst}
use Rattle.law_one_standing.proofs.MirroringMeet.{called_scene, meet_did, meet_scene}
use Rattle.law_one_standing.proofs.RestLine.{node_there}
use Rattle.law_one_standing.proofs.RestScene.{IsStillAbove, gap_above_rests, gap_below_rests, scene_behind, still_above, still_below}
use Rattle.law_one_standing.proofs.Steps.{SameAbove, SameBelow}
use Rattle.law_one_standing.proofs.Traces.{put_other}

-- ---- what may connect

pub entry_closed : (node : NodeState) → may_of node inputs.Connect ≡ may_do → node.lane.body.entry.session.state ≡ NotConnected
entry_closed node may = is_off node.lane.body.entry.session.state (passes_closed (is_open Entry node.lane.body) _ _ may)
  where
    passes_closed : (open_now : Bool) (why : No) (next : Result (Unit {0}) No) → no_if open_now why next ≡ may_do → open_now ≡ false
    passes_closed false why next is = refl
    passes_closed true why next is = cc

pub intake_may : (node : NodeState) → may_of node inputs.Connect ≡ may_do → in_state.may_connect node.lane.body.intake.phase ≡ true
intake_may node may = both (is_open Entry node.lane.body) (in_state.may_connect node.lane.body.intake.phase) _ _ may
  where
    both : (one two : Bool) (why other : No) → no_if one why (no_if (not two) other may_do) ≡ may_do → two ≡ true
    both false true why other is = refl
    both false false why other is = cc
    both true two why other is = cc

pub exit_closed : (node : NodeState) → may_of node inputs.Accepted ≡ may_do → node.lane.body.exit.session.state ≡ NotConnected
exit_closed node may = is_off node.lane.body.exit.session.state (closed (is_open Exit node.lane.body) _ may)
  where
    closed : (open_now : Bool) (why : No) → no_if open_now why may_do ≡ may_do → open_now ≡ false
    closed false why is = refl
    closed true why is = cc

-- ---- what acts leave of the machines beside

pub scene_same_above : (ca cb : Bool) (told : List Act) (c : Scene) (above : Stand) → c.above.exit ≡ above.body.exit.session.state → c.above.outlet ≡ above.body.outlet → c.above.last_offer ≡ above.body.last_offer → c.above.far ≡ above.place → SameAbove above (scene_behind ca cb told c)
scene_same_above ca cb told c above exit outlet last far = same_cut ca cb (record { exit = all_exit_above told c ∙ exit; outlet = all_outlet told c ∙ outlet; last = all_last told c ∙ last; far = all_far_above told c ∙ far })

pub scene_same_below : (ca cb : Bool) (told : List Act) (c : Scene) (below : Stand) → c.below.entry ≡ below.body.entry.session.state → c.below.intake ≡ below.body.intake → c.below.far ≡ below.place → SameBelow below (scene_behind ca cb told c)
scene_same_below ca cb told c below entry intake far = same_cut_below ca cb (record { entry = all_entry_below told c ∙ entry; intake = all_intake told c ∙ intake; far = all_far_below told c ∙ far })

-- ---- the first step

real_boards : (ca cb on : Bool) (up down : List Horizontal) (d : Scene) → (cut_below cb (cut_above ca (with_link Entry on up down d))).boards ≡ (cut_below cb (cut_above ca d)).boards
real_boards true true on up down d = refl
real_boards true false on up down d = refl
real_boards false true on up down d = refl
real_boards false false on up down d = refl

real_gap : (ca cb on : Bool) (up down : List Horizontal) (d : Scene) → (cut_below cb (cut_above ca (with_link Entry on up down d))).above.gap ≡ (cut_below cb (cut_above ca d)).above.gap
real_gap true true on up down d = refl
real_gap true false on up down d = refl
real_gap false true on up down d = refl
real_gap false false on up down d = refl

real_below : (ca cb on : Bool) (up down : List Horizontal) (d : Scene) → (cut_below cb (cut_above ca (with_link Entry on up down d))).below ≡ (cut_below cb (cut_above ca d)).below
real_below true true on up down d = refl
real_below true false on up down d = refl
real_below false true on up down d = refl
real_below false false on up down d = refl

calls_of : (number j : ℕ) (t : Trace) (before : LineState) (node : NodeState) → Stands t before → node_at before (j + 1 + 1) ≡ node → may_of node inputs.Connect ≡ may_do
    → Calls (afar_at (stand_of before) (between_of t before) (j + 1)) (stand_of before (j + 1)).body.kept (t.ghost (j + 1)) (t.ghost (j + 1 + 1)) (desk_of node (moment_of number)) (unread_by (j + 1 + 1) before.world) node.lane.body (scene_at t before (j + 1))
calls_of number j t before node st is may = first_calls (desk_of node (moment_of number)) (unread_by (j + 1 + 1) before.world) node.lane.body (scene_at t before (j + 1)) (good_node (j + 1) t before node st is) (entry_closed node may) (intake_may node may)

pub first_first : (number j : ℕ) (t : Trace) (before after : LineState) → Stands t before → (m : MirrorsFirst number j t before after) → may_of m.call.node inputs.Connect ≡ may_do → FirstStep number j t before m.between
first_first number j t before after st m may =
    let call = m.call in
    let node : NodeState = call.node in
    let ca : Bool = call.cuts_above in
    let cb : Bool = call.cuts_below in
    let told : List Act = (call_did number j before node).acts in
    let c : Scene = scene_at t before (j + 1) in
    let calls = calls_of number j t before node st (node_there (j + 1 + 1) before node call.there) may in
    let d0 : Scene = all_met told (cut_at Entry c) in
    let up : List Horizontal = message.ServiceDescription (described_by (desk_of node (moment_of number))) ∷ [] in
    let goes = cut_both ca cb calls.goes in
    let real : called_scene call ≡ cut_below cb (cut_above ca (with_link Entry true up [] d0)) = ap (λ (d : Scene). cut_below cb (cut_above ca d)) calls.real in
    record {
      on = true;
      up = [];
      far = [];
      call = call;
      scene = scene_behind ca cb told (cut_at Entry c);
      boards = ap (λ (d : Scene). d.boards) real ∙ real_boards ca cb true up [] d0;
      gap = ap (λ (d : Scene). d.above.gap) real ∙ real_gap ca cb true up [] d0;
      below = ap (λ (d : Scene). d.below) real ∙ real_below ca cb true up [] d0;
      elsewhere = elsewhere_of (stand_of before (j + 1 + 1)).place.boards;
      start = cut_at Entry c;
      outlet = refl;
      intake = refl;
      same_above = scene_same_above ca cb told (cut_at Entry c) (stand_of before (j + 1)) refl refl refl refl;
      same_below = scene_same_below ca cb told (cut_at Entry c) (stand_of before (j + 1 + 1 + 1)) refl refl refl;
      goes = goes;
      still = λ none. (let s = still_at_below t before (j + 1) st none in still_below ca cb told (cut_at Entry c) (record { stands = s.stands; up = s.up; down = s.down }));
      free = λ none idle. gap_below_rests ca cb told goes.b [] (call_did number j before node).body (cut_at Entry c) goes.good.below_pair idle (ap (λ (g : AtGap). g.exit_drive) (no_gap_at before (j + 1 + 1) st.ids none)) ∙ no_gap_at before (j + 1 + 1) st.ids none;
    }

-- ---- the second step

-- the scene of the machine above, by the relation and by the trace: the same, but for the link that is connected
pub met_in : (j : ℕ) (on : Bool) (t t1 : Trace) (between : LineState) (on2 : Bool) (up down : List Horizontal) → t1.up j ≡ t.up j → t1.down j ≡ t.down j
    → meet_scene on2 up down t between j ≡ with_link Exit on2 up down (scene_between (stand_of between j) (between_on (j + 1) on t1 between j) (stand_of between (j + 1)) (between_on (j + 1) on t1 between (j + 1)) (stand_of between (j + 1 + 1)))
met_in j on t t1 between on2 up down ups downs = rw (ups, downs, put_other (j + 1) j on (λ (n : ℕ). (link_at n between.world).stands) (omega arith)) refl

abbrev pub MetIn : ℕ → Bool → Trace → LineState → Scene
MetIn j on t1 between = scene_between (stand_of between j) (between_on (j + 1) on t1 between j) (stand_of between (j + 1)) (between_on (j + 1) on t1 between (j + 1)) (stand_of between (j + 1 + 1))

-- whether the link was cut in the first step or not
accepted_goes : {afar : Afar} {above : List Record} {ga gb : Ghost} {c : Scene} {body : Machine} (ca cb : Bool) (up : List Horizontal) (d0 : Scene) (told : List Act) (e : Scene)
    → Goes afar above [] ga gb c body (all_met told (with_link Exit true up [] e))
    → Goes afar above [] ga gb c body (all_met told (with_link Exit (cut_below cb (cut_above ca (with_link Entry true up [] d0))).above.stands (cut_below cb (cut_above ca (with_link Entry true up [] d0))).above.up (cut_below cb (cut_above ca (with_link Entry true up [] d0))).above.down e))
accepted_goes {afar = afar} {above = above} {ga = ga} {gb = gb} {c = c} {body = body} true true up d0 told e g = subst (λ (d : Scene). Goes afar above [] ga gb c body d) (sym (all_met_cut Exit told (with_link Exit true up [] e))) (cut_goes Exit g)
accepted_goes {afar = afar} {above = above} {ga = ga} {gb = gb} {c = c} {body = body} true false up d0 told e g = subst (λ (d : Scene). Goes afar above [] ga gb c body d) (sym (all_met_cut Exit told (with_link Exit true up [] e))) (cut_goes Exit g)
accepted_goes false true up d0 told e g = g
accepted_goes false false up d0 told e g = g

-- nothing is on its way above, where the machine has no link there
pub met_still : (j : ℕ) (t : Trace) (before between : LineState) (on : Bool) (up down : List Horizontal) → Stands t before → length between.world.links ≡ length between.machines - 1 → has_link j before ≡ false → has_link j between ≡ false → IsStillAbove (meet_scene on up down t between j)
met_still j t before between on up down st together none now = record { stands = ap (λ (l : LinkParts). l.stands) (no_link_at between j together now); up = (st.rest j none).up; down = (st.rest j none).down }

pub first_second : (number j : ℕ) (t : Trace) (before after : LineState) → (st : Stands t before) → (m : MirrorsFirst number j t before after) → (may : may_of m.call.node inputs.Connect ≡ may_do) → may_of m.meet.node inputs.Accepted ≡ may_do
    → length m.between.world.links ≡ length m.between.machines - 1 → floor.Holds m.between → length m.between.machines ≡ length before.machines → SecondStep number j t before m.between after (first_first number j t before after st m may)
first_second number j t before after st m may may_meet together holds many =
    let f = first_first number j t before after st m may in
    let between : LineState = m.between in
    let t1 : Trace = trace_between f in
    let call = m.call in
    let node : NodeState = call.node in
    let meet = m.meet in
    let desk : Desk = desk_of meet.node (moment_of number) in
    let unread : List Sensed = unread_by (j + 1) between.world in
    let done = meet_did number j between Accepted meet.node in
    let called : Scene = called_scene call in
    let e : Scene = meet_scene called.above.stands called.above.up called.above.down t between j in
    let on : Bool = f.scene.above.stands in
    let calls = calls_of number j t before node st (node_there (j + 1 + 1) before node call.there) may in
    let up : List Horizontal = message.ServiceDescription (described_by (desk_of node (moment_of number))) ∷ [] in
    let d0 : Scene = all_met (call_did number j before node).acts (cut_at Entry (scene_at t before (j + 1))) in
    let real : called ≡ cut_below call.cuts_below (cut_above call.cuts_above (with_link Entry true up [] d0)) = ap (λ (d : Scene). cut_below call.cuts_below (cut_above call.cuts_above d)) calls.real in
    let ups : t1.up j ≡ t.up j = put_neither (j + 1) j f.scene.above.up f.scene.below.up t.up (omega arith) (omega arith) in
    let downs : t1.down j ≡ t.down j = put_neither (j + 1) j f.scene.above.down f.scene.below.down t.down (omega arith) (omega arith) in
    let is : node_at between (j + 1) ≡ meet.node = node_there (j + 1) between meet.node meet.there in
    let same : e ≡ with_link Exit called.above.stands called.above.up called.above.down (MetIn j on t1 between) = met_in j on t t1 between called.above.stands called.above.up called.above.down ups downs in
    record {
      body = done.body;
      is = meet.body;
      scene = scene_behind meet.cuts_above meet.cuts_below done.acts e;
      reached = meet.reached;
      fit = meet.fit;
      same_above = scene_same_above meet.cuts_above meet.cuts_below done.acts e (stand_of between j) refl refl refl refl;
      same_below = scene_same_below meet.cuts_above meet.cuts_below done.acts e (stand_of between (j + 1 + 1)) refl refl refl;
      elsewhere = elsewhere_of (stand_of between (j + 1)).place.boards;
      goes = λ k.
          (let afar : Afar = afar_at (stand_of between) (between_on (j + 1) on t1 between) j in
          let good : Good afar (stand_of between j).body.kept unread (t1.ghost j) (t1.ghost (j + 1)) meet.node.lane.body (MetIn j on t1 between) =
          subst (λ (n : NodeState). Good afar (stand_of between j).body.kept unread (t1.ghost j) (t1.ghost (j + 1)) n.lane.body (MetIn j on t1 between)) is (good_at (stand_of between) (between_on (j + 1) on t1 between) j k) in
          let shakes : (MetIn j on t1 between).below.entry ≡ Handshake = ap (λ (b : Machine). b.entry.session.state) call.body ∙ calls.shakes in
          let g = first_accepts desk unread meet.node.lane.body (MetIn j on t1 between) (described_by (desk_of node (moment_of number))) good (exit_closed meet.node may_meet) shakes in
          let P : Scene → Type 0 = λ d. Goes afar (stand_of between j).body.kept [] (t1.ghost j) (t1.ghost (j + 1)) (MetIn j on t1 between) done.body d in
          cut_both meet.cuts_above meet.cuts_below
          (subst (λ (x : Scene). P (all_met done.acts x)) (sym same)
          (subst (λ (x : Scene). P (all_met done.acts (with_link Exit x.above.stands x.above.up x.above.down (MetIn j on t1 between)))) (sym real)
          (accepted_goes call.cuts_above call.cuts_below up d0 done.acts (MetIn j on t1 between) g))));
      still = λ none. still_above meet.cuts_above meet.cuts_below done.acts e (met_still j t before between called.above.stands called.above.up called.above.down st together none (same_has j before between many ∙ none));
      free = λ a none pair idle.
          (let gap : gap_at between.world.floor j ≡ free_gap = no_gap_at between j holds (same_has j before between many ∙ none) in
          gap_above_rests meet.cuts_above meet.cuts_below done.acts a [] done.body e pair idle (ap (λ (g : AtGap). g.entry_drive) gap) ∙ gap);
    }
