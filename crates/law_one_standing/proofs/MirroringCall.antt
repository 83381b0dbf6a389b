-- THE FIRST STEP OF A CONNECTION: a machine connects to the one above it, as a step in its scene.
use Rattle.std.proofs.Common.{Bool, List, None, Option, Some, [], ap, arith, false, length, refl, subst, sym, true, ℕ, ◌+◌, ◌-◌, ◌∙◌, ◌∷◌, ◌≡◌, ◌≢◌, ◌≤◌}
use Rattle.std.specs.Prelude.{drop, is_some}
use Rattle.law_one_standing.proofs.RestLine.{node_there}
use Rattle.line_step.proofs.Joining.{made_down}
use Rattle.node_core.proofs.Opened.{is_off}
use Rattle.line_base.specs.declared.states.Role.TheVariants.{Downstream}
use Rattle.line_base.specs.declared.states.Side.TheVariants.{Entry, Exit}
use Rattle.board_record.specs.declared.sensed.Sensed.{Sensed}
use Rattle.hermes_horizontal.specs.declared.message.Horizontal.{Horizontal}
use Rattle.session_core.specs.declared.state.SessionState.TheVariants.{NotConnected}
use Rattle.line_link.specs.Flow.{Stream, coming}
use Rattle.line_link.specs.Link.{AreBegun, LinkParts, after_connect, connected, is_dry_without, next_number}
use Rattle.line_link.specs.Texts.{bytes_of}
use Rattle.line_report.specs.declared.happening.Happening.{Happening}
use Rattle.line_world.specs.FloorPlan.{gap_at}
use Rattle.node_core.specs.Desk.{Desk}
use Rattle.node_core.specs.Done.{Done}
use Rattle.node_core.specs.Event.{Connect, event_did}
use Rattle.node_core.specs.Node.{NodeState, desk_of}
use Rattle.node_core.specs.Sides.{is_open}
use Rattle.node_core.specs.Step.{machine_step}
use Rattle.node_core.specs.declared.input.Input.TheVariants as inputs
use Rattle.node_core.specs.declared.lane.Body.{Body}
use Rattle.law_custody.specs.Bytes.{Flows}
use Rattle.law_custody.proofs.Texts.{nothing_flows}
use Rattle.law_link_messages.specs.Fit.{none_fit}
use Rattle.law_machine_custody.specs.ByHand.{body_read}
use Rattle.law_machine_custody.specs.Joined.{with_link}
use Rattle.law_machine_custody.specs.Scene.{Scene, all_met}
use Rattle.law_machine_custody.proofs.Connecting.{connect_did, read_entry}
use Rattle.line_step.specs.Lines.{connecting}
use Rattle.line_step.specs.Numbered.{node_at}
use Rattle.step_rules.specs.Opened.{open_after}
use Rattle.line_step.specs.Reasons.{has_link, may_connect, may_do}
use Rattle.line_step.specs.State.{LineState, machine_in}
use Rattle.line_step.specs.Steps.{MachineSteps, moment_of, read_by, unread_by}
use Rattle.line_step.specs.Together.{is_linked}
use Rattle.line_step.specs.World.{WorldParts, link_at, with_link as link_set_to}
use Rattle.line_step.proofs.Connecting.{CanConnect, can_connect, free_below}
use Rattle.line_step.proofs.Ends.{own_end}
use Rattle.line_step.proofs.Numbers.{floor_stays, link_set_other, link_set_own, machine_within}
use Rattle.step_rules.proofs.Opening.{steps_open}
use Rattle.step_rules.proofs.Quiet.{announces_leave}
use Rattle.law_one_standing.specs.Carried.{Carries, IsFitMachine, Trace, carries_whole}
use Rattle.law_one_standing.specs.Links.{AreWholeLinks, IsWholeLink}
use Rattle.law_one_standing.specs.Mirrors.{cut_above, cut_below, scene_at}
use Rattle.law_one_standing.specs.Stands.{Stands}
use Rattle.law_one_standing.proofs.Carrying.{SaysAlone, carries_off}
use Rattle.law_one_standing.proofs.CarryingSides.{Joint, drop_none}
use Rattle.law_one_standing.proofs.Mirroring.{along_plain, beside, links_of, mirrored, next_there, same_some}
use Rattle.law_one_standing.proofs.MirroringEnds.{IsAround, around_same, before_one}
use Rattle.law_one_standing.proofs.MirroringFlow.{link_there}
use Rattle.law_one_standing.proofs.MirroringPlain.{above_quiet, below_quiet, quiet_side}
use Rattle.law_one_standing.proofs.Signalled.{signals_passed}

-- ---- what is there behind it

-- the scene in which machine j + 1 + 1 connects: its link stands or not, with what is on it up; what lay on it down is no more
abbrev pub call_scene : Bool → List Horizontal → Trace → LineState → ℕ → Scene
call_scene stands up t before j = with_link Entry stands up [] (scene_at t before (j + 1))

abbrev pub call_did : ℕ → ℕ → LineState → NodeState → Done
call_did number j before node = machine_step (desk_of node (moment_of number)) (unread_by (j + 1 + 1) before.world) Connect node.lane.body

-- where these bytes wait at the far exit
pub record MirrorsCall (number j : ℕ) (t : Trace) (before between : LineState) (on : Bool) (up : List Horizontal) (far : List ℕ) : Type 0 where
  pub node : NodeState
  pub there : machine_in (j + 1 + 1) before ≡ Some node
  pub cuts_above : Bool
  pub cuts_below : Bool
  pub body : (node_at between (j + 1 + 1)).lane.body ≡ (call_did number j before node).body
  pub around : IsAround (j + 1) (links_of (j + 1) before) (node_at between (j + 1 + 1)).lane.entry_bytes (node_at between (j + 1 + 1)).lane.exit_bytes far (node_at between (j + 1 + 1 + 1)).lane.entry_bytes between
      (cut_below cuts_below (cut_above cuts_above (all_met (call_did number j before node).acts (call_scene on up t before j))))
  pub fit : IsFitMachine between (j + 1 + 1)
  pub empty : (node_at between (j + 1 + 1)).lane.entry_bytes ≡ []
  pub opened : is_open Entry (node_at between (j + 1 + 1)).lane.body ≡ true
  pub linked : is_some (link_at (j + 1) between.world).downstream ≡ true

-- ---- the link as it is connected

pub carries_none : (on : Bool) (stream : Stream) → coming stream ≡ [] → Carries on [] stream []
carries_none on stream none = carries_whole [] none_fit (subst (λ (bytes : List ℕ). Flows [] bytes []) (sym none) nothing_flows)

dry_of : (number : Option ℕ) (texts : List (List ℕ)) → number ≡ None → is_dry_without number texts ≡ true → texts ≡ []
dry_of None [] none dry = refl
dry_of None (text ∷ texts) none dry = absurd (cc)
dry_of (Some n) texts none dry = absurd (cc)

pub coming_none : (stream : Stream) → stream.texts ≡ [] → coming stream ≡ []
coming_none stream none = ap (λ (texts : List (List ℕ)). drop stream.arrived (bytes_of texts)) none ∙ drop_none stream.arrived

pub dry_up : (link : LinkParts) → IsWholeLink link → link.upstream ≡ None → coming link.flows.to_upstream ≡ []
dry_up link whole none = coming_none link.flows.to_upstream (dry_of link.upstream link.flows.to_upstream.texts none whole.dry_upstream)

pub dry_down : (link : LinkParts) → IsWholeLink link → link.downstream ≡ None → coming link.flows.to_downstream ≡ []
dry_down link whole none = coming_none link.flows.to_downstream (dry_of link.downstream link.flows.to_downstream.texts none whole.dry_downstream)

pub connected_flows : (number : Option ℕ) (next : ℕ) (link : LinkParts) → (connected number next link).flows ≡ link.flows
connected_flows None next link = refl
connected_flows (Some other) next link = refl

-- ---- the machine's entry is open then

called_open : (desk : Desk) (unread : List Sensed) (body : Body) → is_open Entry body ≡ false → body.entry.session.role ≡ Downstream → is_open Entry (machine_step desk unread Connect body).body ≡ true
called_open desk unread body closed role =
    let one : Body = body_read desk unread body in
    let state : one.entry.session.state ≡ NotConnected = ap (λ e. e.session.state) (read_entry desk unread body) ∙ is_off body.entry.session.state closed in
    let down : one.entry.session.role ≡ Downstream = ap (λ e. e.session.role) (read_entry desk unread body) ∙ role in
    (announces_leave Entry desk (event_did desk Connect one).body).same ∙ ap (λ (d : Done). is_open Entry d.body) (connect_did desk one state down)

-- ---- THE STEP

call_by : {far : List ℕ} {up : List Horizontal} → SaysAlone → (t : Trace) (number j : ℕ) (before between : LineState) (told : List Happening) (on : Bool) → may_connect (j + 1 + 1) before ≡ may_do → number ≤ 1000000 → Stands t before → AreWholeLinks before
    → (after_connect (link_at (j + 1) before.world)).stands ≡ on → Carries on far (link_at (j + 1) before.world).flows.to_upstream up
    → MachineSteps number (j + 1 + 1) inputs.Connect (connecting (j + 1 + 1) before) between told → MirrorsCall number j t before between on up far
call_by {far = far} {up = up} alone t number j before between told on may few holds links is_on goes steps =
    let node : NodeState = steps.node in
    let next : NodeState = steps.next in
    let lane = steps.steps.lane in
    let start : LineState = connecting (j + 1 + 1) before in
    let L : LinkParts = link_at (j + 1) before.world in
    let K : ℕ → WorldParts = λ (k : ℕ). link_set_to k (after_connect (link_at k before.world)) before.world in
    let w : WorldParts = K (j + 1 + 1 - 1) in
    let together = holds.together in
    let many = together.links in
    let within = (machine_within (j + 1 + 1) before node steps.there).1 in
    let counted : 1 ≤ j + 1 = omega arith in
    let there : has_link (j + 1) before ≡ true = link_there (j + 1) (length before.machines) counted within in
    let apart : j + 1 + 1 ≢ j + 1 + 1 - 1 = omega arith in
    let back : j + 1 ≢ j + 1 + 1 = omega arith in
    let behind : j + 1 + 1 + 1 ≢ j + 1 + 1 = omega arith in
    let floor : w.floor ≡ before.world.floor = floor_stays (j + 1 + 1 - 1) (after_connect (link_at (j + 1 + 1 - 1) before.world)) before.world in
    let here : link_at (j + 1) w ≡ after_connect L = ap (λ (k : ℕ). link_at (j + 1) (K k)) (before_one (j + 1)) ∙ link_set_own (j + 1) (after_connect L) before.world counted (omega (arith, many, within)) in
    let other : link_at (j + 1 + 1) w ≡ link_at (j + 1 + 1) before.world = link_set_other (j + 1 + 1 - 1) (j + 1 + 1) (after_connect (link_at (j + 1 + 1 - 1) before.world)) before.world apart in
    let node_is : node_at before (j + 1 + 1) ≡ node = node_there (j + 1 + 1) before node steps.there in
    let next_is : node_at between (j + 1 + 1) ≡ next = next_there number (j + 1) inputs.Connect start between told steps in
    let down_is : node_at between (j + 1 + 1 + 1) ≡ node_at before (j + 1 + 1 + 1) = beside number (j + 1) inputs.Connect start between told steps (j + 1 + 1 + 1) behind in
    let exit : next.lane.exit_bytes ≡ (node_at before (j + 1 + 1)).lane.exit_bytes = lane.brings.1 ∙ sym (ap (λ (m : NodeState). m.lane.exit_bytes) node_is) in
    let free : L.downstream ≡ None = ap (λ (k : ℕ). (link_at k before.world).downstream) (sym (before_one (j + 1))) ∙ free_below (j + 1 + 1) before together may in
    let flows_are : (after_connect L).flows ≡ L.flows = connected_flows L.upstream (next_number L.made) L in
    let none : coming (after_connect L).flows.to_downstream ≡ [] = ap (λ f. coming f.to_downstream) flows_are ∙ dry_down L (links (j + 1)) free in
    let above : Joint Entry (has_link (j + 1) before) steps.acts next.lane.entry_bytes far (after_connect L) (gap_at before.world.floor (j + 1)) on (gap_at before.world.floor (j + 1)) [] up =
    above_quiet (has_link (j + 1) before) steps.acts (after_connect L) (gap_at before.world.floor (j + 1)) is_on (λ is. subst (λ f. Carries on far f.to_upstream up) (sym flows_are) goes) (λ is. carries_none on (after_connect L).flows.to_downstream none)
    (subst (λ f. AreBegun f) (sym flows_are) (links (j + 1)).begun) (quiet_side number (j + 1) inputs.Connect start between told Entry refl steps) lane.brings.0 in
    let below =
    below_quiet (has_link (j + 1 + 1) before) steps.acts (link_at (j + 1 + 1) before.world) (gap_at before.world.floor (j + 1 + 1)) refl (λ is. (holds.carried (j + 1 + 1) is).up) (λ is. (holds.carried (j + 1 + 1) is).down) (links (j + 1 + 1)).begun
    (quiet_side number (j + 1) inputs.Connect start between told Exit refl steps) exit in
    let c : Scene = call_scene on up t before j in
    let m = mirrored number (j + 1) inputs.Connect before w between told (λ acts scene. all_met acts scene) c (signals_passed c) floor together.floor holds.ids.whole few (holds.fit (j + 1 + 1)) steps tt refl (along_plain alone inputs.Connect steps.acts refl)
    (subst (λ (l : LinkParts). Joint Entry (has_link (j + 1) before) steps.acts next.lane.entry_bytes far l (gap_at before.world.floor (j + 1)) on (gap_at before.world.floor (j + 1)) [] up) (sym here) above)
    (subst (λ (l : LinkParts). Joint Exit (has_link (j + 1 + 1) before) steps.acts next.lane.exit_bytes (node_at before (j + 1 + 1 + 1)).lane.entry_bytes l (gap_at before.world.floor (j + 1 + 1)) (link_at (j + 1 + 1) before.world).stands (gap_at before.world.floor (j + 1 + 1)) (t.up (j + 1 + 1)) (t.down (j + 1 + 1))) (sym other) below) in
    let now = m.reached in
    let can : CanConnect (j + 1 + 1) before = can_connect (j + 1 + 1) before may in
    let closed : is_open Entry node.lane.body ≡ false = ap (λ (n : NodeState). is_open Entry n.lane.body) (same_some (sym steps.there ∙ can.there)) ∙ can.closed in
    let role : node.lane.body.entry.session.role ≡ Downstream = ap (λ (n : NodeState). n.lane.body.entry.session.role) (sym node_is) ∙ (holds.keeps.machines.at (j + 1)).entry_role in
    let called : is_open Entry (node_at between (j + 1 + 1)).lane.body ≡ true = ap (λ (b : Body). is_open Entry b) m.body ∙ called_open (desk_of node (moment_of number)) (unread_by (j + 1 + 1) before.world) node.lane.body closed role in
    let ends : is_linked (j + 1 + 1) Entry between.world ≡ true =
    ap (λ (s : LineState). is_linked (j + 1 + 1) Entry s.world) steps.after_is ∙ own_end false (j + 1 + 1) steps.acts (read_by (j + 1 + 1) w) Entry
    ∙ ap (λ (o : Bool). open_after Entry o steps.acts) (ap (λ (k : ℕ). is_some (link_at k w).downstream) (before_one (j + 1)) ∙ ap (λ (l : LinkParts). is_some l.downstream) here ∙ made_down L.upstream (next_number L.made) L)
    ∙ sym (steps_open node (unread_by (j + 1 + 1) w) inputs.Connect (moment_of number) next steps.acts Entry steps.steps) ∙ ap (λ (n : NodeState). is_open Entry n.lane.body) (sym next_is) ∙ called in
    record {
      node = node;
      there = steps.there;
      cuts_above = now.a;
      cuts_below = now.b;
      body = m.body;
      around = around_same (j + 1) (links_of (j + 1) before) between (cut_below now.b (cut_above now.a (all_met (call_did number j before node).acts c))) (sym (ap (λ (n : NodeState). n.lane.entry_bytes) next_is)) (sym (ap (λ (n : NodeState). n.lane.exit_bytes) next_is)) refl (sym (ap (λ (n : NodeState). n.lane.entry_bytes) down_is)) now.around;
      fit = m.fit;
      empty = ap (λ (n : NodeState). n.lane.entry_bytes) next_is ∙ lane.brings.0;
      opened = called;
      linked = ap (λ (k : ℕ). is_some (link_at k between.world).downstream) (sym (before_one (j + 1))) ∙ ends;
    }

-- ---- the two kinds of connection

made_first : (number : Option ℕ) (next : ℕ) (link : LinkParts) → number ≡ None → (connected number next link).stands ≡ true
made_first None next link none = refl
made_first (Some other) next link none = absurd (cc)

made_second : (number : Option ℕ) (next other : ℕ) (link : LinkParts) → number ≡ Some other → (connected number next link).stands ≡ false
made_second None next other link some = absurd (cc)
made_second (Some number) next other link some = refl

-- the exit above has no connection: the link stands now, and nothing is on it
pub first_call : SaysAlone → (t : Trace) (number j : ℕ) (before between : LineState) (told : List Happening) → may_connect (j + 1 + 1) before ≡ may_do → number ≤ 1000000 → Stands t before → AreWholeLinks before
    → (link_at (j + 1) before.world).upstream ≡ None → MachineSteps number (j + 1 + 1) inputs.Connect (connecting (j + 1 + 1) before) between told → MirrorsCall number j t before between true [] []
first_call alone t number j before between told may few holds links none steps =
    let L : LinkParts = link_at (j + 1) before.world in
    call_by alone t number j before between told true may few holds links (made_first L.upstream (next_number L.made) L none) (carries_none true L.flows.to_upstream (dry_up L (links (j + 1)) none)) steps

-- it has one: the link doesn't stand, and what was on it up goes on
pub second_call : SaysAlone → (t : Trace) (number j : ℕ) (before between : LineState) (told : List Happening) (other : ℕ) → may_connect (j + 1 + 1) before ≡ may_do → number ≤ 1000000 → Stands t before → AreWholeLinks before
    → (link_at (j + 1) before.world).upstream ≡ Some other → MachineSteps number (j + 1 + 1) inputs.Connect (connecting (j + 1 + 1) before) between told → MirrorsCall number j t before between false (t.up (j + 1)) (node_at before (j + 1)).lane.exit_bytes
second_call alone t number j before between told other may few holds links some steps =
    let L : LinkParts = link_at (j + 1) before.world in
    let together = holds.together in
    let counted : 1 ≤ j + 1 = omega arith in
    let there : has_link (j + 1) before ≡ true = link_there (j + 1) (length before.machines) counted (machine_within (j + 1 + 1) before steps.node steps.there).1 in
    call_by alone t number j before between told false may few holds links (made_second L.upstream (next_number L.made) other L some) (carries_off (holds.carried (j + 1) there).up) steps
