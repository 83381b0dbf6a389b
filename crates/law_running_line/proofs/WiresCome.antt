-- BEHIND A TURN in which a connection comes: the exit takes one that it awaits, while it has none; or the entry finds one made.
use Rattle.std.proofs.Common.{List, Some, [], ap, append-nil, false, length, map, refl, slice_get, slice_set, subst, sym, ℕ, ℤ, ◌+◌, ◌∙◌, ◌∷◌, ◌≡◌}
use Rattle.std.proofs.lemmas.Bool.{false≢true}
use Rattle.std.specs.List.{list_any}
use Rattle.line_base.specs.declared.states.Side.TheVariants.{Entry, Exit}
use Rattle.board_record.specs.declared.sensed.Sensed.{Sensed}
use Rattle.hermes_horizontal.specs.declared.message.Message.{Message}
use Rattle.session_core.specs.End.{is_connected_state}
use Rattle.session_core.specs.declared.state.SessionState.{SessionState}
use Rattle.session_core.specs.declared.state.SessionState.TheVariants.{Handshake, NotConnected, Standing}
use Rattle.node_core.specs.Node.{NodeState, desk_of}
use Rattle.node_core.specs.Sides.{is_open}
use Rattle.node_core.specs.Step.{Steps}
use Rattle.node_core.specs.declared.act.Act.{Act}
use Rattle.node_core.specs.declared.act.Act.TheVariants as acts
use Rattle.node_core.specs.declared.input.Input.TheVariants as inputs
use Rattle.node_core.proofs.Opened.{is_off}
use Rattle.node_core.proofs.Signalling.{signals_pass}
use Rattle.law_custody.specs.Words.{DownstreamService, events_at}
use Rattle.law_link_messages.specs.Fit.{AreFitActs}
use Rattle.law_link_messages.specs.Heard.{bodies}
use Rattle.law_machine_custody.specs.Ahead.{IsFreeRead}
use Rattle.law_machine_custody.specs.Joined.{with_link}
use Rattle.law_machine_custody.specs.Scene.{all_met}
use Rattle.step_rules.proofs.Opening.{steps_open}
use Rattle.law_one_standing.specs.Carried.{Trace}
use Rattle.law_one_standing.proofs.Carrying.{SaysAlone}
use Rattle.law_one_standing.proofs.MirroringEnds.{before_one}
use Rattle.law_one_standing.proofs.RestLine.{node_there}
use Rattle.law_running_line.specs.Off.{Off}
use Rattle.law_running_line.specs.Reading.{Reading}
use Rattle.law_running_line.specs.Running.{Running, at_place, unread_by}
use Rattle.law_running_line.specs.Stands.{Stands, line_of, node_in}
use Rattle.law_running_line.specs.Steady.{scene_of, unless_joined}
use Rattle.law_running_line.specs.Turns.{Turns}
use Rattle.law_running_line.specs.Waits.{Says, had_above, had_below, is_of_below, kept_below}
use Rattle.law_running_line.specs.Wire.{Has, Wire, has, read_at, with_end}
use Rattle.law_running_line.proofs.WiresActs.{Wired}
use Rattle.law_running_line.proofs.WiresBehind.{entry_off, exit_entry, exit_off}
use Rattle.law_running_line.proofs.WiresBytes.{amid_get}
use Rattle.law_running_line.proofs.WiresCalls.{Calls, connect_calls, ups, ups_append}
use Rattle.law_running_line.proofs.WiresConnect.{found_entry, taken_exit}
use Rattle.law_running_line.proofs.WiresLink.{IsLink, alone_amid}
use Rattle.law_running_line.proofs.WiresMet.{held_read, wires_at}
use Rattle.law_running_line.proofs.WiresTurn.{StepOff, heard_none, shakes_of, stays_at, step_off}
use Rattle.law_running_line.proofs.TurnLinks.{none_had, had_of}
use Rattle.law_running_line.proofs.TurnJoined.{placed}

closed_off : (state : SessionState) → is_connected_state state ≡ false → state ≡ Standing → ⊥
closed_off NotConnected closed is = cc
closed_off Handshake closed is = absurd (false≢true (sym closed))
closed_off Standing closed is = absurd (false≢true (sym closed))

-- ---- TAKEN ABOVE

pub below_taken : SaysAlone → {t : Trace} (j : ℕ) {reading : Reading} {moment : ℤ} {before after : Running} {told : List Act} → Stands t before → (turn : Turns reading (j + 1) inputs.Accepted moment before after told) → AreFitActs told → (said : List Message) → Says turn.meets.0.wire.up said
    → IsLink turn.next (node_in before (j + 1 + 1)) (unread_by (j + 1 + 1) before)
    (all_met told (with_link Exit (has turn.meets.0.wire.below) (bodies said) (unless_joined turn.meets.0.wire.below (t.down (j + 1))) (scene_of t before j))).below.up
    (all_met told (with_link Exit (has turn.meets.0.wire.below) (bodies said) (unless_joined turn.meets.0.wire.below (t.down (j + 1))) (scene_of t before j))).below.down (after.wires (j + 1))
below_taken alone {t} j {moment = moment} {before = before} {after = after} {told = told} st turn fit said says =
    let own : node_in before (j + 1) ≡ turn.node = node_there (j + 1) (line_of before) turn.node turn.there in
    let b : NodeState = node_in before (j + 1 + 1) in
    let wires : List Wire = before.wires (j + 1) in
    let wire : Wire = turn.meets.0.wire in
    let link : IsLink (node_in before (j + 1)) b (unread_by (j + 1 + 1) before) (t.up (j + 1)) (t.down (j + 1)) wires = record { waits = st.waits (j + 1); carried = st.carried (j + 1) } in
    let here : IsLink turn.node b (unread_by (j + 1 + 1) before) (t.up (j + 1)) (t.down (j + 1)) wires = subst (λ (n : NodeState). IsLink n b (unread_by (j + 1 + 1) before) (t.up (j + 1)) (t.down (j + 1)) wires) own link in
    let none : list_any had_above wires ≡ false = none_had wires turn.meets.1 in
    let off : Off Exit turn.node.lane.body = subst (λ (n : NodeState). Off Exit n.lane.body) own (exit_off t before j st (closed_off (node_in before (j + 1)).lane.body.exit.session.state (sym (st.waits (j + 1)).exit_open ∙ none))) in
    let step : StepOff Exit turn.node turn.next told = step_off Exit turn.steps (stays_at Exit turn.node.maker inputs.Accepted turn.steps.lane.words refl (λ is. absurd (exit_entry is))) off in
    let set : at_place turn.place (with_end Exit Has) wires ≡ slice_set wires turn.place (record wire { above = Has }) = placed turn.place (with_end Exit Has) wires wire turn.meets.0.there in
    let wired : Wired Exit told (map (read_at Exit (length (events_at Exit turn.read))) (slice_set wires turn.place (record wire { above = Has }))) (after.wires (j + 1)) =
    subst (λ (ws : List Wire). Wired Exit told (map (read_at Exit (length (events_at Exit turn.read))) ws) (after.wires (j + 1))) set (wires_at j Exit (with_end Exit Has) turn _ turn.after_is refl (λ k w. held_read Exit Has k w)) in
    taken_exit alone turn.node turn.next b (length (events_at Exit turn.read)) told (with_link Exit (has wire.below) (bodies said) (unless_joined wire.below (t.down (j + 1))) (scene_of t before j)) turn.place wire said fit here turn.meets.0.there turn.meets.0.held none says refl wired
    (heard_none Exit turn.steps refl) step.mute turn.steps.lane.brings.1 (sym (steps_open turn.node turn.read inputs.Accepted moment turn.next told Exit turn.steps)) (λ on. shakes_of turn.next.lane.body.exit.session.state step.off.state on)

-- ---- FOUND MADE BELOW

calls_told : {s t : NodeState} {read : List Sensed} {moment : ℤ} {told : List Act} (steps : Steps s read inputs.Connect moment t told) → Calls (desk_of s moment) read s.lane.body → ups told ≡ DownstreamService ∷ []
calls_told {s} {t} steps calls =
    ap ups steps.told ∙ signals_pass ups (λ front signal on. ups_append front (acts.Signals signal on ∷ []) ∙ append-nil (ups front)) steps.made s.bridge t.lane.body ∙ ap ups steps.lane.told ∙ calls.says

pub above_found : SaysAlone → {t : Trace} (j : ℕ) {reading : Reading} {moment : ℤ} {before after : Running} {told : List Act} → Stands t before → (turn : Turns reading (j + 1) inputs.Connect moment before after told) → AreFitActs told → (said : List Message) → Says turn.meets.wire.down said
    → IsFreeRead turn.rest turn.next.lane.body → IsLink (node_in before j) turn.next turn.rest
    (all_met told (with_link Entry (has turn.meets.wire.above) (unless_joined turn.meets.wire.above (t.up j)) (bodies said) (scene_of t before j))).above.up
    (all_met told (with_link Entry (has turn.meets.wire.above) (unless_joined turn.meets.wire.above (t.up j)) (bodies said) (scene_of t before j))).above.down (after.wires j)
above_found alone {t} j {moment = moment} {before = before} {after = after} {told = told} st turn fit said says free =
    let own : node_in before (j + 1) ≡ turn.node = node_there (j + 1) (line_of before) turn.node turn.there in
    let a : NodeState = node_in before j in
    let wires : List Wire = before.wires j in
    let wire : Wire = turn.meets.wire in
    let there : slice_get wires turn.place ≡ Some wire = subst (λ (k : ℕ). slice_get (before.wires k) turn.place ≡ Some wire) (before_one j) turn.meets.there in
    let link : IsLink a (node_in before (j + 1)) (unread_by (j + 1) before) (t.up j) (t.down j) wires = record { waits = st.waits j; carried = st.carried j } in
    let here : IsLink a turn.node (unread_by (j + 1) before) (t.up j) (t.down j) wires = subst (λ (n : NodeState). IsLink a n (unread_by (j + 1) before) (t.up j) (t.down j) wires) own link in
    let none : list_any had_below wires ≡ false = alone_amid kept_below had_below (λ v not. had_of v.below not) here.waits.one_below (amid_get wires turn.place wire there) (ap is_of_below turn.meets.held) (ap has turn.meets.held) in
    let closed : is_open Entry turn.node.lane.body ≡ false = sym here.waits.entry_open ∙ none in
    let off : Off Entry turn.node.lane.body = subst (λ (n : NodeState). Off Entry n.lane.body) own (entry_off t before j st (closed_off (node_in before (j + 1)).lane.body.entry.session.state (sym (st.waits j).entry_open ∙ none))) in
    let calls : Calls (desk_of turn.node moment) turn.read turn.node.lane.body = connect_calls (desk_of turn.node moment) turn.read turn.node.lane.body off (is_off turn.node.lane.body.entry.session.state closed) in
    let behind : Off Entry turn.next.lane.body = subst (Off Entry) (sym turn.steps.lane.body) calls.off in
    let set : at_place turn.place (with_end Entry Has) wires ≡ slice_set wires turn.place (record wire { below = Has }) = placed turn.place (with_end Entry Has) wires wire there in
    let n : ℕ = length (events_at Entry turn.read) in
    let wired : Wired Entry told (map (read_at Entry n) (slice_set wires turn.place (record wire { below = Has }))) (after.wires j) =
    subst (λ (ws : List Wire). Wired Entry told (map (read_at Entry n) ws) (after.wires j)) set
    (subst (λ (k : ℕ). Wired Entry told (map (read_at Entry n) (at_place turn.place (with_end Entry Has) (before.wires k))) (after.wires k)) (before_one j) (wires_at j Entry (with_end Entry Has) turn _ turn.after_is refl (λ k w. held_read Entry Has k w))) in
    found_entry alone a turn.node turn.next n told (with_link Entry (has wire.above) (unless_joined wire.above (t.up j)) (bodies said) (scene_of t before j)) turn.place wire said fit here there turn.meets.held says refl wired
    (heard_none Entry turn.steps refl) (calls_told turn.steps calls) turn.steps.lane.brings.0 (sym (steps_open turn.node turn.read inputs.Connect moment turn.next told Entry turn.steps)) (λ on. shakes_of turn.next.lane.body.entry.session.state behind.state on) free
