-- BEHIND A TURN of machine j + 1: what waits on its two links and what they carry.
use Rattle.std.proofs.Common.{Bool, List, [], ap, arith, false, length, map, refl, subst, sym, true, ℕ, ℤ, ◌+◌, ◌∙◌, ◌∷◌, ◌≡◌, ◌≢◌}
use Rattle.std.proofs.lemmas.Bool.{false≢true}
use Rattle.line_base.specs.declared.states.Side.{Side}
use Rattle.line_base.specs.declared.states.Side.TheVariants.{Entry, Exit}
use Rattle.hermes_horizontal.specs.Canonical.{canonical}
use Rattle.hermes_horizontal.specs.declared.message.Message.{Message}
use Rattle.session_core.specs.End.{is_connected_state}
use Rattle.session_core.specs.declared.state.SessionState.{SessionState}
use Rattle.session_core.specs.declared.state.SessionState.TheVariants.{Handshake, NotConnected, Standing}
use Rattle.node_core.specs.Node.{NodeState}
use Rattle.node_core.specs.Sides.{is_open}
use Rattle.node_core.specs.declared.act.Act.{Act}
use Rattle.node_core.specs.declared.act.Act.TheVariants as acts
use Rattle.node_core.specs.declared.input.Input.{Input}
use Rattle.node_core.specs.declared.input.Input.TheVariants as inputs
use Rattle.law_custody.specs.Words.{events_at}
use Rattle.law_link_messages.specs.Fit.{AreFitActs}
use Rattle.law_machine_custody.specs.Ahead.{IsFreeRead}
use Rattle.law_machine_custody.specs.Scene.{Scene, all_met}
use Rattle.line_step.specs.Acts.{answers}
use Rattle.step_rules.specs.Opened.{open_after}
use Rattle.line_step.specs.Steps.{is_second}
use Rattle.line_step.specs.World.{link_of}
use Rattle.step_rules.proofs.Opening.{steps_open}
use Rattle.law_one_standing.specs.Carried.{Trace}
use Rattle.law_one_standing.proofs.Carrying.{SaysAlone}
use Rattle.law_one_standing.proofs.MirroringEnds.{before_one}
use Rattle.law_one_standing.proofs.RestLine.{node_there}
use Rattle.law_running_line.specs.Off.{Off}
use Rattle.law_running_line.specs.Reading.{Reading}
use Rattle.law_running_line.specs.Running.{Running, at_place, count_beyond, unread_by, with_node, with_reading}
use Rattle.law_running_line.specs.Stands.{Stands, line_of, node_in}
use Rattle.law_running_line.specs.Turns.{Turns, act_did, answered, did, met, sent_by}
use Rattle.law_running_line.specs.Wire.{Has, Left, Wire, given, left, read_at, said, text_behind, with_end}
use Rattle.law_running_line.proofs.WiresActs.{Wired, act_wires, seen, wired_more, wired_none}
use Rattle.law_running_line.proofs.WiresLink.{IsLink, link_seen, plain_entry, plain_exit}
use Rattle.law_running_line.proofs.WiresTurn.{StepOff, heard_none, is_plain_at, plain_bytes, plain_connect, plain_entry_bytes, plain_exit_bytes, plain_opened, shakes_of, stays_at, step_off, talk_entry, talk_exit}
use Rattle.law_running_line.proofs.WiresWalk.{did_wired, read_wires, wires_other, wires_sided, count_for}

-- ---- the sides that are off

pub exit_off : (t : Trace) (s : Running) (j : ℕ) → Stands t s → ((node_in s (j + 1)).lane.body.exit.session.state ≡ Standing → ⊥) → Off Exit (node_in s (j + 1)).lane.body
exit_off t s j st off =
    let half = talk_exit (st.keeps.neighbours.at (j + 1)).pair.talk off in
    let owns = st.keeps.machines.at j in
    record { state = off; entry_role = owns.entry_role; exit_role = owns.exit_role; half = record { apart = half.0; unsaid = half.1 } }

pub entry_off : (t : Trace) (s : Running) (j : ℕ) → Stands t s → ((node_in s (j + 1)).lane.body.entry.session.state ≡ Standing → ⊥) → Off Entry (node_in s (j + 1)).lane.body
entry_off t s j st off =
    let half = talk_entry (st.keeps.neighbours.at j).pair.talk off in
    let owns = st.keeps.machines.at j in
    record { state = off; entry_role = owns.entry_role; exit_role = owns.exit_role; half = record { apart = half.0; unsaid = half.1 } }

-- ---- which connections are changed

apart_links : (j : ℕ) (side at : Side) → side ≢ at → link_of (j + 1) side ≡ link_of (j + 1) at → ⊥
apart_links j Entry Entry apart is = apart refl
apart_links j Exit Exit apart is = apart refl
apart_links j Entry Exit apart is = omega (arith, is)
apart_links j Exit Entry apart is = omega (arith, is)

pub exit_entry : Exit ≢ Entry
exit_entry is = cc

entry_exit : Entry ≢ Exit
entry_exit is = cc

-- an input that is none of a side's changes nothing there
pub met_plain : (j : ℕ) (input : Input) (place : ℕ) (side : Side) (s : Running) → is_plain_at side input ≡ true → (met (j + 1) input place s).wires (link_of (j + 1) side) ≡ s.wires (link_of (j + 1) side)
met_plain j (inputs.Bytes Entry piece) place Entry s is = absurd (false≢true is)
met_plain j (inputs.Bytes Exit piece) place Exit s is = absurd (false≢true is)
met_plain j (inputs.Bytes Exit piece) place Entry s is = wires_other (link_of (j + 1) Exit) (link_of (j + 1) Entry) (at_place place (given Exit (length piece.now))) s (apart_links j Entry Exit entry_exit)
met_plain j (inputs.Bytes Entry piece) place Exit s is = wires_other (link_of (j + 1) Entry) (link_of (j + 1) Exit) (at_place place (given Entry (length piece.now))) s (apart_links j Exit Entry exit_entry)
met_plain j inputs.Connect place Entry s is = absurd (false≢true is)
met_plain j inputs.Connect place Exit s is = wires_other (link_of (j + 1) Entry) (link_of (j + 1) Exit) (at_place place (with_end Entry Has)) s (apart_links j Exit Entry exit_entry)
met_plain j inputs.Accepted place Exit s is = absurd (false≢true is)
met_plain j inputs.Accepted place Entry s is = wires_other (link_of (j + 1) Exit) (link_of (j + 1) Entry) (at_place place (with_end Exit Has)) s (apart_links j Entry Exit entry_exit)
met_plain j inputs.Second place Exit s is = absurd (false≢true is)
met_plain j inputs.Second place Entry s is = wires_other (link_of (j + 1) Exit) (link_of (j + 1) Entry) (at_place place (with_end Exit Left)) s (apart_links j Entry Exit entry_exit)
met_plain j _ place side s is = refl

-- ---- the acts, at the entry of a machine that refuses a second connection

sent_beside : (j place : ℕ) (test : Bool) (message : Message) (s : Running) → (sent_by test (j + 1) place Exit message s).wires (link_of (j + 1) Entry) ≡ s.wires (link_of (j + 1) Entry)
sent_beside j place true message s = wires_other (j + 1) (link_of (j + 1) Entry) (at_place place (answered (text_behind (count_beyond (j + 1) Exit s) (canonical message)))) s (apart_links j Entry Exit entry_exit)
sent_beside j place false message s = wires_sided j Entry Exit (said Exit (text_behind (count_beyond (j + 1) Exit s) (canonical message))) s

act_second : (j place : ℕ) (act : Act) (s : Running) → (act_did true (j + 1) place act s).wires (link_of (j + 1) Entry) ≡ act_wires Entry (count_for j act s) act (s.wires (link_of (j + 1) Entry))
act_second j place (acts.Sends Entry message) s = wires_sided j Entry Entry (said Entry (text_behind (count_beyond (j + 1) Entry s) (canonical message))) s
act_second j place (acts.Sends Exit message) s = sent_beside j place (answers true Exit message) message s
act_second j place (acts.Closes at) s = wires_sided j Entry at (left at) s
act_second j place (acts.Notices at) s = wires_sided j Entry at (left at) s
act_second j place _ s = refl

entry_wired : (second : Bool) (j place : ℕ) (told : List Act) (s : Running) → Wired Entry told (s.wires (link_of (j + 1) Entry)) ((did second (j + 1) place told s).wires (link_of (j + 1) Entry))
entry_wired false j place told s = did_wired j place Entry told s
entry_wired true j place [] s = wired_none
entry_wired true j place (act ∷ others) s =
    wired_more (count_for j act s)
    (subst (λ (ws : List Wire). Wired Entry others ws ((did true (j + 1) place others (act_did true (j + 1) place act s)).wires (link_of (j + 1) Entry))) (act_second j place act s)
    (entry_wired true j place others (act_did true (j + 1) place act s)))

plain_second : (input : Input) → is_plain_at Exit input ≡ true → is_second input ≡ false
plain_second inputs.Second is = absurd (false≢true is)
plain_second _ is = refl

-- ---- AN INPUT THAT IS NONE OF THE SIDE'S

wires_behind : (j : ℕ) {reading : Reading} {input : Input} {moment : ℤ} {before after : Running} {told : List Act} (side : Side) (turn : Turns reading (j + 1) input moment before after told) → is_second input ≡ false → is_plain_at side input ≡ true
    → Wired side told (map (read_at side (length (events_at side turn.read))) (before.wires (link_of (j + 1) side))) (after.wires (link_of (j + 1) side))
wires_behind j {input = input} {before = before} {after = after} {told = told} side turn once plain =
    let k : ℕ = link_of (j + 1) side in
    let read : Running = with_node (j + 1) turn.next (with_reading (j + 1) turn.read turn.rest before) in
    let start : Running = met (j + 1) input turn.place read in
    let first : start.wires k ≡ map (read_at side (length (events_at side turn.read))) (before.wires k) = met_plain j input turn.place side read plain ∙ read_wires j side turn.next turn.read turn.rest before in
    let last : after.wires k ≡ (did false (j + 1) turn.place told start).wires k = ap (λ (s : Running). s.wires k) turn.after_is ∙ ap (λ (b : Bool). (did b (j + 1) turn.place told start).wires k) once in
    subst (λ (ws : List Wire). Wired side told ws (after.wires k)) first (subst (λ (ws : List Wire). Wired side told (start.wires k) ws) (sym last) (did_wired j turn.place side told start))

pub shaking_not : {state : SessionState} → state ≡ Handshake → state ≡ Standing → ⊥
shaking_not is stands = shaking_stands (sym is ∙ stands)
  where
    shaking_stands : ◌≡◌ {A = SessionState} Handshake Standing → ⊥
    shaking_stands is = cc

pub below_plain : SaysAlone → {t : Trace} (j : ℕ) {reading : Reading} {input : Input} {moment : ℤ} {before after : Running} {told : List Act} → Stands t before → (turn : Turns reading (j + 1) input moment before after told) → AreFitActs told → is_plain_at Exit input ≡ true → (c : Scene) → seen Exit c ≡ link_seen (before.wires (j + 1)) (t.up (j + 1)) (t.down (j + 1))
    → IsLink turn.next (node_in before (j + 1 + 1)) (unread_by (j + 1 + 1) before) (all_met told c).below.up (all_met told c).below.down (after.wires (j + 1))
below_plain alone {t} j {input = input} {before = before} {after = after} {told = told} st turn fit plain c is =
    let own : node_in before (j + 1) ≡ turn.node = node_there (j + 1) (line_of before) turn.node turn.there in
    let b : NodeState = node_in before (j + 1 + 1) in
    let link : IsLink (node_in before (j + 1)) b (unread_by (j + 1 + 1) before) (t.up (j + 1)) (t.down (j + 1)) (before.wires (j + 1)) = record { waits = st.waits (j + 1); carried = st.carried (j + 1) } in
    let here : IsLink turn.node b (unread_by (j + 1 + 1) before) (t.up (j + 1)) (t.down (j + 1)) (before.wires (j + 1)) = subst (λ (n : NodeState). IsLink n b (unread_by (j + 1 + 1) before) (t.up (j + 1)) (t.down (j + 1)) (before.wires (j + 1))) own link in
    let off : (turn.node.lane.body.exit.session.state ≡ Handshake) → Off Exit turn.node.lane.body = λ shakes. subst (λ (n : NodeState). Off Exit n.lane.body) own (exit_off t before j st (shaking_not (ap (λ (n : NodeState). n.lane.body.exit.session.state) own ∙ shakes))) in
    let step : (turn.node.lane.body.exit.session.state ≡ Handshake) → StepOff Exit turn.node turn.next told = λ shakes. step_off Exit turn.steps (stays_at Exit turn.node.maker input turn.steps.lane.words (plain_bytes Exit input plain) (plain_connect Exit input plain)) (off shakes) in
    plain_exit alone turn.node turn.next b (length (events_at Exit turn.read)) told c fit here is (wires_behind j Exit turn (plain_second input plain) plain) (heard_none Exit turn.steps (plain_bytes Exit input plain))
    (plain_exit_bytes input turn.node.lane turn.next.lane turn.steps.lane.words plain turn.steps.lane.brings) (λ shakes. (step shakes).mute)
    (ap (λ (o : Bool). open_after Exit o told) (sym (plain_opened Exit input (is_open Exit turn.node.lane.body) plain)) ∙ sym (steps_open turn.node turn.read input _ turn.next told Exit turn.steps))
    (λ shakes on. shakes_of turn.next.lane.body.exit.session.state (step shakes).off.state on)

wires_above : (j : ℕ) {reading : Reading} {input : Input} {moment : ℤ} {before after : Running} {told : List Act} (turn : Turns reading (j + 1) input moment before after told) → is_plain_at Entry input ≡ true
    → Wired Entry told (map (read_at Entry (length (events_at Entry turn.read))) (before.wires (link_of (j + 1) Entry))) (after.wires (link_of (j + 1) Entry))
wires_above j {input = input} {before = before} {after = after} {told = told} turn plain =
    let k : ℕ = link_of (j + 1) Entry in
    let read : Running = with_node (j + 1) turn.next (with_reading (j + 1) turn.read turn.rest before) in
    let start : Running = met (j + 1) input turn.place read in
    let first : start.wires k ≡ map (read_at Entry (length (events_at Entry turn.read))) (before.wires k) = met_plain j input turn.place Entry read plain ∙ read_wires j Entry turn.next turn.read turn.rest before in
    subst (λ (ws : List Wire). Wired Entry told ws (after.wires k)) first (subst (λ (ws : List Wire). Wired Entry told (start.wires k) ws) (sym (ap (λ (s : Running). s.wires k) turn.after_is)) (entry_wired (is_second input) j turn.place told start))

pub above_plain : SaysAlone → {t : Trace} (j : ℕ) {reading : Reading} {input : Input} {moment : ℤ} {before after : Running} {told : List Act} → Stands t before → (turn : Turns reading (j + 1) input moment before after told) → AreFitActs told → is_plain_at Entry input ≡ true → IsFreeRead turn.rest turn.next.lane.body → (c : Scene) → seen Entry c ≡ link_seen (before.wires j) (t.down j) (t.up j)
    → IsLink (node_in before j) turn.next turn.rest (all_met told c).above.up (all_met told c).above.down (after.wires j)
above_plain alone {t} j {input = input} {before = before} {after = after} {told = told} st turn fit plain free c is =
    let own : node_in before (j + 1) ≡ turn.node = node_there (j + 1) (line_of before) turn.node turn.there in
    let a : NodeState = node_in before j in
    let link : IsLink a (node_in before (j + 1)) (unread_by (j + 1) before) (t.up j) (t.down j) (before.wires j) = record { waits = st.waits j; carried = st.carried j } in
    let here : IsLink a turn.node (unread_by (j + 1) before) (t.up j) (t.down j) (before.wires j) = subst (λ (n : NodeState). IsLink a n (unread_by (j + 1) before) (t.up j) (t.down j) (before.wires j)) own link in
    let wired : Wired Entry told (map (read_at Entry (length (events_at Entry turn.read))) (before.wires j)) (after.wires j) =
    subst (λ (k : ℕ). Wired Entry told (map (read_at Entry (length (events_at Entry turn.read))) (before.wires k)) (after.wires k)) (before_one j) (wires_above j turn plain) in
    let off : (turn.node.lane.body.entry.session.state ≡ Standing → ⊥) → Off Entry turn.node.lane.body = λ not. subst (λ (n : NodeState). Off Entry n.lane.body) own (entry_off t before j st (λ stands. not (sym (ap (λ (n : NodeState). n.lane.body.entry.session.state) own) ∙ stands))) in
    let step : (turn.node.lane.body.entry.session.state ≡ Standing → ⊥) → StepOff Entry turn.node turn.next told = λ not. step_off Entry turn.steps (stays_at Entry turn.node.maker input turn.steps.lane.words (plain_bytes Entry input plain) (plain_connect Entry input plain)) (off not) in
    plain_entry alone a turn.node turn.next (length (events_at Entry turn.read)) told c fit here is wired (heard_none Entry turn.steps (plain_bytes Entry input plain))
    (plain_entry_bytes input turn.node.lane turn.next.lane turn.steps.lane.words plain turn.steps.lane.brings) (λ shakes. (step (shaking_not shakes)).mute)
    (ap (λ (o : Bool). open_after Entry o told) (sym (plain_opened Entry input (is_open Entry turn.node.lane.body) plain)) ∙ sym (steps_open turn.node turn.read input _ turn.next told Entry turn.steps))
    (λ shakes on. shakes_of turn.next.lane.body.entry.session.state (step (shaking_not shakes)).off.state on)
    (λ closed may. (step (closed_not turn.node.lane.body.entry.session.state closed)).may may) free
  where
    closed_not : (state : SessionState) → is_connected_state state ≡ false → state ≡ Standing → ⊥
    closed_not NotConnected closed is = cc
    closed_not Handshake closed is = absurd (false≢true (sym closed))
    closed_not Standing closed is = absurd (false≢true (sym closed))
