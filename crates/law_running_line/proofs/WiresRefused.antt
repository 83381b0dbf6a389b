-- BEHIND A TURN in which the exit refuses a second connection.
use Rattle.std.proofs.Common.{Bool, List, Some, [], ap, false, length, map, refl, slice_get, slice_set, subst, sym, true, ℕ, ℤ, ◌&&◌, ◌++◌, ◌+◌, ◌∙◌, ◌∷◌, ◌≡◌}
use Rattle.std.specs.Prelude.{cond}
use Rattle.std.specs.List.{AllByRecursion}
use Rattle.line_base.specs.declared.states.Side.TheVariants.{Entry, Exit}
use Rattle.hermes_horizontal.specs.Canonical.{canonical}
use Rattle.hermes_horizontal.specs.declared.message.Message.{Message}
use Rattle.session_core.specs.declared.state.SessionState.TheVariants.{Handshake}
use Rattle.handover_in.specs.State.{may_connect}
use Rattle.node_core.specs.Node.{NodeState}
use Rattle.node_core.specs.Sides.{is_open}
use Rattle.node_core.specs.declared.act.Act.{Act}
use Rattle.node_core.specs.declared.act.Act.TheVariants as acts
use Rattle.node_core.specs.declared.input.Input.TheVariants as inputs
use Rattle.law_custody.specs.Words.{events_at}
use Rattle.law_link_messages.specs.Fit.{AreFitActs}
use Rattle.law_machine_custody.specs.Scene.{Scene}
use Rattle.line_step.specs.Acts.{is_answer as is_told_answer}
use Rattle.step_rules.specs.Opened.{open_after}
use Rattle.step_rules.proofs.Opening.{steps_open}
use Rattle.law_one_standing.specs.Carried.{Trace}
use Rattle.law_one_standing.proofs.Carrying.{SaysAlone}
use Rattle.law_one_standing.proofs.RestLine.{node_there}
use Rattle.law_running_line.specs.Off.{Off}
use Rattle.law_running_line.specs.Reading.{Reading}
use Rattle.law_running_line.specs.Running.{Running, at_place, count_beyond, unread_by, with_node, with_reading}
use Rattle.law_running_line.specs.Stands.{Stands, is_joined, line_of, node_in}
use Rattle.law_running_line.specs.Steady.{scene_of}
use Rattle.law_running_line.specs.Turned.{answer_met}
use Rattle.law_running_line.specs.Turns.{Turns, act_did, answered, did, met, sent_by}
use Rattle.law_running_line.specs.Waits.{had_above, had_below, kept_below}
use Rattle.law_running_line.specs.Wire.{Awaits, Coming, Has, Hold, Left, Wire, has, left, read_at, said, text_behind, with_end}
use Rattle.law_running_line.proofs.Waiting.{any_set, most_set}
use Rattle.law_running_line.proofs.WiresActs.{IsFine, IsLone, IsMid, Seen, deals, seen}
use Rattle.law_running_line.proofs.WiresBehind.{exit_entry, exit_off, shaking_not}
use Rattle.law_running_line.proofs.WiresBytes.{amid_get}
use Rattle.law_running_line.proofs.WiresConnect.{all_set_as}
use Rattle.law_running_line.proofs.WiresLink.{AsideExit, IsLink, aside_exit, at_amid, end_exit, exit_leaves, exit_more, exits_read, link_seen, mid_exit, mid_read}
use Rattle.law_running_line.proofs.WiresMet.{at_map, held_read}
use Rattle.law_running_line.proofs.WiresParts.{Of, awaits_has, has_awaits, left_awaits, left_has}
use Rattle.law_running_line.proofs.WiresSecond.{IsTwice, WiredTwice, act_twice, all_met_by, get_set, met_is, second_mid, twice_acts, twice_answered, twice_each, twice_more, twice_none, twice_said}
use Rattle.law_running_line.proofs.WiresTurn.{StepOff, heard_none, shakes_of, stays_at, step_off}
use Rattle.law_running_line.proofs.WiresWalk.{read_wires, wires_own, wires_sided, count_for}
use Rattle.law_running_line.proofs.TurnJoined.{got_map, placed}

-- ---- the acts, as the definition has them

sent_twice : (j place : ℕ) (test : Bool) (m : Message) (s : Running) → (sent_by test (j + 1) place Exit m s).wires (j + 1)
    ≡ cond test (at_place place (answered (text_behind (count_beyond (j + 1) Exit s) (canonical m))) (s.wires (j + 1))) (map (said Exit (text_behind (count_beyond (j + 1) Exit s) (canonical m))) (s.wires (j + 1)))
sent_twice j place true m s = wires_own (j + 1) (at_place place (answered (text_behind (count_beyond (j + 1) Exit s) (canonical m)))) s
sent_twice j place false m s = wires_sided j Exit Exit (said Exit (text_behind (count_beyond (j + 1) Exit s) (canonical m))) s

act_is_twice : (j place : ℕ) (act : Act) (s : Running) → (act_did true (j + 1) place act s).wires (j + 1) ≡ act_twice place (count_for j act s) act (s.wires (j + 1))
act_is_twice j place (acts.Sends Exit m) s = sent_twice j place (is_told_answer m.body) m s
act_is_twice j place (acts.Sends Entry m) s = wires_sided j Exit Entry (said Entry (text_behind (count_beyond (j + 1) Entry s) (canonical m))) s
act_is_twice j place (acts.Closes at) s = wires_sided j Exit at (left at) s
act_is_twice j place (acts.Notices at) s = wires_sided j Exit at (left at) s
act_is_twice j place _ s = refl

did_twice : (j place : ℕ) (told : List Act) (s : Running) → WiredTwice place told (s.wires (j + 1)) ((did true (j + 1) place told s).wires (j + 1))
did_twice j place [] s = twice_none
did_twice j place (act ∷ others) s =
    twice_more (count_for j act s)
    (subst (λ (ws : List Wire). WiredTwice place others ws ((did true (j + 1) place others (act_did true (j + 1) place act s)).wires (j + 1))) (act_is_twice j place act s)
    (did_twice j place others (act_did true (j + 1) place act s)))

-- ---- all acts, and what looks at none

next_twice : {place : ℕ} {hold : Hold} {wires : List Wire} (n : ℕ) (act : Act) → IsTwice place hold wires → IsTwice place hold (act_twice place n act wires)
next_twice {place} {hold} {wires} n (acts.Sends Exit m) t = by (is_told_answer m.body)
  where
    by : (test : Bool) → IsTwice place hold (cond test (at_place place (answered (text_behind n (canonical m))) wires) (map (said Exit (text_behind n (canonical m))) wires))
    by true = twice_answered (text_behind n (canonical m)) t
    by false = twice_said (text_behind n (canonical m)) t
next_twice n (acts.Sends Entry m) t = t
next_twice n act t = twice_acts n act (deals Exit act) t

each_twice : (F : Hold → Hold → List Coming → List Coming → Type 0) → ((beyond : Hold) (to from c : List Coming) → F Has beyond to from → F Has beyond to (from ++ c)) → ((beyond : Hold) (to from c : List Coming) → F Left beyond to from → F Left beyond to (from ++ c))
    → ((beyond : Hold) (to from : List Coming) → F Has beyond to from → F Left beyond [] from) → {hold : Hold} {wires later : List Wire} (place : ℕ) (told : List Act) → WiredTwice place told wires later → IsTwice place hold wires → AllByRecursion (Of Exit F) wires → AllByRecursion (Of Exit F) later
each_twice F more goes leaves place [] twice_none t all = all
each_twice F more goes leaves {wires = wires} place (act ∷ others) (twice_more n w) t all =
    each_twice F more goes leaves {wires = act_twice place n act wires} place others w (next_twice n act t) (twice_each F more goes leaves place n act t all)

exit_goes : {S H M : Type 0} (beyond : Hold) (to from c : List Coming) → AsideExit S H M Left beyond to from → AsideExit S H M Left beyond to (from ++ c)
exit_goes beyond to from c k = record { untaken = λ is. absurd (left_awaits is); called = λ is. absurd (left_awaits is); first = λ is. absurd (left_has is); may = k.may }

-- ---- the exit leaves the connection that it awaits

fine_refused : {new far : List ℕ} {l : Seen} {own beyond : Hold} {to from : List Coming} {told : List Act} → own ≡ Awaits → IsFine Exit told new far l own beyond to from → IsFine Exit told new far l Left beyond to from
fine_refused {own = own} {told = told} is f = record {
  comes = λ has_it. absurd (left_has has_it);
  goes = f.goes;
  quiet = λ has_it awaits. absurd (left_has has_it);
  called = λ awaits far. absurd (left_awaits awaits);
  lone = λ awaits. lone_refused is (f.lone awaits);
  on = λ has_it far. absurd (left_has has_it);
  off = λ far not. f.off far (λ has_it. awaits_has (sym is ∙ has_it));
}
  where
    lone_refused : {own : Hold} {to from : List Coming} → own ≡ Awaits → IsLone Exit told own to from → IsLone Exit told Left to from
    lone_refused {to = to} {from = from} is k = let a : IsLone Exit told Awaits to from = subst (λ (h : Hold). IsLone Exit told h to from) is k in record { said = a.said; says = a.says; may = a.may; none = a.none }

loses : (above below : Hold) → above ≡ Awaits → (has Left && has below) ≡ (has above && has below)
loses Awaits below is = refl
loses Has below is = absurd (has_awaits is)
loses Left below is = refl

mid_refused : {new far : List ℕ} {own_open far_open : Bool} {l : Seen} {wires : List Wire} (told : List Act) (place : ℕ) (wire : Wire) → slice_get wires place ≡ Some wire → wire.above ≡ Awaits → IsMid Exit told new far own_open far_open l wires
    → IsMid Exit told new far own_open far_open l (slice_set wires place (record wire { above = Left }))
mid_refused {new} {far} {l = l} {wires = wires} told place wire there awaits m =
    let Q : Wire → Type 0 = λ (v : Wire). Of Exit (IsFine Exit told new far l) v in
    let w2 : Wire = record wire { above = Left } in
    record {
      fine = all_set_as Q Q (λ v f. f) w2 (fine_refused awaits (at_amid Q (amid_get wires place wire there) m.fine)) wires place m.fine;
      own = any_set had_above wire w2 (sym (ap has awaits)) wires place there ∙ m.own;
      beyond = any_set had_below wire w2 refl wires place there ∙ m.beyond;
      joined = any_set is_joined wire w2 (loses wire.above wire.below awaits) wires place there ∙ m.joined;
      none_home = m.none_home;
      none_away = m.none_away;
      one_own = most_set had_above wire w2 (sym (ap has awaits)) place there m.one_own;
      one_far = most_set kept_below wire w2 refl place there m.one_far;
    }

-- ---- THE TURN

pub below_refused : SaysAlone → {t : Trace} (j : ℕ) {reading : Reading} {moment : ℤ} {before after : Running} {told : List Act} → Stands t before → (turn : Turns reading (j + 1) inputs.Second moment before after told) → AreFitActs told
    → IsLink turn.next (node_in before (j + 1 + 1)) (unread_by (j + 1 + 1) before) (answer_met turn.meets.wire.below told (scene_of t before j)).below.up (answer_met turn.meets.wire.below told (scene_of t before j)).below.down (after.wires (j + 1))
below_refused alone {t} j {moment = moment} {before = before} {after = after} {told = told} st turn fit =
    let own : node_in before (j + 1) ≡ turn.node = node_there (j + 1) (line_of before) turn.node turn.there in
    let a : NodeState = turn.node in
    let a2 : NodeState = turn.next in
    let b : NodeState = node_in before (j + 1 + 1) in
    let c : Scene = scene_of t before j in
    let wires : List Wire = before.wires (j + 1) in
    let wire : Wire = turn.meets.wire in
    let place : ℕ = turn.place in
    let n : ℕ = length (events_at Exit turn.read) in
    let w2 : Wire = record wire { above = Left } in
    let link : IsLink (node_in before (j + 1)) b (unread_by (j + 1 + 1) before) (t.up (j + 1)) (t.down (j + 1)) wires = record { waits = st.waits (j + 1); carried = st.carried (j + 1) } in
    let here : IsLink a b (unread_by (j + 1 + 1) before) (t.up (j + 1)) (t.down (j + 1)) wires = subst (λ (m : NodeState). IsLink m b (unread_by (j + 1 + 1) before) (t.up (j + 1)) (t.down (j + 1)) wires) own link in
    let off : (a.lane.body.exit.session.state ≡ Handshake) → Off Exit a.lane.body = λ shakes. subst (λ (m : NodeState). Off Exit m.lane.body) own (exit_off t before j st (shaking_not (ap (λ (m : NodeState). m.lane.body.exit.session.state) own ∙ shakes))) in
    let step : (a.lane.body.exit.session.state ≡ Handshake) → StepOff Exit a a2 told = λ shakes. step_off Exit turn.steps (stays_at Exit a.maker inputs.Second turn.steps.lane.words refl (λ is. absurd (exit_entry is))) (off shakes) in
    let m : IsMid Exit told a2.lane.exit_bytes b.lane.entry_bytes (is_open Exit a.lane.body) (is_open Entry b.lane.body) (link_seen wires (t.up (j + 1)) (t.down (j + 1))) wires = mid_exit told a2.lane.exit_bytes here.waits here.carried (heard_none Exit turn.steps refl) turn.steps.lane.brings.1 (λ shakes. (step shakes).mute) in
    let start : IsMid Exit told a2.lane.exit_bytes b.lane.entry_bytes (is_open Exit a.lane.body) (is_open Entry b.lane.body) (seen Exit c) (map (read_at Exit n) (slice_set wires place w2)) = mid_read Exit told n (mid_refused told place wire turn.meets.there turn.meets.held m) in
    let twice : IsTwice place wire.below (map (read_at Exit n) (slice_set wires place w2)) = record { wire = read_at Exit n w2; there = got_map (read_at Exit n) (slice_set wires place w2) place w2 (get_set wires place wire w2 turn.meets.there); gone = refl; stands = refl } in
    let read : Running = with_node (j + 1) turn.next (with_reading (j + 1) turn.read turn.rest before) in
    let s : Running = met (j + 1) inputs.Second place read in
    let first : s.wires (j + 1) ≡ map (read_at Exit n) (slice_set wires place w2) =
    wires_own (j + 1) (at_place place (with_end Exit Left)) read ∙ ap (at_place place (with_end Exit Left)) (read_wires j Exit turn.next turn.read turn.rest before) ∙ at_map (with_end Exit Left) (read_at Exit n) (λ w. held_read Exit Left n w) place wires
    ∙ ap (map (read_at Exit n)) (placed place (with_end Exit Left) wires wire turn.meets.there) in
    let wired : WiredTwice place told (map (read_at Exit n) (slice_set wires place w2)) (after.wires (j + 1)) =
    subst (λ (ws : List Wire). WiredTwice place told ws (after.wires (j + 1))) first (subst (λ (ws : List Wire). WiredTwice place told (s.wires (j + 1)) ws) (sym (ap (λ (r : Running). r.wires (j + 1)) turn.after_is)) (did_twice j place told s)) in
    let S : Type 0 = is_open Exit a2.lane.body ≡ true → a2.lane.body.exit.session.state ≡ Handshake in
    let H : Type 0 = b.lane.body.entry.session.state ≡ Handshake in
    let M : Type 0 = may_connect b.lane.body.intake.phase ≡ true in
    let F : Wire → Type 0 = Of Exit (AsideExit S H M) in
    let plain : AllByRecursion F wires = aside_exit a b S here.waits (λ v amid has_it awaits on. shakes_of a2.lane.body.exit.session.state (step (at_amid _ amid here.waits.taken_first has_it awaits)).off.state on) in
    let w : F wire = at_amid F (amid_get wires place wire turn.meets.there) plain in
    let aside : AllByRecursion F (slice_set wires place w2) = all_set_as F F (λ v k. k) w2 (record { untaken = λ is. absurd (left_awaits is); called = λ is. absurd (left_awaits is); first = λ is. absurd (left_has is); may = w.may }) wires place plain in
    let opened : open_after Exit (is_open Exit a.lane.body) told ≡ is_open Exit a2.lane.body = sym (steps_open a turn.read inputs.Second moment a2 told Exit turn.steps) in
    let last : IsMid Exit [] a2.lane.exit_bytes b.lane.entry_bytes (open_after Exit (is_open Exit a.lane.body) told) (is_open Entry b.lane.body) (seen Exit (all_met_by wire.below told c)) (after.wires (j + 1)) = second_mid alone place wire.below told c fit wired twice start in
    let done : IsLink a2 b (unread_by (j + 1 + 1) before) (seen Exit (all_met_by wire.below told c)).home (seen Exit (all_met_by wire.below told c)).away (after.wires (j + 1)) =
    end_exit {a = a2} {b = b} last opened refl (each_twice (AsideExit S H M) exit_more exit_goes exit_leaves place told wired twice (exits_read S H M n (slice_set wires place w2) aside)) here.waits.free in
    subst (λ (d : Scene). IsLink a2 b (unread_by (j + 1 + 1) before) d.below.up d.below.down (after.wires (j + 1))) (met_is wire.below told c) done
