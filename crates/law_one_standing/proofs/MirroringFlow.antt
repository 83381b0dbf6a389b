-- A step in which bytes arrive is one in its machine's scene.
use Rattle.std.proofs.Common.{Bool, List, Option, Some, [], ap, arith, false, length, refl, subst, suc, sym, true, zero, ltb-true, ℕ, ◌++◌, ◌+◌, ◌-◌, ◌&&◌, ◌∙◌, ◌∷◌, ◌≡◌, ◌≢◌, ◌≤◌, None}
use Rattle.std.specs.Borrow.{Bor}
use Rattle.std.specs.Prelude.{drop, nat_le, nat_lt, not, take}
use Rattle.std.proofs.lemmas.Bool.{false≢true, and_from}
use Rattle.std.proofs.lemmas.List.{take-append-drop}
use Rattle.law_one_standing.proofs.RestLine.{node_there}
use Rattle.line_step.proofs.Keeps.{not_full}
use Rattle.line_step.proofs.Connecting.{neighbour_of}
use Rattle.line_base.specs.declared.states.Role.TheVariants.{Downstream, Upstream}
use Rattle.line_base.specs.declared.states.Side.{Side}
use Rattle.line_base.specs.declared.states.Side.TheVariants.{Entry, Exit}
use Rattle.board_record.specs.declared.sensed.Sensed.{Sensed}
use Rattle.hermes_horizontal.specs.declared.message.Horizontal.{Horizontal}
use Rattle.hermes_horizontal.specs.declared.message.Message.{Message}
use Rattle.line_link.specs.Flow.{Stream, coming, flowing, with_arrival}
use Rattle.line_link.specs.Link.{LinkParts, after_flow}
use Rattle.line_link.proofs.Coming.{coming_of_arrival}
use Rattle.line_link.proofs.Reaching.{begun_by}
use Rattle.line_report.specs.declared.happening.Happening.{Happening}
use Rattle.line_report.specs.declared.happening.Reason.TheVariants as reasons
use Rattle.line_world.specs.FloorPlan.{gap_at}
use Rattle.node_core.specs.Desk.{Desk}
use Rattle.node_core.specs.Event.{Words}
use Rattle.node_core.specs.May.{may_do as may_own, may_reach, no_if as own_if}
use Rattle.node_core.specs.Node.{NodeState, desk_of}
use Rattle.node_core.specs.Sides.{is_open}
use Rattle.node_core.specs.Step.{machine_step}
use Rattle.node_core.specs.Words.{AreWords}
use Rattle.node_core.specs.declared.act.Act.{Act}
use Rattle.node_core.specs.declared.input.Input.TheVariants as inputs
use Rattle.node_core.specs.declared.input.No.{No}
use Rattle.node_core.specs.declared.input.No.TheVariants as nos
use Rattle.node_core.specs.declared.lane.Body.{Body}
use Rattle.node_core.specs.declared.word.Word.{Word}
use Rattle.law_custody.specs.Bytes.{Flows as FlowsAs, Spoiled, texts_of}
use Rattle.law_link_messages.specs.Fit.{AreFitWords}
use Rattle.law_link_messages.specs.Heard.{Heard, HeardSpoiled, bodies}
use Rattle.law_link_messages.proofs.Fitting.{fit_behind}
use Rattle.law_machine_custody.specs.Flight.{AreOldest, oldest_none, oldest_wrong}
use Rattle.line_step.specs.Lines.{Flows, arrived}
use Rattle.line_step.specs.Numbered.{node_at}
use Rattle.step_rules.specs.Opened.{open_after}
use Rattle.line_step.specs.Reasons.{May, behind_own, has_link, has_neighbour, if_there, is_dry_at, is_empty, may_do, may_flow, no_if}
use Rattle.line_step.specs.State.{LineState, machine_in}
use Rattle.line_step.specs.Steps.{MachineSteps, moment_of, unread_by}
use Rattle.line_step.specs.World.{WorldParts, link_at, with_link}
use Rattle.line_step.proofs.Numbers.{floor_stays, link_set_other, link_set_own, machine_within}
use Rattle.step_rules.proofs.Opening.{steps_open}
use Rattle.law_one_standing.specs.Carried.{Carried, Carries, Hides, Trace, carries_over, carries_spoiled, carries_whole}
use Rattle.law_one_standing.specs.Links.{AreWholeLinks}
use Rattle.law_one_standing.specs.Mirrors.{Mirrors}
use Rattle.law_one_standing.specs.Stands.{Stands}
use Rattle.law_one_standing.proofs.Carrying.{SaysAlone}
use Rattle.law_one_standing.proofs.Cleared.{hides_arrived}
use Rattle.law_one_standing.proofs.CarryingSides.{Home, Joint, heard_in, home_closes, home_hears}
use Rattle.law_one_standing.proofs.Counting.{HearsAll, is_wrong_first, step_hears_all}
use Rattle.law_one_standing.proofs.Mirroring.{mirrors_by, same_some}
use Rattle.law_one_standing.proofs.MirroringEnds.{before_one}
use Rattle.law_one_standing.proofs.MirroringPlain.{above_quiet, below_quiet, joint_when, quiet_side}
use Rattle.law_one_standing.proofs.Signalled.{signals_unheard}

-- ---- what a piece comes to at the side that hears it

pub record Arrives (side : Side) (told : List Act) (words : List Word) (stands : Bool) (new : List ℕ) (stream : Stream) (messages : List Horizontal) : Type 0 where
  pub fit : AreFitWords words
  pub oldest : AreOldest words messages
  pub home : Home side told stands new stream messages

pub bodies_drop : (n : ℕ) (messages : List Message) → bodies (drop n messages) ≡ drop n (bodies messages)
bodies_drop zero messages = refl
bodies_drop (suc n) [] = refl
bodies_drop (suc n) (message ∷ messages) = bodies_drop n messages

-- the side is open still, and has heard all words, or it closes in the step
home_when : {stands : Bool} {new : List ℕ} {stream : Stream} {messages : List Horizontal} (side : Side) (told : List Act) (still test : Bool) → still ≡ test → (still ≡ true → Carries stands new stream (drop (heard_in side told) messages))
    → (still ≡ false → open_after side true told ≡ false) → Home side told stands new stream messages
home_when side told still true is hears closes = home_hears (hears is)
home_when side told still false is hears closes = home_closes (closes is)

whole_home : {stands : Bool} {new : List ℕ} {stream : Stream} (side : Side) (told : List Act) (words : List Word) (said : List Message) → heard_in side told ≡ length words
    → Carries stands new stream (bodies (drop (length words) said)) → Carries stands new stream (drop (heard_in side told) (bodies said))
whole_home {stands = stands} {new = new} {stream = stream} side told words said count k = subst (λ (ms : List Horizontal). Carries stands new stream ms) (bodies_drop (length words) said ∙ ap (λ (n : ℕ). drop n (bodies said)) (sym count)) k

pub no_words : (words : List Word) → AreOldest words [] → is_wrong_first words ≡ false → words ≡ []
no_words _ oldest_none good = refl
no_words _ oldest_wrong good = absurd (false≢true (sym good))

pub empty_of : (bytes : List ℕ) → bytes ≡ [] → is_empty bytes ≡ true
empty_of bytes is = ap is_empty is

pub arrives : {stands : Bool} {stream : Stream} {messages : List Horizontal} → SaysAlone → (side : Side) (told : List Act) (words : List Word) (old piece new : List ℕ) (still : Bool) (later : Stream)
    → coming stream ≡ piece ++ coming later → is_empty (coming stream) ≡ false → AreWords old piece new still words → (still ≡ true → HearsAll side words told) → (still ≡ false → open_after side true told ≡ false)
    → Carries stands old stream messages → Arrives side told words stands new later messages
arrives alone side told words old piece new still later is some are hears closes (carries_whole said good flows) =
    let all : FlowsAs old (piece ++ coming later) (texts_of said) = subst (λ (bytes : List ℕ). FlowsAs old bytes (texts_of said)) is flows in
    let sayable = alone.sayable said good in
    let heard : Heard said words new (coming later) still = alone.oldest old piece (coming later) new still words said sayable all are in
    record {
      fit = alone.fit_words old piece (coming later) new still words said sayable good all are;
      oldest = heard.oldest;
      home = home_when side told still still refl (λ on. whole_home side told words said (hears on).count (carries_whole (drop (length words) said) (fit_behind (length words) said good) (heard.flows on))) closes;
    }
arrives {stands = stands} {messages = messages} alone side told words old piece new still later is some are hears closes (carries_spoiled spoiled hides) =
    let all : Spoiled old (piece ++ coming later) = subst (λ (bytes : List ℕ). Spoiled old bytes) is spoiled in
    let heard : HeardSpoiled messages words new (coming later) still = alone.wrong old piece (coming later) new still words messages all are in
    let none : HeardSpoiled [] words new (coming later) still = alone.wrong old piece (coming later) new still words [] all are in
    record {
      fit = alone.fit_wrong old piece (coming later) new still words all are;
      oldest = heard.oldest;
      home = home_when side told still still refl
          (λ on.
          let quiet : words ≡ [] = no_words words none.oldest (hears on).good in
          carries_spoiled (heard.spoiled on quiet)
          (subst (λ (n : ℕ). Hides (new ++ coming later) (drop n messages)) (sym ((hears on).count ∙ ap length quiet))
          (hides_arrived old piece (coming later) new (are.all on) quiet (subst (λ (bytes : List ℕ). Hides (old ++ bytes) messages) is hides))))
          closes;
    }
arrives {stream = stream} alone side told words old piece new still later is some are hears closes (carries_over off nothing) = absurd (false≢true (sym some ∙ empty_of (coming stream) nothing))

-- ---- what the step of the machine says of it

pub words_heard : (number j : ℕ) (side : Side) (piece : Bor (List ℕ)) (start after : LineState) (told : List Happening) (steps : MachineSteps number (j + 1) (inputs.Bytes side piece) start after told)
    → is_open side steps.next.lane.body ≡ true → HearsAll side steps.steps.lane.words steps.acts
words_heard number j side piece start after told steps on =
    let node : NodeState = steps.node in
    let desk : Desk = desk_of node (moment_of number) in
    let unread : List Sensed = unread_by (j + 1) start.world in
    let lane = steps.steps.lane in
    let opened : is_open side (machine_step desk unread (Words side lane.words) node.lane.body).body ≡ true = sym (ap (λ (b : Body). is_open side b) lane.body) ∙ on in
    let all : HearsAll side lane.words (machine_step desk unread (Words side lane.words) node.lane.body).acts = step_hears_all side desk unread lane.words node.lane.body opened in
    record {
      count = ap (heard_in side) steps.steps.told ∙ signals_unheard side steps.steps.made node.bridge steps.next.lane.body ∙ ap (heard_in side) lane.told ∙ all.count;
      good = all.good;
    }

words_close : (number j : ℕ) (side : Side) (piece : Bor (List ℕ)) (start after : LineState) (told : List Happening) (steps : MachineSteps number (j + 1) (inputs.Bytes side piece) start after told)
    → is_open side steps.node.lane.body ≡ true → is_open side steps.next.lane.body ≡ false → open_after side true steps.acts ≡ false
words_close number j side piece start after told steps on off =
    sym (ap (λ (o : Bool). open_after side o steps.acts) on)
    ∙ sym (steps_open steps.node (unread_by (j + 1) start.world) (inputs.Bytes side piece) (moment_of number) steps.next steps.acts side steps.steps) ∙ off

-- ---- the bytes that arrive

pub arrival : (n : ℕ) (stream : Stream) (piece : List ℕ) → piece ≡ take n (coming stream) → coming stream ≡ piece ++ coming (with_arrival n stream)
arrival n stream piece is = sym (take-append-drop n (coming stream)) ∙ ap (λ (front : List ℕ). front ++ drop n (coming stream)) (sym is) ∙ ap (λ (back : List ℕ). piece ++ back) (sym (coming_of_arrival n stream))

-- what may flow: there is a link, the side is open, and something comes
pub record CanFlow (machine : ℕ) (side : Side) (s : LineState) : Type 0 where
  pub node : NodeState
  pub there : machine_in machine s ≡ Some node
  pub beside : has_neighbour machine side s ≡ true
  pub opened : is_open side node.lane.body ≡ true
  pub comes : is_dry_at machine side s.world ≡ false

reach_if : (test : Bool) (why : No) (rest : May) → behind_own (own_if (not test) why may_own) rest ≡ may_do → (test ≡ true) × (rest ≡ may_do)
reach_if true why rest is = (refl, is)
reach_if false why rest is = absurd (cc)

can_by : (machine : ℕ) (side : Side) (s : LineState) (found : Option NodeState) → machine_in machine s ≡ found
    → if_there found (λ (n : NodeState). no_if (not (has_neighbour machine side s)) reasons.NoNeighbour (behind_own (may_reach side n.lane.body) (no_if (is_dry_at machine side s.world) reasons.NothingInFlight may_do))) ≡ may_do → CanFlow machine side s
can_by machine side s None is may = absurd (cc)
can_by machine side s (Some n) is may =
    let one = neighbour_of (has_neighbour machine side s) reasons.NoNeighbour _ may in
    let two = reach_if (is_open side n.lane.body) nos.NotConnected _ one.1 in
    record { node = n; there = is; beside = one.0; opened = two.0; comes = not_full (is_dry_at machine side s.world) reasons.NothingInFlight two.1 }

pub can_flow : (machine : ℕ) (side : Side) (s : LineState) → may_flow machine side s ≡ may_do → CanFlow machine side s
can_flow machine side s may = can_by machine side s (machine_in machine s) refl may

-- ---- links that are there

pub link_there : (link count : ℕ) → 1 ≤ link → link + 1 ≤ count → (nat_le 1 link && nat_lt link count) ≡ true
link_there link count counted within = and_from (nat_le 1 link) (nat_lt link count) (grind (arith, counted)) (grind (arith, within))

-- THE STEP at the entry
flows_entry : SaysAlone → (t : Trace) (number j : ℕ) (count : Option ℕ) (before after : LineState) (told : List Happening) → CanFlow (j + 1) Entry before → number ≤ 1000000 → Stands t before → AreWholeLinks before
    → (flows : Flows number (j + 1) Entry count before after told) → Mirrors number j (inputs.Bytes Entry flows.piece) t before after
flows_entry alone t number j count before after told can few holds links flows =
    let steps = flows.steps in
    let node : NodeState = steps.node in
    let next : NodeState = steps.next in
    let lane = steps.steps.lane in
    let L : LinkParts = link_at j before.world in
    let s : Stream = L.flows.to_downstream in
    let n : ℕ = flowing count s in
    let K : ℕ → WorldParts = λ (k : ℕ). with_link k (after_flow Downstream count (link_at k before.world)) before.world in
    let w : WorldParts = K (j + 1 - 1) in
    let together = holds.together in
    let many = together.links in
    let within = (machine_within (j + 1) before node steps.there).1 in
    let behind : 1 ≤ j = omega (arith, ltb-true 1 (j + 1) can.beside) in
    let there : has_link j before ≡ true = link_there j (length before.machines) behind within in
    let apart : j + 1 ≢ j + 1 - 1 = omega arith in
    let floor : w.floor ≡ before.world.floor = floor_stays (j + 1 - 1) (after_flow Downstream count (link_at (j + 1 - 1) before.world)) before.world in
    let here : link_at j w ≡ after_flow Downstream count L = ap (λ (k : ℕ). link_at j (K k)) (before_one j) ∙ link_set_own j (after_flow Downstream count L) before.world behind (omega (arith, many, within)) in
    let other : link_at (j + 1) w ≡ link_at (j + 1) before.world = link_set_other (j + 1 - 1) (j + 1) (after_flow Downstream count (link_at (j + 1 - 1) before.world)) before.world apart in
    let node_is : node_at before (j + 1) ≡ node = node_there (j + 1) before node steps.there in
    let opened : is_open Entry node.lane.body ≡ true = ap (λ (m : NodeState). is_open Entry m.lane.body) (same_some (sym steps.there ∙ can.there)) ∙ can.opened in
    let some : is_empty (coming s) ≡ false = ap (λ (k : ℕ). is_empty (coming (link_at k before.world).flows.to_downstream)) (sym (before_one j)) ∙ can.comes in
    let piece_is : flows.piece.now ≡ take n (coming s) = flows.bytes ∙ ap (λ (k : ℕ). take (flowing count (link_at k before.world).flows.to_downstream) (coming (link_at k before.world).flows.to_downstream)) (before_one j) in
    let carried : Carried t before j = holds.carried j there in
    let waits : Carries L.stands node.lane.entry_bytes s (t.down j) = subst (λ (m : NodeState). Carries L.stands m.lane.entry_bytes s (t.down j)) node_is carried.down in
    let arr : Arrives Entry steps.acts lane.words L.stands next.lane.entry_bytes (with_arrival n s) (t.down j) =
    arrives alone Entry steps.acts lane.words node.lane.entry_bytes flows.piece.now next.lane.entry_bytes (is_open Entry next.lane.body) (with_arrival n s) (arrival n s flows.piece.now piece_is) some lane.brings.0
    (λ on. words_heard number j Entry flows.piece (arrived (j + 1) Entry count before) after told steps on) (λ off. words_close number j Entry flows.piece (arrived (j + 1) Entry count before) after told steps opened off) waits in
    let above : Joint Entry (has_link j before) steps.acts next.lane.entry_bytes (node_at before j).lane.exit_bytes (after_flow Downstream count L) (gap_at before.world.floor j) L.stands (gap_at before.world.floor j) (t.down j) (t.up j) =
    joint_when Entry (has_link j before) steps.acts (λ is. record { is_on = refl; same = refl; comes = arr.home; goes = carried.up; begun = (links j).begun.upstream; begun_home = begun_by (with_arrival n s) (s.arrived + n) s.texts refl }) in
    let exit : next.lane.exit_bytes ≡ (node_at before (j + 1)).lane.exit_bytes = lane.brings.1 ∙ sym (ap (λ (m : NodeState). m.lane.exit_bytes) node_is) in
    let below = below_quiet (has_link (j + 1) before) steps.acts (link_at (j + 1) before.world) (gap_at before.world.floor (j + 1)) refl (λ is. (holds.carried (j + 1) is).up) (λ is. (holds.carried (j + 1) is).down) (links (j + 1)).begun (quiet_side number j (inputs.Bytes Entry flows.piece) (arrived (j + 1) Entry count before) after told Exit refl steps) exit in
    mirrors_by alone t number j (inputs.Bytes Entry flows.piece) before w after told floor refl few holds steps arr.fit arr.oldest
    (subst (λ (l : LinkParts). Joint Entry (has_link j before) steps.acts next.lane.entry_bytes (node_at before j).lane.exit_bytes l (gap_at before.world.floor j) L.stands (gap_at before.world.floor j) (t.down j) (t.up j)) (sym here) above)
    (subst (λ (l : LinkParts). Joint Exit (has_link (j + 1) before) steps.acts next.lane.exit_bytes (node_at before (j + 1 + 1)).lane.entry_bytes l (gap_at before.world.floor (j + 1)) (link_at (j + 1) before.world).stands (gap_at before.world.floor (j + 1)) (t.up (j + 1)) (t.down (j + 1))) (sym other) below)

-- and at the exit
flows_exit : SaysAlone → (t : Trace) (number j : ℕ) (count : Option ℕ) (before after : LineState) (told : List Happening) → CanFlow (j + 1) Exit before → number ≤ 1000000 → Stands t before → AreWholeLinks before
    → (flows : Flows number (j + 1) Exit count before after told) → Mirrors number j (inputs.Bytes Exit flows.piece) t before after
flows_exit alone t number j count before after told can few holds links flows =
    let steps = flows.steps in
    let node : NodeState = steps.node in
    let next : NodeState = steps.next in
    let lane = steps.steps.lane in
    let L : LinkParts = link_at (j + 1) before.world in
    let s : Stream = L.flows.to_upstream in
    let n : ℕ = flowing count s in
    let w : WorldParts = with_link (j + 1) (after_flow Upstream count L) before.world in
    let together = holds.together in
    let many = together.links in
    let within : j + 1 + 1 ≤ length before.machines = omega (arith, ltb-true (j + 1) (length before.machines) can.beside) in
    let counted : 1 ≤ j + 1 = omega arith in
    let there : has_link (j + 1) before ≡ true = link_there (j + 1) (length before.machines) counted within in
    let apart : j ≢ j + 1 = omega arith in
    let floor : w.floor ≡ before.world.floor = floor_stays (j + 1) (after_flow Upstream count L) before.world in
    let here : link_at (j + 1) w ≡ after_flow Upstream count L = link_set_own (j + 1) (after_flow Upstream count L) before.world counted (omega (arith, many, within)) in
    let other : link_at j w ≡ link_at j before.world = link_set_other (j + 1) j (after_flow Upstream count L) before.world apart in
    let node_is : node_at before (j + 1) ≡ node = node_there (j + 1) before node steps.there in
    let opened : is_open Exit node.lane.body ≡ true = ap (λ (m : NodeState). is_open Exit m.lane.body) (same_some (sym steps.there ∙ can.there)) ∙ can.opened in
    let carried : Carried t before (j + 1) = holds.carried (j + 1) there in
    let waits : Carries L.stands node.lane.exit_bytes s (t.up (j + 1)) = subst (λ (m : NodeState). Carries L.stands m.lane.exit_bytes s (t.up (j + 1))) node_is carried.up in
    let arr : Arrives Exit steps.acts lane.words L.stands next.lane.exit_bytes (with_arrival n s) (t.up (j + 1)) =
    arrives alone Exit steps.acts lane.words node.lane.exit_bytes flows.piece.now next.lane.exit_bytes (is_open Exit next.lane.body) (with_arrival n s) (arrival n s flows.piece.now flows.bytes) can.comes lane.brings.0
    (λ on. words_heard number j Exit flows.piece (arrived (j + 1) Exit count before) after told steps on) (λ off. words_close number j Exit flows.piece (arrived (j + 1) Exit count before) after told steps opened off) waits in
    let below : Joint Exit (has_link (j + 1) before) steps.acts next.lane.exit_bytes (node_at before (j + 1 + 1)).lane.entry_bytes (after_flow Upstream count L) (gap_at before.world.floor (j + 1)) L.stands (gap_at before.world.floor (j + 1)) (t.up (j + 1)) (t.down (j + 1)) =
    joint_when Exit (has_link (j + 1) before) steps.acts (λ is. record { is_on = refl; same = refl; comes = arr.home; goes = carried.down; begun = (links (j + 1)).begun.downstream; begun_home = begun_by (with_arrival n s) (s.arrived + n) s.texts refl }) in
    let entry : next.lane.entry_bytes ≡ (node_at before (j + 1)).lane.entry_bytes = lane.brings.1 ∙ sym (ap (λ (m : NodeState). m.lane.entry_bytes) node_is) in
    let above = above_quiet (has_link j before) steps.acts (link_at j before.world) (gap_at before.world.floor j) refl (λ is. (holds.carried j is).up) (λ is. (holds.carried j is).down) (links j).begun (quiet_side number j (inputs.Bytes Exit flows.piece) (arrived (j + 1) Exit count before) after told Entry refl steps) entry in
    mirrors_by alone t number j (inputs.Bytes Exit flows.piece) before w after told floor refl few holds steps arr.fit arr.oldest
    (subst (λ (l : LinkParts). Joint Entry (has_link j before) steps.acts next.lane.entry_bytes (node_at before j).lane.exit_bytes l (gap_at before.world.floor j) (link_at j before.world).stands (gap_at before.world.floor j) (t.down j) (t.up j)) (sym other) above)
    (subst (λ (l : LinkParts). Joint Exit (has_link (j + 1) before) steps.acts next.lane.exit_bytes (node_at before (j + 1 + 1)).lane.entry_bytes l (gap_at before.world.floor (j + 1)) L.stands (gap_at before.world.floor (j + 1)) (t.up (j + 1)) (t.down (j + 1))) (sym here) below)

pub mirrors_flow : SaysAlone → (t : Trace) (number j : ℕ) (side : Side) (count : Option ℕ) (before after : LineState) (told : List Happening) → may_flow (j + 1) side before ≡ may_do → number ≤ 1000000 → Stands t before → AreWholeLinks before
    → (flows : Flows number (j + 1) side count before after told) → Mirrors number j (inputs.Bytes side flows.piece) t before after
mirrors_flow alone t number j Entry count before after told may few holds links flows = flows_entry alone t number j count before after told (can_flow (j + 1) Entry before may) few holds links flows
mirrors_flow alone t number j Exit count before after told may few holds links flows = flows_exit alone t number j count before after told (can_flow (j + 1) Exit before may) few holds links flows
