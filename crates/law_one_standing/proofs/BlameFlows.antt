-- A step in which bytes arrive.
use Rattle.std.proofs.Common.{Bool, List, Option, Some, ap, arith, false, inl, inr, length, ltb-true, refl, subst, sym, true, ℕ, ◌++◌, ◌+◌, ◌-◌, ◌∙◌, ◌≡◌, ◌≢◌, ◌≤◌, ◌⊎◌}
use Rattle.std.proofs.lemmas.Bool.{false≢true}
use Rattle.law_one_standing.proofs.RestLine.{node_there}
use Rattle.line_base.specs.declared.states.Role.TheVariants.{Downstream, Upstream}
use Rattle.line_base.specs.declared.states.Side.{Side}
use Rattle.line_base.specs.declared.states.Side.TheVariants.{Entry, Exit}
use Rattle.line_link.specs.Flow.{Stream, coming, flowing, with_arrival}
use Rattle.line_link.specs.Link.{LinkParts, after_flow}
use Rattle.line_report.specs.declared.happening.Happening.{Happening}
use Rattle.line_world.specs.FloorPlan.{FloorPlan, machine_at}
use Rattle.node_core.specs.Desk.{Desk}
use Rattle.node_core.specs.Event.{Words}
use Rattle.node_core.specs.Node.{NodeState, desk_of}
use Rattle.node_core.specs.Sides.{is_open}
use Rattle.node_core.specs.Step.{machine_step}
use Rattle.node_core.specs.Words.{AreWords}
use Rattle.node_core.specs.declared.act.Act.{Act}
use Rattle.node_core.specs.declared.input.Input.TheVariants as inputs
use Rattle.node_core.specs.declared.word.Word.{Word}
use Rattle.node_core.proofs.Offers.{to_offers}
use Rattle.law_link_messages.specs.Fit.{AreFitActs, AreFitWords}
use Rattle.law_machine_custody.specs.Flight.{AreOldest}
use Rattle.line_step.specs.Lines.{Flows, arrived}
use Rattle.line_step.specs.Numbered.{node_at}
use Rattle.line_step.specs.Reasons.{has_link, is_empty}
use Rattle.line_step.specs.State.{LineState, machine_in}
use Rattle.line_step.specs.Steps.{moment_of, unread_by}
use Rattle.line_step.specs.Together.{IsLineTogether}
use Rattle.line_step.specs.World.{link_at, link_of}
use Rattle.line_step.proofs.Numbers.{floor_stays, machine_set_own, machine_within, same_or_not}
use Rattle.law_one_standing.specs.Carried.{Carried, Carries, IsFitMachine, Trace}
use Rattle.law_one_standing.specs.Links.{AreWholeLinks}
use Rattle.law_one_standing.specs.Mirrors.{scene_at}
use Rattle.law_one_standing.specs.Stands.{Stands}
use Rattle.law_one_standing.proofs.Behind.{fit_machine}
use Rattle.law_one_standing.proofs.BlameLinks.{AreClear, Clear, are_clear_fix, are_clear_ready, are_clear_set, clear_arrives, clear_over, clear_ready, none_free}
use Rattle.step_rules.proofs.BlameReady.{is_ready}
use Rattle.law_one_standing.proofs.BlameSteps.{AreClearIn, AreMildAt, IsShut, acts_fit, entries_of, entries_ready, exits_of, exits_ready, free_of, frees_by, frees_there, heard_good, heard_ready, is_shut, others_stay, ready_of, spoken_mild, step_clear}
use Rattle.law_one_standing.proofs.BlameWords.{AreSpoken, carries_oldest, clear_waits, words_fit, words_spoken}
use Rattle.law_one_standing.proofs.Carrying.{SaysAlone}
use Rattle.law_one_standing.proofs.HandSteps.{good_node, offers_node}
use Rattle.law_one_standing.proofs.LedgerLine.{same_nodes}
use Rattle.law_one_standing.proofs.MirroringEnds.{before_one}
use Rattle.law_one_standing.proofs.MirroringFlow.{CanFlow, arrival, link_there}
use Rattle.law_one_standing.proofs.Plain.{node_next}
use Rattle.law_one_standing.proofs.Traces.{put, put_other, put_same}
use Rattle.law_one_standing.proofs.WholeLinks.{whole_arrival, whole_links}
use Rattle.smema_bridge.specs.Levels.{BridgeLevels}
use Rattle.node_core.specs.Signals.{signalled}
use Rattle.node_core.specs.declared.lane.Body.{Body}
use Rattle.law_one_standing.proofs.Signalled.{signals_mild}
use Rattle.law_one_standing.proofs.FactsBlame.{Leave, are_mild}
use Rattle.law_one_standing.proofs.LineMoves.{less_one}

-- ---- what arrives at a side, and what is heard

record Hearing (Taint : Type 0) (side : Side) (ready stands : Bool) (old piece later new bytes : List ℕ) (still : Bool) (heard : List Word) : Type 0 where
  is : bytes ≡ piece ++ later
  some : is_empty bytes ≡ false
  are : AreWords old piece new still heard
  clear : Clear Taint side ready false stands old bytes

there_at : (number m : ℕ) (side : Side) (count : Option ℕ) (before after : LineState) (told : List Happening) (flows : Flows number m side count before after told) → node_at before m ≡ flows.steps.node
there_at number m side count before after told flows = node_there m before flows.steps.node flows.steps.there

abbrev exit_stream : ℕ → LineState → Stream
exit_stream m s = (link_at m s.world).flows.to_upstream

abbrev entry_stream : ℕ → LineState → Stream
entry_stream m s = (link_at (m - 1) s.world).flows.to_downstream

abbrev behind_flow : Option ℕ → Stream → List ℕ
behind_flow count stream = coming (with_arrival (flowing count stream) stream)

hearing_exit : {Taint : ℕ → Side → Type 0} (number m : ℕ) (count : Option ℕ) (before after : LineState) (told : List Happening) → CanFlow m Exit before → (flows : Flows number m Exit count before after told) → AreClearIn Taint before
    → Hearing (Taint m Exit) Exit (is_ready Exit flows.steps.node.lane.body) (link_at m before.world).stands flows.steps.node.lane.exit_bytes flows.piece.now (behind_flow count (exit_stream m before)) flows.steps.next.lane.exit_bytes (coming (exit_stream m before)) (is_open Exit flows.steps.next.lane.body) flows.steps.steps.lane.words
hearing_exit {Taint} number m count before after told can flows all =
    let stream : Stream = exit_stream m before in
    record {
      is = arrival (flowing count stream) stream flows.piece.now flows.bytes;
      some = can.comes;
      are = flows.steps.steps.lane.brings.0;
      clear = subst (λ (n : NodeState). Clear (Taint m Exit) Exit (is_ready Exit n.lane.body) false (link_at m before.world).stands n.lane.exit_bytes (coming stream)) (there_at number m Exit count before after told flows) (all.at m).up;
    }

hearing_entry : {Taint : ℕ → Side → Type 0} (number m : ℕ) (count : Option ℕ) (before after : LineState) (told : List Happening) → CanFlow m Entry before → (flows : Flows number m Entry count before after told) → AreClearIn Taint before
    → Hearing (Taint (m - 1) Entry) Entry (is_ready Entry flows.steps.node.lane.body) (link_at (m - 1) before.world).stands flows.steps.node.lane.entry_bytes flows.piece.now (behind_flow count (entry_stream m before)) flows.steps.next.lane.entry_bytes (coming (entry_stream m before)) (is_open Entry flows.steps.next.lane.body) flows.steps.steps.lane.words
hearing_entry {Taint} number m count before after told can flows all =
    let stream : Stream = entry_stream m before in
    let counted : 1 ≤ m = (machine_within m before flows.steps.node flows.steps.there).0 in
    let node_is : node_at before (m - 1 + 1) ≡ flows.steps.node = ap (λ (n : ℕ). node_at before n) (less_one m counted) ∙ there_at number m Entry count before after told flows in
    record {
      is = arrival (flowing count stream) stream flows.piece.now flows.bytes;
      some = can.comes;
      are = flows.steps.steps.lane.brings.0;
      clear = subst (λ (n : NodeState). Clear (Taint (m - 1) Entry) Entry (is_ready Entry n.lane.body) false (link_at (m - 1) before.world).stands n.lane.entry_bytes (coming stream)) node_is (all.at (m - 1)).down;
    }

-- ---- what it breaches

same_acts : (number m : ℕ) (side : Side) (count : Option ℕ) (before after : LineState) (told : List Happening) (flows : Flows number m side count before after told) → (arrived m side count before).world.floor ≡ before.world.floor
    → flows.steps.steps.made ≡ (machine_step (desk_of flows.steps.node (moment_of number)) (unread_by m before.world) (Words side flows.steps.steps.lane.words) flows.steps.node.lane.body).acts
same_acts number m side count before after told flows floor =
    let node : NodeState = flows.steps.node in
    let lane = flows.steps.steps.lane in
    lane.told ∙ ap (λ (f : FloorPlan). (machine_step (desk_of node (moment_of number)) (machine_at f m).unread (Words side lane.words) node.lane.body).acts) floor

-- a bridge's own signals breach nothing
mild_told : (Taint : Type 0) (frees : Side → Bool) (side : Side) (told made : List Act) (bridge : Option BridgeLevels) (body : Body) → told ≡ made ++ signalled bridge body → AreMildAt Taint frees side made → AreMildAt Taint frees side told
mild_told Taint frees side told made bridge body is mild =
    let may : Leave = record { blames = mild.blames; frees = frees } in
    record { blames = mild.blames; mild = ap (are_mild may) is ∙ signals_mild may made bridge body ∙ mild.mild; taints = mild.taints }

exit_mild : {Taint : ℕ → Side → Type 0} → SaysAlone → (t : Trace) (number j : ℕ) (count : Option ℕ) (before after : LineState) (told : List Happening) → CanFlow (j + 1) Exit before → Stands t before → AreClearIn Taint before
    → (flows : Flows number (j + 1) Exit count before after told) → AreMildAt (Taint (j + 1) Exit) (frees_by flows.steps.node.lane.body) Exit flows.steps.acts
exit_mild {Taint} alone t number j count before after told can holds all flows =
    let node : NodeState = flows.steps.node in
    let next : NodeState = flows.steps.next in
    let heard : List Word = flows.steps.steps.lane.words in
    let stream : Stream = exit_stream (j + 1) before in
    let later : List ℕ = behind_flow count stream in
    let h = hearing_exit number (j + 1) count before after told can flows all in
    let node_is : node_at before (j + 1) ≡ node = there_at number (j + 1) Exit count before after told flows in
    let within : j + 1 + 1 ≤ length before.machines = omega (arith, ltb-true (j + 1) (length before.machines) can.beside) in
    let there : has_link (j + 1) before ≡ true = link_there (j + 1) (length before.machines) (omega arith) within in
    let carried : Carried t before (j + 1) = holds.carried (j + 1) there in
    let waits : Carries (link_at (j + 1) before.world).stands node.lane.exit_bytes stream (t.up (j + 1)) = subst (λ (n : NodeState). Carries (link_at (j + 1) before.world).stands n.lane.exit_bytes stream (t.up (j + 1))) node_is carried.up in
    let oldest : AreOldest heard (t.up (j + 1)) = carries_oldest alone flows.piece.now later next.lane.exit_bytes (is_open Exit next.lane.body) heard h.is h.some h.are waits in
    let spoken : AreSpoken (Taint (j + 1) Exit) Exit (is_ready Exit node.lane.body) heard = words_spoken alone flows.piece.now later next.lane.exit_bytes (is_open Exit next.lane.body) heard h.is h.some h.are h.clear in
    let desk : Desk = desk_of node (moment_of number) in
    let made : AreMildAt (Taint (j + 1) Exit) (frees_by flows.steps.node.lane.body) Exit flows.steps.steps.made =
    subst (λ (told : List Act). AreMildAt (Taint (j + 1) Exit) (frees_by flows.steps.node.lane.body) Exit told) (sym (same_acts number (j + 1) Exit count before after told flows (floor_stays (j + 1) (after_flow Upstream count (link_at (j + 1) before.world)) before.world)))
    (spoken_mild desk (unread_by (j + 1) before.world) Exit heard node.lane.body (scene_at t before j) oldest (to_offers node.lane.body (offers_node j t before node holds node_is)) (good_node j t before node holds node_is) spoken) in
    mild_told (Taint (j + 1) Exit) (frees_by node.lane.body) Exit flows.steps.acts flows.steps.steps.made node.bridge next.lane.body flows.steps.steps.told made

entry_mild : {Taint : ℕ → Side → Type 0} → SaysAlone → (t : Trace) (number j : ℕ) (count : Option ℕ) (before after : LineState) (told : List Happening) → CanFlow (j + 1) Entry before → Stands t before → AreClearIn Taint before
    → (flows : Flows number (j + 1) Entry count before after told) → AreMildAt (Taint (j + 1 - 1) Entry) (frees_by flows.steps.node.lane.body) Entry flows.steps.acts
entry_mild {Taint} alone t number j count before after told can holds all flows =
    let node : NodeState = flows.steps.node in
    let next : NodeState = flows.steps.next in
    let heard : List Word = flows.steps.steps.lane.words in
    let later : List ℕ = behind_flow count (entry_stream (j + 1) before) in
    let h = hearing_entry number (j + 1) count before after told can flows all in
    let node_is : node_at before (j + 1) ≡ node = there_at number (j + 1) Entry count before after told flows in
    let within : j + 1 ≤ length before.machines = (machine_within (j + 1) before node flows.steps.there).1 in
    let behind : 1 ≤ j = omega (arith, ltb-true 1 (j + 1) can.beside) in
    let there : has_link j before ≡ true = link_there j (length before.machines) behind within in
    let stream : Stream = (link_at j before.world).flows.to_downstream in
    let same : coming stream ≡ coming (entry_stream (j + 1) before) = ap (λ (k : ℕ). coming (link_at k before.world).flows.to_downstream) (sym (before_one j)) in
    let carried : Carried t before j = holds.carried j there in
    let waits : Carries (link_at j before.world).stands node.lane.entry_bytes stream (t.down j) = subst (λ (n : NodeState). Carries (link_at j before.world).stands n.lane.entry_bytes stream (t.down j)) node_is carried.down in
    let oldest : AreOldest heard (t.down j) = carries_oldest alone flows.piece.now later next.lane.entry_bytes (is_open Entry next.lane.body) heard (same ∙ h.is) (ap is_empty same ∙ h.some) h.are waits in
    let spoken : AreSpoken (Taint (j + 1 - 1) Entry) Entry (is_ready Entry node.lane.body) heard = words_spoken alone flows.piece.now later next.lane.entry_bytes (is_open Entry next.lane.body) heard h.is h.some h.are h.clear in
    let desk : Desk = desk_of node (moment_of number) in
    let made : AreMildAt (Taint (j + 1 - 1) Entry) (frees_by flows.steps.node.lane.body) Entry flows.steps.steps.made =
    subst (λ (told : List Act). AreMildAt (Taint (j + 1 - 1) Entry) (frees_by flows.steps.node.lane.body) Entry told) (sym (same_acts number (j + 1) Entry count before after told flows (floor_stays (j + 1 - 1) (after_flow Downstream count (link_at (j + 1 - 1) before.world)) before.world)))
    (spoken_mild desk (unread_by (j + 1) before.world) Entry heard node.lane.body (scene_at t before j) oldest (to_offers node.lane.body (offers_node j t before node holds node_is)) (good_node j t before node holds node_is) spoken) in
    mild_told (Taint (j + 1 - 1) Entry) (frees_by node.lane.body) Entry flows.steps.acts flows.steps.steps.made node.bridge next.lane.body flows.steps.steps.told made

-- ---- what flows behind it

there_behind : (number m : ℕ) (side : Side) (count : Option ℕ) (before after : LineState) (told : List Happening) (flows : Flows number m side count before after told) → machine_in m after ≡ Some flows.steps.next
there_behind number m side count before after told flows = ap (machine_in m) flows.steps.after_is ∙ machine_set_own m (arrived m side count before) flows.steps.node flows.steps.next flows.steps.there

pub others_same : (number m : ℕ) (side : Side) (count : Option ℕ) (before after : LineState) (told : List Happening) (flows : Flows number m side count before after told) → (k : ℕ) → k ≢ m → node_at after k ≡ node_at before k
others_same number m side count before after told flows k apart =
    others_stay number m (inputs.Bytes side flows.piece) (arrived m side count before) after told flows.steps k apart ∙ same_nodes before (arrived m side count before) refl k

pub own_behind : (number m : ℕ) (side : Side) (count : Option ℕ) (before after : LineState) (told : List Happening) (flows : Flows number m side count before after told) → node_at after m ≡ flows.steps.next
own_behind number m side count before after told flows = node_next number m (inputs.Bytes side flows.piece) (arrived m side count before) after told flows.steps

pub flow_fit : (number m : ℕ) (side : Side) (count : Option ℕ) (before after : LineState) (told : List Happening) → number ≤ 1000000 → IsFitMachine before m → (flows : Flows number m side count before after told) → AreFitWords flows.steps.steps.lane.words → AreFitActs flows.steps.acts
flow_fit number m side count before after told few fit flows words =
    acts_fit number m (inputs.Bytes side flows.piece) (arrived m side count before) after told few (fit_machine before (arrived m side count before) m (same_nodes before (arrived m side count before) refl m) fit) flows.steps words

-- a step in which bytes arrive leaves each side ready that was
more_ready : (number m : ℕ) (side : Side) (count : Option ℕ) (before after : LineState) (told : List Happening) → Flows number m side count before after told → (link : ℕ) (at : Side) → ready_of before link at ≡ true → ready_of after link at ≡ true
more_ready number m side count before after told flows link Exit is =
    exits_ready number m (inputs.Bytes side flows.piece) (arrived m side count before) after told flows.steps refl link (ap (λ (n : NodeState). is_ready Exit n.lane.body) (same_nodes before (arrived m side count before) refl link) ∙ is)
more_ready number m side count before after told flows link Entry is =
    entries_ready number m (inputs.Bytes side flows.piece) (arrived m side count before) after told flows.steps refl link (ap (λ (n : NodeState). is_ready Entry n.lane.body) (same_nodes before (arrived m side count before) refl (link + 1)) ∙ is)

exit_clear : {Taint : ℕ → Side → Type 0} → SaysAlone → (number m : ℕ) (count : Option ℕ) (before after : LineState) (told : List Happening) → number ≤ 1000000 → IsFitMachine before m → CanFlow m Exit before → AreWholeLinks before → AreWholeLinks after → IsLineTogether after
    → (flows : Flows number m Exit count before after told) → AreMildAt (Taint m Exit) (frees_by flows.steps.node.lane.body) Exit flows.steps.acts → AreClearIn Taint before → AreClear Taint (ready_of before) (free_of before) (exits_of before) (entries_of before) before.world → AreClearIn Taint after
exit_clear {Taint} alone number m count before after told few fit can whole then together flows mild all free =
    are_clear_fix m after.world (λ k apart. ap (λ (n : NodeState). n.lane.exit_bytes) (others_same number m Exit count before after told flows k apart) ∙ sym (put_other m k (old ++ piece) (exits_of before) apart))
    (λ k apart. entry_same (k + 1)) behind (record {
      up = subst (λ (n : NodeState). Clear (Taint m Exit) Exit (is_ready Exit n.lane.body) false (link_at m after.world).stands n.lane.exit_bytes (coming (exit_stream m after))) (sym own_is) (own (is_open Exit next.lane.body) refl);
      down = subst (λ (w : List ℕ). Clear (Taint m Entry) Entry (ready_of after m Entry) false (link_at m after.world).stands w (coming (link_at m after.world).flows.to_downstream)) (sym (entry_same (m + 1))) (behind.at m).down;
    })
  where
    node : NodeState
    node = flows.steps.node

    next : NodeState
    next = flows.steps.next

    heard : List Word
    heard = flows.steps.steps.lane.words

    old : List ℕ
    old = node.lane.exit_bytes

    piece : List ℕ
    piece = flows.piece.now

    parts : LinkParts
    parts = after_flow Upstream count (link_at m before.world)

    later : List ℕ
    later = behind_flow count (exit_stream m before)

    exits2 : ℕ → List ℕ
    exits2 = put m (old ++ piece) (exits_of before)

    h : Hearing (Taint m Exit) Exit (is_ready Exit node.lane.body) (link_at m before.world).stands old piece later next.lane.exit_bytes (coming (exit_stream m before)) (is_open Exit next.lane.body) heard
    h = hearing_exit number m count before after told can flows all

    own_is : node_at after m ≡ next
    own_is = own_behind number m Exit count before after told flows

    entry_by : (n : ℕ) → (n ≡ m) ⊎ (n ≢ m) → (node_at after n).lane.entry_bytes ≡ (node_at before n).lane.entry_bytes
    entry_by n (inl is) =
        ap (λ (k : ℕ). (node_at after k).lane.entry_bytes) is ∙ ap (λ (x : NodeState). x.lane.entry_bytes) own_is ∙ flows.steps.steps.lane.brings.1
        ∙ sym (ap (λ (x : NodeState). x.lane.entry_bytes) (there_at number m Exit count before after told flows)) ∙ sym (ap (λ (k : ℕ). (node_at before k).lane.entry_bytes) is)
    entry_by n (inr apart) = ap (λ (x : NodeState). x.lane.entry_bytes) (others_same number m Exit count before after told flows n apart)

    entry_same : (n : ℕ) → (node_at after n).lane.entry_bytes ≡ (node_at before n).lane.entry_bytes
    entry_same n = entry_by n (same_or_not n m)

    here : Clear (Taint m Exit) Exit (ready_of before m Exit) (free_of before m Exit) (link_at m before.world).stands old (coming (exit_stream m before))
    here = subst (λ (w : List ℕ). Clear (Taint m Exit) Exit (ready_of before m Exit) (free_of before m Exit) (link_at m before.world).stands w (coming (exit_stream m before))) (ap (λ (n : NodeState). n.lane.exit_bytes) (there_at number m Exit count before after told flows)) (free.at m).up

    start : AreClear Taint (ready_of before) (free_of before) exits2 (entries_of before) (arrived m Exit count before).world
    start = are_clear_set m parts before.world (λ k apart. put_other m k (old ++ piece) (exits_of before) apart) (λ k apart. refl) free (record {
      up = subst (λ (w : List ℕ). Clear (Taint m Exit) Exit (ready_of before m Exit) (free_of before m Exit) (link_at m before.world).stands w later) (sym (put_same m (old ++ piece) (exits_of before))) (clear_arrives piece later h.is here);
      down = (free.at m).down;
    })

    walked : AreClear Taint (ready_of before) (free_of before) exits2 (entries_of before) after.world
    walked = step_clear alone (record { blames = mild.blames; frees = frees_by node.lane.body }) number m (inputs.Bytes Exit flows.piece) (arrived m Exit count before) after told flows.steps
        (flow_fit number m Exit count before after told few fit flows (words_fit alone piece later next.lane.exit_bytes (is_open Exit next.lane.body) heard h.is h.some h.are h.clear)) mild.mild (frees_there m before node flows.steps.there) (λ second. absurd (false≢true second))
        (whole_links m parts before.world whole (whole_arrival Upstream count (link_at m before.world) (whole m))) start

    behind : AreClear Taint (ready_of after) none_free exits2 (entries_of before) after.world
    behind = are_clear_ready (ready_of after) after.world (more_ready number m Exit count before after told flows) walked

    own : (test : Bool) → is_open Exit next.lane.body ≡ test → Clear (Taint m Exit) Exit (is_ready Exit next.lane.body) false (link_at m after.world).stands next.lane.exit_bytes (coming (exit_stream m after))
    own true on =
        clear_ready (is_ready Exit next.lane.body) (heard_ready number m Exit flows.piece (arrived m Exit count before) after told flows.steps)
        (clear_waits alone old piece next.lane.exit_bytes (is_open Exit next.lane.body) heard h.are on (heard_good number m Exit flows.piece (arrived m Exit count before) after told flows.steps on)
        (subst (λ (n : NodeState). Clear (Taint m Exit) Exit (is_ready Exit n.lane.body) (free_of before m Exit) (link_at m after.world).stands (old ++ piece) (coming (exit_stream m after))) (there_at number m Exit count before after told flows)
        (subst (λ (w : List ℕ). Clear (Taint m Exit) Exit (ready_of before m Exit) (free_of before m Exit) (link_at m after.world).stands w (coming (exit_stream m after))) (put_same m (old ++ piece) (exits_of before)) (walked.at m).up)))
    own false off = let shut : IsShut Exit (link_at m after.world) = is_shut m Exit after next together then (there_behind number m Exit count before after told flows) off in clear_over shut.off shut.none

entry_clear : {Taint : ℕ → Side → Type 0} → SaysAlone → (number m : ℕ) (count : Option ℕ) (before after : LineState) (told : List Happening) → number ≤ 1000000 → IsFitMachine before m → CanFlow m Entry before → AreWholeLinks before → AreWholeLinks after → IsLineTogether after
    → (flows : Flows number m Entry count before after told) → AreMildAt (Taint (m - 1) Entry) (frees_by flows.steps.node.lane.body) Entry flows.steps.acts → AreClearIn Taint before → AreClear Taint (ready_of before) (free_of before) (exits_of before) (entries_of before) before.world → AreClearIn Taint after
entry_clear {Taint} alone number m count before after told few fit can whole then together flows mild all free =
    are_clear_fix (m - 1) after.world (λ k apart. exit_same k)
    (λ k apart. ap (λ (n : NodeState). n.lane.entry_bytes) (others_same number m Entry count before after told flows (k + 1) (not_own k apart)) ∙ sym (put_other (m - 1) k (old ++ piece) (entries_of before) apart)) behind (record {
      up = subst (λ (w : List ℕ). Clear (Taint (m - 1) Exit) Exit (ready_of after (m - 1) Exit) false (link_at (m - 1) after.world).stands w (coming (link_at (m - 1) after.world).flows.to_upstream)) (sym (exit_same (m - 1))) (behind.at (m - 1)).up;
      down = subst (λ (n : NodeState). Clear (Taint (m - 1) Entry) Entry (is_ready Entry n.lane.body) false (link_at (m - 1) after.world).stands n.lane.entry_bytes (coming (entry_stream m after))) (sym (ap (λ (k : ℕ). node_at after k) (less_one m counted) ∙ own_is))
          (own (is_open Entry next.lane.body) refl);
    })
  where
    node : NodeState
    node = flows.steps.node

    next : NodeState
    next = flows.steps.next

    heard : List Word
    heard = flows.steps.steps.lane.words

    old : List ℕ
    old = node.lane.entry_bytes

    piece : List ℕ
    piece = flows.piece.now

    parts : LinkParts
    parts = after_flow Downstream count (link_at (m - 1) before.world)

    later : List ℕ
    later = behind_flow count (entry_stream m before)

    entries2 : ℕ → List ℕ
    entries2 = put (m - 1) (old ++ piece) (entries_of before)

    counted : 1 ≤ m
    counted = (machine_within m before node flows.steps.there).0

    not_own : (k : ℕ) → k ≢ m - 1 → k + 1 ≢ m
    not_own k apart is = apart (omega (arith, is))

    h : Hearing (Taint (m - 1) Entry) Entry (is_ready Entry node.lane.body) (link_at (m - 1) before.world).stands old piece later next.lane.entry_bytes (coming (entry_stream m before)) (is_open Entry next.lane.body) heard
    h = hearing_entry number m count before after told can flows all

    own_is : node_at after m ≡ next
    own_is = own_behind number m Entry count before after told flows

    exit_by : (n : ℕ) → (n ≡ m) ⊎ (n ≢ m) → (node_at after n).lane.exit_bytes ≡ (node_at before n).lane.exit_bytes
    exit_by n (inl is) =
        ap (λ (k : ℕ). (node_at after k).lane.exit_bytes) is ∙ ap (λ (x : NodeState). x.lane.exit_bytes) own_is ∙ flows.steps.steps.lane.brings.1
        ∙ sym (ap (λ (x : NodeState). x.lane.exit_bytes) (there_at number m Entry count before after told flows)) ∙ sym (ap (λ (k : ℕ). (node_at before k).lane.exit_bytes) is)
    exit_by n (inr apart) = ap (λ (x : NodeState). x.lane.exit_bytes) (others_same number m Entry count before after told flows n apart)

    exit_same : (n : ℕ) → (node_at after n).lane.exit_bytes ≡ (node_at before n).lane.exit_bytes
    exit_same n = exit_by n (same_or_not n m)

    was_is : node_at before (m - 1 + 1) ≡ node
    was_is = ap (λ (k : ℕ). node_at before k) (less_one m counted) ∙ there_at number m Entry count before after told flows

    here : Clear (Taint (m - 1) Entry) Entry (ready_of before (m - 1) Entry) (free_of before (m - 1) Entry) (link_at (m - 1) before.world).stands old (coming (entry_stream m before))
    here = subst (λ (w : List ℕ). Clear (Taint (m - 1) Entry) Entry (ready_of before (m - 1) Entry) (free_of before (m - 1) Entry) (link_at (m - 1) before.world).stands w (coming (entry_stream m before))) (ap (λ (n : NodeState). n.lane.entry_bytes) was_is) (free.at (m - 1)).down

    start : AreClear Taint (ready_of before) (free_of before) (exits_of before) entries2 (arrived m Entry count before).world
    start = are_clear_set (m - 1) parts before.world (λ k apart. refl) (λ k apart. put_other (m - 1) k (old ++ piece) (entries_of before) apart) free (record {
      up = (free.at (m - 1)).up;
      down = subst (λ (w : List ℕ). Clear (Taint (m - 1) Entry) Entry (ready_of before (m - 1) Entry) (free_of before (m - 1) Entry) (link_at (m - 1) before.world).stands w later) (sym (put_same (m - 1) (old ++ piece) (entries_of before))) (clear_arrives piece later h.is here);
    })

    walked : AreClear Taint (ready_of before) (free_of before) (exits_of before) entries2 after.world
    walked = step_clear alone (record { blames = mild.blames; frees = frees_by node.lane.body }) number m (inputs.Bytes Entry flows.piece) (arrived m Entry count before) after told flows.steps
        (flow_fit number m Entry count before after told few fit flows (words_fit alone piece later next.lane.entry_bytes (is_open Entry next.lane.body) heard h.is h.some h.are h.clear)) mild.mild (frees_there m before node flows.steps.there) (λ second. absurd (false≢true second))
        (whole_links (m - 1) parts before.world whole (whole_arrival Downstream count (link_at (m - 1) before.world) (whole (m - 1)))) start

    behind : AreClear Taint (ready_of after) none_free (exits_of before) entries2 after.world
    behind = are_clear_ready (ready_of after) after.world (more_ready number m Entry count before after told flows) walked

    own : (test : Bool) → is_open Entry next.lane.body ≡ test → Clear (Taint (m - 1) Entry) Entry (is_ready Entry next.lane.body) false (link_at (m - 1) after.world).stands next.lane.entry_bytes (coming (entry_stream m after))
    own true on =
        clear_ready (is_ready Entry next.lane.body) (heard_ready number m Entry flows.piece (arrived m Entry count before) after told flows.steps)
        (clear_waits alone old piece next.lane.entry_bytes (is_open Entry next.lane.body) heard h.are on (heard_good number m Entry flows.piece (arrived m Entry count before) after told flows.steps on)
        (subst (λ (n : NodeState). Clear (Taint (m - 1) Entry) Entry (is_ready Entry n.lane.body) (free_of before (m - 1) Entry) (link_at (m - 1) after.world).stands (old ++ piece) (coming (entry_stream m after))) was_is
        (subst (λ (w : List ℕ). Clear (Taint (m - 1) Entry) Entry (ready_of before (m - 1) Entry) (free_of before (m - 1) Entry) (link_at (m - 1) after.world).stands w (coming (entry_stream m after))) (put_same (m - 1) (old ++ piece) (entries_of before)) (walked.at (m - 1)).down)))
    own false off = let shut : IsShut Entry (link_at (m - 1) after.world) = is_shut m Entry after next together then (there_behind number m Entry count before after told flows) off in clear_over shut.off shut.none

-- ---- at either side

pub flow_mild : {Taint : ℕ → Side → Type 0} → SaysAlone → (t : Trace) (number j : ℕ) (side : Side) (count : Option ℕ) (before after : LineState) (told : List Happening) → CanFlow (j + 1) side before → Stands t before → AreClearIn Taint before
    → (flows : Flows number (j + 1) side count before after told) → AreMildAt (Taint (link_of (j + 1) side) side) (frees_by flows.steps.node.lane.body) side flows.steps.acts
flow_mild alone t number j Entry count before after told can holds all flows = entry_mild alone t number j count before after told can holds all flows
flow_mild alone t number j Exit count before after told can holds all flows = exit_mild alone t number j count before after told can holds all flows

pub flow_clear : {Taint : ℕ → Side → Type 0} → SaysAlone → (number m : ℕ) (side : Side) (count : Option ℕ) (before after : LineState) (told : List Happening) → number ≤ 1000000 → IsFitMachine before m → CanFlow m side before → AreWholeLinks before → AreWholeLinks after → IsLineTogether after
    → (flows : Flows number m side count before after told) → AreMildAt (Taint (link_of m side) side) (frees_by flows.steps.node.lane.body) side flows.steps.acts → AreClearIn Taint before → AreClear Taint (ready_of before) (free_of before) (exits_of before) (entries_of before) before.world → AreClearIn Taint after
flow_clear alone number m Entry count before after told few fit can whole then together flows mild all free = entry_clear alone number m count before after told few fit can whole then together flows mild all free
flow_clear alone number m Exit count before after told few fit can whole then together flows mild all free = exit_clear alone number m count before after told few fit can whole then together flows mild all free
