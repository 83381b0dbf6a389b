-- What stands together in each link still does after a line of the script.
use Rattle.std.proofs.Common.{Bool, List, None, Option, Some, [], ap, arith, false, length, lt-ltb, ltb-true, refl, subst, sym, true, ℕ, ◌&&◌, ◌+◌, ◌-◌, ◌<◌, ◌∷◌, ◌≡◌, ◌≢◌, ◌⊎◌}
use Rattle.std.specs.Prelude.{cond, drop, is_some, not, take}
use Rattle.std.proofs.lemmas.Bool.{eq-eqb}
use Rattle.std.proofs.lemmas.List.{length-append, length-take-le}
use Rattle.line_link.proofs.Together.{still_dry}
use Rattle.law_one_standing.proofs.CarryingSides.{begun_text}
use Rattle.line_base.specs.declared.states.Role.{Role}
use Rattle.line_base.specs.declared.states.Role.TheVariants.{Downstream, Upstream}
use Rattle.line_base.specs.declared.states.Side.{Side}
use Rattle.hermes_horizontal.specs.Canonical.{canonical}
use Rattle.line_link.specs.Flow.{Stream, dry, flowing, is_begun, nul_put, with_arrival, with_nul, with_text}
use Rattle.line_link.specs.Link.{LinkParts, across, after_answer, after_close, after_connect, after_flow, after_send, after_spoil, answer_of, are_joined, connected, connected_of, cut, flow_to, is_dry_without, is_too_much, next_number, no_link, number_of, texted, with_flow_to, within_limit}
use Rattle.line_link.specs.Texts.{with_byte_at}
use Rattle.line_link.proofs.Reaching.{begun_by}
use Rattle.line_report.specs.declared.happening.Happening.{Happening}
use Rattle.line_report.specs.declared.happening.Reason.TheVariants as reasons
use Rattle.node_core.specs.Node.{NodeState}
use Rattle.node_core.specs.declared.act.Act.{Act}
use Rattle.node_core.specs.declared.act.Act.TheVariants as acts
use Rattle.node_core.specs.declared.input.Input.{Input}
use Rattle.node_core.specs.declared.input.Input.TheVariants as inputs
use Rattle.node_core.specs.declared.input.No.TheVariants as nos
use Rattle.line_step.specs.Acts.{act_did, acts_did, answers}
use Rattle.line_step.specs.Lines.{Connects, Flows, LineDoes, arrived, connecting, met}
use Rattle.line_step.specs.Together.{is_linked}
use Rattle.line_step.specs.Reasons.{has_neighbour, if_there, link_stands, may_do, may_spoil, no_if}
use Rattle.line_step.specs.State.{LineState, machine_in, one_more}
use Rattle.line_step.specs.Steps.{MachineSteps, is_second, read_by}
use Rattle.line_step.specs.World.{WorldParts, end_of, link_at, link_of, with_link}
use Rattle.line_step.proofs.Keeps.{more_at}
use Rattle.law_one_standing.specs.Links.{AreWholeLinks, IsWholeLink}
use Rattle.line_step.specs.Requests.{Request}
use Rattle.line_step.proofs.Effects.{Effect, becomes_by, line_effect}
use Rattle.line_step.proofs.Effects as effects
use Rattle.line_step.proofs.LinkRule.{ActKeeps, SentKeeps, act_keeps, link_keeps}

-- ---- what flows

begun_nul : (texts : List (List ℕ)) (arrived : ℕ) → is_begun texts arrived ≡ true → is_begun (nul_put texts arrived).texts (nul_put texts arrived).arrived ≡ true
begun_nul [] arrived begun = refl
begun_nul (text ∷ texts) arrived begun =
    let short : arrived < length text = ltb-true arrived (length text) begun in
    let front = length-take-le arrived text (omega arith) in
    lt-ltb arrived (length (with_byte_at arrived 0 text)) (omega (arith, length-append (take arrived text) (0 ∷ drop arrived text), front))

begun_arrival : (count : ℕ) (stream : Stream) → is_begun (with_arrival count stream).texts (with_arrival count stream).arrived ≡ true
begun_arrival count stream = begun_by (with_arrival count stream) (stream.arrived + count) stream.texts refl

dry_none : (number : Option ℕ) → is_dry_without number [] ≡ true
dry_none None = refl
dry_none (Some number) = refl

-- ---- a link

pub whole_none : IsWholeLink no_link
whole_none = record { joined = refl; dry_upstream = refl; dry_downstream = refl; begun = record { upstream = refl; downstream = refl } }

pub begun_at : (to : Role) (link : LinkParts) → IsWholeLink link → is_begun (flow_to to link).texts (flow_to to link).arrived ≡ true
begun_at Upstream link whole = whole.begun.upstream
begun_at Downstream link whole = whole.begun.downstream

dry_at : (to : Role) (link : LinkParts) → IsWholeLink link → is_dry_without (number_of to link) (flow_to to link).texts ≡ true
dry_at Upstream link whole = whole.dry_upstream
dry_at Downstream link whole = whole.dry_downstream

-- both ends of a link that stands have a number
numbered_by : (to : Role) (stands : Bool) (link : LinkParts) (upstream downstream : Option ℕ) → link.upstream ≡ upstream → link.downstream ≡ downstream → stands ≡ true → are_joined stands upstream downstream ≡ true → is_some (number_of to link) ≡ true
numbered_by to false link upstream downstream up down on joined = absurd (cc)
numbered_by to true link None downstream up down on joined = absurd (cc)
numbered_by to true link (Some number) None up down on joined = absurd (cc)
numbered_by Upstream true link (Some number) (Some other) up down on joined = ap (λ (n : Option ℕ). is_some n) up
numbered_by Downstream true link (Some number) (Some other) up down on joined = ap (λ (n : Option ℕ). is_some n) down

pub numbered : (to : Role) (link : LinkParts) → IsWholeLink link → link.stands ≡ true → is_some (number_of to link) ≡ true
numbered to link whole on = numbered_by to link.stands link link.upstream link.downstream refl refl on whole.joined

dry_numbered : (number : Option ℕ) (texts : List (List ℕ)) → is_some number ≡ true → is_dry_without number texts ≡ true
dry_numbered None texts some = absurd (cc)
dry_numbered (Some number) texts some = refl

pub whole_cut : (link : LinkParts) → IsWholeLink (cut link)
whole_cut link = record { joined = refl; dry_upstream = dry_none link.upstream; dry_downstream = dry_none link.downstream; begun = record { upstream = refl; downstream = refl } }

either : (test : Bool) (one other : LinkParts) → IsWholeLink one → IsWholeLink other → IsWholeLink (cond test one other)
either true one other a b = a
either false one other a b = b

whole_limit : (to : Role) (link : LinkParts) → IsWholeLink link → IsWholeLink (within_limit to link)
whole_limit to link whole = either (is_too_much to link) (cut link) link (whole_cut link) whole

-- something else flows to an end
whole_flow : (to : Role) (stream : Stream) (link : LinkParts) → IsWholeLink link → is_dry_without (number_of to link) stream.texts ≡ true → is_begun stream.texts stream.arrived ≡ true → IsWholeLink (with_flow_to to stream link)
whole_flow Upstream stream link whole dry begun = record { joined = whole.joined; dry_upstream = dry; dry_downstream = whole.dry_downstream; begun = record { upstream = begun; downstream = whole.begun.downstream } }
whole_flow Downstream stream link whole dry begun = record { joined = whole.joined; dry_upstream = whole.dry_upstream; dry_downstream = dry; begun = record { upstream = whole.begun.upstream; downstream = begun } }

whole_send : (from : Role) (text : List ℕ) (link : LinkParts) → IsWholeLink link → IsWholeLink (after_send from text link)
whole_send from text link whole = by link.stands refl
  where
    by : (test : Bool) → link.stands ≡ test → IsWholeLink (cond test (within_limit (across from) (texted (across from) text link)) link)
    by true stands =
        let now = with_text text (flow_to (across from) link) in
        whole_limit (across from) (texted (across from) text link)
        (whole_flow (across from) now link whole (dry_numbered (number_of (across from) link) now.texts (numbered (across from) link whole stands)) (begun_text text (flow_to (across from) link) (begun_at (across from) link whole)))
    by false stands = whole

whole_answer : (text : List ℕ) (link : LinkParts) → IsWholeLink link → IsWholeLink (after_answer text link)
whole_answer text link whole = by link.downstream refl
  where
    by : (number : Option ℕ) → link.downstream ≡ number → IsWholeLink (answer_of number text link)
    by None is = whole
    by (Some number) is =
        whole_limit Downstream (texted Downstream text link) (whole_flow Downstream (with_text text (flow_to Downstream link)) link whole (rw is refl) (begun_text text (flow_to Downstream link) (begun_at Downstream link whole)))

whole_close : (end : Role) (link : LinkParts) → IsWholeLink link → IsWholeLink (after_close end link)
whole_close Upstream link whole = record { joined = refl; dry_upstream = refl; dry_downstream = whole.dry_downstream; begun = record { upstream = refl; downstream = whole.begun.downstream } }
whole_close Downstream link whole = record { joined = refl; dry_upstream = whole.dry_upstream; dry_downstream = refl; begun = record { upstream = whole.begun.upstream; downstream = refl } }

pub whole_arrival : (to : Role) (count : Option ℕ) (link : LinkParts) → IsWholeLink link → IsWholeLink (after_flow to count link)
whole_arrival to count link whole =
    let stream = flow_to to link in
    let many = flowing count stream in
    whole_flow to (with_arrival many stream) link whole (still_dry (number_of to link) (stream.arrived + many) stream.texts (dry_at to link whole)) (begun_arrival many stream)

pub whole_connect : (link : LinkParts) → IsWholeLink link → IsWholeLink (after_connect link)
whole_connect link whole = by link.upstream
  where
    by : (number : Option ℕ) → IsWholeLink (connected number (next_number link.made) link)
    by None = record { joined = eq-eqb (next_number link.made) (next_number link.made) refl; dry_upstream = refl; dry_downstream = refl; begun = whole.begun }
    by (Some number) = record { joined = refl; dry_upstream = whole.dry_upstream; dry_downstream = refl; begun = whole.begun }

pub whole_spoil : (to : Role) (link : LinkParts) → link.stands ≡ true → IsWholeLink link → IsWholeLink (after_spoil to link)
whole_spoil to link stands whole =
    let now = with_nul (flow_to to link) in
    whole_limit to (with_flow_to to now link) (whole_flow to now link whole (dry_numbered (number_of to link) now.texts (numbered to link whole stands)) (begun_nul (flow_to to link).texts (flow_to to link).arrived (begun_at to link whole)))

-- ---- the links of a world

abbrev pub AreWhole : WorldParts → Type 0
AreWhole world = (link : ℕ) → IsWholeLink (link_at link world)

pub whole_links : (link : ℕ) (parts : LinkParts) (world : WorldParts) → ((k : ℕ) → IsWholeLink (link_at k world)) → IsWholeLink parts → (k : ℕ) → IsWholeLink (link_at k (with_link link parts world))
whole_links link parts world all whole k = link_keeps IsWholeLink whole_none k link parts world (λ is. whole) (λ apart. all k)

-- ---- acts

whole_rule : (k : ℕ) (second : Bool) (machine : ℕ) (act : Act) → ActKeeps IsWholeLink IsWholeLink k second machine act
whole_rule k second machine (acts.Sends side message) = by (answers second side message)
  where
    by : (test : Bool) → SentKeeps IsWholeLink IsWholeLink k test machine side message
    by true = λ is link whole also. whole_answer (canonical message) link whole
    by false = λ is link whole also. whole_send (end_of side) (canonical message) link whole
whole_rule k second machine (acts.Closes side) = λ is link whole. whole_close (end_of side) link whole
whole_rule k second machine (acts.Notices side) = λ is link whole. whole_close (end_of side) link whole
whole_rule k second machine _ = tt

-- of one link, and of all
pub whole_at : (k : ℕ) (second : Bool) (machine : ℕ) (act : Act) (world : WorldParts) → IsWholeLink (link_at k world) → IsWholeLink (link_at k (act_did second machine act world).world)
whole_at k second machine act world whole = act_keeps IsWholeLink IsWholeLink whole_none k second machine act world (whole_rule k second machine act) whole whole

pub whole_act : (second : Bool) (machine : ℕ) (act : Act) (world : WorldParts) → AreWhole world → AreWhole (act_did second machine act world).world
whole_act second machine act world all k = whole_at k second machine act world (all k)

pub whole_acts : (second : Bool) (machine : ℕ) (told : List Act) (world : WorldParts) → AreWhole world → AreWhole (acts_did second machine told world).world
whole_acts second machine [] world all = all
whole_acts second machine (act ∷ others) world all = whole_acts second machine others (act_did second machine act world).world (whole_act second machine act world all)

-- ---- a step, a connection, a move

pub steps : (number machine : ℕ) (input : Input) (before after : LineState) (told : List Happening) → MachineSteps number machine input before after told → AreWholeLinks before → AreWholeLinks after
steps number machine input before after told did all =
    subst (λ (s : LineState). AreWholeLinks s) (sym did.after_is) (whole_acts (is_second input) machine did.acts (read_by machine before.world) all)

flows : (number machine : ℕ) (side : Side) (count : Option ℕ) (before after : LineState) (told : List Happening) → Flows number machine side count before after told → AreWholeLinks before → AreWholeLinks after
flows number machine side count before after told flow all =
    let link = link_of machine side in
    steps number machine (inputs.Bytes side flow.piece) (arrived machine side count before) after told flow.steps
    (whole_links link (after_flow (end_of side) count (link_at link before.world)) before.world all (whole_arrival (end_of side) count (link_at link before.world) (all link)))

connects : (number machine : ℕ) (before after : LineState) (told : List Happening) → Connects number machine before after told → AreWholeLinks before → AreWholeLinks after
connects number machine before after told twice all =
    let link = machine - 1 in
    steps number link (met (connected_of (link_at link before.world).upstream)) twice.between after twice.later twice.second
    (steps number machine inputs.Connect (connecting machine before) twice.between twice.earlier twice.first
    (whole_links link (after_connect (link_at link before.world)) before.world all (whole_connect (link_at link before.world) (all link))))

pub more_whole : (lane : ℕ) (is_bridge : Bool) (capacity used : ℕ) (s : LineState) → AreWholeLinks s → AreWholeLinks (one_more lane is_bridge capacity used s)
more_whole lane is_bridge capacity used s all link = subst IsWholeLink (sym (more_at lane is_bridge capacity used s link)) (all link)

-- a link that is spoiled stands, and lies between two machines
pub record CanSpoil (machine : ℕ) (side : Side) (s : LineState) : Type 0 where
  pub node : NodeState
  pub there : machine_in machine s ≡ Some node
  pub neighbour : has_neighbour machine side s ≡ true
  pub stands : (link_at (link_of machine side) s.world).stands ≡ true

can_by : (machine : ℕ) (side : Side) (s : LineState) (found : Option NodeState) (a b c : Bool) → machine_in machine s ≡ found → has_neighbour machine side s ≡ a → (link_at (link_of machine side) s.world).stands ≡ c
    → if_there found (λ (node : NodeState). no_if (not a) reasons.NoNeighbour (no_if b (reasons.Node nos.NotConnected) (no_if (not c) (reasons.Node nos.NotStanding) may_do))) ≡ may_do → CanSpoil machine side s
can_by machine side s None a b c there neighbour stands may = absurd (cc)
can_by machine side s (Some node) false b c there neighbour stands may = absurd (cc)
can_by machine side s (Some node) true true c there neighbour stands may = absurd (cc)
can_by machine side s (Some node) true false false there neighbour stands may = absurd (cc)
can_by machine side s (Some node) true false true there neighbour stands may = record { node = node; there = there; neighbour = neighbour; stands = stands }

pub can_spoil : (machine : ℕ) (side : Side) (s : LineState) → may_spoil machine side s ≡ may_do → CanSpoil machine side s
can_spoil machine side s may =
    can_by machine side s (machine_in machine s) (has_neighbour machine side s) (not (is_linked machine side s.world)) (link_stands machine side s.world) refl refl refl may

-- ---- a line of the script

effect_whole : (number : ℕ) (request : Request) (before next : LineState) (told : List Happening) → AreWholeLinks before → Effect number before next told request → AreWholeLinks next
effect_whole number request before next told all (effects.rests _ what remarks b) = becomes_by (λ s ts. AreWholeLinks s) b all
effect_whole number request before next told all (effects.adds lane is_bridge capacity used may b) = becomes_by (λ s ts. AreWholeLinks s) b (more_whole lane is_bridge capacity used before all)
effect_whole number request before next told all (effects.steps machine input given may did) = steps number machine input before next told did all
effect_whole number request before next told all (effects.connects machine may did) = connects number machine before next told did all
effect_whole number request before next told all (effects.flows machine side count may did) = flows number machine side count before next told did all
effect_whole number request before next told all (effects.cuts gap may b) =
    becomes_by (λ s ts. AreWholeLinks s) b (whole_links gap (cut (link_at gap before.world)) before.world all (whole_cut (link_at gap before.world)))
effect_whole number request before next told all (effects.spoils machine side may b) =
    let link = link_of machine side in
    becomes_by (λ s ts. AreWholeLinks s) b
    (whole_links link (after_spoil (end_of side) (link_at link before.world)) before.world all (whole_spoil (end_of side) (link_at link before.world) (can_spoil machine side before may).stands (all link)))
effect_whole number request before next told all (effects.moves gap step floor is b) = becomes_by (λ s ts. AreWholeLinks s) b all
effect_whole number request before next told all (effects.lies machine sensed may b) = becomes_by (λ s ts. AreWholeLinks s) b all
effect_whole number request before next told all (effects.unsees machine side may b) = becomes_by (λ s ts. AreWholeLinks s) b all

pub does_whole_links : (number : ℕ) (request : Request) (before next : LineState) (told : List Happening) → AreWholeLinks before → LineDoes number request before next told → AreWholeLinks next
does_whole_links number request before next told all does = effect_whole number request before next told all (line_effect number request before next told does)
