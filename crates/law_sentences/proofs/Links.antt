-- What is on its way on each link stays within the limit after a line of the script.
use Rattle.std.proofs.Common.{◌≡◌, ◌≢◌, ◌⊎◌, inl, inr, ◌≤◌, ◌+◌, ◌-◌, ◌&&◌, ℕ, zero, suc, Bool, true, false, cond, List, [], ◌∷◌, Option, Some, None, length, drop, refl, sym, subst, arith, nat_lt}
use Rattle.std.proofs.lemmas.Bool.Decides.{nat_tests}
use Rattle.std.proofs.lemmas.List.{length-drop}
use Rattle.line_base.specs.declared.states.Role.{Role}
use Rattle.line_base.specs.declared.states.Role.TheVariants.{Downstream, Upstream}
use Rattle.line_base.specs.declared.states.Side.{Side}
use Rattle.hermes_horizontal.specs.Canonical.{canonical}
use Rattle.hermes_horizontal.specs.declared.message.Message.{Message}
use Rattle.line_link.specs.Flow.{Stream, coming, flowing, with_arrival, with_nul, with_text}
use Rattle.line_link.specs.Link.{LinkParts, across, after_answer, after_close, after_connect, after_flow, after_send, after_spoil, answer_of, connected, connected_of, cut, flow_to, is_too_much, most_in_flight, next_number, no_link, texted, with_flow_to, within_limit}
use Rattle.line_link.proofs.Coming.{coming_of_arrival}
use Rattle.line_report.specs.declared.happening.Happening.{Happening}
use Rattle.node_core.specs.declared.act.Act.{Act}
use Rattle.node_core.specs.declared.act.Act.TheVariants as acts
use Rattle.node_core.specs.declared.act.Deed.{Deed}
use Rattle.node_core.specs.declared.act.Deed.TheVariants as deeds
use Rattle.node_core.specs.declared.input.Input.{Input}
use Rattle.node_core.specs.declared.input.Input.TheVariants as inputs
use Rattle.line_step.specs.Acts.{act_did, acts_did, counted, is_answer, is_exit, sent_by}
use Rattle.line_step.specs.Lines.{Connects, Flows, LineSteps, arrived, connecting, met}
use Rattle.line_step.specs.Tracks.{TrackLine, TrackSteps, other_line, own_line}
use Rattle.line_step.specs.Runs.{IsRun, Point, state_behind}
use Rattle.line_step.specs.State.{LineState, no_line, one_more}
use Rattle.line_step.specs.Steps.{MachineSteps, is_second, read_by}
use Rattle.line_step.specs.World.{WorldParts, end_of, link_at, link_of, with_link}
use Rattle.line_step.proofs.Keeps.{more_at}
use Rattle.line_step.proofs.Numbers.{Written, link_beyond, link_set, link_set_other, nowhere, same_or_not, written}
use Rattle.line_step.specs.Requests.{Request}
use Rattle.line_step.proofs.Effects.{Effect, becomes_by, line_effect}
use Rattle.line_step.proofs.Effects as effects
use Rattle.law_sentences.specs.Within.{AreLinksWithin, EachLinkStaysWithin, IsLinkWithin}

-- ---- one link

none_within : IsLinkWithin no_link
none_within = record { to_upstream = omega arith; to_downstream = omega arith }

cut_within : (link : LinkParts) → IsLinkWithin (cut link)
cut_within link = record { to_upstream = omega arith; to_downstream = omega arith }

small : (count : ℕ) → nat_lt most_in_flight count ≡ false → count ≤ most_in_flight
small count is = grind (arith, nat_tests)

limit_by : (to : Role) (link : LinkParts) (test : Bool) → is_too_much to link ≡ test → length (coming (flow_to (across to) link)) ≤ most_in_flight → IsLinkWithin (cond test (cut link) link)
limit_by to link true is other = cut_within link
limit_by Upstream link false is other = record { to_upstream = small (length (coming link.flows.to_upstream)) is; to_downstream = other }
limit_by Downstream link false is other = record { to_upstream = other; to_downstream = small (length (coming link.flows.to_downstream)) is }

-- another stream flows to an end, and too much of it is cut
limited : (to : Role) (stream : Stream) (link : LinkParts) → IsLinkWithin link → IsLinkWithin (within_limit to (with_flow_to to stream link))
limited Upstream stream link within = limit_by Upstream (with_flow_to Upstream stream link) (is_too_much Upstream (with_flow_to Upstream stream link)) refl within.to_downstream
limited Downstream stream link within = limit_by Downstream (with_flow_to Downstream stream link) (is_too_much Downstream (with_flow_to Downstream stream link)) refl within.to_upstream

either : (test : Bool) (one other : LinkParts) → IsLinkWithin one → IsLinkWithin other → IsLinkWithin (cond test one other)
either true one other a b = a
either false one other a b = b

send_within : (from : Role) (text : List ℕ) (link : LinkParts) → IsLinkWithin link → IsLinkWithin (after_send from text link)
send_within from text link within =
    let to = across from in
    either link.stands (within_limit to (texted to text link)) link (limited to (with_text text (flow_to to link)) link within) within

answer_by : (number : Option ℕ) (text : List ℕ) (link : LinkParts) → IsLinkWithin link → IsLinkWithin (answer_of number text link)
answer_by None text link within = within
answer_by (Some number) text link within = limited Downstream (with_text text (flow_to Downstream link)) link within

close_within : (end : Role) (link : LinkParts) → IsLinkWithin link → IsLinkWithin (after_close end link)
close_within Upstream link within = record { to_upstream = omega arith; to_downstream = within.to_downstream }
close_within Downstream link within = record { to_upstream = within.to_upstream; to_downstream = omega arith }

fewer : (count : ℕ) (stream : Stream) → length (coming stream) ≤ most_in_flight → length (coming (with_arrival count stream)) ≤ most_in_flight
fewer count stream within =
    let dropped = length-drop count (coming stream) in
    let less : length (drop count (coming stream)) ≤ most_in_flight = omega (arith, dropped, within) in
    subst (λ (bytes : List ℕ). length bytes ≤ most_in_flight) (sym (coming_of_arrival count stream)) less

flow_within : (to : Role) (count : Option ℕ) (link : LinkParts) → IsLinkWithin link → IsLinkWithin (after_flow to count link)
flow_within Upstream count link within = record { to_upstream = fewer (flowing count link.flows.to_upstream) link.flows.to_upstream within.to_upstream; to_downstream = within.to_downstream }
flow_within Downstream count link within = record { to_upstream = within.to_upstream; to_downstream = fewer (flowing count link.flows.to_downstream) link.flows.to_downstream within.to_downstream }

connect_by : (number : Option ℕ) (made : ℕ) (link : LinkParts) → IsLinkWithin link → IsLinkWithin (connected number made link)
connect_by None made link within = record { to_upstream = within.to_upstream; to_downstream = within.to_downstream }
connect_by (Some other) made link within = record { to_upstream = within.to_upstream; to_downstream = within.to_downstream }

-- ---- the links of a world

abbrev AllWithin : WorldParts → Type 0
AllWithin world = (link : ℕ) → IsLinkWithin (link_at link world)

links_within : (link : ℕ) (parts : LinkParts) (world : WorldParts) → AllWithin world → IsLinkWithin parts → AllWithin (with_link link parts world)
links_within link parts world all within k = by (same_or_not k link)
  where
    own : Written link parts world → IsLinkWithin (link_at link (with_link link parts world))
    own (written is) = subst IsLinkWithin (sym is) within
    own (nowhere is was) = subst IsLinkWithin (sym is) none_within

    by : (k ≡ link) ⊎ (k ≢ link) → IsLinkWithin (link_at k (with_link link parts world))
    by (inl is) = subst (λ (n : ℕ). IsLinkWithin (link_at n (with_link link parts world))) (sym is) (own (link_set link parts world))
    by (inr apart) = subst IsLinkWithin (sym (link_set_other link k parts world apart)) (all k)

-- ---- acts

sent_within : (second : Bool) (machine : ℕ) (side : Side) (message : Message) (world : WorldParts) → AllWithin world → AllWithin (sent_by second machine side message world).world
sent_within true machine side message world all = links_within machine (after_answer (canonical message) (link_at machine world)) world all (answer_by (link_at machine world).downstream (canonical message) (link_at machine world) (all machine))
sent_within false machine side message world all =
    let link = link_of machine side in
    links_within link (after_send (end_of side) (canonical message) (link_at link world)) world all (send_within (end_of side) (canonical message) (link_at link world) (all link))

closed_within : (machine : ℕ) (side : Side) (world : WorldParts) → AllWithin world → AllWithin (with_link (link_of machine side) (after_close (end_of side) (link_at (link_of machine side) world)) world)
closed_within machine side world all = let link = link_of machine side in links_within link (after_close (end_of side) (link_at link world)) world all (close_within (end_of side) (link_at link world) (all link))

counted_within : (deed : Deed) (world : WorldParts) → AllWithin world → AllWithin (counted deed world)
counted_within (deeds.Opens id) world all = all
counted_within _ world all = all

act_within : (second : Bool) (machine : ℕ) (act : Act) (world : WorldParts) → AllWithin world → AllWithin (act_did second machine act world).world
act_within second machine (acts.Sends side message) world all = sent_within (second && (is_exit side && is_answer message.body)) machine side message world all
act_within second machine (acts.Closes side) world all = closed_within machine side world all
act_within second machine (acts.Notices side) world all = closed_within machine side world all
act_within second machine (acts.Deed deed) world all = counted_within deed world all
act_within second machine act world all = all

acts_within : (second : Bool) (machine : ℕ) (told : List Act) (world : WorldParts) → AllWithin world → AllWithin (acts_did second machine told world).world
acts_within second machine [] world all = all
acts_within second machine (act ∷ others) world all = acts_within second machine others (act_did second machine act world).world (act_within second machine act world all)

-- ---- a step, a connection, a move

step_within : (number machine : ℕ) (input : Input) (before after : LineState) (told : List Happening) → MachineSteps number machine input before after told → AreLinksWithin before → AreLinksWithin after
step_within number machine input before after told did all =
    subst (λ (s : LineState). AreLinksWithin s) (sym did.after_is) (acts_within (is_second input) machine did.acts (read_by machine before.world) all)

flows_within : (number machine : ℕ) (side : Side) (count : Option ℕ) (before after : LineState) (told : List Happening) → Flows number machine side count before after told → AreLinksWithin before → AreLinksWithin after
flows_within number machine side count before after told flow all =
    let link = link_of machine side in
    step_within number machine (inputs.Bytes side flow.piece) (arrived machine side count before) after told flow.steps
    (links_within link (after_flow (end_of side) count (link_at link before.world)) before.world all (flow_within (end_of side) count (link_at link before.world) (all link)))

connects_within : (number machine : ℕ) (before after : LineState) (told : List Happening) → Connects number machine before after told → AreLinksWithin before → AreLinksWithin after
connects_within number machine before after told twice all =
    let link = machine - 1 in
    let parts : LinkParts = link_at link before.world in
    step_within number link (met (connected_of parts.upstream)) twice.between after twice.later twice.second
    (step_within number machine inputs.Connect (connecting machine before) twice.between twice.earlier twice.first
    (links_within link (after_connect parts) before.world all (connect_by parts.upstream (next_number parts.made) parts (all link))))

more_within : (lane : ℕ) (is_bridge : Bool) (capacity used : ℕ) (s : LineState) → AreLinksWithin s → AreLinksWithin (one_more lane is_bridge capacity used s)
more_within lane is_bridge capacity used s all link = subst IsLinkWithin (sym (more_at lane is_bridge capacity used s link)) (all link)

effect_within : (number : ℕ) (request : Request) (before next : LineState) (told : List Happening) → Effect number before next told request → AreLinksWithin before → AreLinksWithin next
effect_within number request before next told (effects.rests _ what remarks b) all = becomes_by (λ s ts. AreLinksWithin s) b all
effect_within number request before next told (effects.adds lane is_bridge capacity used may b) all = becomes_by (λ s ts. AreLinksWithin s) b (more_within lane is_bridge capacity used before all)
effect_within number request before next told (effects.steps machine input given may did) all = step_within number machine input before next told did all
effect_within number request before next told (effects.connects machine may did) all = connects_within number machine before next told did all
effect_within number request before next told (effects.flows machine side count may did) all = flows_within number machine side count before next told did all
effect_within number request before next told (effects.cuts gap may b) all =
    becomes_by (λ s ts. AreLinksWithin s) b (links_within gap (cut (link_at gap before.world)) before.world all (cut_within (link_at gap before.world)))
effect_within number request before next told (effects.spoils machine side may b) all =
    let link = link_of machine side in
    let parts : LinkParts = link_at link before.world in
    becomes_by (λ s ts. AreLinksWithin s) b
    (links_within link (after_spoil (end_of side) parts) before.world all (limited (end_of side) (with_nul (flow_to (end_of side) parts)) parts (all link)))
effect_within number request before next told (effects.moves gap step floor is b) all = becomes_by (λ s ts. AreLinksWithin s) b all
effect_within number request before next told (effects.lies machine sensed may b) all = becomes_by (λ s ts. AreLinksWithin s) b all
effect_within number request before next told (effects.unsees machine side may b) all = becomes_by (λ s ts. AreLinksWithin s) b all

-- EACH LINE STEP
steps_within : (number : ℕ) (request : Request) (before after : LineState) (told : List Happening) → LineSteps number request before after told → AreLinksWithin before → AreLinksWithin after
steps_within number request before after told steps all =
    subst (λ (s : LineState). AreLinksWithin s) (sym steps.after_is)
    (effect_within number request before steps.next steps.done (line_effect number request before steps.next steps.done steps.does) all)

-- a line of another track changes no link
track_within : (number : ℕ) (line : TrackLine) (before after : LineState) (told : List Happening) → TrackSteps number line before after told → AreLinksWithin before → AreLinksWithin after
track_within number (own_line request) before after told steps all = steps_within number request before after told steps.0 all
track_within number other_line before after told steps all = λ link. subst (λ (w : WorldParts). IsLinkWithin (link_at link w)) (sym steps.0.world) (all link)

-- ---- over a run

run_within : (s : LineState) (asked : List TrackLine) (points : List Point) → IsRun s asked points → AreLinksWithin s → AreLinksWithin (state_behind s points)
run_within s [] [] run all = all
run_within s [] (point ∷ points) run all = absurd run
run_within s (line ∷ asked) [] run all = absurd run
run_within s (line ∷ asked) (point ∷ points) run all = run_within point.after asked points run.1 (track_within (s.lines + 1) line s point.after point.told run.0 all)

no_line_within : AreLinksWithin no_line
no_line_within zero = none_within
no_line_within (suc place) = subst IsLinkWithin (sym (link_beyond (suc place) no_line.world (omega arith))) none_within

-- EACH LINK STAYS WITHIN THE LIMIT
pub links_stay_within : EachLinkStaysWithin
links_stay_within asked points run = run_within no_line asked points run no_line_within
