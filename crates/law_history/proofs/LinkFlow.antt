-- WHAT FLOWS TO AN END OF A LINK: the texts of messages that are so, whole; or it is spoiled; or nothing comes any more. It goes on through
-- the acts of a machine that says no other messages.
use Rattle.std.proofs.Common.{Bool, List, None, Option, Some, [], false, inl, inr, refl, subst, sym, true, ℕ, ◌++◌, ◌-◌, ◌∙◌, ◌∷◌, ◌≡◌, ◌≢◌, ◌⊎◌}
use Rattle.std.specs.Prelude.{cond}
use Rattle.std.proofs.lemmas.Bool.{false≢true}
use Rattle.law_one_standing.proofs.BlameLinks.{first_frame}
use Rattle.line_base.specs.declared.states.Role.{Role}
use Rattle.line_base.specs.declared.states.Role.TheVariants.{Downstream, Upstream}
use Rattle.line_base.specs.declared.states.Side.{Side}
use Rattle.line_base.specs.declared.states.Side.TheVariants.{Entry, Exit}
use Rattle.hermes_horizontal.specs.Canonical.{canonical}
use Rattle.hermes_horizontal.specs.declared.message.Message.{Message}
use Rattle.line_link.specs.Flow.{coming}
use Rattle.line_link.specs.Link.{LinkParts, across, after_close, after_send, answer_of as answered_by, cut, flow_to, is_too_much, no_link, texted, within_limit}
use Rattle.line_link.proofs.Coming.{coming_of_text}
use Rattle.node_core.specs.declared.act.Act.{Act}
use Rattle.node_core.specs.declared.act.Act.TheVariants as acts
use Rattle.law_custody.specs.Bytes.{Flows, Spoiled, texts_of}
use Rattle.law_custody.proofs.Messages.{sends_a_message}
use Rattle.law_custody.proofs.Spoils.{nul_stays}
use Rattle.law_custody.proofs.Texts.{nothing_flows}
use Rattle.law_link_messages.specs.Fit.{AreFit, AreFitActs, IsFit, IsFitAct, more_fit, more_said, none_fit, none_said}
use Rattle.law_link_messages.proofs.Fitting.{both_fit}
use Rattle.line_step.specs.Acts.{acts_did, answers}
use Rattle.line_step.specs.World.{WorldParts, end_of, link_at, with_link}
use Rattle.line_step.proofs.LinkRule.{ActKeeps, ActsKeep, SentKeeps, acts_keep, link_keeps}
use Rattle.law_one_standing.specs.Links.{IsWholeLink}
use Rattle.law_one_standing.proofs.Carrying.{SaysAlone}
use Rattle.law_one_standing.proofs.WholeLinks.{whole_at}

pub data Flow (Q : List Message → Type 0) (stands : Bool) (waiting bytes : List ℕ) : Type 0 where
  flow_whole : (said : List Message) → AreFit said → Q said → Flows waiting bytes (texts_of said) → Flow Q stands waiting bytes
  flow_spoiled : Spoiled waiting bytes → Flow Q stands waiting bytes
  flow_over : stands ≡ false → bytes ≡ [] → Flow Q stands waiting bytes

pub flow_off : {Q : List Message → Type 0} {stands : Bool} {waiting bytes : List ℕ} → Flow Q stands waiting bytes → Flow Q false waiting bytes
flow_off (flow_whole said fit so flows) = flow_whole said fit so flows
flow_off (flow_spoiled spoiled) = flow_spoiled spoiled
flow_off (flow_over off none) = flow_over refl none

pub flow_map : {Q R : List Message → Type 0} {stands : Bool} {waiting bytes : List ℕ} → ((said : List Message) → Q said → R said) → Flow Q stands waiting bytes → Flow R stands waiting bytes
flow_map then (flow_whole said fit so flows) = flow_whole said fit (then said so) flows
flow_map then (flow_spoiled spoiled) = flow_spoiled spoiled
flow_map then (flow_over off none) = flow_over off none

-- nothing waits and nothing flows
none_flows : {waiting bytes : List ℕ} → waiting ≡ [] → bytes ≡ [] → Flows waiting bytes []
none_flows {bytes = bytes} empty none = subst (λ (w : List ℕ). Flows w bytes []) (sym empty) (subst (λ (b : List ℕ). Flows [] b []) (sym none) nothing_flows)

-- ---- one message more

abbrev pub Adds : (List Message → Type 0) → Message → Type 0
Adds Q message = (said : List Message) → Q said → Q (said ++ message ∷ [])

-- nothing waits at the end, and no messages are so
abbrev pub IsDry : (List Message → Type 0) → List ℕ → Type 0
IsDry Q waiting = (waiting ≡ []) × Q []

whole_more : {Q : List Message → Type 0} {stands : Bool} {waiting bytes : List ℕ} → SaysAlone → (message : Message) → IsFit message → Adds Q message → (said : List Message) → AreFit said → Q said → Flows waiting bytes (texts_of said)
    → Flow Q stands waiting (bytes ++ canonical message)
whole_more {waiting = waiting} {bytes = bytes} alone message fit adds said good so flows =
    flow_whole (said ++ message ∷ []) (both_fit good (more_fit fit none_fit)) (adds said so) (sends_a_message waiting bytes said message (first_frame (alone.sayable (message ∷ []) (more_fit fit none_fit))) flows)

flow_more : {Q : List Message → Type 0} {stands : Bool} {waiting bytes : List ℕ} → SaysAlone → (message : Message) → IsFit message → Adds Q message → (stands ≡ true) ⊎ IsDry Q waiting → Flow Q stands waiting bytes
    → Flow Q stands waiting (bytes ++ canonical message)
flow_more alone message fit adds on (flow_whole said good so flows) = whole_more alone message fit adds said good so flows
flow_more {waiting = waiting} {bytes = bytes} alone message fit adds on (flow_spoiled spoiled) = flow_spoiled (nul_stays waiting bytes (canonical message) spoiled)
flow_more alone message fit adds (inl on) (flow_over off none) = absurd (false≢true (sym off ∙ on))
flow_more alone message fit adds (inr dry) (flow_over off none) = whole_more alone message fit adds [] none_fit dry.1 (none_flows dry.0 none)

-- ---- an end of a link

abbrev pub FlowOn : Role → (List Message → Type 0) → List ℕ → LinkParts → Type 0
FlowOn to Q waiting link = Flow Q link.stands waiting (coming (flow_to to link))

pub on_cut : {Q : List Message → Type 0} {waiting : List ℕ} (to : Role) (link : LinkParts) → FlowOn to Q waiting (cut link)
on_cut Upstream link = flow_over refl refl
on_cut Downstream link = flow_over refl refl

-- a link that is over its limit is cut
pub on_limit : {Q : List Message → Type 0} {waiting : List ℕ} (to : Role) (test : Bool) (link : LinkParts) → FlowOn to Q waiting link → FlowOn to Q waiting (cond test (cut link) link)
on_limit to true link k = on_cut to link
on_limit to false link k = k

on_text : {Q : List Message → Type 0} {waiting : List ℕ} → SaysAlone → (to : Role) (message : Message) (link : LinkParts) → IsFit message → Adds Q message → IsWholeLink link → (link.stands ≡ true) ⊎ IsDry Q waiting
    → FlowOn to Q waiting link → FlowOn to Q waiting (texted to (canonical message) link)
on_text {Q} {waiting} alone Upstream message link fit adds whole on k =
    subst (λ (b : List ℕ). Flow Q link.stands waiting b) (sym (coming_of_text (canonical message) link.flows.to_upstream whole.begun.upstream)) (flow_more alone message fit adds on k)
on_text {Q} {waiting} alone Downstream message link fit adds whole on k =
    subst (λ (b : List ℕ). Flow Q link.stands waiting b) (sym (coming_of_text (canonical message) link.flows.to_downstream whole.begun.downstream)) (flow_more alone message fit adds on k)

-- a text is sent to an end, where the link stands
sent_by : {Q : List Message → Type 0} {waiting : List ℕ} (to at : Role) (text : List ℕ) (link : LinkParts) (test : Bool) → link.stands ≡ test → (test ≡ true → FlowOn to Q waiting (texted at text link)) → FlowOn to Q waiting link
    → FlowOn to Q waiting (cond test (within_limit at (texted at text link)) link)
sent_by to at text link true is there k = on_limit to (is_too_much at (texted at text link)) (texted at text link) (there refl)
sent_by to at text link false is there k = k

-- to this one, and by this one
on_said : {Q : List Message → Type 0} {waiting : List ℕ} → SaysAlone → (to : Role) (message : Message) (link : LinkParts) → IsFit message → Adds Q message → IsWholeLink link
    → FlowOn to Q waiting link → FlowOn to Q waiting (after_send (across to) (canonical message) link)
on_said alone Upstream message link fit adds whole k =
    sent_by Upstream Upstream (canonical message) link link.stands refl (λ on. on_text alone Upstream message link fit adds whole (inl on) k) k
on_said alone Downstream message link fit adds whole k =
    sent_by Downstream Downstream (canonical message) link link.stands refl (λ on. on_text alone Downstream message link fit adds whole (inl on) k) k

on_own : {Q : List Message → Type 0} {waiting : List ℕ} (to : Role) (text : List ℕ) (link : LinkParts) → FlowOn to Q waiting link → FlowOn to Q waiting (after_send to text link)
on_own Upstream text link k = sent_by Upstream Downstream text link link.stands refl (λ on. k) k
on_own Downstream text link k = sent_by Downstream Upstream text link link.stands refl (λ on. k) k

-- a second connection is answered
answered : {Q : List Message → Type 0} {waiting : List ℕ} (to : Role) (number : Option ℕ) (text : List ℕ) (link : LinkParts) → FlowOn to Q waiting (texted Downstream text link) → FlowOn to Q waiting link → FlowOn to Q waiting (answered_by number text link)
answered to None text link there k = k
answered to (Some number) text link there k = on_limit to (is_too_much Downstream (texted Downstream text link)) (texted Downstream text link) there

on_close : {Q : List Message → Type 0} {waiting : List ℕ} (to : Role) (side : Side) (link : LinkParts) → FlowOn to Q waiting link → FlowOn to Q waiting (after_close (end_of side) link)
on_close Upstream Exit link k = flow_over refl refl
on_close Downstream Entry link k = flow_over refl refl
on_close Upstream Entry link k = flow_off k
on_close Downstream Exit link k = flow_off k

none_on : {Q : List Message → Type 0} {waiting : List ℕ} (to : Role) → FlowOn to Q waiting no_link
none_on Upstream = flow_over refl refl
none_on Downstream = flow_over refl refl

-- ---- one link of a world

pub at_set : {Q : List Message → Type 0} {waiting : List ℕ} (to : Role) (k link : ℕ) (parts : LinkParts) (world : WorldParts) → (k ≡ link → FlowOn to Q waiting parts) → FlowOn to Q waiting (link_at k world)
    → FlowOn to Q waiting (link_at k (with_link link parts world))
at_set {Q} {waiting} to k link parts world here was = link_keeps (λ (l : LinkParts). FlowOn to Q waiting l) (none_on to) k link parts world here (λ apart. was)

pub set_own : {Q : List Message → Type 0} {waiting : List ℕ} (to : Role) (link : ℕ) (parts : LinkParts) (world : WorldParts) → FlowOn to Q waiting parts → FlowOn to Q waiting (link_at link (with_link link parts world))
set_own {Q} {waiting} to link parts world flow = link_keeps (λ (l : LinkParts). FlowOn to Q waiting l) (none_on to) link link parts world (λ is. flow) (λ apart. absurd (apart refl))

-- ---- acts

-- what a machine says to the end keeps it so
abbrev pub SaysSo : Role → (List Message → Type 0) → ℕ → ℕ → Act → Type 0
SaysSo Upstream Q k machine (acts.Sends Entry message) = k ≡ machine - 1 → Adds Q message
SaysSo Downstream Q k machine (acts.Sends Exit message) = k ≡ machine → Adds Q message
SaysSo _ Q k machine _ = Unit {0}

abbrev pub AllSaySo : Role → (List Message → Type 0) → ℕ → ℕ → List Act → Type 0
AllSaySo to Q k machine [] = Unit {0}
AllSaySo to Q k machine (act ∷ told) = SaysSo to Q k machine act × AllSaySo to Q k machine told

-- where a machine answers a second connection, nothing waits at the end that hears it
abbrev pub AnswersDry : Role → Bool → (List Message → Type 0) → List ℕ → ℕ → ℕ → Type 0
AnswersDry Upstream second Q waiting k machine = Unit {0}
AnswersDry Downstream second Q waiting k machine = second ≡ true → k ≡ machine → IsDry Q waiting

-- such an answer is sent in a step of one, at the exit
answers_second : (second : Bool) (side : Side) (message : Message) → answers second side message ≡ true → second ≡ true
answers_second true side message is = refl
answers_second false side message is = is

answers_exit : (second : Bool) (side : Side) (message : Message) → answers second side message ≡ true → side ≡ Exit
answers_exit second Exit message is = refl
answers_exit true Entry message is = absurd (false≢true is)
answers_exit false Entry message is = absurd (false≢true is)

sent_rule : (Q : List Message → Type 0) (waiting : List ℕ) → SaysAlone → (to : Role) (k : ℕ) (test : Bool) (machine : ℕ) (side : Side) (message : Message) → IsFit message → SaysSo to Q k machine (acts.Sends side message)
    → (test ≡ true → side ≡ Exit) → AnswersDry to test Q waiting k machine → SentKeeps IsWholeLink (λ (l : LinkParts). FlowOn to Q waiting l) k test machine side message
sent_rule Q waiting alone Upstream k true machine side message fit so exit dry = λ is link whole flow. answered Upstream link.downstream (canonical message) link flow flow
sent_rule Q waiting alone Upstream k false machine Exit message fit so exit dry = λ is link whole flow. on_own Upstream (canonical message) link flow
sent_rule Q waiting alone Upstream k false machine Entry message fit so exit dry = λ is link whole flow. on_said alone Upstream message link fit (so is) whole flow
sent_rule Q waiting alone Downstream k true machine Exit message fit so exit dry = λ is link whole flow.
    answered Downstream link.downstream (canonical message) link (on_text alone Downstream message link fit (so is) whole (inr (dry refl is)) flow) flow
sent_rule Q waiting alone Downstream k true machine Entry message fit so exit dry = absurd (let no : Entry ≡ Exit = exit refl in cc)
sent_rule Q waiting alone Downstream k false machine Exit message fit so exit dry = λ is link whole flow. on_said alone Downstream message link fit (so is) whole flow
sent_rule Q waiting alone Downstream k false machine Entry message fit so exit dry = λ is link whole flow. on_own Downstream (canonical message) link flow

dry_answer : (Q : List Message → Type 0) (waiting : List ℕ) (to : Role) (second test : Bool) (k machine : ℕ) → (test ≡ true → second ≡ true) → AnswersDry to second Q waiting k machine → AnswersDry to test Q waiting k machine
dry_answer Q waiting Upstream second test k machine from dry = tt
dry_answer Q waiting Downstream second test k machine from dry = λ is. dry (from is)

act_rule : (Q : List Message → Type 0) (waiting : List ℕ) → SaysAlone → (to : Role) (k : ℕ) (second : Bool) (machine : ℕ) (act : Act) → IsFitAct act → SaysSo to Q k machine act → AnswersDry to second Q waiting k machine
    → ActKeeps IsWholeLink (λ (l : LinkParts). FlowOn to Q waiting l) k second machine act
act_rule Q waiting alone to k second machine (acts.Sends side message) fit so dry =
    sent_rule Q waiting alone to k (answers second side message) machine side message fit so (answers_exit second side message) (dry_answer Q waiting to second (answers second side message) k machine (answers_second second side message) dry)
act_rule Q waiting alone to k second machine (acts.Closes side) fit so dry = λ is link flow. on_close to side link flow
act_rule Q waiting alone to k second machine (acts.Notices side) fit so dry = λ is link flow. on_close to side link flow
act_rule Q waiting alone to k second machine _ fit so dry = tt

acts_rule : (Q : List Message → Type 0) (waiting : List ℕ) → SaysAlone → (to : Role) (k : ℕ) (second : Bool) (machine : ℕ) (told : List Act) → AreFitActs told → AllSaySo to Q k machine told → AnswersDry to second Q waiting k machine
    → ActsKeep IsWholeLink (λ (l : LinkParts). FlowOn to Q waiting l) k second machine told
acts_rule Q waiting alone to k second machine [] none_said so dry = tt
acts_rule Q waiting alone to k second machine (act ∷ told) (more_said fit more) so dry = (act_rule Q waiting alone to k second machine act fit so.0 dry, acts_rule Q waiting alone to k second machine told more so.1 dry)

pub acts_flow : {Q : List Message → Type 0} {waiting : List ℕ} → SaysAlone → (to : Role) (k : ℕ) (second : Bool) (machine : ℕ) (told : List Act) (world : WorldParts) → AreFitActs told → AllSaySo to Q k machine told
    → AnswersDry to second Q waiting k machine → ((link : ℕ) → IsWholeLink (link_at link world)) → FlowOn to Q waiting (link_at k world) → FlowOn to Q waiting (link_at k (acts_did second machine told world).world)
acts_flow {Q} {waiting} alone to k second machine told world fit so dry whole was =
    acts_keep IsWholeLink (λ (l : LinkParts). FlowOn to Q waiting l) (none_on to) k second machine (λ act w one. whole_at k second machine act w one) told world (acts_rule Q waiting alone to k second machine told fit so dry) (whole k) was
