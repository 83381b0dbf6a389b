-- What flows up on a link: the messages of which the bytes are, whole, are known from their bytes; and which starts are among
-- them goes on through the acts of a machine.
use Rattle.std.proofs.Common.{Bool, List, Some, [], ap, append-nil, false, inl, inr, refl, subst, sym, true, ℕ, ◌&&◌, ◌++◌, ◌-◌, ◌∙◌, ◌∷◌, ◌≡◌, ◌≢◌, ◌⊎◌}
use Rattle.std.specs.Prelude.{not}
use Rattle.std.proofs.lemmas.Bool.{and_parts, false≢true, not-true}
use Rattle.line_base.specs.declared.states.Role.TheVariants.{Upstream}
use Rattle.line_base.specs.declared.states.Side.TheVariants.{Entry, Exit}
use Rattle.hermes_horizontal.specs.declared.message.Horizontal.{Horizontal}
use Rattle.hermes_horizontal.specs.declared.message.Horizontal.TheVariants as bodies
use Rattle.hermes_horizontal.specs.declared.message.Message.{Message}
use Rattle.line_link.specs.Link.{LinkParts}
use Rattle.node_core.specs.Words.{AreFirst, AreWords, first_more, first_none}
use Rattle.node_core.specs.declared.act.Act.{Act}
use Rattle.node_core.specs.declared.act.Act.TheVariants as acts
use Rattle.node_core.specs.declared.word.Word.{Word}
use Rattle.node_core.specs.declared.word.Word.TheVariants.{Says}
use Rattle.law_custody.specs.Bytes.{Flows, Spoiled, texts_of}
use Rattle.law_custody.specs.Words.{UpWord, before_up, starts_in, up_words}
use Rattle.law_machine_custody.specs.Flight.{AreOldest}
use Rattle.law_link_messages.specs.Fit.{AreFit, AreFitActs}
use Rattle.law_link_messages.specs.Heard.{AreSayable, Heard, HeardSpoiled, bodies as bodies_of, more_sayable, none_sayable}
use Rattle.line_step.specs.Acts.{acts_did}
use Rattle.line_step.specs.World.{WorldParts, link_at}
use Rattle.law_history.proofs.LinkFlow.{Adds, AllSaySo, Flow, FlowOn, SaysSo, acts_flow, flow_map}
use Rattle.law_one_standing.specs.Links.{IsWholeLink}
use Rattle.law_one_standing.proofs.Carrying.{SaysAlone}
use Rattle.law_one_standing.proofs.FactsBlame.{Front, front_of}
use Rattle.law_history.proofs.Orders.{is_asking}

-- ---- the messages of whole bytes

abbrev says : List Message → List Word
says [] = []
says (message ∷ messages) = Says message ∷ says messages

first_said : (messages : List Message) → AreSayable messages → AreFirst (texts_of messages) (Some []) (says messages)
first_said [] none_sayable = first_none
first_said (message ∷ messages) (more_sayable one others) = first_more one.spells (first_said messages others)

words_said : (waiting bytes : List ℕ) (messages : List Message) → AreSayable messages → Flows waiting bytes (texts_of messages) → AreWords waiting bytes [] false (says messages)
words_said waiting bytes messages sayable flows = record {
  first = subst (λ f. AreFirst f.messages f.rest (says messages)) (sym flows.frames) (first_said messages sayable);
  all = λ on. absurd (false≢true on);
}

more_bytes : (waiting bytes : List ℕ) (texts : List (List ℕ)) → Flows waiting bytes texts → Flows waiting (bytes ++ []) texts
more_bytes waiting bytes texts flows = subst (λ (b : List ℕ). Flows waiting b texts) (sym (append-nil bytes)) flows

first_same : {a b : Horizontal} {xs ys : List Horizontal} → ◌≡◌ {A = List Horizontal} (a ∷ xs) (b ∷ ys) → a ≡ b
first_same is = cc

rest_same : {a b : Horizontal} {xs ys : List Horizontal} → ◌≡◌ {A = List Horizontal} (a ∷ xs) (b ∷ ys) → xs ≡ ys
rest_same is = cc

later_texts : {a b : List ℕ} {xs ys : List (List ℕ)} → ◌≡◌ {A = List (List ℕ)} (a ∷ xs) (b ∷ ys) → xs ≡ ys
later_texts is = cc

same_bodies : (a : List Message) (b : List Message) (sent : List Horizontal) → sent ≡ bodies_of b → texts_of a ≡ texts_of b → AreOldest (says a) sent → bodies_of a ≡ bodies_of b
same_bodies [] [] sent is texts oldest = refl
same_bodies [] (m ∷ b) sent is texts oldest = absurd (cc)
same_bodies (m ∷ a) [] sent is texts oldest = absurd (cc)
same_bodies (m ∷ a) (n ∷ b) sent is texts oldest =
    let f : Front m.body (says a) sent = front_of oldest in
    let both : ◌≡◌ {A = List Horizontal} (m.body ∷ f.rest) (n.body ∷ bodies_of b) = sym f.is ∙ is in
    let later = same_bodies a b f.rest (rest_same both) (later_texts texts) f.oldest in
    ap (λ (h : Horizontal). h ∷ bodies_of a) (first_same both) ∙ ap (λ (hs : List Horizontal). n.body ∷ hs) later

-- whole bytes are the texts of one list of messages
pub same_said : SaysAlone → (waiting bytes : List ℕ) (a b : List Message) → AreFit a → AreFit b → Flows waiting bytes (texts_of a) → Flows waiting bytes (texts_of b) → bodies_of a ≡ bodies_of b
same_said alone waiting bytes a b fit_a fit_b flows_a flows_b =
    let h : Heard b (says a) [] [] false =
    alone.oldest waiting bytes [] [] false (says a) b (alone.sayable b fit_b) (more_bytes waiting bytes (texts_of b) flows_b) (words_said waiting bytes a (alone.sayable a fit_a) flows_a) in
    same_bodies a b (bodies_of b) refl (ap (λ f. f.messages) (sym flows_a.frames ∙ flows_b.frames)) h.oldest

spoiled_bytes : (waiting bytes : List ℕ) → Spoiled waiting bytes → Spoiled waiting (bytes ++ [])
spoiled_bytes waiting bytes spoiled = subst (λ (b : List ℕ). Spoiled waiting b) (sym (append-nil bytes)) spoiled

none_heard : (a : List Message) → AreOldest (says a) [] → bodies_of a ≡ []
none_heard [] oldest = refl
none_heard (m ∷ a) oldest = let f : Front m.body (says a) [] = front_of oldest in absurd (let no_way : ◌≡◌ {A = List Horizontal} [] (m.body ∷ f.rest) = f.is in cc)

-- spoiled bytes are the texts of no message
pub none_said_spoiled : SaysAlone → (waiting bytes : List ℕ) (a : List Message) → AreFit a → Flows waiting bytes (texts_of a) → Spoiled waiting bytes → bodies_of a ≡ []
none_said_spoiled alone waiting bytes a fit flows spoiled =
    let h : HeardSpoiled [] (says a) [] [] false = alone.wrong waiting bytes [] [] false (says a) [] (spoiled_bytes waiting bytes spoiled) (words_said waiting bytes a (alone.sayable a fit) flows) in
    none_heard a h.oldest

-- ---- the starts among messages

abbrev pub starts_of : List Horizontal → List ℕ
starts_of messages = starts_in (up_words messages)

starts_behind : (m : Horizontal) (a b : List UpWord) → starts_in a ≡ starts_in b → starts_in (before_up m a) ≡ starts_in (before_up m b)
starts_behind (bodies.StartTransport id) a b same = ap (λ (ids : List ℕ). id ∷ ids) same
starts_behind (bodies.MachineReady quality) a b same = same
starts_behind bodies.RevokeMachineReady a b same = same
starts_behind (bodies.StopTransport state id) a b same = same
starts_behind (bodies.ServiceDescription service) a b same = same
starts_behind _ a b same = same

starts_alone : (m : Horizontal) → is_asking m ≡ false → starts_in (before_up m []) ≡ []
starts_alone (bodies.StartTransport id) asks = absurd (false≢true (sym asks))
starts_alone _ asks = refl

starts_more : (messages : List Message) (m : Message) → is_asking m.body ≡ false → starts_of (bodies_of (messages ++ m ∷ [])) ≡ starts_of (bodies_of messages)
starts_more [] m asks = starts_alone m.body asks
starts_more (first ∷ messages) m asks = starts_behind first.body (up_words (bodies_of (messages ++ m ∷ []))) (up_words (bodies_of messages)) (starts_more messages m asks)

-- ---- what flows up: whole, with these starts in it or any; or spoiled; or nothing any more

abbrev pub StartsAre : Type 0 → List ℕ → List Message → Type 0
StartsAre Any ids said = Any ⊎ (starts_of (bodies_of said) ≡ ids)

abbrev pub Up : Type 0 → List ℕ → Bool → List ℕ → List ℕ → Type 0
Up Any ids stands waiting bytes = Flow (StartsAre Any ids) stands waiting bytes

abbrev pub UpOn : Type 0 → List ℕ → List ℕ → LinkParts → Type 0
UpOn Any ids waiting link = FlowOn Upstream (StartsAre Any ids) waiting link

any_start : {Any : Type 0} {ids : List ℕ} (said : List Message) → StartsAre ⊥ ids said → StartsAre Any ids said
any_start said (inl none) = absurd none
any_start said (inr is) = inr is

pub up_any : {Any : Type 0} {ids : List ℕ} {stands : Bool} {waiting bytes : List ℕ} → Up ⊥ ids stands waiting bytes → Up Any ids stands waiting bytes
up_any up = flow_map any_start up

-- ---- acts

-- a start isn't sent at the entry
abbrev pub is_silent : Act → Bool
is_silent (acts.Sends Entry message) = not (is_asking message.body)
is_silent _ = true

abbrev pub are_silent : List Act → Bool
are_silent [] = true
are_silent (act ∷ told) = is_silent act && are_silent told

still_any : {Any : Type 0} {ids : List ℕ} (message : Message) → Any ⊎ (not (is_asking message.body) ≡ true) → Adds (StartsAre Any ids) message
still_any message (inl any) said was = inl any
still_any message (inr silent) said (inl any) = inl any
still_any message (inr silent) said (inr is) = inr (starts_more said message (not-true (is_asking message.body) silent) ∙ is)

says_so : (Any : Type 0) (ids : List ℕ) (k machine : ℕ) (act : Act) → (k ≡ machine - 1 → Any ⊎ (is_silent act ≡ true)) → SaysSo Upstream (StartsAre Any ids) k machine act
says_so Any ids k machine (acts.Sends Entry message) silent = λ is. still_any message (silent is)
says_so Any ids k machine (acts.Sends Exit message) silent = tt
says_so Any ids k machine _ silent = tt

all_say_so : (Any : Type 0) (ids : List ℕ) (k machine : ℕ) (told : List Act) → (k ≡ machine - 1 → Any ⊎ (are_silent told ≡ true)) → AllSaySo Upstream (StartsAre Any ids) k machine told
all_say_so Any ids k machine [] silent = tt
all_say_so Any ids k machine (act ∷ told) silent = (
  says_so Any ids k machine act (λ is. elim (silent is) [ inl any ↦ inl any | inr both ↦ inr (and_parts (is_silent act) (are_silent told) both).0 ]),
  all_say_so Any ids k machine told (λ is. elim (silent is) [ inl any ↦ inl any | inr both ↦ inr (and_parts (is_silent act) (are_silent told) both).1 ]),
)

pub acts_up : {Any : Type 0} {ids : List ℕ} {waiting : List ℕ} → SaysAlone → (k : ℕ) (second : Bool) (machine : ℕ) (told : List Act) (world : WorldParts) → AreFitActs told → (k ≡ machine - 1 → Any ⊎ (are_silent told ≡ true))
    → ((link : ℕ) → IsWholeLink (link_at link world)) → UpOn Any ids waiting (link_at k world) → UpOn Any ids waiting (link_at k (acts_did second machine told world).world)
acts_up {Any} {ids} alone k second machine told world fit silent whole was = acts_flow alone Upstream k second machine told world fit (all_say_so Any ids k machine told silent) tt whole was
