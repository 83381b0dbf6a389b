-- A text is sent: what a link carries then.
use Rattle.std.proofs.Common.{Bool, List, [], subst, sym, true, ℕ, ◌++◌, ◌∙◌, ◌∷◌, ◌≡◌}
use Rattle.std.proofs.lemmas.Bool.{false≢true}
use Rattle.hermes_horizontal.specs.Canonical.{canonical}
use Rattle.hermes_horizontal.specs.declared.message.Horizontal.{Horizontal}
use Rattle.hermes_horizontal.specs.declared.message.Message.{Message}
use Rattle.line_link.specs.Flow.{Stream, coming, is_begun, with_text}
use Rattle.line_link.proofs.Coming.{coming_of_text}
use Rattle.law_custody.specs.Bytes.{Flows, Spoiled, texts_of}
use Rattle.law_custody.proofs.Messages.{sends_a_message}
use Rattle.law_custody.proofs.Spoils.{nul_stays}
use Rattle.law_custody.proofs.Texts.{nothing_flows}
use Rattle.law_link_messages.specs.Fit.{AreFit, IsFit, more_fit, none_fit}
use Rattle.law_link_messages.specs.Heard.{bodies}
use Rattle.law_link_messages.proofs.Fitting.{both_fit}
use Rattle.law_one_standing.specs.Carried.{Carries, Hides, carries_over, carries_spoiled, carries_whole}
use Rattle.law_one_standing.proofs.Carrying.{SaysAlone, bodies_append, first_frame}
use Rattle.law_one_standing.proofs.Cleared.{hides_said}

whole_said : {stands : Bool} {waiting : List ℕ} → SaysAlone → (stream : Stream) (message : Message) → IsFit message → is_begun stream.texts stream.arrived ≡ true → (said : List Message) → AreFit said → Flows waiting (coming stream) (texts_of said)
    → Carries stands waiting (with_text (canonical message) stream) (bodies said ++ message.body ∷ [])
whole_said {stands = stands} {waiting = waiting} alone stream message fit begun said good flows =
    let sent : Flows waiting (coming stream ++ canonical message) (texts_of (said ++ message ∷ [])) = sends_a_message waiting (coming stream) said message (first_frame message [] (alone.sayable (message ∷ []) (more_fit fit none_fit))) flows in
    subst (λ (ms : List Horizontal). Carries stands waiting (with_text (canonical message) stream) ms) (bodies_append said message)
    (carries_whole (said ++ message ∷ []) (both_fit good (more_fit fit none_fit)) (subst (λ (z : List ℕ). Flows waiting z (texts_of (said ++ message ∷ []))) (sym (coming_of_text (canonical message) stream begun)) sent))

spoiled_said : {stands : Bool} {waiting : List ℕ} {messages : List Horizontal} → SaysAlone → (stream : Stream) (message : Message) → IsFit message → is_begun stream.texts stream.arrived ≡ true → Spoiled waiting (coming stream) → Hides (waiting ++ coming stream) messages
    → Carries stands waiting (with_text (canonical message) stream) (messages ++ message.body ∷ [])
spoiled_said {waiting = waiting} {messages = messages} alone stream message fit begun spoiled hides =
    let sent : coming stream ++ canonical message ≡ coming (with_text (canonical message) stream) = sym (coming_of_text (canonical message) stream begun) in
    carries_spoiled (subst (λ (z : List ℕ). Spoiled waiting z) sent (nul_stays waiting (coming stream) (canonical message) spoiled))
    (subst (λ (z : List ℕ). Hides (waiting ++ z) (messages ++ message.body ∷ [])) sent (hides_said alone waiting (coming stream) message fit hides))

-- on a link that stands
pub carries_said : {stands : Bool} {waiting : List ℕ} {stream : Stream} {messages : List Horizontal} → SaysAlone → (message : Message) → IsFit message → stands ≡ true → is_begun stream.texts stream.arrived ≡ true
    → Carries stands waiting stream messages → Carries stands waiting (with_text (canonical message) stream) (messages ++ message.body ∷ [])
carries_said {stream = stream} alone message fit on begun (carries_whole said good flows) = whole_said alone stream message fit begun said good flows
carries_said {stream = stream} alone message fit on begun (carries_spoiled spoiled hides) = spoiled_said alone stream message fit begun spoiled hides
carries_said alone message fit on begun (carries_over off none) = absurd (false≢true (sym off ∙ on))

-- or to an end at which nothing waits
pub carries_answer : {stands : Bool} {stream : Stream} {messages : List Horizontal} → SaysAlone → (message : Message) → IsFit message → is_begun stream.texts stream.arrived ≡ true
    → Carries stands [] stream messages → Carries stands [] (with_text (canonical message) stream) (messages ++ message.body ∷ [])
carries_answer {stream = stream} alone message fit begun (carries_whole said good flows) = whole_said alone stream message fit begun said good flows
carries_answer {stream = stream} alone message fit begun (carries_spoiled spoiled hides) = spoiled_said alone stream message fit begun spoiled hides
carries_answer {stream = stream} alone message fit begun (carries_over off none) = whole_said alone stream message fit begun [] none_fit (subst (λ (z : List ℕ). Flows [] z []) (sym none) nothing_flows)
