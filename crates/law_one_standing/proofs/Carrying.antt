-- What the laws of what is said say of the bytes on a link.
use Rattle.std.proofs.Common.{Bool, List, [], ap, false, refl, ℕ, ◌++◌, ◌∷◌, ◌≡◌}
use Rattle.hermes_stream.specs.Frames.{IsOneFrame}
use Rattle.hermes_horizontal.specs.Canonical.{canonical}
use Rattle.hermes_horizontal.specs.declared.message.Horizontal.{Horizontal}
use Rattle.hermes_horizontal.specs.declared.message.Message.{Message}
use Rattle.line_link.specs.Flow.{Stream, coming}
use Rattle.node_core.specs.Words.{AreWords}
use Rattle.node_core.specs.declared.word.Word.{Word}
use Rattle.law_custody.specs.Bytes.{Flows, Spoiled, texts_of}
use Rattle.law_link_messages.specs.Fit.{AreFit, AreFitWords}
use Rattle.law_link_messages.specs.Heard.{AreSayable, Heard, HeardSpoiled, bodies, more_sayable}
use Rattle.law_one_standing.specs.Carried.{Carries, carries_over, carries_spoiled, carries_whole}

-- ---- what fit messages say alone: the laws of link_messages that stand on the reading of texts

pub record SaysAlone : Type 0 where
  pub oldest : (old piece coming new : List ℕ) (still : Bool) (words : List Word) (messages : List Message) → AreSayable messages → Flows old (piece ++ coming) (texts_of messages) → AreWords old piece new still words → Heard messages words new coming still
  pub wrong : (old piece coming new : List ℕ) (still : Bool) (words : List Word) (messages : List Horizontal) → Spoiled old (piece ++ coming) → AreWords old piece new still words → HeardSpoiled messages words new coming still
  pub sayable : (messages : List Message) → AreFit messages → AreSayable messages
  pub fit_words : (old piece coming new : List ℕ) (still : Bool) (words : List Word) (messages : List Message) → AreSayable messages → AreFit messages → Flows old (piece ++ coming) (texts_of messages) → AreWords old piece new still words → AreFitWords words
  pub fit_wrong : (old piece coming new : List ℕ) (still : Bool) (words : List Word) → Spoiled old (piece ++ coming) → AreWords old piece new still words → AreFitWords words

pub first_frame : (message : Message) (messages : List Message) → AreSayable (message ∷ messages) → IsOneFrame (canonical message)
first_frame message messages (more_sayable one others) = one.one

-- ---- a text is sent

pub bodies_append : (messages : List Message) (message : Message) → bodies (messages ++ message ∷ []) ≡ bodies messages ++ message.body ∷ []
bodies_append [] message = refl
bodies_append (first ∷ messages) message = ap (λ bs. first.body ∷ bs) (bodies_append messages message)

-- a link that is cut carries what was on its way to the other end still, or nothing more
pub carries_off : {stands : Bool} {waiting : List ℕ} {stream : Stream} {messages : List Horizontal} → Carries stands waiting stream messages → Carries false waiting stream messages
carries_off (carries_whole said good flows) = carries_whole said good flows
carries_off (carries_spoiled spoiled hides) = carries_spoiled spoiled hides
carries_off (carries_over off none) = carries_over refl none
