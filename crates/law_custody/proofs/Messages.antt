-- Messages on a link, by their texts.
use Rattle.std.proofs.Common.{List, [], ap, length, refl, sym, ℕ, ◌++◌, ◌∷◌, ◌≡◌}
use Rattle.hermes_stream.specs.Cutter.{GivesFrame}
use Rattle.hermes_stream.specs.Frames.{IsOneFrame}
use Rattle.hermes_horizontal.specs.Canonical.{canonical}
use Rattle.hermes_horizontal.specs.Spelling.{IsRefusedBy}
use Rattle.hermes_horizontal.specs.declared.message.Message.{Message}
use Rattle.law_custody.specs.Bytes.{Flows, HasNul, IsRefusedFrame, Next, NextMessage, texts_of}
use Rattle.law_custody.proofs.Texts.{cuts_the_first, first_text, no_first, sends_one_frame, texts_behind}

texts_append : (messages : List Message) (message : Message) → texts_of (messages ++ message ∷ []) ≡ texts_of messages ++ canonical message ∷ []
texts_append [] message = refl
texts_append (first ∷ messages) message = ap (λ ts. canonical first ∷ ts) (texts_append messages message)

-- a message that is sent comes behind
pub sends_a_message : (w c : List ℕ) (messages : List Message) (message : Message) → IsOneFrame (canonical message) → Flows w c (texts_of messages)
    → Flows w (c ++ canonical message) (texts_of (messages ++ message ∷ []))
sends_a_message w c messages message one k = rw (texts_append messages message) (sends_one_frame w c (canonical message) (texts_of messages) one k)

heard_first : (messages : List Message) (w c f : List ℕ) → Next w c (texts_of messages) f → NextMessage w c messages f
heard_first [] w c f n = absurd (no_first (sym n.first))
heard_first (message ∷ messages) w c f n = record {
  heard = message;
  later = messages;
  are = refl;
  text = sym (first_text n.first);
  flows = rw (texts_behind n.first) n.flows;
}

-- a frame is the text of the first message that was not heard
pub cuts_the_first_message : (w c f : List ℕ) (messages : List Message) → GivesFrame w f → Flows w c (texts_of messages) → NextMessage w c messages f
cuts_the_first_message w c f messages g k = heard_first messages w c f (cuts_the_first g k)

-- bytes with a NUL are refused, if those are that have it at any place
pub refused_with_nul : ((front rest : List ℕ) → IsRefusedBy (front ++ 0 ∷ rest) (length front)) → (f : List ℕ) → HasNul f → IsRefusedFrame f
refused_with_nul zero f h = record { most = length h.front; refused = rw h.is (zero h.front h.rest) }
