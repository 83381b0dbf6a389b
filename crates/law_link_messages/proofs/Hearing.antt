-- The words of a piece are the oldest of the messages that flow.
use Rattle.std.proofs.Common.{Bool, List, Option, Some, [], ap, drop, length, append_assoc, suc, subst, sym, zero, ℕ, ◌++◌, ◌∙◌, ◌∷◌, ◌≡◌}
use Rattle.law_custody.proofs.Texts.{first_text, texts_behind, no_first}
use Rattle.hermes_stream.specs.Frames.{frames_of}
use Rattle.hermes_horizontal.specs.Canonical.{canonical}
use Rattle.hermes_horizontal.specs.declared.message.Message.{Message}
use Rattle.node_core.specs.Words.{AreAll, AreFirst, AreWords, Means, all_more, all_none, first_more, first_none, first_too_long}
use Rattle.node_core.specs.declared.word.Word.{Word}
use Rattle.node_core.specs.declared.word.Word.TheVariants.{Says}
use Rattle.law_custody.specs.Bytes.{Flows, texts_of}
use Rattle.law_machine_custody.specs.Flight.{AreOldest, oldest_none, oldest_says}
use Rattle.law_link_messages.specs.Heard.{AreSayable, Heard, IsSayable, bodies, more_sayable, none_sayable}
use Rattle.law_link_messages.proofs.Fronts.{IsFront, front_of, no_end}

-- a frame means one thing at most
abbrev pub OneMeaning : Type 0
OneMeaning = (frame : List ℕ) (a b : Word) → Means frame a → Means frame b → a ≡ b

-- a frame that is the text of a message means that message
pub means_it : OneMeaning → (frame : List ℕ) (word : Word) (message : Message) → frame ≡ canonical message → IsSayable message → Means frame word → Says message ≡ word
means_it one frame word message is sayable means = one (canonical message) (Says message) word sayable.spells (subst (λ (f : List ℕ). Means f word) is means)

pub first_are_oldest : OneMeaning → (frames : List (List ℕ)) (rest : Option (List ℕ)) (words : List Word) (messages : List Message) (later : List (List ℕ)) (left : List ℕ)
    → AreFirst frames rest words → texts_of messages ≡ frames ++ later → rest ≡ Some left → AreSayable messages → AreOldest words (bodies messages)
first_are_oldest one _ rest _ messages later left first_none are is sayable = oldest_none
first_are_oldest one _ _ _ messages later left first_too_long are is sayable = absurd (no_end is)
first_are_oldest one (frame ∷ frames) rest (word ∷ words) [] later left (first_more means more) are is none_sayable = absurd (no_first (sym are))
first_are_oldest one (frame ∷ frames) rest (word ∷ words) (message ∷ messages) later left (first_more means more) are is (more_sayable it others) =
    let e : frame ∷ (frames ++ later) ≡ canonical message ∷ texts_of messages = sym are in
    subst (λ (w : Word). AreOldest (w ∷ words) (bodies (message ∷ messages))) (means_it one frame word message (first_text e) it means)
    (oldest_says (first_are_oldest one frames rest words messages later left more (sym (texts_behind e)) is others))

-- where all frames were heard, so many messages were
pub all_leave : (frames : List (List ℕ)) (rest : Option (List ℕ)) (words : List Word) (messages : List Message) (later : List (List ℕ)) (new : List ℕ)
    → AreAll frames rest words new → texts_of messages ≡ frames ++ later → texts_of (drop (length words) messages) ≡ later
all_leave _ _ _ messages later new all_none are = are
all_leave (frame ∷ frames) rest (word ∷ words) [] later new (all_more means more) are = absurd (no_first (sym are))
all_leave (frame ∷ frames) rest (word ∷ words) (message ∷ messages) later new (all_more means more) are = all_leave frames rest words messages later new more (texts_behind are)

-- and what is left waits
pub all_wait : (frames : List (List ℕ)) (rest : Option (List ℕ)) (words : List Word) (new left : List ℕ) → AreAll frames rest words new → rest ≡ Some left → left ≡ new
all_wait _ _ _ new left all_none is = cc
all_wait (frame ∷ frames) rest (word ∷ words) new left (all_more means more) is = all_wait frames rest words new left more is

sayable_behind : (count : ℕ) (messages : List Message) → AreSayable messages → AreSayable (drop count messages)
sayable_behind zero messages s = s
sayable_behind (suc count) [] s = s
sayable_behind (suc count) (message ∷ messages) (more_sayable it others) = sayable_behind count messages others

pub hears_whole : OneMeaning → (old piece coming new : List ℕ) (still : Bool) (words : List Word) (messages : List Message)
    → AreSayable messages → Flows old (piece ++ coming) (texts_of messages) → AreWords old piece new still words → Heard messages words new coming still
hears_whole one old piece coming new still words messages sayable flows are =
    let front : IsFront (texts_of messages) (old ++ piece) coming = front_of (texts_of messages) (old ++ piece) coming (ap frames_of (append_assoc old piece coming) ∙ flows.frames) in
    record {
      oldest = first_are_oldest one (frames_of (old ++ piece)).messages (frames_of (old ++ piece)).rest words messages front.later front.left are.first front.texts_are front.rest sayable;
      sayable = sayable_behind (length words) messages sayable;
      flows = λ open_still.
          let all = are.all open_still in
          record {
            frames = subst (λ (w : List ℕ). frames_of (w ++ coming) ≡ record { messages = texts_of (drop (length words) messages); rest = Some [] }) (all_wait (frames_of (old ++ piece)).messages (frames_of (old ++ piece)).rest words new front.left all front.rest)
                (front.flows ∙ ap (λ (ms : List (List ℕ)). record { messages = ms; rest = Some [] }) (sym (all_leave (frames_of (old ++ piece)).messages (frames_of (old ++ piece)).rest words messages front.later new all front.texts_are)));
          };
    }
