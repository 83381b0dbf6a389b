-- The words of a piece, where what flows are the texts of messages that the machine at the other end sends: none is wrong, and
-- each says such a message.
use Rattle.std.proofs.Common.{Bool, List, Option, Some, [], ap, append-nil, append_assoc, drop, false, length, refl, subst, sym, true, ℕ, ◌++◌, ◌∙◌, ◌∷◌, ◌≡◌}
use Rattle.std.proofs.lemmas.Bool.{false≢true}
use Rattle.law_custody.proofs.Texts.{no_first, texts_behind, first_text}
use Rattle.line_base.specs.declared.states.Side.{Side}
use Rattle.hermes_stream.specs.Frames.{Frames, frames_of}
use Rattle.hermes_horizontal.specs.Canonical.{canonical}
use Rattle.hermes_horizontal.specs.Spelling.{Spells}
use Rattle.hermes_horizontal.specs.declared.message.Horizontal.{Horizontal}
use Rattle.hermes_horizontal.specs.declared.message.Message.{Message}
use Rattle.line_link.specs.Flow.{Stream, coming}
use Rattle.line_step.specs.Reasons.{is_empty}
use Rattle.node_core.specs.Words.{AreFirst, AreWords, IsWrong, first_more, first_none, first_too_long}
use Rattle.node_core.specs.declared.word.Word.{Word}
use Rattle.node_core.specs.declared.word.Word.TheVariants as words
use Rattle.law_custody.specs.Bytes.{Flows, Spoiled, texts_of}
use Rattle.law_custody.proofs.Messages.{sends_a_message}
use Rattle.law_custody.proofs.Spoils.{nul_stays}
use Rattle.law_machine_custody.specs.Flight.{AreOldest, oldest_none, oldest_wrong}
use Rattle.law_link_messages.specs.Fit.{AreFit, AreFitWords, IsFit, more_fit, none_fit}
use Rattle.law_link_messages.specs.Heard.{AreSayable, Heard, HeardSpoiled, bodies, more_sayable, none_sayable}
use Rattle.law_link_messages.proofs.Fitting.{both_fit, fit_behind}
use Rattle.law_link_messages.proofs.Fronts.{IsFront, front_of, no_end}
use Rattle.law_one_standing.specs.Carried.{Carries, carries_over, carries_spoiled, carries_whole}
use Rattle.law_one_standing.proofs.BlameLinks.{Clear, clear_over, clear_spoiled, clear_whole, first_frame}
use Rattle.law_one_standing.proofs.Carrying.{SaysAlone}
use Rattle.law_one_standing.proofs.Counting.{is_wrong_first}
use Rattle.step_rules.proofs.BlameReady.{ready_after, ready_words}
use Rattle.law_one_standing.proofs.FactsBlame.{AreBodiesFrom, AreFrom, Front, front_of as oldest_front, said}
use Rattle.law_one_standing.proofs.MirroringFlow.{empty_of, no_words}

-- ---- no word is wrong

abbrev AreSaid : List Word → Type 0
AreSaid [] = Unit {0}
AreSaid (words.Says message ∷ others) = AreSaid others
AreSaid (words.Wrong text ∷ others) = ⊥

never_wrong : {X : Type 0} (frame text : List ℕ) (message : Message) → frame ≡ canonical message → Spells (canonical message) message → IsWrong frame text → X
never_wrong frame text message is spells wrong = absurd (wrong.spells_none message (subst (λ (f : List ℕ). Spells f message) (sym is) spells))

first_said : (frames : List (List ℕ)) (rest : Option (List ℕ)) (heard : List Word) (messages : List Message) (later : List (List ℕ)) (left : List ℕ)
    → AreFirst frames rest heard → texts_of messages ≡ frames ++ later → rest ≡ Some left → AreSayable messages → AreSaid heard
first_said _ rest _ messages later left first_none are is sayable = tt
first_said _ _ _ messages later left first_too_long are is sayable = absurd (no_end is)
first_said (frame ∷ frames) rest (word ∷ others) [] later left (first_more means more) are is none_sayable = absurd (no_first (sym are))
first_said (frame ∷ frames) rest (words.Says heard ∷ others) (message ∷ messages) later left (first_more means more) are is (more_sayable it sayable) =
    first_said frames rest others messages later left more (texts_behind are) is sayable
first_said (frame ∷ frames) rest (words.Wrong text ∷ others) (message ∷ messages) later left (first_more means more) are is (more_sayable it sayable) =
    never_wrong frame text message (sym (first_text are)) it.spells means

-- ---- each says a message that comes to this side

-- the words are what these messages say, which come so to a side that is ready or not
pub record IsSaid (side : Side) (ready : Bool) (heard : List Word) : Type 0 where
  pub messages : List Message
  pub are : heard ≡ said messages
  pub from : AreFrom side ready messages

says_of : (side : Side) (ready : Bool) (heard : List Word) (sent : List Horizontal) → AreOldest heard sent → AreSaid heard → AreBodiesFrom side ready sent → IsSaid side ready heard
says_of side ready [] sent oldest plain all = record { messages = []; are = refl; from = tt }
says_of side ready (words.Says message ∷ others) sent oldest plain all =
    let f : Front message.body others sent = oldest_front oldest in
    let here : AreBodiesFrom side ready (message.body ∷ f.rest) = subst (λ (bs : List Horizontal). AreBodiesFrom side ready bs) f.is all in
    let more : IsSaid side (ready_after side ready message.body) others = says_of side (ready_after side ready message.body) others f.rest f.oldest plain here.1 in
    record { messages = message ∷ more.messages; are = ap (λ (ws : List Word). words.Says message ∷ ws) more.are; from = (here.0, more.from) }
says_of side ready (words.Wrong text ∷ others) sent oldest plain all = absurd plain

plain_words : SaysAlone → (old piece later new : List ℕ) (still : Bool) (heard : List Word) (messages : List Message) → AreSayable messages → Flows old (piece ++ later) (texts_of messages) → AreWords old piece new still heard → AreSaid heard
plain_words alone old piece later new still heard messages sayable flows are =
    let front : IsFront (texts_of messages) (old ++ piece) later = front_of (texts_of messages) (old ++ piece) later (ap frames_of (append_assoc old piece later) ∙ flows.frames) in
    first_said (frames_of (old ++ piece)).messages (frames_of (old ++ piece)).rest heard messages front.later front.left are.first front.texts_are front.rest sayable

pub words_said : {side : Side} {ready : Bool} → SaysAlone → (old piece later new : List ℕ) (still : Bool) (heard : List Word) (messages : List Message) → AreFit messages → AreFrom side ready messages → Flows old (piece ++ later) (texts_of messages)
    → AreWords old piece new still heard → IsSaid side ready heard
words_said {side} {ready} alone old piece later new still heard messages fit from flows are =
    let sayable : AreSayable messages = alone.sayable messages fit in
    let plain : AreSaid heard = plain_words alone old piece later new still heard messages sayable flows are in
    says_of side ready heard (bodies messages) (alone.oldest old piece later new still heard messages sayable flows are).oldest plain from

-- ---- what the scene knows of them

pub carries_oldest : {stands : Bool} {old : List ℕ} {stream : Stream} {messages : List Horizontal} → SaysAlone → (piece later new : List ℕ) (still : Bool) (heard : List Word) → coming stream ≡ piece ++ later → is_empty (coming stream) ≡ false
    → AreWords old piece new still heard → Carries stands old stream messages → AreOldest heard messages
carries_oldest {old = old} alone piece later new still heard is some are (carries_whole sent fit flows) =
    (alone.oldest old piece later new still heard sent (alone.sayable sent fit) (subst (λ (b : List ℕ). Flows old b (texts_of sent)) is flows) are).oldest
carries_oldest {old = old} {messages = messages} alone piece later new still heard is some are (carries_spoiled spoiled hides) =
    (alone.wrong old piece later new still heard messages (subst (λ (b : List ℕ). Spoiled old b) is spoiled) are).oldest
carries_oldest {stream = stream} alone piece later new still heard is some are (carries_over off none) = absurd (false≢true (sym some ∙ empty_of (coming stream) none))

-- ---- what the words of a piece are

-- they say messages that come to this side; or there is none, or the first is wrong, where the text was spoiled
pub data AreSpoken (Taint : Type 0) (side : Side) (ready : Bool) : List Word → Type 0 where
  spoken_said : {heard : List Word} → IsSaid side ready heard → AreSpoken Taint side ready heard
  spoken_none : AreSpoken Taint side ready []
  spoken_wrong : {text : List ℕ} {others : List Word} → Taint → AreSpoken Taint side ready (words.Wrong text ∷ others)

wrong_or_none : {Taint : Type 0} {side : Side} {ready : Bool} (heard : List Word) → Taint → AreOldest heard [] → AreSpoken Taint side ready heard
wrong_or_none _ taint oldest_none = spoken_none
wrong_or_none _ taint oldest_wrong = spoken_wrong taint

pub words_spoken : {Taint : Type 0} {side : Side} {ready free stands : Bool} {old bytes : List ℕ} → SaysAlone → (piece later new : List ℕ) (still : Bool) (heard : List Word) → bytes ≡ piece ++ later → is_empty bytes ≡ false
    → AreWords old piece new still heard → Clear Taint side ready free stands old bytes → AreSpoken Taint side ready heard
words_spoken {old = old} alone piece later new still heard is some are (clear_whole sent fit from then flows) =
    spoken_said (words_said alone old piece later new still heard sent fit from (subst (λ (b : List ℕ). Flows old b (texts_of sent)) is flows) are)
words_spoken {old = old} alone piece later new still heard is some are (clear_spoiled taint spoiled) =
    wrong_or_none heard taint (alone.wrong old piece later new still heard [] (subst (λ (b : List ℕ). Spoiled old b) is spoiled) are).oldest
words_spoken {bytes = bytes} alone piece later new still heard is some are (clear_over off none) = absurd (false≢true (sym some ∙ empty_of bytes none))

-- and each of its parts is within what its type allows
pub words_fit : {Taint : Type 0} {side : Side} {ready free stands : Bool} {old bytes : List ℕ} → SaysAlone → (piece later new : List ℕ) (still : Bool) (heard : List Word) → bytes ≡ piece ++ later → is_empty bytes ≡ false
    → AreWords old piece new still heard → Clear Taint side ready free stands old bytes → AreFitWords heard
words_fit {old = old} alone piece later new still heard is some are (clear_whole sent fit from then flows) =
    alone.fit_words old piece later new still heard sent (alone.sayable sent fit) fit (subst (λ (b : List ℕ). Flows old b (texts_of sent)) is flows) are
words_fit {old = old} alone piece later new still heard is some are (clear_spoiled taint spoiled) = alone.fit_wrong old piece later new still heard (subst (λ (b : List ℕ). Spoiled old b) is spoiled) are
words_fit {bytes = bytes} alone piece later new still heard is some are (clear_over off none) = absurd (false≢true (sym some ∙ empty_of bytes none))

-- ---- what waits behind it, at a side that is open still

none_left : {m : Message} {others : List Word} → AreOldest (words.Says m ∷ others) [] → ⊥
none_left oldest = elim oldest [ ]

body_is : {a b : Horizontal} {more others : List Horizontal} → a ∷ more ≡ b ∷ others → a ≡ b
body_is is = cc

bodies_are : {a b : Horizontal} {more others : List Horizontal} → a ∷ more ≡ b ∷ others → more ≡ others
bodies_are is = cc

-- what is behind the words that were heard
from_behind : (side : Side) (ready : Bool) (heard : List Word) (messages : List Message) → AreOldest heard (bodies messages) → AreSaid heard → AreFrom side ready messages → AreFrom side (ready_words side ready heard) (drop (length heard) messages)
from_behind side ready [] messages oldest plain all = all
from_behind side ready (words.Wrong text ∷ others) messages oldest plain all = absurd plain
from_behind side ready (words.Says heard ∷ others) [] oldest plain all = absurd (none_left oldest)
from_behind side ready (words.Says heard ∷ others) (message ∷ messages) oldest plain all =
    let f : Front heard.body others (message.body ∷ bodies messages) = oldest_front oldest in
    from_behind side (ready_after side ready heard.body) others messages (subst (λ (bs : List Horizontal). AreOldest others bs) (sym (bodies_are f.is)) f.oldest) plain
    (subst (λ (b : Horizontal). AreBodiesFrom side (ready_after side ready b) (bodies messages)) (body_is f.is) all.1)

flows_on : (old piece later : List ℕ) (texts : List (List ℕ)) → Flows (old ++ piece) later texts → Flows old (piece ++ later) texts
flows_on old piece later texts f = record { frames = ap frames_of (sym (append_assoc old piece later)) ∙ f.frames }

spoiled_on : (old piece later : List ℕ) → Spoiled (old ++ piece) later → Spoiled old (piece ++ later)
spoiled_on old piece later sp = record {
  front = sp.front;
  rest = sp.rest;
  none = sp.none;
  same = λ more. ap frames_of (ap (λ (b : List ℕ). old ++ b) (append_assoc piece later more) ∙ sym (append_assoc old piece (later ++ more))) ∙ sp.same more;
}

pub clear_waits : {Taint : Type 0} {side : Side} {ready free stands : Bool} {later : List ℕ} → SaysAlone → (old piece new : List ℕ) (still : Bool) (heard : List Word) → AreWords old piece new still heard → still ≡ true → is_wrong_first heard ≡ false
    → Clear Taint side ready free stands (old ++ piece) later → Clear Taint side (ready_words side ready heard) false stands new later
clear_waits {side = side} {ready = ready} {later = later} alone old piece new still heard are on good (clear_whole sent fit from then flows) =
    let sayable : AreSayable sent = alone.sayable sent fit in
    let here : Flows old (piece ++ later) (texts_of sent) = flows_on old piece later (texts_of sent) flows in
    let h : Heard sent heard new later still = alone.oldest old piece later new still heard sent sayable here are in
    clear_whole (drop (length heard) sent) (fit_behind (length heard) sent fit) (from_behind side ready heard sent h.oldest (plain_words alone old piece later new still heard sent sayable here are) from) (λ free on. absurd (false≢true free)) (h.flows on)
clear_waits {later = later} alone old piece new still heard are on good (clear_spoiled taint spoiled) =
    let h : HeardSpoiled [] heard new later still = alone.wrong old piece later new still heard [] (spoiled_on old piece later spoiled) are in
    clear_spoiled taint (h.spoiled on (no_words heard h.oldest good))
clear_waits alone old piece new still heard are on good (clear_over off none) = clear_over off none

-- ---- the same bytes, as the scene has them and as they are known in their order

-- words that these messages are, whatever waits
said_words : (frames : List (List ℕ)) (rest : Option (List ℕ)) (messages : List Message) → frames ≡ texts_of messages → AreSayable messages → AreFirst frames rest (said messages)
said_words frames rest [] is sayable = first_none
said_words frames rest (message ∷ messages) is (more_sayable it sayable) =
    subst (λ (fs : List (List ℕ)). AreFirst fs rest (said (message ∷ messages))) (sym is) (first_more it.spells (said_words (texts_of messages) rest messages refl sayable))

all_words : (old bytes : List ℕ) (messages : List Message) → AreSayable messages → Flows old bytes (texts_of messages) → AreWords old bytes [] false (said messages)
all_words old bytes messages sayable flows = record {
  first = said_words (frames_of (old ++ bytes)).messages (frames_of (old ++ bytes)).rest messages (ap (λ (f : Frames). f.messages) flows.frames) sayable;
  all = λ on. absurd (false≢true on);
}

nothing_more : (old bytes : List ℕ) (texts : List (List ℕ)) → Flows old bytes texts → Flows old (bytes ++ []) texts
nothing_more old bytes texts flows = subst (λ (b : List ℕ). Flows old b texts) (sym (append-nil bytes)) flows

-- they are the same messages
pub same_said : SaysAlone → (old bytes : List ℕ) (sent messages : List Message) → AreFit sent → AreFit messages → Flows old bytes (texts_of sent) → Flows old bytes (texts_of messages) → AreOldest (said sent) (bodies messages)
same_said alone old bytes sent messages fit good one two =
    (alone.oldest old bytes [] [] false (said sent) messages (alone.sayable messages good) (nothing_more old bytes (texts_of messages) two) (all_words old bytes sent (alone.sayable sent fit) one)).oldest

no_word : (messages : List Message) (more : Message) → AreOldest (said (messages ++ more ∷ [])) [] → ⊥
no_word [] more oldest = elim oldest [ ]
no_word (message ∷ messages) more oldest = elim oldest [ ]

-- a text that was spoiled isn't whole: with one more message behind it it would be the first word, and wrong
pub never_spoiled : SaysAlone → (old bytes : List ℕ) (messages : List Message) (more : Message) → AreFit messages → IsFit more → Flows old bytes (texts_of messages) → Spoiled old bytes → ⊥
never_spoiled alone old bytes messages more fit one flows spoiled =
    let all : AreFit (messages ++ more ∷ []) = both_fit fit (more_fit one none_fit) in
    let text : List ℕ = canonical more in
    let next : Flows old (bytes ++ text) (texts_of (messages ++ more ∷ [])) = sends_a_message old bytes messages more (first_frame (alone.sayable (more ∷ []) (more_fit one none_fit))) flows in
    no_word (messages) more (alone.wrong old (bytes ++ text) [] [] false (said (messages ++ more ∷ [])) [] (subst (λ (b : List ℕ). Spoiled old b) (sym (append-nil (bytes ++ text))) (nul_stays old bytes text spoiled))
    (all_words old (bytes ++ text) (messages ++ more ∷ []) (alone.sayable (messages ++ more ∷ []) all) next)).oldest
