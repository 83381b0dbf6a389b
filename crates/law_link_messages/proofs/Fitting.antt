-- The words that a side hears of fit messages are fit, and the first word behind a NUL.
use Rattle.std.proofs.Common.{Bool, List, None, Option, Some, [], ap, append_assoc, arith, codes, drop, length, option_map, refl, subst, suc, sym, zero, ℕ, ◌++◌, ◌<◌, ◌^◌, ◌∙◌, ◌∷◌, ◌≡◌, ◌≤◌, length-append}
use Rattle.std.specs.List.{AllByRecursion}
use Rattle.law_custody.proofs.Texts.{no_first, texts_behind, first_text}
use Rattle.line_base.specs.Text.{IsText}
use Rattle.line_base.specs.declared.states.Side.{Side}
use Rattle.line_base.specs.declared.states.Side.TheVariants.{Entry, Exit}
use Rattle.line_base.proofs.Printable.{plain_is_text}
use Rattle.hermes_stream.specs.Frames.{Answer, Frame, Frames, NeedMore, TooLong, answer_of, frames_of}
use Rattle.hermes_stream.proofs.Runs.{gives_frame}
use Rattle.hermes_stream.proofs.Streams.{frames_of-frame, frames_of-need_more, frames_of-too_long}
use Rattle.hermes_horizontal.specs.Canonical.{HasProperSubs, HasWritableSubs, IsProperIf, canonical}
use Rattle.hermes_horizontal.specs.Parts.{inner_of, parts}
use Rattle.hermes_horizontal.specs.Values.{worded}
use Rattle.hermes_horizontal.specs.Spelling.{IsRefused, IsRefusedBy}
use Rattle.hermes_horizontal.specs.declared.fault.Fault.{Fault}
use Rattle.hermes_horizontal.specs.declared.message.Horizontal.{Horizontal}
use Rattle.hermes_horizontal.specs.declared.message.Horizontal.TheVariants as bodies
use Rattle.hermes_horizontal.specs.declared.message.Message.{Message}
use Rattle.hermes_horizontal.proofs.Refusals.{IsText_refusal}
use Rattle.hermes_vertical.specs.declared.message.VerticalMessage.{VerticalMessage}
use Rattle.node_core.specs.Desk.{Desk}
use Rattle.node_core.specs.Supervising.{with_tells}
use Rattle.node_core.specs.Words.{AreFirst, AreWords, IsWrong, first_more, first_none, first_too_long}
use Rattle.node_core.specs.declared.act.Act.{Act}
use Rattle.node_core.specs.declared.act.Act.TheVariants as acts
use Rattle.node_core.specs.declared.supervising.Watch.{Watch}
use Rattle.node_core.specs.declared.word.Word.{Word}
use Rattle.node_core.specs.declared.word.Word.TheVariants.{Says, Wrong}
use Rattle.node_core.proofs.Telling.{tells_pass}
use Rattle.law_custody.proofs.Spoils.{nul_arrives}
use Rattle.law_custody.specs.Bytes.{Flows, HasNul, Spoiled, texts_of}
use Rattle.law_link_messages.specs.Fit.{AreFit, AreFitWords, IsFit, IsFitHeard, IsTextIf, more_fit, more_heard, none_fit, none_heard, sent_on, wrong_heard}
use Rattle.law_link_messages.specs.Heard.{AreSayable, more_sayable, none_sayable}
use Rattle.law_link_messages.proofs.Fronts.{IsFront, front_of, no_end}
use Rattle.law_link_messages.proofs.Hearing.{OneMeaning, means_it}
use Rattle.law_link_messages.proofs.Spoiling.{NulSpellsNone, first_has_nul, none_is}

-- ---- a fit message is heard as one

text_if : (id : Option (List ℕ)) → IsProperIf (option_map worded id) → IsTextIf id
text_if None given = tt
text_if (Some text) given = given

fit_body : (what : Horizontal) → AllByRecursion IsProperIf (parts what) → HasWritableSubs (inner_of what) → HasProperSubs (inner_of what) → IsFitHeard what
fit_body (bodies.BoardAvailable board) values subs barcodes = record { values = values; subs = subs; barcodes = barcodes }
fit_body (bodies.StartTransport id) values subs barcodes = values.0
fit_body (bodies.CheckAlive ping id) values subs barcodes = text_if id values.1.0
fit_body _ values subs barcodes = tt

pub fit_is_heard : (message : Message) → IsFit message → IsFitHeard message.body
fit_is_heard message fit = fit_body message.body fit.proper.values fit.writable.subs fit.proper.subs

-- ---- lists of fit messages

pub fit_behind : (count : ℕ) (messages : List Message) → AreFit messages → AreFit (drop count messages)
fit_behind zero messages fit = fit
fit_behind (suc count) [] fit = fit
fit_behind (suc count) (message ∷ messages) (more_fit one others) = fit_behind count messages others

pub both_fit : {a b : List Message} → AreFit a → AreFit b → AreFit (a ++ b)
both_fit none_fit b = b
both_fit (more_fit one others) b = more_fit one (both_fit others b)

-- what the supervisor is told goes out on no link
sent_both : (side : Side) (act : Act) (told made : List Act) → sent_on side told ≡ sent_on side made
    → sent_on side (act ∷ told) ≡ sent_on side (act ∷ made)
sent_both Entry (acts.Sends Entry message) told made same =
    ap (λ (xs : List Message). message ∷ xs) same
sent_both Exit (acts.Sends Exit message) told made same =
    ap (λ (xs : List Message). message ∷ xs) same
sent_both side _ told made same = same

sent_past : (side : Side) (message : VerticalMessage) (told : List Act)
    → sent_on side (acts.Tells message ∷ told) ≡ sent_on side told
sent_past Entry message told = refl
sent_past Exit message told = refl

pub sent_tells : (side : Side) (desk : Desk) (watch : Watch) (made : List Act)
    → sent_on side (with_tells desk watch made) ≡ sent_on side made
sent_tells side desk watch made =
    tells_pass (sent_on side) (sent_both side) (sent_past side) desk watch made

-- ---- words of messages that flow

pub words_are_fit : OneMeaning → (frames : List (List ℕ)) (rest : Option (List ℕ)) (words : List Word) (messages : List Message) (later : List (List ℕ)) (left : List ℕ)
    → AreFirst frames rest words → texts_of messages ≡ frames ++ later → rest ≡ Some left → AreSayable messages → AreFit messages → AreFitWords words
words_are_fit one _ rest _ messages later left first_none are is sayable fit = none_heard
words_are_fit one _ _ _ messages later left first_too_long are is sayable fit = absurd (no_end is)
words_are_fit one (frame ∷ frames) rest (word ∷ words) [] later left (first_more means more) are is none_sayable fit = absurd (no_first (sym are))
words_are_fit one (frame ∷ frames) rest (word ∷ words) (message ∷ messages) later left (first_more means more) are is (more_sayable it others) (more_fit good fit) =
    let e : frame ∷ (frames ++ later) ≡ canonical message ∷ texts_of messages = sym are in
    subst (λ (w : Word). AreFitWords (w ∷ words)) (means_it one frame word message (first_text e) it means)
    (more_heard (fit_is_heard message good) (words_are_fit one frames rest words messages later left more (sym (texts_behind e)) is others fit))

pub fit_words_of_whole : OneMeaning → (old piece coming new : List ℕ) (still : Bool) (words : List Word) (messages : List Message)
    → AreSayable messages → AreFit messages → Flows old (piece ++ coming) (texts_of messages) → AreWords old piece new still words → AreFitWords words
fit_words_of_whole one old piece coming new still words messages sayable fit flows are =
    let front : IsFront (texts_of messages) (old ++ piece) coming = front_of (texts_of messages) (old ++ piece) coming (ap frames_of (append_assoc old piece coming) ∙ flows.frames) in
    words_are_fit one (frames_of (old ++ piece)).messages (frames_of (old ++ piece)).rest words messages front.later front.left are.first front.texts_are front.rest sayable fit

-- ---- the first word behind a NUL

abbrev pub ZeroIsRefused : Type 0
ZeroIsRefused = (front rest : List ℕ) → IsRefusedBy (front ++ 0 ∷ rest) (length front)

abbrev pub RefusedOnce : Type 0
RefusedOnce = (bytes : List ℕ) (at place : ℕ) (why reason : Fault) → IsRefused bytes at why → IsRefused bytes place reason → (at ≡ place) × (why ≡ reason)

small_place : (at place most : ℕ) (front rest : List ℕ) → place ≤ length front → at ≡ place → length (front ++ 0 ∷ rest) ≤ 65536 → at < 2 ^ 64
small_place at place most front rest near same short = omega (arith, length-append front (0 ∷ rest))

wrong_is_text : ZeroIsRefused → RefusedOnce → (frame text : List ℕ) → HasNul frame → length frame ≤ 65536 → IsWrong frame text → IsText text
wrong_is_text refused_at once frame text nul short wrong =
    let refused : IsRefusedBy frame (length nul.front) = subst (λ (f : List ℕ). IsRefusedBy f (length nul.front)) (sym nul.is) (refused_at nul.front nul.rest) in
    let same = once frame wrong.at refused.at wrong.why refused.why wrong.refused refused.refused in
    let near : length (nul.front ++ 0 ∷ nul.rest) ≤ 65536 = subst (λ (f : List ℕ). length f ≤ 65536) nul.is short in
    subst (λ (t : List ℕ). IsText t) (sym wrong.told) (IsText_refusal wrong.why wrong.at (small_place wrong.at refused.at 0 nul.front nul.rest refused.near same.0 near))

-- the first frame has at most the bytes of one
first_short : (x frame : List ℕ) (frames : List (List ℕ)) (answer : Answer) → answer_of x ≡ answer → (frames_of x).messages ≡ frame ∷ frames → length frame ≤ 65536
first_short x frame frames (Frame f) is are =
    let same : f ≡ frame = first_text (sym (ap (λ (z : Frames). z.messages) (frames_of-frame x f is)) ∙ are) in
    subst (λ (g : List ℕ). length g ≤ 65536) same (gives_frame x f is).short
first_short x frame frames NeedMore is are = absurd (none_is (sym (ap (λ (z : Frames). z.messages) (frames_of-need_more x is)) ∙ are))
first_short x frame frames TooLong is are = absurd (none_is (sym (ap (λ (z : Frames). z.messages) (frames_of-too_long x is)) ∙ are))

fit_of : ZeroIsRefused → RefusedOnce → NulSpellsNone → (x coming : List ℕ) (frames : List (List ℕ)) (rest : Option (List ℕ)) (words : List Word) → (frames_of x).messages ≡ frames → Spoiled x coming → AreFirst frames rest words → AreFitWords words
fit_of refused_at once nul x coming _ rest _ are s first_none = none_heard
fit_of refused_at once nul x coming _ _ _ are s first_too_long = wrong_heard (plain_is_text (codes "message too long") refl)
fit_of refused_at once nul x coming (frame ∷ frames) rest (Wrong text ∷ words) are s (first_more means more) =
    wrong_heard (wrong_is_text refused_at once frame text (first_has_nul x coming frame frames (answer_of x) refl are s) (first_short x frame frames (answer_of x) refl are) means)
fit_of refused_at once nul x coming (frame ∷ frames) rest (Says message ∷ words) are s (first_more means more) = absurd (nul frame message (first_has_nul x coming frame frames (answer_of x) refl are s) means)

pub fit_words_of_spoiled : ZeroIsRefused → RefusedOnce → NulSpellsNone → (old piece coming new : List ℕ) (still : Bool) (words : List Word)
    → Spoiled old (piece ++ coming) → AreWords old piece new still words → AreFitWords words
fit_words_of_spoiled refused_at once nul old piece coming new still words s are =
    fit_of refused_at once nul (old ++ piece) coming (frames_of (old ++ piece)).messages (frames_of (old ++ piece)).rest words refl (nul_arrives old piece coming s) are.first
