-- The next frame behind a NUL is refused: so the words of a piece begin with a wrong one, or there is none yet.
use Rattle.std.proofs.Common.{Bool, List, Option, Some, [], ap, length, refl, subst, sym, ℕ, ◌++◌, ◌∙◌, ◌∷◌, ◌≡◌}
use Rattle.law_link_messages.proofs.Fronts.{no_end}
use Rattle.law_custody.proofs.Texts.{first_text}
use Rattle.hermes_stream.specs.Frames.{Answer, Frame, Frames, NeedMore, TooLong, answer_of, frames_of}
use Rattle.hermes_stream.proofs.Streams.{frames_of-frame, frames_of-need_more, frames_of-too_long}
use Rattle.hermes_stream.proofs.Runs.{gives_frame, wants_more}
use Rattle.hermes_horizontal.specs.Spelling.{IsRefused, IsRefusedBy, Spells}
use Rattle.hermes_horizontal.specs.declared.fault.Fault.{Fault}
use Rattle.hermes_horizontal.specs.declared.message.Horizontal.{Horizontal}
use Rattle.hermes_horizontal.specs.declared.message.Message.{Message}
use Rattle.node_core.specs.Words.{AreAll, AreFirst, AreWords, all_more, all_none, first_more, first_none, first_too_long}
use Rattle.node_core.specs.declared.word.Word.{Word}
use Rattle.node_core.specs.declared.word.Word.TheVariants.{Says, Wrong}
use Rattle.law_custody.specs.Bytes.{HasNul, Spoiled}
use Rattle.law_custody.proofs.Spoils.{nul_arrives, nul_is_cut, nul_waits}
use Rattle.law_machine_custody.specs.Flight.{AreOldest, oldest_none, oldest_wrong}
use Rattle.law_link_messages.specs.Heard.{HeardSpoiled}

-- a frame with a NUL spells no message
abbrev pub NulSpellsNone : Type 0
NulSpellsNone = (frame : List ℕ) (message : Message) → HasNul frame → Spells frame message → ⊥

-- from the laws of refusals
pub nul_spells_none : ((front rest : List ℕ) → IsRefusedBy (front ++ 0 ∷ rest) (length front)) → ((bytes : List ℕ) (at : ℕ) (why : Fault) (message : Message) → IsRefused bytes at why → Spells bytes message → ⊥) → NulSpellsNone
nul_spells_none zero once frame message nul spells =
    let refused : IsRefusedBy frame (length nul.front) = subst (λ (f : List ℕ). IsRefusedBy f (length nul.front)) (sym nul.is) (zero nul.front nul.rest) in
    once frame refused.at refused.why message refused.refused spells

pub none_is : {f : List ℕ} {fs : List (List ℕ)} → [] ≡ f ∷ fs → ⊥
none_is e = cc

left_is : {a b : List ℕ} → Some a ≡ Some b → a ≡ b
left_is e = cc

-- the first frame of these bytes has the NUL in it
pub first_has_nul : (x coming frame : List ℕ) (frames : List (List ℕ)) (answer : Answer) → answer_of x ≡ answer → (frames_of x).messages ≡ frame ∷ frames → Spoiled x coming → HasNul frame
first_has_nul x coming frame frames (Frame f) is are s =
    let same : f ≡ frame = first_text (sym (ap (λ (z : Frames). z.messages) (frames_of-frame x f is)) ∙ are) in
    subst (λ (g : List ℕ). HasNul g) same (nul_is_cut x coming f (gives_frame x f is) s)
first_has_nul x coming frame frames NeedMore is are s = absurd (none_is (sym (ap (λ (z : Frames). z.messages) (frames_of-need_more x is)) ∙ are))
first_has_nul x coming frame frames TooLong is are s = absurd (none_is (sym (ap (λ (z : Frames). z.messages) (frames_of-too_long x is)) ∙ are))

oldest_of : NulSpellsNone → (x coming : List ℕ) (frames : List (List ℕ)) (rest : Option (List ℕ)) (words : List Word) (messages : List Horizontal) → (frames_of x).messages ≡ frames → Spoiled x coming → AreFirst frames rest words → AreOldest words messages
oldest_of nul x coming _ rest _ messages are s first_none = oldest_none
oldest_of nul x coming _ _ _ messages are s first_too_long = oldest_wrong
oldest_of nul x coming (frame ∷ frames) rest (Wrong text ∷ words) messages are s (first_more means more) = oldest_wrong
oldest_of nul x coming (frame ∷ frames) rest (Says message ∷ words) messages are s (first_more means more) = absurd (nul frame message (first_has_nul x coming frame frames (answer_of x) refl are s) means)

-- where no word came, what is left waits, and the NUL is in it or comes
stays_at : (x coming new : List ℕ) (answer : Answer) → answer_of x ≡ answer → (frames_of x).messages ≡ [] → (frames_of x).rest ≡ Some new → Spoiled x coming → Spoiled new coming
stays_at x coming new (Frame f) is none rest s = absurd (none_is (sym none ∙ ap (λ (z : Frames). z.messages) (frames_of-frame x f is)))
stays_at x coming new NeedMore is none rest s =
    subst (λ (w : List ℕ). Spoiled w coming) (left_is (sym (ap (λ (z : Frames). z.rest) (frames_of-need_more x is)) ∙ rest)) (nul_waits x coming (wants_more x is) s)
stays_at x coming new TooLong is none rest s = absurd (no_end (sym (ap (λ (z : Frames). z.rest) (frames_of-too_long x is)) ∙ rest))

no_frames : {frames : List (List ℕ)} {rest : Option (List ℕ)} {words : List Word} {new : List ℕ} → AreAll frames rest words new → words ≡ [] → (frames ≡ []) × (rest ≡ Some new)
no_frames all_none is = (refl, refl)
no_frames (all_more means more) is = cc

pub hears_spoiled : NulSpellsNone → (old piece coming new : List ℕ) (still : Bool) (words : List Word) (messages : List Horizontal)
    → Spoiled old (piece ++ coming) → AreWords old piece new still words → HeardSpoiled messages words new coming still
hears_spoiled nul old piece coming new still words messages s are =
    let x : List ℕ = old ++ piece in
    let now : Spoiled x coming = nul_arrives old piece coming s in
    record {
      oldest = oldest_of nul x coming (frames_of x).messages (frames_of x).rest words messages refl now are.first;
      spoiled = λ open_still quiet.
          let e = no_frames (are.all open_still) quiet in
          stays_at x coming new (answer_of x) refl e.0 e.1 now;
    }
