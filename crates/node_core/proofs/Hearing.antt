-- A piece is heard, word by word.
use Rattle.std.proofs.Common.{◌≡◌, ◌+◌, ◌-◌, ◌++◌, ℕ, true, false, List, [], ◌∷◌, Option, Some, None, length, take, drop, refl, sym, ap, subst, ◌∙◌, append_assoc, append-nil}
use Rattle.std.proofs.Math.Seq.{take-add}
use Rattle.std.proofs.lemmas.List.{take_rest, take-append-drop}
use Rattle.std.proofs.lemmas.Bool.{false≢true}
use Rattle.line_base.specs.declared.states.Side.{Side}
use Rattle.hermes_stream.specs.Frames.{frames_of, left_of, Frames}
use Rattle.hermes_stream.specs.Frames as stream
use Rattle.hermes_stream.specs.Cutter.{WantsMore, StaysTooLong}
use Rattle.node_core.specs.declared.act.Act.{Act}
use Rattle.node_core.specs.Desk.{Desk}
use Rattle.node_core.specs.declared.lane.Body.{Body}
use Rattle.node_core.specs.declared.word.Word.{Word}
use Rattle.node_core.specs.Done.{Done, stays, and_then}
use Rattle.node_core.specs.Sides.{is_open}
use Rattle.node_core.specs.Words.{Means, TakesWord, AreMeant, meant_none, meant_more, AreFirst, first_none, first_more, first_too_long, AreAll, all_none, all_more, too_long, word_did, all_heard, IsHearing, HearsPiece}

pub meant-push : {frames : List (List ℕ)} {words : List Word} (frame : List ℕ) (word : Word) → AreMeant frames words → Means frame word → AreMeant (frames ++ frame ∷ []) (words ++ word ∷ [])
meant-push frame word meant_none one = meant_more one meant_none
meant-push frame word (meant_more m ms) one = meant_more m (meant-push frame word ms one)

pub meant-first : {frames : List (List ℕ)} {words : List Word} {rest : Option (List ℕ)} (back : List (List ℕ)) → AreMeant frames words → AreFirst (frames ++ back) rest words
meant-first back meant_none = first_none
meant-first back (meant_more m ms) = first_more m (meant-first back ms)

pub meant-all : {frames : List (List ℕ)} {words : List Word} {rest : List ℕ} → AreMeant frames words → AreAll (frames ++ []) (Some rest) words rest
meant-all meant_none = all_none
meant-all (meant_more m ms) = all_more m (meant-all ms)

pub meant-long : {frames : List (List ℕ)} {words : List Word} → AreMeant frames words → AreFirst (frames ++ []) None (words ++ too_long ∷ [])
meant-long meant_none = first_too_long
meant-long (meant_more m ms) = first_more m (meant-long ms)

-- a side that is closed hears nothing
pub closed-hears : (desk : Desk) (side : Side) (words : List Word) (body : Body) → is_open side body ≡ false → all_heard desk side words body ≡ stays body
closed-hears desk side [] body closed = refl
closed-hears desk side (w ∷ ws) body closed = rw closed refl

-- an open one hears the first word and then the others
pub open-hears : (desk : Desk) (side : Side) (word : Word) (words : List Word) (body : Body) → is_open side body ≡ true → all_heard desk side (word ∷ words) body ≡ and_then (word_did desk side word body) (all_heard desk side words)
open-hears desk side word words body opened = rw opened refl

pub hearing-start : (desk : Desk) (side : Side) (waiting : List ℕ) (body : Body) (told : List Act) → IsHearing desk side waiting [] waiting body body told told
hearing-start desk side waiting body told = record { words = []; frames = []; means = meant_none; cut = λ later. refl; body = λ more. refl; heard = λ more. refl }

pub hearing-fed : (desk : Desk) (side : Side) (old waiting fed new front : List ℕ) (before now : Body) (told acts : List Act) → IsHearing desk side old front waiting before now told acts → new ≡ waiting ++ fed → IsHearing desk side old (front ++ fed) new before now told acts
hearing-fed desk side old waiting fed new front before now told acts h is = record {
  words = h.words;
  frames = h.frames;
  means = h.means;
  cut = λ later. ap (λ t. frames_of (old ++ t)) (append_assoc front fed later) ∙ h.cut (fed ++ later) ∙ ap (λ t. stream.behind h.frames (frames_of t)) (sym (append_assoc waiting fed later) ∙ ap (λ t. t ++ later) (sym is));
  body = h.body;
  heard = h.heard;
}

pub hearing-fed_at : (desk : Desk) (side : Side) (old waiting new piece : List ℕ) (at n : ℕ) (before now : Body) (told acts : List Act) → IsHearing desk side old (take at piece) waiting before now told acts → new ≡ waiting ++ take n (take (length piece - at) (drop at piece)) → IsHearing desk side old (take (at + n) piece) new before now told acts
hearing-fed_at desk side old waiting new piece at n before now told acts h is =
    subst (λ front. IsHearing desk side old front new before now told acts) (sym (take-add at n piece))
    (hearing-fed desk side old waiting (take n (drop at piece)) new (take at piece) before now told acts h (is ∙ ap (λ p. waiting ++ take n p) (take_rest piece at)))

pub hearing-word : (desk : Desk) (side : Side) (old front waiting left : List ℕ) (word : Word) (before now after : Body) (told acts acts2 : List Act)
    → IsHearing desk side old front waiting before now told acts → is_open side now ≡ true → TakesWord waiting left word
    → after ≡ (word_did desk side word now).body → acts2 ≡ acts ++ (word_did desk side word now).acts
    → IsHearing desk side old front left before after told acts2
hearing-word desk side old front waiting left word before now after told acts acts2 h opened takes is said = record {
  words = h.words ++ word ∷ [];
  frames = h.frames ++ takes.frame ∷ [];
  means = meant-push takes.frame word h.means takes.means;
  cut = λ later. h.cut later ∙ ap (stream.behind h.frames) (takes.gives.frames later ∙ ap (λ t. stream.behind (takes.frame ∷ []) (frames_of (t ++ later))) (sym takes.behind)) ∙ ap (λ (m : List (List ℕ)). record { messages = m; rest = (frames_of (left ++ later)).rest }) (sym (append_assoc h.frames (takes.frame ∷ []) (frames_of (left ++ later)).messages));
  body = λ more. ap (λ (ws : List Word). (all_heard desk side ws before).body) (append_assoc h.words (word ∷ []) more) ∙ h.body (word ∷ more) ∙ ap (λ (d : Done). d.body) (open-hears desk side word more now opened) ∙ ap (λ (l : Body). (all_heard desk side more l).body) (sym is);
  heard = λ more. ap (λ (ws : List Word). told ++ (all_heard desk side ws before).acts) (append_assoc h.words (word ∷ []) more) ∙ h.heard (word ∷ more) ∙ ap (λ (d : Done). acts ++ d.acts) (open-hears desk side word more now opened) ∙ sym (append_assoc acts (word_did desk side word now).acts (all_heard desk side more (word_did desk side word now).body).acts) ∙ ap (λ (xs : List Act). xs ++ (all_heard desk side more (word_did desk side word now).body).acts) (sym said) ∙ ap (λ (l : Body). acts2 ++ (all_heard desk side more l).acts) (sym is);
}

pub hearing-more : (desk : Desk) (side : Side) (old front waiting left : List ℕ) (before now : Body) (told acts : List Act)
    → IsHearing desk side old front waiting before now told acts → WantsMore waiting → left ≡ left_of waiting
    → IsHearing desk side old front left before now told acts
hearing-more desk side old front waiting left before now told acts h wants is = record {
  words = h.words;
  frames = h.frames;
  means = h.means;
  cut = λ later. h.cut later ∙ ap (stream.behind h.frames) (wants.frames later ∙ ap (λ t. frames_of (t ++ later)) (sym is));
  body = h.body;
  heard = h.heard;
}

-- the words heard so far, and nothing behind them
pub heard-body : (desk : Desk) (side : Side) (words : List Word) (before now : Body) → ((more : List Word) → (all_heard desk side (words ++ more) before).body ≡ (all_heard desk side more now).body) → now ≡ (all_heard desk side words before).body
heard-body desk side words before now h = sym (h []) ∙ ap (λ (ws : List Word). (all_heard desk side ws before).body) (append-nil words)

pub heard-acts : (desk : Desk) (side : Side) (words : List Word) (before now : Body) (told acts : List Act) → ((more : List Word) → told ++ (all_heard desk side (words ++ more) before).acts ≡ acts ++ (all_heard desk side more now).acts) → acts ≡ told ++ (all_heard desk side words before).acts
heard-acts desk side words before now told acts h = sym (append-nil acts) ∙ sym (h []) ∙ ap (λ (ws : List Word). told ++ (all_heard desk side ws before).acts) (append-nil words)

-- the side is closed: what follows in the piece doesn't count
pub hears-closed : (desk : Desk) (side : Side) (old waiting piece new : List ℕ) (at : ℕ) (before now : Body) (told acts : List Act)
    → IsHearing desk side old (take at piece) waiting before now told acts → is_open side now ≡ false → HearsPiece desk side old piece new before now told acts
hears-closed desk side old waiting piece new at before now told acts h closed =
    let whole = ap (λ t. frames_of (old ++ t)) (sym (take-append-drop at piece)) ∙ h.cut (drop at piece) in
    record {
      words = h.words;
      are = record { first = subst (λ (f : Frames). AreFirst f.messages f.rest h.words) (sym whole) (meant-first (frames_of (waiting ++ drop at piece)).messages h.means); all = λ opened. absurd (false≢true (sym closed ∙ opened)) };
      body = heard-body desk side h.words before now h.body;
      acts = heard-acts desk side h.words before now told acts h.heard;
    }

-- all the piece is heard
pub hears-through : (desk : Desk) (side : Side) (old waiting piece new : List ℕ) (before now : Body) (told acts : List Act)
    → IsHearing desk side old piece waiting before now told acts → WantsMore waiting → new ≡ left_of waiting → HearsPiece desk side old piece new before now told acts
hears-through desk side old waiting piece new before now told acts h wants is =
    let whole = ap (λ t. frames_of (old ++ t)) (sym (append-nil piece)) ∙ h.cut [] ∙ ap (λ t. stream.behind h.frames (frames_of t)) (append-nil waiting) ∙ ap (stream.behind h.frames) (wants.rest ∙ ap (λ (r : List ℕ). record { messages = []; rest = Some r }) (sym is)) in
    record {
      words = h.words;
      are = record { first = subst (λ (f : Frames). AreFirst f.messages f.rest h.words) (sym whole) (meant-first [] h.means); all = λ opened. subst (λ (f : Frames). AreAll f.messages f.rest h.words new) (sym whole) (meant-all h.means) };
      body = heard-body desk side h.words before now h.body;
      acts = heard-acts desk side h.words before now told acts h.heard;
    }

-- too many bytes wait without an end
pub hears-long : (desk : Desk) (side : Side) (old waiting piece new : List ℕ) (at : ℕ) (before now after : Body) (told acts acts2 : List Act)
    → IsHearing desk side old (take at piece) waiting before now told acts → is_open side now ≡ true → StaysTooLong waiting
    → after ≡ (word_did desk side too_long now).body → acts2 ≡ acts ++ (word_did desk side too_long now).acts → is_open side after ≡ false
    → HearsPiece desk side old piece new before after told acts2
hears-long desk side old waiting piece new at before now after told acts acts2 h opened stays is said closed =
    let whole = ap (λ t. frames_of (old ++ t)) (sym (take-append-drop at piece)) ∙ h.cut (drop at piece) ∙ ap (stream.behind h.frames) (stays.frames (drop at piece)) in
    let last : all_heard desk side (too_long ∷ []) now ≡ and_then (word_did desk side too_long now) (all_heard desk side []) = open-hears desk side too_long [] now opened in
    record {
      words = h.words ++ too_long ∷ [];
      are = record { first = subst (λ (f : Frames). AreFirst f.messages f.rest (h.words ++ too_long ∷ [])) (sym whole) (meant-long h.means); all = λ opens. absurd (false≢true (sym closed ∙ opens)) };
      body = is ∙ sym (ap (λ (d : Done). d.body) last) ∙ sym (h.body (too_long ∷ []));
      acts = said ∙ ap (λ (xs : List Act). acts ++ xs) (sym (append-nil (word_did desk side too_long now).acts)) ∙ sym (ap (λ (d : Done). acts ++ d.acts) last) ∙ sym (h.heard (too_long ∷ []));
    }

-- a side without a connection hears nothing
pub hears_nothing : (desk : Desk) (side : Side) (old piece : List ℕ) (body : Body) (told : List Act) → is_open side body ≡ false → HearsPiece desk side old piece old body body told told
hears_nothing desk side old piece body told closed = record {
  words = [];
  are = record { first = first_none; all = λ opened. absurd (false≢true (sym closed ∙ opened)) };
  body = refl;
  acts = sym (append-nil told);
}
