-- The bytes of a link without the NULs that spoiled it: the texts of the messages that were sent, whole.
use Rattle.std.proofs.Common.{Bool, List, Option, Some, [], ap, append-nil, append_assoc, arith, drop, false, inl, inr, length, option_map, refl, subst, suc, sym, take, true, zero, ℕ, ◌++◌, ◌+◌, ◌-◌, ◌<◌, ◌∙◌, ◌∷◌, ◌≡◌, ◌≤◌, ◌⊎◌}
use Rattle.std.specs.Prelude.{cond, nat_lt}
use Rattle.std.proofs.lemmas.Bool.{cases_lt, cond-false, cond-true, false≢true, lt-ltb}
use Rattle.std.proofs.lemmas.List.{drop-append-le, drop_all, length-append, length-drop, length-take, nil_from_length, take-append-drop, take-append-le, take-take, take_all}
use Rattle.std.proofs.lemmas.List.Elements.{filter-append}
use Rattle.hermes_horizontal.specs.Canonical.{canonical}
use Rattle.hermes_horizontal.specs.Spelling.{Spells}
use Rattle.hermes_horizontal.specs.declared.message.Horizontal.{Horizontal}
use Rattle.hermes_horizontal.specs.declared.message.Message.{Message}
use Rattle.hermes_stream.specs.Frames.{Answer, Frame, Frames, IsOneFrame, NeedMore, TooLong, answer_at, answer_of, behind, begins_with_end, end_tag, end_within, first_end, frames_of, is_blank, left_of, most_bytes, without_blanks}
use Rattle.hermes_stream.proofs.Ends.{begins-from_take, first_end-at, first_end-within, long_from_begins, mapped, take-from_begins}
use Rattle.hermes_stream.proofs.Streams.{HasFrame, answer_of-found, answer_of-frame_append, answer_of-too_long_append, end_within-append, frames_of-frame, frames_of-frame_append, frames_of-need_more, frames_of-too_long, frames_of-without_blanks, has_frame, left_of-found, left_of-need_more, left_of-shorter, length-without_blanks, without_blanks-again, without_blanks-append, without_blanks-whole}
use Rattle.node_core.specs.Words.{AreAll, AreFirst, AreWords, all_more, all_none, first_more, first_none}
use Rattle.node_core.specs.declared.word.Word.{Word}
use Rattle.node_core.specs.declared.word.Word.TheVariants as words
use Rattle.law_custody.specs.Bytes.{Flows, HasNul, Spoiled, texts_of}
use Rattle.law_custody.proofs.Messages.{sends_a_message}
use Rattle.law_custody.proofs.Texts.{first_text, no_first, rebuilt, texts_behind}
use Rattle.law_machine_custody.specs.Flight.{AreOldest}
use Rattle.law_link_messages.specs.Fit.{AreFit, IsFit, more_fit, none_fit}
use Rattle.law_link_messages.specs.Heard.{AreSayable, bodies, more_sayable}
use Rattle.law_link_messages.proofs.Fitting.{both_fit}
use Rattle.law_link_messages.proofs.Fronts.{no_end}
use Rattle.law_one_standing.specs.Carried.{Hides, without_nuls}
use Rattle.law_one_standing.specs.Facts.{IsSpelledIn, spelled_first, spelled_later}
use Rattle.law_one_standing.proofs.Carrying.{SaysAlone, bodies_append, first_frame}

-- ---- lists of bytes

cleared_append : (x y : List ℕ) → without_nuls (x ++ y) ≡ without_nuls x ++ without_nuls y
cleared_append x y = filter-append (λ (byte : ℕ). nat_lt 0 byte) x y

-- a NUL that is put in changes nothing
pub cleared_nul : (w c : List ℕ) → without_nuls (w ++ (0 ∷ c)) ≡ without_nuls (w ++ c)
cleared_nul w c = cleared_append w (0 ∷ c) ∙ sym (cleared_append w c)

length-cleared : (x : List ℕ) → length (without_nuls x) ≤ length x
length-cleared [] = omega arith
length-cleared (b ∷ x) = go (length-cleared x) (nat_lt 0 b)
  where
    go : length (without_nuls x) ≤ length x → (t : Bool) → length (cond t (b ∷ without_nuls x) (without_nuls x)) ≤ length (b ∷ x)
    go less true = omega arith
    go less false = omega arith

byte_stays : (b : ℕ) (x : List ℕ) → without_nuls (suc b ∷ x) ≡ suc b ∷ without_nuls x
byte_stays b x = cond-true _ _ _ (lt-ltb 0 (suc b) (omega arith))

cleared_whole : (x : List ℕ) → (HasNul x → ⊥) → without_nuls x ≡ x
cleared_whole [] none = refl
cleared_whole (zero ∷ x) none = absurd (none (record { front = []; rest = x; is = refl }))
cleared_whole (suc b ∷ x) none = byte_stays b x ∙ ap (λ bs. suc b ∷ bs) (cleared_whole x (λ n. none (record { front = suc b ∷ n.front; rest = n.rest; is = ap (λ bs. suc b ∷ bs) n.is })))

-- ---- blanks before a message

frames_by : (u v : List ℕ) → without_blanks u ≡ without_blanks v → frames_of u ≡ frames_of v
frames_by u v same = sym (at u) ∙ ap frames_of same ∙ at v
  where
    at : (x : List ℕ) → frames_of (without_blanks x) ≡ frames_of x
    at x = ap frames_of (sym (append-nil (without_blanks x))) ∙ frames_of-without_blanks x [] ∙ ap frames_of (append-nil x)

blanks_cleared : (x y : List ℕ) → without_blanks (without_nuls (without_blanks x) ++ y) ≡ without_blanks (without_nuls x ++ y)
blanks_cleared [] y = refl
blanks_cleared (b ∷ x) y = go (blanks_cleared x y) (is_blank b) refl
  where
    dropped : is_blank b ≡ true → (t : Bool) → without_blanks (cond t (b ∷ without_nuls x) (without_nuls x) ++ y) ≡ without_blanks (without_nuls x ++ y)
    dropped blank true = cond-true _ _ _ blank
    dropped blank false = refl

    go : without_blanks (without_nuls (without_blanks x) ++ y) ≡ without_blanks (without_nuls x ++ y) → (t : Bool) → is_blank b ≡ t
        → without_blanks (without_nuls (cond t (without_blanks x) (b ∷ x)) ++ y) ≡ without_blanks (without_nuls (b ∷ x) ++ y)
    go same true blank = same ∙ sym (dropped blank (nat_lt 0 b))
    go same false not_blank = refl

cleared_blanks : (x y : List ℕ) → frames_of (without_nuls (without_blanks x) ++ y) ≡ frames_of (without_nuls x ++ y)
cleared_blanks x y = frames_by (without_nuls (without_blanks x) ++ y) (without_nuls x ++ y) (blanks_cleared x y)

blank_stays : (b : ℕ) (x : List ℕ) → is_blank b ≡ true → without_nuls (b ∷ x) ≡ b ∷ without_nuls x
blank_stays zero x blank = absurd (false≢true blank)
blank_stays (suc b) x blank = byte_stays b x

cleared_behind : (x : List ℕ) → without_nuls (without_blanks x) ≡ without_blanks x → without_nuls x ≡ x
cleared_behind [] same = refl
cleared_behind (b ∷ x) same = go (cleared_behind x) (is_blank b) refl same
  where
    go : (without_nuls (without_blanks x) ≡ without_blanks x → without_nuls x ≡ x) → (t : Bool) → is_blank b ≡ t → without_nuls (cond t (without_blanks x) (b ∷ x)) ≡ cond t (without_blanks x) (b ∷ x) → without_nuls (b ∷ x) ≡ b ∷ x
    go later true blank is = blank_stays b x blank ∙ ap (λ bs. b ∷ bs) (later is)
    go later false not_blank is = is

-- ---- a frame, and what is left behind it

parts : (x f : List ℕ) → answer_of x ≡ Frame f → without_blanks x ≡ f ++ left_of x
parts x f is =
    let h = has_frame x f is in
    sym (ap (λ (z : List ℕ). z ++ left_of x) (sym h.is) ∙ ap (λ (z : List ℕ). take h.count (without_blanks x) ++ z) h.left ∙ take-append-drop h.count (without_blanks x))

blanks_once : (x : List ℕ) → without_blanks (without_blanks x) ≡ without_blanks x
blanks_once x = ap without_blanks (sym (append-nil (without_blanks x))) ∙ without_blanks-again x [] ∙ ap without_blanks (append-nil x)

answer_again : (x : List ℕ) → answer_of (without_blanks x) ≡ answer_of x
unfolding answer_of
answer_again x = ap (λ b. answer_at b (end_within b)) (blanks_once x)

left_is : {a b : List ℕ} → Some a ≡ Some b → a ≡ b
left_is e = cc

same_frame : {f g : List ℕ} → Frame f ≡ Frame g → f ≡ g
same_frame e = cc

no_long : {f : List ℕ} → TooLong ≡ Frame f → ⊥
no_long e = cc

-- a front of a frame comes to no frame
front_needs : (x f front rest : List ℕ) → answer_of x ≡ Frame f → f ≡ front ++ (0 ∷ rest) → (answer : Answer) → answer_of front ≡ answer → answer_of front ≡ NeedMore
front_needs x f front rest is has answer found = go answer found
  where
    back : List ℕ
    back = 0 ∷ (rest ++ left_of x)

    whole : without_blanks x ≡ front ++ back
    whole = parts x f is ∙ ap (λ (z : List ℕ). z ++ left_of x) has ∙ append_assoc front (0 ∷ rest) (left_of x)

    all : answer_of (front ++ back) ≡ Frame f
    all = ap answer_of (sym whole) ∙ answer_again x ∙ is

    go : (answer : Answer) → answer_of front ≡ answer → answer_of front ≡ NeedMore
    go NeedMore e = e
    go TooLong e = absurd (no_long (sym (answer_of-too_long_append front back e) ∙ all))
    go (Frame g) e =
        let h = has_frame front g e in
        let same : f ≡ g = same_frame (sym all ∙ answer_of-frame_append front back g e) in
        let long : length g ≡ length (front ++ (0 ∷ rest)) = ap length (sym same ∙ has) in
        let short : length g ≤ length front = let l = length-take h.count (without_blanks front) in let m = ap length h.is in let n = length-without_blanks front in omega arith in
        absurd (omega (arith, long, short, length-append front (0 ∷ rest)))

unheard : {m : Message} {others : List Word} → AreOldest (words.Says m ∷ others) [] → ⊥
unheard oldest = elim oldest [ ]

-- a frame that spells a message has no NUL
no_nul : SaysAlone → (x f : List ℕ) (message : Message) → answer_of x ≡ Frame f → Spells f message → HasNul f → ⊥
no_nul alone x f message is spells nul =
    let whole : without_blanks x ≡ nul.front ++ (0 ∷ (nul.rest ++ left_of x)) = parts x f is ∙ ap (λ (z : List ℕ). z ++ left_of x) nul.is ∙ append_assoc nul.front (0 ∷ nul.rest) (left_of x) in
    let spoiled : Spoiled x [] = record {
      front = nul.front;
      rest = nul.rest ++ left_of x;
      none = front_needs x f nul.front nul.rest is nul.is (answer_of nul.front) refl;
      same = λ later. sym (frames_of-without_blanks x later) ∙ ap (λ (z : List ℕ). frames_of (z ++ later)) whole ∙ ap frames_of (append_assoc nul.front (0 ∷ (nul.rest ++ left_of x)) later);
    } in
    let frames : frames_of (x ++ []) ≡ behind (f ∷ []) (frames_of (left_of x ++ [])) = frames_of-frame_append x [] f is in
    let heard : AreWords x [] [] false (words.Says message ∷ []) = record {
      first = subst (λ (z : Frames). AreFirst z.messages z.rest (words.Says message ∷ [])) (sym frames) (first_more spells first_none);
      all = λ open_still. absurd (false≢true open_still);
    } in
    unheard (alone.wrong x [] [] [] false (words.Says message ∷ []) [] spoiled heard).oldest

-- ---- whole texts have no NUL

pub none_put : SaysAlone → (said : List Message) (x : List ℕ) (answer : Answer) → answer_of x ≡ answer → AreSayable said → frames_of x ≡ record { messages = texts_of said; rest = Some [] } → without_nuls x ≡ x
none_put alone said x TooLong is sayable e = absurd (no_end (ap (λ (z : Frames). z.rest) (sym (frames_of-too_long x is) ∙ e)))
none_put alone said x NeedMore is sayable e =
    let none : without_blanks x ≡ [] = sym (left_of-need_more x is) ∙ left_is (ap (λ (z : Frames). z.rest) (sym (frames_of-need_more x is) ∙ e)) in
    cleared_behind x (ap without_nuls none ∙ sym none)
none_put alone [] x (Frame f) is sayable e = absurd (no_first (ap (λ (z : Frames). z.messages) (sym (frames_of-frame x f is) ∙ e)))
none_put alone (m ∷ said) x (Frame f) is (more_sayable it others) e =
    let whole : behind (f ∷ []) (frames_of (left_of x)) ≡ record { messages = canonical m ∷ texts_of said; rest = Some [] } = sym (frames_of-frame x f is) ∙ e in
    let first : f ≡ canonical m = first_text (ap (λ (z : Frames). z.messages) whole) in
    let later : frames_of (left_of x) ≡ record { messages = texts_of said; rest = Some [] } = rebuilt (frames_of (left_of x)) (texts_behind (ap (λ (z : Frames). z.messages) whole)) (ap (λ (z : Frames). z.rest) whole) in
    let clean : without_nuls (left_of x) ≡ left_of x = none_put alone said (left_of x) (answer_of (left_of x)) refl others later in
    let front : without_nuls f ≡ f = cleared_whole f (no_nul alone x f m is (subst (λ (g : List ℕ). Spells g m) (sym first) it.spells)) in
    let all : without_blanks x ≡ f ++ left_of x = parts x f is in
    cleared_behind x (ap without_nuls all ∙ cleared_append f (left_of x) ∙ ap (λ (z : List ℕ). z ++ without_nuls (left_of x)) front ∙ ap (λ (z : List ℕ). f ++ z) clean ∙ sym all)

-- ---- what flows

pub hides_whole : {waiting coming : List ℕ} → SaysAlone → (said : List Message) → AreFit said → Flows waiting coming (texts_of said) → Hides (waiting ++ coming) (bodies said)
hides_whole {waiting} {coming} alone said fit flows = record {
  said = said;
  fit = fit;
  are = refl;
  frames = ap frames_of (none_put alone said (waiting ++ coming) (answer_of (waiting ++ coming)) refl (alone.sayable said fit) flows.frames) ∙ flows.frames;
}

-- a NUL is put before what comes
pub hides_nul : {messages : List Horizontal} (waiting coming : List ℕ) → Hides (waiting ++ coming) messages → Hides (waiting ++ (0 ∷ coming)) messages
hides_nul waiting coming h = record { said = h.said; fit = h.fit; are = h.are; frames = ap frames_of (cleared_nul waiting coming) ∙ h.frames }

-- a text is sent
pub hides_said : {messages : List Horizontal} → SaysAlone → (waiting coming : List ℕ) (message : Message) → IsFit message → Hides (waiting ++ coming) messages → Hides (waiting ++ (coming ++ canonical message)) (messages ++ message.body ∷ [])
hides_said alone waiting coming message fit h =
    let text : List ℕ = canonical message in
    let sayable : AreSayable (message ∷ []) = alone.sayable (message ∷ []) (more_fit fit none_fit) in
    let one : IsOneFrame text = first_frame message [] sayable in
    let clean : without_nuls text ≡ text = none_put alone (message ∷ []) text (answer_of text) refl sayable one.frames in
    let bytes : without_nuls (waiting ++ (coming ++ text)) ≡ without_nuls (waiting ++ coming) ++ text =
    ap without_nuls (sym (append_assoc waiting coming text)) ∙ cleared_append (waiting ++ coming) text ∙ ap (λ (z : List ℕ). without_nuls (waiting ++ coming) ++ z) clean in
    let sent : Flows [] (without_nuls (waiting ++ coming) ++ text) (texts_of (h.said ++ message ∷ [])) = sends_a_message [] (without_nuls (waiting ++ coming)) h.said message one (record { frames = h.frames }) in
    record {
      said = h.said ++ message ∷ [];
      fit = both_fit h.fit (more_fit fit none_fit);
      are = ap (λ (bs : List Horizontal). bs ++ message.body ∷ []) h.are ∙ sym (bodies_append h.said message);
      frames = ap frames_of bytes ∙ sent.frames;
    }

-- a piece arrives that comes to no word
all_of : {frames : List (List ℕ)} {rest : Option (List ℕ)} {heard : List Word} {new : List ℕ} → AreAll frames rest heard new → heard ≡ [] → (frames ≡ []) × (rest ≡ Some new)
all_of all_none is = (refl, refl)
all_of (all_more means more) is = cc

left_waits : (x new : List ℕ) (answer : Answer) → answer_of x ≡ answer → (frames_of x).messages ≡ [] → (frames_of x).rest ≡ Some new → without_blanks x ≡ new
left_waits x new (Frame f) is none rest = absurd (no_first (ap (λ (z : Frames). z.messages) (sym (frames_of-frame x f is)) ∙ none))
left_waits x new NeedMore is none rest = sym (left_of-need_more x is) ∙ left_is (ap (λ (z : Frames). z.rest) (sym (frames_of-need_more x is)) ∙ rest)
left_waits x new TooLong is none rest = absurd (no_end (sym (ap (λ (z : Frames). z.rest) (frames_of-too_long x is)) ∙ rest))

pub hides_arrived : {messages : List Horizontal} {heard : List Word} (old piece coming new : List ℕ) → AreAll (frames_of (old ++ piece)).messages (frames_of (old ++ piece)).rest heard new → heard ≡ [] → Hides (old ++ (piece ++ coming)) messages → Hides (new ++ coming) messages
hides_arrived old piece coming new all none h =
    let x : List ℕ = old ++ piece in
    let are = all_of all none in
    let waits : without_blanks x ≡ new = left_waits x new (answer_of x) refl are.0 are.1 in
    record {
      said = h.said;
      fit = h.fit;
      are = h.are;
      frames = ap frames_of (cleared_append new coming) ∙ ap (λ (z : List ℕ). frames_of (without_nuls z ++ without_nuls coming)) (sym waits) ∙ cleared_blanks x (without_nuls coming)
          ∙ ap frames_of (sym (cleared_append x coming)) ∙ ap (λ (z : List ℕ). frames_of (without_nuls z)) (append_assoc old piece coming) ∙ h.frames;
    }

-- ---- the texts behind a spoiled one

pub none_spelled : {message : Message} → IsSpelledIn message [] → ⊥
none_spelled there = elim there [ ]

-- where a tag ends a message
record Tag (bytes : List ℕ) (n : ℕ) : Type 0 where
  front : List ℕ
  rest : List ℕ
  is : bytes ≡ front ++ (end_tag ++ rest)
  count : length front + 9 ≡ n

tag_at : (bytes : List ℕ) (n : ℕ) → first_end bytes ≡ Some n → Tag bytes n
tag_at [] n e = cc
tag_at (b ∷ bytes) n e = go (λ m. tag_at bytes m) (begins_with_end (b ∷ bytes)) refl
  where
    go : ((m : ℕ) → first_end bytes ≡ Some m → Tag bytes m) → (t : Bool) → begins_with_end (b ∷ bytes) ≡ t → Tag (b ∷ bytes) n
    go later true here =
        let nine : Some 9 ≡ Some n = sym (cond-true _ _ _ here) ∙ e in
        record {
          front = [];
          rest = drop 9 (b ∷ bytes);
          is = sym (take-append-drop 9 (b ∷ bytes)) ∙ ap (λ (z : List ℕ). z ++ drop 9 (b ∷ bytes)) (take-from_begins (b ∷ bytes) here);
          count = cc;
        }
    go later false not_here =
        let is : option_map (λ m. m + 1) (first_end bytes) ≡ Some n = sym (cond-false _ _ _ not_here) ∙ e in
        let m = mapped (first_end bytes) n is in
        let t = later m.0 m.1 in
        record { front = b ∷ t.front; rest = t.rest; is = ap (λ bs. b ∷ bs) t.is; count = omega (arith, t.count, m.2) }

-- a frame ends with its tag
record Closed (f : List ℕ) : Type 0 where
  front : List ℕ
  is : f ≡ front ++ end_tag
  short : length front + 9 ≤ most_bytes

closed_frame : (x f : List ℕ) → answer_of x ≡ Frame f → Closed f
closed_frame x f is =
    let h = has_frame x f is in
    let bytes : List ℕ = take most_bytes (without_blanks x) in
    let t : Tag bytes h.count = tag_at bytes h.count h.ends in
    let whole : bytes ≡ (t.front ++ end_tag) ++ t.rest = t.is ∙ sym (append_assoc t.front end_tag t.rest) in
    let long : length (t.front ++ end_tag) ≡ h.count = length-append t.front end_tag ∙ t.count in
    let taken : take h.count bytes ≡ t.front ++ end_tag =
    ap (take h.count) whole ∙ take-append-le h.count (t.front ++ end_tag) t.rest (omega (arith, long)) ∙ take_all h.count (t.front ++ end_tag) (omega (arith, long)) in
    record {
      front = t.front;
      is = sym h.is ∙ sym (take-take h.count most_bytes (without_blanks x) h.short) ∙ taken;
      short = omega (arith, t.count, h.short);
    }

-- no tag begins within another
begins_so : (b : ℕ) (bytes : List ℕ) → begins_with_end (b ∷ bytes) ≡ true → b ≡ 60
begins_so b bytes here = let is : b ∷ take 8 bytes ≡ end_tag = take-from_begins (b ∷ bytes) here in cc

abbrev first_of : List ℕ → ℕ
first_of [] = 0
first_of (b ∷ bytes) = b

first_is : (bytes : List ℕ) → begins_with_end bytes ≡ true → first_of bytes ≡ 60
first_is [] here = absurd (let long : 9 ≤ length {A = ℕ} [] = long_from_begins [] here in omega (arith, long))
first_is (b ∷ bytes) here = begins_so b bytes here

apart : (d : ℕ) (z : List ℕ) → begins_with_end (drop d (end_tag ++ z)) ≡ true → (d ≡ 0) ⊎ (9 ≤ d)
apart zero z here = inl refl
apart (suc zero) z here = absurd (let is : 47 ≡ 60 = first_is (drop 1 (end_tag ++ z)) here in omega (arith, is))
apart (suc (suc zero)) z here = absurd (let is : 72 ≡ 60 = first_is (drop 2 (end_tag ++ z)) here in omega (arith, is))
apart (suc (suc (suc zero))) z here = absurd (let is : 101 ≡ 60 = first_is (drop 3 (end_tag ++ z)) here in omega (arith, is))
apart (suc (suc (suc (suc zero)))) z here = absurd (let is : 114 ≡ 60 = first_is (drop 4 (end_tag ++ z)) here in omega (arith, is))
apart (suc (suc (suc (suc (suc zero))))) z here = absurd (let is : 109 ≡ 60 = first_is (drop 5 (end_tag ++ z)) here in omega (arith, is))
apart (suc (suc (suc (suc (suc (suc zero)))))) z here = absurd (let is : 101 ≡ 60 = first_is (drop 6 (end_tag ++ z)) here in omega (arith, is))
apart (suc (suc (suc (suc (suc (suc (suc zero))))))) z here = absurd (let is : 115 ≡ 60 = first_is (drop 7 (end_tag ++ z)) here in omega (arith, is))
apart (suc (suc (suc (suc (suc (suc (suc (suc zero)))))))) z here = absurd (let is : 62 ≡ 60 = first_is (drop 8 (end_tag ++ z)) here in omega (arith, is))
apart (suc (suc (suc (suc (suc (suc (suc (suc (suc d))))))))) z here = inr (omega arith)

behind_front : (x t : List ℕ) → drop (length x) (x ++ t) ≡ t
behind_front [] t = refl
behind_front (b ∷ x) t = behind_front x t

-- bytes with a tag behind them: their first message ends before it, or with it
record Ends (y : List ℕ) : Type 0 where
  count : ℕ
  ends : first_end (y ++ end_tag) ≡ Some count
  place : (count ≤ length y) ⊎ (count ≡ length y + 9)

ends_before : (b : ℕ) (y : List ℕ) → begins_with_end (b ∷ (y ++ end_tag)) ≡ true → 9 ≤ length (b ∷ y)
ends_before b y here = elim (apart (length (b ∷ y)) (drop 9 all) (ap (λ (z : List ℕ). begins_with_end z) at ∙ tag)) [
  | inl none ↦ absurd (omega (arith, none))
  | inr far ↦ far
]
  where
    all : List ℕ
    all = b ∷ (y ++ end_tag)

    whole : all ≡ end_tag ++ drop 9 all
    whole = sym (take-append-drop 9 all) ∙ ap (λ (z : List ℕ). z ++ drop 9 all) (take-from_begins all here)

    at : drop (length (b ∷ y)) (end_tag ++ drop 9 all) ≡ end_tag
    at = ap (drop (length (b ∷ y))) (sym whole) ∙ behind_front (b ∷ y) end_tag

    tag : begins_with_end end_tag ≡ true
    tag = begins-from_take end_tag refl

ends_at : (y : List ℕ) → Ends y
ends_at [] = record { count = 9; ends = first_end-at end_tag 0 (λ k less. absurd (let no : k < 0 = less in omega (arith, no))) (begins-from_take end_tag refl); place = inr refl }
ends_at (b ∷ y) = go (ends_at y) (begins_with_end (b ∷ (y ++ end_tag))) refl
  where
    go : Ends y → (t : Bool) → begins_with_end (b ∷ (y ++ end_tag)) ≡ t → Ends (b ∷ y)
    go later true here = record { count = 9; ends = cond-true _ _ _ here; place = inl (ends_before b y here) }
    go later false not_here = record {
      count = later.count + 1;
      ends = cond-false _ _ _ not_here ∙ ap (option_map (λ m. m + 1)) later.ends;
      place = elim later.place [
        | inl before ↦ inl (omega (arith, before))
        | inr is ↦ inr (omega (arith, is))
      ];
    }

blank_front : (y : List ℕ) → without_blanks (y ++ end_tag) ≡ without_blanks y ++ end_tag
blank_front [] = refl
blank_front (b ∷ y) = go (blank_front y) (is_blank b)
  where
    go : without_blanks (y ++ end_tag) ≡ without_blanks y ++ end_tag → (t : Bool) → cond t (without_blanks (y ++ end_tag)) (b ∷ (y ++ end_tag)) ≡ cond t (without_blanks y) (b ∷ y) ++ end_tag
    go same true = same
    go same false = refl

-- what stands behind a tag, the messages before it being few enough, is cut as it is
closed_step : {message : Message} (y z : List ℕ) → length y + 9 ≤ most_bytes → IsSpelledIn message (frames_of z).messages
    → ((d : List ℕ) → length d + 9 ≤ length y → IsSpelledIn message (frames_of ((d ++ end_tag) ++ z)).messages) → IsSpelledIn message (frames_of ((y ++ end_tag) ++ z)).messages
closed_step {message} y z short there later =
    subst (λ (fs : Frames). IsSpelledIn message fs.messages) (sym (frames_of-frame_append g z (take e.count w) answer)) (spelled_later (go e.place))
  where
    g : List ℕ
    g = y ++ end_tag

    v : List ℕ
    v = without_blanks y

    w : List ℕ
    w = v ++ end_tag

    e : Ends v
    e = ends_at v

    fewer : length v ≤ length y
    fewer = length-without_blanks y

    few : length w ≤ most_bytes
    few = let l : length w ≡ length v + 9 = length-append v end_tag in omega (arith, fewer, short, l)

    answer : answer_of g ≡ Frame (take e.count w)
    answer = answer_of-found g w e.count (sym (blank_front y)) few e.ends

    left : left_of g ≡ drop e.count w
    left = left_of-found g w e.count (sym (blank_front y)) few e.ends

    nine : 9 ≤ e.count
    nine = (first_end-within w e.count e.ends).0

    go : (e.count ≤ length v) ⊎ (e.count ≡ length v + 9) → IsSpelledIn message (frames_of (left_of g ++ z)).messages
    go (inl before) =
        let rest : drop e.count v ++ end_tag ≡ left_of g = sym (drop-append-le e.count v end_tag before) ∙ sym left in
        let long : length (drop e.count v) ≡ length v - e.count = length-drop e.count v in
        subst (λ (b : List ℕ). IsSpelledIn message (frames_of (b ++ z)).messages) rest
        (later (drop e.count v) (omega (arith, fewer, nine, before, long)))
    go (inr is) =
        let none : [] ≡ left_of g = sym (ap (λ (n : ℕ). drop n w) (is ∙ sym (length-append v end_tag)) ∙ drop_all (length w) w (omega arith)) ∙ sym left in
        subst (λ (b : List ℕ). IsSpelledIn message (frames_of (b ++ z)).messages) none there

closed_in : {message : Message} (more : ℕ) (y z : List ℕ) → length y < more → length y + 9 ≤ most_bytes → IsSpelledIn message (frames_of z).messages → IsSpelledIn message (frames_of ((y ++ end_tag) ++ z)).messages
closed_in zero y z less short there = absurd (omega (arith, less))
closed_in (suc more) y z less short there = closed_step y z short there (λ d fewer. closed_in more d z (omega (arith, less, fewer)) (omega (arith, short, fewer)) there)

-- a frame alone is that frame
alone_frame : (x f : List ℕ) → answer_of x ≡ Frame f → (z : List ℕ) → frames_of (f ++ z) ≡ behind (f ∷ []) (frames_of z)
alone_frame x f is z = frames_of-frame_append f z f answer ∙ ap (λ (b : List ℕ). behind (f ∷ []) (frames_of (b ++ z))) left
  where
    h : HasFrame x f
    h = has_frame x f is

    c : Closed f
    c = closed_frame x f is

    long : length f ≡ length c.front + 9
    long = ap length c.is ∙ length-append c.front end_tag

    all : without_blanks x ≡ f ++ left_of x
    all = parts x f is

    again : without_blanks (f ++ left_of x) ≡ f ++ left_of x
    again = ap without_blanks (sym all) ∙ blanks_once x ∙ all

    long_enough : (0 < length (without_blanks f)) ⊎ (length (without_blanks f) ≤ 0) → length f ≤ length (without_blanks f)
    long_enough (inl some) =
        let same : length (without_blanks f ++ left_of x) ≡ length (f ++ left_of x) = ap length (sym (without_blanks-append f (left_of x) some) ∙ again) in
        omega (arith, same, length-append (without_blanks f) (left_of x), length-append f (left_of x))
    long_enough (inr none) =
        let empty : without_blanks f ≡ [] = nil_from_length (without_blanks f) (omega (arith, none)) in
        let same : length (without_blanks (left_of x)) ≡ length (f ++ left_of x) = ap length (ap (λ (b : List ℕ). without_blanks (b ++ left_of x)) (sym empty) ∙ without_blanks-again f (left_of x) ∙ again) in
        absurd (omega (arith, same, length-without_blanks (left_of x), length-append f (left_of x), long))

    whole : without_blanks f ≡ f
    whole = without_blanks-whole f (long_enough (cases_lt 0 (length (without_blanks f))))

    short : length f ≤ most_bytes
    short = omega (arith, long, c.short)

    e : Ends c.front
    e = ends_at c.front

    found : first_end f ≡ Some e.count
    found = ap first_end c.is ∙ e.ends

    count : e.count ≡ h.count
    count =
        let within : end_within f ≡ Some e.count = ap first_end (take_all most_bytes f short) ∙ found in
        let one : Some e.count ≡ Some h.count = sym (end_within-append f (left_of x) e.count within) ∙ ap end_within (sym all) ∙ h.ends in
        cc

    size : h.count ≡ length f
    size = omega (arith, ap length h.is, length-take h.count (without_blanks x), h.within)

    answer : answer_of f ≡ Frame f
    answer = answer_of-found f f e.count (sym whole) short found ∙ ap (λ (g : List ℕ). Frame g) (take_all e.count f (omega (arith, count, size)))

    left : left_of f ≡ []
    left = left_of-found f f e.count (sym whole) short found ∙ drop_all e.count f (omega (arith, count, size))

-- and what a text spells, it spells among the bytes without their NULs
cleared_frame : {message : Message} → SaysAlone → (x f : List ℕ) → answer_of x ≡ Frame f → IsSpelledIn message (f ∷ (frames_of (left_of x)).messages)
    → (IsSpelledIn message (frames_of (left_of x)).messages → IsSpelledIn message (frames_of (without_nuls (left_of x))).messages) → IsSpelledIn message (frames_of (without_nuls x)).messages
cleared_frame {message} alone x f is there behind_it = subst (λ (fs : Frames). IsSpelledIn message fs.messages) (sym frames) (go there)
  where
    left : List ℕ
    left = left_of x

    c : Closed f
    c = closed_frame x f is

    frames : frames_of (without_nuls x) ≡ frames_of (without_nuls f ++ without_nuls left)
    frames = sym (ap frames_of (append-nil (without_nuls x))) ∙ sym (cleared_blanks x []) ∙ ap frames_of (append-nil (without_nuls (without_blanks x)))
        ∙ ap (λ (b : List ℕ). frames_of (without_nuls b)) (parts x f is) ∙ ap frames_of (cleared_append f left)

    shut : without_nuls f ≡ without_nuls c.front ++ end_tag
    shut = ap without_nuls c.is ∙ cleared_append c.front end_tag

    fewer : length (without_nuls c.front) ≤ length c.front
    fewer = length-cleared c.front

    go : IsSpelledIn message (f ∷ (frames_of left).messages) → IsSpelledIn message (frames_of (without_nuls f ++ without_nuls left)).messages
    go (spelled_first spells) =
        let clean : without_nuls f ≡ f = cleared_whole f (no_nul alone x f message is spells) in
        subst (λ (fs : Frames). IsSpelledIn message fs.messages) (sym (ap (λ (b : List ℕ). frames_of (b ++ without_nuls left)) clean ∙ alone_frame x f is (without_nuls left))) (spelled_first spells)
    go (spelled_later others) =
        subst (λ (b : List ℕ). IsSpelledIn message (frames_of (b ++ without_nuls left)).messages) (sym shut)
        (closed_in (length (without_nuls c.front) + 1) (without_nuls c.front) (without_nuls left) (omega arith) (omega (arith, fewer, c.short)) (behind_it others))

cleared_at : {message : Message} → SaysAlone → (x : List ℕ) (answer : Answer) → answer_of x ≡ answer → IsSpelledIn message (frames_of x).messages
    → (length (left_of x) < length x → IsSpelledIn message (frames_of (left_of x)).messages → IsSpelledIn message (frames_of (without_nuls (left_of x))).messages) → IsSpelledIn message (frames_of (without_nuls x)).messages
cleared_at {message} alone x NeedMore is there behind_it = absurd (none_spelled (subst (λ (fs : Frames). IsSpelledIn message fs.messages) (frames_of-need_more x is) there))
cleared_at {message} alone x TooLong is there behind_it = absurd (none_spelled (subst (λ (fs : Frames). IsSpelledIn message fs.messages) (frames_of-too_long x is) there))
cleared_at {message} alone x (Frame f) is there behind_it =
    cleared_frame alone x f is (subst (λ (fs : Frames). IsSpelledIn message fs.messages) (frames_of-frame x f is) there) (behind_it (left_of-shorter x f is))

cleared_within : {message : Message} → SaysAlone → (more : ℕ) (x : List ℕ) → length x < more → IsSpelledIn message (frames_of x).messages → IsSpelledIn message (frames_of (without_nuls x)).messages
cleared_within alone zero x less there = absurd (omega (arith, less))
cleared_within alone (suc more) x less there = cleared_at alone x (answer_of x) refl there (λ shorter others. cleared_within alone more (left_of x) (omega (arith, less, shorter)) others)

pub cleared_in : {message : Message} → SaysAlone → (x : List ℕ) → IsSpelledIn message (frames_of x).messages → IsSpelledIn message (frames_of (without_nuls x)).messages
cleared_in alone x there = cleared_within alone (length x + 1) x (omega arith) there
