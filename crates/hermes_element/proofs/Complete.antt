-- The reading machine goes over what has the plain form.
use Rattle.std.proofs.Common.{◌≡◌, ◌⊎◌, inl, inr, ℕ, suc, ◌+◌, ◌-◌, ◌*◌, ◌/◌, ◌%◌, ◌<◌, ◌≤◌, Bool, true, false, cond, not, List, [], ◌∷◌, ◌++◌, Option, Some, None, Result, Ok, Err, length, refl, ap, sym, ◌∙◌, append_assoc, append-nil, add-zero, arith, length-append, max}
use Rattle.std.specs.Prelude.{◌==◌, ◌&&◌, ◌||◌, nat_lt, nat_le}
use Rattle.std.specs.List.{list_all}
use Rattle.std.specs.Char.{encode_utf8}
use Rattle.std.proofs.lemmas.Str.{encode_ascii}
use Rattle.std.proofs.lemmas.Bool.{cases_lt, cases_Bool, ne_eqb, lt-ltb, le-ltb, ltb-true, le-leb, and_parts, and_from, not-true}
use Rattle.std.proofs.lemmas.Bool.Decides.{nat_tests}
use Rattle.hermes_element.proofs.Values.{wide_step}
use Rattle.hermes_element.proofs.Escapes.{letter_59, digit_59, hex_59, letter_35, digit_120}
use mathlib.Core.Bool.{and-false}
use Rattle.line_base.specs.Text.{is_allowed_char}
use Rattle.hermes_element.specs.Plain as form
use Rattle.hermes_element.specs.Plain.{is_quote, is_letter, is_digit, is_hex_digit, Escape, named, decimal, hexadecimal, escape_text, is_escape, plain, is_piece}
use Rattle.hermes_element.specs.Checks.{Fault, character_of, spaced}
use Rattle.hermes_element.specs.Machine.{Build, run, step, act, ◌>>=◌, with_word, refer, with_value, share, least_wide, is_wide_begun, wide, wide_start, wide_next, with_open}
use Rattle.hermes_element.specs.declared.place.Place.{Place}
use Rattle.hermes_element.specs.declared.place.Place.TheVariants as places
use Rattle.hermes_element.proofs.Running.{yes, no}
use Rattle.hermes_element.proofs.Wide.{encode_2, encode_3, encode_4}

pub bind_same : (c : Result Build Fault) (f g : Build → Result Build Fault) → ((b : Build) → f b ≡ g b) → (c >>= f) ≡ (c >>= g)
bind_same (Ok b) f g h = h b
bind_same (Err fault) f g h = refl

pub bind_ok : (c : Result Build Fault) → (c >>= (λ b. Ok b)) ≡ c
bind_ok (Ok b) = refl
bind_ok (Err fault) = refl

pub bind_assoc : (c : Result Build Fault) (f g : Build → Result Build Fault) → ((c >>= f) >>= g) ≡ (c >>= (λ b. f b >>= g))
bind_assoc (Ok b) f g = refl
bind_assoc (Err fault) f g = refl

pub over : (p q : Place) (d e at x : ℕ) (c : Result Build Fault) (g : Build → Result Build Fault) (rest : List ℕ) → step p d x ≡ Some (q, e) → ((b : Build) → act p at x b ≡ g b)
    → run p d c at (x ∷ rest) ≡ run q e (c >>= g) (at + 1) rest
over p q d e at x c g rest s a = rw s (ap (λ k. run q e k (at + 1) rest) (bind_same c (act p at x) g a))

-- over a byte that says nothing
pub passes : (p q : Place) (d e at x : ℕ) (c : Result Build Fault) (rest : List ℕ) → step p d x ≡ Some (q, e) → ((b : Build) → act p at x b ≡ Ok b)
    → run p d c at (x ∷ rest) ≡ run q e c (at + 1) rest
passes p q d e at x c rest s a = over p q d e at x c (λ b. Ok b) rest s a ∙ ap (λ k. run q e k (at + 1) rest) (bind_ok c)

abbrev pub folded : (ℕ → Build → Build) → List ℕ → Build → Build
folded g [] b = b
folded g (x ∷ xs) b = folded g xs (g x b)

module _ (p : Place) (d : ℕ) (test : ℕ → Bool) (g : ℕ → Build → Build)
    (stays : (x : ℕ) → test x ≡ true → step p d x ≡ Some (p, d))
    (adds : (x k : ℕ) (b : Build) → test x ≡ true → act p k x b ≡ Ok (g x b)) where
  pub over_all : (xs rest : List ℕ) (at : ℕ) (c : Result Build Fault) → list_all test xs ≡ true
      → run p d c at (xs ++ rest) ≡ run p d (c >>= (λ b. Ok (folded g xs b))) (at + length xs) rest
  over_all [] rest at c h = ap (λ k. run p d k at rest) (sym (bind_ok c)) ∙ ap (λ k. run p d (c >>= (λ b. Ok b)) k rest) (sym (add-zero at))
  over_all (x ∷ xs) rest at c h =
      let both = and_parts (test x) (list_all test xs) h in
      let place : (at + 1) + length xs ≡ at + suc (length xs) = omega arith in
      over p p d d at x c (λ b. Ok (g x b)) (xs ++ rest) (stays x both.0) (λ b. adds x at b both.0)
      ∙ over_all xs rest (at + 1) (c >>= (λ b. Ok (g x b))) both.1
      ∙ ap (λ k. run p d k ((at + 1) + length xs) rest) (bind_assoc c (λ b. Ok (g x b)) (λ b. Ok (folded g xs b)))
      ∙ ap (λ k. run p d (c >>= (λ b. Ok (folded g (x ∷ xs) b))) k rest) place

pub over_idle : (p : Place) (d : ℕ) (test : ℕ → Bool) → ((x : ℕ) → test x ≡ true → step p d x ≡ Some (p, d)) → ((x k : ℕ) (b : Build) → test x ≡ true → act p k x b ≡ Ok b)
    → (xs rest : List ℕ) (at : ℕ) (c : Result Build Fault) → list_all test xs ≡ true → run p d c at (xs ++ rest) ≡ run p d c (at + length xs) rest
over_idle p d test stays idle [] rest at c h = ap (λ k. run p d c k rest) (sym (add-zero at))
over_idle p d test stays idle (x ∷ xs) rest at c h =
    let both = and_parts (test x) (list_all test xs) h in
    let place : (at + 1) + length xs ≡ at + suc (length xs) = omega arith in
    passes p p d d at x c (xs ++ rest) (stays x both.0) (λ b. idle x at b both.0)
    ∙ over_idle p d test stays idle xs rest (at + 1) c both.1 ∙ ap (λ k. run p d c k rest) place

-- ---- escapes

pub words : (xs : List ℕ) (b : Build) → folded with_word xs b ≡ record b { scratch = record b.scratch { word = b.scratch.word ++ xs } }
words [] b = ap (λ w. record b { scratch = record b.scratch { word = w } }) (sym (append-nil b.scratch.word))
words (x ∷ xs) b = words xs (with_word x b) ∙ ap (λ w. record b { scratch = record b.scratch { word = w } }) (append_assoc b.scratch.word (x ∷ []) xs)

abbrev marked : ℕ → Build → Build
marked at b = record b { scratch = record b.scratch { mark = at; word = []; after_cr = false } }

refer_marked : (at : ℕ) (word : List ℕ) (char : Option ℕ) (b : Build) → refer at char (record b { scratch = record b.scratch { mark = at; word = word; after_cr = false } }) ≡ refer at char b
refer_marked at word None b = refl
refer_marked at word (Some char) b = refl

module _ (lead inner : ℕ → Place) (test : ℕ → Bool) (form : List ℕ → Escape)
    (enters : (q d x : ℕ) → test x ≡ true → step (lead q) d x ≡ Some (inner q, d))
    (begins : (q k x : ℕ) (b : Build) → test x ≡ true → act (lead q) k x b ≡ Ok (with_word x b))
    (stays : (q d x : ℕ) → test x ≡ true → step (inner q) d x ≡ Some (inner q, d))
    (adds : (q k x : ℕ) (b : Build) → test x ≡ true → act (inner q) k x b ≡ Ok (with_word x b))
    (closes : (q d : ℕ) → step (inner q) d 59 ≡ Some (places.Value q, d))
    (refers : (q k : ℕ) (b : Build) → act (inner q) k 59 b ≡ refer b.scratch.mark (character_of (form b.scratch.word)) b) where
  escape_rest : (q d k at : ℕ) (xs rest : List ℕ) (c : Result Build Fault) → 0 < length xs → list_all test xs ≡ true
      → run (lead q) d (c >>= (λ b. Ok (marked at b))) k (xs ++ (59 ∷ rest)) ≡ run (places.Value q) d (c >>= refer at (character_of (form xs))) (k + length xs + 1) rest
  escape_rest q d k at [] rest c some h = absurd (omega arith)
  escape_rest q d k at (x ∷ xs) rest c some h =
      let both = and_parts (test x) (list_all test xs) h in
      let start = c >>= (λ b. Ok (marked at b)) in
      let one = start >>= (λ b. Ok (with_word x b)) in
      let all = one >>= (λ b. Ok (folded with_word xs b)) in
      let place : ((k + 1) + length xs) + 1 ≡ (k + suc (length xs)) + 1 = omega arith in
      let done : (b : Build) → (Ok (marked at b) >>= (λ b. Ok (with_word x b)) >>= (λ b. Ok (folded with_word xs b)) >>= (λ b. refer b.scratch.mark (character_of (form b.scratch.word)) b)) ≡ refer at (character_of (form (x ∷ xs))) b =
      λ b. ap (λ (w : Build). refer w.scratch.mark (character_of (form w.scratch.word)) w) (words xs (with_word x (marked at b))) ∙ refer_marked at (x ∷ xs) (character_of (form (x ∷ xs))) b in
      over (lead q) (inner q) d d k x start (λ b. Ok (with_word x b)) (xs ++ (59 ∷ rest)) (enters q d x both.0) (λ b. begins q k x b both.0)
      ∙ over_all (inner q) d test with_word (λ y p. stays q d y p) (λ y j b p. adds q j y b p) xs (59 ∷ rest) (k + 1) one both.1
      ∙ over (inner q) (places.Value q) d d ((k + 1) + length xs) 59 all (λ b. refer b.scratch.mark (character_of (form b.scratch.word)) b) rest (closes q d) (refers q ((k + 1) + length xs))
      ∙ ap (λ z. run (places.Value q) d z (((k + 1) + length xs) + 1) rest)
      (ap (λ z. z >>= (λ b. Ok (folded with_word xs b)) >>= (λ b. refer b.scratch.mark (character_of (form b.scratch.word)) b)) (bind_assoc c (λ b. Ok (marked at b)) (λ b. Ok (with_word x b)))
      ∙ ap (λ z. z >>= (λ b. refer b.scratch.mark (character_of (form b.scratch.word)) b)) (bind_assoc c (λ b. Ok (with_word x (marked at b))) (λ b. Ok (folded with_word xs b)))
      ∙ bind_assoc c (λ b. Ok (folded with_word xs (with_word x (marked at b)))) (λ b. refer b.scratch.mark (character_of (form b.scratch.word)) b)
      ∙ bind_same c (λ b. refer (folded with_word xs (with_word x (marked at b))).scratch.mark (character_of (form (folded with_word xs (with_word x (marked at b))).scratch.word)) (folded with_word xs (with_word x (marked at b)))) (refer at (character_of (form (x ∷ xs)))) done)
      ∙ ap (λ j. run (places.Value q) d (c >>= refer at (character_of (form (x ∷ xs)))) j rest) place

quote_not_38 : (q : ℕ) → is_quote q ≡ true → (38 == q) ≡ false
quote_not_38 q h = grind (arith, nat_tests)

from_amp : (q d at : ℕ) (c : Result Build Fault) (rest : List ℕ) → is_quote q ≡ true → run (places.Value q) d c at (38 ∷ rest) ≡ run (places.Ampersand q) d (c >>= (λ b. Ok (marked at b))) (at + 1) rest
from_amp q d at c rest h =
    let e = quote_not_38 q h in
    over (places.Value q) (places.Ampersand q) d d at 38 c (λ b. Ok (marked at b)) rest (rw e) (λ b. rw e)

some_run : (test : ℕ → Bool) (xs : List ℕ) → form.is_some_run test xs ≡ true → (0 < length xs) × (list_all test xs ≡ true)
some_run test xs h = let both = and_parts (nat_lt 0 (length xs)) (list_all test xs) h in (ltb-true 0 (length xs) both.0, both.1)

pub over_escape : (q d at : ℕ) (e : Escape) (rest : List ℕ) (c : Result Build Fault) → is_quote q ≡ true → is_escape e ≡ true
    → run (places.Value q) d c at (escape_text e ++ rest) ≡ run (places.Value q) d (c >>= refer at (character_of e)) (at + length (escape_text e)) rest
over_escape q d at (named xs) rest c quote h =
    let r = some_run is_letter xs h in
    let place : (at + 1) + length xs + 1 ≡ at + suc (length (xs ++ 59 ∷ [])) = omega (arith, length-append xs (59 ∷ [])) in
    ap (λ l. run (places.Value q) d c at (38 ∷ l)) (append_assoc xs (59 ∷ []) rest)
    ∙ from_amp q d at c (xs ++ (59 ∷ rest)) quote
    ∙ escape_rest places.Ampersand places.Letters is_letter named (λ q d x p. rw (letter_35 x p, p)) (λ q k x b p. rw (letter_35 x p)) (λ q d x p. rw (letter_59 x p, p)) (λ q k x b p. rw (letter_59 x p)) (λ q d. refl) (λ q k b. refl)
    q d (at + 1) at xs rest c r.0 r.1
    ∙ ap (λ k. run (places.Value q) d (c >>= refer at (character_of (named xs))) k rest) place
over_escape q d at (decimal xs) rest c quote h =
    let r = some_run is_digit xs h in
    let start = c >>= (λ b. Ok (marked at b)) in
    let place : ((at + 1) + 1) + length xs + 1 ≡ at + suc (suc (length (xs ++ 59 ∷ []))) = omega (arith, length-append xs (59 ∷ [])) in
    ap (λ l. run (places.Value q) d c at (38 ∷ 35 ∷ l)) (append_assoc xs (59 ∷ []) rest)
    ∙ from_amp q d at c (35 ∷ (xs ++ (59 ∷ rest))) quote
    ∙ passes (places.Ampersand q) (places.Hash q) d d (at + 1) 35 start (xs ++ (59 ∷ rest)) refl (λ b. refl)
    ∙ escape_rest places.Hash places.Digits is_digit decimal (λ q d x p. rw (digit_120 x p, p)) (λ q k x b p. rw (digit_120 x p)) (λ q d x p. rw (digit_59 x p, p)) (λ q k x b p. rw (digit_59 x p)) (λ q d. refl) (λ q k b. refl)
    q d ((at + 1) + 1) at xs rest c r.0 r.1
    ∙ ap (λ k. run (places.Value q) d (c >>= refer at (character_of (decimal xs))) k rest) place
over_escape q d at (hexadecimal xs) rest c quote h =
    let r = some_run is_hex_digit xs h in
    let start = c >>= (λ b. Ok (marked at b)) in
    let place : (((at + 1) + 1) + 1) + length xs + 1 ≡ at + suc (suc (suc (length (xs ++ 59 ∷ [])))) = omega (arith, length-append xs (59 ∷ [])) in
    ap (λ l. run (places.Value q) d c at (38 ∷ 35 ∷ 120 ∷ l)) (append_assoc xs (59 ∷ []) rest)
    ∙ from_amp q d at c (35 ∷ 120 ∷ (xs ++ (59 ∷ rest))) quote
    ∙ passes (places.Ampersand q) (places.Hash q) d d (at + 1) 35 start (120 ∷ (xs ++ (59 ∷ rest))) refl (λ b. refl)
    ∙ passes (places.Hash q) (places.HexStart q) d d ((at + 1) + 1) 120 start (xs ++ (59 ∷ rest)) refl (λ b. refl)
    ∙ escape_rest places.HexStart places.HexDigits is_hex_digit hexadecimal (λ q d x p. rw p) (λ q k x b p. refl) (λ q d x p. rw (hex_59 x p, p)) (λ q k x b p. rw (hex_59 x p)) (λ q d. refl) (λ q k b. refl)
    q d (((at + 1) + 1) + 1) at xs rest c r.0 r.1
    ∙ ap (λ k. run (places.Value q) d (c >>= refer at (character_of (hexadecimal xs))) k rest) place

-- ---- characters

abbrev pub plain_effect : ℕ → Build → Build
plain_effect c b = with_value (cond (b.scratch.after_cr && c == 10) [] (encode_utf8 (spaced c))) (c == 13) b

record PlainChar (q c : ℕ) : Type 0 where
  pub allowed : is_allowed_char c ≡ true
  pub open_tag : (c == 60) ≡ false
  pub amp : (c == 38) ≡ false
  pub own : (c == q) ≡ false

plain_char : (q c : ℕ) → is_piece q (plain c) ≡ true → PlainChar q c
plain_char q c h =
    let a = and_parts (is_allowed_char c && not (c == 60) && not (c == 38)) (not (c == q)) h in
    let b = and_parts (is_allowed_char c && not (c == 60)) (not (c == 38)) a.0 in
    let d = and_parts (is_allowed_char c) (not (c == 60)) b.0 in
    record { allowed = d.0; open_tag = not-true (c == 60) d.1; amp = not-true (c == 38) b.1; own = not-true (c == q) a.1 }

spaced_small : (c : ℕ) → c < 128 → spaced c < 128
spaced_small c h = elim (cases_Bool (c == 9 || c == 10 || c == 13)) [
  | inl e ↦ let s = yes (c == 9 || c == 10 || c == 13) 32 c e in omega (arith, s)
  | inr e ↦ let s = no (c == 9 || c == 10 || c == 13) 32 c e in omega (arith, s)
]

over_ascii : (q d at c : ℕ) (rest : List ℕ) (k : Result Build Fault) → c < 128 → PlainChar q c
    → run (places.Value q) d k at (encode_utf8 c ++ rest) ≡ run (places.Value q) d (k >>= (λ b. Ok (plain_effect c b))) (at + length (encode_utf8 c)) rest
over_ascii q d at c rest k small p =
    let e = encode_ascii c small in
    let s = encode_ascii (spaced c) (spaced_small c small) in
    let below = lt-ltb c 128 small in
    let own = p.own in let amp = p.amp in let tag = p.open_tag in let ok = p.allowed in
    ap (λ l. run (places.Value q) d k at (l ++ rest)) e
    ∙ over (places.Value q) (places.Value q) d d at c k (λ b. Ok (plain_effect c b)) rest (rw (own, amp, tag, below, ok))
    (λ b. rw (own, amp) (ap (λ l. Ok (with_value (cond (b.scratch.after_cr && c == 10) [] l) (c == 13) b)) (sym s)))
    ∙ ap (λ j. run (places.Value q) d (k >>= (λ b. Ok (plain_effect c b))) j rest) (omega (arith, ap length e))

-- characters of several bytes

high_ranges : (c : ℕ) → is_allowed_char c ≡ true → 128 ≤ c → (c ≤ 55295) ⊎ (((57344 ≤ c) × (c ≤ 65533)) ⊎ ((65536 ≤ c) × (c ≤ 1114111)))
high_ranges c h low = elim (cases_lt c 55296) [
  | inl a ↦ inl (omega arith)
  | inr a ↦ elim (cases_lt c 65536) [
    | inl b ↦ inr (inl (grind (arith, nat_tests), grind (arith, nat_tests)))
    | inr b ↦ inr (inr (b, grind (arith, nat_tests)))
  ]
]

low_allowed : (m : ℕ) → 128 ≤ m → m ≤ 55295 → is_allowed_char m ≡ true
low_allowed m a b = grind (arith, nat_tests)

mid_allowed : (m : ℕ) → 57344 ≤ m → m ≤ 65533 → is_allowed_char m ≡ true
mid_allowed m a b = grind (arith, nat_tests)

top_allowed : (m : ℕ) → 65536 ≤ m → m ≤ 1114111 → is_allowed_char m ≡ true
top_allowed m a b = grind (arith, nat_tests)

begun_if : (floor bits left : ℕ) → is_allowed_char (least_wide floor bits left) ≡ true → least_wide floor bits left < (bits + 1) * share left → is_wide_begun floor bits left ≡ true
begun_if floor bits left a b = and_from (is_allowed_char (least_wide floor bits left)) (nat_lt (least_wide floor bits left) ((bits + 1) * share left)) a (lt-ltb (least_wide floor bits left) ((bits + 1) * share left) b)

pub begun_0 : (floor c : ℕ) → is_allowed_char c ≡ true → floor ≤ c → is_wide_begun floor c 0 ≡ true
begun_0 floor c h low =
    let least : max floor (c * 1) ≡ c = omega arith in
    begun_if floor c 0 (ap is_allowed_char least ∙ h) (omega (arith, least))

pub begun_1 : (floor c bits : ℕ) → is_allowed_char c ≡ true → 128 ≤ floor → floor ≤ c → (floor ≤ 2048) ⊎ (floor ≡ 65536) → c / 64 ≡ bits → is_wide_begun floor bits 1 ≡ true
begun_1 floor c bits h some low small e =
    let inside : max floor (bits * 64) < (bits + 1) * 64 = omega arith in
    begun_if floor bits 1 (elim (high_ranges c h (omega arith)) [
      | inl a ↦ low_allowed (max floor (bits * 64)) (omega arith) (omega arith)
      | inr (inl a) ↦ elim small [
        | inl s ↦ mid_allowed (max floor (bits * 64)) (omega (arith, a.0, a.1)) (omega (arith, a.0, a.1))
        | inr s ↦ absurd (omega (arith, a.0, a.1))
      ]
      | inr (inr a) ↦ top_allowed (max floor (bits * 64)) (omega (arith, a.0, a.1)) (omega (arith, a.0, a.1))
    ]) inside

pub begun_2 : (floor c bits : ℕ) → is_allowed_char c ≡ true → 128 ≤ floor → floor ≤ c → (floor ≤ 2048) ⊎ (floor ≡ 65536) → c / 4096 ≡ bits → is_wide_begun floor bits 2 ≡ true
begun_2 floor c bits h some low small e =
    let inside : max floor (bits * 4096) < (bits + 1) * 4096 = omega arith in
    begun_if floor bits 2 (elim (high_ranges c h (omega arith)) [
      | inl a ↦ low_allowed (max floor (bits * 4096)) (omega arith) (omega arith)
      | inr (inl a) ↦ elim small [
        | inl s ↦ mid_allowed (max floor (bits * 4096)) (omega (arith, a.0, a.1)) (omega (arith, a.0, a.1))
        | inr s ↦ absurd (omega (arith, a.0, a.1))
      ]
      | inr (inr a) ↦ top_allowed (max floor (bits * 4096)) (omega (arith, a.0, a.1)) (omega (arith, a.0, a.1))
    ]) inside

pub begun_3 : (c bits : ℕ) → is_allowed_char c ≡ true → 65536 ≤ c → c / 262144 ≡ bits → is_wide_begun 65536 bits 3 ≡ true
begun_3 c bits h low e =
    let inside : max 65536 (bits * 262144) < (bits + 1) * 262144 = omega arith in
    begun_if 65536 bits 3 (elim (high_ranges c h (omega arith)) [
      | inl a ↦ absurd (omega arith)
      | inr (inl a) ↦ absurd (omega (arith, a.0, a.1))
      | inr (inr a) ↦ top_allowed (max 65536 (bits * 262144)) (omega (arith, a.0, a.1)) (omega (arith, a.0, a.1))
    ]) inside

pub wide_goes : (q floor bits left : ℕ) → is_wide_begun floor bits left ≡ true → 0 < left → wide q floor bits left ≡ Some (places.Wide q floor bits left)
wide_goes q floor bits left h some =
    let there : (left == 0) ≡ false = ne_eqb left 0 (λ e. omega arith) in
    yes (is_wide_begun floor bits left) (Some (cond (left == 0) (places.Value q) (places.Wide q floor bits left))) None h
    ∙ ap (λ t. Some (cond t (places.Value q) (places.Wide q floor bits left))) there

pub wide_ends : (q floor bits : ℕ) → is_wide_begun floor bits 0 ≡ true → wide q floor bits 0 ≡ Some (places.Value q)
wide_ends q floor bits h = yes (is_wide_begun floor bits 0) (Some (places.Value q)) None h

pub next_is : (q floor bits left x next : ℕ) → 128 ≤ x → x < 192 → bits < 131072 → bits * 64 + (x - 128) ≡ next → wide_next q floor bits left x ≡ wide q floor next (left - 1)
next_is q floor bits left x next low high fits e =
    yes (nat_le 128 x && nat_lt x 192 && nat_lt bits 131072) (wide q floor (bits * 64 + (x - 128)) (left - 1)) None
    (and_from (nat_le 128 x && nat_lt x 192) (nat_lt bits 131072) (and_from (nat_le 128 x) (nat_lt x 192) (le-leb 128 x low) (lt-ltb x 192 high)) (lt-ltb bits 131072 fits))
    ∙ ap (λ n. wide q floor n (left - 1)) e

abbrev adds_byte : ℕ → Build → Build
adds_byte x b = with_value (x ∷ []) false b

act_high : (q k x : ℕ) (b : Build) → is_quote q ≡ true → 128 ≤ x → act (places.Value q) k x b ≡ Ok (adds_byte x b)
act_high q k x b is h =
    let own : (x == q) ≡ false = grind (arith, nat_tests) in
    let amp : (x == 38) ≡ false = ne_eqb x 38 (λ e. omega arith) in
    let tab : (x == 9) ≡ false = ne_eqb x 9 (λ e. omega arith) in
    let lf : (x == 10) ≡ false = ne_eqb x 10 (λ e. omega arith) in
    let cr : (x == 13) ≡ false = ne_eqb x 13 (λ e. omega arith) in
    rw (own, amp, tab, lf, cr, and-false b.scratch.after_cr)

start_2 : (q x : ℕ) → 192 ≤ x → x < 224 → wide_start q x ≡ wide q 128 (x - 192) 1
start_2 q x low high = let a = le-ltb x 192 low in let b = lt-ltb x 224 high in rw (a, b)

start_3 : (q x : ℕ) → 224 ≤ x → x < 240 → wide_start q x ≡ wide q 2048 (x - 224) 2
start_3 q x low high = let a = le-ltb x 192 (omega arith) in let b = le-ltb x 224 low in let c = lt-ltb x 240 high in rw (a, b, c)

start_4 : (q x : ℕ) → 240 ≤ x → wide_start q x ≡ wide q 65536 (x - 240) 3
start_4 q x low = let a = le-ltb x 192 (omega arith) in let b = le-ltb x 224 (omega arith) in let c = le-ltb x 240 low in rw (a, b, c)

high_effect : (c : ℕ) (b : Build) → 128 ≤ c → plain_effect c b ≡ with_value (encode_utf8 c) false b
high_effect c b h =
    let tab : (c == 9) ≡ false = ne_eqb c 9 (λ e. omega arith) in
    let lf : (c == 10) ≡ false = ne_eqb c 10 (λ e. omega arith) in
    let cr : (c == 13) ≡ false = ne_eqb c 13 (λ e. omega arith) in
    rw (tab, lf, cr, and-false b.scratch.after_cr)

-- one byte after another
joined : (k : Result Build Fault) (xs ys : List ℕ) (c : ℕ) → 128 ≤ c → encode_utf8 c ≡ xs ++ ys
    → ((k >>= (λ b. Ok (with_value xs false b))) >>= (λ b. Ok (with_value ys false b))) ≡ (k >>= (λ b. Ok (plain_effect c b)))
joined k xs ys c h e =
    bind_assoc k (λ b. Ok (with_value xs false b)) (λ b. Ok (with_value ys false b))
    ∙ bind_same k (λ b. Ok (with_value ys false (with_value xs false b))) (λ b. Ok (plain_effect c b))
    (λ b. ap (λ l. Ok (record b { scratch = record b.scratch { value = l; after_cr = false } })) (append_assoc b.scratch.value xs ys ∙ ap (λ l. b.scratch.value ++ l) (sym e)) ∙ sym (ap (λ (w : Build). Ok w) (high_effect c b h)))

joins : (k : Result Build Fault) (xs ys : List ℕ) → ((k >>= (λ b. Ok (with_value xs false b))) >>= (λ b. Ok (with_value ys false b))) ≡ (k >>= (λ b. Ok (with_value (xs ++ ys) false b)))
joins k xs ys =
    bind_assoc k (λ b. Ok (with_value xs false b)) (λ b. Ok (with_value ys false b))
    ∙ bind_same k (λ b. Ok (with_value ys false (with_value xs false b))) (λ b. Ok (with_value (xs ++ ys) false b))
    (λ b. ap (λ l. Ok (record b { scratch = record b.scratch { value = l; after_cr = false } })) (append_assoc b.scratch.value xs ys))

over_2 : (q d at c : ℕ) (rest : List ℕ) (k : Result Build Fault) → is_quote q ≡ true → is_allowed_char c ≡ true → 128 ≤ c → c < 2048
    → run (places.Value q) d k at (encode_utf8 c ++ rest) ≡ run (places.Value q) d (k >>= (λ b. Ok (plain_effect c b))) (at + length (encode_utf8 c)) rest
over_2 q d at c rest k is h low high =
    let e = encode_2 c low high in
    let x = 192 + c / 64 in
    let y = 128 + c % 64 in
    let bits : x - 192 ≡ c / 64 = omega arith in
    let last : (c / 64) * 64 + (y - 128) ≡ c = omega arith in
    let first = begun_1 128 c (c / 64) h (omega arith) low (inl (omega arith)) refl in
    ap (λ l. run (places.Value q) d k at (l ++ rest)) e
    ∙ over (places.Value q) (places.Wide q 128 (c / 64) 1) d d at x k (λ b. Ok (adds_byte x b)) (y ∷ rest)
    (wide_step q d x is (omega arith) ∙ ap (with_open d) (start_2 q x (omega arith) (omega arith) ∙ ap (λ n. wide q 128 n 1) bits ∙ wide_goes q 128 (c / 64) 1 first (omega arith)))
    (λ b. act_high q at x b is (omega arith))
    ∙ over (places.Wide q 128 (c / 64) 1) (places.Value q) d d (at + 1) y (k >>= (λ b. Ok (adds_byte x b))) (λ b. Ok (adds_byte y b)) rest
    (ap (with_open d) (next_is q 128 (c / 64) 1 y c (omega arith) (omega arith) (omega arith) last ∙ wide_ends q 128 c (begun_0 128 c h low)))
    (λ b. refl)
    ∙ ap (λ z. run (places.Value q) d z ((at + 1) + 1) rest) (joined k (x ∷ []) (y ∷ []) c low e)
    ∙ ap (λ j. run (places.Value q) d (k >>= (λ b. Ok (plain_effect c b))) j rest) (omega (arith, ap length e))

pub small : (n : ℕ) → n ≤ 2048 → (n ≤ 2048) ⊎ (n ≡ 65536)
small n h = inl h

pub exact : (n : ℕ) → n ≡ 65536 → (n ≤ 2048) ⊎ (n ≡ 65536)
exact n h = inr h

over_3 : (q d at c : ℕ) (rest : List ℕ) (k : Result Build Fault) → is_quote q ≡ true → is_allowed_char c ≡ true → 2048 ≤ c → c < 65536
    → run (places.Value q) d k at (encode_utf8 c ++ rest) ≡ run (places.Value q) d (k >>= (λ b. Ok (plain_effect c b))) (at + length (encode_utf8 c)) rest
over_3 q d at c rest k is h low high =
    let e = encode_3 c low high in
    let x = 224 + c / 4096 in
    let y = 128 + c / 64 % 64 in
    let z = 128 + c % 64 in
    let bits : x - 224 ≡ c / 4096 = omega arith in
    let mid : (c / 4096) * 64 + (y - 128) ≡ c / 64 = omega arith in
    let last : (c / 64) * 64 + (z - 128) ≡ c = omega arith in
    let k1 = k >>= (λ b. Ok (adds_byte x b)) in
    let k2 = k1 >>= (λ b. Ok (adds_byte y b)) in
    ap (λ l. run (places.Value q) d k at (l ++ rest)) e
    ∙ over (places.Value q) (places.Wide q 2048 (c / 4096) 2) d d at x k (λ b. Ok (adds_byte x b)) (y ∷ z ∷ rest)
    (wide_step q d x is (omega arith) ∙ ap (with_open d) (start_3 q x (omega arith) (omega arith) ∙ ap (λ n. wide q 2048 n 2) bits ∙ wide_goes q 2048 (c / 4096) 2 (begun_2 2048 c (c / 4096) h (omega arith) low (small 2048 (omega arith)) refl) (omega arith)))
    (λ b. act_high q at x b is (omega arith))
    ∙ over (places.Wide q 2048 (c / 4096) 2) (places.Wide q 2048 (c / 64) 1) d d (at + 1) y k1 (λ b. Ok (adds_byte y b)) (z ∷ rest)
    (ap (with_open d) (next_is q 2048 (c / 4096) 2 y (c / 64) (omega arith) (omega arith) (omega arith) mid ∙ wide_goes q 2048 (c / 64) 1 (begun_1 2048 c (c / 64) h (omega arith) low (small 2048 (omega arith)) refl) (omega arith)))
    (λ b. refl)
    ∙ over (places.Wide q 2048 (c / 64) 1) (places.Value q) d d ((at + 1) + 1) z k2 (λ b. Ok (adds_byte z b)) rest
    (ap (with_open d) (next_is q 2048 (c / 64) 1 z c (omega arith) (omega arith) (omega arith) last ∙ wide_ends q 2048 c (begun_0 2048 c h low)))
    (λ b. refl)
    ∙ ap (λ w. run (places.Value q) d w (((at + 1) + 1) + 1) rest) (ap (λ w. w >>= (λ b. Ok (adds_byte z b))) (joins k (x ∷ []) (y ∷ [])) ∙ joined k (x ∷ y ∷ []) (z ∷ []) c (omega arith) e)
    ∙ ap (λ j. run (places.Value q) d (k >>= (λ b. Ok (plain_effect c b))) j rest) (omega (arith, ap length e))

over_4 : (q d at c : ℕ) (rest : List ℕ) (k : Result Build Fault) → is_quote q ≡ true → is_allowed_char c ≡ true → 65536 ≤ c → c ≤ 1114111
    → run (places.Value q) d k at (encode_utf8 c ++ rest) ≡ run (places.Value q) d (k >>= (λ b. Ok (plain_effect c b))) (at + length (encode_utf8 c)) rest
over_4 q d at c rest k is h low high =
    let e = encode_4 c low in
    let x = 240 + c / 262144 in
    let y = 128 + c / 4096 % 64 in
    let z = 128 + c / 64 % 64 in
    let w = 128 + c % 64 in
    let bits : x - 240 ≡ c / 262144 = omega arith in
    let one : (c / 262144) * 64 + (y - 128) ≡ c / 4096 = omega arith in
    let two : (c / 4096) * 64 + (z - 128) ≡ c / 64 = omega arith in
    let last : (c / 64) * 64 + (w - 128) ≡ c = omega arith in
    let k1 = k >>= (λ b. Ok (adds_byte x b)) in
    let k2 = k1 >>= (λ b. Ok (adds_byte y b)) in
    let k3 = k2 >>= (λ b. Ok (adds_byte z b)) in
    ap (λ l. run (places.Value q) d k at (l ++ rest)) e
    ∙ over (places.Value q) (places.Wide q 65536 (c / 262144) 3) d d at x k (λ b. Ok (adds_byte x b)) (y ∷ z ∷ w ∷ rest)
    (wide_step q d x is (omega arith) ∙ ap (with_open d) (start_4 q x (omega arith) ∙ ap (λ n. wide q 65536 n 3) bits ∙ wide_goes q 65536 (c / 262144) 3 (begun_3 c (c / 262144) h low refl) (omega arith)))
    (λ b. act_high q at x b is (omega arith))
    ∙ over (places.Wide q 65536 (c / 262144) 3) (places.Wide q 65536 (c / 4096) 2) d d (at + 1) y k1 (λ b. Ok (adds_byte y b)) (z ∷ w ∷ rest)
    (ap (with_open d) (next_is q 65536 (c / 262144) 3 y (c / 4096) (omega arith) (omega arith) (omega arith) one ∙ wide_goes q 65536 (c / 4096) 2 (begun_2 65536 c (c / 4096) h (omega arith) low (exact 65536 refl) refl) (omega arith)))
    (λ b. refl)
    ∙ over (places.Wide q 65536 (c / 4096) 2) (places.Wide q 65536 (c / 64) 1) d d ((at + 1) + 1) z k2 (λ b. Ok (adds_byte z b)) (w ∷ rest)
    (ap (with_open d) (next_is q 65536 (c / 4096) 2 z (c / 64) (omega arith) (omega arith) (omega arith) two ∙ wide_goes q 65536 (c / 64) 1 (begun_1 65536 c (c / 64) h (omega arith) low (exact 65536 refl) refl) (omega arith)))
    (λ b. refl)
    ∙ over (places.Wide q 65536 (c / 64) 1) (places.Value q) d d (((at + 1) + 1) + 1) w k3 (λ b. Ok (adds_byte w b)) rest
    (ap (with_open d) (next_is q 65536 (c / 64) 1 w c (omega arith) (omega arith) (omega arith) last ∙ wide_ends q 65536 c (begun_0 65536 c h low)))
    (λ b. refl)
    ∙ ap (λ v. run (places.Value q) d v ((((at + 1) + 1) + 1) + 1) rest)
    (ap (λ v. (v >>= (λ b. Ok (adds_byte z b))) >>= (λ b. Ok (adds_byte w b))) (joins k (x ∷ []) (y ∷ []))
    ∙ ap (λ v. v >>= (λ b. Ok (adds_byte w b))) (joins k (x ∷ y ∷ []) (z ∷ []))
    ∙ joined k (x ∷ y ∷ z ∷ []) (w ∷ []) c (omega arith) e)
    ∙ ap (λ j. run (places.Value q) d (k >>= (λ b. Ok (plain_effect c b))) j rest) (omega (arith, ap length e))

pub over_char : (q d at c : ℕ) (rest : List ℕ) (k : Result Build Fault) → is_quote q ≡ true → is_piece q (plain c) ≡ true
    → run (places.Value q) d k at (encode_utf8 c ++ rest) ≡ run (places.Value q) d (k >>= (λ b. Ok (plain_effect c b))) (at + length (encode_utf8 c)) rest
over_char q d at c rest k is h =
    let p = plain_char q c h in
    elim (cases_lt c 128) [
      | inl small ↦ over_ascii q d at c rest k small p
      | inr low ↦ elim (cases_lt c 2048) [
        | inl a ↦ over_2 q d at c rest k is p.allowed low a
        | inr a ↦ elim (cases_lt c 65536) [
          | inl b ↦ over_3 q d at c rest k is p.allowed a b
          | inr b ↦ elim (high_ranges c p.allowed low) [
            | inl r ↦ absurd (omega arith)
            | inr (inl r) ↦ absurd (omega (arith, r.0, r.1))
            | inr (inr r) ↦ over_4 q d at c rest k is p.allowed b r.1
          ]
        ]
      ]
    ]
