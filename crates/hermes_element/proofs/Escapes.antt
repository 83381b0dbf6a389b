-- How the reading machine goes over an escape.
use Rattle.std.proofs.Common.{◌≡◌, ◌≢◌, inl, inr, ℕ, ◌+◌, ◌<◌, Bool, true, false, List, [], ◌∷◌, ◌++◌, Some, None, Ok, Err, length, get_or, refl, ap, sym, ◌∙◌, arith}
use Rattle.std.proofs.lemmas.Bool.{cases_lt}
use Rattle.std.proofs.lemmas.Bool.Decides.{nat_tests}
use Rattle.std.specs.Prelude.{slice_range, ◌==◌}
use Rattle.std.specs.Char.{encode_utf8}
use Rattle.hermes_element.specs.Plain.{is_letter, is_digit, is_hex_digit, Escape, named, decimal, hexadecimal}
use Rattle.hermes_element.specs.Checks.{character_of}
use Rattle.hermes_element.specs.Machine.{Build, step, act, is_end, with_word, refer}
use Rattle.hermes_element.specs.Steps.{run_at, IsSpan, valuing, IsGood, ReadsReference}
use Rattle.hermes_element.specs.declared.stop.Stop.TheVariants as stops
use Rattle.hermes_element.specs.declared.refusal.Why.TheVariants as why
use Rattle.hermes_element.specs.declared.place.Place.{Place}
use Rattle.hermes_element.specs.declared.place.Place.TheVariants as places
use Rattle.hermes_element.proofs.Running.{goes, goes_over, stops as stops_at, ends, faults_over, spans, range_first, IsSpan-rest}

-- in an escape
abbrev pub escaping : Build → List ℕ → ℕ → List ℕ → ℕ → List ℕ → Build
escaping c key start value mark word = record c { scratch = record { key = key; value = value; start = start; after_cr = false; word = word; mark = mark } }

-- each is below 256
abbrev pub IsBytes : List ℕ → Type 0
IsBytes bytes = (k : ℕ) → get_or bytes k 0 < 256

same_eqb : (b n : ℕ) → (b ≡ n → ⊥) → (b == n) ≡ false
same_eqb b n h = grind (arith, nat_tests)

module _ (lead inner : ℕ → Place) (test : ℕ → Bool) (form : List ℕ → Escape) (other : ℕ)
    (enters : (q d b : ℕ) → test b ≡ true → step (lead q) d b ≡ Some (inner q, d))
    (begins : (q k b : ℕ) (c : Build) → test b ≡ true → act (lead q) k b c ≡ Ok (with_word b c))
    (bars : (q d b : ℕ) → test b ≡ false → (b == other) ≡ false → step (lead q) d b ≡ None)
    (stays : (q d b : ℕ) → test b ≡ true → step (inner q) d b ≡ Some (inner q, d))
    (adds : (q k b : ℕ) (c : Build) → test b ≡ true → act (inner q) k b c ≡ Ok (with_word b c))
    (closes : (q d : ℕ) → step (inner q) d 59 ≡ Some (places.Value q, d))
    (refers : (q k : ℕ) (c : Build) → act (inner q) k 59 c ≡ refer c.scratch.mark (character_of (form c.scratch.word)) c)
    (bars_in : (q d b : ℕ) → test b ≡ false → (b == 59) ≡ false → step (inner q) d b ≡ None)
    (living : (q : ℕ) → (is_end (lead q) ≡ false) × (is_end (inner q) ≡ false))
    (quote depth start mark : ℕ) (key value : List ℕ) (c : Build) (bytes : List ℕ) (from to : ℕ) (span : IsSpan test bytes from to) where
  in_word : from < to → run_at (lead quote) depth (escaping c key start value mark []) from bytes ≡ run_at (inner quote) depth (escaping c key start value mark (slice_range bytes from to)) to bytes
  in_word some =
      let b = get_or bytes from 0 in
      let passes : test b ≡ true = span.each from (omega arith) some in
      let high = span.high in
      let grow : List ℕ → Build = λ word. escaping c key start value mark word in
      goes (lead quote) (inner quote) depth depth (grow []) (grow (b ∷ [])) from bytes (omega arith) (enters quote depth b passes) (begins quote from b (grow []) passes)
      ∙ spans (inner quote) depth test grow (λ x h. stays quote depth x h) (λ x k w h. adds quote k x (grow w) h) bytes (from + 1) to (b ∷ []) (IsSpan-rest test bytes from to some span)
      ∙ ap (λ w. run_at (inner quote) depth (grow w) to bytes) (sym (range_first bytes from to some high))

  pub breaks : (from < length bytes → get_or bytes from 0 ≡ other → ⊥) → (IsGood bytes from to → ⊥)
      → (run_at (lead quote) depth (escaping c key start value mark []) from bytes).stop ≡ Some to
  breaks alone bad = elim (cases_lt from to) [
    | inl some ↦ ap (λ o. o.stop) (in_word some) ∙ elim (cases_lt to (length bytes)) [
      | inl here ↦ stops_at (inner quote) depth (escaping c key start value mark (slice_range bytes from to)) to bytes here
          (bars_in quote depth (get_or bytes to 0) (span.over here) (same_eqb (get_or bytes to 0) 59 (λ e. bad (some, here, e))))
      | inr past ↦ ends (inner quote) depth (escaping c key start value mark (slice_range bytes from to)) to bytes past (living quote).1
    ]
    | inr none ↦
        let low = span.low in
        let e : from ≡ to = omega arith in
        elim (cases_lt from (length bytes)) [
          | inl here ↦ stops_at (lead quote) depth (escaping c key start value mark []) from bytes here
              (bars quote depth (get_or bytes from 0) (ap (λ k. test (get_or bytes k 0)) e ∙ span.over (omega arith)) (same_eqb (get_or bytes from 0) other (alone here))) ∙ ap Some e
          | inr past ↦ ends (lead quote) depth (escaping c key start value mark []) from bytes past (living quote).0 ∙ ap Some e
        ]
  ]

  pub gives : (char : ℕ) → IsGood bytes from to → character_of (form (slice_range bytes from to)) ≡ Some char
      → run_at (lead quote) depth (escaping c key start value mark []) from bytes
      ≡ run_at (places.Value quote) depth (valuing c key start (value ++ encode_utf8 char) false) (to + 1) bytes
  gives char good e =
      let word = slice_range bytes from to in
      let b = escaping c key start value mark word in
      in_word good.0
      ∙ goes_over (inner quote) (places.Value quote) depth depth b (valuing c key start (value ++ encode_utf8 char) false) to bytes 59 good.1 good.2 (closes quote depth)
      (refers quote to b ∙ ap (λ o. refer mark o b) e)

  pub fails : IsGood bytes from to → character_of (form (slice_range bytes from to)) ≡ None
      → (run_at (lead quote) depth (escaping c key start value mark []) from bytes).built ≡ Err (mark, why.Reference)
  fails good e =
      let word = slice_range bytes from to in
      let b = escaping c key start value mark word in
      ap (λ o. o.built) (in_word good.0)
      ∙ faults_over (inner quote) (places.Value quote) depth depth b (mark, why.Reference) to bytes 59 good.1 good.2 (closes quote depth)
      (refers quote to b ∙ ap (λ o. refer mark o b) e)

-- ---- from the `&`

amp_byte : (bytes : List ℕ) (at quote depth start : ℕ) (key value : List ℕ) (after_cr : Bool) (c : Build) → at < length bytes → get_or bytes at 0 ≡ 38 → 38 ≢ quote
    → run_at (places.Value quote) depth (valuing c key start value after_cr) at bytes ≡ run_at (places.Ampersand quote) depth (escaping c key start value at []) (at + 1) bytes
amp_byte bytes at quote depth start key value after_cr c here amp ne =
    let differs : (38 == quote) ≡ false = same_eqb 38 quote ne in
    goes_over (places.Value quote) (places.Ampersand quote) depth depth (valuing c key start value after_cr) (escaping c key start value at []) at bytes 38 here amp
    (rw differs) (rw differs)

hash_byte : (bytes : List ℕ) (at quote depth start mark : ℕ) (key value : List ℕ) (c : Build) → at < length bytes → get_or bytes at 0 ≡ 35
    → run_at (places.Ampersand quote) depth (escaping c key start value mark []) at bytes ≡ run_at (places.Hash quote) depth (escaping c key start value mark []) (at + 1) bytes
hash_byte bytes at quote depth start mark key value c here hash =
    goes_over (places.Ampersand quote) (places.Hash quote) depth depth (escaping c key start value mark []) (escaping c key start value mark []) at bytes 35 here hash refl refl

x_byte : (bytes : List ℕ) (at quote depth start mark : ℕ) (key value : List ℕ) (c : Build) → at < length bytes → get_or bytes at 0 ≡ 120
    → run_at (places.Hash quote) depth (escaping c key start value mark []) at bytes ≡ run_at (places.HexStart quote) depth (escaping c key start value mark []) (at + 1) bytes
x_byte bytes at quote depth start mark key value c here x =
    goes_over (places.Hash quote) (places.HexStart quote) depth depth (escaping c key start value mark []) (escaping c key start value mark []) at bytes 120 here x refl refl

-- ---- the three forms

pub letter_35 : (b : ℕ) → is_letter b ≡ true → (b == 35) ≡ false
letter_35 b h = grind (arith, nat_tests)

pub letter_59 : (b : ℕ) → is_letter b ≡ true → (b == 59) ≡ false
letter_59 b h = grind (arith, nat_tests)

pub digit_120 : (b : ℕ) → is_digit b ≡ true → (b == 120) ≡ false
digit_120 b h = grind (arith, nat_tests)

pub digit_59 : (b : ℕ) → is_digit b ≡ true → (b == 59) ≡ false
digit_59 b h = grind (arith, nat_tests)

pub hex_59 : (b : ℕ) → is_hex_digit b ≡ true → (b == 59) ≡ false
hex_59 b h = grind (arith, nat_tests)

letters_break : (quote depth start mark : ℕ) (key value : List ℕ) (c : Build) (bytes : List ℕ) (from to : ℕ) → IsSpan is_letter bytes from to → (from < length bytes → get_or bytes from 0 ≡ 35 → ⊥) → (IsGood bytes from to → ⊥)
    → (run_at (places.Ampersand quote) depth (escaping c key start value mark []) from bytes).stop ≡ Some to
letters_break quote depth start mark key value c bytes from to span =
    breaks places.Ampersand places.Letters is_letter named 35
    (λ q d b h. rw (letter_35 b h, h)) (λ q k b c h. rw (letter_35 b h)) (λ q d b h o. rw (o, h)) (λ q d b h. rw (letter_59 b h, h)) (λ q k b c h. rw (letter_59 b h)) (λ q d. refl) (λ q k c. refl) (λ q d b h o. rw (o, h)) (λ q. (refl, refl))
    quote depth start mark key value c bytes from to span

letters_give : (quote depth start mark : ℕ) (key value : List ℕ) (c : Build) (bytes : List ℕ) (from to : ℕ) → IsSpan is_letter bytes from to → (char : ℕ) → IsGood bytes from to → character_of (named (slice_range bytes from to)) ≡ Some char
    → run_at (places.Ampersand quote) depth (escaping c key start value mark []) from bytes ≡ run_at (places.Value quote) depth (valuing c key start (value ++ encode_utf8 char) false) (to + 1) bytes
letters_give quote depth start mark key value c bytes from to span =
    gives places.Ampersand places.Letters is_letter named 35
    (λ q d b h. rw (letter_35 b h, h)) (λ q k b c h. rw (letter_35 b h)) (λ q d b h o. rw (o, h)) (λ q d b h. rw (letter_59 b h, h)) (λ q k b c h. rw (letter_59 b h)) (λ q d. refl) (λ q k c. refl) (λ q d b h o. rw (o, h)) (λ q. (refl, refl))
    quote depth start mark key value c bytes from to span

letters_fail : (quote depth start mark : ℕ) (key value : List ℕ) (c : Build) (bytes : List ℕ) (from to : ℕ) → IsSpan is_letter bytes from to → IsGood bytes from to → character_of (named (slice_range bytes from to)) ≡ None
    → (run_at (places.Ampersand quote) depth (escaping c key start value mark []) from bytes).built ≡ Err (mark, why.Reference)
letters_fail quote depth start mark key value c bytes from to span =
    fails places.Ampersand places.Letters is_letter named 35
    (λ q d b h. rw (letter_35 b h, h)) (λ q k b c h. rw (letter_35 b h)) (λ q d b h o. rw (o, h)) (λ q d b h. rw (letter_59 b h, h)) (λ q k b c h. rw (letter_59 b h)) (λ q d. refl) (λ q k c. refl) (λ q d b h o. rw (o, h)) (λ q. (refl, refl))
    quote depth start mark key value c bytes from to span

digits_break : (quote depth start mark : ℕ) (key value : List ℕ) (c : Build) (bytes : List ℕ) (from to : ℕ) → IsSpan is_digit bytes from to → (from < length bytes → get_or bytes from 0 ≡ 120 → ⊥) → (IsGood bytes from to → ⊥)
    → (run_at (places.Hash quote) depth (escaping c key start value mark []) from bytes).stop ≡ Some to
digits_break quote depth start mark key value c bytes from to span =
    breaks places.Hash places.Digits is_digit decimal 120
    (λ q d b h. rw (digit_120 b h, h)) (λ q k b c h. rw (digit_120 b h)) (λ q d b h o. rw (o, h)) (λ q d b h. rw (digit_59 b h, h)) (λ q k b c h. rw (digit_59 b h)) (λ q d. refl) (λ q k c. refl) (λ q d b h o. rw (o, h)) (λ q. (refl, refl))
    quote depth start mark key value c bytes from to span

digits_give : (quote depth start mark : ℕ) (key value : List ℕ) (c : Build) (bytes : List ℕ) (from to : ℕ) → IsSpan is_digit bytes from to → (char : ℕ) → IsGood bytes from to → character_of (decimal (slice_range bytes from to)) ≡ Some char
    → run_at (places.Hash quote) depth (escaping c key start value mark []) from bytes ≡ run_at (places.Value quote) depth (valuing c key start (value ++ encode_utf8 char) false) (to + 1) bytes
digits_give quote depth start mark key value c bytes from to span =
    gives places.Hash places.Digits is_digit decimal 120
    (λ q d b h. rw (digit_120 b h, h)) (λ q k b c h. rw (digit_120 b h)) (λ q d b h o. rw (o, h)) (λ q d b h. rw (digit_59 b h, h)) (λ q k b c h. rw (digit_59 b h)) (λ q d. refl) (λ q k c. refl) (λ q d b h o. rw (o, h)) (λ q. (refl, refl))
    quote depth start mark key value c bytes from to span

digits_fail : (quote depth start mark : ℕ) (key value : List ℕ) (c : Build) (bytes : List ℕ) (from to : ℕ) → IsSpan is_digit bytes from to → IsGood bytes from to → character_of (decimal (slice_range bytes from to)) ≡ None
    → (run_at (places.Hash quote) depth (escaping c key start value mark []) from bytes).built ≡ Err (mark, why.Reference)
digits_fail quote depth start mark key value c bytes from to span =
    fails places.Hash places.Digits is_digit decimal 120
    (λ q d b h. rw (digit_120 b h, h)) (λ q k b c h. rw (digit_120 b h)) (λ q d b h o. rw (o, h)) (λ q d b h. rw (digit_59 b h, h)) (λ q k b c h. rw (digit_59 b h)) (λ q d. refl) (λ q k c. refl) (λ q d b h o. rw (o, h)) (λ q. (refl, refl))
    quote depth start mark key value c bytes from to span

hex_break : (quote depth start mark : ℕ) (key value : List ℕ) (c : Build) (bytes : List ℕ) (from to : ℕ) → IsSpan is_hex_digit bytes from to → (from < length bytes → get_or bytes from 0 ≡ 256 → ⊥) → (IsGood bytes from to → ⊥)
    → (run_at (places.HexStart quote) depth (escaping c key start value mark []) from bytes).stop ≡ Some to
hex_break quote depth start mark key value c bytes from to span =
    breaks places.HexStart places.HexDigits is_hex_digit hexadecimal 256
    (λ q d b h. rw h) (λ q k b c h. refl) (λ q d b h o. rw h) (λ q d b h. rw (hex_59 b h, h)) (λ q k b c h. rw (hex_59 b h)) (λ q d. refl) (λ q k c. refl) (λ q d b h o. rw (o, h)) (λ q. (refl, refl))
    quote depth start mark key value c bytes from to span

hex_give : (quote depth start mark : ℕ) (key value : List ℕ) (c : Build) (bytes : List ℕ) (from to : ℕ) → IsSpan is_hex_digit bytes from to → (char : ℕ) → IsGood bytes from to → character_of (hexadecimal (slice_range bytes from to)) ≡ Some char
    → run_at (places.HexStart quote) depth (escaping c key start value mark []) from bytes ≡ run_at (places.Value quote) depth (valuing c key start (value ++ encode_utf8 char) false) (to + 1) bytes
hex_give quote depth start mark key value c bytes from to span =
    gives places.HexStart places.HexDigits is_hex_digit hexadecimal 256
    (λ q d b h. rw h) (λ q k b c h. refl) (λ q d b h o. rw h) (λ q d b h. rw (hex_59 b h, h)) (λ q k b c h. rw (hex_59 b h)) (λ q d. refl) (λ q k c. refl) (λ q d b h o. rw (o, h)) (λ q. (refl, refl))
    quote depth start mark key value c bytes from to span

hex_fail : (quote depth start mark : ℕ) (key value : List ℕ) (c : Build) (bytes : List ℕ) (from to : ℕ) → IsSpan is_hex_digit bytes from to → IsGood bytes from to → character_of (hexadecimal (slice_range bytes from to)) ≡ None
    → (run_at (places.HexStart quote) depth (escaping c key start value mark []) from bytes).built ≡ Err (mark, why.Reference)
hex_fail quote depth start mark key value c bytes from to span =
    fails places.HexStart places.HexDigits is_hex_digit hexadecimal 256
    (λ q d b h. rw h) (λ q k b c h. refl) (λ q d b h o. rw h) (λ q d b h. rw (hex_59 b h, h)) (λ q k b c h. rw (hex_59 b h)) (λ q d. refl) (λ q k c. refl) (λ q d b h o. rw (o, h)) (λ q. (refl, refl))
    quote depth start mark key value c bytes from to span

-- ---- what the reader answers

pub reads_named : (bytes : List ℕ) (at to char : ℕ) → at < length bytes → get_or bytes at 0 ≡ 38 → IsSpan is_letter bytes (at + 1) to → IsGood bytes (at + 1) to
    → character_of (named (slice_range bytes (at + 1) to)) ≡ Some char → ReadsReference bytes at (Ok (char, to + 1))
reads_named bytes at to char here amp span good e = λ quote depth start key value after_cr c ne.
    amp_byte bytes at quote depth start key value after_cr c here amp ne ∙ letters_give quote depth start at key value c bytes (at + 1) to span char good e

pub faults_named : (bytes : List ℕ) (at to : ℕ) → at < length bytes → get_or bytes at 0 ≡ 38 → IsSpan is_letter bytes (at + 1) to → IsGood bytes (at + 1) to
    → character_of (named (slice_range bytes (at + 1) to)) ≡ None → ReadsReference bytes at (Err (stops.Reference at))
faults_named bytes at to here amp span good e = λ quote depth start key value after_cr c ne.
    ap (λ o. o.built) (amp_byte bytes at quote depth start key value after_cr c here amp ne) ∙ letters_fail quote depth start at key value c bytes (at + 1) to span good e

pub breaks_named : (bytes : List ℕ) (at to : ℕ) → at < length bytes → get_or bytes at 0 ≡ 38 → IsSpan is_letter bytes (at + 1) to
    → (at + 1 < length bytes → get_or bytes (at + 1) 0 ≡ 35 → ⊥) → (IsGood bytes (at + 1) to → ⊥) → ReadsReference bytes at (Err (stops.Shape to))
breaks_named bytes at to here amp span alone bad = λ quote depth start key value after_cr c ne.
    ap (λ o. o.stop) (amp_byte bytes at quote depth start key value after_cr c here amp ne) ∙ letters_break quote depth start at key value c bytes (at + 1) to span alone bad

hash : (bytes : List ℕ) (at quote depth start : ℕ) (key value : List ℕ) (after_cr : Bool) (c : Build) → at + 1 < length bytes → get_or bytes at 0 ≡ 38 → get_or bytes (at + 1) 0 ≡ 35 → 38 ≢ quote
    → run_at (places.Value quote) depth (valuing c key start value after_cr) at bytes ≡ run_at (places.Hash quote) depth (escaping c key start value at []) (at + 2) bytes
hash bytes at quote depth start key value after_cr c here amp sharp ne =
    let two : (at + 1) + 1 ≡ at + 2 = omega arith in
    amp_byte bytes at quote depth start key value after_cr c (omega arith) amp ne ∙ hash_byte bytes (at + 1) quote depth start at key value c here sharp
    ∙ ap (λ k. run_at (places.Hash quote) depth (escaping c key start value at []) k bytes) two

pub reads_decimal : (bytes : List ℕ) (at to char : ℕ) → at + 1 < length bytes → get_or bytes at 0 ≡ 38 → get_or bytes (at + 1) 0 ≡ 35 → IsSpan is_digit bytes (at + 2) to → IsGood bytes (at + 2) to
    → character_of (decimal (slice_range bytes (at + 2) to)) ≡ Some char → ReadsReference bytes at (Ok (char, to + 1))
reads_decimal bytes at to char here amp sharp span good e = λ quote depth start key value after_cr c ne.
    hash bytes at quote depth start key value after_cr c here amp sharp ne ∙ digits_give quote depth start at key value c bytes (at + 2) to span char good e

pub faults_decimal : (bytes : List ℕ) (at to : ℕ) → at + 1 < length bytes → get_or bytes at 0 ≡ 38 → get_or bytes (at + 1) 0 ≡ 35 → IsSpan is_digit bytes (at + 2) to → IsGood bytes (at + 2) to
    → character_of (decimal (slice_range bytes (at + 2) to)) ≡ None → ReadsReference bytes at (Err (stops.Reference at))
faults_decimal bytes at to here amp sharp span good e = λ quote depth start key value after_cr c ne.
    ap (λ o. o.built) (hash bytes at quote depth start key value after_cr c here amp sharp ne) ∙ digits_fail quote depth start at key value c bytes (at + 2) to span good e

pub breaks_decimal : (bytes : List ℕ) (at to : ℕ) → at + 1 < length bytes → get_or bytes at 0 ≡ 38 → get_or bytes (at + 1) 0 ≡ 35 → IsSpan is_digit bytes (at + 2) to
    → (at + 2 < length bytes → get_or bytes (at + 2) 0 ≡ 120 → ⊥) → (IsGood bytes (at + 2) to → ⊥) → ReadsReference bytes at (Err (stops.Shape to))
breaks_decimal bytes at to here amp sharp span alone bad = λ quote depth start key value after_cr c ne.
    ap (λ o. o.stop) (hash bytes at quote depth start key value after_cr c here amp sharp ne) ∙ digits_break quote depth start at key value c bytes (at + 2) to span alone bad

hash_x : (bytes : List ℕ) (at quote depth start : ℕ) (key value : List ℕ) (after_cr : Bool) (c : Build) → at + 2 < length bytes → get_or bytes at 0 ≡ 38 → get_or bytes (at + 1) 0 ≡ 35 → get_or bytes (at + 2) 0 ≡ 120
    → 38 ≢ quote → run_at (places.Value quote) depth (valuing c key start value after_cr) at bytes ≡ run_at (places.HexStart quote) depth (escaping c key start value at []) (at + 3) bytes
hash_x bytes at quote depth start key value after_cr c here amp sharp x ne =
    let three : (at + 2) + 1 ≡ at + 3 = omega arith in
    hash bytes at quote depth start key value after_cr c (omega arith) amp sharp ne ∙ x_byte bytes (at + 2) quote depth start at key value c here x
    ∙ ap (λ k. run_at (places.HexStart quote) depth (escaping c key start value at []) k bytes) three

pub reads_hex : (bytes : List ℕ) (at to char : ℕ) → at + 2 < length bytes → get_or bytes at 0 ≡ 38 → get_or bytes (at + 1) 0 ≡ 35 → get_or bytes (at + 2) 0 ≡ 120 → IsSpan is_hex_digit bytes (at + 3) to
    → IsGood bytes (at + 3) to → character_of (hexadecimal (slice_range bytes (at + 3) to)) ≡ Some char → ReadsReference bytes at (Ok (char, to + 1))
reads_hex bytes at to char here amp sharp x span good e = λ quote depth start key value after_cr c ne.
    hash_x bytes at quote depth start key value after_cr c here amp sharp x ne ∙ hex_give quote depth start at key value c bytes (at + 3) to span char good e

pub faults_hex : (bytes : List ℕ) (at to : ℕ) → at + 2 < length bytes → get_or bytes at 0 ≡ 38 → get_or bytes (at + 1) 0 ≡ 35 → get_or bytes (at + 2) 0 ≡ 120 → IsSpan is_hex_digit bytes (at + 3) to
    → IsGood bytes (at + 3) to → character_of (hexadecimal (slice_range bytes (at + 3) to)) ≡ None → ReadsReference bytes at (Err (stops.Reference at))
faults_hex bytes at to here amp sharp x span good e = λ quote depth start key value after_cr c ne.
    ap (λ o. o.built) (hash_x bytes at quote depth start key value after_cr c here amp sharp x ne) ∙ hex_fail quote depth start at key value c bytes (at + 3) to span good e

pub breaks_hex : (bytes : List ℕ) (at to : ℕ) → at + 2 < length bytes → get_or bytes at 0 ≡ 38 → get_or bytes (at + 1) 0 ≡ 35 → get_or bytes (at + 2) 0 ≡ 120 → IsSpan is_hex_digit bytes (at + 3) to
    → (IsGood bytes (at + 3) to → ⊥) → IsBytes bytes → ReadsReference bytes at (Err (stops.Shape to))
breaks_hex bytes at to here amp sharp x span bad fits = λ quote depth start key value after_cr c ne.
    ap (λ o. o.stop) (hash_x bytes at quote depth start key value after_cr c here amp sharp x ne)
    ∙ hex_break quote depth start at key value c bytes (at + 3) to span (λ _ e. let small = fits (at + 3) in absurd (omega arith)) bad
