-- What the reading machine accepts has the plain form.
use Rattle.std.proofs.Common.{◌≡◌, ◌⊎◌, inl, inr, ℕ, zero, suc, ◌+◌, ◌-◌, ◌<◌, ◌≤◌, Bool, true, false, cond, List, [], ◌∷◌, ◌++◌, Option, Some, None, length, refl, ap, sym, ◌∙◌, append_assoc, append-nil, arith, subst, length-append}
use Rattle.std.specs.Prelude.{◌==◌, nat_lt}
use Rattle.std.specs.List.{list_all, flat_map}
use Rattle.std.specs.Char.{encode_utf8}
use Rattle.std.proofs.lemmas.Str.{encode_ascii}
use Rattle.std.proofs.lemmas.Bool.{cases_lt, cases_Bool, eqb-true, ne_eqb, lt-ltb, le-ltb, and_from}
use Rattle.hermes_element.proofs.Rising.{escape_some}
use Rattle.hermes_element.proofs.Tags.{blank_not_start}
use Rattle.hermes_element.proofs.Escapes.{letter_59, digit_59, hex_59}
use Rattle.line_base.specs.Text.{is_allowed_char}
use Rattle.line_base.specs.Name.{is_name_start, is_name_byte}
use Rattle.hermes_element.specs.Plain as form
use Rattle.hermes_element.specs.Plain.{is_blank, is_quote, is_letter, is_digit, is_hex_digit, AreBlanks, Escape, named, decimal, hexadecimal, escape_text, is_escape, Piece, plain, escaped, piece_text, is_piece, value_text, Assignment, assignment_text, IsAssignment, AreAssignments, Tag, tag_text, IsTag, EndTag, end_text, IsEndTag, Content, last, empty, full, content_text, IsContent}
use Rattle.hermes_element.specs.Machine.{Stand, step, is_end, to_if, step_tag, step_equals, step_end, with_open, wide_start, wide_next, after_element, stop_of, stop_if}
use Rattle.hermes_element.specs.Steps.{AtPlace, IsOne}
use Rattle.hermes_element.specs.declared.place.Place.{Place}
use Rattle.hermes_element.specs.declared.place.Place.TheVariants as places
use Rattle.hermes_element.proofs.Running.{yes, no}
use Rattle.hermes_element.proofs.Wide.{start_part, next_part}
use Rattle.hermes_element.proofs.Parts.{tag_rest, tag_split}

abbrev pub accept_if : Option Stand → (Place → ℕ → Bool) → Bool
accept_if None go = false
accept_if (Some to) go = go to.0 to.1

-- the bytes lead to the end of a document
abbrev pub accepts : Place → ℕ → List ℕ → Bool
accepts from depth [] = is_end from
accepts from depth (b ∷ bs) = accept_if (step from depth b) (λ to count. accepts to count bs)

pub accepts_stop : (from : Place) (depth place : ℕ) (bytes : List ℕ) → stop_of from depth place bytes ≡ None → accepts from depth bytes ≡ true
accepts_stop from depth place [] h = elim (cases_Bool (is_end from)) [
  | inl e ↦ e
  | inr e ↦ let s = sym (no (is_end from) None (Some place) e) ∙ h in absurd (cc s)
]
accepts_stop from depth place (b ∷ bs) h =
    elim (step from depth b) as (λ to. stop_if to place (λ next count. stop_of next count (place + 1) bs) ≡ None → accept_if to (λ next count. accepts next count bs) ≡ true)
    [ None ↦ λ e. absurd (cc e) | Some to ↦ λ e. accepts_stop to.0 to.1 (place + 1) bs e ] h

pub stop_accepts : (from : Place) (depth place : ℕ) (bytes : List ℕ) → accepts from depth bytes ≡ true → stop_of from depth place bytes ≡ None
stop_accepts from depth place [] h = yes (is_end from) None (Some place) h
stop_accepts from depth place (b ∷ bs) h =
    elim (step from depth b) as (λ to. accept_if to (λ next count. accepts next count bs) ≡ true → stop_if to place (λ next count. stop_of next count (place + 1) bs) ≡ None)
    [ None ↦ λ e. absurd (cc e) | Some to ↦ λ e. stop_accepts to.0 to.1 (place + 1) bs e ] h

-- ---- steps backwards

pub nothing : (from : Place) (depth : ℕ) → is_end from ≡ false → accepts from depth [] ≡ true → ⊥
nothing from depth e h = cc (e, h)

pub back : (from to : Place) (depth count b : ℕ) (bs : List ℕ) → step from depth b ≡ Some (to, count) → accepts from depth (b ∷ bs) ≡ true → accepts to count bs ≡ true
back from to depth count b bs s h = sym (ap (λ o. accept_if o (λ next n. accepts next n bs)) s) ∙ h

pub stuck : (from : Place) (depth b : ℕ) (bs : List ℕ) → step from depth b ≡ None → accepts from depth (b ∷ bs) ≡ true → ⊥
stuck from depth b bs s h = let e = sym (ap (λ o. accept_if o (λ next n. accepts next n bs)) s) ∙ h in cc e

pub only : (test : Bool) (from to : Place) (depth count b : ℕ) (bs : List ℕ) → step from depth b ≡ to_if test to count → accepts from depth (b ∷ bs) ≡ true → (test ≡ true) × (accepts to count bs ≡ true)
only true from to depth count b bs s h = (refl, back from to depth count b bs s h)
only false from to depth count b bs s h = absurd (stuck from depth b bs s h)

pub same_step : (from other : Place) (depth b : ℕ) (bs : List ℕ) → step from depth b ≡ step other depth b → accepts from depth (b ∷ bs) ≡ true → accepts other depth (b ∷ bs) ≡ true
same_step from other depth b bs s h = sym (ap (λ o. accept_if o (λ next n. accepts next n bs)) s) ∙ h

-- a run of bytes of one kind, up to a byte of another
pub record Split (from : Place) (depth : ℕ) (test : ℕ → Bool) (bytes : List ℕ) : Type 0 where
  pub front : List ℕ
  pub head : ℕ
  pub tail : List ℕ
  pub all : list_all test front ≡ true
  pub other : test head ≡ false
  pub text : front ++ (head ∷ tail) ≡ bytes
  pub goes : accepts from depth (head ∷ tail) ≡ true

pub split : (from : Place) (depth : ℕ) (test : ℕ → Bool) → ((b : ℕ) → test b ≡ true → step from depth b ≡ Some (from, depth)) → is_end from ≡ false → (bytes : List ℕ) → accepts from depth bytes ≡ true
    → Split from depth test bytes
split from depth test stays e [] h = absurd (nothing from depth e h)
split from depth test stays e (b ∷ bs) h = elim (cases_Bool (test b)) [
  | inl t ↦
      let s = split from depth test stays e bs (back from from depth depth b bs (stays b t) h) in
      record { front = b ∷ s.front; head = s.head; tail = s.tail; all = and_from (test b) (list_all test s.front) t s.all; other = s.other; text = ap (λ l. b ∷ l) s.text; goes = s.goes }
  | inr f ↦ record { front = []; head = b; tail = bs; all = refl; other = f; text = refl; goes = h }
]

-- ---- escapes

record EscapeEnd (q depth : ℕ) (test : ℕ → Bool) (bytes : List ℕ) : Type 0 where
  word : List ℕ
  rest : List ℕ
  all : list_all test word ≡ true
  text : word ++ (59 ∷ rest) ≡ bytes
  goes : accepts (places.Value q) depth rest ≡ true

module _ (inner : ℕ → Place) (test : ℕ → Bool)
    (stays : (q d x : ℕ) → test x ≡ true → step (inner q) d x ≡ Some (inner q, d))
    (leaves : (q d x : ℕ) → test x ≡ false → step (inner q) d x ≡ to_if (x == 59) (places.Value q) d)
    (living : (q : ℕ) → is_end (inner q) ≡ false) where
  escape_end : (q d : ℕ) (bytes : List ℕ) → accepts (inner q) d bytes ≡ true → EscapeEnd q d test bytes
  escape_end q d bytes h =
      let s = split (inner q) d test (stays q d) (living q) bytes h in
      let e = only (s.head == 59) (inner q) (places.Value q) d d s.head s.tail (leaves q d s.head s.other) s.goes in
      record { word = s.front; rest = s.tail; all = s.all; text = ap (λ x. s.front ++ (x ∷ s.tail)) (sym (eqb-true s.head 59 e.0)) ∙ s.text; goes = e.1 }

leaving : (t u : Bool) (p r : Place) (d : ℕ) → u ≡ false → with_open d (cond t (Some p) (cond u (Some r) None)) ≡ to_if t p d
leaving true u p r d e = refl
leaving false true p r d e = absurd (cc)
leaving false false p r d e = refl

letters_end : (q d : ℕ) (bytes : List ℕ) → accepts (places.Letters q) d bytes ≡ true → EscapeEnd q d is_letter bytes
letters_end q d bytes h = escape_end places.Letters is_letter (λ q d x p. rw (letter_59 x p, p)) (λ q d x p. leaving (x == 59) (is_letter x) (places.Value q) (places.Letters q) d p) (λ q. refl) q d bytes h

digits_end : (q d : ℕ) (bytes : List ℕ) → accepts (places.Digits q) d bytes ≡ true → EscapeEnd q d is_digit bytes
digits_end q d bytes h = escape_end places.Digits is_digit (λ q d x p. rw (digit_59 x p, p)) (λ q d x p. leaving (x == 59) (is_digit x) (places.Value q) (places.Digits q) d p) (λ q. refl) q d bytes h

hex_end : (q d : ℕ) (bytes : List ℕ) → accepts (places.HexDigits q) d bytes ≡ true → EscapeEnd q d is_hex_digit bytes
hex_end q d bytes h = escape_end places.HexDigits is_hex_digit (λ q d x p. rw (hex_59 x p, p)) (λ q d x p. leaving (x == 59) (is_hex_digit x) (places.Value q) (places.HexDigits q) d p) (λ q. refl) q d bytes h

record OneEscape (q depth : ℕ) (bytes : List ℕ) : Type 0 where
  escape : Escape
  rest : List ℕ
  is : is_escape escape ≡ true
  text : escape_text escape ++ rest ≡ 38 ∷ bytes
  goes : accepts (places.Value q) depth rest ≡ true

some_run : (test : ℕ → Bool) (x : ℕ) (xs : List ℕ) → test x ≡ true → list_all test xs ≡ true → form.is_some_run test (x ∷ xs) ≡ true
some_run test x xs t h = and_from (nat_lt 0 (length (x ∷ xs))) (list_all test (x ∷ xs)) (lt-ltb 0 (length (x ∷ xs)) (omega arith)) (and_from (test x) (list_all test xs) t h)

with_only : (d : ℕ) (t : Bool) (p : Place) → with_open d (cond t (Some p) None) ≡ to_if t p d
with_only d true p = refl
with_only d false p = refl

hex_escape : (q d : ℕ) (bytes : List ℕ) → accepts (places.HexStart q) d bytes ≡ true → OneEscape q d (35 ∷ 120 ∷ bytes)
hex_escape q d [] h = absurd (nothing (places.HexStart q) d refl h)
hex_escape q d (x ∷ tail) h =
    let o = only (is_hex_digit x) (places.HexStart q) (places.HexDigits q) d d x tail (with_only d (is_hex_digit x) (places.HexDigits q)) h in
    let e = hex_end q d tail o.1 in
    record {
      escape = hexadecimal (x ∷ e.word);
      rest = e.rest;
      is = some_run is_hex_digit x e.word o.0 e.all;
      text = ap (λ l. 38 ∷ 35 ∷ 120 ∷ x ∷ l) (append_assoc e.word (59 ∷ []) e.rest ∙ e.text);
      goes = e.goes;
    }

decimal_escape : (q d x : ℕ) (tail : List ℕ) → is_digit x ≡ true → accepts (places.Digits q) d tail ≡ true → OneEscape q d (35 ∷ x ∷ tail)
decimal_escape q d x tail t h =
    let e = digits_end q d tail h in
    record {
      escape = decimal (x ∷ e.word);
      rest = e.rest;
      is = some_run is_digit x e.word t e.all;
      text = ap (λ l. 38 ∷ 35 ∷ x ∷ l) (append_assoc e.word (59 ∷ []) e.rest ∙ e.text);
      goes = e.goes;
    }

number_escape : (q d : ℕ) (bytes : List ℕ) → accepts (places.Hash q) d bytes ≡ true → OneEscape q d (35 ∷ bytes)
number_escape q d [] h = absurd (nothing (places.Hash q) d refl h)
number_escape q d (x ∷ tail) h = elim (cases_Bool (x == 120)) [
  | inl t ↦
      let is = eqb-true x 120 t in
      subst (λ y. OneEscape q d (35 ∷ y ∷ tail)) (sym is) (hex_escape q d tail (back (places.Hash q) (places.HexStart q) d d x tail (rw t) h))
  | inr f ↦
      let o = only (is_digit x) (places.Hash q) (places.Digits q) d d x tail (ap (with_open d) (no (x == 120) (Some (places.HexStart q)) (cond (is_digit x) (Some (places.Digits q)) None) f) ∙ with_only d (is_digit x) (places.Digits q)) h in
      decimal_escape q d x tail o.0 o.1
]

one_escape : (q d : ℕ) (bytes : List ℕ) → accepts (places.Ampersand q) d bytes ≡ true → OneEscape q d bytes
one_escape q d [] h = absurd (nothing (places.Ampersand q) d refl h)
one_escape q d (x ∷ tail) h = elim (cases_Bool (x == 35)) [
  | inl t ↦
      let is = eqb-true x 35 t in
      subst (λ y. OneEscape q d (y ∷ tail)) (sym is) (number_escape q d tail (back (places.Ampersand q) (places.Hash q) d d x tail (rw t) h))
  | inr f ↦
      let o = only (is_letter x) (places.Ampersand q) (places.Letters q) d d x tail (ap (with_open d) (no (x == 35) (Some (places.Hash q)) (cond (is_letter x) (Some (places.Letters q)) None) f) ∙ with_only d (is_letter x) (places.Letters q)) h in
      let e = letters_end q d tail o.1 in
      record {
        escape = named (x ∷ e.word);
        rest = e.rest;
        is = some_run is_letter x e.word o.0 e.all;
        text = ap (λ l. 38 ∷ x ∷ l) (append_assoc e.word (59 ∷ []) e.rest ∙ e.text);
        goes = e.goes;
      }
]

-- ---- characters of several bytes

record OneWide (q depth : ℕ) (so_far bytes : List ℕ) : Type 0 where
  front : List ℕ
  rest : List ℕ
  one : IsOne (so_far ++ front)
  text : front ++ rest ≡ bytes
  goes : accepts (places.Value q) depth rest ≡ true

next_byte : (q d floor bits left b : ℕ) (bs : List ℕ) → accepts (places.Wide q floor bits left) d (b ∷ bs) ≡ true → (to : Place) × (wide_next q floor bits left b ≡ Some to) × (accepts to d bs ≡ true)
next_byte q d floor bits left b bs h =
    elim (wide_next q floor bits left b) as (λ o. accept_if (with_open d o) (λ next n. accepts next n bs) ≡ true → (to : Place) × (o ≡ Some to) × (accepts to d bs ≡ true))
    [ None ↦ λ e. absurd (cc e) | Some to ↦ λ e. (to, refl, e) ] h

wide_value : (bytes : List ℕ) (q d own : ℕ) (so_far : List ℕ) → own ≡ q → IsOne so_far → accepts (places.Value own) d bytes ≡ true → OneWide q d so_far bytes
wide_value bytes q d own so_far e one h = record { front = []; rest = bytes; one = subst IsOne (sym (append-nil so_far)) one; text = refl; goes = subst (λ k. accepts (places.Value k) d bytes ≡ true) e h }

one_wide : (bytes : List ℕ) (q d : ℕ) (place : Place) (so_far : List ℕ) → AtPlace place q so_far → accepts place d bytes ≡ true → OneWide q d so_far bytes
one_wide bytes q d (places.Value own) so_far at h = wide_value bytes q d own so_far at.0 at.1 h
one_wide [] q d (places.Wide own floor bits left) so_far at h = absurd (nothing (places.Wide own floor bits left) d refl h)
one_wide (b ∷ bs) q d (places.Wide own floor bits left) so_far at h =
    let n = next_byte own d floor bits left b bs h in
    let part = next_part q floor bits left b so_far n.0 at.2 at.3 at.1 (subst (λ k. wide_next k floor bits left b ≡ Some n.0) at.0 n.1) in
    let r = one_wide bs q d n.0 (so_far ++ b ∷ []) part n.2 in
    record { front = b ∷ r.front; rest = r.rest; one = subst IsOne (append_assoc so_far (b ∷ []) r.front) r.one; text = ap (λ l. b ∷ l) r.text; goes = r.goes }
one_wide bytes q d _ so_far at h = absurd at

-- ---- values

record ValueEnd (q depth : ℕ) (bytes : List ℕ) : Type 0 where
  pieces : List Piece
  rest : List ℕ
  are : list_all (is_piece q) pieces ≡ true
  text : value_text pieces ++ (q ∷ rest) ≡ bytes
  goes : accepts places.Quoted depth rest ≡ true

-- one more piece in front
before : (q d : ℕ) (p : Piece) (rest bytes : List ℕ) → is_piece q p ≡ true → piece_text p ++ rest ≡ bytes → ValueEnd q d rest → ValueEnd q d bytes
before q d p rest bytes is e v = record {
  pieces = p ∷ v.pieces;
  rest = v.rest;
  are = and_from (is_piece q p) (list_all (is_piece q) v.pieces) is v.are;
  text = append_assoc (piece_text p) (value_text v.pieces) (q ∷ v.rest) ∙ ap (λ l. piece_text p ++ l) v.text ∙ e;
  goes = v.goes;
}

shorter : (front rest bytes : List ℕ) → front ++ rest ≡ bytes → length rest ≤ length bytes
shorter front rest bytes e = omega (arith, length-append front rest, ap length e)

is_plain_piece : (q c : ℕ) → is_allowed_char c ≡ true → (c == 60) ≡ false → (c == 38) ≡ false → (c == q) ≡ false → is_piece q (plain c) ≡ true
is_plain_piece q c a b d e = rw (a, b, d, e)

encode_first : (c : ℕ) (bytes : List ℕ) (x : ℕ) → encode_utf8 c ≡ x ∷ bytes → 128 ≤ x → 128 ≤ c
encode_first c bytes x e h = elim (cases_lt c 128) [
  | inr low ↦ low
  | inl small ↦ let s = sym (encode_ascii c small) ∙ e in let same : c ≡ x = cc s in absurd (omega arith)
]

escape_shorter : (e : Escape) (rest bytes : List ℕ) (n : ℕ) → escape_text e ++ rest ≡ bytes → length bytes ≤ suc n → length rest ≤ n
escape_shorter e rest bytes n text enough = omega (arith, length-append (escape_text e) rest, ap length text, escape_some e)

quote_small : (q c : ℕ) → is_quote q ≡ true → 128 ≤ c → c ≡ q → ⊥
quote_small q c is big e = elim (cases_Bool (q == 34)) [
  | inl a ↦ let f = eqb-true q 34 a in omega arith
  | inr a ↦ elim (cases_Bool (q == 39)) [
    | inl b ↦ let f = eqb-true q 39 b in omega arith
    | inr b ↦ let n : is_quote q ≡ false = rw (a, b) in cc (n, is)
  ]
]

same_open : (d x q : ℕ) → (x == q) ≡ false → (x == 38) ≡ false → (x == 60) ≡ false → nat_lt x 128 ≡ false → step (places.Value q) d x ≡ with_open d (wide_start q x)
same_open d x q own amp tag high = rw (own, amp, tag, high)

first_byte : (q d x : ℕ) (tail : List ℕ) → step (places.Value q) d x ≡ with_open d (wide_start q x) → accepts (places.Value q) d (x ∷ tail) ≡ true → (to : Place) × (wide_start q x ≡ Some to) × (accepts to d tail ≡ true)
first_byte q d x tail s h =
    elim (wide_start q x) as (λ o. accept_if (with_open d o) (λ next n. accepts next n tail) ≡ true → (to : Place) × (o ≡ Some to) × (accepts to d tail ≡ true))
    [ None ↦ λ e. absurd (cc e) | Some to ↦ λ e. (to, refl, e) ] (sym (ap (λ o. accept_if o (λ next n. accepts next n tail)) s) ∙ h)

value_end : (n q d : ℕ) (bytes : List ℕ) → length bytes ≤ n → is_quote q ≡ true → accepts (places.Value q) d bytes ≡ true → ValueEnd q d bytes
value_end n q d [] enough is h = absurd (nothing (places.Value q) d refl h)
value_end zero q d (x ∷ tail) enough is h = absurd (omega arith)
value_end (suc n) q d (x ∷ tail) enough is h =
    let fits : length tail ≤ n = omega arith in
    elim (cases_Bool (x == q)) [
      | inl own ↦
          let e = eqb-true x q own in
          record { pieces = []; rest = tail; are = refl; text = ap (λ y. y ∷ tail) (sym e); goes = back (places.Value q) places.Quoted d d x tail (rw own) h }
      | inr own ↦ elim (cases_Bool (x == 38)) [
        | inl amp ↦
            let e = eqb-true x 38 amp in
            let o = one_escape q d tail (back (places.Value q) (places.Ampersand q) d d x tail (rw (own, amp)) h) in
            let all : escape_text o.escape ++ o.rest ≡ x ∷ tail = o.text ∙ ap (λ y. y ∷ tail) (sym e) in
            before q d (escaped o.escape) o.rest (x ∷ tail) o.is all (value_end n q d o.rest (escape_shorter o.escape o.rest (x ∷ tail) n all enough) is o.goes)
        | inr amp ↦ elim (cases_Bool (x == 60)) [
          | inl tag ↦ absurd (stuck (places.Value q) d x tail (rw (own, amp, tag)) h)
          | inr tag ↦ elim (cases_lt x 128) [
            | inl small ↦
                let below = lt-ltb x 128 small in
                let o = only (is_allowed_char x) (places.Value q) (places.Value q) d d x tail (rw (own, amp, tag, below) (with_only d (is_allowed_char x) (places.Value q))) h in
                before q d (plain x) tail (x ∷ tail) (is_plain_piece q x o.0 tag amp own) (ap (λ l. l ++ tail) (encode_ascii x small)) (value_end n q d tail fits is o.1)
            | inr high ↦
                let wide = le-ltb x 128 high in
                let f = first_byte q d x tail (same_open d x q own amp tag wide) h in
                let r = one_wide tail q d f.0 (x ∷ []) (start_part q x f.0 high f.1) f.2 in
                let c = r.one.char in
                let big : 128 ≤ c = encode_first c r.front x r.one.text high in
                let piece = is_plain_piece q c r.one.allowed (ne_eqb c 60 (λ e. omega arith)) (ne_eqb c 38 (λ e. omega arith)) (ne_eqb c q (λ e. quote_small q c is big e)) in
                let all : encode_utf8 c ++ r.rest ≡ x ∷ tail = ap (λ l. l ++ r.rest) r.one.text ∙ ap (λ l. x ∷ l) r.text in
                before q d (plain c) r.rest (x ∷ tail) piece all (value_end n q d r.rest (omega (arith, fits, shorter r.front r.rest tail r.text)) is r.goes)
          ]
        ]
      ]
    ]

-- ---- attributes

pub stay_blank : (p : Place) (d : ℕ) (x : ℕ) (o : Option Stand) → is_blank x ≡ true → cond (is_blank x) (Some (p, d)) o ≡ Some (p, d)
stay_blank p d x o h = yes (is_blank x) (Some (p, d)) o h

record AttributeEnd (depth : ℕ) (gap : List ℕ) (bytes : List ℕ) : Type 0 where
  assignment : Assignment
  rest : List ℕ
  is : 0 < length gap → AreBlanks gap → IsAssignment assignment
  text : assignment_text assignment ++ rest ≡ gap ++ bytes
  goes : accepts places.Quoted depth rest ≡ true
  shorter : length rest < length bytes

attribute_split : (gap name before after value rest : List ℕ) (q : ℕ)
    → (((((((gap ++ name) ++ before) ++ (61 ∷ [])) ++ after) ++ (q ∷ [])) ++ value) ++ (q ∷ [])) ++ rest ≡ gap ++ (name ++ (before ++ (61 ∷ (after ++ (q ∷ (value ++ (q ∷ rest)))))))
attribute_split gap name before after value rest q = simp append_assoc

-- of the parts that it was split into
attribute_of : (d : ℕ) (gap : List ℕ) (x : ℕ) (tail : List ℕ) → is_name_start x ≡ true
    → (n : Split places.Key d is_name_byte tail) (b : Split places.Equals d is_blank (n.head ∷ n.tail)) → (b.head == 61) ≡ true
    → (a : Split places.Before d is_blank b.tail) → is_quote a.head ≡ true → ValueEnd a.head d a.tail → AttributeEnd d gap (x ∷ tail)
attribute_of d gap x tail start n b sign a quote v =
    let made : Assignment = record { gap = gap; name = x ∷ n.front; before = b.front; after = a.front; quote = a.head; value = v.pieces } in
    let signed : 61 ∷ (a.front ++ (a.head ∷ a.tail)) ≡ b.head ∷ b.tail = ap (λ y. y ∷ (a.front ++ (a.head ∷ a.tail))) (sym (eqb-true b.head 61 sign)) ∙ ap (λ l. b.head ∷ l) a.text in
    let whole : (x ∷ n.front) ++ (b.front ++ (61 ∷ (a.front ++ (a.head ∷ (value_text v.pieces ++ (a.head ∷ v.rest)))))) ≡ x ∷ tail =
    ap (λ l. (x ∷ n.front) ++ (b.front ++ (61 ∷ (a.front ++ (a.head ∷ l))))) v.text
    ∙ ap (λ l. (x ∷ n.front) ++ (b.front ++ l)) signed ∙ ap (λ l. (x ∷ n.front) ++ l) b.text ∙ ap (λ l. x ∷ l) n.text in
    record {
      assignment = made;
      rest = v.rest;
      is = λ some blanks. record { some = some; gap = blanks; name = and_from (is_name_start x) (list_all is_name_byte n.front) start n.all; before = b.all; after = a.all; quote = quote; value = v.are };
      text = attribute_split gap (x ∷ n.front) b.front a.front (value_text v.pieces) v.rest a.head ∙ ap (λ l. gap ++ l) whole;
      goes = v.goes;
      shorter = omega (
        arith,
        shorter n.front (n.head ∷ n.tail) tail n.text,
        shorter b.front (b.head ∷ b.tail) (n.head ∷ n.tail) b.text,
        shorter a.front (a.head ∷ a.tail) b.tail a.text,
        shorter (value_text v.pieces) (a.head ∷ v.rest) a.tail v.text,
      );
    }

attribute_end : (d : ℕ) (gap : List ℕ) (x : ℕ) (tail : List ℕ) → is_name_start x ≡ true → accepts places.Key d tail ≡ true → AttributeEnd d gap (x ∷ tail)
attribute_end d gap x tail start h =
    let n = split places.Key d is_name_byte (λ b p. yes (is_name_byte b) (Some (places.Key, d)) (step_equals d b) p) refl tail h in
    let equals_goes = same_step places.Key places.Equals d n.head n.tail (no (is_name_byte n.head) (Some (places.Key, d)) (step_equals d n.head) n.other) n.goes in
    let b = split places.Equals d is_blank (λ y p. stay_blank places.Equals d y (cond (y == 61) (Some (places.Before, d)) None) p) refl (n.head ∷ n.tail) equals_goes in
    let sign = only (b.head == 61) places.Equals places.Before d d b.head b.tail (no (is_blank b.head) (Some (places.Equals, d)) (to_if (b.head == 61) places.Before d) b.other) b.goes in
    let a = split places.Before d is_blank (λ y p. stay_blank places.Before d y (to_if (is_quote y) (places.Value y) d) p) refl b.tail sign.1 in
    let quote = only (is_quote a.head) places.Before (places.Value a.head) d d a.head a.tail (no (is_blank a.head) (Some (places.Before, d)) (to_if (is_quote a.head) (places.Value a.head) d) a.other) a.goes in
    attribute_of d gap x tail start n b sign.0 a quote.0 (value_end (length a.tail) a.head d a.tail (omega arith) quote.0 quote.1)

-- ---- start tags

pub data Ending : Type 0 where
  opens : Ending
  empties : Ending

abbrev pub ending_text : Ending → List ℕ
ending_text opens = 62 ∷ []
ending_text empties = 47 ∷ 62 ∷ []

abbrev pub ending_goes : Ending → ℕ → List ℕ → Type 0
ending_goes opens d rest = accepts places.Content (d + 1) rest ≡ true
ending_goes empties d rest = accepts (after_element d) d rest ≡ true

record TagEnd (depth : ℕ) (bytes : List ℕ) : Type 0 where
  assignments : List Assignment
  gap : List ℕ
  ending : Ending
  rest : List ℕ
  are : AreAssignments assignments
  blanks : AreBlanks gap
  text : flat_map assignment_text assignments ++ (gap ++ (ending_text ending ++ rest)) ≡ bytes
  goes : ending_goes ending depth rest

-- where neither a name nor a blank follows
bare_end : (d x : ℕ) (tail : List ℕ) (gap : List ℕ) → AreBlanks gap → is_blank x ≡ false → accepts places.Quoted d (x ∷ tail) ≡ true → TagEnd d (gap ++ (x ∷ tail))
bare_end d x [] gap blanks other h = elim (cases_Bool (x == 47)) [
  | inl slash ↦ absurd (nothing places.Slash d refl (back places.Quoted places.Slash d d x [] (rw (other, slash)) h))
  | inr slash ↦
      let o = only (x == 62) places.Quoted places.Content d (d + 1) x [] (rw (other, slash)) h in
      record { assignments = []; gap = gap; ending = opens; rest = []; are = tt; blanks = blanks; text = ap (λ y. gap ++ (y ∷ [])) (sym (eqb-true x 62 o.0)); goes = o.1 }
]
bare_end d x (y ∷ tail) gap blanks other h = elim (cases_Bool (x == 47)) [
  | inl slash ↦
      let s = back places.Quoted places.Slash d d x (y ∷ tail) (rw (other, slash)) h in
      let o = only (y == 62) places.Slash (after_element d) d d y tail refl s in
      record {
        assignments = [];
        gap = gap;
        ending = empties;
        rest = tail;
        are = tt;
        blanks = blanks;
        text = ap (λ a. gap ++ (a ∷ 62 ∷ tail)) (sym (eqb-true x 47 slash)) ∙ ap (λ b. gap ++ (x ∷ b ∷ tail)) (sym (eqb-true y 62 o.0));
        goes = o.1;
      }
  | inr slash ↦
      let o = only (x == 62) places.Quoted places.Content d (d + 1) x (y ∷ tail) (rw (other, slash)) h in
      record { assignments = []; gap = gap; ending = opens; rest = y ∷ tail; are = tt; blanks = blanks; text = ap (λ a. gap ++ (a ∷ y ∷ tail)) (sym (eqb-true x 62 o.0)); goes = o.1 }
]

add_attribute : (d : ℕ) (gap bytes : List ℕ) (a : AttributeEnd d gap bytes) → 0 < length gap → AreBlanks gap → TagEnd d a.rest → TagEnd d (gap ++ bytes)
add_attribute d gap bytes a some blanks t = record {
  assignments = a.assignment ∷ t.assignments;
  gap = t.gap;
  ending = t.ending;
  rest = t.rest;
  are = (a.is some blanks, t.are);
  blanks = t.blanks;
  text = append_assoc (assignment_text a.assignment) (flat_map assignment_text t.assignments) (t.gap ++ (ending_text t.ending ++ t.rest)) ∙ ap (λ l. assignment_text a.assignment ++ l) t.text ∙ a.text;
  goes = t.goes;
}

tag_end : (n d : ℕ) (bytes : List ℕ) → length bytes ≤ n → accepts places.Quoted d bytes ≡ true → TagEnd d bytes
tag_end n d [] enough h = absurd (nothing places.Quoted d refl h)
tag_end zero d (x ∷ tail) enough h = absurd (omega arith)
tag_end (suc n) d (x ∷ tail) enough h = elim (cases_Bool (is_blank x)) [
  | inr other ↦ bare_end d x tail [] refl other h
  | inl blank ↦
      let g = split places.Gap d is_blank (λ y p. no (is_name_start y) (Some (places.Key, d)) (step_tag d y) (blank_not_start y p) ∙ stay_blank places.Gap d y (cond (y == 47) (Some (places.Slash, d)) (cond (y == 62) (Some (places.Content, d + 1)) None)) p) refl tail
      (back places.Quoted places.Gap d d x tail (rw blank) h) in
      let gap = x ∷ g.front in
      let blanks = and_from (is_blank x) (list_all is_blank g.front) blank g.all in
      let whole : gap ++ (g.head ∷ g.tail) ≡ x ∷ tail = ap (λ l. x ∷ l) g.text in
      elim (cases_Bool (is_name_start g.head)) [
        | inl start ↦
            let a = attribute_end d gap g.head g.tail start (back places.Gap places.Key d d g.head g.tail (yes (is_name_start g.head) (Some (places.Key, d)) (step_tag d g.head) start) g.goes) in
            let less : length a.rest ≤ n = omega (arith, a.shorter, ap length g.text, length-append g.front (g.head ∷ g.tail)) in
            subst (TagEnd d) whole (add_attribute d gap (g.head ∷ g.tail) a (omega arith) blanks (tag_end n d a.rest less a.goes))
        | inr other ↦
            subst (TagEnd d) whole (bare_end d g.head g.tail gap blanks g.other
            (same_step places.Gap places.Quoted d g.head g.tail (no (is_name_start g.head) (Some (places.Key, d)) (step_tag d g.head) other) g.goes))
      ]
]

-- a whole start tag from its name on
pub record StartTag (depth x : ℕ) (bytes : List ℕ) : Type 0 where
  pub tag : Tag
  pub ending : Ending
  pub rest : List ℕ
  pub is : IsTag tag
  pub text : tag_rest tag ++ (ending_text ending ++ rest) ≡ x ∷ bytes
  pub goes : ending_goes ending depth rest

-- of its name and what follows that
start_of : (d x : ℕ) (tail : List ℕ) → is_name_start x ≡ true → (n : Split places.Name d is_name_byte tail) → TagEnd d (n.head ∷ n.tail) → StartTag d x tail
start_of d x tail start n t =
    let name = x ∷ n.front in
    record {
      tag = record { name = name; assignments = t.assignments; gap = t.gap };
      ending = t.ending;
      rest = t.rest;
      is = record { name = and_from (is_name_start x) (list_all is_name_byte n.front) start n.all; assignments = t.are; gap = t.blanks };
      text = tag_split name (flat_map assignment_text t.assignments) t.gap (ending_text t.ending ++ t.rest) ∙ ap (λ l. name ++ l) t.text ∙ ap (λ l. x ∷ l) n.text;
      goes = t.goes;
    }

pub start_tag : (d x : ℕ) (tail : List ℕ) → is_name_start x ≡ true → accepts places.Name d tail ≡ true → StartTag d x tail
start_tag d x tail start h =
    let n = split places.Name d is_name_byte (λ b p. yes (is_name_byte b) (Some (places.Name, d)) (step_tag d b) p) refl tail h in
    let goes_on = same_step places.Name places.Quoted d n.head n.tail (no (is_name_byte n.head) (Some (places.Name, d)) (step_tag d n.head) n.other) n.goes in
    start_of d x tail start n (tag_end (length (n.head ∷ n.tail)) d (n.head ∷ n.tail) (omega arith) goes_on)

-- ---- end tags

record EndTagEnd (depth : ℕ) (bytes : List ℕ) : Type 0 where
  tag : EndTag
  rest : List ℕ
  is : IsEndTag tag
  text : tag.name ++ (tag.gap ++ (62 ∷ rest)) ≡ bytes
  goes : accepts (after_element depth) depth rest ≡ true

-- of its name and the gap behind it
end_of : (d x : ℕ) (tail : List ℕ) → is_name_start x ≡ true → (n : Split places.EndName (d + 1) is_name_byte tail) (g : Split places.EndGap (d + 1) is_blank (n.head ∷ n.tail))
    → (g.head == 62) ≡ true → accepts (after_element d) d g.tail ≡ true → EndTagEnd d (x ∷ tail)
end_of d x tail start n g sign goes = record {
  tag = record { name = x ∷ n.front; gap = g.front };
  rest = g.tail;
  is = record { name = and_from (is_name_start x) (list_all is_name_byte n.front) start n.all; gap = g.all };
  text = ap (λ y. (x ∷ n.front) ++ (g.front ++ (y ∷ g.tail))) (sym (eqb-true g.head 62 sign)) ∙ ap (λ l. (x ∷ n.front) ++ l) g.text ∙ ap (λ l. x ∷ l) n.text;
  goes = goes;
}

end_tag : (d : ℕ) (bytes : List ℕ) → accepts places.Close (d + 1) bytes ≡ true → EndTagEnd d bytes
end_tag d [] h = absurd (nothing places.Close (d + 1) refl h)
end_tag d (x ∷ tail) h =
    let s = only (is_name_start x) places.Close places.EndName (d + 1) (d + 1) x tail refl h in
    let n = split places.EndName (d + 1) is_name_byte (λ b p. yes (is_name_byte b) (Some (places.EndName, d + 1)) (step_end (d + 1) b) p) refl tail s.1 in
    let goes_on = same_step places.EndName places.EndGap (d + 1) n.head n.tail (no (is_name_byte n.head) (Some (places.EndName, d + 1)) (step_end (d + 1) n.head) n.other) n.goes in
    let g = split places.EndGap (d + 1) is_blank (λ y p. stay_blank places.EndGap (d + 1) y (cond (y == 62) (Some (after_element ((d + 1) - 1), (d + 1) - 1)) None) p) refl (n.head ∷ n.tail) goes_on in
    let o = only (g.head == 62) places.EndGap (after_element ((d + 1) - 1)) (d + 1) ((d + 1) - 1) g.head g.tail (no (is_blank g.head) (Some (places.EndGap, d + 1)) (to_if (g.head == 62) (after_element ((d + 1) - 1)) ((d + 1) - 1)) g.other) g.goes in
    let e : (d + 1) - 1 ≡ d = omega arith in
    end_of d x tail s.0 n g o.0 (subst (λ k. accepts (after_element k) k g.tail ≡ true) e o.1)

-- ---- content

pub record ContentEnd (depth : ℕ) (bytes : List ℕ) : Type 0 where
  pub content : Content
  pub end : EndTag
  pub rest : List ℕ
  pub is : IsContent content
  pub closes : IsEndTag end
  pub text : content_text content ++ (end_text end ++ rest) ≡ bytes
  pub goes : accepts (after_element depth) depth rest ≡ true

pub end_split : (name gap rest : List ℕ) → ((((60 ∷ 47 ∷ []) ++ name) ++ gap) ++ (62 ∷ [])) ++ rest ≡ 60 ∷ 47 ∷ (name ++ (gap ++ (62 ∷ rest)))
end_split name gap rest = simp append_assoc

pub empty_split : (gap t r rest : List ℕ) → ((gap ++ (t ++ (47 ∷ 62 ∷ []))) ++ r) ++ rest ≡ gap ++ (t ++ (47 ∷ 62 ∷ (r ++ rest)))
empty_split gap t r rest = simp append_assoc

pub full_split : (gap t inside e r rest : List ℕ) → ((gap ++ (((t ++ (62 ∷ [])) ++ inside) ++ e)) ++ r) ++ rest ≡ gap ++ (t ++ (62 ∷ (inside ++ (e ++ (r ++ rest)))))
full_split gap t inside e r rest = simp append_assoc

pub inner : (d : ℕ) → after_element (d + 1) ≡ places.Content
inner d = no ((d + 1) == 0) places.End places.Content (ne_eqb (d + 1) 0 (λ e. omega arith))

-- the next element and what follows it, once what follows is known
empty_content : (d : ℕ) (gap bytes : List ℕ) (y : ℕ) (tail : List ℕ) (t : StartTag (d + 1) y tail) → t.ending ≡ empties → AreBlanks gap → gap ++ (60 ∷ y ∷ tail) ≡ bytes → ContentEnd d t.rest → ContentEnd d bytes
empty_content d gap bytes y tail t e blanks text c =
    let tail_text : tag_rest t.tag ++ (47 ∷ 62 ∷ t.rest) ≡ y ∷ tail = ap (λ k. tag_rest t.tag ++ (ending_text k ++ t.rest)) (sym e) ∙ t.text in
    record {
      content = empty gap t.tag c.content;
      end = c.end;
      rest = c.rest;
      is = (blanks, t.is, c.is);
      closes = c.closes;
      text = empty_split gap (tag_text t.tag) (content_text c.content) (end_text c.end ++ c.rest)
          ∙ ap (λ l. gap ++ (60 ∷ (tag_rest t.tag ++ (47 ∷ 62 ∷ l)))) c.text ∙ ap (λ l. gap ++ (60 ∷ l)) tail_text ∙ text;
      goes = c.goes;
    }

full_content : (d : ℕ) (gap bytes : List ℕ) (y : ℕ) (tail : List ℕ) (t : StartTag (d + 1) y tail) → t.ending ≡ opens → AreBlanks gap → gap ++ (60 ∷ y ∷ tail) ≡ bytes
    → (i : ContentEnd (d + 1) t.rest) → ContentEnd d i.rest → ContentEnd d bytes
full_content d gap bytes y tail t e blanks text i c =
    let tail_text : tag_rest t.tag ++ (62 ∷ t.rest) ≡ y ∷ tail = ap (λ k. tag_rest t.tag ++ (ending_text k ++ t.rest)) (sym e) ∙ t.text in
    record {
      content = full gap t.tag i.content i.end c.content;
      end = c.end;
      rest = c.rest;
      is = (blanks, t.is, i.is, i.closes, c.is);
      closes = c.closes;
      text = full_split gap (tag_text t.tag) (content_text i.content) (end_text i.end) (content_text c.content) (end_text c.end ++ c.rest)
          ∙ ap (λ l. gap ++ (60 ∷ (tag_rest t.tag ++ (62 ∷ (content_text i.content ++ (end_text i.end ++ l)))))) c.text
          ∙ ap (λ l. gap ++ (60 ∷ (tag_rest t.tag ++ (62 ∷ l)))) i.text ∙ ap (λ l. gap ++ (60 ∷ l)) tail_text ∙ text;
      goes = c.goes;
    }

last_content : (d : ℕ) (gap bytes tail : List ℕ) → AreBlanks gap → gap ++ (60 ∷ 47 ∷ tail) ≡ bytes → EndTagEnd d tail → ContentEnd d bytes
last_content d gap bytes tail blanks text e = record {
  content = last gap;
  end = e.tag;
  rest = e.rest;
  is = blanks;
  closes = e.is;
  text = ap (λ l. gap ++ l) (end_split e.tag.name e.tag.gap e.rest) ∙ ap (λ l. gap ++ (60 ∷ 47 ∷ l)) e.text ∙ text;
  goes = e.goes;
}

pub ending_is : (e : Ending) → (e ≡ opens) ⊎ (e ≡ empties)
ending_is opens = inl refl
ending_is empties = inr refl

-- behind a `<` inside an element
opened : (d : ℕ) (bytes : List ℕ) → accepts places.Open (d + 1) bytes ≡ true
    → (y : ℕ) × (tail : List ℕ) × (bytes ≡ y ∷ tail) × (((y ≡ 47) × (accepts places.Close (d + 1) tail ≡ true)) ⊎ ((is_name_start y ≡ true) × (accepts places.Name (d + 1) tail ≡ true)))
opened d [] h = absurd (nothing places.Open (d + 1) refl h)
opened d (y ∷ tail) h =
    let deep : nat_lt 0 (d + 1) ≡ true = lt-ltb 0 (d + 1) (omega arith) in (
      y,
      tail,
      refl,
      elim (cases_Bool (y == 47)) [
        | inl slash ↦ inl (eqb-true y 47 slash, back places.Open places.Close (d + 1) (d + 1) y tail (rw (slash, deep)) h)
        | inr other ↦ inr (only (is_name_start y) places.Open places.Name (d + 1) (d + 1) y tail (no (y == 47) (to_if (nat_lt 0 (d + 1)) places.Close (d + 1)) (to_if (is_name_start y) places.Name (d + 1)) other) h)
      ],
    )

-- the bytes from a gap on, once the byte behind its `<` is known
opened_text : (d : ℕ) (bytes : List ℕ) (g : Split places.Content (d + 1) is_blank bytes) (y : ℕ) (tail : List ℕ) → (g.head == 60) ≡ true → g.tail ≡ y ∷ tail → g.front ++ (60 ∷ y ∷ tail) ≡ bytes
opened_text d bytes g y tail sign e = ap (λ l. g.front ++ (60 ∷ l)) (sym e) ∙ ap (λ z. g.front ++ (z ∷ g.tail)) (sym (eqb-true g.head 60 sign)) ∙ g.text

closed_text : (gap bytes : List ℕ) (y : ℕ) (tail : List ℕ) → y ≡ 47 → gap ++ (60 ∷ y ∷ tail) ≡ bytes → gap ++ (60 ∷ 47 ∷ tail) ≡ bytes
closed_text gap bytes y tail e text = ap (λ z. gap ++ (60 ∷ z ∷ tail)) (sym e) ∙ text

rest_fits : (n d : ℕ) (gap bytes : List ℕ) (y : ℕ) (tail : List ℕ) (t : StartTag d y tail) → length bytes ≤ suc n → gap ++ (60 ∷ y ∷ tail) ≡ bytes → length t.rest ≤ n
rest_fits n d gap bytes y tail t enough text =
    omega (arith, ap length text, length-append gap (60 ∷ y ∷ tail), ap length t.text, length-append (tag_rest t.tag) (ending_text t.ending ++ t.rest), length-append (ending_text t.ending) t.rest)

behind_fits : (n d : ℕ) (bytes : List ℕ) (c : ContentEnd d bytes) → length bytes ≤ n → length c.rest ≤ n
behind_fits n d bytes c fits = omega (arith, fits, ap length c.text, length-append (content_text c.content) (end_text c.end ++ c.rest), length-append (end_text c.end) c.rest)

-- the rest of an element whose start tag is read
element_behind : (n d : ℕ) (gap bytes : List ℕ) (y : ℕ) (tail : List ℕ) (t : StartTag (d + 1) y tail)
    → ((k : ℕ) (rest : List ℕ) → length rest ≤ n → accepts places.Content (k + 1) rest ≡ true → ContentEnd k rest)
    → AreBlanks gap → length t.rest ≤ n → gap ++ (60 ∷ y ∷ tail) ≡ bytes → ContentEnd d bytes
element_behind n d gap bytes y tail t read blanks fits text = elim (ending_is t.ending) [
  | inr e ↦
      let goes : accepts (after_element (d + 1)) (d + 1) t.rest ≡ true = subst (λ k. ending_goes k (d + 1) t.rest) e t.goes in
      let goes_on : accepts places.Content (d + 1) t.rest ≡ true = subst (λ p. accepts p (d + 1) t.rest ≡ true) (inner d) goes in
      empty_content d gap bytes y tail t e blanks text (read d t.rest fits goes_on)
  | inl e ↦
      let goes : accepts places.Content ((d + 1) + 1) t.rest ≡ true = subst (λ k. ending_goes k (d + 1) t.rest) e t.goes in
      let i = read (d + 1) t.rest fits goes in
      let goes_on : accepts places.Content (d + 1) i.rest ≡ true = subst (λ p. accepts p (d + 1) i.rest ≡ true) (inner d) i.goes in
      full_content d gap bytes y tail t e blanks text i (read d i.rest (behind_fits n (d + 1) t.rest i fits) goes_on)
]

pub content_end : (n d : ℕ) (bytes : List ℕ) → length bytes ≤ n → accepts places.Content (d + 1) bytes ≡ true → ContentEnd d bytes
content_end n d [] enough h = absurd (nothing places.Content (d + 1) refl h)
content_end zero d (x ∷ xs) enough h = absurd (omega arith)
content_end (suc n) d (x ∷ xs) enough h =
    let bytes = x ∷ xs in
    let g = split places.Content (d + 1) is_blank (λ y p. stay_blank places.Content (d + 1) y (to_if (y == 60) places.Open (d + 1)) p) refl bytes h in
    let o = only (g.head == 60) places.Content places.Open (d + 1) (d + 1) g.head g.tail (no (is_blank g.head) (Some (places.Content, d + 1)) (to_if (g.head == 60) places.Open (d + 1)) g.other) g.goes in
    let m = opened d g.tail o.1 in
    let text = opened_text d bytes g m.0 m.1 o.0 m.2 in
    elim m.3 [
      | inl close ↦ last_content d g.front bytes m.1 g.all (closed_text g.front bytes m.0 m.1 close.0 text) (end_tag d m.1 close.1)
      | inr open_tag ↦
          let t = start_tag (d + 1) m.0 m.1 open_tag.0 open_tag.1 in
          element_behind n d g.front bytes m.0 m.1 t (λ k rest fits goes. content_end n k rest fits goes) g.all (rest_fits n (d + 1) g.front bytes m.0 m.1 t enough text) text
    ]
