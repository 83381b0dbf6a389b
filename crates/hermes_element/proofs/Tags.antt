-- How the reading machine goes over a start tag.
use Rattle.std.proofs.Common.{◌≡◌, inl, inr, ℕ, zero, suc, ◌+◌, ◌-◌, ◌<◌, ◌≤◌, true, false, List, [], ◌∷◌, Some, None, Result, Ok, Err, length, take, drop, get_or, refl, ap, sym, ◌∙◌, arith}
use Rattle.std.specs.Prelude.{◌==◌, slice_range}
use Rattle.std.specs.List.{list_any, list_all}
use Rattle.std.specs.Str.{bytes_eq}
use Rattle.std.proofs.lemmas.List.{drop_all}
use Rattle.std.proofs.lemmas.Bool.{cases_lt, cases_Bool, eqb-true, eq-eqb, ne_eqb, and_from}
use Rattle.std.proofs.lemmas.Bool.Decides.{nat_tests}
use Rattle.line_base.specs.Name.{is_name_start, is_name_byte, IsName, is_name}
use Rattle.hermes_element.specs.Plain.{is_blank, is_quote}
use Rattle.hermes_element.specs.Checks.{Fault}
use Rattle.hermes_element.specs.Element.{Forest, none, Tree}
use Rattle.hermes_element.specs.Machine.{Build, run, step, act, moved, ◌>>=◌, between, in_tag, no_scratch, no_tag, names_of}
use Rattle.hermes_element.specs.Steps.{run_at, IsSpan, valuing}
use Rattle.hermes_element.specs.declared.refusal.Why.TheVariants as why
use Rattle.hermes_element.specs.declared.place.Place.{Place}
use Rattle.hermes_element.specs.declared.place.Place.TheVariants as places
use Rattle.hermes_element.proofs.Running.{over, goes, goes_over, stops as stops_at, ends, faults, faults_over, spans, skips, range_first, IsSpan-rest}

-- where the machine stops doesn't hang on what was said
pub stop_same : (from : Place) (depth : ℕ) (c d : Result Build Fault) (place : ℕ) (bytes : List ℕ) → (run from depth c place bytes).stop ≡ (run from depth d place bytes).stop
stop_same from depth c d place [] = refl
stop_same from depth c d place (b ∷ bs) =
    elim (step from depth b) as (λ to.
    (moved to (record { stop = Some place; built = c }) (λ next count. run next count (c >>= act from place b) (place + 1) bs)).stop
    ≡ (moved to (record { stop = Some place; built = d }) (λ next count. run next count (d >>= act from place b) (place + 1) bs)).stop)
    [ None ↦ refl | Some to ↦ stop_same to.0 to.1 (c >>= act from place b) (d >>= act from place b) (place + 1) bs ]

-- ---- places that are left at bytes of another kind

pub name_over : (depth at : ℕ) (c : Build) (bytes : List ℕ) → (at < length bytes → is_name_byte (get_or bytes at 0) ≡ false) → run_at places.Name depth c at bytes ≡ run_at places.Quoted depth c at bytes
name_over depth at c bytes other = elim (cases_lt at (length bytes)) [
  | inl here ↦ let h = other here in rw (over bytes at here, h)
  | inr past ↦ rw (drop_all at bytes past)
]

pub gap_over : (depth at : ℕ) (c : Build) (bytes : List ℕ) → (at < length bytes → is_name_start (get_or bytes at 0) ≡ false) → run_at places.Gap depth c at bytes ≡ run_at places.Quoted depth c at bytes
gap_over depth at c bytes other = elim (cases_lt at (length bytes)) [
  | inl here ↦ let h = other here in rw (over bytes at here, h)
  | inr past ↦ rw (drop_all at bytes past)
]

pub key_over : (depth at : ℕ) (c : Build) (bytes : List ℕ) → (at < length bytes → is_name_byte (get_or bytes at 0) ≡ false) → list_any (bytes_eq c.scratch.key) (names_of c.tag.attributes) ≡ false
    → run_at places.Key depth c at bytes ≡ run_at places.Equals depth c at bytes
key_over depth at c bytes other fresh = elim (cases_lt at (length bytes)) [
  | inl here ↦ let h = other here in rw (over bytes at here, h, fresh)
  | inr past ↦ rw (drop_all at bytes past)
]

-- ---- blanks

pub blank_not_start : (b : ℕ) → is_blank b ≡ true → is_name_start b ≡ false
blank_not_start b h = grind (arith, nat_tests)

pub blank_not_byte : (b : ℕ) → is_blank b ≡ true → is_name_byte b ≡ false
blank_not_byte b h = grind (arith, nat_tests)

pub blank_not_62 : (b : ℕ) → is_blank b ≡ true → (b == 62) ≡ false
blank_not_62 b h = grind (arith, nat_tests)

pub equals_blanks : (depth at to : ℕ) (c : Build) (bytes : List ℕ) → IsSpan is_blank bytes at to → run_at places.Equals depth c at bytes ≡ run_at places.Equals depth c to bytes
equals_blanks depth at to c bytes span = skips places.Equals depth is_blank c (λ b h. rw h) (λ b k h. refl) bytes at to span

pub before_blanks : (depth at to : ℕ) (c : Build) (bytes : List ℕ) → IsSpan is_blank bytes at to → run_at places.Before depth c at bytes ≡ run_at places.Before depth c to bytes
before_blanks depth at to c bytes span = skips places.Before depth is_blank c (λ b h. rw h) (λ b k h. rw h) bytes at to span

gap_blanks : (depth at to : ℕ) (c : Build) (bytes : List ℕ) → IsSpan is_blank bytes at to → run_at places.Gap depth c at bytes ≡ run_at places.Gap depth c to bytes
gap_blanks depth at to c bytes span =
    skips places.Gap depth is_blank c (λ b h. rw (blank_not_start b h, h)) (λ b k h. rw (blank_not_start b h, blank_not_62 b h)) bytes at to span

pub quoted_blanks : (depth at to : ℕ) (c : Build) (bytes : List ℕ) → at < to → IsSpan is_blank bytes at to → run_at places.Quoted depth c at bytes ≡ run_at places.Gap depth c to bytes
quoted_blanks depth at to c bytes some span =
    let b = get_or bytes at 0 in
    let high = span.high in
    let h : is_blank b ≡ true = span.each at (omega arith) some in
    goes places.Quoted places.Gap depth depth c c at bytes (omega arith) (rw h) (rw (blank_not_62 b h))
    ∙ gap_blanks depth (at + 1) to c bytes (IsSpan-rest is_blank bytes at to some span)

-- ---- an attribute

start_is_byte : (b : ℕ) → is_name_start b ≡ true → is_name_byte b ≡ true
start_is_byte b h = grind (arith, nat_tests)

pub name_has_bytes : (bytes : List ℕ) (at to : ℕ) → at < length bytes → is_name_start (get_or bytes at 0) ≡ true → IsSpan is_name_byte bytes at to → at < to
name_has_bytes bytes at to here start span = elim (cases_lt at to) [
  | inl some ↦ some
  | inr bare ↦
      let low = span.low in
      let e : to ≡ at = omega arith in
      let b : is_name_byte (get_or bytes at 0) ≡ false = ap (λ k. is_name_byte (get_or bytes k 0)) (sym e) ∙ span.over (omega arith) in
      absurd (cc (b, start_is_byte (get_or bytes at 0) start))
]

abbrev pub keying : Forest → List Tree → Tree → List ℕ → Build
keying roots stack tag key = record { roots = roots; stack = stack; tag = tag; scratch = record no_scratch { key = key } }

pub key_many_at : (bytes : List ℕ) (at : ℕ) → at < length bytes → is_name_start (get_or bytes at 0) ≡ true → (depth : ℕ) (roots : Forest) (stack : List Tree) (tag : Tree) → length tag.attributes ≡ 64
    → (run_at places.Gap depth (in_tag roots stack tag) at bytes).built ≡ Err (at, why.Many)
key_many_at bytes at here start depth roots stack tag e =
    let many : (length tag.attributes == 64) ≡ true = eq-eqb (length tag.attributes) 64 e in
    faults places.Gap places.Key depth depth (in_tag roots stack tag) (at, why.Many) at bytes here (rw start) (rw (start, many))

module _ (bytes : List ℕ) (at to : ℕ) (here : at < length bytes) (start : is_name_start (get_or bytes at 0) ≡ true) (span : IsSpan is_name_byte bytes at to) (depth : ℕ) (roots : Forest) (stack : List Tree) (tag : Tree) where
  key_read : (length tag.attributes ≡ 64 → ⊥) → run_at places.Gap depth (in_tag roots stack tag) at bytes ≡ run_at places.Key depth (keying roots stack tag (slice_range bytes at to)) to bytes
  key_read few =
      let b = get_or bytes at 0 in
      let some = name_has_bytes bytes at to here start span in
      let high = span.high in
      let not_many : (length tag.attributes == 64) ≡ false = ne_eqb (length tag.attributes) 64 few in
      goes places.Gap places.Key depth depth (in_tag roots stack tag) (keying roots stack tag (b ∷ [])) at bytes here (rw start) (rw (start, not_many))
      ∙ spans places.Key depth is_name_byte (λ word. keying roots stack tag word) (λ x h. rw h) (λ x k word h. rw h) bytes (at + 1) to (b ∷ []) (IsSpan-rest is_name_byte bytes at to some span)
      ∙ ap (λ w. run_at places.Key depth (keying roots stack tag w) to bytes) (sym (range_first bytes at to some high))

  pub to_equals : (length tag.attributes ≡ 64 → ⊥) → list_any (bytes_eq (slice_range bytes at to)) (names_of tag.attributes) ≡ false → (equals : ℕ) → IsSpan is_blank bytes to equals
      → run_at places.Gap depth (in_tag roots stack tag) at bytes ≡ run_at places.Equals depth (keying roots stack tag (slice_range bytes at to)) equals bytes
  to_equals few new equals blanks =
      key_read few ∙ key_over depth to (keying roots stack tag (slice_range bytes at to)) bytes span.over new
      ∙ equals_blanks depth to equals (keying roots stack tag (slice_range bytes at to)) bytes blanks

  pub key_repeated : (length tag.attributes ≡ 64 → ⊥) → list_any (bytes_eq (slice_range bytes at to)) (names_of tag.attributes) ≡ true → (equals : ℕ) → IsSpan is_blank bytes to equals
      → equals < length bytes → get_or bytes equals 0 ≡ 61 → (run_at places.Gap depth (in_tag roots stack tag) at bytes).built ≡ Err (to, why.Repeated)
  key_repeated few old equals blanks there sign =
      let low = blanks.low in
      let inside : to < length bytes = omega arith in
      let other = span.over inside in
      let c = keying roots stack tag (slice_range bytes at to) in
      ap (λ o. o.built) (key_read few)
      ∙ elim (cases_lt to equals) [
        | inl gap ↦
            let h : is_blank (get_or bytes to 0) ≡ true = blanks.each to (omega arith) gap in
            faults places.Key places.Equals depth depth c (to, why.Repeated) to bytes inside (rw (other, h)) (rw (other, old))
        | inr bare ↦
            let e : equals ≡ to = omega arith in
            let is : get_or bytes to 0 ≡ 61 = ap (λ k. get_or bytes k 0) (sym e) ∙ sign in
            faults_over places.Key places.Before depth depth c (to, why.Repeated) to bytes 61 inside is refl (rw old)
      ]

  pub to_value : (length tag.attributes ≡ 64 → ⊥) → list_any (bytes_eq (slice_range bytes at to)) (names_of tag.attributes) ≡ false → (equals : ℕ) → IsSpan is_blank bytes to equals
      → equals < length bytes → get_or bytes equals 0 ≡ 61 → (quote_at : ℕ) → IsSpan is_blank bytes (equals + 1) quote_at
      → run_at places.Gap depth (in_tag roots stack tag) at bytes ≡ run_at places.Before depth (keying roots stack tag (slice_range bytes at to)) quote_at bytes
  to_value few new equals blanks there sign quote_at more =
      let c = keying roots stack tag (slice_range bytes at to) in
      to_equals few new equals blanks
      ∙ goes_over places.Equals places.Before depth depth c c equals bytes 61 there sign refl refl
      ∙ before_blanks depth (equals + 1) quote_at c bytes more

  pub in_value : (length tag.attributes ≡ 64 → ⊥) → list_any (bytes_eq (slice_range bytes at to)) (names_of tag.attributes) ≡ false → (equals : ℕ) → IsSpan is_blank bytes to equals
      → equals < length bytes → get_or bytes equals 0 ≡ 61 → (quote_at : ℕ) → IsSpan is_blank bytes (equals + 1) quote_at
      → quote_at < length bytes → is_quote (get_or bytes quote_at 0) ≡ true
      → run_at places.Gap depth (in_tag roots stack tag) at bytes
      ≡ run_at (places.Value (get_or bytes quote_at 0)) depth (valuing (in_tag roots stack tag) (slice_range bytes at to) (quote_at + 1) [] false) (quote_at + 1) bytes
  in_value few new equals blanks there sign quote_at more inside is =
      let c = keying roots stack tag (slice_range bytes at to) in
      let no_blank = more.over inside in
      to_value few new equals blanks there sign quote_at more
      ∙ goes places.Before (places.Value (get_or bytes quote_at 0)) depth depth c (valuing (in_tag roots stack tag) (slice_range bytes at to) (quote_at + 1) [] false) quote_at bytes inside
      (rw (no_blank, is)) (rw no_blank)

pub key_breaks : (bytes : List ℕ) (at to : ℕ) → at < length bytes → is_name_start (get_or bytes at 0) ≡ true → IsSpan is_name_byte bytes at to → (depth : ℕ) (c : Build) (equals : ℕ) → IsSpan is_blank bytes to equals
    → (equals < length bytes → get_or bytes equals 0 ≡ 61 → ⊥) → (run_at places.Gap depth c at bytes).stop ≡ Some equals
key_breaks bytes at to here start span depth c equals blanks bad =
    let k = keying none [] no_tag (slice_range bytes at to) in
    stop_same places.Gap depth (Ok c) (Ok (in_tag none [] no_tag)) at (drop at bytes)
    ∙ ap (λ o. o.stop) (to_equals bytes at to here start span depth none [] no_tag (λ e. absurd (omega arith)) refl equals blanks)
    ∙ elim (cases_lt equals (length bytes)) [
      | inl inside ↦ let b = blanks.over inside in let e : (get_or bytes equals 0 == 61) ≡ false = ne_eqb (get_or bytes equals 0) 61 (bad inside) in
          stops_at places.Equals depth k equals bytes inside (rw (b, e))
      | inr past ↦ ends places.Equals depth k equals bytes past refl
    ]

pub value_breaks : (bytes : List ℕ) (at to : ℕ) → at < length bytes → is_name_start (get_or bytes at 0) ≡ true → IsSpan is_name_byte bytes at to → (depth : ℕ) (c : Build) (equals : ℕ) → IsSpan is_blank bytes to equals
    → equals < length bytes → get_or bytes equals 0 ≡ 61 → (quote_at : ℕ) → IsSpan is_blank bytes (equals + 1) quote_at
    → (quote_at < length bytes → is_quote (get_or bytes quote_at 0) ≡ false) → (run_at places.Gap depth c at bytes).stop ≡ Some quote_at
value_breaks bytes at to here start span depth c equals blanks there sign quote_at more bad =
    let k = keying none [] no_tag (slice_range bytes at to) in
    stop_same places.Gap depth (Ok c) (Ok (in_tag none [] no_tag)) at (drop at bytes)
    ∙ ap (λ o. o.stop) (to_value bytes at to here start span depth none [] no_tag (λ e. absurd (omega arith)) refl equals blanks there sign quote_at more)
    ∙ elim (cases_lt quote_at (length bytes)) [
      | inl inside ↦ let b = more.over inside in let e = bad inside in stops_at places.Before depth k quote_at bytes inside (rw (b, e))
      | inr past ↦ ends places.Before depth k quote_at bytes past refl
    ]

-- ---- a start tag

pub start_not_slash : (b : ℕ) → is_name_start b ≡ true → (b == 47) ≡ false
start_not_slash b h = grind (arith, nat_tests)

pub tag_deep : (bytes : List ℕ) (at depth : ℕ) (roots : Forest) (stack : List Tree) → at < length bytes → is_name_start (get_or bytes at 0) ≡ true → length stack ≡ 4
    → (run_at places.Open depth (between roots stack) at bytes).built ≡ Err (at - 1, why.Deep)
tag_deep bytes at depth roots stack here start deep =
    let b = get_or bytes at 0 in
    let four : (length stack == 4) ≡ true = eq-eqb (length stack) 4 deep in
    faults places.Open places.Name depth depth (between roots stack) (at - 1, why.Deep) at bytes here (rw (start_not_slash b start, start)) (rw (start_not_slash b start, four))

pub tag_named : (bytes : List ℕ) (at to depth : ℕ) (roots : Forest) (stack : List Tree) → at < length bytes → is_name_start (get_or bytes at 0) ≡ true → IsSpan is_name_byte bytes at to → (length stack ≡ 4 → ⊥)
    → run_at places.Open depth (between roots stack) at bytes
    ≡ run_at places.Quoted depth (in_tag roots stack (record { name = slice_range bytes at to; at = at - 1; attributes = []; children = none })) to bytes
tag_named bytes at to depth roots stack here start span shallow =
    let b = get_or bytes at 0 in
    let some = name_has_bytes bytes at to here start span in
    let high = span.high in
    let grow : List ℕ → Build = λ word. in_tag roots stack (record { name = word; at = at - 1; attributes = []; children = none }) in
    let not_four : (length stack == 4) ≡ false = ne_eqb (length stack) 4 shallow in
    goes places.Open places.Name depth depth (between roots stack) (grow (b ∷ [])) at bytes here (rw (start_not_slash b start, start)) (rw (start_not_slash b start, not_four))
    ∙ spans places.Name depth is_name_byte grow (λ x h. rw h) (λ x k word h. rw h) bytes (at + 1) to (b ∷ []) (IsSpan-rest is_name_byte bytes at to some span)
    ∙ ap (λ w. run_at places.Name depth (grow w) to bytes) (sym (range_first bytes at to some high))
    ∙ name_over depth to (grow (slice_range bytes at to)) bytes span.over

pub tag_breaks : (bytes : List ℕ) (at count : ℕ) (c : Build) → (at < length bytes → is_name_start (get_or bytes at 0) ≡ false) → (at < length bytes → get_or bytes at 0 ≡ 47 → count ≡ 0)
    → (run_at places.Open count c at bytes).stop ≡ Some at
tag_breaks bytes at count c bad slash = elim (cases_lt at (length bytes)) [
  | inr past ↦ ends places.Open count c at bytes past refl
  | inl here ↦
      let b = get_or bytes at 0 in
      let s = bad here in
      elim (cases_Bool (b == 47)) [
        | inl is ↦ let root = slash here (eqb-true b 47 is) in stops_at places.Open count c at bytes here (rw (is, root))
        | inr isnt ↦ stops_at places.Open count c at bytes here (rw (isnt, s))
      ]
]

-- a name is spelled by its span

all_bytes : (n at : ℕ) (bytes : List ℕ) → at + n ≤ length bytes → ((k : ℕ) → at ≤ k → k < at + n → is_name_byte (get_or bytes k 0) ≡ true) → list_all is_name_byte (take n (drop at bytes)) ≡ true
all_bytes zero at bytes high each = refl
all_bytes (suc n) at bytes high each =
    let here : at < length bytes = omega arith in
    ap (λ l. list_all is_name_byte (take (suc n) l)) (over bytes at here)
    ∙ and_from (is_name_byte (get_or bytes at 0)) (list_all is_name_byte (take n (drop (at + 1) bytes))) (each at (omega arith) (omega arith)) (all_bytes n (at + 1) bytes (omega arith) (λ k low below. each k (omega arith) (omega arith)))

pub range_name : (bytes : List ℕ) (at to : ℕ) → at < length bytes → is_name_start (get_or bytes at 0) ≡ true → IsSpan is_name_byte bytes at to → IsName (slice_range bytes at to)
range_name bytes at to here start span =
    let some = name_has_bytes bytes at to here start span in
    let high = span.high in
    let e : (at + 1) + (to - (at + 1)) ≡ to = omega arith in
    ap is_name (range_first bytes at to some high)
    ∙ and_from (is_name_start (get_or bytes at 0)) (list_all is_name_byte (slice_range bytes (at + 1) to)) start
    (all_bytes (to - (at + 1)) (at + 1) bytes (omega arith) (λ k low below. span.each k (omega arith) (omega arith)))
