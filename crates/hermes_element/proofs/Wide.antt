-- Characters of several bytes: the machine's bits and the bytes of UTF-8.
use Rattle.std.proofs.Common.{◌≡◌, inl, inr, ℕ, zero, suc, ◌+◌, ◌-◌, ◌*◌, ◌/◌, ◌%◌, ◌<◌, ◌≤◌, true, false, cond, List, [], ◌∷◌, ◌++◌, Some, None, max, refl, ap, sym, ◌∙◌, append_assoc, append-nil, arith, subst}
use Rattle.std.specs.Prelude.{◌==◌, ◌&&◌, nat_lt, nat_le}
use Rattle.std.specs.Char.{encode_utf8}
use Rattle.std.proofs.lemmas.Bool.{cases_lt, cases_Bool, ltb-true, lt-ltb, le-ltb, leb-true, and_parts}
use Rattle.std.proofs.lemmas.Bool.Decides.{nat_tests}
use Rattle.line_base.specs.Text.{is_allowed_char}
use Rattle.hermes_element.specs.Machine.{share, least_wide, is_wide_begun, wide, wide_start, wide_next}
use Rattle.hermes_element.specs.Steps.{AtPlace, IsPart, IsOne, tail_of}
use Rattle.hermes_element.specs.declared.place.Place.{Place}
use Rattle.hermes_element.specs.declared.place.Place.TheVariants as places
use Rattle.hermes_element.proofs.Running.{yes, no}

pub encode_2 : (c : ℕ) → 128 ≤ c → c < 2048 → encode_utf8 c ≡ (192 + c / 64) ∷ (128 + c % 64) ∷ []
unfolding encode_utf8
encode_2 c low high = let a : nat_lt c 128 ≡ false = grind (arith, nat_tests) in let b : nat_lt c 2048 ≡ true = grind (arith, nat_tests) in rw (a, b)

pub encode_3 : (c : ℕ) → 2048 ≤ c → c < 65536 → encode_utf8 c ≡ (224 + c / 4096) ∷ (128 + c / 64 % 64) ∷ (128 + c % 64) ∷ []
unfolding encode_utf8
encode_3 c low high =
    let a : nat_lt c 128 ≡ false = grind (arith, nat_tests) in let b : nat_lt c 2048 ≡ false = grind (arith, nat_tests) in let d : nat_lt c 65536 ≡ true = grind (arith, nat_tests) in rw (a, b, d)

pub encode_4 : (c : ℕ) → 65536 ≤ c → encode_utf8 c ≡ (240 + c / 262144) ∷ (128 + c / 4096 % 64) ∷ (128 + c / 64 % 64) ∷ (128 + c % 64) ∷ []
unfolding encode_utf8
encode_4 c low =
    let a : nat_lt c 128 ≡ false = grind (arith, nat_tests) in let b : nat_lt c 2048 ≡ false = grind (arith, nat_tests) in let d : nat_lt c 65536 ≡ false = grind (arith, nat_tests) in rw (a, b, d)

-- ---- the bytes so far are the front of each character that has the bits

start_2 : (b : ℕ) → 192 ≤ b → b < 224 → IsPart 128 (b - 192) 1 (b ∷ [])
start_2 b low high = record {
  whole = λ c floor bits.
      let e : 192 + c / 64 ≡ b = omega arith in
      encode_2 c floor (omega arith) ∙ ap (λ x. x ∷ (128 + c % 64) ∷ []) e;
}

start_3 : (b : ℕ) → 224 ≤ b → b < 240 → IsPart 2048 (b - 224) 2 (b ∷ [])
start_3 b low high = record {
  whole = λ c floor bits.
      let e : 224 + c / 4096 ≡ b = omega arith in
      encode_3 c floor (omega arith) ∙ ap (λ x. x ∷ (128 + c / 64 % 64) ∷ (128 + c % 64) ∷ []) e;
}

start_4 : (b : ℕ) → 240 ≤ b → IsPart 65536 (b - 240) 3 (b ∷ [])
start_4 b low = record {
  whole = λ c floor bits.
      let e : 240 + c / 262144 ≡ b = omega arith in
      encode_4 c floor ∙ ap (λ x. x ∷ (128 + c / 4096 % 64) ∷ (128 + c / 64 % 64) ∷ (128 + c % 64) ∷ []) e;
}

next_3 : (floor bits b : ℕ) (bytes : List ℕ) → 128 ≤ b → b < 192 → IsPart floor bits 3 bytes → IsPart floor (bits * 64 + (b - 128)) 2 (bytes ++ b ∷ [])
next_3 floor bits b bytes low high part = record {
  whole = λ c least e.
      let up : c / 262144 ≡ bits = omega arith in
      let own : 128 + c / 4096 % 64 ≡ b = omega arith in
      part.whole c least up ∙ ap (λ x. bytes ++ x ∷ tail_of 2 c) own ∙ sym (append_assoc bytes (b ∷ []) (tail_of 2 c));
}

next_2 : (floor bits b : ℕ) (bytes : List ℕ) → 128 ≤ b → b < 192 → IsPart floor bits 2 bytes → IsPart floor (bits * 64 + (b - 128)) 1 (bytes ++ b ∷ [])
next_2 floor bits b bytes low high part = record {
  whole = λ c least e.
      let up : c / 4096 ≡ bits = omega arith in
      let own : 128 + c / 64 % 64 ≡ b = omega arith in
      part.whole c least up ∙ ap (λ x. bytes ++ x ∷ tail_of 1 c) own ∙ sym (append_assoc bytes (b ∷ []) (tail_of 1 c));
}

next_1 : (floor bits b : ℕ) (bytes : List ℕ) → 128 ≤ b → b < 192 → IsPart floor bits 1 bytes → IsPart floor (bits * 64 + (b - 128)) 0 (bytes ++ b ∷ [])
next_1 floor bits b bytes low high part = record {
  whole = λ c least e.
      let up : c / 64 ≡ bits = omega arith in
      let own : 128 + c % 64 ≡ b = omega arith in
      part.whole c least up ∙ ap (λ x. bytes ++ x ∷ []) own ∙ sym (append_assoc bytes (b ∷ []) []);
}

-- ---- the places

begun : (floor bits left : ℕ) → is_wide_begun floor bits left ≡ true
    → (is_allowed_char (least_wide floor bits left) ≡ true) × (nat_lt (least_wide floor bits left) ((bits + 1) * share left) ≡ true)
begun floor bits left h = and_parts _ _ h

same_place : {p q : Place} → Some p ≡ Some q → p ≡ q
same_place e = cc

carried : (place to : Place) (quote : ℕ) (bytes : List ℕ) → place ≡ to → AtPlace place quote bytes → AtPlace to quote bytes
carried place to quote bytes e h = subst (λ p. AtPlace p quote bytes) e h

whole : (quote floor bits : ℕ) (bytes : List ℕ) → IsPart floor bits 0 bytes → is_wide_begun floor bits 0 ≡ true → IsOne bytes
whole quote floor bits bytes part h =
    let both = begun floor bits 0 h in
    let below : max floor (bits * 1) < (bits + 1) * 1 = ltb-true (max floor (bits * 1)) ((bits + 1) * 1) both.1 in
    let least : max floor (bits * 1) ≡ bits = omega arith in
    record { char = bits; allowed = sym (ap is_allowed_char least) ∙ both.0; text = part.whole bits (omega arith) (omega arith) ∙ append-nil bytes }

not_none : {place : Place} → None ≡ Some place → ⊥
not_none e = cc

wide_done : (quote floor bits : ℕ) (bytes : List ℕ) (place : Place) → IsPart floor bits 0 bytes → wide quote floor bits 0 ≡ Some place → AtPlace place quote bytes
wide_done quote floor bits bytes place part e = elim (cases_Bool (is_wide_begun floor bits 0)) [
  | inl h ↦ carried (places.Value quote) place quote bytes (same_place (sym (yes (is_wide_begun floor bits 0) (Some (places.Value quote)) None h) ∙ e)) (refl, whole quote floor bits bytes part h)
  | inr h ↦ absurd (not_none (sym (no (is_wide_begun floor bits 0) (Some (places.Value quote)) None h) ∙ e))
]

wide_more : (quote floor bits left : ℕ) (bytes : List ℕ) (place : Place) → 0 < left → left < 4 → IsPart floor bits left bytes → wide quote floor bits left ≡ Some place → AtPlace place quote bytes
wide_more quote floor bits left bytes place some small part e =
    let there : (left == 0) ≡ false = grind (arith, nat_tests) in
    let goal_place = cond (left == 0) (places.Value quote) (places.Wide quote floor bits left) in
    let is : goal_place ≡ places.Wide quote floor bits left = no (left == 0) (places.Value quote) (places.Wide quote floor bits left) there in
    elim (cases_Bool (is_wide_begun floor bits left)) [
      | inl h ↦ carried (places.Wide quote floor bits left) place quote bytes (sym is ∙ same_place (sym (yes (is_wide_begun floor bits left) (Some goal_place) None h) ∙ e)) (refl, part, some, small)
      | inr h ↦ absurd (not_none (sym (no (is_wide_begun floor bits left) (Some goal_place) None h) ∙ e))
    ]

pub start_part : (quote b : ℕ) (place : Place) → 128 ≤ b → wide_start quote b ≡ Some place → AtPlace place quote (b ∷ [])
start_part quote b place high e =
    let two = wide quote 128 (b - 192) 1 in
    let three = wide quote 2048 (b - 224) 2 in
    let four = wide quote 65536 (b - 240) 3 in
    elim (cases_lt b 192) [
      | inl l ↦ absurd (not_none (sym (yes (nat_lt b 192) None (cond (nat_lt b 224) two (cond (nat_lt b 240) three four)) (lt-ltb b 192 l)) ∙ e))
      | inr g ↦
          let e2 = sym (no (nat_lt b 192) None (cond (nat_lt b 224) two (cond (nat_lt b 240) three four)) (le-ltb b 192 g)) ∙ e in
          elim (cases_lt b 224) [
            | inl l ↦ wide_more quote 128 (b - 192) 1 (b ∷ []) place (omega arith) (omega arith) (start_2 b g l) (sym (yes (nat_lt b 224) two (cond (nat_lt b 240) three four) (lt-ltb b 224 l)) ∙ e2)
            | inr g2 ↦
                let e3 = sym (no (nat_lt b 224) two (cond (nat_lt b 240) three four) (le-ltb b 224 g2)) ∙ e2 in
                elim (cases_lt b 240) [
                  | inl l ↦ wide_more quote 2048 (b - 224) 2 (b ∷ []) place (omega arith) (omega arith) (start_3 b g2 l) (sym (yes (nat_lt b 240) three four (lt-ltb b 240 l)) ∙ e3)
                  | inr g3 ↦ wide_more quote 65536 (b - 240) 3 (b ∷ []) place (omega arith) (omega arith) (start_4 b g3) (sym (no (nat_lt b 240) three four (le-ltb b 240 g3)) ∙ e3)
                ]
          ]
    ]

next_at : (quote floor bits left b : ℕ) (bytes : List ℕ) (place : Place) → 0 < left → left < 4 → 128 ≤ b → b < 192 → IsPart floor bits left bytes
    → wide quote floor (bits * 64 + (b - 128)) (left - 1) ≡ Some place → AtPlace place quote (bytes ++ b ∷ [])
next_at quote floor bits zero b bytes place some small low high part e = absurd (omega arith)
next_at quote floor bits (suc zero) b bytes place some small low high part e = wide_done quote floor (bits * 64 + (b - 128)) (bytes ++ b ∷ []) place (next_1 floor bits b bytes low high part) e
next_at quote floor bits (suc (suc zero)) b bytes place some small low high part e =
    wide_more quote floor (bits * 64 + (b - 128)) 1 (bytes ++ b ∷ []) place (omega arith) (omega arith) (next_2 floor bits b bytes low high part) e
next_at quote floor bits (suc (suc (suc zero))) b bytes place some small low high part e =
    wide_more quote floor (bits * 64 + (b - 128)) 2 (bytes ++ b ∷ []) place (omega arith) (omega arith) (next_3 floor bits b bytes low high part) e
next_at quote floor bits (suc (suc (suc (suc left)))) b bytes place some small low high part e = absurd (omega arith)

pub next_part : (quote floor bits left b : ℕ) (bytes : List ℕ) (place : Place) → 0 < left → left < 4 → IsPart floor bits left bytes
    → wide_next quote floor bits left b ≡ Some place → AtPlace place quote (bytes ++ b ∷ [])
next_part quote floor bits left b bytes place some small part e =
    let test = nat_le 128 b && nat_lt b 192 && nat_lt bits 131072 in
    let next = wide quote floor (bits * 64 + (b - 128)) (left - 1) in
    elim (cases_Bool test) [
      | inl h ↦
          let outside = and_parts (nat_le 128 b && nat_lt b 192) (nat_lt bits 131072) h in
          let inside = and_parts (nat_le 128 b) (nat_lt b 192) outside.0 in
          next_at quote floor bits left b bytes place some small (leb-true 128 b inside.0) (ltb-true b 192 inside.1) part (sym (yes test next None h) ∙ e)
      | inr h ↦ absurd (not_none (sym (no test next None h) ∙ e))
    ]
