-- The numbers of escapes, up to the first that is no character's.
use Rattle.std.proofs.Common.{◌≡◌, inl, inr, ℕ, ◌+◌, ◌*◌, ◌<◌, ◌≤◌, false, cond, List, [], ◌∷◌, Some, None, min, ap, sym, ◌∙◌, arith}
use Rattle.std.proofs.Math.Nat.{mul-le-mul_left}
use Rattle.std.proofs.lemmas.Bool.{cases_lt}
use Rattle.std.proofs.lemmas.Bool.Decides.{nat_tests}
use Rattle.line_base.specs.Text.{is_allowed_char}
use Rattle.hermes_element.specs.Checks.{allowed, number_of}

past_characters : (n : ℕ) → 1114112 ≤ n → is_allowed_char n ≡ false
past_characters n h = grind (arith, nat_tests)

pub allowed-min : (n : ℕ) → allowed (min n 1114112) ≡ allowed n
allowed-min n = elim (cases_lt n 1114112) [
  | inl low ↦ let e : min n 1114112 ≡ n = omega arith in ap allowed e
  | inr high ↦ let e : min n 1114112 ≡ 1114112 = omega arith in ap allowed e ∙ sym (ap (λ b. cond b (Some n) None) (past_characters n high))
]

grows : (m base : ℕ) → 0 < base → m ≤ m * base
grows m base h = let e : m * 1 ≤ m * base = mul-le-mul_left m h in omega (arith, e)

past : (base : ℕ) (digit : ℕ → ℕ) (m : ℕ) (bytes : List ℕ) → 0 < base → 1114112 ≤ m → 1114112 ≤ number_of base digit m bytes
past base digit m [] some h = h
past base digit m (b ∷ bs) some h = past base digit (m * base + digit b) bs some (omega (arith, grows m base some))

pub number_of-min : (base : ℕ) (digit : ℕ → ℕ) (m : ℕ) (bytes : List ℕ) → 0 < base → min (number_of base digit (min m 1114112) bytes) 1114112 ≡ min (number_of base digit m bytes) 1114112
number_of-min base digit m bytes some = elim (cases_lt m 1114112) [
  | inl low ↦ let e : min m 1114112 ≡ m = omega arith in ap (λ k. min (number_of base digit k bytes) 1114112) e
  | inr high ↦
      let a = past base digit m bytes some high in
      let b = past base digit (min m 1114112) bytes some (omega arith) in
      omega arith
]
