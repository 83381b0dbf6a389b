-- The nearest whole number to a fraction whose numerator and denominator are scaled by powers of ten.
use Rattle.std.proofs.Common.{◌≡◌, ℕ, zero, suc, ◌+◌, ◌-◌, ◌*◌, ◌/◌, ◌^◌, ◌<◌, ◌≤◌, ◌⊎◌, inl, inr, false, None, refl, sym, ap, ◌∙◌, arith, nat_lt}
use Rattle.std.proofs.Math.Nat.{div-eq_of_lt-le, div-eq_of_lt, mul-div-le, lt-mul-div-succ, one-le-pow, pow-le-pow_right, mul-le-mul_left, mul-le-mul_right, pow-suc}
use Rattle.std.proofs.lemmas.Nat.{pow-add}
use Rattle.std.proofs.lemmas.Bool.{le-ltb}
use Rattle.line_base.specs.Decimal.{IsNearest, nearest, limited}

-- the quotient of the definition is nearest, and nothing else is
pub nearest_is : (numerator denominator : ℕ) → 0 < denominator → IsNearest numerator denominator (nearest numerator denominator)
nearest_is numerator denominator h =
    let double : 0 < 2 * denominator = omega arith in
    record {
      reached = mul-div-le (2 * numerator + denominator) (2 * denominator);
      not_passed = lt-mul-div-succ (2 * numerator + denominator) double;
    }

pub nearest_only : (numerator denominator n : ℕ) → IsNearest numerator denominator n → nearest numerator denominator ≡ n
nearest_only numerator denominator n h =
    let below = h.reached in
    let above = h.not_passed in
    div-eq_of_lt-le {k = n} (2 * denominator) {m = 2 * numerator + denominator} (grind arith) (grind arith)

-- a whole value is nearest to itself
pub IsNearest-whole : (numerator denominator n : ℕ) → 0 < denominator → numerator ≡ n * denominator → IsNearest numerator denominator n
IsNearest-whole numerator denominator n h e = record { reached = grind arith; not_passed = grind arith }

pub nearest_whole : (numerator denominator n : ℕ) → 0 < denominator → numerator ≡ n * denominator → nearest numerator denominator ≡ n
nearest_whole numerator denominator n h e =
    nearest_only numerator denominator n (IsNearest-whole numerator denominator n h e)

-- to halve goes up at the half; a common factor changes nothing
pub nearest_lowered : (value unit half scale numerator denominator : ℕ) → unit ≡ 2 * half → 0 < unit → 0 < scale → numerator ≡ value * scale → denominator ≡ unit * scale → nearest numerator denominator ≡ (value + half) / unit
nearest_lowered value unit half scale numerator denominator even pos_unit pos_scale e f =
    let n : ℕ = (value + half) / unit in
    let low : unit * n ≤ value + half = mul-div-le (value + half) unit in
    let high : value + half < unit * (n + 1) = lt-mul-div-succ (value + half) pos_unit in
    let low_scaled = mul-le-mul_left (2 * scale) low in
    let next : value + half + 1 ≤ unit * (n + 1) = omega arith in
    let high_scaled = mul-le-mul_left (2 * scale) next in
    let same : unit * scale ≡ 2 * half * scale = ap (λ (u : ℕ). u * scale) even in
    nearest_only numerator denominator n (record {
      reached = rw (e, f) (omega (arith, low_scaled, same));
      not_passed = rw (e, f) (omega (arith, high_scaled, same));
    })

pub one_le_ten_pow : (k : ℕ) → 1 ≤ 10 ^ k
one_le_ten_pow k = one-le-pow k 10 (omega arith)

pub limited_none : (n : ℕ) → 1_000_000_000_000 ≤ n → limited n ≡ None
limited_none n h = let large : nat_lt n 1_000_000_000_000 ≡ false = le-ltb n 1_000_000_000_000 h in rw large refl

-- many powers of ten, or a large number, come to more than the limit
pub raised_large : (n k : ℕ) → 1 ≤ n → (12 ≤ k) ⊎ (1_000_000_000_000 ≤ n) → 1_000_000_000_000 ≤ n * 10 ^ k
raised_large n k some (inl many) =
    let larger : 10 ^ 12 ≤ 10 ^ k = pow-le-pow_right {n = 10} (omega arith) {i = 12} {j = k} many in
    omega (arith, mul-le-mul_right (10 ^ k) some)
raised_large n k some (inr large) = omega (arith, mul-le-mul_left n (one_le_ten_pow k))

-- of a number below 10^38 more than 38 powers of ten leave nothing
pub lowered_small : (n k : ℕ) → n < 10 ^ 38 → 38 < k → (n + 10 ^ k / 2) / 10 ^ k ≡ 0
lowered_small n k small many =
    let larger : 10 ^ 39 ≤ 10 ^ k = pow-le-pow_right {n = 10} (omega arith) {i = 39} {j = k} many in
    div-eq_of_lt {n = n + 10 ^ k / 2} {m = 10 ^ k} (omega arith)

ten_pow_even : (k : ℕ) → 1 ≤ k → 10 ^ k ≡ 2 * (10 ^ k / 2)
ten_pow_even zero h = absurd (omega arith)
ten_pow_even (suc k) h = omega (arith, pow-suc 10 k)

pub nearest_of_raised : (value raise lower : ℕ) → lower ≤ raise + 6 → nearest (value * 10 ^ raise * 1_000_000) (10 ^ lower) ≡ value * 10 ^ (raise + 6 - lower)
nearest_of_raised value raise lower h =
    nearest_whole (value * 10 ^ raise * 1_000_000) (10 ^ lower) (value * 10 ^ (raise + 6 - lower)) (one_le_ten_pow lower)
    (let apart : raise + 6 ≡ (raise + 6 - lower) + lower = omega arith in
    let split : 10 ^ raise * 10 ^ 6 ≡ 10 ^ (raise + 6 - lower) * 10 ^ lower = sym (pow-add 10 raise 6) ∙ (ap (λ (n : ℕ). 10 ^ n) apart ∙ pow-add 10 (raise + 6 - lower) lower) in
    omega (arith, ap (λ (n : ℕ). value * n) split))

pub nearest_of_lowered : (value raise lower : ℕ) → raise + 6 < lower → nearest (value * 10 ^ raise * 1_000_000) (10 ^ lower) ≡ (value + 10 ^ (lower - (raise + 6)) / 2) / 10 ^ (lower - (raise + 6))
nearest_of_lowered value raise lower h =
    let k : ℕ = lower - (raise + 6) in
    nearest_lowered value (10 ^ (lower - (raise + 6))) (10 ^ (lower - (raise + 6)) / 2) (10 ^ (raise + 6)) (value * 10 ^ raise * 1_000_000) (10 ^ lower)
    (ten_pow_even k (omega arith)) (one_le_ten_pow k) (one_le_ten_pow (raise + 6))
    (omega (arith, ap (λ (n : ℕ). value * n) (pow-add 10 raise 6)))
    (let apart : lower ≡ k + (raise + 6) = omega arith in ap (λ (n : ℕ). 10 ^ n) apart ∙ pow-add 10 k (raise + 6))
