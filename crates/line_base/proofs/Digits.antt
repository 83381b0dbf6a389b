-- Digits at the front of a text, and their value.
use Rattle.std.proofs.Common.{◌≡◌, ℕ, zero, suc, ◌+◌, ◌-◌, ◌*◌, ◌^◌, ◌<◌, ◌≤◌, Bool, true, false, cond, ◌&&◌, List, [], ◌∷◌, ◌++◌, length, get_or, take, drop, refl, sym, ap, ◌∙◌, arith, length-append, ◌==◌, nat_le, Option, Some, None, IfSome}
use Rattle.std.proofs.Math.Nat.{pow-le-pow_right, pow-suc, mul-le-mul_right}
use Rattle.std.proofs.lemmas.List.{drop_more, take_more, length-take-le}
use Rattle.std.proofs.lemmas.Nat.{pow-add, mul-add-lt}
use Rattle.std.proofs.lemmas.Bool.{and_parts, and_from, leb-true, le-leb, eqb-true}
use Rattle.std.specs.Char.{is_ascii_digit}
use Rattle.line_base.specs.Number.{IsDigits, are_digits, is_digits, value_of, digit, front_digits, behind_digits, fraction_text, fraction_of}

-- a digit's byte
pub digit_range : (c : ℕ) → is_ascii_digit c ≡ true → (48 ≤ c) × (c ≤ 57)
digit_range c h = let both = and_parts _ _ h in (leb-true 48 c both.0, leb-true c 57 both.1)

pub digit_from_range : (c : ℕ) → 48 ≤ c → c ≤ 57 → is_ascii_digit c ≡ true
digit_from_range c low high = and_from _ _ (le-leb 48 c low) (le-leb c 57 high)

pub digit_is : (n : ℕ) → is_ascii_digit (digit n) ≡ true
digit_is n = digit_from_range (digit n) (omega arith) (omega arith)

pub are_digits-append : (xs ys : List ℕ) → are_digits (xs ++ ys) ≡ (are_digits xs && are_digits ys)
are_digits-append [] ys = refl
are_digits-append (x ∷ xs) ys =
    elim (is_ascii_digit x) as (λ b. (b && are_digits (xs ++ ys)) ≡ ((b && are_digits xs) && are_digits ys)) [
      | true ↦ are_digits-append xs ys
      | false ↦ refl
    ]

pub are_digits-both : (xs ys : List ℕ) → are_digits xs ≡ true → are_digits ys ≡ true → are_digits (xs ++ ys) ≡ true
are_digits-both xs ys p q = are_digits-append xs ys ∙ and_from _ _ p q

-- the value of digits one after another
pub value_of-append : (xs ys : List ℕ) → value_of (xs ++ ys) ≡ value_of xs * 10 ^ length ys + value_of ys
value_of-append [] ys = omega arith
value_of-append (x ∷ xs) ys =
    let more = value_of-append xs ys in
    rw (length-append xs ys, pow-add 10 (length xs) (length ys)) omega (arith, more)

pub value_of_push : (xs : List ℕ) (c : ℕ) → value_of (xs ++ c ∷ []) ≡ value_of xs * 10 + (c - 48)
value_of_push xs c = omega (arith, value_of-append xs (c ∷ []))

pub value_of_more : (xs : List ℕ) (i : ℕ) → i < length xs → value_of (take (i + 1) xs) ≡ value_of (take i xs) * 10 + (get_or xs i 0 - 48)
value_of_more xs i h = ap value_of (take_more xs i 0 h) ∙ value_of_push (take i xs) (get_or xs i 0)

pub value_of-lt : (xs : List ℕ) → are_digits xs ≡ true → value_of xs < 10 ^ length xs
value_of-lt [] h = omega arith
value_of-lt (x ∷ xs) h =
    let both = and_parts _ _ h in
    let range = digit_range x both.0 in
    let rest = value_of-lt xs both.1 in
    let nine : x - 48 ≤ 9 = omega arith in
    omega (arith, mul-le-mul_right (10 ^ length xs) nine, pow-suc 10 (length xs))

pub are_digits-take : (i : ℕ) (xs : List ℕ) → are_digits xs ≡ true → are_digits (take i xs) ≡ true
are_digits-take zero xs h = refl
are_digits-take (suc i) [] h = refl
are_digits-take (suc i) (x ∷ xs) h =
    let both = and_parts _ _ h in and_from _ _ both.0 (are_digits-take i xs both.1)

pub are_digits-drop : (i : ℕ) (xs : List ℕ) → are_digits xs ≡ true → are_digits (drop i xs) ≡ true
are_digits-drop zero xs h = h
are_digits-drop (suc i) [] h = refl
are_digits-drop (suc i) (x ∷ xs) h = let both = and_parts _ _ h in are_digits-drop i xs both.1

-- so few digits stay below that power of ten
pub value_of-few : (xs : List ℕ) (k : ℕ) → are_digits xs ≡ true → length xs ≤ k → value_of xs < 10 ^ k
value_of-few xs k h few =
    let below = value_of-lt xs h in
    let larger : 10 ^ length xs ≤ 10 ^ k = pow-le-pow_right {n = 10} (omega arith) {i = length xs} {j = k} few in
    omega arith

pub value_of-take-few : (xs : List ℕ) (i k : ℕ) → are_digits xs ≡ true → i ≤ length xs → i ≤ k → value_of (take i xs) < 10 ^ k
value_of-take-few xs i k h within few =
    let size : length (take i xs) ≡ i = length-take-le i xs within in
    value_of-few (take i xs) k (are_digits-take i xs h) (omega arith)

-- the front of a text and what follows it
pub front-append-behind : (xs : List ℕ) → front_digits xs ++ behind_digits xs ≡ xs
front-append-behind [] = refl
front-append-behind (c ∷ cs) =
    elim (is_ascii_digit c) as (λ b. cond b (c ∷ front_digits cs) [] ++ cond b (behind_digits cs) (c ∷ cs) ≡ c ∷ cs) [
      | true ↦ ap (λ (xs : List ℕ). c ∷ xs) (front-append-behind cs)
      | false ↦ refl
    ]

pub are_digits-front : (xs : List ℕ) → are_digits (front_digits xs) ≡ true
are_digits-front [] = refl
are_digits-front (c ∷ cs) =
    let test : (b : Bool) → is_ascii_digit c ≡ b → are_digits (cond b (c ∷ front_digits cs) []) ≡ true = λ b e. elim b as (λ b. is_ascii_digit c ≡ b → are_digits (cond b (c ∷ front_digits cs) []) ≡ true) [
      | true ↦ λ e. and_from _ _ e (are_digits-front cs)
      | false ↦ λ e. refl
    ] e in
    test (is_ascii_digit c) refl

-- digits before what begins with none are the front
pub front_digits_at : (xs ys : List ℕ) → are_digits xs ≡ true → front_digits ys ≡ [] → front_digits (xs ++ ys) ≡ xs
front_digits_at [] ys h none = none
front_digits_at (x ∷ xs) ys h none =
    let both = and_parts (is_ascii_digit x) (are_digits xs) h in
    rw both.0 (ap (λ (zs : List ℕ). x ∷ zs) (front_digits_at xs ys both.1 none))

pub behind_digits_at : (xs ys : List ℕ) → are_digits xs ≡ true → behind_digits ys ≡ ys → behind_digits (xs ++ ys) ≡ ys
behind_digits_at [] ys h none = none
behind_digits_at (x ∷ xs) ys h none =
    let both = and_parts (is_ascii_digit x) (are_digits xs) h in rw both.0 (behind_digits_at xs ys both.1 none)

-- one digit further
pub front_digits_more : (xs : List ℕ) (i : ℕ) → i < length xs → is_ascii_digit (get_or xs i 0) ≡ true → front_digits (drop i xs) ≡ get_or xs i 0 ∷ front_digits (drop (i + 1) xs)
front_digits_more xs i h digit = rw (drop_more xs i 0 h, digit) refl

pub behind_digits_more : (xs : List ℕ) (i : ℕ) → i < length xs → is_ascii_digit (get_or xs i 0) ≡ true → behind_digits (drop i xs) ≡ behind_digits (drop (i + 1) xs)
behind_digits_more xs i h digit = rw (drop_more xs i 0 h, digit) refl

-- and where no digit stands
pub front_digits_none : (xs : List ℕ) (i : ℕ) → i < length xs → is_ascii_digit (get_or xs i 0) ≡ false → front_digits (drop i xs) ≡ []
front_digits_none xs i h other = rw (drop_more xs i 0 h, other) refl

pub behind_digits_none : (xs : List ℕ) (i : ℕ) → i < length xs → is_ascii_digit (get_or xs i 0) ≡ false → behind_digits (drop i xs) ≡ drop i xs
behind_digits_none xs i h other = rw (drop_more xs i 0 h, other) refl

-- ---- fractions

-- a fraction was read: its digits, and what follows
pub record IsFraction (most : ℕ) (text digits behind : List ℕ) : Type 0 where
  pub form : IsDigits 0 most digits
  pub spelling : text ≡ fraction_text digits ++ behind

pub is_digits-IsDigits : (low high : ℕ) (bytes : List ℕ) → is_digits low high bytes ≡ true → IsDigits low high bytes
is_digits-IsDigits low high bytes h =
    let parts = and_parts (are_digits bytes) _ h in
    let sizes = and_parts (nat_le low (length bytes)) (nat_le (length bytes) high) parts.1 in
    record { digits = parts.0; enough = leb-true _ _ sizes.0; few = leb-true _ _ sizes.1 }

pub is_digits-true : (low high : ℕ) (bytes : List ℕ) → IsDigits low high bytes → is_digits low high bytes ≡ true
is_digits-true low high bytes h =
    and_from _ _ h.digits (and_from _ _ (le-leb _ _ h.enough) (le-leb _ _ h.few))

point_text : (xs : List ℕ) → 1 ≤ length xs → fraction_text xs ≡ 46 ∷ xs
point_text [] h = absurd (omega arith)
point_text (x ∷ xs) h = refl

pub fraction_found : (most : ℕ) (text : List ℕ) → IfSome (fraction_of most text) (λ parts. IsFraction most text parts.0 parts.1)
fraction_found most [] = record { form = record { digits = refl; enough = omega arith; few = omega arith }; spelling = refl }
fraction_found most (c ∷ cs) =
    let step : (point digits : Bool) → (c == 46) ≡ point → is_digits 1 most (front_digits cs) ≡ digits → IfSome (cond {A = Option (List ℕ × List ℕ)} point (cond {A = Option (List ℕ × List ℕ)} digits (Some (front_digits cs, behind_digits cs)) None) (Some ([], c ∷ cs))) (λ parts. IsFraction most (c ∷ cs) parts.0 parts.1) =
    λ point digits. elim point as (λ point. (c == 46) ≡ point → is_digits 1 most (front_digits cs) ≡ digits → IfSome (cond {A = Option (List ℕ × List ℕ)} point (cond {A = Option (List ℕ × List ℕ)} digits (Some (front_digits cs, behind_digits cs)) None) (Some ([], c ∷ cs))) (λ parts. IsFraction most (c ∷ cs) parts.0 parts.1)) [
      | true ↦ elim digits as (λ digits. (c == 46) ≡ true → is_digits 1 most (front_digits cs) ≡ digits → IfSome (cond {A = Option (List ℕ × List ℕ)} digits (Some (front_digits cs, behind_digits cs)) None) (λ parts. IsFraction most (c ∷ cs) parts.0 parts.1)) [
        | true ↦ λ e h.
            let form = is_digits-IsDigits 1 most (front_digits cs) h in
            record {
              form = record { digits = form.digits; enough = omega arith; few = form.few };
              spelling = rw (point_text (front_digits cs) form.enough, eqb-true c 46 e) (ap (λ (xs : List ℕ). 46 ∷ xs) (sym (front-append-behind cs)));
            }
        | false ↦ λ e h. tt
      ]
      | false ↦ λ e h. record { form = record { digits = refl; enough = omega arith; few = omega arith }; spelling = refl }
    ] in
    step (c == 46) (is_digits 1 most (front_digits cs)) refl refl

-- a text that begins with neither a digit nor a point
pub record IsStop (text : List ℕ) : Type 0 where
  pub front : front_digits text ≡ []
  pub behind : behind_digits text ≡ text
  pub whole : (most : ℕ) → fraction_of most text ≡ Some ([], text)

pub IsStop-none : IsStop []
IsStop-none = record { front = refl; behind = refl; whole = λ most. refl }

pub IsStop-at : (c : ℕ) (cs : List ℕ) → is_ascii_digit c ≡ false → (c == 46) ≡ false → IsStop (c ∷ cs)
IsStop-at c cs digit point =
    record { front = rw digit refl; behind = rw digit refl; whole = λ most. rw point refl }

-- a fraction before such a text is read
pub fraction_of_text : (most : ℕ) (digits behind : List ℕ) → IsDigits 0 most digits → IsStop behind → fraction_of most (fraction_text digits ++ behind) ≡ Some (digits, behind)
fraction_of_text most [] behind form stop = stop.whole most
fraction_of_text most (d ∷ ds) behind form stop =
    let whole : is_digits 1 most (d ∷ ds) ≡ true = is_digits-true 1 most (d ∷ ds) (record { digits = form.digits; enough = omega arith; few = form.few }) in
    let front : front_digits ((d ∷ ds) ++ behind) ≡ d ∷ ds = front_digits_at (d ∷ ds) behind form.digits stop.front in
    let rest : behind_digits ((d ∷ ds) ++ behind) ≡ behind = behind_digits_at (d ∷ ds) behind form.digits stop.behind in
    let read : (xs ys : List ℕ) → xs ≡ d ∷ ds → ys ≡ behind → cond {A = Option (List ℕ × List ℕ)} (is_digits 1 most xs) (Some (xs, ys)) None ≡ Some (d ∷ ds, behind) = λ xs ys p q. rw (p, q, whole) refl in
    read _ _ front rest

-- at most 18 digits before at most 20 stay below 10^38
pub joined-lt : (a weight b m n : ℕ) → a < 10 ^ m → weight ≡ 10 ^ n → b < 10 ^ n → m ≤ 18 → n ≤ 20 → a * weight + b < 10 ^ 38
joined-lt a weight b m n small e below p q =
    let place = mul-add-lt a weight b (10 ^ m) small (rw e below) in
    let product : weight * 10 ^ m ≡ 10 ^ (n + m) = rw (e, pow-add 10 n m) refl in
    let larger : 10 ^ (n + m) ≤ 10 ^ 38 = pow-le-pow_right {n = 10} (omega arith) {i = n + m} {j = 38} (omega arith) in
    omega arith
