-- The texts of decimals: what is read, and that what is written is read back.
use Rattle.std.proofs.Common.{◌≡◌, ℕ, ◌+◌, ◌-◌, ◌*◌, ◌/◌, ◌%◌, ◌^◌, ◌<◌, ◌≤◌, ◌⊎◌, inl, inr, Bool, true, false, cond, ◌||◌, ◌==◌, List, [], ◌∷◌, ◌++◌, length, length-drop, take, drop, refl, sym, ap, ◌∙◌, arith, Option, Some, None, IfSome, Ok, ok_or, nat_lt, append-nil, decimal}
use Rattle.std.specs.Char.{is_ascii_digit}
use Rattle.std.proofs.Math.Seq.{take-append-add}
use Rattle.std.proofs.lemmas.List.{drop-append-le}
use Rattle.std.specs.Int.{IsInRange}
use Rattle.std.proofs.lemmas.Nat.{pow-add}
use Rattle.std.proofs.lemmas.Fmt.{digits_decimal, digits_value-decimal, decimal_nonempty, length-decimal-le}
use Rattle.std.proofs.lemmas.Bool.{and_parts, and_from, or_cases, eqb-true, ne_eqb, ltb-true, lt-ltb}
use Rattle.line_base.specs.Number.{IsDigits, is_digits, are_digits, value_of, front_digits, behind_digits, fraction_text, fraction_of}
use Rattle.line_base.specs.Decimal.{Sign, bare, plus, minus, sign_text, Exponent, IsExponent, exponent_text, raise_of, drop_of, signed_raise, signed_drop, Numeral, IsDecimalText, power_of, raising, lowering, signed_power_of, exponent_of, nearest, limited, scaled, behind_whole, millionths_of, decimal_of, six_digits, before, without_trailing_zeros, decimal_text}
use Rattle.line_base.proofs.Digits.{is_digits-IsDigits, is_digits-true, IsFraction, fraction_found, fraction_of_text, IsStop, IsStop-none, IsStop-at, front-append-behind, front_digits_at, behind_digits_at, value_of-append, digit_range, digit_is}
use Rattle.line_base.proofs.Written.{own_numerals}
use Rattle.line_base.proofs.Nearest.{nearest_is, nearest_only, IsNearest-whole, one_le_ten_pow}

-- ---- what is read has the value that its text says

if_either : {A : Type 0} (b : Bool) (o p : Option A) (P : A → Type 0) → (b ≡ true → IfSome o P) → (b ≡ false → IfSome p P) → IfSome (cond b o p) P
if_either true o p P h k = h refl
if_either false o p P h k = k refl

-- an exponent was read, by which the value is raised and lowered
record HasExponent (text : List ℕ) (raise lower : ℕ) : Type 0 where
  exponent : Option Exponent
  form : IfSome exponent IsExponent
  spelling : text ≡ exponent_text exponent
  raises : raise ≡ raise_of exponent
  lowers : lower ≡ drop_of exponent

power_found : (text : List ℕ) → IfSome (power_of text) (λ power. IsDigits 1 2 text × (power ≡ value_of text))
power_found text =
    if_either (is_digits 1 2 text) (Some (value_of text)) None (λ power. IsDigits 1 2 text × (power ≡ value_of text))
    (λ h. (is_digits-IsDigits 1 2 text h, refl)) (λ h. tt)

raising_found : (mark : ℕ) (sign : Sign) (text digits : List ℕ) (power : Option ℕ) → (mark ≡ 101) ⊎ (mark ≡ 69) → text ≡ sign_text sign ++ digits → raise_of (Some (record { mark = mark; sign = sign; digits = digits })) ≡ value_of digits → drop_of (Some (record { mark = mark; sign = sign; digits = digits })) ≡ 0 → IfSome power (λ power. IsDigits 1 2 digits × (power ≡ value_of digits)) → IfSome (raising power) (λ powers. HasExponent (mark ∷ text) powers.0 powers.1)
raising_found mark sign text digits None marked spelled raises lowers h = tt
raising_found mark sign text digits (Some power) marked spelled raises lowers h = record {
  exponent = Some (record { mark = mark; sign = sign; digits = digits });
  form = record { mark = marked; digits = h.0 };
  spelling = ap (λ (xs : List ℕ). mark ∷ xs) spelled;
  raises = h.1 ∙ sym raises;
  lowers = sym lowers;
}

lowering_found : (mark : ℕ) (digits : List ℕ) (power : Option ℕ) → (mark ≡ 101) ⊎ (mark ≡ 69) → IfSome power (λ power. IsDigits 1 2 digits × (power ≡ value_of digits)) → IfSome (lowering power) (λ powers. HasExponent (mark ∷ (45 ∷ digits)) powers.0 powers.1)
lowering_found mark digits None marked h = tt
lowering_found mark digits (Some power) marked h = record {
  exponent = Some (record { mark = mark; sign = minus; digits = digits });
  form = record { mark = marked; digits = h.0 };
  spelling = refl;
  raises = refl;
  lowers = h.1;
}

signed_found : (mark : ℕ) (text : List ℕ) → (mark ≡ 101) ⊎ (mark ≡ 69) → IfSome (signed_power_of text) (λ powers. HasExponent (mark ∷ text) powers.0 powers.1)
signed_found mark [] marked = tt
signed_found mark (c ∷ cs) marked =
    if_either (c == 45) (lowering (power_of cs)) (cond (c == 43) (raising (power_of cs)) (raising (power_of (c ∷ cs)))) (λ powers. HasExponent (mark ∷ (c ∷ cs)) powers.0 powers.1)
    (λ h. rw (eqb-true c 45 h) (lowering_found mark cs (power_of cs) marked (power_found cs)))
    (λ h. if_either (c == 43) (raising (power_of cs)) (raising (power_of (c ∷ cs))) (λ powers. HasExponent (mark ∷ (c ∷ cs)) powers.0 powers.1)
    (λ k. raising_found mark plus (c ∷ cs) cs (power_of cs) marked (rw (eqb-true c 43 k) refl) refl refl (power_found cs))
    (λ k. raising_found mark bare (c ∷ cs) (c ∷ cs) (power_of (c ∷ cs)) marked refl refl refl (power_found (c ∷ cs))))

exponent_found : (text : List ℕ) → IfSome (exponent_of text) (λ powers. HasExponent text powers.0 powers.1)
exponent_found [] = record { exponent = None; form = tt; spelling = refl; raises = refl; lowers = refl }
exponent_found (c ∷ cs) =
    if_either ((c == 101) || (c == 69)) (signed_power_of cs) None (λ powers. HasExponent (c ∷ cs) powers.0 powers.1)
    (λ h. signed_found c cs (elim (or_cases (c == 101) (c == 69) h) [ inl lower ↦ inl (eqb-true c 101 lower) | inr upper ↦ inr (eqb-true c 69 upper) ]))
    (λ h. tt)

scaled_found : (bytes whole fraction rest : List ℕ) (powers : Option (ℕ × ℕ)) → IsDigits 1 18 whole → IsDigits 0 20 fraction → bytes ≡ whole ++ (fraction_text fraction ++ rest) → IfSome powers (λ powers. HasExponent rest powers.0 powers.1) → IfSome (scaled whole fraction powers) (λ millionths. IsDecimalText bytes millionths)
scaled_found bytes whole fraction rest None form forms spelled h = tt
scaled_found bytes whole fraction rest (Some powers) form forms spelled h =
    let numeral : Numeral = record { whole = whole; fraction = fraction; exponent = h.exponent } in
    let n : ℕ = nearest (value_of (whole ++ fraction) * 10 ^ powers.0 * 1_000_000) (10 ^ (length fraction + powers.1)) in
    if_either (nat_lt n 1_000_000_000_000) (Some n) None (λ millionths. IsDecimalText bytes millionths)
    (λ k. record {
      numeral = record { whole = whole; fraction = fraction; exponent = h.exponent };
      form = record { whole = form; fraction = forms; exponent = h.form };
      spelling = spelled ∙ ap (λ (xs : List ℕ). whole ++ (fraction_text fraction ++ xs)) h.spelling;
      value = rw (h.raises, h.lowers) (nearest_is _ _ (one_le_ten_pow (length fraction + drop_of h.exponent)));
      limit = ltb-true _ _ k;
    })
    (λ k. tt)

behind_found : (bytes whole rest : List ℕ) (parts : Option (List ℕ × List ℕ)) → IsDigits 1 18 whole → bytes ≡ whole ++ rest → IfSome parts (λ parts. IsFraction 20 rest parts.0 parts.1) → IfSome (behind_whole whole parts) (λ millionths. IsDecimalText bytes millionths)
behind_found bytes whole rest None form spelled h = tt
behind_found bytes whole rest (Some parts) form spelled h =
    scaled_found bytes whole parts.0 parts.1 (exponent_of parts.1) form h.form (spelled ∙ ap (λ (xs : List ℕ). whole ++ xs) h.spelling) (exponent_found parts.1)

pub millionths_found : (bytes : List ℕ) → IfSome (millionths_of bytes) (λ millionths. IsDecimalText bytes millionths)
millionths_found bytes =
    if_either (is_digits 1 18 (front_digits bytes)) (behind_whole (front_digits bytes) (fraction_of 20 (behind_digits bytes))) None (λ millionths. IsDecimalText bytes millionths)
    (λ h. behind_found bytes (front_digits bytes) (behind_digits bytes) (fraction_of 20 (behind_digits bytes)) (is_digits-IsDigits 1 18 (front_digits bytes) h) (sym (front-append-behind bytes)) (fraction_found 20 (behind_digits bytes)))
    (λ h. tt)

-- ---- each text is read

-- an exponent begins with neither a digit nor a point
exponent_stop : (exponent : Option Exponent) → IfSome exponent IsExponent → IsStop (exponent_text exponent)
exponent_stop None h = IsStop-none
exponent_stop (Some exponent) h =
    elim h.mark [
      | inl lower ↦ rw lower (IsStop-at 101 (sign_text exponent.sign ++ exponent.digits) refl refl)
      | inr upper ↦ rw upper (IsStop-at 69 (sign_text exponent.sign ++ exponent.digits) refl refl)
    ]

front_none : (fraction rest : List ℕ) → IsStop rest → front_digits (fraction_text fraction ++ rest) ≡ []
front_none [] rest stop = stop.front
front_none (d ∷ ds) rest stop = refl

behind_all : (fraction rest : List ℕ) → IsStop rest → behind_digits (fraction_text fraction ++ rest) ≡ fraction_text fraction ++ rest
behind_all [] rest stop = stop.behind
behind_all (d ∷ ds) rest stop = refl

power_of_digits : (digits : List ℕ) → IsDigits 1 2 digits → power_of digits ≡ Some (value_of digits)
power_of_digits digits h = rw (is_digits-true 1 2 digits h) refl

-- digits begin with no sign
power_of_bare : (digits : List ℕ) → IsDigits 1 2 digits → signed_power_of digits ≡ Some (value_of digits, 0)
power_of_bare [] h = let few = h.enough in absurd (omega arith)
power_of_bare (c ∷ cs) h =
    let both = and_parts (is_ascii_digit c) (are_digits cs) h.digits in
    let range = digit_range c both.0 in
    let not_minus : (c == 45) ≡ false = ne_eqb c 45 (λ e. omega arith) in
    let not_plus : (c == 43) ≡ false = ne_eqb c 43 (λ e. omega arith) in
    let read : (power : Option ℕ) → power ≡ Some (value_of (c ∷ cs)) → raising power ≡ Some (value_of (c ∷ cs), 0) = λ power e. rw e refl in
    rw (not_minus, not_plus) (read (power_of (c ∷ cs)) (power_of_digits (c ∷ cs) h))

signed_power_of_text : (sign : Sign) (digits : List ℕ) → IsDigits 1 2 digits → signed_power_of (sign_text sign ++ digits) ≡ Some (signed_raise sign (value_of digits), signed_drop sign (value_of digits))
signed_power_of_text bare digits h = power_of_bare digits h
signed_power_of_text plus digits h = ap raising (power_of_digits digits h)
signed_power_of_text minus digits h = ap lowering (power_of_digits digits h)

exponent_of_text : (exponent : Option Exponent) → IfSome exponent IsExponent → exponent_of (exponent_text exponent) ≡ Some (raise_of exponent, drop_of exponent)
exponent_of_text None h = refl
exponent_of_text (Some exponent) h =
    let read = signed_power_of_text exponent.sign exponent.digits h.digits in
    elim h.mark [ inl lower ↦ rw lower read | inr upper ↦ rw upper read ]

pub millionths_of_text : (bytes : List ℕ) (millionths : ℕ) → IsDecimalText bytes millionths → millionths_of bytes ≡ Some millionths
millionths_of_text bytes millionths t =
    let exponent : Option Exponent = t.numeral.exponent in
    let stop = exponent_stop t.numeral.exponent t.form.exponent in
    let rest : List ℕ = fraction_text t.numeral.fraction ++ exponent_text t.numeral.exponent in
    let front : front_digits bytes ≡ t.numeral.whole =
    ap front_digits t.spelling ∙ front_digits_at t.numeral.whole rest t.form.whole.digits (front_none t.numeral.fraction _ stop) in
    let behind : behind_digits bytes ≡ fraction_text t.numeral.fraction ++ exponent_text t.numeral.exponent =
    ap behind_digits t.spelling ∙ behind_digits_at t.numeral.whole rest t.form.whole.digits (behind_all t.numeral.fraction _ stop) in
    let parts = fraction_of_text 20 t.numeral.fraction (exponent_text t.numeral.exponent) t.form.fraction stop in
    let whole : is_digits 1 18 t.numeral.whole ≡ true = is_digits-true 1 18 t.numeral.whole t.form.whole in
    let powers = exponent_of_text t.numeral.exponent t.form.exponent in
    let near = nearest_only _ _ millionths t.value in
    let small : nat_lt millionths 1_000_000_000_000 ≡ true = lt-ltb _ _ t.limit in
    let value : scaled t.numeral.whole t.numeral.fraction (Some (raise_of t.numeral.exponent, drop_of t.numeral.exponent)) ≡ Some millionths = ap limited near ∙ rw small refl in
    let step : (front behind : List ℕ) → front ≡ t.numeral.whole → behind ≡ fraction_text t.numeral.fraction ++ exponent_text t.numeral.exponent → cond (is_digits 1 18 front) (behind_whole front (fraction_of 20 behind)) None ≡ Some millionths =
    λ front behind p q. rw (p, q, whole, parts, powers) value in
    step _ _ front behind

-- ---- what is written is read back

-- trailing zeros may be taken off a fraction
pub record IsCut (digits cut : List ℕ) : Type 0 where
  pub shorter : length cut ≤ length digits
  pub kept : are_digits digits ≡ true → are_digits cut ≡ true
  pub value : value_of digits ≡ value_of cut * 10 ^ (length digits - length cut)

cut_value : (a l k m j w v : ℕ) → m ≡ l + k → j ≡ k → v ≡ w * 10 ^ k → a * 10 ^ m + v ≡ (a * 10 ^ l + w) * 10 ^ j
cut_value a l k m j w v long same cut =
    rw (long, same, cut, pow-add 10 l k) (omega arith)

cut_before : (c : ℕ) (cs cut : List ℕ) → IsCut cs cut → IsCut (c ∷ cs) (before c cut)
cut_before c cs [] h =
    let step : (b : Bool) → (c == 48) ≡ b → IsCut (c ∷ cs) (cond b [] (c ∷ [])) = λ b. elim b as (λ b. (c == 48) ≡ b → IsCut (c ∷ cs) (cond b [] (c ∷ []))) [
      | true ↦ λ e. let zero_digit = eqb-true c 48 e in
          record { shorter = omega arith; kept = λ digits. refl; value = rw zero_digit (omega (arith, h.value)) }
      | false ↦ λ e. record {
        shorter = omega arith;
        kept = λ digits. let both = and_parts (is_ascii_digit c) (are_digits cs) digits in and_from _ _ both.0 refl;
        value = cut_value (c - 48) 0 (length cs) (length cs) (length (c ∷ cs) - length (c ∷ [])) 0 (value_of cs) (omega arith) (omega arith) (omega (arith, h.value));
      }
    ] in
    step _ refl
cut_before c cs (d ∷ ds) h =
    record {
      shorter = (let shorter = h.shorter in omega arith);
      kept = λ digits. let both = and_parts (is_ascii_digit c) (are_digits cs) digits in and_from _ _ both.0 (h.kept both.1);
      value =
          let shorter = h.shorter in
          cut_value (c - 48) (length (d ∷ ds)) (length cs - length (d ∷ ds)) (length cs) (length (c ∷ cs) - length (c ∷ d ∷ ds)) (value_of (d ∷ ds)) (value_of cs) (omega arith) (omega arith) h.value;
    }

pub without_trailing_zeros-IsCut : (digits : List ℕ) → IsCut digits (without_trailing_zeros digits)
without_trailing_zeros-IsCut [] = record { shorter = omega arith; kept = λ h. h; value = refl }
without_trailing_zeros-IsCut (c ∷ cs) = cut_before c cs (without_trailing_zeros cs) (without_trailing_zeros-IsCut cs)

pub six_are_digits : (n : ℕ) → are_digits (six_digits n) ≡ true
six_are_digits n = simp digit_is

six_value : (n : ℕ) → n < 1_000_000 → value_of (six_digits n) ≡ n
six_value n h = omega arith

-- the value of a whole part and the digits of the rest, in millionths
written_value : (n w r l v : ℕ) → n ≡ w * 1_000_000 + r → r ≡ v * 10 ^ (6 - l) → l ≤ 6 → (w * 10 ^ l + v) * 10 ^ 0 * 1_000_000 ≡ n * 10 ^ (l + 0)
written_value n w r l v split cut few =
    let no_more : l + 0 ≡ l = omega arith in
    let million : 10 ^ 6 ≡ 10 ^ l * 10 ^ (6 - l) = (let apart : 6 ≡ l + (6 - l) = omega arith in ap (λ (k : ℕ). 10 ^ k) apart ∙ pow-add 10 l (6 - l)) in
    let scaled_rest : r * 10 ^ l ≡ v * 10 ^ (6 - l) * 10 ^ l = ap (λ (k : ℕ). k * 10 ^ l) cut in
    let scaled_value : v * 10 ^ 6 ≡ v * (10 ^ l * 10 ^ (6 - l)) = ap (λ (k : ℕ). v * k) million in
    rw (no_more, split) (omega (arith, scaled_rest, scaled_value))

-- digits before and behind the point spell what they come to
written_text : (n : ℕ) (whole fraction : List ℕ) → IsDigits 1 18 whole → IsDigits 0 20 fraction → value_of (whole ++ fraction) * 10 ^ 0 * 1_000_000 ≡ n * 10 ^ (length fraction + 0) → n < 1_000_000_000_000 → IsDecimalText (whole ++ fraction_text fraction) n
written_text n whole fraction form forms value small = record {
  numeral = record { whole = whole; fraction = fraction; exponent = None };
  form = record { whole = form; fraction = forms; exponent = tt };
  spelling = ap (λ (text : List ℕ). whole ++ text) (sym (append-nil (fraction_text fraction)));
  value = IsNearest-whole _ _ n (one_le_ten_pow (length fraction + 0)) value;
  limit = small;
}

pub decimal_text-IsDecimalText : (n : ℕ) → n < 1_000_000_000_000 → IsDecimalText (decimal_text n) n
unfolding decimal_text
decimal_text-IsDecimalText n small =
    let whole_small : n / 1_000_000 < 10 ^ 6 = omega arith in
    let whole_fits : n / 1_000_000 < 2 ^ 64 = omega arith in
    let cut = without_trailing_zeros-IsCut (six_digits (n % 1_000_000)) in
    let fraction : List ℕ = without_trailing_zeros (six_digits (n % 1_000_000)) in
    let rest_value = sym (six_value (n % 1_000_000) (omega arith)) ∙ cut.value in
    let value = written_value n (n / 1_000_000) (n % 1_000_000) (length fraction) (value_of fraction) (omega arith) rest_value cut.shorter in
    let joined : value_of (decimal (n / 1_000_000) ++ fraction) ≡ n / 1_000_000 * 10 ^ length fraction + value_of fraction =
    value_of-append (decimal (n / 1_000_000)) fraction ∙ ap (λ (v : ℕ). v * 10 ^ length fraction + value_of fraction) (digits_value-decimal own_numerals (n / 1_000_000) whole_fits) in
    written_text n (decimal (n / 1_000_000)) (without_trailing_zeros (six_digits (n % 1_000_000)))
    (record {
      digits = digits_decimal own_numerals (n / 1_000_000) whole_fits;
      enough = (let some = decimal_nonempty (n / 1_000_000) whole_fits in omega arith);
      few = (let few = length-decimal-le 6 (n / 1_000_000) (omega arith) whole_small whole_fits in omega arith);
    })
    (record {
      digits = cut.kept (six_are_digits (n % 1_000_000));
      enough = omega arith;
      few = (let few = cut.shorter in omega arith);
    })
    (ap (λ (v : ℕ). v * 10 ^ 0 * 1_000_000) joined ∙ value) small

-- the text of a decimal is read as that decimal
pub decimal_of-decimal_text : (n : ℕ) → n < 1_000_000_000_000 → decimal_of (decimal_text n) ≡ Ok n
unfolding decimal_of
decimal_of-decimal_text n small =
    ap (λ (read : Option ℕ). ok_or read (record {})) (millionths_of_text (decimal_text n) n (decimal_text-IsDecimalText n small))

-- where the text lies among the digits
pub text_slice : (w r start end : ℕ) → start ≤ 5 → IsInRange 6 13 end → drop start (six_digits w) ≡ decimal w → take (end - 6) (46 ∷ six_digits r) ≡ fraction_text (without_trailing_zeros (six_digits r)) → take (end - start) (drop start (six_digits w ++ (46 ∷ six_digits r))) ≡ decimal w ++ fraction_text (without_trailing_zeros (six_digits r))
text_slice w r start end low range whole rest =
    let size : length (drop start (six_digits w)) ≡ 6 - start = length-drop start (six_digits w) in
    let both : end - start ≡ length (drop start (six_digits w)) + (end - 6) = rw size (let from = range.0 in omega arith) in
    let apart : drop start (six_digits w ++ (46 ∷ six_digits r)) ≡ drop start (six_digits w) ++ (46 ∷ six_digits r) = drop-append-le start (six_digits w) (46 ∷ six_digits r) (omega arith) in
    let step : (front text : List ℕ) → text ≡ front ++ (46 ∷ six_digits r) → end - start ≡ length front + (end - 6) → front ≡ decimal w → take (end - start) text ≡ decimal w ++ fraction_text (without_trailing_zeros (six_digits r)) =
    λ front text p q e. rw (p, q, take-append-add front (46 ∷ six_digits r) (end - 6), rest, e) refl in
    step _ _ apart both whole
