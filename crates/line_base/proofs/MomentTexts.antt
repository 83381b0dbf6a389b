-- The texts of moments: what is read, and that what is written is read back.
use Rattle.std.proofs.Common.{◌≡◌, ℕ, ◌+◌, ◌*◌, ◌/◌, ◌%◌, ◌<◌, inl, inr, Bool, true, false, cond, ◌||◌, ◌==◌, List, [], ◌∷◌, ◌++◌, length, length-take, take, drop, refl, sym, ap, subst, ◌∙◌, arith, Option, Some, None, IfSome, Ok, ok_or, codes, bytes_eq, ℤ, pos, unsigned_abs}
use Rattle.std.specs.Char.{is_ascii_digit}
use Rattle.std.specs.Int.{int_div_euclid, int_rem_euclid}
use Rattle.std.proofs.lemmas.Bool.{and_parts, or_cases, eqb-true}
use Rattle.std.proofs.lemmas.List.{take_at, drop_at, take-append-drop}
use Rattle.jiff_core.proofs.CalendarLemmas.{days_in_month_bounds}
use Rattle.jiff_core.proofs.SignedLemmas.{signed_arith}
use Rattle.line_base.specs.declared.civil.Fields.{Fields}
use Rattle.line_base.specs.Number.{IsDigits, value_of, digit, fraction_text, fraction_of}
use Rattle.line_base.specs.Moment.{IsCivil, IsShown, IsMomentMillis, IsMomentText, millis_at, millis_of, moment_of, moment_text, has_form, is_offset, is_civil, counted, behind_seconds, seconds_form, fields_of_text, fields_of, milli_of, two_digits, three_digits, four_digits}
use Rattle.line_base.proofs.Digits.{IsFraction, fraction_found, fraction_of_text, IsStop, IsStop-none, IsStop-at, value_of-few, are_digits-take, are_digits-both, digit_is}
use Rattle.line_base.proofs.Calendar.{is_civil_from, is_civil_parts, date_of_day}

-- ---- what is read has the value that its text says

milli-below : (fraction : List ℕ) → IsDigits 0 9 fraction → milli_of fraction < 1000
milli-below fraction form =
    let digits = are_digits-take 3 (fraction ++ codes "000") (are_digits-both fraction (codes "000") form.digits refl) in
    value_of-few (take 3 (fraction ++ codes "000")) 3 digits (omega (arith, length-take 3 (fraction ++ codes "000")))

if_some : {A : Type 0} (b : Bool) (o : Option A) (P : A → Type 0) → (b ≡ true → IfSome o P) → IfSome (cond b o None) P
if_some true o P h = h refl
if_some false o P h = tt

counted_found : (seconds fraction : List ℕ) → IsDigits 0 9 fraction → IfSome (counted (fields_of_text seconds fraction)) (λ millis. IsCivil (fields_of_text seconds fraction) × (millis ≡ millis_at (fields_of_text seconds fraction)))
counted_found seconds fraction form =
    if_some (is_civil (fields_of_text seconds fraction)) (Some (millis_at (fields_of_text seconds fraction))) (λ millis. IsCivil (fields_of_text seconds fraction) × (millis ≡ millis_at (fields_of_text seconds fraction))) (λ e.
    let has = is_civil_parts (fields_of_text seconds fraction) e in
    (record { year = has.year; month = has.month; day = has.day; hour = has.hour; minute = has.minute; second = has.second; milli = milli-below fraction form }, refl))

if_some_weaker : {A : Type 0} (o : Option A) (P Q : A → Type 0) → ((x : A) → P x → Q x) → IfSome o P → IfSome o Q
if_some_weaker None P Q h p = tt
if_some_weaker (Some x) P Q h p = h x p

behind_found : (bytes seconds rest : List ℕ) (parts : Option (List ℕ × List ℕ)) → has_form seconds_form seconds ≡ true → bytes ≡ seconds ++ rest → IfSome parts (λ parts. IsFraction 9 rest parts.0 parts.1) → IfSome (behind_seconds seconds parts) (λ millis. IsMomentText bytes millis)
behind_found bytes seconds rest None form spelling found = tt
behind_found bytes seconds rest (Some parts) form spelling found =
    if_some (is_offset parts.1) (counted (fields_of_text seconds parts.0)) (λ millis. IsMomentText bytes millis) (λ zone.
    if_some_weaker (counted (fields_of_text seconds parts.0)) (λ millis. IsCivil (fields_of_text seconds parts.0) × (millis ≡ millis_at (fields_of_text seconds parts.0))) (λ millis. IsMomentText bytes millis) (λ millis counts. record {
      seconds = seconds;
      fraction = parts.0;
      offset = parts.1;
      spelling = spelling ∙ ap (λ (xs : List ℕ). seconds ++ xs) found.spelling;
      form = form;
      digits = found.form;
      zone = zone;
      civil = counts.0;
      value = counts.1;
    })
    (counted_found seconds parts.0 found.form))

pub millis_found : (bytes : List ℕ) → IfSome (millis_of bytes) (λ millis. IsMomentText bytes millis)
millis_found bytes =
    if_some (has_form seconds_form (take 19 bytes)) (behind_seconds (take 19 bytes) (fraction_of 9 (drop 19 bytes))) (λ millis. IsMomentText bytes millis) (λ form.
    behind_found bytes (take 19 bytes) (drop 19 bytes) (fraction_of 9 (drop 19 bytes)) form (sym (take-append-drop 19 bytes)) (fraction_found 9 (drop 19 bytes)))

-- ---- each text is read

stop_from : (c k : ℕ) (cs : List ℕ) → c ≡ k → is_ascii_digit k ≡ false → (k == 46) ≡ false → IsStop (c ∷ cs)
stop_from c k cs same digit point = rw same (IsStop-at k cs digit point)

-- an offset begins with neither a digit nor a point
pub offset_stop : (offset : List ℕ) → is_offset offset ≡ true → IsStop offset
offset_stop [] h = IsStop-none
offset_stop (c ∷ cs) h =
    elim (or_cases (bytes_eq (c ∷ cs) [] || bytes_eq (c ∷ cs) (codes "Z")) _ h) [
      | inl zulu ↦ stop_from c 90 cs (eqb-true c 90 (and_parts (c == 90) _ zulu).0) refl refl
      | inr signed ↦
          elim (or_cases (has_form (codes "+dd:dd") (c ∷ cs)) (has_form (codes "-dd:dd") (c ∷ cs)) (and_parts _ _ (and_parts _ _ signed).0).0) [
            | inl plus ↦ stop_from c 43 cs (sym (eqb-true 43 c (and_parts (43 == c) _ (and_parts (6 == length (c ∷ cs)) _ plus).1).0)) refl refl
            | inr minus ↦ stop_from c 45 cs (sym (eqb-true 45 c (and_parts (45 == c) _ (and_parts (6 == length (c ∷ cs)) _ minus).1).0)) refl refl
          ]
    ]

pub millis_of_text : (bytes : List ℕ) (millis : ℤ) → IsMomentText bytes millis → millis_of bytes ≡ Some millis
millis_of_text bytes millis t =
    let sizes = and_parts (length seconds_form == length t.seconds) _ t.form in
    let size : length t.seconds ≡ 19 = sym (eqb-true _ _ sizes.0) in
    let front : take 19 bytes ≡ t.seconds = ap (take 19) t.spelling ∙ take_at t.seconds _ 19 size in
    let rest : drop 19 bytes ≡ fraction_text t.fraction ++ t.offset = ap (drop 19) t.spelling ∙ drop_at t.seconds _ 19 size in
    let parts : fraction_of 9 (fraction_text t.fraction ++ t.offset) ≡ Some (t.fraction, t.offset) = fraction_of_text 9 t.fraction t.offset t.digits (offset_stop t.offset t.zone) in
    let has : is_civil (fields_of_text t.seconds t.fraction) ≡ true = is_civil_from (fields_of_text t.seconds t.fraction) (record { year = t.civil.year; month = t.civil.month; day = t.civil.day; hour = t.civil.hour; minute = t.civil.minute; second = t.civil.second }) in
    let step : (front rest : List ℕ) → front ≡ t.seconds → rest ≡ fraction_text t.fraction ++ t.offset → cond (has_form seconds_form front) (behind_seconds front (fraction_of 9 rest)) None ≡ Some millis =
    λ front rest p q. rw (p, q, t.form, parts, t.zone, has, t.value) refl in
    step _ _ front rest

-- ---- what is written is read back

-- the values of digits
four_value : (n : ℕ) → n < 10_000 → value_of (four_digits n) ≡ n
four_value n h = omega arith

three_value : (n : ℕ) → n < 1_000 → value_of (three_digits n) ≡ n
three_value n h = omega arith

two_value : (n : ℕ) → n < 100 → value_of (two_digits n) ≡ n
two_value n h = omega arith

-- the fields of a moment are those of a calendar and a clock, and count as the moment
pub fields_of-IsCivil : (millis : ℤ) → IsMomentMillis millis → IsCivil (fields_of millis) × (millis_at (fields_of millis) ≡ millis)
fields_of-IsCivil millis h =
    let day : ℤ = int_div_euclid millis (pos 86_400_000) in
    let time : ℕ = unsigned_abs (int_rem_euclid millis (pos 86_400_000)) in
    let low = h.0 in
    let high = h.1 in
    let date = date_of_day day (omega (arith, signed_arith)) (omega (arith, signed_arith)) in
    let below : time < 86_400_000 = omega (arith, signed_arith) in
    let counts : time ≡ ((time / 1_000 / 60 / 60 * 60 + time / 1_000 / 60 % 60) * 60 + time / 1_000 % 60) * 1_000 + time % 1_000 = omega arith in (
      record {
        year = date.year;
        month = date.month;
        day = date.within;
        hour = omega arith;
        minute = omega arith;
        second = omega arith;
        milli = omega arith;
      },
      rw (date.value, sym counts) (omega (arith, signed_arith)),
    )

-- the first 19 bytes of a moment's text
abbrev front_of : Fields → List ℕ
front_of f =
    four_digits f.year ++ (45 ∷ (two_digits f.month ++ (45 ∷ (two_digits f.day
    ++ (84 ∷ (two_digits f.hour ++ (58 ∷ (two_digits f.minute ++ (58 ∷ two_digits f.second)))))))))

fields_same : (f : Fields) (y mo d h mi s ms : ℕ) → y ≡ f.year → mo ≡ f.month → d ≡ f.day → h ≡ f.hour → mi ≡ f.minute → s ≡ f.second → ms ≡ f.milli → record { year = y; month = mo; day = d; hour = h; minute = mi; second = s; milli = ms } ≡ f
fields_same f y mo d h mi s ms a b c d' e g i = rw (a, b, c, d', e, g, i) refl

fields_of_text-shown : (f : Fields) → IsShown f → fields_of_text (front_of f) (three_digits f.milli) ≡ f
fields_of_text-shown f h =
    fields_same f _ _ _ _ _ _ _ (four_value f.year h.year) (two_value f.month h.month) (two_value f.day h.day) (two_value f.hour h.hour) (two_value f.minute h.minute) (two_value f.second h.second) (three_value f.milli h.milli)

shown_from : (f : Fields) → IsCivil f → IsShown f
shown_from f h =
    let days = days_in_month_bounds (pos f.year) f.month in
    let year = h.year in
    let month = h.month in
    let day = h.day in
    record {
      year = omega arith;
      month = omega arith;
      day = omega arith;
      hour = (let hour = h.hour in omega arith);
      minute = (let minute = h.minute in omega arith);
      second = (let second = h.second in omega arith);
      milli = h.milli;
    }

front_has_form : (f : Fields) → has_form seconds_form (front_of f) ≡ true
front_has_form f = simp digit_is

three_are_digits : (n : ℕ) → IsDigits 0 9 (three_digits n)
three_are_digits n = record { digits = simp digit_is; enough = omega arith; few = omega arith }

pub moment_text-IsMomentText : (millis : ℤ) → IsMomentMillis millis → IsMomentText (moment_text millis) millis
unfolding moment_text
moment_text-IsMomentText millis h =
    let counts = fields_of-IsCivil millis h in
    let same = fields_of_text-shown (fields_of millis) (shown_from (fields_of millis) counts.0) in
    record {
      seconds = front_of (fields_of millis);
      fraction = three_digits (fields_of millis).milli;
      offset = [];
      spelling = refl;
      form = front_has_form (fields_of millis);
      digits = three_are_digits (fields_of millis).milli;
      zone = refl;
      civil = subst (λ (f : Fields). IsCivil f) (sym same) counts.0;
      value = sym (ap millis_at same ∙ counts.1);
    }

-- the text of a moment is read as that moment
pub moment_of-moment_text : (millis : ℤ) → IsMomentMillis millis → moment_of (moment_text millis) ≡ Ok millis
unfolding moment_of
moment_of-moment_text millis h =
    ap (λ (read : Option ℤ). ok_or read (record {})) (millis_of_text (moment_text millis) millis (moment_text-IsMomentText millis h))
