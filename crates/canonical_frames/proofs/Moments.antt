-- The text of a moment from the fields of its date and its time of day.
use Rattle.std.proofs.Common.{◌≡◌, ℕ, ◌+◌, ◌*◌, ◌/◌, ◌<◌, ◌≤◌, inl, inr, true, List, [], ◌∷◌, ◌++◌, ◌-◌, refl, sym, ap, ◌∙◌, arith, ℤ, pos, neg_ℤ, ◌+ℤ◌, ◌*ℤ◌, ◌<ℤ◌, ◌≤ℤ◌, to_z, w16, IsTrue, nat_le, subst}
use Rattle.std.proofs.lemmas.Bool.{cases_eq, leb-true}
use Rattle.std.proofs.lemmas.Int.{to_z_pos}
use Rattle.jiff_core.specs.Calendar.{day_count, days_from_civil, days_in_month, IsCivilDate}
use Rattle.jiff_core.specs.declared.civil.date.Date.{Date}
use Rattle.jiff_core.proofs.CalendarLemmas.{days_from_civil-day_count, day_count-later_year, day_count-day_of_year, day_count_bounds}
use Rattle.jiff_core.proofs.MarchLemmas.{day_count-early}
use Rattle.jiff_core.proofs.DateLemmas.{epoch_day_injective}
use Rattle.jiff_core.proofs.SignedLemmas.{signed_arith}
use Rattle.line_base.specs.declared.civil.Fields.{Fields}
use Rattle.line_base.specs.Moment.{IsCivil, IsMomentMillis, millis_at, time_millis, fields_of, fields_text, moment_text, two_digits, three_digits, four_digits}
use Rattle.std.specs.Char.{is_ascii_digit}
use Rattle.line_base.specs.Number.{digit}
use Rattle.line_base.proofs.Digits.{digit_range}
use Rattle.canonical_frames.specs.Values.{IsDate, IsDay, IsTime, IsTwo, IsMilli}
use Rattle.line_base.proofs.MomentTexts.{fields_of-IsCivil}

-- ---- the moments of the years 1 to 9999

first_day : day_count (pos 1) 1 1 ≡ 3_652_791
first_day = day_count-early (pos 1) 10000 1 1 refl (omega arith) (omega arith) (omega arith)

days_range : (y m d : ℕ) → IsCivilDate (pos y) m d → 1 ≤ y → (neg_ℤ (pos 719_162) ≤ℤ days_from_civil (pos y) m d) × (days_from_civil (pos y) m d ≤ℤ pos 2_932_896)
days_range y m d h low =
    let count = days_from_civil-day_count (pos y) m d in
    let bounds = day_count_bounds (pos y) m d h in
    let within = day_count-day_of_year (pos y) m d h.2.0 in
    let first = first_day in
    let from_first : 3_652_791 ≤ day_count (pos y) 1 1 = elim (cases_eq y 1) [
      | inl same ↦ rw (same, first) (omega arith)
      | inr other ↦
          let after : pos 1 <ℤ pos y = omega (arith, signed_arith) in
          let later = day_count-later_year (pos 1) (pos y) (omega (arith, signed_arith)) after in
          omega arith
    ] in
    (omega (arith, signed_arith), omega (arith, signed_arith))

civil_date : (f : Fields) → IsCivil f → IsCivilDate (pos f.year) f.month f.day
civil_date f h = ((let year = h.year in omega (arith, signed_arith), let year = h.year in omega (arith, signed_arith)), h.month, h.day)

pub millis_range : (f : Fields) → IsCivil f → IsMomentMillis (millis_at f)
millis_range f h =
    let days = days_range f.year f.month f.day (civil_date f h) h.year.0 in
    let low = days.0 in
    let high = days.1 in
    let hour = h.hour in
    let minute = h.minute in
    let second = h.second in
    let milli = h.milli in
    (omega (arith, signed_arith), omega (arith, signed_arith))

-- ---- one moment has one date and one time of day

abbrev date_of : (f : Fields) → IsCivil f → Date
date_of f h =
    let civil = civil_date f h in
    record { year = pos f.year; month = f.month; day = f.day; year_in = civil.0; month_in = civil.1; day_in = civil.2 }

below_day : (f : Fields) → IsCivil f → time_millis f < 86_400_000
below_day f h =
    let hour = h.hour in
    let minute = h.minute in
    let second = h.second in
    let milli = h.milli in
    omega arith

split : (a b : ℤ) (t u : ℕ) → t < 86_400_000 → u < 86_400_000 → a *ℤ pos 86_400_000 +ℤ pos t ≡ b *ℤ pos 86_400_000 +ℤ pos u → (a ≡ b) × (t ≡ u)
split a b t u p q e = (omega (arith, signed_arith), omega (arith, signed_arith))

time_split : (h mi s ms h' mi' s' ms' : ℕ) → mi < 60 → s < 60 → ms < 1000 → mi' < 60 → s' < 60 → ms' < 1000
    → ((h * 60 + mi) * 60 + s) * 1000 + ms ≡ ((h' * 60 + mi') * 60 + s') * 1000 + ms' → (h ≡ h') × (mi ≡ mi') × (s ≡ s') × (ms ≡ ms')
time_split h mi s ms h' mi' s' ms' a b c d e f same = (omega arith, omega arith, omega arith, omega arith)

fields_same : (f g : Fields) → f.year ≡ g.year → f.month ≡ g.month → f.day ≡ g.day → f.hour ≡ g.hour → f.minute ≡ g.minute → f.second ≡ g.second → f.milli ≡ g.milli → f ≡ g
fields_same f g y mo d h mi s ms = λ i. record { year = y i; month = mo i; day = d i; hour = h i; minute = mi i; second = s i; milli = ms i }

one_moment : (f g : Fields) → IsCivil f → IsCivil g → millis_at f ≡ millis_at g → f ≡ g
one_moment f g civil other same =
    let parts = split (days_from_civil (pos f.year) f.month f.day) (days_from_civil (pos g.year) g.month g.day) (time_millis f) (time_millis g) (below_day f civil) (below_day g other) same in
    let date = epoch_day_injective (date_of f civil) (date_of g other) parts.0 in
    let time = time_split f.hour f.minute f.second f.milli g.hour g.minute g.second g.milli civil.minute civil.second civil.milli other.minute other.second other.milli parts.1 in
    let year : f.year ≡ g.year = (let y = date.0 in omega (arith, signed_arith)) in
    fields_same f g year date.1 date.2 time.0 time.1 time.2 time.3

-- the text of a moment is that of the fields that it was counted from
pub moment_text-millis_at : (f : Fields) → IsCivil f → moment_text (millis_at f) ≡ fields_text f
unfolding moment_text
moment_text-millis_at f civil =
    let again = fields_of-IsCivil (millis_at f) (millis_range f civil) in
    ap fields_text (one_moment (fields_of (millis_at f)) f again.0 civil again.1)

-- ---- digits one after another

century_digits : (high low : ℕ) → high < 100 → low < 100 → four_digits (high * 100 + low) ≡ two_digits high ++ two_digits low
century_digits high low p q =
    let a : digit ((high * 100 + low) / 1_000) ≡ digit (high / 10) = omega arith in
    let b : digit ((high * 100 + low) / 100) ≡ digit high = omega arith in
    let c : digit ((high * 100 + low) / 10) ≡ digit (low / 10) = omega arith in
    let d : digit (high * 100 + low) ≡ digit low = omega arith in
    λ i. a i ∷ b i ∷ c i ∷ d i ∷ []

milli_digits : (front last : ℕ) → front < 100 → 48 ≤ last → last ≤ 57 → three_digits (front * 10 + (last - 48)) ≡ two_digits front ++ (last ∷ [])
milli_digits front last p low high =
    let a : digit ((front * 10 + (last - 48)) / 100) ≡ digit (front / 10) = omega arith in
    let b : digit ((front * 10 + (last - 48)) / 10) ≡ digit front = omega arith in
    let c : digit (front * 10 + (last - 48)) ≡ last = omega arith in
    λ i. a i ∷ b i ∷ c i ∷ []

pub milli_from : (bytes middle rest : List ℕ) (front last : ℕ) → IsTwo bytes front middle → middle ≡ last ∷ rest → is_ascii_digit last ≡ true → IsMilli bytes rest
milli_from bytes middle rest front last h e are =
    let range = digit_range last are in
    let below = h.below in
    record {
      milli = front * 10 + (last - 48);
      below = omega (arith, range);
      spelled = h.spelled ∙ ap (λ (t : List ℕ). two_digits front ++ t) e ∙ ap (λ (t : List ℕ). t ++ rest) (sym (milli_digits front last below range.0 range.1));
    }

pub date_from : (b0 b1 b2 b3 b4 b5 b6 rest : List ℕ) (century low month day : ℕ) → IsTwo b0 century b1 → IsTwo b1 low b2 → b2 ≡ 45 ∷ b3 → IsTwo b3 month b4 → b4 ≡ 45 ∷ b5 → IsTwo b5 day b6 → b6 ≡ 84 ∷ rest
    → IsDay (century * 100 + low) month day → IsDate b0 rest
date_from b0 b1 b2 b3 b4 b5 b6 rest century low month day h0 h1 e2 h3 e4 h5 e6 fits = record {
  year = century * 100 + low;
  month = month;
  day = day;
  fits = fits;
  spelled =
      h0.spelled ∙ ap (λ (t : List ℕ). two_digits century ++ t) (h1.spelled ∙ ap (λ (t : List ℕ). two_digits low ++ t) (e2 ∙ ap (λ (t : List ℕ). 45 ∷ t) (h3.spelled ∙ ap (λ (t : List ℕ). two_digits month ++ t) (e4 ∙ ap (λ (t : List ℕ). 45 ∷ t)
      (h5.spelled ∙ ap (λ (t : List ℕ). two_digits day ++ t) e6)))))
      ∙ ap (λ (t : List ℕ). t ++ (45 ∷ (two_digits month ++ (45 ∷ (two_digits day ++ (84 ∷ rest)))))) (sym (century_digits century low h0.below h1.below));
}

pub time_from : (b0 b1 b2 b3 b4 b5 b6 b7 rest : List ℕ) (hour minute second : ℕ) → IsTwo b0 hour b1 → b1 ≡ 58 ∷ b2 → IsTwo b2 minute b3 → b3 ≡ 58 ∷ b4 → IsTwo b4 second b5 → b5 ≡ 46 ∷ b6 → IsMilli b6 b7 → b7 ≡ 34 ∷ rest
    → hour < 24 → minute < 60 → second < 60 → IsTime b0 rest
time_from b0 b1 b2 b3 b4 b5 b6 b7 rest hour minute second h0 e1 h2 e3 h4 e5 h6 e7 p q r = record {
  hour = hour;
  minute = minute;
  second = second;
  milli = h6.milli;
  hour_in = p;
  minute_in = q;
  second_in = r;
  milli_in = h6.below;
  spelled =
      h0.spelled ∙ ap (λ (t : List ℕ). two_digits hour ++ t) (e1 ∙ ap (λ (t : List ℕ). 58 ∷ t) (h2.spelled ∙ ap (λ (t : List ℕ). two_digits minute ++ t) (e3 ∙ ap (λ (t : List ℕ). 58 ∷ t)
      (h4.spelled ∙ ap (λ (t : List ℕ). two_digits second ++ t) (e5 ∙ ap (λ (t : List ℕ). 46 ∷ t) (h6.spelled ∙ ap (λ (t : List ℕ). three_digits h6.milli ++ t) e7))))));
}

pub day_from : (year month day last : ℕ) → year < 10_000 → 1 ≤ year → 1 ≤ month → month ≤ 12 → 1 ≤ day → last ≡ days_in_month (to_z w16 year) month → IsTrue (nat_le day last) → IsDay year month day
day_from year month day last small y m0 m1 d is upto =
    let signed : to_z w16 year ≡ pos year = to_z_pos w16 year (omega arith) in
    let end : last ≡ days_in_month (pos year) month = is ∙ ap (λ (z : ℤ). days_in_month z month) signed in
    let within = leb-true day last upto in
    record {
      year_in = (y, omega arith);
      month_in = (m0, m1);
      day_in = (d, subst (λ (n : ℕ). day ≤ n) end within);
    }
