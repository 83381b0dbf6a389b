-- Days by the calendar, and the dates of days.
use Rattle.std.proofs.Common.{◌≡◌, ℕ, zero, suc, ◌+◌, ◌-◌, ◌<◌, ◌≤◌, inl, inr, Bool, true, false, cond, refl, sym, ap, subst, ◌∙◌, arith, ℤ, pos, neg_ℤ, ◌+ℤ◌, ◌-ℤ◌, ◌<ℤ◌, ◌≤ℤ◌, int_le, unsigned_abs, FitsSigned, to_z, of_z, w64}
use Rattle.std.specs.Int.{IsInRange, int_div_euclid}
use Rattle.std.proofs.lemmas.Bool.{and_parts, and_from, leb-true, le-leb, ltb-true, lt-ltb, cases_eq}
use Rattle.jiff_core.specs.Calendar.{days_in_month, day_count, days_from_civil, IsCivilDate}
use Rattle.jiff_core.specs.Date.{epoch_day}
use Rattle.jiff_core.specs.declared.civil.date.Date.{Date}
use Rattle.jiff_core.proofs.CalendarLemmas.{days_from_civil-day_count, day_count-lt_year, day_count-lt_month, day_count-day_of_year, day_count-day, day_count-end, day_count-next_year, day_count-later_year, day_count_bounds, day_count-next_month, day_count-last_of_year}
use Rattle.jiff_core.proofs.MarchLemmas.{day_count-early}
use Rattle.std.proofs.lemmas.Int.{by_lt_z, ints, to_z-of_z}
use Rattle.jiff_core.proofs.SignedLemmas.{signed_arith, one_part}
use Rattle.line_base.specs.declared.civil.Fields.{Fields}
use Rattle.line_base.specs.Moment.{IsCivil, IsMomentMillis, millis_at, is_civil, year_to, month_to, year_of, month_of, day_of}

-- the parts of a date and a time in seconds that a calendar and a clock have
pub record HasCivil (f : Fields) : Type 0 where
  pub year : IsInRange 1 9999 f.year
  pub month : IsInRange 1 12 f.month
  pub day : IsInRange 1 (days_in_month (pos f.year) f.month) f.day
  pub hour : f.hour < 24
  pub minute : f.minute < 60
  pub second : f.second < 60

pub is_civil_from : (f : Fields) → HasCivil f → is_civil f ≡ true
is_civil_from f h =
    and_from _ _ (and_from _ _ (le-leb _ _ h.year.0) (le-leb _ _ h.year.1))
    (and_from _ _ (and_from _ _ (le-leb _ _ h.month.0) (le-leb _ _ h.month.1))
    (and_from _ _ (and_from _ _ (le-leb _ _ h.day.0) (le-leb _ _ h.day.1))
    (and_from _ _ (lt-ltb _ _ h.hour) (and_from _ _ (lt-ltb _ _ h.minute) (lt-ltb _ _ h.second)))))

pub is_civil_parts : (f : Fields) → is_civil f ≡ true → HasCivil f
is_civil_parts f h =
    let a = and_parts _ _ h in
    let b = and_parts _ _ a.1 in
    let c = and_parts _ _ b.1 in
    let d = and_parts _ _ c.1 in
    let e = and_parts _ _ d.1 in
    let year = and_parts _ _ a.0 in
    let month = and_parts _ _ b.0 in
    let day = and_parts _ _ c.0 in
    record {
      year = (leb-true _ _ year.0, leb-true _ _ year.1);
      month = (leb-true _ _ month.0, leb-true _ _ month.1);
      day = (leb-true _ _ day.0, leb-true _ _ day.1);
      hour = ltb-true _ _ d.0;
      minute = ltb-true _ _ e.0;
      second = ltb-true _ _ e.1;
    }

-- the year of a date is the last that begins on or before it
pub year_to_is : (n y m d : ℕ) (day : ℤ) → IsCivilDate (pos y) m d → day ≡ days_from_civil (pos y) m d → 1 ≤ y → y ≤ n → year_to n day ≡ y
unfolding year_to
year_to_is zero y m d day h e low high = absurd (omega arith)
year_to_is (suc n) y m d day h e low high =
    elim (cases_eq y (suc n)) [
      | inl same ↦
          let begun : int_le (days_from_civil (pos (suc n)) 1 1) day ≡ true =
          rw (← same, e) (let a = day_count-day_of_year (pos y) m d h.2.0 in let b = days_from_civil-day_count (pos y) m d in let k = days_from_civil-day_count (pos y) 1 1 in grind (arith, signed_arith)) in
          rw begun (sym same)
      | inr other ↦
          let later : pos y <ℤ pos (suc n) = omega (arith, signed_arith) in
          let before = day_count-lt_year (pos y) m d (pos (suc n)) 1 1 h (omega arith) later in
          let not_begun : int_le (days_from_civil (pos (suc n)) 1 1) day ≡ false =
          rw e (let b = days_from_civil-day_count (pos y) m d in let k = days_from_civil-day_count (pos (suc n)) 1 1 in grind (arith, signed_arith)) in
          rw not_begun (year_to_is n y m d day h e low (omega arith))
    ]

-- and likewise the month within the year
pub month_to_is : (n y m d : ℕ) (day : ℤ) → IsCivilDate (pos y) m d → day ≡ days_from_civil (pos y) m d → 1 ≤ m → m ≤ n → month_to n y day ≡ m
unfolding month_to
month_to_is zero y m d day h e low high = absurd (omega arith)
month_to_is (suc n) y m d day h e low high =
    elim (cases_eq m (suc n)) [
      | inl same ↦
          let begun : int_le (days_from_civil (pos y) (suc n) 1) day ≡ true =
          rw (← same, e) (let a = day_count-day (pos y) m d 1 h.2.0 (omega arith) in let b = days_from_civil-day_count (pos y) m d in let k = days_from_civil-day_count (pos y) m 1 in grind (arith, signed_arith)) in
          rw begun (sym same)
      | inr other ↦
          let before = day_count-lt_month (pos y) m d (suc n) 1 h (omega arith) (omega arith) in
          let not_begun : int_le (days_from_civil (pos y) (suc n) 1) day ≡ false =
          rw e (let b = days_from_civil-day_count (pos y) m d in let k = days_from_civil-day_count (pos y) (suc n) 1 in grind (arith, signed_arith)) in
          rw not_begun (month_to_is n y m d day h e low (omega arith))
    ]

-- the date of a day
pub year_of_is : (y m d : ℕ) (day : ℤ) → IsCivilDate (pos y) m d → day ≡ days_from_civil (pos y) m d → 1 ≤ y → y ≤ 9999 → year_of day ≡ y
unfolding year_of
year_of_is y m d day h e low high = year_to_is 9999 y m d day h e low high

pub month_of_is : (y m d : ℕ) (day : ℤ) → IsCivilDate (pos y) m d → day ≡ days_from_civil (pos y) m d → 1 ≤ y → y ≤ 9999 → month_of day ≡ m
unfolding month_of
month_of_is y m d day h e low high =
    rw (year_of_is y m d day h e low high) (month_to_is 12 y m d day h e h.1.0 h.1.1)

pub day_of_is : (y m d : ℕ) (day : ℤ) → IsCivilDate (pos y) m d → day ≡ days_from_civil (pos y) m d → 1 ≤ y → y ≤ 9999 → day_of day ≡ d
unfolding day_of
day_of_is y m d day h e low high =
    rw (year_of_is y m d day h e low high, month_of_is y m d day h e low high, e)
    (let a = day_count-day (pos y) m d 1 h.2.0 (omega arith) in
    let b = days_from_civil-day_count (pos y) m d in
    let k = days_from_civil-day_count (pos y) m 1 in
    let apart : days_from_civil (pos y) m d -ℤ days_from_civil (pos y) m 1 ≡ pos (d - 1) = omega (arith, signed_arith) in
    rw apart (let first = h.2.0 in omega arith))

-- the first day of the year 1
pub day_count-first_year : day_count (pos 1) 1 1 ≡ 3_652_791
day_count-first_year = day_count-early (pos 1) 10000 1 1 refl (omega arith) (omega arith) (omega arith)

-- a date that lies on or after it has a year from 1 on
pub year-from_one : (y : ℤ) (m d : ℕ) → IsCivilDate y m d → neg_ℤ (pos 719_162) ≤ℤ days_from_civil y m d → pos 1 ≤ℤ y
year-from_one y m d h low =
    by_lt_z y (pos 1)
    (λ early. let before = day_count-lt_year y m d (pos 1) 1 1 h (omega arith) early in
    let count = days_from_civil-day_count y m d in
    let first = day_count-first_year in
    absurd (omega (arith, signed_arith)))
    (λ late. late)

-- a test of days as a fact
begun-true : (a b : ℤ) → int_le a b ≡ true → a ≤ℤ b
begun-true a b h = grind (arith, ints)

begun-false : (a b : ℤ) → int_le a b ≡ false → b <ℤ a
begun-false a b h = grind (arith, ints)

-- where a year of a day lies
pub record IsYearOf (y n : ℕ) (day : ℤ) : Type 0 where
  pub low : 1 ≤ y
  pub high : y ≤ n
  pub begun : days_from_civil (pos y) 1 1 ≤ℤ day
  pub next : day <ℤ days_from_civil (pos (y + 1)) 1 1

pub year_to_bounds : (n : ℕ) (day : ℤ) → neg_ℤ (pos 719_162) ≤ℤ day → day <ℤ days_from_civil (pos (n + 1)) 1 1 → IsYearOf (year_to n day) n day
unfolding year_to
year_to_bounds zero day low high =
    let count = days_from_civil-day_count (pos 1) 1 1 in
    let first = day_count-first_year in
    absurd (omega (arith, signed_arith))
year_to_bounds (suc n) day low high =
    let next : suc n + 1 ≡ suc (suc n) = omega arith in
    let step : (b : Bool) → int_le (days_from_civil (pos (suc n)) 1 1) day ≡ b → IsYearOf (cond b (suc n) (year_to n day)) (suc n) day =
    λ b. elim b as (λ b. int_le (days_from_civil (pos (suc n)) 1 1) day ≡ b → IsYearOf (cond b (suc n) (year_to n day)) (suc n) day) [
      | true ↦ λ e. record { low = omega arith; high = omega arith; begun = begun-true _ _ e; next = high }
      | false ↦ λ e.
          let same : n + 1 ≡ suc n = omega arith in
          let below : day <ℤ days_from_civil (pos (n + 1)) 1 1 = rw same (begun-false _ _ e) in
          let found = year_to_bounds n day low below in
          record { low = found.low; high = (let h = found.high in omega arith); begun = found.begun; next = found.next }
    ] in
    step _ refl

pub record IsMonthOf (m n y : ℕ) (day : ℤ) : Type 0 where
  pub low : 1 ≤ m
  pub high : m ≤ n
  pub begun : days_from_civil (pos y) m 1 ≤ℤ day
  pub next : day <ℤ days_from_civil (pos y) (m + 1) 1

pub month_to_bounds : (n y : ℕ) (day : ℤ) → days_from_civil (pos y) 1 1 ≤ℤ day → day <ℤ days_from_civil (pos y) (n + 1) 1 → IsMonthOf (month_to n y day) n y day
unfolding month_to
month_to_bounds zero y day low high = absurd (omega (arith, signed_arith))
month_to_bounds (suc n) y day low high =
    let step : (b : Bool) → int_le (days_from_civil (pos y) (suc n) 1) day ≡ b → IsMonthOf (cond b (suc n) (month_to n y day)) (suc n) y day =
    λ b. elim b as (λ b. int_le (days_from_civil (pos y) (suc n) 1) day ≡ b → IsMonthOf (cond b (suc n) (month_to n y day)) (suc n) y day) [
      | true ↦ λ e. record { low = omega arith; high = omega arith; begun = begun-true _ _ e; next = high }
      | false ↦ λ e.
          let same : n + 1 ≡ suc n = omega arith in
          let below : day <ℤ days_from_civil (pos y) (n + 1) 1 = rw same (begun-false _ _ e) in
          let found = month_to_bounds n y day low below in
          record { low = found.low; high = (let h = found.high in omega arith); begun = found.begun; next = found.next }
    ] in
    step _ refl

-- the date of a day is the calendar's date with that day number
pub record IsDateOf (day : ℤ) : Type 0 where
  pub year : IsInRange 1 9999 (year_of day)
  pub month : IsInRange 1 12 (month_of day)
  pub within : IsInRange 1 (days_in_month (pos (year_of day)) (month_of day)) (day_of day)
  pub value : days_from_civil (pos (year_of day)) (month_of day) (day_of day) ≡ day

year_of_found : (day : ℤ) → neg_ℤ (pos 719_162) ≤ℤ day → day ≤ℤ pos 2_932_896 → IsYearOf (year_of day) 9999 day
unfolding year_of
year_of_found day low high =
    let count = days_from_civil-day_count (pos 10000) 1 1 in
    let end = day_count-end in
    year_to_bounds 9999 day low (omega (arith, signed_arith))

month_of_found : (day : ℤ) → IsYearOf (year_of day) 9999 day → IsMonthOf (month_of day) 12 (year_of day) day
unfolding month_of
month_of_found day found =
    let y : ℕ = year_of day in
    let begun = found.begun in
    let next = found.next in
    let following = day_count-next_year (pos y) (pos (y + 1)) (omega (arith, signed_arith)) (omega (arith, signed_arith)) in
    let last = day_count-next_month (pos y) 12 (omega arith) in
    let december = day_count-last_of_year (pos y) in
    let first = day_count-day (pos y) 12 31 1 (omega arith) (omega arith) in
    let a = days_from_civil-day_count (pos y) 13 1 in
    let b = days_from_civil-day_count (pos (y + 1)) 1 1 in
    month_to_bounds 12 y day begun (omega (arith, signed_arith))

pub date_of_day : (day : ℤ) → neg_ℤ (pos 719_162) ≤ℤ day → day ≤ℤ pos 2_932_896 → IsDateOf day
unfolding day_of
date_of_day day low high =
    let year = year_of_found day low high in
    let month = month_of_found day year in
    let begun = month.begun in
    let next = month.next in
    let following = day_count-next_month (pos (year_of day)) (month_of day) month.low in
    let a = days_from_civil-day_count (pos (year_of day)) (month_of day) 1 in
    let b = days_from_civil-day_count (pos (year_of day)) (month_of day + 1) 1 in
    let k : ℕ = unsigned_abs (day -ℤ days_from_civil (pos (year_of day)) (month_of day) 1) in
    let apart : day ≡ days_from_civil (pos (year_of day)) (month_of day) 1 +ℤ pos k = omega (arith, signed_arith, one_part (day -ℤ days_from_civil (pos (year_of day)) (month_of day) 1)) in
    let within = day_count-day (pos (year_of day)) (month_of day) (k + 1) 1 (omega arith) (omega arith) in
    let d = days_from_civil-day_count (pos (year_of day)) (month_of day) (k + 1) in
    record {
      year = (year.low, year.high);
      month = (month.low, month.high);
      within = (omega arith, omega (arith, signed_arith));
      value = omega (arith, signed_arith);
    }

-- and a date that the calendar has is the date of its day
pub record AreParts (y : ℤ) (m d : ℕ) (day : ℤ) : Type 0 where
  pub year : y ≡ pos (year_of day)
  pub month : m ≡ month_of day
  pub within : d ≡ day_of day
  pub high : year_of day ≤ 9999

pub date_parts : (z : ℤ) (m d : ℕ) (day : ℤ) → IsCivilDate z m d → days_from_civil z m d ≡ day → neg_ℤ (pos 719_162) ≤ℤ day → AreParts z m d day
date_parts z m d day h e low =
    let y : ℕ = unsigned_abs z in
    let from_one = year-from_one z m d h (subst (λ (day : ℤ). neg_ℤ (pos 719_162) ≤ℤ day) (sym e) low) in
    let same : z ≡ pos y = omega (arith, signed_arith, one_part z) in
    let here : IsCivilDate (pos y) m d = subst (λ (z : ℤ). IsCivilDate z m d) same h in
    let at_day : day ≡ days_from_civil (pos y) m d = sym (subst (λ (z : ℤ). days_from_civil z m d ≡ day) same e) in
    let first : 1 ≤ y = omega (arith, signed_arith) in
    let last : y ≤ 9999 = (let year = here.0 in omega (arith, signed_arith)) in
    let year = year_of_is y m d day here at_day first last in
    record {
      year = same ∙ ap (λ (n : ℕ). pos n) (sym year);
      month = sym (month_of_is y m d day here at_day first last);
      within = sym (day_of_is y m d day here at_day first last);
      high = rw year last;
    }

-- what `jiff` answers for the day of a moment
pub day_parts : (millis q : ℤ) (date : Date) → FitsSigned w64 millis → IsMomentMillis millis → q ≡ int_div_euclid (to_z w64 (of_z w64 millis)) (pos 86_400_000) → epoch_day date ≡ to_z w64 (of_z w64 q) → AreParts date.year date.month date.day (int_div_euclid millis (pos 86_400_000))
day_parts millis q date fits range quotient e =
    let day : q ≡ int_div_euclid millis (pos 86_400_000) = rw (to_z-of_z w64 _ fits) at quotient in
    let low : neg_ℤ (pos 719_162) ≤ℤ int_div_euclid millis (pos 86_400_000) = omega (arith, signed_arith) in
    let day_fits : FitsSigned w64 q = omega (arith, signed_arith) in
    date_parts date.year date.month date.day _ (date.year_in, date.month_in, date.day_in) (e ∙ (to_z-of_z w64 _ day_fits ∙ day)) low

-- the days of the years 1 to 9999
pub days_range : (y m d : ℕ) → IsCivilDate (pos y) m d → 1 ≤ y → (neg_ℤ (pos 719_162) ≤ℤ days_from_civil (pos y) m d) × (days_from_civil (pos y) m d ≤ℤ pos 2_932_896)
days_range y m d h low =
    let count = days_from_civil-day_count (pos y) m d in
    let bounds = day_count_bounds (pos y) m d h in
    let within = day_count-day_of_year (pos y) m d h.2.0 in
    let first = day_count-first_year in
    let from_first : 3_652_791 ≤ day_count (pos y) 1 1 = elim (cases_eq y 1) [
      | inl same ↦ rw (same, first) (omega arith)
      | inr other ↦
          let after : pos 1 <ℤ pos y = omega (arith, signed_arith) in
          let later = day_count-later_year (pos 1) (pos y) (omega (arith, signed_arith)) after in
          omega arith
    ] in
    (omega (arith, signed_arith), omega (arith, signed_arith))

pub millis_range : (f : Fields) → IsCivil f → IsMomentMillis (millis_at f)
millis_range f h =
    let days = days_range f.year f.month f.day ((omega (arith, signed_arith), omega (arith, signed_arith)), h.month, h.day) h.year.0 in
    let low = days.0 in
    let high = days.1 in
    (omega (arith, signed_arith), omega (arith, signed_arith))
