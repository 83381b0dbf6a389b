use Rattle.std.proofs.Common.{◌≡◌, pos, refl, arith, FitsSigned, w16, w64}
use Rattle.std.specs.Int.{int_rem_euclid}
use Rattle.std.proofs.lemmas.Int.{to_z-of_z}
use Rattle.line_base.proofs.Calendar.{day_parts}
use Rattle.jiff_core.proofs.CalendarLemmas.{days_in_month_bounds}
use Rattle.jiff_core.proofs.SignedLemmas.{signed_arith}
use Rattle.line_base.proofs.civil.Fields.at.Goals as goal

pub overflow_cast-result : goal.overflow_cast-result
overflow_cast-result c =
    let small : FitsSigned w16 c.in-Ok.date.year = (let year = c.in-Ok.date.year_in in omega (arith, signed_arith)) in
    let parts = day_parts c.args.millis c.div_euclid.result c.in-Ok.date c.ranges.millis c.requires c.div_euclid.ensures c.in-Ok.ensures.value in
    rw (to_z-of_z w16 _ small, parts.year) (let high = parts.high in (tt, omega arith))

pub returns-clause-same : goal.returns-clause-same
returns-clause-same c =
    let small : FitsSigned w16 c.in-Ok.date.year = (let year = c.in-Ok.date.year_in in omega (arith, signed_arith)) in
    let fits : FitsSigned w64 c.args.millis = c.ranges.millis in
    let rest : c.rem_euclid-time.result ≡ int_rem_euclid c.args.millis (pos 86_400_000) = rw (to_z-of_z w64 _ fits) at c.rem_euclid-time.ensures.value in
    let rest_fits : FitsSigned w64 c.rem_euclid-time.result = omega (arith, signed_arith) in
    let parts = day_parts c.args.millis c.div_euclid.result c.in-Ok.date c.ranges.millis c.requires c.div_euclid.ensures c.in-Ok.ensures.value in
    rw (to_z-of_z w16 _ small, to_z-of_z w64 _ rest_fits, parts.year, parts.month, parts.within, rest) refl

pub returns-clause-shown : goal.returns-clause-shown
returns-clause-shown c =
    let small : FitsSigned w16 c.in-Ok.date.year = (let year = c.in-Ok.date.year_in in omega (arith, signed_arith)) in
    let fits : FitsSigned w64 c.args.millis = c.ranges.millis in
    let rest : c.rem_euclid-time.result ≡ int_rem_euclid c.args.millis (pos 86_400_000) = rw (to_z-of_z w64 _ fits) at c.rem_euclid-time.ensures.value in
    let rest_fits : FitsSigned w64 c.rem_euclid-time.result = omega (arith, signed_arith) in
    let parts = day_parts c.args.millis c.div_euclid.result c.in-Ok.date c.ranges.millis c.requires c.div_euclid.ensures c.in-Ok.ensures.value in
    let month = c.in-Ok.date.month_in in
    let day = c.in-Ok.date.day_in in
    let days = days_in_month_bounds c.in-Ok.date.year c.in-Ok.date.month in
    let below = c.rem_euclid-time.ensures.upper_bound in
    record {
      year = rw (to_z-of_z w16 _ small, parts.year) (let high = parts.high in omega arith);
      month = omega arith;
      day = omega arith;
      hour = rw (to_z-of_z w64 _ rest_fits) (omega arith);
      minute = omega arith;
      second = omega arith;
      milli = omega arith;
    }
