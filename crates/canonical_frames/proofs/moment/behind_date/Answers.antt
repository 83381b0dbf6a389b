use Rattle.canonical_frames.proofs.Moments.{date_from}
use Rattle.canonical_frames.proofs.moment.behind_date.Goals as goal

pub returns : goal.returns
returns c =
    date_from c.args.bytes.now c.in_ok-century.century.rest.now c.in_ok-year.year.rest.now c.in_ok-at_month.at_month.now c.in_ok-month.month.rest.now c.in_ok-at_day.at_day.now c.in_ok-day.day.rest.now c.in_ok-rest.rest.now
    c.in_ok-century.century.number c.in_ok-year.year.number c.in_ok-month.month.number c.in_ok-day.day.number
    c.in_ok-century.ensures c.in_ok-year.ensures c.in_ok-at_month.ensures c.in_ok-month.ensures c.in_ok-at_day.ensures c.in_ok-day.ensures c.in_ok-rest.ensures
    (c.has_day.ensures c.if-not-has_day.false)
