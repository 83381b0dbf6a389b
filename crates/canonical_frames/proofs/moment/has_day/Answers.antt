use Rattle.canonical_frames.proofs.Moments.{day_from}
use Rattle.canonical_frames.proofs.moment.has_day.Goals as goal

pub returns-then-day-ge1 : goal.returns-then-day-ge1
returns-then-day-ge1 c = λ upto.
    let tests = c.if-day-ge1.true in
    day_from c.args.year c.args.month c.args.day c.days_in_month.result c.requires tests.0 tests.1 tests.2 tests.3 c.days_in_month.ensures.value upto
