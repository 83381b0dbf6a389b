use Rattle.canonical_frames.proofs.Moments.{time_from}
use Rattle.canonical_frames.proofs.moment.behind_time.Goals as goal

pub returns-then-is_time : goal.returns-then-is_time
returns-then-is_time c =
    let within = c.is_time.ensures c.if-is_time.true in
    time_from c.args.bytes.now c.in_ok-hour.hour.rest.now c.in_ok-at_minute.at_minute.now c.in_ok-minute.minute.rest.now c.in_ok-at_second.at_second.now c.in_ok-second.second.rest.now c.in_ok-at_milli.at_milli.now c.in_ok-quote.quote.now c.in_ok-rest.rest.now
    c.in_ok-hour.hour.number c.in_ok-minute.minute.number c.in_ok-second.second.number
    c.in_ok-hour.ensures c.in_ok-at_minute.ensures c.in_ok-minute.ensures c.in_ok-at_second.ensures c.in_ok-second.ensures c.in_ok-at_milli.ensures c.in_ok-quote.ensures c.in_ok-rest.ensures
    within.0 within.1 within.2
