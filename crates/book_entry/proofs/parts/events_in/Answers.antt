use Rattle.book_entry.proofs.Counted.{events_end, put_at, stop_at}
use Rattle.book_entry.proofs.parts.events_in.Goals as goal

pub returns-in-Err : goal.returns-in-Err
returns-in-Err c =
    stop_at c.args.count c.loop-i.i c.args.bytes.now c.behind.result.now c.loop-i.events c.push_next.new.events c.in-Err.error c.loop-i-test.true c.loop-i.invariant c.behind.ensures c.in-Err.ensures

pub loop-i-preserved : goal.loop-i-preserved
loop-i-preserved c =
    put_at c.args.count c.loop-i.i c.args.bytes.now c.behind.result.now c.loop-i.events c.push_next.new.events c.loop-i-test.true c.loop-i.invariant c.behind.ensures c.in-Ok.ensures

pub returns : goal.returns
returns c = events_end c.args.count c.loop-i.i c.args.bytes.now c.loop-i.events c.loop-i-test.false c.loop-i.invariant
