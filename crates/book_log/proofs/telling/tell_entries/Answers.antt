use Rattle.std.proofs.Common.{arith}
use Rattle.book_log.proofs.Lines.{so_begun, so_more_at, told_error}
use Rattle.book_log.proofs.telling.tell_entries.Goals as goal

pub entries-init : goal.entries-init
entries-init g c = record {
  told = so_begun c.args.drives c.args.machine c.args.node.now c.args.book.now (g.K.Sink.contents c.args.log.now);
  awake = c.requires;
  faults = omega arith;
}

pub entries-preserved : goal.entries-preserved
entries-preserved g c = record {
  told = so_more_at c.args.drives c.args.machine c.args.node.now c.args.book.now c.behind.result.now c.entries.at c.in-Ok-Some.next c.entries.node c.tell_next.new.node (g.K.Sink.contents c.args.log.now) (g.K.Sink.contents c.entries.log) (g.K.Sink.contents c.tell_next.new.log)
      c.in-Ok-Some.field-0 c.in-Ok-Some.field-0-is c.behind.ensures c.entries.invariant.told c.in-Ok-Some.ensures.tells;
  awake = c.in-Ok-Some.ensures.awake;
  faults = omega (arith, c.entries.invariant.faults, c.in-Ok-Some.ensures.cause);
}

pub returns-in-Err-clause-tells : goal.returns-in-Err-clause-tells
returns-in-Err-clause-tells g c =
    told_error c.in-Err.error c.args.drives c.args.machine c.args.node.now c.args.book.now c.behind.result.now c.entries.at c.entries.node c.tell_next.new.node (g.K.Sink.contents c.args.log.now) (g.K.Sink.contents c.entries.log) (g.K.Sink.contents c.tell_next.new.log) c.behind.ensures c.entries.invariant.told c.in-Err.ensures.tells
