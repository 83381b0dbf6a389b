use Rattle.restart_book.proofs.Replaying.{more_at}
use Rattle.restart_book.proofs.replay.replay.Goals as goal

pub entries-preserved : goal.entries-preserved
entries-preserved c = record {
  reached = more_at c.args.node.now c.args.drives.now c.entries.drives c.step_next.new.drives c.args.book.now c.behind.result.now c.entries.at c.in-Ok-Some.size c.entries.node c.step_next.new.node c.in-Ok-Some.field-0 c.in-Ok-Some.field-0-is c.entries.invariant.reached c.behind.ensures c.in-Ok-Some.ensures.next;
  awake = c.in-Ok-Some.ensures.awake;
}
