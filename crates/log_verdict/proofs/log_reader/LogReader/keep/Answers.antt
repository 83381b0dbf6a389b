use Rattle.std.proofs.Common.{[], append-nil}
use Rattle.log_verdict.proofs.Following.{kept, on_never}
use Rattle.log_verdict.proofs.log_reader.LogReader.keep.Goals as goal

pub returns-then-part-len-clause-takes : goal.returns-then-part-len-clause-takes
returns-then-part-len-clause-takes c = λ bytes follows. rw append-nil at (c.refuse_long.ensures.refuses bytes [] follows)

pub returns-then-part-len-clause-progress : goal.returns-then-part-len-clause-progress
returns-then-part-len-clause-progress c = on_never _ c.refuse_long.result c.refuse_long.ensures.never

pub returns-then-part-len-clause-bounded : goal.returns-then-part-len-clause-bounded
returns-then-part-len-clause-bounded c = on_never _ c.refuse_long.result c.refuse_long.ensures.never

pub returns-in-Ok-clause-takes : goal.returns-in-Ok-clause-takes
returns-in-Ok-clause-takes c = λ bytes follows.
    let old = c.args.self.now in
    rw (← c.in-Ok.ensures.items) at (kept bytes old.pending.items c.args.part.now old.checker follows)
