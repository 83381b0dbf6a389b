use Rattle.log_verdict.proofs.Verdicts.{causes_no, causes_yes, checks_no, checks_yes}
use Rattle.log_verdict.proofs.verdict.check_log.Goals as goal

pub returns-in-Ok-clause-checks : goal.returns-in-Ok-clause-checks
returns-in-Ok-clause-checks g c =
    checks_yes (g.S.Source.left c.args.log.now) (g.S.Source.left c.read_log.new.log) (g.K.Sink.contents c.args.verdict.now) (g.K.Sink.contents c.write_yes.new.verdict) (g.K.Sink.faults c.args.verdict.now) (g.K.Sink.faults c.write_yes.new.verdict) c.in-Ok.counts c.write_yes.result c.in-Ok.ensures.ends c.write_yes.ensures

pub returns-in-Ok-clause-causes : goal.returns-in-Ok-clause-causes
returns-in-Ok-clause-causes g c =
    causes_yes (g.K.Sink.contents c.args.verdict.now) (g.K.Sink.contents c.write_yes.new.verdict) _ c.write_yes.result (g.S.Source.faults c.args.log.now) (g.S.Source.faults c.read_log.new.log) (g.K.Sink.faults c.args.verdict.now) (g.K.Sink.faults c.write_yes.new.verdict) c.in-Ok.ensures.cause.stays c.write_yes.ensures

pub returns-in-Err-No-clause-checks : goal.returns-in-Err-No-clause-checks
returns-in-Err-No-clause-checks g c =
    checks_no (g.S.Source.left c.args.log.now) (g.S.Source.left c.read_log.new.log) (g.K.Sink.contents c.args.verdict.now) (g.K.Sink.contents c.write_no.new.verdict) (g.K.Sink.faults c.args.verdict.now) (g.K.Sink.faults c.write_no.new.verdict) c.in-Err-No.line c.in-Err-No.why c.write_no.result (rw c.in-Err-No.field-0-is at c.in-Err-No.ensures.ends) c.write_no.ensures

pub returns-in-Err-No-clause-causes : goal.returns-in-Err-No-clause-causes
returns-in-Err-No-clause-causes g c =
    causes_no c.in-Err-No.line c.in-Err-No.why (g.K.Sink.contents c.args.verdict.now) (g.K.Sink.contents c.write_no.new.verdict) _ c.write_no.result (g.S.Source.faults c.args.log.now) (g.S.Source.faults c.read_log.new.log) (g.K.Sink.faults c.args.verdict.now) (g.K.Sink.faults c.write_no.new.verdict) c.in-Err-No.ensures.cause.stays c.write_no.ensures
