use Rattle.line_acts.proofs.DoneActs.{on_any_err, told_nothing}
use Rattle.line_acts.proofs.acts.tell_act.Goals as goal

pub returns-in_err-tell-clause-part : goal.returns-in_err-tell-clause-part
returns-in_err-tell-clause-part c = on_any_err c.from_residual.result (told_nothing c.args.told.now _ c.tell.new.self c.in_err-tell.ensures.unchanged)
