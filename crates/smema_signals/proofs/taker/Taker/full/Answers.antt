use Rattle.std.proofs.Common.{sym, ap, ◌∙◌}
use Rattle.smema_signals.specs.Taker.{with_ready}
use Rattle.smema_signals.proofs.Calls.{last_taker_call}
use Rattle.smema_signals.proofs.taker.Taker.full.Goals as goal

pub returns-clause-calls : goal.returns-clause-calls
returns-clause-calls c calls was = ap with_ready c.change.ensures.level ∙ sym (last_taker_call _ calls _)
