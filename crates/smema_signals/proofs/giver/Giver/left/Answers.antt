use Rattle.std.proofs.Common.{sym, ◌∙◌}
use Rattle.smema_signals.proofs.Calls.{last_giver_call}
use Rattle.smema_signals.proofs.giver.Giver.left.Goals as goal

pub returns-clause-calls : goal.returns-clause-calls
returns-clause-calls c calls was = c.change.ensures.levels ∙ sym (last_giver_call _ calls _)
