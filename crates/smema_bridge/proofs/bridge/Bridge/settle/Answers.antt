use Rattle.std.proofs.Common.{ap, ◌∙◌}
use Rattle.smema_bridge.specs.Levels.{BridgeLevels}
use Rattle.smema_bridge.specs.Signals.{with_exit}
use Rattle.smema_bridge.specs.Calls.{settle}
use Rattle.smema_bridge.proofs.Calls.{one_more}
use Rattle.smema_bridge.proofs.bridge.Bridge.settle.Goals as goal

pub returns-clause-calls : goal.returns-clause-calls
returns-clause-calls c calls was =
    one_more c.args.self.now _ calls (settle c.args.taking c.args.moving)
    (c.settle_exit-exit.ensures.after ∙ ap (λ (b : BridgeLevels). with_exit c.args.moving b) c.settle_entry-entry.ensures.after)
    was
