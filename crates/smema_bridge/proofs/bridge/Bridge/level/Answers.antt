use Rattle.smema_bridge.proofs.Calls.{one_more}
use Rattle.smema_bridge.proofs.bridge.Bridge.level.Goals as goal

pub returns-clause-calls : goal.returns-clause-calls
returns-clause-calls c calls was = one_more _ _ calls _ c.set_level.ensures was
