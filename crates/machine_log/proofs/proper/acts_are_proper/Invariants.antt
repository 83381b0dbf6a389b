use Rattle.std.proofs.Common.{All, take}
use Rattle.machine_log.specs.Account.{IsProperAct}
use Rattle.machine_log.proofs.proper.acts_are_proper.Given as goal

-- those that were gone over are proper
abbrev pub invariant-loop-act : goal.invariant-loop-act
invariant-loop-act l = All IsProperAct (take l.act-index l.acts)
