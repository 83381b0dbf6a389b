use Rattle.std.proofs.Common.{◌≡◌, drop}
use Rattle.machine_port.specs.Levels.{levels_after}
use Rattle.machine_port.proofs.levels.Levels.obey.Given as goal

-- what the acts that are left do to the levels is what all of them do
abbrev pub invariant-loop-act : goal.invariant-loop-act
invariant-loop-act l = levels_after l.self (drop l.act-index l.acts) ≡ levels_after l.initial.self l.acts
