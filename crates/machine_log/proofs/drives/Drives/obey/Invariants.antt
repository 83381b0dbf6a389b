use Rattle.std.proofs.Common.{◌≡◌, drop}
use Rattle.machine_log.specs.Drives.{drives_after}
use Rattle.machine_log.proofs.drives.Drives.obey.Given as goal

-- what the acts that are left do to the drives is what all of them do
abbrev pub invariant-loop-act : goal.invariant-loop-act
invariant-loop-act l = drives_after l.self (drop l.act-index l.acts) ≡ drives_after l.initial.self l.acts
