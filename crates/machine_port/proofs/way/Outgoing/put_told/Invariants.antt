use Rattle.std.proofs.Common.{◌≡◌, drop}
use Rattle.machine_port.specs.Ways.{told_way}
use Rattle.machine_port.proofs.way.Outgoing.put_told.Given as goal

-- what is put and what is left to put are the whole
abbrev pub invariant-loop-act : goal.invariant-loop-act
invariant-loop-act l = told_way l.stands (drop l.act-index l.acts) l.self ≡ told_way l.stands l.acts l.initial.self
