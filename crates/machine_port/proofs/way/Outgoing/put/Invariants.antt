use Rattle.std.proofs.Common.{◌≡◌, drop}
use Rattle.machine_port.specs.Ways.{way_after}
use Rattle.machine_port.proofs.way.Outgoing.put.Given as goal

-- what is put and what is left to put are the whole
abbrev pub invariant-loop-act : goal.invariant-loop-act
invariant-loop-act l = way_after l.side (drop l.act-index l.acts) l.self ≡ way_after l.side l.acts l.initial.self
