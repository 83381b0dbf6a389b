use Rattle.std.proofs.Common.{◌≡◌, ◌++◌}
use Rattle.node_core.specs.Supervising.{watch_behind, with_tells}
use Rattle.node_core.proofs.supervising.with_tells.Given as goal

-- what is told of the acts that were taken, and what is left of them
abbrev pub invariant-loop-act : goal.invariant-loop-act
invariant-loop-act l =
    (l.told ≡ with_tells l.desk l.fn.watch l.yielded)
    × ((l.watch ≡ watch_behind l.fn.watch l.yielded) × (l.yielded ++ l.act-iterator.rest.items ≡ l.fn.acts))
