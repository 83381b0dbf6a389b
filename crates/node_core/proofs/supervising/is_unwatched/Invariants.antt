use Rattle.std.proofs.Common.{◌≡◌, drop, true}
use Rattle.std.specs.List.{list_all}
use Rattle.node_core.specs.Supervising.{stays_unwatched}
use Rattle.node_core.proofs.supervising.is_unwatched.Given as goal

abbrev pub invariant-loop-act : goal.invariant-loop-act
invariant-loop-act l = list_all stays_unwatched (drop l.act-index l.acts) ≡ true → list_all stays_unwatched l.acts ≡ true
