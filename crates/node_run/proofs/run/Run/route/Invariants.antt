use Rattle.std.proofs.Common.{◌≡◌, drop}
use Rattle.node_run.specs.Steps.{routed}
use Rattle.node_run.proofs.run.Run.route.Given as goal

-- what is routed and what is left to route are the whole
abbrev pub invariant-loop-act : goal.invariant-loop-act
invariant-loop-act l = record l.self { state = routed (drop l.act-index l.acts) l.self.state } ≡ record l.initial.self { state = routed l.acts l.initial.self.state }
