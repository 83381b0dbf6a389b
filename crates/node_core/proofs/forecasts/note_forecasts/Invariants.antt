use Rattle.std.proofs.Common.{◌≡◌, drop}
use Rattle.node_core.specs.Forecasts.{forecasts_after}
use Rattle.node_core.proofs.forecasts.note_forecasts.Given as goal

abbrev pub invariant-loop-act : goal.invariant-loop-act
invariant-loop-act l = forecasts_after l.kept (drop l.act-index l.acts) ≡ forecasts_after l.initial.kept l.acts
