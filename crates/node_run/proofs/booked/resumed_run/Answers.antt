use Rattle.std.proofs.Common.{◌∙◌, ap}
use Rattle.node_run.specs.State.{RunView}
use Rattle.node_run.proofs.booked.resumed_run.Goals as goal

pub returns : goal.returns
returns c = c.resume.ensures ∙ ap (λ (v : RunView). record v { state = record v.state { drives = c.args.drives; turn = 0 } }) c.new-run.ensures
