-- The order of each machine, over the next line behind a run.
use Rattle.std.proofs.Common.{◌+◌}
use Rattle.line_step.specs.Tracks.{own_line}
use Rattle.law_one_standing.proofs.Carrying.{SaysAlone}
use Rattle.law_one_standing.proofs.LineForms.{ConnectsBear}
use Rattle.law_one_standing.proofs.LineRun.{Stood}
use Rattle.law_one_standing.proofs.Reached.{stood_before}
use Rattle.law_sentences.specs.Along.{OrderAlong}
use Rattle.law_sentences.proofs.Orders.{line_in_order}

pub order_along : SaysAlone → ConnectsBear → OrderAlong
order_along alone connects request before after told reached from steps none =
    let was : Stood before = (stood_before alone connects request before after told reached steps none).stood in
    record { each = λ machine counted. line_in_order alone (before.lines + 1) (own_line request) before after told machine counted was (steps, from) }
