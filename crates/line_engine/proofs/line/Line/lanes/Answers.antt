use Rattle.std.proofs.Common.{◌∙◌, sym}
use Rattle.line_engine.proofs.Lanes.{states_wide}
use Rattle.line_engine.proofs.line.Line.lanes.Goals as goal

pub returns-clause-count : goal.returns-clause-count
returns-clause-count c = rw (← c.self.view_is) (c.lanes.ensures.count ∙ sym (states_wide c.self.inside.tracks))
