use Rattle.std.proofs.Common.{◌∙◌}
use Rattle.standings.proofs.Standings.{answers_found, only}
use Rattle.standings.proofs.standing.standing_of.Goals as goal

pub returns-clause-found : goal.returns-clause-found
returns-clause-found c = answers_found _ _ c.standing_by.ensures

pub returns-clause-only : goal.returns-clause-only
returns-clause-only c standing given = c.standing_by.ensures ∙ only _ standing given
