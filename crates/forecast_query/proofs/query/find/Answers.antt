use Rattle.forecast_query.proofs.Matching.{answers_first, answers_none}
use Rattle.forecast_query.proofs.query.find.Goals as goal

pub returns-clause-first : goal.returns-clause-first
returns-clause-first c = answers_first _ _ _ _ c.first_asked.ensures

pub returns-clause-none : goal.returns-clause-none
returns-clause-none c = answers_none _ _ _ _ c.first_asked.ensures
