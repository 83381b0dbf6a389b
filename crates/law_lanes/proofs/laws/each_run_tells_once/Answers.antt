use Rattle.law_lanes.proofs.RunsTell.{runs_tell_once}
use Rattle.law_lanes.proofs.laws.each_run_tells_once.Goals as goal

pub returns : goal.returns
returns c = runs_tell_once c.one_meaning.ensures
