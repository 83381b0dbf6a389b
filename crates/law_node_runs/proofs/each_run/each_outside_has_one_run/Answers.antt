use Rattle.law_node_runs.proofs.Alone.{each_outside}
use Rattle.law_node_runs.proofs.each_run.each_outside_has_one_run.Goals as goal

pub returns : goal.returns
returns c = each_outside (record { meaning = c.one_meaning.ensures; spelled = c.spelled_once.ensures; refused = c.refused_once.ensures; config_spelled = c.spelled_once-2.ensures; config_refused = c.refused_once-2.ensures })
