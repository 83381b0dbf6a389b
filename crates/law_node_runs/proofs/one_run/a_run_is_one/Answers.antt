use Rattle.law_node_runs.proofs.Moving.{Laws}
use Rattle.law_node_runs.proofs.Running.{one_part, one_run}
use Rattle.law_node_runs.proofs.one_run.a_run_is_one.Goals as goal

pub returns-clause-whole : goal.returns-clause-whole
returns-clause-whole c = one_run (record { meaning = c.one_meaning.ensures; spelled = c.spelled_once.ensures; refused = c.refused_once.ensures; config_spelled = c.spelled_once-2.ensures; config_refused = c.refused_once-2.ensures })

pub returns-clause-part : goal.returns-clause-part
returns-clause-part c = one_part (record { meaning = c.one_meaning.ensures; spelled = c.spelled_once.ensures; refused = c.refused_once.ensures; config_spelled = c.spelled_once-2.ensures; config_refused = c.refused_once-2.ensures })
