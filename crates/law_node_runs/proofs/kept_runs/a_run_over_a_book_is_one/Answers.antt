use Rattle.law_node_runs.proofs.Moving.{Laws}
use Rattle.law_node_runs.proofs.Once.{kept_once}
use Rattle.law_node_runs.proofs.kept_runs.a_run_over_a_book_is_one.Goals as goal

pub returns : goal.returns
returns c =
    let laws : Laws = record { meaning = c.one_meaning.ensures; spelled = c.spelled_once.ensures; refused = c.refused_once.ensures; config_spelled = c.spelled_once-2.ensures; config_refused = c.refused_once-2.ensures } in
    kept_once laws
