use Rattle.hermes_element.proofs.Exact.{answer, answers_spelled, answers_refused}
use Rattle.hermes_element.proofs.Depths.{found_depth}
use Rattle.hermes_element.proofs.read.read_lent.Goals as goal

pub returns-clause-answer : goal.returns-clause-answer
returns-clause-answer c = answer c.args.bytes.now c.read_by_outcome.result c.read_by_outcome.ensures

pub returns-clause-spelled : goal.returns-clause-spelled
returns-clause-spelled c = answers_spelled c.args.bytes.now c.read_by_outcome.result c.read_by_outcome.ensures

pub returns-clause-refused : goal.returns-clause-refused
returns-clause-refused c = answers_refused c.args.bytes.now c.read_by_outcome.result c.read_by_outcome.ensures

pub returns-clause-levels : goal.returns-clause-levels
returns-clause-levels c = found_depth c.args.bytes.now c.read_by_outcome.result (answer c.args.bytes.now c.read_by_outcome.result c.read_by_outcome.ensures)
