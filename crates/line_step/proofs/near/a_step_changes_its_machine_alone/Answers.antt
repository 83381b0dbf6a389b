use Rattle.line_step.proofs.Changing.{moved_changes, step_changes}
use Rattle.line_step.proofs.near.a_step_changes_its_machine_alone.Goals as goal

pub returns-clause-step : goal.returns-clause-step
returns-clause-step c = step_changes

pub returns-clause-moved : goal.returns-clause-moved
returns-clause-moved c = moved_changes
