use Rattle.line_world.proofs.Differing.{changes_differ, gains_differ, loses_differ}
use Rattle.line_world.proofs.laws.ids_go_on_differing.Goals as goal

pub returns-clause-loses : goal.returns-clause-loses
returns-clause-loses c = loses_differ

pub returns-clause-gains : goal.returns-clause-gains
returns-clause-gains c = gains_differ

pub returns-clause-changes : goal.returns-clause-changes
returns-clause-changes c = changes_differ
