use Rattle.std.proofs.Common.{◌∙◌, sym}
use Rattle.node_run.proofs.Booking.{keeps_appended, keeps_memory, keeps_none}
use Rattle.node_run.proofs.booked.keep_step.Goals as goal

pub returns-then-not-made_step_since-clause-keeps : goal.returns-then-not-made_step_since-clause-keeps
returns-then-not-made_step_since-clause-keeps g c = keeps_none _ c.args.run.now.state.step.entry _ _ (sym c.if-not-made_step_since.ensures) c.requires

pub returns-in-Err-clause-keeps : goal.returns-in-Err-clause-keeps
returns-in-Err-clause-keeps g c = keeps_memory _ c.args.run.now.state.step.entry c.args.size.now _ (sym c.if-not-made_step_since.ensures)

pub returns-clause-keeps : goal.returns-clause-keeps
returns-clause-keeps g c =
    keeps_appended c.append.result _ c.args.run.now.state.step.entry c.as_slice.result.now _ _ _ _ (sym c.if-not-made_step_since.ensures) (c.as_slice.ensures.value ∙ c.in-Ok.ensures.spelled) c.spell_step.ensures.form c.append.ensures.appends
