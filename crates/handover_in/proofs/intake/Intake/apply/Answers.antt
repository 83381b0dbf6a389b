use Rattle.handover_in.proofs.Together.{answer_together}
use Rattle.handover_in.proofs.intake.Intake.apply.Goals as goal

pub invariant_of-self : goal.invariant_of-self
invariant_of-self c = answer_together _ _ _ _ c.self.invariant c.meet.ensures.row c.meet.ensures.unchanged
