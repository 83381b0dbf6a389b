use Rattle.handover_out.proofs.Together.{answer_together}
use Rattle.handover_out.proofs.outlet.Outlet.apply.Goals as goal

pub invariant_of-self : goal.invariant_of-self
invariant_of-self c = answer_together _ _ _ _ (rw (← c.self.view_is) at c.requires) c.self.invariant c.meet.ensures.row c.meet.ensures.unchanged
