use Rattle.handover_in.proofs.Together.{together_rest}
use Rattle.handover_in.proofs.intake.Intake.new.Goals as goal

pub invariant_of-result : goal.invariant_of-result
invariant_of-result c = rw c.at_rest.ensures together_rest
