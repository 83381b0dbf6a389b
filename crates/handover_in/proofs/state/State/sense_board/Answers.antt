use Rattle.std.proofs.Common.{◌≡◌, ◌∙◌, sym}
use Rattle.handover_in.specs.declared.phase.Phase.TheVariants.{Taking, Stopped}
use Rattle.handover_in.proofs.Asked.{sensed_taking, sensed_stopped}
use Rattle.handover_in.proofs.state.State.sense_board.Goals as goal

pub returns-in-Taking : goal.returns-in-Taking
returns-in-Taking c =
    let phase : c.self.inside.phase ≡ Taking c.in-Taking.board c.in-Taking.own c.in-Taking.heard = cc in
    rw (← c.self.view_is, phase) (sensed_taking _ _ _ _ _ (sym c.eq.ensures ∙ c.if-eq.false) ∙ c.sense_taking.ensures)

pub returns-in-Stopped : goal.returns-in-Stopped
returns-in-Stopped c =
    let phase : c.self.inside.phase ≡ Stopped c.in-Stopped.board c.in-Stopped.own c.in-Stopped.heard = cc in
    rw (← c.self.view_is, phase) (sensed_stopped _ _ _ _ _ c.replace.new.dest (sym c.eq.ensures ∙ c.if-eq.false) ∙ (rw c.own_after.ensures at c.sense_stopped.ensures))
