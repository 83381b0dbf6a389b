use Rattle.std.proofs.Common.{◌≡◌, true, ◌∙◌}
use Rattle.handover_in.specs.declared.phase.Phase.TheVariants.{Taking}
use Rattle.handover_in.specs.State.{awaits_finish}
use Rattle.handover_in.proofs.Asked.{finished_taking}
use Rattle.handover_in.proofs.state.State.finish.Goals as goal

pub returns-in-Taking-clause-row : goal.returns-in-Taking-clause-row
returns-in-Taking-clause-row c =
    let phase : c.self.inside.phase ≡ Taking c.in-Taking.board c.in-Taking.own c.in-Taking.heard = cc in
    let asked : awaits_finish c.args.self.now.phase c.args.id ≡ true = cc in
    let awaited = rw (← c.self.view_is, phase) at asked in
    rw (← c.self.view_is, phase) (finished_taking _ _ _ _ c.replace.new.dest _ _ awaited ∙ c.finish_running.ensures)
