use Rattle.std.proofs.Common.{◌≡◌, ◌∙◌, arith, of_z, subst, sym, to_z, to_z-of_z, w32}
use Rattle.machine_port.specs.Supervisor.{HasLeft}
use Rattle.hermes_machine.specs.Supervised.{IsDoneOrWanting}
use Rattle.hermes_machine.proofs.Supervised.{done_answers}
use Rattle.hermes_machine.proofs.supervisor.left.Goals as goal

pub returns : goal.returns
returns c =
    let did = c.close_supervisor.ensures in
    let back : to_z w32 (of_z w32 c.answer_of_done.result) ≡ c.answer_of_done.result = grind (arith, to_z-of_z) in
    subst (IsDoneOrWanting (HasLeft c.args.now c.args.port.now c.close_supervisor.new.self) c.args.port.now c.close_supervisor.new.self) (sym c.answer_of_done.ensures ∙ sym back)
    (done_answers c.close_supervisor.result (HasLeft c.args.now c.args.port.now c.close_supervisor.new.self) c.args.port.now c.close_supervisor.new.self did.left did.lost did.spent did.counted did.still)
