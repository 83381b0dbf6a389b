use Rattle.std.proofs.Common.{◌≡◌, ◌∙◌, arith, of_z, subst, sym, to_z, to_z-of_z, w32}
use Rattle.machine_port.specs.Supervisor.{heard}
use Rattle.hermes_machine.specs.Supervised.{IsDoneOrWanting}
use Rattle.hermes_machine.proofs.Supervised.{done_answers}
use Rattle.hermes_machine.proofs.supervisor.heard.Goals as goal

pub returns : goal.returns
returns c =
    let did = c.hear_supervisor.ensures in
    let back : to_z w32 (of_z w32 c.answer_of_done.result) ≡ c.answer_of_done.result = grind (arith, to_z-of_z) in
    subst (IsDoneOrWanting (c.hear_supervisor.new.self ≡ heard c.args.port.now.supervisor.closes c.args.bytes.now c.args.port.now) c.args.port.now c.hear_supervisor.new.self) (sym c.answer_of_done.ensures ∙ sym back)
    (done_answers c.hear_supervisor.result (c.hear_supervisor.new.self ≡ heard c.args.port.now.supervisor.closes c.args.bytes.now c.args.port.now) c.args.port.now c.hear_supervisor.new.self did.heard did.lost did.spent did.counted did.still)
