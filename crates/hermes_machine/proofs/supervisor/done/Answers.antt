use Rattle.std.proofs.Common.{◌≡◌, ◌∙◌, arith, of_z, subst, sym, to_z, to_z-of_z, w32}
use Rattle.machine_port.specs.Supervisor.{DoesHear, unstepped}
use Rattle.hermes_machine.specs.Supervised.{IsDoneOrWanting}
use Rattle.hermes_machine.proofs.Supervised.{done_answers}
use Rattle.hermes_machine.proofs.supervisor.done.Goals as goal

pub returns : goal.returns
returns c =
    let did = c.take_message.ensures in
    let back : to_z w32 (of_z w32 c.answer_of_done.result) ≡ c.answer_of_done.result = grind (arith, to_z-of_z) in
    subst (IsDoneOrWanting (DoesHear c.args.now (unstepped c.args.port.now) c.take_message.new.self) c.args.port.now c.take_message.new.self) (sym c.answer_of_done.ensures ∙ sym back)
    (done_answers c.take_message.result (DoesHear c.args.now (unstepped c.args.port.now) c.take_message.new.self) c.args.port.now c.take_message.new.self did.hears did.lost did.spent did.counted did.still)
