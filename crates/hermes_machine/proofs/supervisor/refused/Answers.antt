use Rattle.std.proofs.Common.{◌≡◌, ◌∙◌, arith, of_z, subst, sym, to_z, to_z-of_z, w32}
use Rattle.hermes_machine.specs.Supervised.{IsRefusedOrWanting}
use Rattle.hermes_machine.proofs.Supervised.{second_answers}
use Rattle.hermes_machine.proofs.supervisor.refused.Goals as goal

pub returns : goal.returns
returns c =
    let did = c.refuse_supervisor.ensures in
    let back : to_z w32 (of_z w32 c.answer_of_done.result) ≡ c.answer_of_done.result = grind (arith, to_z-of_z) in
    subst (IsRefusedOrWanting c.args.now c.args.port.now c.refuse_supervisor.new.self) (sym c.answer_of_done.ensures ∙ sym back)
    (second_answers c.refuse_supervisor.result c.args.now c.args.port.now c.refuse_supervisor.new.self did.stays did.refused)
