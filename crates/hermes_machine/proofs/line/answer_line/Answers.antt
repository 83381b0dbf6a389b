use Rattle.std.proofs.Common.{◌≡◌, ◌∙◌, arith, of_z, subst, sym, to_z, to_z-of_z, w32}
use Rattle.hermes_machine.specs.Calls.{AnswersAsked}
use Rattle.hermes_machine.proofs.Lines.{line_answers}
use Rattle.hermes_machine.proofs.line.answer_line.Goals as goal

pub returns : goal.returns
returns c =
    let did = c.do_line.ensures in
    let back : to_z w32 (of_z w32 c.answer_of_line.result) ≡ c.answer_of_line.result = grind (arith, to_z-of_z) in
    subst (AnswersAsked c.args.line.now c.args.now c.args.port.now c.do_line.new.port) (sym c.answer_of_line.ensures ∙ sym back)
    (line_answers c.args.line.now c.args.now c.args.port.now c.do_line.new.port c.do_line.result
    did.not_asked did.no did.memory did.stays did.lost did.again did.counted did.still did.does)
