use Rattle.std.proofs.Common.{◌≡◌, ◌∙◌, sym, ap, subst, arith, of_z, to_z, to_z-of_z, w32, w64}
use Rattle.hermes_machine.specs.Calls.{AnswersStep}
use Rattle.hermes_machine.specs.Meanings.{told_of}
use Rattle.hermes_machine.proofs.Telling.{tell_answers}
use Rattle.hermes_machine.proofs.step.tell.Goals as goal

pub returns-in-Some : goal.returns-in-Some
returns-in-Some c =
    let told = c.mean.ensures in
    let clock : to_z w64 (of_z w64 c.args.now_ms) ≡ c.args.now_ms = grind (arith, to_z-of_z) in
    let back : to_z w32 (of_z w32 c.mean.result) ≡ c.mean.result = grind (arith, to_z-of_z) in
    let answers = tell_answers c.args.input.now c.args.bytes c.args.now_ms c.of_millis.result c.args.port.now c.mean.new.port c.in-Some.meaning c.mean.result
    (sym (ap (told_of c.args.input.now c.args.bytes.now) clock) ∙ (sym c.told_of.ensures.is ∙ c.in-Some.is)) (c.of_millis.ensures ∙ clock)
    told.bad_text told.no told.memory told.text told.happens told.stays told.lost told.again told.counted told.still in
    subst (AnswersStep c.args.input.now c.args.bytes c.args.now_ms c.args.port.now c.mean.new.port) (sym back) answers
