use Rattle.config_service.proofs.Answering.{answers, answers_said, answers_refused, formless_so, formless_unsaid, formless_once}
use Rattle.config_service.proofs.read.read_config.Goals as goal

pub returns-in-Ok-clause-answer : goal.returns-in-Ok-clause-answer
returns-in-Ok-clause-answer c = answers c.args.bytes.now c.in-Ok.root c.message_of.result c.in-Ok.ensures.answer c.in-Ok.ensures.spelled c.message_of.ensures

pub returns-in-Ok-clause-spelled : goal.returns-in-Ok-clause-spelled
returns-in-Ok-clause-spelled c = λ message spells. answers_said c.args.bytes.now c.in-Ok.root c.message_of.result message c.in-Ok.ensures.spelled c.message_of.ensures spells

pub returns-in-Ok-clause-refused : goal.returns-in-Ok-clause-refused
returns-in-Ok-clause-refused c = λ at why refused. answers_refused c.args.bytes.now c.in-Ok.root c.message_of.result at why c.in-Ok.ensures.spelled c.in-Ok.ensures.refused c.message_of.ensures refused

pub returns-in-Err-Refused-clause-answer : goal.returns-in-Err-Refused-clause-answer
returns-in-Err-Refused-clause-answer c =
    let formless = rw c.in-Err-Refused.field-0-is at c.in-Err-Refused.ensures.answer in
    rw c.in-Err-Refused.field-0-is (formless_so c.args.bytes.now c.in-Err-Refused.at c.in-Err-Refused.why formless.0, formless_unsaid c.args.bytes.now formless.1)

pub returns-in-Err-Refused-clause-spelled : goal.returns-in-Err-Refused-clause-spelled
returns-in-Err-Refused-clause-spelled c =
    let formless = rw c.in-Err-Refused.field-0-is at c.in-Err-Refused.ensures.answer in
    formless_unsaid c.args.bytes.now formless.1

pub returns-in-Err-Refused-clause-refused : goal.returns-in-Err-Refused-clause-refused
returns-in-Err-Refused-clause-refused c = λ at why refused.
    let formless = rw c.in-Err-Refused.field-0-is at c.in-Err-Refused.ensures.answer in
    let once = rw c.in-Err-Refused.field-0-is at c.in-Err-Refused.ensures.refused in
    rw c.in-Err-Refused.field-0-is (formless_once c.args.bytes.now c.in-Err-Refused.at c.in-Err-Refused.why at why formless.1 once refused)
