use Rattle.line_commands.specs.Command.{is_check, is_read, is_run}
use Rattle.line_commands.specs.Making.{made_number}
use Rattle.line_commands.proofs.AnsweredOnce.{answers_so}
use Rattle.line_commands.proofs.command.do_words.Goals as goal

pub returns-clause-complete : goal.returns-clause-complete
returns-clause-complete g c =
    answers_so (is_run c.args.words.now) (is_read c.args.words.now) (is_check c.args.words.now) (made_number c.args.words.now) (g.S.Source.left c.args.script.now) (g.S.Source.left c.do_word.new.script)
    (g.K.Sink.contents c.args.report.now) (g.K.Sink.contents c.do_word.new.report) (g.S.Source.faults c.args.script.now) (g.S.Source.faults c.do_word.new.script) (g.K.Sink.faults c.args.report.now)
    (g.K.Sink.faults c.do_word.new.report) c.do_word.result c.do_word.ensures.does c.do_word.ensures.causes
