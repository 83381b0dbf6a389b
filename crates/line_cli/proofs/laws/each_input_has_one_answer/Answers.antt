use Rattle.line_commands.proofs.AnsweredOnce.{one_answer}
use Rattle.line_cli.proofs.laws.each_input_has_one_answer.Goals as goal

pub returns : goal.returns
returns c = one_answer c.each_run_tells_once.ensures c.each_script_on_lanes_has_a_run.ensures
