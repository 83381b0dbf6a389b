use Rattle.line_commands.proofs.Going.{runs-memory}
use Rattle.line_commands.proofs.running.run_script.Goals as goal

pub returns-in-Err-clause-runs : goal.returns-in-Err-clause-runs
returns-in-Err-clause-runs g c = runs-memory (record { runs = c.each_script_on_lanes_has_a_run.ensures; once = c.each_run_tells_once.ensures; remembers = c.each_run_remembers_its_lies.ensures }) (g.S.Source.left c.args.script.now) (g.S.Source.left c.args.script.now) (g.K.Sink.contents c.args.report.now)
