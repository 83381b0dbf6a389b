use Rattle.line_engine.proofs.Counting.{part_goes}
use Rattle.line_engine.proofs.tracks.Tracks.do_part.Goals as goal

pub returns-clause-step : goal.returns-clause-step
returns-clause-step c =
    part_goes c.args.number c.args.line.now c.args.ends c.args.self.now c.do_form.new.self c.count.new.self c.args.told.now c.do_form.new.told c.in_ok-do_form.ensures.step c.count.ensures.counted
