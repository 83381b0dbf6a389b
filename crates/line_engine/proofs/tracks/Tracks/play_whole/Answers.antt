use Rattle.line_engine.specs.Tracks.{lanes_of}
use Rattle.line_engine.proofs.Played.{whole_line}
use Rattle.line_engine.proofs.tracks.Tracks.play_whole.Goals as goal

pub returns-clause-step : goal.returns-clause-step
returns-clause-step c =
    whole_line c.args.number c.args.line.now (lanes_of c.args.self.now) (lanes_of c.do_part.new.self) c.new-told.result c.do_part.new.told c.requires.whole c.requires.numbered c.in_ok-do_part.ensures.numbers c.new-told.ensures c.in_ok-do_part.ensures.step
