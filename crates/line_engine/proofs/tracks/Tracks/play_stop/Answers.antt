use Rattle.std.proofs.Common.{List, length, subst}
use Rattle.line_report.specs.declared.happening.LaneHappening.{LaneHappening}
use Rattle.law_lanes.specs.Parts.{stop_parts}
use Rattle.line_engine.specs.Each.{Plays}
use Rattle.line_engine.specs.Tracks.{lanes_of}
use Rattle.line_engine.proofs.tracks.Tracks.play_stop.Goals as goal

pub returns-clause-step : goal.returns-clause-step
returns-clause-step c =
    subst (λ (old : List LaneHappening). Plays (stop_parts (length c.args.self.now) c.args.machine) (lanes_of c.args.self.now) (lanes_of c.stop.new.self) old c.stop.new.told) c.new-told.ensures c.in_ok-stop.ensures.step
