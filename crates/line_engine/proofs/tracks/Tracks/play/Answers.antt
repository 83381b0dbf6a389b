use Rattle.std.proofs.Common.{◌∙◌, List, [], length, sym}
use Rattle.std.proofs.lemmas.Result.{IfOk-weaker}
use Rattle.line_report.specs.declared.happening.LaneHappening.{LaneHappening}
use Rattle.law_lanes.specs.Parts.{LaneLineSteps, stop_parts}
use Rattle.line_engine.specs.Each.{Plays}
use Rattle.line_engine.specs.Tracks.{lanes_of}
use Rattle.line_engine.proofs.Lanes.{states_wide}
use Rattle.line_engine.proofs.Played.{stop_line, stop_within}
use Rattle.line_engine.proofs.tracks.Tracks.play.Goals as goal

pub play_stop-requires-clause-machine : goal.play_stop-requires-clause-machine
play_stop-requires-clause-machine c = stop_within c.args.line.now c.in-Some.machine (sym c.stopped.ensures ∙ c.in-Some.is) c.requires.within

pub returns-in-Some-clause-step : goal.returns-in-Some-clause-step
returns-in-Some-clause-step c =
    IfOk-weaker c.play_stop.result (λ (told : List LaneHappening). Plays (stop_parts (length c.args.self.now) c.in-Some.machine) (lanes_of c.args.self.now) (lanes_of c.play_stop.new.self) [] told)
    (λ (told : List LaneHappening). LaneLineSteps c.args.line.now (lanes_of c.args.self.now) (lanes_of c.play_stop.new.self) told)
    (λ told played. stop_line c.args.line.now c.in-Some.machine (length c.args.self.now) (lanes_of c.args.self.now) (lanes_of c.play_stop.new.self) told (sym c.stopped.ensures ∙ c.in-Some.is) (sym (states_wide c.args.self.now)) played)
    c.play_stop.ensures.step
