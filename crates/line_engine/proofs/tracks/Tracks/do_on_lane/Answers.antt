use Rattle.std.proofs.Common.{sym, ◌∙◌}
use Rattle.std.proofs.lemmas.Result.{on_ok_weaker}
use Rattle.line_engine.proofs.OnLane.{lane_refused}
use Rattle.line_engine.proofs.tracks.Tracks.do_on_lane.Goals as goal

pub returns-in-Err-clause-step : goal.returns-in-Err-clause-step
returns-in-Err-clause-step c =
    on_ok_weaker c.tell.result (λ is. lane_refused c.args.number c.args.lane c.args.line.now c.args.self.now c.in-Err.reason c.args.told.now c.tell.new.self c.requires.own c.requires.kept (sym c.may_on.ensures ∙ c.in-Err.is) is) c.tell.ensures.told
