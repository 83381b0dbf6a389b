use Rattle.std.proofs.Common.{subst, sym}
use Rattle.std.specs.Prelude.{OnOk}
use Rattle.line_script.specs.declared.line.LaneLine.{LaneLine}
use Rattle.law_lanes.specs.Steps.{LanesDo}
use Rattle.line_engine.specs.Tracks.{TellsDone}
use Rattle.line_engine.proofs.tracks.Tracks.do_form.Goals as goal

pub returns-in-Lanes-clause-step : goal.returns-in-Lanes-clause-step
returns-in-Lanes-clause-step c =
    subst (λ (line : LaneLine). OnOk c.set_lanes.result (TellsDone (LanesDo c.args.number line) c.args.self.now c.set_lanes.new.self c.args.told.now c.set_lanes.new.told)) (sym c.in-Lanes.is)
    (c.set_lanes.ensures.step c.args.number)
