use Rattle.std.proofs.Common.{subst, sym}
use Rattle.std.proofs.lemmas.Result.{on_ok_weaker}
use Rattle.std.specs.Prelude.{OnOk}
use Rattle.line_script.specs.declared.line.ScriptLine.{ScriptLine}
use Rattle.line_step.specs.Requests.{request_of}
use Rattle.law_lanes.specs.Steps.{RequestDoes}
use Rattle.line_engine.specs.Tracks.{TellsDone}
use Rattle.line_engine.proofs.Requested.{nothing_done, shown_done}
use Rattle.line_engine.proofs.tracks.Tracks.do_request.Goals as goal

pub returns-in-Blank-clause-step : goal.returns-in-Blank-clause-step
returns-in-Blank-clause-step c =
    subst (λ (line : ScriptLine). TellsDone (RequestDoes c.args.number c.args.lane (request_of line)) c.args.self.now c.args.self.now c.args.told.now c.args.told.now) (sym c.in-Blank.is)
    (nothing_done c.args.number c.args.lane c.args.self.now c.args.told.now c.requires.kept)

pub returns-in-Show-clause-step : goal.returns-in-Show-clause-step
returns-in-Show-clause-step c =
    on_ok_weaker c.show.result (λ is.
    subst (λ (line : ScriptLine). TellsDone (RequestDoes c.args.number c.args.lane (request_of line)) c.args.self.now c.args.self.now c.args.told.now c.show.new.told) (sym c.in-Show.is)
    (shown_done c.args.number c.args.lane c.args.self.now c.args.told.now c.show.new.told c.requires.kept is)) c.show.ensures

pub returns-in-Machine-clause-step : goal.returns-in-Machine-clause-step
returns-in-Machine-clause-step c =
    subst (λ (line : ScriptLine). OnOk c.add_machine.result (TellsDone (RequestDoes c.args.number c.args.lane (request_of line)) c.args.self.now c.add_machine.new.self c.args.told.now c.add_machine.new.told)) (sym c.in-Machine.is)
    (c.add_machine.ensures.step c.args.number c.args.lane)

pub returns-in-Bridge-clause-step : goal.returns-in-Bridge-clause-step
returns-in-Bridge-clause-step c =
    subst (λ (line : ScriptLine). OnOk c.add_machine-in-Bridge.result (TellsDone (RequestDoes c.args.number c.args.lane (request_of line)) c.args.self.now c.add_machine-in-Bridge.new.self c.args.told.now c.add_machine-in-Bridge.new.told)) (sym c.in-Bridge.is)
    (c.add_machine-in-Bridge.ensures.step c.args.number c.args.lane)

pub returns-in-Stop-clause-step : goal.returns-in-Stop-clause-step
returns-in-Stop-clause-step c =
    subst (λ (line : ScriptLine). OnOk c.tell_stop.result (TellsDone (RequestDoes c.args.number c.args.lane (request_of line)) c.args.self.now c.args.self.now c.args.told.now c.tell_stop.new.told)) (sym c.in-Stop.is)
    (c.tell_stop.ensures c.args.number c.args.lane)
