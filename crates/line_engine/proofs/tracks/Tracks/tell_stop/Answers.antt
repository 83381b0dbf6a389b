use Rattle.std.proofs.Common.{◌∙◌, List, subst, sym}
use Rattle.std.proofs.lemmas.Result.{on_ok_weaker}
use Rattle.law_lanes.specs.Steps.{RequestDoes}
use Rattle.line_step.specs.Requests.{stops}
use Rattle.line_engine.specs.Tracks.{TellsDone}
use Rattle.line_engine.specs.declared.track.Track.{Track}
use Rattle.line_engine.proofs.Stops.{stop_refused, stop_told}
use Rattle.line_engine.proofs.tracks.Tracks.tell_stop.Goals as goal

pub returns-in-Err : goal.returns-in-Err
returns-in-Err c = λ number lane.
    on_ok_weaker c.tell.result (λ is.
    subst (λ (ts : List Track). TellsDone (RequestDoes number lane (stops c.args.machine)) ts ts c.args.told.now c.tell.new.self) c.self.view_is
    (stop_refused number lane c.args.machine c.self.inside.first c.self.inside.others.items c.in-Err.reason c.args.told.now c.tell.new.self (sym c.may_stop.ensures ∙ c.in-Err.is) is)) c.tell.ensures.told

pub returns : goal.returns
returns c = λ number lane.
    on_ok_weaker c.tell-2.result (λ is.
    subst (λ (ts : List Track). TellsDone (RequestDoes number lane (stops c.args.machine)) ts ts c.args.told.now c.tell-2.new.self) c.self.view_is
    (stop_told number lane c.args.machine c.self.inside.first c.self.inside.others.items c.args.told.now c.tell-2.new.self (sym c.may_stop.ensures ∙ c.in_default.is) is)) c.tell-2.ensures.told
