use Rattle.std.proofs.Common.{◌≡◌, ◌≤◌, length}
use Rattle.node_run.specs.Moving.{IsEndCaused}
use Rattle.node_run.specs.Runs.{HasRun}
use Rattle.node_run.specs.Work.{far_of}
use Rattle.node_run.proofs.running.run_on.Given as goal

abbrev pub invariant-loop-status : goal.invariant-loop-status
invariant-loop-status g l = record {
  rules : l.run.rules ≡ l.fn.run.rules;
  clock : g.C.Clock.moment l.clock ≡ g.C.Clock.moment l.fn.clock;
  runs : HasRun (g.C.Clock.moment l.fn.clock) l.fn.run.rules l.fn.run.state l.run.state (g.P.Ports.given l.fn.ports) (g.P.Ports.given l.ports) (g.K.Sink.contents l.fn.log) (g.K.Sink.contents l.log);
  rest : length l.run.state.rest ≤ 4096;
  ended : IsEndCaused l.run.state.ended (g.P.Ports.faults l.fn.ports) (g.P.Ports.faults l.ports);
  ports : g.P.Ports.faults l.fn.ports ≤ g.P.Ports.faults l.ports;
  logged : g.K.Sink.faults l.fn.log ≤ g.K.Sink.faults l.log;
  room : length l.room ≡ 4096;
}

-- each move brings the run nearer to its end
abbrev pub decreases-loop-status : goal.decreases-loop-status
decreases-loop-status g l = far_of l.run.rules l.run.state
