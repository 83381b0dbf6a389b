use Rattle.std.proofs.Common.{◌≡◌, ◌≤◌, length}
use Rattle.node_run.specs.Moving.{IsEndCaused}
use Rattle.node_run.specs.Work.{far_of}
use Rattle.node_run.proofs.Booking.{IsBookedRun}
use Rattle.node_run.proofs.booked.run_kept.Given as goal

abbrev pub invariant-loop-status : goal.invariant-loop-status
invariant-loop-status g l = record {
  rules : l.run.rules ≡ l.fn.run.rules;
  clock : g.C.Clock.moment l.clock ≡ g.C.Clock.moment l.fn.clock;
  runs : IsBookedRun (g.C.Clock.moment l.fn.clock) l.fn.run.rules l.fn.run.state l.run.state l.fn.size l.length (g.P.Ports.given l.fn.ports) (g.P.Ports.given l.ports) (g.K.Sink.contents l.fn.log) (g.K.Sink.contents l.log) (g.B.Keeper.contents l.fn.book) (g.B.Keeper.contents l.book);
  rest : length l.run.state.rest ≤ 4096;
  ended : IsEndCaused l.run.state.ended (g.P.Ports.faults l.fn.ports) (g.P.Ports.faults l.ports);
  ports : g.P.Ports.faults l.fn.ports ≤ g.P.Ports.faults l.ports;
  logged : g.K.Sink.faults l.fn.log ≤ g.K.Sink.faults l.log;
  booked : g.B.Keeper.faults l.fn.book ≤ g.B.Keeper.faults l.book;
  room : length l.room ≡ 4096;
}

-- each move brings the run nearer to its end
abbrev pub decreases-loop-status : goal.decreases-loop-status
decreases-loop-status g l = far_of l.run.rules l.run.state
