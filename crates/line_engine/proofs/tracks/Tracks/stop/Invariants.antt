use Rattle.std.proofs.Common.{◌≡◌, ◌+◌}
use Rattle.law_lanes.specs.Lanes.{lines_of}
use Rattle.line_engine.specs.Tracks.{AreKept, lanes_of}
use Rattle.line_engine.proofs.Played.{LanesLeft}
use Rattle.line_engine.proofs.tracks.Tracks.stop.Given as goal

abbrev pub invariant-loop-lane : goal.invariant-loop-lane
invariant-loop-lane l = AreKept l.self × (l.number ≡ lines_of (lanes_of l.self) + 1) × LanesLeft l.lanes l.lane l.machine (lanes_of l.initial.self) (lanes_of l.self) l.initial.told l.told
