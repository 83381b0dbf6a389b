use Rattle.std.proofs.Common.{◌++◌, drop}
use Rattle.line_step.specs.Named.{ids_named}
use Rattle.line_engine.proofs.OnBoth.{IsBoth, StayReady}
use Rattle.line_engine.proofs.tracks.Tracks.tell_shifted.Given as goal

abbrev pub invariant-loop-id : goal.invariant-loop-id
invariant-loop-id l =
    IsBoth l.machine l.from l.to (ids_named (l.fn.given ++ l.fn.got)) l.id-items (drop l.id-index l.id-items) l.initial.self l.self l.initial.told l.told
    × StayReady l.from l.to l.self
