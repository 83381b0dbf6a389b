use Rattle.std.proofs.Common.{drop}
use Rattle.line_engine.proofs.Telling.{IsTellingDone}
use Rattle.line_engine.proofs.tracks.Tracks.tell_done.Given as goal

abbrev pub invariant-loop-id : goal.invariant-loop-id
invariant-loop-id l = IsTellingDone l.lane l.span.first l.span.last l.fn.done l.id-items (drop l.id-index l.id-items) l.initial.self l.self l.initial.told l.told
