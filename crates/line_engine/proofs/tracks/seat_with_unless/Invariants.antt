use Rattle.std.proofs.Common.{◌≡◌, ◌+◌, drop}
use Rattle.line_marks.specs.Seats.{both}
use Rattle.line_engine.specs.Seats.{seat_beside}
use Rattle.line_engine.proofs.tracks.seat_with_unless.Given as goal

abbrev pub invariant-loop-track : goal.invariant-loop-track
invariant-loop-track l = (l.lane ≡ l.track-index + 1) × (both l.seat (seat_beside l.own l.id (l.lane + 1) (drop l.track-index l.others)) ≡ both l.fn.first (seat_beside l.own l.id 2 l.others))
