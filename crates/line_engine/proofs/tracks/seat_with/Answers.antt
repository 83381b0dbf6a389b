use Rattle.std.proofs.Common.{◌∙◌, ◌+◌, List, ap, arith}
use Rattle.standings.specs.declared.mark.Mark.{Mark}
use Rattle.line_marks.specs.Seats.{both, own_seat}
use Rattle.line_engine.specs.Seats.{seat_listed}
use Rattle.line_engine.proofs.Seating.{seats_last, seats_next}
use Rattle.line_engine.proofs.tracks.seat_with.Goals as goal

pub loop-track-preserved : goal.loop-track-preserved
loop-track-preserved c = (
  ap (λ n. n + 1) c.loop-track.invariant.0,
  seats_next c.args.id (c.loop-track.lane + 1) c.loop-track.track-index c.args.others.now c.track-item.result c.loop-track.seat c.both-seat.result (both c.args.first (seat_listed c.args.id 2 c.args.others.now)) (omega arith) c.track-item.is c.loop-track.invariant.1
      (c.both-seat.ensures ∙ ap (both c.loop-track.seat) (c.own_seat.ensures ∙ ap (λ (ms : List Mark). own_seat (c.loop-track.lane + 1) ms) c.marks.ensures)),
)

pub returns : goal.returns
returns c = seats_last c.args.id (c.loop-track.lane + 1) c.loop-track.track-index c.args.others.now c.loop-track.seat (both c.args.first (seat_listed c.args.id 2 c.args.others.now)) (omega arith) c.loop-track.invariant.1
