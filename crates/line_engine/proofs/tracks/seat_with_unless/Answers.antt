use Rattle.std.proofs.Common.{◌∙◌, ◌+◌, ap, arith}
use Rattle.line_marks.specs.Seats.{both}
use Rattle.line_engine.specs.Seats.{seat_beside}
use Rattle.line_engine.proofs.Seating.{others_last, others_next}
use Rattle.line_engine.proofs.tracks.seat_with_unless.Goals as goal

pub loop-track-preserved : goal.loop-track-preserved
loop-track-preserved c = (
  ap (λ n. n + 1) c.loop-track.invariant.0,
  others_next c.args.id c.args.own (c.loop-track.lane + 1) c.loop-track.track-index c.args.others.now c.track-item.result c.loop-track.seat c.both-seat.result (both c.args.first (seat_beside c.args.own c.args.id 2 c.args.others.now)) (omega arith) c.track-item.is c.loop-track.invariant.1
      (c.both-seat.ensures ∙ ap (both c.loop-track.seat) c.seat_unless.ensures),
)

pub returns : goal.returns
returns c = others_last c.args.id c.args.own (c.loop-track.lane + 1) c.loop-track.track-index c.args.others.now c.loop-track.seat (both c.args.first (seat_beside c.args.own c.args.id 2 c.args.others.now)) (omega arith) c.loop-track.invariant.1
