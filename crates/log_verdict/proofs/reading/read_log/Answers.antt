use Rattle.std.proofs.Common.{◌≡◌, ◌≤◌, ◌++◌, List, ℕ, Err, length, take, drop, subst, arith}
use Rattle.std.proofs.lemmas.List.{length-take-le}
use Rattle.line_outside.proofs.Growing.{rose_after}
use Rattle.log_verdict.specs.LogReader.{Follows, Takes}
use Rattle.log_verdict.proofs.Going.{causes-error, ends-error, ends-last, ends-ok, ends-read_fault, front-room, goes-first, goes-piece}
use Rattle.log_verdict.proofs.reading.read_log.Goals as goal

pub loop-count-init : goal.loop-count-init
loop-count-init g c = record {
  going = goes-first (g.S.Source.left c.args.log.now) c.new-reader.result c.new-reader.ensures.follows;
  reads = omega arith;
  room = c.in-Ok.ensures.len;
  bounded = omega (arith, c.new-reader.ensures.none);
}

-- a piece is the front of the room
pub loop-count-preserved : goal.loop-count-preserved
loop-count-preserved g c =
    let room = c.pull.new.room in
    let fits : length room ≤ c.loop-count.room.len = omega (arith, c.pull.auto.room, c.as_mut_slice.ensures.len) in
    let front : c.front.result.now ≡ take c.in-Bytes.count room = front-room c.in-Bytes.count c.loop-count.room.len c.front.result.now room (drop (length room) c.loop-count.room.items) c.as_slice.result.now c.in-Bytes.ensures.gives.1 fits c.front.ensures c.as_slice.ensures.value in
    let takes = rw front at c.in_default.ensures.takes in
    record {
      going = goes-piece (g.S.Source.left c.args.log.now) (g.S.Source.left c.loop-count.log) (g.S.Source.left c.pull.new.self) c.loop-count.reader c.take_piece.new.self (take c.in-Bytes.count room) c.loop-count.invariant.going c.in-Bytes.ensures.gives.2 takes;
      reads = omega (arith, c.loop-count.invariant.reads, c.in-Bytes.ensures.cause);
      room = c.loop-count.invariant.room;
      bounded = c.in_default.ensures.bounded;
    }

pub loop-count-smaller : goal.loop-count-smaller
loop-count-smaller g c =
    let room = c.pull.new.room in
    let fits : length room ≤ c.loop-count.room.len = omega (arith, c.pull.auto.room, c.as_mut_slice.ensures.len) in
    let front : c.front.result.now ≡ take c.in-Bytes.count room = front-room c.in-Bytes.count c.loop-count.room.len c.front.result.now room (drop (length room) c.loop-count.room.items) c.as_slice.result.now c.in-Bytes.ensures.gives.1 fits c.front.ensures c.as_slice.ensures.value in
    let further = rw front at c.in_default.ensures.progress in
    let some = c.in-Bytes.ensures.gives.0 in
    let long : length (take c.in-Bytes.count room) ≡ c.in-Bytes.count = length-take-le c.in-Bytes.count room c.in-Bytes.ensures.gives.1 in
    let bounded = c.in_default.ensures.bounded in
    omega arith

pub returns-in-Err-take_piece-clause-ends : goal.returns-in-Err-take_piece-clause-ends
returns-in-Err-take_piece-clause-ends g c =
    let room = c.pull.new.room in
    let fits : length room ≤ c.loop-count.room.len = omega (arith, c.pull.auto.room, c.as_mut_slice.ensures.len) in
    let front : c.front.result.now ≡ take c.in-Bytes.count room = front-room c.in-Bytes.count c.loop-count.room.len c.front.result.now room (drop (length room) c.loop-count.room.items) c.as_slice.result.now c.in-Bytes.ensures.gives.1 fits c.front.ensures c.as_slice.ensures.value in
    let error = c.in-Err-take_piece.error in
    let P : List ℕ → Type 0 = λ piece. (bytes : List ℕ) → Follows bytes c.loop-count.reader → Takes (bytes ++ piece) c.take_piece.new.self (Err error) in
    let takes : P (take c.in-Bytes.count room) = subst P front c.in-Err-take_piece.ensures.takes in
    rw c.log_error.ensures
    (ends-error error (g.S.Source.left c.args.log.now) (g.S.Source.left c.loop-count.log) (g.S.Source.left c.pull.new.self) (g.S.Source.left c.pull.new.self) c.loop-count.reader c.take_piece.new.self (take c.in-Bytes.count room) c.loop-count.invariant.going c.in-Bytes.ensures.gives.2 takes)

pub returns-in-Ok-finish-clause-ends : goal.returns-in-Ok-finish-clause-ends
returns-in-Ok-finish-clause-ends g c =
    ends-ok c.in-Ok-finish.counts (g.S.Source.left c.args.log.now) (g.S.Source.left c.loop-count.log) (g.S.Source.left c.pull.new.self) c.loop-count.reader c.loop-count.invariant.going c.in-End.ensures.gives.0 c.in-End.ensures.gives.1 c.in-Ok-finish.ensures

pub returns-in-Err-finish-clause-ends : goal.returns-in-Err-finish-clause-ends
returns-in-Err-finish-clause-ends g c =
    rw c.log_error-in-Err-finish.ensures
    (ends-last c.in-Err-finish.error (g.S.Source.left c.args.log.now) (g.S.Source.left c.loop-count.log) (g.S.Source.left c.pull.new.self) c.loop-count.reader c.loop-count.invariant.going c.in-End.ensures.gives.1 c.in-Err-finish.ensures)

pub returns-in-Failed-clause-ends : goal.returns-in-Failed-clause-ends
returns-in-Failed-clause-ends g c = ends-read_fault (g.S.Source.left c.args.log.now) (g.S.Source.left c.pull.new.self)

pub returns-in-Failed-clause-cause : goal.returns-in-Failed-clause-cause
returns-in-Failed-clause-cause g c =
    let reads = c.loop-count.invariant.reads in
    let cause = c.in-Failed.ensures.cause in
    record {
      stays = omega (arith, reads, cause.0);
      fault = λ is. rose_after (g.S.Source.faults c.args.log.now) (g.S.Source.faults c.loop-count.log) (g.S.Source.faults c.pull.new.self) reads cause.0 cause.1;
    }

pub returns-in-Err-take_piece-clause-cause : goal.returns-in-Err-take_piece-clause-cause
returns-in-Err-take_piece-clause-cause g c =
    rw c.log_error.ensures
    (causes-error c.in-Err-take_piece.error (g.S.Source.faults c.args.log.now) (g.S.Source.faults c.pull.new.self) (omega (arith, c.loop-count.invariant.reads, c.in-Bytes.ensures.cause)))

pub returns-in-Ok-finish-clause-cause : goal.returns-in-Ok-finish-clause-cause
returns-in-Ok-finish-clause-cause g c = record { stays = omega (arith, c.loop-count.invariant.reads, c.in-End.ensures.cause); fault = λ is. cc }

pub returns-in-Err-finish-clause-cause : goal.returns-in-Err-finish-clause-cause
returns-in-Err-finish-clause-cause g c =
    rw c.log_error-in-Err-finish.ensures
    (causes-error c.in-Err-finish.error (g.S.Source.faults c.args.log.now) (g.S.Source.faults c.pull.new.self) (omega (arith, c.loop-count.invariant.reads, c.in-End.ensures.cause)))
