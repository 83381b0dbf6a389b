use Rattle.std.proofs.Common.{◌≡◌, ◌≤◌, ◌<◌, ◌+◌, ◌-◌, length, take, ap, ◌∙◌, arith, false, true}
use Rattle.std.proofs.lemmas.List.{length-take-le}
use Rattle.line_status.proofs.Causes.{causes-write_fault, causes-read_fault}
use Rattle.stream_text.proofs.ReadSteps.{nothing-over, reads-first, reads-piece, reads-pushed, reads-memory, reads-write_fault, reads-read_fault, reads-end, reads-large, causes-ended}
use Rattle.stream_text.proofs.reading.read_pieces.Goals as goal

pub loop-count-init : goal.loop-count-init
loop-count-init g c =
    record {
      on = rw (c.requires.new, c.requires.none) (reads-first (g.S.Source.left c.args.stream.now) (g.K.Sink.contents c.args.text_to.now) c.start-far.result c.start-far.ensures.0 c.start-far.ensures.1);
      over = rw (c.requires.new, c.start-far.ensures.2) nothing-over;
      most = omega (arith, c.start-far.ensures.0);
      bounded = omega (arith, c.start-far.ensures.0, c.start-far.ensures.1, ap length c.requires.new);
      reads = omega arith;
      writes = omega arith;
      room = c.requires.room;
    }

pub returns-in_default-take_some-clause-reads : goal.returns-in_default-take_some-clause-reads
returns-in_default-take_some-clause-reads g c =
    reads-memory (g.S.Source.left c.args.stream.now) (g.S.Source.left c.loop-count.stream) (g.S.Source.left c.pull.new.self) (g.K.Sink.contents c.args.text_to.now) (g.K.Sink.contents c.loop-count.text_to) c.loop-count.cutter c.loop-count.far c.loop-count.text.items c.loop-count.invariant.on c.loop-count.invariant.most

pub returns-in_default-take_some-clause-causes : goal.returns-in_default-take_some-clause-causes
returns-in_default-take_some-clause-causes g c = record { reads = omega (arith, c.loop-count.invariant.reads, c.in-Bytes.ensures.cause); writes = c.loop-count.invariant.writes; read_fault = λ is. cc; write_fault = λ is. cc }

pub returns-in-Failed-push_full-clause-reads : goal.returns-in-Failed-push_full-clause-reads
returns-in-Failed-push_full-clause-reads g c =
    let room = c.pull.new.room in
    let front : c.front-piece.result.now ≡ take c.in-Bytes.count room = c.front-piece.ensures in
    let takes = rw front at c.in-Ok-take_some.ensures in
    let long : length (take c.in-Bytes.count room) ≡ c.in-Bytes.count = length-take-le c.in-Bytes.count room c.in-Bytes.ensures.gives.1 in
    let most : c.in-Ok-take_some.now.taken ≤ 1073741824 = omega (arith, takes.taken, long, c.if-count-space.false, c.loop-count.invariant.most) in
    let on = reads-piece (g.S.Source.left c.args.stream.now) (g.S.Source.left c.loop-count.stream) (g.S.Source.left c.pull.new.self) (g.K.Sink.contents c.args.text_to.now) (g.K.Sink.contents c.loop-count.text_to) c.loop-count.cutter c.take_some-in-Bytes.new.cutter c.loop-count.far c.in-Ok-take_some.now (take c.in-Bytes.count room) c.loop-count.text.items c.take_some-in-Bytes.new.to.items c.loop-count.invariant.on c.in-Bytes.ensures.gives.2 takes in
    reads-write_fault (g.S.Source.left c.args.stream.now) (g.S.Source.left c.pull.new.self) (g.S.Source.left c.pull.new.self) (g.K.Sink.contents c.args.text_to.now) (g.K.Sink.contents c.loop-count.text_to) (g.K.Sink.contents c.push_full.new.report) c.take_some-in-Bytes.new.cutter c.in-Ok-take_some.now c.take_some-in-Bytes.new.to.items on most c.in-Failed-push_full.ensures.2

pub returns-in-Failed-push_full-clause-causes : goal.returns-in-Failed-push_full-clause-causes
returns-in-Failed-push_full-clause-causes g c =
    let pushed = c.in-Failed-push_full.ensures in
    causes-write_fault (g.S.Source.faults c.args.stream.now) (g.S.Source.faults c.pull.new.self) (g.K.Sink.faults c.args.text_to.now) (g.K.Sink.faults c.loop-count.text_to) (g.K.Sink.faults c.push_full.new.report) (omega (arith, c.loop-count.invariant.reads, c.in-Bytes.ensures.cause)) c.loop-count.invariant.writes pushed.0 pushed.1

pub loop-count-preserved : goal.loop-count-preserved
loop-count-preserved g c =
    let room = c.pull.new.room in
    let front : c.front-piece.result.now ≡ take c.in-Bytes.count room = c.front-piece.ensures in
    let takes = rw front at c.in-Ok-take_some.ensures in
    let long : length (take c.in-Bytes.count room) ≡ c.in-Bytes.count = length-take-le c.in-Bytes.count room c.in-Bytes.ensures.gives.1 in
    let on = reads-piece (g.S.Source.left c.args.stream.now) (g.S.Source.left c.loop-count.stream) (g.S.Source.left c.pull.new.self) (g.K.Sink.contents c.args.text_to.now) (g.K.Sink.contents c.loop-count.text_to) c.loop-count.cutter c.take_some-in-Bytes.new.cutter c.loop-count.far c.in-Ok-take_some.now (take c.in-Bytes.count room) c.loop-count.text.items c.take_some-in-Bytes.new.to.items c.loop-count.invariant.on c.in-Bytes.ensures.gives.2 takes in
    record {
      on = reads-pushed (g.S.Source.left c.args.stream.now) (g.S.Source.left c.pull.new.self) (g.K.Sink.contents c.args.text_to.now) (g.K.Sink.contents c.loop-count.text_to) (g.K.Sink.contents c.push_full.new.report) c.take_some-in-Bytes.new.cutter c.in-Ok-take_some.now c.take_some-in-Bytes.new.to.items c.push_full.new.text.items on c.in_default-push_full.ensures.1;
      over = takes.over;
      most = omega (arith, takes.taken, long, c.if-count-space.false, c.loop-count.invariant.most);
      bounded = takes.bounded;
      reads = omega (arith, c.loop-count.invariant.reads, c.in-Bytes.ensures.cause);
      writes = omega (arith, c.loop-count.invariant.writes, c.in_default-push_full.ensures.0);
      room = omega (arith, c.loop-count.invariant.room, c.pull.auto.room);
    }

pub returns-in-End-clause-reads : goal.returns-in-End-clause-reads
returns-in-End-clause-reads g c =
    let ends = rw c.waiting-in-End.ensures.count at c.end_read-in-End.ensures.ends in
    reads-end (g.S.Source.left c.args.stream.now) (g.S.Source.left c.loop-count.stream) (g.S.Source.left c.pull.new.self) (g.K.Sink.contents c.args.text_to.now) (g.K.Sink.contents c.loop-count.text_to) (g.K.Sink.contents c.end_read-in-End.new.text_to) c.loop-count.cutter c.loop-count.far c.loop-count.text.items (g.K.Sink.faults c.loop-count.text_to) (g.K.Sink.faults c.end_read-in-End.new.text_to) c.end_read-in-End.result c.loop-count.invariant.on c.loop-count.invariant.over c.loop-count.invariant.most c.in-End.ensures.gives.0 c.in-End.ensures.gives.1 ends

pub returns-in-End-clause-causes : goal.returns-in-End-clause-causes
returns-in-End-clause-causes g c =
    causes-ended c.loop-count.far c.waiting-in-End.result false (g.K.Sink.contents c.loop-count.text_to) (g.K.Sink.contents c.end_read-in-End.new.text_to) c.loop-count.text.items c.end_read-in-End.result (g.S.Source.faults c.args.stream.now) (g.S.Source.faults c.pull.new.self) (g.K.Sink.faults c.args.text_to.now) (g.K.Sink.faults c.loop-count.text_to) (g.K.Sink.faults c.end_read-in-End.new.text_to) (omega (arith, c.loop-count.invariant.reads, c.in-End.ensures.cause)) c.loop-count.invariant.writes c.end_read-in-End.ensures.ends

pub returns-in-Failed-clause-reads : goal.returns-in-Failed-clause-reads
returns-in-Failed-clause-reads g c =
    let pushes = rw c.as_slice.ensures.value at c.push_all-pushed.ensures in
    reads-read_fault c.push_all-pushed.result (g.S.Source.left c.args.stream.now) (g.S.Source.left c.loop-count.stream) (g.S.Source.left c.pull.new.self) (g.K.Sink.contents c.args.text_to.now) (g.K.Sink.contents c.loop-count.text_to) (g.K.Sink.contents c.push_all-pushed.new.sink) (g.K.Sink.faults c.loop-count.text_to) (g.K.Sink.faults c.push_all-pushed.new.sink) c.loop-count.cutter c.loop-count.far c.loop-count.text.items c.loop-count.invariant.on c.loop-count.invariant.most pushes

pub returns-in-Failed-clause-causes : goal.returns-in-Failed-clause-causes
returns-in-Failed-clause-causes g c =
    causes-read_fault c.push_all-pushed.result _ _ _ _ _ _ _ _ _ c.loop-count.invariant.reads c.in-Failed.ensures.cause.0 c.in-Failed.ensures.cause.1 c.loop-count.invariant.writes c.push_all-pushed.ensures

pub returns-in_default-clause-reads : goal.returns-in_default-clause-reads
returns-in_default-clause-reads g c =
    reads-memory (g.S.Source.left c.args.stream.now) (g.S.Source.left c.loop-count.stream) (g.S.Source.left c.pull.new.self) (g.K.Sink.contents c.args.text_to.now) (g.K.Sink.contents c.loop-count.text_to) c.loop-count.cutter c.loop-count.far c.loop-count.text.items c.loop-count.invariant.on c.loop-count.invariant.most

pub returns-in_default-clause-causes : goal.returns-in_default-clause-causes
returns-in_default-clause-causes g c = record { reads = omega (arith, c.loop-count.invariant.reads, c.in-Bytes.ensures.cause); writes = c.loop-count.invariant.writes; read_fault = λ is. cc; write_fault = λ is. cc }

pub returns-then-count-space-clause-reads : goal.returns-then-count-space-clause-reads
returns-then-count-space-clause-reads g c =
    let room = c.pull.new.room in
    let count = c.in-Bytes.count in
    let front : c.front-piece.result.now ≡ take count room = c.front-piece.ensures in
    let n = 1073741824 - c.loop-count.far.taken in
    let part : c.front-part.result.now ≡ take n (take count room) = c.front-part.ensures ∙ ap (take n) front in
    let takes = rw part at c.in-Ok.ensures in
    let long : length (take count room) ≡ count = length-take-le count room c.in-Bytes.ensures.gives.1 in
    let full : c.loop-count.far.taken + n ≡ 1073741824 = omega (arith, c.loop-count.invariant.most) in
    let more : n < length (take count room) = omega (arith, long, c.if-count-space.true) in
    let ends = rw c.waiting.ensures.count at c.end_read.ensures.ends in
    reads-large (g.S.Source.left c.args.stream.now) (g.S.Source.left c.loop-count.stream) (g.S.Source.left c.pull.new.self) (g.K.Sink.contents c.args.text_to.now) (g.K.Sink.contents c.loop-count.text_to) (g.K.Sink.contents c.end_read.new.text_to) c.loop-count.cutter c.take_some.new.cutter c.loop-count.far c.in-Ok.now (take count room) c.loop-count.text.items c.take_some.new.to.items n (g.K.Sink.faults c.loop-count.text_to) (g.K.Sink.faults c.end_read.new.text_to) c.end_read.result c.loop-count.invariant.on c.in-Bytes.ensures.gives.2 takes full more ends

pub returns-then-count-space-clause-causes : goal.returns-then-count-space-clause-causes
returns-then-count-space-clause-causes g c =
    causes-ended c.in-Ok.now c.waiting.result true (g.K.Sink.contents c.loop-count.text_to) (g.K.Sink.contents c.end_read.new.text_to) c.take_some.new.to.items c.end_read.result (g.S.Source.faults c.args.stream.now) (g.S.Source.faults c.pull.new.self) (g.K.Sink.faults c.args.text_to.now) (g.K.Sink.faults c.loop-count.text_to) (g.K.Sink.faults c.end_read.new.text_to) (omega (arith, c.loop-count.invariant.reads, c.in-Bytes.ensures.cause)) c.loop-count.invariant.writes c.end_read.ensures.ends
