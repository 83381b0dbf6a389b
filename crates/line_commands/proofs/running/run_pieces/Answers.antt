use Rattle.std.proofs.Common.{◌≡◌, ◌≤◌, length, take, refl, arith}
use Rattle.std.proofs.lemmas.List.{length-take-le}
use Rattle.line_commands.proofs.LinesLemmas.{HasNoEnd-nil}
use Rattle.line_commands.proofs.Going.{goes-first, goes-piece, goes-pushed, runs-part, runs-read_fault, runs-refused, runs-end_refused, runs-whole, causes-refused, causes-whole}
use Rattle.line_status.proofs.Causes.{causes-write_fault, causes-read_fault}
use Rattle.line_commands.proofs.running.run_pieces.Goals as goal

pub loop-count-init : goal.loop-count-init
loop-count-init g c =
    record { going = rw (c.requires.new, c.requires.none) (goes-first (g.S.Source.left c.args.script.now) (g.K.Sink.contents c.args.report.now)); reads = omega arith; writes = omega arith; room = c.requires.room; small = c.requires.small; waits = rw c.requires.new HasNoEnd-nil; unspent = rw c.requires.new refl; bounded = rw c.requires.new (omega arith) }

pub returns-in-Err-clause-runs : goal.returns-in-Err-clause-runs
returns-in-Err-clause-runs g c =
    let room = c.pull.new.room in
    let takes = rw c.front.ensures at c.in-Err.ensures.takes in
    let ends = rw c.as_slice.ensures.value at c.end_refused.ensures.ends in
    let long : length (take c.in-Bytes.count room) ≡ c.in-Bytes.count = length-take-le c.in-Bytes.count room c.in-Bytes.ensures.gives.1 in
    let short : length (take c.in-Bytes.count room) ≤ 65536 = omega (arith, long, c.in-Bytes.ensures.gives.1, c.loop-count.invariant.small, c.pull.auto.room) in
    runs-refused (record { runs = c.each_script_on_lanes_has_a_run.ensures; once = c.each_run_tells_once.ensures; remembers = c.each_run_remembers_its_lies.ensures }) c.in-Err.error (g.S.Source.left c.args.script.now) (g.S.Source.left c.loop-count.script) (g.S.Source.left c.pull.new.self) (g.K.Sink.contents c.args.report.now) (g.K.Sink.contents c.loop-count.report) (g.K.Sink.contents c.end_refused.new.report) (g.K.Sink.faults c.loop-count.report) (g.K.Sink.faults c.end_refused.new.report) c.loop-count.reader c.take_piece.new.self (take c.in-Bytes.count room) c.loop-count.text.items c.take_piece.new.to.items c.end_refused.result c.loop-count.invariant.waits short c.loop-count.invariant.going c.in-Bytes.ensures.gives.2 takes ends

pub returns-in-Err-clause-causes : goal.returns-in-Err-clause-causes
returns-in-Err-clause-causes g c =
    causes-refused c.in-Err.error (g.K.Sink.contents c.loop-count.report) (g.K.Sink.contents c.end_refused.new.report) _ c.end_refused.result (g.S.Source.faults c.args.script.now) (g.S.Source.faults c.pull.new.self) (g.K.Sink.faults c.args.report.now) (g.K.Sink.faults c.loop-count.report) (g.K.Sink.faults c.end_refused.new.report) (omega (arith, c.loop-count.invariant.reads, c.in-Bytes.ensures.cause)) c.loop-count.invariant.writes c.end_refused.ensures.ends

pub returns-in-Failed-push_full-clause-runs : goal.returns-in-Failed-push_full-clause-runs
returns-in-Failed-push_full-clause-runs g c =
    let room = c.pull.new.room in
    let takes = rw c.front.ensures at c.in_default.ensures.takes in
    let going = goes-piece (g.S.Source.left c.args.script.now) (g.S.Source.left c.loop-count.script) (g.S.Source.left c.pull.new.self) (g.K.Sink.contents c.args.report.now) (g.K.Sink.contents c.loop-count.report) c.loop-count.reader c.take_piece.new.self (take c.in-Bytes.count room) c.loop-count.text.items c.take_piece.new.to.items c.loop-count.invariant.going c.in-Bytes.ensures.gives.2 takes in
    runs-part (record { runs = c.each_script_on_lanes_has_a_run.ensures; once = c.each_run_tells_once.ensures; remembers = c.each_run_remembers_its_lies.ensures }) (g.S.Source.left c.args.script.now) (g.S.Source.left c.pull.new.self) (g.S.Source.left c.pull.new.self) (g.K.Sink.contents c.args.report.now) (g.K.Sink.contents c.loop-count.report) (g.K.Sink.contents c.push_full.new.report) c.take_piece.new.self c.take_piece.new.to.items going c.in-Failed-push_full.ensures.2

pub returns-in-Failed-push_full-clause-causes : goal.returns-in-Failed-push_full-clause-causes
returns-in-Failed-push_full-clause-causes g c =
    let pushed = c.in-Failed-push_full.ensures in
    causes-write_fault (g.S.Source.faults c.args.script.now) (g.S.Source.faults c.pull.new.self) (g.K.Sink.faults c.args.report.now) (g.K.Sink.faults c.loop-count.report) (g.K.Sink.faults c.push_full.new.report) (omega (arith, c.loop-count.invariant.reads, c.in-Bytes.ensures.cause)) c.loop-count.invariant.writes pushed.0 pushed.1

pub loop-count-smaller : goal.loop-count-smaller
loop-count-smaller g c =
    let room = c.pull.new.room in
    let takes = rw c.front.ensures at c.in_default.ensures.takes in
    let some = c.in-Bytes.ensures.gives.0 in
    let long : length (take c.in-Bytes.count room) ≡ c.in-Bytes.count = length-take-le c.in-Bytes.count room c.in-Bytes.ensures.gives.1 in
    let further = takes.progress in
    let bounded = c.in_default.ensures.bounded in
    omega arith

pub loop-count-preserved : goal.loop-count-preserved
loop-count-preserved g c =
    let room = c.pull.new.room in
    let takes = rw c.front.ensures at c.in_default.ensures.takes in
    let going = goes-piece (g.S.Source.left c.args.script.now) (g.S.Source.left c.loop-count.script) (g.S.Source.left c.pull.new.self) (g.K.Sink.contents c.args.report.now) (g.K.Sink.contents c.loop-count.report) c.loop-count.reader c.take_piece.new.self (take c.in-Bytes.count room) c.loop-count.text.items c.take_piece.new.to.items c.loop-count.invariant.going c.in-Bytes.ensures.gives.2 takes in
    record {
      going = goes-pushed (g.S.Source.left c.args.script.now) (g.S.Source.left c.pull.new.self) (g.K.Sink.contents c.args.report.now) (g.K.Sink.contents c.loop-count.report) (g.K.Sink.contents c.push_full.new.report) c.take_piece.new.self c.take_piece.new.to.items c.push_full.new.text.items going c.in_default-push_full.ensures.1;
      reads = omega (arith, c.loop-count.invariant.reads, c.in-Bytes.ensures.cause);
      writes = omega (arith, c.loop-count.invariant.writes, c.in_default-push_full.ensures.0);
      room = omega (arith, c.loop-count.invariant.room, c.pull.auto.room);
      small = omega (arith, c.loop-count.invariant.small, c.pull.auto.room);
      waits = c.in_default.ensures.waits;
      unspent = c.in_default.ensures.unspent;
      bounded = c.in_default.ensures.bounded;
    }

pub returns-in-Err-finish-clause-runs : goal.returns-in-Err-finish-clause-runs
returns-in-Err-finish-clause-runs g c =
    let ends = rw c.as_slice-in-Err-finish.ensures.value at c.end_refused-in-Err-finish.ensures.ends in
    runs-end_refused (record { runs = c.each_script_on_lanes_has_a_run.ensures; once = c.each_run_tells_once.ensures; remembers = c.each_run_remembers_its_lies.ensures }) c.in-Err-finish.error (g.S.Source.left c.args.script.now) (g.S.Source.left c.loop-count.script) (g.S.Source.left c.pull.new.self) (g.K.Sink.contents c.args.report.now) (g.K.Sink.contents c.loop-count.report) (g.K.Sink.contents c.end_refused-in-Err-finish.new.report) (g.K.Sink.faults c.loop-count.report) (g.K.Sink.faults c.end_refused-in-Err-finish.new.report) c.loop-count.reader c.finish.new.self c.loop-count.text.items c.finish.new.to.items c.end_refused-in-Err-finish.result c.loop-count.invariant.waits c.loop-count.invariant.going c.in-End.ensures.gives.0 c.in-End.ensures.gives.1 c.in-Err-finish.ensures.finishes ends

pub returns-in-Err-finish-clause-causes : goal.returns-in-Err-finish-clause-causes
returns-in-Err-finish-clause-causes g c =
    causes-refused c.in-Err-finish.error (g.K.Sink.contents c.loop-count.report) (g.K.Sink.contents c.end_refused-in-Err-finish.new.report) _ c.end_refused-in-Err-finish.result (g.S.Source.faults c.args.script.now) (g.S.Source.faults c.pull.new.self) (g.K.Sink.faults c.args.report.now) (g.K.Sink.faults c.loop-count.report) (g.K.Sink.faults c.end_refused-in-Err-finish.new.report) (omega (arith, c.loop-count.invariant.reads, c.in-End.ensures.cause)) c.loop-count.invariant.writes c.end_refused-in-Err-finish.ensures.ends

pub returns-in-End-clause-runs : goal.returns-in-End-clause-runs
returns-in-End-clause-runs g c =
    let ends = rw c.as_slice-in-End.ensures.value at c.end_whole.ensures.ends in
    runs-whole (record { runs = c.each_script_on_lanes_has_a_run.ensures; once = c.each_run_tells_once.ensures; remembers = c.each_run_remembers_its_lies.ensures }) c.is_unvouched.result (g.S.Source.left c.args.script.now) (g.S.Source.left c.loop-count.script) (g.S.Source.left c.pull.new.self) (g.K.Sink.contents c.args.report.now) (g.K.Sink.contents c.loop-count.report) (g.K.Sink.contents c.end_whole.new.report) (g.K.Sink.faults c.loop-count.report) (g.K.Sink.faults c.end_whole.new.report) c.loop-count.reader c.finish.new.self c.loop-count.text.items c.finish.new.to.items c.end_whole.result c.loop-count.invariant.going c.in-End.ensures.gives.0 c.in-End.ensures.gives.1 c.in_default-finish.ensures.finishes c.is_unvouched.ensures ends

pub returns-in-End-clause-causes : goal.returns-in-End-clause-causes
returns-in-End-clause-causes g c =
    causes-whole c.is_unvouched.result (g.K.Sink.contents c.loop-count.report) (g.K.Sink.contents c.end_whole.new.report) _ c.end_whole.result (g.S.Source.faults c.args.script.now) (g.S.Source.faults c.pull.new.self) (g.K.Sink.faults c.args.report.now) (g.K.Sink.faults c.loop-count.report) (g.K.Sink.faults c.end_whole.new.report) (omega (arith, c.loop-count.invariant.reads, c.in-End.ensures.cause)) c.loop-count.invariant.writes c.end_whole.ensures.ends

pub returns-in-Failed-clause-runs : goal.returns-in-Failed-clause-runs
returns-in-Failed-clause-runs g c =
    let pushes = rw c.as_slice-in-Failed.ensures.value at c.push_all-pushed.ensures in
    runs-read_fault (record { runs = c.each_script_on_lanes_has_a_run.ensures; once = c.each_run_tells_once.ensures; remembers = c.each_run_remembers_its_lies.ensures }) c.push_all-pushed.result (g.S.Source.left c.args.script.now) (g.S.Source.left c.loop-count.script) (g.S.Source.left c.pull.new.self) (g.K.Sink.contents c.args.report.now) (g.K.Sink.contents c.loop-count.report) (g.K.Sink.contents c.push_all-pushed.new.sink) (g.K.Sink.faults c.loop-count.report) (g.K.Sink.faults c.push_all-pushed.new.sink) c.loop-count.reader c.loop-count.text.items c.loop-count.invariant.going pushes

pub returns-in-Failed-clause-causes : goal.returns-in-Failed-clause-causes
returns-in-Failed-clause-causes g c =
    causes-read_fault c.push_all-pushed.result _ _ _ _ _ _ _ _ _ c.loop-count.invariant.reads c.in-Failed.ensures.cause.0 c.in-Failed.ensures.cause.1 c.loop-count.invariant.writes c.push_all-pushed.ensures
