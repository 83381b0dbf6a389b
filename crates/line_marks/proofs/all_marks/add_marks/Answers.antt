use Rattle.line_marks.proofs.Marking.{put_next}
use Rattle.line_marks.proofs.all_marks.add_marks.Goals as goal

pub loop-mark-preserved : goal.loop-mark-preserved
loop-mark-preserved c =
    put_next c.args.lane c.place_behind-place.result c.loop-mark.mark-index c.machine_of.result c.args.marks.now c.args.all.now.items c.loop-mark.all.items c.as_slice.result.now c.insert.new.self.items c.loop-mark-test.true c.loop-mark.invariant c.requires.ascending
    c.machine_of.ensures c.as_slice.ensures.value c.place_behind-place.ensures c.in_ok-insert.ensures.items
