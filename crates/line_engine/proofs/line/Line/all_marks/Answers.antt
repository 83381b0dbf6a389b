use Rattle.std.proofs.Common.{◌≤◌, ◌+◌, arith, length, subst, sym}
use Rattle.line_step.specs.State.{owned}
use Rattle.law_lanes.specs.Lanes.{track}
use Rattle.line_marks.specs.AllMarks.{AreAscending}
use Rattle.line_engine.proofs.Lanes.{states_wide}
use Rattle.line_marks.proofs.Marking.{lanes_more, marks_ascend, none_beyond}
use Rattle.line_engine.proofs.Marking.{marks_all}
use Rattle.line_engine.proofs.line.Line.all_marks.Goals as goal

pub add_marks-requires-clause-ascending : goal.add_marks-requires-clause-ascending
add_marks-requires-clause-ascending c = subst AreAscending (sym c.marks.ensures.answer) (marks_ascend (owned (track (c.loop-before.before + 1) c.args.self.now)) c.args.id)

pub add_marks-requires-clause-none : goal.add_marks-requires-clause-none
add_marks-requires-clause-none c = none_beyond c.loop-before.before (c.loop-before.before + 1) c.loop-before.marks.items c.loop-before.invariant.lanes (omega arith)

pub add_marks-requires-clause-lanes : goal.add_marks-requires-clause-lanes
add_marks-requires-clause-lanes c = lanes_more c.loop-before.before (c.loop-before.before + 1) c.loop-before.marks.items (omega arith) c.loop-before.invariant.lanes

pub returns : goal.returns
returns c =
    let wide : length c.args.self.now.tracks ≤ c.loop-before.before = rw (← c.self.view_is) (omega (arith, c.loop-before-test.false, c.lanes-before-end.ensures.count, states_wide c.self.inside.tracks)) in
    record { answer = marks_all c.args.self.now c.args.id c.loop-before.before c.loop-before.marks.items wide c.loop-before.invariant }
