use Rattle.std.proofs.lemmas.Result.{on_ok_weaker}
use Rattle.line_step.specs.Lines.{LineDoes}
use Rattle.line_engine.specs.Tracks.{FollowsDone}
use Rattle.line_engine.proofs.OnLane.{LaneMade, lane_made, second_few}
use Rattle.line_step.specs.Requests.{request_of}
use Rattle.line_step.specs.State.{LineState}
use Rattle.line_engine.proofs.Ready.{kept_ready, shares_ready, steps_ready}
use Rattle.line_engine.proofs.Unchanged.{done_beside}
use Rattle.line_engine.proofs.tracks.Tracks.do_allowed.Goals as goal
use Rattle.line_engine.proofs.tracks.Tracks.do_allowed.Goals.{After-tell_done}

-- the steps of the code, and what they make
made : (c : After-tell_done) → FollowsDone c.args.lane c.stepped-span.result.first c.stepped-span.result.last c.in_ok-done.done c.share_changed.new.self c.tell_done.new.self c.args.told.now c.tell_done.new.told → LaneMade c.args.number c.args.lane c.args.line.now c.args.self.now c.tell_done.new.self c.args.told.now c.tell_done.new.told
made c follows =
    lane_made c.args.number c.args.lane c.args.line.now c.args.self.now c.do_line.new.self c.share_changed.new.self c.tell_done.new.self c.in_ok-done.done c.args.told.now c.tell_done.new.told
    (record {
      kept = c.requires.kept;
      of_lane = c.requires.own;
      may = c.requires.may;
      few = c.requires.few;
      steps = c.in_ok-done.ensures;
      shares = rw (← c.stepped-span.ensures.first, ← c.stepped-span.ensures.last) c.share_changed.ensures;
      follows = rw (← c.stepped-span.ensures.first, ← c.stepped-span.ensures.last) follows;
    })

pub returns-clause-step : goal.returns-clause-step
returns-clause-step c =
    let at = (goal.at.returns-clause-step c).After-tell_done in
    on_ok_weaker c.tell_done.result (λ follows. (made at follows).tells) c.tell_done.ensures

pub returns-clause-numbers : goal.returns-clause-numbers
returns-clause-numbers c =
    let at = (goal.at.returns-clause-numbers c).After-tell_done in
    on_ok_weaker c.tell_done.result (λ follows. (made at follows).lines) c.tell_done.ensures

pub returns-clause-kept : goal.returns-clause-kept
returns-clause-kept c =
    let at = (goal.at.returns-clause-kept c).After-tell_done in
    on_ok_weaker c.tell_done.result (λ follows. (made at follows).kept) c.tell_done.ensures

pub do_line-requires-clause-ready : goal.do_line-requires-clause-ready
do_line-requires-clause-ready c = kept_ready c.args.lane (request_of c.args.line.now) c.args.self.now c.requires.kept c.requires.may

pub share_changed-requires-clause-ready : goal.share_changed-requires-clause-ready
share_changed-requires-clause-ready c = steps_ready c.args.number c.args.lane c.args.line.now c.args.self.now c.do_line.new.self c.in_ok-done.done c.requires.own c.requires.kept c.in_ok-done.ensures

pub share_changed-requires-clause-beside : goal.share_changed-requires-clause-beside
share_changed-requires-clause-beside c =
    done_beside c.args.lane (λ (before after : LineState). LineDoes c.args.number (request_of c.args.line.now) before after c.in_ok-done.done) c.args.self.now c.do_line.new.self c.requires.kept c.in_ok-done.ensures

pub tell_done-requires-clause-few : goal.tell_done-requires-clause-few
tell_done-requires-clause-few c = second_few c.args.number c.args.lane c.args.line.now c.args.self.now c.do_line.new.self c.share_changed.new.self c.in_ok-done.done c.requires.own c.requires.kept c.in_ok-done.ensures (rw (← c.stepped-span.ensures.first, ← c.stepped-span.ensures.last) c.share_changed.ensures)

pub tell_done-requires-clause-ready : goal.tell_done-requires-clause-ready
tell_done-requires-clause-ready c = shares_ready c.args.number c.args.lane c.args.line.now c.args.self.now c.do_line.new.self c.share_changed.new.self c.in_ok-done.done c.requires.own c.requires.kept c.in_ok-done.ensures (rw (← c.stepped-span.ensures.first, ← c.stepped-span.ensures.last) c.share_changed.ensures)
