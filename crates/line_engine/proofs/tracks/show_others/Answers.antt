use Rattle.std.proofs.Common.{◌∙◌, ◌+◌, ◌++◌, List, ap, arith, drop, sym}
use Rattle.node_core.specs.Node.{NodeState}
use Rattle.law_lanes.specs.Shown.{front_shown, fronts_shown}
use Rattle.line_engine.specs.Tracks.{states_of}
use Rattle.line_engine.proofs.Showing.{fronts, lane_next, lanes_last}
use Rattle.line_engine.proofs.tracks.show_others.Goals as goal

pub loop-track-preserved : goal.loop-track-preserved
loop-track-preserved c = (
  ap (λ n. n + 1) c.loop-track.invariant.0,
  lane_next (c.loop-track.lane + 1) (c.args.before + 1) c.args.before c.loop-track.track-index c.args.tracks.now c.track-item.result (c.args.told.now ++ fronts_shown 2 (c.args.before + 1) (fronts c.args.before (states_of c.args.tracks.now))) c.loop-track.told c.show_front.new.told (omega arith) c.track-item.is c.loop-track.invariant.1
      (c.in_ok-show_front.ensures ∙ ap (λ (ms : List NodeState). c.loop-track.told ++ front_shown (c.loop-track.lane + 1) (c.args.before + 1) (drop c.args.before ms)) c.machines.ensures),
)

pub returns : goal.returns
returns c = sym (lanes_last (c.loop-track.lane + 1) (c.args.before + 1) c.args.before c.loop-track.track-index c.args.tracks.now c.loop-track.told (omega arith)) ∙ c.loop-track.invariant.1
