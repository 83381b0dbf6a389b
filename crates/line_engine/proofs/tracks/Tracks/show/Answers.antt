use Rattle.std.proofs.Common.{◌∙◌, ◌++◌, List, ap, length, sym}
use Rattle.node_core.specs.Node.{NodeState}
use Rattle.law_lanes.specs.Shown.{all_shown}
use Rattle.line_engine.specs.Tracks.{states_of}
use Rattle.line_engine.proofs.Showing.{fronts, machines_first, shows_end, shows_next}
use Rattle.line_engine.proofs.tracks.Tracks.show.Goals as goal

pub loop-before-preserved : goal.loop-before-preserved
loop-before-preserved c =
    shows_next (length c.machines.result.now) c.loop-before.before (states_of c.args.self.now) (c.args.told.now ++ all_shown (length c.machines.result.now) 1 (fronts 0 (states_of c.args.self.now))) c.loop-before.told c.show_machine.new.told c.loop-before-test.true c.loop-before.invariant c.in_ok-show_machine.ensures

pub returns : goal.returns
returns c =
    sym (shows_end (length c.machines.result.now) c.loop-before.before (states_of c.args.self.now) c.loop-before.told c.loop-before-test.false)
    ∙ c.loop-before.invariant
    ∙ ap (λ (ms : List NodeState). c.args.told.now ++ all_shown (length ms) 1 (fronts 0 (states_of c.args.self.now))) (c.machines.ensures ∙ machines_first c.self.inside.first c.self.inside.others.items c.args.self.now c.self.view_is)
