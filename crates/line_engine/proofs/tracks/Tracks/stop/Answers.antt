use Rattle.std.proofs.Common.{◌≡◌, ◌∙◌, ◌+◌, ◌-◌, ℕ, ap, arith, subst, sym}
use Rattle.std.proofs.lemmas.Result.{on_ok_weaker}
use Rattle.law_lanes.specs.Parts.{stop_parts}
use Rattle.line_engine.specs.Each.{Plays}
use Rattle.line_engine.specs.Tracks.{lanes_of}
use Rattle.line_engine.proofs.Played.{LanesLeft, lane_less, lanes_end, stop_played}
use Rattle.line_engine.proofs.tracks.Tracks.stop.Goals as goal

pub loop-lane-init : goal.loop-lane-init
loop-lane-init c = (c.in_ok-begin_stop.ensures.kept, c.requires.numbered ∙ ap (λ n. n + 1) (sym c.in_ok-begin_stop.ensures.counted), λ after then played. played)

pub loop-lane-preserved : goal.loop-lane-preserved
loop-lane-preserved c = (
  c.in_ok-stop_on.ensures.kept,
  c.loop-lane.invariant.1 ∙ ap (λ n. n + 1) (sym c.in_ok-stop_on.ensures.counted),
  lane_less c.lanes-lanes.result c.loop-lane.lane c.args.machine (c.lanes-lanes.result - (c.loop-lane.lane + 1)) (lanes_of c.begin_stop.new.self) (lanes_of c.loop-lane.self) (lanes_of c.stop_on.new.self) c.begin_stop.new.told c.loop-lane.told c.stop_on.new.told
      (omega arith) c.loop-lane.invariant.2 c.in_ok-stop_on.ensures.step,
)

pub returns-clause-step : goal.returns-clause-step
returns-clause-step c =
    let lanes : ℕ = c.lanes-lanes.result in
    let last : c.loop-lane.lane ≡ lanes = omega arith in
    on_ok_weaker c.stop_on-2.result (λ step.
    subst (λ (n : ℕ). Plays (stop_parts n c.args.machine) (lanes_of c.args.self.now) (lanes_of c.stop_on-2.new.self) c.args.told.now c.stop_on-2.new.told) c.lanes-lanes.ensures.count
    (stop_played c.args.number lanes c.args.machine (lanes_of c.args.self.now) (lanes_of c.begin_stop.new.self) (lanes_of c.stop_on-2.new.self) c.args.told.now c.begin_stop.new.told c.stop_on-2.new.told
    c.requires.numbered c.in_ok-begin_stop.ensures.counted c.in_ok-begin_stop.ensures.step
    (lanes_end lanes lanes c.args.machine (lanes_of c.begin_stop.new.self) (lanes_of c.loop-lane.self) (lanes_of c.stop_on-2.new.self) c.begin_stop.new.told c.loop-lane.told c.stop_on-2.new.told (omega arith)
    (subst (λ (n : ℕ). LanesLeft lanes n c.args.machine (lanes_of c.begin_stop.new.self) (lanes_of c.loop-lane.self) c.begin_stop.new.told c.loop-lane.told) last c.loop-lane.invariant.2) step)))
    c.stop_on-2.ensures.step
