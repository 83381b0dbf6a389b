use Rattle.std.proofs.Common.{◌≡◌, ◌∙◌, ℕ, Bool, false, ap, subst}
use Rattle.std.specs.Prelude.{length}
use Rattle.node_core.specs.Desk.{Desk}
use Rattle.node_core.specs.Signals.{levels_told}
use Rattle.node_core.specs.Forecasts.{forecasts_after}
use Rattle.node_core.specs.Supervising.{supervised_after}
use Rattle.node_core.specs.Node.{NodeState}
use Rattle.node_core.specs.Bridge.{IsWilling}
use Rattle.node_core.specs.Sound.{IsSound}
use Rattle.node_core.proofs.Lasting.{seen_as, steps_after, sound_after, willing_after, owns_after, breaks_after, numbered}
use Rattle.node_core.proofs.node.Node.make_step.Goals as goal

-- the desk of the step, and the one after it
pub returns-clause-step : goal.returns-clause-step
returns-clause-step c =
    let desk = c.self.inside.desk in
    let timed : c.set_asked.new.self ≡ record desk { moment = c.args.moment; asked = length c.self.inside.orders } =
    c.set_asked.ensures
    ∙ ap (λ (d : Desk). record d { asked = c.asked.result }) c.set_moment.ensures
    ∙ ap (λ (n : ℕ). record desk { moment = c.args.moment; asked = n }) c.asked.ensures in
    let settled : c.set_supervised.new.self ≡ record c.set_asked.new.self { bridge = c.in_ok-bridge.bridge; supervised = supervised_after c.args.input c.set_asked.new.self.supervised } =
    c.set_supervised.ensures
    ∙ ap (λ (d : Desk). record d { supervised = c.supervised_after-supervised.result }) c.set_bridge.ensures
    ∙ ap (λ (b : Bool). record c.set_asked.new.self { bridge = c.in_ok-bridge.bridge; supervised = b })
    (c.supervised_after-supervised.ensures ∙ ap (supervised_after c.args.input) c.supervised.ensures) in
    steps_after c.args.self.now c.self.inside.spent desk c.set_asked.new.self c.set_supervised.new.self c.self.inside.maker
    c.step.new.maker c.self.inside.lane c.step.new.self c.self.inside.forecasts c.note_forecasts.new.kept
    c.self.inside.orders c.note_orders.new.orders c.args.sensed.now c.args.input c.args.moment c.after_input-told.result
    c.in_ok-bridge.bridge c.in_ok-acts.acts c.signal.new.to
    c.self.view_is timed (c.after_input-told.ensures ∙ ap (levels_told c.args.input) c.bridge.ensures) c.in_ok-acts.ensures.steps
    c.in_ok-bridge.ensures.levels c.in_ok-bridge.ensures.acts settled
    (c.in_ok-note_forecasts.ensures ∙ ap (forecasts_after c.self.inside.forecasts) c.list.ensures)
    c.in_ok-note_orders.ensures

pub step-requires-clause-numbered : goal.step-requires-clause-numbered
step-requires-clause-numbered c =
    numbered c.args.self.now c.args.input c.set_asked.new.self c.requires
    (ap (λ (d : Desk). d.asked) c.set_asked.ensures ∙ c.asked.ensures ∙ ap (λ (n : NodeState). length n.orders) c.self.view_is)

pub invariant_of-self-2 : goal.invariant_of-self-2
invariant_of-self-2 c = λ _.
    let P : NodeState → Type 0 = λ n. IsSound n.capacity n.lane.body × IsWilling n.bridge n.lane.body in
    let was : P c.args.self.now = subst P c.self.view_is (c.self.invariant c.if-self.false) in (
      sound_after _ _ _ _ _ _ c.requires (returns-clause-step c) was.0,
      willing_after _ _ _ _ _ _ c.requires (returns-clause-step c) was.1,
    )

pub returns-clause-own : goal.returns-clause-own
returns-clause-own c = owns_after _ _ _ _ _ _ c.requires (returns-clause-step c)

pub returns-clause-wrong : goal.returns-clause-wrong
returns-clause-wrong c =
    let desk = c.self.inside.desk in
    let timed : c.set_asked.new.self ≡ record desk { moment = c.args.moment; asked = length c.self.inside.orders } =
    c.set_asked.ensures
    ∙ ap (λ (d : Desk). record d { asked = c.asked.result }) c.set_moment.ensures
    ∙ ap (λ (n : ℕ). record desk { moment = c.args.moment; asked = n }) c.asked.ensures in
    let after : NodeState = seen_as false c.set_supervised.new.self c.step.new.maker c.step.new.self c.note_forecasts.new.kept c.note_orders.new.orders in
    breaks_after c.one_meaning.ensures c.args.self.now after c.self.inside.spent desk c.set_asked.new.self c.self.inside.maker
    c.step.new.maker c.self.inside.lane c.self.inside.forecasts c.self.inside.orders c.args.sensed.now c.args.input c.args.moment
    c.after_input-told.result c.in_ok-acts.acts c.signal.new.to
    c.self.view_is timed (c.after_input-told.ensures ∙ ap (levels_told c.args.input) c.bridge.ensures) c.in_ok-acts.ensures.steps
    c.in_ok-bridge.ensures.acts

pub returns-clause-bounded : goal.returns-clause-bounded
returns-clause-bounded c =
    let P : NodeState → Type 0 = λ n. IsSound n.capacity n.lane.body × IsWilling n.bridge n.lane.body in
    let was : P c.args.self.now = subst P c.self.view_is (c.self.invariant c.if-self.false) in
    record {
      places = (sound_after _ _ _ _ _ _ c.requires (returns-clause-step c) was.0).places;
      forecasts = c.stand_within.ensures.forecasts;
      questions = c.stand_within.ensures.questions;
      entry = c.stand_within.ensures.entry;
      exit = c.stand_within.ensures.exit;
    }

pub returns-clause-willing : goal.returns-clause-willing
returns-clause-willing c =
    let P : NodeState → Type 0 = λ n. IsSound n.capacity n.lane.body × IsWilling n.bridge n.lane.body in
    let was : P c.args.self.now = subst P c.self.view_is (c.self.invariant c.if-self.false) in
    willing_after _ _ _ _ _ _ c.requires (returns-clause-step c) was.1
