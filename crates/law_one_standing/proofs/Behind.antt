-- What a step of a machine leaves of the relation of the line.
use Rattle.std.proofs.Common.{Bool, List, [], ap, arith, false, inl, inr, length, refl, subst, sym, true, ℕ, ◌+◌, ◌∙◌, ◌≡◌, ◌≢◌, ◌≤◌, ◌⊎◌}
use Rattle.line_base.specs.Text.{IsText}
use Rattle.line_base.specs.declared.states.Side.TheVariants.{Entry, Exit}
use Rattle.board_record.specs.declared.record.Record.{Record}
use Rattle.hermes_horizontal.specs.declared.message.Horizontal.{Horizontal}
use Rattle.board_record.specs.declared.sensed.Sensed.{Sensed}
use Rattle.line_link.specs.Flow.{Stream}
use Rattle.line_world.specs.FloorPlan.{AtMachine, gap_at, machine_at}
use Rattle.line_world.specs.declared.gap.AtGap.{AtGap}
use Rattle.node_core.specs.Halves.{OffersFront}
use Rattle.node_core.specs.Node.{NodeState}
use Rattle.node_core.specs.Sound.{IsSound}
use Rattle.node_core.specs.declared.act.Act.{Act}
use Rattle.node_core.specs.declared.lane.Body.{Body as Machine}
use Rattle.law_custody.specs.Pair.{Ghost}
use Rattle.law_link_messages.specs.Fit.{IsFitBody, IsFitMaker}
use Rattle.law_machine_custody.specs.Good.{Afar, Goes}
use Rattle.law_machine_custody.specs.Scene.{Scene, all_met}
use Rattle.law_machine_custody.proofs.Cutting.{cut_goes}
use Rattle.line_step.specs.Numbered.{ChangesMachine, between_at, node_at, stand_at}
use Rattle.line_step.specs.Numbered as numbered
use Rattle.line_step.specs.Reasons.{has_link}
use Rattle.line_step.specs.State.{LineState}
use Rattle.line_step.specs.World.{link_at}
use Rattle.step_rules.specs.Makers.{IsOld}
use Rattle.line_step.proofs.Numbers.{same_or_not}
use Rattle.law_one_standing.specs.Carried.{Carried, Carries, IsFitMachine, Trace, between_of, stand_of}
use Rattle.law_one_standing.specs.Kept.{Keeps}
use Rattle.law_one_standing.specs.Mirrors.{IsReached, cut_above, cut_below, scene_at}
use Rattle.law_one_standing.specs.Places.{AreApart}
use Rattle.law_one_standing.specs.Relation.{Between, Stand}
use Rattle.law_one_standing.specs.Stands.{IsAtRest, Stands}
use Rattle.law_one_standing.proofs.ApartStep.{PartedThen}
use Rattle.law_one_standing.proofs.Steps.{SameAbove, SameBelow, Steps, acts_same_above, acts_same_below, afar_of, step_keeps}
use Rattle.law_one_standing.proofs.Traces.{SameTrace, changes_of, put, put_other, put_same}

-- what is shown form by form of the line behind a line of a script, from whose trace before it: what
-- is gone then was gone, or is one of those that left
pub record Bears (Left : ℕ → Type 0) (from t : Trace) (s : LineState) : Type 0 where
  pub keeps : Keeps (stand_of s) (between_of t s)
  pub carried : (link : ℕ) → has_link link s ≡ true → Carried t s link
  pub rest : (link : ℕ) → has_link link s ≡ false → IsAtRest t s link
  pub fit : (machine : ℕ) → IsFitMachine s machine
  pub sound : (machine : ℕ) → IsSound (node_at s machine).capacity (node_at s machine).lane.body
  pub olds : (link id : ℕ) → t.gone link id ≡ true → IsOld 1 s.machines id
  pub was : (link id : ℕ) → t.gone link id ≡ true → (from.gone link id ≡ true) ⊎ Left id

-- ---- the trace behind a step of machine j + 1

abbrev pub stepped : Trace → ℕ → Ghost → Ghost → (ℕ → Bool) → Scene → Trace
stepped t j a b gone d = record {
  ghost = put j a (put (j + 1) b t.ghost);
  up = put j d.above.up (put (j + 1) d.below.up t.up);
  down = put j d.above.down (put (j + 1) d.below.down t.down);
  gone = put (j + 1) gone t.gone;
}

next_apart : (j : ℕ) → j + 1 ≢ j
next_apart j = omega arith

pub before_apart : (j : ℕ) → j ≢ j + 1
before_apart j = omega arith

pub put_first : {A : Type 0} (j : ℕ) (a b : A) (f : ℕ → A) → put j a (put (j + 1) b f) j ≡ a
put_first j a b f = put_same j a (put (j + 1) b f)

pub put_second : {A : Type 0} (j : ℕ) (a b : A) (f : ℕ → A) → put j a (put (j + 1) b f) (j + 1) ≡ b
put_second j a b f = put_other j (j + 1) a (put (j + 1) b f) (next_apart j) ∙ put_same (j + 1) b f

pub put_neither : {A : Type 0} (j k : ℕ) (a b : A) (f : ℕ → A) → k ≢ j → k ≢ j + 1 → put j a (put (j + 1) b f) k ≡ f k
put_neither j k a b f first second = put_other j k a (put (j + 1) b f) first ∙ put_other (j + 1) k b f second

pub stepped_same : (t : Trace) (j k : ℕ) (a b : Ghost) (gone : ℕ → Bool) (d : Scene) → k ≢ j → k ≢ j + 1 → SameTrace t (stepped t j a b gone d) k
stepped_same t j k a b gone d first second = record {
  ghost = put_neither j k a b t.ghost first second;
  up = put_neither j k d.above.up d.below.up t.up first second;
  down = put_neither j k d.above.down d.below.down t.down first second;
  gone = put_other (j + 1) k gone t.gone second;
}

-- ---- the line is as the scene has it, at both sides

-- what the links and gaps at both sides are, where there is a link and where there is none
pub record AreReal (j : ℕ) (after : LineState) (d : Scene) : Type 0 where
  pub stands_above : (link_at j after.world).stands ≡ d.above.stands
  pub gap_above : gap_at after.world.floor j ≡ d.above.gap
  pub stands_below : (link_at (j + 1) after.world).stands ≡ d.below.stands
  pub gap_below : gap_at after.world.floor (j + 1) ≡ d.below.gap

pub me_by : {body body2 : Machine} {place place2 : AtMachine} → body2 ≡ body → place2 ≡ place → ◌≡◌ {A = Stand} (record { body = body2; place = place2 }) (record { body = body; place = place })
me_by bodies places = rw (bodies, places) refl

pub between_by : {g g2 : Ghost} {on on2 : Bool} {gap gap2 : AtGap} {up up2 down down2 : List Horizontal} {gone gone2 : ℕ → Bool} → g2 ≡ g → on2 ≡ on → gap2 ≡ gap → up2 ≡ up → down2 ≡ down → gone2 ≡ gone
    → ◌≡◌ {A = Between} (record { ghost = g2; stands = on2; gap = gap2; up = up2; down = down2; gone = gone2 }) (record { ghost = g; stands = on; gap = gap; up = up; down = down; gone = gone })
between_by ghosts ons gaps ups downs gones = rw (ghosts, ons, gaps, ups, downs, gones) refl

-- the step along the line, by numbers
steps_of : (j : ℕ) (t : Trace) (before after : LineState) (a b : Ghost) (gone : ℕ → Bool) (body : Machine) (d : Scene) → ChangesMachine (j + 1) before after
    → (node_at after (j + 1)).lane.body ≡ body → machine_at after.world.floor (j + 1) ≡ record { boards = d.boards; unread = [] } → AreReal j after d
    → Steps j (stand_of before) (between_of t before) (stand_of after) (between_of (stepped t j a b gone d) after) a b gone body d
steps_of j t before after a b gone body d changes is place real = record {
  changes = changes_of (j + 1) t (stepped t j a b gone d) before after changes (λ k apart other. stepped_same t j k a b gone d (λ is. other (ap (λ (n : ℕ). n + 1) is)) apart);
  me = me_by is place;
  above = between_by (put_first j a b t.ghost) real.stands_above real.gap_above (put_first j d.above.up d.below.up t.up) (put_first j d.above.down d.below.down t.down) (put_other (j + 1) j gone t.gone (before_apart j));
  below = between_by (put_second j a b t.ghost) real.stands_below real.gap_below (put_second j d.above.up d.below.up t.up) (put_second j d.above.down d.below.down t.down) (put_same (j + 1) gone t.gone);
}

-- ---- a link that is cut in the midst of the step

pub same_cut : {above : Stand} {d : Scene} (ca cb : Bool) → SameAbove above d → SameAbove above (cut_below cb (cut_above ca d))
same_cut true true s = record { exit = s.exit; outlet = s.outlet; last = s.last; far = s.far }
same_cut true false s = record { exit = s.exit; outlet = s.outlet; last = s.last; far = s.far }
same_cut false true s = record { exit = s.exit; outlet = s.outlet; last = s.last; far = s.far }
same_cut false false s = s

pub same_cut_below : {below : Stand} {d : Scene} (ca cb : Bool) → SameBelow below d → SameBelow below (cut_below cb (cut_above ca d))
same_cut_below true true s = record { entry = s.entry; intake = s.intake; far = s.far }
same_cut_below true false s = record { entry = s.entry; intake = s.intake; far = s.far }
same_cut_below false true s = record { entry = s.entry; intake = s.intake; far = s.far }
same_cut_below false false s = s

pub cut_both : {afar : Afar} {above : List Record} {us : List Sensed} {ga gb : Ghost} {c d : Scene} {after : Machine} (ca cb : Bool) → Goes afar above us ga gb c after d → Goes afar above us ga gb c after (cut_below cb (cut_above ca d))
cut_both true true g = cut_goes Exit (cut_goes Entry g)
cut_both true false g = cut_goes Entry g
cut_both false true g = cut_goes Exit g
cut_both false false g = g

-- ---- what is not near the machine is as it was

pub carried_same : (t t2 : Trace) (s s2 : LineState) (k : ℕ) → stand_at s2 k ≡ stand_at s k → stand_at s2 (k + 1) ≡ stand_at s (k + 1) → between_at s2 k ≡ between_at s k → SameTrace t t2 k → Carried t s k → Carried t2 s2 k
carried_same t t2 s s2 k above below between same c =
    let C : numbered.Stand → numbered.Stand → numbered.Between → List Horizontal → List Horizontal → Type 0 = λ a b x up down. Carries x.link.stands a.node.lane.exit_bytes x.link.flows.to_upstream up × Carries x.link.stands b.node.lane.entry_bytes x.link.flows.to_downstream down in
    let both : C (stand_at s2 k) (stand_at s2 (k + 1)) (between_at s2 k) (t2.up k) (t2.down k) =
    subst (λ (a : numbered.Stand). C a (stand_at s2 (k + 1)) (between_at s2 k) (t2.up k) (t2.down k)) (sym above)
    (subst (λ (b : numbered.Stand). C (stand_at s k) b (between_at s2 k) (t2.up k) (t2.down k)) (sym below)
    (subst (λ (x : numbered.Between). C (stand_at s k) (stand_at s (k + 1)) x (t2.up k) (t2.down k)) (sym between)
    (subst (λ (up : List Horizontal). C (stand_at s k) (stand_at s (k + 1)) (between_at s k) up (t2.down k)) (sym same.up)
    (subst (λ (down : List Horizontal). C (stand_at s k) (stand_at s (k + 1)) (between_at s k) (t.up k) down) (sym same.down) (c.up, c.down))))) in
    record { up = both.0; down = both.1 }

-- ---- what the links on both sides carry

pub carries_as : {on on2 : Bool} {waiting : List ℕ} {stream : Stream} {messages messages2 : List Horizontal} → on2 ≡ on → messages2 ≡ messages → Carries on waiting stream messages → Carries on2 waiting stream messages2
carries_as {on = on} {waiting = waiting} {stream = stream} {messages2 = messages2} ons are c = subst (λ (x : Bool). Carries x waiting stream messages2) (sym ons) (subst (λ (ms : List Horizontal). Carries on waiting stream ms) (sym are) c)

pub carried_behind : (j k : ℕ) (t : Trace) (before after : LineState) (a b : Ghost) (gone : ℕ → Bool) (d : Scene) → ChangesMachine (j + 1) before after → has_link k before ≡ true → IsReached j before after d → AreReal j after d
    → (has_link k before ≡ true → Carried t before k) → (k ≡ j) ⊎ (k ≢ j) → (k ≡ j + 1) ⊎ (k ≢ j + 1) → Carried (stepped t j a b gone d) after k
carried_behind j k t before after a b gone d changes has reached real was (inl is) next =
    let there : has_link j before ≡ true = subst (λ (n : ℕ). has_link n before ≡ true) is has in
    subst (λ (n : ℕ). Carried (stepped t j a b gone d) after n) (sym is) (record {
      up = carries_as real.stands_above (put_first j d.above.up d.below.up t.up) (reached.up_above there);
      down = carries_as real.stands_above (put_first j d.above.down d.below.down t.down) (reached.down_above there);
    })
carried_behind j k t before after a b gone d changes has reached real was (inr apart) (inl is) =
    let there : has_link (j + 1) before ≡ true = subst (λ (n : ℕ). has_link n before ≡ true) is has in
    subst (λ (n : ℕ). Carried (stepped t j a b gone d) after n) (sym is) (record {
      up = carries_as real.stands_below (put_second j d.above.up d.below.up t.up) (reached.up_below there);
      down = carries_as real.stands_below (put_second j d.above.down d.below.down t.down) (reached.down_below there);
    })
carried_behind j k t before after a b gone d changes has reached real was (inr apart) (inr other) =
    let below : k + 1 ≢ j + 1 = omega (arith, apart) in
    carried_same t (stepped t j a b gone d) before after k (changes.machines k other) (changes.machines (k + 1) below) (changes.links k other below) (stepped_same t j k a b gone d apart other) (was has)

-- ---- what holds of each machine

pub each_machine : (P : NodeState → Type 0) (machine : ℕ) (before after : LineState) → ChangesMachine machine before after → ((k : ℕ) → P (node_at before k)) → P (node_at after machine) → (k : ℕ) → P (node_at after k)
each_machine P machine before after changes all own k = by (same_or_not k machine)
  where
    by : (k ≡ machine) ⊎ (k ≢ machine) → P (node_at after k)
    by (inl is) = subst (λ (n : ℕ). P (node_at after n)) (sym is) own
    by (inr apart) = subst P (sym (ap (λ (x : numbered.Stand). x.node) (changes.machines k apart))) (all k)

pub same_has : (link : ℕ) (before after : LineState) → length after.machines ≡ length before.machines → has_link link after ≡ has_link link before
same_has link before after many = rw many refl

pub fit_machine : (t s : LineState) (machine : ℕ) → node_at s machine ≡ node_at t machine → IsFitMachine t machine → IsFitMachine s machine
fit_machine t s machine is fit = record {
  body = subst (λ (n : NodeState). IsFitBody n.lane.body) (sym is) fit.body;
  maker = subst (λ (n : NodeState). IsFitMaker n.maker) (sym is) fit.maker;
  name = subst (λ (n : NodeState). IsText n.name) (sym is) fit.name;
  lane = subst (λ (n : NodeState). n.number ≤ 999_999_999) (sym is) fit.lane;
}

pub each_fit : (machine : ℕ) (before after : LineState) → ChangesMachine machine before after → ((k : ℕ) → IsFitMachine before k) → IsFitMachine after machine → (k : ℕ) → IsFitMachine after k
each_fit machine before after changes all own k = by (same_or_not k machine)
  where
    by : (k ≡ machine) ⊎ (k ≢ machine) → IsFitMachine after k
    by (inl is) = subst (λ (n : ℕ). IsFitMachine after n) (sym is) own
    by (inr apart) = fit_machine before after k (ap (λ (x : numbered.Stand). x.node) (changes.machines k apart)) (all k)

-- a machine makes a step, in which its links may be cut: the relation goes on
pub behind_step : {Left : ℕ → Type 0} {gone elsewhere : ℕ → Bool} (j : ℕ) (t : Trace) (before after : LineState) (ca cb : Bool) (body : Machine) (told : List Act) → Stands t before → ChangesMachine (j + 1) before after → length after.machines ≡ length before.machines
    → (node_at after (j + 1)).lane.body ≡ body → IsReached j before after (cut_below cb (cut_above ca (all_met told (scene_at t before j)))) → IsFitMachine after (j + 1)
    → AreReal j after (cut_below cb (cut_above ca (all_met told (scene_at t before j))))
    → IsSound (node_at after (j + 1)).capacity (node_at after (j + 1)).lane.body
    → (g : Goes (afar_of elsewhere (between_of t before j) gone) (stand_of before j).body.kept [] (t.ghost j) (t.ghost (j + 1)) (scene_at t before j) body (cut_below cb (cut_above ca (all_met told (scene_at t before j)))))
    → (t2 : Trace) → t2 ≡ stepped t j g.a g.b gone (cut_below cb (cut_above ca (all_met told (scene_at t before j))))
    → PartedThen Left t t2 after
    → ((link : ℕ) → has_link link after ≡ false → IsAtRest t2 after link)
    → Bears Left t t2 after
behind_step {gone = gone} j t before after ca cb body told st changes many is reached fit real sound g t2 t2_is parted rest =
    let d : Scene = cut_below cb (cut_above ca (all_met told (scene_at t before j))) in
    let now : Trace = stepped t j g.a g.b gone d in
    let above : SameAbove (stand_of before j) d = same_cut ca cb (acts_same_above (stand_of before j) (between_of t before j) (stand_of before (j + 1)) (between_of t before (j + 1)) (stand_of before (j + 1 + 1)) told) in
    let below : SameBelow (stand_of before (j + 1 + 1)) d = same_cut_below ca cb (acts_same_below (stand_of before j) (between_of t before j) (stand_of before (j + 1)) (between_of t before (j + 1)) (stand_of before (j + 1 + 1)) told) in
    let offers : OffersFront body = subst (λ (b : Machine). OffersFront b) is sound.offers in
    record {
      keeps = subst (λ (x : Trace). Keeps (stand_of after) (between_of x after)) (sym t2_is)
          (step_keeps j (stand_of before) (between_of t before) (stand_of after) (between_of now after) body d st.keeps above below g offers (subst (λ (x : Trace). AreApart (stand_of after) (between_of x after)) t2_is parted.apart)
          (steps_of j t before after g.a g.b gone body d changes is reached.place real));
      carried = λ link has. subst (λ (x : Trace). Carried x after link) (sym t2_is)
          (carried_behind j link t before after g.a g.b gone d changes (sym (same_has link before after many) ∙ has) reached real (st.carried link) (same_or_not link j) (same_or_not link (j + 1)));
      rest = rest;
      fit = each_fit (j + 1) before after changes st.fit fit;
      sound = each_machine (λ (n : NodeState). IsSound n.capacity n.lane.body) (j + 1) before after changes st.sound sound;
      olds = parted.olds;
      was = parted.was;
    }
