-- No act of a machine changes the other machines, nor what lies in the gaps.
use Rattle.std.proofs.Common.{List, Option, [], ap, refl, ℕ, ◌∙◌, ◌∷◌, ◌≡◌}
use Rattle.line_base.specs.declared.states.Side.TheVariants.{Entry, Exit}
use Rattle.line_world.specs.FloorPlan.{AtMachine}
use Rattle.line_world.specs.declared.gap.Gap.{Gap}
use Rattle.session_core.specs.declared.state.SessionState.{SessionState}
use Rattle.handover_out.specs.State.{OutState}
use Rattle.handover_in.specs.State.{InState}
use Rattle.node_core.specs.declared.act.Act.{Act}
use Rattle.node_core.specs.declared.act.Act.TheVariants as acts
use Rattle.law_machine_custody.specs.Scene.{Scene, all_met, met}

-- what no act touches of what lies above a machine and below it
record Far : Type 0 where
  exit : SessionState
  outlet : OutState
  last_offer : Option ℕ
  lies_above : Gap
  above : AtMachine
  entry : SessionState
  intake : InState
  lies_below : Gap
  below : AtMachine

abbrev far_of : Scene → Far
far_of c = record {
  exit = c.above.exit;
  outlet = c.above.outlet;
  last_offer = c.above.last_offer;
  lies_above = c.above.gap.lies;
  above = c.above.far;
  entry = c.below.entry;
  intake = c.below.intake;
  lies_below = c.below.gap.lies;
  below = c.below.far;
}

met_far : (act : Act) (c : Scene) → far_of (met act c) ≡ far_of c
met_far (acts.Hears Entry message) c = refl
met_far (acts.Hears Exit message) c = refl
met_far (acts.Sends Entry message) c = refl
met_far (acts.Sends Exit message) c = refl
met_far (acts.Closes Entry) c = refl
met_far (acts.Closes Exit) c = refl
met_far (acts.Notices Entry) c = refl
met_far (acts.Notices Exit) c = refl
met_far (acts.Drive Entry on) c = refl
met_far (acts.Drive Exit on) c = refl
met_far _ c = refl

all_far : (done : List Act) (c : Scene) → far_of (all_met done c) ≡ far_of c
all_far [] c = refl
all_far (act ∷ others) c = all_far others (met act c) ∙ met_far act c

pub all_outlet : (done : List Act) (c : Scene) → (all_met done c).above.outlet ≡ c.above.outlet
all_outlet done c = ap (λ (far : Far). far.outlet) (all_far done c)

pub all_last : (done : List Act) (c : Scene) → (all_met done c).above.last_offer ≡ c.above.last_offer
all_last done c = ap (λ (far : Far). far.last_offer) (all_far done c)

pub all_intake : (done : List Act) (c : Scene) → (all_met done c).below.intake ≡ c.below.intake
all_intake done c = ap (λ (far : Far). far.intake) (all_far done c)

pub all_gap_above : (done : List Act) (c : Scene) → (all_met done c).above.gap.lies ≡ c.above.gap.lies
all_gap_above done c = ap (λ (far : Far). far.lies_above) (all_far done c)

pub all_gap_below : (done : List Act) (c : Scene) → (all_met done c).below.gap.lies ≡ c.below.gap.lies
all_gap_below done c = ap (λ (far : Far). far.lies_below) (all_far done c)

pub all_far_above : (done : List Act) (c : Scene) → (all_met done c).above.far ≡ c.above.far
all_far_above done c = ap (λ (far : Far). far.above) (all_far done c)

pub all_far_below : (done : List Act) (c : Scene) → (all_met done c).below.far ≡ c.below.far
all_far_below done c = ap (λ (far : Far). far.below) (all_far done c)

pub all_exit_above : (done : List Act) (c : Scene) → (all_met done c).above.exit ≡ c.above.exit
all_exit_above done c = ap (λ (far : Far). far.exit) (all_far done c)

pub all_entry_below : (done : List Act) (c : Scene) → (all_met done c).below.entry ≡ c.below.entry
all_entry_below done c = ap (λ (far : Far). far.entry) (all_far done c)
