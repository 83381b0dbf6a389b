-- THE RELATION OF A LINE, of its whole state.
use Rattle.std.specs.Prelude.{[], false, true, ℕ, ◌+◌, ◌≡◌}
use Rattle.session_core.specs.declared.state.SessionState.TheVariants.{NotConnected}
use Rattle.handover_out.specs.declared.phase.Phase.TheVariants as out
use Rattle.handover_in.specs.declared.phase.Phase.TheVariants as inn
use Rattle.node_core.specs.Sound.{IsSound}
use Rattle.line_step.specs.Numbered.{node_at}
use Rattle.line_step.specs.Reasons.{has_link}
use Rattle.line_step.specs.State.{LineState}
use Rattle.line_step.specs.Together.{IsLineTogether}
use Rattle.line_step.proofs.FloorLaws.{Holds}
use Rattle.step_rules.specs.Makers.{IsOld}
use Rattle.law_one_standing.specs.Carried.{Carried, IsFitMachine, Trace, between_of, stand_of}
use Rattle.law_one_standing.specs.Kept.{Keeps}
use Rattle.law_one_standing.specs.Links.{AreWholeLinks}

-- where there is no link no board is handed over, and nothing is on its way
pub record IsAtRest (t : Trace) (s : LineState) (link : ℕ) : Type 0 where
  pub outlet : (node_at s link).lane.body.outlet.phase ≡ out.Idle
  pub intake : (node_at s (link + 1)).lane.body.intake.phase ≡ inn.Idle
  pub exit : (node_at s link).lane.body.exit.session.state ≡ NotConnected
  pub entry : (node_at s (link + 1)).lane.body.entry.session.state ≡ NotConnected
  pub up : t.up link ≡ []
  pub down : t.down link ≡ []

-- between two lines of a script: the relation of each two neighbours and of each machine, the
-- bytes of each link, what is at rest at the ends, what stands together in each machine, each link
-- and the line; and each id that went from the floor was made by a machine
pub record Stands (t : Trace) (s : LineState) : Type 0 where
  pub keeps : Keeps (stand_of s) (between_of t s)
  pub carried : (link : ℕ) → has_link link s ≡ true → Carried t s link
  pub rest : (link : ℕ) → has_link link s ≡ false → IsAtRest t s link
  pub fit : (machine : ℕ) → IsFitMachine s machine
  pub sound : (machine : ℕ) → IsSound (node_at s machine).capacity (node_at s machine).lane.body
  pub links : AreWholeLinks s
  pub together : IsLineTogether s
  pub ids : Holds s
  pub olds : (link id : ℕ) → t.gone link id ≡ true → IsOld 1 s.machines id
