-- What a message asks of a machine, and which sides new settings reset.
use Rattle.std.specs.Prelude.{◌≡◌, ◌↔◌, IsTrue}
use Rattle.config_service.specs.declared.config.Plan.{Plan}
use Rattle.config_service.specs.declared.config.Plan.TheVariants as plans
use Rattle.config_service.specs.declared.config.Resets.{Resets}
use Rattle.config_service.specs.declared.message.ConfigBody.{ConfigBody}
use Rattle.config_service.specs.declared.message.ConfigBody.TheVariants as bodies
use Rattle.config_service.specs.declared.message.Settings.{Settings}

-- WHAT A MESSAGE ASKS: to be told the settings, to try others, nothing; or it is none that a
-- machine may be sent
abbrev pub plan_of : ConfigBody → Plan
plan_of bodies.Get = plans.Tell
plan_of (bodies.Set settings) = plans.Try settings
plan_of (bodies.Notification code severity text) = plans.Nothing
plan_of (bodies.Other name) = plans.Nothing
plan_of (bodies.Current settings) = plans.Breach

-- a side is reset exactly where its setting changed
pub record IsReset (before now : Settings) (resets : Resets) : Type 0 where
  pub upstream : IsTrue resets.upstream ↔ (before.upstream ≡ now.upstream → ⊥)
  pub downstream : IsTrue resets.downstream ↔ (before.port ≡ now.port → ⊥)
