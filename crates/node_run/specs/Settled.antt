-- WHERE A MACHINE'S NEIGHBOURS ARE after a run: as the last Set said that was taken, or as before.
-- A Set is taken where it leaves the port, or where the machine could listen at the port that it
-- names.
use Rattle.std.specs.Prelude.{◌≡◌, ◌++◌, ℕ, ℤ, List, [], ◌∷◌, Some}
use Rattle.config_service.specs.Plans.{IsReset}
use Rattle.config_service.specs.declared.message.ConfigBody.TheVariants as bodies
use Rattle.config_service.specs.declared.message.ConfigMessage.{ConfigMessage}
use Rattle.config_service.specs.declared.message.Settings.{Settings}
use Rattle.line_outside.specs.Given.{Given, Listens}
use Rattle.line_outside.specs.Listening.{at_all}
use Rattle.line_outside.specs.declared.ports.Opened.TheVariants as opens
use Rattle.line_outside.specs.declared.way.Way.TheVariants as ways
use Rattle.supervised_end.specs.Channel.{ChannelValue}
use Rattle.node_run.specs.Configuring.{HearsConfig}
use Rattle.node_run.specs.Runs.{Moves, Runs}
use Rattle.node_run.specs.State.{RunState}
use Rattle.node_run.specs.declared.channel.ConfigFound.TheVariants as founds
use Rattle.node_run.specs.declared.channel.ConfigWord.TheVariants as words
use Rattle.node_run.specs.declared.rules.Rules.{Rules}

-- a Set was heard that leaves the port, or the listen of one was done
pub data IsTaken (settings : Settings) (s : RunState) : List Given → Type 0 where
  heard : (message : ConfigMessage) → (config : ChannelValue)
      → HearsConfig s.config config (founds.Word (words.Says message))
      → message.body ≡ bodies.Set settings → settings.port ≡ s.settings.port → IsTaken settings s []
  listened : s.tries ≡ Some settings
      → IsTaken settings s (Listens ways.Downstream (at_all settings.port) opens.Done ∷ [])

-- ITS SETTINGS ARE THE RUN'S FROM THEN ON, and a side is to be reset exactly where its setting
-- changed
pub record TakesSet (chosen : Settings) (s t : RunState) (calls : List Given) : Type 0 where
  pub taken : IsTaken chosen s calls
  pub settings : t.settings ≡ chosen
  pub resets : IsReset s.settings chosen t.resets

-- a run took these Sets, in their order
pub data Settles (rules : Rules) : RunState → List Settings → RunState → Type 0 where
  as_before : {s : RunState} → Settles rules s [] s
  keeps : {s t u : RunState} {sets : List Settings} {moment : ℤ} {calls : List Given}
      {log : List ℕ} → Settles rules s sets t → Moves rules moment t calls u log
      → u.settings ≡ t.settings → Settles rules s sets u
  takes : {s t u : RunState} {sets : List Settings} {moment : ℤ} {calls : List Given}
      {log : List ℕ} → (settings : Settings) → Settles rules s sets t
      → Moves rules moment t calls u log → TakesSet settings t u calls
      → Settles rules s (sets ++ settings ∷ []) u

-- the last of some settings, or else these
abbrev pub last_set : Settings → List Settings → Settings
last_set before [] = before
last_set before (settings ∷ sets) = last_set settings sets

pub record IsSettled (rules : Rules) (s t : RunState) : Type 0 where
  pub sets : List Settings
  pub took : Settles rules s sets t
  pub last : t.settings ≡ last_set s.settings sets

-- THE LAW, over the run of every node
abbrev pub SettingsAreTheLast : Type 0
SettingsAreTheLast =
    (rules : Rules) (moments : List ℤ) (s t : RunState) (calls : List Given) (log : List ℕ)
    → Runs rules s moments calls t log → IsSettled rules s t
