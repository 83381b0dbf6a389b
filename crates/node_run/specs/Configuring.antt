-- What the messages of the configuration service do to a run: its settings are told, tried and
-- taken. Which sides are reset then is specs/Resetting.
use Rattle.std.specs.Prelude.{◌≡◌, ◌++◌, ◌==◌, ℕ, ℤ, Bool, true, false, not, List, [], Option, None, Some, codes}
use Rattle.line_base.specs.declared.states.Severity.{Severity}
use Rattle.line_base.specs.declared.states.Severity.TheVariants as severity
use Rattle.line_outside.specs.declared.ports.Opened.{Opened}
use Rattle.line_outside.specs.declared.ports.Opened.TheVariants as opens
use Rattle.config_service.specs.Canonical.{canonical}
use Rattle.config_service.specs.Plans.{IsReset, plan_of}
use Rattle.config_service.specs.Spelling.{IsRefused, Spells}
use Rattle.config_service.specs.Texts.{refusal_text}
use Rattle.config_service.specs.declared.config.Plan.{Plan}
use Rattle.config_service.specs.declared.config.Plan.TheVariants as plans
use Rattle.config_service.specs.declared.config.Resets.{Resets}
use Rattle.config_service.specs.declared.fault.ConfigFault.{ConfigFault}
use Rattle.config_service.specs.declared.message.ConfigBody.{ConfigBody}
use Rattle.config_service.specs.declared.message.ConfigBody.TheVariants as bodies
use Rattle.config_service.specs.declared.message.ConfigMessage.{ConfigMessage}
use Rattle.config_service.specs.declared.message.Settings.{Settings}
use Rattle.hermes_stream.specs.Cutter.{GivesFrame, StaysTooLong, WantsMore}
use Rattle.hermes_stream.specs.Frames.{left_of}
use Rattle.supervised_end.specs.Channel.{ChannelValue, fed, is_empty, no_session}
use Rattle.node_run.specs.State.{RunState}
use Rattle.node_run.specs.declared.channel.ConfigFound.{ConfigFound}
use Rattle.node_run.specs.declared.channel.ConfigFound.TheVariants as founds
use Rattle.node_run.specs.declared.channel.ConfigWord.{ConfigWord}
use Rattle.node_run.specs.declared.channel.ConfigWord.TheVariants as words
use Rattle.node_run.specs.declared.way_state.Wire.TheVariants as wires

-- ---- what a frame of the way means

-- a frame that spells no message: the text of its refusal
pub record IsWrongConfig (frame text : List ℕ) : Type 0 where
  pub at : ℕ
  pub why : ConfigFault
  pub refused : IsRefused frame at why
  pub told : text ≡ refusal_text why at
  pub spells_none : (message : ConfigMessage) → Spells frame message → ⊥

abbrev pub MeansConfig : List ℕ → ConfigWord → Type 0
MeansConfig frame (words.Says message) = Spells frame message
MeansConfig frame (words.Wrong text) = IsWrongConfig frame text

-- a frame was taken off what waits, and means this
pub record TakesConfig (waiting left : List ℕ) (word : ConfigWord) : Type 0 where
  pub frame : List ℕ
  pub gives : GivesFrame waiting frame
  pub behind : left ≡ left_of waiting
  pub means : MeansConfig frame word

abbrev pub FindsConfig : List ℕ → List ℕ → ConfigFound → Type 0
FindsConfig waiting left (founds.Word word) = TakesConfig waiting left word
FindsConfig waiting left founds.More = WantsMore waiting × (left ≡ left_of waiting)
FindsConfig waiting left founds.TooLong = StaysTooLong waiting × (left ≡ waiting)

abbrev pub hears_config_behind : ConfigFound → List ℕ → Bool → Bool
hears_config_behind founds.More piece hears = not (is_empty piece)
hears_config_behind (founds.Word word) piece hears = hears
hears_config_behind founds.TooLong piece hears = hears

-- THE NEXT OF THE BYTES THAT CAME, as on the supervisor's way
pub record HearsConfig (old new : ChannelValue) (found : ConfigFound) : Type 0 where
  pub finds : FindsConfig (fed old).waiting new.waiting found
  pub piece : new.piece ≡ (fed old).piece
  pub hears : new.hears ≡ hears_config_behind found (fed old).piece old.hears
  pub stands : new.stands ≡ old.stands

-- ---- what the machine says on the way

abbrev pub config_text : ℤ → ConfigBody → List ℕ
config_text moment body = canonical (record { stamp = Some moment; body = body })

abbrev pub config_notice : ℕ → Severity → List ℕ → ConfigBody
config_notice number severity text =
    bodies.Notification (record { number = number }) severity text

-- a second connection is refused with this
abbrev pub configured_already : ConfigBody
configured_already = config_notice 2 severity.Error (codes "already connected")

-- a port that can't be listened at is answered with this
abbrev pub port_refused : ConfigBody
port_refused = config_notice 4 severity.Error (codes "port refused")

-- a message waits to be sent
abbrev pub config_said : ℤ → ConfigBody → RunState → RunState
config_said moment body s =
    record s {
      configuration = record s.configuration {
        unsent = s.configuration.unsent
            ++ config_text moment body;
      };
    }

-- who asked is told why, the way is to end, and what else came is dropped
abbrev pub config_ended : RunState → RunState
config_ended s =
    record s { configuration = record s.configuration { wire = wires.Ends }; config = no_session }

abbrev pub config_broken_off : ℤ → List ℕ → RunState → RunState
config_broken_off moment text s =
    config_ended (config_said moment (config_notice 1 severity.Fatal text) s)

-- ---- a Set

-- its settings are the run's from now on, and are told
abbrev pub settled : Settings → Resets → RunState → RunState
settled settings resets s =
    record s { settings = settings; tries = None; resets = resets }

abbrev pub accepted : ℤ → Settings → Resets → RunState → RunState
accepted moment settings resets s =
    config_said moment (bodies.Current settings) (settled settings resets s)

-- EACH SIDE WHOSE SETTING CHANGED, and no other, is to be reset
pub record Accepts (moment : ℤ) (settings : Settings) (s t : RunState) : Type 0 where
  pub resets : Resets
  pub sides : IsReset s.settings settings resets
  pub after : t ≡ accepted moment settings resets s

-- where the port is another, the machine listens there first
abbrev pub TriesIf : Bool → ℤ → Settings → RunState → RunState → Type 0
TriesIf true moment settings s t = Accepts moment settings s t
TriesIf false moment settings s t = t ≡ record s { tries = Some settings }

-- THE ANSWER TO THAT LISTEN: where it failed, the old listener and the settings stay
abbrev pub AfterTry : Opened → ℤ → Settings → RunState → RunState → Type 0
AfterTry opens.Done moment settings s t = Accepts moment settings s t
AfterTry opens.Failed moment settings s t =
    t ≡ config_said moment port_refused (record s { tries = None })

-- ---- what a message does

abbrev pub DoesPlan : Plan → ℤ → RunState → RunState → Type 0
DoesPlan plans.Tell moment s t = t ≡ config_said moment (bodies.Current s.settings) s
DoesPlan (plans.Try settings) moment s t =
    TriesIf (settings.port == s.settings.port) moment settings s t
DoesPlan plans.Nothing moment s t = t ≡ s
DoesPlan plans.Breach moment s t =
    t ≡ config_broken_off moment (codes "unexpected CurrentConfiguration") s

abbrev pub DoesConfigWord : ConfigWord → ℤ → RunState → RunState → Type 0
DoesConfigWord (words.Says message) moment s t = DoesPlan (plan_of message.body) moment s t
DoesConfigWord (words.Wrong text) moment s t = t ≡ config_broken_off moment text s

abbrev pub DoesConfigFound : ConfigFound → ℤ → RunState → RunState → Type 0
DoesConfigFound (founds.Word word) moment s t = DoesConfigWord word moment s t
DoesConfigFound founds.More moment s t = t ≡ s
DoesConfigFound founds.TooLong moment s t =
    t ≡ config_broken_off moment (codes "message too long") s

abbrev pub with_config : ChannelValue → RunState → RunState
with_config config s = record s { config = config }

-- THE NEXT OF THE MESSAGES ON THE CONFIGURATION WAY
pub record DoesConfig (moment : ℤ) (s t : RunState) : Type 0 where
  pub found : ConfigFound
  pub config : ChannelValue
  pub hears : HearsConfig s.config config found
  pub does : DoesConfigFound found moment (with_config config s) t
