-- What the bytes of the configuration way do is one thing, and so is the reset of a side.
use Rattle.std.proofs.Common.{◌≡◌, ◌∙◌, ◌↔◌, ◌==◌, ℕ, ℤ, Bool, true, false, List, [], Option, Some, None, refl, sym, ap, subst, codes}
use Rattle.std.specs.Prelude.{IsTrue}
use Rattle.hermes_stream.specs.Cutter.{GivesFrame, StaysTooLong, WantsMore}
use Rattle.config_service.specs.Plans.{IsReset, plan_of}
use Rattle.config_service.specs.Spelling.{IsRefused, Spells}
use Rattle.config_service.specs.Texts.{refusal_text}
use Rattle.config_service.specs.declared.config.Plan.{Plan}
use Rattle.config_service.specs.declared.config.Plan.TheVariants as plans
use Rattle.config_service.specs.declared.config.Resets.{Resets}
use Rattle.config_service.specs.declared.fault.ConfigFault.{ConfigFault}
use Rattle.config_service.specs.declared.message.ConfigBody.TheVariants as bodies
use Rattle.config_service.specs.declared.message.ConfigMessage.{ConfigMessage}
use Rattle.config_service.specs.declared.message.Settings.{Settings}
use Rattle.line_base.specs.declared.states.Side.{Side}
use Rattle.line_base.specs.declared.states.Side.TheVariants.{Entry, Exit}
use Rattle.line_outside.specs.declared.answer.GotBytes.{GotBytes}
use Rattle.line_outside.specs.declared.answer.GotBytes.TheVariants as gots
use Rattle.line_outside.specs.declared.ports.Opened.{Opened}
use Rattle.line_outside.specs.declared.ports.Opened.TheVariants as opens
use Rattle.node_core.specs.Node.{NodeState}
use Rattle.node_core.specs.declared.input.Input.TheVariants as inputs
use Rattle.node_run.specs.After.{after_configuration, configuration_arrived, configuration_bytes, configuration_closed, configuration_second}
use Rattle.supervised_end.specs.Channel.{ChannelValue, fed}
use Rattle.node_run.specs.Configuring.{Accepts, AfterTry, DoesConfig, DoesConfigFound, DoesPlan, FindsConfig, HearsConfig, IsWrongConfig, MeansConfig, TriesIf, accepted, config_broken_off, config_said, hears_config_behind, port_refused, with_config}
use Rattle.node_run.specs.Resetting.{ResetsSide, leaving, reset_begun}
use Rattle.node_run.specs.State.{RunState}
use Rattle.node_run.specs.declared.channel.ConfigFound.{ConfigFound}
use Rattle.node_run.specs.declared.channel.ConfigFound.TheVariants as founds
use Rattle.node_run.specs.declared.channel.ConfigWord.{ConfigWord}
use Rattle.node_run.specs.declared.channel.ConfigWord.TheVariants as words
use Rattle.node_run.specs.declared.rules.Rules.{Rules}
use Rattle.node_run.specs.declared.way_state.Wire.{Wire}
use Rattle.node_run.specs.declared.way_state.Wire.TheVariants as wires
use Rattle.law_node_runs.proofs.Channels.{channel_same, gives_of_long, gives_of_more, more_of_long, one_frame}
use Rattle.law_node_runs.proofs.Nodes.{Alike}
use Rattle.law_node_runs.proofs.States.{Once, Passes, becomes, like, passed, takes_once}

-- ---- a frame of the way means one thing

abbrev pub ConfigSpelledOnce : Type 0
ConfigSpelledOnce = (bytes : List ℕ) (a b : ConfigMessage) → Spells bytes a → Spells bytes b → a ≡ b

abbrev pub ConfigRefusedOnce : Type 0
ConfigRefusedOnce = (bytes : List ℕ) (at place : ℕ) (why reason : ConfigFault) → IsRefused bytes at why → IsRefused bytes place reason → (at ≡ place) × (why ≡ reason)

one_word : ConfigSpelledOnce → ConfigRefusedOnce → (frame : List ℕ) (a b : ConfigWord) → MeansConfig frame a → MeansConfig frame b → a ≡ b
one_word spelled refused frame (words.Says m) (words.Says n) x y = ap words.Says (spelled frame m n x y)
one_word spelled refused frame (words.Says m) (words.Wrong t) x y = absurd (y.spells_none m x)
one_word spelled refused frame (words.Wrong s) (words.Says n) x y = absurd (x.spells_none n y)
one_word spelled refused frame (words.Wrong s) (words.Wrong t) x y =
    let same = refused frame x.at y.at x.why y.why x.refused y.refused in
    ap words.Wrong (x.told ∙ ap (λ (at : ℕ). refusal_text x.why at) same.0 ∙ ap (λ (why : ConfigFault). refusal_text why y.at) same.1 ∙ sym y.told)

record FindsOnce (left left' : List ℕ) (found found' : ConfigFound) : Type 0 where
  bytes : left' ≡ left
  same : found' ≡ found

finds_once : ConfigSpelledOnce → ConfigRefusedOnce → (waiting left left' : List ℕ) (found found' : ConfigFound) → FindsConfig waiting left found → FindsConfig waiting left' found' → FindsOnce left left' found found'
finds_once spelled refused waiting left left' (founds.Word a) (founds.Word b) x y =
    let P : List ℕ → Type 0 = λ frame. MeansConfig frame b in
    let means = subst P (one_frame waiting y.frame x.frame y.gives x.gives) y.means in
    record { bytes = y.behind ∙ sym x.behind; same = ap founds.Word (one_word spelled refused x.frame b a means x.means) }
finds_once spelled refused waiting left left' (founds.Word a) founds.More x y = absurd (gives_of_more waiting x.frame x.gives y.0)
finds_once spelled refused waiting left left' (founds.Word a) founds.TooLong x y = absurd (gives_of_long waiting x.frame x.gives y.0)
finds_once spelled refused waiting left left' founds.More (founds.Word b) x y = absurd (gives_of_more waiting y.frame y.gives x.0)
finds_once spelled refused waiting left left' founds.More founds.More x y = record { bytes = y.1 ∙ sym x.1; same = refl }
finds_once spelled refused waiting left left' founds.More founds.TooLong x y = absurd (more_of_long waiting x.0 y.0)
finds_once spelled refused waiting left left' founds.TooLong (founds.Word b) x y = absurd (gives_of_long waiting y.frame y.gives x.0)
finds_once spelled refused waiting left left' founds.TooLong founds.More x y = absurd (more_of_long waiting y.0 x.0)
finds_once spelled refused waiting left left' founds.TooLong founds.TooLong x y = record { bytes = y.1 ∙ sym x.1; same = refl }

record HearsOnce (new new' : ChannelValue) (found found' : ConfigFound) : Type 0 where
  config : new' ≡ new
  same : found' ≡ found

hears_once : ConfigSpelledOnce → ConfigRefusedOnce → (old new new' : ChannelValue) (found found' : ConfigFound) → HearsConfig old new found → HearsConfig old new' found' → HearsOnce new new' found found'
hears_once spelled refused old new new' found found' one two =
    let once = finds_once spelled refused (fed old).waiting new.waiting new'.waiting found found' one.finds two.finds in
    record {
      config = channel_same new new' once.bytes (two.piece ∙ sym one.piece)
          (two.hears ∙ ap (λ (f : ConfigFound). hears_config_behind f (fed old).piece old.hears) once.same ∙ sym one.hears) (two.stands ∙ sym one.stands);
      same = once.same;
    }

-- ---- what a message does

one_flag : (P : Type 0) (a b : Bool) → IsTrue a ↔ P → IsTrue b ↔ P → b ≡ a
one_flag P true true x y = refl
one_flag P true false x y = y.1 (x.0 refl)
one_flag P false true x y = sym (x.1 (y.0 refl))
one_flag P false false x y = refl

-- what is reset follows from the settings
one_resets : (before now : Settings) (a b : Resets) → IsReset before now a → IsReset before now b → b ≡ a
one_resets before now a b x y =
    let f : Bool → Bool → Resets = λ u d. record { upstream = u; downstream = d } in
    ap (λ (u : Bool). f u b.downstream) (one_flag (before.upstream ≡ now.upstream → ⊥) a.upstream b.upstream x.upstream y.upstream)
    ∙ ap (f a.upstream) (one_flag (before.port ≡ now.port → ⊥) a.downstream b.downstream x.downstream y.downstream)

-- a state behind a move that logs nothing
settles : (u : RunState) (n : NodeState) (t t' : RunState) (log log' : List ℕ) → Alike u.node n → t ≡ u → t' ≡ like u n → log ≡ [] → log' ≡ [] → Once t t' log log'
settles u n t t' log log' alike one two quiet quiet' = becomes u n [] t t' log log' alike (one, quiet) (two, quiet')

accepts_once : (moment : ℤ) (settings : Settings) (s : RunState) (n : NodeState) (t t' : RunState) (log log' : List ℕ) → Alike s.node n → Accepts moment settings s t → Accepts moment settings (like s n) t' → log ≡ [] → log' ≡ [] → Once t t' log log'
accepts_once moment settings s n t t' log log' alike one two quiet quiet' =
    let same = one_resets s.settings settings one.resets two.resets one.sides two.sides in
    settles (accepted moment settings one.resets s) n t t' log log' alike one.after (two.after ∙ ap (λ (r : Resets). accepted moment settings r (like s n)) same) quiet quiet'

tries_once : (same : Bool) (moment : ℤ) (settings : Settings) (s : RunState) (n : NodeState) (t t' : RunState) (log log' : List ℕ) → Alike s.node n → TriesIf same moment settings s t → TriesIf same moment settings (like s n) t' → log ≡ [] → log' ≡ [] → Once t t' log log'
tries_once true moment settings s n t t' log log' alike one two quiet quiet' = accepts_once moment settings s n t t' log log' alike one two quiet quiet'
tries_once false moment settings s n t t' log log' alike one two quiet quiet' = settles (record s { tries = Some settings }) n t t' log log' alike one two quiet quiet'

plan_once : (plan : Plan) (moment : ℤ) (s : RunState) (n : NodeState) (t t' : RunState) (log log' : List ℕ) → Alike s.node n → DoesPlan plan moment s t → DoesPlan plan moment (like s n) t' → log ≡ [] → log' ≡ [] → Once t t' log log'
plan_once plans.Tell moment s n t t' log log' alike one two quiet quiet' = settles (config_said moment (bodies.Current s.settings) s) n t t' log log' alike one two quiet quiet'
plan_once (plans.Try settings) moment s n t t' log log' alike one two quiet quiet' = tries_once (settings.port == s.settings.port) moment settings s n t t' log log' alike one two quiet quiet'
plan_once plans.Nothing moment s n t t' log log' alike one two quiet quiet' = settles s n t t' log log' alike one two quiet quiet'
plan_once plans.Breach moment s n t t' log log' alike one two quiet quiet' = settles (config_broken_off moment (codes "unexpected CurrentConfiguration") s) n t t' log log' alike one two quiet quiet'

found_once : (found : ConfigFound) (moment : ℤ) (s : RunState) (n : NodeState) (t t' : RunState) (log log' : List ℕ) → Alike s.node n → DoesConfigFound found moment s t → DoesConfigFound found moment (like s n) t' → log ≡ [] → log' ≡ [] → Once t t' log log'
found_once (founds.Word (words.Says message)) moment s n t t' log log' alike one two quiet quiet' = plan_once (plan_of message.body) moment s n t t' log log' alike one two quiet quiet'
found_once (founds.Word (words.Wrong text)) moment s n t t' log log' alike one two quiet quiet' = settles (config_broken_off moment text s) n t t' log log' alike one two quiet quiet'
found_once founds.More moment s n t t' log log' alike one two quiet quiet' = settles s n t t' log log' alike one two quiet quiet'
found_once founds.TooLong moment s n t t' log log' alike one two quiet quiet' = settles (config_broken_off moment (codes "message too long") s) n t t' log log' alike one two quiet quiet'

pub config_once : ConfigSpelledOnce → ConfigRefusedOnce → (moment : ℤ) (s : RunState) (n : NodeState) (t t' : RunState) (log log' : List ℕ) → Alike s.node n → DoesConfig moment s t → DoesConfig moment (like s n) t' → log ≡ [] → log' ≡ [] → Once t t' log log'
config_once spelled refused moment s n t t' log log' alike one two quiet quiet' =
    let once = hears_once spelled refused s.config one.config two.config one.found two.found one.hears two.hears in
    let P : ConfigFound → Type 0 = λ found. DoesConfigFound found moment (with_config two.config (like s n)) t' in
    let Q : ChannelValue → Type 0 = λ config. DoesConfigFound one.found moment (with_config config (like s n)) t' in
    found_once one.found moment (with_config one.config s) n t t' log log' alike one.does (subst Q once.config (subst P once.same two.does)) quiet quiet'

-- ---- a listen of a Set, and the reset of a side

pub try_once : (opened : Opened) (moment : ℤ) (settings : Settings) (s : RunState) (n : NodeState) (t t' : RunState) (log log' : List ℕ) → Alike s.node n → AfterTry opened moment settings s t → AfterTry opened moment settings (like s n) t' → log ≡ [] → log' ≡ [] → Once t t' log log'
try_once opens.Done moment settings s n t t' log log' alike one two quiet quiet' = accepts_once moment settings s n t t' log log' alike one two quiet quiet'
try_once opens.Failed moment settings s n t t' log log' alike one two quiet quiet' = settles (config_said moment port_refused (record s { tries = None })) n t t' log log' alike one two quiet quiet'

pub reset_once : (side : Side) (rules : Rules) (moment : ℤ) (s : RunState) (n : NodeState) (t t' : RunState) (log log' : List ℕ) → Alike s.node n → ResetsSide rules moment side s t log → ResetsSide rules moment side (like s n) t' log' → Once t t' log log'
reset_once Entry rules moment s n t t' log log' alike one two =
    let begun = reset_begun Entry s in takes_once rules moment (inputs.Notice Entry) (leaving moment Entry begun) begun n t t' log log' tt alike alike one two
reset_once Exit rules moment s n t t' log log' alike one two =
    let begun = reset_begun Exit s in takes_once rules moment (inputs.Notice Exit) (leaving moment Exit begun) begun n t t' log log' tt alike alike one two

-- ---- a poll of the configuration way

passes_arrived : (wire : Wire) → Passes (configuration_arrived wire)
passes_arrived wires.Rests = record { same = λ s n. refl; node = λ s. refl }
passes_arrived wires.Stands = record { same = λ s n. refl; node = λ s. refl }
passes_arrived wires.Ends = record { same = λ s n. refl; node = λ s. refl }
passes_arrived wires.Breaks = record { same = λ s n. refl; node = λ s. refl }

passes_second : (wire : Wire) (moment : ℤ) → Passes (configuration_second wire moment)
passes_second wires.Rests moment = record { same = λ s n. refl; node = λ s. refl }
passes_second wires.Stands moment = record { same = λ s n. refl; node = λ s. refl }
passes_second wires.Ends moment = record { same = λ s n. refl; node = λ s. refl }
passes_second wires.Breaks moment = record { same = λ s n. refl; node = λ s. refl }

passes_bytes : (wire : Wire) (bytes : List ℕ) → Passes (configuration_bytes wire bytes)
passes_bytes wires.Rests bytes = record { same = λ s n. refl; node = λ s. refl }
passes_bytes wires.Stands bytes = record { same = λ s n. refl; node = λ s. refl }
passes_bytes wires.Ends bytes = record { same = λ s n. refl; node = λ s. refl }
passes_bytes wires.Breaks bytes = record { same = λ s n. refl; node = λ s. refl }

passes_closed : (wire : Wire) → Passes (configuration_closed wire)
passes_closed wires.Rests = record { same = λ s n. refl; node = λ s. refl }
passes_closed wires.Stands = record { same = λ s n. refl; node = λ s. refl }
passes_closed wires.Ends = record { same = λ s n. refl; node = λ s. refl }
passes_closed wires.Breaks = record { same = λ s n. refl; node = λ s. refl }

pub configuration_once : (got : GotBytes) (moment : ℤ) (s : RunState) (n : NodeState) (t t' : RunState) (log log' : List ℕ) → Alike s.node n → (t ≡ after_configuration moment got s) × (log ≡ []) → (t' ≡ after_configuration moment got (like s n)) × (log' ≡ []) → Once t t' log log'
configuration_once gots.Arrived moment s n t t' log log' alike one two = passed (configuration_arrived s.configuration.wire) (passes_arrived s.configuration.wire) s n [] t t' log log' alike one two
configuration_once gots.Second moment s n t t' log log' alike one two = passed (configuration_second s.configuration.wire moment) (passes_second s.configuration.wire moment) s n [] t t' log log' alike one two
configuration_once (gots.Bytes bytes) moment s n t t' log log' alike one two = passed (configuration_bytes s.configuration.wire bytes) (passes_bytes s.configuration.wire bytes) s n [] t t' log log' alike one two
configuration_once gots.NotYet moment s n t t' log log' alike one two = becomes s n [] t t' log log' alike one two
configuration_once gots.Closed moment s n t t' log log' alike one two = passed (configuration_closed s.configuration.wire) (passes_closed s.configuration.wire) s n [] t t' log log' alike one two
configuration_once gots.Failed moment s n t t' log log' alike one two = passed (configuration_closed s.configuration.wire) (passes_closed s.configuration.wire) s n [] t t' log log' alike one two
