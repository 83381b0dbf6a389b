-- What comes next of the bytes of a channel is heard: a frame, that means one thing, no frame, or too many bytes.
use Rattle.std.proofs.Common.{◌≡◌, ◌∙◌, ◌⊎◌, inl, inr, ◌==◌, ◌↔◌, ◌≤◌, ℕ, ℤ, Bool, true, false, List, [], Option, Some, None, Result, Ok, Err, codes, length, refl, sym, ap, arith, eqb-true, eq-eqb}
use Rattle.std.specs.Prelude.{IsTrue}
use Rattle.std.specs.Str.{bytes_eq}
use Rattle.std.proofs.lemmas.Bool.{false≢true}
use Rattle.std.proofs.lemmas.List.{length-drop}
use Rattle.std.proofs.lemmas.Slice.Eq.{bytes_eq-Decides}
use Rattle.line_base.specs.declared.states.Severity.TheVariants as severity
use Rattle.config_service.specs.Plans.{IsReset, plan_of}
use Rattle.config_service.specs.declared.config.Plan.{Plan}
use Rattle.config_service.specs.declared.config.Plan.TheVariants as plans
use Rattle.config_service.specs.declared.config.Resets.{Resets}
use Rattle.config_service.specs.declared.message.ConfigBody.TheVariants as config_bodies
use Rattle.config_service.specs.declared.message.Settings.{Settings}
use Rattle.hermes_horizontal.specs.declared.message.Ping.TheVariants as pings
use Rattle.hermes_stream.specs.Cutter.{taken_of}
use Rattle.hermes_stream.specs.Cutter as cutter
use Rattle.hermes_stream.specs.Frames.{Answer, Frame, NeedMore, TooLong, answer_of, left_of}
use Rattle.hermes_stream.proofs.Runs.{length-fed, length-left_of, tells}
use Rattle.hermes_vertical.specs.Parts.{kind_of}
use Rattle.hermes_vertical.specs.declared.message.Vertical.{Vertical}
use Rattle.hermes_vertical.specs.declared.message.Vertical.TheVariants as bodies
use Rattle.line_outside.specs.declared.ports.Opened.{Opened}
use Rattle.line_outside.specs.declared.ports.Opened.TheVariants as opens
use Rattle.line_outside.specs.declared.way.Address.{Address}
use Rattle.node_core.specs.May.{may_of}
use Rattle.node_core.specs.declared.input.Input.TheVariants as inputs
use Rattle.node_core.specs.declared.input.No.{No}
use Rattle.supervised_end.specs.Channel.{ChannelValue, HearsNext, IsShort, fed, hears_behind, room_of}
use Rattle.node_run.specs.Configuring.{Accepts, AfterTry, DoesConfig, DoesConfigFound, DoesPlan, HearsConfig, TriesIf, accepted, config_broken_off, config_said, hears_config_behind, port_refused, with_config}
use Rattle.supervised_end.specs.Said.{notification, system_of, untaken}
use Rattle.node_run.specs.Hearing.{AnswersIf, BreaksOff, DoesAction, DoesFound, DoesHear, DoesRow, broken_off, said, with_channel, with_stands}
use Rattle.node_run.specs.State.{RunState}
use Rattle.node_run.specs.declared.channel.ConfigFound.{ConfigFound}
use Rattle.node_run.specs.declared.channel.ConfigFound.TheVariants as config_founds
use Rattle.node_run.specs.declared.channel.ConfigWord.TheVariants as config_words
use Rattle.supervised_end.specs.declared.channel.Found.{Found}
use Rattle.supervised_end.specs.declared.channel.Found.TheVariants as founds
use Rattle.supervised_end.specs.declared.channel.Word.TheVariants as words
use Rattle.node_run.specs.declared.rules.Rules.{Rules}
use Rattle.supervisory_core.specs.Row.{SupervisedRow, supervised_row}
use Rattle.supervisory_core.specs.Told.{unexpected}
use Rattle.supervisory_core.specs.declared.action.VerticalAction.{VerticalAction}
use Rattle.supervisory_core.specs.declared.action.VerticalAction.TheVariants as actions
use Rattle.law_node_runs.proofs.Frames.{each_config_word, each_word}
use Rattle.law_node_runs.proofs.Happening.{Happens, IsKept, alike, becomes, step_happens, takes_happens, unsupervised_happens}

-- ---- the bytes that wait

fed_short : (old : ChannelValue) → IsShort old → IsShort (fed old)
fed_short old short = record {
  waiting = length-fed old.waiting old.piece short.waiting;
  piece = omega (arith, short.piece, length-drop (room_of old) old.piece);
}

left_short : (old : ChannelValue) → IsShort old → length (left_of (fed old).waiting) ≤ 65536
left_short old short = omega (arith, length-left_of (fed old).waiting, (fed_short old short).waiting)

record Hears (old : ChannelValue) : Type 0 where
  found : Found
  new : ChannelValue
  hears : HearsNext old new found
  short : IsShort new

hears_by : (old : ChannelValue) → IsShort old → (answer : Answer) → cutter.Tells (fed old).waiting answer → Hears old
hears_by old short (Frame frame) gives =
    let w = each_word frame in
    record {
      found = founds.Word w.word;
      new = record { waiting = left_of (fed old).waiting; piece = (fed old).piece; hears = old.hears; stands = old.stands };
      hears = record { finds = record { frame = frame; gives = gives; behind = refl; means = w.means }; piece = refl; hears = refl; stands = refl };
      short = record { waiting = left_short old short; piece = (fed_short old short).piece };
    }
hears_by old short NeedMore wants = record {
  found = founds.More;
  new = record { waiting = left_of (fed old).waiting; piece = (fed old).piece; hears = hears_behind founds.More (fed old).piece old.hears; stands = old.stands };
  hears = record { finds = (wants, refl); piece = refl; hears = refl; stands = refl };
  short = record { waiting = left_short old short; piece = (fed_short old short).piece };
}
hears_by old short TooLong stays = record {
  found = founds.TooLong;
  new = record { waiting = (fed old).waiting; piece = (fed old).piece; hears = old.hears; stands = old.stands };
  hears = record { finds = (stays, refl); piece = refl; hears = refl; stands = refl };
  short = fed_short old short;
}

hears_next : (old : ChannelValue) → IsShort old → Hears old
hears_next old short = hears_by old short (answer_of (fed old).waiting) (tells (fed old).waiting (fed_short old short).waiting (answer_of (fed old).waiting) refl)

-- ---- what a message of the supervisor does

breaks_happens : (rules : Rules) (moment : ℤ) (text : List ℕ) (s : RunState) → IsKept s → Happens (λ t log. BreaksOff rules moment text s t log)
breaks_happens rules moment text s k =
    unsupervised_happens rules moment (broken_off moment text s)
    (record { node = k.node; channel = record { waiting = omega arith; piece = omega arith }; config = k.config; held = k.held })

said_kept : (moment : ℤ) (body : Vertical) (s : RunState) → IsKept s → IsKept (said moment body s)
said_kept moment body s k = record { node = k.node; channel = k.channel; config = k.config; held = k.held }

answers_happens : (may : Result (Unit {0}) No) (rules : Rules) (moment : ℤ) (query : ℕ) (order : List ℕ) (s : RunState) → IsKept s → Happens (λ t log. AnswersIf may rules moment query order s t log)
answers_happens (Ok done) rules moment query order s k = step_happens false rules moment [] (inputs.Answer query order) s tt k
answers_happens (Err why) rules moment query order s k =
    let text = notification 0 severity.Warning (untaken why) in becomes (said moment text s) [] (said_kept moment text s k)

action_happens : (action : VerticalAction) (rules : Rules) (moment : ℤ) (s : RunState) → IsKept s → Happens (λ t log. DoesAction action rules moment s t log)
action_happens actions.Describe rules moment s k =
    let told : RunState = said moment (system_of rules.machine_id) s in
    let l = said_kept moment (system_of rules.machine_id) s k in
    takes_happens (may_of s.node (inputs.Supervise true)) rules moment (inputs.Supervise true) told told tt l l
action_happens (actions.Pong id) rules moment s k =
    let body = bodies.CheckAlive (Some pings.Answer) id in becomes (said moment body s) [] (said_kept moment body s k)
action_happens (actions.Answer query order) rules moment s k = answers_happens (may_of s.node (inputs.Answer query order)) rules moment query order s k
action_happens actions.Nothing rules moment s k = becomes s [] k

stands_kept : (stands : Bool) (s : RunState) → IsKept s → IsKept (with_stands stands s)
stands_kept stands s k = record { node = k.node; channel = record { waiting = k.channel.waiting; piece = k.channel.piece }; config = k.config; held = k.held }

row_happens : (row : Option SupervisedRow) (body : Vertical) (rules : Rules) (moment : ℤ) (s : RunState) → IsKept s → Happens (λ t log. DoesRow row body rules moment s t log)
row_happens None body rules moment s k = breaks_happens rules moment (unexpected (kind_of body)) s k
row_happens (Some row) body rules moment s k = action_happens row.action rules moment (with_stands row.after s) (stands_kept row.after s k)

found_happens : (found : Found) (rules : Rules) (moment : ℤ) (s : RunState) → IsKept s → Happens (λ t log. DoesFound found rules moment s t log)
found_happens (founds.Word (words.Says message)) rules moment s k = row_happens (supervised_row s.channel.stands message.body) message.body rules moment s k
found_happens (founds.Word (words.Wrong text)) rules moment s k = breaks_happens rules moment text s k
found_happens founds.More rules moment s k = becomes s [] k
found_happens founds.TooLong rules moment s k = breaks_happens rules moment (codes "message too long") s k

pub hear_happens : (rules : Rules) (moment : ℤ) (s : RunState) → IsKept s → Happens (λ t log. DoesHear rules moment s t log)
hear_happens rules moment s k =
    let heard = hears_next s.channel k.channel in
    let done = found_happens heard.found rules moment (with_channel heard.new s) (record { node = k.node; channel = heard.short; config = k.config; held = k.held }) in
    record { after = done.after; log = done.log; does = record { found = heard.found; channel = heard.new; hears = heard.hears; does = done.does }; kept = done.kept }

-- ---- which sides are reset

record HasFlag (P : Type 0) : Type 0 where
  flag : Bool
  is : IsTrue flag ↔ (P → ⊥)

flag_of : {P : Type 0} → P ⊎ (P → ⊥) → HasFlag P
flag_of (inl same) = record { flag = false; is = (λ t. absurd (false≢true t), λ other. absurd (other same)) }
flag_of (inr other) = record { flag = true; is = (λ t. other, λ o. refl) }

address_same : (a b : Address) → a.host ≡ b.host → a.port ≡ b.port → a ≡ b
address_same a b host port =
    let f : List ℕ → ℕ → Address = λ h p. record { host = h; port = p } in
    ap (λ (h : List ℕ). f h a.port) host ∙ ap (f b.host) port

address_by : (a b : Address) (host port : Bool) → bytes_eq a.host b.host ≡ host → (a.port == b.port) ≡ port → (a ≡ b) ⊎ (a ≡ b → ⊥)
address_by a b true true h p = inl (address_same a b ((bytes_eq-Decides a.host b.host).0 h) (eqb-true a.port b.port p))
address_by a b false port h p = inr (λ same. false≢true (sym h ∙ (bytes_eq-Decides a.host b.host).1 (ap (λ (x : Address). x.host) same)))
address_by a b true false h p = inr (λ same. false≢true (sym p ∙ eq-eqb a.port b.port (ap (λ (x : Address). x.port) same)))

some_same : (a b : Address) → Some a ≡ Some b → a ≡ b
some_same a b is = cc

upstream_by : (a b : Option Address) → (a ≡ b) ⊎ (a ≡ b → ⊥)
upstream_by None None = inl refl
upstream_by None (Some b) = inr (λ same. absurd cc)
upstream_by (Some a) None = inr (λ same. absurd cc)
upstream_by (Some a) (Some b) = elim (address_by a b (bytes_eq a.host b.host) (a.port == b.port) refl refl) [
  | inl same ↦ inl (ap Some same)
  | inr other ↦ inr (λ same. other (some_same a b same))
]

port_by : (a b : ℕ) (test : Bool) → (a == b) ≡ test → (a ≡ b) ⊎ (a ≡ b → ⊥)
port_by a b true is = inl (eqb-true a b is)
port_by a b false is = inr (λ same. false≢true (sym is ∙ eq-eqb a b same))

record HasResets (before now : Settings) : Type 0 where
  resets : Resets
  is : IsReset before now resets

resets_of : (before now : Settings) → HasResets before now
resets_of before now =
    let up = flag_of (upstream_by before.upstream now.upstream) in
    let down = flag_of (port_by before.port now.port (before.port == now.port) refl) in
    record { resets = record { upstream = up.flag; downstream = down.flag }; is = record { upstream = up.is; downstream = down.is } }

-- ---- what a message of the configuration service does

-- something is done that is not logged
pub record Changes (Does : RunState → Type 0) : Type 0 where
  pub after : RunState
  pub does : Does after
  pub kept : IsKept after

changed : (u : RunState) → IsKept u → Changes (λ t. t ≡ u)
changed u k = record { after = u; does = refl; kept = k }

accepts_happens : (moment : ℤ) (settings : Settings) (s : RunState) → IsKept s → Changes (λ t. Accepts moment settings s t)
accepts_happens moment settings s k =
    let r = resets_of s.settings settings in
    record {
      after = accepted moment settings r.resets s;
      does = record { resets = r.resets; sides = r.is; after = refl };
      kept = record { node = k.node; channel = k.channel; config = k.config; held = k.held };
    }

tries_happens : (same : Bool) (moment : ℤ) (settings : Settings) (s : RunState) → IsKept s → Changes (λ t. TriesIf same moment settings s t)
tries_happens true moment settings s k = accepts_happens moment settings s k
tries_happens false moment settings s k = changed (record s { tries = Some settings }) (alike s (record s { tries = Some settings }) refl refl refl refl k)

broken_kept : (moment : ℤ) (text : List ℕ) (s : RunState) → IsKept s → IsKept (config_broken_off moment text s)
broken_kept moment text s k = record { node = k.node; channel = k.channel; config = record { waiting = omega arith; piece = omega arith }; held = k.held }

plan_happens : (plan : Plan) (moment : ℤ) (s : RunState) → IsKept s → Changes (λ t. DoesPlan plan moment s t)
plan_happens plans.Tell moment s k =
    let told : RunState = config_said moment (config_bodies.Current s.settings) s in changed told (alike s told refl refl refl refl k)
plan_happens (plans.Try settings) moment s k = tries_happens (settings.port == s.settings.port) moment settings s k
plan_happens plans.Nothing moment s k = changed s k
plan_happens plans.Breach moment s k =
    let text = codes "unexpected CurrentConfiguration" in changed (config_broken_off moment text s) (broken_kept moment text s k)

config_found : (found : ConfigFound) (moment : ℤ) (s : RunState) → IsKept s → Changes (λ t. DoesConfigFound found moment s t)
config_found (config_founds.Word (config_words.Says message)) moment s k = plan_happens (plan_of message.body) moment s k
config_found (config_founds.Word (config_words.Wrong text)) moment s k = changed (config_broken_off moment text s) (broken_kept moment text s k)
config_found config_founds.More moment s k = changed s k
config_found config_founds.TooLong moment s k =
    let text = codes "message too long" in changed (config_broken_off moment text s) (broken_kept moment text s k)

record HearsConfigAs (old : ChannelValue) : Type 0 where
  found : ConfigFound
  new : ChannelValue
  hears : HearsConfig old new found
  short : IsShort new

config_by : (old : ChannelValue) → IsShort old → (answer : Answer) → cutter.Tells (fed old).waiting answer → HearsConfigAs old
config_by old short (Frame frame) gives =
    let w = each_config_word frame in
    record {
      found = config_founds.Word w.word;
      new = record { waiting = left_of (fed old).waiting; piece = (fed old).piece; hears = old.hears; stands = old.stands };
      hears = record { finds = record { frame = frame; gives = gives; behind = refl; means = w.means }; piece = refl; hears = refl; stands = refl };
      short = record { waiting = left_short old short; piece = (fed_short old short).piece };
    }
config_by old short NeedMore wants = record {
  found = config_founds.More;
  new = record { waiting = left_of (fed old).waiting; piece = (fed old).piece; hears = hears_config_behind config_founds.More (fed old).piece old.hears; stands = old.stands };
  hears = record { finds = (wants, refl); piece = refl; hears = refl; stands = refl };
  short = record { waiting = left_short old short; piece = (fed_short old short).piece };
}
config_by old short TooLong stays = record {
  found = config_founds.TooLong;
  new = record { waiting = (fed old).waiting; piece = (fed old).piece; hears = old.hears; stands = old.stands };
  hears = record { finds = (stays, refl); piece = refl; hears = refl; stands = refl };
  short = fed_short old short;
}

pub config_happens : (moment : ℤ) (s : RunState) → IsKept s → Changes (λ t. DoesConfig moment s t)
config_happens moment s k =
    let heard = config_by s.config k.config (answer_of (fed s.config).waiting) (tells (fed s.config).waiting (fed_short s.config k.config).waiting (answer_of (fed s.config).waiting) refl) in
    let done = config_found heard.found moment (with_config heard.new s) (record { node = k.node; channel = k.channel; config = heard.short; held = k.held }) in
    record { after = done.after; does = record { found = heard.found; config = heard.new; hears = heard.hears; does = done.does }; kept = done.kept }

pub try_happens : (opened : Opened) (moment : ℤ) (settings : Settings) (s : RunState) → IsKept s → Changes (λ t. AfterTry opened moment settings s t)
try_happens opens.Done moment settings s k = accepts_happens moment settings s k
try_happens opens.Failed moment settings s k =
    let told : RunState = config_said moment port_refused (record s { tries = None }) in changed told (alike s told refl refl refl refl k)
