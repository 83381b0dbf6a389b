-- What a message of the configuration service, and the reset of a side, leave as they were.
use Rattle.std.proofs.Common.{◌≡◌, ◌∙◌, sym, subst, ap, refl, ℕ, ℤ, ◌+◌, ◌<◌, ◌≤◌, ◌==◌, Bool, true, false, List, [], Option, None, Some, Result, Ok, Err, codes, length, not, arith}
use Rattle.std.specs.Prelude.{OnOk}
use Rattle.line_base.specs.declared.memory.Memory.{Memory}
use Rattle.line_base.specs.declared.states.Severity.TheVariants as severity
use Rattle.line_base.specs.declared.states.Side.{Side}
use Rattle.line_base.specs.declared.states.Side.TheVariants.{Entry, Exit}
use Rattle.config_service.specs.Plans.{IsReset, plan_of}
use Rattle.config_service.specs.declared.config.Plan.{Plan}
use Rattle.config_service.specs.declared.config.Plan.TheVariants as plans
use Rattle.config_service.specs.declared.message.ConfigBody.{ConfigBody}
use Rattle.config_service.specs.declared.message.ConfigBody.TheVariants as bodies
use Rattle.config_service.specs.declared.message.Settings.{Settings}
use Rattle.node_core.specs.May.{may_of}
use Rattle.node_core.specs.declared.input.Input.{Input}
use Rattle.node_core.specs.declared.input.Input.TheVariants as inputs
use Rattle.node_core.specs.declared.input.No.{No}
use Rattle.supervised_end.specs.Channel.{ChannelValue, fed, is_empty}
use Rattle.node_run.specs.Configuring.{Accepts, DoesConfig, DoesConfigFound, DoesPlan, HearsConfig, TriesIf, accepted, config_broken_off, config_ended, config_notice, config_said, port_refused, settled, with_config}
use Rattle.node_run.specs.Resetting.{ResetsSide, leaving, reset_begun}
use Rattle.node_run.specs.State.{RunState, RunView}
use Rattle.node_run.specs.Steps.{Takes, TakesStep}
use Rattle.node_run.specs.Work.{count, hear_work}
use Rattle.node_run.specs.declared.channel.ConfigFound.{ConfigFound}
use Rattle.node_run.specs.declared.channel.ConfigFound.TheVariants as founds
use Rattle.node_run.specs.declared.channel.ConfigWord.TheVariants as words
use Rattle.node_run.specs.declared.rules.Rules.{Rules}
use Rattle.node_run.proofs.Heard.{is_fed, more_less, word_less}

-- ---- a message leaves less to hear

-- a run is where it was, with less of the way to hear
pub record ConfiguresLess (s t : RunState) : Type 0 where
  pub turn : t.turn ≡ s.turn
  pub place : t.place ≡ s.place
  pub rest : t.rest ≡ s.rest
  pub ended : t.ended ≡ s.ended
  pub channel : t.channel ≡ s.channel
  pub held : t.held ≡ s.held
  pub less : hear_work t.config < hear_work s.config

less_at : (s u t : RunState) → t ≡ u → ConfiguresLess s u → ConfiguresLess s t
less_at s u t e less = let P : RunState → Type 0 = ConfiguresLess s in subst P (sym e) less

-- what waits to be sent, and the settings, are no part of it
heard_less : (config : ChannelValue) (s : RunState) → hear_work config < hear_work s.config → ConfiguresLess s (with_config config s)
heard_less config s less = record { turn = refl; place = refl; rest = refl; ended = refl; channel = refl; held = refl; less = less }

broken_less : (moment : ℤ) (text : List ℕ) (config : ChannelValue) (s : RunState) → s.config.hears ≡ true → ConfiguresLess s (config_broken_off moment text (with_config config s))
broken_less moment text config s hears = record { turn = refl; place = refl; rest = refl; ended = refl; channel = refl; held = refl; less = omega (arith, ap count hears) }

accepts_less : (moment : ℤ) (settings : Settings) (config : ChannelValue) (s t : RunState) → hear_work config < hear_work s.config → Accepts moment settings (with_config config s) t → ConfiguresLess s t
accepts_less moment settings config s t less accepts =
    less_at s (accepted moment settings accepts.resets (with_config config s)) t accepts.after (record { turn = refl; place = refl; rest = refl; ended = refl; channel = refl; held = refl; less = less })

tries_less : (same : Bool) (moment : ℤ) (settings : Settings) (config : ChannelValue) (s t : RunState) → hear_work config < hear_work s.config → TriesIf same moment settings (with_config config s) t → ConfiguresLess s t
tries_less true moment settings config s t less tries = accepts_less moment settings config s t less tries
tries_less false moment settings config s t less tries =
    less_at s (record (with_config config s) { tries = Some settings }) t tries (record { turn = refl; place = refl; rest = refl; ended = refl; channel = refl; held = refl; less = less })

plan_less : (plan : Plan) (moment : ℤ) (config : ChannelValue) (s t : RunState) → s.config.hears ≡ true → hear_work config < hear_work s.config → DoesPlan plan moment (with_config config s) t → ConfiguresLess s t
plan_less plans.Tell moment config s t hears less does =
    less_at s (config_said moment (bodies.Current s.settings) (with_config config s)) t does (record { turn = refl; place = refl; rest = refl; ended = refl; channel = refl; held = refl; less = less })
plan_less (plans.Try settings) moment config s t hears less does = tries_less (settings.port == s.settings.port) moment settings config s t less does
plan_less plans.Nothing moment config s t hears less does = less_at s (with_config config s) t does (heard_less config s less)
plan_less plans.Breach moment config s t hears less does =
    less_at s (config_broken_off moment (codes "unexpected CurrentConfiguration") (with_config config s)) t does (broken_less moment (codes "unexpected CurrentConfiguration") config s hears)

found_less : (found : ConfigFound) (moment : ℤ) (config : ChannelValue) (s t : RunState) → s.config.hears ≡ true → HearsConfig s.config config found → DoesConfigFound found moment (with_config config s) t → ConfiguresLess s t
found_less (founds.Word (words.Says message)) moment config s t hears next does =
    let takes = next.finds in
    let behind = ap length takes.behind in
    let fewer : length takes.frame + length config.waiting ≤ length (fed s.config).waiting = omega (arith, takes.gives.fewer, behind) in
    plan_less (plan_of message.body) moment config s t hears
    (word_less s.config config (length (fed s.config).waiting) (length takes.frame) hears (is_fed s.config) refl fewer takes.gives.nine next.piece (next.hears ∙ hears)) does
found_less (founds.Word (words.Wrong text)) moment config s t hears next does =
    less_at s (config_broken_off moment text (with_config config s)) t does (broken_less moment text config s hears)
found_less founds.More moment config s t hears next does =
    let behind = ap length next.finds.1 in
    let room : length config.waiting < 65536 = omega (arith, next.finds.0.room, behind) in
    let fewer : length config.waiting ≤ length (fed s.config).waiting = omega (arith, next.finds.0.fewer, behind) in
    less_at s (with_config config s) t does
    (heard_less config s (more_less s.config config (not (is_empty (fed s.config).piece)) refl hears (is_fed s.config) room fewer next.piece next.hears))
found_less founds.TooLong moment config s t hears next does =
    less_at s (config_broken_off moment (codes "message too long") (with_config config s)) t does (broken_less moment (codes "message too long") config s hears)

pub config_less : (moment : ℤ) (s t : RunState) → s.config.hears ≡ true → DoesConfig moment s t → ConfiguresLess s t
config_less moment s t hears does = found_less does.found moment does.config s t hears does.hears does.does

-- ---- the reset of a side

-- all that a step with Notice leaves as it was
pub record Stays (s t : RunState) : Type 0 where
  pub turn : t.turn ≡ s.turn
  pub place : t.place ≡ s.place
  pub rest : t.rest ≡ s.rest
  pub ended : t.ended ≡ s.ended
  pub channel : t.channel ≡ s.channel
  pub config : t.config ≡ s.config
  pub held : t.held ≡ s.held
  pub settings : t.settings ≡ s.settings
  pub tries : t.tries ≡ s.tries
  pub resets : t.resets ≡ s.resets

stays : (s : RunState) → Stays s s
stays s = record { turn = refl; place = refl; rest = refl; ended = refl; channel = refl; config = refl; held = refl; settings = refl; tries = refl; resets = refl }

stays_at : (s t : RunState) → t ≡ s → Stays s t
stays_at s t e = let P : RunState → Type 0 = Stays s in subst P (sym e) (stays s)

step_stays : (rules : Rules) (moment : ℤ) (input : Input) (s u t : RunState) (log : List ℕ) → TakesStep false rules moment [] input u t log → Stays s u → Stays s t
step_stays rules moment input s u t log takes kept = record {
  turn = ap (λ (r : RunState). r.turn) takes.after ∙ kept.turn;
  place = ap (λ (r : RunState). r.place) takes.after ∙ kept.place;
  rest = ap (λ (r : RunState). r.rest) takes.after ∙ kept.rest;
  ended = ap (λ (r : RunState). r.ended) takes.after ∙ kept.ended;
  channel = ap (λ (r : RunState). r.channel) takes.after ∙ kept.channel;
  config = ap (λ (r : RunState). r.config) takes.after ∙ kept.config;
  held = ap (λ (r : RunState). r.held) takes.after ∙ kept.held;
  settings = ap (λ (r : RunState). r.settings) takes.after ∙ kept.settings;
  tries = ap (λ (r : RunState). r.tries) takes.after ∙ kept.tries;
  resets = ap (λ (r : RunState). r.resets) takes.after ∙ kept.resets;
}

leaving_stays : (moment : ℤ) (side : Side) (s : RunState) → Stays s (leaving moment side s)
leaving_stays moment Entry s = record { turn = refl; place = refl; rest = refl; ended = refl; channel = refl; config = refl; held = refl; settings = refl; tries = refl; resets = refl }
leaving_stays moment Exit s = record { turn = refl; place = refl; rest = refl; ended = refl; channel = refl; config = refl; held = refl; settings = refl; tries = refl; resets = refl }

takes_stays : (may : Result (Unit {0}) No) (rules : Rules) (moment : ℤ) (side : Side) (s t : RunState) (log : List ℕ) → Takes may rules moment (inputs.Notice side) (leaving moment side s) s t log → Stays s t
takes_stays (Ok done) rules moment side s t log takes = step_stays rules moment (inputs.Notice side) s (leaving moment side s) t log takes (leaving_stays moment side s)
takes_stays (Err why) rules moment side s t log takes = stays_at s t takes.0

-- and but for that side, what is to be reset
pub record StaysBut (side : Side) (s t : RunState) : Type 0 where
  pub turn : t.turn ≡ s.turn
  pub place : t.place ≡ s.place
  pub rest : t.rest ≡ s.rest
  pub ended : t.ended ≡ s.ended
  pub channel : t.channel ≡ s.channel
  pub config : t.config ≡ s.config
  pub held : t.held ≡ s.held
  pub settings : t.settings ≡ s.settings
  pub tries : t.tries ≡ s.tries
  pub resets : t.resets ≡ (reset_begun side s).resets

pub reset_stays : (rules : Rules) (moment : ℤ) (side : Side) (s t : RunState) (log : List ℕ) → ResetsSide rules moment side s t log → StaysBut side s t
reset_stays rules moment Entry s t log resets =
    let there = takes_stays (may_of s.node (inputs.Notice Entry)) rules moment Entry (reset_begun Entry s) t log resets in
    record { turn = there.turn; place = there.place; rest = there.rest; ended = there.ended; channel = there.channel; config = there.config; held = there.held; settings = there.settings; tries = there.tries; resets = there.resets }
reset_stays rules moment Exit s t log resets =
    let there = takes_stays (may_of s.node (inputs.Notice Exit)) rules moment Exit (reset_begun Exit s) t log resets in
    record { turn = there.turn; place = there.place; rest = there.rest; ended = there.ended; channel = there.channel; config = there.config; held = there.held; settings = there.settings; tries = there.tries; resets = there.resets }

-- ---- what the methods of a run say

pub config_does : (result : Result (Unit {0}) Memory) (found : ConfigFound) (moment : ℤ) (r m u : RunView) → HearsConfig r.state.config m.state.config found
    → m ≡ record r { state = with_config m.state.config r.state } → OnOk result (DoesConfigFound found moment m.state u.state)
    → OnOk result (DoesConfig moment r.state u.state)
config_does (Ok done) found moment r m u hears e does =
    let P : RunView → Type 0 = λ v. DoesConfigFound found moment v.state u.state in
    record { found = found; config = m.state.config; hears = hears; does = subst P e does }
config_does (Err memory) found moment r m u hears e does = tt

pub settled_said : (result : Result (Unit {0}) Memory) (moment : ℤ) (settings : Settings) (r m u : RunView) → m ≡ record r { state = settled settings m.state.resets r.state } → IsReset r.state.settings settings m.state.resets
    → OnOk result (u.state ≡ config_said moment (bodies.Current settings) m.state) → OnOk result (Accepts moment settings r.state u.state)
settled_said (Ok done) moment settings r m u e sides said =
    record { resets = m.state.resets; sides = sides; after = said ∙ ap (λ (v : RunView). config_said moment (bodies.Current settings) v.state) e }
settled_said (Err memory) moment settings r m u e sides said = tt

pub text_broken : (result : Result (Unit {0}) Memory) (text wanted : List ℕ) (moment : ℤ) (s t : RunState) → text ≡ wanted → OnOk result (t ≡ config_broken_off moment text s) → OnOk result (t ≡ config_broken_off moment wanted s)
text_broken result text wanted moment s t same breaks = let P : List ℕ → Type 0 = λ l. OnOk result (t ≡ config_broken_off moment l s) in subst P same breaks

pub notice_broken : (text : List ℕ) (body : ConfigBody) (moment : ℤ) (r m n : RunView) → body ≡ config_notice 1 severity.Fatal text → m.state ≡ config_said moment body r.state → n ≡ record m { state = config_ended m.state } → n.state ≡ config_broken_off moment text r.state
notice_broken text body moment r m n is said ended =
    ap (λ (v : RunView). v.state) ended ∙ ap config_ended said ∙ ap (λ (b : ConfigBody). config_ended (config_said moment b r.state)) is

pub port_told : (result : Result (Unit {0}) Memory) (moment : ℤ) (body : ConfigBody) (r m u : RunView) → body ≡ port_refused → m ≡ record r { state = record r.state { tries = None } } → OnOk result (u.state ≡ config_said moment body m.state)
    → OnOk result (u.state ≡ config_said moment port_refused (record r.state { tries = None }))
port_told (Ok done) moment body r m u is e said = said ∙ ap (λ (v : RunView). config_said moment body v.state) e ∙ ap (λ (b : ConfigBody). config_said moment b (record r.state { tries = None })) is
port_told (Err memory) moment body r m u is e said = tt

pub left_taken : (result : Result (Unit {0}) Memory) (moment : ℤ) (side : Side) (r m u : RunView) → m ≡ record r { state = leaving moment side r.state } → OnOk result (TakesStep false m.rules moment [] (inputs.Notice side) m.state u.state u.told)
    → OnOk result (TakesStep false r.rules moment [] (inputs.Notice side) (leaving moment side r.state) u.state u.told)
left_taken result moment side r m u e takes =
    let P : RunView → Type 0 = λ v. OnOk result (TakesStep false v.rules moment [] (inputs.Notice side) v.state u.state u.told) in subst P e takes
