-- The settings of a run are those of the last Set that was taken.
use Rattle.std.proofs.Common.{◌≡◌, ◌∙◌, sym, subst, ap, refl, ℕ, ℤ, Bool, true, false, List, [], ◌∷◌, ◌++◌, ◌==◌, Option, None, Some, Result, Ok, Err, arith}
use Rattle.std.proofs.lemmas.Bool.Decides.{nat_tests}
use Rattle.line_base.specs.declared.states.Side.{Side}
use Rattle.line_base.specs.declared.states.Side.TheVariants.{Entry, Exit}
use Rattle.line_outside.specs.Given.{Given, Listens}
use Rattle.line_outside.specs.Listening.{at_all}
use Rattle.line_outside.specs.declared.answer.GotBytes.{GotBytes}
use Rattle.line_outside.specs.declared.answer.GotBytes.TheVariants as founds
use Rattle.line_outside.specs.declared.ports.Opened.{Opened}
use Rattle.line_outside.specs.declared.ports.Opened.TheVariants as opens
use Rattle.line_outside.specs.declared.ports.Sent.{Sent}
use Rattle.line_outside.specs.declared.ports.Sent.TheVariants as sents
use Rattle.line_outside.specs.declared.way.Address.{Address}
use Rattle.line_outside.specs.declared.way.Way.{Way}
use Rattle.line_outside.specs.declared.way.Way.TheVariants as ways
use Rattle.config_service.specs.Plans.{IsReset, plan_of}
use Rattle.config_service.specs.declared.config.Plan.{Plan}
use Rattle.config_service.specs.declared.config.Plan.TheVariants as plans
use Rattle.config_service.specs.declared.message.ConfigBody.{ConfigBody}
use Rattle.config_service.specs.declared.message.ConfigBody.TheVariants as bodies
use Rattle.config_service.specs.declared.message.Settings.{Settings}
use Rattle.node_run.specs.Configuring.{AfterTry, DoesConfig, DoesConfigFound, DoesPlan, TriesIf, with_config}
use Rattle.node_run.specs.Runs.{Moves, Runs, begins, closes, connects, does_config, does_hear, does_line, goes_on, listens, looks_again, polls, refuses, resets_side, sends, skips, takes_held, tries_port}
use Rattle.node_run.specs.Settled.{IsSettled, IsTaken, Settles, SettingsAreTheLast, TakesSet, as_before, heard, keeps, last_set, listened, takes}
use Rattle.node_run.specs.State.{RunState}
use Rattle.node_run.specs.declared.rules.Rules.{Rules}
use Rattle.supervised_end.specs.Channel.{ChannelValue}
use Rattle.node_run.specs.Configuring.{HearsConfig}
use Rattle.node_run.specs.declared.channel.ConfigFound.{ConfigFound}
use Rattle.node_run.specs.declared.channel.ConfigFound.TheVariants as finds
use Rattle.node_run.specs.declared.channel.ConfigWord.TheVariants as words
use Rattle.node_run.specs.declared.place.Next.TheVariants as nexts
use Rattle.node_run.specs.After.{after_listen, looked}
use Rattle.node_run.specs.Next.{moved_on}
use Rattle.node_run.proofs.Configured.{reset_stays}
use Rattle.node_run.proofs.Far.{bytes_of, close_less, not_empty, short_of}
use Rattle.node_run.proofs.Frames.{line_takes, panel_same, poll_same, sent_same}
use Rattle.node_run.proofs.Heard.{hear_less}
use Rattle.node_run.proofs.Holding.{held_here}
use Rattle.node_run.proofs.Nexts.{is_from}

-- a move takes a Set, or leaves the settings as they were
pub data Settling (s t : RunState) (calls : List Given) : Type 0 where
  leaves : t.settings ≡ s.settings → Settling s t calls
  chooses : (settings : Settings) → TakesSet settings s t calls → Settling s t calls

set_body : (body : ConfigBody) (settings : Settings) → plan_of body ≡ plans.Try settings → body ≡ bodies.Set settings
set_body bodies.Get settings e = cc
set_body (bodies.Set other) settings e = let same : other ≡ settings = cc in ap bodies.Set same
set_body (bodies.Current other) settings e = cc
set_body (bodies.Notification code severity text) settings e = cc
set_body (bodies.Other name) settings e = cc

tried_settling : (same : Bool) (moment : ℤ) (settings : Settings) (config : ChannelValue) (s t : RunState) → (settings.port == s.settings.port) ≡ same
    → (settings.port ≡ s.settings.port → IsTaken settings s []) → TriesIf same moment settings (with_config config s) t → Settling s t []
tried_settling true moment settings config s t e taken tries =
    chooses settings (record { taken = taken (grind (arith, nat_tests)); settings = ap (λ (r : RunState). r.settings) tries.after; resets = subst (λ r. IsReset s.settings settings r) (sym (ap (λ (r : RunState). r.resets) tries.after)) tries.sides })
tried_settling false moment settings config s t e taken tries = leaves (ap (λ (r : RunState). r.settings) tries)

plan_settling : (plan : Plan) (moment : ℤ) (config : ChannelValue) (s t : RunState) → ((settings : Settings) → plan ≡ plans.Try settings → settings.port ≡ s.settings.port → IsTaken settings s [])
    → DoesPlan plan moment (with_config config s) t → Settling s t []
plan_settling plans.Tell moment config s t taken does = leaves (ap (λ (r : RunState). r.settings) does)
plan_settling (plans.Try settings) moment config s t taken does = tried_settling (settings.port == s.settings.port) moment settings config s t refl (taken settings refl) does
plan_settling plans.Nothing moment config s t taken does = leaves (ap (λ (r : RunState). r.settings) does)
plan_settling plans.Breach moment config s t taken does = leaves (ap (λ (r : RunState). r.settings) does)

found_settling : (found : ConfigFound) (moment : ℤ) (config : ChannelValue) (s t : RunState) → HearsConfig s.config config found → DoesConfigFound found moment (with_config config s) t → Settling s t []
found_settling (finds.Word (words.Says message)) moment config s t hears does =
    plan_settling (plan_of message.body) moment config s t (λ settings e port. heard message config hears (set_body message.body settings e) port) does
found_settling (finds.Word (words.Wrong text)) moment config s t hears does = leaves (ap (λ (r : RunState). r.settings) does)
found_settling finds.More moment config s t hears does = leaves (ap (λ (r : RunState). r.settings) does)
found_settling finds.TooLong moment config s t hears does = leaves (ap (λ (r : RunState). r.settings) does)

try_settling : (opened : Opened) (moment : ℤ) (settings : Settings) (s t : RunState) → s.tries ≡ Some settings → AfterTry opened moment settings s t → Settling s t (Listens ways.Downstream (at_all settings.port) opened ∷ [])
try_settling opens.Done moment settings s t waits after =
    chooses settings (record { taken = listened waits; settings = ap (λ (r : RunState). r.settings) after.after; resets = subst (λ r. IsReset s.settings settings r) (sym (ap (λ (r : RunState). r.resets) after.after)) after.sides })
try_settling opens.Failed moment settings s t waits after = leaves (ap (λ (r : RunState). r.settings) after)

listened_settings : (address : Address) (opened : Opened) (s : RunState) → (after_listen address opened s).settings ≡ s.settings
listened_settings address opens.Done s = refl
listened_settings address opens.Failed s = refl

move_settling : (rules : Rules) (moment : ℤ) {s t : RunState} {calls : List Given} {log : List ℕ} → Moves rules moment s calls t log → Settling s t calls
move_settling rules moment (listens {s} {way} {address} {opened} next) = leaves (listened_settings address opened s)
move_settling rules moment (connects {s} {address} {opened} next) = leaves refl
move_settling rules moment (polls {s} {t} {way} {got} {log} next done) = leaves (poll_same (bytes_of got) rules moment way got (moved_on s) t log (short_of got) done).settings
move_settling rules moment (sends {s} {way} {sent} next) = leaves (sent_same way sent (moved_on s)).settings
move_settling rules moment (refuses {s} {refusal} {sent} next e) = leaves refl
move_settling rules moment (closes {s} {t} {way} {log} next done) = leaves (close_less rules moment way s t log (is_from rules s (nexts.Close way) next) done).settings
move_settling rules moment (skips {s} next) = leaves refl
move_settling rules moment (looks_again {s} {t} {got} {log} next done) = leaves (panel_same (bytes_of got) rules got (looked got s) t log (short_of got) done).settings
move_settling rules moment (takes_held {s} {t} {log} next done) = leaves (held_here rules moment s t log done).settings
move_settling rules moment (does_line {s} {t} {log} next done) = leaves (line_takes rules moment s t log (not_empty s.rest (is_from rules s nexts.Line next)) done).settings
move_settling rules moment (does_hear {s} {t} {log} next done) = leaves (hear_less rules moment s t log (is_from rules s nexts.Hear next) done).settings
move_settling rules moment (does_config {s} {t} {log} next done none) = found_settling done.found moment done.config s t done.hears done.does
move_settling rules moment (tries_port {s} {t} {settings} {opened} {log} next done none) = try_settling opened moment settings s t (is_from rules s (nexts.Try settings) next) done
move_settling rules moment (resets_side {s} {t} {side} {log} next done) = leaves (reset_stays rules moment side s t log done).settings

last_more : (before settings : Settings) (sets : List Settings) → last_set before (sets ++ settings ∷ []) ≡ settings
last_more before settings [] = refl
last_more before settings (first ∷ sets) = last_more first settings sets

settled_on : (rules : Rules) (moment : ℤ) (s t u : RunState) (calls : List Given) (log : List ℕ) → IsSettled rules s t → Moves rules moment t calls u log → Settling t u calls → IsSettled rules s u
settled_on rules moment s t u calls log settled move (leaves same) = record { sets = settled.sets; took = keeps settled.took move same; last = same ∙ settled.last }
settled_on rules moment s t u calls log settled move (chooses settings taken) =
    record { sets = settled.sets ++ settings ∷ []; took = takes settings settled.took move taken; last = taken.settings ∙ sym (last_more s.settings settings settled.sets) }

settled_in : (rules : Rules) {s t : RunState} {moments : List ℤ} {calls : List Given} {log : List ℕ} → Runs rules s moments calls t log → IsSettled rules s t
settled_in rules (begins {s}) = record { sets = []; took = as_before; last = refl }
settled_in rules (goes_on {s} {t} {u} {moments} {moment} {calls} {more} {log} {lines} run move) = settled_on rules moment s t u more lines (settled_in rules run) move (move_settling rules moment move)

pub settings_are_the_last : SettingsAreTheLast
settings_are_the_last rules moments s t calls log run = settled_in rules run
