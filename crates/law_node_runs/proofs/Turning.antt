-- A run's turn doesn't fall.
use Rattle.std.proofs.Common.{◌≡◌, ◌∙◌, ◌≤◌, ◌<◌, ◌+◌, ◌&&◌, ℕ, ℤ, Bool, true, false, List, Option, Some, None, refl, sym, ap, subst, nat_lt, arith}
use Rattle.std.proofs.lemmas.Bool.Decides.{nat_tests}
use Rattle.book_entry.specs.declared.entry.Entry.{Entry}
use Rattle.config_service.specs.declared.message.Settings.{Settings}
use Rattle.line_outside.specs.Given.{Given}
use Rattle.line_outside.specs.declared.answer.GotBytes.{GotBytes}
use Rattle.line_outside.specs.declared.ports.Opened.{Opened}
use Rattle.line_outside.specs.declared.ports.Opened.TheVariants as opens
use Rattle.line_outside.specs.declared.way.Address.{Address}
use Rattle.node_run.proofs.Configured.{config_less, reset_stays}
use Rattle.node_run.proofs.Far.{bytes_of, close_less, not_empty, short_of}
use Rattle.node_run.proofs.Frames.{line_takes, panel_same, poll_same, sent_same}
use Rattle.node_run.proofs.Heard.{hear_less}
use Rattle.node_run.proofs.Holding.{held_here}
use Rattle.node_run.proofs.Nexts.{is_from}
use Rattle.node_run.specs.After.{after_listen, looked}
use Rattle.node_run.specs.Booked.{MovesAgain, RunsKept, begins_kept, goes_on_kept, hears_gone, moves_as_ever}
use Rattle.node_run.specs.Configuring.{AfterTry}
use Rattle.node_run.specs.Gone.{begins_again, begins_by, is_behind_listens}
use Rattle.node_run.specs.Next.{moved_on, turn_behind}
use Rattle.node_run.specs.Runs.{Moves, Runs, begins, closes, connects, does_config, does_hear, does_line, goes_on, listens, looks_again, polls, refuses, resets_side, sends, skips, takes_held, tries_port}
use Rattle.node_run.specs.State.{RunState}
use Rattle.node_run.specs.declared.place.Next.TheVariants as nexts
use Rattle.node_run.specs.declared.place.Place.{Place}
use Rattle.node_run.specs.declared.place.Place.TheVariants as places
use Rattle.node_run.specs.declared.rules.Rules.{Rules}
use Rattle.node_run.specs.declared.status.NodeStatus.{NodeStatus}
use Rattle.law_node_runs.specs.Anew.{KeptRunsAreRuns}

turn_on : (place : Place) (turn : ℕ) → turn ≤ turn_behind place turn
turn_on places.TurnDone turn = omega arith
turn_on _ turn = omega arith

moved_turn : (s : RunState) → s.turn ≤ (moved_on s).turn
moved_turn s = turn_on s.place s.turn

listened_turn : (address : Address) (opened : Opened) (s : RunState) → s.turn ≤ (after_listen address opened s).turn
listened_turn address opens.Done s = moved_turn s
listened_turn address opens.Failed s = moved_turn s

tried_turn : (opened : Opened) (moment : ℤ) (settings : Settings) (s t : RunState) → AfterTry opened moment settings s t → t.turn ≡ s.turn
tried_turn opens.Done moment settings s t after = ap (λ (r : RunState). r.turn) after.after
tried_turn opens.Failed moment settings s t after = ap (λ (r : RunState). r.turn) after

pub turns_rise : (rules : Rules) (moment : ℤ) {s t : RunState} {calls : List Given} {log : List ℕ} → Moves rules moment s calls t log → s.turn ≤ t.turn
turns_rise rules moment (listens {s} {way} {address} {opened} next) = listened_turn address opened s
turns_rise rules moment (connects {s} {address} {opened} next) = omega arith
turns_rise rules moment (polls {s} {t} {way} {got} {log} next done) = omega (arith, moved_turn s, (poll_same (bytes_of got) rules moment way got (moved_on s) t log (short_of got) done).turn)
turns_rise rules moment (sends {s} {way} {sent} next) = omega (arith, moved_turn s, (sent_same way sent (moved_on s)).turn)
turns_rise rules moment (refuses {s} {refusal} {sent} next e) = omega arith
turns_rise rules moment (closes {s} {t} {way} {log} next done) = omega (arith, (close_less rules moment way s t log (is_from rules s (nexts.Close way) next) done).turn)
turns_rise rules moment (skips {s} next) = moved_turn s
turns_rise rules moment (looks_again {s} {t} {got} {log} next done) = omega (arith, (panel_same (bytes_of got) rules got (looked got s) t log (short_of got) done).turn)
turns_rise rules moment (takes_held {s} {t} {log} next done) = omega (arith, (held_here rules moment s t log done).turn)
turns_rise rules moment (does_line {s} {t} {log} next done) = omega (arith, (line_takes rules moment s t log (not_empty s.rest (is_from rules s nexts.Line next)) done).turn)
turns_rise rules moment (does_hear {s} {t} {log} next done) = omega (arith, (hear_less rules moment s t log (is_from rules s nexts.Hear next) done).turn)
turns_rise rules moment (does_config {s} {t} {log} next done none) = omega (arith, (config_less moment s t (is_from rules s nexts.HearConfig next) done).turn)
turns_rise rules moment (tries_port {s} {t} {settings} {opened} {log} next done none) = omega (arith, tried_turn opened moment settings s t done)
turns_rise rules moment (resets_side {s} {t} {side} {log} next done) = omega (arith, (reset_stays rules moment side s t log done).turn)

-- ---- behind turn 0

first_by : (first behind : Bool) (turn : ℕ) → nat_lt turn 1 ≡ first → 1 ≤ turn → first && behind ≡ true → ⊥
first_by true behind turn e some begun = let small : turn < 1 = grind (arith, nat_tests) in omega (arith, small, some)
first_by false behind turn e some begun = cc

turn_by : (ended : Option NodeStatus) (turn : ℕ) (place : Place) → 1 ≤ turn → begins_by ended turn place ≡ true → ⊥
turn_by None turn place some begun = first_by (nat_lt turn 1) (is_behind_listens place) turn refl some begun
turn_by (Some status) turn place some begun = cc

pub never_again : (s : RunState) → 1 ≤ s.turn → begins_again s ≡ true → ⊥
never_again s some begun = turn_by s.ended s.turn s.place some begun

-- ---- so a run over a book is one without

record OnAsEver (rules : Rules) (s t : RunState) (moments : List ℤ) (calls : List Given) (log : List ℕ) : Type 0 where
  some : 1 ≤ t.turn
  run : Runs rules s moments calls t log

on_as_ever : (rules : Rules) {moments : List ℤ} {s t : RunState} {calls : List Given} {log : List ℕ} {entries : List Entry} → 1 ≤ s.turn → RunsKept rules s moments calls t log entries → OnAsEver rules s t moments calls log
on_as_ever rules some begins_kept = record { some = some; run = begins }
on_as_ever rules some (goes_on_kept {t = r} {moment = moment} run (moves_as_ever begun move)) =
    let before = on_as_ever rules some run in
    record { some = omega (arith, before.some, turns_rise rules moment move); run = goes_on before.run move }
on_as_ever rules some (goes_on_kept {t = r} run (hears_gone begun hears)) = absurd (never_again r (on_as_ever rules some run).some begun)

pub runs_as_ever : KeptRunsAreRuns
runs_as_ever rules moments s t calls log entries some run = (on_as_ever rules some run).run
