-- The ledger and the custody facts along a run of a script in which the line stands in its relation.
use Rattle.std.proofs.Common.{List, arith, [], false, refl, suc, take, true, zero, ℕ, ◌+◌, ◌∷◌, ◌≡◌}
use Rattle.std.specs.List.{AllByRecursion}
use Rattle.standings.specs.Ledger.{Ledger, empty_ledger, ledger_after_all}
use Rattle.standings.specs.Marks.{Where, has_at, intake, kept, outlet}
use Rattle.line_step.specs.Numbered.{node_at}
use Rattle.line_step.specs.Tracks.{TrackLine, TrackSteps, other_line, own_line}
use Rattle.line_step.specs.Runs.{IsRun, Point}
use Rattle.line_report.specs.declared.happening.Happening.{Happening}
use Rattle.law_one_standing.specs.Carried.{Trace}
use Rattle.law_one_standing.specs.Stands.{Stands}
use Rattle.law_one_standing.proofs.Beside.{beside_led}
use Rattle.line_step.specs.State.{LineState, no_line, owned_by}
use Rattle.step_rules.specs.Makers.{IsOld}
use Rattle.law_one_standing.specs.Facts.{CustodyFacts, HasCustodyFacts}
use Rattle.law_one_standing.specs.Replay.{Follows, LedgerFollows, deeds_of}
use Rattle.law_one_standing.proofs.FactsOf.{facts_of}
use Rattle.law_one_standing.proofs.LedgerLine.{Led, line_led}
use Rattle.law_one_standing.proofs.LedgerMarks.{FitsLine, ledger_of}
use Rattle.law_one_standing.proofs.LedgerStandings.{standing_told}
use Rattle.law_one_standing.proofs.LineForms.{ConnectsBear}
use Rattle.law_one_standing.proofs.LineRun.{AreStood, Stood, none_stood, run_stood}
use Rattle.law_one_standing.proofs.Carrying.{SaysAlone}

-- ---- the facts

pub facts_run : SaysAlone → (points : List Point) → AreStood points → AllByRecursion (λ (point : Point). HasCustodyFacts point.after) points
facts_run alone [] all = tt
facts_run alone (point ∷ points) all = (facts_of alone all.0.trace point.after all.0.stands all.0.waits, facts_run alone points all.1)

-- ---- the ledger

none_has : (place : Where) (machine x : ℕ) → false ≡ has_at place (owned_by (node_at no_line machine)) x
none_has kept zero x = refl
none_has outlet zero x = refl
none_has intake zero x = refl
none_has kept (suc before) x = refl
none_has outlet (suc before) x = refl
none_has intake (suc before) x = refl

pub none_fits : FitsLine (IsOld 1 no_line.machines) no_line empty_ledger
none_fits = record { past = []; is = refl; all = λ place machine x. none_has place machine x; olds = λ x seen. absurd (let h : false ≡ true = seen in cc) }

-- what a line of a track tells
pub track_led : (t t2 : Trace) (number : ℕ) (line : TrackLine) (before after : LineState) (told : List Happening) (ledger : Ledger) → Stands t before → Stands t2 after → TrackSteps number line before after told
    → FitsLine (IsOld 1 before.machines) before ledger → Led (IsOld 1 after.machines) after ledger told
track_led t t2 number (own_line line) before after told ledger st st2 steps fits = line_led t t2 number line before after told ledger st st2 steps.1 steps.0 fits
track_led t t2 number other_line before after told ledger st st2 steps fits = beside_led before after told ledger steps.0 steps.1 fits

ledger_run : (s : LineState) (asked : List TrackLine) (points : List Point) (n : ℕ) (ledger : Ledger) → Stood s → IsRun s asked points → AreStood (take n points) → FitsLine (IsOld 1 s.machines) s ledger → Follows ledger (take n points)
ledger_run s asked points zero ledger was run all fits = tt
ledger_run s [] [] (suc n) ledger was run all fits = tt
ledger_run s [] (point ∷ points) (suc n) ledger was run all fits = elim run [ ]
ledger_run s (line ∷ asked) [] (suc n) ledger was run all fits = elim run [ ]
ledger_run s (line ∷ asked) (point ∷ points) (suc n) ledger was run all fits =
    let led : Led (IsOld 1 point.after.machines) point.after ledger point.told = track_led was.trace all.0.trace (s.lines + 1) line s point.after point.told ledger was.stands all.0.stands run.0 fits in
    let later : Ledger = ledger_after_all ledger (deeds_of point.told) in
    (led.legal, ledger_of point.after later led.fits, standing_told later point.after (ledger_of point.after later led.fits), ledger_run point.after asked points n later all.0 run.1 all.1 led.fits)

-- ---- THE LAWS

pub custody_facts : SaysAlone → ConnectsBear → CustodyFacts
custody_facts alone connects asked points n fit few run honest = facts_run alone (take n points) (run_stood alone connects no_line asked points n fit few none_stood run honest)

-- from the empty ledger on
pub ledger_follows : SaysAlone → ConnectsBear → LedgerFollows
ledger_follows alone connects asked points n fit few run honest = ledger_run no_line asked points n empty_ledger none_stood.stood run (run_stood alone connects no_line asked points n fit few none_stood run honest) none_fits
