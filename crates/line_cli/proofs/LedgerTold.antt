-- What is read off the report of a script, and off a front of it.
use Rattle.std.proofs.Common.{◌≤◌, List, [], ◌∷◌, ◌++◌, ap, arith, length, length-append, subst}
use Rattle.std.specs.List.{AllByRecursion}
use Rattle.line_script.specs.declared.line.LaneLine.{LaneLine}
use Rattle.law_lanes.specs.Along.{IsFitLaneLine}
use Rattle.law_lanes.specs.Lanes.{no_lanes}
use Rattle.law_lanes.specs.Parts.{all_points, state_behind}
use Rattle.law_report_ledger.specs.Asked.{LaneReportTellsStarts}
use Rattle.law_report_ledger.specs.Fronts.{LaneFrontsTellLedgers}
use Rattle.law_report_ledger.specs.Ledgers.{LaneReportTellsLedger}
use Rattle.law_report_ledger.specs.Standings.{LaneReportTellsStandings}
use Rattle.line_cli.specs.Deeds.{EachFrontTellsItsLedger, EachReportTellsItsLedger, EachReportTellsItsStandings, EachReportTellsItsStarts}
use Rattle.line_commands.specs.Report.{ending}
use Rattle.line_commands.specs.Script.{script_of}
use Rattle.line_commands.proofs.LastLine.{ending_unnumbered}
use Rattle.line_commands.proofs.FitScript.{scripts_are_fit}

-- WHATEVER BYTES A SCRIPT IS READ FROM
pub reports_tell : LaneReportTellsLedger → EachReportTellsItsLedger
reports_tell tells bytes done lane some run proper =
    let fit = scripts_are_fit bytes in
    let end = state_behind no_lanes (all_points done) in
    let refusal = (script_of bytes).refusal in
    tells (script_of bytes).lines done (ending end refusal) lane some fit.fit fit.few run proper
    (ending_unnumbered end refusal)

pub reports_stand : LaneReportTellsStandings → EachReportTellsItsStandings
reports_stand stands bytes done lane some run proper =
    let fit = scripts_are_fit bytes in
    let end = state_behind no_lanes (all_points done) in
    let refusal = (script_of bytes).refusal in
    stands (script_of bytes).lines done (ending end refusal) lane some fit.fit fit.few run proper
    (ending_unnumbered end refusal)

pub reports_start : LaneReportTellsStarts → EachReportTellsItsStarts
reports_start starts bytes done lane gap some least run proper =
    let fit = scripts_are_fit bytes in
    let end = state_behind no_lanes (all_points done) in
    let refusal = (script_of bytes).refusal in
    starts (script_of bytes).lines done (ending end refusal) lane gap some least fit.fit fit.few run
    proper (ending_unnumbered end refusal)

-- ---- a front

first_fit : (lines others : List LaneLine) → AllByRecursion IsFitLaneLine (lines ++ others)
    → AllByRecursion IsFitLaneLine lines
first_fit [] others fit = tt
first_fit (line ∷ lines) others fit = (fit.0, first_fit lines others fit.1)

pub fronts_tell : LaneFrontsTellLedgers → EachFrontTellsItsLedger
fronts_tell tells bytes text first =
    let fit = scripts_are_fit bytes in
    let few : length first.lines ≤ 1000000 =
    omega (arith, fit.few, ap length first.all, length-append first.lines first.others) in
    let fits = first_fit first.lines first.others
    (subst (AllByRecursion IsFitLaneLine) first.all fit.fit) in
    tells first.lines first.done first.ending text first.rest fits few first.run first.proper
    first.last first.front
