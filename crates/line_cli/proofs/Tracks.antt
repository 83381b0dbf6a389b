-- On each lane the run of a script that is read is the run of a track.
use Rattle.std.proofs.Common.{ℕ, List, arith}
use Rattle.law_lanes.specs.Along.{EachFrontIsATrack, EachLaneIsATrack, EachRecordIsOnOneLane, OneStandingOnLanes}
use Rattle.law_lanes.specs.Lanes.{no_lanes}
use Rattle.law_lanes.specs.Parts.{IsLaneRun, IsShort, LanePoint, all_points}
use Rattle.law_lanes.proofs.ScriptRuns.{run-short}
use Rattle.law_lane_ids.specs.OwnIds.{IdsOfAllLanes}
use Rattle.law_lane_script.specs.Script.{EachLaneDoesItsLines}
use Rattle.law_lane_shifts.specs.Shifted.{EachShiftLeavesRecords}
use Rattle.line_commands.specs.Script.{script_of}
use Rattle.line_cli.specs.Tracks.{EachFrontIsRun, EachLaneDoesItsScript, EachLaneIsRun, EachRecordHasOneLane, EachRecordStandsOnLanes, EachScriptHasOwnIds, EachShiftKeepsTheRecord}
use Rattle.line_commands.proofs.FitScript.{scripts_are_fit}

short : (bytes : List ℕ) (done : List (List LanePoint)) → IsLaneRun no_lanes (script_of bytes).lines done → IsShort no_lanes (all_points done)
short bytes done run =
    let fit = scripts_are_fit bytes in
    run-short no_lanes (script_of bytes).lines done run (omega (arith, fit.few))

pub lanes_are_tracks : EachLaneIsATrack → EachLaneIsRun
lanes_are_tracks law bytes done lane some run = law (script_of bytes).lines done lane some (scripts_are_fit bytes).fit (short bytes done run) run

pub fronts_are_tracks : EachFrontIsATrack → EachFrontIsRun
fronts_are_tracks law bytes done n lane some run honest = law (script_of bytes).lines done n lane some (scripts_are_fit bytes).fit (short bytes done run) run honest

pub records_stand : OneStandingOnLanes → EachRecordStandsOnLanes
records_stand law bytes done n run honest = law (script_of bytes).lines done n (scripts_are_fit bytes).fit (short bytes done run) run honest

pub records_on_one : EachRecordIsOnOneLane → EachRecordHasOneLane
records_on_one law bytes done n run honest = law (script_of bytes).lines done n (scripts_are_fit bytes).fit (short bytes done run) run honest

pub lanes_do : EachLaneDoesItsLines → EachLaneDoesItsScript
lanes_do law bytes done lane some run = law (script_of bytes).lines done lane some (scripts_are_fit bytes).fit (short bytes done run) run

pub shifts_keep : EachShiftLeavesRecords → EachShiftKeepsTheRecord
shifts_keep law bytes done n run honest = law (script_of bytes).lines done n (scripts_are_fit bytes).fit (short bytes done run) run honest

pub own_ids : IdsOfAllLanes → EachScriptHasOwnIds
own_ids law bytes done run = law (script_of bytes).lines done (scripts_are_fit bytes).fit (short bytes done run) run
