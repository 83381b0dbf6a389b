-- What the types of happenings say of them: an id has 128 bits, the number of a machine, a gap or a
-- lane 32, and so has that of a lane to which a board is moved; and a message's name is a name, so
-- that no text of one has an end of a line in it.
use Rattle.std.specs.Prelude.{◌<◌, ◌^◌, List}
use Rattle.std.specs.List.{All, AllByRecursion}
use Rattle.line_report.specs.declared.happening.Happening.{Happening}
use Rattle.line_report.specs.declared.happening.Happening.TheVariants as happenings
use Rattle.machine_log.specs.Account.{IsProperAct}
use Rattle.node_core.specs.declared.act.Act.TheVariants as acts
use Rattle.line_report.specs.declared.happening.LaneHappening.{LaneHappening}
use Rattle.law_lanes.specs.Parts.{LanePoint}

abbrev pub IsProperHappening : Happening → Type 0
IsProperHappening (happenings.Done machine act) = (machine < 2 ^ 32) × IsProperAct act
IsProperHappening (happenings.With machine id) = (machine < 2 ^ 32) × (id < 2 ^ 128)
IsProperHappening (happenings.Between gap id) = (gap < 2 ^ 32) × (id < 2 ^ 128)
IsProperHappening (happenings.Gone id) = id < 2 ^ 128
IsProperHappening happening = Unit {0}

-- of what a line of a script told of a lane
pub record AreProper (told : List Happening) : Type 0 where
  pub each : All IsProperHappening told

-- the lane to which a board is moved
abbrev pub GoesToALane : Happening → Type 0
GoesToALane (happenings.Done machine (acts.Gives id to)) = to < 2 ^ 32
GoesToALane happening = Unit {0}

pub record AreShiftsProper (told : List Happening) : Type 0 where
  pub each : All GoesToALane told

abbrev pub IsProperOn : LaneHappening → Type 0
IsProperOn happening =
    (happening.lane < 2 ^ 32) × IsProperHappening happening.what × GoesToALane happening.what

-- of what a line of a script told
pub record AreProperOn (told : List LaneHappening) : Type 0 where
  pub each : All IsProperOn told

abbrev pub IsPointProper : LanePoint → Type 0
IsPointProper point = AreProperOn point.told

-- and of a run
abbrev pub ArePointsProper : List LanePoint → Type 0
ArePointsProper points = AllByRecursion IsPointProper points
