-- THE NUMBERS by which a C program names what happens and is told why something isn't done.
use Rattle.std.specs.Prelude.{ℕ, ℤ, pos, neg_ℤ, Bool, true, false, ◌==◌, Option, None, Some, Result, Ok, Err, if◌then◌else◌}
use Rattle.line_base.specs.declared.states.Quality.{Quality}
use Rattle.line_base.specs.declared.states.Quality.TheVariants as qualities
use Rattle.line_base.specs.declared.states.SensorEvent.{SensorEvent}
use Rattle.line_base.specs.declared.states.SensorEvent.TheVariants as sensors
use Rattle.line_base.specs.declared.states.Side.{Side}
use Rattle.line_base.specs.declared.states.Side.TheVariants.{Entry, Exit}
use Rattle.smema_bridge.specs.declared.line.SegmentLine.{SegmentLine}
use Rattle.smema_bridge.specs.declared.line.SegmentLine.TheVariants as signals
use Rattle.line_script.specs.declared.line.LineWhy.{LineWhy}
use Rattle.line_script.specs.declared.line.LineWhy.TheVariants as whys
use Rattle.node_core.specs.declared.input.No.{No}
use Rattle.node_core.specs.declared.input.No.TheVariants as no
use Rattle.machine_port.specs.declared.error.NotDone.{NotDone}
use Rattle.machine_port.specs.declared.error.NotDone.TheVariants as nots
use Rattle.machine_text.specs.declared.line.LineNotDone.{LineNotDone}
use Rattle.machine_text.specs.declared.line.LineNotDone.TheVariants as undone
use Rattle.machine_text.specs.declared.line.NotAsked.{NotAsked}
use Rattle.machine_text.specs.declared.line.NotAsked.TheVariants as unasked

abbrev pub number_of_no : No → ℤ
number_of_no no.IntakeOpen = pos 1
number_of_no no.Full = pos 2
number_of_no no.IdsUsedUp = pos 3
number_of_no no.NotKept = pos 4
number_of_no no.Offered = pos 5
number_of_no no.Same = pos 6
number_of_no no.Connected = pos 7
number_of_no no.IntakeUnsettled = pos 8
number_of_no no.NotConnected = pos 9
number_of_no no.NoHandover = pos 10
number_of_no no.Bridge = pos 11
number_of_no no.NotABridge = pos 12
number_of_no no.NotStanding = pos 13
number_of_no no.NotSupported = pos 14
number_of_no no.NothingKept = pos 15
number_of_no no.NotSupervised = pos 16
number_of_no no.QueriesFull = pos 17
number_of_no no.UnknownQuery = pos 18
number_of_no (no.Answered query) = pos 19
number_of_no no.SubsFull = pos 20
-- of a machine of several lanes: no call gives what these are against
number_of_no no.NoLane = pos 21
number_of_no no.WasOffered = pos 22

-- a side is the number of its way
abbrev pub side_of : ℕ → Option Side
side_of number =
    if number == 0 then Some Entry else (if number == 1 then Some Exit else None)

abbrev pub level_of : ℕ → Option Bool
level_of number =
    if number == 0 then Some false else (if number == 1 then Some true else None)

-- what a sensor at the entry's gap tells, and one at the exit's
abbrev pub seen_at : Side → ℕ → Option SensorEvent
seen_at Entry number =
    if number == 0 then Some sensors.Begun else
    (if number == 2 then Some sensors.Full else
    (if number == 3 then Some sensors.Back else
    (if number == 4 then Some sensors.Taken else None)))
seen_at Exit number =
    if number == 0 then Some sensors.Begun else
    (if number == 1 then Some sensors.Left else
    (if number == 3 then Some sensors.Back else
    (if number == 4 then Some sensors.Taken else None)))

abbrev pub signal_of : ℕ → Option SegmentLine
signal_of number =
    if number == 0 then Some signals.Ready else
    (if number == 1 then Some signals.Available else
    (if number == 2 then Some signals.Failed else None))

abbrev pub quality_of : ℕ → Option Quality
quality_of number =
    if number == 0 then Some qualities.Unknown else
    (if number == 1 then Some qualities.Good else
    (if number == 2 then Some qualities.Failed else None))

-- the answer to what was done or not
abbrev pub answer_of : Result (Unit {0}) NotDone → ℤ
answer_of (Ok done) = pos 0
answer_of (Err (nots.No why)) = number_of_no why
answer_of (Err nots.Memory) = neg_ℤ (pos 2)

-- why a panel refuses a line
abbrev pub number_of_why : LineWhy → ℤ
number_of_why whys.LongLine = neg_ℤ (pos 7)
number_of_why whys.TooManyLines = neg_ℤ (pos 8)
number_of_why whys.NotText = neg_ℤ (pos 9)
number_of_why whys.UnknownWord = neg_ℤ (pos 10)
number_of_why whys.WrongCount = neg_ℤ (pos 11)
number_of_why whys.BadNumber = neg_ℤ (pos 12)
number_of_why whys.BadSide = neg_ℤ (pos 13)
number_of_why whys.BadId = neg_ℤ (pos 14)
number_of_why whys.BadWord = neg_ℤ (pos 15)

-- why a line asks for no step
abbrev pub number_of_unasked : NotAsked → ℤ
number_of_unasked (unasked.Refused why) = number_of_why why
number_of_unasked unasked.Blank = neg_ℤ (pos 6)
number_of_unasked unasked.Outside = neg_ℤ (pos 4)

-- the answer to a line
abbrev pub answer_of_line : Result (Unit {0}) LineNotDone → ℤ
answer_of_line (Ok done) = pos 0
answer_of_line (Err (undone.NotAsked why)) = number_of_unasked why
answer_of_line (Err (undone.No why)) = number_of_no why
answer_of_line (Err undone.Memory) = neg_ℤ (pos 2)
