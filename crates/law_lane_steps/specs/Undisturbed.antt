-- LINES THAT DON'T DISTURB the handover at a gap of a lane, of a script over several lanes.
use Rattle.std.specs.Prelude.{◌≢◌, ℕ}
use Rattle.line_script.specs.declared.line.LaneLine.{LaneLine}
use Rattle.line_script.specs.declared.line.LaneLine.TheVariants as lane_lines
use Rattle.line_script.specs.declared.line.ScriptLine.{ScriptLine}
use Rattle.line_script.specs.declared.line.ScriptLine.TheVariants as lines
use Rattle.line_step.specs.Requests.{request_of}
use Rattle.law_twelve_steps.specs.Undisturbed.{IsElsewhere, IsUndisturbed}

-- a line of one lane: a stop is of all of them
abbrev pub IsOfOneLane : ScriptLine → Type 0
IsOfOneLane (lines.Stop machine) = ⊥
IsOfOneLane line = Unit {0}

-- A LINE THAT DOESN'T DISTURB the handover at gap k of a lane: one of that lane that doesn't disturb
-- gap k there, one of another lane alone, a stop of another machine, lanes that are set, and a shift of
-- another machine or between other lanes
pub data IsUndisturbedOn (lane k : ℕ) : LaneLine → Type 0 where
  of_lane : {line : ScriptLine} → IsOfOneLane line → IsUndisturbed k (request_of line)
      → IsUndisturbedOn lane k (lane_lines.On lane line)
  of_other : {own : ℕ} {line : ScriptLine} → IsOfOneLane line → own ≢ lane
      → IsUndisturbedOn lane k (lane_lines.On own line)
  stops : {own machine : ℕ} → IsElsewhere k machine
      → IsUndisturbedOn lane k (lane_lines.On own (lines.Stop machine))
  sets : {count : ℕ} → IsUndisturbedOn lane k (lane_lines.Lanes count)
  shifts : {machine from to id : ℕ} → IsElsewhere k machine
      → IsUndisturbedOn lane k (lane_lines.Shift machine from to id)
  shifts_aside : {machine from to id : ℕ} → from ≢ lane → to ≢ lane
      → IsUndisturbedOn lane k (lane_lines.Shift machine from to id)
