-- Which machines a line of a script may change, and what is told of the boards that it names.
use Rattle.std.specs.Prelude.{ℕ, ◌+◌, ◌-◌, List, [], ◌∷◌, drop, nat_lt, take, if◌then◌else◌}
use Rattle.std.specs.List.{flat_map}
use Rattle.line_script.specs.declared.line.ScriptLine.{ScriptLine}
use Rattle.line_script.specs.declared.line.ScriptLine.TheVariants as lines
use Rattle.standings.specs.Marks.{Owned, marks_of}
use Rattle.standings.specs.declared.mark.Mark.{Mark}
use Rattle.line_step.specs.Shown.{with_id}
use Rattle.line_report.specs.declared.happening.LaneHappening.{LaneHappening}

-- what the machines from one number to another have, of those that are there
abbrev pub owned_between : ℕ → ℕ → List Owned → List Owned
owned_between first last line =
    if nat_lt 0 first then take ((last + 1) - first) (drop (first - 1) line) else []

-- the first and the last of the machines that a line of the script may change; 0 where there is
-- none
abbrev pub last_stepped : ScriptLine → ℕ
last_stepped (lines.Insert machine barcode) = machine
last_stepped (lines.Remove machine id) = machine
last_stepped (lines.Replace machine id) = machine
last_stepped (lines.Mark machine id quality) = machine
last_stepped (lines.Sub machine id place barcode) = machine
last_stepped (lines.Hold machine side) = machine
last_stepped (lines.Go machine side) = machine
last_stepped (lines.Signal machine line on) = machine
last_stepped (lines.Connect machine) = machine
last_stepped (lines.Flow machine side count) = machine
last_stepped (lines.Notice machine side) = machine
last_stepped (lines.Shutdown machine) = machine
last_stepped (lines.Tick machine) = machine
last_stepped (lines.Fault machine side) = machine
last_stepped (lines.Sense machine) = machine
last_stepped (lines.Forecast machine) = machine
last_stepped (lines.Query machine barcode) = machine
last_stepped (lines.Supervise machine) = machine
last_stepped (lines.Ask machine question) = machine
last_stepped (lines.Answer machine query order) = machine
last_stepped _ = 0

abbrev pub first_stepped : ScriptLine → ℕ
first_stepped (lines.Connect machine) = machine - 1
first_stepped line = last_stepped line

-- ids put into their places among others in ascending order, the first one first
abbrev pub with_ids : List ℕ → List ℕ → List ℕ
with_ids [] sorted = sorted
with_ids (id ∷ ids) sorted = with_ids ids (with_id id sorted)

-- what is told of ids, whose marks were these and are those
abbrev pub told_each : (ℕ → List Mark → List Mark → List LaneHappening) → List ℕ → List Owned
    → List Owned → List LaneHappening
told_each tell ids before after =
    flat_map (λ (id : ℕ). tell id (marks_of before id) (marks_of after id)) ids
