-- What is written of a merged log.
use Rattle.std.specs.Prelude.{◌≡◌, ℕ, ◌+◌, Bool, true, false, List, [], ◌∷◌, ◌++◌, Option, None, Some, codes, length}
use Rattle.std.specs.Fmt.{decimal}
use Rattle.std.specs.Str.Lines.{lines}
use Rattle.standings.specs.declared.deed.Deed.{Deed}
use Rattle.standings.specs.Marks.{has_id}
use Rattle.standings.specs.Ledger.{ids_named}
use Rattle.line_check.specs.LogLine.{said_by}
use Rattle.line_check.specs.Log.{Against, against}
use Rattle.log_verdict.specs.declared.checked.Checked.{Checked}
use Rattle.log_verdict.specs.declared.checked.Checked.TheVariants.{Done, Refuted, ReadFault, WriteFault, Memory}
use Rattle.log_verdict.specs.Verdict.{no_text}
use Rattle.board_traces.specs.declared.trace.Verdict.{Verdict}
use Rattle.board_traces.specs.declared.trace.Verdict.TheVariants.{Right, Refused}
use Rattle.board_traces.specs.Reading.{deed_said}
use Rattle.board_traces.specs.Courses.{courses_of}
use Rattle.board_traces.specs.Held.{lines_before, refused_line}
use Rattle.board_traces.specs.Texts.{boards_text, end_text}

-- the lines that hold: all, or those before the line that something is against
abbrev pub held : Option Against → List (List ℕ) → List (List ℕ)
held found log = lines_before (refused_line found) 0 log

-- THE TRACE of a log: the line of each board that the lines that hold tell of, in the order of
-- their coming, and then the counts, or the first reason against the log
abbrev pub last_text : Option Against → List (List ℕ) → List ℕ
last_text None log = end_text (length log) (courses_of log)
last_text (Some reason) log = no_text reason.line reason.why

abbrev pub trace_by : Option Against → List (List ℕ) → List ℕ
trace_by found log = boards_text (courses_of (held found log)) ++ last_text found log

abbrev pub trace_of : List ℕ → List ℕ
trace_of bytes = trace_by (against (lines bytes)) (lines bytes)

-- THE TRACE OF ONE BOARD: each line that holds and whose deed names it, with its number
abbrev pub names : ℕ → Option Deed → Bool
names id None = false
names id (Some deed) = has_id id (ids_named deed)

abbrev pub told_where : Bool → ℕ → List ℕ → List ℕ
told_where false number line = []
told_where true number line = decimal number ++ codes " " ++ line ++ codes "\n"

abbrev pub deeds_text : ℕ → ℕ → List (List ℕ) → List ℕ
deeds_text id before [] = []
deeds_text id before (line ∷ lines) =
    told_where (names id (deed_said (said_by line))) (before + 1) line
    ++ deeds_text id (before + 1) lines

abbrev pub board_last : Option Against → List (List ℕ) → List ℕ
board_last None log = codes "end lines=" ++ decimal (length log) ++ codes "\n"
board_last (Some reason) log = no_text reason.line reason.why

abbrev pub history_by : ℕ → Option Against → List (List ℕ) → List ℕ
history_by id found log = deeds_text id 0 (held found log) ++ board_last found log

abbrev pub history_of : ℕ → List ℕ → List ℕ
history_of id bytes = history_by id (against (lines bytes)) (lines bytes)

abbrev pub verdict_on : Option Against → Verdict
verdict_on None = Right
verdict_on (Some reason) = Refused

-- what a check finds of a log's bytes
abbrev pub Finds : List ℕ → Checked → Type 0
Finds bytes Done = against (lines bytes) ≡ None
Finds bytes (Refuted line why) =
    against (lines bytes) ≡ Some (record { line = line; why = why })
Finds bytes ReadFault = Unit {0}
Finds bytes WriteFault = Unit {0}
Finds bytes Memory = Unit {0}
