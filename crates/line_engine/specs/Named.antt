-- What a line of a script names, of which it is asked first whether it is there.
use Rattle.std.specs.Prelude.{ℕ}
use Rattle.line_script.specs.declared.line.ScriptLine.{ScriptLine}
use Rattle.line_script.specs.declared.line.ScriptLine.TheVariants as lines
use Rattle.line_marks.specs.Stepped.{last_stepped}

-- what a line of one lane names, of which it is asked first whether it is there
abbrev pub names_machine : ScriptLine → ℕ
names_machine (lines.Spoil machine side) = machine
names_machine (lines.Lie machine sensed) = machine
names_machine (lines.Unseen machine side) = machine
names_machine line = last_stepped line

abbrev pub names_gap : ScriptLine → ℕ
names_gap (lines.Cut gap) = gap
names_gap (lines.Begin gap) = gap
names_gap (lines.Left gap) = gap
names_gap (lines.Enter gap) = gap
names_gap (lines.Back gap) = gap
names_gap (lines.HandIn gap) = gap
names_gap (lines.Take gap) = gap
names_gap line = 0
