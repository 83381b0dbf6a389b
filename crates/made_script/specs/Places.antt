-- Where a script stands that is being made.
use Rattle.std.specs.Prelude.{ℕ, ◌+◌, ◌-◌, ◌++◌, ◌==◌, List, drop, if◌then◌else◌}
use Rattle.line_script.specs.declared.line.ScriptLine.{ScriptLine}
use Rattle.made_script.specs.Script.{opening, round, rounds}

-- the lines of a round, of which round 0 is what stands before the first
abbrev pub part : ℕ → List ScriptLine
part count = if count == 0 then opening else round count

-- the lines from a step of a round on, up to the last round
abbrev pub lines_from : ℕ → ℕ → ℕ → List ScriptLine
lines_from count step last = drop step (part count) ++ rounds (count + 1) (last - count)
