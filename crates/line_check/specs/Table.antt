-- The marks of boards, by their ids.
use Rattle.std.specs.Prelude.{ℕ, List}
use Rattle.standings.specs.declared.mark.Mark.{Mark}
use Rattle.line_check.specs.Listed.{listed_at}
use Rattle.line_check.specs.declared.table.Table.{Table}

-- the marks of an id in a table
abbrev pub marks_of : Table → ℕ → List Mark
marks_of table id = listed_at table.marks id
