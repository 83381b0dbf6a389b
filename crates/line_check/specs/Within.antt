use Rattle.std.specs.Prelude.{◌≤◌, Option, None, Some}
use Rattle.standings.specs.Deeds.{gap_of}
use Rattle.line_check.specs.declared.group.Group.{Group}
use Rattle.line_check.specs.declared.reading.Reading.{Reading}
use Rattle.line_check.specs.declared.reading.Reading.TheVariants.{Nothing, Bad, Does}
use Rattle.line_check.specs.Group.{IsOfLine}

-- a deed is done at a gap or a machine of a line
abbrev pub IsNear : Reading → Type 0
IsNear Nothing = Unit {0}
IsNear Bad = Unit {0}
IsNear (Does deed) = gap_of deed ≤ 64

abbrev pub IsWithin : Option Group → Reading → Type 0
IsWithin None said = IsNear said
IsWithin (Some group) said = IsOfLine group × IsNear said
