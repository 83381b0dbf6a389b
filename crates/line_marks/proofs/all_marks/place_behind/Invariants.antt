use Rattle.std.proofs.Common.{◌≤◌, take}
use Rattle.std.specs.List.{AllByRecursion}
use Rattle.line_marks.specs.Indexed.{machine_of}
use Rattle.line_marks.specs.declared.all_marks.LaneMark.{LaneMark}
use Rattle.line_marks.proofs.all_marks.place_behind.Given as goal

abbrev pub invariant-loop-place : goal.invariant-loop-place
invariant-loop-place l = AllByRecursion (λ (other : LaneMark). machine_of other.mark ≤ l.machine) (take l.place l.all)
