use Rattle.std.proofs.Common.{◌≡◌, ◌≤◌, ◌+◌, length}
use Rattle.std.specs.Str.Lines.{lines}
use Rattle.board_traces.specs.Courses.{after_lines, courses_of}
use Rattle.board_traces.specs.Held.{lines_before}
use Rattle.board_traces.proofs.boards.read_boards.Given as goal

abbrev pub invariant-loop-line : goal.invariant-loop-line
invariant-loop-line l =
    (after_lines l.done (lines_before l.end l.done (lines l.rest)) l.boards ≡ courses_of (lines_before l.end 0 (lines l.log)))
    × ((l.done + length (lines_before l.end l.done (lines l.rest)) ≡ length (lines_before l.end 0 (lines l.log)))
    × (l.done + length l.rest ≤ length l.log))

abbrev pub decreases-loop-line : goal.decreases-loop-line
decreases-loop-line l = length l.rest
