use Rattle.std.proofs.Common.{◌≡◌, drop}
use Rattle.line_check.specs.Words.{space_from}
use Rattle.board_traces.proofs.cut.cut_at_space.Given as goal

-- the first space of all is that of the bytes from here on
abbrev pub invariant-loop-at : goal.invariant-loop-at
invariant-loop-at l = space_from 0 l.bytes ≡ space_from l.at (drop l.at l.bytes)
