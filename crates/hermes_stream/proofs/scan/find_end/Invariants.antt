use Rattle.std.proofs.Common.{◌≤◌, ◌-◌, ◌++◌, length}
use Rattle.hermes_stream.specs.Scan.{IsSearched}
use Rattle.hermes_stream.proofs.scan.find_end.Given as goal

-- no end was passed
abbrev pub invariant-loop-close : goal.invariant-loop-close
invariant-loop-close l = (l.at ≤ length (l.first ++ l.second)) × IsSearched (l.first ++ l.second) l.at

abbrev pub decreases-loop-close : goal.decreases-loop-close
decreases-loop-close l = length (l.first ++ l.second) - l.at
