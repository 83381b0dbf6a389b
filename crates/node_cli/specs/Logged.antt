-- WHAT A NODE'S LOG TELLS, and how much text waits, over the run of every node.
use Rattle.std.specs.Prelude.{List, true, ℕ, ℤ, ◌≡◌}
use Rattle.line_outside.specs.Given.{Given}
use Rattle.line_outside.specs.declared.way.Way.{Way}
use Rattle.node_run.specs.declared.rules.Rules.{Rules}
use Rattle.node_run.specs.Next.{HasBoundedText, goes_on, next_of}
use Rattle.node_run.specs.Owning.{OwnIsRead}
use Rattle.node_run.specs.Runs.{Runs}
use Rattle.node_run.specs.State.{RunState, way_at}

-- what a machine owns after a run is read off the bytes of the run's log, from what it owned
-- before
abbrev pub LogTellsOwn : Type 0
LogTellsOwn = (rules : Rules) (moments : List ℤ) (s t : RunState) (calls : List Given)
    (log : List ℕ) → Runs rules s moments calls t log → OwnIsRead s t log

-- where a run goes on, at most 1,048,576 bytes wait on each way that has a connection
abbrev pub TextIsBounded : Type 0
TextIsBounded =
    (rules : Rules) (s : RunState) (way : Way) → goes_on (next_of rules s) ≡ true
    → HasBoundedText (way_at way s)
