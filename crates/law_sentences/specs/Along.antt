-- FIRST IN, FIRST OUT, a line at a time.
use Rattle.std.specs.Prelude.{List, None, ℕ, ◌+◌, ◌≡◌, ◌≤◌}
use Rattle.line_report.specs.declared.happening.Happening.{Happening}
use Rattle.line_step.specs.Requests.{Request}
use Rattle.line_step.specs.Lines.{LineSteps}
use Rattle.line_step.specs.State.{LineState}
use Rattle.line_step.specs.Tracks.{ComesFromElsewhere}
use Rattle.law_one_standing.specs.Reached.{IsReached}
use Rattle.law_sentences.specs.Order.{GoesInOrder, held_and_kept}

-- of each machine: from what its outlet holds and what it keeps before the line, which is its
-- order there
pub record GoInOrder (before after : LineState) (told : List Happening) : Type 0 where
  pub each : (machine : ℕ) → 1 ≤ machine
      → GoesInOrder machine (held_and_kept before machine) before after told

-- THE LAW: over the next line behind a run of a script, while no line told what was not so, or let
-- a board come or go unseen
abbrev pub OrderAlong : Type 0
OrderAlong =
    (request : Request) (before after : LineState) (told : List Happening) → IsReached before
    → ComesFromElsewhere request before → LineSteps (before.lines + 1) request before after told → after.unvouched ≡ None
    → GoInOrder before after told
