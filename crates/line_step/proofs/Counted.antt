-- The count of lines goes on by one, or stays.
use Rattle.std.proofs.Common.{◌≡◌, ◌+◌, ◌≤◌, ℕ, List, ap, arith, subst, sym}
use Rattle.line_report.specs.declared.happening.Happening.{Happening}
use Rattle.line_step.specs.State.{LineState}
use Rattle.line_step.specs.Requests.{Request}
use Rattle.line_step.specs.Lines.{Counts, LineSteps}
use Rattle.line_step.specs.Tracks.{TrackLine, TrackSteps, other_line, own_line}
use Rattle.line_step.proofs.Keeps.{lines_stay}

-- A LINE STEP counts its line, or leaves the count
pub steps-counts : (number : ℕ) (request : Request) (before after : LineState) (told : List Happening) → LineSteps number request before after told → Counts before.lines after.lines
steps-counts number request before after told steps =
    let same : steps.next.lines ≡ before.lines = lines_stay number request before steps.next steps.done steps.does in
    let counted : after.lines ≡ steps.lines = ap (λ (s : LineState). s.lines) steps.after_is in
    record { least = omega (arith, same, counted, steps.counts.least); most = omega (arith, same, counted, steps.counts.most) }

pub track-counts : (number : ℕ) (line : TrackLine) (before after : LineState) (told : List Happening) → TrackSteps number line before after told → Counts before.lines after.lines
track-counts number (own_line request) before after told steps = steps-counts number request before after told steps.0
track-counts number other_line before after told steps = steps.0.counts

-- by one
pub rises : (lines : ℕ) → Counts lines (lines + 1)
rises lines = record { least = omega arith; most = omega arith }
