-- Boards that come to a track: no line of a script lets one come, and how runs go one behind another.
use Rattle.std.proofs.Common.{◌≡◌, ◌+◌, ◌++◌, ℕ, zero, suc, List, [], ◌∷◌, None, append-nil, append_assoc, subst, sym}
use Rattle.std.specs.Prelude.{take}
use Rattle.line_script.specs.declared.line.ScriptLine.TheVariants as lines
use Rattle.line_report.specs.declared.happening.Happening.{Happening}
use Rattle.line_step.specs.Homes.{AreNewcomers}
use Rattle.line_step.specs.Runs.{IsRun, Point, all_told, state_behind}
use Rattle.line_step.specs.State.{LineState}
use Rattle.line_step.specs.Tracks.{TrackLine}
use Rattle.line_step.proofs.Vouching.{track-vouches}

-- ---- a script

pub newcomers-take : (past : List Happening) (asked : List TrackLine) (points : List Point) (n : ℕ) → AreNewcomers past asked points → AreNewcomers past (take n asked) (take n points)
newcomers-take past asked points zero all = tt
newcomers-take past [] points (suc n) all = tt
newcomers-take past (line ∷ asked) [] (suc n) all = tt
newcomers-take past (line ∷ asked) (point ∷ points) (suc n) all = (all.0, newcomers-take (past ++ point.told) asked points n all.1)

-- ---- one run behind another

pub newcomers-append : (past : List Happening) (s : LineState) (asked others : List TrackLine) (points more : List Point) → IsRun s asked points → AreNewcomers past asked points → AreNewcomers (past ++ all_told points) others more → AreNewcomers past (asked ++ others) (points ++ more)
newcomers-append past s [] others [] more run one two = subst (λ (hs : List Happening). AreNewcomers hs others more) (append-nil past) two
newcomers-append past s [] others (point ∷ points) more run one two = absurd run
newcomers-append past s (line ∷ asked) others [] more run one two = absurd run
newcomers-append past s (line ∷ asked) others (point ∷ points) more run one two =
    (one.0, newcomers-append (past ++ point.told) point.after asked others points more run.1 one.1 (subst (λ (hs : List Happening). AreNewcomers hs others more) (sym (append_assoc past point.told (all_told points))) two))

-- where nobody told what was not so behind a run, nobody did before it
pub run-vouched : (s : LineState) (asked : List TrackLine) (points : List Point) → IsRun s asked points → (state_behind s points).unvouched ≡ None → s.unvouched ≡ None
run-vouched s [] [] run none = none
run-vouched s [] (point ∷ points) run none = absurd run
run-vouched s (line ∷ asked) [] run none = absurd run
run-vouched s (line ∷ asked) (point ∷ points) run none = (track-vouches (s.lines + 1) line s point.after point.told run.0 (run-vouched point.after asked points run.1 none)).vouched
