-- Runs one behind another: their lines, their points and what is told of them.
use Rattle.std.proofs.Common.{◌≡◌, ◌+◌, ◌≤◌, List, [], ◌∷◌, ◌++◌, length, refl, ◌∙◌, arith}
use Rattle.line_step.specs.Tracks.{TrackLine}
use Rattle.line_step.specs.State.{LineState}
use Rattle.line_step.specs.Runs.{IsRun, IsShort, Point, state_behind}
use Rattle.line_step.proofs.Counted.{track-counts}

-- the count of lines doesn't fall along a run
pub run-least : (s : LineState) (asked : List TrackLine) (points : List Point) → IsRun s asked points → s.lines ≤ (state_behind s points).lines
run-least s [] [] run = omega arith
run-least s [] (point ∷ points) run = absurd run
run-least s (line ∷ asked) [] run = absurd run
run-least s (line ∷ asked) (point ∷ points) run =
    let one = track-counts (s.lines + 1) line s point.after point.told run.0 in
    let more = run-least point.after asked points run.1 in
    omega (arith, one.least, more)

-- so no line has a number above 1,000,000 where the next one has none
pub short-behind : (s : LineState) (asked : List TrackLine) (points : List Point) → IsRun s asked points → (state_behind s points).lines + 1 ≤ 1000000 → IsShort s points
short-behind s [] [] run few = tt
short-behind s [] (point ∷ points) run few = absurd run
short-behind s (line ∷ asked) [] run few = absurd run
short-behind s (line ∷ asked) (point ∷ points) run few =
    let all = run-least s (line ∷ asked) (point ∷ points) run in
    (omega (arith, all, few), short-behind point.after asked points run.1 few)

-- nor where there are few lines
pub run-short : (s : LineState) (asked : List TrackLine) (points : List Point) → IsRun s asked points → s.lines + length asked ≤ 1000000 → IsShort s points
run-short s [] [] run few = tt
run-short s [] (point ∷ points) run few = absurd run
run-short s (line ∷ asked) [] run few = absurd run
run-short s (line ∷ asked) (point ∷ points) run few =
    let one = track-counts (s.lines + 1) line s point.after point.told run.0 in
    (omega (arith, few), run-short point.after asked points run.1 (omega (arith, one.most, few)))

pub short-more : (s : LineState) (points : List Point) (point : Point) → IsShort s points → (state_behind s points).lines + 1 ≤ 1000000 → IsShort s (points ++ point ∷ [])
short-more s [] point short few = (few, tt)
short-more s (first ∷ points) point short few = (short.0, short-more first.after points point short.1 few)

pub behind-append : (s : LineState) (points others : List Point) → state_behind s (points ++ others) ≡ state_behind (state_behind s points) others
behind-append s [] others = refl
behind-append s (point ∷ points) others = behind-append point.after points others

pub run-append : (s : LineState) (asked more : List TrackLine) (points others : List Point) → IsRun s asked points → IsRun (state_behind s points) more others → IsRun s (asked ++ more) (points ++ others)
run-append s [] more [] others one two = two
run-append s [] more (point ∷ points) others one two = absurd one
run-append s (line ∷ asked) more [] others one two = absurd one
run-append s (line ∷ asked) more (point ∷ points) others one two = (one.0, run-append point.after asked more points others one.1 two)
