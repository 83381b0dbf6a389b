-- A play ends the handover, or one more line can be done; since that has a step, fewer than twelve were done then.
use Rattle.std.proofs.Common.{◌≡◌, ◌+◌, ◌≤◌, ◌<◌, ◌++◌, ◌||◌, ◌⊎◌, inl, inr, ℕ, zero, suc, Bool, true, false, List, [], ◌∷◌, take, length, refl, arith, length-append}
use Rattle.std.specs.List.{AllByRecursion}
use Rattle.std.specs.Prelude.{if◌then◌else◌}
use Rattle.std.proofs.lemmas.List.{length-take-le}
use Rattle.line_step.specs.Tracks.{TrackLine, asked_on, own_line}
use Rattle.line_step.specs.Runs.{IsRun, Point, all_told, state_behind}
use Rattle.line_step.proofs.Running.{run-short}
use Rattle.line_step.specs.State.{LineState, no_line}
use Rattle.line_step.proofs.Numbers.{beyond_or_not}
use Rattle.line_step.proofs.Running.{run-append}
use Rattle.law_one_report.proofs.Lines.{each_line}
use Rattle.law_one_standing.specs.Standing.{IsFitTrack}
use Rattle.law_twelve_steps.specs.Twelve.{CanGoOnToEnd, EndsWithin, EndsWithinTwelveSteps, Unless, has_ended, one_if, steps_to_end, tells_settled}
use Rattle.law_twelve_steps.specs.Undisturbed.{CanGoOn, IsPossible, is_link_step, is_of_link}
use Rattle.law_twelve_steps.specs.Play.{AreEnabled, EndsBy, EndsForWhoeverGoesOn, GoesOn, HasEnding, HasOneMore, IsPlay}
use Rattle.law_twelve_steps.proofs.Doing.{line_comes, play_calm, play_fit, play_honest, play_newcomers, step_is}

-- ---- how many link steps a play has

-- the handover hasn't ended behind any of these lines
abbrev AreOpen : ℕ → ℕ → Bool → List Point → Type 0
AreOpen k id settled [] = Unit {0}
AreOpen k id settled (point ∷ points) =
    (has_ended k (settled || tells_settled k id point.told) point.after ≡ false) × AreOpen k id (settled || tells_settled k id point.told) points

-- it has ended within so many as are counted, or not at all
data Walked (k id : ℕ) (settled : Bool) (s : LineState) (asked : List TrackLine) (points : List Point) : Type 0 where
  has_ended_by : (n : ℕ) → n ≤ steps_to_end k id settled s asked points → EndsBy n k id settled points → Walked k id settled s asked points
  is_open : AreOpen k id settled points → Walked k id settled s asked points

first_counts : (step over : Bool) (rest : ℕ) → step ≡ true → 1 ≤ one_if step + (if over then 0 else rest)
first_counts true over rest is = omega arith
first_counts false over rest is = absurd cc

later_counts : (step over : Bool) (rest n : ℕ) → step ≡ true → over ≡ false → n ≤ rest → suc n ≤ one_if step + (if over then 0 else rest)
later_counts true false rest n is still few = omega arith
later_counts true true rest n is still few = absurd cc
later_counts false over rest n is still few = absurd cc

walk_on : (k id : ℕ) (settled : Bool) (s : LineState) (line : TrackLine) (asked : List TrackLine) (point : Point) (points : List Point) → is_link_step k s (asked_on line) point.told ≡ true
    → has_ended k (settled || tells_settled k id point.told) point.after ≡ false → Walked k id (settled || tells_settled k id point.told) point.after asked points → Walked k id settled s (line ∷ asked) (point ∷ points)
walk_on k id settled s line asked point points step still (has_ended_by n few ends) =
    let now = settled || tells_settled k id point.told in
    has_ended_by (suc n) (later_counts (is_link_step k s (asked_on line) point.told) (has_ended k now point.after) (steps_to_end k id now point.after asked points) n step still few) (inr ends)
walk_on k id settled s line asked point points step still (is_open open_behind) = is_open (still, open_behind)

walk_by : (over : Bool) (k id : ℕ) (settled : Bool) (s : LineState) (line : TrackLine) (asked : List TrackLine) (point : Point) (points : List Point) → is_link_step k s (asked_on line) point.told ≡ true
    → has_ended k (settled || tells_settled k id point.told) point.after ≡ over → Walked k id (settled || tells_settled k id point.told) point.after asked points → Walked k id settled s (line ∷ asked) (point ∷ points)
walk_by true k id settled s line asked point points step is later =
    let now = settled || tells_settled k id point.told in
    has_ended_by 1 (first_counts (is_link_step k s (asked_on line) point.told) (has_ended k now point.after) (steps_to_end k id now point.after asked points) step) (inl is)
walk_by false k id settled s line asked point points step is later = walk_on k id settled s line asked point points step is later

walk : (k id : ℕ) (settled : Bool) (s : LineState) (asked : List TrackLine) (points : List Point) → IsRun s asked points → AreEnabled k s asked points → Walked k id settled s asked points
walk k id settled s [] [] run enabled = is_open tt
walk k id settled s [] (point ∷ points) run enabled = absurd run
walk k id settled s (line ∷ asked) [] run enabled = absurd run
walk k id settled s (line ∷ asked) (point ∷ points) run enabled =
    let now = settled || tells_settled k id point.told in
    walk_by (has_ended k now point.after) k id settled s line asked point points (step_is k (s.lines + 1) line s point.after point.told enabled.0 enabled.1 run.0) refl
    (walk k id now point.after asked points run.1 enabled.2)

le_from : (a b c : ℕ) → a ≡ b → a ≤ c → b ≤ c
le_from a b c is few = omega arith

-- one more line behind an open play counts, too
last_counts : (step over : Bool) → step ≡ true → 1 ≤ one_if step + (if over then 0 else 0)
last_counts step over is = first_counts step over 0 is

more_count : (k id : ℕ) (settled : Bool) (s : LineState) (asked : List TrackLine) (points : List Point) (line : TrackLine) (point : Point) → AreOpen k id settled points
    → IsRun s (asked ++ line ∷ []) (points ++ point ∷ []) → AreEnabled k s (asked ++ line ∷ []) (points ++ point ∷ []) → IsRun s asked points
    → length asked + 1 ≤ steps_to_end k id settled s (asked ++ line ∷ []) (points ++ point ∷ [])
more_count k id settled s [] [] line point still run enabled front =
    last_counts (is_link_step k s (asked_on line) point.told) (has_ended k (settled || tells_settled k id point.told) point.after) (step_is k (s.lines + 1) line s point.after point.told enabled.0 enabled.1 run.0)
more_count k id settled s [] (point' ∷ points) line point still run enabled front = absurd front
more_count k id settled s (line' ∷ asked) [] line point still run enabled front = absurd front
more_count k id settled s (first ∷ asked) (at ∷ points) line point still run enabled front =
    let now = settled || tells_settled k id at.told in
    let rest = more_count k id now at.after asked points line point still.1 run.1 enabled.2 front.1 in
    let counted = later_counts (is_link_step k s (asked_on first) at.told) (has_ended k now at.after) (steps_to_end k id now at.after (asked ++ line ∷ []) (points ++ point ∷ [])) (length asked + 1) (step_is k (s.lines + 1) first s at.after at.told enabled.0 enabled.1 run.0) still.0 rest in
    le_from (suc (length asked + 1)) (length (first ∷ asked) + 1) (one_if (is_link_step k s (asked_on first) at.told) + (if has_ended k now at.after then 0 else steps_to_end k id now at.after (asked ++ line ∷ []) (points ++ point ∷ []))) (omega arith) counted

-- ---- the state behind an open play

unless_open : (over : Bool) (Holds : Type 0) → over ≡ false → Unless over Holds → Holds
unless_open false Holds is holds = holds
unless_open true Holds is holds = absurd cc

can_behind : (k id : ℕ) (settled : Bool) (s : LineState) (points : List Point) → AreOpen k id settled points → CanGoOnToEnd k id settled s points → CanGoOn k (state_behind s points)
can_behind k id settled s [] still can = can
can_behind k id settled s (point ∷ points) still can =
    let now = settled || tells_settled k id point.told in
    can_behind k id now point.after points still.1 (unless_open (has_ended k now point.after) (CanGoOnToEnd k id now point.after points) still.0 can.1)

ends_more : (n most k id : ℕ) (settled : Bool) (points : List Point) → n ≤ most → EndsBy n k id settled points → EndsBy most k id settled points
ends_more zero most k id settled points few ends = absurd ends
ends_more (suc n) zero k id settled points few ends = absurd (omega arith)
ends_more (suc n) (suc most) k id settled [] few ends = ends
ends_more (suc n) (suc most) k id settled (point ∷ points) few (inl is) = inl is
ends_more (suc n) (suc most) k id settled (point ∷ points) few (inr ends) = inr (ends_more n most k id (settled || tells_settled k id point.told) points (omega arith) ends)

-- ---- a play with one more line, and the front of a play

enabled_more : (k : ℕ) (s : LineState) (asked : List TrackLine) (points : List Point) (line : TrackLine) (point : Point) → IsRun s asked points → AreEnabled k s asked points
    → is_of_link k (state_behind s points) (asked_on line) ≡ true → IsPossible (state_behind s points) (asked_on line) → AreEnabled k s (asked ++ line ∷ []) (points ++ point ∷ [])
enabled_more k s [] [] line point run enabled is can = (is, can, tt)
enabled_more k s [] (at ∷ points) line point run enabled is can = absurd run
enabled_more k s (first ∷ asked) [] line point run enabled is can = absurd run
enabled_more k s (first ∷ asked) (at ∷ points) line point run enabled is can = (enabled.0, enabled.1, enabled_more k at.after asked points line point run.1 enabled.2 is can)

abbrev point_of : {k : ℕ} {s : LineState} → HasOneMore k s → Point
point_of more = record { told = more.has.told; after = more.has.after }

play_more : (k : ℕ) (s : LineState) (asked : List TrackLine) (points : List Point) (more : HasOneMore k (state_behind s points)) → IsPlay k s asked points → IsPlay k s (asked ++ own_line more.request ∷ []) (points ++ point_of more ∷ [])
play_more k s asked points more play = record {
  run = run-append s asked (own_line more.request ∷ []) points (point_of more ∷ []) play.run ((more.has.steps, line_comes k (state_behind s points) more.request (state_behind s points) more.is_step), tt);
  enabled = enabled_more k s asked points (own_line more.request) (point_of more) play.run play.enabled more.is_step more.possible;
}

play_front : (n k : ℕ) (s : LineState) (asked : List TrackLine) (points : List Point) → IsRun s asked points → AreEnabled k s asked points → IsPlay k s (take n asked) (take n points)
play_front zero k s asked points run enabled = record { run = tt; enabled = tt }
play_front (suc n) k s [] [] run enabled = record { run = tt; enabled = tt }
play_front (suc n) k s [] (point ∷ points) run enabled = absurd run
play_front (suc n) k s (line ∷ asked) [] run enabled = absurd run
play_front (suc n) k s (line ∷ asked) (point ∷ points) run enabled =
    let front = play_front n k point.after asked points run.1 enabled.2 in
    record { run = (run.0, front.run); enabled = (enabled.0, enabled.1, front.enabled) }

ends_front : (n most k id : ℕ) (settled : Bool) (points : List Point) → EndsBy most k id settled (take n points) → EndsBy most k id settled points
ends_front n zero k id settled points ends = absurd ends
ends_front zero (suc most) k id settled points ends = absurd ends
ends_front (suc n) (suc most) k id settled [] ends = absurd ends
ends_front (suc n) (suc most) k id settled (point ∷ points) (inl is) = inl is
ends_front (suc n) (suc most) k id settled (point ∷ points) (inr ends) = inr (ends_front n most k id (settled || tells_settled k id point.told) points ends)

-- ---- at most twelve

-- what the law of undisturbed stretches says of plays of at most thirteen lines
abbrev OfPlays : ℕ → ℕ → LineState → Type 0
OfPlays k id s = (asked : List TrackLine) (points : List Point) → length asked ≤ 13 → IsPlay k s asked points → EndsWithin 12 k id s asked points

one_more : (k : ℕ) (s : LineState) → CanGoOn k s → HasOneMore k s
one_more k s can = record { request = can.request; is_step = can.is_step; possible = can.possible; has = each_line (s.lines + 1) can.request s }

open_goes_on : (k id : ℕ) (s : LineState) (asked : List TrackLine) (points : List Point) → OfPlays k id s → length asked ≤ 12 → IsPlay k s asked points → AreOpen k id false points → GoesOn 12 k s asked points
open_goes_on k id s asked points of_plays short play still =
    let more = one_more k (state_behind s points) (can_behind k id false s points still (of_plays asked points (omega arith) play).possible) in
    let longer = play_more k s asked points more play in
    let longer_by = length-append asked (own_line more.request ∷ []) in
    let few = (of_plays (asked ++ own_line more.request ∷ []) (points ++ point_of more ∷ []) (omega (arith, longer_by)) longer).few in
    let counted = more_count k id false s asked points (own_line more.request) (point_of more) still longer.run longer.enabled play.run in
    record { few = omega (arith, few, counted); more = more }

walked_ends : (k id : ℕ) (s : LineState) (asked : List TrackLine) (points : List Point) → OfPlays k id s → length asked ≤ 12 → IsPlay k s asked points → Walked k id false s asked points
    → EndsBy 12 k id false points ⊎ GoesOn 12 k s asked points
walked_ends k id s asked points of_plays short play (has_ended_by n few ends) =
    let most = (of_plays asked points (omega arith) play).few in
    inl (ends_more n 12 k id false points (omega (arith, few, most)) ends)
walked_ends k id s asked points of_plays short play (is_open still) = inr (open_goes_on k id s asked points of_plays short play still)

short_ends : (k id : ℕ) (s : LineState) (asked : List TrackLine) (points : List Point) → OfPlays k id s → length asked ≤ 12 → IsPlay k s asked points → EndsBy 12 k id false points ⊎ GoesOn 12 k s asked points
short_ends k id s asked points of_plays short play = walked_ends k id s asked points of_plays short play (walk k id false s asked points play.run play.enabled)

front_ends : (k id : ℕ) (s : LineState) (asked : List TrackLine) (points : List Point) → length (take 12 asked) ≡ 12 → EndsBy 12 k id false (take 12 points) ⊎ GoesOn 12 k s (take 12 asked) (take 12 points) → EndsBy 12 k id false points
front_ends k id s asked points counted (inl ends) = ends_front 12 12 k id false points ends
front_ends k id s asked points counted (inr goes) = let few = goes.few in absurd (omega (arith, few, counted))

each_play : (k id : ℕ) (s : LineState) → OfPlays k id s → (asked : List TrackLine) (points : List Point) → IsPlay k s asked points → EndsBy 12 k id false points ⊎ GoesOn 12 k s asked points
each_play k id s of_plays asked points play =
    elim (beyond_or_not (length asked) 12) [
      | inl short ↦ short_ends k id s asked points of_plays short play
      | inr long ↦
          let counted : length (take 12 asked) ≡ 12 = length-take-le 12 asked (omega arith) in
          let front = play_front 12 k s asked points play.run play.enabled in
          inl (front_ends k id s asked points counted (short_ends k id s (take 12 asked) (take 12 points) of_plays (omega (arith, counted)) front))
    ]

-- ---- some play ends it

reach_by : (fuel k id : ℕ) (s : LineState) (asked : List TrackLine) (points : List Point) → OfPlays k id s → IsPlay k s asked points → length asked + fuel ≡ 12
    → ((more : HasOneMore k (state_behind s points)) → length asked < 12 → HasEnding 12 k id s) → EndsBy 12 k id false points ⊎ GoesOn 12 k s asked points → HasEnding 12 k id s
reach_by fuel k id s asked points of_plays play counted later (inl ends) = record { lines = asked; points = points; play = play; ended = ends }
reach_by fuel k id s asked points of_plays play counted later (inr goes) = later goes.more goes.few

longer_by : (fuel : ℕ) (asked : List TrackLine) (line : TrackLine) → length asked + suc fuel ≡ 12 → length (asked ++ line ∷ []) + fuel ≡ 12
longer_by fuel asked line counted = let longer = length-append asked (line ∷ []) in omega (arith, longer)

reach : (fuel k id : ℕ) (s : LineState) (asked : List TrackLine) (points : List Point) → OfPlays k id s → IsPlay k s asked points → length asked + fuel ≡ 12 → HasEnding 12 k id s
reach zero k id s asked points of_plays play counted =
    reach_by zero k id s asked points of_plays play counted (λ more few. absurd (omega (arith, few, counted))) (each_play k id s of_plays asked points play)
reach (suc fuel) k id s asked points of_plays play counted =
    reach_by (suc fuel) k id s asked points of_plays play counted
    (λ more few. reach fuel k id s (asked ++ own_line more.request ∷ []) (points ++ point_of more ∷ []) of_plays (play_more k s asked points more play) (longer_by fuel asked (own_line more.request) counted))
    (each_play k id s of_plays asked points play)

-- ---- the law

fit_both : (asked others : List TrackLine) → AllByRecursion IsFitTrack asked → AllByRecursion IsFitTrack others → AllByRecursion IsFitTrack (asked ++ others)
fit_both [] others one two = two
fit_both (line ∷ asked) others one two = (one.0, fit_both asked others one.1 two)

pub whoever_ends : EndsWithinTwelveSteps → EndsForWhoeverGoesOn
whoever_ends law asked earlier k id fit short few run honest new announced =
    let s = state_behind no_line earlier in
    let of_plays : OfPlays k id s =
    λ lines points brief play. law asked lines earlier points k id (fit_both asked lines fit (play_fit k s lines points play.enabled)) short (run-short s lines points play.run (omega (arith, few, brief))) run honest new play.run (play_calm k s lines points play.enabled)
    (play_honest k s lines points play.run play.enabled) (play_newcomers k s (all_told earlier) lines points play.enabled) announced in
    record {
      ends = each_play k id s of_plays;
      some = reach 12 k id s [] [] of_plays (record { run = tt; enabled = tt }) refl;
    }
