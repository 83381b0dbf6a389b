-- TWELVE LINK STEPS: from a state that is announced for a gap and a board, an undisturbed handover
-- ends within twelve link steps of that gap, and before the end one of them can be done; and what
-- the intake holds of it, until it settles, and what the machine below then keeps of it, is the
-- record that stood at the front above the gap when it was announced.
--
-- What is not said here: that a link step is ever made, that the stretch is long enough for the
-- end, and anything of a stretch that is disturbed.
use Rattle.std.specs.Prelude.{Bool, List, Some, [], false, length, slice_get, true, ℕ, ◌&&◌, ◌+◌, ◌++◌, ◌∷◌, ◌==◌, ◌≡◌, ◌≤◌, ◌||◌, if◌then◌else◌}
use Rattle.std.specs.List.{AllByRecursion}
use Rattle.board_record.specs.declared.record.Record.{Record}
use Rattle.handover_out.specs.State.{is_idle_phase}
use Rattle.handover_in.specs.State.{held}
use Rattle.line_report.specs.declared.happening.Happening.{Happening}
use Rattle.line_report.specs.declared.happening.Happening.TheVariants as happenings
use Rattle.node_core.specs.declared.act.Act.TheVariants as acts
use Rattle.node_core.specs.declared.act.Deed.TheVariants as deeds
use Rattle.line_step.specs.Homes.{AreNewcomers}
use Rattle.line_step.specs.Lies.{has_lie}
use Rattle.line_step.specs.Numbered.{node_at}
use Rattle.line_step.specs.Tracks.{TrackLine, asked_on}
use Rattle.line_step.specs.Runs.{IsRun, IsShort, Point, all_told, state_behind}
use Rattle.line_step.specs.State.{LineState, no_line}
use Rattle.law_one_standing.specs.Standing.{IsFitTrack}
use Rattle.law_history.specs.Offered.{IsLast}
use Rattle.law_twelve_steps.specs.Announced.{IsAnnounced}
use Rattle.law_twelve_steps.specs.Undisturbed.{AreUndisturbed, CanGoOn, is_link_step}

-- ---- the end of a handover

-- machine k + 1 tells that board id, of gap k, has settled
abbrev pub is_settling : ℕ → ℕ → Happening → Bool
is_settling k id (happenings.Done machine (acts.Deed (deeds.Settles board))) =
    machine == k + 1 && board == id
is_settling k id _ = false

abbrev pub tells_settled : ℕ → ℕ → List Happening → Bool
tells_settled k id [] = false
tells_settled k id (happening ∷ told) = is_settling k id happening || tells_settled k id told

-- THE END: it was told that the board has settled, by this line or before, and the outlet above
-- the gap is idle
abbrev pub has_ended : ℕ → Bool → LineState → Bool
has_ended k settled s = settled && is_idle_phase (node_at s k).lane.body.outlet.phase

-- ---- the link steps up to the end

abbrev pub one_if : Bool → ℕ
one_if true = 1
one_if false = 0

-- how many link steps happen from this state on, up to the line that ends the handover. The flag:
-- it was told before that the board has settled
abbrev pub steps_to_end : ℕ → ℕ → Bool → LineState → List TrackLine → List Point → ℕ
steps_to_end k id settled s [] points = 0
steps_to_end k id settled s (line ∷ lines) [] = 0
steps_to_end k id settled s (line ∷ lines) (point ∷ points) =
    one_if (is_link_step k s (asked_on line) point.told) +
    (if has_ended k (settled
    || tells_settled k id point.told) point.after then 0 else steps_to_end k id (settled
    || tells_settled k id point.told) point.after lines points)

-- in this state, and in each that follows before the end, a link step can be done
abbrev pub Unless : Bool → Type 0 → Type 0
Unless true Holds = Unit {0}
Unless false Holds = Holds

abbrev pub CanGoOnToEnd : ℕ → ℕ → Bool → LineState → List Point → Type 0
CanGoOnToEnd k id settled s [] = CanGoOn k s
CanGoOnToEnd k id settled s (point ∷ points) =
    CanGoOn k s
    × Unless (has_ended k (settled || tells_settled k id point.told) point.after)
    (CanGoOnToEnd k id (settled || tells_settled k id point.told) point.after points)

-- what the intake below the gap holds, if anything, is this record: so what settles in the next
-- line is
abbrev pub HoldsIt : ℕ → Record → LineState → Type 0
HoldsIt k board s =
    (held_board : Record) → held (node_at s (k + 1)).lane.body.intake ≡ Some held_board
    → held_board ≡ board

abbrev pub HoldsItToEnd : ℕ → Record → Bool → LineState → List Point → Type 0
HoldsItToEnd k board settled s [] = HoldsIt k board s
HoldsItToEnd k board settled s (point ∷ points) =
    HoldsIt k board s
    × Unless (has_ended k (settled || tells_settled k board.id point.told) point.after)
    (HoldsItToEnd k board (settled || tells_settled k board.id point.told) point.after points)

-- behind the line by which it is told that the board has settled, machine k + 1 keeps this record,
-- behind all others. (Behind a later line it may have handed it on: its exit is no part of this
-- handover.)
abbrev pub KeepsItToEnd : ℕ → Record → Bool → List Point → Type 0
KeepsItToEnd k board settled [] = Unit {0}
KeepsItToEnd k board settled (point ∷ points) =
    let settles = tells_settled k board.id point.told in
    let settled_now = settled || settles in
    (settles ≡ true → IsLast board (node_at point.after (k + 1)).lane.body.kept)
    × Unless (has_ended k settled_now point.after) (KeepsItToEnd k board settled_now points)

-- ---- the law

pub record EndsWithin (most k id : ℕ) (s : LineState) (lines : List TrackLine)
    (points : List Point) : Type 0 where
  pub few : steps_to_end k id false s lines points ≤ most
  pub possible : CanGoOnToEnd k id false s points
  pub held : (board : Record) → slice_get (node_at s k).lane.body.kept 0 ≡ Some board
      → HoldsItToEnd k board false s points
  pub kept : (board : Record) → slice_get (node_at s k).lane.body.kept 0 ≡ Some board
      → KeepsItToEnd k board false points

-- THE LAW: it holds of each state that a script reaches whose lines told no lie and let no board
-- come or go unseen, and of each undisturbed stretch of lines that follows. Boards that come from
-- another lane come to where they aren't at home. A script has at most
-- 1,000,000 lines, and its barcodes are texts
abbrev pub EndsWithinTwelveSteps : Type 0
EndsWithinTwelveSteps =
    (asked stretch : List TrackLine) (earlier points : List Point) (k id : ℕ)
    → AllByRecursion IsFitTrack (asked ++ stretch) → IsShort no_line earlier
    → IsShort (state_behind no_line earlier) points
    → IsRun no_line asked earlier → has_lie earlier ≡ false → AreNewcomers [] asked earlier
    → IsRun (state_behind no_line earlier) stretch points → AreUndisturbed k stretch
    → has_lie points ≡ false → AreNewcomers (all_told earlier) stretch points
    → IsAnnounced (state_behind no_line earlier) k id
    → EndsWithin 12 k id (state_behind no_line earlier) stretch points
