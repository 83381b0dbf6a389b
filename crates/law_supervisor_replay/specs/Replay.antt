-- THE SUPERVISOR'S REPLAY: where each board is, by what a line supervisor is told and nothing
-- else.
use Rattle.std.specs.Prelude.{
  ◌≡◌,
  ℕ,
  ◌+◌,
  ◌==◌,
  ◌&&◌,
  ◌||◌,
  ◌++◌,
  ◌≤◌,
  if◌then◌else◌,
  Bool,
  true,
  false,
  List,
  [],
  ◌∷◌,
  length,
  take,
}
use Rattle.std.specs.List.{AllByRecursion, list_any}
use Rattle.hermes_vertical.specs.declared.message.Passing.{Passing}
use Rattle.hermes_vertical.specs.declared.message.Passing.TheVariants.{
  Transferred,
  Loaded,
  ByHand,
}
use Rattle.hermes_vertical.specs.declared.message.Vertical.{Vertical}
use Rattle.hermes_vertical.specs.declared.message.Vertical.TheVariants as bodies
use Rattle.node_core.specs.declared.act.Act.TheVariants as acts
use Rattle.node_core.specs.declared.act.Deed.TheVariants as deeds
use Rattle.line_report.specs.declared.happening.Happening.{Happening}
use Rattle.line_report.specs.declared.happening.Happening.TheVariants as happenings
use Rattle.standings.specs.Marks.{has_mark, is_same_mark}
use Rattle.standings.specs.declared.mark.Mark.{Mark}
use Rattle.standings.specs.declared.mark.Mark.TheVariants.{Kept, Outlet, Intake}
use Rattle.line_step.specs.Homes.{IsHonest}
use Rattle.line_step.specs.Numbered.{node_at}
use Rattle.line_step.specs.Tracks.{TrackLine}
use Rattle.line_step.specs.Runs.{IsRun, Point, IsShort}
use Rattle.line_step.specs.State.{LineState, marks_in, no_line}
use Rattle.law_one_standing.specs.Facts.{is_taken_at}
use Rattle.law_one_standing.specs.Standing.{IsFitTrack, is_held_at, is_kept_at}

-- ---- what a supervisor folds from what it is told

-- a board is at a machine, on its way from one to the next, or nowhere
pub data Whereabouts : Type 0 where
  At : ℕ → Whereabouts
  Way : ℕ → Whereabouts
  Nowhere : Whereabouts

-- where a board is, and whether it was taken out by hand on its way before its departure was told
pub record Told : Type 0 where
  pub place : Whereabouts
  pub lost : Bool

abbrev pub nothing_told : Told
nothing_told = record { place = Nowhere; lost = false }

-- it departs downstream
abbrev pub on_its_way : Bool → ℕ → Whereabouts
on_its_way true machine = Nowhere
on_its_way false machine = Way machine

-- it departs by a hand: from the machine that tells it, or from the way to it. One that the
-- machine above has still is lost
abbrev pub taken_from : ℕ → Whereabouts → Told → Told
taken_from machine (At at) told =
    if at == machine then record told { place = Nowhere }
    else (if at + 1 == machine then record told { lost = true } else told)
taken_from machine (Way at) told =
    if at + 1 == machine then record told { place = Nowhere } else told
taken_from machine Nowhere told = told

abbrev pub departs : ℕ → Passing → Told → Told
departs machine Transferred told = record told { place = on_its_way told.lost machine }
departs machine ByHand told = taken_from machine told.place told
departs machine Loaded told = told

-- what a message of this machine to its supervisor says of a board
abbrev pub with_message : ℕ → ℕ → Vertical → Told → Told
with_message id machine (bodies.BoardArrived passage) told =
    if passage.id == id then record told { place = At machine } else told
with_message id machine (bodies.BoardDeparted passage) told =
    if passage.id == id then departs machine passage.how told else told
with_message id machine _ told = told

-- from the `tells` lines; and, of a track alone, what goes to another lane is gone from this one as
-- by a hand, and what comes from there is at its machine
abbrev pub with_happening : ℕ → Happening → Told → Told
with_happening id (happenings.Done machine (acts.Tells message)) told =
    with_message id machine message.body told
with_happening id (happenings.Done machine (acts.Gives other to)) told =
    if other == id then departs machine ByHand told else told
with_happening id (happenings.Done machine (acts.Gets other)) told =
    if other == id then record told { place = At machine } else told
with_happening id _ told = told

abbrev pub told_after : ℕ → List Happening → Told → Told
told_after id [] told = told
told_after id (happening ∷ others) told = told_after id others (with_happening id happening told)

-- TOLD: of all that was reported
abbrev pub told_of : ℕ → List Happening → Told
told_of id reported = told_after id reported nothing_told

-- ---- what it is compared with

-- it was reported that a board has left the machine above a gap: `leaves m id`
abbrev pub leaves_at : ℕ → ℕ → Happening → Bool
leaves_at gap id (happenings.Done machine (acts.Deed (deeds.Leaves other))) =
    (machine == gap) && (other == id)
leaves_at gap id _ = false

abbrev pub has_left : ℕ → ℕ → List Happening → Bool
has_left gap id reported = list_any (leaves_at gap id) reported

-- a machine keeps the board or its outlet holds it
abbrev pub has_board : ℕ → List Mark → Bool
has_board machine marks = has_mark (Kept machine) marks || has_mark (Outlet machine) marks

-- this mark stands, and no other
abbrev pub IsOnlyMark : Mark → List Mark → Type 0
IsOnlyMark mark marks = (other : Mark) → has_mark other marks ≡ is_same_mark other mark

-- what a supervisor folds of an id says where it is, exactly as the marks do: at a machine that
-- has it; on its way from one that it has left, where the intake of the machine below alone holds
-- it; so of every other id it says nowhere
pub record Agrees (reported : List Happening) (s : LineState) (id : ℕ) : Type 0 where
  pub at : (machine : ℕ) → (told_of id reported).place ≡ At machine
      → has_board machine (marks_in s id) ≡ true
  pub is_at : (machine : ℕ) → has_board machine (marks_in s id) ≡ true
      → (told_of id reported).place ≡ At machine
  pub way : (gap : ℕ) → (told_of id reported).place ≡ Way gap
      → (has_left gap id reported ≡ true) × IsOnlyMark (Intake (gap + 1)) (marks_in s id)
  pub is_on_way : (gap : ℕ) → has_left gap id reported ≡ true
      → IsOnlyMark (Intake (gap + 1)) (marks_in s id) → (told_of id reported).place ≡ Way gap

-- ---- the law

-- a machine has a mark
abbrev pub is_marked_at : LineState → ℕ → ℕ → Bool
is_marked_at s machine id =
    is_kept_at s machine id || (is_held_at s machine id || is_taken_at s machine id)

-- each machine that has a mark is supervised
abbrev pub IsWatched : LineState → Type 0
IsWatched s =
    (machine id : ℕ) → is_marked_at s machine id ≡ true → (node_at s machine).supervised ≡ true

abbrev pub AreWatched : List Point → Type 0
AreWatched points = AllByRecursion (λ (point : Point). IsWatched point.after) points

-- it was reported that a board came from another lane
abbrev pub came_in : ℕ → Happening → Bool
came_in id (happenings.Done machine (acts.Gets other)) = other == id
came_in id _ = false

-- of a board a supervisor forgets what was reported before the line by which it came from another
-- lane: `past` is what it had of it before a line, `told` what the line tells
abbrev pub since_came : ℕ → List Happening → List Happening → List Happening
since_came id past told = if list_any (came_in id) told then told else past ++ told

-- line after line, of one id
abbrev pub KeepAgreeing : ℕ → List Happening → List Point → Type 0
KeepAgreeing id past [] = Unit {0}
KeepAgreeing id past (point ∷ points) =
    Agrees (since_came id past point.told) point.after id
    × KeepAgreeing id (since_came id past point.told) points

-- THE LAW: where each machine is supervised before its first mark, it holds after each line of
-- every script, up to the first one that told what was not so, or let a board come or go unseen. A
-- script has at most 1,000,000 lines, and its barcodes are texts. Of a track it holds up to the first
-- line, too, by which a board comes from another lane to where it is at home
abbrev pub ReplayAgrees : Type 0
ReplayAgrees =
    (asked : List TrackLine) (points : List Point) (n : ℕ) → AllByRecursion IsFitTrack asked
    → IsShort no_line points → IsRun no_line asked points → IsHonest asked points n
    → AreWatched (take n points)
    → (id : ℕ) → KeepAgreeing id [] (take n points)
