-- FIRST IN, FIRST OUT: each machine lets its boards go in the order in which they came to it.
--
-- The order of a machine is folded from the report alone, as if nobody knew of records. What the
-- machine's outlet holds and what it keeps is this order, and no other.
use Rattle.std.specs.Prelude.{List, Some, [], false, if◌then◌else◌, length, slice_get, take, ℕ, ◌++◌, ◌==◌, ◌∷◌, ◌≡◌, ◌≤◌}
use Rattle.std.specs.List.{AllByRecursion}
use Rattle.line_world.specs.FloorPlan.{gap_at}
use Rattle.line_world.specs.declared.board.Board.{Board}
use Rattle.line_world.specs.declared.gap.Gap.TheVariants as gaps
use Rattle.line_world.specs.declared.moves.Move.TheVariants as moves
use Rattle.node_core.specs.Own.{one_of, with_id_instead, without_id}
use Rattle.node_core.specs.declared.act.Act.{Act}
use Rattle.node_core.specs.declared.act.Act.TheVariants as acts
use Rattle.node_core.specs.declared.act.Deed.TheVariants as deeds
use Rattle.line_report.specs.declared.happening.Happening.{Happening}
use Rattle.line_report.specs.declared.happening.Happening.TheVariants as happenings
use Rattle.line_step.specs.Homes.{IsHonest}
use Rattle.line_step.specs.Numbered.{node_at}
use Rattle.line_step.specs.Tracks.{TrackLine}
use Rattle.line_step.specs.Runs.{IsRun, Point, IsShort}
use Rattle.line_step.specs.State.{LineState, no_line, owned_by}
use Rattle.law_one_standing.specs.Standing.{IsFitTrack}
use Rattle.law_one_standing.specs.Told.{IsTold}

-- ---- the order of a machine

-- a board that is inserted, that settles, or comes from another lane, comes last; another that
-- replaces one comes in its place; one that is removed, that leaves, is lost, or goes to another
-- lane, goes. (A board that opens or returns is in the
-- order before and behind.)
abbrev pub order_with : List ℕ → Act → List ℕ
order_with order (acts.Inserts id) = order ++ id ∷ []
order_with order (acts.Deed (deeds.Settles id)) = order ++ id ∷ []
order_with order (acts.Replaces old new) = with_id_instead old new order
order_with order (acts.Removes id) = without_id id order
order_with order (acts.Gives id to) = without_id id order
order_with order (acts.Gets id) = order ++ id ∷ []
order_with order (acts.Deed (deeds.Leaves id)) = without_id id order
order_with order (acts.Deed (deeds.Loses id)) = without_id id order
order_with order _ = order

-- it goes by what this machine did: `settles` at the gap above it, `leaves` and `loses` at the gap
-- below it
abbrev pub order_by : ℕ → List ℕ → Happening → List ℕ
order_by machine order (happenings.Done other act) =
    if other == machine then order_with order act else order
order_by machine order _ = order

-- the order behind what is told
abbrev pub order_behind : ℕ → List ℕ → List Happening → List ℕ
order_behind machine order [] = order
order_behind machine order (happening ∷ told) =
    order_behind machine (order_by machine order happening) told

-- THE ORDER of a machine: of all that was told
abbrev pub order_of : ℕ → List Happening → List ℕ
order_of machine told = order_behind machine [] told

-- ---- a line

-- what a machine's outlet holds, if anything, and then what the machine keeps
abbrev pub held_and_kept : LineState → ℕ → List ℕ
held_and_kept s machine =
    one_of (owned_by (node_at s machine)).held ++ (owned_by (node_at s machine)).kept

-- a machine tells that a board has left
abbrev pub leaves : ℕ → ℕ → Happening
leaves machine id = happenings.Done machine (acts.Deed (deeds.Leaves id))

-- a board that lay begun in a gap lies across it: its id is the one that the outlet there holds,
-- the first of the order
pub record MovesTheFirst (gap : ℕ) (order : List ℕ) (before after : LineState) : Type 0 where
  pub board : Board
  pub id : ℕ
  pub named : board.id ≡ Some id
  pub begun : (gap_at before.world.floor gap).lies ≡ gaps.Begun board
  pub across : (gap_at after.world.floor gap).lies ≡ gaps.Left board
  pub held : (owned_by (node_at before gap)).held ≡ Some id
  pub first : slice_get order 0 ≡ Some id

-- over a line before which this was the order of a machine: behind it the outlet holds, and the
-- machine keeps, what is the order then; wherever the machine tells that a board has left, this
-- board was the first of the order; and where a board makes the move `left` in the gap below the
-- machine, it is the first of the order too
pub record GoesInOrder (machine : ℕ) (order : List ℕ) (before after : LineState)
    (told : List Happening) : Type 0 where
  pub records : held_and_kept after machine ≡ order_behind machine order told
  pub leaves_first : (earlier later : List Happening) (id : ℕ)
      → told ≡ earlier ++ leaves machine id ∷ later
      → slice_get (order_behind machine order earlier) 0 ≡ Some id
  pub moves_first : IsTold (happenings.Moved machine moves.Left) told
      → MovesTheFirst machine order before after

-- ---- the law

-- line after line: `past` is what was told before
abbrev pub KeepsOrder : ℕ → List Happening → LineState → List Point → Type 0
KeepsOrder machine past s [] = Unit {0}
KeepsOrder machine past s (point ∷ points) =
    GoesInOrder machine (order_of machine past) s point.after point.told
    × KeepsOrder machine (past ++ point.told) point.after points

-- THE LAW: so it is of each machine, which are numbered from 1, over every script, up to the first
-- line that told what was not so, or let a board come or go unseen. A script has at most 1,000,000
-- lines, and its barcodes are texts
abbrev pub FirstInFirstOut : Type 0
FirstInFirstOut =
    (asked : List TrackLine) (points : List Point) (n machine : ℕ)
    → AllByRecursion IsFitTrack asked → IsShort no_line points
    → IsRun no_line asked points → IsHonest asked points n → 1 ≤ machine
    → KeepsOrder machine [] no_line (take n points)
