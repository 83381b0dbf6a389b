-- WHAT SETTLES IS AS IT WAS OFFERED: the record that a machine comes to keep of a handover is,
-- word for word, the one that was in the last BoardAvailable that the machine above sent before it
-- opened that handover.
--
-- A message is told with all its parts, so which record was offered is read off the report.
-- Whether it is cut, closed, spoiled or revoked in between, and what is done by hand elsewhere,
-- doesn't matter here: where a board settles, it is so.
use Rattle.std.specs.Prelude.{Bool, List, None, Option, Some, [], false, if◌then◌else◌, length, take, true, ℕ, ◌&&◌, ◌++◌, ◌+◌, ◌==◌, ◌∷◌, ◌≡◌, ◌≤◌}
use Rattle.std.specs.List.{AllByRecursion, list_any}
use Rattle.line_base.specs.declared.states.Side.TheVariants.{Exit}
use Rattle.board_record.specs.declared.record.Record.{Record}
use Rattle.hermes_horizontal.specs.declared.message.Horizontal.{Horizontal}
use Rattle.hermes_horizontal.specs.declared.message.Horizontal.TheVariants as bodies
use Rattle.node_core.specs.declared.act.Act.{Act}
use Rattle.node_core.specs.declared.act.Act.TheVariants as acts
use Rattle.node_core.specs.declared.act.Deed.TheVariants as deeds
use Rattle.line_report.specs.declared.happening.Happening.{Happening}
use Rattle.line_report.specs.declared.happening.Happening.TheVariants as happenings
use Rattle.line_step.specs.Homes.{IsHonest}
use Rattle.line_step.specs.Numbered.{node_at}
use Rattle.line_step.specs.Tracks.{TrackLine}
use Rattle.line_step.specs.Runs.{IsRun, Point, IsShort}
use Rattle.line_step.specs.State.{LineState, no_line}
use Rattle.law_one_standing.specs.Standing.{IsFitTrack}
use Rattle.law_history.specs.LetGo.{is_leaving, settles_at, taken_below}

-- ---- which record was offered

-- of what a machine tells of its exit: the record in the last BoardAvailable that it sent, and the
-- one in the last that it sent before it last opened a handover
pub record Offering : Type 0 where
  pub said : Option Record
  pub opened : Option Record

abbrev pub none_offered : Offering
none_offered = record { said = None; opened = None }

abbrev pub offers_message : Horizontal → Offering → Offering
offers_message (bodies.BoardAvailable board) o = record o { said = Some board }
offers_message _ o = o

abbrev pub offers_act : Act → Offering → Offering
offers_act (acts.Sends Exit message) o = offers_message message.body o
offers_act (acts.Deed (deeds.Opens id)) o = record o { opened = o.said }
offers_act _ o = o

abbrev pub offers_happening : ℕ → Happening → Offering → Offering
offers_happening gap (happenings.Done machine act) o =
    if machine == gap then offers_act act o else o
offers_happening gap _ o = o

-- after what was told of the machine above a gap
abbrev pub offers_told : ℕ → List Happening → Offering → Offering
offers_told gap [] o = o
offers_told gap (happening ∷ told) o = offers_told gap told (offers_happening gap happening o)

-- the record in the offer of the board that was let go last at a gap, behind a line: where the
-- line tells that a board has left there, the one that was offered before its handover was opened;
-- otherwise the one before
abbrev pub offered_gone : ℕ → Option Record → Offering → List Happening → Option Record
offered_gone gap last o told =
    if list_any (is_leaving gap) told then o.opened else last

-- ---- what is done by hand

-- a board is put in, taken out, replaced, marked or given a circuit more; it goes to another lane
-- of the machine, or comes from one; a level of a bridge's segment marks one too
abbrev pub is_hand : Act → Bool
is_hand (acts.Inserts id) = true
is_hand (acts.Removes id) = true
is_hand (acts.Replaces was now) = true
is_hand (acts.Marks id quality) = true
is_hand (acts.Subs id place) = true
is_hand (acts.Gives id to) = true
is_hand (acts.Gets id) = true
is_hand _ = false

abbrev pub is_hand_at : ℕ → Happening → Bool
is_hand_at machine (happenings.Done other act) = other == machine && is_hand act
is_hand_at machine _ = false

-- at this machine
abbrev pub tells_hand : ℕ → List Happening → Bool
tells_hand machine told = list_any (is_hand_at machine) told

-- ---- what settles

-- a record is the last of a list
pub record IsLast (board : Record) (kept : List Record) : Type 0 where
  pub others : List Record
  pub is : kept ≡ others ++ board ∷ []

-- the record of a board that settles in a line: the intake held it before the line, it is the one
-- that was offered, and behind the line the machine keeps it, behind all others; unless something
-- is done by hand at that machine in the same line
pub record IsAsOffered (gap id : ℕ) (last : Option Record) (before : LineState) (point : Point)
    : Type 0 where
  pub board : Record
  pub named : board.id ≡ id
  pub taken : taken_below before gap ≡ Some board
  pub offered : last ≡ Some board
  pub kept : tells_hand (gap + 1) point.told ≡ false
      → IsLast board (node_at point.after (gap + 1)).lane.body.kept

-- so it is wherever the line tells that a board has settled at the gap
abbrev pub SettlesAsOffered : ℕ → Option Record → LineState → Point → Type 0
SettlesAsOffered gap last s point =
    (earlier later : List Happening) (id : ℕ) → point.told ≡ earlier ++ settles_at gap id ∷ later
    → IsAsOffered gap id last s point

-- line after line
abbrev pub KeepsAsOffered : ℕ → Option Record → Offering → LineState → List Point → Type 0
KeepsAsOffered gap last o s [] = Unit {0}
KeepsAsOffered gap last o s (point ∷ points) =
    let last_now = offered_gone gap last o point.told in
    let o_now = offers_told gap point.told o in
    SettlesAsOffered gap last s point × KeepsAsOffered gap last_now o_now point.after points

-- THE LAW: it holds at each gap over every script, up to the first line that told what was not so,
-- or let a board come or go unseen
abbrev pub WhatSettlesWasOffered : Type 0
WhatSettlesWasOffered =
    (asked : List TrackLine) (points : List Point) (n gap : ℕ)
    → AllByRecursion IsFitTrack asked → IsShort no_line points → IsRun no_line asked points
    → IsHonest asked points n
    → KeepsAsOffered gap None none_offered no_line (take n points)
