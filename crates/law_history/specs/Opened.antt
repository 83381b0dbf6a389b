-- WHAT OPENS WAS STARTED LAST: wherever a machine opens the handover of a board, the report's last
-- start at that gap is of this board, nothing was opened, refused or settled there since, and the
-- intake below holds the board's record, unless it dropped the board since.
use Rattle.std.specs.Prelude.{Bool, List, Some, [], false, if◌then◌else◌, length, take, true, ℕ, ◌++◌, ◌+◌, ◌==◌, ◌∷◌, ◌≡◌, ◌≤◌, ◌⊎◌}
use Rattle.std.specs.List.{AllByRecursion, list_any}
use Rattle.board_record.specs.declared.record.Record.{Record}
use Rattle.node_core.specs.declared.act.Act.TheVariants as acts
use Rattle.node_core.specs.declared.act.Deed.{Deed}
use Rattle.node_core.specs.declared.act.Deed.TheVariants as deeds
use Rattle.line_report.specs.declared.happening.Happening.{Happening}
use Rattle.line_report.specs.declared.happening.Happening.TheVariants as happenings
use Rattle.line_step.specs.Homes.{IsHonest}
use Rattle.line_step.specs.Tracks.{TrackLine}
use Rattle.line_step.specs.Runs.{IsRun, Point, IsShort}
use Rattle.line_step.specs.State.{LineState, no_line}
use Rattle.law_one_standing.specs.Standing.{IsFitTrack}
use Rattle.law_history.specs.LetGo.{taken_below}

-- ---- what the report tells of a gap

-- what is answered there is the machine's above, what is started, settled and dropped that of the
-- machine below
abbrev pub is_above : Deed → Bool
is_above (deeds.Opens id) = true
is_above (deeds.Refuses id) = true
is_above _ = false

abbrev pub is_below : Deed → Bool
is_below (deeds.Starts id) = true
is_below (deeds.Settles id) = true
is_below (deeds.Drops id) = true
is_below _ = false

abbrev pub if_it : Bool → Deed → List Deed
if_it true deed = deed ∷ []
if_it false deed = []

abbrev pub gap_deed : ℕ → Happening → List Deed
gap_deed gap (happenings.Done machine (acts.Deed deed)) =
    if machine == gap then if_it (is_above deed) deed
    else (if machine == gap + 1 then if_it (is_below deed) deed else [])
gap_deed gap _ = []

-- the deeds of a gap, in their order
abbrev pub gap_deeds : ℕ → List Happening → List Deed
gap_deeds gap [] = []
gap_deeds gap (happening ∷ told) = gap_deed gap happening ++ gap_deeds gap told

-- ---- the law

-- a start, or what ends one
abbrev pub is_other : Deed → Bool
is_other (deeds.Starts id) = true
is_other (deeds.Opens id) = true
is_other (deeds.Refuses id) = true
is_other (deeds.Settles id) = true
is_other _ = false

-- this board is dropped
abbrev pub is_drop : ℕ → Deed → Bool
is_drop id (deeds.Drops other) = other == id
is_drop id _ = false

-- the intake below a gap holds the record of this board
pub record IsHeldBelow (s : LineState) (gap id : ℕ) : Type 0 where
  pub board : Record
  pub taken : taken_below s gap ≡ Some board
  pub named : board.id ≡ id

-- of the deeds of a gap the last start is of this board, and since then there was no start,
-- opening, refusal or settling; and the intake holds its record in this state, unless it was
-- dropped since
pub record IsStartedFor (s : LineState) (gap id : ℕ) (told : List Deed) : Type 0 where
  pub before : List Deed
  pub since : List Deed
  pub told_is : told ≡ before ++ deeds.Starts id ∷ since
  pub last : list_any is_other since ≡ false
  pub held : IsHeldBelow s gap id ⊎ (list_any (is_drop id) since ≡ true)

-- the machine above a gap tells that it opens the handover of a board
abbrev pub opens_at : ℕ → ℕ → Happening
opens_at gap id = happenings.Done gap (acts.Deed (deeds.Opens id))

-- so it is wherever a line tells that a handover opens at a gap; `past` is what was told before
-- it, `s` the state then
abbrev pub OpensAsStarted : ℕ → List Happening → LineState → List Happening → Type 0
OpensAsStarted gap past s told = (earlier later : List Happening) (id : ℕ)
    → told ≡ earlier ++ opens_at gap id ∷ later
    → IsStartedFor s gap id (gap_deeds gap (past ++ earlier))

-- line after line
abbrev pub OpensWhatStarted : ℕ → List Happening → LineState → List Point → Type 0
OpensWhatStarted gap past s [] = Unit {0}
OpensWhatStarted gap past s (point ∷ points) =
    OpensAsStarted gap past s point.told
    × OpensWhatStarted gap (past ++ point.told) point.after points

-- THE LAW: it holds at each gap over every script, up to the first line that told what was not so,
-- or let a board come or go unseen
abbrev pub WhatOpensStarted : Type 0
WhatOpensStarted = (asked : List TrackLine) (points : List Point) (n gap : ℕ)
    → AllByRecursion IsFitTrack asked → IsShort no_line points → IsRun no_line asked points
    → IsHonest asked points n → OpensWhatStarted gap [] no_line (take n points)
