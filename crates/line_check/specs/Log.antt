-- A merged log as the list of its lines: its groups, its deeds, and the reasons against it.
use Rattle.std.specs.Prelude.{◌≡◌, ℕ, ◌+◌, ◌==◌, Bool, true, false, not, ◌&&◌, List, [], ◌∷◌, ◌++◌, Option, None, Some, find, is_some, length, nat_lt, if◌then◌else◌}
use Rattle.std.specs.List.{list_all, list_any}
use Rattle.standings.specs.declared.mark.Mark.{Mark}
use Rattle.standings.specs.declared.entry.Entry.{Entry}
use Rattle.standings.specs.declared.deed.Deed.{Deed}
use Rattle.standings.specs.Marks.{has_id}
use Rattle.standings.specs.Standing.{HasStanding, Place, standing_of}
use Rattle.standings.specs.Ledger.{AreLegal, Ledger, empty_ledger, is_legal, ledger_after_all, marks_in}
use Rattle.line_check.specs.declared.group.Group.{Group}
use Rattle.line_check.specs.declared.reading.Reading.{Reading}
use Rattle.line_check.specs.declared.reading.Reading.TheVariants.{Nothing, Bad, Does}
use Rattle.line_check.specs.declared.why.CheckWhy.{CheckWhy}
use Rattle.line_check.specs.declared.why.CheckWhy.TheVariants.{Long, Lines, Form, Turn, Legal, Standing}
use Rattle.line_check.specs.LogLine.{group_of, said_by}

-- GROUPS: longest runs of lines with one machine and one turn

abbrev pub is_same_group : Option Group → Option Group → Bool
is_same_group None other = false
is_same_group (Some group) None = false
is_same_group (Some group) (Some other) =
    (group.machine == other.machine) && (group.turn == other.turn)

-- a group ends before these lines: at the log's end, and before a line of another group or of none
abbrev pub ends_before : Option Group → List (List ℕ) → Bool
ends_before group [] = true
ends_before group (next ∷ after) = not (is_same_group group (group_of next))

-- the group of a line ends behind it
abbrev pub ends_group : List ℕ → List (List ℕ) → Bool
ends_group line after = ends_before (group_of line) after

-- DEEDS

abbrev pub deeds_in : Reading → List Deed
deeds_in Nothing = []
deeds_in Bad = []
deeds_in (Does deed) = deed ∷ []

-- the deeds of lines, in order
abbrev pub deeds_of : List (List ℕ) → List Deed
deeds_of [] = []
deeds_of (line ∷ lines) = deeds_in (said_by line) ++ deeds_of lines

-- the ledger of the deeds of lines
abbrev pub ledger_of : List (List ℕ) → Ledger
ledger_of lines = ledger_after_all empty_ledger (deeds_of lines)

-- STANDINGS

abbrev pub stands : List Mark → Bool
stands marks = is_some (standing_of marks)

-- each id with a mark has a standing, by a test
abbrev pub all_stand : List Entry → Bool
all_stand marks = list_all (λ (entry : Entry). stands (marks_in entry.id marks)) marks

abbrev pub ids_in : List Entry → List ℕ
ids_in [] = []
ids_in (entry ∷ marks) = entry.id ∷ ids_in marks

-- how many ids there are among some, each counted once
abbrev pub count_once : List ℕ → ℕ
count_once [] = 0
count_once (id ∷ ids) = if has_id id ids then count_once ids else count_once ids + 1

-- how many ids have a mark
abbrev pub boards_in : List Entry → ℕ
boards_in marks = count_once (ids_in marks)

-- THE REASONS against a log

-- a turn of a machine is less than that of another line of the machine
abbrev pub is_below : Group → Option Group → Bool
is_below group None = false
is_below group (Some other) = (other.machine == group.machine) && nat_lt group.turn other.turn

abbrev pub is_late_in : Option Group → List (List ℕ) → Bool
is_late_in None before = false
is_late_in (Some group) before =
    list_any (λ (line : List ℕ). is_below group (group_of line)) before

abbrev pub is_bad : Reading → Bool
is_bad Nothing = false
is_bad Bad = true
is_bad (Does deed) = false

abbrev pub is_illegal : Ledger → Reading → Bool
is_illegal ledger Nothing = false
is_illegal ledger Bad = false
is_illegal ledger (Does deed) = not (is_legal ledger deed)

-- whether a reason holds at a line, which stands behind some lines and before others
abbrev pub holds : CheckWhy → List (List ℕ) → List ℕ → List (List ℕ) → Bool
holds Long before line after = nat_lt 4096 (length line)
holds Lines before line after = length before == 1000000
holds Form before line after = is_bad (said_by line)
holds Turn before line after = is_late_in (group_of line) before
holds Legal before line after = is_illegal (ledger_of before) (said_by line)
holds Standing before line after =
    ends_group line after && not (all_stand (ledger_of (before ++ line ∷ [])).marks)

-- the reasons in the order in which they are tested
abbrev pub reasons : List CheckWhy
reasons = Long ∷ Lines ∷ Form ∷ Turn ∷ Legal ∷ Standing ∷ []

-- the first reason that holds at a line
abbrev pub reason_at : List (List ℕ) → List ℕ → List (List ℕ) → Option CheckWhy
reason_at before line after = find (λ (why : CheckWhy). holds why before line after) reasons

-- a reason against a log, at a line, counted from 1
pub record Against : Type 0 where
  pub line : ℕ
  pub why : CheckWhy

abbrev pub or_later : ℕ → Option CheckWhy → Option Against → Option Against
or_later line (Some why) later = Some (record { line = line; why = why })
or_later line None later = later

-- the first reason at the first line where one holds, among lines that stand behind others
abbrev pub against_from : List (List ℕ) → List (List ℕ) → Option Against
against_from before [] = None
against_from before (line ∷ after) =
    or_later (length before + 1) (reason_at before line after)
    (against_from (before ++ line ∷ []) after)

-- WHAT IS AGAINST A LOG: the first reason at the first line where one holds, or nothing
abbrev pub against : List (List ℕ) → Option Against
against lines = against_from [] lines

-- A LOG THAT NOTHING IS AGAINST

pub record HasOneStanding (marks : List Mark) : Type 0 where
  pub standing : Place
  pub has : HasStanding marks standing
  pub only : (other : Place) → HasStanding marks other → other ≡ standing

-- its deeds in order are legal, and after each group each id with a mark has exactly one standing
pub record IsRight (lines : List (List ℕ)) : Type 0 where
  pub legal : AreLegal empty_ledger (deeds_of lines)
  pub stand : (before : List (List ℕ)) (line : List ℕ) (after : List (List ℕ))
      → lines ≡ before ++ line ∷ after → ends_group line after ≡ true
      → (id : ℕ) → has_id id (ids_in (ledger_of (before ++ line ∷ [])).marks) ≡ true
      → HasOneStanding (marks_in id (ledger_of (before ++ line ∷ [])).marks)
