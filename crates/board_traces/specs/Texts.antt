-- The text of a board's line.
use Rattle.std.specs.Prelude.{ℕ, ◌+◌, ◌-◌, Bool, true, false, List, [], ◌∷◌, ◌++◌, Option, None, Some, codes, length}
use Rattle.std.specs.Fmt.{decimal}
use Rattle.board_record.specs.BoardId.{id_text}
use Rattle.standings.specs.declared.mark.Mark.{Mark}
use Rattle.standings.specs.declared.standing.Standing.TheVariants.{With, Between}
use Rattle.standings.specs.declared.deed.Deed.{Deed}
use Rattle.standings.specs.declared.deed.Deed.TheVariants.{Inserts, Comes, Removes, Replaces, Starts, Opens, Returns, Leaves, Loses, Settles, Drops}
use Rattle.standings.specs.Deeds.{named, named_beside}
use Rattle.standings.specs.Standing.{Place, standing_of}
use Rattle.board_traces.specs.declared.way.Way.{Way}
use Rattle.board_traces.specs.declared.way.Way.TheVariants as ways
use Rattle.board_traces.specs.declared.way.Sort.{Sort}
use Rattle.board_traces.specs.declared.way.Sort.TheVariants as sorts
use Rattle.board_traces.specs.Course.{Course}
use Rattle.board_traces.specs.Courses.{Courses}

-- HOW A BOARD WENT, by the deed that took its last mark. Those that add one to it never do
abbrev pub way_of : Deed → Way
way_of (Removes machine id) = ways.Removed
way_of (Replaces machine old new) = ways.Replaced
way_of (Loses gap id) = ways.Lost
way_of (Drops gap id) = ways.Dropped
way_of (Inserts machine id) = ways.Left
way_of (Comes machine id) = ways.Left
way_of (Starts gap id) = ways.Left
way_of (Opens gap id) = ways.Left
way_of (Returns gap id) = ways.Left
way_of (Leaves gap id) = ways.Left
way_of (Settles gap id) = ways.Left

abbrev pub way_text : Way → List ℕ
way_text ways.Removed = codes "removed"
way_text ways.Replaced = codes "replaced"
way_text ways.Left = codes "left"
way_text ways.Lost = codes "lost"
way_text ways.Dropped = codes "dropped"

-- the machine that tells a deed: at a gap the one before it, or the one after it
abbrev pub teller_of : Deed → ℕ
teller_of (Inserts machine id) = machine
teller_of (Comes machine id) = machine
teller_of (Removes machine id) = machine
teller_of (Replaces machine old new) = machine
teller_of (Starts gap id) = gap + 1
teller_of (Opens gap id) = gap
teller_of (Returns gap id) = gap
teller_of (Leaves gap id) = gap
teller_of (Loses gap id) = gap
teller_of (Settles gap id) = gap + 1
teller_of (Drops gap id) = gap + 1

-- THE LINE OF A BOARD: where it is and since which line, or how it went, and at which line
abbrev pub at_text : ℕ → ℕ → ℕ → List ℕ
at_text id machine since =
    id_text id ++ codes " at " ++ decimal machine ++ codes " since " ++ decimal since ++ codes "\n"

abbrev pub between_text : ℕ → ℕ → ℕ → List ℕ
between_text id gap since =
    id_text id ++ codes " between " ++ decimal gap ++ codes " " ++ decimal (gap + 1)
    ++ codes " since " ++ decimal since ++ codes "\n"

abbrev pub went_text : ℕ → ℕ → Way → ℕ → List ℕ
went_text id teller way since =
    id_text id ++ codes " gone " ++ decimal teller ++ codes " " ++ way_text way ++ codes " "
    ++ decimal since

-- after a replaced board the one in its place
abbrev pub heir_text : Option ℕ → ℕ → List ℕ
heir_text None new = codes "\n"
heir_text (Some old) new = codes " " ++ id_text new ++ codes "\n"

abbrev pub gone_text : ℕ → Deed → ℕ → List ℕ
gone_text id last since =
    went_text id (teller_of last) (way_of last) since
    ++ heir_text (named_beside last) (named last)

-- marks that give no standing: within a group, or where they are against the log
abbrev pub torn_text : ℕ → ℕ → List ℕ
torn_text id since = id_text id ++ codes " no standing since " ++ decimal since ++ codes "\n"

abbrev pub nowhere_text : ℕ → List Mark → Deed → ℕ → List ℕ
nowhere_text id [] last since = gone_text id last since
nowhere_text id (mark ∷ marks) last since = torn_text id since

abbrev pub standing_text : Option Place → ℕ → Course → List ℕ
standing_text (Some (With machine)) id course = at_text id machine course.since
standing_text (Some (Between gap)) id course = between_text id gap course.since
standing_text None id course = nowhere_text id course.marks course.last course.since

abbrev pub board_text : ℕ → Course → List ℕ
board_text id course = standing_text (standing_of course.marks) id course

abbrev pub boards_text : Courses → List ℕ
boards_text [] = []
boards_text (board ∷ boards) = board_text board.0 board.1 ++ boards_text boards

-- HOW MANY boards are of a sort: those with a mark, those whose last mark was dropped, and those
-- whose last mark went at the exit of a machine
abbrev pub went_so : Way → Sort → Bool
went_so ways.Removed sort = false
went_so ways.Replaced sort = false
went_so ways.Left sorts.Standing = false
went_so ways.Left sorts.Lost = true
went_so ways.Left sorts.Dropped = false
went_so ways.Lost sorts.Standing = false
went_so ways.Lost sorts.Lost = true
went_so ways.Lost sorts.Dropped = false
went_so ways.Dropped sorts.Standing = false
went_so ways.Dropped sorts.Lost = false
went_so ways.Dropped sorts.Dropped = true

abbrev pub is_standing : Sort → Bool
is_standing sorts.Standing = true
is_standing sorts.Lost = false
is_standing sorts.Dropped = false

abbrev pub is_of : Sort → List Mark → Deed → Bool
is_of sort [] last = went_so (way_of last) sort
is_of sort (mark ∷ marks) last = is_standing sort

abbrev pub one_if : Bool → ℕ
one_if true = 1
one_if false = 0

abbrev pub count_of : Sort → Courses → ℕ
count_of sort [] = 0
count_of sort (board ∷ boards) =
    one_if (is_of sort board.1.marks board.1.last) + count_of sort boards

-- THE LAST LINE
abbrev pub all_text : ℕ → ℕ → ℕ → List ℕ
all_text lines boards standing =
    codes "end lines=" ++ decimal lines ++ codes " boards=" ++ decimal boards
    ++ codes " standing=" ++ decimal standing

abbrev pub astray_text : ℕ → ℕ → ℕ → List ℕ
astray_text gone dropped lost =
    codes " gone=" ++ decimal gone ++ codes " dropped=" ++ decimal dropped ++ codes " lost="
    ++ decimal lost ++ codes "\n"

abbrev pub end_text : ℕ → Courses → List ℕ
end_text lines courses =
    all_text lines (length courses) (count_of sorts.Standing courses)
    ++ astray_text (length courses - count_of sorts.Standing courses)
    (count_of sorts.Dropped courses) (count_of sorts.Lost courses)
