-- A line of a merged log, `m t text`: the group that it stands in, and what its text says.
use Rattle.std.specs.Prelude.{ℕ, ◌-◌, ◌==◌, Bool, true, false, ◌&&◌, ◌||◌, List, Option, None, Some, Result, Ok, Err, codes, length, nat_le, nat_lt, option_map, if◌then◌else◌}
use Rattle.std.specs.Str.{bytes_eq}
use Rattle.line_base.specs.Number.{is_digits, value_of}
use Rattle.board_record.specs.BoardId.{read_id}
use Rattle.board_record.specs.declared.id.BadId.{BadId}
use Rattle.standings.specs.declared.deed.Deed.{Deed}
use Rattle.standings.specs.declared.deed.Deed.TheVariants.{Inserts, Removes, Replaces, Starts, Opens, Returns, Leaves, Loses, Settles, Drops}
use Rattle.line_check.specs.declared.group.Group.{Group}
use Rattle.line_check.specs.declared.reading.Reading.{Reading}
use Rattle.line_check.specs.declared.reading.Reading.TheVariants.{Nothing, Bad, Does}
use Rattle.line_check.specs.declared.kind.Kind.{Kind}
use Rattle.line_check.specs.declared.kind.Kind.TheVariants as kinds
use Rattle.line_check.specs.declared.kind.EntryDeed.{EntryDeed}
use Rattle.line_check.specs.declared.kind.EntryDeed.TheVariants as entries
use Rattle.line_check.specs.declared.kind.ExitDeed.{ExitDeed}
use Rattle.line_check.specs.declared.kind.ExitDeed.TheVariants as exits
use Rattle.line_check.specs.Words.{behind, cut_at_space, first_word}

-- THE GROUP of a line: its machine and its turn

-- a machine's number: 1 to 64, without a zero before it
abbrev pub is_machine : List ℕ → Bool
is_machine word =
    is_digits 1 2 word
    && (nat_lt 0 (value_of word)
    && (nat_le (value_of word) 64 && (length word == 1 || nat_le 10 (value_of word))))

-- a turn: 1 to 15 digits
abbrev pub is_turn : List ℕ → Bool
is_turn word = is_digits 1 15 word

abbrev pub read_group : List ℕ → List ℕ → Option Group
read_group machine turn =
    if is_machine machine then
    (if is_turn turn then Some
    (record { machine = value_of machine; turn = value_of turn }) else None) else None

-- a space and a text follow the turn
abbrev pub group_with : List ℕ → Option (List ℕ × List ℕ) → Option Group
group_with machine None = None
group_with machine (Some (turn, text)) = read_group machine turn

abbrev pub group_in : Option (List ℕ × List ℕ) → Option Group
group_in None = None
group_in (Some (machine, rest)) = group_with machine (cut_at_space rest)

-- the machine and the turn of a line, where it is `m t text`
abbrev pub group_of : List ℕ → Option Group
group_of bytes = group_in (cut_at_space bytes)

-- the text behind them
abbrev pub text_of : List ℕ → List ℕ
text_of bytes = behind (cut_at_space (behind (cut_at_space bytes)))

-- THE DEED of a text

-- the deeds at a machine's entry and at its exit, by their first words
abbrev pub entry_deed_of : List ℕ → Option EntryDeed
entry_deed_of word =
    if bytes_eq word (codes "starts") then Some entries.Starts else
    if bytes_eq word (codes "settles") then Some entries.Settles else
    if bytes_eq word (codes "drops") then Some entries.Drops else None

abbrev pub exit_deed_of : List ℕ → Option ExitDeed
exit_deed_of word =
    if bytes_eq word (codes "opens") then Some exits.Opens else
    if bytes_eq word (codes "leaves") then Some exits.Leaves else
    if bytes_eq word (codes "returns") then Some exits.Returns else
    if bytes_eq word (codes "loses") then Some exits.Loses else None

abbrev pub or_else : Option Kind → Option Kind → Option Kind
or_else None other = other
or_else (Some kind) other = Some kind

-- the kind of deed whose first word this is
abbrev pub kind_of : List ℕ → Option Kind
kind_of word =
    if bytes_eq word (codes "insert") then Some kinds.Inserts else
    if bytes_eq word (codes "remove") then Some kinds.Removes else
    if bytes_eq word (codes "replace") then Some kinds.Replaces else
    or_else (option_map kinds.AtEntry (entry_deed_of word))
    (option_map kinds.AtExit (exit_deed_of word))

abbrev pub id_in : Result ℕ BadId → Option ℕ
id_in (Ok id) = Some id
id_in (Err bad) = None

-- the id that a word spells
abbrev pub id_of : List ℕ → Option ℕ
id_of word = id_in (read_id word)

-- an id where a test holds
abbrev pub id_where : Bool → Option ℕ → Option ℕ
id_where true id = id
id_where false id = None

-- the number of a node in its own log: 1 to 10 digits
abbrev pub is_number : List ℕ → Bool
is_number word = is_digits 1 10 word

-- the id behind a number, behind `in` at machine m, and behind `out`. Machine 1 has no gap before
-- it
abbrev pub id_at_number : List ℕ → List ℕ → Option ℕ
id_at_number place word = id_where (is_number place) (id_of word)

abbrev pub id_at_entry : ℕ → List ℕ → List ℕ → Option ℕ
id_at_entry machine place word =
    id_where (bytes_eq place (codes "in") && nat_lt 1 machine) (id_of word)

abbrev pub id_at_exit : List ℕ → List ℕ → Option ℕ
id_at_exit place word = id_where (bytes_eq place (codes "out")) (id_of word)

abbrev pub replaced : ℕ → Option ℕ → Option ℕ → Option Deed
replaced machine (Some old) (Some new) = Some (Replaces machine old new)
replaced machine (Some old) None = None
replaced machine None new = None

abbrev pub replaced_in : ℕ → List ℕ → Option (List ℕ × List ℕ) → Option Deed
replaced_in machine place None = None
replaced_in machine place (Some (old, new)) = replaced machine (id_at_number place old) (id_of new)

-- the deeds at a gap
abbrev pub entry_deed : EntryDeed → ℕ → ℕ → Deed
entry_deed entries.Starts gap id = Starts gap id
entry_deed entries.Settles gap id = Settles gap id
entry_deed entries.Drops gap id = Drops gap id

abbrev pub exit_deed : ExitDeed → ℕ → ℕ → Deed
exit_deed exits.Opens gap id = Opens gap id
exit_deed exits.Leaves gap id = Leaves gap id
exit_deed exits.Returns gap id = Returns gap id
exit_deed exits.Loses gap id = Loses gap id

-- the deed of this kind that machine m tells: the gap at its entry has the number of the machine
-- above it, that at its exit its own
abbrev pub deed_of : Kind → ℕ → List ℕ → List ℕ → Option Deed
deed_of kinds.Inserts machine place rest = option_map (Inserts machine) (id_at_number place rest)
deed_of kinds.Removes machine place rest = option_map (Removes machine) (id_at_number place rest)
deed_of kinds.Replaces machine place rest = replaced_in machine place (cut_at_space rest)
deed_of (kinds.AtEntry kind) machine place rest =
    option_map (entry_deed kind (machine - 1)) (id_at_entry machine place rest)
deed_of (kinds.AtExit kind) machine place rest =
    option_map (exit_deed kind machine) (id_at_exit place rest)

abbrev pub deed_in : Kind → ℕ → Option (List ℕ × List ℕ) → Option Deed
deed_in kind machine None = None
deed_in kind machine (Some (place, rest)) = deed_of kind machine place rest

abbrev pub does : Option Deed → Reading
does None = Bad
does (Some deed) = Does deed

abbrev pub reading_by : Option Kind → ℕ → List ℕ → Reading
reading_by None machine text = Nothing
reading_by (Some kind) machine text =
    does (deed_in kind machine (cut_at_space (behind (cut_at_space text))))

-- what a text says that machine m tells: a text whose first word is that of no deed is passed over
abbrev pub reading_of : ℕ → List ℕ → Reading
reading_of machine text = reading_by (kind_of (first_word text)) machine text

-- WHAT A LINE SAYS
abbrev pub said_in : Option Group → List ℕ → Reading
said_in None bytes = Bad
said_in (Some group) bytes = reading_of group.machine (text_of bytes)

abbrev pub said_by : List ℕ → Reading
said_by bytes = said_in (group_of bytes) bytes
