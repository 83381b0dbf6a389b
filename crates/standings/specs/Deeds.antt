-- What each deed does to the ledger.
use Rattle.std.specs.Prelude.{ℕ, ◌+◌, Option, None, Some}
use Rattle.standings.specs.declared.mark.Mark.TheVariants.{Kept, Outlet, Intake}
use Rattle.standings.specs.declared.entry.Entry.{Entry}
use Rattle.standings.specs.declared.deed.Deed.{Deed}
use Rattle.standings.specs.declared.deed.Deed.TheVariants.{Inserts, Comes, Removes, Replaces, Starts, Opens, Returns, Leaves, Loses, Settles, Drops}

-- machine m keeps the board
abbrev pub kept_at : ℕ → ℕ → Option Entry
kept_at machine id = Some (record { id = id; mark = Kept machine })

-- the outlet of machine k, at gap k, holds the board
abbrev pub at_outlet : ℕ → ℕ → Option Entry
at_outlet gap id = Some (record { id = id; mark = Outlet gap })

-- the intake of machine k + 1, at gap k, holds the board
abbrev pub at_intake : ℕ → ℕ → Option Entry
at_intake gap id = Some (record { id = id; mark = Intake (gap + 1) })

-- the mark that a deed takes
abbrev pub taken : Deed → Option Entry
taken (Inserts machine id) = None
taken (Comes machine id) = None
taken (Removes machine id) = kept_at machine id
taken (Replaces machine old new) = kept_at machine old
taken (Starts gap id) = None
taken (Opens gap id) = kept_at gap id
taken (Returns gap id) = at_outlet gap id
taken (Leaves gap id) = at_outlet gap id
taken (Loses gap id) = at_outlet gap id
taken (Settles gap id) = at_intake gap id
taken (Drops gap id) = at_intake gap id

-- the mark that it adds
abbrev pub added : Deed → Option Entry
added (Inserts machine id) = kept_at machine id
added (Comes machine id) = kept_at machine id
added (Removes machine id) = None
added (Replaces machine old new) = kept_at machine new
added (Starts gap id) = at_intake gap id
added (Opens gap id) = at_outlet gap id
added (Returns gap id) = kept_at gap id
added (Leaves gap id) = None
added (Loses gap id) = None
added (Settles gap id) = kept_at (gap + 1) id
added (Drops gap id) = None

-- the id that it makes: it is of a board that was not there before
abbrev pub made : Deed → Option ℕ
made (Inserts machine id) = Some id
made (Comes machine id) = None
made (Removes machine id) = None
made (Replaces machine old new) = Some new
made (Starts gap id) = None
made (Opens gap id) = None
made (Returns gap id) = None
made (Leaves gap id) = None
made (Loses gap id) = None
made (Settles gap id) = None
made (Drops gap id) = None

-- the id that it names, of a replacement the new one
abbrev pub named : Deed → ℕ
named (Inserts machine id) = id
named (Comes machine id) = id
named (Removes machine id) = id
named (Replaces machine old new) = new
named (Starts gap id) = id
named (Opens gap id) = id
named (Returns gap id) = id
named (Leaves gap id) = id
named (Loses gap id) = id
named (Settles gap id) = id
named (Drops gap id) = id

-- the old id that a replacement names beside the new one
abbrev pub named_beside : Deed → Option ℕ
named_beside (Inserts machine id) = None
named_beside (Comes machine id) = None
named_beside (Removes machine id) = None
named_beside (Replaces machine old new) = Some old
named_beside (Starts gap id) = None
named_beside (Opens gap id) = None
named_beside (Returns gap id) = None
named_beside (Leaves gap id) = None
named_beside (Loses gap id) = None
named_beside (Settles gap id) = None
named_beside (Drops gap id) = None

-- the number of the gap or the machine at which it is done
abbrev pub gap_of : Deed → ℕ
gap_of (Inserts machine id) = machine
gap_of (Comes machine id) = machine
gap_of (Removes machine id) = machine
gap_of (Replaces machine old new) = machine
gap_of (Starts gap id) = gap
gap_of (Opens gap id) = gap
gap_of (Returns gap id) = gap
gap_of (Leaves gap id) = gap
gap_of (Loses gap id) = gap
gap_of (Settles gap id) = gap
gap_of (Drops gap id) = gap
