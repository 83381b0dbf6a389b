-- The deed of a line, where it says one.
use Rattle.std.specs.Prelude.{ℕ, Option, None, Some}
use Rattle.standings.specs.declared.deed.Deed.{Deed}
use Rattle.line_check.specs.declared.group.Group.{Group}
use Rattle.line_check.specs.declared.reading.Reading.{Reading}
use Rattle.line_check.specs.declared.reading.Reading.TheVariants.{Nothing, Bad, Does}
use Rattle.line_check.specs.declared.kind.Kind as checked
use Rattle.line_check.specs.declared.kind.EntryDeed as checked_entry
use Rattle.line_check.specs.declared.kind.ExitDeed as checked_exit
use Rattle.board_traces.specs.declared.kind.Kind.{Kind}
use Rattle.board_traces.specs.declared.kind.Kind.TheVariants.{Inserts, Removes, Replaces, AtEntry, AtExit}
use Rattle.board_traces.specs.declared.kind.EntryDeed.{EntryDeed}
use Rattle.board_traces.specs.declared.kind.EntryDeed.TheVariants.{Starts, Settles, Drops}
use Rattle.board_traces.specs.declared.kind.ExitDeed.{ExitDeed}
use Rattle.board_traces.specs.declared.kind.ExitDeed.TheVariants.{Opens, Leaves, Returns, Loses}

-- the deed that is said, if one is
abbrev pub deed_said : Reading → Option Deed
deed_said Nothing = None
deed_said Bad = None
deed_said (Does deed) = Some deed

-- the machine of a group
abbrev pub machine_in : Option Group → Option ℕ
machine_in None = None
machine_in (Some group) = Some group.machine

-- the kinds of deeds are those of the checker
abbrev pub entry_as : EntryDeed → checked_entry.EntryDeed
entry_as Starts = checked_entry.TheVariants.Starts
entry_as Settles = checked_entry.TheVariants.Settles
entry_as Drops = checked_entry.TheVariants.Drops

abbrev pub exit_as : ExitDeed → checked_exit.ExitDeed
exit_as Opens = checked_exit.TheVariants.Opens
exit_as Leaves = checked_exit.TheVariants.Leaves
exit_as Returns = checked_exit.TheVariants.Returns
exit_as Loses = checked_exit.TheVariants.Loses

abbrev pub kind_as : Kind → checked.Kind
kind_as Inserts = checked.TheVariants.Inserts
kind_as Removes = checked.TheVariants.Removes
kind_as Replaces = checked.TheVariants.Replaces
kind_as (AtEntry kind) = checked.TheVariants.AtEntry (entry_as kind)
kind_as (AtExit kind) = checked.TheVariants.AtExit (exit_as kind)
