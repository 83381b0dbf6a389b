-- THE LEDGER FOLLOWS THE REPORT: what is told of records, read as deeds in a ledger, and the
-- ledger beside the line.
use Rattle.std.specs.Prelude.{List, [], false, length, take, ℕ, ◌++◌, ◌-◌, ◌∷◌, ◌≡◌, ◌≤◌}
use Rattle.std.specs.List.{AllByRecursion}
use Rattle.node_core.specs.declared.act.Act.{Act}
use Rattle.node_core.specs.declared.act.Act.TheVariants as acts
use Rattle.node_core.specs.declared.act.Deed.{Deed as OwnDeed}
use Rattle.node_core.specs.declared.act.Deed.TheVariants as own_deeds
use Rattle.line_report.specs.declared.happening.Happening.{Happening}
use Rattle.line_report.specs.declared.happening.Happening.TheVariants as happenings
use Rattle.standings.specs.Ledger.{AreLegal, Ledger, empty_ledger, has_entry, ledger_after_all}
use Rattle.standings.specs.Ledger as ledgers
use Rattle.standings.specs.Marks.{has_mark}
use Rattle.standings.specs.Standing.{HasStanding, Place}
use Rattle.standings.specs.declared.deed.Deed.{Deed}
use Rattle.standings.specs.declared.deed.Deed.TheVariants as deeds
use Rattle.standings.specs.declared.entry.Entry.{Entry}
use Rattle.line_step.specs.Homes.{IsHonest}
use Rattle.line_step.specs.Runs.{IsRun, Point, IsShort}
use Rattle.line_step.specs.State.{LineState, marks_in, no_line}
use Rattle.line_step.specs.Tracks.{TrackLine}
use Rattle.law_one_standing.specs.Standing.{IsFitTrack}

-- what a machine tells of a handover, as a deed: at its exit of the gap of its number, at its
-- entry of the one before. A refusal moves no record
abbrev pub deeds_at_side : ℕ → OwnDeed → List Deed
deeds_at_side machine (own_deeds.Opens id) = deeds.Opens machine id ∷ []
deeds_at_side machine (own_deeds.Refuses id) = []
deeds_at_side machine (own_deeds.Leaves id) = deeds.Leaves machine id ∷ []
deeds_at_side machine (own_deeds.Returns id) = deeds.Returns machine id ∷ []
deeds_at_side machine (own_deeds.Loses id) = deeds.Loses machine id ∷ []
deeds_at_side machine (own_deeds.Starts id) = deeds.Starts (machine - 1) id ∷ []
deeds_at_side machine (own_deeds.Settles id) = deeds.Settles (machine - 1) id ∷ []
deeds_at_side machine (own_deeds.Drops id) = deeds.Drops (machine - 1) id ∷ []

abbrev pub deeds_at : ℕ → Act → List Deed
deeds_at machine (acts.Deed deed) = deeds_at_side machine deed
deeds_at machine (acts.Inserts id) = deeds.Inserts machine id ∷ []
deeds_at machine (acts.Removes id) = deeds.Removes machine id ∷ []
deeds_at machine (acts.Replaces old new) = deeds.Replaces machine old new ∷ []
deeds_at machine (acts.Gives id to) = deeds.Removes machine id ∷ []
deeds_at machine (acts.Gets id) = deeds.Comes machine id ∷ []
deeds_at machine _ = []

abbrev pub deeds_in : Happening → List Deed
deeds_in (happenings.Done machine act) = deeds_at machine act
deeds_in _ = []

-- the deeds of what is told, in their order
abbrev pub deeds_of : List Happening → List Deed
deeds_of [] = []
deeds_of (happening ∷ told) = deeds_in happening ++ deeds_of told

-- the marks of the ledger are those of the machines
abbrev pub IsLedgerOf : Ledger → LineState → Type 0
IsLedgerOf ledger s =
    (entry : Entry) → has_entry entry ledger.marks ≡ has_mark entry.mark (marks_in s entry.id)

-- so the ledger tells each id's standing: that which its marks at the machines give it
pub record IsStandingTold (ledger : Ledger) (s : LineState) : Type 0 where
  pub told : (id : ℕ) (standing : Place) → HasStanding (ledgers.marks_in id ledger.marks) standing
      → HasStanding (marks_in s id) standing
  pub whole : (id : ℕ) (standing : Place) → HasStanding (marks_in s id) standing
      → HasStanding (ledgers.marks_in id ledger.marks) standing

-- each line's deeds are legal one after the other, and behind them the ledger has the marks, and
-- tells the standings
abbrev pub Follows : Ledger → List Point → Type 0
Follows ledger [] = Unit {0}
Follows ledger (point ∷ points) =
    AreLegal ledger (deeds_of point.told)
    × IsLedgerOf (ledger_after_all ledger (deeds_of point.told)) point.after
    × IsStandingTold (ledger_after_all ledger (deeds_of point.told)) point.after
    × Follows (ledger_after_all ledger (deeds_of point.told)) points

-- THE LAW: from the empty ledger on, up to the first line that told what was not so
abbrev pub LedgerFollows : Type 0
LedgerFollows =
    (asked : List TrackLine) (points : List Point) (n : ℕ) → AllByRecursion IsFitTrack asked
    → IsShort no_line points → IsRun no_line asked points → IsHonest asked points n
    → Follows empty_ledger (take n points)
