-- WHAT RUNNING MACHINES TELL: the acts of each step of a run, with the number of the machine that does
-- them, in the order of the steps; and the ledger of somebody who reads them.
use Rattle.std.specs.Prelude.{ℕ, List, [], ◌++◌, ◌∷◌, ◌≤◌, map}
use Rattle.std.specs.List.{AllByRecursion}
use Rattle.node_core.specs.declared.act.Act.{Act}
use Rattle.node_core.specs.declared.act.Act.TheVariants as acts
use Rattle.line_report.specs.declared.happening.Happening.{Happening}
use Rattle.line_report.specs.declared.happening.Happening.TheVariants as happenings
use Rattle.standings.specs.Ledger.{AreLegal, Ledger, empty_ledger, ledger_after_all}
use Rattle.standings.specs.declared.deed.Deed.{Deed}
use Rattle.standings.specs.declared.deed.Deed.TheVariants as deeds
use Rattle.law_one_standing.specs.Replay.{IsLedgerOf, IsStandingTold, deeds_of}
use Rattle.law_one_standing.specs.Standing.{HasOneStanding}
use Rattle.law_running_line.specs.New.{IsNew, NumbersDiffer}
use Rattle.law_running_line.specs.Reading.{Reading}
use Rattle.law_running_line.specs.Running.{Running}
use Rattle.law_running_line.specs.RunSteps.{RunSteps, RunsTo, asks, at_rest, goes_on, lets_be, lets_go, moves, turns}
use Rattle.law_running_line.specs.Stands.{line_of}
use Rattle.law_running_line.specs.Timed.{AreRelated}

-- ---- the steps of a run

-- whose step it was, what it did, and the state behind it
pub record RunPoint : Type 0 where
  pub machine : ℕ
  pub acts : List Act
  pub after : Running

-- a turn tells its machine's acts. Where a connection is asked for, where an end leaves one, and
-- where a board moves unread, nobody does anything: the number is that of the machine beside it
abbrev pub point_of : {reading : Reading} {before after : Running} {acts : List Act}
    → RunSteps reading before acts after → RunPoint
point_of (turns {machine} {input} {moment} {before} {after} {told} turn) =
    record { machine = machine; acts = told; after = after }
point_of (asks {machine} {before} {after} asked) =
    record { machine = machine; acts = []; after = after }
point_of (lets_be {machine} {side} {before} {after} left) =
    record { machine = machine; acts = []; after = after }
point_of (moves {gap} {step} {before} {after} moved) =
    record { machine = gap; acts = []; after = after }
point_of (lets_go {gap} {moment} {before} {after} {told} gone) =
    record { machine = gap; acts = told; after = after }

abbrev pub points_of : {reading : Reading} {s u : Running} {acts : List Act}
    → RunsTo reading s acts u → List RunPoint
points_of at_rest = []
points_of (goes_on step later) = point_of step ∷ points_of later

-- all acts of some points, in their order
abbrev pub acts_along : List RunPoint → List Act
acts_along [] = []
acts_along (point ∷ points) = point.acts ++ acts_along points

-- ---- what they tell, and its deeds

-- the acts of a step, each told of its machine, as a report tells them
abbrev pub told_at : RunPoint → List Happening
told_at point = map (happenings.Done point.machine) point.acts

abbrev pub deeds_at : RunPoint → List Deed
deeds_at point = deeds_of (told_at point)

-- the deeds of all that is told, in the order of the steps
abbrev pub deeds_along : List RunPoint → List Deed
deeds_along [] = []
deeds_along (point ∷ points) = deeds_at point ++ deeds_along points

-- THE LEDGER FOLLOWS A RUN: the deeds of each step are legal one after the other, and behind them the
-- ledger has exactly the marks of the machines, and gives each id the standings that those give
abbrev pub Follows : Ledger → List RunPoint → Type 0
Follows ledger [] = Unit {0}
Follows ledger (point ∷ points) =
    AreLegal ledger (deeds_at point)
    × IsLedgerOf (ledger_after_all ledger (deeds_at point)) (line_of point.after)
    × IsStandingTold (ledger_after_all ledger (deeds_at point)) (line_of point.after)
    × Follows (ledger_after_all ledger (deeds_at point)) points

-- ---- standings and gaps along a run

-- a deed at a machine's entry is done at a gap: machine 1 has none before it
abbrev pub IsAtGap : Deed → Type 0
IsAtGap (deeds.Starts gap id) = 1 ≤ gap
IsAtGap (deeds.Settles gap id) = 1 ≤ gap
IsAtGap (deeds.Drops gap id) = 1 ≤ gap
IsAtGap deed = Unit {0}

-- a running machine has one lane: no board of it goes to another one, or comes from there
abbrev pub StaysInLane : Act → Type 0
StaysInLane (acts.Gives id to) = ⊥
StaysInLane (acts.Gets id) = ⊥
StaysInLane _ = Unit {0}

-- behind a step each board's record has one standing, its deeds are done at gaps, and its boards
-- stay in their lane
pub record StandsAt (point : RunPoint) : Type 0 where
  pub standing : HasOneStanding (line_of point.after)
  pub gaps : AllByRecursion IsAtGap (deeds_at point)
  pub lane : AllByRecursion StaysInLane point.acts

-- ---- THE LAW

-- the relation of running machines, and what goes on beside it under a reading, go on in each step
abbrev pub RelationGoesOn : Reading → Type 0
RelationGoesOn reading =
    (before after : Running) (acts : List Act) → RunSteps reading before acts after
    → AreRelated reading before → AreRelated reading after

-- what is told of a run from new machines whose numbers differ, under a reading
abbrev pub LedgerFollows : Reading → Type 0
LedgerFollows reading =
    (s u : Running) (acts : List Act) → IsNew s → NumbersDiffer s
    → (run : RunsTo reading s acts u) → Follows empty_ledger (points_of run)

-- and what holds behind each of its steps
abbrev pub StandsAlong : Reading → Type 0
StandsAlong reading =
    (s u : Running) (acts : List Act) → IsNew s → NumbersDiffer s
    → (run : RunsTo reading s acts u) → AllByRecursion StandsAt (points_of run)
