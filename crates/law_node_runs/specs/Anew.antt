-- A RUN OVER A BOOK AND ONE WITHOUT: behind turn 0 its moves are those of a run without a book; and a
-- new machine, which has nothing to hear of in turn 0, makes the same calls and the same log with a
-- book and without.
use Rattle.std.specs.Prelude.{◌≡◌, ◌≤◌, ℕ, ℤ, Bool, true, false, nat_lt, List, Option, if◌then◌else◌}
use Rattle.std.specs.List.{All}
use Rattle.book_entry.specs.declared.entry.Entry.{Entry}
use Rattle.config_service.specs.declared.message.Settings.{Settings}
use Rattle.line_outside.specs.Given.{Given}
use Rattle.machine_log.specs.Drives.{all_off}
use Rattle.node_core.specs.Node.{new_node}
use Rattle.node_core.specs.declared.profile.NodeProfile.{NodeProfile}
use Rattle.node_run.specs.Booked.{RunsKept}
use Rattle.node_run.specs.Gone.{begins_again, is_behind_listens}
use Rattle.node_run.specs.Next.{next_of}
use Rattle.node_run.specs.Owning.{OwnIsRead}
use Rattle.node_run.specs.Runs.{IsMoment, Runs}
use Rattle.node_run.specs.State.{RunState, resumed, started}
use Rattle.node_run.specs.declared.place.Place.{Place}
use Rattle.node_run.specs.declared.place.Place.TheVariants as places
use Rattle.node_run.specs.declared.rules.Rules.{Rules}

-- THE LAW of later turns
abbrev pub KeptRunsAreRuns : Type 0
KeptRunsAreRuns =
    (rules : Rules) (moments : List ℤ) (s t : RunState) (calls : List Given) (log : List ℕ)
    (entries : List Entry) → 1 ≤ s.turn → RunsKept rules s moments calls t log entries
    → Runs rules s moments calls t log

-- a state of turn 0 as it is in a run without a book: its turn is the first, and behind the listens
-- comes the first poll
abbrev pub place_as_ever : Place → Place
place_as_ever place = if is_behind_listens place then places.PollPanel else place

abbrev pub as_ever_by : Bool → RunState → RunState
as_ever_by true s = record s { turn = 1; place = place_as_ever s.place }
as_ever_by false s = s

abbrev pub as_ever : RunState → RunState
as_ever s = as_ever_by (nat_lt s.turn 1) s

-- the run without a book, with the moments of its moves
pub record RunsAsEver (rules : Rules) (settings : Settings) (profile : NodeProfile)
    (moments : List ℤ) (calls : List Given) (t : RunState) (log : List ℕ) : Type 0 where
  pub own : List ℤ
  pub at : (told : Option ℤ) → All (IsMoment told) moments → All (IsMoment told) own
  pub run : Runs rules (started settings (new_node profile)) own calls (as_ever t) log
  pub ends : begins_again t ≡ false → next_of rules (as_ever t) ≡ next_of rules t

-- THE LAW of new machines
abbrev pub NewMachinesRunAsEver : Type 0
NewMachinesRunAsEver =
    (rules : Rules) (settings : Settings) (profile : NodeProfile) (moments : List ℤ)
    (calls : List Given) (t : RunState) (log : List ℕ) (entries : List Entry)
    → RunsKept rules (resumed settings (new_node profile) all_off) moments calls t log entries
    → RunsAsEver rules settings profile moments calls t log

-- THE LAW of all of them: what a machine owns after a run over a book is read off the bytes of the
-- run's log, from what it owned before
abbrev pub KeptLogTellsOwn : Type 0
KeptLogTellsOwn =
    (rules : Rules) (moments : List ℤ) (s t : RunState) (calls : List Given) (log : List ℕ)
    (entries : List Entry) → RunsKept rules s moments calls t log entries → OwnIsRead s t log
