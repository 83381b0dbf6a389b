-- What the loop of a run knows of each move.
use Rattle.std.specs.Prelude.{◌≡◌, ◌≤◌, ℕ, ℤ, Bool, true, false, List, Option, None, Some, length}
use Rattle.line_outside.specs.Faults.{Rose}
use Rattle.line_outside.specs.Given.{Given}
use Rattle.line_outside.specs.Ports.{Gains}
use Rattle.line_outside.specs.Sink.{Grows, GrowsInPart}
use Rattle.node_run.specs.declared.rules.Rules.{Rules}
use Rattle.node_run.specs.State.{RunState, RunView}
use Rattle.node_run.specs.Next.{next_of}
use Rattle.node_run.specs.Runs.{Moves, IsMoment, CallsNext}
use Rattle.node_run.specs.declared.place.Next.{Next}
use Rattle.node_run.specs.declared.place.Next.TheVariants as nexts
use Rattle.node_run.specs.declared.status.NodeStatus.{NodeStatus}
use Rattle.node_run.specs.declared.status.NodeStatus.TheVariants as statuses

abbrev pub is_end : Next → Bool
is_end (nexts.End status) = true
is_end _ = false

-- a move was made
pub record MakesMove (told : Option ℤ) (rules : Rules) (s t : RunState)
    (given_old given_new : Option (List Given)) (log : List ℕ) : Type 0 where
  pub moment : ℤ
  pub same : IsMoment told moment
  pub calls : List Given
  pub move : Moves rules moment s calls t log
  pub gains : Gains given_old given_new calls

-- a run ends by a port at which it can't listen only where the count of the ports rose, and else
-- by `end`
abbrev pub IsEndCaused : Option NodeStatus → ℕ → ℕ → Type 0
IsEndCaused None before now = Unit {0}
IsEndCaused (Some statuses.Done) before now = Unit {0}
IsEndCaused (Some (statuses.ListenFault address)) before now = Rose before now
IsEndCaused (Some status) before now = ⊥

-- a move was made, and the run may go on
pub record MovesAs (told : Option ℤ) (r u : RunView) (given_old given_new : Option (List Given))
    (before now : ℕ) : Type 0 where
  pub rules : u.rules ≡ r.rules
  pub makes : MakesMove told r.rules r.state u.state given_old given_new u.told
  pub rest : length u.state.rest ≤ 4096
  pub ended : IsEndCaused u.state.ended before now

-- memory ran out in a move: at most its call was made
pub record MissesMove (rules : Rules) (s : RunState)
    (given_old given_new : Option (List Given)) : Type 0 where
  pub last : List Given
  pub next : CallsNext rules s last
  pub gains : Gains given_old given_new last

-- a move was made, and its lines are in the log
pub record MovesOn (told : Option ℤ) (rules : Rules) (s t : RunState)
    (given_old given_new : Option (List Given)) (log_old log_new : Option (List ℕ)) : Type 0 where
  pub log : List ℕ
  pub makes : MakesMove told rules s t given_old given_new log
  pub grows : Grows log_old log_new log

-- memory ran out at a move
pub record FailsMemory (rules : Rules) (s : RunState) (given_old given_new : Option (List Given))
    (log_old log_new : Option (List ℕ)) : Type 0 where
  pub misses : MissesMove rules s given_old given_new
  pub logged : log_new ≡ log_old

-- the log took a front of a move's lines
pub record FailsLog (told : Option ℤ) (rules : Rules) (s : RunState)
    (given_old given_new : Option (List Given)) (log_old log_new : Option (List ℕ)) : Type 0 where
  pub after : RunState
  pub log : List ℕ
  pub makes : MakesMove told rules s after given_old given_new log
  pub part : GrowsInPart log_old log_new log

-- the run is at its end
pub record IsAtEnd (rules : Rules) (s : RunState) (given_old given_new : Option (List Given))
    (log_old log_new : Option (List ℕ)) (status : NodeStatus) : Type 0 where
  pub next : next_of rules s ≡ nexts.End status
  pub given : given_new ≡ given_old
  pub logged : log_new ≡ log_old

abbrev pub EndsMove : Option ℤ → Rules → RunState → Option (List Given) → Option (List Given)
    → Option (List ℕ) → Option (List ℕ) → NodeStatus → Type 0
EndsMove told rules s given_old given_new log_old log_new statuses.LogFault =
    FailsLog told rules s given_old given_new log_old log_new
EndsMove told rules s given_old given_new log_old log_new statuses.Memory =
    FailsMemory rules s given_old given_new log_old log_new
EndsMove told rules s given_old given_new log_old log_new status =
    IsAtEnd rules s given_old given_new log_old log_new status

-- what the loop does once: a move, or the end
abbrev pub DoesOnce : Option NodeStatus → Option ℤ → Rules → RunState → RunState
    → Option (List Given) → Option (List Given) → Option (List ℕ) → Option (List ℕ) → Type 0
DoesOnce None told rules s t given_old given_new log_old log_new =
    MovesOn told rules s t given_old given_new log_old log_new
DoesOnce (Some status) told rules s t given_old given_new log_old log_new =
    EndsMove told rules s given_old given_new log_old log_new status

-- how a run may end of itself
abbrev pub IsRunEnd : Option NodeStatus → Type 0
IsRunEnd None = Unit {0}
IsRunEnd (Some statuses.Done) = Unit {0}
IsRunEnd (Some (statuses.ListenFault address)) = Unit {0}
IsRunEnd (Some status) = ⊥

-- why the loop ends: the log failed, whose count rose; memory or the turns ran out; or the run
-- came to its end
abbrev pub IsOnceStatus : Option NodeStatus → NodeStatus → ℕ → ℕ → Type 0
IsOnceStatus ended statuses.LogFault before now = Rose before now
IsOnceStatus ended statuses.Memory before now = Unit {0}
IsOnceStatus ended statuses.TurnsUsed before now = Unit {0}
IsOnceStatus ended status before now = ended ≡ Some status
