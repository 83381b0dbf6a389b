-- A RUN: a chain of moves. Each is one call of the ports with its answer, a line of the panel, a
-- message of the supervisor or of the configuration service, the reset of a side, what was found of
-- a neighbour, or a place that is passed.
use Rattle.std.specs.Prelude.{◌≡◌, ◌++◌, ℕ, ℤ, false, List, [], ◌∷◌, Option, None, Some}
use Rattle.std.specs.List.{All}
use Rattle.line_base.specs.Moment.{IsMomentMillis}
use Rattle.line_base.specs.declared.states.Side.{Side}
use Rattle.config_service.specs.declared.message.Settings.{Settings}
use Rattle.line_outside.specs.Listening.{at_all}
use Rattle.line_outside.specs.Given.{Given, Listens, Connects, Polls, Sends, Refuses, Closes}
use Rattle.line_outside.specs.Ports.{Gains}
use Rattle.line_outside.specs.Sink.{Grows, GrowsInPart}
use Rattle.line_outside.specs.declared.answer.GotBytes.{GotBytes}
use Rattle.line_outside.specs.declared.ports.Opened.{Opened}
use Rattle.line_outside.specs.declared.ports.Sent.{Sent}
use Rattle.line_outside.specs.declared.way.Address.{Address}
use Rattle.line_outside.specs.declared.way.Way.{Way}
use Rattle.line_outside.specs.declared.way.Way.TheVariants as ways
use Rattle.node_run.specs.declared.rules.Rules.{Rules}
use Rattle.node_run.specs.State.{Refusal, RunState, way_at}
use Rattle.node_run.specs.Next.{next_of, moved_on}
use Rattle.node_run.specs.Hearing.{DoesHear}
use Rattle.node_run.specs.Configuring.{AfterTry, DoesConfig}
use Rattle.node_run.specs.Resetting.{ResetsSide}
use Rattle.node_run.specs.Lines.{DoesLine}
use Rattle.node_run.specs.After.{after_listen, AfterPoll, AfterLook, TakesHeld, after_send, AfterClose}
use Rattle.node_run.specs.declared.place.Next.TheVariants as nexts
use Rattle.node_run.specs.declared.status.NodeStatus.{NodeStatus}
use Rattle.node_run.specs.declared.status.NodeStatus.TheVariants as statuses

-- the room of a poll
abbrev pub room_bytes : ℕ
room_bytes = 4096

-- ONE MOVE, with the call that it makes, if it makes one, and its lines in the log
pub data Moves (rules : Rules) (moment : ℤ) : RunState → List Given → RunState → List ℕ
    → Type 0 where
  listens : {s : RunState} {way : Way} {address : Address} {opened : Opened}
      → next_of rules s ≡ nexts.Listen way address
      → Moves rules moment s (Listens way address opened ∷ []) (after_listen address opened s) []
  connects : {s : RunState} {address : Address} {opened : Opened}
      → next_of rules s ≡ nexts.Connect address
      → Moves rules moment s (Connects ways.Upstream address opened ∷ [])
      (record s { asks = false }) []
  polls : {s t : RunState} {way : Way} {got : GotBytes} {log : List ℕ}
      → next_of rules s ≡ nexts.Poll way → AfterPoll rules moment way got (moved_on s) t log
      → Moves rules moment s (Polls way room_bytes got ∷ []) t log
  sends : {s : RunState} {way : Way} {sent : Sent} → next_of rules s ≡ nexts.Send way
      → Moves rules moment s (Sends way (way_at way s).unsent sent ∷ [])
      (after_send way sent (moved_on s)) []
  refuses : {s : RunState} {refusal : Refusal} {sent : Sent}
      → next_of rules s ≡ nexts.Refuse refusal.way → s.refusal ≡ Some refusal
      → Moves rules moment s (Refuses refusal.way refusal.text sent ∷ [])
      (record s { refusal = None }) []
  closes : {s t : RunState} {way : Way} {log : List ℕ} → next_of rules s ≡ nexts.Close way
      → AfterClose rules moment way s t log → Moves rules moment s (Closes way ∷ []) t log
  skips : {s : RunState} → next_of rules s ≡ nexts.Skip → Moves rules moment s [] (moved_on s) []
  looks_again : {s t : RunState} {got : GotBytes} {log : List ℕ} → next_of rules s ≡ nexts.Look
      → AfterLook rules got s t log
      → Moves rules moment s (Polls ways.Panel room_bytes got ∷ []) t log
  takes_held : {s t : RunState} {log : List ℕ} → next_of rules s ≡ nexts.Take
      → TakesHeld rules moment s t log → Moves rules moment s [] t log
  does_line : {s t : RunState} {log : List ℕ} → next_of rules s ≡ nexts.Line
      → DoesLine rules moment s t log → Moves rules moment s [] t log
  does_hear : {s t : RunState} {log : List ℕ} → next_of rules s ≡ nexts.Hear
      → DoesHear rules moment s t log → Moves rules moment s [] t log
  does_config : {s t : RunState} {log : List ℕ} → next_of rules s ≡ nexts.HearConfig
      → DoesConfig moment s t → log ≡ [] → Moves rules moment s [] t log
  tries_port : {s t : RunState} {settings : Settings} {opened : Opened} {log : List ℕ}
      → next_of rules s ≡ nexts.Try settings → AfterTry opened moment settings s t → log ≡ []
      → Moves rules moment s (Listens ways.Downstream (at_all settings.port) opened ∷ []) t log
  resets_side : {s t : RunState} {side : Side} {log : List ℕ} → next_of rules s ≡ nexts.Reset side
      → ResetsSide rules moment side s t log → Moves rules moment s [] t log

-- A RUN from a state, with the moment of each of its moves, all its calls and all its log
pub data Runs (rules : Rules) : RunState → List ℤ → List Given → RunState → List ℕ
    → Type 0 where
  begins : {s : RunState} → Runs rules s [] [] s []
  goes_on : {s t u : RunState} {moments : List ℤ} {moment : ℤ} {calls more : List Given}
      {log lines : List ℕ} → Runs rules s moments calls t log → Moves rules moment t more u lines
      → Runs rules s (moments ++ moment ∷ []) (calls ++ more) u (log ++ lines)

-- ---- what the clock, the ports and the log tell of a run

-- a moment of a clock: the one that it tells, or else any that a clock can have
abbrev pub IsMoment : Option ℤ → ℤ → Type 0
IsMoment None moment = IsMomentMillis moment
IsMoment (Some told) moment = moment ≡ told

-- a run that came to its end
pub record HasRun (told_moment : Option ℤ) (rules : Rules) (s t : RunState)
    (given_old given_new : Option (List Given)) (log_old log_new : Option (List ℕ)) : Type 0 where
  pub moments : List ℤ
  pub calls : List Given
  pub log : List ℕ
  pub at : All (IsMoment told_moment) moments
  pub run : Runs rules s moments calls t log
  pub told : Gains given_old given_new calls
  pub logged : Grows log_old log_new log

-- the call that comes next was made, or none was
pub data CallsNext (rules : Rules) : RunState → List Given → Type 0 where
  no_call : {s : RunState} → CallsNext rules s []
  polled : {s : RunState} {way : Way} {got : GotBytes} → next_of rules s ≡ nexts.Poll way
      → CallsNext rules s (Polls way room_bytes got ∷ [])
  polled_again : {s : RunState} {got : GotBytes} → next_of rules s ≡ nexts.Look
      → CallsNext rules s (Polls ways.Panel room_bytes got ∷ [])
  closed : {s : RunState} {way : Way} → next_of rules s ≡ nexts.Close way
      → CallsNext rules s (Closes way ∷ [])
  tried : {s : RunState} {settings : Settings} {opened : Opened}
      → next_of rules s ≡ nexts.Try settings
      → CallsNext rules s (Listens ways.Downstream (at_all settings.port) opened ∷ [])

-- a run that was broken off: the calls are those of a run, and at most the next, and the log is a
-- front of the run's
pub record HasRunInPart (told_moment : Option ℤ) (rules : Rules) (s : RunState)
    (given_old given_new : Option (List Given)) (log_old log_new : Option (List ℕ)) : Type 0 where
  pub moments : List ℤ
  pub calls : List Given
  pub last : List Given
  pub log : List ℕ
  pub reached : RunState
  pub at : All (IsMoment told_moment) moments
  pub run : Runs rules s moments calls reached log
  pub next : CallsNext rules reached last
  pub told : Gains given_old given_new (calls ++ last)
  pub logged : GrowsInPart log_old log_new log

-- HOW A RUN ENDS: by `end`, by its last turn or by a port at which it can't listen, with all its
-- calls and its whole log; or broken off, with a front of them
abbrev pub RunEnds : Option ℤ → Rules → RunState → Option (List Given) → Option (List Given)
    → Option (List ℕ) → Option (List ℕ) → NodeStatus → Type 0
RunEnds told rules s given_old given_new log_old log_new statuses.LogFault =
    HasRunInPart told rules s given_old given_new log_old log_new
RunEnds told rules s given_old given_new log_old log_new statuses.Memory =
    HasRunInPart told rules s given_old given_new log_old log_new
RunEnds told rules s given_old given_new log_old log_new status =
    (t : RunState) × HasRun told rules s t given_old given_new log_old log_new
    × (next_of rules t ≡ nexts.End status)

-- whatever is untold, what a run may answer
abbrev pub IsRunStatus : NodeStatus → Type 0
IsRunStatus statuses.Usage = ⊥
IsRunStatus (statuses.ConfigRefused key why) = ⊥
IsRunStatus statuses.ReadFault = ⊥
IsRunStatus status = Unit {0}
