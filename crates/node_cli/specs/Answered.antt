-- EACH INPUT HAS ONE ANSWER: that of the words, of the file's bytes, and of what the ports answered
-- at which moments, unless a count of faults rose, or memory was wanting.
use Rattle.std.specs.Prelude.{◌≡◌, ℕ, ℤ, Bool, true, false, List, [], Option, Some, None, Result, Ok, Err}
use Rattle.std.specs.List.{All}
use Rattle.line_outside.specs.Faults.{Rises}
use Rattle.line_outside.specs.Given.{Given}
use Rattle.line_outside.specs.Ports.{Gains}
use Rattle.line_outside.specs.Sink.{Grows}
use Rattle.node_core.specs.Node.{new_node}
use Rattle.node_run.specs.Runs.{IsMoment}
use Rattle.node_run.specs.State.{started}
use Rattle.node_run.specs.Told.{neighbours_of, profile_of, rules_of}
use Rattle.node_run.specs.declared.status.NodeStatus.{NodeStatus}
use Rattle.node_run.specs.declared.status.NodeStatus.TheVariants as statuses
use Rattle.node_settings.specs.Settings.{Refusal, read_of}
use Rattle.node_settings.specs.declared.settings.Settings.{Settings}
use Rattle.law_node_runs.specs.One.{Agree, IsWhole, answers_of}
use Rattle.law_node_runs.specs.Each.{AreAnswered, AreMoments, Fits, Outside}

-- nothing but this status
abbrev pub IsStatusAlone : NodeStatus → List Given → List ℕ → NodeStatus → Type 0
IsStatusAlone wanted calls log status = (status ≡ wanted) × (calls ≡ []) × (log ≡ [])

-- the answer to settings: the end of the run that they ask for, with its calls and its log, or that
-- they are refused
abbrev pub IsSettingsAnswer : Result Settings Refusal → List ℤ → List Given → List ℕ → NodeStatus
    → Type 0
IsSettingsAnswer (Ok settings) moments calls log status =
    IsWhole (rules_of settings)
    (started (neighbours_of settings) (new_node (profile_of settings))) moments calls log status
IsSettingsAnswer (Err refusal) moments calls log status =
    IsStatusAlone (statuses.ConfigRefused refusal.key refusal.why) calls log status

-- THE ANSWER, with what is called and logged: whether there is one word, the bytes of the file that
-- it names, the moments, and in the calls what the ports answered
abbrev pub IsAnswer : Bool → List ℕ → List ℤ → List Given → List ℕ → NodeStatus → Type 0
IsAnswer false bytes moments calls log status = IsStatusAlone statuses.Usage calls log status
IsAnswer true bytes moments calls log status =
    IsSettingsAnswer (read_of bytes) moments calls log status

-- what is answered: that answer, each call and all of the log told, or in its place a fault of the
-- file or of the log, whose count rose, or want of memory
pub data Answers (Answer : List ℤ → List Given → List ℕ → NodeStatus → Type 0) (told : Option ℤ)
    (given_old given_new : Option (List Given)) (log_old log_new : Option (List ℕ))
    (file_before file_now log_before log_now : ℕ) (status : NodeStatus) : Type 0 where
  answered : {moments : List ℤ} {calls : List Given} {log : List ℕ}
      → All (IsMoment told) moments → Answer moments calls log status
      → Gains given_old given_new calls → Grows log_old log_new log
      → Answers Answer told given_old given_new log_old log_new file_before file_now log_before
      log_now status
  file_failed : status ≡ statuses.ReadFault → Rises file_before file_now
      → Answers Answer told given_old given_new log_old log_new file_before file_now log_before
      log_now status
  log_failed : status ≡ statuses.LogFault → Rises log_before log_now
      → Answers Answer told given_old given_new log_old log_new file_before file_now log_before
      log_now status
  memory_wanted : status ≡ statuses.Memory
      → Answers Answer told given_old given_new log_old log_new file_before file_now log_before
      log_now status

-- the same, where the file tells its bytes
abbrev pub IsAnswered : Bool → Option (List ℕ) → Option ℤ → Option (List Given)
    → Option (List Given) → Option (List ℕ) → Option (List ℕ) → ℕ → ℕ → ℕ → ℕ → NodeStatus
    → Type 0
IsAnswered one None told given_old given_new log_old log_new file_before file_now log_before
    log_now status =
    Unit {0}
IsAnswered one (Some bytes) told given_old given_new log_old log_new file_before file_now
    log_before log_now status =
    Answers (IsAnswer one bytes) told given_old given_new log_old log_new file_before file_now
    log_before log_now status

-- THE LAW: the same words, bytes, moments and answers have one answer, with one list of calls and
-- one log
abbrev pub EachInputHasOneAnswer : Type 0
EachInputHasOneAnswer =
    (one : Bool) (bytes : List ℕ) (moments others : List ℤ) (calls more : List Given)
    (log text : List ℕ) (status end : NodeStatus)
    → IsAnswer one bytes moments calls log status → IsAnswer one bytes others more text end
    → Agree moments others → Agree (answers_of calls) (answers_of more)
    → (more ≡ calls) × (text ≡ log) × (end ≡ status)

-- ---- whatever is outside

-- THE ANSWER IN what is outside: each move at its moment there, each call answered as there
pub record IsAnswerIn (outside : Outside) (one : Bool) (bytes : List ℕ) (moments : List ℤ)
    (calls : List Given) (log : List ℕ) (status : NodeStatus) : Type 0 where
  pub answer : IsAnswer one bytes moments calls log status
  pub at : AreMoments outside 0 moments
  pub answered : AreAnswered outside [] calls

-- there is one, and no other
pub record HasOneAnswer (outside : Outside) (one : Bool) (bytes : List ℕ) : Type 0 where
  pub moments : List ℤ
  pub calls : List Given
  pub log : List ℕ
  pub status : NodeStatus
  pub is : IsAnswerIn outside one bytes moments calls log status
  pub alone : (others : List ℤ) (more : List Given) (text : List ℕ) (end : NodeStatus)
      → IsAnswerIn outside one bytes others more text end
      → (more ≡ calls) × (text ≡ log) × (end ≡ status)

-- THE LAW: whatever the words, the bytes of the file, the moments and what the ports would answer,
-- there is exactly one answer: one list of calls, one log and one status
abbrev pub EachOutsideHasOneAnswer : Type 0
EachOutsideHasOneAnswer =
    (one : Bool) (bytes : List ℕ) (outside : Outside) → Fits outside
    → HasOneAnswer outside one bytes
