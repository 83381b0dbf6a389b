-- What the program `node` does with its words and its settings file.
use Rattle.std.specs.Prelude.{◌≡◌, ◌≤◌, ◌==◌, ◌⊎◌, ℕ, ℤ, Bool, true, false, List, Option, None, Some, Result, Ok, Err, length}
use Rattle.node_commands.specs.declared.settings_file.FileError.{FileError}
use Rattle.node_commands.specs.declared.settings_file.FileError.TheVariants as errors
use Rattle.line_outside.specs.Faults.{Rose}
use Rattle.line_outside.specs.Given.{Given}
use Rattle.line_outside.specs.declared.way.Address.{Address}
use Rattle.node_run.specs.Told.{RunEndsTold}
use Rattle.node_run.specs.declared.status.NodeStatus.{NodeStatus}
use Rattle.node_run.specs.declared.status.NodeStatus.TheVariants as statuses
use Rattle.node_settings.specs.Settings.{Refusal, read_of}
use Rattle.node_settings.specs.declared.key.SettingsError.{SettingsError}
use Rattle.node_settings.specs.declared.key.SettingsError.TheVariants as refusals
use Rattle.node_settings.specs.declared.settings.Settings.{Settings}

-- nothing was called, and nothing logged
pub record IsQuiet (given_old given_new : Option (List Given))
    (log_old log_new : Option (List ℕ)) : Type 0 where
  pub given : given_new ≡ given_old
  pub log : log_new ≡ log_old

-- the bytes that were read say what all bytes of the file say, where they are told
abbrev pub ReadsFile : Option (List ℕ) → List ℕ → Type 0
ReadsFile None bytes = Unit {0}
ReadsFile (Some all) bytes = read_of all ≡ read_of bytes

-- the count of a file never falls, and a fault comes only where it rose
abbrev pub HasFileCause : {A : Type 0} → Result A FileError → ℕ → ℕ → Type 0
HasFileCause (Ok bytes) before now = before ≤ now
HasFileCause (Err errors.Fault) before now = (before ≤ now) × Rose before now
HasFileCause (Err errors.Memory) before now = before ≤ now

-- how the program ends where the settings could not be read
abbrev pub status_of : SettingsError → NodeStatus
status_of (refusals.Refused key why) = statuses.ConfigRefused key why
status_of refusals.Memory = statuses.Memory

-- what settings ask for: a run, or their refusal
abbrev pub DoesSettings : Result Settings Refusal → Option ℤ → Option (List Given)
    → Option (List Given) → Option (List ℕ) → Option (List ℕ) → NodeStatus → Type 0
DoesSettings (Ok settings) moment given_old given_new log_old log_new status =
    RunEndsTold moment settings given_old given_new log_old log_new status
DoesSettings (Err refusal) moment given_old given_new log_old log_new status =
    (status ≡ statuses.ConfigRefused refusal.key refusal.why)
    × IsQuiet given_old given_new log_old log_new

-- the file was read, or failed, or memory was wanting before anything was called
abbrev pub DoesFile : List ℕ → Option ℤ → Option (List Given) → Option (List Given)
    → Option (List ℕ) → Option (List ℕ) → NodeStatus → Type 0
DoesFile bytes moment given_old given_new log_old log_new statuses.ReadFault =
    IsQuiet given_old given_new log_old log_new
DoesFile bytes moment given_old given_new log_old log_new statuses.Memory =
    IsQuiet given_old given_new log_old log_new ⊎ DoesSettings
    (read_of bytes) moment given_old given_new log_old log_new statuses.Memory
DoesFile bytes moment given_old given_new log_old log_new status =
    DoesSettings (read_of bytes) moment given_old given_new log_old log_new status

-- WHAT THE PROGRAM DOES: with other than one word nothing but `Usage`; where the file tells its
-- bytes, what its settings ask for
abbrev pub DoesNode : Bool → Option (List ℕ) → Option ℤ → Option (List Given) → Option (List Given)
    → Option (List ℕ) → Option (List ℕ) → NodeStatus → Type 0
DoesNode false left moment given_old given_new log_old log_new status =
    (status ≡ statuses.Usage) × IsQuiet given_old given_new log_old log_new
DoesNode true None moment given_old given_new log_old log_new status = Unit {0}
DoesNode true (Some bytes) moment given_old given_new log_old log_new status =
    DoesFile bytes moment given_old given_new log_old log_new status

abbrev pub is_one : List (List ℕ) → Bool
is_one words = length words == 1

-- `Usage` exactly where there isn't one word
abbrev pub FitsNode : Bool → NodeStatus → Type 0
FitsNode false status = status ≡ statuses.Usage
FitsNode true statuses.Usage = ⊥
FitsNode true status = Unit {0}

-- no count falls, and a fault comes only where the count of that object rose
pub record HasCauses (status : NodeStatus)
    (file_before file_now ports_before ports_now log_before log_now : ℕ) : Type 0 where
  pub file : file_before ≤ file_now
  pub ports : ports_before ≤ ports_now
  pub log : log_before ≤ log_now
  pub read_fault : status ≡ statuses.ReadFault → Rose file_before file_now
  pub listen_fault : (address : Address) → status ≡ statuses.ListenFault address
      → Rose ports_before ports_now
  pub log_fault : status ≡ statuses.LogFault → Rose log_before log_now
