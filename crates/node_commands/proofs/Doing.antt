-- What the program does, by how its call ends.
use Rattle.std.proofs.Common.{◌≡◌, ◌∙◌, sym, subst, refl, ℕ, ℤ, Bool, true, false, List, Option, None, Some, Result, Ok, Err, inl, inr, ◌≤◌, arith}
use Rattle.line_outside.specs.Given.{Given}
use Rattle.node_commands.specs.Command.{IsQuiet, ReadsFile, DoesSettings, DoesFile, DoesNode, FitsNode, HasCauses, status_of}
use Rattle.node_run.specs.Runs.{IsRunStatus}
use Rattle.node_run.specs.Told.{RunEndsTold, HasRunCauses}
use Rattle.node_run.specs.declared.status.NodeStatus.{NodeStatus}
use Rattle.node_run.specs.declared.status.NodeStatus.TheVariants as statuses
use Rattle.node_settings.specs.Settings.{Refusal, Reads, refusal, read_of}
use Rattle.node_settings.specs.declared.key.ConfigKey.{ConfigKey}
use Rattle.node_settings.specs.declared.key.ConfigWhy.{ConfigWhy}
use Rattle.node_settings.specs.declared.key.SettingsError.{SettingsError}
use Rattle.node_settings.specs.declared.key.SettingsError.TheVariants as refusals
use Rattle.node_settings.specs.declared.settings.Settings.{Settings}

quiet : (given : Option (List Given)) (log : Option (List ℕ)) → IsQuiet given given log log
quiet given log = record { given = refl; log = refl }

pub does_usage : (test : Bool) (left : Option (List ℕ)) (moment : Option ℤ) (given : Option (List Given)) (log : Option (List ℕ)) → test ≡ false → DoesNode test left moment given given log log statuses.Usage
does_usage test left moment given log e = let P : Bool → Type 0 = λ t. DoesNode t left moment given given log log statuses.Usage in subst P (sym e) (refl, quiet given log)

at_one : (test : Bool) (left : Option (List ℕ)) (moment : Option ℤ) (given_old given_new : Option (List Given)) (log_old log_new : Option (List ℕ)) (status : NodeStatus)
    → test ≡ true → DoesNode true left moment given_old given_new log_old log_new status → DoesNode test left moment given_old given_new log_old log_new status
at_one test left moment given_old given_new log_old log_new status e does = let P : Bool → Type 0 = λ t. DoesNode t left moment given_old given_new log_old log_new status in subst P (sym e) does

read_fault : (left : Option (List ℕ)) (moment : Option ℤ) (given : Option (List Given)) (log : Option (List ℕ)) → DoesNode true left moment given given log log statuses.ReadFault
read_fault None moment given log = tt
read_fault (Some bytes) moment given log = quiet given log

pub does_read_fault : (test : Bool) (left : Option (List ℕ)) (moment : Option ℤ) (given : Option (List Given)) (log : Option (List ℕ)) → test ≡ true → DoesNode test left moment given given log log statuses.ReadFault
does_read_fault test left moment given log e = at_one test left moment given given log log statuses.ReadFault e (read_fault left moment given log)

memory : (left : Option (List ℕ)) (moment : Option ℤ) (given : Option (List Given)) (log : Option (List ℕ)) → DoesNode true left moment given given log log statuses.Memory
memory None moment given log = tt
memory (Some bytes) moment given log = inl (quiet given log)

pub does_memory : (test : Bool) (left : Option (List ℕ)) (moment : Option ℤ) (given : Option (List Given)) (log : Option (List ℕ)) → test ≡ true → DoesNode test left moment given given log log statuses.Memory
does_memory test left moment given log e = at_one test left moment given given log log statuses.Memory e (memory left moment given log)

refused : (left : Option (List ℕ)) (bytes : List ℕ) (moment : Option ℤ) (given : Option (List Given)) (log : Option (List ℕ)) (key : ConfigKey) (why : ConfigWhy) → ReadsFile left bytes → read_of bytes ≡ Err (refusal key why) → DoesNode true left moment given given log log (statuses.ConfigRefused key why)
refused None bytes moment given log key why reads says = tt
refused (Some all) bytes moment given log key why reads says =
    let P : Result Settings Refusal → Type 0 = λ r. DoesSettings r moment given given log log (statuses.ConfigRefused key why) in
    subst P (sym (reads ∙ says)) (refl, quiet given log)

pub does_refused : (test : Bool) (left : Option (List ℕ)) (bytes : List ℕ) (moment : Option ℤ) (given : Option (List Given)) (log : Option (List ℕ)) (key : ConfigKey) (why : ConfigWhy)
    → test ≡ true → ReadsFile left bytes → read_of bytes ≡ Err (refusal key why) → DoesNode test left moment given given log log (statuses.ConfigRefused key why)
does_refused test left bytes moment given log key why e reads says = at_one test left moment given given log log (statuses.ConfigRefused key why) e (refused left bytes moment given log key why reads says)

run_file : (status : NodeStatus) (all : List ℕ) (moment : Option ℤ) (given_old given_new : Option (List Given)) (log_old log_new : Option (List ℕ))
    → IsRunStatus status → DoesSettings (read_of all) moment given_old given_new log_old log_new status → DoesFile all moment given_old given_new log_old log_new status
run_file statuses.Done all moment given_old given_new log_old log_new is does = does
run_file statuses.Usage all moment given_old given_new log_old log_new is does = absurd is
run_file (statuses.ConfigRefused key why) all moment given_old given_new log_old log_new is does = absurd is
run_file statuses.ReadFault all moment given_old given_new log_old log_new is does = absurd is
run_file statuses.LogFault all moment given_old given_new log_old log_new is does = does
run_file statuses.Memory all moment given_old given_new log_old log_new is does = inr does
run_file (statuses.ListenFault address) all moment given_old given_new log_old log_new is does = does
run_file statuses.TurnsUsed all moment given_old given_new log_old log_new is does = does

run : (left : Option (List ℕ)) (bytes : List ℕ) (settings : Settings) (moment : Option ℤ) (given_old given_new : Option (List Given)) (log_old log_new : Option (List ℕ)) (status : NodeStatus)
    → ReadsFile left bytes → read_of bytes ≡ Ok settings → IsRunStatus status → RunEndsTold moment settings given_old given_new log_old log_new status → DoesNode true left moment given_old given_new log_old log_new status
run None bytes settings moment given_old given_new log_old log_new status reads says is ends = tt
run (Some all) bytes settings moment given_old given_new log_old log_new status reads says is ends =
    let P : Result Settings Refusal → Type 0 = λ r. DoesSettings r moment given_old given_new log_old log_new status in
    run_file status all moment given_old given_new log_old log_new is (subst P (sym (reads ∙ says)) ends)

pub does_run : (test : Bool) (left : Option (List ℕ)) (bytes : List ℕ) (settings : Settings) (moment : Option ℤ) (given_old given_new : Option (List Given)) (log_old log_new : Option (List ℕ)) (status : NodeStatus)
    → test ≡ true → ReadsFile left bytes → read_of bytes ≡ Ok settings → IsRunStatus status → RunEndsTold moment settings given_old given_new log_old log_new status → DoesNode test left moment given_old given_new log_old log_new status
does_run test left bytes settings moment given_old given_new log_old log_new status e reads says is ends =
    at_one test left moment given_old given_new log_old log_new status e (run left bytes settings moment given_old given_new log_old log_new status reads says is ends)

pub does_run_of : (test : Bool) (left : Option (List ℕ)) (bytes slice : List ℕ) (settings : Settings) (moment : Option ℤ) (given_old given_new : Option (List Given)) (log_old log_new : Option (List ℕ)) (status : NodeStatus)
    → test ≡ true → ReadsFile left bytes → slice ≡ bytes → read_of slice ≡ Ok settings → IsRunStatus status → RunEndsTold moment settings given_old given_new log_old log_new status → DoesNode test left moment given_old given_new log_old log_new status
does_run_of test left bytes slice settings moment given_old given_new log_old log_new status e reads same says is ends =
    let P : List ℕ → Type 0 = λ b. read_of b ≡ Ok settings in
    does_run test left bytes settings moment given_old given_new log_old log_new status e reads (subst P same says) is ends

-- ---- how it ends

fits_one : (status : NodeStatus) → IsRunStatus status → FitsNode true status
fits_one statuses.Done is = tt
fits_one statuses.Usage is = is
fits_one (statuses.ConfigRefused key why) is = tt
fits_one statuses.ReadFault is = tt
fits_one statuses.LogFault is = tt
fits_one statuses.Memory is = tt
fits_one (statuses.ListenFault address) is = tt
fits_one statuses.TurnsUsed is = tt

pub fits_run : (test : Bool) (status : NodeStatus) → test ≡ true → IsRunStatus status → FitsNode test status
fits_run test status e is = let P : Bool → Type 0 = λ t. FitsNode t status in subst P (sym e) (fits_one status is)

no_read_fault : (status : NodeStatus) → IsRunStatus status → status ≡ statuses.ReadFault → ⊥
no_read_fault status is e = subst IsRunStatus e is

pub run_causes : (status : NodeStatus) (file_before file_now ports_before ports_now log_before log_now : ℕ) → IsRunStatus status → file_before ≤ file_now → HasRunCauses status ports_before ports_now log_before log_now → HasCauses status file_before file_now ports_before ports_now log_before log_now
run_causes status file_before file_now ports_before ports_now log_before log_now is file causes = record {
  file = file;
  ports = causes.ports;
  log = causes.log;
  read_fault = λ e. absurd (no_read_fault status is e);
  listen_fault = causes.listen_fault;
  log_fault = causes.log_fault;
}

-- ---- settings that could not be read

by_error : (error : SettingsError) (test : Bool) (left : Option (List ℕ)) (bytes : List ℕ) (moment : Option ℤ) (given : Option (List Given)) (log : Option (List ℕ))
    → test ≡ true → ReadsFile left bytes → (let answer : Result Settings SettingsError = Err error in Reads (read_of bytes) answer) → DoesNode test left moment given given log log (status_of error)
by_error (refusals.Refused key why) test left bytes moment given log e reads says = does_refused test left bytes moment given log key why e reads says
by_error refusals.Memory test left bytes moment given log e reads says = does_memory test left moment given log e

pub does_error : (error : SettingsError) (test : Bool) (left : Option (List ℕ)) (bytes slice : List ℕ) (moment : Option ℤ) (given : Option (List Given)) (log : Option (List ℕ))
    → test ≡ true → ReadsFile left bytes → slice ≡ bytes → (let answer : Result Settings SettingsError = Err error in Reads (read_of slice) answer) → DoesNode test left moment given given log log (status_of error)
does_error error test left bytes slice moment given log e reads same says =
    let P : List ℕ → Type 0 = λ b. (let answer : Result Settings SettingsError = Err error in Reads (read_of b) answer) in
    by_error error test left bytes moment given log e reads (subst P same says)

fits_error_one : (error : SettingsError) → FitsNode true (status_of error)
fits_error_one (refusals.Refused key why) = tt
fits_error_one refusals.Memory = tt

pub fits_error : (error : SettingsError) (test : Bool) → test ≡ true → FitsNode test (status_of error)
fits_error error test e = let P : Bool → Type 0 = λ t. FitsNode t (status_of error) in subst P (sym e) (fits_error_one error)

pub error_causes : (error : SettingsError) (file_before file_now ports log : ℕ) → file_before ≤ file_now → HasCauses (status_of error) file_before file_now ports ports log log
error_causes (refusals.Refused key why) file_before file_now ports log file = record { file = file; ports = omega arith; log = omega arith; read_fault = λ e. cc; listen_fault = λ address e. cc; log_fault = λ e. cc }
error_causes refusals.Memory file_before file_now ports log file = record { file = file; ports = omega arith; log = omega arith; read_fault = λ e. cc; listen_fault = λ address e. cc; log_fault = λ e. cc }
