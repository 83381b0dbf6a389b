-- What `check` does with a merged log.
use Rattle.std.specs.Prelude.{ℕ, List, Option}
use Rattle.log_verdict.specs.Verdict as verdicts
use Rattle.log_verdict.specs.declared.checked.Checked.{Checked}
use Rattle.log_verdict.specs.declared.checked.Checked.TheVariants as ends
use Rattle.line_status.specs.declared.status.Status.{Status}
use Rattle.line_status.specs.declared.status.Status.TheVariants as statuses

-- how a check ends, as the end of a call of the program
abbrev pub status_by : Checked → Status
status_by ends.Done = statuses.Done
status_by (ends.Refuted line why) = statuses.Refuted line why
status_by ends.ReadFault = statuses.ReadFault
status_by ends.WriteFault = statuses.WriteFault
status_by ends.Memory = statuses.Memory

-- WHAT `check` DID: what is left in the source, and how the sink's contents grew. It is done only
-- where nothing is against the log, and refuted only by the first reason at the first line where
-- one holds
abbrev pub Checks : Option (List ℕ) → Option (List ℕ) → Option (List ℕ) → Option (List ℕ) → Status
    → Type 0
Checks left_old left_new old new statuses.Done =
    verdicts.Checks left_old left_new old new ends.Done
Checks left_old left_new old new statuses.Usage = ⊥
Checks left_old left_new old new (statuses.ScriptRefused line why) = ⊥
Checks left_old left_new old new statuses.ReadFault =
    verdicts.Checks left_old left_new old new ends.ReadFault
Checks left_old left_new old new statuses.WriteFault =
    verdicts.Checks left_old left_new old new ends.WriteFault
Checks left_old left_new old new statuses.Memory =
    verdicts.Checks left_old left_new old new ends.Memory
Checks left_old left_new old new statuses.Unvouched = ⊥
Checks left_old left_new old new (statuses.Refuted line why) =
    verdicts.Checks left_old left_new old new (ends.Refuted line why)
