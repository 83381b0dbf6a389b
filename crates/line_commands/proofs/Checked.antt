-- The end of a check, as the end of a call.
use Rattle.std.proofs.Common.{◌≡◌, ℕ, List, Option, refl, subst, sym}
use Rattle.log_verdict.specs.Verdict as verdicts
use Rattle.log_verdict.specs.declared.checked.Checked.{Checked}
use Rattle.log_verdict.specs.declared.checked.Checked.TheVariants as ends
use Rattle.line_commands.specs.Checking.{Checks, status_by}
use Rattle.line_status.specs.Status.{HasCauses}
use Rattle.line_commands.specs.Command.{IsCheckStatus}
use Rattle.line_status.specs.declared.status.Status.{Status}

checks_end : (left_old left_new old new : Option (List ℕ)) (checked : Checked) → verdicts.Checks left_old left_new old new checked → Checks left_old left_new old new (status_by checked)
checks_end left_old left_new old new ends.Done checks = checks
checks_end left_old left_new old new (ends.Refuted line why) checks = checks
checks_end left_old left_new old new ends.ReadFault checks = checks
checks_end left_old left_new old new ends.WriteFault checks = checks
checks_end left_old left_new old new ends.Memory checks = checks

pub checks_by : (left_old left_new old new : Option (List ℕ)) (checked : Checked) (status : Status) → verdicts.Checks left_old left_new old new checked → status ≡ status_by checked → Checks left_old left_new old new status
checks_by left_old left_new old new checked status checks is =
    let P : Status → Type 0 = λ s. Checks left_old left_new old new s in
    subst P (sym is) (checks_end left_old left_new old new checked checks)

fits_end : (checked : Checked) → IsCheckStatus (status_by checked)
fits_end ends.Done = tt
fits_end (ends.Refuted line why) = tt
fits_end ends.ReadFault = tt
fits_end ends.WriteFault = tt
fits_end ends.Memory = tt

pub fits_by : (checked : Checked) (status : Status) → status ≡ status_by checked → IsCheckStatus status
fits_by checked status is = subst IsCheckStatus (sym is) (fits_end checked)

causes_end : (checked : Checked) (reads reads' writes writes' : ℕ) → verdicts.HasCauses checked reads reads' writes writes' → HasCauses (status_by checked) reads reads' writes writes'
causes_end ends.Done reads reads' writes writes' causes = record { reads = causes.reads; writes = causes.writes; read_fault = λ is. cc; write_fault = λ is. cc }
causes_end (ends.Refuted line why) reads reads' writes writes' causes = record { reads = causes.reads; writes = causes.writes; read_fault = λ is. cc; write_fault = λ is. cc }
causes_end ends.ReadFault reads reads' writes writes' causes = record { reads = causes.reads; writes = causes.writes; read_fault = λ is. causes.read_fault refl; write_fault = λ is. cc }
causes_end ends.WriteFault reads reads' writes writes' causes = record { reads = causes.reads; writes = causes.writes; read_fault = λ is. cc; write_fault = λ is. causes.write_fault refl }
causes_end ends.Memory reads reads' writes writes' causes = record { reads = causes.reads; writes = causes.writes; read_fault = λ is. cc; write_fault = λ is. cc }

pub causes_by : (checked : Checked) (status : Status) (reads reads' writes writes' : ℕ) → verdicts.HasCauses checked reads reads' writes writes' → status ≡ status_by checked → HasCauses status reads reads' writes writes'
causes_by checked status reads reads' writes writes' causes is =
    let P : Status → Type 0 = λ s. HasCauses s reads reads' writes writes' in
    subst P (sym is) (causes_end checked reads reads' writes writes' causes)
