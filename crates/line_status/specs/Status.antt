-- HOW A CALL OF THE PROGRAM `line` ENDS.
use Rattle.std.specs.Prelude.{◌≡◌, ◌≤◌, ℕ}
use Rattle.line_outside.specs.Faults.{Rose}
use Rattle.line_status.specs.declared.status.Status.{Status}
use Rattle.line_status.specs.declared.status.Status.TheVariants as statuses

-- the number with which the program ends
abbrev pub exit_number : Status → ℕ
exit_number statuses.Done = 0
exit_number statuses.Usage = 2
exit_number (statuses.ScriptRefused line why) = 3
exit_number statuses.ReadFault = 4
exit_number statuses.WriteFault = 5
exit_number statuses.Memory = 6
exit_number statuses.Unvouched = 7
exit_number (statuses.Refuted line why) = 8

-- no count of faults falls, and a fault comes only where the count of that object rose
pub record HasCauses (status : Status)
    (reads_before reads_now writes_before writes_now : ℕ) : Type 0 where
  pub reads : reads_before ≤ reads_now
  pub writes : writes_before ≤ writes_now
  pub read_fault : status ≡ statuses.ReadFault → Rose reads_before reads_now
  pub write_fault : status ≡ statuses.WriteFault → Rose writes_before writes_now
