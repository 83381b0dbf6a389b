use Rattle.std.specs.Prelude.{◌+◌, ◌-◌, ◌^◌, ℕ, List, [], ◌∷◌, length, min, nat_eq, if◌then◌else◌}
use Rattle.std.specs.List.{list_any}
use Rattle.line_outside.specs.Faults.{one_more}
use Rattle.line_outside.specs.declared.source.Pull.{Pull}
use Rattle.line_outside.specs.declared.source.Pull.TheVariants as pulls

-- what a source over memory is: the bytes that are left, the numbers of the calls that fail, how
-- many calls there were, and how many failed
pub record Tape : Type 0 where
  pub left : List ℕ
  pub failing : List ℕ
  pub calls : ℕ
  pub faults : ℕ

-- what a pull that doesn't fail answers: as much as fits the room, or the end
abbrev pub pulled : List ℕ → ℕ → Pull
pulled [] room = pulls.End
pulled (byte ∷ left) room = pulls.Bytes (min (length (byte ∷ left)) room)

-- what the next pull answers: a failure exactly where the call's number is listed
abbrev pub pulls_at : Tape → ℕ → Pull
pulls_at tape room =
    if list_any (λ number.
    nat_eq number (min (tape.calls + 1) (2 ^ 64 - 1))) tape.failing then pulls.Failed else pulled
    tape.left room

-- how many calls failed, after a pull that answers so: one more exactly where it failed
abbrev pub faults_after : ℕ → Pull → ℕ
faults_after before pulls.Failed = one_more before
faults_after before (pulls.Bytes n) = before
faults_after before pulls.End = before
