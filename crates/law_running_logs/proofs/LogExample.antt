-- The log of two machines that begin, computed.
use Rattle.std.proofs.Common.{arith, refl}
use Rattle.law_running_line.specs.Begins.{new_pair}
use Rattle.law_running_line.proofs.Begins.{begins, taken}
use Rattle.law_running_logs.proofs.LedgerExample.{pair_runs}
use Rattle.law_running_logs.specs.Example.{HasALog}
use Rattle.law_running_logs.specs.Merged.{CanBeNamed, beside, no_lines, no_steps, step, told}

first_named : CanBeNamed 1 1 1
first_named = record { least = omega arith; most = omega arith; short = omega arith; early = omega arith }

later_named : CanBeNamed 1 1 2
later_named = record { least = omega arith; most = omega arith; short = omega arith; early = omega arith }

second_named : CanBeNamed 2 2 1
second_named = record { least = omega arith; most = omega arith; short = omega arith; early = omega arith }

pub has_a_log : HasALog
has_a_log = record {
  begins = new_pair;
  ends = taken;
  acts = pair_runs.told;
  new = begins.new;
  differ = begins.differ;
  run = pair_runs.run;
  is =
      step 1 (omega arith) (told first_named (omega arith) no_lines)
      (step 1 (omega arith) no_lines
      (beside 1 1 2 _ (omega arith) later_named refl
      (step 1 (omega arith) (told second_named tt (told second_named refl no_lines))
      (step 2 (omega arith) no_lines no_steps refl) refl)) refl) refl;
}
