-- A fault has its cause where the count rose in the last call, and fell in none before.
use Rattle.std.proofs.Common.{◌≤◌, ℕ, List, Option, arith}
use Rattle.line_outside.proofs.Growing.{rose_after}
use Rattle.line_outside.specs.Faults.{Rose}
use Rattle.line_outside.specs.Sink.{PushesAll}
use Rattle.line_outside.specs.declared.pushing.Pushed.{Pushed}
use Rattle.line_outside.specs.declared.pushing.Pushed.TheVariants as pushes
use Rattle.line_status.specs.Status.{HasCauses}
use Rattle.line_status.specs.declared.status.Status.TheVariants as statuses

pub causes-write_fault : (reads reads' writes before after : ℕ) → reads ≤ reads' → writes ≤ before → before ≤ after → Rose before after → HasCauses statuses.WriteFault reads reads' writes after
causes-write_fault reads reads' writes before after r w more rose = record { reads = r; writes = omega arith; read_fault = λ is. cc; write_fault = λ is. rose_after writes before after w more rose }

pub causes-read_fault : (pushed : Pushed) (now now' : Option (List ℕ)) (text : List ℕ) (reads reads' reads'' writes before after : ℕ) → reads ≤ reads' → reads' ≤ reads'' → Rose reads' reads'' → writes ≤ before → PushesAll now now' before after text pushed → HasCauses statuses.ReadFault reads reads'' writes after
causes-read_fault pushes.Whole now now' text reads reads' reads'' writes before after r r' rose w pushed = record { reads = omega arith; writes = omega (arith, w, pushed.0); read_fault = λ is. rose_after reads reads' reads'' r r' rose; write_fault = λ is. cc }
causes-read_fault pushes.Failed now now' text reads reads' reads'' writes before after r r' rose w pushed = record { reads = omega arith; writes = omega (arith, w, pushed.0); read_fault = λ is. rose_after reads reads' reads'' r r' rose; write_fault = λ is. cc }
