-- The answer to a call over a supervisor's connection, from what is said of it before it is a number.
use Rattle.std.proofs.Common.{◌≡◌, ℤ, pos, neg_ℤ, true, Result, Ok, Err, refl}
use Rattle.std.specs.Prelude.{IsErr, OnErr, OnOk}
use Rattle.line_base.specs.declared.memory.Memory.{Memory}
use Rattle.machine_port.specs.Port.{PortState}
use Rattle.machine_port.specs.Supervisor.{refused_second}
use Rattle.hermes_machine.specs.Supervised.{IsDoneOrWanting, IsRefusedOrWanting, answer_of_done}

is_not : (done : Unit {0}) → IsErr {T = Unit {0}} {E = Memory} (Ok done) → ⊥
is_not done is = cc

pub done_answers : (d : Result (Unit {0}) Memory) (Done : Type 0) (s t : PortState) → OnOk d Done → OnErr d (t.spent ≡ true)
    → (s.spent ≡ true → IsErr d) → t.made ≡ s.made → (s.spent ≡ true → t ≡ s) → IsDoneOrWanting Done s t (answer_of_done d)
done_answers (Ok done) Done s t does lost again counted still = record {
  done = λ e. does;
  wanting = λ not_done. absurd (not_done refl);
  lost = λ e. cc;
  again = λ spent e. is_not done (again spent);
  counted = counted;
  still = still;
}
done_answers (Err memory) Done s t does lost again counted still = record {
  done = λ e. cc;
  wanting = λ not_done. refl;
  lost = λ e. lost;
  again = λ spent e. cc;
  counted = counted;
  still = still;
}

pub second_answers : (d : Result (Unit {0}) Memory) (now : ℤ) (s t : PortState) → OnErr d (t ≡ s) → OnOk d (t ≡ refused_second now s) → IsRefusedOrWanting now s t (answer_of_done d)
second_answers (Ok done) now s t stays refused = record { done = λ e. refused; wanting = λ not_done. absurd (not_done refl); stays = λ not_done. absurd (not_done refl) }
second_answers (Err memory) now s t stays refused = record { done = λ e. cc; wanting = λ not_done. refl; stays = λ not_done. stays }
