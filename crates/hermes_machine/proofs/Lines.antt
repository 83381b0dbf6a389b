-- The answer to a line, from what is said of it before it is a number.
use Rattle.std.proofs.Common.{◌≡◌, ℤ, pos, neg_ℤ, ℕ, List, true, false, Result, Ok, Err, refl, ap}
use Rattle.std.proofs.lemmas.Result.{IfOk-weaker}
use Rattle.std.specs.Prelude.{IfErr, IfOk, IsErr, OnOk}
use Rattle.line_script.specs.declared.line.LineWhy.{LineWhy}
use Rattle.line_script.specs.declared.line.LineWhy.TheVariants as whys
use Rattle.node_core.specs.May.{may_do}
use Rattle.node_core.specs.declared.input.No.{No}
use Rattle.node_core.specs.declared.input.No.TheVariants as nos
use Rattle.node_panel.specs.Inputs.{input_of}
use Rattle.machine_port.specs.Port.{PortState, made_after, may_take}
use Rattle.machine_text.specs.Lines.{DoesLine, asked_by}
use Rattle.machine_text.specs.declared.line.LineNotDone.{LineNotDone}
use Rattle.machine_text.specs.declared.line.LineNotDone.TheVariants as undone
use Rattle.machine_text.specs.declared.line.NotAsked.{NotAsked}
use Rattle.machine_text.specs.declared.line.NotAsked.TheVariants as unasked
use Rattle.hermes_machine.specs.Calls.{AnswersAsked}
use Rattle.hermes_machine.specs.Numbers.{answer_of_line, number_of_no, number_of_unasked, number_of_why}

-- no reason has the number of done, or of wanting memory
no_done : (why : No) → number_of_no why ≡ pos 0 → ⊥
no_done nos.IntakeOpen e = cc
no_done _ e = cc

no_memory : (why : No) → number_of_no why ≡ neg_ℤ (pos 2) → ⊥
no_memory nos.IntakeOpen e = cc
no_memory _ e = cc

why_done : (why : LineWhy) → number_of_why why ≡ pos 0 → ⊥
why_done whys.LongLine e = cc
why_done _ e = cc

why_memory : (why : LineWhy) → number_of_why why ≡ neg_ℤ (pos 2) → ⊥
why_memory whys.LongLine e = cc
why_memory _ e = cc

unasked_done : (why : NotAsked) → number_of_unasked why ≡ pos 0 → ⊥
unasked_done (unasked.Refused why) e = why_done why e
unasked_done unasked.Blank e = cc
unasked_done unasked.Outside e = cc

unasked_memory : (why : NotAsked) → number_of_unasked why ≡ neg_ℤ (pos 2) → ⊥
unasked_memory (unasked.Refused why) e = why_memory why e
unasked_memory unasked.Blank e = cc
unasked_memory unasked.Outside e = cc

never : {A : Type 0} → ⊥ → A
never none = absurd none

is_done : (P : Type 0) (d : Result (Unit {0}) LineNotDone) → OnOk d P → answer_of_line d ≡ pos 0 → P
is_done P (Ok done) p e = p
is_done P (Err (undone.NotAsked why)) p e = never (unasked_done why e)
is_done P (Err (undone.No why)) p e = never (no_done why e)
is_done P (Err undone.Memory) p e = cc

is_memory : (d : Result (Unit {0}) LineNotDone) → answer_of_line d ≡ neg_ℤ (pos 2) → d ≡ Err undone.Memory
is_memory (Ok done) e = cc
is_memory (Err (undone.NotAsked why)) e = never (unasked_memory why e)
is_memory (Err (undone.No why)) e = never (no_memory why e)
is_memory (Err undone.Memory) e = refl

is_error : (d : Result (Unit {0}) LineNotDone) → IsErr d → answer_of_line d ≡ pos 0 → ⊥
is_error (Ok done) is e = cc
is_error (Err (undone.NotAsked why)) is e = unasked_done why e
is_error (Err (undone.No why)) is e = no_done why e
is_error (Err undone.Memory) is e = cc

-- where it isn't done, memory was wanting
want : (d : Result (Unit {0}) LineNotDone) → IfErr d (λ why. why ≡ undone.Memory) → ¬ (answer_of_line d ≡ pos 0) → answer_of_line d ≡ neg_ℤ (pos 2)
want (Ok done) is not_done = never (not_done refl)
want (Err why) is not_done = ap (λ w. answer_of_line (Err w)) is

stay : (P : Type 0) (d : Result (Unit {0}) LineNotDone) → IfErr d (λ why. ¬ (why ≡ undone.Memory) → P)
    → ¬ (answer_of_line d ≡ pos 0) → ¬ (answer_of_line d ≡ neg_ℤ (pos 2)) → P
stay P (Ok done) p not_done not_memory = never (not_done refl)
stay P (Err why) p not_done not_memory = p (λ e. not_memory (ap (λ w. answer_of_line (Err w)) e))

-- an answer that is known unless memory is wanting, and its number
told : (d wanted : Result (Unit {0}) LineNotDone) → (¬ (d ≡ Err undone.Memory) → d ≡ wanted)
    → ¬ (answer_of_line d ≡ neg_ℤ (pos 2)) → answer_of_line d ≡ answer_of_line wanted
told d wanted is not_memory = ap answer_of_line (is (λ e. not_memory (ap answer_of_line e)))

under_err : {A E : Type 0} (r : Result A E) (P Q : E → Type 0) → ((e : E) → P e → Q e) → IfErr r P → IfErr r Q
under_err (Ok a) P Q f p = tt
under_err (Err e) P Q f p = f e p

pub line_answers : (bytes : List ℕ) (now : ℤ) (s t : PortState) (d : Result (Unit {0}) LineNotDone)
    → IfErr (asked_by bytes) (λ why. ¬ (d ≡ Err undone.Memory) → d ≡ Err (undone.NotAsked why))
    → IfOk (asked_by bytes) (λ line. s.spent ≡ false → IfErr (may_take s (input_of line))
    (λ why. ¬ (d ≡ Err undone.Memory) → d ≡ Err (undone.No why)))
    → IfOk (asked_by bytes) (λ line. may_take s (input_of line) ≡ may_do → IfErr d (λ why. why ≡ undone.Memory))
    → IfErr d (λ why. ¬ (why ≡ undone.Memory) → t ≡ s)
    → (d ≡ Err undone.Memory → t.spent ≡ false → t ≡ s)
    → (s.spent ≡ true → IsErr d)
    → IfOk (asked_by bytes) (λ line. s.spent ≡ false → t.spent ≡ true → t.made ≡ made_after (input_of line) s.made)
    → (s.spent ≡ true → t ≡ s)
    → OnOk d (DoesLine bytes now s t)
    → AnswersAsked bytes now s t (answer_of_line d)
line_answers bytes now s t d not_asked reason memory stays lost again counted still does = record {
  not_asked = under_err (asked_by bytes) (λ why. ¬ (d ≡ Err undone.Memory) → d ≡ Err (undone.NotAsked why))
      (λ why. ¬ (answer_of_line d ≡ neg_ℤ (pos 2)) → answer_of_line d ≡ number_of_unasked why)
      (λ why is. told d (Err (undone.NotAsked why)) is) not_asked;
  no = IfOk-weaker (asked_by bytes)
      (λ line. s.spent ≡ false → IfErr (may_take s (input_of line)) (λ why. ¬ (d ≡ Err undone.Memory) → d ≡ Err (undone.No why)))
      (λ line. s.spent ≡ false → IfErr (may_take s (input_of line)) (λ why. ¬ (answer_of_line d ≡ neg_ℤ (pos 2)) → answer_of_line d ≡ number_of_no why))
      (λ line is unspent. under_err (may_take s (input_of line)) (λ why. ¬ (d ≡ Err undone.Memory) → d ≡ Err (undone.No why))
      (λ why. ¬ (answer_of_line d ≡ neg_ℤ (pos 2)) → answer_of_line d ≡ number_of_no why)
      (λ why it. told d (Err (undone.No why)) it) (is unspent)) reason;
  memory = IfOk-weaker (asked_by bytes)
      (λ line. may_take s (input_of line) ≡ may_do → IfErr d (λ why. why ≡ undone.Memory))
      (λ line. may_take s (input_of line) ≡ may_do → ¬ (answer_of_line d ≡ pos 0) → answer_of_line d ≡ neg_ℤ (pos 2))
      (λ line is may. want d (is may)) memory;
  does = is_done (DoesLine bytes now s t) d does;
  stays = stay (t ≡ s) d stays;
  lost = λ e. lost (is_memory d e);
  again = λ spent. is_error d (again spent);
  counted = counted;
  still = still;
}
