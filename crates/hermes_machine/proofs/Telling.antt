-- The answer to a step, from what is said of the meaning that was told.
use Rattle.std.proofs.Common.{◌≡◌, ◌∙◌, ℤ, pos, neg_ℤ, List, ℕ, Bool, true, false, Option, Some, sym, ap, subst}
use Rattle.std.proofs.lemmas.Bool.{false≢true}
use Rattle.std.specs.Prelude.{IfErr, IfSome, is_some}
use Rattle.std.specs.Borrow.{Bor}
use Rattle.node_core.specs.May.{may_do}
use Rattle.machine_port.specs.Port.{PortState}
use Rattle.hermes_machine.specs.Calls.{AnswersStep}
use Rattle.hermes_machine.specs.Meanings.{HasText, Happens, happening_of, made_by, may_happen, told_of, wants_text}
use Rattle.hermes_machine.specs.Numbers.{number_of_no}
use Rattle.hermes_machine.specs.declared.input.HermesInput.{HermesInput}
use Rattle.hermes_machine.specs.declared.meaning.Meaning.{Meaning}

pub tell_answers : (i : HermesInput) (bytes : Bor (List ℕ)) (now moment : ℤ) (s t : PortState) (meaning : Meaning) (answer : ℤ)
    → told_of i bytes.now now ≡ Some meaning → moment ≡ now
    → (¬ (HasText (wants_text meaning) bytes.now) → answer ≡ neg_ℤ (pos 4))
    → (s.spent ≡ false → HasText (wants_text meaning) bytes.now
    → IfErr (may_happen s (happening_of meaning bytes)) (λ why. ¬ (answer ≡ neg_ℤ (pos 2)) → answer ≡ number_of_no why))
    → (HasText (wants_text meaning) bytes.now → may_happen s (happening_of meaning bytes) ≡ may_do
    → ¬ (answer ≡ pos 0) → answer ≡ neg_ℤ (pos 2))
    → (answer ≡ pos 0 → HasText (wants_text meaning) bytes.now)
    → (answer ≡ pos 0 → Happens (happening_of meaning bytes) moment s t)
    → (¬ (answer ≡ pos 0) → ¬ (answer ≡ neg_ℤ (pos 2)) → t ≡ s)
    → (answer ≡ neg_ℤ (pos 2) → t.spent ≡ false → t ≡ s) → (s.spent ≡ true → ¬ (answer ≡ pos 0))
    → (s.spent ≡ false → t.spent ≡ true → t.made ≡ made_by (happening_of meaning bytes) s.made) → (s.spent ≡ true → t ≡ s)
    → AnswersStep i bytes now s t answer
tell_answers i bytes now moment s t meaning answer told is_now bad_text reason memory text happens stays lost again counted still = record {
  bad_input = λ none. absurd (false≢true (sym none ∙ ap is_some told));
  bad_text = subst (λ (o : Option Meaning). IfSome o (λ m. ¬ (HasText (wants_text m) bytes.now) → answer ≡ neg_ℤ (pos 4))) (sym told) bad_text;
  no = subst (λ (o : Option Meaning). IfSome o (λ m. s.spent ≡ false → HasText (wants_text m) bytes.now
      → IfErr (may_happen s (happening_of m bytes)) (λ why. ¬ (answer ≡ neg_ℤ (pos 2)) → answer ≡ number_of_no why))) (sym told) reason;
  memory = subst (λ (o : Option Meaning). IfSome o (λ m. HasText (wants_text m) bytes.now → may_happen s (happening_of m bytes) ≡ may_do
      → ¬ (answer ≡ pos 0) → answer ≡ neg_ℤ (pos 2))) (sym told) memory;
  told = λ done. record { meaning = meaning; told = told; text = text done; happens = subst (λ (n : ℤ). Happens (happening_of meaning bytes) n s t) is_now (happens done) };
  stays = stays;
  lost = lost;
  again = again;
  counted = subst (λ (o : Option Meaning). IfSome o (λ m. s.spent ≡ false → t.spent ≡ true → t.made ≡ made_by (happening_of m bytes) s.made)) (sym told) counted;
  still = still;
}
