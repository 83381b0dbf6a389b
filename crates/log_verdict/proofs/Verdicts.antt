-- A verdict that was written is the one on the log.
use Rattle.std.proofs.Common.{◌≡◌, ◌≤◌, ℕ, List, [], length, Option, None, Some, Ok, Err, refl, sym, ap, subst, ◌∙◌}
use Rattle.std.specs.Str.Lines.{lines}
use Rattle.line_outside.specs.Sink.{Grows, GrowsInPart}
use Rattle.line_outside.proofs.Growing.{grows_none}
use Rattle.line_check.specs.declared.why.CheckWhy.{CheckWhy}
use Rattle.line_check.specs.declared.why.Counts.{Counts}
use Rattle.line_check.specs.Log.{Against, against}
use Rattle.line_check.specs.Checking.{IsCounted}
use Rattle.log_verdict.specs.declared.checked.Checked.{Checked}
use Rattle.log_verdict.specs.declared.checked.Checked.TheVariants.{Done, Refuted, ReadFault, WriteFault, Memory}
use Rattle.log_verdict.specs.declared.reading.LogError.TheVariants as errors
use Rattle.log_verdict.specs.Verdict.{Checks, HasCauses, no_text, text_of, verdict_of, yes_text}
use Rattle.log_verdict.specs.Written.{WritesNo, WritesYes}
use Rattle.log_verdict.specs.Reading.{Ends}

-- nothing was written yet
pub part-none : (old new : Option (List ℕ)) (text : List ℕ) → new ≡ old → GrowsInPart old new text
part-none old new text same =
    let P : Option (List ℕ) → Type 0 = λ (n : Option (List ℕ)). Grows old n [] in
    record { front = []; back = text; parts = refl; grows = subst P (sym same) (grows_none old) }

yes_verdict : (log : List ℕ) (counts : Counts) → IsCounted (lines log) counts → yes_text counts.lines counts.boards ≡ verdict_of log
yes_verdict log counts counted =
    ap (λ (n : ℕ). yes_text n counts.boards) counted.lines_counted
    ∙ ap (yes_text (length (lines log))) counted.boards_counted
    ∙ ap (λ (o : Option Against). text_of o (lines log)) (sym counted.nothing)

pub checks_yes : (first left old new : Option (List ℕ)) (before after : ℕ) (counts : Counts) (result : Checked) → Ends first left (Ok counts) → WritesYes old new before after (yes_text counts.lines counts.boards) result
    → Checks first left old new result
checks_yes None left old new before after counts result ends writes = tt
checks_yes (Some log) left old new before after counts Done ends writes =
    let P : List ℕ → Type 0 = λ (t : List ℕ). Grows old new t in
    (ends.0.nothing, ends.0.right, subst P (yes_verdict log counts ends.0) writes.1, ends.1)
checks_yes (Some log) left old new before after counts (Refuted line why) ends writes = absurd writes
checks_yes (Some log) left old new before after counts ReadFault ends writes = absurd writes
checks_yes (Some log) left old new before after counts WriteFault ends writes =
    let P : List ℕ → Type 0 = λ (t : List ℕ). GrowsInPart old new t in
    subst P (yes_verdict log counts ends.0) writes.2
checks_yes (Some log) left old new before after counts Memory ends writes = part-none old new (verdict_of log) writes.1

no_verdict : (log : List ℕ) (line : ℕ) (why : CheckWhy) → against (lines log) ≡ Some (record { line = line; why = why }) → no_text line why ≡ verdict_of log
no_verdict log line why is = ap (λ (o : Option Against). text_of o (lines log)) (sym is)

pub checks_no : (first left old new : Option (List ℕ)) (before after line : ℕ) (why : CheckWhy) (result : Checked) → Ends first left (Err (errors.No line why)) → WritesNo line why old new before after (no_text line why) result
    → Checks first left old new result
checks_no None left old new before after line why result ends writes = tt
checks_no (Some log) left old new before after line why Done ends writes = absurd writes
checks_no (Some log) left old new before after line why (Refuted at reason) ends writes =
    let P : List ℕ → Type 0 = λ (t : List ℕ). Grows old new t in
    (ends ∙ ap (λ (n : ℕ). Some (record { line = n; why = why })) (sym writes.0) ∙ ap (λ (w : CheckWhy). Some (record { line = at; why = w })) (sym writes.1), subst P (no_verdict log line why ends) writes.3)
checks_no (Some log) left old new before after line why ReadFault ends writes = absurd writes
checks_no (Some log) left old new before after line why WriteFault ends writes =
    let P : List ℕ → Type 0 = λ (t : List ℕ). GrowsInPart old new t in
    subst P (no_verdict log line why ends) writes.2
checks_no (Some log) left old new before after line why Memory ends writes = part-none old new (verdict_of log) writes.1

pub checks_fault : (first left old : Option (List ℕ)) → Checks first left old old ReadFault
checks_fault None left old = tt
checks_fault (Some log) left old = part-none old old (verdict_of log) refl

pub checks_memory : (first left old : Option (List ℕ)) → Checks first left old old Memory
checks_memory None left old = tt
checks_memory (Some log) left old = part-none old old (verdict_of log) refl

pub causes_yes : (old new : Option (List ℕ)) (text : List ℕ) (result : Checked) (reads reads' before after : ℕ) → reads ≤ reads' → WritesYes old new before after text result → HasCauses result reads reads' before after
causes_yes old new text Done reads reads' before after r writes = record { reads = r; writes = writes.0; read_fault = λ is. cc; write_fault = λ is. cc }
causes_yes old new text (Refuted line why) reads reads' before after r writes = absurd writes
causes_yes old new text ReadFault reads reads' before after r writes = absurd writes
causes_yes old new text WriteFault reads reads' before after r writes = record { reads = r; writes = writes.0; read_fault = λ is. cc; write_fault = λ is. writes.1 }
causes_yes old new text Memory reads reads' before after r writes = record { reads = r; writes = writes.0; read_fault = λ is. cc; write_fault = λ is. cc }

pub causes_no : (line : ℕ) (why : CheckWhy) (old new : Option (List ℕ)) (text : List ℕ) (result : Checked) (reads reads' before after : ℕ) → reads ≤ reads' → WritesNo line why old new before after text result
    → HasCauses result reads reads' before after
causes_no line why old new text Done reads reads' before after r writes = absurd writes
causes_no line why old new text (Refuted at reason) reads reads' before after r writes = record { reads = r; writes = writes.2; read_fault = λ is. cc; write_fault = λ is. cc }
causes_no line why old new text ReadFault reads reads' before after r writes = absurd writes
causes_no line why old new text WriteFault reads reads' before after r writes = record { reads = r; writes = writes.0; read_fault = λ is. cc; write_fault = λ is. writes.1 }
causes_no line why old new text Memory reads reads' before after r writes = record { reads = r; writes = writes.0; read_fault = λ is. cc; write_fault = λ is. cc }
