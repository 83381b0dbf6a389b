-- What is written of a merged log, and how its check ends.
use Rattle.std.specs.Prelude.{◌≡◌, ◌≤◌, ◌++◌, ℕ, List, [], Option, None, Some, codes, length}
use Rattle.std.specs.Fmt.{decimal}
use Rattle.std.specs.Str.Lines.{lines}
use Rattle.line_outside.specs.Faults.{Rose}
use Rattle.line_outside.specs.Sink.{Grows, GrowsInPart}
use Rattle.line_check.specs.declared.why.CheckWhy.{CheckWhy}
use Rattle.line_check.specs.Log.{Against, IsRight, against, boards_in, ledger_of}
use Rattle.line_check.specs.Texts.{why_text}
use Rattle.log_verdict.specs.declared.checked.Checked.{Checked}
use Rattle.log_verdict.specs.declared.checked.Checked.TheVariants.{Done, Refuted, ReadFault, WriteFault, Memory}

abbrev pub yes_text : ℕ → ℕ → List ℕ
yes_text count boards =
    codes "yes lines=" ++ decimal count ++ codes " boards=" ++ decimal boards ++ codes "\n"

abbrev pub no_text : ℕ → CheckWhy → List ℕ
no_text line why = codes "no " ++ decimal line ++ codes " " ++ why_text why ++ codes "\n"

abbrev pub text_of : Option Against → List (List ℕ) → List ℕ
text_of None log = yes_text (length log) (boards_in (ledger_of log).marks)
text_of (Some reason) log = no_text reason.line reason.why

-- THE VERDICT on a log's bytes: its lines end with a line feed, a carriage return before it is
-- dropped, and the last line may lack its end
abbrev pub verdict_of : List ℕ → List ℕ
verdict_of bytes = text_of (against (lines bytes)) (lines bytes)

-- WHAT A CHECK DID with a log's bytes: what is left of them, and how the sink's contents grew
abbrev pub ChecksLog : List ℕ → Option (List ℕ) → Option (List ℕ) → Option (List ℕ) → Checked
    → Type 0
ChecksLog bytes left old new Done =
    (against (lines bytes) ≡ None) × IsRight (lines bytes) × Grows old new (verdict_of bytes)
    × (left ≡ Some [])
ChecksLog bytes left old new (Refuted line why) =
    (against (lines bytes) ≡ Some (record { line = line; why = why }))
    × Grows old new (verdict_of bytes)
ChecksLog bytes left old new ReadFault = GrowsInPart old new (verdict_of bytes)
ChecksLog bytes left old new WriteFault = GrowsInPart old new (verdict_of bytes)
ChecksLog bytes left old new Memory = GrowsInPart old new (verdict_of bytes)

-- the same, where the source tells its bytes
abbrev pub Checks : Option (List ℕ) → Option (List ℕ) → Option (List ℕ) → Option (List ℕ) → Checked
    → Type 0
Checks None left old new result = Unit {0}
Checks (Some bytes) left old new result = ChecksLog bytes left old new result

-- no count of faults falls, and a fault comes only where the count of that object rose
pub record HasCauses (result : Checked)
    (reads_before reads_now writes_before writes_now : ℕ) : Type 0 where
  pub reads : reads_before ≤ reads_now
  pub writes : writes_before ≤ writes_now
  pub read_fault : result ≡ ReadFault → Rose reads_before reads_now
  pub write_fault : result ≡ WriteFault → Rose writes_before writes_now
