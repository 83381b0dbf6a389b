-- How a verdict is written.
use Rattle.std.specs.Prelude.{◌≡◌, ◌≤◌, ℕ, List, Option}
use Rattle.line_outside.specs.Faults.{Rose}
use Rattle.line_outside.specs.Sink.{Grows, GrowsInPart}
use Rattle.line_check.specs.declared.why.CheckWhy.{CheckWhy}
use Rattle.log_verdict.specs.declared.checked.Checked.{Checked}
use Rattle.log_verdict.specs.declared.checked.Checked.TheVariants.{Done, Refuted, ReadFault, WriteFault, Memory}

-- the text was written and the check is done, or the sink failed in it, or memory was wanting
-- before it
abbrev pub WritesYes : Option (List ℕ) → Option (List ℕ) → ℕ → ℕ → List ℕ → Checked → Type 0
WritesYes old new before now text Done = (before ≤ now) × Grows old new text
WritesYes old new before now text (Refuted line why) = ⊥
WritesYes old new before now text ReadFault = ⊥
WritesYes old new before now text WriteFault =
    (before ≤ now) × Rose before now × GrowsInPart old new text
WritesYes old new before now text Memory = (before ≤ now) × (new ≡ old)

-- the same, where a reason is against the log
abbrev pub WritesNo : ℕ → CheckWhy → Option (List ℕ) → Option (List ℕ) → ℕ → ℕ → List ℕ → Checked
    → Type 0
WritesNo line why old new before now text Done = ⊥
WritesNo line why old new before now text (Refuted at reason) =
    (at ≡ line) × (reason ≡ why) × (before ≤ now) × Grows old new text
WritesNo line why old new before now text ReadFault = ⊥
WritesNo line why old new before now text WriteFault =
    (before ≤ now) × Rose before now × GrowsInPart old new text
WritesNo line why old new before now text Memory = (before ≤ now) × (new ≡ old)
