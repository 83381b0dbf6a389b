-- A log that nothing is against isn't refuted.
use Rattle.std.proofs.Common.{◌≡◌, ◌∙◌, sym, ℕ, Bool, true, false, List, Option, None, Some}
use Rattle.std.proofs.lemmas.Option.{none-some}
use Rattle.std.specs.Str.Lines.{lines}
use Rattle.line_check.specs.Log.{against}
use Rattle.line_check.specs.declared.why.CheckWhy.{CheckWhy}
use Rattle.law_running_line.specs.Reading.{Behind, Freely, Reading, Strictly}
use Rattle.law_running_logs.specs.Right.{IsOfRunning, IsWithin, LogIsRight}
use Rattle.line_commands.specs.Command.{DoesAs}
use Rattle.line_status.specs.declared.status.Status.{Status}
use Rattle.line_status.specs.declared.status.Status.TheVariants as statuses
use Rattle.line_cli.specs.Right.{IsPromised, SparesRight}

-- a log alone is refuted, and only for a reason that is against it
refuted_for : (runs reads checks : Bool) (made : Option ℕ) (bytes : List ℕ) (left old new : Option (List ℕ)) (before now line : ℕ) (why : CheckWhy)
    → DoesAs runs reads checks made (Some bytes) left old new before now (statuses.Refuted line why)
    → against (lines bytes) ≡ Some (record { line = line; why = why })
refuted_for true reads checks made bytes left old new before now line why does = absurd does
refuted_for false true checks made bytes left old new before now line why does = absurd does
refuted_for false false true made bytes left old new before now line why does = does.0
refuted_for false false false (Some number) bytes left old new before now line why does = absurd does.makes
refuted_for false false false None bytes left old new before now line why does = let usage = does.usage in cc

no_reason : {reading : Reading} → LogIsRight reading → (bytes : List ℕ) (line : ℕ) (why : CheckWhy) → against (lines bytes) ≡ Some (record { line = line; why = why }) → IsOfRunning reading (lines bytes) → IsWithin (lines bytes) → ⊥
no_reason right bytes line why reason of within = none-some _ (sym (right (lines bytes) of within).0 ∙ reason)

each_right : LogIsRight Strictly → LogIsRight Behind → (reading : Reading) → IsPromised reading → LogIsRight reading
each_right first behind Strictly is = first
each_right first behind Behind is = behind
each_right first behind Freely is = absurd is

pub spares : LogIsRight Strictly → LogIsRight Behind → (runs reads checks : Bool) (made : Option ℕ) (all left old new : Option (List ℕ)) (before now : ℕ) (status : Status)
    → DoesAs runs reads checks made all left old new before now status → SparesRight all status
spares first behind runs reads checks made None left old new before now status does = tt
spares first behind runs reads checks made (Some bytes) left old new before now (statuses.Refuted line why) does =
    λ reading is. no_reason (each_right first behind reading is) bytes line why (refuted_for runs reads checks made bytes left old new before now line why does)
spares first behind runs reads checks made (Some bytes) left old new before now statuses.Done does = λ reading is of within. tt
spares first behind runs reads checks made (Some bytes) left old new before now statuses.Usage does = λ reading is of within. tt
spares first behind runs reads checks made (Some bytes) left old new before now (statuses.ScriptRefused line why) does = λ reading is of within. tt
spares first behind runs reads checks made (Some bytes) left old new before now statuses.ReadFault does = λ reading is of within. tt
spares first behind runs reads checks made (Some bytes) left old new before now statuses.WriteFault does = λ reading is of within. tt
spares first behind runs reads checks made (Some bytes) left old new before now statuses.Memory does = λ reading is of within. tt
spares first behind runs reads checks made (Some bytes) left old new before now statuses.Unvouched does = λ reading is of within. tt
