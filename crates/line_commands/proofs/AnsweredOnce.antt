-- Each input has one answer, and the program answers it, or a fault with its cause, or want of memory.
use Rattle.std.proofs.Common.{◌≡◌, ◌∙◌, ◌≤◌, ◌<◌, ℕ, Bool, true, false, List, Option, Some, None, ap, length, nat_lt, refl, sym, arith, cond}
use Rattle.std.specs.Str.Lines.{lines}
use Rattle.std.proofs.lemmas.Bool.Decides.{nat_tests}
use Rattle.line_check.specs.Log.{against}
use Rattle.law_lanes.specs.Once.{EachLaneScriptHasARun, EachRunTellsOnce}
use Rattle.law_lanes.specs.Parts.{all_points}
use Rattle.law_lanes.specs.Views.{has_lie_on}
use Rattle.line_commands.specs.Answered.{Answers, EachInputHasOneAnswer, IsAnswered, IsScriptAnswer, answered, log_answer, memory_wanted, sink_failed, source_failed, stream_answer}
use Rattle.line_commands.specs.Checking.{Checks}
use Rattle.line_commands.specs.Command.{DoesAs, RunsScript, status_of}
use Rattle.line_status.specs.Status.{HasCauses}
use Rattle.line_commands.specs.Making.{Makes}
use Rattle.stream_text.specs.ReadText.{most_read}
use Rattle.line_commands.specs.Script.{script_of}
use Rattle.stream_text.specs.Stream.{ReadsStream}
use Rattle.line_commands.proofs.Fronts.{script_sets}
use Rattle.line_status.specs.declared.status.InputWhy.{InputWhy}
use Rattle.line_status.specs.declared.status.InputWhy.TheVariants as inputs
use Rattle.line_status.specs.declared.status.Status.{Status}
use Rattle.line_status.specs.declared.status.Status.TheVariants as statuses

-- ---- the program's answer

abbrev Told : (Status → Type 0) → ℕ → ℕ → ℕ → ℕ → Status → Type 0
Told Answer reads reads' writes writes' status = Answers Answer reads reads' writes writes' status

source_fault : {Answer : Status → Type 0} {reads reads' writes writes' : ℕ} → HasCauses statuses.ReadFault reads reads' writes writes' → Told Answer reads reads' writes writes' statuses.ReadFault
source_fault causes = source_failed refl (causes.reads, causes.read_fault refl)

sink_fault : {Answer : Status → Type 0} {reads reads' writes writes' : ℕ} → HasCauses statuses.WriteFault reads reads' writes writes' → Told Answer reads reads' writes writes' statuses.WriteFault
sink_fault causes = sink_failed refl (causes.writes, causes.write_fault refl)

run_answers : (script : List ℕ) (left old new : Option (List ℕ)) (reads reads' writes writes' : ℕ) (status : Status) → RunsScript script left old new status → HasCauses status reads reads' writes writes'
    → Told (IsScriptAnswer script) reads reads' writes writes' status
run_answers script left old new reads reads' writes writes' statuses.Done does causes = answered (record { done = does.0.done; run = does.0.run; ends = does.0.ends })
run_answers script left old new reads reads' writes writes' statuses.Unvouched does causes = answered (record { done = does.0.done; run = does.0.run; ends = does.0.ends })
run_answers script left old new reads reads' writes writes' (statuses.ScriptRefused line why) does causes = answered (record { done = does.0.done; run = does.0.run; ends = does.0.ends })
run_answers script left old new reads reads' writes writes' statuses.ReadFault does causes = source_fault causes
run_answers script left old new reads reads' writes writes' statuses.WriteFault does causes = sink_fault causes
run_answers script left old new reads reads' writes writes' statuses.Memory does causes = memory_wanted refl
run_answers script left old new reads reads' writes writes' statuses.Usage does causes = absurd does
run_answers script left old new reads reads' writes writes' (statuses.Refuted line why) does causes = absurd does

small_stream : (most n : ℕ) → n ≤ most → nat_lt most n ≡ false
small_stream most n small = grind (arith, nat_tests)

large_stream : (most n : ℕ) → most < n → nat_lt most n ≡ true
large_stream most n large = grind (arith, nat_tests)

by_size : (large test : Bool) → test ≡ large → cond test (statuses.ScriptRefused 0 inputs.TooLarge) statuses.Done ≡ cond large (statuses.ScriptRefused 0 inputs.TooLarge) statuses.Done
by_size large test is = ap (λ (b : Bool). cond b (statuses.ScriptRefused 0 inputs.TooLarge) statuses.Done) is

refused_as : (line : ℕ) (why : InputWhy) → line ≡ 0 → why ≡ inputs.TooLarge → statuses.ScriptRefused line why ≡ statuses.ScriptRefused 0 inputs.TooLarge
refused_as line why zeroth large = ap (λ (n : ℕ). statuses.ScriptRefused n why) zeroth ∙ ap (λ (w : InputWhy). statuses.ScriptRefused 0 w) large

read_answers : (stream : List ℕ) (left old new : Option (List ℕ)) (reads reads' writes writes' : ℕ) (status : Status) → ReadsStream stream left old new status → HasCauses status reads reads' writes writes'
    → Told (λ (s : Status). s ≡ stream_answer stream) reads reads' writes writes' status
read_answers stream left old new reads reads' writes writes' statuses.Done does causes = answered (sym (by_size false (nat_lt most_read (length stream)) (small_stream most_read (length stream) does.0)))
read_answers stream left old new reads reads' writes writes' (statuses.ScriptRefused line why) does causes =
    answered (refused_as line why does.0 does.1 ∙ sym (by_size true (nat_lt most_read (length stream)) (large_stream most_read (length stream) does.2)))
read_answers stream left old new reads reads' writes writes' statuses.ReadFault does causes = source_fault causes
read_answers stream left old new reads reads' writes writes' statuses.WriteFault does causes = sink_fault causes
read_answers stream left old new reads reads' writes writes' statuses.Memory does causes = memory_wanted refl
read_answers stream left old new reads reads' writes writes' statuses.Usage does causes = absurd does
read_answers stream left old new reads reads' writes writes' statuses.Unvouched does causes = absurd does
read_answers stream left old new reads reads' writes writes' (statuses.Refuted line why) does causes = absurd does

check_answers : (log : List ℕ) (left old new : Option (List ℕ)) (reads reads' writes writes' : ℕ) (status : Status) → Checks (Some log) left old new status → HasCauses status reads reads' writes writes'
    → Told (λ (s : Status). s ≡ log_answer (against (lines log))) reads reads' writes writes' status
check_answers log left old new reads reads' writes writes' statuses.Done does causes = answered (sym (ap log_answer does.0))
check_answers log left old new reads reads' writes writes' (statuses.Refuted line why) does causes = answered (sym (ap log_answer does.0))
check_answers log left old new reads reads' writes writes' statuses.ReadFault does causes = source_fault causes
check_answers log left old new reads reads' writes writes' statuses.WriteFault does causes = sink_fault causes
check_answers log left old new reads reads' writes writes' statuses.Memory does causes = memory_wanted refl
check_answers log left old new reads reads' writes writes' statuses.Usage does causes = absurd does
check_answers log left old new reads reads' writes writes' statuses.Unvouched does causes = absurd does
check_answers log left old new reads reads' writes writes' (statuses.ScriptRefused line why) does causes = absurd does

make_answers : (number : ℕ) (old new : Option (List ℕ)) (reads reads' writes writes' : ℕ) (status : Status) → Makes number old new status → HasCauses status reads reads' writes writes'
    → Told (λ (s : Status). s ≡ statuses.Done) reads reads' writes writes' status
make_answers number old new reads reads' writes writes' statuses.Done does causes = answered refl
make_answers number old new reads reads' writes writes' statuses.WriteFault does causes = sink_fault causes
make_answers number old new reads reads' writes writes' statuses.Memory does causes = memory_wanted refl
make_answers number old new reads reads' writes writes' _ does causes = absurd does

pub answers_so : (runs reads checks : Bool) (made : Option ℕ) (left left' old new : Option (List ℕ)) (rs rs' ws ws' : ℕ) (status : Status)
    → DoesAs runs reads checks made left left' old new ws ws' status → HasCauses status rs rs' ws ws' → IsAnswered runs reads checks made left rs rs' ws ws' status
answers_so runs reads checks made None left' old new rs rs' ws ws' status does causes = tt
answers_so true reads checks made (Some bytes) left' old new rs rs' ws ws' status does causes = run_answers bytes left' old new rs rs' ws ws' status does causes
answers_so false true checks made (Some bytes) left' old new rs rs' ws ws' status does causes = read_answers bytes left' old new rs rs' ws ws' status does causes
answers_so false false true made (Some bytes) left' old new rs rs' ws ws' status does causes = check_answers bytes left' old new rs rs' ws ws' status does causes
answers_so false false false (Some number) (Some bytes) left' old new rs rs' ws ws' status does causes = make_answers number old new rs rs' ws ws' status does.makes causes
answers_so false false false None (Some bytes) left' old new rs rs' ws ws' status does causes = answered does.usage

-- ---- the one answer

script_answer_once : EachRunTellsOnce → (script : List ℕ) (a b : Status) → IsScriptAnswer script a → IsScriptAnswer script b → a ≡ b
script_answer_once law script a b one other =
    let alike = law (script_of script).lines one.done other.done one.run other.run in
    one.ends ∙ ap (status_of (script_of script).refusal) alike.lied ∙ sym other.ends

script_answer : EachRunTellsOnce → EachLaneScriptHasARun → (script : List ℕ) → (status : Status) × IsScriptAnswer script status × ((other : Status) → IsScriptAnswer script other → other ≡ status)
script_answer law runs script =
    let run = runs (script_of script).lines (script_sets script) in
    let status = status_of (script_of script).refusal (has_lie_on (all_points run.done)) in
    let is : IsScriptAnswer script status = record { done = run.done; run = run.run; ends = refl } in
    (status, is, λ other is_other. script_answer_once law script other status is_other is)

pub one_answer : EachRunTellsOnce → EachLaneScriptHasARun → EachInputHasOneAnswer
one_answer law runs true reads checks made bytes = let one = script_answer law runs bytes in record { status = one.0; is = one.1; only = one.2 }
one_answer law runs false true checks made bytes = record { status = stream_answer bytes; is = refl; only = λ other is. is }
one_answer law runs false false true made bytes = record { status = log_answer (against (lines bytes)); is = refl; only = λ other is. is }
one_answer law runs false false false (Some number) bytes = record { status = statuses.Done; is = refl; only = λ other is. is }
one_answer law runs false false false None bytes = record { status = statuses.Usage; is = refl; only = λ other is. is }
