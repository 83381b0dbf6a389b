-- A run over a book: its machine makes exactly the steps of its entries.
use Rattle.std.proofs.Common.{◌≡◌, ◌∙◌, sym, subst, ap, refl, ℕ, ℤ, Bool, true, false, not, List, [], ◌∷◌, ◌++◌, Some, append_assoc, append-nil}
use Rattle.line_outside.specs.Given.{Given}
use Rattle.book_entry.specs.declared.entry.Entry.{Entry}
use Rattle.book_entry.specs.Given.{entry_of}
use Rattle.book_entry.specs.Steps.{DoesEntry, Replays}
use Rattle.node_core.specs.Node.{NodeState}
use Rattle.node_core.specs.declared.act.Act.{Act}
use Rattle.node_run.specs.Booked.{EntriesAreTheSteps, IsReplayed, MovesAgain, RunsKept, begins_kept, differ, entries_if, entries_of, goes_on_kept, hears_gone, moves_as_ever}
use Rattle.node_run.specs.Owning.{TellsActs, answer_lines, no_lines, step_lines}
use Rattle.node_run.specs.State.{LastStepValue, RunState, one_more}
use Rattle.node_run.specs.declared.rules.Rules.{Rules}
use Rattle.node_run.proofs.Owns.{Part, Rests, answers, hears_part, move_part, quiet, steps}

-- ---- the entries of a move

no_more : (odd : Bool) → differ odd odd ≡ false
no_more true = refl
no_more false = refl

one_is : (odd : Bool) → differ odd (not odd) ≡ true
one_is true = refl
one_is false = refl

entries_by : LastStepValue → LastStepValue → List Entry
entries_by before after = entries_if (differ before.odd after.odd) after.entry

none_in : (s t : RunState) → Rests s t → entries_of s t ≡ []
unfolding entries_by
none_in s t rests = ap (entries_by s.step) rests.step ∙ ap (λ (made : Bool). entries_if made s.step.entry) (no_more s.step.odd)

one_in : (s t : RunState) (entry : Entry) → t.step ≡ one_more entry s.step → entries_of s t ≡ entry ∷ []
unfolding entries_by
one_in s t entry is = ap (entries_by s.step) is ∙ ap (λ (made : Bool). entries_if made (Some entry)) (one_is s.step.odd)

-- ---- steps one behind another

replays_none : (s t : NodeState) → t ≡ s → Replays s [] t []
replays_none s t same = (sym same, refl)

replays_more : (front back : List Entry) (s t u : NodeState) (acts more : List Act) → Replays s front t acts → Replays t back u more → Replays s (front ++ back) u (acts ++ more)
replays_more [] back s t u acts more one two =
    let P : NodeState → Type 0 = λ n. Replays n back u more in
    let Q : List Act → Type 0 = λ l. Replays s back u (l ++ more) in
    subst Q (sym one.1) (subst P (sym one.0) two)
replays_more (entry ∷ front) back s t u acts more one two = (
  one.0,
  one.1,
  one.2 ++ more,
  one.3,
  replays_more front back one.0 t u one.2 more one.4 two,
  ap (λ l. l ++ more) one.5 ∙ append_assoc one.1 one.2 more,
)

replays_one : (entry : Entry) (s t : NodeState) (acts : List Act) → DoesEntry s entry t acts → Replays s (entry ∷ []) t acts
replays_one entry s t acts does = (t, acts, [], does, (refl, refl), sym (append-nil acts))

-- ---- a move behind a run

replayed_same : (rules : Rules) (s t u : RunState) (log : List ℕ) (entries more : List Entry) → IsReplayed rules s t log entries → Rests t u → more ≡ [] → IsReplayed rules s u log (entries ++ more)
replayed_same rules s t u log entries more replayed rests none =
    let P : List Entry → Type 0 = λ l. Replays s.node l u.node replayed.told in
    let Q : NodeState → Type 0 = λ n. Replays s.node entries n replayed.told in
    record {
      told = replayed.told;
      replays = subst P (sym (ap (λ l. entries ++ l) none ∙ append-nil entries)) (subst Q (sym rests.node) replayed.replays);
      tells = replayed.tells;
    }

with_log : (rules : Rules) (s t : RunState) (log text : List ℕ) (entries : List Entry) → text ≡ log → IsReplayed rules s t log entries → IsReplayed rules s t text entries
with_log rules s t log text entries same replayed = let P : List ℕ → Type 0 = λ l. IsReplayed rules s t l entries in subst P (sym same) replayed

replayed_on : (rules : Rules) (s t u : RunState) (log lines : List ℕ) (entries : List Entry) → IsReplayed rules s t log entries → Part rules t u lines → IsReplayed rules s u (log ++ lines) (entries ++ entries_of t u)
replayed_on rules s t u log lines entries replayed (quiet none rests) =
    with_log rules s u log (log ++ lines) (entries ++ entries_of t u) (ap (λ l. log ++ l) none ∙ append-nil log) (replayed_same rules s t u log entries (entries_of t u) replayed rests (none_in t u rests))
replayed_on rules s t u log lines entries replayed (answers answer rests) =
    let same = replayed_same rules s t u log entries (entries_of t u) replayed rests (none_in t u rests) in
    record { told = same.told; replays = same.replays; tells = answer_lines same.tells answer }
replayed_on rules s t u log lines entries replayed (steps m) =
    let entry = entry_of m.sensed m.input m.moment in
    let P : List Entry → Type 0 = λ l. Replays s.node (entries ++ l) u.node (replayed.told ++ m.told) in
    let Q : List ℕ → Type 0 = λ l. TellsActs rules (log ++ l) (replayed.told ++ m.told) in
    let does : DoesEntry t.node entry u.node m.told = record { lent = m.input; kept = refl; may = m.may; steps = m.made } in
    record {
      told = replayed.told ++ m.told;
      replays = subst P (sym (one_in t u entry m.step)) (replays_more entries (entry ∷ []) s.node t.node u.node replayed.told m.told replayed.replays (replays_one entry t.node u.node m.told does));
      tells = subst Q (sym m.lines) (step_lines m.turn m.told m.proper replayed.tells);
    }

again_part : (rules : Rules) (moment : ℤ) {s t : RunState} {calls : List Given} {log : List ℕ} → MovesAgain rules moment s calls t log → Part rules s t log
again_part rules moment (moves_as_ever again move) = move_part rules moment move
again_part rules moment (hears_gone {s} {t} {log} again hears) = hears_part rules moment s t log hears

replayed_in : (rules : Rules) {s t : RunState} {moments : List ℤ} {calls : List Given} {log : List ℕ} {entries : List Entry} → RunsKept rules s moments calls t log entries → IsReplayed rules s t log entries
replayed_in rules (begins_kept {s}) = record { told = []; replays = replays_none s.node s.node refl; tells = no_lines }
replayed_in rules (goes_on_kept {s} {t} {u} {moments} {moment} {calls} {more} {log} {lines} {entries} run move) = replayed_on rules s t u log lines entries (replayed_in rules run) (again_part rules moment move)

pub entries_are_the_steps : EntriesAreTheSteps
entries_are_the_steps rules moments s t calls log entries run = replayed_in rules run
