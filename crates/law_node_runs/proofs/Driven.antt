-- A run over a book makes the steps of its entries, and its drives are as their acts leave them.
use Rattle.std.proofs.Common.{◌≡◌, ◌∙◌, refl, sym, ap, subst, ℕ, ℤ, Bool, true, false, not, List, [], ◌∷◌, ◌++◌, Option, None, Some, Result, Ok, Err, append_assoc, append-nil}
use Rattle.board_record.specs.declared.sensed.Sensed.{Sensed}
use Rattle.book_entry.specs.Given.{entry_of}
use Rattle.book_entry.specs.Steps.{DoesEntry, Replays}
use Rattle.book_entry.specs.declared.entry.Entry.{Entry}
use Rattle.line_base.specs.declared.states.Side.{Side}
use Rattle.line_outside.specs.Given.{Given}
use Rattle.machine_log.specs.Account.{AreProper}
use Rattle.machine_log.specs.Drives.{drives_after}
use Rattle.machine_log.specs.Texts.{lines_of}
use Rattle.machine_log.specs.declared.drives.Drives.{Drives}
use Rattle.node_core.specs.May.{may_do, may_of}
use Rattle.node_core.specs.Node.{NodeState}
use Rattle.node_core.specs.Step.{Steps}
use Rattle.node_core.specs.declared.act.Act.{Act}
use Rattle.node_core.specs.declared.input.Input.{Input}
use Rattle.node_core.specs.declared.input.Input.TheVariants as inputs
use Rattle.node_core.specs.declared.input.No.{No}
use Rattle.node_run.specs.Booked.{MovesAgain, RunsKept, begins_kept, differ, entries_if, entries_of, goes_on_kept, hears_gone, moves_as_ever}
use Rattle.node_run.specs.Gone.{HearsIf, StepsIf, gone_at}
use Rattle.node_run.specs.Next.{moved_on, next_of}
use Rattle.node_run.specs.Owning.{TellsActs, no_lines, step_lines}
use Rattle.node_run.specs.Resetting.{reset_text}
use Rattle.node_run.specs.State.{LastStepValue, RunState, one_more}
use Rattle.node_run.specs.declared.rules.Rules.{Rules}
use Rattle.restart_book.proofs.Replaying.{drives_both}
use Rattle.law_node_runs.specs.Doings.{Doing, MoveDoes, a_reset, acts_in, calls, calls_of, no_step, one_step, reset_of, says, steps}
use Rattle.law_node_runs.proofs.Pieces.{Piece, Tells, move_piece, tells_none}

pub record IsDriven (rules : Rules) (s t : RunState) (log : List ℕ) (entries : List Entry) : Type 0 where
  pub told : List Act
  pub replays : Replays s.node entries t.node told
  pub tells : TellsActs rules log told
  pub drives : t.drives ≡ drives_after s.drives told

-- ---- the entries of a move

same_odd : (odd : Bool) → differ odd odd ≡ false
same_odd true = refl
same_odd false = refl

other_odd : (odd : Bool) → differ odd (not odd) ≡ true
other_odd true = refl
other_odd false = refl

abbrev entries_by : LastStepValue → LastStepValue → List Entry
entries_by before after = entries_if (differ before.odd after.odd) after.entry

none_in : (t u : RunState) → u.step ≡ t.step → entries_of t u ≡ []
none_in t u same = ap (λ (step : LastStepValue). entries_by t.step step) same ∙ ap (λ (made : Bool). entries_if made t.step.entry) (same_odd t.step.odd)

one_in : (t u : RunState) (entry : Entry) → u.step ≡ one_more entry t.step → entries_of t u ≡ entry ∷ []
one_in t u entry is = ap (λ (step : LastStepValue). entries_by t.step step) is ∙ ap (λ (made : Bool). entries_if made (Some entry)) (other_odd t.step.odd)

-- ---- steps one behind another

replays_more : (front back : List Entry) (s t u : NodeState) (acts more : List Act) → Replays s front t acts → Replays t back u more → Replays s (front ++ back) u (acts ++ more)
replays_more [] back s t u acts more one two =
    let P : NodeState → Type 0 = λ n. Replays n back u more in
    let Q : List Act → Type 0 = λ l. Replays s back u (l ++ more) in
    subst Q (sym one.1) (subst P (sym one.0) two)
replays_more (entry ∷ front) back s t u acts more one two = (
  one.0,
  one.1,
  one.2 ++ more,
  one.3,
  replays_more front back one.0 t u one.2 more one.4 two,
  ap (λ (l : List Act). l ++ more) one.5 ∙ append_assoc one.1 one.2 more,
)

-- ---- what a move does to the machine, to its drives and to the log

data Moved (rules : Rules) (t u : RunState) (lines : List ℕ) : Type 0 where
  moved_none : u.step ≡ t.step → u.node ≡ t.node → u.drives ≡ t.drives → Tells rules lines [] → Moved rules t u lines
  moved_one : (read : List Sensed) (input : Input) (at : ℤ) (acts : List Act) → u.step ≡ one_more (entry_of read input at) t.step → may_of t.node input ≡ may_do → Steps t.node read input at u.node acts → u.drives ≡ drives_after t.drives acts → Tells rules lines acts
      → Moved rules t u lines

calls_none : (given : List Given) → acts_in (calls_of given) ≡ []
calls_none [] = refl
calls_none (one ∷ others) = calls_none others

calls_then : (given : List Given) (more : List Doing) → acts_in (calls_of given ++ more) ≡ acts_in more
calls_then [] more = refl
calls_then (one ∷ others) more = calls_then others more

told_as : {rules : Rules} {lines : List ℕ} {one two : List Act} → one ≡ two → Tells rules lines one → Tells rules lines two
told_as {rules} {lines} is tells = subst (λ (l : List Act). Tells rules lines l) is tells

moved_by : {rules : Rules} {resets : Option Side} {t u : RunState} {given : List Given} {lines : List ℕ} {own : List Doing} → MoveDoes resets t u given own → Tells rules lines (acts_in own) → Moved rules t u lines
moved_by {given = given} (no_step counted node drives) tells = moved_none counted node drives (told_as (calls_none given) tells)
moved_by {given = given} (one_step {read} {input} {at} {acts} none counted may made drives) tells =
    moved_one read input at acts counted may made drives (told_as (calls_then given (steps input acts ∷ []) ∙ append-nil acts) tells)
moved_by {given = given} (a_reset {side} {at} {acts} some counted may made drives) tells =
    moved_one [] (inputs.Notice side) at acts counted may made drives (told_as (calls_then given (says side (reset_text at) ∷ steps (inputs.Notice side) acts ∷ []) ∙ append-nil acts) tells)

-- a step of which nothing is told but its lines
told_lines : (rules : Rules) (turn : ℕ) (lines : List ℕ) (acts : List Act) → AreProper acts → lines ≡ lines_of rules.panel.drives turn rules.number acts → Tells rules lines acts
told_lines rules turn lines acts proper is = record { behind = λ before done tells. subst (λ (text : List ℕ). TellsActs rules (before ++ text) (done ++ acts)) (sym is) (step_lines turn acts proper tells) }

-- in turn 0
gone_none : {rules : Rules} {t u : RunState} {lines : List ℕ} → u ≡ moved_on t → lines ≡ [] → Moved rules t u lines
gone_none {rules} {t} {u} {lines} is none = moved_none (ap (λ (r : RunState). r.step) is) (ap (λ (r : RunState). r.node) is) (ap (λ (r : RunState). r.drives) is) (tells_none rules lines none)

gone_by : (may : Result (Unit {0}) No) (rules : Rules) (moment : ℤ) (input : Input) (t u : RunState) (lines : List ℕ) → may_of t.node input ≡ may → StepsIf may rules moment input (moved_on t) u lines → Moved rules t u lines
gone_by (Ok done) rules moment input t u lines may st =
    moved_one [] input moment st.told (ap (λ (r : RunState). r.step) st.after) may
    (subst (λ (n : NodeState). Steps t.node [] input moment n st.told) (sym (ap (λ (r : RunState). r.node) st.after)) st.steps)
    (ap (λ (r : RunState). r.drives) st.after) (told_lines rules (moved_on t).turn lines st.told st.proper st.lines)
gone_by (Err why) rules moment input t u lines may st = gone_none st.0 st.1

gone_if : (gone : Option Input) (rules : Rules) (moment : ℤ) (t u : RunState) (lines : List ℕ) → HearsIf gone rules moment (moved_on t) u lines → Moved rules t u lines
gone_if None rules moment t u lines hears = gone_none hears.0 hears.1
gone_if (Some input) rules moment t u lines hears = gone_by (may_of t.node input) rules moment input t u lines refl hears

again_moved : {rules : Rules} {moment : ℤ} {t u : RunState} {given : List Given} {lines : List ℕ} → MovesAgain rules moment t given u lines → Moved rules t u lines
again_moved (moves_as_ever begun move) = (let piece = move_piece move in moved_by piece.along piece.tells)
again_moved {rules} {moment} {t} {u} {lines = lines} (hears_gone begun hears) = gone_if (gone_at t.place) rules moment t u lines hears

-- ---- THE RUN

driven_on : {rules : Rules} {s t u : RunState} {log lines : List ℕ} {entries : List Entry} → IsDriven rules s t log entries → Moved rules t u lines → IsDriven rules s u (log ++ lines) (entries ++ entries_of t u)
driven_on {rules} {s} {t} {u} {log} {lines} {entries} d (moved_none counted node drives tells) = record {
  told = d.told ++ [];
  replays = replays_more entries (entries_of t u) s.node t.node u.node d.told [] d.replays (subst (λ (l : List Entry). Replays t.node l u.node []) (sym (none_in t u counted)) (sym node, refl));
  tells = tells.behind log d.told d.tells;
  drives = drives ∙ d.drives ∙ ap (drives_after s.drives) (sym (append-nil d.told));
}
driven_on {rules} {s} {t} {u} {log} {lines} {entries} d (moved_one read input at acts counted may made drives tells) =
    let entry : Entry = entry_of read input at in
    let does : DoesEntry t.node entry u.node acts = record { lent = input; kept = refl; may = may; steps = made } in
    let one : Replays t.node (entry ∷ []) u.node acts = (u.node, acts, [], does, (refl, refl), sym (append-nil acts)) in
    record {
      told = d.told ++ acts;
      replays = replays_more entries (entries_of t u) s.node t.node u.node d.told acts d.replays (subst (λ (l : List Entry). Replays t.node l u.node acts) (sym (one_in t u entry counted)) one);
      tells = tells.behind log d.told d.tells;
      drives = drives ∙ ap (λ (x : Drives). drives_after x acts) d.drives ∙ sym (drives_both s.drives d.told acts);
    }

pub driven : {rules : Rules} {s t : RunState} {moments : List ℤ} {given : List Given} {log : List ℕ} {entries : List Entry} → RunsKept rules s moments given t log entries → IsDriven rules s t log entries
driven begins_kept = record { told = []; replays = (refl, refl); tells = no_lines; drives = refl }
driven (goes_on_kept run move) = driven_on (driven run) (again_moved move)
