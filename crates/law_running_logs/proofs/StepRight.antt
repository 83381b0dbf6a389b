-- NOTHING IS AGAINST THE LINES OF A STEP, whatever stands behind them.
use Rattle.std.proofs.Common.{◌≡◌, ◌∙◌, refl, sym, ap, subst, ℕ, suc, ◌+◌, ◌<◌, ◌≤◌, ◌==◌, ◌&&◌, Bool, true, false, not, List, [], ◌∷◌, ◌++◌, Option, Some, None, ◌⊎◌, inl, inr, append-nil, arith, length, length-append, eq-eqb, eqb-true, max, if◌then◌else◌}
use Rattle.std.specs.Prelude.{nat_lt}
use Rattle.std.specs.List.{AllByRecursion}
use Rattle.std.proofs.lemmas.Bool.{and_from, le-ltb, not_from_true}
use Rattle.node_core.specs.declared.act.Act.{Act}
use Rattle.node_core.specs.declared.act.Act.TheVariants as acts
use Rattle.node_core.specs.declared.act.Deed.{Deed as OwnDeed}
use Rattle.node_core.specs.declared.act.Deed.TheVariants as own_deeds
use Rattle.standings.specs.declared.deed.Deed.{Deed}
use Rattle.standings.specs.Ledger.{AreLegal, Ledger, is_legal, ledger_after_all}
use Rattle.standings.proofs.Ids.{legal_tested}
use Rattle.line_check.specs.declared.group.Group.{Group}
use Rattle.line_check.specs.declared.reading.Reading.{Reading}
use Rattle.line_check.specs.declared.why.CheckWhy.{CheckWhy}
use Rattle.line_check.specs.declared.why.CheckWhy.TheVariants.{Standing}
use Rattle.line_check.specs.LogLine.{group_of, said_by}
use Rattle.line_check.specs.Log.{against_from, all_stand, deeds_in, ends_group, holds, is_bad, is_illegal, is_late_in, is_same_group, ledger_of, or_later, reason_at}
use Rattle.line_check.specs.Turns.{greatest_turn, turn_in}
use Rattle.line_check.specs.Checking.{own_reason_at}
use Rattle.line_check.proofs.Latest.{greatest_turn-push, late_by}
use Rattle.line_check.proofs.Reasons.{ledger_of-push, or_standing, own_none, reason_at-own, regroup}
use Rattle.law_one_standing.specs.Replay.{deeds_at, deeds_at_side}
use Rattle.law_one_standing.proofs.LedgerSteps.{deeds_by}
use Rattle.law_running_logs.specs.Told.{IsAtGap, StaysInLane}
use Rattle.law_running_logs.specs.Merged.{StepLines, merged_line, no_lines, text_of, told, untold, with_turn}
use Rattle.law_running_logs.specs.Right.{IsShort}
use Rattle.law_running_logs.proofs.LineSays.{act_said, reading_with}
use Rattle.law_running_logs.proofs.LineTexts.{group_is}

-- ---- the lines so far

-- no machine's turn is greater than its latest, and no more lines stand there than are judged
pub record SoFar (latest : ℕ → ℕ) (before : List (List ℕ)) (more : ℕ) : Type 0 where
  pub turns : (machine : ℕ) → greatest_turn machine before ≤ latest machine
  pub few : length before + more ≤ 1000000

-- a line of a machine in a turn that is none before its latest
pub record IsNext (latest : ℕ → ℕ) (machine turn : ℕ) (line : List ℕ) : Type 0 where
  pub group : group_of line ≡ Some (record { machine = machine; turn = turn })
  pub late : latest machine ≤ turn
  pub short : IsShort line

early : {latest : ℕ → ℕ} {before : List (List ℕ)} {more machine turn : ℕ} {line : List ℕ} → SoFar latest before more → IsNext latest machine turn line → is_late_in (group_of line) before ≡ false
early {latest} {before} {more} {machine} {turn} far next =
    let stood = far.turns machine in
    let late = next.late in
    ap (λ (g : Option Group). is_late_in g before) next.group
    ∙ late_by (record { machine = machine; turn = turn }) before
    ∙ le-ltb turn (greatest_turn machine before) (omega (arith, stood, late))

turn_by : (test : Bool) (machine other turn greatest : ℕ) (latest : ℕ → ℕ) → (machine == other) ≡ test → greatest ≤ latest other → latest machine ≤ turn → max greatest (if test then turn else 0) ≤ (if test then turn else latest other)
turn_by true machine other turn greatest latest is stood late =
    let same : latest machine ≡ latest other = ap latest (eqb-true machine other is) in
    omega (arith, same, stood, late)
turn_by false machine other turn greatest latest is stood late = omega (arith, stood)

pub more_so_far : {latest : ℕ → ℕ} {before : List (List ℕ)} {more machine turn : ℕ} {line : List ℕ} → SoFar latest before (suc more) → IsNext latest machine turn line → SoFar (with_turn machine turn latest) (before ++ line ∷ []) more
more_so_far {latest} {before} {more} {machine} {turn} {line} far next = record {
  turns = λ other. turned other;
  few = (let few = far.few in let long : length (before ++ line ∷ []) ≡ length before + 1 = length-append before (line ∷ []) in omega (arith, few, long));
} where
  turned : (other : ℕ) → greatest_turn other (before ++ line ∷ []) ≤ with_turn machine turn latest other
  turned other =
      let is : greatest_turn other (before ++ line ∷ []) ≡ max (greatest_turn other before) (if machine == other then turn else 0) =
      greatest_turn-push other before line ∙ ap (λ (g : Option Group). max (greatest_turn other before) (turn_in other g)) next.group in
      subst (λ (n : ℕ). n ≤ with_turn machine turn latest other) (sym is) (turn_by (machine == other) machine other turn (greatest_turn other before) latest refl (far.turns other) next.late)

-- ---- a line that nothing is against

-- what it says is legal
abbrev pub IsLegalSaid : Ledger → Reading → Type 0
IsLegalSaid ledger said = (is_bad said ≡ false) × (is_illegal ledger said ≡ false)

none_by : (own : Option CheckWhy) (lacks : Bool) → None ≡ own → lacks ≡ false → or_standing own lacks ≡ None
none_by None false is none = refl
none_by None true is none = cc
none_by (Some why) lacks is none = cc

pub line_right : {latest : ℕ → ℕ} {before : List (List ℕ)} {more machine turn : ℕ} {line : List ℕ} (after : List (List ℕ)) → SoFar latest before (suc more) → IsNext latest machine turn line → IsLegalSaid (ledger_of before) (said_by line)
    → (ends_group line after && not (all_stand (ledger_of (before ++ line ∷ [])).marks)) ≡ false → against_from before (line ∷ after) ≡ against_from (before ++ line ∷ []) after
line_right {latest} {before} {more} {machine} {turn} {line} after far next legal stand =
    let few = far.few in
    let short = next.short in
    let long : nat_lt 4096 (length line) ≡ false = le-ltb 4096 (length line) short in
    let many : (length before == 1000000) ≡ false = unlike (length before) (omega (arith, few)) in
    let none : reason_at before line after ≡ None =
    reason_at-own before line after ∙ none_by (own_reason_at before line) (holds Standing before line after) (own_none before line long many legal.0 (early far next) legal.1) stand in
    ap (λ (why : Option CheckWhy). or_later (length before + 1) why (against_from (before ++ line ∷ []) after)) none
  where
    unlike : (n : ℕ) → n < 1000000 → (n == 1000000) ≡ false
    unlike n less = by (n == 1000000) refl where
      by : (b : Bool) → (n == 1000000) ≡ b → b ≡ false
      by false is = refl
      by true is = (let same : n ≡ 1000000 = eqb-true n 1000000 is in absurd (let g : 1000000 < 1000000 = subst (λ (k : ℕ). k < 1000000) same less in omega (arith, g)))

-- ---- the lines of a step

-- the deeds of the acts are legal one after the other, and done at gaps, and no board leaves its lane
pub record DoneRight (machine : ℕ) (ledger : Ledger) (did : List Act) : Type 0 where
  pub legal : AreLegal ledger (deeds_by machine did)
  pub gaps : AllByRecursion IsAtGap (deeds_by machine did)
  pub lane : AllByRecursion StaysInLane did
  pub stand : all_stand (ledger_after_all ledger (deeds_by machine did)).marks ≡ true

-- what is said by the deeds of one act
said_legal : (ledger : Ledger) (said : Reading) (deeds others : List Deed) → said ≡ reading_with deeds → length deeds ≤ 1 → AreLegal ledger (deeds ++ others) → IsLegalSaid ledger said × AreLegal (ledger_after_all ledger (deeds_in said)) others
    × (ledger_after_all ledger (deeds ++ others) ≡ ledger_after_all (ledger_after_all ledger (deeds_in said)) others)
said_legal ledger said [] others is one legal = (
  (ap is_bad is, ap (is_illegal ledger) is),
  subst (λ (r : Reading). AreLegal (ledger_after_all ledger (deeds_in r)) others) (sym is) legal,
  ap (λ (r : Reading). ledger_after_all (ledger_after_all ledger (deeds_in r)) others) (sym is),
)
said_legal ledger said (deed ∷ []) others is one legal = (
  (ap is_bad is, ap (is_illegal ledger) is ∙ not_from_true (is_legal ledger deed) (legal_tested ledger deed legal.0)),
  subst (λ (r : Reading). AreLegal (ledger_after_all ledger (deeds_in r)) others) (sym is) legal.1,
  ap (λ (r : Reading). ledger_after_all (ledger_after_all ledger (deeds_in r)) others) (sym is),
)
said_legal ledger said (deed ∷ next ∷ more) others is one legal = absurd (omega (arith, one))

one_deed : (machine : ℕ) (act : Act) → length (deeds_at machine act) ≤ 1
one_deed machine (acts.Deed deed) = side_deed deed where
  side_deed : (deed : OwnDeed) → length (deeds_at_side machine deed) ≤ 1
  side_deed (own_deeds.Opens id) = omega arith
  side_deed (own_deeds.Refuses id) = omega arith
  side_deed (own_deeds.Leaves id) = omega arith
  side_deed (own_deeds.Returns id) = omega arith
  side_deed (own_deeds.Loses id) = omega arith
  side_deed (own_deeds.Starts id) = omega arith
  side_deed (own_deeds.Settles id) = omega arith
  side_deed (own_deeds.Drops id) = omega arith
one_deed machine _ = omega arith

gaps_front : (xs ys : List Deed) → AllByRecursion IsAtGap (xs ++ ys) → AllByRecursion IsAtGap xs
gaps_front [] ys all = tt
gaps_front (x ∷ xs) ys all = (all.0, gaps_front xs ys all.1)

gaps_back : (xs ys : List Deed) → AllByRecursion IsAtGap (xs ++ ys) → AllByRecursion IsAtGap ys
gaps_back [] ys all = all
gaps_back (x ∷ xs) ys all = gaps_back xs ys all.1

-- the next line of a step goes on with its group, or there is none and no deed is left
goes_or_ends : {machine number turn : ℕ} {others : List Act} {lines : List (List ℕ)} (line : List ℕ) (after : List (List ℕ)) → group_of line ≡ Some (record { machine = machine; turn = turn }) → StepLines machine number turn others lines
    → (ends_group line (lines ++ after) ≡ false) ⊎ (deeds_by machine others ≡ [])
goes_or_ends line after group no_lines = inr refl
goes_or_ends {machine} {number} {turn} line after group (told {act = act} named proper later) = inl (
    ap (λ (g : Option Group). not (is_same_group g (group_of (merged_line machine turn (text_of number act))))) group
    ∙ ap (λ (g : Option Group). not (is_same_group (Some (record { machine = machine; turn = turn })) g)) (group_is machine number turn (text_of number act) named)
    ∙ not_from_true ((machine == machine) && (turn == turn)) (and_from (machine == machine) (turn == turn) (eq-eqb machine machine refl) (eq-eqb turn turn refl)))
goes_or_ends line after group (untold later) = goes_or_ends line after group later

pub none_left : (ends : Bool) (stand : Bool) → (ends ≡ false) ⊎ (stand ≡ true) → (ends && not stand) ≡ false
none_left false stand h = refl
none_left true true h = refl
none_left true false (inl is) = is
none_left true false (inr is) = sym is

-- the state of the log behind the lines of a step, whose ledger is that behind its deeds
pub record StepDone (latest : ℕ → ℕ) (machine turn : ℕ) (ledger : Ledger) (before lines : List (List ℕ)) (after : List (List ℕ)) (did : List Act) : Type 0 where
  pub same : against_from before (lines ++ after) ≡ against_from (before ++ lines) after
  pub ledger_is : ledger_of (before ++ lines) ≡ ledger_after_all ledger (deeds_by machine did)
  pub far : SoFar (with_turn machine turn latest) (before ++ lines) (length after)

twice : (test : Bool) (turn before : ℕ) → (if test then turn else (if test then turn else before)) ≡ (if test then turn else before)
twice true turn before = refl
twice false turn before = refl

own_turn : (machine turn : ℕ) (latest : ℕ → ℕ) → with_turn machine turn latest machine ≡ turn
own_turn machine turn latest = ap (λ (b : Bool). if b then turn else latest machine) (eq-eqb machine machine refl)

at_least : {latest : ℕ → ℕ} {before : List (List ℕ)} {more : ℕ} (machine turn : ℕ) → latest machine ≤ turn → SoFar latest before more → SoFar (with_turn machine turn latest) before more
at_least {latest} {before} machine turn late far = record { turns = λ other. raised other (machine == other) refl; few = far.few } where
  raised : (other : ℕ) (test : Bool) → (machine == other) ≡ test → greatest_turn other before ≤ (if machine == other then turn else latest other)
  raised other true is =
      let same : latest machine ≡ latest other = ap latest (eqb-true machine other is) in
      let stood = far.turns other in
      subst (λ (b : Bool). greatest_turn other before ≤ (if b then turn else latest other)) (sym is) (omega (arith, same, stood, late))
  raised other false is = subst (λ (b : Bool). greatest_turn other before ≤ (if b then turn else latest other)) (sym is) (far.turns other)

once : (latest : ℕ → ℕ) {before : List (List ℕ)} {more : ℕ} (machine turn : ℕ) → SoFar (with_turn machine turn (with_turn machine turn latest)) before more → SoFar (with_turn machine turn latest) before more
once latest {before} machine turn far = record { turns = λ other. subst (λ (n : ℕ). greatest_turn other before ≤ n) (twice (machine == other) turn (latest other)) (far.turns other); few = far.few }

left_standing : (ledger : Ledger) (deeds : List Deed) → deeds ≡ [] → all_stand (ledger_after_all ledger deeds).marks ≡ true → all_stand ledger.marks ≡ true
left_standing ledger deeds none stand = subst (λ (ds : List Deed). all_stand (ledger_after_all ledger ds).marks ≡ true) none stand

pub step_right : {machine number turn : ℕ} {latest : ℕ → ℕ} {before : List (List ℕ)} {did : List Act} {lines : List (List ℕ)} (after : List (List ℕ)) → StepLines machine number turn did lines → SoFar latest before (length (lines ++ after)) → latest machine ≤ turn
    → AllByRecursion IsShort lines → DoneRight machine (ledger_of before) did → StepDone latest machine turn (ledger_of before) before lines after did
step_right {machine} {number} {turn} {latest} {before} after no_lines far late short right = record {
  same = ap (λ (l : List (List ℕ)). against_from l after) (sym (append-nil before));
  ledger_is = ap ledger_of (append-nil before);
  far = at_least machine turn late (subst (λ (l : List (List ℕ)). SoFar latest l (length after)) (sym (append-nil before)) far);
}
step_right {machine} {number} {turn} {latest} {before} after (untold later) far late short right =
    let done = step_right after later far late short (record { legal = right.legal; gaps = right.gaps; lane = right.lane.1; stand = right.stand }) in
    record { same = done.same; ledger_is = done.ledger_is; far = done.far }
step_right {machine} {number} {turn} {latest} {before} after (told {act = act} {others = others} {lines = lines} named proper later) far late short right =
    let line : List ℕ = merged_line machine turn (text_of number act) in
    let ledger : Ledger = ledger_of before in
    let group = group_is machine number turn (text_of number act) named in
    let said : said_by line ≡ reading_with (deeds_at machine act) = act_said machine number turn act named proper right.lane.0 (gaps_front (deeds_at machine act) (deeds_by machine others) right.gaps) in
    let parts = said_legal ledger (said_by line) (deeds_at machine act) (deeds_by machine others) said (one_deed machine act) right.legal in
    let now : ledger_of (before ++ line ∷ []) ≡ ledger_after_all ledger (deeds_in (said_by line)) = ledger_of-push before line in
    let last : all_stand (ledger_after_all (ledger_of (before ++ line ∷ [])) (deeds_by machine others)).marks ≡ true =
    subst (λ (l : Ledger). all_stand (ledger_after_all l (deeds_by machine others)).marks ≡ true) (sym now) (ap (λ (l : Ledger). all_stand l.marks) (sym parts.2) ∙ right.stand) in
    let next : IsNext latest machine turn line = record { group = group; late = late; short = short.0 } in
    let stand : (ends_group line (lines ++ after) && not (all_stand (ledger_of (before ++ line ∷ [])).marks)) ≡ false =
    none_left (ends_group line (lines ++ after)) (all_stand (ledger_of (before ++ line ∷ [])).marks) (elim (goes_or_ends line after group later) [
      | inl goes ↦ inl goes
      | inr none ↦ inr (left_standing (ledger_of (before ++ line ∷ [])) (deeds_by machine others) none last)
    ]) in
    let first = line_right {more = length (lines ++ after)} (lines ++ after) far next parts.0 stand in
    let right_later : DoneRight machine (ledger_of (before ++ line ∷ [])) others = record {
      legal = subst (λ (l : Ledger). AreLegal l (deeds_by machine others)) (sym now) parts.1;
      gaps = gaps_back (deeds_at machine act) (deeds_by machine others) right.gaps;
      lane = right.lane.1;
      stand = last;
    } in
    let own : with_turn machine turn latest machine ≤ turn = subst (λ (n : ℕ). n ≤ turn) (sym (own_turn machine turn latest)) (omega arith) in
    let done = step_right {latest = with_turn machine turn latest} {before = before ++ line ∷ []} after later (more_so_far {more = length (lines ++ after)} far next) own short.1 right_later in
    record {
      same = first ∙ done.same ∙ ap (λ (l : List (List ℕ)). against_from l after) (regroup before line lines);
      ledger_is = ap ledger_of (sym (regroup before line lines)) ∙ done.ledger_is ∙ ap (λ (l : Ledger). ledger_after_all l (deeds_by machine others)) now ∙ sym parts.2;
      far = once latest machine turn (subst (λ (l : List (List ℕ)). SoFar (with_turn machine turn (with_turn machine turn latest)) l (length after)) (regroup before line lines) done.far);
    }
