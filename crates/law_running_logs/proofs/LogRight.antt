-- NOTHING IS AGAINST THE LOG of running machines.
use Rattle.std.proofs.Common.{◌≡◌, ◌≢◌, ◌∙◌, refl, sym, ap, subst, ℕ, ◌≤◌, Bool, true, false, List, [], ◌∷◌, ◌++◌, Option, None, inr, append_assoc, arith, codes, decimal, is_some, length}
use Rattle.std.specs.List.{AllByRecursion, list_all}
use Rattle.std.proofs.lemmas.Bool.{and_from, or_left, or_right}
use Rattle.node_core.specs.declared.act.Act.{Act}
use Rattle.node_core.specs.declared.act.Act.TheVariants as acts
use Rattle.machine_log.specs.Texts.{line_of, log_line}
use Rattle.standings.specs.Ledger.{AreLegal, Ledger, has_entry, is_same_entry, ledger_after_all}
use Rattle.standings.specs.Ledger as ledgers
use Rattle.standings.specs.Marks.{has_mark}
use Rattle.standings.specs.Standing.{Place}
use Rattle.standings.specs.declared.deed.Deed.{Deed}
use Rattle.standings.specs.declared.entry.Entry.{Entry}
use Rattle.standings.specs.declared.mark.Mark.{Mark}
use Rattle.standings.proofs.Entries.{entry_is_itself}
use Rattle.standings.proofs.Standings.{only}
use Rattle.line_check.specs.declared.reading.Reading.{Reading as Said}
use Rattle.line_check.specs.declared.reading.Reading.TheVariants.{Nothing}
use Rattle.line_check.specs.LogLine.{said_by}
use Rattle.line_check.specs.Log.{against, against_from, all_stand, deeds_in, ends_group, is_bad, is_illegal, ledger_of, stands}
use Rattle.line_check.proofs.Reasons.{ledger_of-push}
use Rattle.line_check.proofs.Rights.{right_from}
use Rattle.line_step.specs.State.{LineState, marks_in}
use Rattle.law_one_standing.specs.Replay.{IsLedgerOf, IsStandingTold}
use Rattle.law_one_standing.specs.Standing.{HasOneStanding}
use Rattle.law_one_standing.proofs.LedgerSteps.{deeds_by}
use Rattle.law_running_line.specs.Reading.{Reading}
use Rattle.law_running_line.specs.Stands.{line_of as in_line}
use Rattle.law_running_logs.specs.Told.{Follows, IsAtGap, LedgerFollows, RunPoint, StandsAlong, StandsAt, deeds_at}
use Rattle.law_running_logs.proofs.LedgerTurn.{told_deeds}
use Rattle.law_running_logs.specs.Merged.{IsLogOf, beside, merged_line, no_steps, no_turns, step, text_of}
use Rattle.law_running_logs.specs.Right.{IsShort, LogIsRight}
use Rattle.law_running_logs.proofs.LineSays.{nothing_said}
use Rattle.law_running_logs.proofs.LineTexts.{group_is}
use Rattle.law_running_logs.proofs.StepRight.{DoneRight, IsLegalSaid, IsNext, SoFar, line_right, more_so_far, none_left, step_right}

-- ---- each id with a mark has a standing in the ledger, where it has one at the machines

all_entries : (test : Entry → Bool) (entries : List Entry) → ((entry : Entry) → has_entry entry entries ≡ true → test entry ≡ true) → list_all test entries ≡ true
all_entries test [] each = refl
all_entries test (entry ∷ entries) each =
    and_from (test entry) (list_all test entries) (each entry (or_left (is_same_entry entry entry) (has_entry entry entries) (entry_is_itself entry)))
    (all_entries test entries (λ other there. each other (or_right (is_same_entry entry other) (has_entry other entries) there)))

some_marks : (mark : Mark) (marks : List Mark) → has_mark mark marks ≡ true → marks ≢ []
some_marks mark marks has none = (let h : false ≡ true = ap (has_mark mark) (sym none) ∙ has in cc)

entry_stands : (ledger : Ledger) (s : LineState) → IsLedgerOf ledger s → IsStandingTold ledger s → HasOneStanding s → (entry : Entry) → has_entry entry ledger.marks ≡ true → stands (ledgers.marks_in entry.id ledger.marks) ≡ true
entry_stands ledger s is told one entry there =
    let some : marks_in s entry.id ≢ [] = some_marks entry.mark (marks_in s entry.id) (sym (is entry) ∙ there) in
    let standing = one.each entry.id some in
    ap (λ (o : Option Place). is_some o) (only (ledgers.marks_in entry.id ledger.marks) standing.0 (told.whole entry.id standing.0 standing.1))

all_standing : (ledger : Ledger) (s : LineState) → IsLedgerOf ledger s → IsStandingTold ledger s → HasOneStanding s → all_stand ledger.marks ≡ true
all_standing ledger s is told one = all_entries (λ (entry : Entry). stands (ledgers.marks_in entry.id ledger.marks)) ledger.marks (entry_stands ledger s is told one)

-- ---- THE LOG

shorts_front : (xs ys : List (List ℕ)) → AllByRecursion IsShort (xs ++ ys) → AllByRecursion IsShort xs
shorts_front [] ys all = tt
shorts_front (x ∷ xs) ys all = (all.0, shorts_front xs ys all.1)

shorts_back : (xs ys : List (List ℕ)) → AllByRecursion IsShort (xs ++ ys) → AllByRecursion IsShort ys
shorts_back [] ys all = all
shorts_back (x ∷ xs) ys all = shorts_back xs ys all.1

-- a step is right in the ledger before it
point_right : (ledger : Ledger) (point : RunPoint) (points : List RunPoint) → Follows ledger (point ∷ points) → StandsAt point → DoneRight point.machine ledger point.acts
point_right ledger point points follows stand =
    let same : deeds_at point ≡ deeds_by point.machine point.acts = told_deeds point.machine point.acts in
    record {
      legal = subst (λ (ds : List Deed). AreLegal ledger ds) same follows.0;
      gaps = subst (λ (ds : List Deed). AllByRecursion IsAtGap ds) same stand.gaps;
      lane = stand.lane;
      stand = subst (λ (ds : List Deed). all_stand (ledger_after_all ledger ds).marks ≡ true) same (all_standing (ledger_after_all ledger (deeds_at point)) (in_line point.after) follows.1 follows.2 stand.standing);
    }

-- what stands between steps says nothing
nothing_legal : (ledger : Ledger) (said : Said) → said ≡ Nothing → IsLegalSaid ledger said
nothing_legal ledger said is = (ap is_bad is, ap (is_illegal ledger) is)

log_right : {latest : ℕ → ℕ} {points : List RunPoint} {log : List (List ℕ)} → IsLogOf latest points log → (before : List (List ℕ)) → SoFar latest before (length log) → AllByRecursion IsShort log → Follows (ledger_of before) points → AllByRecursion StandsAt points
    → all_stand (ledger_of before).marks ≡ true → against_from before log ≡ None
log_right no_steps before far short follows all stand = refl
log_right (step {latest} {point} {points} {lines} {log} {all = whole} turn late lines_are rest is) before far short follows all stand =
    let within : AllByRecursion IsShort (lines ++ log) = subst (λ (l : List (List ℕ)). AllByRecursion IsShort l) is short in
    let far_here : SoFar latest before (length (lines ++ log)) = subst (λ (l : List (List ℕ)). SoFar latest before (length l)) is far in
    let right : DoneRight point.machine (ledger_of before) point.acts = point_right (ledger_of before) point points follows all.0 in
    let done = step_right log lines_are far_here late (shorts_front lines log within) right in
    let behind : ledger_of (before ++ lines) ≡ ledger_after_all (ledger_of before) (deeds_at point) = done.ledger_is ∙ ap (ledger_after_all (ledger_of before)) (sym (told_deeds point.machine point.acts)) in
    ap (against_from before) is ∙ done.same
    ∙ log_right rest (before ++ lines) done.far (shorts_back lines log within) (subst (λ (l : Ledger). Follows l points) (sym behind) follows.3) all.1
    (ap (λ (l : Ledger). all_stand l.marks) done.ledger_is ∙ right.stand)
log_right (beside {latest} {points} {log} machine number turn text late named none rest) before far short follows all stand =
    let line : List ℕ = merged_line machine turn text in
    let said = nothing_said machine number turn text named none in
    let same : ledger_of (before ++ line ∷ []) ≡ ledger_of before = ledger_of-push before line ∙ ap (λ (r : Said). ledger_after_all (ledger_of before) (deeds_in r)) said in
    let standing : all_stand (ledger_of (before ++ line ∷ [])).marks ≡ true = ap (λ (l : Ledger). all_stand l.marks) same ∙ stand in
    let next : IsNext latest machine turn line = record { group = group_is machine number turn text named; late = late; short = short.0 } in
    line_right {more = length log} log far next (nothing_legal (ledger_of before) (said_by line) said) (none_left (ends_group line log) (all_stand (ledger_of (before ++ line ∷ [])).marks) (inr standing))
    ∙ log_right rest (before ++ line ∷ []) (more_so_far {more = length log} far next) short.1 (subst (λ (l : Ledger). Follows l points) (sym same) follows) all standing

-- ---- THE LAWS

none_yet : 0 ≤ 0
none_yet = omega arith

pub log_is_right : (reading : Reading) → LedgerFollows reading → StandsAlong reading → LogIsRight reading
log_is_right reading follows stand log of within =
    let few = within.few in
    let first : SoFar no_turns [] (length log) = record { turns = λ machine. none_yet; few = omega (arith, few) } in
    let none : against log ≡ None =
    log_right of.is [] first within.short (follows of.begins of.ends of.acts of.new of.differ of.run) (stand of.begins of.ends of.acts of.new of.differ of.run) refl in
    (none, right_from log none)

-- a machine's number stands before its own line
spelled : (machine turn : ℕ) (text : List ℕ) → (decimal machine ++ codes " ") ++ log_line turn text ≡ merged_line machine turn text ++ codes "\n"
spelled machine turn text = sym (append_assoc (decimal machine ++ codes " ") ((decimal turn ++ codes " ") ++ text) (codes "\n"))

pub own_line : (machine number turn : ℕ) (act : Act) → (decimal machine ++ codes " ") ++ line_of true turn number act ≡ merged_line machine turn (text_of number act) ++ codes "\n"
own_line machine number turn (acts.Drive side on) = spelled machine turn (text_of number (acts.Drive side on))
own_line machine number turn (acts.Deed deed) = spelled machine turn (text_of number (acts.Deed deed))
own_line machine number turn (acts.Gives id to) = spelled machine turn (text_of number (acts.Gives id to))
own_line machine number turn (acts.Gets id) = spelled machine turn (text_of number (acts.Gets id))
own_line machine number turn act = spelled machine turn (text_of number act)
