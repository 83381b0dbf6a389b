-- The marks of running machines that stand in their relation, beside a ledger: the ids of a machine differ, and each was made.
use Rattle.std.proofs.Common.{Some, ap, eq-eqb, refl, true, ℕ, ◌++◌, ◌+◌, ◌-◌, ◌==◌, ◌||◌, ◌∙◌, ◌∷◌, ◌≡◌, ◌⊎◌}
use Rattle.handover_in.specs.State.{board_of_phase as held_in}
use Rattle.node_core.specs.Own.{own_of}
use Rattle.standings.specs.Ledger.{are_different}
use Rattle.standings.specs.Marks.{is_held}
use Rattle.standings.specs.declared.mark.Mark.TheVariants as marks
use Rattle.law_one_standing.specs.Carried.{Trace}
use Rattle.law_one_standing.proofs.LedgerSteps.{Ends, all_of, kept_different}
use Rattle.law_one_standing.proofs.MarksOf.{has_intake, has_kept, id_held, id_kept}
use Rattle.law_one_standing.proofs.LedgerMarks.{differ_by}
use Rattle.law_running_line.specs.Running.{Running}
use Rattle.law_running_line.specs.Stands.{IsMade, Stands, node_in}
use Rattle.law_running_line.proofs.UniqueIds.{mark_made}
use Rattle.law_running_line.proofs.OneStand.{by_numbers}

-- ---- each id with a mark was made

-- and so was that which an intake takes
taken_made : {t : Trace} {s : Running} (machine id : ℕ) → Stands t s → (own_of (node_in s machine).lane.body).taking ≡ Some id → IsMade s id
taken_made {s = s} machine id st is =
    let found = id_held id (held_in (node_in s machine).lane.body.intake.phase) (ap (is_held id) is ∙ eq-eqb id id refl) in
    mark_made {mark = marks.Intake machine} st (has_intake found.1 found.2)

-- ---- the ids of a machine differ

pub differ_of : {t : Trace} {s : Running} (machine : ℕ) → Stands t s → are_different (all_of (own_of (node_in s machine).lane.body)) ≡ true
differ_of machine st = differ_by machine (by_numbers st)

-- ---- what a machine has behind a step: each id was made, and what it keeps differs

pub ends_of : {t : Trace} {s : Running} (machine : ℕ) → Stands t s → Ends (IsMade s) (own_of (node_in s machine).lane.body)
ends_of {s = s} machine st = record {
  different = kept_different (own_of (node_in s machine).lane.body) (differ_of machine st);
  kept = λ id has. mark_made {mark = marks.Kept machine} st (has_kept (id_kept id (node_in s machine).lane.body.kept has));
  taken = λ id is. taken_made machine id st is;
}
