-- A standing names what is there: beyond the ends of a line no machine keeps a record, and where there is no link no half
-- holds one.
use Rattle.std.proofs.Common.{Bool, List, None, Option, Some, [], ap, arith, eqb-true, false, inl, inr, length, refl, subst, suc, sym, take, true, zero, ℕ, ◌+◌, ◌∙◌, ◌∷◌, ◌≡◌, ◌≤◌, ◌<◌}
use Rattle.std.specs.Prelude.{nat_le, nat_lt}
use Rattle.std.proofs.lemmas.List.{get_or_past}
use Rattle.std.specs.List.{AllByRecursion}
use Rattle.std.proofs.lemmas.Bool.{and_parts, leb-true, ltb-true}
use Rattle.std.proofs.lemmas.Option.{none-some}
use Rattle.law_one_standing.proofs.LedgerStandings.{all_at}
use Rattle.board_record.specs.declared.record.Record.{Record}
use Rattle.handover_out.specs.State.{board_of_phase as held_out}
use Rattle.handover_in.specs.State.{board_of_phase as held_in}
use Rattle.node_core.specs.Node.{NodeState}
use Rattle.standings.specs.Standing.{IsBetween, IsWith, is_handed_at, is_kept_by}
use Rattle.standings.specs.declared.mark.Mark.{Mark}
use Rattle.standings.specs.declared.standing.Standing.TheVariants as standings
use Rattle.law_custody.specs.Contents.{Kept}
use Rattle.line_step.specs.Numbered.{no_node, node_at}
use Rattle.line_step.specs.Reasons.{has_link}
use Rattle.line_step.specs.Runs.{Point}
use Rattle.line_step.specs.State.{LineState, marks_in, no_line}
use Rattle.line_step.proofs.Numbers.{beyond_or_not, none_or_one}
use Rattle.law_one_standing.specs.Carried.{Trace, stand_of}
use Rattle.law_one_standing.specs.Stands.{Stands}
use Rattle.law_one_standing.proofs.Carrying.{SaysAlone}
use Rattle.law_one_standing.proofs.LineForms.{ConnectsBear}
use Rattle.law_one_standing.proofs.LineRun.{AreStood, none_stood, run_stood}
use Rattle.law_one_standing.proofs.MarksOf.{HasMark, Passes, first_among, has_intake, has_kept, has_outlet, mark_stands, passing}
use Rattle.law_sentences.specs.There.{NamesWhatIsThere, StandingsNameWhatIsThere}

-- ---- a machine that keeps a record

pub past : (s : LineState) (m : ℕ) → length s.machines < m → node_at s m ≡ no_node
past s zero beyond = refl
past s (suc place) beyond = get_or_past s.machines place no_node (omega (arith, beyond))

none_kept : {x : ℕ} → Kept x no_node.lane.body.kept → ⊥
none_kept k = elim k [ ]

kept_there : {x : ℕ} (s : LineState) (m : ℕ) → Kept x (node_at s m).lane.body.kept
    → (1 ≤ m) × (m ≤ length s.machines)
kept_there {x} s m k = (
  elim (none_or_one m) [ inl is ↦ none_at is | inr counted ↦ counted ],
  elim (beyond_or_not m (length s.machines)) [ inl within ↦ within | inr beyond ↦ none_past beyond ],
) where
  none_at : m ≡ 0 → 1 ≤ m
  none_at is = absurd (none_kept (subst (λ (n : ℕ). Kept x (node_at s n).lane.body.kept) is k))

  none_past : length s.machines < m → m ≤ length s.machines
  none_past beyond = absurd (none_kept (subst (λ (n : NodeState). Kept x n.lane.body.kept) (past s m beyond) k))

-- ---- the marks of a standing

machine_of : {x : ℕ} {mark : Mark} (s : LineState) (machine : ℕ) → HasMark (stand_of s) x mark → is_kept_by machine mark ≡ true → (1 ≤ machine) × (machine ≤ length s.machines)
machine_of s machine (has_kept {m = m} k) is =
    subst (λ (n : ℕ). (1 ≤ n) × (n ≤ length s.machines)) (eqb-true m machine is) (kept_there s m k)
machine_of s machine (has_outlet e same) is = absurd (let h : false ≡ true = is in cc)
machine_of s machine (has_intake e same) is = absurd (let h : false ≡ true = is in cc)

with_there : (s : LineState) (x machine : ℕ) → IsWith machine (marks_in s x) → (1 ≤ machine) × (machine ≤ length s.machines)
with_there s x machine w =
    let first = first_among (marks_in s x) w.some in
    machine_of s machine (mark_stands s x first.0 first.1) (all_at (is_kept_by machine) w.alone first.1)

-- ---- a gap whose halves hold a record

none_held : {held : Option Record} {r : Record} → held ≡ None → held ≡ Some r → ⊥
none_held {r = r} none some = none-some r (sym none ∙ some)

link_of : {t : Trace} {s : LineState} {x : ℕ} {mark : Mark} (gap : ℕ) (there : Bool) → has_link gap s ≡ there → Stands t s → HasMark (stand_of s) x mark → is_handed_at gap mark ≡ true → has_link gap s ≡ true
link_of gap true is st has handed = is
link_of gap false is st (has_kept k) handed = absurd (let h : false ≡ true = handed in cc)
link_of {s = s} gap false is st (has_outlet {m = m} {r = r} e same) handed =
    let own : held_out (node_at s gap).lane.body.outlet.phase ≡ Some r = subst (λ (n : ℕ). held_out (node_at s n).lane.body.outlet.phase ≡ Some r) (eqb-true m gap handed) e in
    absurd (none_held (ap held_out (st.rest gap is).outlet) own)
link_of {s = s} gap false is st (has_intake {m = m} {r = r} e same) handed =
    let own : held_in (node_at s (gap + 1)).lane.body.intake.phase ≡ Some r = subst (λ (n : ℕ). held_in (node_at s n).lane.body.intake.phase ≡ Some r) (eqb-true m (gap + 1) handed) e in
    absurd (none_held (ap held_in (st.rest gap is).intake) own)

gap_there : (s : LineState) (gap : ℕ) → has_link gap s ≡ true → (1 ≤ gap) × (gap + 1 ≤ length s.machines)
gap_there s gap has =
    let parts = and_parts (nat_le 1 gap) (nat_lt gap (length s.machines)) has in
    let counted : 1 ≤ gap = leb-true 1 gap parts.0 in
    let within : gap < length s.machines = ltb-true gap (length s.machines) parts.1 in
    (counted, omega (arith, within))

between_there : {t : Trace} (s : LineState) (x gap : ℕ) → Stands t s → IsBetween gap (marks_in s x) → (1 ≤ gap) × (gap + 1 ≤ length s.machines)
between_there s x gap st b =
    let p : Passes (is_handed_at gap) (marks_in s x) = passing (is_handed_at gap) (marks_in s x) b.handed in
    gap_there s gap (link_of gap (has_link gap s) refl st (mark_stands s x p.mark p.there) p.passes)

names_there : (t : Trace) (s : LineState) → Stands t s → NamesWhatIsThere s
names_there t s st id (standings.With machine) has = with_there s id machine has
names_there t s st id (standings.Between gap) has = between_there s id gap st has

-- ---- along a run

there_each : (points : List Point) → AreStood points → AllByRecursion (λ (point : Point). NamesWhatIsThere point.after) points
there_each [] all = tt
there_each (point ∷ points) all = (names_there all.0.trace point.after all.0.stands, there_each points all.1)

-- THE LAW
pub standings_there : SaysAlone → ConnectsBear → StandingsNameWhatIsThere
standings_there alone connects asked points n fit few run honest = there_each (take n points) (run_stood alone connects no_line asked points n fit few none_stood run honest)
