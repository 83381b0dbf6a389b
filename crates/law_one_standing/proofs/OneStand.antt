-- ONE STANDING of a line that stands in its relation.
use Rattle.std.proofs.Common.{Bool, List, None, Option, Some, [], ap, arith, eq-eqb, eqb-true, false, inl, inr, map, refl, subst, suc, sym, true, zero, ℕ, ◌++◌, ◌+◌, ◌-◌, ◌∙◌, ◌∷◌, ◌≡◌, ◌≢◌, ◌⊎◌}
use Rattle.std.specs.List.{AllByRecursion}
use Rattle.std.proofs.lemmas.Option.{none-some}
use Rattle.law_one_standing.proofs.LedgerStandings.{none_among}
use Rattle.board_record.specs.declared.record.Record.{Record}
use Rattle.line_world.specs.Boards.{boards_in}
use Rattle.line_world.specs.declared.board.Board.{Board}
use Rattle.line_world.specs.declared.gap.Gap.{Gap}
use Rattle.line_world.specs.declared.gap.Gap.TheVariants as gaps
use Rattle.line_world.specs.FloorPlan.{gap_at, machine_at}
use Rattle.line_world.specs.declared.gap.AtGap.{AtGap}
use Rattle.handover_out.specs.State.{board_of_phase as held_out}
use Rattle.handover_in.specs.State.{board_of_phase as held_in}
use Rattle.standings.specs.Standing.{HasStanding, IsBetween, IsWith, Place, is_among, is_handed_at, is_kept_by}
use Rattle.standings.specs.declared.mark.Mark.{Mark}
use Rattle.standings.specs.declared.mark.Mark.TheVariants as marks
use Rattle.standings.specs.declared.standing.Standing.TheVariants as standings
use Rattle.law_custody.specs.Contents.{Kept, kept_first, kept_later}
use Rattle.law_custody.specs.Pair.{board_of, part}
use Rattle.law_custody.specs.Place.{is_inside, is_upstream}
use Rattle.law_custody.proofs.Facts.{in_holds, out_holds}
use Rattle.law_custody.proofs.Promised.{board_across, board_begun}
use Rattle.line_step.specs.Numbered.{node_at}
use Rattle.line_step.specs.State.{LineState, marks_in}
use Rattle.law_one_standing.specs.Carried.{Trace, between_of, stand_of}
use Rattle.law_one_standing.specs.Relation.{link_between, Between}
use Rattle.law_one_standing.specs.Standing.{HasOneStanding, IsHandedOver, IsListed, is_held_at, is_kept_at}
use Rattle.law_one_standing.specs.Stands.{Stands}
use Rattle.law_one_standing.proofs.MarksOf.{Among, HasMark, Passes, all_pass, any_passes, first_among, has_intake, has_kept, has_outlet, id_held, id_kept, mark_is_there, mark_stands, one_or_none, passing}
use Rattle.law_one_standing.proofs.MarksPlace.{AtLink, HasEnd, in_middle, intake_at, kept_at, kept_unheld, one_link, outlet_at, part_lies_at}
use Rattle.law_one_standing.specs.Kept.{Keeps}

-- ---- the link of a mark

-- the link of the handover that a mark is in; of a kept one the link below the machine
abbrev pub link_of : Mark → ℕ
link_of (marks.Kept machine) = machine
link_of (marks.Outlet machine) = machine
link_of (marks.Intake machine) = machine - 1

abbrev pub is_handover : Mark → Bool
is_handover (marks.Kept machine) = false
is_handover (marks.Outlet machine) = true
is_handover (marks.Intake machine) = true

-- what is read of a line, and of machines that run by themselves: the relation of each two neighbours and of each machine,
-- by their numbers, and that nothing is before the first
pub record ByNumbers (b : ℕ → Between) (s : LineState) : Type 0 where
  pub keeps : Keeps (stand_of s) b
  pub ends : HasEnd (stand_of s)
  pub gaps : (gap : ℕ) → (b gap).gap ≡ gap_at s.world.floor gap

intake_link : {b : ℕ → Between} {s : LineState} {x : ℕ} (m k : ℕ) {r : Record} → ByNumbers b s → m ≡ k + 1 → held_in (node_at s m).lane.body.intake.phase ≡ Some r → r.id ≡ x → AtLink (stand_of s) b x k true
intake_link {s = s} m k {r = r} st is e same = intake_at (st.keeps.neighbours.at k) (subst (λ (n : ℕ). held_in (node_at s n).lane.body.intake.phase ≡ Some r) is e) same

-- the board of a mark is at its link
pub at_link : {b : ℕ → Between} {s : LineState} {x : ℕ} {mark : Mark} → ByNumbers b s → HasMark (stand_of s) x mark → AtLink (stand_of s) b x (link_of mark) true
at_link st (has_kept k) = kept_at k
at_link st (has_outlet {m = m} e same) = outlet_at true (st.keeps.neighbours.at m) e same
at_link st (has_intake {m = zero} {r = r} e same) = absurd (none-some r e)
at_link st (has_intake {m = suc k} e same) = intake_link (suc k) (suc k - 1) st (omega arith) e same

among_gap : (s : LineState) {x : ℕ} {mark : Mark} (gap : ℕ) → HasMark (stand_of s) x mark → link_of mark ≡ gap → is_among gap mark ≡ true
among_gap s gap (has_kept {m = m} k) is = eq-eqb m gap is
among_gap s gap (has_outlet {m = m} e same) is = eq-eqb m gap is
among_gap s gap (has_intake {m = zero} {r = r} e same) is = absurd (none-some r e)
among_gap s gap (has_intake {m = suc k} e same) is = eq-eqb (suc k) (gap + 1) (omega (arith, is))

handed_gap : (s : LineState) {x : ℕ} {mark : Mark} → HasMark (stand_of s) x mark → is_handover mark ≡ true → is_handed_at (link_of mark) mark ≡ true
handed_gap s (has_kept k) is = absurd (let h : false ≡ true = is in cc)
handed_gap s (has_outlet {m = m} e same) is = eq-eqb m m refl
handed_gap s (has_intake {m = zero} {r = r} e same) is = absurd (none-some r e)
handed_gap s (has_intake {m = suc k} e same) is = eq-eqb (suc k) (suc k - 1 + 1) (omega arith)

-- all marks of an id are of one link
pub same_link : {b : ℕ → Between} {s : LineState} {x : ℕ} {mark other : Mark} → ByNumbers b s → HasMark (stand_of s) x mark → HasMark (stand_of s) x other → link_of mark ≡ link_of other
same_link {b} {s} st one two = one_link st.ends st.keeps (at_link st one) (at_link st two)

-- ---- the standing

-- with a mark in a handover the id stands between
between_by : {b : ℕ → Between} {s : LineState} {x : ℕ} {mark : Mark} (gap : ℕ) → ByNumbers b s → HasMark (stand_of s) x mark → is_handed_at gap mark ≡ true → link_of mark ≡ gap → IsBetween gap (marks_in s x)
between_by {s = s} {x = x} gap st has handed is = record {
  handed = any_passes (is_handed_at gap) (mark_is_there s has) handed;
  among = all_pass (is_among gap) (marks_in s x) (λ other there. let own : HasMark (stand_of s) x other = mark_stands s x other there in among_gap s gap own (same_link st own has ∙ is));
}

kept_by : {b : ℕ → Between} {s : LineState} {x machine : ℕ} {other : Mark} → ByNumbers b s → HasMark (stand_of s) x (marks.Kept machine) → HasMark (stand_of s) x other → is_handover other ≡ false → is_kept_by machine other ≡ true
kept_by {machine = machine} st one (has_kept {m = m} k) un = eq-eqb m machine (same_link st (has_kept k) one)
kept_by st one (has_outlet e same) un = absurd (let h : true ≡ false = un in cc)
kept_by st one (has_intake e same) un = absurd (let h : true ≡ false = un in cc)

-- without one it stands with a machine
with_by : {b : ℕ → Between} {s : LineState} {x : ℕ} (machine : ℕ) → ByNumbers b s → HasMark (stand_of s) x (marks.Kept machine) → ((mark : Mark) → Among mark (marks_in s x) → is_handover mark ≡ false) → IsWith machine (marks_in s x)
with_by {s = s} {x = x} machine st has none = record {
  some = λ empty. none_among empty (mark_is_there s has);
  alone = all_pass (is_kept_by machine) (marks_in s x) (λ other there. kept_by st has (mark_stands s x other there) (none other there));
}

passing_between : {b : ℕ → Between} {s : LineState} (x : ℕ) → ByNumbers b s → (p : Passes is_handover (marks_in s x)) → IsBetween (link_of p.mark) (marks_in s x)
passing_between {s = s} x st p = let has : HasMark (stand_of s) x p.mark = mark_stands s x p.mark p.there in between_by (link_of p.mark) st has (handed_gap s has p.passes) refl

kept_stands_by : {b : ℕ → Between} {s : LineState} {x : ℕ} {mark : Mark} → ByNumbers b s → HasMark (stand_of s) x mark → is_handover mark ≡ false → ((other : Mark) → Among other (marks_in s x) → is_handover other ≡ false)
    → (standing : Place) × HasStanding (marks_in s x) standing
kept_stands_by st (has_kept {m = m} k) un none = (standings.With m, with_by m st (has_kept k) none)
kept_stands_by st (has_outlet e same) un none = absurd (let h : true ≡ false = un in cc)
kept_stands_by st (has_intake e same) un none = absurd (let h : true ≡ false = un in cc)

pub each_stands : {b : ℕ → Between} {s : LineState} (x : ℕ) → ByNumbers b s → marks_in s x ≢ [] → (standing : Place) × HasStanding (marks_in s x) standing
each_stands {s = s} x st some =
    elim (one_or_none is_handover (marks_in s x)) [
      | inl p ↦ (standings.Between (link_of p.mark), passing_between x st p)
      | inr none ↦ let first = first_among (marks_in s x) some in kept_stands_by st (mark_stands s x first.0 first.1) (none first.0 first.1) none
    ]

pub kept_stands : {b : ℕ → Between} {s : LineState} {x : ℕ} (machine : ℕ) → ByNumbers b s → Kept x (node_at s machine).lane.body.kept
    → HasStanding (marks_in s x) (standings.With machine) ⊎ HasStanding (marks_in s x) (standings.Between machine)
kept_stands {s = s} {x = x} machine st kept =
    let own : HasMark (stand_of s) x (marks.Kept machine) = has_kept kept in
    elim (one_or_none is_handover (marks_in s x)) [
      | inl p ↦ inr (subst (λ (gap : ℕ). IsBetween gap (marks_in s x)) (same_link st (mark_stands s x p.mark p.there) own) (passing_between x st p))
      | inr none ↦ inl (with_by machine st own none)
    ]

pub out_stands : {b : ℕ → Between} {s : LineState} {x : ℕ} {r : Record} (gap : ℕ) → ByNumbers b s → held_out (node_at s gap).lane.body.outlet.phase ≡ Some r → r.id ≡ x → IsBetween gap (marks_in s x)
out_stands {s = s} {x = x} gap st e same = let own : HasMark (stand_of s) x (marks.Outlet gap) = has_outlet e same in between_by gap st own (eq-eqb gap gap refl) refl

pub in_stands : {b : ℕ → Between} {s : LineState} {x : ℕ} {r : Record} (gap : ℕ) → ByNumbers b s → held_in (node_at s (gap + 1)).lane.body.intake.phase ≡ Some r → r.id ≡ x → IsBetween gap (marks_in s x)
in_stands {s = s} {x = x} gap st e same = let own : HasMark (stand_of s) x (marks.Intake (gap + 1)) = has_intake e same in between_by gap st own (eq-eqb (gap + 1) (gap + 1) refl) (omega arith)

-- ---- the boards of the floor

pub all_both : (P : Board → Type 0) (xs ys : List Board) → AllByRecursion P xs → AllByRecursion P ys → AllByRecursion P (xs ++ ys)
all_both P [] ys before behind = behind
all_both P (x ∷ xs) ys before behind = (before.0, all_both P xs ys before.1 behind)

pub all_part : (P : Board → Type 0) (h : Option Record) (b : Bool) → ((r : Record) → h ≡ Some r → P (board_of r)) → AllByRecursion P (part h b)
all_part P None b each = tt
all_part P (Some r) true each = (each r refl, tt)
all_part P (Some r) false each = tt

pub all_kept : (P : Board → Type 0) (rs : List Record) → ((r : Record) → Kept r.id rs → P (board_of r)) → AllByRecursion P (map board_of rs)
all_kept P [] each = tt
all_kept P (r ∷ rs) each = (each r kept_first, all_kept P rs (λ other there. each other (kept_later there)))

listed_out : {b : ℕ → Between} {s : LineState} (j : ℕ) → ByNumbers b s → (r : Record) → held_out (node_at s (j + 1)).lane.body.outlet.phase ≡ Some r → IsListed s (j + 1) (board_of r)
listed_out j st r e = record { id = r.id; named = refl; stands = inr (inl (out_stands (j + 1) st e refl)) }

listed_kept : {b : ℕ → Between} {s : LineState} (j : ℕ) → ByNumbers b s → (r : Record) → Kept r.id (node_at s (j + 1)).lane.body.kept → IsListed s (j + 1) (board_of r)
listed_kept j st r kept = record { id = r.id; named = refl; stands = elim (kept_stands (j + 1) st kept) [ inl alone ↦ inl alone | inr between ↦ inr (inl between) ] }

listed_in : {b : ℕ → Between} {s : LineState} (j : ℕ) → ByNumbers b s → (r : Record) → held_in (node_at s (j + 1)).lane.body.intake.phase ≡ Some r → IsListed s (j + 1) (board_of r)
listed_in {s = s} j st r e =
    let above : j ≡ j + 1 - 1 = omega arith in
    record { id = r.id; named = refl; stands = inr (inr (subst (λ (gap : ℕ). IsBetween gap (marks_in s r.id)) above (in_stands j st e refl))) }

listed_at : {b : ℕ → Between} {s : LineState} (j : ℕ) → ByNumbers b s → AllByRecursion (IsListed s (j + 1)) (machine_at s.world.floor (j + 1)).boards
listed_at {b} {s} j st =
    let P : Board → Type 0 = IsListed s (j + 1) in
    let o : Option Record = held_out (node_at s (j + 1)).lane.body.outlet.phase in
    let rs : List Record = (node_at s (j + 1)).lane.body.kept in
    let i : Option Record = held_in (node_at s (j + 1)).lane.body.intake.phase in
    let up : Bool = is_upstream (b (j + 1)).ghost.place in
    let inside : Bool = is_inside (b j).ghost.place in
    subst (λ (bs : List Board). AllByRecursion P bs) (sym (st.keeps.machines.at j).boards.same)
    (all_both P (part o up) (map board_of rs ++ part i inside) (all_part P o up (listed_out j st)) (all_both P (map board_of rs) (part i inside) (all_kept P rs (listed_kept j st)) (all_part P i inside (listed_in j st))))

pub all_listed : {b : ℕ → Between} {s : LineState} (machine : ℕ) → ByNumbers b s → AllByRecursion (IsListed s machine) (machine_at s.world.floor machine).boards
all_listed zero st = tt
all_listed {s = s} (suc j) st = let next : j + 1 ≡ suc j = omega arith in subst (λ (m : ℕ). AllByRecursion (IsListed s m) (machine_at s.world.floor m).boards) next (listed_at j st)

handed_by : {b : ℕ → Between} {s : LineState} (gap : ℕ) → ByNumbers b s → (lies : Gap) → (gap_at s.world.floor gap).lies ≡ lies → AllByRecursion (IsHandedOver s gap) (boards_in lies)
handed_by gap st gaps.Free is = tt
handed_by {b} {s} gap st (gaps.Begun a) is =
    let found = board_begun (b gap).ghost (link_between (stand_of s gap) (b gap) (stand_of s (gap + 1))) a (st.keeps.neighbours.at gap).pair (ap (λ (g : AtGap). g.lies) (st.gaps gap) ∙ is) in
    (record { id = (b gap).ghost.board.id; named = found.1; stands = out_stands gap st found.0 refl }, tt)
handed_by {b} {s} gap st (gaps.Left a) is =
    let found = board_across (b gap).ghost (link_between (stand_of s gap) (b gap) (stand_of s (gap + 1))) a (st.keeps.neighbours.at gap).pair (ap (λ (g : AtGap). g.lies) (st.gaps gap) ∙ is) in
    (record { id = (b gap).ghost.board.id; named = found.1; stands = in_stands gap st found.0 refl }, tt)

-- ---- one id at most is in a handover

named_by : {b : ℕ → Between} {s : LineState} {x : ℕ} {mark : Mark} (gap : ℕ) → ByNumbers b s → HasMark (stand_of s) x mark → is_handed_at gap mark ≡ true → (b gap).ghost.board.id ≡ x
named_by gap st (has_kept k) handed = absurd (let h : false ≡ true = handed in cc)
named_by {s = s} gap st (has_outlet {m = m} {r = r} e same) handed =
    let own : held_out (node_at s gap).lane.body.outlet.phase ≡ Some r = subst (λ (n : ℕ). held_out (node_at s n).lane.body.outlet.phase ≡ Some r) (eqb-true m gap handed) e in
    ap (λ (q : Record). q.id) (out_holds (st.keeps.neighbours.at gap).pair.out own) ∙ same
named_by {s = s} gap st (has_intake {m = m} {r = r} e same) handed =
    let own : held_in (node_at s (gap + 1)).lane.body.intake.phase ≡ Some r = subst (λ (n : ℕ). held_in (node_at s n).lane.body.intake.phase ≡ Some r) (eqb-true m (gap + 1) handed) e in
    ap (λ (q : Record). q.id) (in_holds (st.keeps.neighbours.at gap).pair.in own) ∙ same

ghost_names : {b : ℕ → Between} {s : LineState} (gap x : ℕ) → ByNumbers b s → IsBetween gap (marks_in s x) → (b gap).ghost.board.id ≡ x
ghost_names {s = s} gap x st b =
    let p : Passes (is_handed_at gap) (marks_in s x) = passing (is_handed_at gap) (marks_in s x) b.handed in
    named_by gap st (mark_stands s x p.mark p.there) p.passes

-- ---- and all of it

kept_of : (s : LineState) (machine id : ℕ) → is_kept_at s machine id ≡ true → Kept id (node_at s machine).lane.body.kept
kept_of s machine id is = id_kept id (node_at s machine).lane.body.kept is

both_absurd : {b : ℕ → Between} {s : LineState} (machine id : ℕ) → ByNumbers b s → is_kept_at s machine id ≡ true → is_held_at s machine id ≡ true → ⊥
both_absurd {b} {s} machine id st kept held =
    let found = id_held id (held_out (node_at s machine).lane.body.outlet.phase) held in
    kept_unheld machine machine st.ends st.keeps (kept_of s machine id kept) found.1 found.2

pub one_standing_by : {b : ℕ → Between} {s : LineState} → ByNumbers b s → HasOneStanding s
one_standing_by {s = s} st = record {
  each = λ id some. each_stands id st some;
  listed = λ machine. all_listed machine st;
  handed_over = λ gap. handed_by gap st (gap_at s.world.floor gap).lies refl;
  kept_here = λ machine id is. part_lies_at st.ends st.keeps (in_middle (kept_of s machine id is));
  kept_alone = λ machine id kept held. both_absurd machine id st kept held;
  once = λ machine. st.keeps.apart.once machine;
  alone = λ gap id other one two. sym (ghost_names gap id st one) ∙ ghost_names gap other st two;
}

-- ---- of a line of a script

pub has_end : (t : Trace) (s : LineState) → Stands t s → HasEnd (stand_of s)
has_end t s st = record { kept = refl; outlet = refl; intake = ap held_in (st.rest 0 refl).intake }

pub by_numbers : {t : Trace} {s : LineState} → Stands t s → ByNumbers (between_of t s) s
by_numbers {t} {s} st = record { keeps = st.keeps; ends = has_end t s st; gaps = λ gap. refl }

pub one_standing_of : (t : Trace) (s : LineState) → Stands t s → HasOneStanding s
one_standing_of t s st = one_standing_by (by_numbers st)
