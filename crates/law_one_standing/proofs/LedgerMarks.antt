-- The marks of a line that stands in its relation, beside a ledger: a machine's ids differ, and each is old.
use Rattle.std.proofs.Common.{Bool, List, None, Option, Some, [], ap, arith, eq-eqb, false, inl, inr, map, refl, subst, suc, sym, true, zero, ℕ, ◌++◌, ◌+◌, ◌-◌, ◌==◌, ◌||◌, ◌∙◌, ◌∷◌, ◌≡◌, ◌⊎◌}
use Rattle.std.proofs.lemmas.Option.{none-some}
use Rattle.std.proofs.lemmas.List.Folds.{list_any-append}
use Rattle.std.proofs.lemmas.Bool.{or_right}
use Rattle.board_record.specs.declared.record.Record.{Record}
use Rattle.line_world.specs.declared.board.Board.{Board}
use Rattle.handover_out.specs.State.{board_of_phase as held_out}
use Rattle.handover_in.specs.State.{board_of_phase as held_in}
use Rattle.node_core.specs.Own.{id_of, ids_of, one_of, own_of}
use Rattle.law_custody.specs.Contents.{Kept}
use Rattle.law_custody.specs.Pair.{board_of, part}
use Rattle.law_custody.specs.Place.{is_inside, is_upstream}
use Rattle.law_machine_custody.specs.Good.{Lies, lies_first, lies_later}
use Rattle.standings.specs.Ledger.{Ledger, are_different, empty_ledger, has_entry, ledger_after_all}
use Rattle.standings.specs.Marks.{Owned, Where, has_at, has_id, has_mark, intake, is_held, kept, mark_at, outlet}
use Rattle.standings.specs.declared.deed.Deed.{Deed}
use Rattle.standings.specs.declared.mark.Mark.{Mark}
use Rattle.standings.specs.declared.mark.Mark.TheVariants as marks
use Rattle.standings.proofs.Machines.{marks_are_found}
use Rattle.line_step.specs.Numbered.{node_at}
use Rattle.line_step.specs.State.{LineState, marks_in, owned_by}
use Rattle.step_rules.specs.Makers.{IsOld}
use Rattle.law_one_standing.specs.Carried.{Trace, between_of, stand_of}
use Rattle.law_one_standing.specs.Places.{LiesAt, Spot, at_machine, in_gap, lies_at, lies_in}
use Rattle.law_one_standing.specs.Replay.{IsLedgerOf}
use Rattle.law_one_standing.specs.Standing.{AreOnce, once_more, once_none}
use Rattle.law_one_standing.specs.Stands.{Stands}
use Rattle.law_one_standing.proofs.ApartFloor.{lies_on_floor}
use Rattle.law_one_standing.proofs.ApartStep.{floor_old}
use Rattle.law_one_standing.proofs.LedgerSteps.{all_of, both_not}
use Rattle.law_one_standing.proofs.LedgerTurns.{different_first, different_rest, entry_at, has_first}
use Rattle.law_one_standing.proofs.MarksOf.{HasMark, has_among, has_intake, has_kept, has_outlet, id_held, id_kept, mark_stands, owned_is}
use Rattle.law_one_standing.proofs.MarksPlace.{IsAt, Position, is_between, is_gone, is_listed, kept_unheld, part_lies_at, once_rest, once_behind, map_lies}
use Rattle.law_one_standing.proofs.OneStand.{at_link, has_end, same_link, ByNumbers, by_numbers}
use Rattle.law_one_standing.specs.Relation.{Between}

-- ---- each id with a mark is old

spot_old : {t : Trace} {s : LineState} {x : ℕ} (p : Spot) → Stands t s → LiesAt (stand_of s) (between_of t s) x p → IsOld 1 s.machines x
spot_old {t} {s} {x} p st l = floor_old s x st.ids (lies_on_floor t s x p st.ids.whole l)

position_old : {t : Trace} {s : LineState} {x : ℕ} {p : Position} → Stands t s → IsAt (stand_of s) (between_of t s) x p → IsOld 1 s.machines x
position_old {t} {s} st (is_listed {m = m} part) = spot_old (at_machine m) st (lies_at (part_lies_at (has_end t s st) st.keeps part))
position_old st (is_between {k = k} l) = spot_old (in_gap k) st (lies_in l)
position_old {x = x} st (is_gone {k = k} gone) = st.olds k x gone

pub mark_old : {t : Trace} {s : LineState} {x : ℕ} {mark : Mark} → Stands t s → HasMark (stand_of s) x mark → IsOld 1 s.machines x
mark_old st has = position_old st (at_link (by_numbers st) has).is

pub taken_old : {t : Trace} {s : LineState} (machine id : ℕ) → Stands t s → (own_of (node_at s machine).lane.body).taking ≡ Some id → IsOld 1 s.machines id
taken_old {s = s} machine id st is =
    let found = id_held id (held_in (node_at s machine).lane.body.intake.phase) (ap (is_held id) is ∙ eq-eqb id id refl) in
    mark_old {mark = marks.Intake machine} st (has_intake found.1 found.2)

-- ---- the ids of a machine differ

pub not_in : (x : ℕ) (ids : List ℕ) → (has_id x ids ≡ true → ⊥) → has_id x ids ≡ false
not_in x ids none = not_by (has_id x ids) refl where
  not_by : (b : Bool) → has_id x ids ≡ b → b ≡ false
  not_by false is = refl
  not_by true is = absurd (none is)

pub different_join : (xs ys : List ℕ) → are_different xs ≡ true → are_different ys ≡ true → ((x : ℕ) → has_id x xs ≡ true → has_id x ys ≡ true → ⊥) → are_different (xs ++ ys) ≡ true
different_join [] ys one two apart = two
different_join (x ∷ xs) ys one two apart =
    both_not (has_id x (xs ++ ys)) (are_different (xs ++ ys))
    (list_any-append (λ (other : ℕ). other == x) xs ys ∙ rw (different_first x xs one, not_in x ys (apart x (has_first x xs))) refl)
    (different_join xs ys (different_rest x xs one) two (λ y there. apart y (or_right (x == y) (has_id y xs) there)))

pub one_different : (h : Option ℕ) → are_different (one_of h) ≡ true
one_different None = refl
one_different (Some id) = refl

pub held_has : (x : ℕ) (h : Option Record) → has_id x (one_of (id_of h)) ≡ true → is_held x (id_of h) ≡ true
held_has x None is = is
held_has x (Some r) is = held_by (r.id == x) is where
  held_by : (b : Bool) → (b || false) ≡ true → b ≡ true
  held_by true is = refl
  held_by false is = is

pub held_is : (x : ℕ) (h : Option Record) → has_id x (one_of (id_of h)) ≡ true → (r : Record) × (h ≡ Some r) × (r.id ≡ x)
held_is x h is = id_held x h (held_has x h is)

pub once_front : (xs ys : List Board) → AreOnce (xs ++ ys) → AreOnce xs
once_front [] ys once = once_none
once_front (x ∷ xs) ys (once_more here more) = once_more (λ id is l. here id is (lies_before ys l)) (once_front xs ys more) where
  lies_before : {x : ℕ} {xs : List Board} (ys : List Board) → Lies x xs → Lies x (xs ++ ys)
  lies_before ys lies_first = lies_first
  lies_before ys (lies_later l) = lies_later (lies_before ys l)

pub once_first : (id : ℕ) {boards : List Board} → AreOnce (record { id = Some id } ∷ boards) → Lies id boards → ⊥
once_first id (once_more here more) l = here id refl l

pub kept_different : (rs : List Record) → AreOnce (map board_of rs) → are_different (ids_of rs) ≡ true
kept_different [] once = refl
kept_different (r ∷ rs) once = both_not (has_id r.id (ids_of rs)) (are_different (ids_of rs)) (not_in r.id (ids_of rs) (λ has. once_first r.id once (map_lies (id_kept r.id rs has)))) (kept_different rs (once_rest once))

pub has_either : (x : ℕ) (a b : List ℕ) → has_id x (a ++ b) ≡ true → (has_id x a ≡ true) ⊎ (has_id x b ≡ true)
has_either x a b has = either_by (has_id x a) (sym (list_any-append (λ (other : ℕ). other == x) a b) ∙ has) where
  either_by : (c : Bool) → (c || has_id x b) ≡ true → (c ≡ true) ⊎ (has_id x b ≡ true)
  either_by true is = inl refl
  either_by false is = inr is

pub in_own_gap : (j : ℕ) → j + 1 ≡ j + 1 - 1 → ⊥
in_own_gap j e = omega (arith, e)

pub kept_alone : {b : ℕ → Between} {s : LineState} {x : ℕ} {r : Record} (j : ℕ) → ByNumbers b s → Kept x (node_at s (j + 1)).lane.body.kept → held_in (node_at s (j + 1)).lane.body.intake.phase ≡ Some r → r.id ≡ x → ⊥
kept_alone {s = s} {x = x} j st k e same = in_own_gap j (same_link {mark = marks.Kept (j + 1)} {other = marks.Intake (j + 1)} st (has_kept k) (has_intake e same))

held_alone : {b : ℕ → Between} {s : LineState} {x : ℕ} {q r : Record} (j : ℕ) → ByNumbers b s → held_out (node_at s (j + 1)).lane.body.outlet.phase ≡ Some q → q.id ≡ x → held_in (node_at s (j + 1)).lane.body.intake.phase ≡ Some r → r.id ≡ x → ⊥
held_alone {s = s} {x = x} j st f also e same = in_own_gap j (same_link {mark = marks.Outlet (j + 1)} {other = marks.Intake (j + 1)} st (has_outlet f also) (has_intake e same))

differ_at : {b : ℕ → Between} {s : LineState} (j : ℕ) → ByNumbers b s → are_different (all_of (own_of (node_at s (j + 1)).lane.body)) ≡ true
differ_at {b} {s} j st =
    let o : Option Record = held_out (node_at s (j + 1)).lane.body.outlet.phase in
    let rs : List Record = (node_at s (j + 1)).lane.body.kept in
    let i : Option Record = held_in (node_at s (j + 1)).lane.body.intake.phase in
    let up : Bool = is_upstream (b (j + 1)).ghost.place in
    let inside : Bool = is_inside (b j).ghost.place in
    let once : AreOnce (map board_of rs) =
    once_front (map board_of rs) (part i inside) (once_behind (part o up) (map board_of rs ++ part i inside) (subst (λ (bs : List Board). AreOnce bs) (st.keeps.machines.at j).boards.same (st.keeps.apart.once (j + 1)))) in
    different_join (one_of (id_of o)) (ids_of rs ++ one_of (id_of i)) (one_different (id_of o))
    (different_join (ids_of rs) (one_of (id_of i)) (kept_different rs once) (one_different (id_of i)) (λ x one two. let into = held_is x i two in kept_alone j st (id_kept x rs one) into.1 into.2))
    (λ x one two. let out = held_is x o one in
    elim (has_either x (ids_of rs) (one_of (id_of i)) two) [
      | inl here ↦ kept_unheld (j + 1) (j + 1) st.ends st.keeps (id_kept x rs here) out.1 out.2
      | inr there ↦ let into = held_is x i there in held_alone j st out.1 out.2 into.1 into.2
    ])

pub differ_by : {b : ℕ → Between} {s : LineState} (machine : ℕ) → ByNumbers b s → are_different (all_of (own_of (node_at s machine).lane.body)) ≡ true
differ_by zero st = refl
differ_by {s = s} (suc j) st = let next : j + 1 ≡ suc j = omega arith in subst (λ (m : ℕ). are_different (all_of (own_of (node_at s m).lane.body)) ≡ true) next (differ_at j st)

pub differ_of : {t : Trace} {s : LineState} (machine : ℕ) → Stands t s → are_different (all_of (own_of (node_at s machine).lane.body)) ≡ true
differ_of machine st = differ_by machine (by_numbers st)

-- ---- the ledger of a line, place by place

-- beside each machine the ledger has its marks, and the ids that were named are old
pub record FitsLine (Old : ℕ → Type 0) (s : LineState) (ledger : Ledger) : Type 0 where
  pub past : List Deed
  pub is : ledger ≡ ledger_after_all empty_ledger past
  pub all : (place : Where) (machine x : ℕ) → has_entry (entry_at machine place x) ledger.marks ≡ has_at place (owned_by (node_at s machine)) x
  pub olds : (x : ℕ) → has_id x ledger.seen ≡ true → Old x

none_at_end : (s : LineState) (place : Where) (x : ℕ) → HasMark (stand_of s) x (mark_at place 0) → ⊥
none_at_end s kept x (has_kept k) = elim k [ ]
none_at_end s outlet x (has_outlet {r = r} e same) = none-some r e
none_at_end s intake x (has_intake {r = r} e same) = none-some r e

no_marks : (place : Where) (x : ℕ) (s : LineState) → has_at place (owned_by (node_at s 0)) x ≡ false
no_marks kept x s = refl
no_marks outlet x s = refl
no_marks intake x s = refl

pub mark_at_machine : (s : LineState) (place : Where) (machine x : ℕ) → has_mark (mark_at place machine) (marks_in s x) ≡ has_at place (owned_by (node_at s machine)) x
mark_at_machine s place zero x = none_by (has_mark (mark_at place 0) (marks_in s x)) refl ∙ sym (no_marks place x s) where
  none_by : (b : Bool) → has_mark (mark_at place 0) (marks_in s x) ≡ b → b ≡ false
  none_by false is = refl
  none_by true is = absurd (none_at_end s place x (mark_stands s x (mark_at place 0) (has_among (mark_at place 0) (marks_in s x) is)))
mark_at_machine s place (suc before) x =
    let next : suc before ≡ before + 1 = omega arith in
    ap (λ (n : ℕ). has_mark (mark_at place n) (marks_in s x)) next ∙ marks_are_found place before (map owned_by s.machines) x ∙ ap (λ (o : Owned). has_at place o x) (owned_is s.machines before)

pub ledger_of : {Old : ℕ → Type 0} (s : LineState) (ledger : Ledger) → FitsLine Old s ledger → IsLedgerOf ledger s
ledger_of s ledger fits entry = by entry.id entry.mark where
  by : (x : ℕ) (mark : Mark) → has_entry (record { id = x; mark = mark }) ledger.marks ≡ has_mark mark (marks_in s x)
  by x (marks.Kept machine) = fits.all kept machine x ∙ sym (mark_at_machine s kept machine x)
  by x (marks.Outlet machine) = fits.all outlet machine x ∙ sym (mark_at_machine s outlet machine x)
  by x (marks.Intake machine) = fits.all intake machine x ∙ sym (mark_at_machine s intake machine x)

pub entries_of : (s : LineState) (ledger : Ledger) → IsLedgerOf ledger s → (place : Where) (machine x : ℕ) → has_entry (entry_at machine place x) ledger.marks ≡ has_at place (owned_by (node_at s machine)) x
entries_of s ledger fits place machine x = fits (entry_at machine place x) ∙ mark_at_machine s place machine x
