-- The floor's own words for a board that is taken out by hand, or gets another id.
use Rattle.std.proofs.Common.{List, None, Some, ap, arith, drop, eq-eqb, length, not, refl, remove, slice_set, subst, suc, sym, take, true, ℕ, ◌++◌, ◌+◌, ◌<◌, ◌∙◌, ◌∷◌, ◌≡◌}
use Rattle.std.proofs.lemmas.Bool.{cond-false, cond-true, lt-ltb}
use Rattle.std.specs.List.{prefix_len}
use Rattle.board_record.specs.declared.record.Record.{Record}
use Rattle.line_world.specs.FloorPlan.{has_id, place_of, with_new_id, without_board}
use Rattle.line_world.specs.declared.board.Board.{Board}
use Rattle.handover_out.specs.State.{board_of_phase as held_out}
use Rattle.handover_out.specs.declared.phase.Phase.{Phase as Out}
use Rattle.handover_in.specs.declared.phase.Phase.{Phase as In}
use Rattle.law_custody.specs.Hands.{BoardFor, BoardOut, IsOther, PutFor, TakenOut, board_here, board_later, for_here, for_later}
use Rattle.law_custody.specs.Pair.{Body, board_of}
use Rattle.law_custody.specs.Place.{Place}
use Rattle.law_custody.proofs.Hands.{body_removed, body_replaced}

same_id : (q : Record) → has_id q.id (board_of q) ≡ true
same_id q = eq-eqb q.id q.id refl

-- how many boards stand before the first one of an id
pub record OutAt (q : Record) (bs cs : List Board) : Type 0 where
  pub before : ℕ
  pub is : prefix_len (λ b. not (has_id q.id b)) bs ≡ before
  pub within : before < length bs
  pub left : take before bs ++ drop (suc before) bs ≡ cs

out_at : {q : Record} {bs cs : List Board} → BoardOut q bs cs → OutAt q bs cs
out_at {q = q} (board_here {bs = bs}) = record { before = 0; is = cond-false _ _ _ (ap not (same_id q)); within = omega arith; left = refl }
out_at {q = q} (board_later {b = b} {bs = bs} e t) =
    let r = out_at t in
    let one : 1 + r.before ≡ suc r.before = omega arith in
    record { before = suc r.before; is = cond-true (not (has_id q.id b)) (1 + prefix_len (λ b. not (has_id q.id b)) bs) 0 (ap not e) ∙ ap (λ n. 1 + n) r.is ∙ one; within = omega (arith, r.within); left = ap (λ bs. b ∷ bs) r.left }

placed : (q : Record) (bs : List Board) (n : ℕ) → prefix_len (λ b. not (has_id q.id b)) bs ≡ n → n < length bs → place_of q.id bs ≡ Some n
placed q bs n is within = cond-true _ _ _ (lt-ltb _ _ (subst (λ k. k < length bs) (sym is) within)) ∙ ap (λ n. Some n) is

pub without_board_is : {q : Record} {bs cs : List Board} → BoardOut q bs cs → without_board q.id bs ≡ cs
without_board_is {q = q} {bs = bs} t =
    let r = out_at t in
    ap (λ place. elim place [ None ↦ bs | Some place ↦ remove bs place ]) (placed q bs r.before r.is r.within) ∙ r.left

pub removes_board : {q : Record} {o : Out} {p : Place} {ks js : List Record} {i : In} {at : Place} {boards : List Board}
    → TakenOut q ks js → IsOther q (held_out o) → Body o p ks i at boards → Body o p js i at (without_board q.id boards)
removes_board {o = o} {p = p} {js = js} {i = i} {at = at} t e s = let r = body_removed t e s in subst (λ bs. Body o p js i at bs) (sym (without_board_is r.out)) r.body

-- another id in its place
pub record ForAt (q n : Record) (bs cs : List Board) : Type 0 where
  pub before : ℕ
  pub is : prefix_len (λ b. not (has_id q.id b)) bs ≡ before
  pub within : before < length bs
  pub put : slice_set bs before (board_of n) ≡ cs

for_at : {q n : Record} {bs cs : List Board} → BoardFor q n bs cs → ForAt q n bs cs
for_at {q = q} (for_here {bs = bs}) = record { before = 0; is = cond-false _ _ _ (ap not (same_id q)); within = omega arith; put = refl }
for_at {q = q} (for_later {b = b} {bs = bs} e t) =
    let r = for_at t in
    let one : 1 + r.before ≡ suc r.before = omega arith in
    record { before = suc r.before; is = cond-true (not (has_id q.id b)) (1 + prefix_len (λ b. not (has_id q.id b)) bs) 0 (ap not e) ∙ ap (λ n. 1 + n) r.is ∙ one; within = omega (arith, r.within); put = ap (λ bs. b ∷ bs) r.put }

pub with_new_id_is : {q n : Record} {bs cs : List Board} → BoardFor q n bs cs → with_new_id q.id n.id bs ≡ cs
with_new_id_is {q = q} {n = n} {bs = bs} t =
    let r = for_at t in
    ap (λ place. elim place [ None ↦ bs | Some place ↦ slice_set bs place (board_of n) ]) (placed q bs r.before r.is r.within) ∙ r.put

pub replaces_board : {q n : Record} {o : Out} {p : Place} {ks js : List Record} {i : In} {at : Place} {boards : List Board}
    → PutFor q n ks js → IsOther q (held_out o) → Body o p ks i at boards → Body o p js i at (with_new_id q.id n.id boards)
replaces_board {o = o} {p = p} {js = js} {i = i} {at = at} t e s = let r = body_replaced t e s in subst (λ bs. Body o p js i at bs) (sym (with_new_id_is r.put)) r.body
