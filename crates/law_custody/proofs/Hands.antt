-- Changes by hand: a board is inserted, removed, replaced, marked. Nobody does so to a board that a half holds.
use Rattle.std.proofs.Common.{Bool, List, None, Option, Some, [], ap, append-nil, append_assoc, false, map, refl, subst, sym, true, ◌++◌, ◌∙◌, ◌∷◌, ◌≡◌}
use Rattle.std.proofs.lemmas.List.{map-append}
use Rattle.board_record.specs.declared.record.Record.{Record}
use Rattle.line_world.specs.declared.board.Board.{Board}
use Rattle.handover_out.specs.State.{board_of_phase as held_out}
use Rattle.handover_out.specs.declared.phase.Phase.{Phase as Out}
use Rattle.handover_in.specs.State.{board_of_phase as held_in}
use Rattle.handover_in.specs.declared.phase.Phase.{Phase as In}
use Rattle.handover_in.specs.declared.phase.Phase.TheVariants as inn
use Rattle.law_custody.specs.Hands.{BoardFor, BoardOut, IsOther, PutFor, TakenOut, board_here, board_later, for_here, for_later, out_here, out_later, put_here, put_later}
use Rattle.law_custody.specs.Pair.{Body, board_of, part}
use Rattle.law_custody.specs.Place.{Place, is_inside, is_upstream}

-- inserted behind the kept ones, while the intake holds nothing
inserted : (xs ys : List Board) (b : Board) → (xs ++ (ys ++ [])) ++ (b ∷ []) ≡ xs ++ ((ys ++ (b ∷ [])) ++ [])
inserted xs ys b = ap (λ z. (xs ++ z) ++ (b ∷ [])) (append-nil ys) ∙ append_assoc xs ys (b ∷ []) ∙ ap (λ z. xs ++ z) (sym (append-nil (ys ++ (b ∷ []))))

pub body_inserted : {o : Out} {p : Place} {kept : List Record} {q : Place} {boards : List Board} (r : Record) → Body o p kept inn.Idle q boards
    → Body o p (kept ++ (r ∷ [])) inn.Idle q (boards ++ (board_of r ∷ []))
body_inserted {o = o} {p = p} {kept = kept} r s = record {
  same = ap (λ bs. bs ++ (board_of r ∷ [])) s.same ∙ inserted (part (held_out o) (is_upstream p)) (map board_of kept) (board_of r)
      ∙ ap (λ z. part (held_out o) (is_upstream p) ++ (z ++ [])) (sym (map-append board_of kept (r ∷ [])));
}

-- taken out of the kept ones, and put for one of them
out_kept : {q : Record} {ks js : List Record} (zs : List Board) → TakenOut q ks js → BoardOut q (map board_of ks ++ zs) (map board_of js ++ zs)
out_kept zs out_here = board_here
out_kept zs (out_later e t) = board_later e (out_kept zs t)

for_kept : {q n : Record} {ks js : List Record} (zs : List Board) → PutFor q n ks js → BoardFor q n (map board_of ks ++ zs) (map board_of js ++ zs)
for_kept zs put_here = for_here
for_kept zs (put_later e t) = for_later e (for_kept zs t)

out_part : {q : Record} {xs ys : List Board} (h : Option Record) (u : Bool) → IsOther q h → BoardOut q xs ys → BoardOut q (part h u ++ xs) (part h u ++ ys)
out_part None u _ b = b
out_part (Some r) true e b = board_later e b
out_part (Some r) false e b = b

for_part : {q n : Record} {xs ys : List Board} (h : Option Record) (u : Bool) → IsOther q h → BoardFor q n xs ys → BoardFor q n (part h u ++ xs) (part h u ++ ys)
for_part None u _ b = b
for_part (Some r) true e b = for_later e b
for_part (Some r) false e b = b

-- a machine's boards after a removal and after a replacement
pub record BodyOut (q : Record) (o : Out) (p : Place) (js : List Record) (i : In) (at : Place) (boards : List Board) : Type 0 where
  pub after : List Board
  pub out : BoardOut q boards after
  pub body : Body o p js i at after

pub body_removed : {q : Record} {o : Out} {p : Place} {ks js : List Record} {i : In} {at : Place} {boards : List Board}
    → TakenOut q ks js → IsOther q (held_out o) → Body o p ks i at boards → BodyOut q o p js i at boards
body_removed {q = q} {o = o} {p = p} {js = js} {i = i} {at = at} t e s = record {
  after = part (held_out o) (is_upstream p) ++ (map board_of js ++ part (held_in i) (is_inside at));
  out = subst (λ bs. BoardOut q bs (part (held_out o) (is_upstream p) ++ (map board_of js ++ part (held_in i) (is_inside at)))) (sym s.same) (out_part (held_out o) (is_upstream p) e (out_kept (part (held_in i) (is_inside at)) t));
  body = record { same = refl };
}

pub record BodyFor (q n : Record) (o : Out) (p : Place) (js : List Record) (i : In) (at : Place) (boards : List Board) : Type 0 where
  pub after : List Board
  pub put : BoardFor q n boards after
  pub body : Body o p js i at after

pub body_replaced : {q n : Record} {o : Out} {p : Place} {ks js : List Record} {i : In} {at : Place} {boards : List Board}
    → PutFor q n ks js → IsOther q (held_out o) → Body o p ks i at boards → BodyFor q n o p js i at boards
body_replaced {q = q} {n = n} {o = o} {p = p} {js = js} {i = i} {at = at} t e s = record {
  after = part (held_out o) (is_upstream p) ++ (map board_of js ++ part (held_in i) (is_inside at));
  put = subst (λ bs. BoardFor q n bs (part (held_out o) (is_upstream p) ++ (map board_of js ++ part (held_in i) (is_inside at)))) (sym s.same) (for_part (held_out o) (is_upstream p) e (for_kept (part (held_in i) (is_inside at)) t));
  body = record { same = refl };
}

-- a mark keeps the id, and so the boards
same_boards : {q n : Record} {ks js : List Record} → n.id ≡ q.id → PutFor q n ks js → map board_of js ≡ map board_of ks
same_boards e (put_here {ks = ks}) = ap (λ x. record { id = Some x } ∷ map board_of ks) e
same_boards e (put_later {r = r} _ t) = ap (λ bs. board_of r ∷ bs) (same_boards e t)

pub body_marked : {q n : Record} {o : Out} {p : Place} {ks js : List Record} {i : In} {at : Place} {boards : List Board}
    → n.id ≡ q.id → PutFor q n ks js → Body o p ks i at boards → Body o p js i at boards
body_marked {o = o} {p = p} {i = i} {at = at} e t s = record { same = s.same ∙ ap (λ bs. part (held_out o) (is_upstream p) ++ (bs ++ part (held_in i) (is_inside at))) (sym (same_boards e t)) }
