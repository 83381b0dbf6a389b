-- What a move does to the boards of the two machines.
use Rattle.std.proofs.Common.{List, Option, Some, [], ap, append-nil, append_assoc, false, map, refl, sym, true, ◌++◌, ◌∙◌, ◌∷◌, ◌≡◌}
use Rattle.line_base.specs.declared.states.SensorEvent.{SensorEvent}
use Rattle.board_record.specs.declared.record.Record.{Record}
use Rattle.line_world.specs.declared.board.Board.{Board}
use Rattle.line_world.specs.declared.gap.Gap.TheVariants as gaps
use Rattle.handover_out.specs.State.{board_of_phase as held_out}
use Rattle.handover_out.specs.declared.phase.Phase.{Phase as Out}
use Rattle.handover_in.specs.State.{board_of_phase as held_in}
use Rattle.handover_in.specs.declared.phase.Phase.{Phase as In}
use Rattle.law_custody.specs.Floor.{ExitFloor, GapAt, at_start, begun_read, begun_unread, both_unread, gap_begun, gap_left, left_unread, out_ended, out_idle, stuck_begun, stuck_left}
use Rattle.law_custody.specs.Pair.{Body, board_of, part}
use Rattle.line_world.specs.declared.moves.Move.TheVariants as moves
use Rattle.law_custody.specs.Place.{Home, InGap, Inside, Lost, MovesPlace, Place, Stolen, enters, goes_back, is_handed_in, is_inside, is_lost, is_stolen, is_upstream}
use Rattle.law_custody.proofs.Rows.{same}

pub same_front : {a b : Board} {xs ys : List Board} → a ∷ xs ≡ b ∷ ys → a ≡ b
same_front e = cc

pub same_rest : {a b : Board} {xs ys : List Board} → a ∷ xs ≡ b ∷ ys → xs ≡ ys
same_rest e = cc

-- the board that begins is the outlet's
pub record Begins (o : Out) (r : Record) (kept : List Record) (j : In) (q : Place) (front : Board) (rest : List Board) : Type 0 where
  pub front_is : front ≡ board_of r
  pub body : Body o InGap kept j q rest

pub front_begins : {o : Out} {ue : List SensorEvent} {p : Place} {r : Record} {kept : List Record} {j : In} {q : Place} {front : Board} {rest : List Board}
    → ExitFloor o ue true p r → GapAt gaps.Free p r → Body o p kept j q (front ∷ rest) → Begins o r kept j q front rest
front_begins at_start g s = record { front_is = same_front s.same; body = record { same = same_rest s.same } }
front_begins begun_unread g s = elim g [ ]
front_begins begun_read g s = elim g [ ]

pub fresh_below : {o : Out} {ue : List SensorEvent} {p : Place} {r : Record} → ExitFloor o ue true p r → GapAt gaps.Free p r → is_inside p ≡ false
fresh_below at_start g = refl
fresh_below begun_unread g = refl
fresh_below begun_read g = refl

-- the board that comes back lay before the kept ones
pub back_front : {o : Out} {ue : List SensorEvent} {a : Board} {p : Place} {r : Record} {kept : List Record} {j : In} {q : Place} {boards : List Board}
    → GapAt (gaps.Begun a) p r → ExitFloor o ue false p r → Body o p kept j q boards → Body o Home kept j q (a ∷ boards)
back_front gap_begun (stuck_begun {r = r}) s = record { same = ap (λ xs. board_of r ∷ xs) s.same }
back_front gap_begun (out_idle _ n) s = elim n [ ]
back_front gap_begun (out_ended _ n) s = elim n [ ]
back_front gap_begun (both_unread n) s = elim n [ ]
back_front gap_begun (left_unread n) s = elim n [ ]
back_front gap_begun (stuck_left n) s = elim n [ ]

-- a board that is neither before nor behind the kept ones
pub stays_out : {o : Out} {kept : List Record} {j : In} {q p p2 : Place} {boards : List Board} → is_upstream p ≡ false → is_upstream p2 ≡ false → Body o p kept j q boards
    → Body o p2 kept j q boards
stays_out {o = o} {kept = kept} {j = j} {q = q} e e2 s = record { same = s.same ∙ ap (λ t. part (held_out o) t ++ (map board_of kept ++ part (held_in j) (is_inside q))) (e ∙ sym e2) }

pub stays_below : {o : Out} {kept : List Record} {j : In} {p q q2 : Place} {boards : List Board} → is_inside q ≡ false → is_inside q2 ≡ false → Body o p kept j q boards
    → Body o p kept j q2 boards
stays_below {o = o} {kept = kept} {j = j} {p = p} e e2 s = record { same = s.same ∙ ap (λ t. part (held_out o) (is_upstream p) ++ (map board_of kept ++ part (held_in j) t)) (e ∙ sym e2) }

pub begun_below : {a : Board} {p : Place} {r : Record} → GapAt (gaps.Begun a) p r → is_inside p ≡ false
begun_below gap_begun = refl

pub left_below : {a : Board} {p : Place} {r : Record} → GapAt (gaps.Left a) p r → is_inside p ≡ false
left_below gap_left = refl

-- where a move takes the board from what lies in the gap
pub begun_goes_back : {a : Board} {p : Place} {r : Record} → GapAt (gaps.Begun a) p r → MovesPlace moves.Back p Home
begun_goes_back gap_begun = goes_back

pub begun_is_lost : {a : Board} {p : Place} {r : Record} → GapAt (gaps.Begun a) p r → MovesPlace moves.Take p Lost
begun_is_lost gap_begun = is_lost

pub left_is_stolen : {a : Board} {p : Place} {r : Record} → GapAt (gaps.Left a) p r → MovesPlace moves.Take p Stolen
left_is_stolen gap_left = is_stolen

pub left_enters : {a : Board} {p : Place} {r : Record} → GapAt (gaps.Left a) p r → MovesPlace moves.Enter p Inside
left_enters gap_left = enters

pub left_is_handed_in : {a : Board} {p : Place} {r : Record} → GapAt (gaps.Left a) p r → MovesPlace moves.HandIn p Inside
left_is_handed_in gap_left = is_handed_in

-- the board that comes in lies behind the kept ones
pub part_out : {h : Option Record} {r : Record} → h ≡ Some r → part h false ≡ []
part_out e = rw e refl

pub part_in : {h : Option Record} {r : Record} → h ≡ Some r → part h true ≡ board_of r ∷ []
part_in e = rw e refl

pub comes_last : (xs ys boards : List Board) (h : Option Record) (r : Record) → boards ≡ xs ++ (ys ++ part h false) → h ≡ Some r → boards ++ (board_of r ∷ []) ≡ xs ++ (ys ++ part h true)
comes_last xs ys boards h r same e = rw (part_in e, same, part_out e, append-nil ys, append_assoc xs ys (board_of r ∷ []))

pub comes_in : {o : Out} {a : Board} {p q : Place} {r : Record} {kept : List Record} {j : In} {boards : List Board}
    → GapAt (gaps.Left a) q r → held_in j ≡ Some r → Body o p kept j q boards → Body o p kept j Inside (boards ++ (a ∷ []))
comes_in {o = o} {p = p} {kept = kept} {j = j} {boards = boards} gap_left e s = record { same = comes_last (part (held_out o) (is_upstream p)) (map board_of kept) boards (held_in j) _ s.same e }

pub begun_out : {a : Board} {p : Place} {r : Record} → GapAt (gaps.Begun a) p r → is_upstream p ≡ false
begun_out gap_begun = refl

pub left_out : {a : Board} {p : Place} {r : Record} → GapAt (gaps.Left a) p r → is_upstream p ≡ false
left_out gap_left = refl

pub begun_is : {a : Board} {p : Place} {r : Record} → GapAt (gaps.Begun a) p r → a ≡ board_of r
begun_is gap_begun = refl
