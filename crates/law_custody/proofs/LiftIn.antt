-- The moves as the floor makes them: in and hand-in.
use Rattle.std.proofs.Common.{Bool, List, Ok, [], false, refl, subst, true, ◌++◌, ◌∷◌, ◌≡◌}
use Rattle.line_base.specs.declared.states.SensorEvent.TheVariants as event
use Rattle.board_record.specs.declared.record.Record.{Record}
use Rattle.board_record.specs.declared.sensed.Sensed.{Sensed}
use Rattle.line_world.specs.Moves.{Around, around_move, entry_sees}
use Rattle.line_world.specs.declared.board.Board.{Board}
use Rattle.line_world.specs.declared.gap.Gap.{Gap}
use Rattle.line_world.specs.declared.gap.Gap.TheVariants as gaps
use Rattle.line_world.specs.declared.moves.Move.TheVariants as moves
use Rattle.handover_out.specs.declared.phase.Phase.{Phase as Out}
use Rattle.handover_in.specs.declared.phase.Phase.{Phase as In}
use Rattle.law_custody.specs.Floors.{Lifted, parts_around}
use Rattle.law_custody.specs.Pair.{Body, Ghost, LinkState, Pair}
use Rattle.law_custody.specs.Place.{Inside, Place}
use Rattle.law_custody.proofs.Bodies.{comes_in, left_enters, left_is_handed_in, left_out, stays_out}
use Rattle.law_custody.proofs.Facts.{left_held_downstream}
use Rattle.law_custody.proofs.Lets.{lets_inside}
use Rattle.law_custody.proofs.LiftOut.{no_move, same_ok}
use Rattle.law_custody.proofs.Lists.{entry-append}
use Rattle.law_custody.proofs.MoveIn.{move_in}

pub lift_enter_done : (l : LinkState) (g : Ghost) (kept : List Record) (j : In) (q : Place) (kept2 : List Record) (o2 : Out) (p2 : Place) (a : Board) (xd : Bool) (ub db : List Board) (uu du : List Sensed)
    → Pair g (record l { around = parts_around ub uu (gaps.Left a) xd true db du }) → Body l.outlet.phase g.place kept j q ub → Body o2 p2 kept2 l.intake.phase g.place db
    → Lifted moves.Enter l g kept j q kept2 o2 p2 (parts_around ub uu gaps.Free xd false (db ++ (a ∷ [])) (du ++ (entry_sees event.Full ∷ [])))
lift_enter_done l g kept j q kept2 o2 p2 a xd ub db uu du k s d =
    let m = move_in true k.out k.in k.gap k.talk in
    record {
      place = Inside;
      moves = left_enters k.gap;
      pair = record { out = m.out; «in» = rw (entry-append du (entry_sees event.Full ∷ [])) m.in; gap = m.gap; talk = m.talk };
      body = stays_out (left_out k.gap) refl s;
      below = comes_in k.gap (left_held_downstream k.gap k.in) d;
      lets = λ _ n. lets_inside k.gap n;
    }

pub lift_enter : (l : LinkState) (g : Ghost) (kept : List Record) (j : In) (q : Place) (kept2 : List Record) (o2 : Out) (p2 : Place) (c : Around) (xd ed : Bool) (lies : Gap) (ub db : List Board) (uu du : List Sensed)
    → around_move moves.Enter (parts_around ub uu lies xd ed db du) ≡ Ok c
    → Pair g (record l { around = parts_around ub uu lies xd ed db du }) → Body l.outlet.phase g.place kept j q ub → Body o2 p2 kept2 l.intake.phase g.place db
    → Lifted moves.Enter l g kept j q kept2 o2 p2 c
lift_enter l g kept j q kept2 o2 p2 c xd true (gaps.Left a) ub db uu du e k s d = subst (Lifted moves.Enter l g kept j q kept2 o2 p2) (same_ok e) (lift_enter_done l g kept j q kept2 o2 p2 a xd ub db uu du k s d)
lift_enter l g kept j q kept2 o2 p2 c xd ed gaps.Free ub db uu du e k s d = absurd (no_move e)
lift_enter l g kept j q kept2 o2 p2 c xd ed (gaps.Begun a) ub db uu du e k s d = absurd (no_move e)
lift_enter l g kept j q kept2 o2 p2 c xd false (gaps.Left a) ub db uu du e k s d = absurd (no_move e)

pub lift_hand_in_done : (l : LinkState) (g : Ghost) (kept : List Record) (j : In) (q : Place) (kept2 : List Record) (o2 : Out) (p2 : Place) (a : Board) (xd : Bool) (ub db : List Board) (uu du : List Sensed)
    → Pair g (record l { around = parts_around ub uu (gaps.Left a) xd false db du }) → Body l.outlet.phase g.place kept j q ub → Body o2 p2 kept2 l.intake.phase g.place db
    → Lifted moves.HandIn l g kept j q kept2 o2 p2 (parts_around ub uu gaps.Free xd false (db ++ (a ∷ [])) (du ++ (entry_sees event.Full ∷ [])))
lift_hand_in_done l g kept j q kept2 o2 p2 a xd ub db uu du k s d =
    let m = move_in false k.out k.in k.gap k.talk in
    record {
      place = Inside;
      moves = left_is_handed_in k.gap;
      pair = record { out = m.out; «in» = rw (entry-append du (entry_sees event.Full ∷ [])) m.in; gap = m.gap; talk = m.talk };
      body = stays_out (left_out k.gap) refl s;
      below = comes_in k.gap (left_held_downstream k.gap k.in) d;
      lets = λ _ n. lets_inside k.gap n;
    }

pub lift_hand_in : (l : LinkState) (g : Ghost) (kept : List Record) (j : In) (q : Place) (kept2 : List Record) (o2 : Out) (p2 : Place) (c : Around) (xd ed : Bool) (lies : Gap) (ub db : List Board) (uu du : List Sensed)
    → around_move moves.HandIn (parts_around ub uu lies xd ed db du) ≡ Ok c
    → Pair g (record l { around = parts_around ub uu lies xd ed db du }) → Body l.outlet.phase g.place kept j q ub → Body o2 p2 kept2 l.intake.phase g.place db
    → Lifted moves.HandIn l g kept j q kept2 o2 p2 c
lift_hand_in l g kept j q kept2 o2 p2 c xd false (gaps.Left a) ub db uu du e k s d = subst (Lifted moves.HandIn l g kept j q kept2 o2 p2) (same_ok e) (lift_hand_in_done l g kept j q kept2 o2 p2 a xd ub db uu du k s d)
lift_hand_in l g kept j q kept2 o2 p2 c xd ed gaps.Free ub db uu du e k s d = absurd (no_move e)
lift_hand_in l g kept j q kept2 o2 p2 c xd ed (gaps.Begun a) ub db uu du e k s d = absurd (no_move e)
lift_hand_in l g kept j q kept2 o2 p2 c xd true (gaps.Left a) ub db uu du e k s d = absurd (no_move e)
