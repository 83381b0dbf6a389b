-- The moves as the floor makes them: begin and left.
use Rattle.std.proofs.Common.{Bool, Err, List, Ok, Result, [], false, refl, subst, true, ◌++◌, ◌∷◌, ◌≡◌}
use Rattle.line_base.specs.declared.states.SensorEvent.TheVariants as event
use Rattle.board_record.specs.declared.record.Record.{Record}
use Rattle.board_record.specs.declared.sensed.Sensed.{Sensed}
use Rattle.line_world.specs.Moves.{Around, around_move, entry_sees, exit_sees}
use Rattle.line_world.specs.declared.board.Board.{Board}
use Rattle.line_world.specs.declared.gap.Gap.{Gap}
use Rattle.line_world.specs.declared.gap.Gap.TheVariants as gaps
use Rattle.line_world.specs.declared.moves.Move.TheVariants as moves
use Rattle.line_world.specs.declared.moves.MoveNo.{MoveNo}
use Rattle.handover_out.specs.declared.phase.Phase.{Phase as Out}
use Rattle.handover_in.specs.declared.phase.Phase.{Phase as In}
use Rattle.law_custody.specs.Floors.{Lifted, parts_around}
use Rattle.law_custody.specs.LookBack.{is_not_beyond, not_beyond_gap}
use Rattle.law_custody.specs.Pair.{Body, Ghost, LinkState, Pair}
use Rattle.law_custody.specs.Place.{Across, InGap, Place, begins, leaves}
use Rattle.law_custody.proofs.Bodies.{begun_below, begun_is, begun_out, fresh_below, front_begins, stays_below, stays_out}
use Rattle.law_custody.proofs.Lets.{lets_across}
use Rattle.law_custody.proofs.Lists.{entry-append, exit-append}
use Rattle.law_custody.proofs.MoveOut.{move_begin, move_left}

pub same_ok : {a c : Around} → ◌≡◌ {A = Result Around MoveNo} (Ok a) (Ok c) → a ≡ c
same_ok e = cc

pub no_move : {why : MoveNo} {c : Around} → ◌≡◌ {A = Result Around MoveNo} (Err why) (Ok c) → ⊥
no_move e = cc

pub lift_begun : (l : LinkState) (g : Ghost) (kept : List Record) (j : In) (q : Place) (kept2 : List Record) (o2 : Out) (p2 : Place) (ed : Bool) (front : Board) (rest db : List Board) (uu du : List Sensed)
    → Pair g (record l { around = parts_around (front ∷ rest) uu gaps.Free true ed db du }) → Body l.outlet.phase g.place kept j q (front ∷ rest) → Body o2 p2 kept2 l.intake.phase g.place db
    → Lifted moves.Begin l g kept j q kept2 o2 p2 (parts_around rest (uu ++ (exit_sees event.Begun ∷ [])) (gaps.Begun front) true ed db (du ++ (entry_sees event.Begun ∷ [])))
lift_begun l g kept j q kept2 o2 p2 ed front rest db uu du k s d =
    let m = move_begin k.out k.in k.gap k.talk in
    let n = front_begins k.out k.gap s in
    record {
      place = InGap;
      moves = begins;
      pair = record { out = rw (exit-append uu (exit_sees event.Begun ∷ [])) m.out; «in» = rw (entry-append du (entry_sees event.Begun ∷ [])) m.in; gap = rw n.front_is m.gap; talk = m.talk };
      body = n.body;
      below = stays_below (fresh_below k.out k.gap) refl d;
      lets = λ _ _. is_not_beyond not_beyond_gap;
    }

pub lift_begin : (l : LinkState) (g : Ghost) (kept : List Record) (j : In) (q : Place) (kept2 : List Record) (o2 : Out) (p2 : Place) (c : Around) (xd ed : Bool) (lies : Gap) (ub db : List Board) (uu du : List Sensed)
    → around_move moves.Begin (parts_around ub uu lies xd ed db du) ≡ Ok c
    → Pair g (record l { around = parts_around ub uu lies xd ed db du }) → Body l.outlet.phase g.place kept j q ub → Body o2 p2 kept2 l.intake.phase g.place db
    → Lifted moves.Begin l g kept j q kept2 o2 p2 c
lift_begin l g kept j q kept2 o2 p2 c false ed lies ub db uu du e k s d = absurd (no_move e)
lift_begin l g kept j q kept2 o2 p2 c true ed (gaps.Begun a) ub db uu du e k s d = absurd (no_move e)
lift_begin l g kept j q kept2 o2 p2 c true ed (gaps.Left a) ub db uu du e k s d = absurd (no_move e)
lift_begin l g kept j q kept2 o2 p2 c true ed gaps.Free [] db uu du e k s d = absurd (no_move e)
lift_begin l g kept j q kept2 o2 p2 c true ed gaps.Free (front ∷ rest) db uu du e k s d = subst (Lifted moves.Begin l g kept j q kept2 o2 p2) (same_ok e) (lift_begun l g kept j q kept2 o2 p2 ed front rest db uu du k s d)

pub lift_left_done : (l : LinkState) (g : Ghost) (kept : List Record) (j : In) (q : Place) (kept2 : List Record) (o2 : Out) (p2 : Place) (a : Board) (ub db : List Board) (uu du : List Sensed)
    → Pair g (record l { around = parts_around ub uu (gaps.Begun a) true true db du }) → Body l.outlet.phase g.place kept j q ub → Body o2 p2 kept2 l.intake.phase g.place db
    → Lifted moves.Left l g kept j q kept2 o2 p2 (parts_around ub (uu ++ (exit_sees event.Left ∷ [])) (gaps.Left a) false true db du)
lift_left_done l g kept j q kept2 o2 p2 a ub db uu du k s d =
    let m = move_left k.out k.in k.gap k.talk in
    record {
      place = Across;
      moves = leaves;
      pair = record { out = rw (exit-append uu (exit_sees event.Left ∷ [])) m.out; «in» = m.in; gap = rw (begun_is k.gap) m.gap; talk = m.talk };
      body = stays_out (begun_out k.gap) refl s;
      below = stays_below (begun_below k.gap) refl d;
      lets = λ _ _. lets_across k.gap k.out;
    }

pub lift_left : (l : LinkState) (g : Ghost) (kept : List Record) (j : In) (q : Place) (kept2 : List Record) (o2 : Out) (p2 : Place) (c : Around) (xd ed : Bool) (lies : Gap) (ub db : List Board) (uu du : List Sensed)
    → around_move moves.Left (parts_around ub uu lies xd ed db du) ≡ Ok c
    → Pair g (record l { around = parts_around ub uu lies xd ed db du }) → Body l.outlet.phase g.place kept j q ub → Body o2 p2 kept2 l.intake.phase g.place db
    → Lifted moves.Left l g kept j q kept2 o2 p2 c
lift_left l g kept j q kept2 o2 p2 c true true (gaps.Begun a) ub db uu du e k s d = subst (Lifted moves.Left l g kept j q kept2 o2 p2) (same_ok e) (lift_left_done l g kept j q kept2 o2 p2 a ub db uu du k s d)
lift_left l g kept j q kept2 o2 p2 c xd ed gaps.Free ub db uu du e k s d = absurd (no_move e)
lift_left l g kept j q kept2 o2 p2 c xd ed (gaps.Left a) ub db uu du e k s d = absurd (no_move e)
lift_left l g kept j q kept2 o2 p2 c false ed (gaps.Begun a) ub db uu du e k s d = absurd (no_move e)
lift_left l g kept j q kept2 o2 p2 c true false (gaps.Begun a) ub db uu du e k s d = absurd (no_move e)
