-- The moves as the floor makes them: back and take.
use Rattle.std.proofs.Common.{Bool, List, Ok, [], false, refl, subst, true, ◌++◌, ◌∷◌, ◌≡◌}
use Rattle.line_base.specs.declared.states.SensorEvent.TheVariants as event
use Rattle.board_record.specs.declared.record.Record.{Record}
use Rattle.board_record.specs.declared.sensed.Sensed.{Sensed}
use Rattle.line_world.specs.Moves.{Around, around_move, entry_sees, exit_sees}
use Rattle.line_world.specs.declared.board.Board.{Board}
use Rattle.line_world.specs.declared.gap.Gap.{Gap}
use Rattle.line_world.specs.declared.gap.Gap.TheVariants as gaps
use Rattle.line_world.specs.declared.moves.Move.TheVariants as moves
use Rattle.handover_out.specs.declared.phase.Phase.{Phase as Out}
use Rattle.handover_in.specs.declared.phase.Phase.{Phase as In}
use Rattle.law_custody.specs.Floors.{Lifted, parts_around}
use Rattle.law_custody.specs.LookBack.{is_not_beyond, not_beyond_home, not_beyond_lost, not_beyond_stolen}
use Rattle.law_custody.specs.Pair.{Body, Ghost, LinkState, Pair}
use Rattle.law_custody.specs.Place.{Home, Lost, Place, Stolen}
use Rattle.law_custody.proofs.Bodies.{back_front, begun_below, begun_goes_back, begun_is_lost, begun_out, left_below, left_is_stolen, left_out, stays_below, stays_out}
use Rattle.law_custody.proofs.LiftOut.{no_move, same_ok}
use Rattle.law_custody.proofs.Lists.{entry-append, exit-append}
use Rattle.law_custody.proofs.MoveBack.{move_back, move_take_begun}
use Rattle.law_custody.proofs.MoveTake.{move_take_left}

pub lift_back_done : (l : LinkState) (g : Ghost) (kept : List Record) (j : In) (q : Place) (kept2 : List Record) (o2 : Out) (p2 : Place) (a : Board) (ed : Bool) (ub db : List Board) (uu du : List Sensed)
    → Pair g (record l { around = parts_around ub uu (gaps.Begun a) false ed db du }) → Body l.outlet.phase g.place kept j q ub → Body o2 p2 kept2 l.intake.phase g.place db
    → Lifted moves.Back l g kept j q kept2 o2 p2 (parts_around (a ∷ ub) (uu ++ (exit_sees event.Back ∷ [])) gaps.Free false ed db (du ++ (entry_sees event.Back ∷ [])))
lift_back_done l g kept j q kept2 o2 p2 a ed ub db uu du k s d =
    let m = move_back k.gap k.out k.in k.talk in
    record {
      place = Home;
      moves = begun_goes_back k.gap;
      pair = record { out = rw (exit-append uu (exit_sees event.Back ∷ [])) m.out; «in» = rw (entry-append du (entry_sees event.Back ∷ [])) m.in; gap = m.gap; talk = m.talk };
      body = back_front k.gap k.out s;
      below = stays_below (begun_below k.gap) refl d;
      lets = λ _ _. is_not_beyond not_beyond_home;
    }

pub lift_back : (l : LinkState) (g : Ghost) (kept : List Record) (j : In) (q : Place) (kept2 : List Record) (o2 : Out) (p2 : Place) (c : Around) (xd ed : Bool) (lies : Gap) (ub db : List Board) (uu du : List Sensed)
    → around_move moves.Back (parts_around ub uu lies xd ed db du) ≡ Ok c
    → Pair g (record l { around = parts_around ub uu lies xd ed db du }) → Body l.outlet.phase g.place kept j q ub → Body o2 p2 kept2 l.intake.phase g.place db
    → Lifted moves.Back l g kept j q kept2 o2 p2 c
lift_back l g kept j q kept2 o2 p2 c false ed (gaps.Begun a) ub db uu du e k s d = subst (Lifted moves.Back l g kept j q kept2 o2 p2) (same_ok e) (lift_back_done l g kept j q kept2 o2 p2 a ed ub db uu du k s d)
lift_back l g kept j q kept2 o2 p2 c xd ed gaps.Free ub db uu du e k s d = absurd (no_move e)
lift_back l g kept j q kept2 o2 p2 c xd ed (gaps.Left a) ub db uu du e k s d = absurd (no_move e)
lift_back l g kept j q kept2 o2 p2 c true ed (gaps.Begun a) ub db uu du e k s d = absurd (no_move e)

pub take_begun_done : (l : LinkState) (g : Ghost) (kept : List Record) (j : In) (q : Place) (kept2 : List Record) (o2 : Out) (p2 : Place) (a : Board) (ed : Bool) (ub db : List Board) (uu du : List Sensed)
    → Pair g (record l { around = parts_around ub uu (gaps.Begun a) false ed db du }) → Body l.outlet.phase g.place kept j q ub → Body o2 p2 kept2 l.intake.phase g.place db
    → Lifted moves.Take l g kept j q kept2 o2 p2 (parts_around ub (uu ++ (exit_sees event.Taken ∷ [])) gaps.Free false ed db (du ++ (entry_sees event.Taken ∷ [])))
take_begun_done l g kept j q kept2 o2 p2 a ed ub db uu du k s d =
    let m = move_take_begun k.gap k.out k.in k.talk in
    record { place = Lost; moves = begun_is_lost k.gap; pair = record { out = rw (exit-append uu (exit_sees event.Taken ∷ [])) m.out; «in» = rw (entry-append du (entry_sees event.Taken ∷ [])) m.in; gap = m.gap; talk = m.talk }; body = stays_out (begun_out k.gap) refl s; below = stays_below (begun_below k.gap) refl d; lets = λ _ _. is_not_beyond not_beyond_lost }

pub take_left_done : (l : LinkState) (g : Ghost) (kept : List Record) (j : In) (q : Place) (kept2 : List Record) (o2 : Out) (p2 : Place) (a : Board) (xd : Bool) (ub db : List Board) (uu du : List Sensed)
    → Pair g (record l { around = parts_around ub uu (gaps.Left a) xd false db du }) → Body l.outlet.phase g.place kept j q ub → Body o2 p2 kept2 l.intake.phase g.place db
    → Lifted moves.Take l g kept j q kept2 o2 p2 (parts_around ub (uu ++ (exit_sees event.Taken ∷ [])) gaps.Free xd false db (du ++ (entry_sees event.Taken ∷ [])))
take_left_done l g kept j q kept2 o2 p2 a xd ub db uu du k s d =
    let m = move_take_left k.gap k.out k.in k.talk in
    record { place = Stolen; moves = left_is_stolen k.gap; pair = record { out = rw (exit-append uu (exit_sees event.Taken ∷ [])) m.out; «in» = rw (entry-append du (entry_sees event.Taken ∷ [])) m.in; gap = m.gap; talk = m.talk }; body = stays_out (left_out k.gap) refl s; below = stays_below (left_below k.gap) refl d; lets = λ _ _. is_not_beyond not_beyond_stolen }

pub lift_take : (l : LinkState) (g : Ghost) (kept : List Record) (j : In) (q : Place) (kept2 : List Record) (o2 : Out) (p2 : Place) (c : Around) (xd ed : Bool) (lies : Gap) (ub db : List Board) (uu du : List Sensed)
    → around_move moves.Take (parts_around ub uu lies xd ed db du) ≡ Ok c
    → Pair g (record l { around = parts_around ub uu lies xd ed db du }) → Body l.outlet.phase g.place kept j q ub → Body o2 p2 kept2 l.intake.phase g.place db
    → Lifted moves.Take l g kept j q kept2 o2 p2 c
lift_take l g kept j q kept2 o2 p2 c xd ed gaps.Free ub db uu du e k s d = absurd (no_move e)
lift_take l g kept j q kept2 o2 p2 c true ed (gaps.Begun a) ub db uu du e k s d = absurd (no_move e)
lift_take l g kept j q kept2 o2 p2 c false ed (gaps.Begun a) ub db uu du e k s d = subst (Lifted moves.Take l g kept j q kept2 o2 p2) (same_ok e) (take_begun_done l g kept j q kept2 o2 p2 a ed ub db uu du k s d)
lift_take l g kept j q kept2 o2 p2 c xd true (gaps.Left a) ub db uu du e k s d = absurd (no_move e)
lift_take l g kept j q kept2 o2 p2 c xd false (gaps.Left a) ub db uu du e k s d = subst (Lifted moves.Take l g kept j q kept2 o2 p2) (same_ok e) (take_left_done l g kept j q kept2 o2 p2 a xd ub db uu du k s d)
