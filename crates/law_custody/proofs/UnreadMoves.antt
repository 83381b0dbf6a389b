-- A board that is let go behind the reading moves at the gap: what is unread stays behind the reading.
use Rattle.std.proofs.Common.{Bool, List, Ok, [], false, refl, subst, true, ◌++◌, ◌∷◌, ◌≡◌}
use Rattle.line_base.specs.declared.states.SensorEvent.{SensorEvent}
use Rattle.line_base.specs.declared.states.SensorEvent.TheVariants as event
use Rattle.line_base.specs.declared.states.Side.TheVariants as sides
use Rattle.board_record.specs.declared.sensed.Sensed.{Sensed}
use Rattle.line_world.specs.Moves.{Around, around_move, entry_sees, exit_sees}
use Rattle.line_world.specs.declared.board.Board.{Board}
use Rattle.line_world.specs.declared.gap.Gap.{Gap}
use Rattle.line_world.specs.declared.gap.Gap.TheVariants as gaps
use Rattle.line_world.specs.declared.moves.Move.{Move}
use Rattle.line_world.specs.declared.moves.Move.TheVariants as moves
use Rattle.law_custody.specs.Facts.{Has, has_first, has_later}
use Rattle.law_custody.specs.Floors.{parts_around}
use Rattle.law_custody.specs.Pair.{Ghost, LinkState}
use Rattle.law_custody.specs.Place.{MovesPlace, Place, begins, enters, goes_back, is_handed_in, is_lost, is_stolen, leaves}
use Rattle.law_custody.specs.Unread.{IsBehind, NotOver, not_over_home, not_over_lost}
use Rattle.law_custody.specs.Words.{events_at}
use Rattle.law_custody.proofs.LiftOut.{no_move, same_ok}
use Rattle.law_custody.proofs.Lists.{entry-append, exit-append}

-- an event that says of no board that it begins
data SaysLater : SensorEvent → Type 0 where
  says_left : SaysLater event.Left
  says_full : SaysLater event.Full
  says_back : SaysLater event.Back
  says_taken : SaysLater event.Taken

still_begun : {d : SensorEvent} → SaysLater d → (es : List SensorEvent) → Has event.Begun (es ++ (d ∷ [])) → Has event.Begun es
still_begun n [] has_first = elim n [ ]
still_begun n [] (has_later h) = elim h [ ]
still_begun n (e ∷ es) has_first = has_first
still_begun n (e ∷ es) (has_later h) = has_later (still_begun n es h)

exit_older : (us : List Sensed) (e : SensorEvent) → SaysLater e → Has event.Begun (events_at sides.Exit (us ++ (exit_sees e ∷ []))) → Has event.Begun (events_at sides.Exit us)
exit_older us e n h = still_begun n (events_at sides.Exit us) (subst (Has event.Begun) (exit-append us (exit_sees e ∷ [])) h)

entry_older : (us : List Sensed) (e : SensorEvent) → SaysLater e → Has event.Begun (events_at sides.Entry (us ++ (entry_sees e ∷ []))) → Has event.Begun (events_at sides.Entry us)
entry_older us e n h = still_begun n (events_at sides.Entry us) (subst (Has event.Begun) (entry-append us (entry_sees e ∷ [])) h)

-- behind a move no board has begun that had not before
record Older (uu du : List Sensed) (c : Around) : Type 0 where
  exit : Has event.Begun (events_at sides.Exit c.up.unread) → Has event.Begun (events_at sides.Exit uu)
  entry : Has event.Begun (events_at sides.Entry c.down.unread) → Has event.Begun (events_at sides.Entry du)

older_left : (a : Board) (ub db : List Board) (uu du : List Sensed) → Older uu du (parts_around ub (uu ++ (exit_sees event.Left ∷ [])) (gaps.Left a) false true db du)
older_left a ub db uu du = record { exit = exit_older uu event.Left says_left; entry = λ h. h }

older_in : (a : Board) (xd ed : Bool) (ub db : List Board) (uu du : List Sensed) → Older uu du (parts_around ub uu gaps.Free xd ed (db ++ (a ∷ [])) (du ++ (entry_sees event.Full ∷ [])))
older_in a xd ed ub db uu du = record { exit = λ h. h; entry = entry_older du event.Full says_full }

older_both : (e : SensorEvent) → SaysLater e → (xd ed : Bool) (ub db : List Board) (uu du : List Sensed) → Older uu du (parts_around ub (uu ++ (exit_sees e ∷ [])) gaps.Free xd ed db (du ++ (entry_sees e ∷ [])))
older_both e n xd ed ub db uu du = record { exit = exit_older uu e n; entry = entry_older du e n }

older : (step : Move) (c : Around) (xd ed : Bool) (lies : Gap) (ub db : List Board) (uu du : List Sensed) → (step ≡ moves.Begin → ⊥) → around_move step (parts_around ub uu lies xd ed db du) ≡ Ok c → Older uu du c
older moves.Begin c xd ed lies ub db uu du n e = absurd (n refl)
older moves.Left c true true (gaps.Begun a) ub db uu du n e = subst (Older uu du) (same_ok e) (older_left a ub db uu du)
older moves.Left c xd ed gaps.Free ub db uu du n e = absurd (no_move e)
older moves.Left c xd ed (gaps.Left a) ub db uu du n e = absurd (no_move e)
older moves.Left c false ed (gaps.Begun a) ub db uu du n e = absurd (no_move e)
older moves.Left c true false (gaps.Begun a) ub db uu du n e = absurd (no_move e)
older moves.Enter c xd true (gaps.Left a) ub db uu du n e = subst (Older uu du) (same_ok e) (older_in a xd false ub db uu du)
older moves.Enter c xd ed gaps.Free ub db uu du n e = absurd (no_move e)
older moves.Enter c xd ed (gaps.Begun a) ub db uu du n e = absurd (no_move e)
older moves.Enter c xd false (gaps.Left a) ub db uu du n e = absurd (no_move e)
older moves.HandIn c xd false (gaps.Left a) ub db uu du n e = subst (Older uu du) (same_ok e) (older_in a xd false ub db uu du)
older moves.HandIn c xd ed gaps.Free ub db uu du n e = absurd (no_move e)
older moves.HandIn c xd ed (gaps.Begun a) ub db uu du n e = absurd (no_move e)
older moves.HandIn c xd true (gaps.Left a) ub db uu du n e = absurd (no_move e)
older moves.Back c false ed (gaps.Begun a) ub db uu du n e = subst (Older uu du) (same_ok e) (older_both event.Back says_back false ed (a ∷ ub) db uu du)
older moves.Back c xd ed gaps.Free ub db uu du n e = absurd (no_move e)
older moves.Back c xd ed (gaps.Left a) ub db uu du n e = absurd (no_move e)
older moves.Back c true ed (gaps.Begun a) ub db uu du n e = absurd (no_move e)
older moves.Take c false ed (gaps.Begun a) ub db uu du n e = subst (Older uu du) (same_ok e) (older_both event.Taken says_taken false ed ub db uu du)
older moves.Take c xd false (gaps.Left a) ub db uu du n e = subst (Older uu du) (same_ok e) (older_both event.Taken says_taken xd false ub db uu du)
older moves.Take c xd ed gaps.Free ub db uu du n e = absurd (no_move e)
older moves.Take c true ed (gaps.Begun a) ub db uu du n e = absurd (no_move e)
older moves.Take c xd true (gaps.Left a) ub db uu du n e = absurd (no_move e)

-- and where the entry has still to read that its board begins, it has not gone across
placed : {H : Type 0} {step : Move} {p q : Place} → MovesPlace step p q → (step ≡ moves.Begin → ⊥) → (step ≡ moves.Left → H → ⊥) → (H → NotOver p) → H → NotOver q
placed begins n l before h = absurd (n refl)
placed leaves n l before h = absurd (l refl h)
placed enters n l before h = elim (before h) [ ]
placed is_handed_in n l before h = elim (before h) [ ]
placed goes_back n l before h = not_over_home
placed is_lost n l before h = not_over_lost
placed is_stolen n l before h = elim (before h) [ ]

pub moves_behind : (step : Move) (g : Ghost) (l : LinkState) (place : Place) (c : Around) → around_move step l.around ≡ Ok c → MovesPlace step g.place place
    → (step ≡ moves.Begin → ⊥) → (step ≡ moves.Left → Has event.Begun (events_at sides.Entry l.around.down.unread) → ⊥) → IsBehind g l
    → IsBehind (record { place = place; board = g.board }) (record l { around = c })
moves_behind step g l place c e m n left behind =
    let o = older step c l.around.between.exit_drive l.around.between.entry_drive l.around.between.lies l.around.up.boards l.around.down.boards l.around.up.unread l.around.down.unread n e in
    record { exit = λ h. behind.exit (o.exit h); entry = λ h. placed m n left behind.entry (o.entry h) }
