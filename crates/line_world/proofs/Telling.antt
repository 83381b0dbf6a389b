-- What each side has to read after a move.
use Rattle.std.proofs.Common.{◌≡◌, ◌∙◌, ◌+◌, ◌++◌, ◌∷◌, [], ℕ, List, refl, ap, append-nil}
use Rattle.line_base.specs.declared.states.Side.{Side}
use Rattle.line_base.specs.declared.states.Side.TheVariants as sides
use Rattle.line_base.specs.declared.states.SensorEvent.{SensorEvent}
use Rattle.board_record.specs.declared.sensed.Sensed.{Sensed}
use Rattle.line_world.specs.declared.moves.Move.{Move}
use Rattle.line_world.specs.declared.moves.Move.TheVariants as moves
use Rattle.line_world.specs.FloorPlan.{FloorPlan}
use Rattle.line_world.specs.Events.{ReachesBothSides, TellsBothSides, before_event, event_of, events_at, seen_at, told_at, unread_of}

before_append : (side at : Side) (event : SensorEvent) (first rest : List SensorEvent) → before_event side at event (first ++ rest) ≡ before_event side at event first ++ rest
before_append sides.Exit sides.Exit event first rest = refl
before_append sides.Exit sides.Entry event first rest = refl
before_append sides.Entry sides.Exit event first rest = refl
before_append sides.Entry sides.Entry event first rest = refl

pub events_append : (side : Side) (first rest : List Sensed) → events_at side (first ++ rest) ≡ events_at side first ++ events_at side rest
events_append side [] rest = refl
events_append side (sensed ∷ first) rest =
    ap (before_event side sensed.side sensed.event) (events_append side first rest) ∙ before_append side sensed.side sensed.event (events_at side first) (events_at side rest)

exit_told : (step : Move) → events_at sides.Exit (seen_at sides.Exit (event_of step)) ≡ told_at sides.Exit step
exit_told moves.Begin = refl
exit_told moves.Left = refl
exit_told moves.Enter = refl
exit_told moves.Back = refl
exit_told moves.HandIn = refl
exit_told moves.Take = refl

entry_told : (step : Move) → events_at sides.Entry (seen_at sides.Entry (event_of step)) ≡ told_at sides.Entry step
entry_told moves.Begin = refl
entry_told moves.Left = refl
entry_told moves.Enter = refl
entry_told moves.Back = refl
entry_told moves.HandIn = refl
entry_told moves.Take = refl

entry_spared : (step : Move) → events_at sides.Entry (seen_at sides.Exit (event_of step)) ≡ []
entry_spared moves.Begin = refl
entry_spared moves.Left = refl
entry_spared moves.Enter = refl
entry_spared moves.Back = refl
entry_spared moves.HandIn = refl
entry_spared moves.Take = refl

exit_spared : (step : Move) → events_at sides.Exit (seen_at sides.Entry (event_of step)) ≡ []
exit_spared moves.Begin = refl
exit_spared moves.Left = refl
exit_spared moves.Enter = refl
exit_spared moves.Back = refl
exit_spared moves.HandIn = refl
exit_spared moves.Take = refl

told : (side : Side) (old new seen : List Sensed) (events : List SensorEvent) → new ≡ old ++ seen → events_at side seen ≡ events → events_at side new ≡ events_at side old ++ events
told side old new seen events same is = rw same (events_append side old seen ∙ ap (λ more. events_at side old ++ more) is)

spared : (side : Side) (old new seen : List Sensed) → new ≡ old ++ seen → events_at side seen ≡ [] → events_at side new ≡ events_at side old
spared side old new seen same is = told side old new seen [] same is ∙ append-nil (events_at side old)

pub tells_both_sides : (gap : ℕ) (step : Move) (old new : FloorPlan) → ReachesBothSides gap step old new → TellsBothSides gap step old new
tells_both_sides gap step old new reaches =
    record {
      exit = told sides.Exit (unread_of old gap) (unread_of new gap) (seen_at sides.Exit (event_of step)) (told_at sides.Exit step) reaches.exit (exit_told step);
      entry = told sides.Entry (unread_of old (gap + 1)) (unread_of new (gap + 1)) (seen_at sides.Entry (event_of step)) (told_at sides.Entry step) reaches.entry (entry_told step);
      upstream_entry = spared sides.Entry (unread_of old gap) (unread_of new gap) (seen_at sides.Exit (event_of step)) reaches.exit (entry_spared step);
      downstream_exit = spared sides.Exit (unread_of old (gap + 1)) (unread_of new (gap + 1)) (seen_at sides.Entry (event_of step)) reaches.entry (exit_spared step);
    }
