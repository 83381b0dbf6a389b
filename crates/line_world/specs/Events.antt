use Rattle.std.specs.Prelude.{◌≡◌, ◌≢◌, ◌+◌, ◌++◌, ◌∷◌, [], ℕ, Bool, true, false, List, if◌then◌else◌}
use Rattle.line_base.specs.declared.states.Side.{Side}
use Rattle.line_base.specs.declared.states.Side.TheVariants as sides
use Rattle.line_base.specs.declared.states.SensorEvent.{SensorEvent}
use Rattle.line_base.specs.declared.states.SensorEvent.TheVariants as sensors
use Rattle.board_record.specs.declared.sensed.Sensed.{Sensed}
use Rattle.line_world.specs.declared.moves.Move.{Move}
use Rattle.line_world.specs.declared.moves.Move.TheVariants as moves
use Rattle.line_world.specs.FloorPlan.{FloorPlan, machine_at}

-- what there is to be seen of a move
abbrev pub event_of : Move → SensorEvent
event_of moves.Begin = sensors.Begun
event_of moves.Left = sensors.Left
event_of moves.Enter = sensors.Full
event_of moves.Back = sensors.Back
event_of moves.HandIn = sensors.Full
event_of moves.Take = sensors.Taken

-- the exit's sensor can't see that a board is wholly inside the downstream machine, nor the
-- entry's that it has left the upstream one
abbrev pub can_see : Side → SensorEvent → Bool
can_see sides.Exit sensors.Begun = true
can_see sides.Exit sensors.Left = true
can_see sides.Exit sensors.Full = false
can_see sides.Exit sensors.Back = true
can_see sides.Exit sensors.Taken = true
can_see sides.Entry sensors.Begun = true
can_see sides.Entry sensors.Left = false
can_see sides.Entry sensors.Full = true
can_see sides.Entry sensors.Back = true
can_see sides.Entry sensors.Taken = true

abbrev pub seen_at : Side → SensorEvent → List Sensed
seen_at side event = if can_see side event then record { side = side; event = event } ∷ [] else []

abbrev pub unread_of : FloorPlan → ℕ → List Sensed
unread_of plan machine = (machine_at plan machine).unread

-- the move's event reaches the two sides of its gap, as far as their sensors can see it, as the
-- last one that each has to read; and it reaches no one else
pub record ReachesBothSides (gap : ℕ) (step : Move) (old new : FloorPlan) : Type 0 where
  pub exit : unread_of new gap ≡ unread_of old gap ++ seen_at sides.Exit (event_of step)
  pub entry : unread_of new (gap + 1) ≡ unread_of old (gap + 1)
      ++ seen_at sides.Entry (event_of step)
  pub others : (machine : ℕ) → machine ≢ gap → machine ≢ gap + 1
      → unread_of new machine ≡ unread_of old machine

-- the same said by move and side: a board that has left is seen at the exit alone, and one that is
-- wholly inside at the entry alone
abbrev pub told_at : Side → Move → List SensorEvent
told_at sides.Exit moves.Begin = sensors.Begun ∷ []
told_at sides.Exit moves.Left = sensors.Left ∷ []
told_at sides.Exit moves.Enter = []
told_at sides.Exit moves.Back = sensors.Back ∷ []
told_at sides.Exit moves.HandIn = []
told_at sides.Exit moves.Take = sensors.Taken ∷ []
told_at sides.Entry moves.Begin = sensors.Begun ∷ []
told_at sides.Entry moves.Left = []
told_at sides.Entry moves.Enter = sensors.Full ∷ []
told_at sides.Entry moves.Back = sensors.Back ∷ []
told_at sides.Entry moves.HandIn = sensors.Full ∷ []
told_at sides.Entry moves.Take = sensors.Taken ∷ []

-- the events of one side of a machine, out of those of both
abbrev pub before_event : Side → Side → SensorEvent → List SensorEvent → List SensorEvent
before_event sides.Exit sides.Exit event events = event ∷ events
before_event sides.Exit sides.Entry event events = events
before_event sides.Entry sides.Exit event events = events
before_event sides.Entry sides.Entry event events = event ∷ events

abbrev pub events_at : Side → List Sensed → List SensorEvent
events_at side [] = []
events_at side (sensed ∷ more) = before_event side sensed.side sensed.event (events_at side more)

abbrev pub unread_at : FloorPlan → ℕ → Side → List SensorEvent
unread_at plan machine side = events_at side (unread_of plan machine)

-- a move is told at the exit of the upstream machine and at the entry of the downstream one, each
-- as the last that is to be read there; at their other sides nothing is
pub record TellsBothSides (gap : ℕ) (step : Move) (old new : FloorPlan) : Type 0 where
  pub exit : unread_at new gap sides.Exit ≡ unread_at old gap sides.Exit ++ told_at sides.Exit step
  pub entry : unread_at new (gap + 1) sides.Entry ≡ unread_at old (gap + 1) sides.Entry
      ++ told_at sides.Entry step
  pub upstream_entry : unread_at new gap sides.Entry ≡ unread_at old gap sides.Entry
  pub downstream_exit : unread_at new (gap + 1) sides.Exit ≡ unread_at old (gap + 1) sides.Exit
