-- The moves that are done: what is around the gap before each of them and after it.
use Rattle.std.specs.Prelude.{◌≡◌, ◌++◌, ◌∷◌, [], ℕ, Bool, true, false, List}
use Rattle.line_base.specs.declared.states.SensorEvent.TheVariants as sensors
use Rattle.board_record.specs.declared.sensed.Sensed.{Sensed}
use Rattle.line_world.specs.declared.board.Board.{Board}
use Rattle.line_world.specs.declared.gap.Gap.{Gap}
use Rattle.line_world.specs.declared.gap.Gap.TheVariants.{Free, Begun, Left}
use Rattle.line_world.specs.declared.moves.Move.{Move}
use Rattle.line_world.specs.declared.moves.Move.TheVariants as moves
use Rattle.line_world.specs.FloorPlan.{FloorPlan, IsGap}
use Rattle.line_world.specs.Moves.{Around, around_of, with_around, exit_sees, entry_sees}

-- a gap with its machines by their parts: the upstream machine's boards and unread events, what
-- lies in the gap, the exit drive and the entry drive, the downstream machine's boards and events
abbrev pub around_by : List Board → List Sensed → Gap → Bool → Bool → List Board → List Sensed
    → Around
around_by above seen lies exit entry below heard = record {
  up = record { boards = above; unread = seen };
  between = record { lies = lies; exit_drive = exit; entry_drive = entry };
  down = record { boards = below; unread = heard };
}

pub data IsMove : Move → Around → Around → Type 0 where
  begins : {above below : List Board} {seen heard : List Sensed} {entry : Bool} {board : Board}
      → IsMove moves.Begin (around_by (board ∷ above) seen Free true entry below heard)
      (around_by above (seen ++ exit_sees sensors.Begun ∷ []) (Begun board) true entry below (heard
      ++ entry_sees sensors.Begun ∷ []))
  leaves : {above below : List Board} {seen heard : List Sensed} {board : Board}
      → IsMove moves.Left (around_by above seen (Begun board) true true below heard)
      (around_by above (seen ++ exit_sees sensors.Left ∷ []) (Left board) false true below heard)
  enters : {above below : List Board} {seen heard : List Sensed} {exit : Bool} {board : Board}
      → IsMove moves.Enter (around_by above seen (Left board) exit true below heard)
      (around_by above seen Free exit false (below ++ board ∷ []) (heard
      ++ entry_sees sensors.Full ∷ []))
  goes_back : {above below : List Board} {seen heard : List Sensed} {entry : Bool} {board : Board}
      → IsMove moves.Back (around_by above seen (Begun board) false entry below heard)
      (around_by (board ∷ above) (seen ++ exit_sees sensors.Back ∷ []) Free false entry below
      (heard ++ entry_sees sensors.Back ∷ []))
  is_handed_in : {above below : List Board} {seen heard : List Sensed} {exit : Bool}
      {board : Board}
      → IsMove moves.HandIn (around_by above seen (Left board) exit false below heard)
      (around_by above seen Free exit false (below ++ board ∷ []) (heard
      ++ entry_sees sensors.Full ∷ []))
  begun_is_taken : {above below : List Board} {seen heard : List Sensed} {entry : Bool}
      {board : Board}
      → IsMove moves.Take (around_by above seen (Begun board) false entry below heard)
      (around_by above (seen ++ exit_sees sensors.Taken ∷ []) Free false entry below (heard
      ++ entry_sees sensors.Taken ∷ []))
  left_is_taken : {above below : List Board} {seen heard : List Sensed} {exit : Bool}
      {board : Board}
      → IsMove moves.Take (around_by above seen (Left board) exit false below heard)
      (around_by above (seen ++ exit_sees sensors.Taken ∷ []) Free exit false below (heard
      ++ entry_sees sensors.Taken ∷ []))

-- and on the floor: the gap is there, and only what is around it changes
pub record IsFloorMove (gap : ℕ) (step : Move) (old new : FloorPlan) : Type 0 where
  pub there : IsGap old gap
  pub around : Around
  pub done : IsMove step (around_of old gap) around
  pub after : new ≡ with_around old gap around
