-- Words for what is read off the relation.
use Rattle.std.specs.Prelude.{List, ℕ, ◌∷◌}
use Rattle.line_base.specs.declared.states.SensorEvent.{SensorEvent}
use Rattle.line_base.specs.declared.states.SensorEvent.TheVariants as event
use Rattle.line_base.specs.declared.states.Transfer.{Transfer}
use Rattle.board_record.specs.declared.record.Record.{Record}
use Rattle.session_core.specs.declared.state.SessionState.{SessionState}
use Rattle.session_core.specs.declared.state.SessionState.TheVariants.{Handshake, Standing}
use Rattle.law_custody.specs.Place.{Across, Inside, Lost, Place, Stolen}
use Rattle.law_custody.specs.Words.{BoardAvailable, DownWord, MachineReady, RevokeBoardAvailable, RevokeMachineReady, StartTransport, StopTransport, TransportFinished, UpWord}

-- an event is among the unread ones
pub data Has : SensorEvent → List SensorEvent → Type 0 where
  has_first : {e : SensorEvent} {es : List SensorEvent} → Has e (e ∷ es)
  has_later : {e d : SensorEvent} {es : List SensorEvent} → Has e es → Has e (d ∷ es)

-- a word is in flight to the outlet, or to the intake
pub data HasUp : UpWord → List UpWord → Type 0 where
  up_first : {w : UpWord} {ws : List UpWord} → HasUp w (w ∷ ws)
  up_later : {w v : UpWord} {ws : List UpWord} → HasUp w ws → HasUp w (v ∷ ws)

pub data HasDown : DownWord → List DownWord → Type 0 where
  down_first : {w : DownWord} {ws : List DownWord} → HasDown w (w ∷ ws)
  down_later : {w v : DownWord} {ws : List DownWord} → HasDown w ws → HasDown w (v ∷ ws)

-- what an exit's sensor tells of a board that is gone from its machine
pub data TellsOf : Place → SensorEvent → Type 0 where
  tells_across : TellsOf Across event.Left
  tells_inside : TellsOf Inside event.Left
  tells_lost : TellsOf Lost event.Taken
  tells_stolen : TellsOf Stolen event.Taken

-- the words that only a standing session takes; each description is for a handshake
pub data IsTraffic : UpWord → Type 0 where
  is_ready : IsTraffic MachineReady
  is_revoke_ready : IsTraffic RevokeMachineReady
  is_start : {z : ℕ} → IsTraffic (StartTransport z)
  is_stop : {z : ℕ} → IsTraffic (StopTransport z)

pub data IsTold : DownWord → Type 0 where
  is_available : {r : Record} → IsTold (BoardAvailable r)
  is_revoke_available : IsTold RevokeBoardAvailable
  is_finished : {e : Transfer} {z : ℕ} → IsTold (TransportFinished e z)

-- a session with a connection
pub data IsOpen : SessionState → Type 0 where
  open_handshake : IsOpen Handshake
  open_standing : IsOpen Standing
