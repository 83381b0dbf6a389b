-- Each end of a link by itself, once the link doesn't stand: a cut, an end that closed, a newer
-- connection. What this end still hears is what was in flight to it; what it says vanishes.
use Rattle.std.specs.Prelude.{Bool, List, None, Option, Some, [], false, true, ℕ, ◌∷◌}
use Rattle.line_base.specs.declared.states.Seen.{Seen}
use Rattle.line_base.specs.declared.states.Seen.TheVariants as seen
use Rattle.line_base.specs.declared.states.Transfer.TheVariants as transfer
use Rattle.board_record.specs.declared.record.Record.{Record}
use Rattle.session_core.specs.declared.state.SessionState.{SessionState}
use Rattle.session_core.specs.declared.state.SessionState.TheVariants.{Handshake, NotConnected, Standing}
use Rattle.handover_out.specs.declared.phase.Phase.{Phase as Out}
use Rattle.handover_out.specs.declared.phase.Phase.TheVariants as out
use Rattle.handover_in.specs.declared.phase.Phase.{Phase as In}
use Rattle.handover_in.specs.declared.phase.Phase.TheVariants as inn
use Rattle.law_custody.specs.Flight.{Finishes, Fits, Offers, Readies, Stale}
use Rattle.law_custody.specs.Place.{Place}
use Rattle.law_custody.specs.Words.{DownWord, DownstreamService, StopTransport, UpWord, UpstreamService}

-- session, outlet, offered, ready, and the words to the outlet. The flag: the outlet holds no
-- board
pub data Exit : Bool → SessionState → Out → Option ℕ → Bool → List UpWord → Type 0 where
  -- no connection: a board may be stuck
  exit_none : Exit true NotConnected out.Idle None false []
  exit_none_stuck : {r : Record} → Exit false NotConnected (out.Stuck r false false) None false []
  -- a connection is made that the exit has not taken yet
  exit_called : Exit true NotConnected out.Idle None false (DownstreamService ∷ [])
  exit_called_stuck : {r : Record}
      → Exit false NotConnected (out.Stuck r false false) None false (DownstreamService ∷ [])
  -- a handshake, with the description heard no more or still to be heard
  exit_shaking : Exit true Handshake out.Idle None false []
  exit_shaking_stuck : {r : Record} → Exit false Handshake (out.Stuck r false false) None false []
  exit_described : Exit true Handshake out.Idle None false (DownstreamService ∷ [])
  exit_described_stuck : {r : Record}
      → Exit false Handshake (out.Stuck r false false) None false (DownstreamService ∷ [])
  -- a session stands, and no handover: what was announced may still be heard
  exit_idle : {o : Option ℕ} {rd ri : Bool} {up : List UpWord} → Readies rd up ri
      → Exit true Standing out.Idle o rd up
  -- a board is being moved out, and its stop may still be heard
  exit_transporting : {r : Record} {c : Bool} → Exit false Standing (out.Moving r c) None false []
  exit_stop_sent : {r : Record} {c : Bool}
      → Exit false Standing (out.Moving r c) None false (StopTransport r.id ∷ [])
  -- a board is stuck, and its stop may still be heard
  exit_stuck : {r : Record} {s : Bool} → Exit false Standing (out.Stuck r true s) None false []
  exit_stuck_stop_sent : {r : Record}
      → Exit false Standing (out.Stuck r true false) None false (StopTransport r.id ∷ [])
  -- the end was told, and the stop may still be heard, with what was announced behind it
  exit_finished : {x : ℕ} → Exit true Standing (out.Ended x) None false []
  exit_finished_stop_sent : {x : ℕ} {ri : Bool} {up : List UpWord} → Readies false up ri
      → Exit true Standing (out.Ended x) None false (StopTransport x ∷ up)

-- session, intake, offer, ready, the place, and the words to the intake. The flag true: this
-- stands only beside an outlet that holds no board
pub data Entry : Bool → SessionState → In → Option Record → Bool → Place → List DownWord
    → Type 0 where
  -- no connection: the intake is free, or waits for a board that lay between the machines or was
  -- inside
  entry_none : {b : Bool} {p : Place} → Entry b NotConnected inn.Idle None false p []
  entry_waits : {b : Bool} {r : Record} {p : Place}
      → Entry b NotConnected (inn.Waiting r seen.Incomplete false) None false p []
  entry_waits_in : {b : Bool} {r : Record} {p : Place}
      → Entry b NotConnected (inn.Waiting r seen.Complete false) None false p []
  -- or heard that its board has left, before the connection was closed
  entry_waits_heard : {r : Record} {p : Place} → Fits transfer.Complete p false
      → Entry true NotConnected (inn.Waiting r seen.Incomplete true) None false p []
  -- a handshake
  entry_shaking : {b : Bool} {p : Place} → Entry b Handshake inn.Idle None false p []
  entry_shaking_waiting : {b : Bool} {w : Record} {p : Place}
      → Entry b Handshake (inn.Waiting w seen.Complete false) None false p []
  -- and the upstream machine described itself: it holds nothing, and may have offered since
  entry_described : {p : Place} {rest : List DownWord} {o : Option ℕ} → Offers None rest o
      → Entry true Handshake inn.Idle None false p (UpstreamService ∷ rest)
  entry_described_waiting : {w : Record} {p : Place} {rest : List DownWord} {o : Option ℕ}
      → Offers None rest o
      → Entry true Handshake (inn.Waiting w seen.Complete false) None false p
      (UpstreamService ∷ rest)
  -- a session stands, and no handover
  entry_idle : {f : Option Record} {ri : Bool} {p : Place} {down : List DownWord} {o : Option ℕ}
      → Offers f down o → Entry true Standing inn.Idle f ri p down
  -- a transport runs, and the end may still be heard
  entry_transporting : {b : Bool} {r : Record} {own : Seen} {p : Place} {down : List DownWord}
      → Stale down → Entry b Standing (inn.Taking r own false) None false p down
  entry_finish_sent : {r : Record} {own : Seen} {p : Place} {down : List DownWord}
      → Finishes down r.id p true []
      → Entry true Standing (inn.Taking r own false) None false p down
  -- the end was heard, and the transport runs until the board is inside
  entry_finish_heard : {r : Record} {own : Seen} {p : Place} → Fits transfer.Complete p true
      → Entry true Standing (inn.Taking r own true) None false p []
  -- a transport was stopped, and the end may still be heard, with offers behind it
  entry_stopped : {b : Bool} {r : Record} {own : Seen} {p : Place} {down : List DownWord}
      → Stale down → Entry b Standing (inn.Stopped r own None) None false p down
  entry_stopped_finish_sent : {r : Record} {own : Seen} {p : Place} {down rest : List DownWord}
      {o : Option ℕ} → Finishes down r.id p false rest → Offers None rest o
      → Entry true Standing (inn.Stopped r own None) None false p down
  -- the end was heard of a stopped transport whose board is across
  entry_inside_awaited : {r : Record} {f : Option Record} {p : Place} {down : List DownWord}
      {o : Option ℕ} → Fits transfer.Complete p false → Offers f down o
      → Entry true Standing (inn.Stopped r seen.Incomplete (Some transfer.Complete)) f false p down

-- an entry whose intake dropped its board at a close, and which may have begun a new handshake
-- since
pub data Away : SessionState → Type 0 where
  away_none : Away NotConnected
  away_shaking : Away Handshake
