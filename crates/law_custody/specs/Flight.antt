-- What may be in flight, read from the receiver's end: hearing a word takes one constructor off.
use Rattle.std.specs.Prelude.{Bool, List, None, Option, Some, [], false, true, ℕ, ◌∷◌}
use Rattle.line_base.specs.declared.states.Transfer.{Transfer}
use Rattle.line_base.specs.declared.states.Transfer.TheVariants as transfer
use Rattle.board_record.specs.declared.record.Record.{Record}
use Rattle.law_custody.specs.Place.{Across, Fresh, Home, Inside, Lost, Place, Stolen}
use Rattle.law_custody.specs.Words.{BoardAvailable, DownWord, MachineReady, RevokeBoardAvailable, RevokeMachineReady, StartTransport, TransportFinished, UpWord}

-- MachineReady and RevokeMachineReady in turn, from what the outlet has heard to what the intake
-- has said
pub data Readies : Bool → List UpWord → Bool → Type 0 where
  readies_none : {a : Bool} → Readies a [] a
  readies_up : {ws : List UpWord} {b : Bool} → Readies true ws b
      → Readies false (MachineReady ∷ ws) b
  readies_down : {ws : List UpWord} {b : Bool} → Readies false ws b
      → Readies true (RevokeMachineReady ∷ ws) b

-- these in turn up to ready, then a start of the board with id x, then the rest
pub data Starts : Bool → List UpWord → ℕ → List UpWord → Type 0 where
  starts_now : {x : ℕ} {ws : List UpWord} → Starts true (StartTransport x ∷ ws) x ws
  starts_up : {ws rest : List UpWord} {x : ℕ} → Starts true ws x rest
      → Starts false (MachineReady ∷ ws) x rest
  starts_down : {ws rest : List UpWord} {x : ℕ} → Starts false ws x rest
      → Starts true (RevokeMachineReady ∷ ws) x rest

-- BoardAvailable and RevokeBoardAvailable in turn, from the record that the intake has heard to
-- the id that the outlet offers
pub data Offers : Option Record → List DownWord → Option ℕ → Type 0 where
  offers_none : Offers None [] None
  offers_same : {r : Record} → Offers (Some r) [] (Some r.id)
  offers_new : {r : Record} {ws : List DownWord} {o : Option ℕ} → Offers (Some r) ws o
      → Offers None (BoardAvailable r ∷ ws) o
  offers_back : {r : Record} {ws : List DownWord} {o : Option ℕ} → Offers None ws o
      → Offers (Some r) (RevokeBoardAvailable ∷ ws) o

-- offers of a time before the handover, in any order: the intake passes them over
pub data Stale : List DownWord → Type 0 where
  stale_none : Stale []
  stale_offer : {r : Record} {ws : List DownWord} → Stale ws → Stale (BoardAvailable r ∷ ws)
  stale_revoke : {ws : List DownWord} → Stale ws → Stale (RevokeBoardAvailable ∷ ws)

-- the end of a transfer says what the floor says. The flag: the intake's transport still runs. A
-- board that was stolen had left, but no running entry drive let it be taken
pub data Fits : Transfer → Place → Bool → Type 0 where
  fits_fresh : {t : Bool} → Fits transfer.NotStarted Fresh t
  fits_home : {t : Bool} → Fits transfer.NotStarted Home t
  fits_lost : {t : Bool} → Fits transfer.Incomplete Lost t
  fits_across : {t : Bool} → Fits transfer.Complete Across t
  fits_inside : {t : Bool} → Fits transfer.Complete Inside t
  fits_stolen : Fits transfer.Complete Stolen false

-- offers that are passed over, then the end of the transfer of the board with id x, then the rest
pub data Finishes : List DownWord → ℕ → Place → Bool → List DownWord → Type 0 where
  finishes_now : {e : Transfer} {x : ℕ} {p : Place} {t : Bool} {rest : List DownWord} → Fits e p t
      → Finishes (TransportFinished e x ∷ rest) x p t rest
  finishes_offer : {r : Record} {ws : List DownWord} {x : ℕ} {p : Place} {t : Bool}
      {rest : List DownWord} → Finishes ws x p t rest → Finishes (BoardAvailable r ∷ ws) x p t rest
  finishes_revoke : {ws : List DownWord} {x : ℕ} {p : Place} {t : Bool} {rest : List DownWord}
      → Finishes ws x p t rest → Finishes (RevokeBoardAvailable ∷ ws) x p t rest
