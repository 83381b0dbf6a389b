-- The shapes of a standing link whose two sessions stand: which phases of outlet and intake stand
-- together, what is announced, where the board is, and what is in flight to either side. A shape
-- that is no constructor can't come up.
use Rattle.std.specs.Prelude.{Bool, List, None, Option, Some, [], false, true, ℕ, ◌∷◌}
use Rattle.line_base.specs.declared.states.Seen.{Seen}
use Rattle.line_base.specs.declared.states.Seen.TheVariants as seen
use Rattle.line_base.specs.declared.states.Transfer.TheVariants as transfer
use Rattle.board_record.specs.declared.record.Record.{Record}
use Rattle.handover_out.specs.declared.phase.Phase.{Phase as Out}
use Rattle.handover_out.specs.declared.phase.Phase.TheVariants as out
use Rattle.handover_in.specs.declared.phase.Phase.{Phase as In}
use Rattle.handover_in.specs.declared.phase.Phase.TheVariants as inn
use Rattle.law_custody.specs.Flight.{Finishes, Fits, Offers, Readies, Stale, Starts}
use Rattle.law_custody.specs.Place.{Fresh, Place}
use Rattle.law_custody.specs.Words.{DownWord, StopTransport, UpWord}

-- outlet, offered, ready as the outlet has heard it; intake, offer as the intake has heard it,
-- ready; the place; the words to the outlet, and those to the intake
pub data Shape : Out → Option ℕ → Bool → In → Option Record → Bool → Place → List UpWord
    → List DownWord → Type 0 where
  -- no handover is under way: both halves announce, and what is in flight leads from what one has
  -- said to what the other has heard
  no_handover : {o : Option ℕ} {rd : Bool} {f : Option Record} {ri : Bool} {p : Place}
      {up : List UpWord} {down : List DownWord}
      → Readies rd up ri → Offers f down o → Shape out.Idle o rd inn.Idle f ri p up down
  -- StartTransport is on its way, behind what announced the downstream machine ready; offers that
  -- cross it are passed over
  start_sent : {o : Option ℕ} {rd : Bool} {r : Record} {up : List UpWord} {down : List DownWord}
      → Starts rd up r.id [] → Stale down
      → Shape out.Idle o rd (inn.Taking r seen.NotStarted false) None false Fresh up down
  -- and the transport was stopped before the start was heard
  start_and_stop_sent : {o : Option ℕ} {rd : Bool} {r : Record} {up : List UpWord}
      {down : List DownWord}
      → Starts rd up r.id (StopTransport r.id ∷ []) → Stale down
      → Shape out.Idle o rd (inn.Stopped r seen.NotStarted None) None false Fresh up down
  -- the start opened the outlet, and the transport runs: only old offers are in flight
  transporting : {r : Record} {c : Bool} {own : Seen} {p : Place} {down : List DownWord}
      → Stale down
      → Shape (out.Moving r c) None false (inn.Taking r own false) None false p [] down
  -- StopTransport is on its way to an outlet that still moves its board
  stop_sent : {r : Record} {c : Bool} {own : Seen} {p : Place} {down : List DownWord}
      → Stale down
      → Shape (out.Moving r c) None false (inn.Stopped r own None) None false p
      (StopTransport r.id ∷ []) down
  -- the exit's drive failed with the board in the gap: the stop is still to be sent, is on its
  -- way, or was heard
  stuck_transporting : {r : Record} {own : Seen} {p : Place} {down : List DownWord}
      → Stale down
      → Shape (out.Stuck r true false) None false (inn.Taking r own false) None false p [] down
  stuck_stop_sent : {r : Record} {own : Seen} {p : Place} {down : List DownWord}
      → Stale down
      → Shape (out.Stuck r true false) None false (inn.Stopped r own None) None false p
      (StopTransport r.id ∷ []) down
  stuck_stop_heard : {r : Record} {own : Seen} {p : Place} {down : List DownWord}
      → Stale down
      → Shape (out.Stuck r true true) None false (inn.Stopped r own None) None false p [] down
  -- the outlet let its board go, and TransportFinished is on its way to an intake whose transport
  -- runs: nothing is offered behind it until the stop is heard
  finish_sent : {r : Record} {own : Seen} {p : Place} {down : List DownWord}
      → Finishes down r.id p true []
      → Shape (out.Ended r.id) None false (inn.Taking r own false) None false p [] down
  -- TransportFinished and StopTransport cross
  finish_and_stop_sent : {r : Record} {own : Seen} {p : Place} {down : List DownWord}
      → Finishes down r.id p false []
      → Shape (out.Ended r.id) None false (inn.Stopped r own None) None false p
      (StopTransport r.id ∷ []) down
  -- the stop was heard: the outlet is free and may offer again behind TransportFinished
  stop_heard : {o : Option ℕ} {r : Record} {own : Seen} {p : Place} {down rest : List DownWord}
      → Finishes down r.id p false rest → Offers None rest o
      → Shape out.Idle o false (inn.Stopped r own None) None false p [] down
  -- the intake heard that its board has left, and its transport runs until the board is inside
  finish_heard : {r : Record} {own : Seen} {p : Place}
      → Fits transfer.Complete p true
      → Shape (out.Ended r.id) None false (inn.Taking r own true) None false p [] []
  -- the intake is done, and its StopTransport is on its way, maybe with announcements behind it
  intake_done : {x : ℕ} {ri : Bool} {p : Place} {up : List UpWord}
      → Readies false up ri
      → Shape (out.Ended x) None false inn.Idle None ri p (StopTransport x ∷ up) []
  -- the transport was stopped while its board was across, and the intake heard that it has left:
  -- it waits for it to come inside or to be taken out, with the stop on its way or heard
  inside_awaited_stop_sent : {r : Record} {p : Place}
      → Fits transfer.Complete p false
      → Shape (out.Ended r.id) None false
      (inn.Stopped r seen.Incomplete (Some transfer.Complete)) None false p
      (StopTransport r.id ∷ []) []
  inside_awaited : {o : Option ℕ} {r : Record} {f : Option Record} {p : Place}
      {down : List DownWord}
      → Fits transfer.Complete p false → Offers f down o
      → Shape out.Idle o false
      (inn.Stopped r seen.Incomplete (Some transfer.Complete)) f false p [] down
