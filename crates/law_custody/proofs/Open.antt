-- Offers in flight that are open, and links on which nothing is open.
use Rattle.std.proofs.Common.{Bool, List, None, Option, Some, [], false, refl, true, ℕ, ◌++◌, ◌∷◌, ◌≡◌}
use Rattle.line_base.specs.declared.states.Seen.{Seen}
use Rattle.line_base.specs.declared.states.Transfer.{Transfer}
use Rattle.board_record.specs.declared.record.Record.{Record}
use Rattle.session_core.specs.declared.state.SessionState.{SessionState}
use Rattle.handover_out.specs.declared.phase.Phase.TheVariants as out
use Rattle.handover_in.specs.State.{passes_offers_over}
use Rattle.handover_in.specs.declared.phase.Phase.{Phase as In}
use Rattle.handover_in.specs.declared.phase.Phase.TheVariants as inn
use Rattle.law_custody.specs.Apart.{Entry, Exit, entry_none, entry_shaking, entry_shaking_waiting, entry_stopped, entry_transporting, entry_waits, entry_waits_in, exit_called_stuck, exit_described_stuck, exit_idle, exit_none_stuck, exit_shaking_stuck, exit_stop_sent, exit_stuck, exit_stuck_stop_sent, exit_transporting}
use Rattle.law_custody.specs.Contents.{OfferIs, OpenAll, no_offer, offer_is, open_back, open_end, open_new, open_none, open_passed, open_service}
use Rattle.law_custody.specs.Flight.{Finishes, Stale, finishes_now, finishes_offer, finishes_revoke, stale_none, stale_offer, stale_revoke}
use Rattle.law_custody.specs.Place.{Place}
use Rattle.law_custody.specs.Shape.{Shape, finish_and_stop_sent, finish_heard, finish_sent, inside_awaited_stop_sent, intake_done, no_handover, start_and_stop_sent, start_sent, stop_sent, stuck_stop_heard, stuck_stop_sent, stuck_transporting, transporting}
use Rattle.law_custody.specs.Talks.{Talks, apart, apart_start, apart_start_stop, live, shaking_stuck, shaking_stuck_waiting}
use Rattle.law_custody.specs.Words.{BoardAvailable, DownWord, RevokeBoardAvailable, StartTransport, TransportFinished, UpWord, UpstreamService, sent, starts_in}

pub open_map : {Q P : Record → Type 0} {b : Bool} {ws : List DownWord} → ((r : Record) → Q r → P r) → OpenAll Q b ws → OpenAll P b ws
open_map m open_none = open_none
open_map m (open_new q h) = open_new (m _ q) (open_map m h)
open_map m (open_passed h) = open_passed (open_map m h)
open_map m (open_back h) = open_back (open_map m h)
open_map m (open_end h) = open_end (open_map m h)
open_map m (open_service h) = open_service (open_map m h)

pub offer_map : {Q P : Record → Type 0} {f : Option Record} → ((r : Record) → Q r → P r) → OfferIs Q f → OfferIs P f
offer_map m no_offer = no_offer
offer_map m (offer_is q) = offer_is (m _ q)

-- hearing takes the first word off
pub open_tail : {Q : Record → Type 0} {ws : List DownWord} {b : Bool} {r : Record} → OpenAll Q b (BoardAvailable r ∷ ws) → OpenAll Q b ws
open_tail (open_new q h) = h
open_tail (open_passed h) = h

pub open_first : {Q : Record → Type 0} {ws : List DownWord} {r : Record} → OpenAll Q false (BoardAvailable r ∷ ws) → OfferIs Q (Some r)
open_first (open_new q h) = offer_is q

pub open_rest : {Q : Record → Type 0} {ws : List DownWord} {b : Bool} → OpenAll Q b (RevokeBoardAvailable ∷ ws) → OpenAll Q b ws
open_rest (open_back h) = h

pub open_ended : {Q : Record → Type 0} {ws : List DownWord} {b : Bool} {e : Transfer} {z : ℕ} → OpenAll Q b (TransportFinished e z ∷ ws) → OpenAll Q false ws
open_ended (open_end h) = h

pub open_shaken : {Q : Record → Type 0} {ws : List DownWord} {b : Bool} → OpenAll Q b (UpstreamService ∷ ws) → OpenAll Q b ws
open_shaken (open_service h) = h

-- what is said is open too, or closes nothing
pub open_offer : {Q : Record → Type 0} {b : Bool} {ws : List DownWord} (q : Record) → Q q → OpenAll Q b ws → OpenAll Q b (ws ++ (BoardAvailable q ∷ []))
open_offer {b = true} q s open_none = open_passed open_none
open_offer {b = false} q s open_none = open_new s open_none
open_offer q s (open_new n h) = open_new n (open_offer q s h)
open_offer q s (open_passed h) = open_passed (open_offer q s h)
open_offer q s (open_back h) = open_back (open_offer q s h)
open_offer q s (open_end h) = open_end (open_offer q s h)
open_offer q s (open_service h) = open_service (open_offer q s h)

pub open_revoke : {Q : Record → Type 0} {b : Bool} {ws : List DownWord} → OpenAll Q b ws → OpenAll Q b (ws ++ (RevokeBoardAvailable ∷ []))
open_revoke open_none = open_back open_none
open_revoke (open_new n h) = open_new n (open_revoke h)
open_revoke (open_passed h) = open_passed (open_revoke h)
open_revoke (open_back h) = open_back (open_revoke h)
open_revoke (open_end h) = open_end (open_revoke h)
open_revoke (open_service h) = open_service (open_revoke h)

-- offers that are passed over tell nothing of records
pub stale_open : {Q : Record → Type 0} {ws : List DownWord} → Stale ws → OpenAll Q true ws
stale_open stale_none = open_none
stale_open (stale_offer s) = open_passed (stale_open s)
stale_open (stale_revoke s) = open_back (stale_open s)

-- nothing is open: no offer was heard, and all in flight will be passed over
pub record NothingOpen (i : In) (f : Option Record) (down : List DownWord) : Type 0 where
  pub offers : OpenAll (λ _. ⊥) (passes_offers_over i) down
  pub offer : f ≡ None

-- so it is beside an outlet that holds a board
pub entry_open : {y : SessionState} {i : In} {f : Option Record} {ri : Bool} {p : Place} {down : List DownWord} → Entry false y i f ri p down → NothingOpen i f down
entry_open entry_none = record { offers = open_none; offer = refl }
entry_open entry_waits = record { offers = open_none; offer = refl }
entry_open entry_waits_in = record { offers = open_none; offer = refl }
entry_open entry_shaking = record { offers = open_none; offer = refl }
entry_open entry_shaking_waiting = record { offers = open_none; offer = refl }
entry_open (entry_transporting s) = record { offers = stale_open s; offer = refl }
entry_open (entry_stopped s) = record { offers = stale_open s; offer = refl }

-- and so it is as a connection is closed while a board is being moved out
pub beside_moving : {b : Bool} {x y : SessionState} {of : Option ℕ} {rd : Bool} {i : In} {f : Option Record} {ri : Bool} {p : Place} {up : List UpWord} {down : List DownWord} {q : Record} {c : Bool}
    → Exit b x (out.Moving q c) of rd up → Entry b y i f ri p down → NothingOpen i f down
beside_moving exit_transporting e = entry_open e
beside_moving exit_stop_sent e = entry_open e

pub moving_open : {b : Bool} {x y : SessionState} {of : Option ℕ} {rd : Bool} {i : In} {f : Option Record} {ri : Bool} {p : Place} {up : List UpWord} {down : List DownWord} {q : Record} {c : Bool}
    → Talks b x (out.Moving q c) of rd y i f ri p up down → NothingOpen i f down
moving_open (live (transporting s)) = record { offers = stale_open s; offer = refl }
moving_open (live (stop_sent s)) = record { offers = stale_open s; offer = refl }
moving_open (apart e c) = beside_moving e c

pub stuck_open : {b : Bool} {x y : SessionState} {of : Option ℕ} {rd : Bool} {i : In} {f : Option Record} {ri : Bool} {p : Place} {up : List UpWord} {down : List DownWord} {q : Record} {l s : Bool}
    → Talks b x (out.Stuck q l s) of rd y i f ri p up down → NothingOpen i f down
stuck_open (live (stuck_transporting s)) = record { offers = stale_open s; offer = refl }
stuck_open (live (stuck_stop_sent s)) = record { offers = stale_open s; offer = refl }
stuck_open (live (stuck_stop_heard s)) = record { offers = stale_open s; offer = refl }
stuck_open shaking_stuck = record { offers = open_none; offer = refl }
stuck_open shaking_stuck_waiting = record { offers = open_none; offer = refl }
stuck_open (apart exit_none_stuck c) = entry_open c
stuck_open (apart exit_called_stuck c) = entry_open c
stuck_open (apart exit_shaking_stuck c) = entry_open c
stuck_open (apart exit_described_stuck c) = entry_open c
stuck_open (apart exit_stuck c) = entry_open c
stuck_open (apart exit_stuck_stop_sent c) = entry_open c

-- beside one that awaits a stop
pub finishes_open : {ws : List DownWord} {z : ℕ} {p : Place} {t : Bool} → Finishes ws z p t [] → OpenAll (λ _. ⊥) true ws
finishes_open (finishes_now _) = open_end open_none
finishes_open (finishes_offer h) = open_passed (finishes_open h)
finishes_open (finishes_revoke h) = open_back (finishes_open h)

-- a standing link whose outlet awaits a stop: nothing is open, so `touched` may be cleared at it
pub ended_open : {of : Option ℕ} {rd : Bool} {i : In} {f : Option Record} {ri : Bool} {p : Place} {z : ℕ} {up : List UpWord} {down : List DownWord}
    → Shape (out.Ended z) of rd i f ri p up down → NothingOpen i f down
ended_open (finish_sent c) = record { offers = finishes_open c; offer = refl }
ended_open (finish_and_stop_sent c) = record { offers = finishes_open c; offer = refl }
ended_open (finish_heard c) = record { offers = open_none; offer = refl }
ended_open (intake_done c) = record { offers = open_none; offer = refl }
ended_open (inside_awaited_stop_sent c) = record { offers = open_none; offer = refl }

-- and as a start is heard, so that the front may go into the outlet
pub started_open : {b : Bool} {x y : SessionState} {of : Option ℕ} {rd : Bool} {i : In} {f : Option Record} {ri : Bool} {p : Place} {up : List UpWord} {down : List DownWord} {z : ℕ}
    → Talks b x out.Idle of rd y i f ri p (StartTransport z ∷ up) down → NothingOpen i f down
started_open (live (no_handover a _)) = elim a [ ]
started_open (live (start_sent _ s)) = record { offers = stale_open s; offer = refl }
started_open (live (start_and_stop_sent _ s)) = record { offers = stale_open s; offer = refl }
started_open (apart_start _ _) = record { offers = open_none; offer = refl }
started_open (apart_start_stop _ _) = record { offers = open_none; offer = refl }
started_open (apart (exit_idle a) _) = elim a [ ]

-- an end of a transfer leaves nothing open
pub open_after_end : {b : Bool} {ws : List DownWord} (e : Transfer) (z : ℕ) → OpenAll (λ _. ⊥) b ws → OpenAll (λ _. ⊥) b (ws ++ (TransportFinished e z ∷ []))
open_after_end e z open_none = open_end open_none
open_after_end e z (open_new n _) = absurd n
open_after_end e z (open_passed h) = open_passed (open_after_end e z h)
open_after_end e z (open_back h) = open_back (open_after_end e z h)
open_after_end e z (open_end h) = open_end (open_after_end e z h)
open_after_end e z (open_service h) = open_service (open_after_end e z h)

pub nothing_open_after : {i : In} {f : Option Record} {down : List DownWord} (b : Bool) (e : Transfer) (z : ℕ) → NothingOpen i f down
    → NothingOpen i f (sent (TransportFinished e z ∷ []) b down)
nothing_open_after true e z n = record { offers = open_after_end e z n.offers; offer = n.offer }
nothing_open_after false e z n = n

-- an intake that awaits an end passes all over that was offered before
pub nothing_taken : {r : Record} {own : Seen} {down : List DownWord} → Stale down → NothingOpen (inn.Taking r own false) None down
nothing_taken s = record { offers = stale_open s; offer = refl }

pub nothing_stopped : {r : Record} {own : Seen} {down : List DownWord} → Stale down → NothingOpen (inn.Stopped r own None) None down
nothing_stopped s = record { offers = stale_open s; offer = refl }

pub nothing_at_all : {i : In} → NothingOpen i None []
nothing_at_all = record { offers = open_none; offer = refl }

-- an outlet that holds a board has heard the start: none is on its way
pub moving_starts : {b : Bool} {x y : SessionState} {of : Option ℕ} {rd : Bool} {i : In} {f : Option Record} {ri : Bool} {p : Place} {up : List UpWord} {down : List DownWord} {q : Record} {c : Bool}
    → Talks b x (out.Moving q c) of rd y i f ri p up down → starts_in up ≡ []
moving_starts (live (transporting _)) = refl
moving_starts (live (stop_sent _)) = refl
moving_starts (apart exit_transporting _) = refl
moving_starts (apart exit_stop_sent _) = refl

pub stuck_starts : {b : Bool} {x y : SessionState} {of : Option ℕ} {rd : Bool} {i : In} {f : Option Record} {ri : Bool} {p : Place} {up : List UpWord} {down : List DownWord} {q : Record} {l s : Bool}
    → Talks b x (out.Stuck q l s) of rd y i f ri p up down → starts_in up ≡ []
stuck_starts (live (stuck_transporting _)) = refl
stuck_starts (live (stuck_stop_sent _)) = refl
stuck_starts (live (stuck_stop_heard _)) = refl
stuck_starts shaking_stuck = refl
stuck_starts shaking_stuck_waiting = refl
stuck_starts (apart exit_none_stuck _) = refl
stuck_starts (apart exit_called_stuck _) = refl
stuck_starts (apart exit_shaking_stuck _) = refl
stuck_starts (apart exit_described_stuck _) = refl
stuck_starts (apart exit_stuck _) = refl
stuck_starts (apart exit_stuck_stop_sent _) = refl
