-- While an end of a transfer, or the upstream machine's description, is in flight, the outlet holds nothing.
use Rattle.std.proofs.Common.{Bool, List, None, Option, false, refl, true, ℕ, ◌≡◌}
use Rattle.line_base.specs.declared.states.Transfer.{Transfer}
use Rattle.board_record.specs.declared.record.Record.{Record}
use Rattle.session_core.specs.declared.state.SessionState.{SessionState}
use Rattle.handover_out.specs.State.{board_of_phase as held_out}
use Rattle.handover_out.specs.declared.phase.Phase.{Phase as Out}
use Rattle.handover_in.specs.declared.phase.Phase.{Phase as In}
use Rattle.law_custody.specs.Apart.{Entry, Exit, entry_none, entry_shaking, entry_shaking_waiting, entry_stopped, entry_transporting, entry_waits, entry_waits_in, exit_called, exit_described, exit_finished, exit_finished_stop_sent, exit_idle, exit_none, exit_shaking}
use Rattle.law_custody.specs.Facts.{HasDown, down_later}
use Rattle.law_custody.specs.Flight.{Stale, stale_none, stale_offer, stale_revoke}
use Rattle.law_custody.specs.Place.{Place}
use Rattle.law_custody.specs.Talks.{Talks}
use Rattle.law_custody.specs.Words.{DownWord, TransportFinished, UpWord, UpstreamService}
use Rattle.law_custody.proofs.Split.{split}

-- 4. while an end of a transfer or the upstream description is in flight, the outlet holds nothing
pub stale_end_not : {ws : List DownWord} {e : Transfer} {z : ℕ} → Stale ws → HasDown (TransportFinished e z) ws → ⊥
stale_end_not stale_none h = elim h [ ]
stale_end_not (stale_offer s) (down_later h) = stale_end_not s h
stale_end_not (stale_revoke s) (down_later h) = stale_end_not s h

pub stale_service_not : {ws : List DownWord} → Stale ws → HasDown UpstreamService ws → ⊥
stale_service_not stale_none h = elim h [ ]
stale_service_not (stale_offer s) (down_later h) = stale_service_not s h
stale_service_not (stale_revoke s) (down_later h) = stale_service_not s h

-- an outlet holds nothing, or only old offers are in flight to its neighbour
pub data HoldsOr : Out → List DownWord → Type 0 where
  holds_nothing : {o : Out} {ws : List DownWord} → held_out o ≡ None → HoldsOr o ws
  holds_stale : {o : Out} {ws : List DownWord} → Stale ws → HoldsOr o ws

pub exit_free : {x : SessionState} {o : Out} {of : Option ℕ} {rd : Bool} {up : List UpWord} → Exit true x o of rd up → held_out o ≡ None
exit_free exit_none = refl
exit_free exit_called = refl
exit_free exit_shaking = refl
exit_free exit_described = refl
exit_free (exit_idle _) = refl
exit_free exit_finished = refl
exit_free (exit_finished_stop_sent _) = refl

pub entry_stale : {y : SessionState} {i : In} {f : Option Record} {ri : Bool} {p : Place} {down : List DownWord} → Entry false y i f ri p down → Stale down
entry_stale entry_none = stale_none
entry_stale entry_waits = stale_none
entry_stale entry_waits_in = stale_none
entry_stale entry_shaking = stale_none
entry_stale entry_shaking_waiting = stale_none
entry_stale (entry_transporting s) = s
entry_stale (entry_stopped s) = s

pub holds_or : {x : SessionState} {o : Out} {of : Option ℕ} {rd : Bool} {y : SessionState} {i : In} {f : Option Record} {ri : Bool} {p : Place} {up : List UpWord} {down : List DownWord} (b : Bool)
    → Exit b x o of rd up → Entry b y i f ri p down → HoldsOr o down
holds_or true a c = holds_nothing (exit_free a)
holds_or false a c = holds_stale (entry_stale c)

pub holds_or_stale : {b : Bool} {x y : SessionState} {o : Out} {of : Option ℕ} {rd : Bool} {i : In} {f : Option Record} {ri : Bool} {p : Place} {up : List UpWord} {down : List DownWord}
    → Talks b x o of rd y i f ri p up down → HoldsOr o down
holds_or_stale t = let s = split t in holds_or s.flag s.exit s.entry

pub nothing_behind_an_end : {o : Out} {ws : List DownWord} {e : Transfer} {z : ℕ} → HoldsOr o ws → HasDown (TransportFinished e z) ws → held_out o ≡ None
nothing_behind_an_end (holds_nothing h) _ = h
nothing_behind_an_end (holds_stale s) w = absurd (stale_end_not s w)

pub nothing_behind_a_description : {o : Out} {ws : List DownWord} → HoldsOr o ws → HasDown UpstreamService ws → held_out o ≡ None
nothing_behind_a_description (holds_nothing h) _ = h
nothing_behind_a_description (holds_stale s) w = absurd (stale_service_not s w)
