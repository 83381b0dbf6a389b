-- The last start that an entry said, and whether it is on its way.
use Rattle.std.proofs.Common.{Bool, List, Option, Some, [], false, not, refl, true, ℕ, ◌∷◌, ◌≡◌}
use Rattle.line_base.specs.declared.states.Seen.{Seen}
use Rattle.line_base.specs.declared.states.Transfer.{Transfer}
use Rattle.board_record.specs.declared.record.Record.{Record}
use Rattle.session_core.specs.declared.state.SessionState.{SessionState}
use Rattle.handover_out.specs.declared.phase.Phase.{Phase as Out}
use Rattle.handover_in.specs.declared.phase.Phase.TheVariants as inn
use Rattle.law_custody.specs.Apart.{Exit, entry_finish_heard, entry_inside_awaited, exit_called, exit_called_stuck, exit_described, exit_described_stuck, exit_finished, exit_finished_stop_sent, exit_idle, exit_none, exit_none_stuck, exit_shaking, exit_shaking_stuck, exit_stop_sent, exit_stuck, exit_stuck_stop_sent, exit_transporting}
use Rattle.law_custody.specs.LookBack.{Asked, asked_dropped, asked_held, asks_nothing}
use Rattle.law_custody.specs.Place.{Place}
use Rattle.law_custody.specs.Shape.{finish_heard, inside_awaited, inside_awaited_stop_sent}
use Rattle.law_custody.specs.Talks.{Talks, apart, live}
use Rattle.law_custody.specs.Words.{DownWord, UpWord, starts_in}
use Rattle.law_custody.proofs.Starts.{readies_start_nothing}

pub exit_starts : {b : Bool} {x : SessionState} {o : Out} {of : Option ℕ} {rd : Bool} {up : List UpWord} → Exit b x o of rd up → starts_in up ≡ []
exit_starts exit_none = refl
exit_starts exit_none_stuck = refl
exit_starts exit_called = refl
exit_starts exit_called_stuck = refl
exit_starts exit_shaking = refl
exit_starts exit_shaking_stuck = refl
exit_starts exit_described = refl
exit_starts exit_described_stuck = refl
exit_starts (exit_idle a) = readies_start_nothing a
exit_starts exit_transporting = refl
exit_starts exit_stop_sent = refl
exit_starts exit_stuck = refl
exit_starts exit_stuck_stop_sent = refl
exit_starts exit_finished = refl
exit_starts (exit_finished_stop_sent a) = readies_start_nothing a

-- where the end was heard, no start is on its way
pub taking_starts : {b : Bool} {x y : SessionState} {o : Out} {of : Option ℕ} {rd : Bool} {f : Option Record} {ri : Bool} {p : Place} {up : List UpWord} {down : List DownWord} {q : Record} {a : Seen}
    → Talks b x o of rd y (inn.Taking q a true) f ri p up down → starts_in up ≡ []
taking_starts (live (finish_heard c)) = refl
taking_starts (apart a (entry_finish_heard c)) = exit_starts a

pub stopped_starts : {b : Bool} {x y : SessionState} {o : Out} {of : Option ℕ} {rd : Bool} {f : Option Record} {ri : Bool} {p : Place} {up : List UpWord} {down : List DownWord} {q : Record} {e : Transfer} {a : Seen}
    → Talks b x o of rd y (inn.Stopped q a (Some e)) f ri p up down → starts_in up ≡ []
stopped_starts (live (inside_awaited_stop_sent c)) = refl
stopped_starts (live (inside_awaited c d)) = refl
stopped_starts (apart a (entry_inside_awaited c d)) = exit_starts a

-- the board is dropped
pub drops_asked : {ids : List ℕ} {l : Option ℕ} {d : Bool} → Asked ids l d true → Asked ids l true false
drops_asked (asks_nothing e) = asks_nothing e
drops_asked (asked_held e) = asked_dropped e

-- a start that is heard is the last that was said
pub heard_is_last : {z : ℕ} {ids : List ℕ} {l : Option ℕ} {d h : Bool} → Asked (z ∷ ids) l d h → (l ≡ Some z) × (h ≡ not d)
heard_is_last (asks_nothing e) = cc
heard_is_last (asked_held e) = (cc, refl)
heard_is_last (asked_dropped e) = (cc, refl)
