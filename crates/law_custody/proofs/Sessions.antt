-- What is in flight is for the session that hears it: no session refuses a word.
use Rattle.std.proofs.Common.{Bool, List, None, Option, Some, refl, true, ℕ, ◌∷◌, ◌≡◌}
use Rattle.board_record.specs.declared.record.Record.{Record}
use Rattle.session_core.specs.declared.state.SessionState.{SessionState}
use Rattle.session_core.specs.declared.state.SessionState.TheVariants.{Handshake, Standing}
use Rattle.handover_out.specs.declared.phase.Phase.{Phase as Out}
use Rattle.handover_out.specs.declared.phase.Phase.TheVariants as out
use Rattle.handover_in.specs.declared.phase.Phase.{Phase as In}
use Rattle.handover_in.specs.declared.phase.Phase.TheVariants as inn
use Rattle.law_custody.specs.Apart.{entry_described, entry_described_waiting, entry_finish_sent, entry_idle, entry_inside_awaited, entry_shaking, entry_shaking_waiting, entry_stopped, entry_stopped_finish_sent, entry_transporting, exit_called, exit_called_stuck, exit_described, exit_described_stuck, exit_finished_stop_sent, exit_idle, exit_stop_sent, exit_stuck_stop_sent}
use Rattle.law_custody.specs.Facts.{IsOpen, IsTold, IsTraffic}
use Rattle.law_custody.specs.Place.{Place}
use Rattle.law_custody.specs.Shape.{finish_and_stop_sent, finish_sent, inside_awaited, no_handover, start_and_stop_sent, start_sent, stop_heard, stop_sent, stuck_stop_heard, stuck_stop_sent, stuck_transporting, transporting}
use Rattle.law_custody.specs.Talks.{Talks, apart, apart_start, apart_start_stop, described, described_waiting, live, shaking_idle, shaking_stuck, shaking_stuck_waiting, shaking_waiting}
use Rattle.law_custody.specs.Words.{DownWord, DownstreamService, UpWord, UpstreamService}

pub exit_stands : {b : Bool} {x y : SessionState} {o : Out} {of : Option ℕ} {rd : Bool} {i : In} {f : Option Record} {ri : Bool} {p : Place} {up : List UpWord} {down : List DownWord} {w : UpWord}
    → Talks b x o of rd y i f ri p (w ∷ up) down → IsTraffic w → x ≡ Standing
exit_stands (live _) _ = refl
exit_stands shaking_idle n = elim n [ ]
exit_stands shaking_waiting n = elim n [ ]
exit_stands shaking_stuck n = elim n [ ]
exit_stands shaking_stuck_waiting n = elim n [ ]
exit_stands (apart_start _ _) _ = refl
exit_stands (apart_start_stop _ _) _ = refl
exit_stands (apart exit_called _) n = elim n [ ]
exit_stands (apart exit_called_stuck _) n = elim n [ ]
exit_stands (apart exit_described _) n = elim n [ ]
exit_stands (apart exit_described_stuck _) n = elim n [ ]
exit_stands (apart (exit_idle _) _) _ = refl
exit_stands (apart exit_stop_sent _) _ = refl
exit_stands (apart exit_stuck_stop_sent _) _ = refl
exit_stands (apart (exit_finished_stop_sent _) _) _ = refl

-- a description finds a session that shakes hands, and the outlet holds or not
pub exit_shakes : {b : Bool} {x y : SessionState} {o : Out} {of : Option ℕ} {rd : Bool} {i : In} {f : Option Record} {ri : Bool} {p : Place} {up : List UpWord} {down : List DownWord}
    → Talks b x o of rd y i f ri p (DownstreamService ∷ up) down → IsOpen x → x ≡ Handshake
exit_shakes (live (no_handover a _)) _ = elim a [ ]
exit_shakes (live (start_sent a _)) _ = elim a [ ]
exit_shakes (live (start_and_stop_sent a _)) _ = elim a [ ]
exit_shakes shaking_idle _ = refl
exit_shakes shaking_waiting _ = refl
exit_shakes shaking_stuck _ = refl
exit_shakes shaking_stuck_waiting _ = refl
exit_shakes (apart_start a _) _ = elim a [ ]
exit_shakes (apart_start_stop a _) _ = elim a [ ]
exit_shakes (apart exit_called _) n = elim n [ ]
exit_shakes (apart exit_called_stuck _) n = elim n [ ]
exit_shakes (apart exit_described _) _ = refl
exit_shakes (apart exit_described_stuck _) _ = refl
exit_shakes (apart (exit_idle a) _) _ = elim a [ ]

pub entry_stands : {b : Bool} {x y : SessionState} {o : Out} {of : Option ℕ} {rd : Bool} {i : In} {f : Option Record} {ri : Bool} {p : Place} {up : List UpWord} {down : List DownWord} {w : DownWord}
    → Talks b x o of rd y i f ri p up (w ∷ down) → IsTold w → y ≡ Standing
entry_stands (live _) _ = refl
entry_stands (described _) n = elim n [ ]
entry_stands (described_waiting _) n = elim n [ ]
entry_stands (apart _ (entry_described _)) n = elim n [ ]
entry_stands (apart _ (entry_described_waiting _)) n = elim n [ ]
entry_stands (apart _ (entry_idle _)) _ = refl
entry_stands (apart _ (entry_transporting _)) _ = refl
entry_stands (apart _ (entry_finish_sent _)) _ = refl
entry_stands (apart _ (entry_stopped _)) _ = refl
entry_stands (apart _ (entry_stopped_finish_sent _ _)) _ = refl
entry_stands (apart _ (entry_inside_awaited _ _)) _ = refl

pub entry_shakes : {b : Bool} {x y : SessionState} {o : Out} {of : Option ℕ} {rd : Bool} {i : In} {f : Option Record} {ri : Bool} {p : Place} {up : List UpWord} {down : List DownWord}
    → Talks b x o of rd y i f ri p up (UpstreamService ∷ down) → y ≡ Handshake
entry_shakes (live (no_handover _ a)) = elim a [ ]
entry_shakes (live (start_sent _ a)) = elim a [ ]
entry_shakes (live (start_and_stop_sent _ a)) = elim a [ ]
entry_shakes (live (transporting a)) = elim a [ ]
entry_shakes (live (stop_sent a)) = elim a [ ]
entry_shakes (live (stuck_transporting a)) = elim a [ ]
entry_shakes (live (stuck_stop_sent a)) = elim a [ ]
entry_shakes (live (stuck_stop_heard a)) = elim a [ ]
entry_shakes (live (finish_sent a)) = elim a [ ]
entry_shakes (live (finish_and_stop_sent a)) = elim a [ ]
entry_shakes (live (stop_heard a _)) = elim a [ ]
entry_shakes (live (inside_awaited _ a)) = elim a [ ]
entry_shakes (described _) = refl
entry_shakes (described_waiting _) = refl
entry_shakes (apart _ (entry_described _)) = refl
entry_shakes (apart _ (entry_described_waiting _)) = refl
entry_shakes (apart _ (entry_idle a)) = elim a [ ]
entry_shakes (apart _ (entry_transporting a)) = elim a [ ]
entry_shakes (apart _ (entry_finish_sent a)) = elim a [ ]
entry_shakes (apart _ (entry_stopped a)) = elim a [ ]
entry_shakes (apart _ (entry_stopped_finish_sent a _)) = elim a [ ]
entry_shakes (apart _ (entry_inside_awaited _ a)) = elim a [ ]

-- what is offered, and a machine that said it is ready, have a standing session
pub offered_stands : {b : Bool} {x y : SessionState} {z : ℕ} {rd : Bool} {i : In} {f : Option Record} {ri : Bool} {p : Place} {up : List UpWord} {down : List DownWord}
    → Talks b x out.Idle (Some z) rd y i f ri p up down → x ≡ Standing
offered_stands (live _) = refl
offered_stands (described _) = refl
offered_stands (described_waiting _) = refl
offered_stands (apart_start _ _) = refl
offered_stands (apart_start_stop _ _) = refl
offered_stands (apart (exit_idle _) _) = refl

pub ready_stands : {b : Bool} {x y : SessionState} {o : Out} {of : Option ℕ} {rd : Bool} {f : Option Record} {p : Place} {up : List UpWord} {down : List DownWord}
    → Talks b x o of rd y inn.Idle f true p up down → y ≡ Standing
ready_stands (live _) = refl
ready_stands (apart _ (entry_idle _)) = refl

-- an entry that shakes hands has no offer
pub shaking_offerless : {b : Bool} {x : SessionState} {o : Out} {of : Option ℕ} {rd : Bool} {i : In} {f : Option Record} {ri : Bool} {p : Place} {up : List UpWord} {down : List DownWord}
    → Talks b x o of rd Handshake i f ri p up down → f ≡ None
shaking_offerless shaking_idle = refl
shaking_offerless shaking_waiting = refl
shaking_offerless shaking_stuck = refl
shaking_offerless shaking_stuck_waiting = refl
shaking_offerless (described _) = refl
shaking_offerless (described_waiting _) = refl
shaking_offerless (apart_start _ _) = refl
shaking_offerless (apart_start_stop _ _) = refl
shaking_offerless (apart _ entry_shaking) = refl
shaking_offerless (apart _ entry_shaking_waiting) = refl
shaking_offerless (apart _ (entry_described _)) = refl
shaking_offerless (apart _ (entry_described_waiting _)) = refl
