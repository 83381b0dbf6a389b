-- Turns of an outlet, however the link stands: one lemma for each phase that it turns from.
use Rattle.std.proofs.Common.{Bool, List, None, Option, [], false, refl, true, ℕ, ◌∷◌, ◌≡◌}
use Rattle.line_base.specs.declared.states.SensorEvent.{SensorEvent}
use Rattle.line_base.specs.declared.states.Transfer.{Transfer}
use Rattle.line_base.specs.declared.states.Transfer.TheVariants as transfer
use Rattle.board_record.specs.declared.record.Record.{Record}
use Rattle.session_core.specs.declared.state.SessionState.{SessionState}
use Rattle.handover_out.specs.Act.{finished}
use Rattle.handover_out.specs.Row.{over_when_stuck}
use Rattle.handover_out.specs.State.{OutState}
use Rattle.handover_out.specs.declared.phase.Phase.TheVariants as out
use Rattle.handover_in.specs.declared.phase.Phase.{Phase as In}
use Rattle.law_custody.specs.Apart.{exit_called, exit_called_stuck, exit_described, exit_described_stuck, exit_finished, exit_finished_stop_sent, exit_idle, exit_none, exit_none_stuck, exit_shaking, exit_shaking_stuck, exit_stop_sent, exit_stuck, exit_stuck_stop_sent, exit_transporting}
use Rattle.law_custody.specs.Flight.{Fits, fits_across, fits_inside, fits_stolen, offers_none, readies_none}
use Rattle.law_custody.specs.Floor.{AllTaken, EntryFloor, ExitFloor, in_taken_in, in_taking, out_ended, out_idle}
use Rattle.law_custody.specs.Pair.{listed}
use Rattle.law_custody.specs.Place.{Beyond, Home, Lost, NotBegun, Place, Stolen, beyond_across, beyond_inside, not_begun_across, not_begun_inside}
use Rattle.law_custody.specs.Shape.{finish_and_stop_sent, finish_sent, stop_heard, stop_sent, stuck_stop_heard, stuck_stop_sent, stuck_transporting, transporting}
use Rattle.law_custody.specs.Steps.{outlet}
use Rattle.law_custody.specs.Talks.{Talks, apart, live, shaking_idle, shaking_stuck, shaking_stuck_waiting, shaking_waiting}
use Rattle.law_custody.specs.Words.{DownWord, TransportFinished, UpWord, out_says, sent}
use Rattle.law_custody.proofs.Flight.{stale_end}
use Rattle.law_custody.proofs.Open.{NothingOpen, nothing_open_after}
use Rattle.law_custody.proofs.Sides.{released}

-- a board in an outlet that is moving is seen to begin
pub begins_moving : {b : Bool} {x y : SessionState} {of : Option ℕ} {rd : Bool} {i : In} {f : Option Record} {ri : Bool} {p : Place} {up : List UpWord} {down : List DownWord} {q : Record}
    → Talks b x (out.Moving q false) of rd y i f ri p up down → Talks b x (out.Moving q true) of rd y i f ri p up down
begins_moving (live (transporting c)) = live (transporting c)
begins_moving (live (stop_sent c)) = live (stop_sent c)
begins_moving (apart exit_transporting c) = apart exit_transporting c
begins_moving (apart exit_stop_sent c) = apart exit_stop_sent c

-- a board's transport has ended: the outlet moves no more
pub ends_moving : {b : Bool} {x y : SessionState} {of : Option ℕ} {rd : Bool} {i : In} {f : Option Record} {ri : Bool} {p : Place} {up : List UpWord} {down : List DownWord} {e : Transfer} {q : Record} {c : Bool}
    → ((t : Bool) → Fits e p t) → Talks b x (out.Moving q c) of rd y i f ri p up down
    → Talks b x (out.Ended q.id) of rd y i f ri p up (sent (TransportFinished e q.id ∷ []) b down)
ends_moving fit (live (transporting c)) = live (finish_sent (stale_end _ c (fit true)))
ends_moving fit (live (stop_sent c)) = live (finish_and_stop_sent (stale_end _ c (fit false)))
ends_moving fit (apart exit_transporting c) = apart exit_finished (released c)
ends_moving fit (apart exit_stop_sent c) = apart (exit_finished_stop_sent readies_none) (released c)

-- the same where it was taken out after it had left: no intake takes it any more
pub ends_stolen : {b : Bool} {x y : SessionState} {of : Option ℕ} {rd : Bool} {i : In} {f : Option Record} {ri : Bool} {up : List UpWord} {down : List DownWord} {q : Record} {c : Bool} {un : List SensorEvent} {ed : Bool} {r : Record}
    → Talks b x (out.Moving q c) of rd y i f ri Stolen up down → EntryFloor i un ed Stolen r
    → Talks b x (out.Ended q.id) of rd y i f ri Stolen up (sent (TransportFinished transfer.Complete q.id ∷ []) b down)
ends_stolen (live (transporting c)) (in_taking s) = elim s [ ]
ends_stolen (live (transporting c)) (in_taken_in s) = elim s [ ]
ends_stolen (live (stop_sent c)) _ = live (finish_and_stop_sent (stale_end _ c fits_stolen))
ends_stolen (apart exit_transporting c) _ = apart exit_finished (released c)
ends_stolen (apart exit_stop_sent c) _ = apart (exit_finished_stop_sent readies_none) (released c)

pub out_over : {r : Record} {p : Place} {es : List SensorEvent} (q : Record) (of t : Option ℕ) (rd : Bool) (l s : Bool) → AllTaken es → NotBegun p
    → ExitFloor (over_when_stuck (outlet (out.Stuck q l s) of t rd) q.id l s).phase es false p r
out_over q of t rd true false a n = out_ended a n
out_over q of t rd true true a n = out_idle a n
out_over q of t rd false _ a n = out_idle a n

-- a board of an outlet that is stuck came back or was taken out
pub ends_stuck : {b : Bool} {x y : SessionState} {of : Option ℕ} {rd : Bool} {i : In} {f : Option Record} {ri : Bool} {p : Place} {up : List UpWord} {down : List DownWord} {e : Transfer} {q : Record} {l s : Bool} (touched : Option ℕ)
    → ((t : Bool) → Fits e p t) → Talks b x (out.Stuck q l s) of rd y i f ri p up down
    → let k : OutState = over_when_stuck (outlet (out.Stuck q l s) of touched rd) q.id l s in Talks b x k.phase k.offered k.ready y i f ri p up (sent (out_says (finished l e q.id) None) b down)
ends_stuck t fit (live (stuck_transporting c)) = live (finish_sent (stale_end _ c (fit true)))
ends_stuck t fit (live (stuck_stop_sent c)) = live (finish_and_stop_sent (stale_end _ c (fit false)))
ends_stuck t fit (live (stuck_stop_heard c)) = live (stop_heard (stale_end _ c (fit false)) offers_none)
ends_stuck t fit shaking_stuck = shaking_idle
ends_stuck t fit shaking_stuck_waiting = shaking_waiting
ends_stuck t fit (apart exit_none_stuck c) = apart exit_none (released c)
ends_stuck t fit (apart exit_called_stuck c) = apart exit_called (released c)
ends_stuck t fit (apart exit_shaking_stuck c) = apart exit_shaking (released c)
ends_stuck t fit (apart exit_described_stuck c) = apart exit_described (released c)
ends_stuck t fit (apart (exit_stuck {s = false}) c) = apart exit_finished (released c)
ends_stuck t fit (apart (exit_stuck {s = true}) c) = apart (exit_idle readies_none) (released c)
ends_stuck t fit (apart exit_stuck_stop_sent c) = apart (exit_finished_stop_sent readies_none) (released c)

-- the same where it was taken out after it had left
pub ends_stuck_stolen : {b : Bool} {x y : SessionState} {of : Option ℕ} {rd : Bool} {i : In} {f : Option Record} {ri : Bool} {up : List UpWord} {down : List DownWord} {q r : Record} {l s : Bool} {un : List SensorEvent} {ed : Bool} (touched : Option ℕ)
    → Talks b x (out.Stuck q l s) of rd y i f ri Stolen up down → EntryFloor i un ed Stolen r
    → let k : OutState = over_when_stuck (outlet (out.Stuck q l s) of touched rd) q.id l s in Talks b x k.phase k.offered k.ready y i f ri Stolen up (sent (out_says (finished l transfer.Complete q.id) None) b down)
ends_stuck_stolen t (live (stuck_transporting c)) (in_taking s) = elim s [ ]
ends_stuck_stolen t (live (stuck_transporting c)) (in_taken_in s) = elim s [ ]
ends_stuck_stolen t (live (stuck_stop_sent c)) _ = live (finish_and_stop_sent (stale_end _ c fits_stolen))
ends_stuck_stolen t (live (stuck_stop_heard c)) _ = live (stop_heard (stale_end _ c fits_stolen) offers_none)
ends_stuck_stolen t shaking_stuck _ = shaking_idle
ends_stuck_stolen t shaking_stuck_waiting _ = shaking_waiting
ends_stuck_stolen t (apart exit_none_stuck c) _ = apart exit_none (released c)
ends_stuck_stolen t (apart exit_called_stuck c) _ = apart exit_called (released c)
ends_stuck_stolen t (apart exit_shaking_stuck c) _ = apart exit_shaking (released c)
ends_stuck_stolen t (apart exit_described_stuck c) _ = apart exit_described (released c)
ends_stuck_stolen t (apart (exit_stuck {s = false}) c) _ = apart exit_finished (released c)
ends_stuck_stolen t (apart (exit_stuck {s = true}) c) _ = apart (exit_idle readies_none) (released c)
ends_stuck_stolen t (apart exit_stuck_stop_sent c) _ = apart (exit_finished_stop_sent readies_none) (released c)

-- and a fault stops its drive
pub stuck_moving : {b : Bool} {x y : SessionState} {of : Option ℕ} {rd : Bool} {i : In} {f : Option Record} {ri : Bool} {p : Place} {up : List UpWord} {down : List DownWord} {q : Record} {c : Bool}
    → Talks b x (out.Moving q c) of rd y i f ri p up down → Talks b x (out.Stuck q true false) of rd y i f ri p up down
stuck_moving (live (transporting c)) = live (stuck_transporting c)
stuck_moving (live (stop_sent c)) = live (stuck_stop_sent c)
stuck_moving (apart exit_transporting c) = apart exit_stuck c
stuck_moving (apart exit_stop_sent c) = apart exit_stuck_stop_sent c

-- an end that is told, where the connection still stands, leaves nothing open
pub nothing_open_told : {i : In} {f : Option Record} {down : List DownWord} (l b : Bool) (e : Transfer) (z : ℕ)
    → NothingOpen i f down → NothingOpen i f (sent (out_says (finished l e z) None) b down)
nothing_open_told true b e z n = nothing_open_after b e z n
nothing_open_told false b e z n = n

pub beyond_fits : {p : Place} → Beyond p → (t : Bool) → Fits transfer.Complete p t
beyond_fits beyond_across t = fits_across
beyond_fits beyond_inside t = fits_inside

pub beyond_begun : {p : Place} → Beyond p → NotBegun p
beyond_begun beyond_across = not_begun_across
beyond_begun beyond_inside = not_begun_inside

pub beyond_body : {p : Place} (q : Record) → Beyond p → (ks : List Record) → listed (out.Moving q true) p ks ≡ listed (out.Ended q.id) p ks
beyond_body q beyond_across ks = refl
beyond_body q beyond_inside ks = refl

pub home_body : (q : Record) (of t : Option ℕ) (rd l s : Bool) (ks : List Record)
    → listed (out.Stuck q l s) Home ks ≡ listed (over_when_stuck (outlet (out.Stuck q l s) of t rd) q.id l s).phase Home (q ∷ ks)
home_body q of t rd true false ks = refl
home_body q of t rd true true ks = refl
home_body q of t rd false s ks = refl

pub lost_body : (q : Record) (of t : Option ℕ) (rd l s : Bool) (ks : List Record)
    → listed (out.Stuck q l s) Lost ks ≡ listed (over_when_stuck (outlet (out.Stuck q l s) of t rd) q.id l s).phase Lost ks
lost_body q of t rd true false ks = refl
lost_body q of t rd true true ks = refl
lost_body q of t rd false s ks = refl

pub stuck_body : {p : Place} → Beyond p → (q : Record) (of t : Option ℕ) (rd l s : Bool) (ks : List Record)
    → listed (out.Stuck q l s) p ks ≡ listed (over_when_stuck (outlet (out.Stuck q l s) of t rd) q.id l s).phase p ks
stuck_body beyond_across q of t rd true false ks = refl
stuck_body beyond_across q of t rd true true ks = refl
stuck_body beyond_across q of t rd false s ks = refl
stuck_body beyond_inside q of t rd true false ks = refl
stuck_body beyond_inside q of t rd true true ks = refl
stuck_body beyond_inside q of t rd false s ks = refl

pub stolen_body : (q : Record) (of t : Option ℕ) (rd l s : Bool) (ks : List Record)
    → listed (out.Stuck q l s) Stolen ks ≡ listed (over_when_stuck (outlet (out.Stuck q l s) of t rd) q.id l s).phase Stolen ks
stolen_body q of t rd true false ks = refl
stolen_body q of t rd true true ks = refl
stolen_body q of t rd false s ks = refl
