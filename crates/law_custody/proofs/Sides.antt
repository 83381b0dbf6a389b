-- Changes of one end by itself.
use Rattle.std.proofs.Common.{Bool, List, None, Option, Some, [], false, refl, true, ℕ, ◌≡◌}
use Rattle.line_base.specs.declared.states.SensorEvent.{SensorEvent}
use Rattle.board_record.specs.declared.record.Record.{Record}
use Rattle.session_core.specs.declared.state.SessionState.{SessionState}
use Rattle.line_world.specs.declared.gap.Gap.{Gap}
use Rattle.handover_out.specs.declared.phase.Phase.{Phase as Out}
use Rattle.handover_out.specs.declared.phase.Phase.TheVariants as out
use Rattle.handover_in.specs.Records.{id_of as id_of_offer}
use Rattle.handover_in.specs.declared.phase.Phase.{Phase as In}
use Rattle.handover_in.specs.declared.phase.Phase.TheVariants as inn
use Rattle.law_custody.specs.Apart.{Away, Entry, Exit, away_none, away_shaking, entry_described, entry_described_waiting, entry_finish_heard, entry_finish_sent, entry_idle, entry_inside_awaited, entry_none, entry_shaking, entry_shaking_waiting, entry_stopped, entry_stopped_finish_sent, entry_transporting, entry_waits, entry_waits_heard, entry_waits_in, exit_called, exit_called_stuck, exit_described, exit_described_stuck, exit_finished, exit_finished_stop_sent, exit_idle, exit_none, exit_none_stuck, exit_shaking, exit_shaking_stuck, exit_stop_sent, exit_stuck, exit_stuck_stop_sent, exit_transporting}
use Rattle.law_custody.specs.Flight.{Offers, offers_none, offers_same, readies_none, stale_none}
use Rattle.law_custody.specs.Floor.{ExitFloor, GapAt, gap_begun, gap_fresh, gap_home, gap_inside, gap_left, gap_lost, gap_stolen, out_ended, out_idle}
use Rattle.law_custody.specs.Pair.{listed}
use Rattle.law_custody.specs.Place.{Fresh, NotAcross, NotBegun, Place, not_begun_fresh}
use Rattle.law_custody.specs.Words.{DownWord, UpWord}

-- an entry that asks nothing of the outlet stands beside one that holds nothing
pub released : {y : SessionState} {i : In} {f : Option Record} {ri : Bool} {p : Place} {down : List DownWord} {b : Bool} → Entry false y i f ri p down → Entry b y i f ri p down
released entry_none = entry_none
released entry_waits = entry_waits
released entry_waits_in = entry_waits_in
released entry_shaking = entry_shaking
released entry_shaking_waiting = entry_shaking_waiting
released (entry_transporting s) = entry_transporting s
released (entry_stopped s) = entry_stopped s

-- it says nothing of the place
pub replaced : {y : SessionState} {i : In} {f : Option Record} {ri : Bool} {p q : Place} {down : List DownWord} → Entry false y i f ri p down → Entry false y i f ri q down
replaced entry_none = entry_none
replaced entry_waits = entry_waits
replaced entry_waits_in = entry_waits_in
replaced entry_shaking = entry_shaking
replaced entry_shaking_waiting = entry_shaking_waiting
replaced (entry_transporting s) = entry_transporting s
replaced (entry_stopped s) = entry_stopped s

pub away : {b : Bool} {y : SessionState} {p : Place} → Away y → Entry b y inn.Idle None false p []
away away_none = entry_none
away away_shaking = entry_shaking

-- a board that lies neither begun nor left: the gap is free, and another handover may begin
pub free_gap : {g : Gap} {p : Place} {r : Record} (q : Record) → NotBegun p → NotAcross p → GapAt g p r → GapAt g Fresh q
free_gap q _ _ gap_fresh = gap_fresh
free_gap q _ _ gap_home = gap_fresh
free_gap q _ _ gap_inside = gap_fresh
free_gap q _ _ gap_lost = gap_fresh
free_gap q _ _ gap_stolen = gap_fresh
free_gap q n _ gap_begun = elim n [ ]
free_gap q _ n gap_left = elim n [ ]

-- the words to an exit are gone
pub emptied_exit : {b : Bool} {x : SessionState} {o : Out} {of : Option ℕ} {rd : Bool} {up : List UpWord} → Exit b x o of rd up → Exit b x o of rd []
emptied_exit exit_none = exit_none
emptied_exit exit_none_stuck = exit_none_stuck
emptied_exit exit_called = exit_none
emptied_exit exit_called_stuck = exit_none_stuck
emptied_exit exit_shaking = exit_shaking
emptied_exit exit_shaking_stuck = exit_shaking_stuck
emptied_exit exit_described = exit_shaking
emptied_exit exit_described_stuck = exit_shaking_stuck
emptied_exit (exit_idle a) = exit_idle readies_none
emptied_exit exit_transporting = exit_transporting
emptied_exit exit_stop_sent = exit_transporting
emptied_exit exit_stuck = exit_stuck
emptied_exit exit_stuck_stop_sent = exit_stuck
emptied_exit exit_finished = exit_finished
emptied_exit (exit_finished_stop_sent a) = exit_finished

pub same_offer : (f : Option Record) → Offers f [] (id_of_offer f)
same_offer None = offers_none
same_offer (Some r) = offers_same

-- the words to an entry are gone
pub emptied : {b : Bool} {y : SessionState} {i : In} {f : Option Record} {ri : Bool} {p : Place} {down : List DownWord} → Entry b y i f ri p down → Entry b y i f ri p []
emptied entry_none = entry_none
emptied entry_waits = entry_waits
emptied entry_waits_in = entry_waits_in
emptied (entry_waits_heard c) = entry_waits_heard c
emptied entry_shaking = entry_shaking
emptied entry_shaking_waiting = entry_shaking_waiting
emptied (entry_described c) = entry_shaking
emptied (entry_described_waiting c) = entry_shaking_waiting
emptied (entry_idle c) = entry_idle (same_offer _)
emptied (entry_transporting c) = entry_transporting stale_none
emptied (entry_finish_sent c) = entry_transporting stale_none
emptied (entry_finish_heard c) = entry_finish_heard c
emptied (entry_stopped c) = entry_stopped stale_none
emptied (entry_stopped_finish_sent c d) = entry_stopped stale_none
emptied (entry_inside_awaited c d) = entry_inside_awaited c (same_offer _)

-- an entry beside an outlet that holds nothing, or holds one

-- an entry beside an outlet that holds nothing, or holds a board
pub anywhere : {b : Bool} {x : SessionState} {of : Option ℕ} {rd : Bool} {y : SessionState} {i : In} {f : Option Record} {ri : Bool} {p : Place} {down : List DownWord}
    → Exit b x out.Idle of rd [] → Entry b y i f ri p down → Entry true y i f ri p down
anywhere exit_none c = c
anywhere exit_shaking c = c
anywhere (exit_idle a) c = c

pub anywhere_ended : {b : Bool} {x : SessionState} {of : Option ℕ} {rd : Bool} {y : SessionState} {i : In} {f : Option Record} {ri : Bool} {p : Place} {down : List DownWord} {z : ℕ}
    → Exit b x (out.Ended z) of rd [] → Entry b y i f ri p down → Entry true y i f ri p down
anywhere_ended exit_finished c = c

pub anywhere_moving : {b : Bool} {x : SessionState} {of : Option ℕ} {rd : Bool} {y : SessionState} {i : In} {f : Option Record} {ri : Bool} {p : Place} {down : List DownWord} {q : Record} {c : Bool}
    → Exit b x (out.Moving q c) of rd [] → Entry b y i f ri p down → Entry true y i f ri p down
anywhere_moving exit_transporting c = released c

pub held_moving : {b : Bool} {x : SessionState} {of : Option ℕ} {rd : Bool} {y : SessionState} {i : In} {f : Option Record} {ri : Bool} {p : Place} {down : List DownWord} {q : Record} {c : Bool}
    → Exit b x (out.Moving q c) of rd [] → Entry b y i f ri p down → Entry false y i f ri p down
held_moving exit_transporting c = c

pub held_stuck : {b : Bool} {x : SessionState} {of : Option ℕ} {rd : Bool} {y : SessionState} {i : In} {f : Option Record} {ri : Bool} {p : Place} {down : List DownWord} {q : Record} {l s : Bool}
    → Exit b x (out.Stuck q l s) of rd [] → Entry b y i f ri p down → Entry false y i f ri p down
held_stuck exit_none_stuck c = c
held_stuck exit_shaking_stuck c = c
held_stuck exit_stuck c = c

-- an outlet that holds nothing, beside the next board
pub record Aimed (o : Out) (ue : List SensorEvent) (xd : Bool) (p : Place) (q : Record) : Type 0 where
  pub before : NotBegun p
  pub out : ExitFloor o ue xd Fresh q
  pub above : (ks : List Record) → listed o p ks ≡ listed o Fresh ks

pub aimed : {x : SessionState} {o : Out} {of : Option ℕ} {rd : Bool} {up : List UpWord} {ue : List SensorEvent} {xd : Bool} {p : Place} {r : Record} (q : Record)
    → Exit true x o of rd up → ExitFloor o ue xd p r → Aimed o ue xd p q
aimed q exit_none (out_idle e n) = record { before = n; out = out_idle e not_begun_fresh; above = λ ks. refl }
aimed q exit_called (out_idle e n) = record { before = n; out = out_idle e not_begun_fresh; above = λ ks. refl }
aimed q exit_shaking (out_idle e n) = record { before = n; out = out_idle e not_begun_fresh; above = λ ks. refl }
aimed q exit_described (out_idle e n) = record { before = n; out = out_idle e not_begun_fresh; above = λ ks. refl }
aimed q (exit_idle a) (out_idle e n) = record { before = n; out = out_idle e not_begun_fresh; above = λ ks. refl }
aimed q exit_finished (out_ended e n) = record { before = n; out = out_ended e not_begun_fresh; above = λ ks. refl }
aimed q (exit_finished_stop_sent a) (out_ended e n) = record { before = n; out = out_ended e not_begun_fresh; above = λ ks. refl }
