-- Each end of a link by itself.
use Rattle.std.proofs.Common.{Bool, List, Option, [], false, true, ℕ}
use Rattle.board_record.specs.declared.record.Record.{Record}
use Rattle.session_core.specs.declared.state.SessionState.{SessionState}
use Rattle.handover_out.specs.declared.phase.Phase.{Phase as Out}
use Rattle.handover_in.specs.declared.phase.Phase.{Phase as In}
use Rattle.law_custody.specs.Apart.{Entry, Exit, entry_described, entry_described_waiting, entry_finish_heard, entry_finish_sent, entry_idle, entry_inside_awaited, entry_shaking, entry_shaking_waiting, entry_stopped, entry_stopped_finish_sent, entry_transporting, exit_finished, exit_idle, exit_shaking, exit_shaking_stuck, exit_stuck, exit_transporting}
use Rattle.law_custody.specs.Contents.{Contents, open_none}
use Rattle.law_custody.specs.Flight.{offers_none, readies_none}
use Rattle.law_custody.specs.Place.{Place}
use Rattle.law_custody.specs.Shape.{finish_and_stop_sent, finish_heard, finish_sent, inside_awaited, inside_awaited_stop_sent, intake_done, no_handover, start_and_stop_sent, start_sent, stop_heard, stop_sent, stuck_stop_heard, stuck_stop_sent, stuck_transporting, transporting}
use Rattle.law_custody.specs.Talks.{Talks, apart, apart_start, apart_start_stop, described, described_waiting, live, shaking_idle, shaking_stuck, shaking_stuck_waiting, shaking_waiting}
use Rattle.law_custody.specs.Words.{DownWord, UpWord}
use Rattle.law_custody.proofs.Contents.{named_cut, not_standing}
use Rattle.law_custody.proofs.Open.{offer_map}
use Rattle.law_custody.proofs.Sides.{away, emptied, emptied_exit}

-- each end of a link by itself, with nothing in flight to the exit; the flag: the outlet holds nothing
pub record Split (x : SessionState) (o : Out) (of : Option ℕ) (rd : Bool) (y : SessionState) (i : In) (f : Option Record) (ri : Bool) (p : Place) (down : List DownWord) : Type 0 where
  pub flag : Bool
  pub exit : Exit flag x o of rd []
  pub entry : Entry flag y i f ri p down

pub split : {b : Bool} {x y : SessionState} {o : Out} {of : Option ℕ} {rd : Bool} {i : In} {f : Option Record} {ri : Bool} {p : Place} {up : List UpWord} {down : List DownWord}
    → Talks b x o of rd y i f ri p up down → Split x o of rd y i f ri p down
split (live (no_handover a c)) = record { flag = true; exit = exit_idle readies_none; entry = entry_idle c }
split (live (start_sent a c)) = record { flag = true; exit = exit_idle readies_none; entry = entry_transporting c }
split (live (start_and_stop_sent a c)) = record { flag = true; exit = exit_idle readies_none; entry = entry_stopped c }
split (live (transporting c)) = record { flag = false; exit = exit_transporting; entry = entry_transporting c }
split (live (stop_sent c)) = record { flag = false; exit = exit_transporting; entry = entry_stopped c }
split (live (stuck_transporting c)) = record { flag = false; exit = exit_stuck; entry = entry_transporting c }
split (live (stuck_stop_sent c)) = record { flag = false; exit = exit_stuck; entry = entry_stopped c }
split (live (stuck_stop_heard c)) = record { flag = false; exit = exit_stuck; entry = entry_stopped c }
split (live (finish_sent c)) = record { flag = true; exit = exit_finished; entry = entry_finish_sent c }
split (live (finish_and_stop_sent c)) = record { flag = true; exit = exit_finished; entry = entry_stopped_finish_sent c offers_none }
split (live (stop_heard c d)) = record { flag = true; exit = exit_idle readies_none; entry = entry_stopped_finish_sent c d }
split (live (finish_heard c)) = record { flag = true; exit = exit_finished; entry = entry_finish_heard c }
split (live (intake_done a)) = record { flag = true; exit = exit_finished; entry = entry_idle offers_none }
split (live (inside_awaited_stop_sent c)) = record { flag = true; exit = exit_finished; entry = entry_inside_awaited c offers_none }
split (live (inside_awaited c d)) = record { flag = true; exit = exit_idle readies_none; entry = entry_inside_awaited c d }
split shaking_idle = record { flag = true; exit = exit_shaking; entry = entry_shaking }
split shaking_waiting = record { flag = true; exit = exit_shaking; entry = entry_shaking_waiting }
split shaking_stuck = record { flag = false; exit = exit_shaking_stuck; entry = entry_shaking }
split shaking_stuck_waiting = record { flag = false; exit = exit_shaking_stuck; entry = entry_shaking_waiting }
split (described c) = record { flag = true; exit = exit_idle readies_none; entry = entry_described c }
split (described_waiting c) = record { flag = true; exit = exit_idle readies_none; entry = entry_described_waiting c }
split (apart_start a c) = record { flag = true; exit = exit_idle readies_none; entry = away c }
split (apart_start_stop a c) = record { flag = true; exit = exit_idle readies_none; entry = away c }
split (apart a c) = record { flag = _; exit = emptied_exit a; entry = c }

-- a cut: what flows either way is gone
pub cut : {b : Bool} {x y : SessionState} {o : Out} {of : Option ℕ} {rd : Bool} {i : In} {f : Option Record} {ri : Bool} {p : Place} {up : List UpWord} {down : List DownWord}
    → Talks b x o of rd y i f ri p up down → Talks false x o of rd y i f ri p [] []
cut t = let s = split t in apart s.exit (emptied s.entry)

pub contents_cut : {Gone : ℕ → Type 0} {b : Bool} {ks : List Record} {t last : Option ℕ} {i : In} {f : Option Record} {up : List UpWord} {down : List DownWord}
    → Contents Gone b ks t last i f up down → Contents Gone false ks t last i f [] []
contents_cut h = record { offers = open_none; offer = offer_map named_cut h.offer; start = λ r s _ _. absurd (not_standing s) }
