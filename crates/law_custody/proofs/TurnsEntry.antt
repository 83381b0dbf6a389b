-- Turns of an intake, however the link stands: one lemma for each phase that it turns from.
use Rattle.std.proofs.Common.{Bool, List, None, Option, Some, [], false, true, ℕ, ◌∷◌}
use Rattle.line_base.specs.declared.states.Seen.{Seen}
use Rattle.line_base.specs.declared.states.Seen.TheVariants as seen
use Rattle.line_base.specs.declared.states.Transfer.{Transfer}
use Rattle.line_base.specs.declared.states.Transfer.TheVariants as transfer
use Rattle.board_record.specs.declared.record.Record.{Record}
use Rattle.session_core.specs.declared.state.SessionState.{SessionState}
use Rattle.handover_out.specs.declared.phase.Phase.{Phase as Out}
use Rattle.handover_in.specs.declared.phase.Phase.TheVariants as inn
use Rattle.law_custody.specs.Apart.{entry_finish_heard, entry_finish_sent, entry_idle, entry_inside_awaited, entry_stopped, entry_stopped_finish_sent, entry_transporting}
use Rattle.law_custody.specs.Flight.{Fits, fits_across, fits_fresh, fits_home, fits_inside, fits_lost, fits_stolen, offers_none, readies_none}
use Rattle.law_custody.specs.Place.{Across, Fresh, Home, InGap, Inside, Lost, Place, Stolen}
use Rattle.law_custody.specs.Shape.{finish_and_stop_sent, finish_heard, finish_sent, inside_awaited, inside_awaited_stop_sent, intake_done, no_handover, start_and_stop_sent, start_sent, stop_heard, stop_sent, stuck_stop_heard, stuck_stop_sent, stuck_transporting, transporting}
use Rattle.law_custody.specs.Talks.{Talks, apart, live}
use Rattle.law_custody.specs.Words.{DownWord, StopTransport, UpWord, sent}
use Rattle.law_custody.proofs.Flight.{finishes_moved, starts_stop}

-- the board has begun once
pub data Past : Place → Type 0 where
  past_home : Past Home
  past_gap : Past InGap
  past_across : Past Across
  past_inside : Past Inside
  past_lost : Past Lost
  past_stolen : Past Stolen

-- what the sensors saw of a board that is being taken in changes
pub own_taking : {b : Bool} {x y : SessionState} {o : Out} {of : Option ℕ} {rd : Bool} {f : Option Record} {ri : Bool} {p : Place} {up : List UpWord} {down : List DownWord} {q : Record} {a c : Seen} {h : Bool}
    → Past p → Talks b x o of rd y (inn.Taking q a h) f ri p up down → Talks b x o of rd y (inn.Taking q c h) f ri p up down
own_taking n (live (start_sent _ _)) = elim n [ ]
own_taking n (live (transporting c)) = live (transporting c)
own_taking n (live (stuck_transporting c)) = live (stuck_transporting c)
own_taking n (live (finish_sent c)) = live (finish_sent c)
own_taking n (live (finish_heard c)) = live (finish_heard c)
own_taking n (apart a (entry_transporting c)) = apart a (entry_transporting c)
own_taking n (apart a (entry_finish_sent c)) = apart a (entry_finish_sent c)
own_taking n (apart a (entry_finish_heard c)) = apart a (entry_finish_heard c)

pub own_stopped : {b : Bool} {x y : SessionState} {o : Out} {of : Option ℕ} {rd : Bool} {f : Option Record} {ri : Bool} {p : Place} {up : List UpWord} {down : List DownWord} {q : Record} {a c : Seen}
    → Past p → Talks b x o of rd y (inn.Stopped q a None) f ri p up down → Talks b x o of rd y (inn.Stopped q c None) f ri p up down
own_stopped n (live (start_and_stop_sent _ _)) = elim n [ ]
own_stopped n (live (stop_sent c)) = live (stop_sent c)
own_stopped n (live (stuck_stop_sent c)) = live (stuck_stop_sent c)
own_stopped n (live (stuck_stop_heard c)) = live (stuck_stop_heard c)
own_stopped n (live (finish_and_stop_sent c)) = live (finish_and_stop_sent c)
own_stopped n (live (stop_heard c d)) = live (stop_heard c d)
own_stopped n (apart a (entry_stopped c)) = apart a (entry_stopped c)
own_stopped n (apart a (entry_stopped_finish_sent c d)) = apart a (entry_stopped_finish_sent c d)

pub anytime : {e : Transfer} {p : Place} {t : Bool} → Fits e p t → Fits e p false
anytime fits_fresh = fits_fresh
anytime fits_home = fits_home
anytime fits_lost = fits_lost
anytime fits_across = fits_across
anytime fits_inside = fits_inside
anytime fits_stolen = fits_stolen

-- the transport stops, by the sensor or a fault
pub stops_taking : {b : Bool} {x y : SessionState} {o : Out} {of : Option ℕ} {rd : Bool} {f : Option Record} {ri : Bool} {p : Place} {up : List UpWord} {down : List DownWord} {q : Record} {a c : Seen}
    → Past p → Talks b x o of rd y (inn.Taking q a false) f ri p up down → Talks b x o of rd y (inn.Stopped q c None) f ri p (sent (StopTransport q.id ∷ []) b up) down
stops_taking n (live (start_sent _ _)) = elim n [ ]
stops_taking n (live (transporting c)) = live (stop_sent c)
stops_taking n (live (stuck_transporting c)) = live (stuck_stop_sent c)
stops_taking n (live (finish_sent c)) = live (finish_and_stop_sent (finishes_moved (λ _. anytime) c))
stops_taking n (apart a (entry_transporting c)) = apart a (entry_stopped c)
stops_taking n (apart a (entry_finish_sent c)) = apart a (entry_stopped_finish_sent (finishes_moved (λ _. anytime) c) offers_none)

-- a board that has left is inside
pub settles_taking : {b : Bool} {x y : SessionState} {o : Out} {of : Option ℕ} {rd : Bool} {f : Option Record} {ri : Bool} {p : Place} {up : List UpWord} {down : List DownWord} {q : Record} {a : Seen}
    → Talks b x o of rd y (inn.Taking q a true) f ri p up down → Talks b x o of rd y inn.Idle f ri p (sent (StopTransport q.id ∷ []) b up) down
settles_taking (live (finish_heard c)) = live (intake_done readies_none)
settles_taking (apart a (entry_finish_heard c)) = apart a (entry_idle offers_none)

-- the board of a stopped transport is inside, or was taken out
pub ends_late : {b : Bool} {x y : SessionState} {o : Out} {of : Option ℕ} {rd : Bool} {f : Option Record} {ri : Bool} {p : Place} {up : List UpWord} {down : List DownWord} {q : Record} {e : Transfer} {a : Seen}
    → Talks b x o of rd y (inn.Stopped q a (Some e)) f ri p up down → Talks b x o of rd y inn.Idle f ri p up down
ends_late (live (inside_awaited_stop_sent c)) = live (intake_done readies_none)
ends_late (live (inside_awaited c d)) = live (no_handover readies_none d)
ends_late (apart a (entry_inside_awaited c d)) = apart a (entry_idle d)

-- an end of which the board has left
pub data Left : Transfer → Place → Type 0 where
  has_left : {p : Place} → Fits transfer.Complete p false → Left transfer.Complete p

-- what was heard of a stopped transport says that its board has left
pub left_late : {b : Bool} {x y : SessionState} {o : Out} {of : Option ℕ} {rd : Bool} {f : Option Record} {ri : Bool} {p : Place} {up : List UpWord} {down : List DownWord} {q : Record} {e : Transfer} {a : Seen}
    → Talks b x o of rd y (inn.Stopped q a (Some e)) f ri p up down → Left e p
left_late (live (inside_awaited_stop_sent c)) = has_left c
left_late (live (inside_awaited c d)) = has_left c
left_late (apart a (entry_inside_awaited c d)) = has_left c

pub not_home : {e : Transfer} → Left e Home → ⊥
not_home (has_left s) = elim s [ ]

pub not_lost : {e : Transfer} → Left e Lost → ⊥
not_lost (has_left s) = elim s [ ]

-- the end was heard of a transport that runs: the board is across, or inside
pub data HeardAtPlace : Place → Type 0 where
  at_place : {p : Place} → Fits transfer.Complete p true → HeardAtPlace p

pub taking_heard : {b : Bool} {x y : SessionState} {o : Out} {of : Option ℕ} {rd : Bool} {f : Option Record} {ri : Bool} {p : Place} {up : List UpWord} {down : List DownWord} {q : Record} {a : Seen}
    → Talks b x o of rd y (inn.Taking q a true) f ri p up down → HeardAtPlace p
taking_heard (live (finish_heard c)) = at_place c
taking_heard (apart a (entry_finish_heard c)) = at_place c

-- nothing was heard of a board that never began, and none is waited for
pub never_begun : {b : Bool} {x y : SessionState} {o : Out} {of : Option ℕ} {rd : Bool} {f : Option Record} {ri : Bool} {p : Place} {up : List UpWord} {down : List DownWord} {q : Record} {e : Transfer}
    → Talks b x o of rd y (inn.Stopped q seen.NotStarted (Some e)) f ri p up down → ⊥
never_begun (live s) = elim s [ ]
never_begun (apart _ s) = elim s [ ]

pub waits_begun : {b : Bool} {x y : SessionState} {o : Out} {of : Option ℕ} {rd : Bool} {f : Option Record} {ri : Bool} {p : Place} {up : List UpWord} {down : List DownWord} {q : Record} {h : Bool}
    → Talks b x o of rd y (inn.Waiting q seen.NotStarted h) f ri p up down → ⊥
waits_begun (live s) = elim s [ ]
waits_begun (apart _ s) = elim s [ ]

-- a fault stops a transport, before the board has begun and while it is across
pub starts_stopped : {b : Bool} {x y : SessionState} {o : Out} {of : Option ℕ} {rd : Bool} {f : Option Record} {ri : Bool} {up : List UpWord} {down : List DownWord} {q : Record}
    → Talks b x o of rd y (inn.Taking q seen.NotStarted false) f ri Fresh up down
    → Talks b x o of rd y (inn.Stopped q seen.NotStarted None) f ri Fresh (sent (StopTransport q.id ∷ []) b up) down
starts_stopped (live (start_sent a c)) = live (start_and_stop_sent (starts_stop _ a) c)
starts_stopped (live (transporting c)) = live (stop_sent c)
starts_stopped (live (stuck_transporting c)) = live (stuck_stop_sent c)
starts_stopped (live (finish_sent c)) = live (finish_and_stop_sent (finishes_moved (λ _. anytime) c))
starts_stopped (apart a (entry_transporting c)) = apart a (entry_stopped c)
starts_stopped (apart a (entry_finish_sent c)) = apart a (entry_stopped_finish_sent (finishes_moved (λ _. anytime) c) offers_none)

pub waits_taking : {b : Bool} {x y : SessionState} {o : Out} {of : Option ℕ} {rd : Bool} {f : Option Record} {ri : Bool} {p : Place} {up : List UpWord} {down : List DownWord} {q : Record}
    → Talks b x o of rd y (inn.Taking q seen.Incomplete true) f ri p up down
    → Talks b x o of rd y (inn.Stopped q seen.Incomplete (Some transfer.Complete)) f ri p (sent (StopTransport q.id ∷ []) b up) down
waits_taking (live (finish_heard c)) = live (inside_awaited_stop_sent (anytime c))
waits_taking (apart a (entry_finish_heard c)) = apart a (entry_inside_awaited (anytime c) offers_none)
