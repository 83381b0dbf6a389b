-- While a word is on its way that tells where the board is, no board moves at the gap: the upstream machine's description, the end of a transfer that isn't complete, and a start.
use Rattle.std.proofs.Common.{Bool, List, None, Ok, Option, [], false, refl, ℕ, ◌∷◌, ◌≡◌}
use Rattle.line_base.specs.declared.states.Seen.TheVariants as seen
use Rattle.line_base.specs.declared.states.SensorEvent.{SensorEvent}
use Rattle.line_base.specs.declared.states.Transfer.{Transfer}
use Rattle.line_base.specs.declared.states.Transfer.TheVariants as transfer
use Rattle.board_record.specs.declared.record.Record.{Record}
use Rattle.session_core.specs.declared.state.SessionState.{SessionState}
use Rattle.line_world.specs.Moves.{Around, around_move}
use Rattle.line_world.specs.declared.moves.Move.{Move}
use Rattle.handover_out.specs.State.{board_of_phase as held_out}
use Rattle.handover_out.specs.declared.phase.Phase.{Phase as Out}
use Rattle.handover_out.specs.declared.phase.Phase.TheVariants as out
use Rattle.handover_in.specs.declared.phase.Phase.{Phase as In}
use Rattle.handover_in.specs.declared.phase.Phase.TheVariants as inn
use Rattle.law_custody.specs.Apart.{Entry, Exit, entry_described, entry_described_waiting, entry_finish_heard, entry_finish_sent, entry_idle, entry_inside_awaited, entry_none, entry_shaking, entry_shaking_waiting, entry_stopped, entry_stopped_finish_sent, entry_transporting, entry_waits, entry_waits_heard, entry_waits_in, exit_called, exit_called_stuck, exit_described, exit_described_stuck, exit_finished, exit_finished_stop_sent, exit_idle, exit_none, exit_none_stuck, exit_shaking, exit_shaking_stuck, exit_stop_sent, exit_stuck, exit_stuck_stop_sent, exit_transporting}
use Rattle.law_custody.specs.Facts.{HasDown, HasUp, down_first, down_later, up_first, up_later}
use Rattle.law_custody.specs.Flight.{Finishes, Fits, Offers, Readies, finishes_now, finishes_offer, finishes_revoke, fits_across, fits_fresh, fits_home, fits_inside, fits_lost, fits_stolen, offers_back, offers_new, offers_none, offers_same, readies_down, readies_none, readies_up}
use Rattle.law_custody.specs.Floor.{EntryFloor, in_free, in_waiting, is_in}
use Rattle.law_custody.specs.Pair.{Ghost, LinkState, Pair}
use Rattle.law_custody.specs.Place.{Fresh, NotAcross, Place, not_across_fresh, not_across_home, not_across_inside, not_across_lost}
use Rattle.law_custody.specs.Shape.{finish_and_stop_sent, finish_heard, finish_sent, inside_awaited, inside_awaited_stop_sent, intake_done, no_handover, start_and_stop_sent, start_sent, stop_heard, stop_sent, stuck_stop_heard, stuck_stop_sent, stuck_transporting, transporting}
use Rattle.law_custody.specs.Talks.{Talks, apart, apart_start, apart_start_stop, described, described_waiting, live, shaking_idle, shaking_stuck, shaking_stuck_waiting, shaking_waiting}
use Rattle.law_custody.specs.Unread.{IsAwaited, awaits_description, awaits_end}
use Rattle.law_custody.specs.Words.{DownWord, StartTransport, TransportFinished, UpWord, UpstreamService, down_words, up_words}
use Rattle.law_custody.proofs.Ahead.{HoldsNone, Rests, free_near, holds_ended, holds_idle, rests, rests_still}
use Rattle.law_custody.proofs.Behind.{holds_or_stale, nothing_behind_a_description, nothing_behind_an_end, stale_end_not, stale_service_not}
use Rattle.law_custody.proofs.Split.{split}

-- ---- what is offered says neither

offers_end_not : {f : Option Record} {ws : List DownWord} {o : Option ℕ} {e : Transfer} {z : ℕ} → Offers f ws o → HasDown (TransportFinished e z) ws → ⊥
offers_end_not offers_none h = elim h [ ]
offers_end_not offers_same h = elim h [ ]
offers_end_not (offers_new c) (down_later h) = offers_end_not c h
offers_end_not (offers_back c) (down_later h) = offers_end_not c h

offers_service_not : {f : Option Record} {ws : List DownWord} {o : Option ℕ} → Offers f ws o → HasDown UpstreamService ws → ⊥
offers_service_not offers_none h = elim h [ ]
offers_service_not offers_same h = elim h [ ]
offers_service_not (offers_new c) (down_later h) = offers_service_not c h
offers_service_not (offers_back c) (down_later h) = offers_service_not c h

-- ---- the end of a transfer that isn't complete: the board is not across

ends_fit : {ws : List DownWord} {x : ℕ} {p : Place} {t : Bool} {rest : List DownWord} {e : Transfer} {z : ℕ} → Finishes ws x p t rest → (HasDown (TransportFinished e z) rest → ⊥) → HasDown (TransportFinished e z) ws → Fits e p t
ends_fit (finishes_now f) none down_first = f
ends_fit (finishes_now f) none (down_later h) = absurd (none h)
ends_fit (finishes_offer c) none (down_later h) = ends_fit c none h
ends_fit (finishes_revoke c) none (down_later h) = ends_fit c none h

end_service_not : {ws : List DownWord} {x : ℕ} {p : Place} {t : Bool} {rest : List DownWord} → Finishes ws x p t rest → (HasDown UpstreamService rest → ⊥) → HasDown UpstreamService ws → ⊥
end_service_not (finishes_now f) none (down_later h) = none h
end_service_not (finishes_offer c) none (down_later h) = end_service_not c none h
end_service_not (finishes_revoke c) none (down_later h) = end_service_not c none h

nothing_more : {w : DownWord} → HasDown w [] → ⊥
nothing_more h = elim h [ ]

fits_near : {e : Transfer} {p : Place} {t : Bool} → Fits e p t → (e ≡ transfer.Complete → ⊥) → NotAcross p
fits_near fits_fresh n = not_across_fresh
fits_near fits_home n = not_across_home
fits_near fits_lost n = not_across_lost
fits_near fits_across n = absurd (n refl)
fits_near fits_inside n = absurd (n refl)
fits_near fits_stolen n = absurd (n refl)

end_near : {b : Bool} {y : SessionState} {i : In} {f : Option Record} {ri : Bool} {p : Place} {down : List DownWord} {e : Transfer} {z : ℕ} → Entry b y i f ri p down → (e ≡ transfer.Complete → ⊥) → HasDown (TransportFinished e z) down → NotAcross p
end_near entry_none n h = elim h [ ]
end_near entry_waits n h = elim h [ ]
end_near entry_waits_in n h = elim h [ ]
end_near (entry_waits_heard _) n h = elim h [ ]
end_near entry_shaking n h = elim h [ ]
end_near entry_shaking_waiting n h = elim h [ ]
end_near (entry_described c) n (down_later h) = absurd (offers_end_not c h)
end_near (entry_described_waiting c) n (down_later h) = absurd (offers_end_not c h)
end_near (entry_idle c) n h = absurd (offers_end_not c h)
end_near (entry_transporting s) n h = absurd (stale_end_not s h)
end_near (entry_finish_sent c) n h = fits_near (ends_fit c nothing_more h) n
end_near (entry_finish_heard _) n h = elim h [ ]
end_near (entry_stopped s) n h = absurd (stale_end_not s h)
end_near (entry_stopped_finish_sent c d) n h = fits_near (ends_fit c (λ m. offers_end_not d m) h) n
end_near (entry_inside_awaited _ c) n h = absurd (offers_end_not c h)

-- ---- the upstream machine's description: the intake is free, or its board is inside

data IsSettled : In → Type 0 where
  settled_free : IsSettled inn.Idle
  settled_in : {w : Record} → IsSettled (inn.Waiting w seen.Complete false)

service_settled : {b : Bool} {y : SessionState} {i : In} {f : Option Record} {ri : Bool} {p : Place} {down : List DownWord} → Entry b y i f ri p down → HasDown UpstreamService down → IsSettled i
service_settled entry_none h = elim h [ ]
service_settled entry_waits h = elim h [ ]
service_settled entry_waits_in h = elim h [ ]
service_settled (entry_waits_heard _) h = elim h [ ]
service_settled entry_shaking h = elim h [ ]
service_settled entry_shaking_waiting h = elim h [ ]
service_settled (entry_described c) h = settled_free
service_settled (entry_described_waiting c) h = settled_in
service_settled (entry_idle c) h = absurd (offers_service_not c h)
service_settled (entry_transporting s) h = absurd (stale_service_not s h)
service_settled (entry_finish_sent c) h = absurd (end_service_not c nothing_more h)
service_settled (entry_finish_heard _) h = elim h [ ]
service_settled (entry_stopped s) h = absurd (stale_service_not s h)
service_settled (entry_stopped_finish_sent c d) h = absurd (end_service_not c (λ m. offers_service_not d m) h)
service_settled (entry_inside_awaited _ c) h = absurd (offers_service_not c h)

settled_near : {i : In} {un : List SensorEvent} {ed : Bool} {p : Place} {r : Record} → IsSettled i → EntryFloor i un ed p r → NotAcross p
settled_near settled_free (in_free _ m) = m
settled_near settled_in (in_waiting is_in) = not_across_inside

holds_not : (o : Out) → held_out o ≡ None → HoldsNone o
holds_not out.Idle is = holds_idle
holds_not (out.Moving _ _) is = cc
holds_not (out.Stuck _ _ _) is = cc
holds_not (out.Ended _) is = holds_ended

pub still_down : (step : Move) (g : Ghost) (l : LinkState) (c : Around) (w : DownWord) → Pair g l → IsAwaited w → HasDown w (down_words l.down) → around_move step l.around ≡ Ok c → ⊥
still_down step g l c _ k awaits_description h e =
    rests_still step l c (rests (holds_not l.outlet.phase (nothing_behind_a_description (holds_or_stale k.talk) h)) k.out (settled_near (service_settled (split k.talk).entry h) k.in) k.gap) e
still_down step g l c _ k (awaits_end n) h e =
    rests_still step l c (rests (holds_not l.outlet.phase (nothing_behind_an_end (holds_or_stale k.talk) h)) k.out (end_near (split k.talk).entry n h) k.gap) e

-- ---- a start: the outlet is free, and the board fresh or dropped below

data Starting : Out → In → Place → Type 0 where
  starting_fresh : {i : In} → Starting out.Idle i Fresh
  starting_dropped : {p : Place} → Starting out.Idle inn.Idle p

readies_start_not : {a : Bool} {ws : List UpWord} {b : Bool} {z : ℕ} → Readies a ws b → HasUp (StartTransport z) ws → ⊥
readies_start_not readies_none h = elim h [ ]
readies_start_not (readies_up c) (up_later h) = readies_start_not c h
readies_start_not (readies_down c) (up_later h) = readies_start_not c h

exit_start_not : {b : Bool} {x : SessionState} {o : Out} {of : Option ℕ} {rd : Bool} {up : List UpWord} {z : ℕ} → Exit b x o of rd up → HasUp (StartTransport z) up → ⊥
exit_start_not exit_none h = elim h [ ]
exit_start_not exit_none_stuck h = elim h [ ]
exit_start_not exit_called (up_later h) = elim h [ ]
exit_start_not exit_called_stuck (up_later h) = elim h [ ]
exit_start_not exit_shaking h = elim h [ ]
exit_start_not exit_shaking_stuck h = elim h [ ]
exit_start_not exit_described (up_later h) = elim h [ ]
exit_start_not exit_described_stuck (up_later h) = elim h [ ]
exit_start_not (exit_idle c) h = readies_start_not c h
exit_start_not exit_transporting h = elim h [ ]
exit_start_not exit_stop_sent (up_later h) = elim h [ ]
exit_start_not exit_stuck h = elim h [ ]
exit_start_not exit_stuck_stop_sent (up_later h) = elim h [ ]
exit_start_not exit_finished h = elim h [ ]
exit_start_not (exit_finished_stop_sent c) (up_later h) = readies_start_not c h

starting : {b : Bool} {x y : SessionState} {o : Out} {of : Option ℕ} {rd : Bool} {i : In} {f : Option Record} {ri : Bool} {p : Place} {up : List UpWord} {down : List DownWord} {z : ℕ}
    → Talks b x o of rd y i f ri p up down → HasUp (StartTransport z) up → Starting o i p
starting (live (no_handover a _)) h = absurd (readies_start_not a h)
starting (live (start_sent _ _)) h = starting_fresh
starting (live (start_and_stop_sent _ _)) h = starting_fresh
starting (live (transporting _)) h = elim h [ ]
starting (live (stop_sent _)) (up_later h) = elim h [ ]
starting (live (stuck_transporting _)) h = elim h [ ]
starting (live (stuck_stop_sent _)) (up_later h) = elim h [ ]
starting (live (stuck_stop_heard _)) h = elim h [ ]
starting (live (finish_sent _)) h = elim h [ ]
starting (live (finish_and_stop_sent _)) (up_later h) = elim h [ ]
starting (live (stop_heard _ _)) h = elim h [ ]
starting (live (finish_heard _)) h = elim h [ ]
starting (live (intake_done a)) (up_later h) = absurd (readies_start_not a h)
starting (live (inside_awaited_stop_sent _)) (up_later h) = elim h [ ]
starting (live (inside_awaited _ _)) h = elim h [ ]
starting shaking_idle (up_later h) = elim h [ ]
starting shaking_waiting (up_later h) = elim h [ ]
starting shaking_stuck (up_later h) = elim h [ ]
starting shaking_stuck_waiting (up_later h) = elim h [ ]
starting (described _) h = elim h [ ]
starting (described_waiting _) h = elim h [ ]
starting (apart_start _ _) h = starting_dropped
starting (apart_start_stop _ _) h = starting_dropped
starting (apart a _) h = absurd (exit_start_not a h)

starting_free : {o : Out} {i : In} {p : Place} → Starting o i p → HoldsNone o
starting_free starting_fresh = holds_idle
starting_free starting_dropped = holds_idle

starting_near : {o : Out} {i : In} {p : Place} {un : List SensorEvent} {ed : Bool} {r : Record} → Starting o i p → EntryFloor i un ed p r → NotAcross p
starting_near starting_fresh floor = not_across_fresh
starting_near starting_dropped floor = free_near floor

pub still_up : (step : Move) (g : Ghost) (l : LinkState) (c : Around) (z : ℕ) → Pair g l → HasUp (StartTransport z) (up_words l.up) → around_move step l.around ≡ Ok c → ⊥
still_up step g l c z k h e = let s = starting k.talk h in rests_still step l c (rests (starting_free s) k.out (starting_near s k.in) k.gap) e
