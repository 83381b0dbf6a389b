-- What is said goes to the end of what is in flight; hearing takes the first word off.
use Rattle.std.proofs.Common.{Bool, List, None, Option, Some, [], false, map, true, ℕ, ◌++◌, ◌∷◌}
use Rattle.line_base.specs.declared.states.Transfer.{Transfer}
use Rattle.board_record.specs.declared.record.Record.{Record}
use Rattle.law_custody.specs.Flight.{Finishes, Fits, Offers, Readies, Stale, Starts, finishes_now, finishes_offer, finishes_revoke, offers_back, offers_new, offers_none, offers_same, readies_down, readies_none, readies_up, stale_none, stale_offer, stale_revoke, starts_down, starts_now, starts_up}
use Rattle.law_custody.specs.Place.{Place}
use Rattle.law_custody.specs.Words.{BoardAvailable, DownWord, MachineReady, RevokeBoardAvailable, RevokeMachineReady, StartTransport, StopTransport, TransportFinished, UpWord}

pub readies_ready : {a : Bool} {ws : List UpWord} → Readies a ws false → Readies a (ws ++ (MachineReady ∷ [])) true
readies_ready readies_none = readies_up readies_none
readies_ready (readies_up h) = readies_up (readies_ready h)
readies_ready (readies_down h) = readies_down (readies_ready h)

pub readies_unready : {a : Bool} {ws : List UpWord} → Readies a ws true → Readies a (ws ++ (RevokeMachineReady ∷ [])) false
readies_unready readies_none = readies_down readies_none
readies_unready (readies_up h) = readies_up (readies_unready h)
readies_unready (readies_down h) = readies_down (readies_unready h)

pub readies_start : {a : Bool} {ws : List UpWord} (x : ℕ) → Readies a ws true → Starts a (ws ++ (StartTransport x ∷ [])) x []
readies_start x readies_none = starts_now
readies_start x (readies_up h) = starts_up (readies_start x h)
readies_start x (readies_down h) = starts_down (readies_start x h)

pub starts_stop : {a : Bool} {ws : List UpWord} {x : ℕ} (y : ℕ) → Starts a ws x [] → Starts a (ws ++ (StopTransport y ∷ [])) x (StopTransport y ∷ [])
starts_stop y starts_now = starts_now
starts_stop y (starts_up h) = starts_up (starts_stop y h)
starts_stop y (starts_down h) = starts_down (starts_stop y h)

pub offers_offer : {f : Option Record} {ws : List DownWord} (r : Record) → Offers f ws None → Offers f (ws ++ (BoardAvailable r ∷ [])) (Some r.id)
offers_offer r offers_none = offers_new offers_same
offers_offer r (offers_new h) = offers_new (offers_offer r h)
offers_offer r (offers_back h) = offers_back (offers_offer r h)

pub offers_revoke : {f : Option Record} {ws : List DownWord} {x : ℕ} → Offers f ws (Some x) → Offers f (ws ++ (RevokeBoardAvailable ∷ [])) None
offers_revoke offers_same = offers_back offers_none
offers_revoke (offers_new h) = offers_new (offers_revoke h)
offers_revoke (offers_back h) = offers_back (offers_revoke h)

pub offers_stale : {f : Option Record} {ws : List DownWord} {o : Option ℕ} → Offers f ws o → Stale ws
offers_stale offers_none = stale_none
offers_stale offers_same = stale_none
offers_stale (offers_new h) = stale_offer (offers_stale h)
offers_stale (offers_back h) = stale_revoke (offers_stale h)

pub stale_one_offer : {ws : List DownWord} (r : Record) → Stale ws → Stale (ws ++ (BoardAvailable r ∷ []))
stale_one_offer r stale_none = stale_offer stale_none
stale_one_offer r (stale_offer h) = stale_offer (stale_one_offer r h)
stale_one_offer r (stale_revoke h) = stale_revoke (stale_one_offer r h)

pub stale_one_revoke : {ws : List DownWord} → Stale ws → Stale (ws ++ (RevokeBoardAvailable ∷ []))
stale_one_revoke stale_none = stale_revoke stale_none
stale_one_revoke (stale_offer h) = stale_offer (stale_one_revoke h)
stale_one_revoke (stale_revoke h) = stale_revoke (stale_one_revoke h)

pub stale_end : {ws : List DownWord} {e : Transfer} {p : Place} {t : Bool} (x : ℕ) → Stale ws → Fits e p t → Finishes (ws ++ (TransportFinished e x ∷ [])) x p t []
stale_end x stale_none f = finishes_now f
stale_end x (stale_offer h) f = finishes_offer (stale_end x h f)
stale_end x (stale_revoke h) f = finishes_revoke (stale_end x h f)

pub finishes_more : {ws : List DownWord} {x : ℕ} {p : Place} {t : Bool} {rest : List DownWord} (w : DownWord) → Finishes ws x p t rest → Finishes (ws ++ (w ∷ [])) x p t (rest ++ (w ∷ []))
finishes_more w (finishes_now f) = finishes_now f
finishes_more w (finishes_offer h) = finishes_offer (finishes_more w h)
finishes_more w (finishes_revoke h) = finishes_revoke (finishes_more w h)

-- another place that the same ends fit
pub finishes_moved : {ws : List DownWord} {x : ℕ} {p q : Place} {t u : Bool} {rest : List DownWord} → ((e : Transfer) → Fits e p t → Fits e q u) → Finishes ws x p t rest
    → Finishes ws x q u rest
finishes_moved map (finishes_now f) = finishes_now (map _ f)
finishes_moved map (finishes_offer h) = finishes_offer (finishes_moved map h)
finishes_moved map (finishes_revoke h) = finishes_revoke (finishes_moved map h)
