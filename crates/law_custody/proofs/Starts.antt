-- Whether a start is on its way to the outlet.
use Rattle.std.proofs.Common.{Bool, List, [], ap, false, refl, true, ℕ, ◌++◌, ◌∙◌, ◌∷◌, ◌≡◌}
use Rattle.law_custody.specs.Flight.{Readies, Starts, readies_down, readies_none, readies_up, starts_down, starts_now, starts_up}
use Rattle.law_custody.specs.Words.{DownstreamService, MachineReady, RevokeMachineReady, StartTransport, StopTransport, UpWord, sent, starts_in}

pub starts-append : (us ws : List UpWord) → starts_in (us ++ ws) ≡ starts_in us ++ starts_in ws
starts-append [] ws = refl
starts-append (StartTransport id ∷ us) ws = ap (λ ids. id ∷ ids) (starts-append us ws)
starts-append (MachineReady ∷ us) ws = starts-append us ws
starts-append (RevokeMachineReady ∷ us) ws = starts-append us ws
starts-append (StopTransport _ ∷ us) ws = starts-append us ws
starts-append (DownstreamService ∷ us) ws = starts-append us ws

-- what announces that the downstream machine is ready, or not, starts nothing
pub readies_start_nothing : {a c : Bool} {ws : List UpWord} → Readies a ws c → starts_in ws ≡ []
readies_start_nothing readies_none = refl
readies_start_nothing (readies_up h) = readies_start_nothing h
readies_start_nothing (readies_down h) = readies_start_nothing h

-- and a start that is on its way is one
pub one_start : {a : Bool} {ws rest : List UpWord} {x : ℕ} → Starts a ws x rest → starts_in ws ≡ x ∷ starts_in rest
one_start starts_now = refl
one_start (starts_up h) = one_start h
one_start (starts_down h) = one_start h

-- of words behind others there is no start where the words themselves have none
pub sent_starts_nothing : (ws : List UpWord) (b : Bool) (us : List UpWord) → starts_in ws ≡ [] → starts_in us ≡ [] → starts_in (sent ws b us) ≡ []
sent_starts_nothing [] b us _ e = e
sent_starts_nothing (w ∷ ws) true us d e = starts-append us (w ∷ ws) ∙ ap (λ ids. ids ++ starts_in (w ∷ ws)) e ∙ d
sent_starts_nothing (w ∷ ws) false us _ e = e
