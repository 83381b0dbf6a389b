-- The exit hears the downstream machine's ServiceDescription.
use Rattle.std.proofs.Common.{Bool, List, None, Option, Some, [], false, refl, true, ℕ, ◌++◌, ◌∷◌, ◌≡◌}
use Rattle.board_record.specs.declared.record.Record.{Record}
use Rattle.session_core.specs.declared.state.SessionState.{SessionState}
use Rattle.session_core.specs.declared.state.SessionState.TheVariants.{Handshake, Standing}
use Rattle.handover_out.specs.State.{board_of_phase as held_out}
use Rattle.handover_out.specs.declared.phase.Phase.{Phase as Out}
use Rattle.handover_out.specs.declared.phase.Phase.TheVariants as out
use Rattle.handover_in.specs.declared.phase.Phase.{Phase as In}
use Rattle.law_custody.specs.Apart.{exit_described, exit_described_stuck, exit_idle}
use Rattle.law_custody.specs.Contents.{Contents, OpenAll, open_back, open_end, open_new, open_none, open_passed, open_service}
use Rattle.law_custody.specs.Flight.{offers_none, readies_none}
use Rattle.law_custody.specs.Place.{Place}
use Rattle.law_custody.specs.Talks.{Talks, apart, described, described_waiting, shaking_idle, shaking_stuck, shaking_stuck_waiting, shaking_waiting}
use Rattle.law_custody.specs.Words.{DownWord, DownstreamService, UpWord, UpstreamService, sent}

-- the downstream machine describes itself to an exit whose outlet holds nothing, and is answered
pub hear_downstream_service : {b : Bool} {y : SessionState} {of : Option ℕ} {rd : Bool} {i : In} {f : Option Record} {ri : Bool} {p : Place} {up : List UpWord} {down : List DownWord}
    → Talks b Handshake out.Idle of rd y i f ri p (DownstreamService ∷ up) down
    → Talks b Standing out.Idle of rd y i f ri p up (sent (UpstreamService ∷ []) b down)
hear_downstream_service shaking_idle = described offers_none
hear_downstream_service shaking_waiting = described_waiting offers_none
hear_downstream_service (apart exit_described c) = apart (exit_idle readies_none) c

service_open : {Q : Record → Type 0} {b : Bool} {ws : List DownWord} → OpenAll Q b ws → OpenAll Q b (ws ++ (UpstreamService ∷ []))
service_open open_none = open_service open_none
service_open (open_new n h) = open_new n (service_open h)
service_open (open_passed h) = open_passed (service_open h)
service_open (open_back h) = open_back (service_open h)
service_open (open_end h) = open_end (service_open h)
service_open (open_service h) = open_service (service_open h)

pub contents_described : {Gone : ℕ → Type 0} {kept : List Record} {t last : Option ℕ} {i : In} {f : Option Record} {up : List UpWord} {down : List DownWord} (b : Bool)
    → Contents Gone b kept t last i f (DownstreamService ∷ up) down → Contents Gone b kept t last i f up (sent (UpstreamService ∷ []) b down)
contents_described true h = record { offers = service_open h.offers; offer = h.offer; start = h.start }
contents_described false h = record { offers = h.offers; offer = h.offer; start = h.start }

-- an outlet that holds a board is no party to a handshake: the session is closed at the description, and the
-- exit's close is all that happens
pub held_in_a_handshake : {b : Bool} {y : SessionState} {o : Out} {of : Option ℕ} {rd : Bool} {i : In} {f : Option Record} {ri : Bool} {p : Place} {up : List UpWord} {down : List DownWord} {q : Record}
    → Talks b Handshake o of rd y i f ri p (DownstreamService ∷ up) down → held_out o ≡ Some q → o ≡ out.Stuck q false false
held_in_a_handshake shaking_idle e = cc
held_in_a_handshake shaking_waiting e = cc
held_in_a_handshake shaking_stuck e = cc
held_in_a_handshake shaking_stuck_waiting e = cc
held_in_a_handshake (apart exit_described _) e = cc
held_in_a_handshake (apart exit_described_stuck _) e = cc

-- and one that holds none is idle
pub free_in_a_handshake : {b : Bool} {y : SessionState} {o : Out} {of : Option ℕ} {rd : Bool} {i : In} {f : Option Record} {ri : Bool} {p : Place} {up : List UpWord} {down : List DownWord}
    → Talks b Handshake o of rd y i f ri p (DownstreamService ∷ up) down → held_out o ≡ None → o ≡ out.Idle
free_in_a_handshake shaking_idle e = refl
free_in_a_handshake shaking_waiting e = refl
free_in_a_handshake shaking_stuck e = cc
free_in_a_handshake shaking_stuck_waiting e = cc
free_in_a_handshake (apart exit_described _) e = refl
free_in_a_handshake (apart exit_described_stuck _) e = cc
