-- The exit hears MachineReady and RevokeMachineReady, however the link stands.
use Rattle.std.proofs.Common.{Bool, List, Option, false, refl, true, ℕ, ◌∷◌}
use Rattle.line_base.specs.declared.states.SensorEvent.{SensorEvent}
use Rattle.board_record.specs.declared.record.Record.{Record}
use Rattle.session_core.specs.declared.state.SessionState.{SessionState}
use Rattle.handover_out.specs.declared.input.OutInput.TheVariants as out_input
use Rattle.handover_out.specs.declared.phase.Phase.{Phase as Out}
use Rattle.handover_out.specs.declared.phase.Phase.TheVariants as out
use Rattle.handover_in.specs.declared.phase.Phase.{Phase as In}
use Rattle.law_custody.specs.Apart.{exit_idle}
use Rattle.law_custody.specs.Flight.{readies_down, readies_up, starts_down, starts_up}
use Rattle.law_custody.specs.Floor.{ExitFloor}
use Rattle.law_custody.specs.Place.{Place}
use Rattle.law_custody.specs.Shape.{no_handover, start_and_stop_sent, start_sent}
use Rattle.law_custody.specs.Steps.{ExitDid, outlet}
use Rattle.law_custody.specs.Talks.{Talks, apart, apart_start, apart_start_stop, live}
use Rattle.law_custody.specs.Words.{DownWord, MachineReady, RevokeMachineReady, UpWord}
use Rattle.law_custody.proofs.Contents.{contents_heard}

becomes_ready : {Gone : ℕ → Type 0} {b : Bool} {x y : SessionState} {of : Option ℕ} {i : In} {f : Option Record} {ri : Bool} {p : Place} {r : Record} {up : List UpWord} {down : List DownWord} {ue : List SensorEvent} {xd : Bool} (t : Option ℕ)
    → ExitFloor out.Idle ue xd p r → Talks b x out.Idle of true y i f ri p up down
    → ExitDid Gone out_input.MachineReady (outlet out.Idle of t false) ue xd b x y i f ri p r (MachineReady ∷ up) up down
becomes_ready t h k = record { row = _; is = refl; out = h; talk = k; body = λ ks. refl; contents = λ ks last c. contents_heard refl c; lets = λ l n. n; starts = refl; answers = λ l. refl }

pub hear_ready : {Gone : ℕ → Type 0} {b : Bool} {x y : SessionState} {o : Out} {of : Option ℕ} {rd : Bool} {i : In} {f : Option Record} {ri : Bool} {p : Place} {r : Record} {up : List UpWord} {down : List DownWord} {ue : List SensorEvent} {xd : Bool}
    → (t : Option ℕ) → ExitFloor o ue xd p r → Talks b x o of rd y i f ri p (MachineReady ∷ up) down
    → ExitDid Gone out_input.MachineReady (outlet o of t rd) ue xd b x y i f ri p r (MachineReady ∷ up) up down
hear_ready t h (live (no_handover (readies_up a) c)) = becomes_ready t h (live (no_handover a c))
hear_ready t h (live (start_sent (starts_up a) c)) = becomes_ready t h (live (start_sent a c))
hear_ready t h (live (start_and_stop_sent (starts_up a) c)) = becomes_ready t h (live (start_and_stop_sent a c))
hear_ready t h (apart_start (starts_up a) c) = becomes_ready t h (apart_start a c)
hear_ready t h (apart_start_stop (starts_up a) c) = becomes_ready t h (apart_start_stop a c)
hear_ready t h (apart (exit_idle (readies_up a)) c) = becomes_ready t h (apart (exit_idle a) c)

becomes_unready : {Gone : ℕ → Type 0} {b : Bool} {x y : SessionState} {of : Option ℕ} {i : In} {f : Option Record} {ri : Bool} {p : Place} {r : Record} {up : List UpWord} {down : List DownWord} {ue : List SensorEvent} {xd : Bool} (t : Option ℕ)
    → ExitFloor out.Idle ue xd p r → Talks b x out.Idle of false y i f ri p up down
    → ExitDid Gone out_input.RevokeMachineReady (outlet out.Idle of t true) ue xd b x y i f ri p r (RevokeMachineReady ∷ up) up down
becomes_unready t h k = record { row = _; is = refl; out = h; talk = k; body = λ ks. refl; contents = λ ks last c. contents_heard refl c; lets = λ l n. n; starts = refl; answers = λ l. refl }

pub hear_revoke_ready : {Gone : ℕ → Type 0} {b : Bool} {x y : SessionState} {o : Out} {of : Option ℕ} {rd : Bool} {i : In} {f : Option Record} {ri : Bool} {p : Place} {r : Record} {up : List UpWord} {down : List DownWord} {ue : List SensorEvent} {xd : Bool}
    → (t : Option ℕ) → ExitFloor o ue xd p r → Talks b x o of rd y i f ri p (RevokeMachineReady ∷ up) down
    → ExitDid Gone out_input.RevokeMachineReady (outlet o of t rd) ue xd b x y i f ri p r (RevokeMachineReady ∷ up) up down
hear_revoke_ready t h (live (no_handover (readies_down a) c)) = becomes_unready t h (live (no_handover a c))
hear_revoke_ready t h (live (start_sent (starts_down a) c)) = becomes_unready t h (live (start_sent a c))
hear_revoke_ready t h (live (start_and_stop_sent (starts_down a) c)) = becomes_unready t h (live (start_and_stop_sent a c))
hear_revoke_ready t h (apart_start (starts_down a) c) = becomes_unready t h (apart_start a c)
hear_revoke_ready t h (apart_start_stop (starts_down a) c) = becomes_unready t h (apart_start_stop a c)
hear_revoke_ready t h (apart (exit_idle (readies_down a)) c) = becomes_unready t h (apart (exit_idle a) c)
