-- Connections.
use Rattle.std.proofs.Common.{Bool, List, None, Option, [], true, ℕ, ◌∷◌, ◌≡◌}
use Rattle.line_base.specs.declared.states.Seen.TheVariants as seen
use Rattle.line_base.specs.declared.states.SensorEvent.{SensorEvent}
use Rattle.board_record.specs.declared.record.Record.{Record}
use Rattle.session_core.specs.declared.state.SessionState.{SessionState}
use Rattle.session_core.specs.declared.state.SessionState.TheVariants.{Handshake, NotConnected}
use Rattle.handover_out.specs.declared.phase.Phase.{Phase as Out}
use Rattle.handover_in.specs.State.{may_connect}
use Rattle.handover_in.specs.declared.phase.Phase.{Phase as In}
use Rattle.handover_in.specs.declared.phase.Phase.TheVariants as inn
use Rattle.law_custody.specs.Apart.{away_none, away_shaking, entry_none, entry_shaking, entry_shaking_waiting, entry_waits, entry_waits_heard, entry_waits_in, exit_called, exit_called_stuck, exit_none, exit_none_stuck}
use Rattle.law_custody.specs.Contents.{Contents, open_none}
use Rattle.law_custody.specs.Floor.{EntryFloor, ExitFloor}
use Rattle.law_custody.specs.Place.{Place}
use Rattle.law_custody.specs.Talks.{Talks, apart, apart_start, apart_start_stop, shaking_idle, shaking_stuck, shaking_stuck_waiting, shaking_waiting}
use Rattle.law_custody.specs.Words.{DownWord, DownstreamService, UpWord, starts_in}
use Rattle.law_custody.proofs.Contents.{none_open}

-- an intake beside which a connection may be opened
pub data May : In → Type 0 where
  may_idle : May inn.Idle
  may_waiting : {r : Record} {h : Bool} → May (inn.Waiting r seen.Complete h)

pub may : (i : In) → may_connect i ≡ true → May i
may inn.Idle _ = may_idle
may (inn.Waiting _ seen.Complete _) _ = may_waiting
may (inn.Waiting _ seen.NotStarted _) e = cc
may (inn.Waiting _ seen.Incomplete _) e = cc
may (inn.Waiting _ seen.Taken _) e = cc
may (inn.Taking _ _ _) e = cc
may (inn.Stopped _ _ _) e = cc

-- the entry opens a connection; an exit that has one already stays as it is
pub connect : {b : Bool} {x : SessionState} {o : Out} {of : Option ℕ} {rd : Bool} {i : In} {f : Option Record} {ri : Bool} {p : Place} {up : List UpWord} {down : List DownWord}
    → May i → Talks b x o of rd NotConnected i f ri p up down
    → Talks b x o of rd Handshake i f ri p up down
connect m (apart_start a away_none) = apart_start a away_shaking
connect m (apart_start_stop a away_none) = apart_start_stop a away_shaking
connect m (apart a entry_none) = apart a entry_shaking
connect m (apart a entry_waits) = elim m [ ]
connect m (apart a entry_waits_in) = apart a entry_shaking_waiting
connect m (apart a (entry_waits_heard _)) = elim m [ ]

-- the entry calls and describes itself, and the exit has not taken the connection yet
pub call : {b : Bool} {o : Out} {of : Option ℕ} {rd : Bool} {i : In} {f : Option Record} {ri : Bool} {p : Place} {up : List UpWord} {down : List DownWord}
    → May i → Talks b NotConnected o of rd NotConnected i f ri p up down
    → Talks b NotConnected o of rd Handshake i f ri p (DownstreamService ∷ []) down
call m (apart exit_none entry_none) = apart exit_called entry_shaking
call m (apart exit_none entry_waits) = elim m [ ]
call m (apart exit_none entry_waits_in) = apart exit_called entry_shaking_waiting
call m (apart exit_none (entry_waits_heard _)) = elim m [ ]
call m (apart exit_none_stuck entry_none) = apart exit_called_stuck entry_shaking
call m (apart exit_none_stuck entry_waits) = elim m [ ]
call m (apart exit_none_stuck entry_waits_in) = apart exit_called_stuck entry_shaking_waiting
call m (apart exit_called entry_none) = apart exit_called entry_shaking
call m (apart exit_called entry_waits) = elim m [ ]
call m (apart exit_called entry_waits_in) = apart exit_called entry_shaking_waiting
call m (apart exit_called (entry_waits_heard _)) = elim m [ ]
call m (apart exit_called_stuck entry_none) = apart exit_called_stuck entry_shaking
call m (apart exit_called_stuck entry_waits) = elim m [ ]
call m (apart exit_called_stuck entry_waits_in) = apart exit_called_stuck entry_shaking_waiting

-- the exit takes it
pub take_call : {b : Bool} {o : Out} {of : Option ℕ} {rd : Bool} {i : In} {f : Option Record} {ri : Bool} {p : Place} {r : Record} {up : List UpWord} {ue un : List SensorEvent} {xd ed : Bool}
    → Talks b NotConnected o of rd Handshake i f ri p (DownstreamService ∷ up) [] → ExitFloor o ue xd p r → EntryFloor i un ed p r
    → Talks true Handshake o of rd Handshake i f ri p (DownstreamService ∷ up) []
take_call (apart exit_called entry_shaking) _ _ = shaking_idle
take_call (apart exit_called entry_shaking_waiting) _ _ = shaking_waiting
take_call (apart exit_called_stuck entry_shaking) _ _ = shaking_stuck
take_call (apart exit_called_stuck entry_shaking_waiting) _ _ = shaking_stuck_waiting

-- both at once
pub accept : {b : Bool} {o : Out} {of : Option ℕ} {rd : Bool} {i : In} {f : Option Record} {ri : Bool} {p : Place} {r : Record} {ue un : List SensorEvent} {xd ed : Bool}
    → Talks b NotConnected o of rd Handshake i f ri p [] [] → ExitFloor o ue xd p r → EntryFloor i un ed p r
    → Talks true Handshake o of rd Handshake i f ri p (DownstreamService ∷ []) []
accept (apart exit_none entry_shaking) _ _ = shaking_idle
accept (apart exit_none entry_shaking_waiting) _ _ = shaking_waiting
accept (apart exit_none_stuck entry_shaking) _ _ = shaking_stuck
accept (apart exit_none_stuck entry_shaking_waiting) _ _ = shaking_stuck_waiting

-- nothing is offered on a new connection
pub contents_new : {Gone : ℕ → Type 0} {b c : Bool} {ks : List Record} {t last : Option ℕ} {i : In} {f : Option Record} {up us : List UpWord}
    → starts_in us ≡ [] → Contents Gone b ks t last i f up [] → f ≡ None → Contents Gone c ks t last i f us []
contents_new quiet h e = record { offers = open_none; offer = none_open e; start = λ r _ _ some. absurd (some quiet) }
