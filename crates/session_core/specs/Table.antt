-- The session table, row by row. An input that no row names does not stand in the table.
use Rattle.std.specs.Prelude.{◌≡◌, ◌≢◌, ℕ, Bool, true, false, List, Option, Some, None}
use Rattle.line_base.specs.declared.states.Code.{Code}
use Rattle.line_base.specs.declared.states.Role.{Role}
use Rattle.line_base.specs.declared.states.Role.TheVariants.{Upstream, Downstream}
use Rattle.line_base.specs.declared.states.Quality.{Quality}
use Rattle.line_base.specs.declared.states.Severity.{Severity}
use Rattle.line_base.specs.declared.states.Transfer.{Transfer}
use Rattle.board_record.specs.declared.record.Record.{Record}
use Rattle.hermes_horizontal.specs.declared.message.Features.{Features}
use Rattle.hermes_horizontal.specs.declared.message.Horizontal.TheVariants.{CheckAlive, ServiceDescription, Notification, BoardAvailable, RevokeBoardAvailable, MachineReady, RevokeMachineReady, StartTransport, StopTransport, TransportFinished, BoardForecast, QueryBoardInfo, SendBoardInfo, Other}
use Rattle.hermes_horizontal.specs.declared.message.Info.{Info}
use Rattle.hermes_horizontal.specs.declared.message.Ping.TheVariants as ping
use Rattle.hermes_horizontal.specs.declared.message.Service.{Service}
use Rattle.session_core.specs.declared.actions.Actions.{Actions}
use Rattle.session_core.specs.declared.actions.Action.TheVariants.{SendService, Pong, Ping, Tell, Close, Stand, Pass}
use Rattle.session_core.specs.declared.actions.Tell.TheVariants.{AlreadyConnected, Unsettled, Shutdown}
use Rattle.session_core.specs.declared.state.SessionState.{SessionState}
use Rattle.session_core.specs.declared.state.SessionState.TheVariants.{NotConnected, Handshake, Standing}
use Rattle.session_core.specs.End.{SessionEnd, no_features, at_rest, raised, grown}
use Rattle.session_core.specs.Acts.{nothing, one, two}
use Rattle.session_core.specs.Input.{Input, opened, second, heard, tick, shutdown, closed}
use Rattle.session_core.specs.Row.{SessionRow}

-- an end by its parts: role, state, silent count, pings, and the peer's features
abbrev pub end_of : Role → SessionState → ℕ → ℕ → Features → SessionEnd
end_of role state silent pings peer =
    record { role = role; state = state; silent = silent; pings = pings; peer = peer }

abbrev pub to : SessionEnd → Actions → SessionRow
to after actions = record { after = after; actions = actions }

pub data IsConnected : SessionState → Type 0 where
  in_handshake : IsConnected Handshake
  in_standing : IsConnected Standing

pub data IsSessionRow : SessionEnd → Input → SessionRow → Type 0 where
  -- a connection is made, and a second one
  opens_downstream : {k n : ℕ} {f : Features}
      → IsSessionRow (end_of Downstream NotConnected k n f) opened
      (to (end_of Downstream Handshake 0 0 no_features) (one SendService))
  opens_upstream : {k n : ℕ} {f : Features}
      → IsSessionRow (end_of Upstream NotConnected k n f) opened
      (to (end_of Upstream Handshake 0 0 no_features) nothing)
  refuses_second : {state : SessionState} {k n : ℕ} {f : Features} → IsConnected state
      → IsSessionRow (end_of Upstream state k n f) second
      (to (end_of Upstream state k n f) (one (Tell AlreadyConnected)))
  -- the peer describes itself
  stands_upstream : {k n : ℕ} {f : Features} {service : Service}
      → IsSessionRow (end_of Upstream Handshake k n f) (heard (ServiceDescription service) false)
      (to (end_of Upstream Standing 0 n service.features) (one SendService))
  is_unsettled : {k n : ℕ} {f : Features} {service : Service}
      → IsSessionRow (end_of Upstream Handshake k n f) (heard (ServiceDescription service) true)
      (to (at_rest Upstream) (two (Tell Unsettled) Close))
  stands_downstream : {k n : ℕ} {f : Features} {service : Service} {unsettled : Bool}
      → IsSessionRow (end_of Downstream Handshake k n f)
      (heard (ServiceDescription service) unsettled)
      (to (end_of Downstream Standing 0 n service.features) (one Stand))
  -- what every connection takes
  answers : {role : Role} {state : SessionState} {k n : ℕ} {f : Features} {id : Option
      (List ℕ)} {unsettled : Bool} → IsConnected state
      → IsSessionRow (end_of role state k n f) (heard (CheckAlive (Some ping.Ask) id) unsettled)
      (to (end_of role state 0 n f) (one (Pong id)))
  is_answered : {role : Role} {state : SessionState} {k n : ℕ} {f : Features} {id : Option
      (List ℕ)} {unsettled : Bool} → IsConnected state
      → IsSessionRow (end_of role state k n f) (heard (CheckAlive (Some ping.Answer) id) unsettled)
      (to (end_of role state 0 n f) nothing)
  is_alive : {role : Role} {state : SessionState} {k n : ℕ} {f : Features} {id : Option
      (List ℕ)} {unsettled : Bool} → IsConnected state
      → IsSessionRow (end_of role state k n f) (heard (CheckAlive None id) unsettled)
      (to (end_of role state 0 n f) nothing)
  is_notified : {role : Role} {state : SessionState} {k n : ℕ} {f : Features} {code : Code}
      {severity : Severity} {text : List ℕ} {unsettled : Bool} → IsConnected state
      → IsSessionRow (end_of role state k n f) (heard (Notification code severity text) unsettled)
      (to (end_of role state 0 n f) nothing)
  passes_over : {role : Role} {state : SessionState} {k n : ℕ} {f : Features} {name : List ℕ}
      {unsettled : Bool} → IsConnected state
      → IsSessionRow (end_of role state k n f) (heard (Other name) unsettled)
      (to (end_of role state 0 n f) nothing)
  -- what a standing upstream end passes to its outlet, and the query of board information
  passes_ready : {k n : ℕ} {f : Features} {quality : Quality} {unsettled : Bool}
      → IsSessionRow (end_of Upstream Standing k n f) (heard (MachineReady quality) unsettled)
      (to (end_of Upstream Standing 0 n f) (one (Pass (MachineReady quality))))
  passes_unready : {k n : ℕ} {f : Features} {unsettled : Bool}
      → IsSessionRow (end_of Upstream Standing k n f) (heard RevokeMachineReady unsettled)
      (to (end_of Upstream Standing 0 n f) (one (Pass RevokeMachineReady)))
  passes_start : {k n : ℕ} {f : Features} {id : ℕ} {unsettled : Bool}
      → IsSessionRow (end_of Upstream Standing k n f) (heard (StartTransport id) unsettled)
      (to (end_of Upstream Standing 0 n f) (one (Pass (StartTransport id))))
  passes_stop : {k n : ℕ} {f : Features} {said : Transfer} {id : ℕ} {unsettled : Bool}
      → IsSessionRow (end_of Upstream Standing k n f) (heard (StopTransport said id) unsettled)
      (to (end_of Upstream Standing 0 n f) (one (Pass (StopTransport said id))))
  passes_query : {k n : ℕ} {f : Features} {top bottom : Option (List ℕ)} {unsettled : Bool}
      → IsSessionRow (end_of Upstream Standing k n f) (heard (QueryBoardInfo top bottom) unsettled)
      (to (end_of Upstream Standing 0 n f) (one (Pass (QueryBoardInfo top bottom))))
  -- what a standing downstream end passes to its intake, the forecasts, and what answers a query
  passes_available : {k n : ℕ} {f : Features} {board : Record} {unsettled : Bool}
      → IsSessionRow (end_of Downstream Standing k n f) (heard (BoardAvailable board) unsettled)
      (to (end_of Downstream Standing 0 n f) (one (Pass (BoardAvailable board))))
  passes_revoked : {k n : ℕ} {f : Features} {unsettled : Bool}
      → IsSessionRow (end_of Downstream Standing k n f) (heard RevokeBoardAvailable unsettled)
      (to (end_of Downstream Standing 0 n f) (one (Pass RevokeBoardAvailable)))
  passes_finished : {k n : ℕ} {f : Features} {said : Transfer} {id : ℕ} {unsettled : Bool}
      → IsSessionRow (end_of Downstream Standing k n f)
      (heard (TransportFinished said id) unsettled)
      (to (end_of Downstream Standing 0 n f) (one (Pass (TransportFinished said id))))
  passes_forecast : {k n : ℕ} {f : Features} {info : Info} {unsettled : Bool}
      → IsSessionRow (end_of Downstream Standing k n f) (heard (BoardForecast info) unsettled)
      (to (end_of Downstream Standing 0 n f) (one (Pass (BoardForecast info))))
  passes_info : {k n : ℕ} {f : Features} {info : Info} {unsettled : Bool}
      → IsSessionRow (end_of Downstream Standing k n f) (heard (SendBoardInfo info) unsettled)
      (to (end_of Downstream Standing 0 n f) (one (Pass (SendBoardInfo info))))
  -- a tick: where the silent count becomes 2 the peer is asked for a sign of life; where it is 5
  -- the connection is closed in the handshake, and else where the peer lists that it answers
  asks : {role : Role} {state : SessionState} {k n : ℕ} {f : Features} → IsConnected state
      → raised k ≡ 2
      → IsSessionRow (end_of role state k n f) tick
      (to (end_of role state (raised k) (grown n) f) (one (Ping (grown n))))
  gives_up_handshake : {role : Role} {k n : ℕ} {f : Features} → raised k ≡ 5
      → IsSessionRow (end_of role Handshake k n f) tick (to (at_rest role) (one Close))
  gives_up_standing : {role : Role} {k n : ℕ} {f : Features} → raised k ≡ 5 → f.check_alive ≡ true
      → IsSessionRow (end_of role Standing k n f) tick (to (at_rest role) (one Close))
  waits_in_handshake : {role : Role} {k n : ℕ} {f : Features} → raised k ≢ 2 → raised k ≢ 5
      → IsSessionRow (end_of role Handshake k n f) tick
      (to (end_of role Handshake (raised k) n f) nothing)
  waits_standing : {role : Role} {k n : ℕ} {f : Features} → raised k ≢ 2
      → (raised k ≡ 5 → f.check_alive ≡ false)
      → IsSessionRow (end_of role Standing k n f) tick
      (to (end_of role Standing (raised k) n f) nothing)
  -- the connection ends
  shuts_down : {role : Role} {state : SessionState} {k n : ℕ} {f : Features} → IsConnected state
      → IsSessionRow (end_of role state k n f) shutdown
      (to (at_rest role) (two (Tell Shutdown) Close))
  is_closed : {role : Role} {state : SessionState} {k n : ℕ} {f : Features} → IsConnected state
      → IsSessionRow (end_of role state k n f) closed (to (at_rest role) nothing)
