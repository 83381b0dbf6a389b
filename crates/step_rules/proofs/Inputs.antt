-- What comes to the tables in a step: which inputs don't.
use Rattle.std.proofs.Common.{◌≡◌}
use Rattle.line_base.specs.declared.states.Side.{Side}
use Rattle.session_core.specs.declared.state.SessionState.{SessionState}
use Rattle.session_core.specs.declared.state.SessionState.TheVariants.{NotConnected}
use Rattle.session_core.specs.End.{SessionEnd}
use Rattle.session_core.specs.Input.{Input, closed, opened}
use Rattle.session_core.specs.Row.{SessionRow}
use Rattle.session_core.specs.Table.{
  IsConnected,
  IsSessionRow,
  answers,
  asks,
  in_handshake,
  in_standing,
  is_alive,
  is_answered,
  is_closed,
  is_notified,
  opens_downstream,
  opens_upstream,
  passes_over,
  refuses_second,
  shuts_down,
}
use Rattle.handover_out.specs.declared.input.OutInput.{OutInput}
use Rattle.handover_out.specs.declared.input.OutInput.TheVariants as out_input
use Rattle.node_core.specs.declared.lane.Body.{Body}
use Rattle.step_rules.specs.Causes.{Cause, ToOutlet, ToSession, by_connect, out_closed}

-- the end of a connection comes to no session by itself
abbrev pub IsNoClose : Input → Type 0
IsNoClose closed = ⊥
IsNoClose _ = Unit {0}

pub no_close : {cause : Cause} {side : Side} {input : Input} → ToSession cause side input
    → IsNoClose input
no_close by_connect = tt
no_close _ = tt

-- a start that is heard is a piece of its own
abbrev pub IsNoStart : OutInput → Type 0
IsNoStart (out_input.Start id board) = ⊥
IsNoStart _ = Unit {0}

pub no_start : {cause : Cause} {body : Body} {input : OutInput} → ToOutlet cause body input
    → IsNoStart input
no_start (out_closed talk) = tt
no_start _ = tt

-- ---- without a connection a session has a row at one alone

abbrev pub IsNoOpening : Input → Type 0
IsNoOpening opened = ⊥
IsNoOpening _ = Unit {0}

no_connection : {state : SessionState} → IsConnected state → state ≡ NotConnected → ⊥
no_connection in_handshake off = cc
no_connection in_standing off = cc

pub none_without : {s : SessionEnd} {input : Input} {row : SessionRow} → IsSessionRow s input row
    → IsNoOpening input → s.state ≡ NotConnected → ⊥
none_without opens_downstream other off = absurd other
none_without opens_upstream other off = absurd other
none_without (refuses_second on) other off = no_connection on off
none_without (answers on) other off = no_connection on off
none_without (is_answered on) other off = no_connection on off
none_without (is_alive on) other off = no_connection on off
none_without (is_notified on) other off = no_connection on off
none_without (passes_over on) other off = no_connection on off
none_without (asks on two) other off = no_connection on off
none_without (shuts_down on) other off = no_connection on off
none_without (is_closed on) other off = no_connection on off
none_without _ other off = cc
