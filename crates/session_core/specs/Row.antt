-- The session table as a plain program: what an input does to an end of a session, or that there
-- is no row for it.
use Rattle.std.specs.Prelude.{ℕ, Bool, true, false, List, Option, Some, None, nat_eq, if◌then◌else◌}
use Rattle.line_base.specs.declared.states.Role.{Role}
use Rattle.line_base.specs.declared.states.Role.TheVariants.{Upstream, Downstream}
use Rattle.hermes_horizontal.specs.Parts.{kind_of}
use Rattle.hermes_horizontal.specs.declared.message.Features.{Features}
use Rattle.hermes_horizontal.specs.declared.message.Horizontal.{Horizontal}
use Rattle.hermes_horizontal.specs.declared.message.Horizontal.TheVariants as messages
use Rattle.hermes_horizontal.specs.declared.message.Ping.{Ping}
use Rattle.hermes_horizontal.specs.declared.message.Ping.TheVariants.{Ask}
use Rattle.session_core.specs.declared.actions.Actions.{Actions}
use Rattle.session_core.specs.declared.actions.Action.TheVariants as act
use Rattle.session_core.specs.declared.actions.Tell.TheVariants.{AlreadyConnected, Unsettled, Shutdown}
use Rattle.session_core.specs.declared.handling.Handling.{Handling}
use Rattle.session_core.specs.declared.handling.Handling.TheVariants.{Pass, Refuse}
use Rattle.session_core.specs.declared.state.SessionState.{SessionState}
use Rattle.session_core.specs.declared.state.SessionState.TheVariants.{NotConnected, Handshake, Standing}
use Rattle.session_core.specs.End.{SessionEnd, at_rest, in_state, taken, stands, raised, grown, is_given_up}
use Rattle.session_core.specs.Acts.{nothing, one, two}
use Rattle.session_core.specs.Handling.{handling_of}
use Rattle.session_core.specs.Input.{Input, opened, second, heard, tick, shutdown, closed}

-- what a row of the session table says: the end after the input, and what is to be done
pub record SessionRow : Type 0 where
  pub after : SessionEnd
  pub actions : Actions

abbrev pub row : SessionEnd → Actions → Option SessionRow
row after actions = Some (record { after = after; actions = actions })

-- the row where there is a connection
abbrev pub connected_row : SessionState → SessionEnd → Actions → Option SessionRow
connected_row NotConnected _ _ = None
connected_row Handshake after actions = row after actions
connected_row Standing after actions = row after actions

-- the downstream end describes itself first
abbrev pub opening_actions : Role → Actions
opening_actions Downstream = one act.SendService
opening_actions Upstream = nothing

abbrev pub opened_row : SessionState → SessionEnd → Option SessionRow
opened_row NotConnected s = row (in_state (at_rest s.role) Handshake) (opening_actions s.role)
opened_row _ _ = None

abbrev pub second_row : Role → SessionEnd → Option SessionRow
second_row Upstream s = connected_row s.state s (one (act.Tell AlreadyConnected))
second_row Downstream _ = None

-- the peer describes itself, and the outlet holds a board or not
abbrev pub described_row : Role → SessionEnd → Features → Bool → Option SessionRow
described_row Upstream s features false = row (stands s features) (one act.SendService)
described_row Upstream s features true = row (at_rest s.role) (two (act.Tell Unsettled) act.Close)
described_row Downstream s features _ = row (stands s features) (one act.Stand)

abbrev pub service_row : SessionState → SessionEnd → Features → Bool → Option SessionRow
service_row Handshake s features unsettled = described_row s.role s features unsettled
service_row _ _ _ _ = None

-- a ping is answered with its Id
abbrev pub alive_actions : Option Ping → Option (List ℕ) → Actions
alive_actions (Some Ask) id = one (act.Pong id)
alive_actions _ _ = nothing

-- what is to be done at a message that is handled so, or that there is no row for it
abbrev pub actions_at : Handling → Horizontal → Option Actions
actions_at Pass message = Some (one (act.Pass message))
actions_at Refuse _ = None

abbrev pub taken_row : SessionEnd → Option Actions → Option SessionRow
taken_row s (Some actions) = row (taken s) actions
taken_row _ None = None

abbrev pub traffic_row : SessionState → SessionEnd → Horizontal → Option SessionRow
traffic_row Standing s message =
    taken_row s (actions_at (handling_of (kind_of message) s.role) message)
traffic_row _ _ _ = None

abbrev pub heard_row : SessionEnd → Horizontal → Bool → Option SessionRow
heard_row s (messages.CheckAlive ping id) _ =
    connected_row s.state (taken s) (alive_actions ping id)
heard_row s (messages.ServiceDescription service) unsettled =
    service_row s.state s service.features unsettled
heard_row s (messages.Notification _ _ _) _ = connected_row s.state (taken s) nothing
heard_row s (messages.Other _) _ = connected_row s.state (taken s) nothing
heard_row s message _ = traffic_row s.state s message

abbrev pub counted : SessionEnd → ℕ → ℕ → Actions → SessionRow
counted s silent pings actions =
    record { after = record s { silent = silent; pings = pings }; actions = actions }

-- a tick after which so many were silent: the peer is given up, or asked for a sign of life, or
-- waited for
abbrev pub ticked : SessionEnd → ℕ → SessionRow
ticked s silent =
    if is_given_up s.state silent s.peer then record {
      after = at_rest s.role;
      actions = one act.Close;
    }
    else (if nat_eq silent 2 then counted s silent (grown s.pings)
    (one (act.Ping (grown s.pings))) else counted s silent s.pings nothing)

abbrev pub tick_row : SessionEnd → SessionRow
tick_row s = ticked s (raised s.silent)

-- the session table
abbrev pub session_row : SessionEnd → Input → Option SessionRow
session_row s opened = opened_row s.state s
session_row s second = second_row s.role s
session_row s (heard message unsettled) = heard_row s message unsettled
session_row s tick = connected_row s.state (tick_row s).after (tick_row s).actions
session_row s shutdown = connected_row s.state (at_rest s.role) (two (act.Tell Shutdown) act.Close)
session_row s closed = connected_row s.state (at_rest s.role) nothing
