use Rattle.std.specs.Prelude.{ℕ, Bool, true, false, ◌+◌, ◌&&◌, nat_lt, if◌then◌else◌}
use Rattle.line_base.specs.declared.states.Role.{Role}
use Rattle.hermes_horizontal.specs.declared.message.Features.{Features}
use Rattle.session_core.specs.declared.state.SessionState.{SessionState}
use Rattle.session_core.specs.declared.state.SessionState.TheVariants.{NotConnected, Handshake, Standing}

-- one end of a session: its part, how far its connection is, how many ticks in a row were silent,
-- how many pings were sent on this connection, and the features that the peer listed
pub record SessionEnd : Type 0 where
  pub role : Role
  pub state : SessionState
  pub silent : ℕ
  pub pings : ℕ
  pub peer : Features

abbrev pub no_features : Features
no_features = record { check_alive = false; forecast = false; query = false; send = false }

-- no connection
abbrev pub at_rest : Role → SessionEnd
at_rest role =
    record { role = role; state = NotConnected; silent = 0; pings = 0; peer = no_features }

-- the same in another state
abbrev pub in_state : SessionEnd → SessionState → SessionEnd
in_state s state = record s { state = state }

-- a message was taken
abbrev pub taken : SessionEnd → SessionEnd
taken s = record s { silent = 0 }

-- the peer's description was taken, and the session stands
abbrev pub stands : SessionEnd → Features → SessionEnd
stands s features = record s { state = Standing; silent = 0; peer = features }

-- the count of silent ticks after one more: it goes up to 5
abbrev pub raised : ℕ → ℕ
raised silent = if nat_lt silent 5 then silent + 1 else 5

-- the number of pings after one more: it goes up to the largest number of 64 bits
abbrev pub grown : ℕ → ℕ
grown pings = if nat_lt pings 18446744073709551615 then pings + 1 else 18446744073709551615

-- whether a silent peer is watched: always in the handshake, and then where it lists the feature
abbrev pub is_watched : SessionState → Features → Bool
is_watched NotConnected _ = false
is_watched Handshake _ = true
is_watched Standing peer = peer.check_alive

-- whether a peer is given up after so many silent ticks
abbrev pub is_given_up : SessionState → ℕ → Features → Bool
is_given_up state silent peer = nat_lt 4 silent && is_watched state peer

abbrev pub is_connected_state : SessionState → Bool
is_connected_state NotConnected = false
is_connected_state Handshake = true
is_connected_state Standing = true

abbrev pub is_standing_state : SessionState → Bool
is_standing_state NotConnected = false
is_standing_state Handshake = false
is_standing_state Standing = true
