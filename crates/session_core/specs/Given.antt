use Rattle.std.specs.Prelude.{◌≡◌, ◌≢◌}
use Rattle.line_base.specs.declared.states.Role.TheVariants.{Upstream}
use Rattle.session_core.specs.declared.state.SessionState.TheVariants.{NotConnected}
use Rattle.session_core.specs.End.{SessionEnd}
use Rattle.session_core.specs.Input.{Input, opened, second, heard, tick, shutdown, closed}

-- when an end is given an input: a connection where it has none, a second one where it is the
-- server, and all else where it has one
abbrev pub IsGiven : SessionEnd → Input → Type 0
IsGiven s opened = s.state ≡ NotConnected
IsGiven s second = (s.role ≡ Upstream) × (s.state ≢ NotConnected)
IsGiven s (heard _ _) = s.state ≢ NotConnected
IsGiven s tick = s.state ≢ NotConnected
IsGiven s shutdown = s.state ≢ NotConnected
IsGiven s closed = s.state ≢ NotConnected

-- an input is no message
abbrev pub IsNoMessage : Input → Type 0
IsNoMessage (heard _ _) = ⊥
IsNoMessage _ = Unit {0}
