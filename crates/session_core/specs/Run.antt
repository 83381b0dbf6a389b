use Rattle.std.specs.Prelude.{ℕ, zero, suc, Bool, true, false, List, [], ◌∷◌, Option, Some, None, is_some}
use Rattle.session_core.specs.declared.state.SessionState.{SessionState}
use Rattle.session_core.specs.declared.state.SessionState.TheVariants.{NotConnected}
use Rattle.session_core.specs.End.{SessionEnd}
use Rattle.session_core.specs.Input.{Input, tick}
use Rattle.session_core.specs.Row.{SessionRow, session_row}
use Rattle.session_core.specs.Standing.{described}

abbrev pub after_row : SessionEnd → Option SessionRow → SessionEnd
after_row s (Some row) = row.after
after_row s None = s

-- an end after an input, for which there may be no row
abbrev pub step : SessionEnd → Input → SessionEnd
step s input = after_row s (session_row s input)

-- an end after a list of inputs
abbrev pub after_all : SessionEnd → List Input → SessionEnd
after_all s [] = s
after_all s (input ∷ inputs) = after_all (step s input) inputs

-- an end after so many silent ticks
abbrev pub after_ticks : ℕ → SessionEnd → SessionEnd
after_ticks zero s = s
after_ticks (suc n) s = after_ticks n (step s tick)

abbrev pub is_heard : Bool → Input → Bool
is_heard true _ = true
is_heard false input = is_some (described input)

-- whether the peer's description was heard on this connection: a connection that is made begins
-- anew
abbrev pub is_described : SessionState → Bool → Input → Bool
is_described NotConnected _ input = false
is_described _ before input = is_heard before input

abbrev pub is_described_after : Bool → SessionEnd → List Input → Bool
is_described_after before s [] = before
is_described_after before s (input ∷ inputs) =
    is_described_after (is_described s.state before input) (step s input) inputs
