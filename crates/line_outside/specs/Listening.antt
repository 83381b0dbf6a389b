-- Where a machine listens.
use Rattle.std.specs.Prelude.{ℕ, [], ◌∷◌}
use Rattle.line_outside.specs.declared.way.Address.{Address}

-- a port that only programs of the same computer reach
abbrev pub at_loopback : ℕ → Address
at_loopback port = record { host = 127 ∷ 0 ∷ 0 ∷ 1 ∷ []; port = port }

-- a port at every address that the computer has
abbrev pub at_all : ℕ → Address
at_all port = record { host = 0 ∷ 0 ∷ 0 ∷ 0 ∷ []; port = port }
