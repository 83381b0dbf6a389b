-- What a cutter is once the frame that it lent is let go.
use Rattle.std.specs.Prelude.{◌≡◌, List, ℕ, ⊤}
use Rattle.std.specs.Borrow.{Fml, MutBor, follows_so}
use mathlib.Core.Option.{none}
use Rattle.hermes_stream.specs.Frames.{left_of}
use Rattle.hermes_stream.specs.contracts.cutter.Cutter.{the_row}

-- the bytes that wait are those that the cut left
abbrev pub RestsAsLeft : MutBor (List ℕ) → Fml
RestsAsLeft cutter =
    follows_so the_row the_row cutter.ghost_name none (λ _ _. ⊤) (λ last.
    last ≡ left_of cutter.now)
