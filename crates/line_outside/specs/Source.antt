use Rattle.std.specs.Prelude.{◌≡◌, ◌≤◌, ◌++◌, ℕ, List, [], Option, option_map, length, take}
use Rattle.line_outside.specs.Faults.{Rose}
use Rattle.line_outside.specs.declared.source.Pull.{Pull}
use Rattle.line_outside.specs.declared.source.Pull.TheVariants.{Bytes, End, Failed}

-- what a pull does to the bytes that are left, where they are told: the first bytes of the room
-- were the next ones; at the end none were left; a failure takes none
abbrev pub Gives : Option (List ℕ) → Option (List ℕ) → Pull → List ℕ → Type 0
Gives old new (Bytes n) room =
    (1 ≤ n) × (n ≤ length room) × (old ≡ option_map (λ rest. take n room ++ rest) new)
Gives old new End room = (new ≡ old) × (old ≡ option_map (λ _. []) old)
Gives old new Failed room = new ≡ old

-- a count of faults never falls, and a failure comes only where it rose
abbrev pub HasPullCause : ℕ → ℕ → Pull → Type 0
HasPullCause before now (Bytes n) = before ≤ now
HasPullCause before now End = before ≤ now
HasPullCause before now Failed = (before ≤ now) × Rose before now
