use Rattle.std.specs.Prelude.{◌≡◌, ◌≤◌, ◌++◌, ℕ, List, Option, None, Some, length, take}
use Rattle.line_outside.specs.Faults.{Rose}
use Rattle.line_outside.specs.declared.pushing.Pushed.{Pushed}
use Rattle.line_outside.specs.declared.pushing.Pushed.TheVariants as pushes
use Rattle.line_outside.specs.declared.sink.Push.{Push}
use Rattle.line_outside.specs.declared.sink.Push.TheVariants.{Took, Failed}

-- the contents grew by these bytes, where they are told; what is untold stays untold
abbrev pub Grows : Option (List ℕ) → Option (List ℕ) → List ℕ → Type 0
Grows None None bytes = Unit {0}
Grows (Some old) None bytes = Unit {0}
Grows None (Some new) bytes = ⊥
Grows (Some old) (Some new) bytes = new ≡ old ++ bytes

-- the contents grew by a front of these bytes
pub record GrowsInPart (old new : Option (List ℕ)) (bytes : List ℕ) : Type 0 where
  pub front : List ℕ
  pub back : List ℕ
  pub parts : front ++ back ≡ bytes
  pub grows : Grows old new front

-- what a push does to the contents, where they are told
abbrev pub Takes : Option (List ℕ) → Option (List ℕ) → Push → List ℕ → Type 0
Takes old new (Took n) piece = (1 ≤ n) × (n ≤ length piece) × Grows old new (take n piece)
Takes old new Failed piece = new ≡ old

-- a count of faults never falls, and a failure comes only where it rose
abbrev pub HasPushCause : ℕ → ℕ → Push → Type 0
HasPushCause before now (Took n) = before ≤ now
HasPushCause before now Failed = (before ≤ now) × Rose before now

-- what pushing all of some bytes does: all are appended, or the sink failed, whose count rose, and
-- a front of them is
abbrev pub PushesAll : Option (List ℕ) → Option (List ℕ) → ℕ → ℕ → List ℕ → Pushed → Type 0
PushesAll old new before now bytes pushes.Whole = (before ≤ now) × Grows old new bytes
PushesAll old new before now bytes pushes.Failed =
    (before ≤ now) × Rose before now × GrowsInPart old new bytes
