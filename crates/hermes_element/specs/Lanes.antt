-- What is counted of the bytes of one load.
use Rattle.std.specs.Prelude.{◌≡◌, ℕ, ◌+◌, if◌then◌else◌, ◌<◌, ◌≤◌, Bool, true, false, ◌==◌, List, slice_index}
use Rattle.std.specs.Int.{w64, trailing_zeros}

-- the bytes from an index up to another pass the test
abbrev pub AllPassBetween : (ℕ → Bool) → List ℕ → ℕ → ℕ → Type 0
AllPassBetween test bytes at end = (k : ℕ) → at ≤ k → k < end → test (slice_index bytes k) ≡ true

-- the first `run` of the `n` bytes from an index pass the test, and the next one of them doesn't
abbrev pub IsRunIn : (ℕ → Bool) → List ℕ → ℕ → ℕ → ℕ → Type 0
IsRunIn test bytes at n run =
    ((run ≤ n) × AllPassBetween test bytes at (at + run))
    × (run < n → test (slice_index bytes (at + run)) ≡ false)

-- the index of the lowest bit that is set, or `n`
abbrev pub first_set : ℕ → ℕ → ℕ
first_set mask n = if mask == 0 then n else trailing_zeros w64 mask
