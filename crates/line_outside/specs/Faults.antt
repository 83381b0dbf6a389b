use Rattle.std.specs.Prelude.{ℕ, ◌+◌, ◌-◌, ◌^◌, ◌<◌, ◌≤◌, min}

-- the last value of a count of faults, at which it stands still
abbrev pub last_count : ℕ
last_count = 2 ^ 64 - 1

-- a count rose, or stood at its last value
abbrev pub Rose : ℕ → ℕ → Type 0
Rose before now = before < last_count → before < now

-- the count after one more failure
abbrev pub one_more : ℕ → ℕ
one_more count = min (count + 1) last_count

-- a count rose, and did not fall
abbrev pub Rises : ℕ → ℕ → Type 0
Rises before now = (before ≤ now) × Rose before now
