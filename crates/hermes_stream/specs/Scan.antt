-- Where an end of a message is looked for.
use Rattle.std.specs.Prelude.{◌≡◌, ◌≢◌, ℕ, ◌+◌, ◌<◌, ◌≤◌, Bool, false, List, Option, None, Some, length, take, drop, nat_eq, slice_index}
use Rattle.std.specs.List.{ends_with}
use Rattle.hermes_stream.specs.Frames.{end_tag, begins_with_end}

-- no end of a message stands within the first so many bytes
abbrev pub IsSearched : List ℕ → ℕ → Type 0
IsSearched bytes count = (at : ℕ) → at + 9 ≤ count → begins_with_end (drop at bytes) ≡ false

-- the bytes before a place end with an end of a message
abbrev pub ends_at : List ℕ → ℕ → Bool
ends_at bytes at = ends_with nat_eq (take at bytes) end_tag

-- no `>` stands from a place on up to another
pub record HasNoClose (bytes : List ℕ) (from upto : ℕ) : Type 0 where
  pub none : (k : ℕ) → from ≤ k → k < upto → slice_index bytes k ≢ 62

-- a place within the bytes, from a place on, with no `>` before it
pub record IsPassed (bytes : List ℕ) (from place : ℕ) : Type 0 where
  pub behind : from ≤ place
  pub within : place < length bytes
  pub passed : HasNoClose bytes from place

-- the first `>` from a place on stands there, or nowhere
abbrev pub IsNextClose : List ℕ → ℕ → Option ℕ → Type 0
IsNextClose bytes from (Some place) = IsPassed bytes from place
IsNextClose bytes from None = HasNoClose bytes from (length bytes)
