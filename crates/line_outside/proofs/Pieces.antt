-- Taking a list in pieces.
use Rattle.std.proofs.Common.{◌≡◌, ℕ, ◌+◌, List, ◌++◌, take, drop, sym}
use Rattle.std.proofs.lemmas.List.{take-append-drop, drop-drop}

-- what is left from a place on is its first bytes, as they came into the room, and what is left then
pub drop-taken : (bytes room : List ℕ) (at n : ℕ) → take n room ≡ take n (drop at bytes) → drop at bytes ≡ take n room ++ drop (at + n) bytes
drop-taken bytes room at n filled = rw (filled, ← drop-drop n at bytes) (sym (take-append-drop n (drop at bytes)))
