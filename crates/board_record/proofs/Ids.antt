-- A number's bytes.
use Rattle.std.proofs.Common.{◌≡◌, ℕ, zero, suc, ◌<◌, All, length, refl, arith}
use Rattle.std.specs.Int.{w128, to_be_bytes, bytes_high_first, byte_at}
use Rattle.std.specs.List.{AllByRecursion}
use Rattle.std.proofs.lemmas.List.Elements.{All-from_recursion}

byte_at_small : (k n : ℕ) → byte_at k n < 256
byte_at_small zero n = omega arith
byte_at_small (suc k) n = omega arith

bytes_high_first_small : (k n : ℕ) → AllByRecursion (λ b. b < 256) (bytes_high_first k n)
bytes_high_first_small zero n = tt
bytes_high_first_small (suc k) n = (byte_at_small k n, bytes_high_first_small k n)

pub to_be_bytes_small : (n : ℕ) → All (λ b. b < 256) (to_be_bytes w128 n)
to_be_bytes_small n = All-from_recursion (λ b. b < 256) (bytes_high_first 16 n) (bytes_high_first_small 16 n)

pub to_be_bytes_length : (n : ℕ) → length (to_be_bytes w128 n) ≡ 16
to_be_bytes_length n = refl
