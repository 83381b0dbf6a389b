-- A number below ten is written by its one digit.
use Rattle.std.proofs.Common.{◌≡◌, ◌+◌, ◌<◌, ℕ, [], ◌∷◌, decimal, sym}
use Rattle.std.proofs.lemmas.Fmt.{decimal_digit}

pub one_digit : (number : ℕ) → number < 10 → (48 + number) ∷ [] ≡ decimal number
one_digit number small = sym (decimal_digit number small)
