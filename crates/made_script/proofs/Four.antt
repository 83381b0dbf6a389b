-- The fold of four bytes is one remainder.
use Rattle.std.proofs.Common.{◌≡◌, ◌+◌, ◌*◌, ◌%◌, ℕ, arith}
use Rattle.made_script.specs.Fold.{fold_byte}

-- the powers of 31 up to the fourth are 31, 961, 29791 and 923521
pub by_four : (before first second third fourth : ℕ)
    → (923521 * before + (29791 * first + 961 * second + 31 * third) + fourth) % 4294967296
    ≡ fold_byte (fold_byte (fold_byte (fold_byte before first) second) third) fourth
by_four before first second third fourth = omega arith
