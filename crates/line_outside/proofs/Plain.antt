-- The text of an address is a text.
use Rattle.std.proofs.Common.{◌≡◌, ◌≤◌, ◌+◌, ℕ, true, List, [], ◌∷◌, ◌++◌, length, refl, arith, decimal, length-append}
use Rattle.std.proofs.lemmas.Bool.{and_from}
use Rattle.std.specs.List.{list_all, AllByRecursion}
use Rattle.line_base.specs.PlainText.{is_plain_byte}
use Rattle.line_base.specs.Text.{IsText}
use Rattle.line_base.proofs.Printable.{IsText-from_printable, plain-append, plain-decimal, length-decimal}
use Rattle.line_outside.specs.declared.way.Address.{Address}
use Rattle.line_outside.specs.Written.{host_text, address_text, IsProperAddress}

-- a plain text of so many bytes at most
record IsShort (most : ℕ) (bytes : List ℕ) : Type 0 where
  plain : list_all is_plain_byte bytes ≡ true
  few : length bytes ≤ most

number : (n : ℕ) → n ≤ 65535 → IsShort 20 (decimal n)
number n small = record { plain = plain-decimal n (omega arith); few = length-decimal n (omega arith) }

joined : (c : ℕ) (most others : ℕ) (front back : List ℕ) → is_plain_byte c ≡ true → IsShort most front → IsShort others back → IsShort (most + 1 + others) (front ++ c ∷ back)
joined c most others front back plain first last =
    let a = first.few in
    let b = last.few in
    record {
      plain = plain-append front (c ∷ back) first.plain (and_from (is_plain_byte c) (list_all is_plain_byte back) plain last.plain);
      few = omega (arith, length-append front (c ∷ back), a, b);
    }

host_short : (host : List ℕ) → length host ≡ 4 → AllByRecursion (λ part. part ≤ 255) host → IsShort 83 (host_text host)
host_short [] four parts = absurd (omega arith)
host_short (a ∷ []) four parts = absurd (omega arith)
host_short (a ∷ b ∷ []) four parts = absurd (omega arith)
host_short (a ∷ b ∷ c ∷ []) four parts = absurd (omega arith)
host_short (a ∷ b ∷ c ∷ d ∷ []) four parts =
    let part : (n : ℕ) → n ≤ 255 → IsShort 20 (decimal n) = λ n small. number n (omega arith) in
    joined 46 20 62 (decimal a) (decimal b ++ 46 ∷ (decimal c ++ 46 ∷ decimal d)) refl (part a parts.0)
    (joined 46 20 41 (decimal b) (decimal c ++ 46 ∷ decimal d) refl (part b parts.1.0) (joined 46 20 20 (decimal c) (decimal d) refl (part c parts.1.1.0) (part d parts.1.1.1.0)))
host_short (a ∷ b ∷ c ∷ d ∷ e ∷ rest) four parts = absurd (omega arith)

pub IsText-address : (address : Address) → IsProperAddress address → IsText (address_text address)
IsText-address address proper =
    let short = joined 58 83 20 (host_text address.host) (decimal address.port) refl (host_short address.host proper.four proper.parts) (number address.port proper.port) in
    let few = short.few in
    IsText-from_printable (address_text address) short.plain (omega (arith, few))
