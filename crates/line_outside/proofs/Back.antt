-- What is written of an address is read as it.
use Rattle.std.proofs.Common.{◌≡◌, ◌≤◌, ◌+◌, ◌==◌, ℕ, suc, Bool, true, false, not, List, [], ◌∷◌, ◌++◌, length, Some, refl, sym, ap, ◌∙◌, arith, decimal, length-append, le-leb}
use Rattle.std.proofs.Math.Seq.{take-append_seam, drop-append-add}
use Rattle.std.proofs.lemmas.Bool.{and_parts, and_from, eqb-true, eq-eqb, lt-ltb, false≢true}
use Rattle.std.proofs.lemmas.List.Folds.{list_all-append}
use Rattle.std.specs.Char.{is_ascii_digit}
use Rattle.std.specs.List.{list_all, position_or_len, AllByRecursion}
use Rattle.line_base.specs.Number.{are_digits}
use Rattle.line_base.proofs.Printable.{decimal_digits, number_of-decimal}
use Rattle.line_outside.specs.declared.way.Address.{Address}
use Rattle.line_outside.specs.Address.{cut_at, part_of, port_of, part_before, host_of, address_of}
use Rattle.line_outside.specs.Written.{host_text, address_text, IsProperAddress}

-- ---- a text is cut where it was joined

-- no byte is this one
abbrev lacks : ℕ → List ℕ → Bool
lacks separator bytes = list_all (λ b. not (b == separator)) bytes

one_more : (n : ℕ) → 1 + n ≡ suc n
one_more n = omega arith

place_at : (separator : ℕ) (front back : List ℕ) → lacks separator front ≡ true → position_or_len (λ b. b == separator) (front ++ separator ∷ back) ≡ length front
place_at separator [] back h = rw (eq-eqb separator separator refl) refl
place_at separator (b ∷ front) back h =
    let p = and_parts (not (b == separator)) (lacks separator front) h in
    rw p.0 (ap (λ n. 1 + n) (place_at separator front back p.1) ∙ one_more (length front))

cut_joined : (separator : ℕ) (front back : List ℕ) → lacks separator front ≡ true → cut_at separator (front ++ separator ∷ back) ≡ Some (front, back)
cut_joined separator front back h =
    let inside = lt-ltb (length front) (length (front ++ separator ∷ back)) (omega (arith, length-append front (separator ∷ back))) in
    rw (place_at separator front back h, inside, take-append_seam front (separator ∷ back), drop-append-add front (separator ∷ back) 1) refl

-- ---- digits

other_byte : (b separator : ℕ) (test : Bool) → (b == separator) ≡ test → is_ascii_digit b ≡ true → is_ascii_digit separator ≡ false → not test ≡ true
other_byte b separator true e digit none = absurd (false≢true (sym none ∙ ap is_ascii_digit (sym (eqb-true b separator e)) ∙ digit))
other_byte b separator false e digit none = refl

digits_lack : (separator : ℕ) (bytes : List ℕ) → is_ascii_digit separator ≡ false → are_digits bytes ≡ true → lacks separator bytes ≡ true
digits_lack separator [] none digits = refl
digits_lack separator (b ∷ bytes) none digits =
    let p = and_parts (is_ascii_digit b) (are_digits bytes) digits in
    and_from (not (b == separator)) (lacks separator bytes) (other_byte b separator (b == separator) refl p.0 none) (digits_lack separator bytes none p.1)

number_lacks : (separator n : ℕ) → is_ascii_digit separator ≡ false → n ≤ 65535 → lacks separator (decimal n) ≡ true
number_lacks separator n none small = digits_lack separator (decimal n) none (decimal_digits n (omega arith))

lacks_joined : (separator c : ℕ) (front back : List ℕ) → lacks separator front ≡ true → not (c == separator) ≡ true → lacks separator back ≡ true → lacks separator (front ++ c ∷ back) ≡ true
lacks_joined separator c front back h other k =
    list_all-append (λ b. not (b == separator)) front (c ∷ back) ∙ and_from (lacks separator front) (lacks separator (c ∷ back)) h (and_from (not (c == separator)) (lacks separator back) other k)

-- ---- the parts of an address

part_of-decimal : (n : ℕ) → n ≤ 255 → part_of (decimal n) ≡ Some n
part_of-decimal n small = rw (number_of-decimal n (omega arith), le-leb n 255 small) refl

pub port_of-decimal : (n : ℕ) → 1 ≤ n → n ≤ 65535 → port_of (decimal n) ≡ Some n
port_of-decimal n some small = rw (number_of-decimal n (omega arith), le-leb n 65535 small, le-leb 1 n some) refl

before_joined : (n : ℕ) (behind : List ℕ) → n ≤ 255 → part_before (decimal n ++ 46 ∷ behind) ≡ Some (n, behind)
before_joined n behind small = rw (cut_joined 46 (decimal n) behind (number_lacks 46 n refl (omega arith)), part_of-decimal n small) refl

-- an address that exists has these four parts
record IsHost (a b c d : ℕ) : Type 0 where
  first : a ≤ 255
  second : b ≤ 255
  third : c ≤ 255
  fourth : d ≤ 255

host_back : (a b c d : ℕ) → IsHost a b c d → host_of (host_text (a ∷ b ∷ c ∷ d ∷ [])) ≡ Some (a ∷ b ∷ c ∷ d ∷ [])
host_back a b c d parts =
    rw (before_joined a (decimal b ++ 46 ∷ (decimal c ++ 46 ∷ decimal d)) parts.first, before_joined b (decimal c ++ 46 ∷ decimal d) parts.second, before_joined c (decimal d) parts.third, part_of-decimal d parts.fourth) refl

host_lacks : (a b c d : ℕ) → IsHost a b c d → lacks 58 (host_text (a ∷ b ∷ c ∷ d ∷ [])) ≡ true
host_lacks a b c d parts =
    let part : (n : ℕ) → n ≤ 255 → lacks 58 (decimal n) ≡ true = λ n small. number_lacks 58 n refl (omega arith) in
    lacks_joined 58 46 (decimal a) (decimal b ++ 46 ∷ (decimal c ++ 46 ∷ decimal d)) (part a parts.first) refl
    (lacks_joined 58 46 (decimal b) (decimal c ++ 46 ∷ decimal d) (part b parts.second) refl
    (lacks_joined 58 46 (decimal c) (decimal d) (part c parts.third) refl (part d parts.fourth)))

four_back : (a b c d port : ℕ) → IsHost a b c d → 1 ≤ port → port ≤ 65535 → address_of (host_text (a ∷ b ∷ c ∷ d ∷ []) ++ 58 ∷ decimal port) ≡ Some (record { host = a ∷ b ∷ c ∷ d ∷ []; port = port })
four_back a b c d port parts some small =
    rw (cut_joined 58 (host_text (a ∷ b ∷ c ∷ d ∷ [])) (decimal port) (host_lacks a b c d parts), host_back a b c d parts, port_of-decimal port some small) refl

parts_back : (host : List ℕ) (port : ℕ) → length host ≡ 4 → AllByRecursion (λ part. part ≤ 255) host → 1 ≤ port → port ≤ 65535 → address_of (host_text host ++ 58 ∷ decimal port) ≡ Some (record { host = host; port = port })
parts_back [] port four parts some small = absurd (omega arith)
parts_back (a ∷ []) port four parts some small = absurd (omega arith)
parts_back (a ∷ b ∷ []) port four parts some small = absurd (omega arith)
parts_back (a ∷ b ∷ c ∷ []) port four parts some small = absurd (omega arith)
parts_back (a ∷ b ∷ c ∷ d ∷ []) port four parts some small =
    four_back a b c d port (record { first = parts.0; second = parts.1.0; third = parts.1.1.0; fourth = parts.1.1.1.0 }) some small
parts_back (a ∷ b ∷ c ∷ d ∷ e ∷ rest) port four parts some small = absurd (omega arith)

pub address_back : (address : Address) → IsProperAddress address → 1 ≤ address.port → address_of (address_text address) ≡ Some address
address_back address proper some = parts_back address.host address.port proper.four proper.parts some proper.port
