-- How an address is written, and which addresses are read again.
use Rattle.std.specs.Prelude.{◌≡◌, ℕ, ◌≤◌, List, [], ◌∷◌, ◌++◌, length}
use Rattle.std.specs.Fmt.{decimal}
use Rattle.std.specs.List.{AllByRecursion}
use Rattle.line_outside.specs.declared.way.Address.{Address}

-- the four parts in decimals with a point between each two
abbrev pub host_text : List ℕ → List ℕ
host_text (a ∷ b ∷ c ∷ d ∷ []) =
    decimal a ++ 46 ∷ (decimal b ++ 46 ∷ (decimal c ++ 46 ∷ decimal d))
host_text _ = []

-- THE SPELLING OF AN ADDRESS: its host, a colon and its port
abbrev pub address_text : Address → List ℕ
address_text address = host_text address.host ++ 58 ∷ decimal address.port

-- what each address of a program is, by its type: four parts of 8 bits and a port of 16
pub record IsProperAddress (address : Address) : Type 0 where
  pub four : length address.host ≡ 4
  pub parts : AllByRecursion (λ part. part ≤ 255) address.host
  pub port : address.port ≤ 65535
