-- The spelling of an address, `a.b.c.d:port`.
use Rattle.std.specs.Prelude.{◌+◌, ◌==◌, ℕ, List, [], ◌∷◌, Option, None, Some, take, drop, position, option_map, option_and_then, nat_le, if◌then◌else◌}
use Rattle.line_base.specs.Number.{number_of}
use Rattle.line_outside.specs.declared.way.Address.{Address}

-- what stands round the first such byte
abbrev pub cut_at : ℕ → List ℕ → Option (List ℕ × List ℕ)
cut_at separator bytes =
    option_map (λ i. (take i bytes, drop (i + 1) bytes)) (position (λ b. b == separator) bytes)

abbrev pub at_most : ℕ → ℕ → Option ℕ
at_most most number = if nat_le number most then Some number else None

-- a part of an address is a number of 0 to 255
abbrev pub part_of : List ℕ → Option ℕ
part_of word = option_and_then (at_most 255) (number_of word)

abbrev pub at_least_1 : ℕ → Option ℕ
at_least_1 number = if nat_le 1 number then Some number else None

-- a port is a number of 1 to 65,535
abbrev pub port_of : List ℕ → Option ℕ
port_of word = option_and_then at_least_1 (option_and_then (at_most 65535) (number_of word))

-- a part with a point behind it, and what follows
abbrev pub part_before : List ℕ → Option (ℕ × List ℕ)
part_before bytes =
    option_and_then (λ parts. option_map (λ part. (part, parts.1)) (part_of parts.0))
    (cut_at 46 bytes)

abbrev pub host_of : List ℕ → Option (List ℕ)
host_of bytes =
    option_and_then (λ a.
    option_and_then (λ b.
    option_and_then (λ c. option_map (λ d. a.0 ∷ b.0 ∷ c.0 ∷ d ∷ []) (part_of c.1))
    (part_before b.1)) (part_before a.1)) (part_before bytes)

abbrev pub made_address : List ℕ → ℕ → Address
made_address host port = record { host = host; port = port }

-- WHAT AN ADDRESS SAYS, if it is one: its four parts, and its port
abbrev pub address_of : List ℕ → Option Address
address_of bytes =
    option_and_then (λ parts.
    option_and_then (λ host. option_map (made_address host) (port_of parts.1)) (host_of parts.0))
    (cut_at 58 bytes)
