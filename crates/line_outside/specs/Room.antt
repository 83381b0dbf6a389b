use Rattle.std.specs.Prelude.{◌≡◌, ◌+◌, ◌≤◌, ℕ}

-- the rooms for calls and for bytes are within the capacities, and the bytes are those of the
-- calls
pub record HasRoom
    (calls calls_room calls_capacity bytes bytes_room bytes_capacity weights all : ℕ) : Type 0
  where
    pub calls_fit : calls + calls_room ≤ calls_capacity
    pub bytes_fit : bytes + bytes_room ≤ bytes_capacity
    pub whole : weights ≡ all
