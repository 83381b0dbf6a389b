-- From what a machine is made.
use Rattle.std.specs.Prelude.{◌==◌, ◌&&◌, ◌≤◌, ◌^◌, ℕ, Bool, List, length, nat_le, nat_lt}
use Rattle.line_base.specs.Text.{IsAllowed}
use Rattle.node_core.specs.declared.profile.NodeProfile.{NodeProfile}
use Rattle.hermes_machine.specs.declared.profile.HermesProfile.{HermesProfile}

-- each number is within its range
unfoldable pub is_profile : HermesProfile → Bool
is_profile p =
    p.size == 32 && (nat_le 1 p.number && (nat_le 1 p.lane && (nat_le p.lane 999
    && (nat_le 1 p.capacity && (nat_le p.capacity 1024 && (nat_le p.bridge 1
    && (p.zero == 0 && nat_lt p.used (2 ^ 48))))))))

-- an id text: 1 to 64 bytes of allowed characters
pub record IsIdText (bytes : List ℕ) : Type 0 where
  pub least : 1 ≤ length bytes
  pub most : length bytes ≤ 64
  pub allowed : IsAllowed bytes

-- the profile of a machine that is given so
abbrev pub profile_of : HermesProfile → List ℕ → NodeProfile
profile_of p name = record {
  number = p.number;
  machine = name;
  lane = p.lane;
  capacity = p.capacity;
  used = p.used;
  bridge = p.bridge == 1;
}
