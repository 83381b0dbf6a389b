use Rattle.std.specs.Prelude.{◌≡◌, ◌+◌, ◌-◌, ◌*◌, ◌^◌, ◌<◌, ℕ, nat_le, Result, Ok, Err, if◌then◌else◌}
use Rattle.board_record.specs.declared.maker.IdsUsedUp.{IdsUsedUp}

-- what an id maker is: the machine's number, and how many ids it has made
pub record Maker : Type 0 where
  pub machine : ℕ
  pub used : ℕ

-- the id `mmmmmmmm-0000-8000-8000-cccccccccccc` as a number
abbrev pub made_id : ℕ → ℕ → ℕ
made_id machine count = machine * 2 ^ 96 + 0x8000 * 2 ^ 64 + 0x8000 * 2 ^ 48 + count

-- the next id of a maker, or that all are used up: a maker has used at most 2^48 - 1
abbrev pub next_id : Maker → Result ℕ IdsUsedUp
next_id maker =
    if nat_le (2 ^ 48 - 1) maker.used then Err (record {}) else Ok
    (made_id maker.machine (maker.used + 1))

abbrev pub after_next : Maker → Maker
after_next maker =
    if nat_le (2 ^ 48 - 1) maker.used then maker else record maker { used = maker.used + 1 }

-- the id is made by this machine at this count, and by no other
abbrev pub IsMadeAlone : Maker → ℕ → Type 0
IsMadeAlone maker id =
    (machine count : ℕ) → count < 2 ^ 48 → made_id machine count ≡ id → (machine ≡ maker.machine)
    × (count ≡ maker.used)
