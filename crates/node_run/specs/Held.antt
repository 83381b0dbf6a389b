-- What a poll of a neighbour's way found waits until the panel was polled again.
use Rattle.std.specs.Prelude.{ℕ, ◌-◌, ◌≤◌, Bool, true, false, List, Option, None, Some}
use Rattle.line_base.specs.declared.states.Side.{Side}
use Rattle.line_outside.specs.declared.answer.GotBytes.{GotBytes}
use Rattle.line_outside.specs.declared.answer.GotBytes.TheVariants as founds

-- what was found on the way of a side: bytes, or else the end of its connection
pub record Finding : Type 0 where
  pub side : Side
  pub bytes : Option (List ℕ)

-- what is held, and how many more times the panel is polled at most before that is taken
pub record HeldValue : Type 0 where
  pub finding : Option Finding
  pub looks : ℕ

abbrev pub nothing_held : HeldValue
nothing_held = record { finding = None; looks = 0 }

abbrev pub most_looks : ℕ
most_looks = 16

-- what a poll gives at most
abbrev pub most_bytes : ℕ
most_bytes = 4096

abbrev pub seen_finding : Side → Option (List ℕ) → Finding
seen_finding side bytes = record { side = side; bytes = bytes }

abbrev pub holds : Side → Option (List ℕ) → HeldValue
holds side bytes = record { finding = Some (seen_finding side bytes); looks = most_looks }

-- THE PANEL IS POLLED UNTIL NOTHING IS THERE, and not without end
abbrev pub is_more : GotBytes → Bool
is_more founds.NotYet = false
is_more founds.Arrived = true
is_more founds.Second = true
is_more (founds.Bytes bytes) = true
is_more founds.Closed = true
is_more founds.Failed = true

abbrev pub looks_behind : Bool → ℕ → ℕ
looks_behind true looks = looks - 1
looks_behind false looks = 0

-- no more polls than so many are to come
pub record HasFewLooks (held : HeldValue) : Type 0 where
  pub looks : held.looks ≤ most_looks
