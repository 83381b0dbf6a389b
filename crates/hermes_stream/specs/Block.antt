-- The block of a cutter: the bytes that wait, and the frame that was cut last.
use Rattle.std.specs.Prelude.{◌≡◌, ℕ, ◌≤◌, List, [], length, take}
use Rattle.hermes_stream.specs.Frames.{Answer, Frame, NeedMore, TooLong, most_bytes}
use Rattle.hermes_stream.specs.Scan.{IsSearched}
use Rattle.hermes_stream.specs.declared.block.Block.TheInside.{Inside}
use Rattle.hermes_stream.specs.declared.block.Step.{Step}
use Rattle.hermes_stream.specs.declared.block.Step.TheVariants as step

-- what a block holds
pub record Held : Type 0 where
  pub frame : List ℕ
  pub waiting : List ℕ

-- what a block holds, by its parts
abbrev pub held_in : Inside → Held
held_in block = record { frame = take block.frame block.lent.items; waiting = block.ring.items }

-- the parts of a block have their room, and an end is still to be looked for behind `searched`
-- alone
pub record IsInOrder (block : Inside) : Type 0 where
  pub room : block.ring.capacity ≡ most_bytes
  pub lends : length block.lent.items ≡ most_bytes
  pub cut : block.frame ≤ most_bytes
  pub waits : length block.ring.items ≤ most_bytes
  pub fed : block.searched ≤ length block.ring.items
  pub no_end : IsSearched block.ring.items block.searched

-- the message of an answer, if it has one
abbrev pub message_in : Answer → List ℕ
message_in (Frame message) = message
message_in NeedMore = []
message_in TooLong = []

-- a step says which answer it is
abbrev pub step_of : Answer → Step
step_of (Frame message) = step.Frame
step_of NeedMore = step.NeedMore
step_of TooLong = step.TooLong
