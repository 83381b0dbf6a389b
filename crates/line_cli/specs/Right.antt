-- THE LOG OF RUNNING MACHINES IS NOT REFUTED.
use Rattle.std.specs.Prelude.{ℕ, List, Option, None, Some}
use Rattle.std.specs.Str.Lines.{lines}
use Rattle.law_running_line.specs.Reading.{Behind, Freely, Reading, Strictly}
use Rattle.law_running_logs.specs.Right.{IsOfRunning, IsWithin}
use Rattle.line_status.specs.declared.status.Status.{Status}
use Rattle.line_status.specs.declared.status.Status.TheVariants.{Refuted}

abbrev pub IsNoRefusal : Status → Type 0
IsNoRefusal (Refuted line why) = ⊥
IsNoRefusal status = Unit {0}

-- the readings of which it is promised: all that was seen is read before any input, or a message is
-- heard once all is read that its receiver's sensors had seen before it was said, and each board is
-- let go behind the reading
abbrev pub IsPromised : Reading → Type 0
IsPromised Strictly = Unit {0}
IsPromised Behind = Unit {0}
IsPromised Freely = ⊥

-- a log that machines made in a run under one of them, merged in the order of their steps, where it
-- is no longer than one that is judged
abbrev pub SparesRight : Option (List ℕ) → Status → Type 0
SparesRight None status = Unit {0}
SparesRight (Some bytes) status =
    (reading : Reading) → IsPromised reading → IsOfRunning reading (lines bytes)
    → IsWithin (lines bytes) → IsNoRefusal status
