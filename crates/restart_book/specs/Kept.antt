-- A BOOK THAT IS KEPT ON: it was resumed, cut to its whole entries, and got those of the steps that
-- were made from there. It is resumed where they led.
use Rattle.std.specs.Prelude.{ℕ, List, ◌+◌, ◌++◌, length, take}
use Rattle.book_entry.specs.declared.entry.Entry.{Entry}
use Rattle.book_entry.specs.Steps.{AreEntries, Replays, spelled}
use Rattle.node_core.specs.Node.{NodeState}
use Rattle.node_core.specs.declared.act.Act.{Act}
use Rattle.restart_book.specs.Replay.{IsResumed}

abbrev pub KeptBooksAreResumed : Type 0
KeptBooksAreResumed =
    (start : NodeState) (book : List ℕ) (whole : ℕ) (node : NodeState) (acts : List Act)
    (entries : List Entry) (reached : NodeState) (more : List Act)
    → IsResumed start book whole node acts → AreEntries entries
    → Replays node entries reached more
    → IsResumed start (take whole book ++ spelled entries) (whole + length (spelled entries))
    reached (acts ++ more)
