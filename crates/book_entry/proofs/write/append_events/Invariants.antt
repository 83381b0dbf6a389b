use Rattle.std.proofs.Common.{◌≡◌, ◌++◌, take}
use Rattle.book_entry.specs.Spelling.{events_bytes}
use Rattle.book_entry.proofs.write.append_events.Given as goal

abbrev pub invariant-loop-sensed : goal.invariant-loop-sensed
invariant-loop-sensed l = l.to.items ≡ l.initial.to.items ++ events_bytes (take l.sensed-index l.events)
