use Rattle.std.proofs.Common.{◌≡◌, ◌-◌, ◌*◌, drop}
use Rattle.book_entry.specs.Reading.{events_in}
use Rattle.book_entry.proofs.Counted.{joined}
use Rattle.book_entry.proofs.parts.events_in.Given as goal

abbrev pub invariant-loop-i : goal.invariant-loop-i
invariant-loop-i l = events_in l.count l.bytes ≡ joined l.events (events_in (l.count - l.i) (drop (3 * l.i) l.bytes))
