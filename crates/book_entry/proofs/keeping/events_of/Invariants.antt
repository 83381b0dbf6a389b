use Rattle.std.proofs.Common.{◌≡◌, take}
use Rattle.book_entry.proofs.keeping.events_of.Given as goal

abbrev pub invariant-loop-one : goal.invariant-loop-one
invariant-loop-one l = l.events ≡ take l.one-index l.sensed
