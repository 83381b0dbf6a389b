use Rattle.std.proofs.Common.{◌≡◌, ◌≤◌, ◌-◌, length}
use Rattle.node_commands.proofs.Files.{ReadSoFar}
use Rattle.node_commands.proofs.book_file.read_book.Given as goal

-- the bytes are the first of the book's, and the book is as it was
abbrev pub invariant-loop-room : goal.invariant-loop-room
invariant-loop-room g l = record {
  read : ReadSoFar (g.B.Keeper.left l.fn.book) (g.B.Keeper.left l.book) l.bytes.items;
  stays : g.B.Keeper.contents l.book ≡ g.B.Keeper.contents l.fn.book;
  faults : g.B.Keeper.faults l.fn.book ≤ g.B.Keeper.faults l.book;
}

-- each piece has a byte at least
abbrev pub decreases-loop-room : goal.decreases-loop-room
decreases-loop-room g l = 1073741825 - length l.bytes.items
