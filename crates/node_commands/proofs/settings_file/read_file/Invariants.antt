use Rattle.std.proofs.Common.{◌≤◌, ◌-◌, length}
use Rattle.node_commands.proofs.Files.{ReadSoFar}
use Rattle.node_commands.proofs.settings_file.read_file.Given as goal

-- the bytes are the first of the file's
abbrev pub invariant-loop-room : goal.invariant-loop-room
invariant-loop-room g l = record {
  read : ReadSoFar (g.S.Source.left l.fn.file) (g.S.Source.left l.file) l.bytes.items;
  faults : g.S.Source.faults l.fn.file ≤ g.S.Source.faults l.file;
}

-- each piece has a byte at least
abbrev pub decreases-loop-room : goal.decreases-loop-room
decreases-loop-room g l = 65537 - length l.bytes.items
