use Rattle.std.proofs.Common.{◌≡◌, ◌≤◌, ◌*◌, ◌+◌, drop}
use Rattle.board_record.specs.SubBoards.{spelled_size}
use Rattle.board_record.proofs.sub_board.spelled_size.Given as goal

abbrev pub invariant-loop-byte : goal.invariant-loop-byte
invariant-loop-byte l = record {
  told : l.size + spelled_size (drop l.byte-index l.bytes) ≡ spelled_size l.bytes;
  bounded : l.size ≤ 6 * l.byte-index;
}
