use Rattle.std.proofs.Common.{◌≡◌, ◌≤◌, ◌*◌, ◌+◌, drop}
use Rattle.board_record.specs.SubBoards.{sub_sizes}
use Rattle.board_record.proofs.sub_boards.sizes.Given as goal

abbrev pub invariant-loop-sub : goal.invariant-loop-sub
invariant-loop-sub l = record {
  told : l.size + sub_sizes (drop l.sub-index l.subs) ≡ sub_sizes l.subs;
  bounded : l.size ≤ 6209 * l.sub-index;
}
