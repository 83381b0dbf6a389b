use Rattle.std.specs.Prelude.{None, Some, List, []}
use Rattle.board_record.specs.declared.sub_board.SubBoard.{SubBoard}
use Rattle.board_record.specs.declared.sub_boards.SubBoards.TheInside.{Inside}

-- the list behind a pointer; without a pointer there is none in it
abbrev pub shared_list : Inside → List SubBoard
shared_list inside = elim inside.subs [ None ↦ [] | Some shared ↦ shared.value.items ]
