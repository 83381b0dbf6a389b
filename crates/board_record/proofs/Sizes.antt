-- The sizes of lists of sub boards.
use Rattle.std.proofs.Common.{◌≡◌, ◌+◌, List, [], ◌∷◌, ◌++◌, arith}
use Rattle.board_record.specs.SubBoards.{size_of, sub_size, sub_sizes}
use Rattle.board_record.specs.declared.sub_board.SubBoard.{SubBoard}

sizes_more : (subs : List SubBoard) (sub : SubBoard) → sub_sizes (subs ++ sub ∷ []) ≡ sub_sizes subs + sub_size sub
sizes_more [] sub = omega arith
sizes_more (first ∷ subs) sub = let h = sizes_more subs sub in omega (arith, h)

-- one sub board more
pub size_more : (subs : List SubBoard) (sub : SubBoard) → 23 + sub_sizes subs + sub_size sub ≡ size_of (subs ++ sub ∷ [])
size_more [] sub = omega arith
size_more (first ∷ subs) sub = let h = sizes_more (first ∷ subs) sub in omega (arith, h)
