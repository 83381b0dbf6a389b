-- Changes by hand of the boards that a machine keeps.
use Rattle.std.specs.Prelude.{List, None, Option, Some, false, ◌∷◌, ◌≡◌}
use Rattle.board_record.specs.declared.record.Record.{Record}
use Rattle.line_world.specs.FloorPlan.{has_id}
use Rattle.line_world.specs.declared.board.Board.{Board}
use Rattle.law_custody.specs.Pair.{board_of}

-- the first record with this id is taken out of the kept ones, and another takes the place of it
pub data TakenOut (q : Record) : List Record → List Record → Type 0 where
  out_here : {ks : List Record} → TakenOut q (q ∷ ks) ks
  out_later : {r : Record} {ks js : List Record} → has_id q.id (board_of r) ≡ false
      → TakenOut q ks js → TakenOut q (r ∷ ks) (r ∷ js)

pub data PutFor (q n : Record) : List Record → List Record → Type 0 where
  put_here : {ks : List Record} → PutFor q n (q ∷ ks) (n ∷ ks)
  put_later : {r : Record} {ks js : List Record} → has_id q.id (board_of r) ≡ false
      → PutFor q n ks js → PutFor q n (r ∷ ks) (r ∷ js)

-- the same of the boards on the floor: the first one with the id of the record
pub data BoardOut (q : Record) : List Board → List Board → Type 0 where
  board_here : {bs : List Board} → BoardOut q (board_of q ∷ bs) bs
  board_later : {b : Board} {bs cs : List Board} → has_id q.id b ≡ false → BoardOut q bs cs
      → BoardOut q (b ∷ bs) (b ∷ cs)

pub data BoardFor (q n : Record) : List Board → List Board → Type 0 where
  for_here : {bs : List Board} → BoardFor q n (board_of q ∷ bs) (board_of n ∷ bs)
  for_later : {b : Board} {bs cs : List Board} → has_id q.id b ≡ false → BoardFor q n bs cs
      → BoardFor q n (b ∷ bs) (b ∷ cs)

-- the outlet's board, where it is in the list, has another id than this
abbrev pub IsOther : Record → Option Record → Type 0
IsOther q None = Unit {0}
IsOther q (Some r) = has_id q.id (board_of r) ≡ false
