use Rattle.std.specs.Prelude.{ℕ, Bool, false, List, [], ◌∷◌, ◌++◌, Some, None, slice_get, slice_set}
use Rattle.line_base.specs.declared.states.Quality.{Quality}
use Rattle.board_record.specs.declared.record.Record.{Record}
use Rattle.board_record.specs.declared.sub_board.SubBoard.{SubBoard}
use Rattle.board_record.specs.SubBoards.{is_full}

-- what a machine keeps: the records, front first, and for how many more there is room
pub record Shelf : Type 0 where
  pub boards : List Record
  pub spare : ℕ

-- the records with the quality of the one at this place changed, and nothing else
abbrev pub with_quality : List Record → ℕ → Quality → List Record
with_quality boards place quality =
    elim (slice_get boards place) [
      | None ↦ boards
      | Some board ↦ slice_set boards place
          (record board { quality = quality })
    ]

-- the records with one sub board more of the one at this place, and nothing else changed
abbrev pub with_sub : List Record → ℕ → SubBoard → List Record
with_sub boards place sub =
    elim (slice_get boards place) [
      | None ↦ boards
      | Some board ↦ slice_set boards place (record board { subs = board.subs ++ sub ∷ [] })
    ]

-- the record at this place has no room for one sub board more
abbrev pub is_full_at : List Record → ℕ → SubBoard → Bool
is_full_at boards place sub =
    elim (slice_get boards place) [
      | None ↦ false
      | Some board ↦ is_full board.subs sub
    ]
