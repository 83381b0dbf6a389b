-- The ids of kept records, behind what is done to them by hand.
use Rattle.std.proofs.Common.{◌≡◌, ◌++◌, ◌==◌, ℕ, Bool, true, false, List, [], ◌∷◌, refl, ap, sym, if◌then◌else◌}
use Rattle.board_record.specs.declared.record.Record.{Record}
use Rattle.node_core.specs.Boards.{with_changed, with_instead, without}
use Rattle.node_core.specs.Own.{ids_of, with_id_instead, without_id}

-- a change of what a record says that leaves it its id: a mark, a circuit more
abbrev pub LeavesId : (Record → Record) → Type 0
LeavesId change = (board : Record) → (change board).id ≡ board.id

pub ids_changed : (id : ℕ) (change : Record → Record) (kept : List Record) → LeavesId change
    → ids_of kept ≡ ids_of (with_changed id change kept)
ids_changed id change [] same = refl
ids_changed id change (board ∷ boards) same =
    by (board.id == id) (ids_changed id change boards same) where
      by : (test : Bool) → ids_of boards ≡ ids_of (with_changed id change boards)
          → board.id ∷ ids_of boards
          ≡ ids_of (if test then change board ∷ boards else board ∷ with_changed id change boards)
      by true later = ap (λ (n : ℕ). n ∷ ids_of boards) (sym (same board))
      by false later = ap (λ (ids : List ℕ). board.id ∷ ids) later

pub ids_without : (id : ℕ) (kept : List Record)
    → without_id id (ids_of kept) ≡ ids_of (without id kept)
ids_without id [] = refl
ids_without id (board ∷ boards) = by (board.id == id) (ids_without id boards) where
  by : (test : Bool) → without_id id (ids_of boards) ≡ ids_of (without id boards)
      → (if test then ids_of boards else board.id ∷ without_id id (ids_of boards))
      ≡ ids_of (if test then boards else board ∷ without id boards)
  by true later = refl
  by false later = ap (λ (ids : List ℕ). board.id ∷ ids) later

pub ids_instead : (id : ℕ) (other : Record) (kept : List Record)
    → with_id_instead id other.id (ids_of kept) ≡ ids_of (with_instead id other kept)
ids_instead id other [] = refl
ids_instead id other (board ∷ boards) = by (board.id == id) (ids_instead id other boards) where
  by : (test : Bool)
      → with_id_instead id other.id (ids_of boards) ≡ ids_of (with_instead id other boards)
      → (if test then other.id ∷ ids_of boards
      else board.id ∷ with_id_instead id other.id (ids_of boards))
      ≡ ids_of (if test then other ∷ boards else board ∷ with_instead id other boards)
  by true later = refl
  by false later = ap (λ (ids : List ℕ). board.id ∷ ids) later

pub ids_behind : (kept : List Record) (board : Record)
    → ids_of kept ++ board.id ∷ [] ≡ ids_of (kept ++ board ∷ [])
ids_behind [] board = refl
ids_behind (b ∷ bs) board = ap (λ (ids : List ℕ). b.id ∷ ids) (ids_behind bs board)
