-- Whether an id is among those of records, looked for from the back.
use Rattle.std.proofs.Common.{Bool, List, [], ap, refl, reverse, sym, ℕ, ◌==◌, ◌||◌, ◌∙◌, ◌∷◌, ◌≡◌}
use Rattle.std.proofs.lemmas.List.Sorted.{IsPermutation-reverse, list_any-IsPermutation}
use Rattle.std.specs.List.{list_any}
use Rattle.board_record.specs.declared.record.Record.{Record}
use Rattle.node_core.specs.Own.{ids_of}
use Rattle.standings.specs.Marks.{has_id}

kept_forwards : (id : ℕ) (boards : List Record) → list_any (λ (board : Record). board.id == id) boards ≡ has_id id (ids_of boards)
kept_forwards id [] = refl
kept_forwards id (board ∷ boards) = ap (λ (rest : Bool). (board.id == id) || rest) (kept_forwards id boards)

pub kept_backwards : (id : ℕ) (boards : List Record) → list_any (λ (board : Record). board.id == id) (reverse boards) ≡ has_id id (ids_of boards)
kept_backwards id boards = sym (list_any-IsPermutation (λ (board : Record). board.id == id) boards (reverse boards) (IsPermutation-reverse boards)) ∙ kept_forwards id boards
