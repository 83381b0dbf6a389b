-- What is told of a board that is lent by a record or by board information.
use Rattle.std.specs.Prelude.{List, [], ◌∷◌, Option, option_map}
use Rattle.hermes_horizontal.specs.declared.board.Board.{Board}
use Rattle.hermes_horizontal.specs.Parts.{of_quality, of_flip}
use Rattle.hermes_horizontal.specs.Values.{Value, worded, identified, measured}

abbrev pub board_parts : Board → List (Option Value)
board_parts board =
    option_map identified board.id ∷ option_map (λ text.
    worded text.now) board.created_by ∷ option_map of_quality board.quality ∷ option_map
    of_flip board.flip
    ∷ option_map (λ text. worded text.now) board.product ∷ option_map (λ text.
    worded text.now) board.top ∷ option_map (λ text. worded text.now) board.bottom
    ∷ option_map measured board.length ∷ option_map measured board.width ∷ option_map measured
    board.thickness
    ∷ option_map measured board.speed ∷ option_map measured board.top_clearance
    ∷ option_map measured board.bottom_clearance ∷ option_map measured board.weight
    ∷ option_map (λ text. worded text.now) board.order ∷ option_map (λ text.
    worded text.now) board.batch ∷ []
