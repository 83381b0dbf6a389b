-- What is written of a question that is lent.
use Rattle.std.specs.Prelude.{List, [], ◌∷◌, Option, option_map}
use Rattle.hermes_horizontal.specs.Values.{Value, worded, numbered}
use Rattle.hermes_vertical.specs.declared.attributes.Asked.{Asked}

abbrev pub asked_parts : Asked → List (Option Value)
asked_parts asked =
    option_map (λ text. worded text.now) asked.barcode ∷ option_map (λ text.
    worded text.now) asked.order ∷ option_map (λ text. worded text.now) asked.magazine
    ∷ option_map numbered asked.slot ∷ []
