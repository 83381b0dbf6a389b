-- Each element is smaller than the list of elements that holds it.
use Rattle.std.specs.Prelude.{◌+◌, ◌≤◌, List, [], ◌∷◌}
use Rattle.std.proofs.Common.{arith}
use denote.Param.Weighed.{most}
use Rattle.hermes_element.specs.Element.{Tree, tree_size, forest_of, forest_size}

pub most_le-forest_size : (trees : List Tree)
    → most (λ tree. tree_size tree + 1) trees ≤ forest_size (forest_of trees)
most_le-forest_size [] = omega arith
most_le-forest_size (tree ∷ trees) = omega (arith, most_le-forest_size trees)
