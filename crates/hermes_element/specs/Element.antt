-- What an element is: its name, its place, its attributes in order, and its children in order.
use Rattle.std.specs.Prelude.{◌≡◌, ℕ, ◌+◌, List, [], ◌∷◌, Option, Some, None, refl}
use Rattle.std.proofs.Common.{ap}
use Rattle.std.specs.Coded.{Coded, code_by, coded×, coded_ℕ, coded_list, coded_option}
use Rattle.hermes_element.specs.declared.attribute.Attribute.{Attribute}

-- elements one after another: a first one by its name, place, attributes and children, and the
-- rest
pub data Forest : Type 0 where
  none : Forest
  more : (name : List ℕ) → (at : ℕ) → (attributes : List Attribute) → (children : Forest)
      → (rest : Forest) → Forest

-- an element
pub record Tree : Type 0 where
  pub name : List ℕ
  pub at : ℕ
  pub attributes : List Attribute
  pub children : Forest

-- the elements of a forest as a list, and back
abbrev pub trees_of : Forest → List Tree
trees_of none = []
trees_of (more name at attributes children rest) =
    record { name = name; at = at; attributes = attributes; children = children } ∷ trees_of rest

abbrev pub forest_of : List Tree → Forest
forest_of [] = none
forest_of (tree ∷ trees) = more tree.name tree.at tree.attributes tree.children (forest_of trees)

-- two for each element, at all depths; and one more than what an element's children have
abbrev pub forest_size : Forest → ℕ
forest_size none = 0
forest_size (more name at attributes children rest) = forest_size children + forest_size rest + 2

abbrev pub tree_size : Tree → ℕ
tree_size tree = forest_size tree.children + 1

-- the forest with one more element at its end
abbrev pub add : Forest → Tree → Forest
add none tree = more tree.name tree.at tree.attributes tree.children none
add (more name at attributes children rest) tree = more name at attributes children (add rest tree)

-- ---- how the logic stores an element: as its openings and closings in order

abbrev pub Opening : Type 0
Opening = List ℕ × (ℕ × List Attribute)

abbrev pub attribute_code : Coded Attribute
attribute_code =
    code_by (List ℕ
    × (List ℕ × ℕ)) (coded× (coded_list coded_ℕ) (coded× (coded_list coded_ℕ) coded_ℕ)) (λ a.
    (a.name, (a.value, a.at))) (λ p. record { name = p.0; value = p.1.0; at = p.1.1 }) (λ _.
    refl)

abbrev pub opening_code : Coded Opening
opening_code = coded× (coded_list coded_ℕ) (coded× coded_ℕ (coded_list attribute_code))

-- openings, and None for each closing, and what follows
abbrev pub marks_of : Forest → List (Option Opening) → List (Option Opening)
marks_of none after = after
marks_of (more name at attributes children rest) after =
    Some (name, (at, attributes)) ∷ marks_of children (None ∷ marks_of rest after)

abbrev pub top : List Forest → Forest
top [] = none
top (forest ∷ stack) = forest

abbrev pub below : List Forest → List Forest
below [] = []
below (forest ∷ stack) = stack

abbrev pub put : Option Opening → List Forest → List Forest
put None stack = none ∷ stack
put (Some opening) stack =
    more opening.0 opening.1.0 opening.1.1 (top stack) (top (below stack)) ∷ below (below stack)

abbrev pub forests_from : List (Option Opening) → List Forest
forests_from [] = none ∷ []
forests_from (mark ∷ marks) = put mark (forests_from marks)

pub forests_from-marks_of : (forest : Forest) (after : List (Option Opening)) (stack : List Forest)
    → forests_from after ≡ none ∷ stack → forests_from (marks_of forest after) ≡ forest ∷ stack
forests_from-marks_of none after stack e = e
forests_from-marks_of (more name at attributes children rest) after stack e =
    let behind = forests_from-marks_of rest after stack e in
    let closed : forests_from (None ∷ marks_of rest after) ≡ none ∷ rest ∷ stack =
    ap (λ s. none ∷ s) behind in
    ap (put (Some (name, (at, attributes))))
    (forests_from-marks_of children (None ∷ marks_of rest after) (rest ∷ stack) closed)

abbrev pub forest_code : Coded Forest
forest_code =
    code_by (List (Option Opening)) (coded_list (coded_option opening_code)) (λ forest.
    marks_of forest []) (λ marks. top (forests_from marks))
    (λ forest. ap top (forests_from-marks_of forest [] [] refl))

abbrev pub tree_code : Coded Tree
tree_code =
    code_by (List ℕ
    × (ℕ × (List Attribute × Forest)))
    (coded× (coded_list coded_ℕ)
    (coded× coded_ℕ (coded× (coded_list attribute_code) forest_code)))
    (λ t. (t.name, (t.at, (t.attributes, t.children)))) (λ p.
    record { name = p.0; at = p.1.0; attributes = p.1.1.0; children = p.1.1.1 }) (λ _. refl)
