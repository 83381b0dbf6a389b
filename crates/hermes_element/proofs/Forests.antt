-- Forests and lists of elements are two forms of one thing.
use Rattle.std.proofs.Common.{◌≡◌, ℕ, zero, suc, ◌<◌, ◌+◌, drop, append-nil, append_assoc, List, [], ◌∷◌, ◌++◌, length, get_or, refl, ap, sym, ◌∙◌, arith}
use Rattle.std.proofs.lemmas.List.{drop_more}
use Rattle.hermes_element.specs.Element.{Tree, Forest, none, more, trees_of, forest_of, add, tree_size, forest_size}

pub trees_of-forest_of : (trees : List Tree) → trees_of (forest_of trees) ≡ trees
trees_of-forest_of [] = refl
trees_of-forest_of (tree ∷ trees) = ap (λ rest. tree ∷ rest) (trees_of-forest_of trees)

pub forest_of-trees_of : (forest : Forest) → forest_of (trees_of forest) ≡ forest
forest_of-trees_of none = refl
forest_of-trees_of (more name at attributes children rest) = ap (more name at attributes children) (forest_of-trees_of rest)

pub forest_of-push : (trees : List Tree) (tree : Tree) → forest_of (trees ++ tree ∷ []) ≡ add (forest_of trees) tree
forest_of-push [] tree = refl
forest_of-push (first ∷ trees) tree = ap (λ rest. more first.name first.at first.attributes first.children rest) (forest_of-push trees tree)

pub trees_of-add : (forest : Forest) (tree : Tree) → trees_of (add forest tree) ≡ trees_of forest ++ tree ∷ []
trees_of-add none tree = refl
trees_of-add (more name at attributes children rest) tree = ap (λ trees. record { name = name; at = at; attributes = attributes; children = children } ∷ trees) (trees_of-add rest tree)

-- a forest is its trees
pub same_trees : (a b : Forest) → trees_of a ≡ trees_of b → a ≡ b
same_trees a b e = sym (forest_of-trees_of a) ∙ ap forest_of e ∙ forest_of-trees_of b

-- one tree more of a list is taken
pub takes_tree : (children : Forest) (items : List Tree) (i : ℕ) (child d : Tree) → i < length items → child ≡ get_or items i d → trees_of children ++ drop i items ≡ items
    → trees_of (add children child) ++ drop (i + 1) items ≡ items
takes_tree children items i child d inside same told =
    ap (λ trees. trees ++ drop (i + 1) items) (trees_of-add children child) ∙ append_assoc (trees_of children) (child ∷ []) (drop (i + 1) items)
    ∙ ap (λ tree. trees_of children ++ tree ∷ drop (i + 1) items) same ∙ ap (λ rest. trees_of children ++ rest) (sym (drop_more items i d inside)) ∙ told

-- all are taken
pub took_trees : (children whole : Forest) (items : List Tree) (i : ℕ) → drop i items ≡ [] → trees_of children ++ drop i items ≡ items → items ≡ trees_of whole → children ≡ whole
took_trees children whole items i over told all = same_trees children whole (sym (append-nil (trees_of children)) ∙ ap (λ rest. trees_of children ++ rest) (sym over) ∙ told ∙ all)

pub ruleset pushing = (forest_of-push)

pub smaller_child : (forest : Forest) (i : ℕ) (d : Tree) → i < length (trees_of forest) → tree_size (get_or (trees_of forest) i d) < forest_size forest
smaller_child none i d h = absurd (omega arith)
smaller_child (more name at attributes children rest) zero d h = omega arith
smaller_child (more name at attributes children rest) (suc i) d h =
    let in_rest : i < length (trees_of rest) = omega arith in
    omega (arith, smaller_child rest i d in_rest)
