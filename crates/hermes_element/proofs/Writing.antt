-- What is appended one after another is the canonical spelling.
use Rattle.std.proofs.Common.{◌≡◌, ℕ, ◌<◌, List, [], ◌∷◌, ◌++◌, length, refl, ap, sym, ◌∙◌, append_assoc, arith}
use Rattle.std.specs.List.{flat_map}
use Rattle.hermes_element.specs.Element.{Tree, Forest, none, more, trees_of, forest_of}
use Rattle.hermes_element.proofs.Forests.{forest_of-trees_of}
use Rattle.hermes_element.specs.Canonical.{canonical, canonical_attribute, canonical_forest, canonical_rest}

attribute_form : (t0 name value : List ℕ) → ((((t0 ++ (32 ∷ [])) ++ name) ++ (61 ∷ 34 ∷ [])) ++ value) ++ (34 ∷ []) ≡ t0 ++ (32 ∷ (((name ++ (61 ∷ 34 ∷ [])) ++ value) ++ (34 ∷ [])))
attribute_form t0 name value = simp append_assoc

pub attribute_written : (name value t0 t1 t2 t3 t4 t5 : List ℕ) → t1 ≡ t0 ++ 32 ∷ [] → t2 ≡ t1 ++ name → t3 ≡ t2 ++ 61 ∷ 34 ∷ [] → t4 ≡ t3 ++ value → t5 ≡ t4 ++ 34 ∷ [] → t5 ≡ t0 ++ (32 ∷ (((name ++ (61 ∷ 34 ∷ [])) ++ value) ++ (34 ∷ [])))
attribute_written name value t0 t1 t2 t3 t4 t5 e1 e2 e3 e4 e5 = rw (e5, e4, e3, e2, e1) (attribute_form t0 name value)

canonical_rest-some : (name inside : List ℕ) (forest : Forest) → 0 < length (trees_of forest) → canonical_rest name forest inside ≡ (62 ∷ []) ++ inside ++ (60 ∷ 47 ∷ []) ++ name ++ (62 ∷ [])
canonical_rest-some name inside none h = absurd (omega arith)
canonical_rest-some name inside (more _ _ _ _ _) h = refl

front_form : (t0 name attributes x : List ℕ) → ((((t0 ++ (60 ∷ [])) ++ name) ++ attributes) ++ (62 ∷ [])) ++ x ≡ t0 ++ (60 ∷ (name ++ (attributes ++ (62 ∷ x))))
front_form t0 name attributes x = simp append_assoc

back_form : (t inside name : List ℕ) → (((t ++ inside) ++ (60 ∷ 47 ∷ [])) ++ name) ++ (62 ∷ []) ≡ t ++ (((inside ++ (60 ∷ 47 ∷ [])) ++ name) ++ (62 ∷ []))
back_form t inside name = simp append_assoc

pieces : (t0 name attributes inside : List ℕ)
    → (((((((t0 ++ (60 ∷ [])) ++ name) ++ attributes) ++ (62 ∷ [])) ++ inside) ++ (60 ∷ 47 ∷ [])) ++ name) ++ (62 ∷ [])
    ≡ t0 ++ (60 ∷ ((name ++ attributes) ++ (62 ∷ (((inside ++ (60 ∷ 47 ∷ [])) ++ name) ++ (62 ∷ [])))))
pieces t0 name attributes inside =
    let x = ((inside ++ (60 ∷ 47 ∷ [])) ++ name) ++ (62 ∷ []) in
    back_form ((((t0 ++ (60 ∷ [])) ++ name) ++ attributes) ++ (62 ∷ [])) inside name ∙ front_form t0 name attributes x ∙ ap (λ r. t0 ++ (60 ∷ r)) (sym (append_assoc name attributes (62 ∷ x)))

pub written_full : (tree : Tree) (t0 t1 t2 t3 t4 t5 t6 t7 t8 : List ℕ)
    → 0 < length (trees_of tree.children)
    → t1 ≡ t0 ++ 60 ∷ [] → t2 ≡ t1 ++ tree.name → t3 ≡ t2 ++ flat_map canonical_attribute tree.attributes → t4 ≡ t3 ++ 62 ∷ []
    → t5 ≡ t4 ++ canonical_forest (forest_of (trees_of tree.children))
    → t6 ≡ t5 ++ 60 ∷ 47 ∷ [] → t7 ≡ t6 ++ tree.name → t8 ≡ t7 ++ 62 ∷ []
    → t8 ≡ t0 ++ canonical tree
written_full tree t0 t1 t2 t3 t4 t5 t6 t7 t8 some e1 e2 e3 e4 e5 e6 e7 e8 =
    let attributes = flat_map canonical_attribute tree.attributes in
    rw (e8, e7, e6, e5, e4, e3, e2, e1, forest_of-trees_of tree.children)
    (pieces t0 tree.name attributes (canonical_forest tree.children)
    ∙ ap (λ r. t0 ++ (60 ∷ ((tree.name ++ attributes) ++ r))) (sym (canonical_rest-some tree.name (canonical_forest tree.children) tree.children some)))
