-- The one written spelling of an element, and which elements are writable.
use Rattle.std.specs.Prelude.{ℕ, suc, ◌≤◌, ◌==◌, Bool, cond, List, [], ◌∷◌, ◌++◌, codes, length, map, max}
use Rattle.std.specs.List.{flat_map, AllByRecursion, IsDistinct}
use Rattle.std.specs.Str.{bytes_eq}
use Rattle.line_base.specs.Text.{IsText}
use Rattle.line_base.specs.Name.{IsName}
use Rattle.hermes_element.specs.Element.{Forest, none, more, Tree}
use Rattle.hermes_element.specs.declared.attribute.Attribute.{Attribute}

-- `&`, `<`, `>`, `"`, LF, CR and tab by their escapes, and every other byte as itself
abbrev pub escaped_byte : ℕ → List ℕ
escaped_byte b =
    cond (b == 38) (codes "&amp;")
    (cond (b == 60) (codes "&lt;")
    (cond (b == 62) (codes "&gt;") (cond (b == 34) (codes "&quot;")
    (cond (b == 10) (codes "&#10;")
    (cond (b == 13) (codes "&#13;") (cond (b == 9) (codes "&#9;") (b ∷ [])))))))

-- a byte that is written as itself
abbrev pub is_unescaped : ℕ → Bool
is_unescaped b = bytes_eq (escaped_byte b) (b ∷ [])

-- a space, the name, `="`, the value, and `"`
abbrev pub canonical_attribute : Attribute → List ℕ
canonical_attribute a =
    (32 ∷ a.name) ++ (61 ∷ 34 ∷ []) ++ flat_map escaped_byte a.value ++ (34 ∷ [])

-- `/>` where there are no children; else `>`, the children's spelling, and the end tag
abbrev pub canonical_rest : List ℕ → Forest → List ℕ → List ℕ
canonical_rest name none inside = 47 ∷ 62 ∷ []
canonical_rest name (more _ _ _ _ _) inside =
    (62 ∷ []) ++ inside ++ (60 ∷ 47 ∷ []) ++ name ++ (62 ∷ [])

abbrev pub canonical_front : List ℕ → List Attribute → List ℕ
canonical_front name attributes = (60 ∷ name) ++ flat_map canonical_attribute attributes

abbrev pub canonical_forest : Forest → List ℕ
canonical_forest none = []
canonical_forest (more name at attributes children rest) =
    canonical_front name attributes ++ canonical_rest name children (canonical_forest children)
    ++ canonical_forest rest

abbrev pub canonical : Tree → List ℕ
canonical tree =
    canonical_front tree.name tree.attributes
    ++ canonical_rest tree.name tree.children (canonical_forest tree.children)

-- ---- writable elements

-- how many levels of elements there are
abbrev pub depth_of : Forest → ℕ
depth_of none = 0
depth_of (more name at attributes children rest) = max (suc (depth_of children)) (depth_of rest)

-- at most 64 attributes, and no name that repeats
pub record HasFewDistinct (attributes : List Attribute) : Type 0 where
  pub few : length attributes ≤ 64
  pub distinct : IsDistinct bytes_eq (map (λ a. a.name) attributes)

-- so has each element, at all depths
abbrev pub HaveFewDistinct : Forest → Type 0
HaveFewDistinct none = Unit {0}
HaveFewDistinct (more name at attributes children rest) =
    HasFewDistinct attributes × HaveFewDistinct children × HaveFewDistinct rest

-- depth at most 4, and in each element at most 64 attributes of which none repeats
pub record IsWritable (tree : Tree) : Type 0 where
  pub own : HasFewDistinct tree.attributes
  pub below : HaveFewDistinct tree.children
  pub depth : depth_of tree.children ≤ 3

-- ---- what every element is that exists

-- its name is a name, and its value a text
pub record IsProperAttribute (a : Attribute) : Type 0 where
  pub name : IsName a.name
  pub value : IsText a.value

-- the element's name is a name, and each of its attributes is proper
pub record HasProperTag (name : List ℕ) (attributes : List Attribute) : Type 0 where
  pub named : IsName name
  pub each : AllByRecursion IsProperAttribute attributes

-- so has each element, at all depths
abbrev pub HaveProperTags : Forest → Type 0
HaveProperTags none = Unit {0}
HaveProperTags (more name at attributes children rest) =
    HasProperTag name attributes × HaveProperTags children × HaveProperTags rest

-- names are names and values are texts, at all depths
pub record IsProper (tree : Tree) : Type 0 where
  pub own : HasProperTag tree.name tree.attributes
  pub below : HaveProperTags tree.children

-- ---- equal up to the places

abbrev pub unplaced_attribute : Attribute → Attribute
unplaced_attribute a = record { name = a.name; value = a.value; at = 0 }

abbrev pub unplaced_forest : Forest → Forest
unplaced_forest none = none
unplaced_forest (more name at attributes children rest) =
    more name 0 (map unplaced_attribute attributes) (unplaced_forest children)
    (unplaced_forest rest)

abbrev pub unplaced : Tree → Tree
unplaced tree =
    record {
      name = tree.name;
      at = 0;
      attributes = map unplaced_attribute tree.attributes;
      children = unplaced_forest tree.children;
    }
