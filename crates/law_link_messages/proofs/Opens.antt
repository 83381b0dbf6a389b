-- No `<` stands in an attribute.
use Rattle.std.proofs.Common.{◌≡◌, ℕ, Bool, true, false, cond, List, [], ◌∷◌, ◌++◌, codes, refl, sym, ap, subst, ◌∙◌, inl, inr, arith}
use Rattle.std.specs.Prelude.{◌==◌, not}
use Rattle.std.specs.List.{list_all, flat_map, AllByRecursion}
use Rattle.std.proofs.lemmas.Bool.{cases_Bool, and_parts, and_from, eqb-true}
use Rattle.std.proofs.lemmas.Bool.Decides.{nat_tests}
use Rattle.std.proofs.lemmas.List.Folds.{list_all-append}
use Rattle.std.proofs.lemmas.List.Concat.{flat_map-cons}
use Rattle.line_base.specs.Name.{is_name_start, is_name_byte, IsName}
use Rattle.hermes_element.specs.declared.attribute.Attribute.{Attribute}
use Rattle.hermes_element.specs.Canonical.{escaped_byte, canonical_attribute, IsProperAttribute}
use Rattle.hermes_stream.proofs.Alone.{is_no_open, have_no_open}

-- bytes without a `<`
pub record IsFree (bytes : List ℕ) : Type 0 where
  pub all : have_no_open bytes ≡ true

pub free-append : (a b : List ℕ) → IsFree a → IsFree b → IsFree (a ++ b)
free-append a b x y = record { all = list_all-append is_no_open a b ∙ and_from (have_no_open a) (have_no_open b) x.all y.all }

pub free-more : (b : ℕ) (bytes : List ℕ) → is_no_open b ≡ true → IsFree bytes → IsFree (b ∷ bytes)
free-more b bytes e h = record { all = and_from (is_no_open b) (have_no_open bytes) e h.all }

-- ---- values, with their escapes

either : (t : Bool) (a b : List ℕ) → IsFree a → IsFree b → IsFree (cond t a b)
either true a b x y = x
either false a b x y = y

other_byte : (b : ℕ) → (b == 60) ≡ false → is_no_open b ≡ true
other_byte b e = ap not e

free_byte : (b : ℕ) → IsFree (escaped_byte b)
free_byte b = elim (cases_Bool (b == 60)) [
  | inl open_is ↦ subst (λ x. IsFree (escaped_byte x)) (sym (eqb-true b 60 open_is)) (record { all = refl })
  | inr other ↦
      either (b == 38) (codes "&amp;") _ (record { all = refl })
      (either (b == 60) (codes "&lt;") _ (record { all = refl })
      (either (b == 62) (codes "&gt;") _ (record { all = refl })
      (either (b == 34) (codes "&quot;") _ (record { all = refl })
      (either (b == 10) (codes "&#10;") _ (record { all = refl })
      (either (b == 13) (codes "&#13;") _ (record { all = refl })
      (either (b == 9) (codes "&#9;") (b ∷ []) (record { all = refl })
      (free-more b [] (other_byte b other) (record { all = refl }))))))))
]

free_value : (bytes : List ℕ) → IsFree (flat_map escaped_byte bytes)
free_value [] = record { all = refl }
free_value (b ∷ bytes) = rw (flat_map-cons escaped_byte b bytes) (free-append (escaped_byte b) (flat_map escaped_byte bytes) (free_byte b) (free_value bytes))

-- ---- names

name_byte : (b : ℕ) → is_name_byte b ≡ true → is_no_open b ≡ true
name_byte b h = grind (arith, nat_tests)

name_start : (b : ℕ) → is_name_start b ≡ true → is_no_open b ≡ true
name_start b h = grind (arith, nat_tests)

name_bytes : (bytes : List ℕ) → list_all is_name_byte bytes ≡ true → IsFree bytes
name_bytes [] h = record { all = refl }
name_bytes (b ∷ bytes) h =
    let p = and_parts (is_name_byte b) (list_all is_name_byte bytes) h in
    free-more b bytes (name_byte b p.0) (name_bytes bytes p.1)

pub free_name : (name : List ℕ) → IsName name → IsFree name
free_name [] h = record { all = refl }
free_name (b ∷ bytes) h =
    let p = and_parts (is_name_start b) (list_all is_name_byte bytes) h in
    free-more b bytes (name_start b p.0) (name_bytes bytes p.1)

-- ---- attributes

pub free_attribute : (a : Attribute) → IsProperAttribute a → IsFree (canonical_attribute a)
free_attribute a proper =
    free-append (((32 ∷ a.name) ++ (61 ∷ 34 ∷ [])) ++ flat_map escaped_byte a.value) (34 ∷ [])
    (free-append ((32 ∷ a.name) ++ (61 ∷ 34 ∷ [])) (flat_map escaped_byte a.value)
    (free-append (32 ∷ a.name) (61 ∷ 34 ∷ []) (free-more 32 a.name refl (free_name a.name proper.name)) (record { all = refl }))
    (free_value a.value))
    (record { all = refl })

pub free_attributes : (attributes : List Attribute) → AllByRecursion IsProperAttribute attributes → IsFree (flat_map canonical_attribute attributes)
free_attributes [] proper = record { all = refl }
free_attributes (a ∷ attributes) proper =
    rw (flat_map-cons canonical_attribute a attributes) (free-append (canonical_attribute a) (flat_map canonical_attribute attributes) (free_attribute a proper.0) (free_attributes attributes proper.1))
