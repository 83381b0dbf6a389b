-- Attributes that are put to their fields one by one, from the last, are each the first of its name.
use Rattle.std.proofs.Common.{◌≡◌, ℕ, ◌<◌, ◌||◌, zero, suc, Bool, true, false, cond, List, [], ◌∷◌, ◌++◌, length, get_or, set, take, drop, map, Option, Some, None, is_none, not, refl, sym, ap, ◌∙◌, arith}
use Rattle.std.proofs.lemmas.Bool.{and_parts, and_from, or_parts, not-true, false≢true}
use Rattle.std.proofs.lemmas.Slice.Eq.{bytes_eq-Decides}
use Rattle.std.specs.List.{list_any}
use Rattle.std.specs.Str.{bytes_eq}
use Rattle.hermes_element.specs.declared.attribute.Attribute.{Attribute}
use Rattle.hermes_horizontal.specs.declared.field.Field.{Field}
use Rattle.hermes_horizontal.specs.Attrs.{attr_text}
use Rattle.hermes_horizontal.specs.Spelling.{first_named}
use Rattle.hermes_horizontal.specs.Fields.{placed, found_in, are_apart, are_fresh, is_of}

ap2 : {A B C : Type 0} (f : A → B → C) {a a' : A} {b b' : B} → a ≡ a' → b ≡ b' → f a b ≡ f a' b'
ap2 f {a} {a'} {b} {b'} e d = ap (λ x. f x b) e ∙ ap (f a') d

pub same_bytes : (a b : List ℕ) → bytes_eq a b ≡ true → a ≡ b
same_bytes a b e = (bytes_eq-Decides a b).0 e

none_from_is_none : {A : Type 0} (o : Option A) → is_none o ≡ true → o ≡ None
none_from_is_none None e = refl
none_from_is_none (Some x) e = absurd (false≢true e)

-- the first attribute of a name, or else this one
abbrev pub first_or : List ℕ → List Attribute → Option Attribute → Option Attribute
first_or name [] found = found
first_or name (attribute ∷ rest) found = cond (bytes_eq attribute.name name) (Some attribute) (first_or name rest found)

abbrev pub filled : List Attribute → Field → Field
filled attributes field = record field { found = first_or (attr_text field.attr) attributes field.found }

pub first_or-none : (name : List ℕ) (attributes : List Attribute) → first_or name attributes None ≡ first_named name attributes
first_or-none name [] = refl
first_or-none name (attribute ∷ rest) = ap (cond (bytes_eq attribute.name name) (Some attribute)) (first_or-none name rest)

pub first_or-append : (name : List ℕ) (front : List Attribute) (attribute : Attribute) (found : Option Attribute) → first_or name (front ++ attribute ∷ []) found ≡ first_or name front (first_or name (attribute ∷ []) found)
first_or-append name [] attribute found = refl
first_or-append name (a ∷ front) attribute found = ap (cond (bytes_eq a.name name) (Some a)) (first_or-append name front attribute found)

-- at the first field of its name
pub placed_at : (attribute : Attribute) (fields : List Field) (i : ℕ) (x : Field) → i < length fields → is_of attribute (get_or fields i x) ≡ true
    → take i fields ++ placed attribute (drop i fields) ≡ set fields i (record (get_or fields i x) { found = Some attribute })
placed_at attribute [] i x h e = absurd (omega arith)
placed_at attribute (field ∷ fields) zero x h e = rw e refl
placed_at attribute (field ∷ fields) (suc i) x h e = ap (λ (t : List Field). field ∷ t) (placed_at attribute fields i x (omega arith) e)

-- ---- fields of different names

abbrev has_name : List ℕ → Field → Bool
has_name name field = bytes_eq name (attr_text field.attr)

keeps_names : (attribute : Attribute) (name : List ℕ) (fields : List Field) → list_any (has_name name) (placed attribute fields) ≡ list_any (has_name name) fields
keeps_names attribute name [] = refl
keeps_names attribute name (field ∷ fields) =
    elim (is_of attribute field) as (λ b. list_any (has_name name) (cond b (record field { found = Some attribute } ∷ fields) (field ∷ placed attribute fields)) ≡ list_any (has_name name) (field ∷ fields)) [
      | true ↦ refl
      | false ↦ ap (λ b. has_name name field || b) (keeps_names attribute name fields)
    ]

pub placed_apart : (attribute : Attribute) (fields : List Field) → are_apart fields ≡ true → are_apart (placed attribute fields) ≡ true
placed_apart attribute [] h = h
placed_apart attribute (field ∷ fields) h =
    let p = and_parts (not (list_any (has_name (attr_text field.attr)) fields)) (are_apart fields) h in
    elim (is_of attribute field) as (λ b. are_apart (cond b (record field { found = Some attribute } ∷ fields) (field ∷ placed attribute fields)) ≡ true) [
      | true ↦ h
      | false ↦ and_from (not (list_any (has_name (attr_text field.attr)) (placed attribute fields))) (are_apart (placed attribute fields)) (ap not (keeps_names attribute (attr_text field.attr) fields) ∙ p.0) (placed_apart attribute fields p.1)
    ]

-- ---- one attribute more at the end

one_more : (attribute : Attribute) (front : List Attribute) (field : Field) → filled (front ++ attribute ∷ []) field ≡ filled front (record field { found = cond (is_of attribute field) (Some attribute) field.found })
one_more attribute front field = ap (λ (found : Option Attribute). record field { found = found }) (first_or-append (attr_text field.attr) front attribute field.found)

one_more_of : (attribute : Attribute) (front : List Attribute) (field : Field) → is_of attribute field ≡ true → filled front (record field { found = Some attribute }) ≡ filled (front ++ attribute ∷ []) field
one_more_of attribute front field e = sym (one_more attribute front field ∙ ap (λ b. filled front (record field { found = cond b (Some attribute) field.found })) e)

one_more_other : (attribute : Attribute) (front : List Attribute) (field : Field) → is_of attribute field ≡ false → filled front field ≡ filled (front ++ attribute ∷ []) field
one_more_other attribute front field e = sym (one_more attribute front field ∙ ap (λ b. filled front (record field { found = cond b (Some attribute) field.found })) e)

other_name : (name : List ℕ) (attribute : Attribute) (other : Field) → bytes_eq attribute.name name ≡ true → has_name name other ≡ false → is_of attribute other ≡ false
other_name name attribute other e f = rw (same_bytes attribute.name name e) f

others_stay : (name : List ℕ) (attribute : Attribute) (front : List Attribute) (fields : List Field) → bytes_eq attribute.name name ≡ true → list_any (has_name name) fields ≡ false
    → map (filled front) fields ≡ map (filled (front ++ attribute ∷ [])) fields
others_stay name attribute front [] e f = refl
others_stay name attribute front (field ∷ fields) e f =
    let p = or_parts (has_name name field) (list_any (has_name name) fields) f in
    ap2 (λ (x : Field) (xs : List Field). x ∷ xs) (one_more_other attribute front field (other_name name attribute field e p.0)) (others_stay name attribute front fields e p.1)

pushed_first : (attribute : Attribute) (front : List Attribute) (field : Field) (fields : List Field) → (b : Bool) → is_of attribute field ≡ b → are_apart (field ∷ fields) ≡ true
    → map (filled front) (placed attribute fields) ≡ map (filled (front ++ attribute ∷ [])) fields
    → map (filled front) (cond b (record field { found = Some attribute } ∷ fields) (field ∷ placed attribute fields)) ≡ map (filled (front ++ attribute ∷ [])) (field ∷ fields)
pushed_first attribute front field fields true e h behind =
    let p = and_parts (not (list_any (has_name (attr_text field.attr)) fields)) (are_apart fields) h in
    ap2 (λ (x : Field) (xs : List Field). x ∷ xs) (one_more_of attribute front field e) (others_stay (attr_text field.attr) attribute front fields e (not-true (list_any (has_name (attr_text field.attr)) fields) p.0))
pushed_first attribute front field fields false e h behind =
    ap2 (λ (x : Field) (xs : List Field). x ∷ xs) (one_more_other attribute front field e) behind

pub pushed_back : (attribute : Attribute) (front : List Attribute) (fields : List Field) → are_apart fields ≡ true → map (filled front) (placed attribute fields) ≡ map (filled (front ++ attribute ∷ [])) fields
pushed_back attribute front [] h = refl
pushed_back attribute front (field ∷ fields) h =
    let p = and_parts (not (list_any (has_name (attr_text field.attr)) fields)) (are_apart fields) h in
    pushed_first attribute front field fields (is_of attribute field) refl h (pushed_back attribute front fields p.1)

-- ---- before the first and behind the last attribute

none_fills : (attributes : List Attribute) (field : Field) → is_none field.found ≡ true → filled attributes field ≡ found_in attributes field
none_fills attributes field e = rw (none_from_is_none field.found e, first_or-none (attr_text field.attr) attributes) refl

pub all_found : (attributes : List Attribute) (fields : List Field) → are_fresh fields ≡ true → map (filled attributes) fields ≡ map (found_in attributes) fields
all_found attributes [] h = refl
all_found attributes (field ∷ fields) h =
    let p = and_parts (is_none field.found) (are_fresh fields) h in
    ap2 (λ (x : Field) (xs : List Field). x ∷ xs) (none_fills attributes field p.0) (all_found attributes fields p.1)

pub none_left : (fields : List Field) → map (filled []) fields ≡ fields
none_left [] = refl
none_left (field ∷ fields) = ap (λ (xs : List Field). field ∷ xs) (none_left fields)
