-- The canonical spelling of a writable element spells it.
use Rattle.std.proofs.Common.{◌≡◌, inl, inr, ℕ, ◌+◌, ◌<◌, ◌≤◌, true, false, cond, List, [], ◌∷◌, ◌++◌, Some, None, Result, Ok, ◌↔◌, map, length, refl, ap, sym, ◌∙◌, append_assoc, append-nil, arith, subst, length-append}
use Rattle.std.specs.Prelude.{◌==◌, nat_lt}
use Rattle.std.specs.List.{list_any, list_all, flat_map, AllByRecursion, IsDistinct}
use Rattle.std.specs.Str.{bytes_eq, chars, encode_utf8_all}
use Rattle.std.specs.Char.{encode_utf8}
use Rattle.std.proofs.lemmas.Str.{encode_ascii, encodes-chars}
use Rattle.std.proofs.lemmas.Bool.{cases_lt, cases_Bool, eqb-true, ne_eqb, le-ltb, or_from, and_parts, and_from}
use Rattle.line_base.specs.Name.{IsName}
use Rattle.line_base.specs.Text.{is_allowed_char}
use Rattle.hermes_element.specs.Plain.{Escape, named, decimal, Piece, plain, escaped, piece_text, is_piece, value_text, Assignment, assignment_front, assignment_text, IsAssignment, AreAssignments, Tag, tag_text, IsTag, EndTag, end_text, Content, last, empty, full, content_text, IsContent, Root, lone, holding, root_text, IsRoot, Document}
use Rattle.hermes_element.specs.Checks.{Fault, character_of, encoded, spaced, value_from, value_of, reference_faults, value_faults, assignments_faults, tag_faults, content_faults, root_faults, attributes_of, forest_in, element_of}
use Rattle.hermes_element.specs.Element.{Forest, none, more, Tree}
use Rattle.hermes_element.specs.Canonical.{escaped_byte, canonical_attribute, canonical_rest, canonical_front, canonical_forest, canonical, depth_of, HasFewDistinct, HaveFewDistinct, IsWritable, IsProperAttribute, HasProperTag, HaveProperTags, IsProper, unplaced_attribute, unplaced_forest, unplaced}
use Rattle.hermes_element.specs.Spelling.{Spells}
use Rattle.std.proofs.lemmas.Slice.Eq.{bytes_eq-Decides}
use Rattle.std.proofs.lemmas.List.Folds.{list_any-append}
use Rattle.hermes_element.proofs.Living.{allowed_top}
use Rattle.hermes_element.specs.declared.attribute.Attribute.{Attribute}
use Rattle.hermes_element.proofs.Wide.{encode_2, encode_3, encode_4}
use Rattle.hermes_element.proofs.Exact.{spelled_outcome, one_tree}
use Rattle.hermes_element.proofs.Effects.{root_tree}
use Rattle.hermes_element.specs.Machine.{Build, Outcome}
use Rattle.hermes_element.specs.declared.refusal.Why.TheVariants as why

-- ---- values

abbrev piece_of : ℕ → Piece
piece_of c =
    cond (c == 38) (escaped (named (97 ∷ 109 ∷ 112 ∷ []))) (cond (c == 60) (escaped (named (108 ∷ 116 ∷ []))) (cond (c == 62) (escaped (named (103 ∷ 116 ∷ [])))
    (cond (c == 34) (escaped (named (113 ∷ 117 ∷ 111 ∷ 116 ∷ []))) (cond (c == 10) (escaped (decimal (49 ∷ 48 ∷ []))) (cond (c == 13) (escaped (decimal (49 ∷ 51 ∷ [])))
    (cond (c == 9) (escaped (decimal (57 ∷ []))) (plain c)))))))

-- what is shown of a character and its piece
record IsPieceOf (c : ℕ) (p : Piece) : Type 0 where
  is : is_piece 34 p ≡ true
  text : piece_text p ≡ flat_map escaped_byte (encode_utf8 c)
  value : (rest : List Piece) → value_from false (p ∷ rest) ≡ encode_utf8 c ++ value_from false rest
  good : (at : ℕ) (rest : List Piece) → reference_faults at (p ∷ rest) ≡ reference_faults (at + length (piece_text p)) rest

special : (c : ℕ) (e : Escape) → c < 128 → is_piece 34 (escaped e) ≡ true → piece_text (escaped e) ≡ escaped_byte c ++ [] → character_of e ≡ Some c
    → ((at : ℕ) (rest : List Piece) → reference_faults at (escaped e ∷ rest) ≡ reference_faults (at + length (piece_text (escaped e))) rest) → IsPieceOf c (escaped e)
special c e small is text char good = record {
  is = is;
  text = text ∙ sym (ap (flat_map escaped_byte) (encode_ascii c small));
  value = λ rest. ap (λ o. encoded o ++ value_from false rest) char;
  good = good;
}

high_byte : (b : ℕ) → 128 ≤ b → escaped_byte b ≡ b ∷ []
high_byte b h =
    let a1 = ne_eqb b 38 (λ e. omega arith) in let a2 = ne_eqb b 60 (λ e. omega arith) in let a3 = ne_eqb b 62 (λ e. omega arith) in let a4 = ne_eqb b 34 (λ e. omega arith) in
    let a5 = ne_eqb b 10 (λ e. omega arith) in let a6 = ne_eqb b 13 (λ e. omega arith) in let a7 = ne_eqb b 9 (λ e. omega arith) in
    rw (a1, a2, a3, a4, a5, a6, a7)

high_bytes : (bytes : List ℕ) → AllByRecursion (λ b. 128 ≤ b) bytes → flat_map escaped_byte bytes ≡ bytes
high_bytes [] h = refl
high_bytes (b ∷ bs) h = ap (λ l. l ++ flat_map escaped_byte bs) (high_byte b h.0) ∙ ap (λ l. b ∷ l) (high_bytes bs h.1)

high_text : (c : ℕ) → 128 ≤ c → c ≤ 1114111 → flat_map escaped_byte (encode_utf8 c) ≡ encode_utf8 c
high_text c low top = high_bytes (encode_utf8 c) (elim (cases_lt c 2048) [
  | inl a ↦ subst (λ l. AllByRecursion (λ b. 128 ≤ b) l) (sym (encode_2 c low a)) (omega arith, (omega arith, tt))
  | inr a ↦ elim (cases_lt c 65536) [
    | inl b ↦ subst (λ l. AllByRecursion (λ b. 128 ≤ b) l) (sym (encode_3 c a b)) (omega arith, (omega arith, (omega arith, tt)))
    | inr b ↦ subst (λ l. AllByRecursion (λ b. 128 ≤ b) l) (sym (encode_4 c b)) (omega arith, (omega arith, (omega arith, (omega arith, tt))))
  ]
])

plain_piece : (c : ℕ) → is_allowed_char c ≡ true → (c == 38) ≡ false → (c == 60) ≡ false → (c == 62) ≡ false → (c == 34) ≡ false → (c == 10) ≡ false → (c == 13) ≡ false → (c == 9) ≡ false → IsPieceOf c (plain c)
plain_piece c allowed a1 a2 a3 a4 a5 a6 a7 =
    let top = allowed_top c allowed in
    let same : spaced c ≡ c = rw (a7, a5, a6) in
    record {
      is = rw (allowed, a2, a1, a4);
      text = elim (cases_lt c 128) [
        | inl small ↦
            let e = encode_ascii c small in
            let b : escaped_byte c ≡ c ∷ [] = rw (a1, a2, a3, a4, a5, a6, a7) in
            e ∙ ap (λ l. l ++ []) (sym b) ∙ sym (ap (flat_map escaped_byte) e)
        | inr high ↦ sym (high_text c high top)
      ];
      value = λ rest. ap (λ k. encode_utf8 k ++ value_from (c == 13) rest) same ∙ ap (λ t. encode_utf8 c ++ value_from t rest) a6;
      good = λ at rest. refl;
    }

piece : (c : ℕ) → is_allowed_char c ≡ true → IsPieceOf c (piece_of c)
piece c allowed = elim (cases_Bool (c == 38)) [
  | inl t ↦ subst (λ k. IsPieceOf k (piece_of k)) (sym (eqb-true c 38 t)) (special 38 (named (97 ∷ 109 ∷ 112 ∷ [])) (omega arith) refl refl refl (λ at rest. refl))
  | inr a1 ↦ elim (cases_Bool (c == 60)) [
    | inl t ↦ subst (λ k. IsPieceOf k (piece_of k)) (sym (eqb-true c 60 t)) (special 60 (named (108 ∷ 116 ∷ [])) (omega arith) refl refl refl (λ at rest. refl))
    | inr a2 ↦ elim (cases_Bool (c == 62)) [
      | inl t ↦ subst (λ k. IsPieceOf k (piece_of k)) (sym (eqb-true c 62 t)) (special 62 (named (103 ∷ 116 ∷ [])) (omega arith) refl refl refl (λ at rest. refl))
      | inr a3 ↦ elim (cases_Bool (c == 34)) [
        | inl t ↦ subst (λ k. IsPieceOf k (piece_of k)) (sym (eqb-true c 34 t)) (special 34 (named (113 ∷ 117 ∷ 111 ∷ 116 ∷ [])) (omega arith) refl refl refl (λ at rest. refl))
        | inr a4 ↦ elim (cases_Bool (c == 10)) [
          | inl t ↦ subst (λ k. IsPieceOf k (piece_of k)) (sym (eqb-true c 10 t)) (special 10 (decimal (49 ∷ 48 ∷ [])) (omega arith) refl refl refl (λ at rest. refl))
          | inr a5 ↦ elim (cases_Bool (c == 13)) [
            | inl t ↦ subst (λ k. IsPieceOf k (piece_of k)) (sym (eqb-true c 13 t)) (special 13 (decimal (49 ∷ 51 ∷ [])) (omega arith) refl refl refl (λ at rest. refl))
            | inr a6 ↦ elim (cases_Bool (c == 9)) [
              | inl t ↦ subst (λ k. IsPieceOf k (piece_of k)) (sym (eqb-true c 9 t)) (special 9 (decimal (57 ∷ [])) (omega arith) refl refl refl (λ at rest. refl))
              | inr a7 ↦ subst (λ p. IsPieceOf c p) (sym (rw (a1, a2, a3, a4, a5, a6, a7))) (plain_piece c allowed a1 a2 a3 a4 a5 a6 a7)
            ]
          ]
        ]
      ]
    ]
  ]
]

abbrev pieces_of : List ℕ → List Piece
pieces_of cs = map piece_of cs

pieces_are : (cs : List ℕ) → list_all is_allowed_char cs ≡ true → list_all (is_piece 34) (pieces_of cs) ≡ true
pieces_are [] h = refl
pieces_are (c ∷ cs) h = let both = and_parts (is_allowed_char c) (list_all is_allowed_char cs) h in and_from (is_piece 34 (piece_of c)) (list_all (is_piece 34) (pieces_of cs)) (piece c both.0).is (pieces_are cs both.1)

flat_append : (xs ys : List ℕ) → flat_map escaped_byte (xs ++ ys) ≡ flat_map escaped_byte xs ++ flat_map escaped_byte ys
flat_append [] ys = refl
flat_append (x ∷ xs) ys = ap (λ l. escaped_byte x ++ l) (flat_append xs ys) ∙ sym (append_assoc (escaped_byte x) (flat_map escaped_byte xs) (flat_map escaped_byte ys))

pieces_text : (cs : List ℕ) → list_all is_allowed_char cs ≡ true → value_text (pieces_of cs) ≡ flat_map escaped_byte (encode_utf8_all cs)
pieces_text [] h = refl
pieces_text (c ∷ cs) h =
    let both = and_parts (is_allowed_char c) (list_all is_allowed_char cs) h in
    ap (λ l. l ++ value_text (pieces_of cs)) (piece c both.0).text ∙ ap (λ l. flat_map escaped_byte (encode_utf8 c) ++ l) (pieces_text cs both.1) ∙ sym (flat_append (encode_utf8 c) (encode_utf8_all cs))

pieces_value : (cs : List ℕ) → list_all is_allowed_char cs ≡ true → value_from false (pieces_of cs) ≡ encode_utf8_all cs
pieces_value [] h = refl
pieces_value (c ∷ cs) h =
    let both = and_parts (is_allowed_char c) (list_all is_allowed_char cs) h in
    (piece c both.0).value (pieces_of cs) ∙ ap (λ l. encode_utf8 c ++ l) (pieces_value cs both.1)

pieces_good : (at : ℕ) (cs : List ℕ) → list_all is_allowed_char cs ≡ true → reference_faults at (pieces_of cs) ≡ []
pieces_good at [] h = refl
pieces_good at (c ∷ cs) h =
    let both = and_parts (is_allowed_char c) (list_all is_allowed_char cs) h in
    (piece c both.0).good at (pieces_of cs) ∙ pieces_good (at + length (piece_text (piece_of c))) cs both.1

-- ---- attributes

abbrev assignment_of : Attribute → Assignment
assignment_of a = record { gap = 32 ∷ []; name = a.name; before = []; after = []; quote = 34; value = pieces_of (chars a.value) }

assignment_is : (a : Attribute) → IsProperAttribute a → IsAssignment (assignment_of a)
assignment_is a h = record { some = omega arith; gap = refl; name = h.name; before = refl; after = refl; quote = refl; value = pieces_are (chars a.value) h.value.allowed.allowed }

attribute_split : (name value : List ℕ) → ((((((((32 ∷ []) ++ name) ++ []) ++ (61 ∷ [])) ++ []) ++ (34 ∷ [])) ++ value) ++ (34 ∷ [])) ≡ (((32 ∷ name) ++ (61 ∷ 34 ∷ [])) ++ value) ++ (34 ∷ [])
attribute_split name value = simp (append_assoc, append-nil)

assignment_is_text : (a : Attribute) → IsProperAttribute a → assignment_text (assignment_of a) ≡ canonical_attribute a
assignment_is_text a h =
    attribute_split a.name (value_text (pieces_of (chars a.value)))
    ∙ ap (λ v. (((32 ∷ a.name) ++ (61 ∷ 34 ∷ [])) ++ v) ++ (34 ∷ [])) (pieces_text (chars a.value) h.value.allowed.allowed ∙ ap (flat_map escaped_byte) (encodes-chars a.value h.value.allowed.utf8))

value_is : (a : Attribute) → IsProperAttribute a → value_of (pieces_of (chars a.value)) ≡ a.value
value_is a h = pieces_value (chars a.value) h.value.allowed.allowed ∙ encodes-chars a.value h.value.allowed.utf8

value_good : (at : ℕ) (a : Attribute) → IsProperAttribute a → value_faults at (pieces_of (chars a.value)) ≡ []
value_good at a h =
    let v = value_is a h in
    let short : nat_lt 1024 (length (value_of (pieces_of (chars a.value)))) ≡ false = le-ltb 1024 (length (value_of (pieces_of (chars a.value)))) (omega (arith, h.value.short, ap length v)) in
    rw (pieces_good at (chars a.value) h.value.allowed.allowed, short)

abbrev assignments_of : List Attribute → List Assignment
assignments_of list = map assignment_of list

assignments_are : (list : List Attribute) → AllByRecursion IsProperAttribute list → AreAssignments (assignments_of list)
assignments_are [] h = tt
assignments_are (a ∷ list) h = (assignment_is a h.0, assignments_are list h.1)

assignments_text : (list : List Attribute) → AllByRecursion IsProperAttribute list → flat_map assignment_text (assignments_of list) ≡ flat_map canonical_attribute list
assignments_text [] h = refl
assignments_text (a ∷ list) h = ap (λ l. l ++ flat_map assignment_text (assignments_of list)) (assignment_is_text a h.0) ∙ ap (λ l. canonical_attribute a ++ l) (assignments_text list h.1)

pub other_way : (x y : List ℕ) → bytes_eq x y ≡ false → bytes_eq y x ≡ false
other_way x y h = elim (cases_Bool (bytes_eq y x)) [
  | inr e ↦ e
  | inl e ↦ let same = (bytes_eq-Decides y x).0 e in let back = (bytes_eq-Decides x y).1 (sym same) in absurd (cc (back, h))
]

fresh_more : (names : List (List ℕ)) (name : List ℕ) (list : List Attribute) → AllByRecursion (λ (a : Attribute). list_any (bytes_eq a.name) names ≡ false) list
    → AllByRecursion (λ other. bytes_eq name other ≡ false) (map (λ (a : Attribute). a.name) list) → AllByRecursion (λ (a : Attribute). list_any (bytes_eq a.name) (names ++ name ∷ []) ≡ false) list
fresh_more names name [] h d = tt
fresh_more names name (a ∷ list) h d = (
  list_any-append (bytes_eq a.name) names (name ∷ []) ∙ or_from (list_any (bytes_eq a.name) names) (list_any (bytes_eq a.name) (name ∷ [])) h.0 (or_from (bytes_eq a.name name) false (other_way name a.name d.0) refl),
  fresh_more names name list h.1 d.1,
)

assignments_good : (at : ℕ) (names : List (List ℕ)) (list : List Attribute) → AllByRecursion IsProperAttribute list → length names + length list ≤ 64
    → AllByRecursion (λ (a : Attribute). list_any (bytes_eq a.name) names ≡ false) list → IsDistinct bytes_eq (map (λ (a : Attribute). a.name) list) → assignments_faults at names (assignments_of list) ≡ []
unfolding IsDistinct
assignments_good at names [] each few fresh distinct = refl
assignments_good at names (a ∷ list) each few fresh distinct =
    let not_many : (length names == 64) ≡ false = ne_eqb (length names) 64 (λ e. omega arith) in
    let new = fresh.0 in
    let rest = assignments_good (at + length (assignment_text (assignment_of a))) (names ++ a.name ∷ []) list each.1 (omega (arith, few, length-append names (a.name ∷ []))) (fresh_more names a.name list fresh.1 distinct.0) distinct.1 in
    rw (not_many, new, value_good (at + length (assignment_front (assignment_of a))) a each.0) rest

none_fresh : (list : List Attribute) → AllByRecursion (λ (a : Attribute). list_any (bytes_eq a.name) [] ≡ false) list
none_fresh [] = tt
none_fresh (a ∷ list) = (refl, none_fresh list)

attributes_same : (at : ℕ) (list : List Attribute) → AllByRecursion IsProperAttribute list → map unplaced_attribute (attributes_of at (assignments_of list)) ≡ map unplaced_attribute list
attributes_same at [] h = refl
attributes_same at (a ∷ list) h =
    let next = at + length (assignment_text (assignment_of a)) in
    let first : Attribute → Attribute = λ b. unplaced_attribute b in
    ap (λ v. record { name = a.name; value = v; at = 0 } ∷ map unplaced_attribute (attributes_of next (assignments_of list))) (value_is a h.0)
    ∙ ap (λ l. unplaced_attribute a ∷ l) (attributes_same next list h.1)

-- ---- elements

abbrev tag_of : List ℕ → List Attribute → Tag
tag_of name list = record { name = name; assignments = assignments_of list; gap = [] }

abbrev end_of : List ℕ → EndTag
end_of name = record { name = name; gap = [] }

abbrev content_of : Forest → Content
content_of none = last []
content_of (more name at attributes none rest) = empty [] (tag_of name attributes) (content_of rest)
content_of (more name at attributes (more n a l c r) rest) = full [] (tag_of name attributes) (content_of (more n a l c r)) (end_of name) (content_of rest)

-- a tag that is proper and writable
record HasGoodTag (name : List ℕ) (attributes : List Attribute) : Type 0 where
  named : IsName name
  few : length attributes ≤ 64
  distinct : IsDistinct bytes_eq (map (λ a. a.name) attributes)
  each : AllByRecursion IsProperAttribute attributes

abbrev HasGoodTags : Forest → Type 0
HasGoodTags none = Unit {0}
HasGoodTags (more name at attributes children rest) = HasGoodTag name attributes × HasGoodTags children × HasGoodTags rest

good_tag : (name : List ℕ) (attributes : List Attribute) → HasProperTag name attributes → HasFewDistinct attributes → HasGoodTag name attributes
good_tag name attributes proper few = record { named = proper.named; few = few.few; distinct = few.distinct; each = proper.each }

good_tags : (f : Forest) → HaveProperTags f → HaveFewDistinct f → HasGoodTags f
good_tags none proper few = tt
good_tags (more name at attributes children rest) proper few = (good_tag name attributes proper.0 few.0, good_tags children proper.1 few.1, good_tags rest proper.2 few.2)

tag_is : (name : List ℕ) (list : List Attribute) → HasGoodTag name list → IsTag (tag_of name list)
tag_is name list h = record { name = h.named; assignments = assignments_are list h.each; gap = refl }

content_is : (f : Forest) → HasGoodTags f → IsContent (content_of f)
content_is none h = refl
content_is (more name at attributes none rest) h = (refl, tag_is name attributes h.0, content_is rest h.2)
content_is (more name at attributes (more n a l c r) rest) h = (refl, tag_is name attributes h.0, content_is (more n a l c r) h.1, record { name = h.0.named; gap = refl }, content_is rest h.2)

tag_is_text : (name : List ℕ) (list : List Attribute) → HasGoodTag name list → tag_text (tag_of name list) ≡ canonical_front name list
tag_is_text name list h = append-nil ((60 ∷ name) ++ flat_map assignment_text (assignments_of list)) ∙ ap (λ l. (60 ∷ name) ++ l) (assignments_text list h.each)

end_form : (name : List ℕ) → (((60 ∷ 47 ∷ []) ++ name) ++ []) ++ (62 ∷ []) ≡ ((60 ∷ 47 ∷ []) ++ name) ++ (62 ∷ [])
end_form name = ap (λ l. l ++ (62 ∷ [])) (append-nil ((60 ∷ 47 ∷ []) ++ name))

full_form : (t i e r : List ℕ) → (((t ++ (62 ∷ [])) ++ i) ++ e) ++ r ≡ (t ++ (((62 ∷ []) ++ i) ++ e)) ++ r
full_form t i e r = simp append_assoc

inner_form : (a e n z : List ℕ) → a ++ ((e ++ n) ++ z) ≡ ((a ++ e) ++ n) ++ z
inner_form a e n z = simp append_assoc

rest_form : (t i n r : List ℕ) → (t ++ (((62 ∷ []) ++ i) ++ (((60 ∷ 47 ∷ []) ++ n) ++ (62 ∷ [])))) ++ r ≡ (t ++ (((((62 ∷ []) ++ i) ++ (60 ∷ 47 ∷ [])) ++ n) ++ (62 ∷ []))) ++ r
rest_form t i n r = ap (λ x. (t ++ x) ++ r) (inner_form ((62 ∷ []) ++ i) (60 ∷ 47 ∷ []) n (62 ∷ []))

content_is_text : (f : Forest) → HasGoodTags f → content_text (content_of f) ≡ canonical_forest f
content_is_text none h = refl
content_is_text (more name at attributes none rest) h =
    ap (λ t. (t ++ (47 ∷ 62 ∷ [])) ++ content_text (content_of rest)) (tag_is_text name attributes h.0) ∙ ap (λ l. (canonical_front name attributes ++ (47 ∷ 62 ∷ [])) ++ l) (content_is_text rest h.2)
content_is_text (more name at attributes (more n a l c r) rest) h =
    let inside = canonical_forest (more n a l c r) in
    let front = canonical_front name attributes in
    ap (λ t. (((t ++ (62 ∷ [])) ++ content_text (content_of (more n a l c r))) ++ end_text (end_of name)) ++ content_text (content_of rest)) (tag_is_text name attributes h.0)
    ∙ ap (λ i. (((front ++ (62 ∷ [])) ++ i) ++ end_text (end_of name)) ++ content_text (content_of rest)) (content_is_text (more n a l c r) h.1)
    ∙ ap (λ e. (((front ++ (62 ∷ [])) ++ inside) ++ e) ++ content_text (content_of rest)) (end_form name)
    ∙ ap (λ x. (((front ++ (62 ∷ [])) ++ inside) ++ (((60 ∷ 47 ∷ []) ++ name) ++ (62 ∷ []))) ++ x) (content_is_text rest h.2)
    ∙ full_form front inside (((60 ∷ 47 ∷ []) ++ name) ++ (62 ∷ [])) (canonical_forest rest)
    ∙ rest_form front inside name (canonical_forest rest)

pub bytes_eq_same : (word : List ℕ) → bytes_eq word word ≡ true
bytes_eq_same word = (bytes_eq-Decides word word).1 refl

tag_good : (depth at : ℕ) (name : List ℕ) (list : List Attribute) → HasGoodTag name list → depth < 5 → tag_faults depth at (tag_of name list) ≡ []
tag_good depth at name list h shallow =
    let e : (depth == 5) ≡ false = ne_eqb depth 5 (λ e. omega arith) in
    rw e (assignments_good (at + 1 + length name) [] list h.each (omega (arith, h.few)) (none_fresh list) h.distinct)

content_good : (depth at : ℕ) (f : Forest) → HasGoodTags f → depth + depth_of f < 6 → content_faults depth at (content_of f) ≡ []
content_good depth at none h shallow = refl
content_good depth at (more name place attributes none rest) h shallow =
    let tag = tag_of name attributes in
    let start = at + 0 in
    ap (λ l. l ++ content_faults depth (start + length (tag_text tag) + 2) (content_of rest)) (tag_good depth start name attributes h.0 (omega arith))
    ∙ content_good depth (start + length (tag_text tag) + 2) rest h.2 (omega arith)
content_good depth at (more name place attributes (more n a l c r) rest) h shallow =
    let tag = tag_of name attributes in
    let inside = content_of (more n a l c r) in
    let start = at + 0 in
    let from = start + length (tag_text tag) + 1 in
    let to = from + length (content_text inside) in
    let behind = to + length name + 0 + 3 in
    let same = bytes_eq_same name in
    ap (λ x. ((x ++ content_faults (depth + 1) from inside) ++ cond (bytes_eq name name) [] ((to + 2, why.EndName) ∷ [])) ++ content_faults depth behind (content_of rest)) (tag_good depth start name attributes h.0 (omega arith))
    ∙ ap (λ x. (x ++ cond (bytes_eq name name) [] ((to + 2, why.EndName) ∷ [])) ++ content_faults depth behind (content_of rest)) (content_good (depth + 1) from (more n a l c r) h.1 (omega arith))
    ∙ ap (λ t. cond t [] ((to + 2, why.EndName) ∷ []) ++ content_faults depth behind (content_of rest)) same
    ∙ content_good depth behind rest h.2 (omega arith)

content_same : (at : ℕ) (f : Forest) → HasGoodTags f → unplaced_forest (forest_in at (content_of f)) ≡ unplaced_forest f
content_same at none h = refl
content_same at (more name place attributes none rest) h =
    let tag = tag_of name attributes in
    let start = at + 0 in
    let behind = start + length (tag_text tag) + 2 in
    ap (λ l. more name 0 l none (unplaced_forest (forest_in behind (content_of rest)))) (attributes_same (start + 1 + length name) attributes h.0.each)
    ∙ ap (λ f. more name 0 (map unplaced_attribute attributes) none f) (content_same behind rest h.2)
content_same at (more name place attributes (more n a l c r) rest) h =
    let tag = tag_of name attributes in
    let inside = content_of (more n a l c r) in
    let start = at + 0 in
    let from = start + length (tag_text tag) + 1 in
    let to = from + length (content_text inside) in
    let behind = to + length name + 0 + 3 in
    ap (λ x. more name 0 x (unplaced_forest (forest_in from inside)) (unplaced_forest (forest_in behind (content_of rest)))) (attributes_same (start + 1 + length name) attributes h.0.each)
    ∙ ap (λ x. more name 0 (map unplaced_attribute attributes) x (unplaced_forest (forest_in behind (content_of rest)))) (content_same from (more n a l c r) h.1)
    ∙ ap (λ x. more name 0 (map unplaced_attribute attributes) (unplaced_forest (more n a l c r)) x) (content_same behind rest h.2)

-- ---- the whole

abbrev root_for : List ℕ → List Attribute → Forest → Root
root_for name list none = lone (tag_of name list)
root_for name list (more n a l c r) = holding (tag_of name list) (content_of (more n a l c r)) (end_of name)

abbrev document_for : Tree → Document
document_for tree = record { declaration = None; gap = []; root = root_for tree.name tree.attributes tree.children }

holding_form : (t i n : List ℕ) → ((t ++ (62 ∷ [])) ++ i) ++ (((60 ∷ 47 ∷ []) ++ n) ++ (62 ∷ [])) ≡ t ++ (((((62 ∷ []) ++ i) ++ (60 ∷ 47 ∷ [])) ++ n) ++ (62 ∷ []))
holding_form t i n = simp append_assoc

root_is : (name : List ℕ) (list : List Attribute) (f : Forest) → HasGoodTag name list → HasGoodTags f → IsRoot (root_for name list f)
root_is name list none h g = tag_is name list h
root_is name list (more n a l c r) h g = (tag_is name list h, content_is (more n a l c r) g, record { name = h.named; gap = refl })

root_is_text : (name : List ℕ) (list : List Attribute) (f : Forest) → HasGoodTag name list → HasGoodTags f → root_text (root_for name list f) ≡ canonical_front name list ++ canonical_rest name f (canonical_forest f)
root_is_text name list none h g = ap (λ t. t ++ (47 ∷ 62 ∷ [])) (tag_is_text name list h)
root_is_text name list (more n a l c r) h g =
    let front = canonical_front name list in
    let inside = canonical_forest (more n a l c r) in
    ap (λ t. ((t ++ (62 ∷ [])) ++ content_text (content_of (more n a l c r))) ++ end_text (end_of name)) (tag_is_text name list h)
    ∙ ap (λ i. ((front ++ (62 ∷ [])) ++ i) ++ end_text (end_of name)) (content_is_text (more n a l c r) g)
    ∙ ap (λ e. ((front ++ (62 ∷ [])) ++ inside) ++ e) (end_form name)
    ∙ holding_form front inside name

root_good : (at : ℕ) (name : List ℕ) (list : List Attribute) (f : Forest) → HasGoodTag name list → HasGoodTags f → depth_of f ≤ 3 → root_faults at (root_for name list f) ≡ []
root_good at name list none h g shallow = tag_good 1 at name list h (omega arith)
root_good at name list (more n a l c r) h g shallow =
    let tag = tag_of name list in
    let inside = content_of (more n a l c r) in
    let from = at + length (tag_text tag) + 1 in
    let to = from + length (content_text inside) in
    ap (λ x. (x ++ content_faults 2 from inside) ++ cond (bytes_eq name name) [] ((to + 2, why.EndName) ∷ [])) (tag_good 1 at name list h (omega arith))
    ∙ ap (λ x. x ++ cond (bytes_eq name name) [] ((to + 2, why.EndName) ∷ [])) (content_good 2 from (more n a l c r) g (omega arith))
    ∙ ap (λ t. cond t [] ((to + 2, why.EndName) ∷ [])) (bytes_eq_same name)

root_same : (at : ℕ) (name : List ℕ) (place : ℕ) (list : List Attribute) (f : Forest) → HasGoodTag name list → HasGoodTags f
    → unplaced (root_tree at (root_for name list f)) ≡ unplaced (record { name = name; at = place; attributes = list; children = f })
root_same at name place list none h g = ap (λ l. record { name = name; at = 0; attributes = l; children = none }) (attributes_same (at + 1 + length name) list h.each)
root_same at name place list (more n a l c r) h g =
    let inside = content_of (more n a l c r) in
    let from = at + length (tag_text (tag_of name list)) + 1 in
    ap (λ x. record { name = name; at = 0; attributes = x; children = unplaced_forest (forest_in from inside) }) (attributes_same (at + 1 + length name) list h.each)
    ∙ ap (λ x. record { name = name; at = 0; attributes = map unplaced_attribute list; children = x }) (content_same from (more n a l c r) g)

pub read_back : (tree : Tree) → IsProper tree → IsWritable tree → (found : Tree) × Spells (canonical tree) found × (unplaced found ≡ unplaced tree)
read_back tree proper writable =
    let d = document_for tree in
    let tag = good_tag tree.name tree.attributes proper.own writable.own in
    let tags = good_tags tree.children proper.below writable.below in (
      element_of d,
      record {
        document = d;
        spelled = record { plain = record { declaration = tt; gap = refl; root = root_is tree.name tree.attributes tree.children tag tags }; text = root_is_text tree.name tree.attributes tree.children tag tags };
        good = root_good 0 tree.name tree.attributes tree.children tag tags writable.depth;
        element = refl;
      },
      root_same 0 tree.name tree.at tree.attributes tree.children tag tags,
    )

abbrev built_of : Outcome → Result Build Fault
built_of o = o.built

abbrev made : Build → Result Build Fault
made b = Ok b

ok_same : {a b : Build} → made a ≡ made b → a ≡ b
ok_same e = cc

pub spelled_once : (bytes : List ℕ) (a b : Tree) → Spells bytes a → Spells bytes b → a ≡ b
spelled_once bytes a b x y = one_tree a b (ok_same (sym (ap built_of (spelled_outcome bytes a x)) ∙ ap built_of (spelled_outcome bytes b y)))

-- the canonical spelling knows no places
front_unplaced : (list : List Attribute) → flat_map canonical_attribute (map unplaced_attribute list) ≡ flat_map canonical_attribute list
front_unplaced [] = refl
front_unplaced (a ∷ list) = ap (λ l. canonical_attribute a ++ l) (front_unplaced list)

rest_unplaced : (name inside : List ℕ) (f : Forest) → canonical_rest name (unplaced_forest f) inside ≡ canonical_rest name f inside
rest_unplaced name inside none = refl
rest_unplaced name inside (more n a l c r) = refl

forest_unplaced : (f : Forest) → canonical_forest (unplaced_forest f) ≡ canonical_forest f
forest_unplaced none = refl
forest_unplaced (more name at attributes children rest) =
    ap (λ x. (((60 ∷ name) ++ x) ++ canonical_rest name (unplaced_forest children) (canonical_forest (unplaced_forest children))) ++ canonical_forest (unplaced_forest rest)) (front_unplaced attributes)
    ∙ ap (λ x. (canonical_front name attributes ++ canonical_rest name (unplaced_forest children) x) ++ canonical_forest (unplaced_forest rest)) (forest_unplaced children)
    ∙ ap (λ x. (canonical_front name attributes ++ x) ++ canonical_forest (unplaced_forest rest)) (rest_unplaced name (canonical_forest children) children)
    ∙ ap (λ x. (canonical_front name attributes ++ canonical_rest name children (canonical_forest children)) ++ x) (forest_unplaced rest)

canonical_unplaced : (tree : Tree) → canonical (unplaced tree) ≡ canonical tree
canonical_unplaced tree =
    ap (λ x. ((60 ∷ tree.name) ++ x) ++ canonical_rest tree.name (unplaced_forest tree.children) (canonical_forest (unplaced_forest tree.children))) (front_unplaced tree.attributes)
    ∙ ap (λ x. canonical_front tree.name tree.attributes ++ canonical_rest tree.name (unplaced_forest tree.children) x) (forest_unplaced tree.children)
    ∙ ap (λ x. canonical_front tree.name tree.attributes ++ x) (rest_unplaced tree.name (canonical_forest tree.children) tree.children)

pub one_spelling : (a b : Tree) → IsProper a → IsWritable a → IsProper b → IsWritable b → (canonical a ≡ canonical b) ↔ (unplaced a ≡ unplaced b)
one_spelling a b proper_a writable_a proper_b writable_b =
    let p = read_back a proper_a writable_a in
    let q = read_back b proper_b writable_b in (
      (λ e. sym p.2 ∙ ap unplaced (spelled_once (canonical b) p.0 q.0 (subst (λ l. Spells l p.0) e p.1) q.1) ∙ q.2),
      (λ e. sym (canonical_unplaced a) ∙ ap canonical e ∙ canonical_unplaced b),
    )
