-- What a document of the plain form says: its element with all places, and every check that fails
-- in it.
use Rattle.std.specs.Prelude.{ℕ, ◌+◌, ◌*◌, ◌-◌, ◌==◌, ◌||◌, ◌&&◌, Bool, false, cond, List, [], ◌∷◌, ◌++◌, Option, Some, None, is_some, length, nat_lt, nat_le}
use Rattle.std.specs.List.{list_any}
use Rattle.std.specs.Char.{encode_utf8}
use Rattle.std.specs.Str.{bytes_eq}
use Rattle.line_base.specs.Text.{is_allowed_char}
use Rattle.hermes_element.specs.Plain.{Escape, named, decimal, hexadecimal, Piece, plain, escaped, piece_text, Assignment, assignment_front, assignment_text, Tag, tag_text, EndTag, Content, last, empty, full, content_text, Root, lone, holding, Document, declaration_text}
use Rattle.hermes_element.specs.Element.{Forest, none, more, Tree}
use Rattle.hermes_element.specs.declared.attribute.Attribute.{Attribute}
use Rattle.hermes_element.specs.declared.refusal.Why.{Why}
use Rattle.hermes_element.specs.declared.refusal.Why.TheVariants as why

-- ---- values

abbrev pub number_of : ℕ → (ℕ → ℕ) → ℕ → List ℕ → ℕ
number_of base digit so_far [] = so_far
number_of base digit so_far (b ∷ bs) = number_of base digit (so_far * base + digit b) bs

abbrev pub digit_of : ℕ → ℕ
digit_of b = cond (nat_le b 57) (b - 48) (cond (nat_le b 70) (b - 55) (b - 87))

-- the character of a number, where it is allowed
abbrev pub allowed : ℕ → Option ℕ
allowed c = cond (is_allowed_char c) (Some c) None

abbrev pub named_char : List ℕ → Option ℕ
named_char name =
    cond (bytes_eq name (97 ∷ 109 ∷ 112 ∷ [])) (Some 38)
    (cond (bytes_eq name (108 ∷ 116 ∷ [])) (Some 60)
    (cond (bytes_eq name (103 ∷ 116 ∷ [])) (Some 62)
    (cond (bytes_eq name (113 ∷ 117 ∷ 111 ∷ 116 ∷ [])) (Some 34)
    (cond (bytes_eq name (97 ∷ 112 ∷ 111 ∷ 115 ∷ [])) (Some 39) None))))

-- the character that an escape stands for, where there is one: `amp`, `lt`, `gt`, `quot`, `apos`,
-- or a number's
abbrev pub character_of : Escape → Option ℕ
character_of (named letters) = named_char letters
character_of (decimal digits) = allowed (number_of 10 digit_of 0 digits)
character_of (hexadecimal digits) = allowed (number_of 16 digit_of 0 digits)

abbrev pub encoded : Option ℕ → List ℕ
encoded None = []
encoded (Some c) = encode_utf8 c

-- a raw tab, LF or CR is read as one space
abbrev pub spaced : ℕ → ℕ
spaced c = cond (c == 9 || c == 10 || c == 13) 32 c

-- the bytes of a value, behind a raw CR or not: a raw LF just behind a raw CR gives nothing, so
-- that CR LF is one space
abbrev pub value_from : Bool → List Piece → List ℕ
value_from after_cr [] = []
value_from after_cr (plain c ∷ rest) =
    cond (after_cr && c == 10) [] (encode_utf8 (spaced c)) ++ value_from (c == 13) rest
value_from after_cr (escaped escape ∷ rest) =
    encoded (character_of escape) ++ value_from false rest

abbrev pub value_of : List Piece → List ℕ
value_of pieces = value_from false pieces

-- ---- checks that fail, each with its place

abbrev pub Fault : Type 0
Fault = ℕ × Why

abbrev pub fault_if : Bool → ℕ → Why → List Fault
fault_if test at reason = cond test ((at, reason) ∷ []) []

-- an escape that stands for no character, at its `&`
abbrev pub reference_faults : ℕ → List Piece → List Fault
reference_faults at [] = []
reference_faults at (plain c ∷ rest) = reference_faults (at + length (piece_text (plain c))) rest
reference_faults at (escaped escape ∷ rest) =
    cond (is_some (character_of escape)) [] ((at, why.Reference) ∷ [])
    ++ reference_faults (at + length (piece_text (escaped escape))) rest

-- and a value whose escapes are all good and that is too long, at its first byte
abbrev pub long_if_good : List Fault → ℕ → List ℕ → List Fault
long_if_good [] at value = fault_if (nat_lt 1024 (length value)) at why.LongValue
long_if_good (fault ∷ faults) at value = fault ∷ faults

abbrev pub value_faults : ℕ → List Piece → List Fault
value_faults at pieces = long_if_good (reference_faults at pieces) at (value_of pieces)

-- a 65th attribute, at its name; a name that stands again in one element, just after it; and the
-- value's own. `names` are those of the attributes before it
abbrev pub assignment_faults : ℕ → List (List ℕ) → Assignment → List Fault
assignment_faults at names a =
    fault_if (length names == 64) (at + length a.gap) why.Many
    ++ fault_if (list_any (bytes_eq a.name) names) (at + length a.gap + length a.name) why.Repeated
    ++ value_faults (at + length (assignment_front a)) a.value

abbrev pub assignments_faults : ℕ → List (List ℕ) → List Assignment → List Fault
assignments_faults at names [] = []
assignments_faults at names (a ∷ rest) =
    assignment_faults at names a ++ assignments_faults (at + length (assignment_text a)) (names
    ++ a.name ∷ []) rest

-- an element at depth 5, at its `<`, and what its attributes fail
abbrev pub tag_faults : ℕ → ℕ → Tag → List Fault
tag_faults depth at tag =
    fault_if (depth == 5) at why.Deep
    ++ assignments_faults (at + 1 + length tag.name) [] tag.assignments

-- an end tag's name that isn't its start tag's, at its first byte
abbrev pub end_faults : ℕ → Tag → EndTag → List Fault
end_faults at tag end = cond (bytes_eq end.name tag.name) [] ((at + 2, why.EndName) ∷ [])

abbrev pub content_faults : ℕ → ℕ → Content → List Fault
content_faults depth at (last gap) = []
content_faults depth at (empty gap tag rest) =
    tag_faults depth (at + length gap) tag
    ++ content_faults depth (at + length gap + length (tag_text tag) + 2) rest
content_faults depth at (full gap tag inside end rest) =
    let from = at + length gap + length (tag_text tag) + 1 in
    let to = from + length (content_text inside) in
    tag_faults depth (at + length gap) tag ++ content_faults (depth + 1) from inside
    ++ end_faults to tag end
    ++ content_faults depth (to + length end.name + length end.gap + 3) rest

abbrev pub root_faults : ℕ → Root → List Fault
root_faults at (lone tag) = tag_faults 1 at tag
root_faults at (holding tag inside end) =
    let from = at + length (tag_text tag) + 1 in
    tag_faults 1 at tag ++ content_faults 2 from inside
    ++ end_faults (from + length (content_text inside)) tag end

-- where the root's `<` stands
abbrev pub root_place : Document → ℕ
root_place d = length (declaration_text d.declaration) + length d.gap

abbrev pub faults_of : Document → List Fault
faults_of d = root_faults (root_place d) d.root

-- ---- the element that a document says

abbrev pub attribute_of : ℕ → Assignment → Attribute
attribute_of at a =
    record { name = a.name; value = value_of a.value; at = at + length (assignment_front a) }

abbrev pub attributes_of : ℕ → List Assignment → List Attribute
attributes_of at [] = []
attributes_of at (a ∷ rest) =
    attribute_of at a ∷ attributes_of (at + length (assignment_text a)) rest

abbrev pub tag_attributes : ℕ → Tag → List Attribute
tag_attributes at tag = attributes_of (at + 1 + length tag.name) tag.assignments

abbrev pub forest_in : ℕ → Content → Forest
forest_in at (last gap) = none
forest_in at (empty gap tag rest) =
    more tag.name (at + length gap) (tag_attributes (at + length gap) tag) none
    (forest_in (at + length gap + length (tag_text tag) + 2) rest)
forest_in at (full gap tag inside end rest) =
    let from = at + length gap + length (tag_text tag) + 1 in
    let to = from + length (content_text inside) in
    more tag.name (at + length gap) (tag_attributes (at + length gap) tag) (forest_in from inside)
    (forest_in (to + length end.name + length end.gap + 3) rest)

abbrev pub root_children : ℕ → Root → Forest
root_children at (lone tag) = none
root_children at (holding tag inside end) = forest_in (at + length (tag_text tag) + 1) inside

abbrev pub root_tag : Root → Tag
root_tag (lone tag) = tag
root_tag (holding tag inside end) = tag

abbrev pub element_of : Document → Tree
element_of d =
    record {
      name = (root_tag d.root).name;
      at = root_place d;
      attributes = tag_attributes (root_place d) (root_tag d.root);
      children =
          root_children (root_place d) d.root;
    }
