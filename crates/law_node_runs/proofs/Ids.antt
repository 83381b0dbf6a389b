-- An id that is read has 128 bits, and so have those of a message that a frame spells; its name is one.
use Rattle.std.proofs.Common.{◌≡◌, ◌∙◌, ◌⊎◌, inl, inr, ◌<◌, ◌^◌, ◌+◌, ◌*◌, ◌==◌, ◌&&◌, ℕ, zero, suc, Bool, true, false, List, [], ◌∷◌, Option, Some, None, Result, Ok, Err, if◌then◌else◌, drop, length, take, refl, ap, subst, arith}
use Rattle.std.specs.Prelude.{slice_index}
use Rattle.std.specs.Int.{from_be_bytes, w128}
use Rattle.std.specs.List.{list_all}
use Rattle.std.proofs.lemmas.Bool.{and_parts}
use Rattle.std.proofs.lemmas.Bool.Decides.{nat_tests}
use Rattle.uuid.specs.Text.{by_index, byte_of_digits, close_brace, digits_of, has_hyphens, has_urn_prefix, is_hex_digit, open_brace, parsed, parsed_braced, parsed_hyphenated, parsed_simple, parsed_urn, value_of}
use Rattle.line_base.specs.Name.{IsName}
use Rattle.board_record.specs.BoardId.{id_of_bytes, read_id}
use Rattle.board_record.specs.declared.id.BadId.{BadId}
use Rattle.hermes_element.specs.Checks.{forest_in, root_children, root_place}
use Rattle.hermes_element.specs.Element.{Tree, trees_of}
use Rattle.hermes_element.specs.Plain.{Content, IsContent, IsRoot, Root, empty, full, holding, last, lone}
use Rattle.hermes_element.specs.Spelling as form
use Rattle.hermes_element.specs.declared.attribute.Attribute.{Attribute}
use Rattle.hermes_horizontal.specs.Attrs.{attr_text}
use Rattle.hermes_horizontal.specs.Parts.{name_of}
use Rattle.hermes_horizontal.specs.Rows.{required}
use Rattle.hermes_horizontal.specs.Said.{first_named, mapped_ok, then_ok, value_at, value_or_bad}
use Rattle.hermes_horizontal.specs.Spelling.{SaysBody, Spells}
use Rattle.hermes_horizontal.specs.Values.{Value, identified, identity, value_in}
use Rattle.hermes_horizontal.specs.declared.attr.Attr.TheVariants as attrs
use Rattle.hermes_horizontal.specs.declared.fault.Refusal.{Refusal}
use Rattle.hermes_horizontal.specs.declared.message.Horizontal.{Horizontal}
use Rattle.hermes_horizontal.specs.declared.message.Horizontal.TheVariants as bodies
use Rattle.hermes_horizontal.specs.declared.message.Message.{Message}

abbrev pub IsSmall : ℕ → Type 0
IsSmall id = id < 2 ^ 128

-- ---- what is read

digit_small : (c : ℕ) → is_hex_digit c ≡ true → value_of c < 16
digit_small c is = grind (arith, nat_tests)

-- beyond the digits stands a 0
place_small : (hex : List ℕ) (k : ℕ) → list_all is_hex_digit hex ≡ true → value_of (slice_index hex k) < 16
place_small [] k is = omega arith
place_small (c ∷ hex) zero is = digit_small c (and_parts (is_hex_digit c) (list_all is_hex_digit hex) is).0
place_small (c ∷ hex) (suc k) is = place_small hex k (and_parts (is_hex_digit c) (list_all is_hex_digit hex) is).1

byte_small : (hex : List ℕ) (j : ℕ) → list_all is_hex_digit hex ≡ true → byte_of_digits hex j < 256
byte_small hex j is = omega (arith, place_small hex (2 * j) is, place_small hex (2 * j + 1) is)

number_small : (p : ℕ → ℕ) → ((j : ℕ) → p j < 256) → IsSmall (from_be_bytes w128 (by_index 16 p))
unfolding by_index
number_small p small =
    omega (arith, small 0, small 1, small 2, small 3, small 4, small 5, small 6, small 7, small 8, small 9, small 10, small 11, small 12, small 13, small 14, small 15)

-- the bytes that are read are those of digits
record AreOfDigits (bytes : List ℕ) : Type 0 where
  hex : List ℕ
  digits : list_all is_hex_digit hex ≡ true
  are : by_index 16 (byte_of_digits hex) ≡ bytes

simple_by : (hex bytes : List ℕ) (wide all : Bool) → list_all is_hex_digit hex ≡ all → (if wide && all then Some (by_index 16 (byte_of_digits hex)) else None) ≡ Some bytes → AreOfDigits bytes
simple_by hex bytes true true is found = record { hex = hex; digits = is; are = cc }
simple_by hex bytes true false is found = absurd cc
simple_by hex bytes false all is found = absurd cc

simple_digits : (hex bytes : List ℕ) → parsed_simple hex ≡ Some bytes → AreOfDigits bytes
simple_digits hex bytes found = simple_by hex bytes (length hex == 32) (list_all is_hex_digit hex) refl found

only_if : (test : Bool) (found : Option (List ℕ)) (bytes : List ℕ) → (if test then found else None) ≡ Some bytes → found ≡ Some bytes
only_if true found bytes is = is
only_if false found bytes is = absurd cc

either_of : (test : Bool) (one other : Option (List ℕ)) (bytes : List ℕ) → (if test then one else other) ≡ Some bytes → (one ≡ Some bytes) ⊎ (other ≡ Some bytes)
either_of true one other bytes is = inl is
either_of false one other bytes is = inr is

hyphenated_digits : (s bytes : List ℕ) → parsed_hyphenated s ≡ Some bytes → AreOfDigits bytes
hyphenated_digits s bytes found = simple_digits (digits_of s) bytes (only_if ((length s == 36) && has_hyphens s) (parsed_simple (digits_of s)) bytes found)

braced_digits : (s bytes : List ℕ) → parsed_braced s ≡ Some bytes → AreOfDigits bytes
braced_digits s bytes found =
    hyphenated_digits (take 36 (drop 1 s)) bytes (only_if ((length s == 38) && (slice_index s 0 == open_brace) && (slice_index s 37 == close_brace)) (parsed_hyphenated (take 36 (drop 1 s))) bytes found)

urn_digits : (s bytes : List ℕ) → parsed_urn s ≡ Some bytes → AreOfDigits bytes
urn_digits s bytes found = hyphenated_digits (drop 9 s) bytes (only_if ((length s == 45) && has_urn_prefix s) (parsed_hyphenated (drop 9 s)) bytes found)

-- what is left when a length was passed over
abbrev behind_38 : List ℕ → Option (List ℕ)
behind_38 s = if length s == 45 then parsed_urn s else None

abbrev behind_36 : List ℕ → Option (List ℕ)
behind_36 s = if length s == 38 then parsed_braced s else behind_38 s

abbrev behind_32 : List ℕ → Option (List ℕ)
behind_32 s = if length s == 36 then parsed_hyphenated s else behind_36 s

parsed_digits : (s bytes : List ℕ) → parsed s ≡ Some bytes → AreOfDigits bytes
parsed_digits s bytes found = elim (either_of (length s == 32) (parsed_simple s) (behind_32 s) bytes found) [
  | inl one ↦ simple_digits s bytes one
  | inr other ↦ elim (either_of (length s == 36) (parsed_hyphenated s) (behind_36 s) bytes other) [
    | inl two ↦ hyphenated_digits s bytes two
    | inr rest ↦ elim (either_of (length s == 38) (parsed_braced s) (behind_38 s) bytes rest) [
      | inl three ↦ braced_digits s bytes three
      | inr left ↦ urn_digits s bytes (only_if (length s == 45) (parsed_urn s) bytes left)
    ]
  ]
]

digits_small : (bytes : List ℕ) → AreOfDigits bytes → IsSmall (from_be_bytes w128 bytes)
digits_small bytes are =
    let P : List ℕ → Type 0 = λ bs. IsSmall (from_be_bytes w128 bs) in
    subst P are.are (number_small (byte_of_digits are.hex) (λ j. byte_small are.hex j are.digits))

read_by : (s : List ℕ) (found : Option (List ℕ)) (id : ℕ) → parsed s ≡ found → id_of_bytes found ≡ Ok id → IsSmall id
read_by s None id is ok = absurd cc
read_by s (Some bytes) id is ok =
    let same : from_be_bytes w128 bytes ≡ id = cc in
    subst IsSmall same (digits_small bytes (parsed_digits s bytes is))

pub read_small : (s : List ℕ) (id : ℕ) → read_id s ≡ Ok id → IsSmall id
read_small s id ok = read_by s (parsed s) id refl ok

-- ---- the ids of a message

-- the first column of a row is an id
id_value : (s : List ℕ) (read : Result ℕ BadId) (at : ℕ) (others : Result (List (Option Value)) Refusal) (id : ℕ) (rest : List (Option Value)) → read_id s ≡ read
    → then_ok (value_or_bad at attrs.BoardId (value_in identified read)) (λ value. mapped_ok (λ values. value ∷ values) others) ≡ Ok (Some (identified id) ∷ rest) → IsSmall id
id_value s (Err bad) at others id rest is said = absurd cc
id_value s (Ok n) at (Err refusal) id rest is said = absurd cc
id_value s (Ok n) at (Ok values) id rest is said =
    let same : n ≡ id = cc in subst IsSmall same (read_small s n is)

id_column : (at : ℕ) (found : Option Attribute) (others : Result (List (Option Value)) Refusal) (id : ℕ) (rest : List (Option Value))
    → then_ok (value_at at (required attrs.BoardId identity) found) (λ value. mapped_ok (λ values. value ∷ values) others) ≡ Ok (Some (identified id) ∷ rest) → IsSmall id
id_column at None others id rest said = absurd cc
id_column at (Some attribute) others id rest said = id_value attribute.value (read_id attribute.value) attribute.at others id rest refl said

-- what is heard of a message: the ids that a machine may come to hold
abbrev pub IsSmallHeard : Horizontal → Type 0
IsSmallHeard (bodies.BoardAvailable board) = IsSmall board.id
IsSmallHeard (bodies.StartTransport id) = IsSmall id
IsSmallHeard body = Unit {0}

heard_small : (child : Tree) (body : Horizontal) → SaysBody child body → IsSmallHeard body
heard_small child (bodies.BoardAvailable board) says =
    id_column child.at (first_named (attr_text attrs.BoardId) child.attributes) _ board.id _ says.values
heard_small child (bodies.StartTransport id) says =
    id_column child.at (first_named (attr_text attrs.BoardId) child.attributes) (Ok []) id [] says.values
heard_small child body says = tt

-- ---- the name of a message

abbrev first_name : List Tree → List ℕ
first_name [] = []
first_name (tree ∷ trees) = tree.name

named_in : (at : ℕ) (inside : Content) (child : Tree) → IsContent inside → trees_of (forest_in at inside) ≡ child ∷ [] → IsName child.name
named_in at (last gap) child is only = absurd cc
named_in at (empty gap tag rest) child is only = subst IsName (ap first_name only) is.1.name
named_in at (full gap tag inside end rest) child is only = subst IsName (ap first_name only) is.1.name

named_by : (at : ℕ) (root : Root) (child : Tree) → IsRoot root → trees_of (root_children at root) ≡ child ∷ [] → IsName child.name
named_by at (lone tag) child is only = absurd cc
named_by at (holding tag inside end) child is only = named_in _ inside child is.1 only

child_named : (bytes : List ℕ) (tree child : Tree) → form.Spells bytes tree → trees_of tree.children ≡ child ∷ [] → IsName child.name
child_named bytes tree child spells only =
    named_by (root_place spells.document) spells.document.root child spells.spelled.plain.root
    (ap (λ (t : Tree). trees_of t.children) spells.element ∙ only)

-- ---- both

pub record IsSmallMessage (body : Horizontal) : Type 0 where
  pub ids : IsSmallHeard body
  pub name : IsName (name_of body)

pub spelled_small : (frame : List ℕ) (message : Message) → Spells frame message → IsSmallMessage message.body
spelled_small frame message spells = record {
  ids = heard_small spells.says.child message.body spells.says.body;
  name = subst IsName spells.says.body.name (child_named frame spells.tree spells.says.child spells.element spells.says.only);
}
