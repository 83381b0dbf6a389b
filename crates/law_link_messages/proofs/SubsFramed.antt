-- The sub boards in a message: no end of a message begins in them, and how many bytes they take.
use Rattle.std.proofs.Common.{◌≡◌, ◌<◌, ◌≤◌, ◌+◌, ℕ, Bool, true, false, cond, ◌==◌, List, [], ◌∷◌, ◌++◌, Option, Some, None, option_map, codes, length, refl, sym, ap, subst, ◌∙◌, arith, length-append, decimal, lit≤, append_assoc}
use Rattle.std.specs.List.{flat_map, AllByRecursion}
use Rattle.std.proofs.lemmas.Bool.{ne_eqb}
use Rattle.std.proofs.lemmas.Fmt.{decimal_digit}
use Rattle.std.proofs.lemmas.List.Concat.{flat_map-cons}
use Rattle.line_base.specs.declared.states.Quality.{Quality}
use Rattle.line_base.specs.declared.states.Quality.TheVariants as qualities
use Rattle.board_record.specs.SubBoards.{spelled_byte, spelled_size, barcode_size, sub_size, sub_sizes, size_of}
use Rattle.board_record.specs.declared.sub_board.SubBoard.{SubBoard}
use Rattle.hermes_element.specs.Canonical.{escaped_byte, canonical_attribute, canonical_forest, canonical_front}
use Rattle.hermes_element.proofs.Unescaped.{unescaped}
use Rattle.hermes_stream.proofs.Alone.{IsQuiet, quiet, quiet-none, quiet-append, quiet-no_open}
use Rattle.hermes_horizontal.specs.declared.attr.Attr.TheVariants as attrs
use Rattle.hermes_horizontal.specs.Values.{Value, worded, numbered}
use Rattle.hermes_horizontal.specs.Rows.{sub_columns}
use Rattle.hermes_horizontal.specs.Parts.{of_quality, sub_parts, subbed}
use Rattle.hermes_horizontal.specs.Canonical.{attribute_of, attributes_of, assignment, assignment_if, sub_spelling, sub_children, rest_spelling, AreWritableSubs, IsProperSub}
use Rattle.hermes_horizontal.proofs.Fitting.{fit_sub, proper_sub}
use Rattle.hermes_horizontal.proofs.Plain.{plain_number}
use Rattle.hermes_horizontal.proofs.SubsSpelled.{subs_spelled}
use Rattle.hermes_horizontal.proofs.Writable.{each_proper}
use Rattle.hermes_horizontal.proofs.Writing.{assigned_is}
use Rattle.law_link_messages.proofs.Lengths.{length-attribute}
use Rattle.law_link_messages.proofs.Opens.{free_attributes}

abbrev HaveShortPlaces : List SubBoard → Type 0
HaveShortPlaces subs = AllByRecursion (λ (sub : SubBoard). sub.pos ≤ 999_999_999) subs

-- ---- no end begins in them

sub_quiet : (sub : SubBoard) → sub.pos ≤ 999_999_999 → IsProperSub sub → IsQuiet (sub_spelling sub)
sub_quiet sub place proper =
    let attributes = attributes_of sub_columns (sub_parts sub) in
    let free = free_attributes attributes (each_proper sub_columns (sub_parts sub) (fit_sub sub place) (proper_sub sub proper)) in
    quiet-append (canonical_front (codes "SB") attributes) (codes "/>")
    (quiet-append (codes "<SB") (flat_map canonical_attribute attributes) (quiet (codes "<SB") refl) (quiet-no_open (flat_map canonical_attribute attributes) free.all))
    (quiet (codes "/>") refl)

each_quiet : (subs : List SubBoard) → HaveShortPlaces subs → AllByRecursion IsProperSub subs → IsQuiet (canonical_forest (sub_children subs))
each_quiet [] places proper = quiet-none
each_quiet (sub ∷ subs) places proper =
    quiet-append (sub_spelling sub) (canonical_forest (sub_children subs)) (sub_quiet sub places.0 proper.0) (each_quiet subs places.1 proper.1)

regrouped : (a each b name c : List ℕ) → (((a ++ each) ++ b) ++ name) ++ c ≡ (a ++ each) ++ ((b ++ name) ++ c)
regrouped a each b name c = simp append_assoc

are_some : (sub : SubBoard) (subs : List SubBoard) → (length (sub ∷ subs) == 0) ≡ false
are_some sub subs = ne_eqb (length (sub ∷ subs)) 0 (λ none. omega arith)

-- what follows the attributes of a board's element
pub subs_quiet : (name : List ℕ) (subs : List SubBoard) → AreWritableSubs subs → AllByRecursion IsProperSub subs → IsQuiet ((codes "</SubBoards></" ++ name) ++ codes ">") → IsQuiet (rest_spelling name (subbed subs))
subs_quiet name [] writable proper closing = quiet (codes "/>") refl
subs_quiet name (sub ∷ subs) writable proper closing =
    let each = canonical_forest (sub_children (sub ∷ subs)) in
    subst IsQuiet (sym (regrouped (codes "><SubBoards>") each (codes "</SubBoards></") name (codes ">")) ∙ subs_spelled name [] (sub ∷ subs) (are_some sub subs))
    (quiet-append (codes "><SubBoards>" ++ each) ((codes "</SubBoards></" ++ name) ++ codes ">")
    (quiet-append (codes "><SubBoards>") each (quiet (codes "><SubBoards>") refl) (each_quiet (sub ∷ subs) writable.places proper)) closing)

-- ---- their size is their length

pick : (t : Bool) (x y : List ℕ) (m n : ℕ) → length x ≡ m → length y ≡ n → length (cond t x y) ≡ cond t m n
pick true x y m n e d = e
pick false x y m n e d = d

byte_size : (b : ℕ) → length (escaped_byte b) ≡ spelled_byte b
byte_size b =
    pick (b == 38) (codes "&amp;") _ 5 _ refl (pick (b == 60) (codes "&lt;") _ 4 _ refl (pick (b == 62) (codes "&gt;") _ 4 _ refl (pick (b == 34) (codes "&quot;") _ 6 _ refl
    (pick (b == 10) (codes "&#10;") _ 5 _ refl (pick (b == 13) (codes "&#13;") _ 5 _ refl (pick (b == 9) (codes "&#9;") (b ∷ []) 4 1 refl refl))))))

text_size : (text : List ℕ) → length (flat_map escaped_byte text) ≡ spelled_size text
text_size [] = refl
text_size (b ∷ text) =
    let one = byte_size b in
    let others = text_size text in
    let l = length-append (escaped_byte b) (flat_map escaped_byte text) in
    rw (flat_map-cons escaped_byte b text) (omega (arith, l, one, others))

pos_size : (n : ℕ) → n ≤ 999_999_999 → length (assignment attrs.Pos (numbered n)) ≡ 7 + length (decimal n)
pos_size n short =
    let a = length-attribute (attribute_of attrs.Pos (numbered n)) in
    let plain : length (flat_map escaped_byte (decimal n)) ≡ length (decimal n) = ap (λ (t : List ℕ). length t) (unescaped (decimal n) (plain_number n (omega arith)).all) in
    omega (arith, a, plain)

barcode_bytes : (text : List ℕ) → length (assignment attrs.Bc (worded text)) ≡ 6 + spelled_size text
barcode_bytes text =
    let a = length-attribute (attribute_of attrs.Bc (worded text)) in
    let e = text_size text in
    omega (arith, a, e)

state_bytes : (n : ℕ) → n < 10 → length (assignment attrs.St (numbered n)) ≡ 7
state_bytes n small =
    let a = length-attribute (attribute_of attrs.St (numbered n)) in
    let plain : length (flat_map escaped_byte (decimal n)) ≡ length (decimal n) = ap (λ (t : List ℕ). length t) (unescaped (decimal n) (plain_number n (omega arith)).all) in
    let one : length (decimal n) ≡ 1 = ap (λ (t : List ℕ). length t) (decimal_digit n small) in
    omega (arith, a, plain, one)

state_size : (q : Quality) → length (assignment attrs.St (of_quality q)) ≡ 7
state_size qualities.Unknown = state_bytes 0 (omega arith)
state_size qualities.Good = state_bytes 1 (omega arith)
state_size qualities.Failed = state_bytes 2 (omega arith)

bc_size : (o : Option (List ℕ)) → length (assignment_if attrs.Bc (option_map worded o)) ≡ barcode_size o
bc_size None = refl
bc_size (Some text) = barcode_bytes text

sub_length : (sub : SubBoard) → sub.pos ≤ 999_999_999 → length (sub_spelling sub) ≡ sub_size sub
sub_length sub place =
    let pos = assignment attrs.Pos (numbered sub.pos) in
    let barcode = assignment_if attrs.Bc (option_map worded sub.barcode) in
    let state = assignment attrs.St (of_quality sub.state) in
    let all = flat_map canonical_attribute (attributes_of sub_columns (sub_parts sub)) in
    let bytes : all ≡ (pos ++ barcode) ++ state = sym (assigned_is [] sub_columns (sub_parts sub)) in
    let same : length all ≡ length ((pos ++ barcode) ++ state) = ap (λ (l : List ℕ). length l) bytes in
    let k = length-append (pos ++ barcode) state in
    let l = length-append pos barcode in
    let m = length-append (codes "<SB") all in
    let n = length-append (codes "<SB" ++ all) (codes "/>") in
    omega (arith, same, k, l, m, n, pos_size sub.pos place, bc_size sub.barcode, state_size sub.state)

each_length : (subs : List SubBoard) → HaveShortPlaces subs → length (canonical_forest (sub_children subs)) ≡ sub_sizes subs
each_length [] places = refl
each_length (sub ∷ subs) places =
    let one = sub_length sub places.0 in
    let others = each_length subs places.1 in
    let l = length-append (sub_spelling sub) (canonical_forest (sub_children subs)) in
    omega (arith, one, others, l)

-- beside the size stand the ends of two tags and a name
pub subs_length : (name : List ℕ) (subs : List SubBoard) → HaveShortPlaces subs → length (rest_spelling name (subbed subs)) ≤ size_of subs + length name + 4
subs_length name [] places = omega arith
subs_length name (sub ∷ subs) places =
    let each = canonical_forest (sub_children (sub ∷ subs)) in
    let many = each_length (sub ∷ subs) places in
    let same : length (rest_spelling name (subbed (sub ∷ subs))) ≡ length ((((codes "><SubBoards>" ++ each) ++ codes "</SubBoards></") ++ name) ++ codes ">") = ap (λ (l : List ℕ). length l) (sym (subs_spelled name [] (sub ∷ subs) (are_some sub subs))) in
    let k = length-append (codes "><SubBoards>") each in
    let l = length-append (codes "><SubBoards>" ++ each) (codes "</SubBoards></") in
    let m = length-append ((codes "><SubBoards>" ++ each) ++ codes "</SubBoards></") name in
    let n = length-append (((codes "><SubBoards>" ++ each) ++ codes "</SubBoards></") ++ name) (codes ">") in
    omega (arith, many, same, k, l, m, n)
