-- The plain form of a document, by cases: what a document is made of, its bytes, and what each
-- part may hold.
use Rattle.std.specs.Prelude.{◌≡◌, ℕ, ◌<◌, ◌==◌, ◌||◌, ◌&&◌, not, Bool, true, List, [], ◌∷◌, ◌++◌, Option, Some, None, length, nat_le, nat_lt}
use Rattle.std.specs.List.{list_all, flat_map}
use Rattle.std.specs.Char.{encode_utf8}
use Rattle.line_base.specs.Text.{is_allowed_char}
use Rattle.line_base.specs.Name.{IsName}

-- blanks are space, tab, CR and LF
abbrev pub is_blank : ℕ → Bool
is_blank b = b == 32 || b == 9 || b == 13 || b == 10

abbrev pub AreBlanks : List ℕ → Type 0
AreBlanks bytes = list_all is_blank bytes ≡ true

abbrev pub is_digit : ℕ → Bool
is_digit b = nat_le 48 b && nat_le b 57

abbrev pub is_letter : ℕ → Bool
is_letter b = (nat_le 65 b && nat_le b 90) || (nat_le 97 b && nat_le b 122)

abbrev pub is_hex_digit : ℕ → Bool
is_hex_digit b = is_digit b || (nat_le 65 b && nat_le b 70) || (nat_le 97 b && nat_le b 102)

abbrev pub is_quote : ℕ → Bool
is_quote b = b == 34 || b == 39

-- ---- escapes: `&` letters `;`, `&#` digits `;` and `&#x` hexadecimal digits `;`

pub data Escape : Type 0 where
  named : List ℕ → Escape
  decimal : List ℕ → Escape
  hexadecimal : List ℕ → Escape

abbrev pub escape_text : Escape → List ℕ
escape_text (named letters) = 38 ∷ letters ++ 59 ∷ []
escape_text (decimal digits) = 38 ∷ 35 ∷ digits ++ 59 ∷ []
escape_text (hexadecimal digits) = 38 ∷ 35 ∷ 120 ∷ digits ++ 59 ∷ []

abbrev pub is_some_run : (ℕ → Bool) → List ℕ → Bool
is_some_run test bytes = nat_lt 0 (length bytes) && list_all test bytes

abbrev pub is_escape : Escape → Bool
is_escape (named letters) = is_some_run is_letter letters
is_escape (decimal digits) = is_some_run is_digit digits
is_escape (hexadecimal digits) = is_some_run is_hex_digit digits

-- ---- values: runs of allowed characters other than `<`, `&` and their own quote, and of escapes

pub data Piece : Type 0 where
  plain : ℕ → Piece
  escaped : Escape → Piece

abbrev pub piece_text : Piece → List ℕ
piece_text (plain c) = encode_utf8 c
piece_text (escaped escape) = escape_text escape

abbrev pub is_piece : ℕ → Piece → Bool
is_piece quote (plain c) = is_allowed_char c && not (c == 60) && not (c == 38) && not (c == quote)
is_piece quote (escaped escape) = is_escape escape

abbrev pub value_text : List Piece → List ℕ
value_text pieces = flat_map piece_text pieces

-- ---- attributes: at least one blank, a name, blanks, `=`, blanks, and a quoted value

pub record Assignment : Type 0 where
  pub gap : List ℕ
  pub name : List ℕ
  pub before : List ℕ
  pub after : List ℕ
  pub quote : ℕ
  pub value : List Piece

-- what stands before an attribute's value
abbrev pub assignment_front : Assignment → List ℕ
assignment_front a = a.gap ++ a.name ++ a.before ++ (61 ∷ []) ++ a.after ++ (a.quote ∷ [])

abbrev pub assignment_text : Assignment → List ℕ
assignment_text a = assignment_front a ++ value_text a.value ++ (a.quote ∷ [])

pub record IsAssignment (a : Assignment) : Type 0 where
  pub some : 0 < length a.gap
  pub gap : AreBlanks a.gap
  pub name : IsName a.name
  pub before : AreBlanks a.before
  pub after : AreBlanks a.after
  pub quote : is_quote a.quote ≡ true
  pub value : list_all (is_piece a.quote) a.value ≡ true

abbrev pub AreAssignments : List Assignment → Type 0
AreAssignments [] = Unit {0}
AreAssignments (a ∷ rest) = IsAssignment a × AreAssignments rest

-- ---- tags: `<`, a name, attributes and blanks, up to `>` or `/>`; and `</`, a name, blanks, `>`

pub record Tag : Type 0 where
  pub name : List ℕ
  pub assignments : List Assignment
  pub gap : List ℕ

abbrev pub tag_text : Tag → List ℕ
tag_text tag = (60 ∷ tag.name) ++ flat_map assignment_text tag.assignments ++ tag.gap

pub record IsTag (tag : Tag) : Type 0 where
  pub name : IsName tag.name
  pub assignments : AreAssignments tag.assignments
  pub gap : AreBlanks tag.gap

pub record EndTag : Type 0 where
  pub name : List ℕ
  pub gap : List ℕ

abbrev pub end_text : EndTag → List ℕ
end_text tag = (60 ∷ 47 ∷ []) ++ tag.name ++ tag.gap ++ (62 ∷ [])

pub record IsEndTag (tag : EndTag) : Type 0 where
  pub name : IsName tag.name
  pub gap : AreBlanks tag.gap

-- ---- content: blanks and elements, by its first element

pub data Content : Type 0 where
  last : (gap : List ℕ) → Content
  empty : (gap : List ℕ) → Tag → (rest : Content) → Content
  full : (gap : List ℕ) → Tag → (inside : Content) → EndTag → (rest : Content) → Content

abbrev pub content_text : Content → List ℕ
content_text (last gap) = gap
content_text (empty gap tag rest) = gap ++ (tag_text tag ++ (47 ∷ 62 ∷ [])) ++ content_text rest
content_text (full gap tag inside end rest) =
    gap ++ (tag_text tag ++ (62 ∷ []) ++ content_text inside ++ end_text end) ++ content_text rest

abbrev pub IsContent : Content → Type 0
IsContent (last gap) = AreBlanks gap
IsContent (empty gap tag rest) = AreBlanks gap × IsTag tag × IsContent rest
IsContent (full gap tag inside end rest) =
    AreBlanks gap × IsTag tag × IsContent inside × IsEndTag end × IsContent rest

-- ---- documents: an optional declaration, blanks, one element, and nothing after it

pub data Root : Type 0 where
  lone : Tag → Root
  holding : Tag → Content → EndTag → Root

abbrev pub root_text : Root → List ℕ
root_text (lone tag) = tag_text tag ++ (47 ∷ 62 ∷ [])
root_text (holding tag inside end) =
    tag_text tag ++ (62 ∷ []) ++ content_text inside ++ end_text end

abbrev pub IsRoot : Root → Type 0
IsRoot (lone tag) = IsTag tag
IsRoot (holding tag inside end) = IsTag tag × IsContent inside × IsEndTag end

-- `<?xml`, a blank, ASCII bytes of 0x20 to 0x7E or blanks other than `?` and `<`, and `?>`
pub record Declaration : Type 0 where
  pub blank : ℕ
  pub body : List ℕ

abbrev pub is_declared : ℕ → Bool
is_declared b = (is_blank b || (nat_le 0x20 b && nat_le b 0x7E)) && not (b == 63) && not (b == 60)

abbrev pub declaration_text : Option Declaration → List ℕ
declaration_text None = []
declaration_text (Some d) = (60 ∷ 63 ∷ 120 ∷ 109 ∷ 108 ∷ d.blank ∷ []) ++ d.body ++ (63 ∷ 62 ∷ [])

abbrev pub IsDeclaration : Option Declaration → Type 0
IsDeclaration None = Unit {0}
IsDeclaration (Some d) = (is_blank d.blank ≡ true) × (list_all is_declared d.body ≡ true)

pub record Document : Type 0 where
  pub declaration : Option Declaration
  pub gap : List ℕ
  pub root : Root

abbrev pub document_text : Document → List ℕ
document_text d = declaration_text d.declaration ++ d.gap ++ root_text d.root

pub record IsPlain (d : Document) : Type 0 where
  pub declaration : IsDeclaration d.declaration
  pub gap : AreBlanks d.gap
  pub root : IsRoot d.root

-- the bytes have the plain form
pub record IsSpelledBy (d : Document) (bytes : List ℕ) : Type 0 where
  pub plain : IsPlain d
  pub text : document_text d ≡ bytes

abbrev pub IsDocument : List ℕ → Type 0
IsDocument bytes = (d : Document) × IsSpelledBy d bytes
