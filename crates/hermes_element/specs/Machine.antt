-- Reading from the left, byte by byte: where the bytes stand in the plain form, and what they have
-- said so far.
use Rattle.std.specs.Prelude.{ℕ, ◌+◌, ◌-◌, ◌*◌, ◌==◌, ◌||◌, ◌&&◌, not, Bool, true, false, cond, List, [], ◌∷◌, ◌++◌, Option, Some, None, Result, Ok, Err, length, nat_lt, nat_le, map, max}
use Rattle.std.specs.List.{list_any}
use Rattle.std.specs.Char.{encode_utf8}
use Rattle.std.specs.Str.{bytes_eq}
use Rattle.line_base.specs.Text.{is_allowed_char}
use Rattle.line_base.specs.Name.{is_name_start, is_name_byte}
use Rattle.hermes_element.specs.Plain.{is_blank, is_digit, is_letter, is_hex_digit, is_quote, is_declared, Escape, named, decimal, hexadecimal}
use Rattle.hermes_element.specs.Checks.{Fault, character_of}
use Rattle.hermes_element.specs.Element.{Forest, none, Tree, add}
use Rattle.hermes_element.specs.declared.attribute.Attribute.{Attribute}
use Rattle.hermes_element.specs.declared.refusal.Why.TheVariants as why
use Rattle.hermes_element.specs.declared.place.Place.{Place}
use Rattle.hermes_element.specs.declared.place.Place.TheVariants as at

-- ---- pass 1: from a place, with so many elements open, over a byte

-- a place, and how many elements are open
abbrev pub Stand : Type 0
Stand = Place × ℕ

-- behind an element whose ancestors are `depth`
abbrev pub after_element : ℕ → Place
after_element depth = cond (depth == 0) at.End at.Content

-- how many characters share their bits where `left` bytes of a character are to come
abbrev pub share : ℕ → ℕ
share left = cond (left == 0) 1 (cond (left == 1) 64 (cond (left == 2) 4096 262144))

-- The least number of at least `floor` with these bits in front, and whether it is an allowed
-- character that has them: if any allowed character has, then this one.
abbrev pub least_wide : ℕ → ℕ → ℕ → ℕ
least_wide floor bits left = max floor (bits * share left)

abbrev pub is_wide_begun : ℕ → ℕ → ℕ → Bool
is_wide_begun floor bits left =
    is_allowed_char (least_wide floor bits left)
    && nat_lt (least_wide floor bits left) ((bits + 1) * share left)

-- behind one more byte of a character
abbrev pub wide : ℕ → ℕ → ℕ → ℕ → Option Place
wide quote floor bits left =
    cond (is_wide_begun floor bits left)
    (Some (cond (left == 0) (at.Value quote) (at.Wide quote floor bits left))) None

-- the first byte of a character of several bytes
abbrev pub wide_start : ℕ → ℕ → Option Place
wide_start quote b =
    cond (nat_lt b 192) None
    (cond (nat_lt b 224) (wide quote 128 (b - 192) 1)
    (cond (nat_lt b 240) (wide quote 2048 (b - 224) 2) (wide quote 65536 (b - 240) 3)))

-- a later one
abbrev pub wide_next : ℕ → ℕ → ℕ → ℕ → ℕ → Option Place
wide_next quote floor bits left b =
    cond (nat_le 128 b && nat_lt b 192 && nat_lt bits 131072)
    (wide quote floor (bits * 64 + (b - 128)) (left - 1)) None

-- a byte that stands for itself in a value
abbrev pub is_plain : ℕ → ℕ → Bool
is_plain quote b =
    nat_le 32 b && nat_le b 127 && not (b == quote) && not (b == 38) && not (b == 60)

-- a byte of a value
abbrev pub step_value : ℕ → ℕ → Option Place
step_value quote b =
    cond (b == quote) (Some at.Quoted)
    (cond (b == 38) (Some (at.Ampersand quote)) (cond (b == 60) None
    (cond (nat_lt b 128) (cond (is_allowed_char b) (Some (at.Value quote)) None)
    (wide_start quote b))))

-- a byte of an escape
abbrev pub only_if : Bool → Place → Option Place
only_if test place = cond test (Some place) None

abbrev pub step_escape : Place → ℕ → Option Place
step_escape (at.Ampersand quote) b =
    cond (b == 35) (Some (at.Hash quote)) (only_if (is_letter b) (at.Letters quote))
step_escape (at.Letters quote) b =
    cond (b == 59) (Some (at.Value quote)) (only_if (is_letter b) (at.Letters quote))
step_escape (at.Hash quote) b =
    cond (b == 120) (Some (at.HexStart quote)) (only_if (is_digit b) (at.Digits quote))
step_escape (at.Digits quote) b =
    cond (b == 59) (Some (at.Value quote)) (only_if (is_digit b) (at.Digits quote))
step_escape (at.HexStart quote) b = only_if (is_hex_digit b) (at.HexDigits quote)
step_escape (at.HexDigits quote) b =
    cond (b == 59) (Some (at.Value quote)) (only_if (is_hex_digit b) (at.HexDigits quote))
step_escape _ b = None

-- in a tag, where a name has ended
abbrev pub step_tag : ℕ → ℕ → Option Stand
step_tag depth b =
    cond (is_blank b) (Some (at.Gap, depth))
    (cond (b == 47) (Some (at.Slash, depth))
    (cond (b == 62) (Some (at.Content, depth + 1)) None))

abbrev pub step_equals : ℕ → ℕ → Option Stand
step_equals depth b =
    cond (is_blank b) (Some (at.Equals, depth)) (cond (b == 61) (Some (at.Before, depth)) None)

abbrev pub step_end : ℕ → ℕ → Option Stand
step_end depth b =
    cond (is_blank b) (Some (at.EndGap, depth))
    (cond (b == 62) (Some (after_element (depth - 1), depth - 1)) None)

-- the place alone changes
abbrev pub with_open : ℕ → Option Place → Option Stand
with_open depth None = None
with_open depth (Some place) = Some (place, depth)

abbrev pub to_if : Bool → Place → ℕ → Option Stand
to_if test place depth = cond test (Some (place, depth)) None

abbrev pub step : Place → ℕ → ℕ → Option Stand
step at.Start depth b =
    cond (is_blank b) (Some (at.Prolog, depth)) (to_if (b == 60) at.First depth)
step at.First depth b =
    cond (b == 63) (Some (at.Question, depth)) (to_if (is_name_start b) at.Name depth)
step at.Question depth b = to_if (b == 120) at.DeclarationX depth
step at.DeclarationX depth b = to_if (b == 109) at.DeclarationM depth
step at.DeclarationM depth b = to_if (b == 108) at.DeclarationL depth
step at.DeclarationL depth b = to_if (is_blank b) at.Declaration depth
step at.Declaration depth b =
    cond (b == 63) (Some (at.DeclarationEnd, depth)) (to_if (is_declared b) at.Declaration depth)
step at.DeclarationEnd depth b = to_if (b == 62) at.Prolog depth
step at.Prolog depth b =
    cond (is_blank b) (Some (at.Prolog, depth)) (to_if (b == 60) at.Open depth)
step at.Open depth b =
    cond (b == 47) (to_if (nat_lt 0 depth) at.Close depth) (to_if (is_name_start b) at.Name depth)
step at.Name depth b = cond (is_name_byte b) (Some (at.Name, depth)) (step_tag depth b)
step at.Gap depth b = cond (is_name_start b) (Some (at.Key, depth)) (step_tag depth b)
step at.Key depth b = cond (is_name_byte b) (Some (at.Key, depth)) (step_equals depth b)
step at.Equals depth b = step_equals depth b
step at.Before depth b =
    cond (is_blank b) (Some (at.Before, depth)) (to_if (is_quote b) (at.Value b) depth)
step (at.Value quote) depth b = with_open depth (step_value quote b)
step (at.Wide quote floor bits left) depth b = with_open depth (wide_next quote floor bits left b)
step (at.Ampersand quote) depth b = with_open depth (step_escape (at.Ampersand quote) b)
step (at.Letters quote) depth b = with_open depth (step_escape (at.Letters quote) b)
step (at.Hash quote) depth b = with_open depth (step_escape (at.Hash quote) b)
step (at.Digits quote) depth b = with_open depth (step_escape (at.Digits quote) b)
step (at.HexStart quote) depth b = with_open depth (step_escape (at.HexStart quote) b)
step (at.HexDigits quote) depth b = with_open depth (step_escape (at.HexDigits quote) b)
step at.Quoted depth b = step_tag depth b
step at.Slash depth b = to_if (b == 62) (after_element depth) depth
step at.Content depth b =
    cond (is_blank b) (Some (at.Content, depth)) (to_if (b == 60) at.Open depth)
step at.Close depth b = to_if (is_name_start b) at.EndName depth
step at.EndName depth b = cond (is_name_byte b) (Some (at.EndName, depth)) (step_end depth b)
step at.EndGap depth b = step_end depth b
step at.End depth b = None

abbrev pub is_end : Place → Bool
is_end at.End = true
is_end _ = false

-- ---- pass 2: what the bytes have said so far

-- what is known of the tag, the attribute, the value and the escape that the bytes end in
pub record Scratch : Type 0 where
  pub key : List ℕ
  pub value : List ℕ
  pub start : ℕ
  pub after_cr : Bool
  pub word : List ℕ
  pub mark : ℕ

-- the elements that ended outside of all others, those that are open, outermost first, the start
-- tag that is being read, and the rest
pub record Build : Type 0 where
  pub roots : Forest
  pub stack : List Tree
  pub tag : Tree
  pub scratch : Scratch

abbrev pub no_scratch : Scratch
no_scratch = record { key = []; value = []; start = 0; after_cr = false; word = []; mark = 0 }

abbrev pub no_tag : Tree
no_tag = record { name = []; at = 0; attributes = []; children = none }

-- between two tags; and between two parts of a start tag
abbrev pub between : Forest → List Tree → Build
between roots stack = record { roots = roots; stack = stack; tag = no_tag; scratch = no_scratch }

abbrev pub in_tag : Forest → List Tree → Tree → Build
in_tag roots stack tag = record { roots = roots; stack = stack; tag = tag; scratch = no_scratch }

-- an element has ended: it is the next child of the innermost open one, or stands outside of all
abbrev pub add_last : List Tree → Tree → List Tree
add_last [] tree = []
add_last (parent ∷ []) tree = record parent { children = add parent.children tree } ∷ []
add_last (parent ∷ next ∷ rest) tree = parent ∷ add_last (next ∷ rest) tree

abbrev pub is_none : List Tree → Bool
is_none [] = true
is_none (_ ∷ _) = false

abbrev pub ended : Forest → List Tree → Tree → Build
ended roots stack tree =
    between (cond (is_none stack) (add roots tree) roots) (add_last stack tree)

-- the innermost open element, and the others
abbrev pub innermost : List Tree → Tree
innermost [] = no_tag
innermost (tree ∷ []) = tree
innermost (tree ∷ next ∷ rest) = innermost (next ∷ rest)

abbrev pub outer : List Tree → List Tree
outer [] = []
outer (tree ∷ []) = []
outer (tree ∷ next ∷ rest) = tree ∷ outer (next ∷ rest)

abbrev pub names_of : List Attribute → List (List ℕ)
names_of attributes = map (λ a. a.name) attributes

abbrev pub check : Bool → Fault → Build → Result Build Fault
check fails fault b = cond fails (Err fault) (Ok b)

-- a tag begins, with the first byte of its name; goes on; ends
abbrev pub begin_tag : ℕ → ℕ → Build → Result Build Fault
begin_tag place b c =
    check (length c.stack == 4) (
      place - 1,
      why.Deep,
    )
    (record c {
      tag = record {
        name = b ∷ [];
        at = place - 1;
        attributes = [];
        children = none;
      };
    })

abbrev pub act_tag : ℕ → Build → Result Build Fault
act_tag b c = Ok (cond (b == 62) (between c.roots (c.stack ++ c.tag ∷ [])) c)

-- an attribute
abbrev pub begin_key : ℕ → ℕ → Build → Result Build Fault
begin_key place b c =
    check (length c.tag.attributes == 64) (
      place,
      why.Many,
    ) (record c { scratch = record c.scratch { key = b ∷ [] } })

abbrev pub end_key : ℕ → Build → Result Build Fault
end_key place c =
    check (list_any (bytes_eq c.scratch.key) (names_of c.tag.attributes)) (place, why.Repeated) c

abbrev pub begin_value : ℕ → Build → Build
begin_value place c =
    record c { scratch = record c.scratch { value = []; start = place + 1; after_cr = false } }

abbrev pub with_attribute : Tree → List ℕ → List ℕ → ℕ → Tree
with_attribute tag name value at =
    record tag {
      attributes = tag.attributes
          ++ record { name = name; value = value; at = at } ∷ [];
    }

abbrev pub end_value : Build → Result Build Fault
end_value c =
    check (nat_lt 1024 (length c.scratch.value)) (c.scratch.start, why.LongValue)
    (in_tag c.roots c.stack (with_attribute c.tag c.scratch.key c.scratch.value c.scratch.start))

-- a value
abbrev pub with_value : List ℕ → Bool → Build → Build
with_value bytes after_cr c =
    record c {
      scratch = record c.scratch {
        value = c.scratch.value ++ bytes;
        after_cr = after_cr;
      };
    }

abbrev pub act_char : ℕ → Build → Build
act_char b c =
    with_value
    (cond (c.scratch.after_cr && b == 10) [] (cond (b == 9 || b == 10 || b == 13) 32 b ∷ []))
    (b == 13) c

abbrev pub act_value : ℕ → ℕ → ℕ → Build → Result Build Fault
act_value quote place b c =
    cond (b == quote) (end_value c)
    (Ok (cond (b == 38)
    (record c { scratch = record c.scratch { mark = place; word = []; after_cr = false } })
    (act_char b c)))

abbrev pub with_word : ℕ → Build → Build
with_word b c = record c { scratch = record c.scratch { word = c.scratch.word ++ b ∷ [] } }

abbrev pub refer : ℕ → Option ℕ → Build → Result Build Fault
refer mark None c = Err (mark, why.Reference)
refer mark (Some char) c =
    Ok (record c {
      scratch = record c.scratch {
        value = c.scratch.value ++ encode_utf8 char;
        after_cr = false;
        word = [];
        mark = 0;
      };
    })

-- a byte of an escape, or its `;`
abbrev pub act_escape : (List ℕ → Escape) → ℕ → Build → Result Build Fault
act_escape form b c =
    cond (b == 59) (refer c.scratch.mark (character_of (form c.scratch.word)) c)
    (Ok (with_word b c))

-- an end tag
abbrev pub begin_end : ℕ → ℕ → Build → Build
begin_end place b c = record c { scratch = record c.scratch { word = b ∷ []; start = place } }

abbrev pub close : Build → Build
close c = ended c.roots (outer c.stack) (innermost c.stack)

abbrev pub act_end : ℕ → Build → Build
act_end b c = cond (b == 62) (close c) c

abbrev pub end_name : ℕ → Build → Result Build Fault
end_name b c =
    check (not (bytes_eq c.scratch.word (innermost c.stack).name)) (
      c.scratch.start,
      why.EndName,
    ) (act_end b (between c.roots c.stack))

-- what the byte at `place` adds
abbrev pub act : Place → ℕ → ℕ → Build → Result Build Fault
act at.First place b c = cond (b == 63) (Ok c) (begin_tag place b c)
act at.Open place b c = cond (b == 47) (Ok c) (begin_tag place b c)
act at.Name place b c =
    cond (is_name_byte b) (Ok (record c { tag = record c.tag { name = c.tag.name ++ b ∷ [] } }))
    (act_tag b c)
act at.Gap place b c = cond (is_name_start b) (begin_key place b c) (act_tag b c)
act at.Key place b c =
    cond (is_name_byte b)
    (Ok (record c { scratch = record c.scratch { key = c.scratch.key ++ b ∷ [] } }))
    (end_key place c)
act at.Before place b c = Ok (cond (is_blank b) c (begin_value place c))
act (at.Value quote) place b c = act_value quote place b c
act (at.Wide quote floor bits left) place b c = Ok (with_value (b ∷ []) false c)
act (at.Letters quote) place b c = act_escape named b c
act (at.Digits quote) place b c = act_escape decimal b c
act (at.HexDigits quote) place b c = act_escape hexadecimal b c
act (at.Ampersand quote) place b c = Ok (cond (b == 35) c (with_word b c))
act (at.Hash quote) place b c = Ok (cond (b == 120) c (with_word b c))
act (at.HexStart quote) place b c = Ok (with_word b c)
act at.Quoted place b c = act_tag b c
act at.Slash place b c = Ok (ended c.roots c.stack c.tag)
act at.Close place b c = Ok (begin_end place b c)
act at.EndName place b c = cond (is_name_byte b) (Ok (with_word b c)) (end_name b c)
act at.EndGap place b c = Ok (act_end b c)
act _ place b c = Ok c

-- ---- both passes over the rest of the bytes, the first of them at `place`

-- where the bytes leave the plain form, if they do, and what they have said until there
pub record Outcome : Type 0 where
  pub stop : Option ℕ
  pub built : Result Build Fault

infixl 10 ◌>>=◌
abbrev pub ◌>>=◌ : Result Build Fault → (Build → Result Build Fault) → Result Build Fault
(Ok c) >>= f = f c
(Err fault) >>= f = Err fault

abbrev pub moved : Option Stand → Outcome → (Place → ℕ → Outcome) → Outcome
moved None stopped go = stopped
moved (Some to) stopped go = go to.0 to.1

abbrev pub run : Place → ℕ → Result Build Fault → ℕ → List ℕ → Outcome
run from depth c place [] = record { stop = cond (is_end from) None (Some place); built = c }
run from depth c place (b ∷ bs) =
    moved (step from depth b) (record { stop = Some place; built = c }) (λ to count.
    run to count (c >>= act from place b) (place + 1) bs)

-- over all bytes of a document
abbrev pub outcome : List ℕ → Outcome
outcome bytes = run at.Start 0 (Ok (between none [])) 0 bytes

-- where the bytes leave the plain form, if they do
abbrev pub stop_if : Option Stand → ℕ → (Place → ℕ → Option ℕ) → Option ℕ
stop_if None place go = Some place
stop_if (Some to) place go = go to.0 to.1

abbrev pub stop_of : Place → ℕ → ℕ → List ℕ → Option ℕ
stop_of from depth place [] = cond (is_end from) None (Some place)
stop_of from depth place (b ∷ bs) =
    stop_if (step from depth b) place (λ to count. stop_of to count (place + 1) bs)
