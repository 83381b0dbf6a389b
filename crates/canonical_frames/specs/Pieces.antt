-- A canonical frame piece by piece: each stands at the front of some bytes, and `rest` is behind
-- it.
use Rattle.std.specs.Prelude.{◌≡◌, ℕ, Bool, true, false, List, [], ◌∷◌, ◌++◌, Option, codes}
use Rattle.std.specs.List.{flat_map}
use Rattle.hermes_element.specs.Canonical.{escaped_byte}
use Rattle.hermes_horizontal.specs.Values.{ValueKind, Value, text, number, choice, identity, decimal, moment, value_text}
use Rattle.hermes_horizontal.specs.Rows.{Column, columns_of, kind_text, stamp_column}
use Rattle.hermes_horizontal.specs.Canonical.{assignment_if, IsProper, IsProperIf}
use Rattle.hermes_horizontal.specs.declared.kind.Kind.{Kind}
use Rattle.hermes_horizontal.specs.declared.kind.Kind.TheVariants as kinds
use Rattle.hermes_horizontal.proofs.Fitting.{IsOfKind, IsFit}
use Rattle.canonical_frames.specs.declared.form.Form.{Form}
use Rattle.canonical_frames.specs.declared.form.Form.TheVariants as forms

-- the kind of value that has this form
abbrev pub kind_of_form : Form → ValueKind
kind_of_form forms.Text = text
kind_of_form forms.Number = number
kind_of_form (forms.Choice low high) = choice low high
kind_of_form forms.Id = identity
kind_of_form forms.Decimal = decimal
kind_of_form forms.Moment = moment

-- a value of this kind as it is written, and the quote that ends it
pub record IsValue (kind : ValueKind) (bytes rest : List ℕ) : Type 0 where
  pub value : Value
  pub fit : IsOfKind kind value
  pub proper : IsProper value
  pub spelled : bytes ≡ flat_map escaped_byte (value_text value) ++ (34 ∷ rest)

-- an attribute of a row of the table as it is written, or none where it may be left out
pub record IsAssigned (column : Column) (bytes rest : List ℕ) : Type 0 where
  pub value : Option Value
  pub fit : IsFit column value
  pub proper : IsProperIf value
  pub spelled : bytes ≡ assignment_if column.attr value ++ rest

-- the attributes of a row in the table's order
abbrev pub AreAssigned : List Column → List ℕ → List ℕ → Type 0
AreAssigned [] bytes rest = bytes ≡ rest
AreAssigned (column ∷ columns) bytes rest =
    (middle : List ℕ) × IsAssigned column bytes middle × AreAssigned columns middle rest

-- the messages whose frames are recognised: all but ServiceDescription, which has children, and
-- those of unknown names
abbrev pub is_recognised : Kind → Bool
is_recognised kinds.ServiceDescription = false
is_recognised kinds.Other = false
is_recognised _ = true

-- the start tag of the root, and `<`
pub record IsOpened (frame child : List ℕ) : Type 0 where
  pub stamp : List ℕ
  pub end : List ℕ
  pub root : frame ≡ codes "<Hermes" ++ stamp
  pub told : IsAssigned stamp_column stamp end
  pub closed : end ≡ codes "><" ++ child

-- the name of a message that is recognised, its attributes, and the end of the frame
pub record IsRow (child : List ℕ) : Type 0 where
  pub kind : Kind
  pub recognised : is_recognised kind ≡ true
  pub row : List ℕ
  pub named : child ≡ kind_text kind ++ row
  pub assigned : AreAssigned (columns_of kind) row (codes "/></Hermes>")
