-- What four columns say, one after the other.
use Rattle.std.proofs.Common.{◌≡◌, ℕ, List, [], ◌∷◌, Option, Result, Ok, Err, refl}
use Rattle.hermes_element.specs.declared.attribute.Attribute.{Attribute}
use Rattle.hermes_horizontal.specs.declared.fault.MessageError.{MessageError}
use Rattle.hermes_horizontal.specs.declared.fault.MessageError.TheVariants as errors
use Rattle.hermes_horizontal.specs.declared.fault.Refusal.{Refusal}
use Rattle.hermes_horizontal.specs.Attrs.{attr_text}
use Rattle.hermes_horizontal.specs.Opened.{ReadsParts}
use Rattle.hermes_horizontal.specs.Rows.{Column}
use Rattle.hermes_horizontal.specs.Said.{first_named, value_at, values_of}
use Rattle.hermes_horizontal.specs.Values.{Value}

pub four_ok : (at : ℕ) (attributes : List Attribute) (a b c d : Column) (x y z w : Option Value)
    → value_at at a (first_named (attr_text a.attr) attributes) ≡ Ok x → value_at at b (first_named (attr_text b.attr) attributes) ≡ Ok y
    → value_at at c (first_named (attr_text c.attr) attributes) ≡ Ok z → value_at at d (first_named (attr_text d.attr) attributes) ≡ Ok w
    → values_of at attributes (a ∷ b ∷ c ∷ d ∷ []) ≡ Ok (x ∷ y ∷ z ∷ w ∷ [])
four_ok at attributes a b c d x y z w e f g h = rw (e, f, g, h) refl

pub fourth_refused : (at : ℕ) (attributes : List Attribute) (a b c d : Column) (x y z : Option Value) (refusal : Refusal)
    → value_at at a (first_named (attr_text a.attr) attributes) ≡ Ok x → value_at at b (first_named (attr_text b.attr) attributes) ≡ Ok y
    → value_at at c (first_named (attr_text c.attr) attributes) ≡ Ok z → value_at at d (first_named (attr_text d.attr) attributes) ≡ Err refusal
    → values_of at attributes (a ∷ b ∷ c ∷ d ∷ []) ≡ Err refusal
fourth_refused at attributes a b c d x y z refusal e f g h = rw (e, f, g, h) refl

-- a refusal as an error
pub part_refused : {Part : Type 0} (parts : Part → List (Option Value)) (said : Result (List (Option Value)) Refusal) (refusal : Refusal) (error : MessageError) (result : Result Part MessageError)
    → result ≡ Err error → error ≡ errors.Refused refusal.at refusal.why → said ≡ Err refusal → ReadsParts parts result said
part_refused parts said refusal error result e d f = rw (e, d, f) refl
