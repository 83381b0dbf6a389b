-- What a row of the table says is what the element of that name says.
use Rattle.std.proofs.Common.{◌≡◌, ℕ, Bool, true, false, cond, List, [], ◌∷◌, Result, Ok, Err, refl, sym, ap, subst, ◌∙◌}
use Rattle.std.specs.Str.{bytes_eq}
use Rattle.hermes_element.specs.Element.{Tree}
use Rattle.hermes_horizontal.specs.declared.fault.MessageError.{MessageError}
use Rattle.hermes_horizontal.specs.Roots.{Refuses, refusal_of_result}
use Rattle.hermes_horizontal.proofs.Finding.{same_bytes}
use Rattle.hermes_vertical.specs.declared.kind.VerticalKind.{VerticalKind}
use Rattle.hermes_vertical.specs.declared.kind.VerticalKind.TheVariants as kinds
use Rattle.hermes_vertical.specs.declared.message.Vertical.{Vertical}
use Rattle.hermes_vertical.specs.declared.message.Vertical.TheVariants as bodies
use Rattle.hermes_vertical.specs.Rows.{kind_text, kind_among, kind_named, message_kinds}
use Rattle.hermes_vertical.specs.Parts.{parts, features_of, kind_of, name_of}
use Rattle.hermes_vertical.specs.Spelling.{row_values, features_said, ReadsRow, ReadsBody}

named_if : (name : List ℕ) (first : VerticalKind) (others : List VerticalKind) (kind : VerticalKind) (b : Bool) → bytes_eq name (kind_text first) ≡ b → (kind_among name others ≡ kind → name ≡ kind_text kind) → cond b first (kind_among name others) ≡ kind → name ≡ kind_text kind
named_if name first others kind true t behind e = same_bytes name (kind_text first) t ∙ ap kind_text e
named_if name first others kind false t behind e = behind e

named_among : (name : List ℕ) (among : List VerticalKind) (kind : VerticalKind) → (kind ≡ kinds.Other → ⊥) → kind_among name among ≡ kind → name ≡ kind_text kind
named_among name [] kind other e = absurd (other (sym e))
named_among name (first ∷ others) kind other e = named_if name first others kind (bytes_eq name (kind_text first)) refl (named_among name others kind other) e

name_of-kind : (body : Vertical) → (kind_of body ≡ kinds.Other → ⊥) → name_of body ≡ kind_text (kind_of body)
name_of-kind (bodies.Other name) other = absurd (other refl)
name_of-kind (bodies.SupervisoryServiceDescription system) other = refl
name_of-kind (bodies.BoardArrived passage) other = refl
name_of-kind (bodies.BoardDeparted passage) other = refl
name_of-kind (bodies.QueryWorkOrderInfo query question) other = refl
name_of-kind (bodies.SendWorkOrderInfo query order batch product) other = refl
name_of-kind (bodies.CheckAlive ping id) other = refl
name_of-kind (bodies.Notification code severity text) other = refl

pub row_reads : (child : Tree) (kind : VerticalKind) (result : Result Vertical MessageError) → (kind ≡ kinds.Other → ⊥) → kind_named child.name ≡ kind
    → ReadsRow kind child.at child.attributes child.children result → ReadsBody child result
row_reads child kind (Ok body) other k r = record {
  kind = k ∙ sym r.of_kind;
  name = named_among child.name message_kinds kind other k ∙ ap kind_text (sym r.of_kind) ∙ sym (name_of-kind body (λ e. other (sym r.of_kind ∙ e)));
  values = subst (λ (x : VerticalKind). row_values child.at child.attributes x ≡ Ok (parts body)) (sym r.of_kind) r.values;
  features = subst (λ (x : VerticalKind). features_said x child.children ≡ features_of body) (sym r.of_kind) r.features;
}
row_reads child kind (Err error) other k r = subst (λ (x : VerticalKind). Refuses (refusal_of_result (row_values child.at child.attributes x)) error) (sym k) r
