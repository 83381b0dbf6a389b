-- What a row of the table says is what the element of that name says.
use Rattle.std.proofs.Common.{◌≡◌, ℕ, Bool, true, false, cond, List, [], ◌∷◌, Option, Some, None, Result, Ok, Err, option_map, refl, sym, ap, subst, ◌∙◌}
use Rattle.std.specs.Option.{is_some}
use Rattle.std.specs.Str.{bytes_eq}
use Rattle.std.proofs.lemmas.Bool.{false≢true}
use Rattle.hermes_element.specs.Element.{Tree}
use Rattle.hermes_element.specs.declared.attribute.Attribute.{Attribute}
use Rattle.hermes_horizontal.specs.declared.attr.Attr.{Attr}
use Rattle.hermes_horizontal.specs.declared.attr.Attr.TheVariants as attrs
use Rattle.hermes_horizontal.specs.declared.fault.Refusal.{Refusal}
use Rattle.hermes_horizontal.specs.declared.fault.MessageError.{MessageError}
use Rattle.hermes_horizontal.specs.declared.kind.Kind.{Kind}
use Rattle.hermes_horizontal.specs.declared.kind.Kind.TheVariants as kinds
use Rattle.hermes_horizontal.specs.declared.message.Info.{Info}
use Rattle.hermes_horizontal.specs.declared.message.Horizontal.{Horizontal}
use Rattle.hermes_horizontal.specs.declared.message.Horizontal.TheVariants as bodies
use Rattle.hermes_horizontal.specs.Attrs.{attr_text}
use Rattle.hermes_horizontal.specs.Values.{ValueKind, Value, read_as, identity, text}
use Rattle.hermes_horizontal.specs.Rows.{quality, flip, required_if, columns_of, board_columns, kind_text, kind_among, kind_named, message_kinds}
use Rattle.hermes_horizontal.specs.Parts.{parts, info_parts, inner_of, kind_of, name_of}
use Rattle.hermes_horizontal.specs.Spelling.{values_of, value_at, value_or_bad, first_named, then_ok, mapped_ok, inner_said, row_refusal}
use Rattle.hermes_horizontal.specs.Reading.{Refuses, ReadsRow, ReadsBody, IsWhole}
use Rattle.hermes_horizontal.proofs.Finding.{same_bytes}

-- ---- names and kinds

named_if : (name : List ℕ) (first : Kind) (others : List Kind) (kind : Kind) (b : Bool) → bytes_eq name (kind_text first) ≡ b → (kind_among name others ≡ kind → name ≡ kind_text kind) → cond b first (kind_among name others) ≡ kind → name ≡ kind_text kind
named_if name first others kind true t behind e = same_bytes name (kind_text first) t ∙ ap kind_text e
named_if name first others kind false t behind e = behind e

named_among : (name : List ℕ) (among : List Kind) (kind : Kind) → (kind ≡ kinds.Other → ⊥) → kind_among name among ≡ kind → name ≡ kind_text kind
named_among name [] kind other e = absurd (other (sym e))
named_among name (first ∷ others) kind other e = named_if name first others kind (bytes_eq name (kind_text first)) refl (named_among name others kind other) e

pub named : (name : List ℕ) (kind : Kind) → (kind ≡ kinds.Other → ⊥) → kind_named name ≡ kind → name ≡ kind_text kind
named name kind other e = named_among name message_kinds kind other e

pub name_of-kind : (body : Horizontal) → (kind_of body ≡ kinds.Other → ⊥) → name_of body ≡ kind_text (kind_of body)
name_of-kind (bodies.Other name) other = absurd (other refl)
name_of-kind (bodies.CheckAlive ping id) other = refl
name_of-kind (bodies.ServiceDescription service) other = refl
name_of-kind (bodies.Notification code severity description) other = refl
name_of-kind (bodies.BoardAvailable board) other = refl
name_of-kind bodies.RevokeBoardAvailable other = refl
name_of-kind (bodies.MachineReady wanted) other = refl
name_of-kind bodies.RevokeMachineReady other = refl
name_of-kind (bodies.StartTransport id) other = refl
name_of-kind (bodies.StopTransport state id) other = refl
name_of-kind (bodies.TransportFinished state id) other = refl
name_of-kind (bodies.BoardForecast info) other = refl
name_of-kind (bodies.QueryBoardInfo top bottom) other = refl
name_of-kind (bodies.SendBoardInfo info) other = refl

-- ---- rows and bodies

pub row_reads : (child : Tree) (kind : Kind) (result : Result Horizontal MessageError) → (kind ≡ kinds.Other → ⊥) → kind_named child.name ≡ kind
    → ReadsRow kind child.at child.attributes child.children result → ReadsBody child result
row_reads child kind (Ok body) other k r = record {
  kind = k ∙ sym r.of_kind;
  name = named child.name kind other k ∙ ap kind_text (sym r.of_kind) ∙ sym (name_of-kind body (λ e. other (sym r.of_kind ∙ e)));
  values = subst (λ (x : Kind). values_of child.at child.attributes (columns_of x) ≡ Ok (parts body)) (sym r.of_kind) r.values;
  inner = subst (λ (x : Kind). inner_said x child.children ≡ Ok (inner_of body)) (sym r.of_kind) r.inner;
}
row_reads child kind (Err error) other k r = subst (λ (x : Kind). Refuses (row_refusal x child.at child.attributes child.children) error) (sym k) r

-- ---- what is required is there

pub then_parts : (first : Result (Option Value) Refusal) (behind : Result (List (Option Value)) Refusal) (x : Option Value) (xs : List (Option Value))
    → then_ok first (λ value. mapped_ok (λ values. value ∷ values) behind) ≡ Ok (x ∷ xs) → (first ≡ Ok x) × (behind ≡ Ok xs)
then_parts (Ok value) (Ok values) x xs e = (cc, cc)
then_parts (Ok value) (Err refusal) x xs e = absurd cc
then_parts (Err refusal) behind x xs e = absurd cc

bad_or_some : (at : ℕ) (attr : Attr) (read : Option Value) (x : Option Value) → value_or_bad at attr read ≡ Ok x → is_some x ≡ true
bad_or_some at attr None x e = absurd cc
bad_or_some at attr (Some value) x e = let same : Some value ≡ x = cc in subst (λ (o : Option Value). is_some o ≡ true) same refl

required_some : (at : ℕ) (attr : Attr) (kind : ValueKind) (found : Option Attribute) (x : Option Value) → value_at at (required_if true attr kind) found ≡ Ok x → is_some x ≡ true
required_some at attr kind None x e = absurd cc
required_some at attr kind (Some attribute) x e = bad_or_some attribute.at attr (read_as kind attribute.value) x e

is_some-map : {A B : Type 0} (f : A → B) (o : Option A) → is_some (option_map f o) ≡ true → is_some o ≡ true
is_some-map f None e = absurd (false≢true e)
is_some-map f (Some x) e = refl

pub whole_from : (at : ℕ) (attributes : List Attribute) (info : Info) → values_of at attributes (board_columns true) ≡ Ok (info_parts info) → IsWhole info
whole_from at attributes info e =
    let p = then_parts _ _ _ _ e in
    let q = then_parts _ _ _ _ p.1 in
    let r = then_parts _ _ _ _ q.1 in
    let s = then_parts _ _ _ _ r.1 in
    record {
      id = is_some-map _ info.id (required_some at attrs.BoardId identity (first_named (attr_text attrs.BoardId) attributes) _ p.0);
      created_by = is_some-map _ info.created_by (required_some at attrs.BoardIdCreatedBy text (first_named (attr_text attrs.BoardIdCreatedBy) attributes) _ q.0);
      quality = is_some-map _ info.quality (required_some at attrs.FailedBoard quality (first_named (attr_text attrs.FailedBoard) attributes) _ r.0);
      flip = is_some-map _ info.flip (required_some at attrs.FlippedBoard flip (first_named (attr_text attrs.FlippedBoard) attributes) _ s.0);
    }
