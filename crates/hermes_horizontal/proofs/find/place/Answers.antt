use Rattle.std.proofs.Common.{◌≡◌, ◌∙◌, true, ap, sym, get_or, length, arith}
use Rattle.hermes_element.specs.declared.attribute.Attribute.{Attribute}
use Rattle.hermes_horizontal.specs.Attrs.{attr_text}
use Rattle.hermes_horizontal.specs.Fields.{placed, is_of}
use Rattle.hermes_horizontal.proofs.Finding.{placed_at}
use Rattle.hermes_horizontal.proofs.find.place.Goals as goal

pub returns-then-eq : goal.returns-then-eq
returns-then-eq c =
    let i = c.loop-field.invariant in
    let name : c.bytes.result.now ≡ c.args.attribute.name = c.bytes.ensures.bytes ∙ ap (λ (a : Attribute). a.name) (c.attribute.view_is ∙ i.same) in
    let text : c.as_bytes.result.now ≡ attr_text (get_or c.loop-field.fields c.loop-field.field-index c.field-item.result).attr = c.as_bytes.ensures.value ∙ c.text.ensures in
    let same : is_of c.args.attribute (get_or c.loop-field.fields c.loop-field.field-index c.field-item.result) ≡ true = rw (sym name, sym text) (sym c.if-eq.ensures) in
    rw i.same (sym (placed_at c.args.attribute c.loop-field.fields c.loop-field.field-index c.field-item.result (omega (arith, c.loop-field-test.true, ap length i.fields)) same) ∙ i.told ∙ ap (placed c.args.attribute) i.fields)
