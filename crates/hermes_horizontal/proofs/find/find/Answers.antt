use Rattle.std.proofs.Common.{◌≡◌, ◌∙◌, [], map, length, ap, sym, arith}
use Rattle.std.proofs.lemmas.List.{nil_from_length}
use Rattle.hermes_horizontal.proofs.Finding.{filled, placed_apart, pushed_back, all_found, none_left}
use Rattle.hermes_horizontal.proofs.find.find.Goals as goal

pub loop-attribute-preserved : goal.loop-attribute-preserved
loop-attribute-preserved c = record {
  apart = rw c.place.ensures (placed_apart c.in-Some.attribute c.loop-attribute.fields c.loop-attribute.invariant.apart);
  told = rw c.place.ensures (pushed_back c.in-Some.attribute c.pop.new.self.items c.loop-attribute.fields c.loop-attribute.invariant.apart
      ∙ ap (λ items. map (filled items) c.loop-attribute.fields) (sym c.in-Some.ensures.items) ∙ c.loop-attribute.invariant.told);
}

pub returns : goal.returns
returns c =
    let none : length c.loop-attribute.rest.items ≡ 0 = omega (arith, c.in_default.ensures.cases.0, c.loop-attribute.rest.ok.0) in
    let over : c.loop-attribute.rest.items ≡ [] = nil_from_length c.loop-attribute.rest.items none in
    sym (none_left c.loop-attribute.fields) ∙ ap (λ items. map (filled items) c.loop-attribute.fields) (sym over) ∙ c.loop-attribute.invariant.told ∙ all_found c.args.attributes c.args.fields.now c.requires.fresh
