use Rattle.std.proofs.Common.{◌-◌, [], ap, sym, ◌∙◌, arith, subst, refl}
use Rattle.std.specs.Prelude.{slice_range}
use Rattle.hermes_element.specs.Element.{none}
use Rattle.hermes_element.specs.Machine.{in_tag}
use Rattle.hermes_element.specs.Steps.{run_at, Meets}
use Rattle.hermes_element.specs.declared.place.Place.TheVariants as places
use Rattle.hermes_element.proofs.Tags.{tag_deep, tag_named, range_name}
use Rattle.hermes_element.proofs.tag.read_tag.Goals as goal

pub returns-then-open_count-eq-MOST_OPEN-clause-reads : goal.returns-then-open_count-eq-MOST_OPEN-clause-reads
returns-then-open_count-eq-MOST_OPEN-clause-reads c = λ roots stack many.
    tag_deep c.args.bytes.now c.args.at c.args.open_count roots stack (omega (arith, c.requires.here, c.if-at-bytes.false)) (sym c.is_name_start.ensures ∙ c.if-not-is_name_start.false) (many ∙ c.if-open_count-eq-MOST_OPEN.true)

pub of-name-requires : goal.of-name-requires
of-name-requires c = range_name c.args.bytes.now c.args.at c.name_end-name_end.result (omega (arith, c.requires.here, c.if-at-bytes.false)) (sym c.is_name_start.ensures ∙ c.if-not-is_name_start.false) c.name_end-name_end.ensures

pub returns-in-Ok-clause-reads : goal.returns-in-Ok-clause-reads
returns-in-Ok-clause-reads c = λ roots stack many.
    tag_named c.args.bytes.now c.args.at c.name_end-name_end.result c.args.open_count roots stack (omega (arith, c.requires.here, c.if-at-bytes.false)) (sym c.is_name_start.ensures ∙ c.if-not-is_name_start.false) c.name_end-name_end.ensures (λ e. c.if-open_count-eq-MOST_OPEN.false (sym many ∙ e))
    ∙ c.in-Ok.ensures.reads c.args.open_count roots stack (record { name = slice_range c.args.bytes.now c.args.at c.name_end-name_end.result; at = c.args.at - 1; attributes = []; children = none }) refl
    ∙ ap (λ n. run_at places.Quoted c.args.open_count (in_tag roots stack (record { name = n; at = c.args.at - 1; attributes = c.in-Ok.attributes; children = none })) c.in-Ok.end c.args.bytes.now) (sym c.of-name.ensures)
    ∙ ap (λ f. run_at places.Quoted c.args.open_count (in_tag roots stack (record { name = c.of-name.result; at = c.args.at - 1; attributes = c.in-Ok.attributes; children = f })) c.in-Ok.end c.args.bytes.now) (sym c.new.ensures)

pub returns-in-Err-clause-reads : goal.returns-in-Err-clause-reads
returns-in-Err-clause-reads c = λ roots stack many.
    subst (λ o. Meets o c.in-Err.stop)
    (sym (tag_named c.args.bytes.now c.args.at c.name_end-name_end.result c.args.open_count roots stack (omega (arith, c.requires.here, c.if-at-bytes.false)) (sym c.is_name_start.ensures ∙ c.if-not-is_name_start.false) c.name_end-name_end.ensures (λ e. c.if-open_count-eq-MOST_OPEN.false (sym many ∙ e))))
    (c.in-Err.ensures.reads c.args.open_count roots stack (record { name = slice_range c.args.bytes.now c.args.at c.name_end-name_end.result; at = c.args.at - 1; attributes = []; children = none }) refl)
