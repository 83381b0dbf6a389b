use Rattle.std.proofs.Common.{◌≡◌, ◌+◌, length, get_or, ap, sym, ◌∙◌, arith, subst}
use Rattle.std.specs.Prelude.{slice_range}
use Rattle.std.specs.List.{list_any}
use Rattle.std.specs.Str.{bytes_eq}
use Rattle.hermes_element.specs.Machine.{in_tag, with_attribute, names_of}
use Rattle.hermes_element.specs.Steps.{run_at, Meets}
use Rattle.hermes_element.specs.declared.place.Place.TheVariants as places
use Rattle.hermes_element.proofs.Tags.{key_many_at, key_repeated, key_breaks, value_breaks, in_value, range_name}
use Rattle.hermes_element.proofs.tag.read_attribute.Goals as goal
use Rattle.hermes_element.proofs.tag.read_attribute.Goals.{then-equals-bytes-via-then-equals-bytes, then-equals-bytes-via-else-equals-bytes+then-bytes-equals-ne61, then-quote_at-bytes-via-then-quote_at-bytes, then-quote_at-bytes-via-else-quote_at-bytes+then-not-is_quote}

pub returns-then-list-eq-MOST_ATTRIBUTES-clause-reads : goal.returns-then-list-eq-MOST_ATTRIBUTES-clause-reads
returns-then-list-eq-MOST_ATTRIBUTES-clause-reads c = λ depth roots stack tag same.
    let e : length tag.attributes ≡ 64 = ap length same ∙ sym (ap length c.list.ensures) ∙ c.if-list-eq-MOST_ATTRIBUTES.true in
    let b = get_or c.args.bytes.now c.args.at 0 in
    key_many_at c.args.bytes.now c.args.at c.requires.here c.requires.name depth roots stack tag e

pub returns-then-equals-bytes-clause-reads : goal.returns-then-equals-bytes-clause-reads
returns-then-equals-bytes-clause-reads c = λ depth roots stack tag same.
    key_breaks c.args.bytes.now c.args.at c.name_end-name_end.result c.requires.here c.requires.name c.name_end-name_end.ensures depth (in_tag roots stack tag) c.blanks_end-equals.result c.blanks_end-equals.ensures
    (λ inside e. elim c.then-equals-bytes.branch [ then-equals-bytes-via-then-equals-bytes w ↦ omega (arith, w.if-equals-bytes.true) | then-equals-bytes-via-else-equals-bytes+then-bytes-equals-ne61 w ↦ w.if-bytes-equals-ne61.true e ])

pub returns-then-has_name-clause-reads : goal.returns-then-has_name-clause-reads
returns-then-has_name-clause-reads c = λ depth roots stack tag same.
    key_repeated c.args.bytes.now c.args.at c.name_end-name_end.result c.requires.here c.requires.name c.name_end-name_end.ensures depth roots stack tag (λ e. c.if-list-eq-MOST_ATTRIBUTES.false (ap length c.list.ensures ∙ ap length (sym same) ∙ e)) (ap (λ l. list_any (bytes_eq (slice_range c.args.bytes.now c.args.at c.name_end-name_end.result)) (names_of l)) (same ∙ sym c.list-2.ensures) ∙ sym c.has_name.ensures ∙ c.if-has_name.true) c.blanks_end-equals.result c.blanks_end-equals.ensures (omega (arith, c.blanks_end-equals.ensures.high, c.if-equals-bytes.false)) c.if-bytes-equals-ne61.false

pub returns-then-quote_at-bytes-clause-reads : goal.returns-then-quote_at-bytes-clause-reads
returns-then-quote_at-bytes-clause-reads c = λ depth roots stack tag same.
    value_breaks c.args.bytes.now c.args.at c.name_end-name_end.result c.requires.here c.requires.name c.name_end-name_end.ensures depth (in_tag roots stack tag) c.blanks_end-equals.result c.blanks_end-equals.ensures (omega (arith, c.blanks_end-equals.ensures.high, c.if-equals-bytes.false)) c.if-bytes-equals-ne61.false c.blanks_end-quote_at.result c.blanks_end-quote_at.ensures
    (λ inside. elim c.then-quote_at-bytes.branch [ then-quote_at-bytes-via-then-quote_at-bytes w ↦ absurd (omega (arith, w.if-quote_at-bytes.true)) | then-quote_at-bytes-via-else-quote_at-bytes+then-not-is_quote w ↦ sym w.is_quote.ensures ∙ w.if-not-is_quote.true ])

pub of-name-requires : goal.of-name-requires
of-name-requires c = range_name c.args.bytes.now c.args.at c.name_end-name_end.result c.requires.here c.requires.name c.name_end-name_end.ensures

pub returns-in-Ok-clause-reads : goal.returns-in-Ok-clause-reads
returns-in-Ok-clause-reads c = λ depth roots stack tag same.
    in_value c.args.bytes.now c.args.at c.name_end-name_end.result c.requires.here c.requires.name c.name_end-name_end.ensures depth roots stack tag (λ e. c.if-list-eq-MOST_ATTRIBUTES.false (ap length c.list.ensures ∙ ap length (sym same) ∙ e)) (ap (λ l. list_any (bytes_eq (slice_range c.args.bytes.now c.args.at c.name_end-name_end.result)) (names_of l)) (same ∙ sym c.list-2.ensures) ∙ sym c.has_name.ensures ∙ c.if-has_name.false) c.blanks_end-equals.result c.blanks_end-equals.ensures (omega (arith, c.blanks_end-equals.ensures.high, c.if-equals-bytes.false)) c.if-bytes-equals-ne61.false c.blanks_end-quote_at.result c.blanks_end-quote_at.ensures (omega (arith, c.blanks_end-quote_at.ensures.high, c.if-quote_at-bytes.false)) (sym c.is_quote.ensures ∙ c.if-not-is_quote.false)
    ∙ c.in-Ok.ensures.reads depth (slice_range c.args.bytes.now c.args.at c.name_end-name_end.result) (in_tag roots stack tag)
    ∙ ap (λ n. run_at places.Quoted depth (in_tag roots stack (with_attribute tag n c.in-Ok.value (c.blanks_end-quote_at.result + 1))) c.in-Ok.end c.args.bytes.now) (sym c.of-name.ensures)

pub returns-in-Err-clause-reads : goal.returns-in-Err-clause-reads
returns-in-Err-clause-reads c = λ depth roots stack tag same.
    subst (λ o. Meets o c.in-Err.stop)
    (sym (in_value c.args.bytes.now c.args.at c.name_end-name_end.result c.requires.here c.requires.name c.name_end-name_end.ensures depth roots stack tag (λ e. c.if-list-eq-MOST_ATTRIBUTES.false (ap length c.list.ensures ∙ ap length (sym same) ∙ e)) (ap (λ l. list_any (bytes_eq (slice_range c.args.bytes.now c.args.at c.name_end-name_end.result)) (names_of l)) (same ∙ sym c.list-2.ensures) ∙ sym c.has_name.ensures ∙ c.if-has_name.false) c.blanks_end-equals.result c.blanks_end-equals.ensures (omega (arith, c.blanks_end-equals.ensures.high, c.if-equals-bytes.false)) c.if-bytes-equals-ne61.false c.blanks_end-quote_at.result c.blanks_end-quote_at.ensures (omega (arith, c.blanks_end-quote_at.ensures.high, c.if-quote_at-bytes.false)) (sym c.is_quote.ensures ∙ c.if-not-is_quote.false)))
    (c.in-Err.ensures.reads depth (slice_range c.args.bytes.now c.args.at c.name_end-name_end.result) (in_tag roots stack tag))
