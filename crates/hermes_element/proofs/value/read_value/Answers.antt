use Rattle.std.proofs.Common.{◌+◌, false, ap, sym, ◌∙◌, arith}
use Rattle.std.specs.Prelude.{slice_range}
use Rattle.hermes_element.specs.Machine.{in_tag, with_attribute}
use Rattle.hermes_element.specs.Steps.{run_at}
use Rattle.hermes_element.specs.declared.place.Place.TheVariants as places
use Rattle.hermes_element.proofs.Running.{length_range}
use Rattle.hermes_element.proofs.Values.{plain_span, closes, closes_long}
use Rattle.hermes_element.proofs.Texts.{allowed_span}
use Rattle.hermes_element.proofs.value.read_value.Goals as goal

pub returns-then-end-at-gt-MOST_VALUE_BYTES-clause-reads : goal.returns-then-end-at-gt-MOST_VALUE_BYTES-clause-reads
returns-then-end-at-gt-MOST_VALUE_BYTES-clause-reads c = λ depth key b.
    let to = c.plain_end-end.result in
    ap (λ o. o.built) (plain_span c.args.quote depth c.args.at c.args.at to key c.args.bytes.now b c.plain_end-end.ensures)
    ∙ closes_long c.args.quote depth c.args.at to key (slice_range c.args.bytes.now c.args.at to) c.args.bytes.now false b c.if-end-bytes.true c.if-bytes-end.true (omega (arith, length_range c.args.bytes.now c.args.at to c.plain_end-end.ensures.low c.plain_end-end.ensures.high, c.if-end-at-gt-MOST_VALUE_BYTES.true))

pub of-requires : goal.of-requires
of-requires c = record { short = omega (arith, length_range c.args.bytes.now c.args.at c.plain_end-end.result c.plain_end-end.ensures.low c.plain_end-end.ensures.high, c.if-end-at-gt-MOST_VALUE_BYTES.false); allowed = allowed_span c.args.quote c.args.bytes.now c.args.at c.plain_end-end.result c.plain_end-end.ensures }

pub returns-then-bytes-end-clause-reads : goal.returns-then-bytes-end-clause-reads
returns-then-bytes-end-clause-reads c = λ depth key b.
    let to = c.plain_end-end.result in
    plain_span c.args.quote depth c.args.at c.args.at to key c.args.bytes.now b c.plain_end-end.ensures
    ∙ closes c.args.quote depth c.args.at to key (slice_range c.args.bytes.now c.args.at to) c.args.bytes.now false b c.if-end-bytes.true c.if-bytes-end.true
    (omega (arith, length_range c.args.bytes.now c.args.at to c.plain_end-end.ensures.low c.plain_end-end.ensures.high, c.if-end-at-gt-MOST_VALUE_BYTES.false))
    ∙ ap (λ v. run_at places.Quoted depth (in_tag b.roots b.stack (with_attribute b.tag key v c.args.at)) (to + 1) c.args.bytes.now) (sym c.of.ensures)
