use Rattle.std.proofs.Common.{◌+◌, ◌∷◌, [], get_or, true, false, ap, sym, ◌∙◌, arith}
use Rattle.hermes_element.specs.Steps.{run_at, valuing}
use Rattle.hermes_element.specs.declared.place.Place.TheVariants as places
use Rattle.hermes_element.proofs.Values.{part_plain, part_lf, part_first_lf, part_cr, part_tab}
use Rattle.hermes_element.proofs.Texts.{allowed_plain, allowed_byte}
use Rattle.hermes_element.proofs.Puts.{puts_part, puts_allowed}
use Rattle.hermes_element.proofs.value.read_ascii.Goals as goal

pub returns-then-is_plain-clause-reads : goal.returns-then-is_plain-clause-reads
returns-then-is_plain-clause-reads c =
    let plain = sym c.is_plain.ensures ∙ c.if-is_plain.true in
    puts_part c.args.bytes.now c.args.value.now.items (get_or c.args.bytes.now c.args.at 0 ∷ []) c.put.new.value.items c.args.quote c.args.at (c.args.at + 1) c.args.after_cr false c.put.result c.put.ensures
    (λ depth start key b. part_plain c.args.quote depth start c.args.at key c.args.value.now.items c.args.bytes.now c.args.after_cr b c.requires.here plain)

pub returns-then-is_plain-clause-allowed : goal.returns-then-is_plain-clause-allowed
returns-then-is_plain-clause-allowed c =
    let plain = sym c.is_plain.ensures ∙ c.if-is_plain.true in
    puts_allowed c.args.value.now.items (get_or c.args.bytes.now c.args.at 0 ∷ []) c.put.new.value.items (c.args.at + 1) false c.put.result c.put.ensures (allowed_plain c.args.quote (get_or c.args.bytes.now c.args.at 0) plain)

pub returns-then-after_cr-clause-reads : goal.returns-then-after_cr-clause-reads
returns-then-after_cr-clause-reads c =
    puts_part c.args.bytes.now c.args.value.now.items ([]) c.put-then-after_cr.new.value.items c.args.quote c.args.at (c.args.at + 1) c.args.after_cr false c.put-then-after_cr.result c.put-then-after_cr.ensures
    (λ depth start key b. ap (λ r. run_at (places.Value c.args.quote) depth (valuing b key start c.args.value.now.items r) c.args.at c.args.bytes.now) c.if-after_cr.true ∙ part_lf c.args.quote depth start c.args.at key c.args.value.now.items c.args.bytes.now b c.requires.quote c.requires.here c.if-byte-eq10.true)

pub returns-then-byte-eq10-clause-reads : goal.returns-then-byte-eq10-clause-reads
returns-then-byte-eq10-clause-reads c =
    puts_part c.args.bytes.now c.args.value.now.items (32 ∷ []) c.put-then-byte-eq10.new.value.items c.args.quote c.args.at (c.args.at + 1) c.args.after_cr false c.put-then-byte-eq10.result c.put-then-byte-eq10.ensures
    (λ depth start key b. ap (λ r. run_at (places.Value c.args.quote) depth (valuing b key start c.args.value.now.items r) c.args.at c.args.bytes.now) c.if-after_cr.false ∙ part_first_lf c.args.quote depth start c.args.at key c.args.value.now.items c.args.bytes.now b c.requires.quote c.requires.here c.if-byte-eq10.true)

pub returns-then-byte-eq10-clause-allowed : goal.returns-then-byte-eq10-clause-allowed
returns-then-byte-eq10-clause-allowed c = puts_allowed c.args.value.now.items (32 ∷ []) c.put-then-byte-eq10.new.value.items (c.args.at + 1) false c.put-then-byte-eq10.result c.put-then-byte-eq10.ensures (allowed_byte 32 (omega arith) (omega arith))

pub returns-then-byte-eq13-clause-reads : goal.returns-then-byte-eq13-clause-reads
returns-then-byte-eq13-clause-reads c =
    puts_part c.args.bytes.now c.args.value.now.items (32 ∷ []) c.put-then-byte-eq13.new.value.items c.args.quote c.args.at (c.args.at + 1) c.args.after_cr true c.put-then-byte-eq13.result c.put-then-byte-eq13.ensures
    (λ depth start key b. part_cr c.args.quote depth start c.args.at key c.args.value.now.items c.args.bytes.now c.args.after_cr b c.requires.quote c.requires.here c.if-byte-eq13.true)

pub returns-then-byte-eq13-clause-allowed : goal.returns-then-byte-eq13-clause-allowed
returns-then-byte-eq13-clause-allowed c = puts_allowed c.args.value.now.items (32 ∷ []) c.put-then-byte-eq13.new.value.items (c.args.at + 1) true c.put-then-byte-eq13.result c.put-then-byte-eq13.ensures (allowed_byte 32 (omega arith) (omega arith))

pub returns-then-byte-eq9-clause-reads : goal.returns-then-byte-eq9-clause-reads
returns-then-byte-eq9-clause-reads c =
    puts_part c.args.bytes.now c.args.value.now.items (32 ∷ []) c.put-then-byte-eq9.new.value.items c.args.quote c.args.at (c.args.at + 1) c.args.after_cr false c.put-then-byte-eq9.result c.put-then-byte-eq9.ensures
    (λ depth start key b. part_tab c.args.quote depth start c.args.at key c.args.value.now.items c.args.bytes.now c.args.after_cr b c.requires.quote c.requires.here c.if-byte-eq9.true)

pub returns-then-byte-eq9-clause-allowed : goal.returns-then-byte-eq9-clause-allowed
returns-then-byte-eq9-clause-allowed c = puts_allowed c.args.value.now.items (32 ∷ []) c.put-then-byte-eq9.new.value.items (c.args.at + 1) false c.put-then-byte-eq9.result c.put-then-byte-eq9.ensures (allowed_byte 32 (omega arith) (omega arith))
