use Rattle.std.proofs.Common.{◌≡◌, ◌+◌, ◌<◌, length, get_or, false, ap, sym, ◌∙◌, arith, subst}
use Rattle.line_base.specs.Text.{IsAllowed}
use Rattle.hermes_element.specs.Machine.{in_tag, with_attribute}
use Rattle.hermes_element.specs.Steps.{run_at, valuing, Meets}
use Rattle.hermes_element.specs.declared.place.Place.TheVariants as places
use Rattle.hermes_element.proofs.Values.{closes, closes_long}
use Rattle.hermes_element.proofs.Texts.{allowed_nil}
use Rattle.hermes_element.proofs.value.read_mixed_value.Goals as goal
use Rattle.hermes_element.proofs.value.read_mixed_value.Goals.{then-loop-end-test+else-bytes-end, else-loop-end-test}

pub loop-end-init : goal.loop-end-init
loop-end-init c =
    let none = c.new-value.ensures.items in
    record {
      run = λ depth key b. ap (λ l. run_at (places.Value c.args.quote) depth (valuing b key c.args.at l false) c.args.at c.args.bytes.now) (sym none);
      allowed = subst IsAllowed (sym none) allowed_nil;
      low = omega arith;
      high = c.requires.here;
    }

pub returns-in-Err-clause-reads : goal.returns-in-Err-clause-reads
returns-in-Err-clause-reads c = λ depth key b.
    subst (λ o. Meets o c.in-Err.stop) (sym (c.loop-end.invariant.run depth key b)) (c.in-Err.ensures.reads depth c.args.at key b)

pub returns-then-as_slice-gt-MOST_VALUE_BYTES-clause-reads : goal.returns-then-as_slice-gt-MOST_VALUE_BYTES-clause-reads
returns-then-as_slice-gt-MOST_VALUE_BYTES-clause-reads c = λ depth key b.
    let here : c.loop-end.end < length c.args.bytes.now = omega (arith, c.loop-end.invariant.high, c.if-end-bytes.false) in
    let quote : get_or c.args.bytes.now c.loop-end.end 0 ≡ c.args.quote = elim c.loop-end-test.branch [ then-loop-end-test+else-bytes-end w ↦ w.if-bytes-end.false | else-loop-end-test w ↦ absurd (omega arith) ] in
    ap (λ o. o.built) (c.loop-end.invariant.run depth key b)
    ∙ closes_long c.args.quote depth c.args.at c.loop-end.end key c.loop-end.value.items c.args.bytes.now c.loop-end.after_cr b here quote (omega (arith, c.if-as_slice-gt-MOST_VALUE_BYTES.true, ap length c.as_slice.ensures.value))

pub returns-clause-reads : goal.returns-clause-reads
returns-clause-reads c = λ depth key b.
    let here : c.loop-end.end < length c.args.bytes.now = omega (arith, c.loop-end.invariant.high, c.if-end-bytes.false) in
    let quote : get_or c.args.bytes.now c.loop-end.end 0 ≡ c.args.quote = elim c.loop-end-test.branch [ then-loop-end-test+else-bytes-end w ↦ w.if-bytes-end.false | else-loop-end-test w ↦ absurd (omega arith) ] in
    c.loop-end.invariant.run depth key b
    ∙ closes c.args.quote depth c.args.at c.loop-end.end key c.loop-end.value.items c.args.bytes.now c.loop-end.after_cr b here quote (omega (arith, c.if-as_slice-gt-MOST_VALUE_BYTES.false, ap length c.as_slice.ensures.value))
    ∙ ap (λ v. run_at places.Quoted depth (in_tag b.roots b.stack (with_attribute b.tag key v c.args.at)) (c.loop-end.end + 1) c.args.bytes.now) (sym c.of_own.ensures)
