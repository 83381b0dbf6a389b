use Rattle.std.proofs.Common.{◌≡◌, ◌+◌, ◌*◌, min, ap, sym, ◌∙◌, get_or, drop, arith}
use Rattle.hermes_element.specs.Checks.{number_of, digit_of}
use Rattle.hermes_element.proofs.Running.{over}
use Rattle.hermes_element.proofs.Numbers.{number_of-min}
use Rattle.hermes_element.proofs.reference.capped_number.Goals as goal

pub loop-digit-preserved : goal.loop-digit-preserved
loop-digit-preserved c =
    let digits = c.args.digits.now in
    let i = c.loop-digit.digit-index in
    let base = c.args.base in
    let rest = drop (i + 1) digits in
    let next = c.loop-digit.number * base + digit_of (get_or digits i 0) in
    let taken : c.min-number.result ≡ min next 1114112 = c.min-number.ensures ∙ ap (λ d. min (c.loop-digit.number * base + d) 1114112) c.digit_value.ensures.value in
    record {
      same = ap (λ n. min (number_of base digit_of n rest) 1114112) taken
          ∙ number_of-min base digit_of next rest c.requires.some
          ∙ ap (λ l. min (number_of base digit_of c.loop-digit.number l) 1114112) (sym (over digits i c.loop-digit-test.true))
          ∙ c.loop-digit.invariant.same;
      low = omega (arith, taken);
    }
