use Rattle.std.proofs.Common.{List, ℕ, ◌<◌, ◌-◌, ◌++◌, take, drop, subst, ap, ◌∙◌}
use Rattle.line_base.specs.Decimal.{decimal_text}
use Rattle.line_base.proofs.DecimalTexts.{decimal_of-decimal_text, text_slice}
use Rattle.line_base.proofs.decimal.Decimal.write.Goals as goal

pub returns-in-Ok-clause-text : goal.returns-in-Ok-clause-text
unfolding decimal_text
returns-in-Ok-clause-text c =
    let digits = ap (λ (text : List ℕ). take (c.rest_end.result - c.whole_start.result) (drop c.whole_start.result text)) c.all_digits-digits.ensures in
    let slice = text_slice _ _ c.whole_start.result c.rest_end.result c.whole_start.ensures.within c.rest_end.ensures.within c.whole_start.ensures.text c.rest_end.ensures.text in
    let text = digits ∙ (slice ∙ ap decimal_text c.millionths-millionths.ensures.same) in
    c.in-Ok.ensures.items ∙ ap (λ (text : List ℕ). c.args.to.now.items ++ text) text

pub returns-in-Ok-clause-reads_back : goal.returns-in-Ok-clause-reads_back
returns-in-Ok-clause-reads_back c =
    decimal_of-decimal_text c.args.self (subst (λ (n : ℕ). n < 1_000_000_000_000) c.millionths-millionths.ensures.same c.millionths-millionths.ensures.bounded)

pub returns-in-Err-clause-reads_back : goal.returns-in-Err-clause-reads_back
returns-in-Err-clause-reads_back c =
    decimal_of-decimal_text c.args.self (subst (λ (n : ℕ). n < 1_000_000_000_000) c.millionths-millionths.ensures.same c.millionths-millionths.ensures.bounded)
