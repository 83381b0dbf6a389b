use Rattle.std.proofs.Common.{ℕ, ◌≡◌, Option, Some, Ok, IfSome, sym, subst, ap, ◌∙◌}
use Rattle.line_base.specs.Decimal.{IsDecimalText}
use Rattle.line_base.proofs.DecimalTexts.{millionths_found, millionths_of_text}
use Rattle.line_base.proofs.decimal.Decimal.read.Goals as goal

pub invariant_of-result : goal.invariant_of-result
invariant_of-result c =
    let found : IsDecimalText c.args.bytes.now c.in-Some.millionths = subst (λ (read : Option ℕ). IfSome read (λ millionths. IsDecimalText c.args.bytes.now millionths)) (sym c.in-Some.ensures) (millionths_found c.args.bytes.now) in
    found.limit

pub returns-in-Some-clause-found : goal.returns-in-Some-clause-found
returns-in-Some-clause-found c =
    subst (λ (read : Option ℕ). IfSome read (λ millionths. IsDecimalText c.args.bytes.now millionths)) (sym c.in-Some.ensures) (millionths_found c.args.bytes.now)

pub returns-in-Some-clause-only : goal.returns-in-Some-clause-only
returns-in-Some-clause-only c =
    λ millionths text.
    let both : Some c.in-Some.millionths ≡ Some millionths = c.in-Some.ensures ∙ millionths_of_text c.args.bytes.now millionths text in
    let same : c.in-Some.millionths ≡ millionths = cc in
    ap Ok same

pub returns-in-None-clause-only : goal.returns-in-None-clause-only
returns-in-None-clause-only c =
    λ millionths text. let wrong = c.in-None.ensures ∙ millionths_of_text c.args.bytes.now millionths text in cc
