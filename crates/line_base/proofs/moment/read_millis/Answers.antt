use Rattle.std.proofs.Common.{ℕ, List, ◌≡◌, true, false, take, drop, Option, Some, IfSome, refl, sym, subst, ap, ◌∙◌}
use Rattle.std.proofs.lemmas.List.{take_min, drop_min}
use Rattle.line_base.specs.Number.{fraction_of}
use Rattle.line_base.specs.Moment.{has_form, seconds_form, is_offset}
use Rattle.line_base.proofs.Digits.{IsFraction, fraction_found}
use Rattle.line_base.proofs.moment.read_millis.Goals as goal

pub returns-then-not-has_form : goal.returns-then-not-has_form
returns-then-not-has_form c =
    let front : c.split_at.result.0.now ≡ take 19 c.args.bytes.now = c.split_at.ensures.front ∙ (ap (λ (n : ℕ). take n c.args.bytes.now) c.min.ensures ∙ take_min 19 c.args.bytes.now) in
    let other : has_form seconds_form (take 19 c.args.bytes.now) ≡ false = subst (λ (text : List ℕ). has_form seconds_form text ≡ false) front (sym c.if-not-has_form.ensures) in
    rw other refl

pub shown_fields-requires-clause-digits : goal.shown_fields-requires-clause-digits
shown_fields-requires-clause-digits c =
    let found = subst (λ (read : Option (List ℕ × List ℕ)). IfSome read (λ parts. IsFraction 9 c.split_at.result.1.now parts.0 parts.1)) (sym c.in-Some.ensures) (fraction_found 9 c.split_at.result.1.now) in
    found.form.digits

pub returns-in-Some : goal.returns-in-Some
returns-in-Some c =
    let front : c.split_at.result.0.now ≡ take 19 c.args.bytes.now = c.split_at.ensures.front ∙ (ap (λ (n : ℕ). take n c.args.bytes.now) c.min.ensures ∙ take_min 19 c.args.bytes.now) in
    let rest : c.split_at.result.1.now ≡ drop 19 c.args.bytes.now = c.split_at.ensures.back ∙ (ap (λ (n : ℕ). drop n c.args.bytes.now) c.min.ensures ∙ drop_min 19 c.args.bytes.now) in
    let form : has_form seconds_form (take 19 c.args.bytes.now) ≡ true = subst (λ (text : List ℕ). has_form seconds_form text ≡ true) front (sym c.if-not-has_form.ensures) in
    let parts : fraction_of 9 (drop 19 c.args.bytes.now) ≡ Some (c.in-Some.fraction.now, c.in-Some.offset.now) = ap (fraction_of 9) (sym rest) ∙ sym c.in-Some.ensures in
    let zone : is_offset c.in-Some.offset.now ≡ true = sym c.if-is_offset.ensures in
    rw (form, parts, zone, c.count.ensures, c.shown_fields.ensures.same, front) refl
