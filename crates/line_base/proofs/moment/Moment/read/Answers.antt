use Rattle.std.proofs.Common.{ℤ, ◌≡◌, Option, Some, Ok, IfSome, sym, subst, ap, ◌∙◌, rules, FitsSigned, w64}
use Rattle.std.proofs.lemmas.Int.{to_z-of_z}
use Rattle.line_base.specs.Moment.{IsMomentText}
use Rattle.line_base.proofs.MomentTexts.{millis_found, millis_of_text}
use Rattle.line_base.proofs.Calendar.{millis_range}
use Rattle.line_base.proofs.moment.Moment.read.Goals as goal

pub invariant_of-result : goal.invariant_of-result
invariant_of-result c =
    let fits : FitsSigned w64 c.in-Some.millis = search rules in
    let found : IsMomentText c.args.bytes.now c.in-Some.millis = subst (λ (read : Option ℤ). IfSome read (λ millis. IsMomentText c.args.bytes.now millis)) (sym c.in-Some.ensures) (millis_found c.args.bytes.now) in
    rw (to_z-of_z w64 _ fits, found.value) (millis_range _ found.civil)

pub returns-in-Some-clause-found : goal.returns-in-Some-clause-found
returns-in-Some-clause-found c =
    let fits : FitsSigned w64 c.in-Some.millis = search rules in
    let found : IsMomentText c.args.bytes.now c.in-Some.millis = subst (λ (read : Option ℤ). IfSome read (λ millis. IsMomentText c.args.bytes.now millis)) (sym c.in-Some.ensures) (millis_found c.args.bytes.now) in
    rw (to_z-of_z w64 _ fits) found

pub returns-in-Some-clause-only : goal.returns-in-Some-clause-only
returns-in-Some-clause-only c =
    λ millis text.
    let both : Some c.in-Some.millis ≡ Some millis = c.in-Some.ensures ∙ millis_of_text c.args.bytes.now millis text in
    let same : c.in-Some.millis ≡ millis = cc in
    let fits : FitsSigned w64 c.in-Some.millis = search rules in
    rw (to_z-of_z w64 _ fits) (ap Ok same)

pub returns-in-None-clause-only : goal.returns-in-None-clause-only
returns-in-None-clause-only c =
    λ millis text. let wrong = c.in-None.ensures ∙ millis_of_text c.args.bytes.now millis text in cc
