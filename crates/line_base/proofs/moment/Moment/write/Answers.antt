use Rattle.std.proofs.Common.{ℤ, List, ℕ, ◌≡◌, ◌++◌, subst, ap, ◌∙◌, rules, FitsSigned, w64}
use Rattle.std.proofs.lemmas.Int.{to_z-of_z}
use Rattle.line_base.specs.Moment.{IsMomentMillis, moment_text, fields_text, fields_of}
use Rattle.line_base.proofs.MomentTexts.{moment_of-moment_text}
use Rattle.line_base.proofs.moment.Moment.write.Goals as goal

pub returns-in-Ok-clause-text : goal.returns-in-Ok-clause-text
unfolding moment_text
returns-in-Ok-clause-text c =
    let fits : FitsSigned w64 c.millis.result = search rules in
    let fields = c.at.ensures.same ∙ ap fields_of (to_z-of_z w64 _ fits ∙ c.millis.ensures.same) in
    let text : c.text-text.result ≡ moment_text c.args.self = c.text-text.ensures ∙ ap fields_text fields in
    c.in-Ok.ensures.items ∙ ap (λ (text : List ℕ). c.args.to.now.items ++ text) text

pub returns-in-Ok-clause-reads_back : goal.returns-in-Ok-clause-reads_back
returns-in-Ok-clause-reads_back c =
    moment_of-moment_text c.args.self (subst (λ (millis : ℤ). IsMomentMillis millis) c.millis.ensures.same c.millis.ensures.bounded)

pub returns-in-Err-clause-reads_back : goal.returns-in-Err-clause-reads_back
returns-in-Err-clause-reads_back c =
    moment_of-moment_text c.args.self (subst (λ (millis : ℤ). IsMomentMillis millis) c.millis.ensures.same c.millis.ensures.bounded)
