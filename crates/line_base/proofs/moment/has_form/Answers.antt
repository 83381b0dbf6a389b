use Rattle.std.proofs.Common.{ℕ, rules, eq-eqb}
use Rattle.std.proofs.lemmas.Iterator.{YieldsList-from_slice, YieldsList-from_zip}
use Rattle.std.proofs.lemmas.Iterator.Search.{all_from_yields_List}
use borrow.Author.Tests.{tests}
use Rattle.line_base.specs.Moment.{fits}
use Rattle.line_base.proofs.moment.has_form.Goals as goal

pub returns-then-form-bytes : goal.returns-then-form-bytes
returns-then-form-bytes c =
    let all = all_from_yields_List (λ (pair : ℕ × ℕ). fits pair.0 pair.1) c.all.new.self _ c.all.result c.all.ensures.ran (YieldsList-from_zip (YieldsList-from_slice c.args.form.now cc) (YieldsList-from_slice c.args.bytes.now cc)) (λ x b q k. search (rules, tests)) in
    rw (eq-eqb _ _ c.if-form-bytes.true) all
