use Rattle.std.proofs.Common.{ap, sym, subst, ◌∙◌, Some, Err}
use Rattle.std.proofs.lemmas.Result.{err_from_is_err_and}
use Rattle.hermes_horizontal.specs.Values.{numbered}
use Rattle.hermes_vertical.specs.declared.kind.VerticalKind.TheVariants as kinds
use Rattle.hermes_vertical.specs.Spelling.{ReadsRow}
use Rattle.hermes_vertical.proofs.Asking.{query_refused}
use Rattle.hermes_vertical.proofs.rows.query_work_order_info.Goals as goal

pub returns-in_err-question : goal.returns-in_err-question
returns-in_err-question c = λ children.
    let p = err_from_is_err_and c.from_residual-in_err-question.result c.from_residual-in_err-question.ensures.1 in
    let number = rw c.find_five-fields.ensures at c.in_ok-query.ensures in
    let refused = rw c.find_five-fields.ensures at c.in_err-question.ensures in
    let result = p.1 ∙ ap Err p.2 in
    subst (λ r. ReadsRow kinds.QueryWorkOrderInfo c.args.at c.args.attributes children r) (sym result)
    (query_refused c.args.at c.args.attributes (Some (numbered c.in_ok-query.query)) c.in_err-question.field-0.0 number refused)
