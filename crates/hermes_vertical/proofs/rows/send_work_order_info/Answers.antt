use Rattle.std.proofs.Common.{refl, Some, option_map}
use Rattle.hermes_horizontal.specs.declared.attr.Attr.TheVariants as attrs
use Rattle.hermes_horizontal.specs.Rows.{required, optional}
use Rattle.hermes_horizontal.specs.Values.{text, worded, numbered}
use Rattle.hermes_vertical.specs.Rows.{query_column}
use Rattle.hermes_vertical.proofs.Rowed.{four_ok}
use Rattle.hermes_vertical.proofs.rows.send_work_order_info.Goals as goal

pub returns : goal.returns
returns c = λ children.
    let at = c.args.at in
    let query = rw c.find_four-fields.ensures at c.in_ok-query.ensures in
    let order = rw (c.find_four-fields.ensures, ← c.in_ok-text.ensures) at c.in_ok-order.ensures in
    let batch = rw c.find_four-fields.ensures at (c.in_ok-optional_text.ensures at) in
    let product = rw c.find_four-fields.ensures at (c.in_ok-optional_text-2.ensures at) in
    let values = four_ok at c.args.attributes query_column (required attrs.WorkOrderId text) (optional attrs.BatchId text) (optional attrs.ProductTypeId text)
    (Some (numbered c.in_ok-query.query)) (Some (worded c.in_ok-text.field-0)) (option_map worded c.in_ok-optional_text.field-0) (option_map worded c.in_ok-optional_text-2.field-0) query order batch product in
    record { of_kind = refl; values = values; features = refl }
