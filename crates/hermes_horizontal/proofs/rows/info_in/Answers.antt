use Rattle.std.proofs.Common.{option_map}
use Rattle.std.proofs.lemmas.Result.{err_from_is_err_and}
use Rattle.hermes_horizontal.specs.declared.attr.Attr.TheVariants as attrs
use Rattle.hermes_horizontal.specs.Fields.{head_parts, sizes_parts, clearances_parts, found_of}
use Rattle.hermes_horizontal.specs.Values.{worded, text}
use Rattle.hermes_horizontal.specs.Rows.{optional, board_columns}
use Rattle.hermes_horizontal.specs.Spelling.{values_of}
use Rattle.hermes_horizontal.proofs.Joining.{head_refused, sizes_refused, clearances_refused, head_told, info_refused, board_said, two_ok, three_ok}
use Rattle.hermes_horizontal.proofs.rows.info_in.Goals as goal

pub returns-in_err-head-clause-told : goal.returns-in_err-head-clause-told
returns-in_err-head-clause-told c attributes found =
    let p = err_from_is_err_and c.from_residual.result c.from_residual.ensures.1 in
    let refused = rw found at c.in_err-head.ensures in
    info_refused (values_of c.args.at attributes (board_columns c.args.required)) c.in_err-head.field-0.0 p.0 c.from_residual.result p.1 p.2
    (head_refused c.args.at attributes c.args.required c.in_err-head.field-0.0 refused)

pub returns-in_err-sizes-clause-told : goal.returns-in_err-sizes-clause-told
returns-in_err-sizes-clause-told c attributes found =
    let created_by = found_of attributes attrs.BoardIdCreatedBy in
    let p = err_from_is_err_and c.from_residual-in_err-sizes.result c.from_residual-in_err-sizes.ensures.1 in
    let head = rw found at c.in_ok-head.ensures in
    let refused = rw found at (c.in_err-sizes.ensures c.args.at) in
    info_refused (values_of c.args.at attributes (board_columns c.args.required)) c.in_err-sizes.field-0.0 p.0 c.from_residual-in_err-sizes.result p.1 p.2
    (sizes_refused c.args.at attributes c.args.required (head_parts created_by c.in_ok-head.head) c.in_err-sizes.field-0.0 head refused)

pub returns-in_err-clearances-clause-told : goal.returns-in_err-clearances-clause-told
returns-in_err-clearances-clause-told c attributes found =
    let created_by = found_of attributes attrs.BoardIdCreatedBy in
    let p = err_from_is_err_and c.from_residual-in_err-clearances.result c.from_residual-in_err-clearances.ensures.1 in
    let head = rw found at c.in_ok-head.ensures in
    let sizes = rw found at (c.in_ok-sizes.ensures c.args.at) in
    let refused = rw found at (c.in_err-clearances.ensures c.args.at) in
    info_refused (values_of c.args.at attributes (board_columns c.args.required)) c.in_err-clearances.field-0.0 p.0 c.from_residual-in_err-clearances.result p.1 p.2
    (clearances_refused c.args.at attributes c.args.required (head_parts created_by c.in_ok-head.head) (sizes_parts c.in_ok-sizes.sizes) c.in_err-clearances.field-0.0 head sizes refused)

pub returns-clause-told : goal.returns-clause-told
returns-clause-told c attributes found =
    let at = c.args.at in
    let head = rw found at c.in_ok-head.ensures in
    let sizes = rw found at (c.in_ok-sizes.ensures at) in
    let clearances = rw found at (c.in_ok-clearances.ensures at) in
    let created_by = rw found at (c.in_ok-created_by.ensures.first at) in
    let order = rw found at (c.in_ok-created_by.ensures.second at) in
    let batch = rw found at (c.in_ok-created_by.ensures.third at) in
    let product = rw found at (c.in_ok-product.ensures.first at) in
    let top = rw found at (c.in_ok-product.ensures.second at) in
    let bottom = rw found at (c.in_ok-product.ensures.third at) in
    board_said at attributes c.args.required _ _ (sizes_parts c.in_ok-sizes.sizes) (clearances_parts c.in_ok-clearances.clearances) _
    (head_told at attributes c.args.required c.in_ok-head.head c.in_ok-created_by.created_by head created_by)
    (three_ok at attributes (optional attrs.ProductTypeId text) (optional attrs.TopBarcode text) (optional attrs.BottomBarcode text) (option_map worded c.in_ok-product.product) (option_map worded c.in_ok-product.top) (option_map worded c.in_ok-product.bottom) product top bottom)
    sizes clearances
    (two_ok at attributes (optional attrs.WorkOrderId text) (optional attrs.BatchId text) (option_map worded c.in_ok-created_by.order) (option_map worded c.in_ok-created_by.batch) order batch)
