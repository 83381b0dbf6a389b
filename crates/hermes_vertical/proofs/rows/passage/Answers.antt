use Rattle.std.proofs.Common.{Some}
use Rattle.std.proofs.lemmas.Result.{err_from_is_err_and}
use Rattle.hermes_horizontal.specs.declared.attr.Attr.TheVariants as attrs
use Rattle.hermes_horizontal.specs.Rows.{required}
use Rattle.hermes_horizontal.specs.Said.{values_of}
use Rattle.hermes_horizontal.specs.Values.{text, number, identity, worded, numbered}
use Rattle.hermes_vertical.specs.Parts.{of_passing, passage_parts}
use Rattle.hermes_vertical.specs.Rows.{passage_columns, passing}
use Rattle.hermes_vertical.proofs.Rowed.{fourth_refused, part_refused}
use Rattle.hermes_vertical.proofs.rows.passage.Goals as goal

pub returns-in_err-id : goal.returns-in_err-id
returns-in_err-id c =
    let p = err_from_is_err_and c.from_residual-in_err-id.result c.from_residual-in_err-id.ensures.1 in
    let machine = rw c.find_four-fields.ensures at c.in_ok-machine.ensures in
    let lane = rw c.find_four-fields.ensures at c.in_ok-lane.ensures in
    let how = rw c.find_four-fields.ensures at c.in_ok-how.ensures in
    let refused = rw c.find_four-fields.ensures at c.in_err-id.ensures in
    part_refused passage_parts (values_of c.args.at c.args.attributes passage_columns) c.in_err-id.field-0.0 p.0 c.from_residual-in_err-id.result p.1 p.2
    (fourth_refused c.args.at c.args.attributes (required attrs.MachineId text) (required attrs.LaneId number) (required attrs.BoardTransfer passing) (required attrs.BoardId identity)
    (Some (worded c.in_ok-machine.machine.now)) (Some (numbered c.in_ok-lane.lane)) (Some (of_passing c.in_ok-how.how)) c.in_err-id.field-0.0 machine lane how refused)
