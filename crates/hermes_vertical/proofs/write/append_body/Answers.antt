use Rattle.std.proofs.lemmas.Result.{on_ok_weaker}
use Rattle.hermes_horizontal.proofs.Writing.{row_written}
use Rattle.hermes_horizontal.specs.Parts.{of_features}
use Rattle.hermes_vertical.specs.Parts.{features_of, kind_of, name_of, parts}
use Rattle.hermes_vertical.specs.Rows.{columns_of}
use Rattle.hermes_vertical.proofs.write.append_body.Goals as goal

pub returns-clause-written : goal.returns-clause-written
returns-clause-written c = on_ok_weaker c.append_children.result
    (λ e. row_written (name_of c.args.body.now) (columns_of (kind_of c.args.body.now)) (parts c.args.body.now) (of_features (features_of c.args.body.now))
    c.args.to.now.items c.append.new.to.items c.append-2.new.to.items c.append_attributes.new.to.items c.append_children.new.to.items
    c.in_ok-append.ensures.written (rw c.name.ensures at c.in_ok-append-2.ensures.written) c.in_ok-append_attributes.ensures.written e)
    c.append_children.ensures.written
