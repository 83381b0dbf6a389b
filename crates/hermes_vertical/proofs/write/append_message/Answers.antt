use Rattle.std.proofs.lemmas.Result.{on_ok_weaker}
use Rattle.hermes_horizontal.proofs.Writing.{root_written}
use Rattle.hermes_vertical.specs.Canonical.{body_tree}
use Rattle.hermes_vertical.proofs.write.append_message.Goals as goal

pub returns-clause-written : goal.returns-clause-written
returns-clause-written c = on_ok_weaker c.append-3.result
    (λ e. root_written c.args.message.now.stamp (body_tree c.args.message.now.body) c.args.to.now.items c.append.new.to.items c.append_optional_moment.new.to.items c.append-2.new.to.items c.append_body.new.to.items c.append-3.new.to.items
    c.in_ok-append.ensures.written c.in_ok-append_optional_moment.ensures.written c.in_ok-append-2.ensures.written c.in_ok-append_body.ensures.written e)
    c.append-3.ensures.written
