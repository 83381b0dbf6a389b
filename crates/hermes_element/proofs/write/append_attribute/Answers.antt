use Rattle.std.proofs.lemmas.Result.{on_ok_weaker}
use Rattle.std.proofs.Common.{◌++◌}
use Rattle.std.specs.List.{flat_map}
use Rattle.hermes_element.specs.Canonical.{escaped_byte}
use Rattle.hermes_element.proofs.Writing.{attribute_written}
use Rattle.hermes_element.proofs.write.append_attribute.Goals as goal

pub returns-clause-written : goal.returns-clause-written
returns-clause-written c = on_ok_weaker c.append-4.result
    (λ end. attribute_written c.args.name.now (flat_map escaped_byte c.args.value.now) c.args.to.now.items c.append.new.to.items c.append-2.new.to.items c.append-3.new.to.items c.append_value.new.to.items c.append-4.new.to.items
    c.in_ok-append.ensures.written c.in_ok-append-2.ensures.written c.in_ok-append-3.ensures.written c.in_ok-append_value.ensures.written end)
    c.append-4.ensures.written
