use Rattle.std.specs.Prelude.{false, slice_range}
use Rattle.hermes_element.proofs.Texts.{allowed_one}
use Rattle.hermes_element.proofs.Puts.{puts_allowed}
use Rattle.hermes_element.proofs.value.read_character.Goals as goal

pub returns-in-Ok-clause-allowed : goal.returns-in-Ok-clause-allowed
returns-in-Ok-clause-allowed c =
    puts_allowed c.args.value.now.items (slice_range c.args.bytes.now c.args.at c.in-Ok.next) c.put.new.value.items c.in-Ok.next false c.put.result c.put.ensures
    (allowed_one (slice_range c.args.bytes.now c.args.at c.in-Ok.next) c.in-Ok.ensures.one)

pub returns-in-Err-clause-reads : goal.returns-in-Err-clause-reads
returns-in-Err-clause-reads c = λ after_cr depth start key b. c.in-Err.ensures.reads depth start key c.args.value.now.items after_cr b
