use Rattle.config_service.specs.Canonical.{tree_of}
use Rattle.config_service.proofs.Back.{message_back, tree_proper, tree_writable}
use Rattle.config_service.proofs.message.ConfigMessage.reads_back.Goals as goal

pub returns : goal.returns
returns c = λ writable.
    let message = c.args.self.now in
    let read = c.written_is_read.ensures (tree_of message) (tree_proper message c.parts_are_proper.ensures writable) (tree_writable message) in
    record { tree = read.0; element = read.1; says = message_back message read.0 c.parts_are_proper.ensures writable read.2 }
