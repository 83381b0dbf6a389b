use Rattle.line_outside.proofs.Back.{address_back}
use Rattle.line_outside.proofs.address_write.write_address.Goals as goal

pub returns-in_err-text-clause-reads_back : goal.returns-in_err-text-clause-reads_back
returns-in_err-text-clause-reads_back c = address_back c.args.address.now c.address_is_proper.ensures

pub returns-in-Ok-clause-reads_back : goal.returns-in-Ok-clause-reads_back
returns-in-Ok-clause-reads_back c = address_back c.args.address.now c.address_is_proper.ensures

pub returns-clause-reads_back : goal.returns-clause-reads_back
returns-clause-reads_back c = address_back c.args.address.now c.address_is_proper.ensures
