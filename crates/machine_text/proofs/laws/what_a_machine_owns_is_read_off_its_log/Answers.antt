use Rattle.machine_text.proofs.Reading.{own_is_read}
use Rattle.machine_text.proofs.laws.what_a_machine_owns_is_read_off_its_log.Goals as goal

pub returns : goal.returns
returns c = own_is_read
