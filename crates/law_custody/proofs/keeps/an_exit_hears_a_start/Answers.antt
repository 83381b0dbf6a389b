use Rattle.law_custody.proofs.ExitEvents.{hears_start}
use Rattle.law_custody.proofs.keeps.an_exit_hears_a_start.Goals as goal

pub returns : goal.returns
returns c = λ gone g l z brought kept rest k looks front floor c. hears_start g l z brought kept rest k looks front floor c
