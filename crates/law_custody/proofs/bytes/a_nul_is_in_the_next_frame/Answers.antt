use Rattle.law_custody.proofs.Spoils.{nul_is_cut}
use Rattle.law_custody.proofs.bytes.a_nul_is_in_the_next_frame.Goals as goal

pub returns-clause-cut : goal.returns-clause-cut
returns-clause-cut c = λ w c f g s. nul_is_cut w c f g s
