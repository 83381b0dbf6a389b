use Rattle.law_custody.proofs.EntryEvents.{hears_upstream}
use Rattle.law_custody.proofs.keeps.an_entry_hears_a_description.Goals as goal

pub returns : goal.returns
returns c = λ gone kept g l service rest k. hears_upstream g l service rest k
