use Rattle.line_step.proofs.Keeps.{whole_stays}
use Rattle.line_step.proofs.near.the_floor_stays_whole.Goals as goal

pub returns : goal.returns
returns c = whole_stays
