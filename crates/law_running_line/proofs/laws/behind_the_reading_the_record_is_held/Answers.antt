use Rattle.law_running_line.proofs.Doubled.{is_held_behind}
use Rattle.law_running_line.proofs.laws.behind_the_reading_the_record_is_held.Goals as goal

pub returns : goal.returns
returns c = is_held_behind
