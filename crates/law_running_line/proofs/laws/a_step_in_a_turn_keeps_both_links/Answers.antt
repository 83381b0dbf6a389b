use Rattle.law_running_line.proofs.TurnSteps.{reads_free, reads_steady, takes_steady}
use Rattle.law_running_line.proofs.laws.a_step_in_a_turn_keeps_both_links.Goals as goal

pub returns-clause-reads : goal.returns-clause-reads
returns-clause-reads c = λ t s j desk read rest st front. reads_steady t s j desk read rest st front

pub returns-clause-free : goal.returns-clause-free
returns-clause-free c = λ t s j desk read rest st front. reads_free t s j desk read rest st front

pub returns-clause-takes : goal.returns-clause-takes
returns-clause-takes c = λ t s j desk read rest event st front plain in_time enough. takes_steady t s j desk read rest event st front plain in_time enough
