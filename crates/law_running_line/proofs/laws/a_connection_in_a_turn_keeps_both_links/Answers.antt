use Rattle.law_running_line.proofs.TurnLinks.{accepted_steady, found_steady, refused_steady}
use Rattle.law_running_line.proofs.laws.a_connection_in_a_turn_keeps_both_links.Goals as goal

pub returns-clause-accepted : goal.returns-clause-accepted
returns-clause-accepted c = λ t s j desk read rest place st front at none. accepted_steady t s j desk read rest place st front at none

pub returns-clause-come : goal.returns-clause-come
returns-clause-come c = λ t s j desk read rest place st front at. found_steady t s j desk read rest place st front at

pub returns-clause-second : goal.returns-clause-second
returns-clause-second c = λ t s j desk read rest st front. refused_steady t s j desk read rest st front
