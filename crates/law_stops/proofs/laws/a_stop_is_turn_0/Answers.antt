use Rattle.law_stops.proofs.Alike.{stop_is_turn_0}
use Rattle.law_stops.proofs.Stopping.{stops_lose}
use Rattle.law_stops.proofs.TurnZero.{turn_0_loses}
use Rattle.law_stops.proofs.laws.a_stop_is_turn_0.Goals as goal

pub returns-clause-script : goal.returns-clause-script
returns-clause-script c = stops_lose

pub returns-clause-node : goal.returns-clause-node
returns-clause-node c = turn_0_loses

pub returns-clause-one : goal.returns-clause-one
returns-clause-one c = stop_is_turn_0 stops_lose turn_0_loses
