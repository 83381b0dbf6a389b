use Rattle.node_run.proofs.Moving.{once_ended, once_status}
use Rattle.node_run.proofs.running.move_once.Goals as goal

pub returns-in-End-clause-does : goal.returns-in-End-clause-does
returns-in-End-clause-does g c = once_ended _ c.args.run.now c.begin_move.new.self _ _ c.in-End.status c.begin_move.ensures c.requires.ended c.in-End.ensures

pub returns-in-End-clause-status : goal.returns-in-End-clause-status
returns-in-End-clause-status g c = once_status c.args.run.now c.begin_move.new.self c.in-End.status _ _ c.begin_move.ensures c.requires.ended c.in-End.ensures
