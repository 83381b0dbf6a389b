use Rattle.node_run.proofs.Moving.{if_taken, unless_lined}
use Rattle.node_run.proofs.moves.take_held.Goals as goal

pub returns-clause-moves : goal.returns-clause-moves
returns-clause-moves g c =
    if_taken c.take_held.result _ c.moment_of-moment.result c.args.run.now c.take_held.new.self _ _ _ c.requires.next c.requires.rest c.moment_of-moment.ensures.told c.take_held.ensures.rules c.take_held.ensures.takes

pub returns-clause-misses : goal.returns-clause-misses
returns-clause-misses g c = unless_lined c.take_held.result c.args.run.now.rules c.args.run.now.state _
