use Rattle.node_run.proofs.Moving.{if_lined, unless_lined}
use Rattle.node_run.proofs.moves.take_line.Goals as goal

pub returns-clause-moves : goal.returns-clause-moves
returns-clause-moves g c =
    if_lined c.take_line.result _ c.moment_of-moment.result c.args.run.now c.take_line.new.self _ _ _ c.requires.next c.requires.rest c.moment_of-moment.ensures.told c.take_line.ensures.rules c.take_line.ensures.line

pub returns-clause-misses : goal.returns-clause-misses
returns-clause-misses g c = unless_lined c.take_line.result c.args.run.now.rules c.args.run.now.state _
