use Rattle.node_run.proofs.Moving.{if_heard, unless_lined}
use Rattle.node_run.proofs.moves.take_message.Goals as goal

pub returns-clause-moves : goal.returns-clause-moves
returns-clause-moves g c =
    if_heard c.take_message.result _ c.moment_of-moment.result c.args.run.now c.take_message.new.self _ _ _ c.requires.next c.requires.rest c.moment_of-moment.ensures.told c.take_message.ensures.rules c.take_message.ensures.hears

pub returns-clause-misses : goal.returns-clause-misses
returns-clause-misses g c = unless_lined c.take_message.result c.args.run.now.rules c.args.run.now.state _
