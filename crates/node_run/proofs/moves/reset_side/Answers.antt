use Rattle.node_run.proofs.Moving.{if_reset, unless_lined}
use Rattle.node_run.proofs.moves.reset_side.Goals as goal

pub returns-clause-moves : goal.returns-clause-moves
returns-clause-moves g c =
    if_reset c.reset.result _ c.moment_of-moment.result c.args.run.now c.reset.new.self c.args.side _ _ _ c.requires.next c.requires.rest c.moment_of-moment.ensures.told c.reset.ensures.rules c.reset.ensures.resets

pub returns-clause-misses : goal.returns-clause-misses
returns-clause-misses g c = unless_lined c.reset.result c.args.run.now.rules c.args.run.now.state _
