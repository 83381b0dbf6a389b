use Rattle.node_run.proofs.Moving.{if_configured, unless_lined}
use Rattle.node_run.proofs.moves.take_config.Goals as goal

pub returns-clause-moves : goal.returns-clause-moves
returns-clause-moves g c =
    if_configured c.take_config.result _ c.moment_of-moment.result c.args.run.now c.take_config.new.self _ _ _ c.requires.next c.requires.rest c.requires.told c.moment_of-moment.ensures.told c.take_config.ensures.rules
    c.take_config.ensures.told c.take_config.ensures.does

pub returns-clause-misses : goal.returns-clause-misses
returns-clause-misses g c = unless_lined c.take_config.result c.args.run.now.rules c.args.run.now.state _
