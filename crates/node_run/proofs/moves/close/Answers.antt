use Rattle.node_run.proofs.Moving.{if_closed, unless_closed}
use Rattle.node_run.proofs.moves.close.Goals as goal

pub returns-clause-moves : goal.returns-clause-moves
returns-clause-moves g c =
    if_closed c.after_close.result _ c.moment_of-moment.result c.args.run.now c.after_close.new.self c.args.way _ _ _ _ c.requires.next c.requires.rest c.moment_of-moment.ensures.told c.after_close.ensures.rules
    c.close.ensures.told c.after_close.ensures.after

pub returns-clause-misses : goal.returns-clause-misses
returns-clause-misses g c = unless_closed c.after_close.result c.args.run.now.rules c.args.run.now.state c.args.way _ _ c.requires.next c.close.ensures.told
