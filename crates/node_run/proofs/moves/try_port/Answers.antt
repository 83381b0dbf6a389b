use Rattle.node_run.proofs.Moving.{if_tried, opened_counts, unless_tried}
use Rattle.node_run.proofs.moves.try_port.Goals as goal

pub returns-clause-counted : goal.returns-clause-counted
returns-clause-counted g c = opened_counts c.listen-opened.result _ _ c.listen-opened.ensures.cause

pub returns-clause-moves : goal.returns-clause-moves
returns-clause-moves g c =
    if_tried c.after_try.result _ c.moment_of-moment.result c.args.run.now c.after_try.new.self c.args.settings c.at_all.result c.listen-opened.result _ _ _ _ c.requires.next c.requires.rest c.requires.told c.moment_of-moment.ensures.told
    c.after_try.ensures.rules c.after_try.ensures.told c.at_all.ensures c.listen-opened.ensures.told c.after_try.ensures.after

pub returns-clause-misses : goal.returns-clause-misses
returns-clause-misses g c = unless_tried c.after_try.result c.args.run.now.rules c.args.run.now.state c.args.settings c.at_all.result c.listen-opened.result _ _ c.requires.next c.at_all.ensures c.listen-opened.ensures.told
