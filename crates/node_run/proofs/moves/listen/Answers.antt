use Rattle.node_run.proofs.Moving.{listened, opened_counts}
use Rattle.node_run.proofs.Nexts.{left_to_listen}
use Rattle.node_run.proofs.moves.listen.Goals as goal

pub after_listen-requires : goal.after_listen-requires
after_listen-requires g c = left_to_listen c.args.run.now.rules c.args.run.now.state c.args.way c.args.address c.requires.next

pub returns-clause-counted : goal.returns-clause-counted
returns-clause-counted g c = opened_counts c.listen-opened.result _ _ c.listen-opened.ensures.cause

pub returns-clause-moves : goal.returns-clause-moves
returns-clause-moves g c =
    λ told. listened told c.args.run.now c.after_listen.new.self c.args.way c.args.address c.listen-opened.result _ _ _ _ c.requires.next c.requires.told c.requires.rest c.listen-opened.ensures.told c.listen-opened.ensures.cause c.after_listen.ensures
