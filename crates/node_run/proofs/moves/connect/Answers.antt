use Rattle.node_run.proofs.Moving.{connected, opened_counts}
use Rattle.node_run.proofs.moves.connect.Goals as goal

pub returns-clause-counted : goal.returns-clause-counted
returns-clause-counted g c = opened_counts c.connect.result _ _ c.connect.ensures.cause

pub returns-clause-moves : goal.returns-clause-moves
returns-clause-moves g c =
    λ told. connected told c.args.run.now c.after_connect.new.self c.args.address c.connect.result _ _ _ _ c.requires.next c.requires.told c.requires.rest c.connect.ensures.told c.after_connect.ensures
