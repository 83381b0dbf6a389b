use Rattle.node_run.proofs.Moving.{passed}
use Rattle.node_run.proofs.Nexts.{left_to_skip}
use Rattle.node_run.proofs.moves.pass_place.Goals as goal

pub skip-requires : goal.skip-requires
skip-requires g c = left_to_skip c.args.run.now.rules c.args.run.now.state c.requires.next

pub returns-clause-moves : goal.returns-clause-moves
returns-clause-moves g c =
    let given = g.P.Ports.given c.args.ports.now in
    let faults = g.P.Ports.faults c.args.ports.now in
    λ told. passed told c.args.run.now c.skip.new.self given faults faults c.requires.next c.requires.told c.requires.rest c.skip.ensures
