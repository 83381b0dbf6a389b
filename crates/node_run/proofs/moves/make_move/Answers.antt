use Rattle.node_run.proofs.moves.make_move.Goals as goal

pub returns-in-Skip-clause-moves : goal.returns-in-Skip-clause-moves
returns-in-Skip-clause-moves g c = c.pass_place.ensures.moves (g.C.Clock.moment c.args.clock.now)

pub returns-in-Listen-clause-moves : goal.returns-in-Listen-clause-moves
returns-in-Listen-clause-moves g c = c.listen.ensures.moves (g.C.Clock.moment c.args.clock.now)

pub returns-in-Connect-clause-moves : goal.returns-in-Connect-clause-moves
returns-in-Connect-clause-moves g c = c.connect.ensures.moves (g.C.Clock.moment c.args.clock.now)

pub returns-in-Send-clause-moves : goal.returns-in-Send-clause-moves
returns-in-Send-clause-moves g c = c.send.ensures.moves (g.C.Clock.moment c.args.clock.now)

pub returns-in-Refuse-clause-moves : goal.returns-in-Refuse-clause-moves
returns-in-Refuse-clause-moves g c = c.refuse.ensures.moves (g.C.Clock.moment c.args.clock.now)

pub returns-in-Look-clause-moves : goal.returns-in-Look-clause-moves
returns-in-Look-clause-moves g c = c.look.ensures.moves (g.C.Clock.moment c.args.clock.now)
