use Rattle.std.proofs.Common.{sym}
use Rattle.line_world.proofs.Placing.{changes_id}
use Rattle.line_world.proofs.station.Station.replace.Goals as goal

pub returns-in-Some-clause-changed : goal.returns-in-Some-clause-changed
returns-in-Some-clause-changed c =
    let place = rw c.deref.ensures.value at c.in-Some.ensures.place in
    rw (← c.self.view_is) (changes_id c.args.old c.args.new c.self.inside.boards.items c.in-Some.place (sym place))
