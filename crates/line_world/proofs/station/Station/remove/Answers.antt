use Rattle.line_world.proofs.Counting.{remove_loses}
use Rattle.line_world.proofs.station.Station.remove.Goals as goal

pub returns-in-Some-clause-lost : goal.returns-in-Some-clause-lost
returns-in-Some-clause-lost c =
    let within = rw c.deref.ensures.value at c.in-Some.ensures.within in
    rw (c.remove.ensures.items, ← c.self.view_is) (remove_loses c.self.inside.boards.items c.in-Some.place c.remove.result within c.remove.ensures.value)
