use Rattle.std.proofs.Common.{◌≤◌, ◌∙◌, sym, arith}
use Rattle.std.proofs.lemmas.Map.Keys.{le_from_is_le}
use Rattle.line_marks.proofs.Places.{found_place, past_all}
use Rattle.line_marks.proofs.changed.place_for.Goals as goal

pub returns-then-le-clause-put : goal.returns-then-le-clause-put
returns-then-le-clause-put c =
    let below : c.args.id ≤ c.index-ids-place.result = le_from_is_le c.args.id c.index-ids-place.result (sym c.le.ensures ∙ c.if-le.true) in
    found_place c.args.id c.index-ids-place.result c.loop-place.place c.args.ids.now (omega arith) c.index-ids-place.is below c.loop-place.invariant

pub returns-clause-put : goal.returns-clause-put
returns-clause-put c = past_all c.args.id c.loop-place.place c.args.ids.now (omega arith) c.loop-place.invariant
