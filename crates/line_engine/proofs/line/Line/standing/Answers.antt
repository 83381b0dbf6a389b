use Rattle.std.proofs.Common.{◌≡◌, ◌∙◌, ap, false, subst, sym}
use Rattle.law_lanes.specs.Lanes.{Lanes}
use Rattle.line_engine.specs.Seats.{place_in}
use Rattle.line_engine.proofs.Viewed.{standing_seen}
use Rattle.line_engine.proofs.line.Line.standing.Goals as goal

pub returns-clause-answer : goal.returns-clause-answer
returns-clause-answer c =
    let unspent : c.self.inside.spent ≡ false = subst (λ (s : Lanes). s.spent ≡ false) (sym c.self.view_is) c.requires in
    rw (← c.self.view_is) (c.place_in.ensures ∙ ap place_in c.seat.ensures ∙ standing_seen c.args.id c.self.inside.tracks (c.self.invariant unspent).kept.each)
