use Rattle.std.proofs.Common.{◌≡◌, ◌∙◌, ap, false, subst, sym}
use Rattle.std.specs.Option.{option_copied}
use Rattle.law_lanes.specs.Lanes.{Lanes}
use Rattle.line_engine.proofs.Viewed.{bytes_to, lane_there, none_to}
use Rattle.line_engine.proofs.line.Line.in_flight.Goals as goal

pub returns-in-Some-clause-count : goal.returns-in-Some-clause-count
returns-in-Some-clause-count c =
    let unspent : c.self.inside.spent ≡ false = subst (λ (s : Lanes). s.spent ≡ false) (sym c.self.view_is) c.requires.spent in
    rw (← c.self.view_is) (c.in_flight.ensures.count ∙ ap (bytes_to c.args.machine c.args.side) (sym (lane_there c.self.inside.spent c.args.lane c.self.inside.tracks c.in-Some.track.now unspent (sym c.track.ensures ∙ ap option_copied c.in-Some.is))))

pub returns-in-None-clause-count : goal.returns-in-None-clause-count
returns-in-None-clause-count c =
    rw (← c.self.view_is) (none_to c.self.inside.spent c.args.lane c.args.machine c.args.side c.self.inside.tracks c.requires.lane (sym c.track.ensures ∙ ap option_copied c.in-None.is))
