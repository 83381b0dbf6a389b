use Rattle.std.proofs.Common.{◌≡◌, ◌∙◌, ap, false, subst, sym}
use Rattle.std.specs.Option.{option_copied}
use Rattle.law_lanes.specs.Lanes.{Lanes}
use Rattle.line_engine.proofs.Viewed.{marks_past, marks_there}
use Rattle.line_engine.proofs.line.Line.marks.Goals as goal

pub returns-in-Some-clause-answer : goal.returns-in-Some-clause-answer
returns-in-Some-clause-answer c =
    let unspent : c.self.inside.spent ≡ false = subst (λ (s : Lanes). s.spent ≡ false) (sym c.self.view_is) c.requires.spent in
    rw (← c.self.view_is) (c.marks.ensures ∙ marks_there c.self.inside.spent c.args.lane c.args.id c.self.inside.tracks c.in-Some.track.now unspent (c.self.invariant unspent).kept.each (sym c.track.ensures ∙ ap option_copied c.in-Some.is))

pub returns-in-None-clause-answer : goal.returns-in-None-clause-answer
returns-in-None-clause-answer c =
    rw (← c.self.view_is) (marks_past c.self.inside.spent c.args.lane c.args.id c.self.inside.tracks c.requires.lane (sym c.track.ensures ∙ ap option_copied c.in-None.is))
