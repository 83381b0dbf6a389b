use Rattle.std.proofs.Common.{◌<◌, ◌+◌, ◌∷◌, length, sym, ap, ◌∙◌, arith}
use Rattle.made_script.specs.Places.{lines_from}
use Rattle.made_script.proofs.Places.{lines_step, lines_next}
use Rattle.made_script.proofs.script.MadeScriptIterator.next.Goals as goal

pub returns-in-Some-clause-steps : goal.returns-in-Some-clause-steps
returns-in-Some-clause-steps c =
    sym c.self.view_is ∙ lines_step c.self.inside.round c.self.inside.step c.self.inside.last c.in-Some.line (sym c.line_at.ensures.line ∙ c.in-Some.is)

pub returns-clause-steps : goal.returns-clause-steps
returns-clause-steps c =
    let more : c.self.inside.round < c.self.inside.last = omega (arith, c.self.invariant, c.if-self.false) in
    let next = lines_next c.self.inside.round c.self.inside.step c.self.inside.last (sym c.line_at.ensures.line ∙ c.in_default.is) more in
    sym c.self.view_is ∙ next ∙ ap (λ line. line ∷ lines_from (c.self.inside.round + 1) 1 c.self.inside.last) (sym c.insertion.ensures)

pub returns-clause-goes : goal.returns-clause-goes
returns-clause-goes c =
    let more : c.self.inside.round < c.self.inside.last = omega (arith, c.self.invariant, c.if-self.false) in
    let next = lines_next c.self.inside.round c.self.inside.step c.self.inside.last (sym c.line_at.ensures.line ∙ c.in_default.is) more in
    let fewer = ap length (sym c.self.view_is ∙ next) in
    record { on = λ _. (tt, tt, omega (arith, fewer)); keeps = tt; rests = λ _. tt }
