use Rattle.std.proofs.Common.{◌∙◌, ◌+◌, ◌∷◌, [], refl, sym, ap}
use Rattle.std.specs.Str.Lines.{lines}
use Rattle.board_traces.specs.Held.{lines_before}
use Rattle.board_traces.proofs.Before.{before_cut, before_last}
use Rattle.board_traces.proofs.line_before.next_before.Goals as goal

pub returns-in-Some-clause-next : goal.returns-in-Some-clause-next
returns-in-Some-clause-next c =
    before_cut c.args.end c.args.done c.args.rest.now c.in-Some.line.now c.in-Some.others.now (sym c.if-is_reached.ensures) c.in-Some.ensures.cut
    ∙ ap (λ l. l ∷ lines_before c.args.end (c.args.done + 1) (lines c.in-Some.others.now)) (sym c.without_return.ensures)

pub returns-clause-next : goal.returns-clause-next
returns-clause-next c = before_last c.args.end c.args.done c.args.rest.now c.args.rest.now [] (sym c.if-is_reached.ensures) c.in_default.ensures.none refl refl (sym c.if-is_empty.ensures)
