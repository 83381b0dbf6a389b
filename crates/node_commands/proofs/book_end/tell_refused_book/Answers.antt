use Rattle.std.proofs.Common.{◌∙◌, ℕ, List, true, subst}
use Rattle.node_commands.specs.BookEnds.{TellsLine}
use Rattle.node_commands.proofs.book_end.tell_refused_book.Goals as goal

pub returns-in-Ok : goal.returns-in-Ok
returns-in-Ok g c =
    let P : List ℕ → Type 0 = λ text. TellsLine text true c.tell_line.result (g.K.Sink.contents c.args.to.now) (g.K.Sink.contents c.tell_line.new.to) (g.K.Sink.faults c.args.to.now) (g.K.Sink.faults c.tell_line.new.to) in
    subst P (c.as_slice.ensures.value ∙ c.in-Ok.ensures) (c.tell_line.ensures true)
