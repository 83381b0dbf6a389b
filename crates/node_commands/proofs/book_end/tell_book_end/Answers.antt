use Rattle.std.proofs.Common.{false, subst, sym}
use Rattle.node_commands.specs.BookEnds.{TellsBookEnd}
use Rattle.node_commands.specs.declared.book_status.BookStatus.{BookStatus}
use Rattle.node_commands.proofs.book_end.tell_book_end.Goals as goal

pub returns-in-BookFault : goal.returns-in-BookFault
returns-in-BookFault g c =
    let P : BookStatus → Type 0 = λ status. TellsBookEnd status c.tell_line.result (g.K.Sink.contents c.args.to.now) (g.K.Sink.contents c.tell_line.new.to) (g.K.Sink.faults c.args.to.now) (g.K.Sink.faults c.tell_line.new.to) in
    subst P (sym c.in-BookFault.is) (c.tell_line.ensures false)

pub returns-in-BookFull : goal.returns-in-BookFull
returns-in-BookFull g c =
    let told = c.tell_line-in-BookFull in
    let P : BookStatus → Type 0 = λ status. TellsBookEnd status told.result (g.K.Sink.contents c.args.to.now) (g.K.Sink.contents told.new.to) (g.K.Sink.faults c.args.to.now) (g.K.Sink.faults told.new.to) in
    subst P (sym c.in-BookFull.is) (told.ensures false)

pub returns-in-BookBusy : goal.returns-in-BookBusy
returns-in-BookBusy g c =
    let told = c.tell_line-in-BookBusy in
    let P : BookStatus → Type 0 = λ status. TellsBookEnd status told.result (g.K.Sink.contents c.args.to.now) (g.K.Sink.contents told.new.to) (g.K.Sink.faults c.args.to.now) (g.K.Sink.faults told.new.to) in
    subst P (sym c.in-BookBusy.is) (told.ensures false)
