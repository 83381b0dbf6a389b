use Rattle.std.proofs.Common.{subst}
use Rattle.node_commands.specs.Taking.{Takes}
use Rattle.node_commands.specs.declared.taking.Taken.{Taken}
use Rattle.node_commands.proofs.Beginning.{taken_on}
use Rattle.node_commands.proofs.book_call.take_book.Goals as goal

pub returns-in-Done-clause-does : goal.returns-in-Done-clause-does
returns-in-Done-clause-does g c =
    let P : Taken → Type 0 = λ answer. Takes (g.B.Guarded.busy c.args.book.now) answer in
    taken_on c.begin_again.result (g.B.Guarded.busy c.args.book.now) _ _ _ _ _ _ _ _ _ c.begin_again.ensures.fits (subst P c.in-Done.is c.take.ensures.takes) c.take.ensures.unread c.take.ensures.stays c.begin_again.ensures.does
