use Rattle.std.proofs.Common.{ap, length}
use Rattle.node_commands.proofs.Beginning.{told_on}
use Rattle.node_commands.proofs.book_call.begin_again.Goals as goal

pub returns-in-Ok-resume-clause-does : goal.returns-in-Ok-resume-clause-does
returns-in-Ok-resume-clause-does g c =
    told_on (g.C.Clock.moment c.args.clock.now) c.args.settings c.in-Ok-profile_of.profile (g.B.Keeper.left c.args.book.now) c.in-Ok.bytes.items c.as_slice-entries.result.now (length c.as_slice-entries.result.now) c.in-Ok-resume.resumed.node c.in-Ok-resume.resumed.drives c.in-Ok-resume.resumed.whole
    (g.P.Ports.given c.args.ports.now) (g.K.Sink.contents c.args.log.now) (g.B.Keeper.contents c.args.book.now) (g.B.Keeper.contents c.read_book.new.book) _ c.run_on.result c.in-Ok.ensures.reads c.as_slice-entries.ensures.value (ap length c.as_slice-entries.ensures.value) c.in-Ok.ensures.within c.in-Ok-profile_of.ensures c.in-Ok-resume.ensures.answer c.in-Ok.ensures.stays c.run_on.ensures.does
