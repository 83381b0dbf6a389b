use Rattle.std.proofs.Common.{rules}
use Rattle.line_check.proofs.Latest.{turns_noted}
use Rattle.line_check.proofs.turns.Turns.note.Goals as goal

pub returns : goal.returns
returns c = λ lines line turns of late. record { greatest = turns_noted c.args.self.now.greatest c.args.group lines line (search rules) c.requires.least c.requires.most turns.greatest of late }
