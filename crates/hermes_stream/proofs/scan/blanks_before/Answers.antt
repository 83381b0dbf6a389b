use Rattle.hermes_stream.proofs.Parts.{blanks-found, blanks-passed}
use Rattle.hermes_stream.proofs.scan.blanks_before.Goals as goal

pub returns-then-blanks-first-clause-dropped : goal.returns-then-blanks-first-clause-dropped
returns-then-blanks-first-clause-dropped c =
    blanks-found c.args.first.now c.args.second.now c.blanks_of-blanks.result c.if-blanks-first.true c.blanks_of-blanks.ensures.dropped

pub returns-clause-dropped : goal.returns-clause-dropped
returns-clause-dropped c =
    blanks-passed c.args.first.now c.args.second.now c.blanks_of-blanks.result c.blanks_of.result c.blanks_of-blanks.ensures.within c.if-blanks-first.false c.blanks_of-blanks.ensures.dropped c.blanks_of.ensures.dropped
