use Rattle.std.proofs.Common.{arith}
use Rattle.hermes_element.specs.Steps.{beginning}
use Rattle.hermes_element.proofs.Roots.{prolog_read, prolog_breaks}
use Rattle.hermes_element.proofs.document.prolog_end.Goals as goal
use Rattle.hermes_element.proofs.document.prolog_end.Goals.{then-at-bytes-via-then-at-bytes, then-at-bytes-via-else-at-bytes+then-bytes-at-ne60}

pub returns-then-at-bytes-clause-reads : goal.returns-then-at-bytes-clause-reads
returns-then-at-bytes-clause-reads c =
    prolog_breaks c.args.from c.blanks_end-at.result beginning c.args.bytes.now c.blanks_end-at.ensures
    (λ inside e. elim c.then-at-bytes.branch [ then-at-bytes-via-then-at-bytes w ↦ omega (arith, w.if-at-bytes.true) | then-at-bytes-via-else-at-bytes+then-bytes-at-ne60 w ↦ w.if-bytes-at-ne60.true e ])

pub returns-clause-reads : goal.returns-clause-reads
returns-clause-reads c =
    prolog_read c.args.from c.blanks_end-at.result beginning c.args.bytes.now c.blanks_end-at.ensures (omega (arith, c.blanks_end-at.ensures.high, c.if-at-bytes.false)) c.if-bytes-at-ne60.false
